-- That the shelf's answer gives the book after a change was taken back.
-- with_changes B L: the book B with the changes L.
-- Assumes nothing.
use Rattle.std.proofs.Common.{◌≡◌, ℕ, Bool, true, false, cond, List, refl, sym, ap, subst, ◌∙◌}
use Rattle.change.specs.Model.{Change}
use Rattle.order.specs.Theorems.{without}
use Rattle.history.specs.Book.{Book}
use Rattle.history.specs.Taking.{is_free, take_back, taken_back}
use Rattle.history.specs.Sane as histories
use Rattle.history.proofs.Back.{sane_take_back}
use Rattle.shelf.specs.declared.Shelf.{Shelf}
use Rattle.shelf.specs.Roomy.{Roomy}
use Rattle.plant_books.specs.declared.contents.Contents.{Contents}
use Rattle.plant_books.specs.Sane.{model_of, Sane}

abbrev pub with_changes : Book → List Change → Book
with_changes B L = record { plant = B.plant; highest = B.highest; changes = L; waiting = B.waiting }

module _ (B : Book) (n : ℕ) where
  pub back_as_answered : (r : Bool) → r ≡ is_free B n → (L : List Change) → L ≡ cond r (without n B.changes) B.changes → with_changes B L ≡ take_back B n
  back_as_answered r answer L rest = ap (with_changes B) rest ∙ go r ∙ ap (λ b. cond b (taken_back B n) B) answer
    where
      go : (b : Bool) → with_changes B (cond b (without n B.changes) B.changes) ≡ cond b (taken_back B n) B
      go true = refl
      go false = refl

-- a sane book with a change taken back is sane
pub sane_back : (b : Contents) (shelf : Shelf) (n : ℕ) → Sane b → Roomy shelf.store → model_of (record b { shelf = shelf }) ≡ take_back (model_of b) n → Sane (record b { shelf = shelf })
sane_back b shelf n sane roomy rest =
    let model = subst histories.Sane (sym rest) (sane_take_back (model_of b) sane.model n) in
    record {
      whole = record { to_come = roomy; to_wait = sane.whole.to_wait; orderly = model.orderly; counted = sane.whole.counted };
      model = model;
    }
