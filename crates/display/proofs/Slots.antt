-- That each line of a change which a book holds has a slot.
-- Assumes nothing.
use Rattle.std.proofs.Common.{◌≡◌, ℕ, zero, suc, List, [], ◌∷◌, reverse, sym, refl, ap, subst, inl, inr}
use mathlib.Core.List.{reverse-append}
use Rattle.std.specs.List.{slice_get}
use Rattle.std.specs.Option.{option_to_list}
use Rattle.change.specs.Membership.{In}
use Rattle.change.specs.Model.{Add, Change}
use Rattle.order.specs.Order.{Put, puts_from}
use Rattle.order.proofs.Members.{in_left, in_right, kept_from}
use Rattle.order.proofs.Placed.{placed_has}
use Rattle.lines.specs.declared.Lines.{Lines}
use Rattle.lines.specs.Lines.{numbers_of}
use Rattle.store.specs.declared.Store.{Store}
use Rattle.blocks.specs.Sheet.{of_sheet}
use Rattle.display.specs.Added.{added_from, added_by}
use Rattle.display.specs.Gathered.{HasSlot}
use Rattle.display.specs.Held.{latest, Held}

-- a line is put where it is added
pub put_of_line : (n : ℕ) (adds : List Add) (p : ℕ × List ℕ) → In p (added_from n adds) → (q : Put) × In q (puts_from n adds) × (q.line ≡ p.0)
put_of_line n [] p i = absurd i
put_of_line n (a ∷ adds) p (inl e) = (record { line = n; after = a.after; before = a.before }, inl refl, ap (λ x. x.0) (sym e))
put_of_line n (a ∷ adds) p (inr i) = let (q, j, e) = put_of_line (suc n) adds p i in (q, inr j, e)

pub line_has_slot : (s : Store) (l : Lines) → Held s l → (c : Change) → In c (latest s) → (p : ℕ × List ℕ) → In p (added_by c) → HasSlot (numbers_of l) p.0
line_has_slot s l held c i p j =
    let (q, k, e) = put_of_line _ c.adds p j in
    held.keeps.slots p.0 (inr (inr (q, placed_has (latest s) q (c, i, k), e)))

module _ {X : Type 0} (x : X) where
  in_nth : (xs : List X) (i : ℕ) → In x (option_to_list (slice_get xs i)) → In x xs
  in_nth [] i j = j
  in_nth (y ∷ xs) zero (inl e) = inl e
  in_nth (y ∷ xs) zero (inr j) = absurd j
  in_nth (y ∷ xs) (suc i) j = inr (in_nth xs i j)

  in_reverse : (xs : List X) → In x xs → In x (reverse xs)
  in_reverse [] i = i
  in_reverse (y ∷ xs) (inl e) = subst (In x) (sym (reverse-append (y ∷ []) xs)) (in_right (reverse xs) (y ∷ []) x (inl e))
  in_reverse (y ∷ xs) (inr i) = subst (In x) (sym (reverse-append (y ∷ []) xs)) (in_left (reverse xs) (y ∷ []) x (in_reverse xs i))

-- a change of the sheet that stands at a place is among all
pub change_is_held : (n : ℕ) (cs : List Change) (i : ℕ) (c : Change) → c ∷ [] ≡ of_sheet n (option_to_list (slice_get cs i)) → In c (reverse cs)
change_is_held n cs i c e = in_reverse c cs (in_nth c cs i (kept_from _ (option_to_list (slice_get cs i)) c (subst (In c) e (inl refl))).0)
