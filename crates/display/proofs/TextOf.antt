-- That a line which a set of changes adds has the text of its add.
-- Assumes nothing.
use Rattle.std.proofs.Common.{◌≡◌, ℕ, zero, suc, ◌+◌, ◌%◌, ◌<◌, List, [], ◌∷◌, length, sym, refl, ap, ◌∙◌, inl, inr, ⊎_elim, arith}
use Rattle.std.specs.List.{flat_map}
use Rattle.change.specs.Membership.{In}
use Rattle.change.specs.Model.{Add, Change}
use Rattle.change.proofs.Limits.{adds_most}
use Rattle.order.specs.Fits.{Listed}
use Rattle.order.proofs.Members.{in_either}
use Rattle.order.proofs.Placed.{listed_formed}
use Rattle.blocks.specs.Sheet.{text_at, text_of}
use Rattle.blocks.proofs.Texts.{text_of_named}
use Rattle.display.specs.Added.{added_from, added_by}

place_of_line : (n : ℕ) (adds : List Add) (p : ℕ × List ℕ) → In p (added_from n adds) → (k : ℕ) × (k < length adds) × (p.0 ≡ n + k) × (text_at adds k ≡ p.1)
place_of_line n [] p i = absurd i
place_of_line n (a ∷ adds) p (inl e) = (zero, omega arith, ap (λ x. x.0) e ∙ omega arith, ap (λ x. x.1) (sym e))
place_of_line n (a ∷ adds) p (inr i) = let (k, less, e, t) = place_of_line (suc n) adds p i in (suc k, omega arith, omega arith, t)

pub change_of_line : (S : List Change) (p : ℕ × List ℕ) → In p (flat_map added_by S) → (c : Change) × In c S × In p (added_by c)
change_of_line [] p i = absurd i
change_of_line (c ∷ S) p i = ⊎_elim (λ j. (c, inl refl, j)) (λ j. let (d, k, m) = change_of_line S p j in (d, inr k, m)) (in_either (added_by c) (flat_map added_by S) p i)

pub text_of_line : (S : List Change) → Listed S → (p : ℕ × List ℕ) → In p (flat_map added_by S) → text_of S p.0 ≡ p.1
text_of_line S l p i =
    let (c, j, m) = change_of_line S p i in
    let (k, less, e, t) = place_of_line _ c.adds p m in
    let few = adds_most c (listed_formed S l c j) in
    let place : p.0 % 64 ≡ k = omega arith in
    text_of_named p.0 S l c j (omega arith) ∙ ap (text_at c.adds) place ∙ t
