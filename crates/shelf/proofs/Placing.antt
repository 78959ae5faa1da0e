-- The puts of a change on top of those that are here: their count, their order, and that their lines are new.
-- Assumes nothing.
use Rattle.std.proofs.Common.{◌≡◌, ℕ, suc, ◌+◌, ◌≤◌, true, false, ◌&&◌, List, [], ◌∷◌, length, refl, ap, ◌∙◌, arith}
use Rattle.std.proofs.lemmas.List.Sums.{sum_by-cons}
use Rattle.std.proofs.lemmas.Bool.Decides.{not_from_Decides, nat_tests}
use Rattle.change.specs.Model.{Add, Change, line_of}
use Rattle.change.specs.WellFormed.{highest_name, well_formed}
use Rattle.change.proofs.Limits.{adds_most}
use Rattle.order.specs.Order.{Put, puts, puts_from}
use Rattle.order.specs.Table.{bef, onto, placed}
use Rattle.order.specs.Fits.{Listed}
use Rattle.order.proofs.OneName.{has_name_lem}
use Rattle.order.proofs.Placed.{placed_good, ready_new}
use Rattle.lines.specs.Puts.{in_order, Fresh}
use Rattle.verdict.specs.Verdict.{is_known, all_ordered}
use Rattle.history.specs.Book.{lines_of}

pub name_most : (c : Change) → well_formed c ≡ true → c.name ≤ highest_name
name_most c formed = grind (arith, nat_tests)

length_onto : (Q ps : List Put) → length (onto Q ps) ≡ length Q + length ps
length_onto Q [] = omega arith
length_onto Q (p ∷ ps) = length_onto (p ∷ Q) ps ∙ omega arith

length_puts : (n : ℕ) (adds : List Add) → length (puts_from n adds) ≡ length adds
length_puts n [] = refl
length_puts n (a ∷ adds) = ap suc (length_puts (suc n) adds)

pub length_placed : (L : List Change) → length (placed L) ≡ lines_of L
length_placed [] = refl
length_placed (c ∷ L) =
    omega (arith, length_onto (placed L) (puts c), length_puts (line_of c.name 0) c.adds, length_placed L, sum_by-cons (λ d. length d.adds) c L)

pub in_order_is_ordered : (Q ps : List Put) → in_order Q ps ≡ all_ordered (bef Q) ps
in_order_is_ordered Q [] = refl
in_order_is_ordered Q (p ∷ ps) = ap (λ b. bef Q p.after p.before && b) (in_order_is_ordered (p ∷ Q) ps)

pub lines_are_new : (L : List Change) (c : Change) → Listed L → well_formed c ≡ true → is_known L c ≡ false → Fresh (placed L) (line_of c.name 0) (length c.adds)
lines_are_new L c listed formed unknown u (low, high) on =
    (ready_new L c listed (placed_good L listed) formed (λ d i e. not_from_Decides _ (has_name_lem L c.name) unknown (d, i, e))).free u on low (omega (arith, adds_most c formed))
