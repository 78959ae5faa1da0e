-- A change that none needs, taken out of a listed set: the others are listed, with their lines in the same order, and it is the one at its place that goes.
-- Assumes nothing.
use Rattle.std.proofs.Common.{◌≡◌, ℕ, suc, ◌<◌, ◌≤◌, cond, not, eqb, List, [], ◌∷◌, ◌++◌, reverse, length, get_or, take, drop, sym, refl, ap, ◌∙◌, subst, inl, inr, append_assoc, arith, take-append-drop, drop-cons}
use mathlib.Core.List.{reverse-cons}
use Rattle.std.specs.List.{remove}
use Rattle.std.proofs.lemmas.List.Filters.{length-filter_both, sum_by-filter_both}
use Rattle.std.proofs.lemmas.List.{reverse-append}
use Rattle.std.proofs.lemmas.Bool.{ne_eqb, eq-eqb, eqb-false, not-true, not_from_false}
use Rattle.std.proofs.lemmas.Bool.Decides.{Decides-like, same_from_decides}
use Rattle.change.specs.Membership.{In}
use Rattle.change.specs.Model.{Change, line_of}
use Rattle.order.specs.Order.{Put, puts}
use Rattle.order.specs.Table.{bef, placed}
use Rattle.order.specs.Good.{On}
use Rattle.order.specs.Fits.{Listed}
use Rattle.order.specs.Theorems.{without, NoneNeeds}
use Rattle.order.proofs.ClosedPart.{listed_kept}
use Rattle.order.proofs.Fitting.{listed_sound}
use Rattle.order.proofs.Members.{kept_from, kept_has, in_right}
use Rattle.order.proofs.Numbers.{line_range}
use Rattle.order.proofs.OneSet.{decided}
use Rattle.order.proofs.Placed.{placed_from, placed_has, listed_formed}
use Rattle.order.proofs.Precedes.{line_more}
use Rattle.order.proofs.TakenBack.{taken_back_lem}
use Rattle.lines.specs.Puts.{Given, Without}
use Rattle.history.specs.Book.{lines_of}

module _ (L : List Change) (listed : Listed L) (n : ℕ) (none : NoneNeeds n L) where
  abbrev others : List Change
  others = without n L

  pub others_listed : Listed others
  others_listed =
      listed_kept (λ c. not (eqb c.name n)) L listed (λ c d i j passes need. not_from_false _ (ne_eqb _ _ (λ e. none c i (subst (λ m. In m c.needs) e need))))

  -- a line of another change is not one of those that go
  not_its_line : (d : Change) → In d L → (d.name ≡ n → ⊥) → (p : Put) → In p (puts d) → Given (line_of n 0) 64 p.line → ⊥
  not_its_line d i other p own given = other (omega (arith, line_range d (listed_formed L listed d i) p own))

  fewer : 16 ≤ n → (u : ℕ) → On (placed others) u → On (placed L) u × (Given (line_of n 0) 64 u → ⊥)
  fewer least u (inl e) = (inl e, λ given. omega arith)
  fewer least u (inr (inl e)) = (inr (inl e), λ given. omega arith)
  fewer least u (inr (inr (p, i, e))) =
      let (d, j, own) = placed_from others p i in
      let (here, passes) = kept_from (λ c. not (eqb c.name n)) L d j in
      (inr (inr (p, placed_has L p (d, here, own), e)), λ given. not_its_line d here (eqb-false _ _ (not-true _ passes)) p own (subst (Given (line_of n 0) 64) (sym e) given))

  all_others : (u : ℕ) → On (placed L) u → (Given (line_of n 0) 64 u → ⊥) → On (placed others) u
  all_others u (inl e) away = inl e
  all_others u (inr (inl e)) away = inr (inl e)
  all_others u (inr (inr (p, i, e))) away =
      let (d, j, own) = placed_from L p i in
      let other : d.name ≡ n → ⊥ = λ same. away (omega (arith, line_range d (listed_formed L listed d j) p own)) in
      inr (inr (p, placed_has others p (d, kept_has (λ c. not (eqb c.name n)) L d j (not_from_false _ (ne_eqb _ _ other)), own), e))

  same_order : (u v : ℕ) → On (placed others) u → On (placed others) v → bef (placed others) u v ≡ bef (placed L) u v
  same_order u v hu hv =
      let (to, from) = (taken_back_lem L n (listed_sound L listed) none).1 u v (line_more (placed_from others) u hu) (line_more (placed_from others) v hv) in
      same_from_decides _ _ (decided others others_listed u v) (Decides-like _ from to (decided L listed u v))

  pub its_lines_go : 16 ≤ n → Without (placed L) (line_of n 0) 64 (placed others)
  its_lines_go least = record { fewer = fewer least; others = all_others; order = same_order }

pub no_more_changes : (n : ℕ) (L : List Change) → length (without n L) ≤ length L
no_more_changes n L = omega (arith, length-filter_both (λ c. not (eqb c.name n)) (λ c. not (not (eqb c.name n))) (λ c. refl) L)

pub no_more_lines : (n : ℕ) (L : List Change) → lines_of (without n L) ≤ lines_of L
no_more_lines n L = omega (arith, sum_by-filter_both (λ c. not (eqb c.name n)) (λ c. not (not (eqb c.name n))) (λ c. refl) (λ c. length c.adds) L)

none_of_the_name : (n : ℕ) (L : List Change) → ((d : Change) → In d L → d.name ≡ n → ⊥) → without n L ≡ L
none_of_the_name n [] none = refl
none_of_the_name n (c ∷ L) none =
    ap (λ b. cond (not b) (c ∷ without n L) (without n L)) (ne_eqb c.name n (none c (inl refl))) ∙ ap (λ M. c ∷ M) (none_of_the_name n L (λ d i. none d (inr i)))

without_the_one : (A B : List Change) (c : Change) → Listed (A ++ c ∷ B) → without c.name (A ++ c ∷ B) ≡ A ++ B
without_the_one [] B c (fits, listed) =
    ap (λ b. cond (not b) (c ∷ without c.name B) (without c.name B)) (eq-eqb c.name c.name refl) ∙ none_of_the_name c.name B fits.new
without_the_one (a ∷ A) B c (fits, listed) =
    ap (λ b. cond (not b) (a ∷ without c.name (A ++ c ∷ B)) (without c.name (A ++ c ∷ B))) (ne_eqb a.name c.name (λ e. fits.new c (in_right A (c ∷ B) c (inl refl)) (sym e)))
    ∙ ap (λ M. a ∷ M) (without_the_one A B c listed)

pub removed_is_without : (cs : List Change) (i : ℕ) (d : Change) → i < length cs → Listed (reverse cs) → reverse (remove cs i) ≡ without (get_or cs i d).name (reverse cs)
removed_is_without cs i d less listed =
    let c = get_or cs i d in
    let A = reverse (drop (suc i) cs) in
    let B = reverse (take i cs) in
    let parts : cs ≡ take i cs ++ c ∷ drop (suc i) cs = sym (take-append-drop i cs) ∙ ap (λ l. take i cs ++ l) (drop-cons cs i d less) in
    let around : reverse cs ≡ A ++ c ∷ B =
    ap reverse parts ∙ reverse-append (take i cs) (c ∷ drop (suc i) cs) ∙ ap (λ l. l ++ B) (reverse-cons c (drop (suc i) cs)) ∙ append_assoc A (c ∷ []) B in
    reverse-append (take i cs) (drop (suc i) cs) ∙ sym (without_the_one A B c (subst Listed around listed)) ∙ ap (without c.name) (sym around)
