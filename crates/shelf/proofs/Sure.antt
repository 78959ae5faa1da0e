-- What is known without it being known how (under a truncation), each part of which is a proposition or can be decided, holds; so the changes of a shelf and its lines belong together.
-- Sure Q: where Q is known to hold, it does.
-- Assumes nothing.
use Rattle.std.proofs.Common.{◌≡◌, ℕ, zero, suc, ◌≤◌, Bool, true, false, not, ◌&&◌, ◌||◌, eqb, leb, List, [], ◌∷◌, length, get_or, Decides, sym, refl, ap, ◌∙◌, inl, inr, arith}
use mathlib.Core.Bool.{Bool-set}
use mathlib.Core.Logic.{∥∥₁_elim, ∥∥₁_map}
use native.Mathlib.Nat.{ℕ_set}
use Rattle.std.proofs.lemmas.Bool.{leb-true, le-leb}
use Rattle.std.proofs.lemmas.Bool.Decides.{Decides-eqb, Decides-and, Decides-or, Decides-not, Decides-below_or, Decides-like}
use Rattle.change.specs.Membership.{In}
use Rattle.order.specs.Order.{Put}
use Rattle.order.specs.Good.{On}
use Rattle.std.specs.List.{list_any}
use Rattle.lines.specs.declared.Lines.{Lines}
use Rattle.lines.specs.Numbers.{no_line, Used}
use Rattle.lines.specs.Lines.{numbers_of, Keeps}
use Rattle.store.specs.declared.Store.{Store}
use Rattle.verdict.proofs.Fitting.{listed_decided}
use Rattle.shelf.specs.declared.Shelf.{Shelf}
use Rattle.shelf.specs.Sane.{Sane}
use Rattle.shelf.specs.Together.{changes_in, Together}

abbrev pub Sure : Type 0 → Type 0
Sure Q = ∥ Q ∥₁ → Q

pub sure_prop : {Q : Type 0} → IsProp Q → Sure Q
sure_prop prop t = ∥∥₁_elim t prop (λ q. q)

pub sure_decided : {Q : Type 0} (b : Bool) → Decides b Q → Sure Q
sure_decided b decides t = decides.0 (∥∥₁_elim t (Bool-set b true) decides.1)

pub sure_le : (m n : ℕ) → Sure (m ≤ n)
sure_le m n = sure_decided (leb m n) (leb-true m n, le-leb m n)

-- a part of what is known is known
pub part : {P Q : Type 0} → (P → Q) → Sure Q → ∥ P ∥₁ → Q
part f sure t = sure (∥∥₁_map t f)

-- whether some put has this line
has_line : ℕ → List Put → Bool
has_line u = list_any (λ p. eqb p.line u)

decides_put : (Q : List Put) (u : ℕ) → Decides (has_line u Q) ((p : Put) × In p Q × (p.line ≡ u))
unfolding has_line
decides_put [] u = (λ e. absurd (let z : ◌≡◌ {A = ℕ} 0 1 = cc in omega arith), λ (p, i, e). absurd i)
decides_put (q ∷ Q) u =
    Decides-like _ (λ h. elim h [ inl e ↦ (q, inl refl, e) | inr (p, i, e) ↦ (p, inr i, e) ])
    (λ (p, i, e). elim i [ inl same ↦ inl (sym (ap (λ x. x.line) same) ∙ e) | inr j ↦ inr (p, j, e) ])
    (Decides-or _ _ (Decides-eqb q.line u) (decides_put Q u))

decides_on : (Q : List Put) (u : ℕ) → Decides (eqb u 0 || (eqb u 1 || has_line u Q)) (On Q u)
decides_on Q u = Decides-or _ _ (Decides-eqb u 0) (Decides-or _ _ (Decides-eqb u 1) (decides_put Q u))

module _ (ns : List ℕ) (u : ℕ) where
  holds_at : ℕ → Bool
  holds_at i = not (eqb (get_or ns i 0) no_line) && eqb (get_or ns i 0) u

  holds_below : ℕ → Bool
  holds_below zero = false
  holds_below (suc n) = holds_at n || holds_below n

  decides_slot : Decides (holds_below (length ns)) ((i : ℕ) × Used ns i × (get_or ns i 0 ≡ u))
  unfolding holds_at holds_below
  decides_slot =
      Decides-like _ (λ (i, less, (used, e)). (i, (less, used), e)) (λ (i, (less, used), e). (i, less, (used, e)))
      (Decides-below_or holds_at (λ i. (get_or ns i 0 ≡ no_line → ⊥) × (get_or ns i 0 ≡ u)) holds_below
      (λ i. Decides-and _ _ (Decides-not _ (Decides-eqb (get_or ns i 0) no_line)) (Decides-eqb (get_or ns i 0) u)) refl (λ n. refl) (length ns))

pub sure_lines : (l : Lines) (Q : List Put) → Sure (Keeps l Q)
sure_lines l Q t =
    let ns = numbers_of l in
    record {
      lines = λ i used. part (λ k. k.lines i used) (sure_decided _ (decides_on Q (get_or ns i 0))) t;
      slots = λ u on. part (λ k. k.slots u on) (sure_decided _ (decides_slot ns u)) t;
      once = λ i j used used' e. part (λ k. k.once i j used used' e) (sure_prop (ℕ_set i j)) t;
      order = λ i j used used'. part (λ k. k.order i j used used') (sure_prop (Bool-set _ _)) t;
    }

sure_together : (store : Store) (lines : Lines) → Sure (Together store lines)
sure_together store lines t = record {
  listed = part (λ k. k.listed) (sure_decided _ (listed_decided (changes_in store))) t;
  keeps = part (λ k. k.keeps) (sure_lines lines _) t;
  slots = part (λ k. k.slots) (sure_prop (ℕ_set _ _)) t;
  few = part (λ k. k.few) (sure_le _ _) t;
  few_lines = part (λ k. k.few_lines) (sure_le _ _) t;
}

-- every shelf is
pub sane : (s : Shelf) → Sane s
sane s = sure_together s.store s.lines s.sane
