-- Lines let go slot by slot: l₀ are the lines before, and l those after the slots up to s were looked at.
-- is_given first count u: the line u is one of those that go. freed ns first count s i: slot i was looked at, and has such a line.
-- Assumes nothing.
use Rattle.std.proofs.Common.{◌≡◌, ℕ, ◌+◌, ◌<◌, ◌≤◌, Bool, true, false, cond, ◌&&◌, ltb, leb, List, length, get_or, set, sym, refl, ap, ◌∙◌, subst, inl, inr, arith}
use Rattle.std.proofs.lemmas.List.{get_or-set_same, get_or-set_other, length-set}
use Rattle.std.proofs.lemmas.Bool.{and_from, and_parts, and_right, both_ways, cases_Bool, cases_eq, cases_lt, leb-true, ltb-true, le-leb, lt-ltb}
use Rattle.std.proofs.lemmas.Bool.Decides.{nat_tests}
use Rattle.order.specs.Order.{Put}
use Rattle.order.specs.Table.{bef, cleared}
use Rattle.order.specs.Good.{On}
use Rattle.table.specs.Edits.{Same}
use Rattle.table.specs.Held.{held}
use Rattle.lines.specs.declared.Lines.{Lines}
use Rattle.lines.specs.Numbers.{no_line, Used}
use Rattle.lines.specs.Puts.{Given, Without}
use Rattle.lines.specs.Lines.{numbers_of, Keeps}

abbrev pub is_given : ℕ → ℕ → ℕ → Bool
is_given first count u = leb first u && ltb u (first + count)

is_given_lem : (first count u : ℕ) → Given first count u → is_given first count u ≡ true
is_given_lem first count u (h, k) = and_from _ _ (le-leb first u h) (lt-ltb u (first + count) k)

given_is : (first count u : ℕ) → is_given first count u ≡ true → Given first count u
given_is first count u e = let (h, k) = and_parts _ _ e in (leb-true first u h, ltb-true u (first + count) k)

is_not_given : (first count u : ℕ) → (Given first count u → ⊥) → is_given first count u ≡ false
is_not_given first count u other = elim (cases_Bool (is_given first count u)) [ inl e ↦ absurd (other (given_is first count u e)) | inr e ↦ e ]

abbrev pub freed : List ℕ → ℕ → ℕ → ℕ → ℕ → Bool
freed ns first count s i = (leb 2 i && ltb i s) && is_given first count (get_or ns i 0)

pub record Gone (l₀ l : Lines) (first count s : ℕ) : Type 0 where
  pub size : length (numbers_of l) ≡ length (numbers_of l₀)
  pub numbers : (i : ℕ) → get_or (numbers_of l) i 0 ≡ cond (freed (numbers_of l₀) first count s i) no_line (get_or (numbers_of l₀) i 0)
  pub order : (i j : ℕ) → freed (numbers_of l₀) first count s i ≡ false → freed (numbers_of l₀) first count s j ≡ false → held l.table i j ≡ held l₀.table i j

pub gone_none : (l : Lines) (first count : ℕ) → Gone l l first count 2
gone_none l first count = record { size = refl; numbers = λ i. grind (arith, nat_tests); order = λ i j _ _. refl }

module _ (l₀ l : Lines) (first count s : ℕ) (gone : Gone l₀ l first count s) (low : 2 ≤ s) where
  abbrev ns₀ : List ℕ
  ns₀ = numbers_of l₀

  -- the number of this slot is as it was
  unseen : get_or (numbers_of l) s 0 ≡ get_or ns₀ s 0
  unseen = gone.numbers s ∙ grind (arith, nat_tests)

  freed_others : (i : ℕ) → (i ≡ s → ⊥) → freed ns₀ first count (s + 1) i ≡ freed ns₀ first count s i
  freed_others i ne = grind (arith, nat_tests)

  freed_here : freed ns₀ first count (s + 1) s ≡ is_given first count (get_or ns₀ s 0)
  freed_here = grind (arith, nat_tests)

  not_freed_before : freed ns₀ first count s s ≡ false
  not_freed_before = grind (arith, nat_tests)

  -- the line in this slot stays
  pub gone_past : (Given first count (get_or (numbers_of l) s 0) → ⊥) → Gone l₀ l first count (s + 1)
  gone_past other = record {
    size = gone.size;
    numbers = λ i. gone.numbers i ∙ ap (λ b. cond b no_line (get_or ns₀ i 0)) (sym (same i));
    order = λ i j h k. gone.order i j (sym (same i) ∙ h) (sym (same j) ∙ k);
  }
    where
      same : (i : ℕ) → freed ns₀ first count (s + 1) i ≡ freed ns₀ first count s i
      same i =
          elim (cases_eq i s) [
            | inl e ↦ rw e (freed_here ∙ is_not_given first count (get_or ns₀ s 0) (λ given. other (subst (Given first count) (sym unseen) given)) ∙ sym not_freed_before)
            | inr ne ↦ freed_others i ne
          ]

  -- the line in this slot goes
  module _ (l' : Lines) (within : s < length (numbers_of l)) (given : Given first count (get_or (numbers_of l) s 0)) (numbers_are : numbers_of l' ≡ set (numbers_of l) s no_line)
      (cleared_table : Same (held l'.table) (cleared (held l.table) s)) where
    number_of_others : (i : ℕ) → (i ≡ s → ⊥) → get_or (numbers_of l') i 0 ≡ get_or (numbers_of l) i 0
    number_of_others i ne = ap (λ ns. get_or ns i 0) numbers_are ∙ get_or-set_other (numbers_of l) s i no_line 0 ne

    number_here : get_or (numbers_of l') s 0 ≡ no_line
    number_here = ap (λ ns. get_or ns s 0) numbers_are ∙ get_or-set_same (numbers_of l) s no_line 0 within

    now_freed : freed ns₀ first count (s + 1) s ≡ true
    now_freed = freed_here ∙ is_given_lem first count (get_or ns₀ s 0) (subst (Given first count) unseen given)

    not_here : (i : ℕ) → freed ns₀ first count (s + 1) i ≡ false → i ≡ s → ⊥
    not_here i h e = both_ways _ h (ap (freed ns₀ first count (s + 1)) e ∙ now_freed)

    pub gone_more : Gone l₀ l' first count (s + 1)
    gone_more = record {
      size = same_size ∙ gone.size;
      numbers = λ i. elim (cases_eq i s) [
        | inl e ↦ rw e (number_here ∙ ap (λ b. cond b no_line (get_or ns₀ s 0)) (sym now_freed))
        | inr ne ↦ number_of_others i ne ∙ gone.numbers i ∙ ap (λ b. cond b no_line (get_or ns₀ i 0)) (sym (freed_others i ne))
      ];
      order = λ i j h k.
          let not_i = not_here i h in
          let not_j = not_here j k in
          cleared_table i j ∙ cleared_elsewhere i j not_i not_j ∙ gone.order i j (sym (freed_others i not_i) ∙ h) (sym (freed_others j not_j) ∙ k);
    }
      where
        same_size : length (numbers_of l') ≡ length (numbers_of l)
        same_size = ap length numbers_are ∙ length-set (numbers_of l) s no_line

        cleared_elsewhere : (i j : ℕ) → (i ≡ s → ⊥) → (j ≡ s → ⊥) → cleared (held l.table) s i j ≡ held l.table i j
        cleared_elsewhere i j not_i not_j = grind (arith, nat_tests)

-- All slots were looked at: the others of the lines remain, as they stood.
module _ (l₀ l : Lines) (first count s : ℕ) (gone : Gone l₀ l first count s) (all : length (numbers_of l₀) ≤ s)
    (Q Q' : List Put) (keeps : Keeps l₀ Q) (without : Without Q first count Q') where
  abbrev N₀ : ℕ → ℕ
  N₀ i = get_or (numbers_of l₀) i 0

  abbrev N : ℕ → ℕ
  N i = get_or (numbers_of l) i 0

  -- a slot in use has the line that it had, and that is none of those that go
  pub record Stays (i : ℕ) : Type 0 where
    pub used : Used (numbers_of l₀) i
    pub same : N i ≡ N₀ i
    pub not_freed : freed (numbers_of l₀) first count s i ≡ false
    pub other : Given first count (N₀ i) → ⊥

  low_is_other : (u : ℕ) → u < 2 → Given first count u → ⊥
  low_is_other u lt = elim (cases_eq u 0) [ inl e ↦ (without.fewer u (inl e)).1 | inr ne ↦ (without.fewer u (inr (inl (omega arith)))).1 ]

  low_number : (i : ℕ) → i < 2 → N₀ i ≡ i
  low_number i lt = elim (cases_eq i 0) [ inl e ↦ rw e l₀.start | inr ne ↦ let e : i ≡ 1 = omega arith in rw e l₀.end ]

  other_if_not_freed : (i : ℕ) → i < length (numbers_of l₀) → freed (numbers_of l₀) first count s i ≡ false → Given first count (N₀ i) → ⊥
  other_if_not_freed i lt h given =
      elim (cases_lt i 2) [
        | inl low ↦ low_is_other (N₀ i) (omega (arith, low_number i low)) given
        | inr high ↦ both_ways _ h (and_from _ _ (and_from _ _ (le-leb 2 i high) (lt-ltb i s (omega arith))) (is_given_lem first count (N₀ i) given))
      ]

  number_if_not_freed : (i : ℕ) → freed (numbers_of l₀) first count s i ≡ false → N i ≡ N₀ i
  number_if_not_freed i h = gone.numbers i ∙ ap (λ b. cond b no_line (N₀ i)) h

  stays : (i : ℕ) → Used (numbers_of l) i → Stays i
  stays i (lt, used) =
      elim (cases_Bool (freed (numbers_of l₀) first count s i)) [
        | inl h ↦ absurd (used (gone.numbers i ∙ ap (λ b. cond b no_line (N₀ i)) h))
        | inr h ↦
            let within : i < length (numbers_of l₀) = omega (arith, gone.size) in
            let same = number_if_not_freed i h in
            record { used = (within, λ e. used (same ∙ e)); same = same; not_freed = h; other = other_if_not_freed i within h }
      ]

  not_freed_if_other : (i : ℕ) → (Given first count (N₀ i) → ⊥) → freed (numbers_of l₀) first count s i ≡ false
  not_freed_if_other i other = and_right _ _ (is_not_given first count (N₀ i) other)

  on_rest : (i : ℕ) → Used (numbers_of l) i → On Q' (N i)
  on_rest i used = let w = stays i used in subst (On Q') (sym w.same) (without.others (N₀ i) (keeps.lines i w.used) w.other)

  pub the_others_stay : Keeps l Q'
  the_others_stay = record {
    lines = on_rest;
    slots = λ u on.
        let (on_q, other) = without.fewer u on in
        let (i, used, e) = keeps.slots u on_q in
        let same = number_if_not_freed i (not_freed_if_other i (λ given. other (subst (Given first count) e given))) in
        (i, (omega (arith, gone.size, used.0), λ f. used.1 (sym same ∙ f)), same ∙ e);
    once = λ i j used_i used_j e.
        let v = stays i used_i in
        let w = stays j used_j in
        keeps.once i j v.used w.used (sym v.same ∙ e ∙ w.same);
    order = λ i j used_i used_j.
        let v = stays i used_i in
        let w = stays j used_j in
        gone.order i j v.not_freed w.not_freed ∙ keeps.order i j v.used w.used
        ∙ ap (λ u. bef Q u (N₀ j)) (sym v.same) ∙ ap (bef Q (N i)) (sym w.same) ∙ sym (without.order (N i) (N j) (on_rest i used_i) (on_rest j used_j));
  }
