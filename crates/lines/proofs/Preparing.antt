-- The adds of a change prepared one after the other: l₀ are the lines before the first of them, and l after k of them, for which `slots` are chosen, all before `from`.
-- Assumes nothing.
use Rattle.std.proofs.Common.{◌≡◌, ℕ, suc, ◌+◌, ◌-◌, ◌<◌, ◌≤◌, true, false, ◌&&◌, List, [], ◌∷◌, ◌++◌, length, get_or, drop, Some, None, sym, refl, ap, ◌∙◌, subst, inl, inr, arith}
use Rattle.std.proofs.lemmas.List.{at_drop_more, at_drop_all, get_or_append_left, get_or_push, length_push}
use Rattle.std.proofs.lemmas.Bool.{cases_lt}
use Rattle.change.specs.declared.add.AddView.{AddView}
use Rattle.order.specs.Order.{Put}
use Rattle.order.specs.Table.{bef, onto}
use Rattle.order.specs.Good.{Good}
use Rattle.order.proofs.Stands.{on_cases}
use Rattle.table.specs.Held.{held}
use Rattle.lines.specs.declared.Lines.{Lines}
use Rattle.lines.specs.Numbers.{no_line, free_in, Used, AreFree, AllBefore, Chosen}
use Rattle.lines.specs.Puts.{puts_of, in_order, Fresh}
use Rattle.lines.specs.Lines.{numbers_of, Agrees, Keeps, Prepared, MayAdd, Unmoved}
use Rattle.lines.specs.Adding.{PutInto, NextPut}
use Rattle.lines.proofs.Counts.{count_from_used}

-- Where the puts Q were kept, those of the adds so far have come on top of them.
pub record Reached (l : Lines) (first : ℕ) (slots : List ℕ) (adds : List AddView) (k : ℕ) (Q : List Put) : Type 0 where
  pub puts : List Put
  pub prepared : Prepared l first slots puts
  pub good : Good puts
  pub fresh : Fresh puts (first + k) (length adds - k)
  pub order : in_order Q (puts_of first adds) ≡ in_order puts (puts_of (first + k) (drop k adds))
  pub whole : onto Q (puts_of first adds) ≡ onto puts (puts_of (first + k) (drop k adds))

pub record Progress (l₀ l : Lines) (first : ℕ) (adds : List AddView) (k : ℕ) (slots : List ℕ) (from : ℕ) : Type 0 where
  pub unmoved : Unmoved l₀ l
  pub chosen : Chosen (numbers_of l₀) slots
  pub low : (2 ≤ from) × AllBefore slots from
  pub count : length slots ≡ k
  pub room : length adds ≤ k + free_in (drop from (numbers_of l₀))
  pub reached : (Q : List Put) → MayAdd l₀ first (length adds) Q → Reached l first slots adds k Q

pub unmoved_keeps : (l l' : Lines) → Unmoved l l' → (Q : List Put) → Keeps l Q → Keeps l' Q
unmoved_keeps l l' unmoved Q keeps =
    subst (λ ns. Agrees (held l'.table) ns Q) (sym unmoved.numbers) (record {
      lines = keeps.lines;
      slots = keeps.slots;
      once = keeps.once;
      order = λ i j used_i used_j. unmoved.order i j used_i used_j ∙ keeps.order i j used_i used_j;
    })

pub progress_none : (l : Lines) (first : ℕ) (adds : List AddView) → length adds ≤ free_in (numbers_of l) → Progress l l first adds 0 [] 2
progress_none l first adds room =
    let same : first ≡ first + 0 = omega arith in
    let start = count_from_used (numbers_of l) 0 (omega arith) (λ e. omega arith) in
    let end = count_from_used (numbers_of l) 1 (omega arith) (λ e. omega arith) in
    record {
      unmoved = record { numbers = refl; order = λ _ _ _ _. refl };
      chosen = record { free = λ k h. absurd (omega arith); once = λ j k h. absurd (omega arith) };
      low = (omega arith, λ k h. absurd (omega arith));
      count = refl;
      room = omega arith;
      reached = λ Q (keeps, good, fresh). record {
        puts = Q;
        prepared = keeps;
        good = good;
        fresh = λ u given. fresh u (omega arith);
        order = ap (λ n. in_order Q (puts_of n adds)) same;
        whole = ap (λ n. onto Q (puts_of n adds)) same;
      };
    }

-- What holds of each slot and of one more holds of all of them.
of_each_pushed : (P : ℕ → Type 0) (slots : List ℕ) (x : ℕ) → ((k : ℕ) → k < length slots → P (get_or slots k 0)) → P x →
    (k : ℕ) → k < length (slots ++ x ∷ []) → P (get_or (slots ++ x ∷ []) k 0)
of_each_pushed P slots x each here k h =
    elim (cases_lt k (length slots)) [
      | inl lt ↦ subst P (sym (get_or_append_left slots (x ∷ []) 0 k lt)) (each k lt)
      | inr le ↦ subst P (sym (get_or_push slots x 0 k (omega (arith, length_push slots x)))) here
    ]

chosen_more : (ns slots : List ℕ) (from x : ℕ) → Chosen ns slots → AllBefore slots from → from ≤ x → x < length ns → get_or ns x 0 ≡ no_line → Chosen ns (slots ++ x ∷ [])
chosen_more ns slots from x chosen before behind within is_free = record {
  free = of_each_pushed (λ s. (s < length ns) × (get_or ns s 0 ≡ no_line)) slots x chosen.free (within, is_free);
  once = λ j k h h' e. elim (cases_lt j (length slots)) [
    | inl lt ↦ elim (cases_lt k (length slots)) [
      | inl lt' ↦ chosen.once j k lt lt' (sym (get_or_append_left slots (x ∷ []) 0 j lt) ∙ e ∙ get_or_append_left slots (x ∷ []) 0 k lt')
      | inr le' ↦ absurd (omega (arith, before j lt, get_or_append_left slots (x ∷ []) 0 j lt, get_or_push slots x 0 k (omega (arith, length_push slots x))))
    ]
    | inr le ↦ elim (cases_lt k (length slots)) [
      | inl lt' ↦ absurd (omega (arith, before k lt', get_or_append_left slots (x ∷ []) 0 k lt', get_or_push slots x 0 j (omega (arith, length_push slots x))))
      | inr le' ↦ omega (arith, length_push slots x)
    ]
  ];
}

abbrev pub put_of_add : ℕ → AddView → Put
put_of_add n a = record { line = n; after = a.after.0; before = a.before.0 }

module _ (l₀ l l' : Lines) {first k from : ℕ} {adds : List AddView} {slots : List ℕ} (d : AddView)
    (progress : Progress l₀ l first adds k slots from) (more : k < length adds) where
  abbrev add : AddView
  add = get_or adds k d

  -- the first of the adds that are left
  order_of_left : (Q : List Put) → in_order Q (puts_of (first + k) (drop k adds)) ≡ (bef Q add.after.0 add.before.0 && in_order (put_of_add (first + k) add ∷ Q) (puts_of (suc (first + k)) (drop (k + 1) adds)))
  order_of_left Q = at_drop_more (λ rest. in_order Q (puts_of (first + k) rest)) adds k d more

  onto_of_left : (Q : List Put) → onto Q (puts_of (first + k) (drop k adds)) ≡ onto (put_of_add (first + k) add ∷ Q) (puts_of (suc (first + k)) (drop (k + 1) adds))
  onto_of_left Q = at_drop_more (λ rest. onto Q (puts_of (first + k) rest)) adds k d more

  at_count : (P : ℕ → Type 0) → P (first + length slots) → P (first + k)
  at_count P h = subst (λ n. P (first + n)) progress.count h

  pub refused_is_out_of_order : NextPut l l' first slots from (put_of_add (first + length slots) add) None →
      (Q : List Put) → MayAdd l₀ first (length adds) Q → false ≡ in_order Q (puts_of first adds)
  refused_is_out_of_order none Q may =
      let r = progress.reached Q may in
      sym (r.order ∙ order_of_left r.puts ∙ ap (λ b. b && in_order (put_of_add (first + k) add ∷ r.puts) (puts_of (suc (first + k)) (drop (k + 1) adds))) (none r.puts r.prepared r.good))

  pub unmoved_trans : Unmoved l l' → Unmoved l₀ l'
  unmoved_trans unmoved =
      let e = progress.unmoved.numbers in
      record {
        numbers = unmoved.numbers ∙ e;
        order = λ i j used_i used_j. unmoved.order i j (subst (λ ns. Used ns i) (sym e) used_i) (subst (λ ns. Used ns j) (sym e) used_j) ∙ progress.unmoved.order i j used_i used_j;
      }

  reached_more : (x : ℕ) → no_line < first → PutInto l l' first slots from (put_of_add (first + k) add) x → (Q : List Put) → Reached l first slots adds k Q → Reached l' first (slots ++ x ∷ []) adds (k + 1) Q
  reached_more x above put Q r =
      let next : suc (first + k) ≡ first + (k + 1) = omega arith in
      let p = put_of_add (first + k) add in
      let between = put.order r.puts r.prepared r.good in
      let new = r.fresh (first + k) (omega arith) in
      record {
        puts = p ∷ r.puts;
        prepared = put.prepared r.puts r.prepared new;
        good = (record { low = omega arith; new = new; between = between }, r.good);
        fresh = λ u given on. elim (on_cases p r.puts u on) [ inl e ↦ omega arith | inr old ↦ r.fresh u (omega arith) old ];
        order = r.order ∙ order_of_left r.puts ∙ ap (λ b. b && in_order (p ∷ r.puts) (puts_of (suc (first + k)) (drop (k + 1) adds))) between
            ∙ ap (λ n. in_order (p ∷ r.puts) (puts_of n (drop (k + 1) adds))) next;
        whole = r.whole ∙ onto_of_left r.puts ∙ ap (λ n. onto (p ∷ r.puts) (puts_of n (drop (k + 1) adds))) next;
      }

  pub progress_more : (x : ℕ) → no_line < first → Unmoved l l' → NextPut l l' first slots from (put_of_add (first + length slots) add) (Some x) →
      Progress l₀ l' first adds (k + 1) (slots ++ x ∷ []) (x + 1)
  progress_more x above unmoved put =
      let e = progress.unmoved.numbers in
      let within : x < length (numbers_of l₀) = subst (λ ns. x < length ns) e put.within in
      let is_free : get_or (numbers_of l₀) x 0 ≡ no_line = subst (λ ns. get_or ns x 0 ≡ no_line) e put.free in
      let rest : free_in (drop from (numbers_of l₀)) ≡ 1 + free_in (drop (x + 1) (numbers_of l₀)) = subst (λ ns. free_in (drop from ns) ≡ 1 + free_in (drop (x + 1) ns)) e put.rest in
      let behind = put.behind in
      record {
        unmoved = unmoved_trans unmoved;
        chosen = chosen_more (numbers_of l₀) slots from x progress.chosen progress.low.1 behind within is_free;
        low = (omega (arith, progress.low.0), of_each_pushed (λ s. s < x + 1) slots x (λ j h. omega (arith, progress.low.1 j h)) (omega arith));
        count = length_push slots x ∙ ap (λ n. n + 1) progress.count;
        room = omega (arith, progress.room);
        reached = λ Q may. reached_more x above (at_count (λ n. PutInto l l' first slots from (put_of_add n add) x) put) Q (progress.reached Q may);
      }

module _ (l₀ l : Lines) {first k from : ℕ} {adds : List AddView} {slots : List ℕ}
    (progress : Progress l₀ l first adds k slots from) (all : length adds ≤ k) where
  pub all_in_order : (Q : List Put) → MayAdd l₀ first (length adds) Q → true ≡ in_order Q (puts_of first adds)
  all_in_order Q may =
      let r = progress.reached Q may in
      sym (r.order ∙ at_drop_all (λ rest. in_order r.puts (puts_of (first + k) rest)) adds k all)

  pub all_prepared : (Q : List Put) → MayAdd l₀ first (length adds) Q →
      Good (onto Q (puts_of first adds)) × Prepared l first slots (onto Q (puts_of first adds))
  all_prepared Q may =
      let r = progress.reached Q may in
      subst (λ puts. Good puts × Prepared l first slots puts) (sym (r.whole ∙ at_drop_all (λ rest. onto r.puts (puts_of (first + k) rest)) adds k all))
      (r.good, r.prepared)

  pub all_free : AreFree (numbers_of l) slots
  all_free = subst (λ ns. AreFree ns slots) (sym progress.unmoved.numbers) progress.chosen.free
