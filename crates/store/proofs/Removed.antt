-- One change fewer: those behind it lie closer to the start, and their entries say so.
-- Assumes nothing.
use Rattle.std.proofs.Common.{◌≡◌, ℕ, zero, suc, ◌+◌, ◌-◌, ◌<◌, ◌≤◌, Bool, true, leb, List, [], ◌∷◌, ◌++◌, map, length, get_or, take, drop, sym, refl, ap, ◌∙◌, append-nil, arith, length-take-le, drop-drop, take_at, drop_at, le-leb}
use borrow.Rule.Slice.PartMut.{post_of}
use lib.Seq.{paste}
use Rattle.std.specs.List.{remove, flat_map, list_all}
use Rattle.std.proofs.lemmas.List.{take_rest, drop_all}
use Rattle.change.specs.Bytes.{change_bytes}
use Rattle.change.specs.Model.{Change}
use Rattle.change.specs.WellFormed.{well_formed}
use Rattle.change.proofs.Tests.{and_true, both_true}
use Rattle.store.specs.declared.entry.Entry.{Entry}
use Rattle.store.specs.Entries.{start_of, entries_from, lowered}
use Rattle.store.specs.Laid.{Laid}
use Rattle.store.proofs.Entries.{drop_entries, entries_removed, start_next}
use Rattle.store.proofs.Joined.{joined_append, joined_at, closed_up, used_is}
use Rattle.store.proofs.Places.{blank}

every_removed : {X : Type 0} (test : X → Bool) (xs : List X) (i : ℕ) → list_all test xs ≡ true → list_all test (remove xs i) ≡ true
every_removed test [] zero h = h
every_removed test [] (suc i) h = h
every_removed test (x ∷ xs) zero h = (and_true (test x) (list_all test xs) h).1
every_removed test (x ∷ xs) (suc i) h = let p = and_true (test x) (list_all test xs) h in both_true p.0 (every_removed test xs i p.1)

entries_start_past : (by start : ℕ) (cs : List Change) → by ≤ start → list_all (λ e. leb by e.start) (entries_from start cs) ≡ true
entries_start_past by start [] h = refl
entries_start_past by start (c ∷ cs) h = both_true (le-leb by start h) (entries_start_past by (start + length (change_bytes c)) cs (omega arith))

-- What a list has behind a place after the element there is taken out.
module _ {X : Type 0} (xs ys : List X) (i : ℕ) (less : i < length xs) (out : ys ≡ remove xs i) where
  front_of_removed : take i ys ≡ take i xs
  front_of_removed = ap (take i) out ∙ take_at (take i xs) (drop (suc i) xs) i (length-take-le i xs (omega arith))

  pub back_of_removed : take (length ys - i) (drop i ys) ≡ drop (suc i) xs
  back_of_removed = take_rest ys i ∙ ap (drop i) out ∙ drop_at (take i xs) (drop (suc i) xs) i (length-take-le i xs (omega arith))

  pub removed_then_mapped : (f : X → X) (back : List X) → back ≡ map f (take (length ys - i) (drop i ys)) →
      take i ys ++ (back ++ post_of i (length ys - i) ys) ≡ take i xs ++ map f (drop (suc i) xs)
  removed_then_mapped f back mapped =
      let nothing = drop-drop (length ys - i) i ys ∙ drop_all (i + (length ys - i)) ys (omega arith) in
      (λ j. front_of_removed j ++ ((mapped ∙ ap (map f) back_of_removed) j ++ nothing j)) ∙ ap (λ l. take i xs ++ l) (append-nil (map f (drop (suc i) xs)))

module _ {area : List ℕ} {used : ℕ} {entries : List Entry} {cs : List Change} (laid : Laid area used entries cs) (i : ℕ) (less : i < length cs)
    (start end : ℕ) (begins : start ≡ start_of cs i) (ends : end ≡ start_of cs (i + 1)) where
  end_is : end ≡ start_of cs (suc i)
  end_is = let one_more : i + 1 ≡ suc i = omega arith in ends ∙ ap (start_of cs) one_more

  size_is : end - start ≡ length (change_bytes (get_or cs i blank))
  size_is = omega (arith, end_is, start_next cs i blank less)

  pub later_start_past : list_all (λ e. leb (end - start) e.start) (drop (suc i) entries) ≡ true
  later_start_past =
      ap (list_all (λ e. leb (end - start) e.start)) (ap (drop (suc i)) laid.marked ∙ drop_entries 0 cs (suc i))
      ∙ entries_start_past (end - start) (0 + start_of cs (suc i)) (drop (suc i) cs) (omega (arith, end_is))

  pub laid_removed : (area' : List ℕ) (entries' : List Entry) → area' ≡ paste area start (drop end area) (used - end) → length area' ≡ length area →
      entries' ≡ take i entries ++ map (lowered (end - start)) (drop (suc i) entries) → Laid area' (used - (end - start)) entries' (remove cs i)
  laid_removed area' entries' moved long marked =
      let front = flat_map change_bytes (take i cs) in
      let gone = change_bytes (get_or cs i blank) in
      let back = flat_map change_bytes (drop (suc i) cs) in
      let parts = laid.bytes ∙ joined_at change_bytes cs i blank less in
      let all = used_is area used laid.inside front gone back parts in
      let next = end_is ∙ start_next cs i blank less in
      let left : used - (end - start) ≡ start_of cs i + length back = omega arith in
      let past : end ≡ start_of cs i + length gone = omega arith in
      let rest : used - end ≡ length back = omega arith in
      record {
        inside = omega (arith, laid.inside);
        formed = every_removed well_formed cs i laid.formed;
        bytes =
            (λ j. take (left j) ((moved ∙ (λ k. paste area (begins k) (drop (past k) area) (rest k))) j))
            ∙ closed_up area used laid.inside front gone back parts
            ∙ sym (joined_append change_bytes (take i cs) (drop (suc i) cs));
        marked = marked ∙ (λ j. take i (laid.marked j) ++ map (lowered (size_is j)) (drop (suc i) (laid.marked j))) ∙ entries_removed cs i blank less;
      }
