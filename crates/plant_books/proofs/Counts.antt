-- A plant's counts: the highest stays one, and the next name is told by going through what waits.
-- counted_from plant W n i: the highest of the count n and those of the changes of W from the place i on that are the plant's.
-- Assumes nothing.
use Rattle.std.proofs.Common.{◌≡◌, ℕ, zero, suc, ◌<◌, ◌≤◌, Bool, true, false, cond, ◌&&◌, eqb, ltb, List, [], ◌∷◌, length, drop, Some, None, Option, sym, refl, ap, ◌∙◌, subst, arith, inl, inr, ◌+◌, fold, add-one}
use Rattle.std.specs.List.{slice_get, range_with_len}
use Rattle.std.proofs.lemmas.Bool.Decides.{nat_tests}
use Rattle.change.specs.Membership.{In}
use Rattle.change.specs.Model.{Change, count_of, plant_of}
use Rattle.change.specs.WellFormed.{well_formed, highest_name}
use Rattle.history.specs.declared.Outcome.{Outcome}
use Rattle.history.specs.declared.Outcome.TheVariants.{Taken, Waits, Refused}
use Rattle.history.specs.Book.{counting, counting_all}
use Rattle.plant_books.specs.Counted.{counting_some}
use Rattle.plant_books.specs.Trying.{highest_after}

count_most : (c : Change) → well_formed c ≡ true → count_of c.name ≤ count_of highest_name
count_most c formed =
    let most : c.name ≤ highest_name = grind (arith, nat_tests) in
    omega arith

pub counting_most : (plant : ℕ) (c : Change) → well_formed c ≡ true → (n : ℕ) → n ≤ count_of highest_name → counting plant c n ≤ count_of highest_name
counting_most plant c formed n low = go (eqb (plant_of c.name) plant && ltb n (count_of c.name))
  where
    go : (b : Bool) → cond b (count_of c.name) n ≤ count_of highest_name
    go true = count_most c formed
    go false = low

pub still_counted : (o : Outcome) (plant : ℕ) (c : Change) → well_formed c ≡ true → (n : ℕ) → n ≤ count_of highest_name → (h : ℕ) → h ≡ highest_after o plant c n → h ≤ count_of highest_name
still_counted o plant c formed n low h e = subst (λ k. k ≤ count_of highest_name) (sym e) (go o)
  where
    go : (x : Outcome) → highest_after x plant c n ≤ count_of highest_name
    go Taken = counting_most plant c formed n low
    go Waits = low
    go (Refused r) = low

abbrev pub counted_from : ℕ → List Change → ℕ → ℕ → ℕ
counted_from plant W n i = counting_all plant (drop i W) n

pub counted_at_end : (plant : ℕ) (W : List Change) (n : ℕ) → counted_from plant W n (length W) ≡ n
counted_at_end plant [] n = refl
counted_at_end plant (c ∷ W) n = counted_at_end plant W n

nth_none : (W : List Change) (i : ℕ) → i < length W → slice_get W i ≡ None → ◌≡◌ {A = ℕ} 0 1
nth_none [] i less e = absurd (omega arith)
nth_none (d ∷ W) zero less e = cc
nth_none (d ∷ W) (suc i) less e = nth_none W i (omega arith) e

pub one_more_counted : (plant : ℕ) (W : List Change) (n i : ℕ) (c : Change) → slice_get W i ≡ Some c → counting plant c (counted_from plant W n (suc i)) ≡ counted_from plant W n i
one_more_counted plant [] n i c e = absurd (let z : ◌≡◌ {A = ℕ} 0 1 = cc in omega arith)
one_more_counted plant (d ∷ W) n zero c e = let same : c ≡ d = cc in ap (λ x. counting plant x (counting_all plant W n)) same
one_more_counted plant (d ∷ W) n (suc i) c e = one_more_counted plant W n i c e

-- The order in which two changes are counted doesn't matter.
counting_turns : (plant : ℕ) (c d : Change) (n : ℕ) → counting plant c (counting plant d n) ≡ counting plant d (counting plant c n)
counting_turns plant c d n = grind (arith, nat_tests)

counting_first : (plant : ℕ) (W : List Change) (c : Change) (n : ℕ) → counting_all plant W (counting plant c n) ≡ counting plant c (counting_all plant W n)
counting_first plant [] c n = refl
counting_first plant (d ∷ W) c n = ap (counting plant d) (counting_first plant W c n) ∙ counting_turns plant d c (counting_all plant W n)

-- Counting what waits place by place comes to counting all of it.
pub counted_by_places : (plant : ℕ) (W : List Change) (k n i : ℕ) → i + k ≡ length W → fold (λ m place. counting_some plant (slice_get W place) m) n (range_with_len i k) ≡ counted_from plant W n i
counted_by_places plant W zero n i all = sym (ap (counted_from plant W n) (let e : i ≡ length W = omega arith in e) ∙ counted_at_end plant W n)
counted_by_places plant W (suc k) n i all =
    let less : i < length W = omega arith in
    counted_by_places plant W k (counting_some plant (slice_get W i) n) (i + 1) (omega arith)
    ∙ ap (λ j. counted_from plant W (counting_some plant (slice_get W i) n) j) (add-one i)
    ∙ one_counted (slice_get W i) refl less
  where
    one_counted : (o : Option Change) → slice_get W i ≡ o → i < length W → counted_from plant W (counting_some plant o n) (suc i) ≡ counted_from plant W n i
    one_counted None e less = absurd (let z : ◌≡◌ {A = ℕ} 0 1 = nth_none W i less e in omega arith)
    one_counted (Some c) e less = counting_first plant (drop (suc i) W) c n ∙ one_more_counted plant W n i c e

-- What is counted so is a count.
pub all_counted_most : (plant : ℕ) (W : List Change) → ((c : Change) → In c W → well_formed c ≡ true) → (n : ℕ) → n ≤ count_of highest_name → counting_all plant W n ≤ count_of highest_name
all_counted_most plant [] formed n low = low
all_counted_most plant (c ∷ W) formed n low = counting_most plant c (formed c (inl refl)) _ (all_counted_most plant W (λ d i. formed d (inr i)) n low)
