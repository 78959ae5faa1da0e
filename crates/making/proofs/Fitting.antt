-- That a change which no refusal stands in the way of fits the book, and is taken.
-- Assumes nothing.
use Rattle.std.proofs.Common.{◌≡◌, ℕ, ◌<◌, ◌≤◌, true, false, leb, List, [], map, length, ◌∙◌, subst, inl, inr, arith}
use Rattle.std.proofs.lemmas.Bool.{and_parts, and_from, not-false, eq-eqb, ltb-false, leb-true, le-leb}
use Rattle.std.specs.List.{list_all}
use Rattle.change.specs.declared.refusal.Refusal.{Refusal}
use Rattle.change.specs.declared.refusal.Refusal.TheVariants.{Malformed, Unrelated, Unordered, Full, Missing, Exhausted}
use Rattle.change.specs.Membership.{In}
use Rattle.change.specs.Model.{Change, bringer}
use Rattle.change.specs.WellFormed.{well_formed, is_name, are_needs, are_kills, is_line, is_byte, is_add, lowest_name, highest_name, highest_line}
use Rattle.order.specs.Order.{Put, puts}
use Rattle.order.specs.Fits.{Fits}
use Rattle.order.proofs.Members.{in_left, in_right, in_either}
use Rattle.order.proofs.Numbers.{puts_range}
use Rattle.order.proofs.Fitting.{listed_sound}
use Rattle.order.proofs.OneName.{sound_one, has_name_lem}
use Rattle.verdict.specs.FromNeeds.{from_needs}
use Rattle.verdict.specs.Verdict.{needs_here, one_sheet, is_related, is_ordered, all_named}
use Rattle.verdict.proofs.FromNeeds.{decides_among}
use Rattle.history.specs.declared.Outcome.TheVariants.{Taken}
use Rattle.history.specs.Book.{Book, next_name, has_room}
use Rattle.history.specs.Taking.{verdict}
use Rattle.history.specs.Sane.{Sane}
use Rattle.history.proofs.Counts.{next_is_new}
use Rattle.history.proofs.Verdicts.{fits_by_tests, decides_room, taken_is_fits}
use Rattle.making.specs.Request.{Request, add_lines, named_lines}
use Rattle.making.specs.Making.{foreign_lines, change_for, is_here, holds}
use Rattle.making.specs.Known.{Adds, InBook}
use Rattle.making.proofs.Tests.{decides_each, decides_follows}
use Rattle.making.proofs.Sorted.{sorted_members, sorted_rises}
use Rattle.making.proofs.Needs.{needs_exactly}
use Rattle.making.proofs.InBook.{decides_in_book, adder_is_bringer, bringer_in_range, bringer_needed}
use Rattle.making.proofs.Meaning.{decides_on_sheet}
use Rattle.making.proofs.Adds.{named_otherwise, known_ordered_lem, all_from_elsewhere}

module _ (B : Book) (s : Sane B) (low : B.plant < 16) (r : Request) (none : (e : Refusal) → holds B r e ≡ false) where
  written : (is_byte r.sheet ≡ true) × (list_all is_add r.adds ≡ true) × ((u : ℕ) → In u r.kills → is_line u ≡ true)
  written =
      let (sheet, rest) = and_parts _ _ (not-false _ (none Malformed)) in
      let (adds, kills) = and_parts _ _ rest in
      (sheet, adds, (decides_each is_line r.kills).0 kills)

  limits : (leb (length (change_for B r).needs) 32 ≡ true) × (leb (length r.adds) 64 ≡ true) × (leb (length (change_for B r).kills) 64 ≡ true) × (has_room B (change_for B r) ≡ true)
  limits =
      let (needs, rest) = and_parts _ _ (not-false _ (none Full)) in
      let (adds, more) = and_parts _ _ rest in
      let (kills, room) = and_parts _ _ more in
      (needs, adds, kills, room)

  known : (all_named (is_here B) [] (puts (change_for B r)) ≡ true) × ((u : ℕ) → In u r.kills → is_here B u ≡ true)
  known = let (adds, kills) = and_parts _ _ (not-false _ (none Missing)) in (adds, (decides_each (is_here B) r.kills).0 kills)

  ordered : is_ordered B.changes (change_for B r) ≡ true
  ordered = known_ordered_lem (is_here B) _ [] (puts (change_for B r)) known.0 (not-false _ (none Unordered))

  own_lines : (p : Put) → In p (puts (change_for B r)) → bringer p.line ≡ next_name B
  own_lines p i = omega (arith, puts_range _ r.adds p i, leb-true _ _ limits.1)

  -- a need is in the book, since a line named that it adds is
  needed_line : (n : ℕ) → In n (change_for B r).needs → (u : ℕ) × In u (named_lines r) × InBook B u × (bringer u ≡ n)
  needed_line n i =
      let (u, named, high, other, e) = (needs_exactly B r n).0 i in
      let here : is_here B u ≡ true = elim (in_either (add_lines r.adds) r.kills u named) [
        | inl j ↦ all_from_elsewhere (is_here B) (next_name B) u high other _ r.adds [] (λ p k. absurd k) own_lines known.0 j
        | inr j ↦ known.1 u j
      ] in
      (u, named, (decides_in_book B s u).0 here, e)

  needs_present : needs_here B.changes (change_for B r) ≡ true
  needs_present =
      (decides_each _ _).1
      (λ n i. let (u, named, (d, j, a), e) = needed_line n i in (has_name_lem B.changes n).1 (d, j, adder_is_bringer B s d j u a ∙ e))

  formed : well_formed (change_for B r) ≡ true
  formed = and_from _ _ name (and_from _ _ written.0 (and_from _ _ needs (and_from _ _ (and_from _ _ limits.1 written.1) kills)))
    where
      name : is_name (next_name B) ≡ true
      name = and_from _ _ (le-leb lowest_name (next_name B) (omega arith)) (le-leb (next_name B) highest_name (omega (arith, ltb-false _ _ (none Exhausted))))

      range : (n : ℕ) → In n (change_for B r).needs → (lowest_name ≤ n) × (n ≤ highest_name)
      range n i = let (u, named, here, e) = needed_line n i in subst (λ m. (lowest_name ≤ m) × (m ≤ highest_name)) e (bringer_in_range B s u here)

      bringers : List ℕ
      bringers = map bringer (foreign_lines B r)

      needs : are_needs (change_for B r).needs ≡ true
      needs = and_from _ _ limits.0 (sorted_rises highest_name lowest_name bringers (λ n i. range n ((sorted_members bringers).1 n i)))

      kills : are_kills (change_for B r).kills ≡ true
      kills = and_from _ _ limits.2 (sorted_rises highest_line 0 r.kills (λ u i. (omega arith, leb-true _ _ (written.2 u i))))

  of_one_sheet : one_sheet B.changes (change_for B r) ≡ true
  of_one_sheet = (decides_each _ B.changes).1 (λ d i. (decides_follows _ _).1 (λ among. eq-eqb _ _ (same d i ((decides_among d.name (change_for B r).needs).0 among))))
    where
      same : (d : Change) → In d B.changes → In d.name (change_for B r).needs → d.sheet ≡ r.sheet
      same d i need =
          let (u, named, (x, j, a), e) = needed_line d.name need in
          let one = sound_one B.changes (listed_sound B.changes s.orderly.listed) x d j i (adder_is_bringer B s x j u a ∙ e) in
          ((decides_on_sheet B s r).0 (not-false _ (none Unrelated))).0 u named d i (subst (λ y. Adds y u) one a)

  -- what the book has comes from the needs
  come_from_needs : (u : ℕ) → In u (named_lines r) → is_here B u ≡ true → from_needs B.changes (change_for B r) u ≡ true
  come_from_needs u i h = and_from _ _ ((decides_among (bringer u) (change_for B r).needs).1 (bringer_needed B s low r u i ((decides_in_book B s u).0 h))) h

  related : is_related B.changes (change_for B r) ≡ true
  related =
      and_from _ _ of_one_sheet
      (and_from _ _ (named_otherwise (is_here B) _ _ r.adds [] (λ u i. come_from_needs u (in_left (add_lines r.adds) r.kills u i)) known.0)
      ((decides_each _ _).1 (λ u i. let j = (sorted_members r.kills).0 u i in come_from_needs u (in_right (add_lines r.adds) r.kills u j) (known.1 u j))))

  pub fits_book : Fits B.changes (change_for B r)
  fits_book = fits_by_tests B.changes s.orderly.listed (change_for B r) formed (next_is_new B s low).0 needs_present related ordered

  pub is_taken : verdict B (change_for B r) ≡ Taken
  is_taken = (taken_is_fits B s (change_for B r) formed).1 (fits_book, (next_is_new B s low).1, (decides_room B (change_for B r)).0 limits.3)
