-- That nothing is refused without need: no refusal stands in the way of a change that is well formed and that the book takes.
-- Assumes nothing.
use Rattle.std.proofs.Common.{◌≡◌, ℕ, ◌<◌, true, false, leb, [], length, sym, refl, subst, arith}
use Rattle.std.proofs.lemmas.Bool.{and_parts, and_from, not_from_true, eqb-true, leb-true, le-leb, le-ltb}
use Rattle.std.specs.List.{list_all}
use Rattle.change.specs.declared.refusal.Refusal.{Refusal}
use Rattle.change.specs.declared.refusal.Refusal.TheVariants.{Malformed, Known, Unrelated, Unordered, Full, Needed, Missing, Exhausted, Misplaced}
use Rattle.change.specs.Membership.{In}
use Rattle.change.specs.Model.{Change}
use Rattle.change.specs.WellFormed.{well_formed, is_name, is_byte, is_line, are_needs, are_adds, are_kills, highest_name, highest_line}
use Rattle.order.specs.Order.{puts}
use Rattle.verdict.specs.FromNeeds.{from_needs}
use Rattle.verdict.specs.Verdict.{one_sheet, all_named, is_related, is_ordered}
use Rattle.verdict.proofs.FromNeeds.{decides_among}
use Rattle.history.specs.declared.Outcome.TheVariants.{Taken}
use Rattle.history.specs.Book.{Book, has_room, next_name}
use Rattle.history.specs.Taking.{verdict}
use Rattle.history.specs.Sane.{Sane}
use Rattle.history.proofs.Outcomes.{admitted_passes}
use Rattle.history.proofs.Verdicts.{taken_tests}
use Rattle.making.specs.Request.{Request, named_lines}
use Rattle.making.specs.Making.{change_for, is_written, keeps_to_sheet, keeps_limits, is_here, all_known, holds}
use Rattle.making.specs.Known.{Adds}
use Rattle.making.specs.Theorems.{MadeIfTaken}
use Rattle.making.proofs.Tests.{decides_each, decides_follows}
use Rattle.making.proofs.Sorted.{sorted_members, rising_most}
use Rattle.making.proofs.Lowest.{made_unless_refused}
use Rattle.making.proofs.InBook.{decides_in_book, adder_is_bringer, bringer_needed, not_edge}
use Rattle.making.proofs.Meaning.{decides_on_sheet}
use Rattle.making.proofs.Adds.{named_otherwise, ordered_known}
use Rattle.making.proofs.Fitting.{fits_book, is_taken}

module _ (B : Book) (s : Sane B) (low : B.plant < 16) (r : Request) (formed : well_formed (change_for B r) ≡ true) (taken : verdict B (change_for B r) ≡ Taken) where
  parts : (is_name (next_name B) ≡ true) × (is_byte r.sheet ≡ true) × (are_needs (change_for B r).needs ≡ true) × (are_adds r.adds ≡ true) × (are_kills (change_for B r).kills ≡ true)
  parts =
      let (name, rest) = and_parts _ _ formed in
      let (sheet, more) = and_parts _ _ rest in
      let (needs, last) = and_parts _ _ more in
      let (adds, kills) = and_parts _ _ last in
      (name, sheet, needs, adds, kills)

  passed : (is_related B.changes (change_for B r) ≡ true) × (is_ordered B.changes (change_for B r) ≡ true) × (has_room B (change_for B r) ≡ true)
  passed = admitted_passes B (change_for B r) (taken_tests B (change_for B r) taken).2

  related :
      (one_sheet B.changes (change_for B r) ≡ true) × (all_named (from_needs B.changes (change_for B r)) [] (puts (change_for B r)) ≡ true)
      × (list_all (from_needs B.changes (change_for B r)) (change_for B r).kills ≡ true)
  related =
      let (sheet, rest) = and_parts _ _ passed.0 in
      let (adds, kills) = and_parts _ _ rest in
      (sheet, adds, kills)

  kills_here : (u : ℕ) → In u r.kills → is_here B u ≡ true
  kills_here u i = (and_parts _ _ ((decides_each _ _).0 related.2 u ((sorted_members r.kills).1 u i))).1

  written : is_written r ≡ true
  written =
      and_from _ _ parts.1
      (and_from _ _ (and_parts _ _ parts.3).1
      ((decides_each is_line r.kills).1 (λ u i. le-leb _ _ (rising_most highest_line 0 _ (and_parts _ _ parts.4).1 u ((sorted_members r.kills).1 u i)))))

  on_sheet : keeps_to_sheet B r ≡ true
  on_sheet = (decides_on_sheet B s r).1 (same, λ u i. not_edge B s u ((decides_in_book B s u).0 (kills_here u i)))
    where
      same : (u : ℕ) → In u (named_lines r) → (d : Change) → In d B.changes → Adds d u → d.sheet ≡ r.sheet
      same u i d j a =
          let need = subst (λ n. In n (change_for B r).needs) (sym (adder_is_bringer B s d j u a)) (bringer_needed B s low r u i (d, j, a)) in
          eqb-true _ _ ((decides_follows _ _).0 ((decides_each _ B.changes).0 related.0 d j) ((decides_among _ _).1 need))

  within_limits : keeps_limits B (change_for B r) ≡ true
  within_limits =
      let (needs, _) = and_parts (leb (length (change_for B r).needs) 32) _ parts.2 in
      let (adds, _) = and_parts (leb (length r.adds) 64) _ parts.3 in
      let (kills, _) = and_parts (leb (length (change_for B r).kills) 64) _ parts.4 in
      and_from _ _ needs (and_from _ _ adds (and_from _ _ kills passed.2))

  known : all_known B r ≡ true
  known =
      and_from _ _ (named_otherwise (from_needs B.changes (change_for B r)) (is_here B) _ r.adds [] (λ u i h. (and_parts _ _ h).1) related.1)
      ((decides_each _ _).1 kills_here)

  none_holds : (e : Refusal) → holds B r e ≡ false
  none_holds Malformed = not_from_true _ written
  none_holds Known = refl
  none_holds Unrelated = not_from_true _ on_sheet
  none_holds Unordered = not_from_true _ (ordered_known (is_here B) _ [] (puts (change_for B r)) passed.1)
  none_holds Full = not_from_true _ within_limits
  none_holds Needed = refl
  none_holds Missing = not_from_true _ known
  none_holds Exhausted = le-ltb _ _ (omega (arith, leb-true (next_name B) highest_name (and_parts _ _ parts.0).1))
  none_holds Misplaced = refl

pub made_if_taken : MadeIfTaken
made_if_taken B s low r = (
  λ p. let none = (made_unless_refused B r).0 p in ((fits_book B s low r none).formed, is_taken B s low r none),
  λ (formed, taken). (made_unless_refused B r).1 (none_holds B s low r formed taken),
)
