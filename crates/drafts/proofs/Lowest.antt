-- What the tests of a request come to: the refusal with the lowest number that holds, in every book with these changes and this next name.
-- Assumes nothing.
use Rattle.std.proofs.Common.{◌≡◌, ℕ, ◌<◌, Bool, true, false, cond, not, ltb, List, [], length, Some, None, Option, sym, ap, ◌∙◌, arith}
use Rattle.std.specs.Ordering.{nat_cmp, is_gt}
use Rattle.std.proofs.lemmas.Bool.{lt-ltb, le-ltb}
use Rattle.std.proofs.lemmas.Grind.{common_steps}
use Rattle.std.proofs.lemmas.Map.Keys.{le_from_not_gt}
use Rattle.change.specs.declared.refusal.Refusal.{Refusal}
use Rattle.change.specs.declared.refusal.Refusal.TheVariants.{Malformed, Unrelated, Unordered, Full, Missing, Exhausted}
use Rattle.change.specs.Model.{Change, count_of}
use Rattle.change.specs.WellFormed.{highest_name}
use Rattle.order.specs.Order.{puts}
use Rattle.order.specs.Table.{bef, placed}
use Rattle.history.specs.Book.{Book, next_count}
use Rattle.making.specs.Request.{Request}
use Rattle.making.specs.Making.{is_written, keeps_to_sheet, change_for, is_here, known_ordered, keeps_limits, all_known, refusal}
use Rattle.making.specs.Sorted.{sorted}
use Rattle.drafts.specs.Named.{needs_named, keeps_to_sheet_among, is_ordered_among, is_known_among}
use Rattle.drafts.specs.Refusing.{within_limits, Next}

-- the first of the tests that fails
abbrev pub first_failed : Bool → Bool → Bool → Bool → Bool → Option Refusal
first_failed sheet order limits known counted =
    cond (not sheet) (Some Unrelated) (cond (not order) (Some Unordered) (cond (not limits) (Some Full) (cond (not known) (Some Missing) (cond counted (Some Exhausted) None))))

refusal_by_tests : (B : Book) (r : Request) (sheet order limits known counted : Bool) → is_written r ≡ true → keeps_to_sheet B r ≡ sheet →
    known_ordered (is_here B) (bef (placed B.changes)) [] (puts (change_for B r)) ≡ order → keeps_limits B (change_for B r) ≡ limits → all_known B r ≡ known →
    ltb (count_of highest_name) (next_count B) ≡ counted → refusal B r ≡ first_failed sheet order limits known counted
refusal_by_tests B r sheet order limits known counted written is_sheet is_order is_limits is_known is_counted =
    λ i. cond (not (written i)) (Some Malformed) (first_failed (is_sheet i) (is_order i) (is_limits i) (is_known i) (is_counted i))

module _ (B : Book) (L : List Change) (n : ℕ) (next : Next B L n) (r : Request) where
  same_sheet : keeps_to_sheet B r ≡ keeps_to_sheet_among L r
  same_sheet = ap (λ M. keeps_to_sheet_among M r) next.changes

  same_order : known_ordered (is_here B) (bef (placed B.changes)) [] (puts (change_for B r)) ≡ is_ordered_among L n r
  same_order = λ i. is_ordered_among (next.changes i) (next.name i) r

  same_known : all_known B r ≡ is_known_among L n r
  same_known = λ i. is_known_among (next.changes i) (next.name i) r

  same_limits : (needs kills : ℕ) → needs ≡ length (needs_named n r) → kills ≡ length (sorted r.kills) → keeps_limits B (change_for B r) ≡ within_limits L needs (length r.adds) kills
  same_limits needs kills are_needs_lem are_kills =
      (λ i. within_limits (next.changes i) (length (needs_named (next.name i) r)) (length r.adds) (length (sorted r.kills)))
      ∙ (λ i. within_limits L (sym are_needs_lem i) (length r.adds) (sym are_kills i))

  same_count : next_count B ≡ count_of n
  same_count = omega (arith, next.name, next.plant)

  pub refusal_of_request : (sheet order limits known counted : Bool) (needs kills : ℕ) → is_written r ≡ true → keeps_to_sheet_among L r ≡ sheet → is_ordered_among L n r ≡ order →
      needs ≡ length (needs_named n r) → kills ≡ length (sorted r.kills) → within_limits L needs (length r.adds) kills ≡ limits → is_known_among L n r ≡ known →
      ltb (count_of highest_name) (count_of n) ≡ counted → refusal B r ≡ first_failed sheet order limits known counted
  refusal_of_request sheet order limits known counted needs kills written is_sheet is_order are_needs_lem are_kills is_limits is_known is_counted =
      refusal_by_tests B r sheet order limits known counted written (same_sheet ∙ is_sheet) (same_order ∙ is_order) (same_limits needs kills are_needs_lem are_kills ∙ is_limits) (same_known ∙ is_known)
      (ap (ltb (count_of highest_name)) same_count ∙ is_counted)

not_at_most : (a b : ℕ) → is_gt (nat_cmp a b) ≡ true → b < a
not_at_most a b gt = grind (arith, common_steps)

-- a name is past the highest where its count is past that of the highest
pub past_highest : (n : ℕ) (past : Bool) → is_gt (nat_cmp n highest_name) ≡ past → ltb (count_of highest_name) (count_of n) ≡ past
past_highest n true gt = let more = not_at_most n highest_name gt in lt-ltb (count_of highest_name) (count_of n) (omega arith)
past_highest n false gt = let most = le_from_not_gt n highest_name gt in le-ltb (count_of highest_name) (count_of n) (omega arith)
