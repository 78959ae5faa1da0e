-- Making a change on a book as it is: the change that a request comes to, and the refusals that stand in its way.
-- is_foreign B u: u is neither an edge nor a line of the request itself, whose change gets the next name. foreign_lines B r: such lines that r names.
-- needs_of B r: the changes that they come from. change_for B r: the change that r comes to. holds B r e: the refusal e holds of r. refusal B r: the first that does, by its number.
-- make B r: the change, unless it is refused. made B r: what taking it into the book comes to, unless it is refused; where it is, nothing alters.
-- Assumes nothing.
use Rattle.std.specs.Prelude.{ℕ, Bool, true, false, cond, not, ◌&&◌, ◌||◌, List, [], ◌∷◌, map, length, Some, None, Ok, Err, filter, Option, Result, ◌==◌, nat_le, nat_lt}
use Rattle.std.specs.List.{list_all, list_any}
use Rattle.change.specs.declared.refusal.Refusal.{Refusal}
use Rattle.change.specs.declared.refusal.Refusal.TheVariants.{Malformed, Known, Unrelated, Unordered, Full, Needed, Missing, Exhausted, Misplaced}
use Rattle.change.specs.Model.{Change, count_of, bringer}
use Rattle.change.specs.WellFormed.{is_byte, is_add, is_line, highest_name}
use Rattle.order.specs.Order.{Put, puts}
use Rattle.order.specs.Table.{step, bef, placed}
use Rattle.verdict.specs.FromNeeds.{adds_line}
use Rattle.verdict.specs.Verdict.{is_named, all_named}
use Rattle.history.specs.declared.Event.{Event}
use Rattle.history.specs.Book.{Book, has_room, next_count, next_name}
use Rattle.history.specs.Taking.{take}
use Rattle.making.specs.Request.{Request, named_lines}
use Rattle.making.specs.Sorted.{sorted}

abbrev pub is_edge : ℕ → Bool
is_edge u = nat_lt u 2

abbrev pub is_foreign : Book → ℕ → Bool
is_foreign B u = not (is_edge u || bringer u == next_name B)

abbrev pub foreign_lines : Book → Request → List ℕ
foreign_lines B r = filter (is_foreign B) (named_lines r)

abbrev pub needs_of : Book → Request → List ℕ
needs_of B r = sorted (map bringer (foreign_lines B r))

abbrev pub change_for : Book → Request → Change
change_for B r = record { name = next_name B; sheet = r.sheet; needs = needs_of B r; adds = r.adds; kills = sorted r.kills }

-- its texts are texts, and its numbers in range
abbrev pub is_written : Request → Bool
is_written r = is_byte r.sheet && (list_all is_add r.adds && list_all is_line r.kills)

-- no change of another sheet adds this line
abbrev pub is_of_sheet : Book → ℕ → ℕ → Bool
is_of_sheet B sheet u = list_all (λ d. not (adds_line d u) || d.sheet == sheet) B.changes

abbrev pub keeps_to_sheet : Book → Request → Bool
keeps_to_sheet B r = list_all (is_of_sheet B r.sheet) (named_lines r) && list_all (λ u. not (is_edge u)) r.kills

-- some change of the book adds this line
abbrev pub is_here : Book → ℕ → Bool
is_here B u = list_any (λ d. adds_line d u) B.changes

-- the puts of a change, one after the other, go between lines that stand so in the order R and by the puts before them; asked only where both lines are known
abbrev pub known_ordered : (ℕ → Bool) → (ℕ → ℕ → Bool) → List Put → List Put → Bool
known_ordered from R earlier [] = true
known_ordered from R earlier (p ∷ ps) =
    (not (is_named from earlier p.after && is_named from earlier p.before) || R p.after p.before)
    && known_ordered from (step R p) (p ∷ earlier) ps

abbrev pub keeps_limits : Book → Change → Bool
keeps_limits B c = nat_le (length c.needs) 32 && (nat_le (length c.adds) 64 && (nat_le (length c.kills) 64 && has_room B c))

-- each line that an add names is an edge, of an earlier add, or in the book; and each that is struck out is in the book
abbrev pub all_known : Book → Request → Bool
all_known B r = all_named (is_here B) [] (puts (change_for B r)) && list_all (is_here B) r.kills

abbrev pub holds : Book → Request → Refusal → Bool
holds B r Malformed = not (is_written r)
holds B r Known = false
holds B r Unrelated = not (keeps_to_sheet B r)
holds B r Unordered = not (known_ordered (is_here B) (bef (placed B.changes)) [] (puts (change_for B r)))
holds B r Full = not (keeps_limits B (change_for B r))
holds B r Needed = false
holds B r Missing = not (all_known B r)
holds B r Exhausted = nat_lt (count_of highest_name) (next_count B)
holds B r Misplaced = false

-- by their numbers
abbrev pub refusals : List Refusal
refusals = Malformed ∷ Known ∷ Unrelated ∷ Unordered ∷ Full ∷ Needed ∷ Missing ∷ Exhausted ∷ Misplaced ∷ []

abbrev pub first_of : (Refusal → Bool) → List Refusal → Option Refusal
first_of test [] = None
first_of test (e ∷ es) = cond (test e) (Some e) (first_of test es)

abbrev pub refusal : Book → Request → Option Refusal
refusal B r = first_of (holds B r) refusals

abbrev pub unless : {X : Type 0} → Option Refusal → X → Result X Refusal
unless None x = Ok x
unless (Some e) x = Err e

abbrev pub make : Book → Request → Result Change Refusal
make B r = unless (refusal B r) (change_for B r)

abbrev pub made : Book → Request → Result (List Event × Book) Refusal
made B r = unless (refusal B r) (take B (change_for B r))
