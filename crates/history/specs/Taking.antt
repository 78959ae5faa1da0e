-- Taking a change into a book (applying it), and taking one back (unapplying it): what it comes to, and the book after.
-- admitted B c: what becomes of c if all that it needs is there. verdict B c: what becomes of any c. lowest_ready B: the change that is tried next, of those that wait.
-- settled n B: n times, while there is one, the next change is tried. take B c: the events, that of c first, and the book after. is_free B n: the change n may be taken back.
-- taken_back B n: the book without the change n. take_back B n: that, if n is free, and else the book as it was.
-- Assumes nothing.
use Rattle.std.specs.Prelude.{ℕ, zero, suc, Bool, true, false, cond, not, ◌&&◌, ◌||◌, List, [], ◌∷◌, length, Some, None, filter, Option, nat_lt}
use Rattle.std.specs.List.{list_all}
use Rattle.change.specs.declared.refusal.Refusal.{Refusal}
use Rattle.change.specs.declared.refusal.Refusal.TheVariants.{Known, Unrelated, Unordered, Full}
use Rattle.change.specs.Model.{Change}
use Rattle.order.specs.Names.{has_name}
use Rattle.order.specs.Theorems.{without}
use Rattle.verdict.specs.FromNeeds.{is_among}
use Rattle.verdict.specs.Verdict.{is_known, is_related, is_ordered}
use Rattle.history.specs.declared.Outcome.{Outcome}
use Rattle.history.specs.declared.Outcome.TheVariants.{Taken, Waits, Refused}
use Rattle.history.specs.declared.Event.{Event}
use Rattle.history.specs.Book.{Book, wait_limit, has_room, is_ready, enter, wait, waits_no_more}

abbrev pub event : ℕ → Outcome → Event
event n o = record { name = record { 0 = n }; outcome = o }

-- this outcome, provided that a test passes; else it is refused
abbrev pub provided : Bool → Refusal → Outcome → Outcome
provided true r o = o
provided false r o = Refused r

abbrev pub admitted : Book → Change → Outcome
admitted B c =
    provided (is_related B.changes c) Unrelated
    (provided (is_ordered B.changes c) Unordered
    (provided (has_room B c) Full Taken))

abbrev pub verdict : Book → Change → Outcome
verdict B c =
    provided (not (is_known B.changes c || is_known B.waiting c)) Known
    (cond (is_ready B c) (admitted B c)
    (provided (nat_lt (length B.waiting) wait_limit) Full Waits))

-- the one with the lower name
abbrev pub lower : Change → Option Change → Option Change
lower c None = Some c
lower c (Some d) = cond (nat_lt d.name c.name) (Some d) (Some c)

abbrev pub lowest : List Change → Option Change
lowest [] = None
lowest (c ∷ S) = lower c (lowest S)

abbrev pub lowest_ready : Book → Option Change
lowest_ready B = lowest (filter (is_ready B) B.waiting)

-- the book after an outcome
abbrev pub after : Outcome → Book → Change → Book
after Taken B c = enter B c
after Waits B c = wait B c
after (Refused r) B c = B

-- a change that waited is taken, or turned away for good
abbrev pub tried : Book → Change → Book
tried B c = after (admitted B c) (waits_no_more B c.name) c

-- an event, and then those of what follows
abbrev pub followed : Event → List Event × Book → List Event × Book
followed e (es, B) = (e ∷ es, B)

abbrev pub try_then : (Book → List Event × Book) → Book → Option Change → List Event × Book
try_then next B None = ([], B)
try_then next B (Some c) = followed (event c.name (admitted B c)) (next (tried B c))

abbrev pub settled : ℕ → Book → List Event × Book
settled zero B = ([], B)
settled (suc n) B = try_then (settled n) B (lowest_ready B)

-- how many changes there are to try after an outcome: once one came in, all that wait may become ready
abbrev pub tries : Outcome → Book → ℕ
tries Taken B = length B.waiting
tries Waits B = 0
tries (Refused r) B = 0

abbrev pub taken_as : Outcome → Book → Change → List Event × Book
taken_as o B c = followed (event c.name o) (settled (tries o B) (after o B c))

abbrev pub take : Book → Change → List Event × Book
take B c = taken_as (verdict B c) B c

-- it is in the book, and no change there needs it
abbrev pub is_free : Book → ℕ → Bool
is_free B n = has_name B.changes n && list_all (λ d. not (is_among n d.needs)) B.changes

abbrev pub taken_back : Book → ℕ → Book
taken_back B n = record { plant = B.plant; highest = B.highest; changes = without n B.changes; waiting = B.waiting }

abbrev pub take_back : Book → ℕ → Book
take_back B n = cond (is_free B n) (taken_back B n) B
