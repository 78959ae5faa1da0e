-- Records replayed: the book that they lead to.
-- replayed B r: the book after the record r, which must be able to follow what B has: a change that B takes at once, or one that may be taken back. replayed_all B rs: the book after all of rs.
-- Assumes nothing.
use Rattle.std.specs.Prelude.{cond, List, [], ◌∷◌, Ok, Err, Result}
use Rattle.change.specs.declared.refusal.Refusal.{Refusal}
use Rattle.change.specs.declared.refusal.Refusal.TheVariants.{Misplaced}
use Rattle.history.specs.declared.Outcome.{Outcome}
use Rattle.history.specs.declared.Outcome.TheVariants.{Taken, Waits, Refused}
use Rattle.history.specs.Book.{Book, enter}
use Rattle.history.specs.Taking.{verdict, is_free, taken_back}
use Rattle.journal.specs.Record.{Record, came, went}

abbrev pub if_taken : Outcome → Book → Result Book Refusal
if_taken Taken A = Ok A
if_taken Waits A = Err Misplaced
if_taken (Refused r) A = Err Misplaced

abbrev pub replayed : Book → Record → Result Book Refusal
replayed B (came c) = if_taken (verdict B c) (enter B c)
replayed B (went n) = cond (is_free B n) (Ok (taken_back B n)) (Err Misplaced)

abbrev pub onward : Result Book Refusal → (Book → Result Book Refusal) → Result Book Refusal
onward (Ok A) next = next A
onward (Err e) next = Err e

abbrev pub replayed_all : Book → List Record → Result Book Refusal
replayed_all B [] = Ok B
replayed_all B (r ∷ rs) = onward (replayed B r) (λ A. replayed_all A rs)
