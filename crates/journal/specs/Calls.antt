-- What the calls on a book write to its file.
-- written B A: the bytes of the changes that came in on the way from the book B to the book A, the oldest first. Call: a change is made, bytes are taken, a change is taken back. asked B call: what the call comes to.
-- appended B call A: what a call that has made A of B writes behind the file. Moment: a book, and its file. called m call, called_all m calls: the moment after a call, and after all of them. begun plant: a book without changes, and its file without bytes.
-- Assumes nothing.
use Rattle.std.specs.Prelude.{ℕ, List, [], ◌∷◌, ◌++◌, reverse, length, drop, Ok, Err}
use Rattle.std.specs.List.{flat_map}
use Rattle.change.specs.Bytes.{change_bytes}
use Rattle.history.specs.Book.{Book, empty}
use Rattle.making.specs.Request.{Request}
use Rattle.making.specs.Making.{made}
use Rattle.world.specs.Calls.{Done, take_bytes, take_back_done}
use Rattle.journal.specs.Record.{went_bytes}

abbrev pub written : Book → Book → List ℕ
written B A = flat_map change_bytes (drop (length B.changes) (reverse A.changes))

pub data Call : Type 0 where
  to_make : Request → Call
  to_take : List ℕ → Call
  to_take_back : ℕ → Call

abbrev pub asked : Book → Call → Done
asked B (to_make r) = made B r
asked B (to_take bytes) = take_bytes B bytes
asked B (to_take_back n) = take_back_done B n

abbrev pub appended : Book → Call → Book → List ℕ
appended B (to_make r) A = written B A
appended B (to_take bytes) A = written B A
appended B (to_take_back n) A = went_bytes n

pub record Moment : Type 0 where
  pub book : Book
  pub file : List ℕ

-- what is refused leaves both as they were
abbrev pub concluded : Moment → Call → Done → Moment
concluded m call (Ok (es, A)) = record { book = A; file = m.file ++ appended m.book call A }
concluded m call (Err e) = m

abbrev pub called : Moment → Call → Moment
called m call = concluded m call (asked m.book call)

abbrev pub called_all : Moment → List Call → Moment
called_all m [] = m
called_all m (call ∷ calls) = called_all (called m call) calls

abbrev pub begun : ℕ → Moment
begun plant = record { book = empty plant; file = [] }
