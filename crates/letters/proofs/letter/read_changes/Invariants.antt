use Rattle.std.proofs.Common.{◌≡◌, ◌-◌, map, vec_items}
use Rattle.change.specs.Cursor.{lent, left}
use Rattle.change.specs.Reading.{change_of}
use Rattle.change.proofs.Several.{Going}
use Rattle.letters.specs.LetterRead.{change_in}
use Rattle.letters.proofs.LettersRead.{changes_of}
use Rattle.letters.proofs.letter.read_changes.Given as goal

abbrev pub invariant-loop : goal.invariant-loop
invariant-loop l =
    Going (λ _. change_of) (λ _. 0) (l.count - l.counter) 0 (left l.cursor) (map change_in (vec_items l.changes)) (changes_of l.count (left l.initial.cursor))
    × (lent l.cursor ≡ lent l.initial.cursor)
