use Rattle.std.proofs.Common.{vec_items, true-eqb, false-eqb}
use Rattle.std.specs.declared.alloc.Global.{Global}
use Rattle.std.proofs.lemmas.Result.{err_from_is_err_and}
use Rattle.change.specs.Cursor.{left}
use Rattle.letters.proofs.LettersRead.{faults_alike, left_over, read_whole}
use Rattle.letters.proofs.letter.read_letter.Goals as goal

pub returns-in_err-changes : goal.returns-in_err-changes
returns-in_err-changes c =
    let p = err_from_is_err_and c.from_residual-in_err-changes.result c.from_residual-in_err-changes.ensures.1 in
    rw (p.1, p.2)
    (faults_alike c.new-cursor.ensures.all c.in_ok-count.ensures.reads (vec_items {Z = Global}) (left c.read_changes.new.cursor) c.in_err-changes.field-0.0 c.in_err-changes.ensures.reads)

pub returns-then-not-is_done : goal.returns-then-not-is_done
returns-then-not-is_done c =
    left_over c.new-cursor.ensures.all c.in_ok-count.ensures.reads vec_items (left c.read_changes.new.cursor) c.in_ok-changes.changes c.in_ok-changes.ensures.reads (false-eqb _ 0 c.if-not-is_done.ensures)

pub returns : goal.returns
returns c =
    read_whole c.new-cursor.ensures.all c.in_ok-count.ensures.reads vec_items (left c.read_changes.new.cursor) c.in_ok-changes.changes c.in_ok-changes.ensures.reads (true-eqb _ 0 c.if-not-is_done.ensures)
