use Rattle.drafts.specs.Asked.{asked_by}
use Rattle.conflicts.specs.Drafting.{text_of_line}
use Rattle.conflicts.proofs.Drafted.{Drafting}
use Rattle.conflicts.proofs.drafting.request_piece.Given as goal

abbrev pub invariant-loop-place : goal.invariant-loop-place
invariant-loop-place l =
    Drafting (text_of_line l.conflict) l.conflict.ends.before.0 l.initial.last.0 l.name.0 l.piece l.fn.sheet.0 l.place (asked_by l.request) l.last.0
