use Rattle.std.proofs.Common.{◌++◌, vec_items, ap, ◌∙◌, arith}
use Rattle.std.specs.List.{flat_map}
use Rattle.std.proofs.lemmas.List.{take_all}
use Rattle.change.proofs.Appended.{one_more_written}
use Rattle.answers.specs.Lines.{event_line}
use Rattle.answers.proofs.event_lines.events.Goals as goal

pub loop-one-preserved : goal.loop-one-preserved
loop-one-preserved c = one_more_written event_line _ c.args.events.now c.loop-one.one-index _ c.loop-one.invariant _ _ (omega arith) c.in_ok-event.ensures

pub returns : goal.returns
returns c = c.loop-one.invariant ∙ ap (λ events. vec_items c.args.out.now ++ flat_map event_line events) (take_all c.loop-one.one-index c.args.events.now (omega arith))
