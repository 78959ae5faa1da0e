use Rattle.std.proofs.Common.{◌++◌, vec_items, ap, ◌∙◌, arith}
use Rattle.std.specs.List.{flat_map}
use Rattle.std.proofs.lemmas.List.Elements.{All-get_or}
use Rattle.std.proofs.lemmas.List.{take_all}
use Rattle.change.proofs.Appended.{one_more_written}
use Rattle.answers.specs.Lines.{listed_line, TextInside}
use Rattle.answers.proofs.listed_lines.each_line.Goals as goal

pub listed_line-requires : goal.listed_line-requires
listed_line-requires c = All-get_or (TextInside c.args.texts.now) c.args.lines.now c.loop-line.line-index _ (omega arith) c.requires

pub loop-line-preserved : goal.loop-line-preserved
loop-line-preserved c =
    one_more_written (listed_line c.args.texts.now) _ c.args.lines.now c.loop-line.line-index _ c.loop-line.invariant _ _ (omega arith) c.in_ok-listed_line.ensures

pub returns : goal.returns
returns c =
    c.loop-line.invariant
    ∙ ap (λ lines. vec_items c.args.out.now ++ flat_map (listed_line c.args.texts.now) lines) (take_all c.loop-line.line-index c.args.lines.now (omega arith))
