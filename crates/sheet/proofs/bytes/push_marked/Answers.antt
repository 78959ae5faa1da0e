use Rattle.std.proofs.Common.{[], ◌∷◌, ◌++◌, vec_items, ap, ◌∙◌, arith}
use Rattle.std.specs.List.{flat_map}
use Rattle.std.proofs.lemmas.List.{take_all}
use Rattle.change.proofs.Appended.{then_written, one_more_written}
use Rattle.change.proofs.Every.{every_at}
use Rattle.sheet.specs.Lines.{line_inside, no_line}
use Rattle.sheet.specs.Shown.{numbered_line}
use Rattle.sheet.proofs.bytes.push_marked.Goals as goal

pub push_numbered-requires : goal.push_numbered-requires
push_numbered-requires c = every_at (line_inside c.args.area.now) c.args.lines.now c.loop-line.line-index no_line c.requires (omega arith)

pub loop-line-preserved : goal.loop-line-preserved
loop-line-preserved c =
    one_more_written (numbered_line c.args.area.now) _ c.args.lines.now c.loop-line.line-index _ c.loop-line.invariant no_line _ (omega arith) c.in_ok-push_numbered.ensures

pub returns : goal.returns
returns c =
    let start = vec_items c.args.out.now in
    let lines = flat_map (numbered_line c.args.area.now) c.args.lines.now in
    let all = c.loop-line.invariant ∙ ap (λ ls. vec_items c.extend_from_slice.new.self ++ flat_map (numbered_line c.args.area.now) ls) (take_all c.loop-line.line-index c.args.lines.now (omega arith)) in
    then_written start (60 ∷ 60 ∷ 10 ∷ lines) (62 ∷ 62 ∷ 10 ∷ []) (then_written start (60 ∷ 60 ∷ 10 ∷ []) lines c.in_ok-extend_from_slice.ensures.items all) c.in_ok-extend_from_slice-2.ensures.items
