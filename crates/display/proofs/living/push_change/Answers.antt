use Rattle.std.proofs.Common.{◌+◌, ◌<◌, ◌++◌, length, take, sym, ap, ◌∙◌, subst, arith, take_all}
use Rattle.std.specs.Option.{option_map}
use Rattle.change.specs.Few.{listed}
use Rattle.change.specs.Viewed.{viewed}
use Rattle.order.proofs.Members.{in_get_or}
use Rattle.lines.specs.Lines.{numbers_of}
use Rattle.lines.specs.Numbers.{Finds}
use Rattle.display.specs.Added.{added_by, sparing}
use Rattle.display.specs.Gathered.{HasSlot, Gives}
use Rattle.display.proofs.Adding.{no_line, length_lines, few_adds, name_most, line_at, text_at_lem, line_pushed, line_left_out, found_where_it_has_one, some_if_mapped}
use Rattle.display.proofs.living.push_change.Goals as goal
use Rattle.display.proofs.living.push_change.Goals.{then-spares+in_ok-push, else-spares}

pub line-line-requires : goal.line-line-requires
line-line-requires c =
    let v = c.args.view.now in
    record { name = name_most (viewed v) v.well; place = omega (arith, few_adds v, ap length c.as_slice-place-end.ensures) }

pub unwrap-slot-requires : goal.unwrap-slot-requires
unwrap-slot-requires c =
    let view = c.args.view.now in
    let k = c.loop-place.place in
    let ns = numbers_of c.args.lines.now in
    let less : k < length (listed view.adds) = omega (arith, ap length c.as_slice-place-end.ensures) in
    let has = c.requires _ (in_get_or (added_by (viewed view)) k no_line (omega (arith, length_lines view))) in
    found_where_it_has_one ns _ c.slot_of.result c.slot_of.ensures (subst (λ p. HasSlot ns p.0) (line_at view k c.line-line.result.0 c.line-line.ensures less) has)

pub unwrap-text-requires : goal.unwrap-text-requires
unwrap-text-requires c =
    let less : c.loop-place.place < length (listed c.args.view.now.adds) = omega (arith, ap length c.as_slice-place-end.ensures) in
    some_if_mapped (λ s. s.now) c.text.result _ (c.text.ensures ∙ text_at_lem c.args.view.now c.loop-place.place less)

pub loop-place-preserved : goal.loop-place-preserved
loop-place-preserved c ps gives =
    let view = c.args.view.now in
    let k = c.loop-place.place in
    let ks = c.args.killed.now.lines.now in
    let ns = numbers_of c.args.lines.now in
    let more = ps ++ sparing ks (take (k + 1) (added_by (viewed view))) in
    let less : k < length (listed view.adds) = omega (arith, ap length c.as_slice-place-end.ensures) in
    elim c.if-spares.branch [
      | then-spares+in_ok-push w ↦
          let text = sym w.text.ensures ∙ ap (option_map (λ s. s.now)) w.unwrap-text.ensures in
          let found = subst (Finds ns c.line-line.result.0) w.unwrap-slot.ensures w.slot_of.ensures in
          subst (λ g. Gives ns g more) (sym w.living-is)
          (subst (Gives ns w.push.new.self) (line_pushed view k c.line-line.result.0 c.line-line.ensures less ks ps w.unwrap-text.result.now text (sym c.spares.ensures ∙ w.if-spares.true))
          (w.in_ok-push.ensures ns _ (c.loop-place.invariant ps gives) found))
      | else-spares w ↦
          subst (λ g. Gives ns g more) (sym w.living-is)
          (subst (Gives ns c.loop-place.living) (line_left_out view k c.line-line.result.0 c.line-line.ensures less ks ps (sym c.spares.ensures ∙ w.if-spares.false)) (c.loop-place.invariant ps gives))
    ]

pub returns : goal.returns
returns c ps gives =
    let view = c.args.view.now in
    let all = added_by (viewed view) in
    subst (λ l. Gives (numbers_of c.args.lines.now) c.loop-place.living (ps ++ sparing c.args.killed.now.lines.now l))
    (take_all c.loop-place.place all (omega (arith, length_lines view, ap length c.as_slice-place-end.ensures))) (c.loop-place.invariant ps gives)
