use Rattle.std.proofs.Common.{◌≡◌, ◌-◌, [], ◌∷◌, sym, subst, arith}
use Rattle.std.specs.List.{flat_map}
use Rattle.change.specs.Viewed.{viewed}
use Rattle.lines.specs.Lines.{numbers_of}
use Rattle.store.specs.Kept.{kept}
use Rattle.display.specs.Added.{added_by, sparing}
use Rattle.display.specs.Gathered.{Gives}
use Rattle.display.proofs.Backwards.{sheet_from, none_from_end, one_further, same_further, sparing_one_more}
use Rattle.display.proofs.Slots.{line_has_slot, change_is_held}
use Rattle.display.proofs.Sure.{held}
use Rattle.display.proofs.Sheets.living_lines.Goals as goal

pub push_change-requires : goal.push_change-requires
push_change-requires c =
    let store = c.args.self.now.store.now in
    let change = viewed c.in-Some.view in
    line_has_slot store c.args.self.now.lines.now (held c.args.self.now) change (change_is_held c.args.sheet.0 (kept store) (c.loop-place.place - 1) change c.in-Some.ensures)

pub loop-place-init : goal.loop-place-init
loop-place-init c =
    let none = none_from_end c.args.sheet.0 (kept c.args.self.now.store.now) c.len-place.result (omega arith) in
    subst (λ S. Gives (numbers_of c.args.self.now.lines.now) c.new-living.result (sparing c.args.killed.now.lines.now (flat_map added_by S))) (sym none) (c.new-living.ensures (numbers_of c.args.self.now.lines.now))

pub loop-place-preserved-in-Continue-1 : goal.loop-place-preserved-in-Continue-1
loop-place-preserved-in-Continue-1 c =
    let n = c.args.sheet.0 in
    let cs = kept c.args.self.now.store.now in
    let place = c.loop-place.place in
    let change = viewed c.in-Some.view in
    subst (Gives (numbers_of c.args.self.now.lines.now) c.push_change.new.living)
    (sym (sparing_one_more c.args.killed.now.lines.now (sheet_from n cs place) _ change (one_further n cs place (change ∷ []) c.loop-place-test.true c.in-Some.ensures)))
    (c.in_ok-push_change.ensures _ c.loop-place.invariant)

pub loop-place-preserved : goal.loop-place-preserved
loop-place-preserved c =
    let same = same_further c.args.sheet.0 (kept c.args.self.now.store.now) c.loop-place.place c.loop-place-test.true c.in_default.ensures in
    subst (λ S. Gives (numbers_of c.args.self.now.lines.now) c.loop-place.living (sparing c.args.killed.now.lines.now (flat_map added_by S))) (sym same) c.loop-place.invariant

pub returns : goal.returns
returns c =
    let end : c.loop-place.place ≡ 0 = omega arith in
    subst (λ i. Gives (numbers_of c.args.self.now.lines.now) c.loop-place.living (sparing c.args.killed.now.lines.now (flat_map added_by (sheet_from c.args.sheet.0 (kept c.args.self.now.store.now) i)))) end c.loop-place.invariant
