use Rattle.std.proofs.Common.{◌≡◌, ◌+◌, ◌-◌, ◌/◌, true, leb, length, sym, ◌∙◌, arith}
use Rattle.change.specs.WellFormed.{rising, lowest_name, highest_name}
use Rattle.change.proofs.Tests.{and_true}
use Rattle.letters.specs.declared.names.Names.{Names}
use Rattle.letters.specs.Names.{names_limit}
use Rattle.letters.specs.NamesView.{names_in}
use Rattle.letters.proofs.Halving.{among_at, all_lower, all_higher, found_nowhere}
use Rattle.letters.proofs.names.Names.has.Goals as goal

names_rise : (v : Names) → rising lowest_name highest_name (names_in v) ≡ true
names_rise v = (and_true (leb (length (names_in v)) names_limit) _ v.named).1

pub returns-then-number-name : goal.returns-then-number-name
returns-then-number-name c =
    let middle = c.loop-low.low + (c.loop-low.high - c.loop-low.low) / 2 in
    sym (among_at c.args.name.0 (names_in c.args.self.now) middle (omega (arith, c.loop-low.invariant.2)) (sym c.number-number.ensures ∙ c.if-number-name.true))

pub loop-low-preserved-then-number-name-2 : goal.loop-low-preserved-then-number-name-2
loop-low-preserved-then-number-name-2 c =
    let v = c.args.self.now in
    let middle = c.loop-low.low + (c.loop-low.high - c.loop-low.low) / 2 in (
      all_lower lowest_name highest_name (names_in v) (names_rise v) c.args.name.0 middle (omega (arith, c.loop-low.invariant.2)) (omega arith),
      c.loop-low.invariant.1,
      c.loop-low.invariant.2,
    )

pub loop-low-preserved : goal.loop-low-preserved
loop-low-preserved c =
    let v = c.args.self.now in
    let middle = c.loop-low.low + (c.loop-low.high - c.loop-low.low) / 2 in (
      c.loop-low.invariant.0,
      all_higher lowest_name highest_name (names_in v) (names_rise v) c.args.name.0 middle (omega (arith, c.loop-low.invariant.2)) (omega (arith, c.if-number-name.false)),
      omega (arith, c.loop-low.invariant.2),
    )

pub returns : goal.returns
returns c = sym (found_nowhere c.args.name.0 (names_in c.args.self.now) c.loop-low.low c.loop-low.high c.loop-low-test.false c.loop-low.invariant.0 c.loop-low.invariant.1)
