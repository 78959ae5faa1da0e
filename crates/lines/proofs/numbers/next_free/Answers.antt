-- Where a slot is free from here on, the first such is found, and the others are behind it.
use Rattle.std.proofs.Common.{sym, refl, ◌∙◌}
use Rattle.lines.proofs.Counts.{is_ahead, is_the_first}
use Rattle.lines.proofs.numbers.next_free.Goals as goal

pub unwrap-requires : goal.unwrap-requires
unwrap-requires c = rw (c.first_free.ensures ∙ is_ahead c.args.numbers.now c.args.from c.requires) refl

pub returns-clause-free : goal.returns-clause-free
returns-clause-free c =
    (is_the_first c.args.numbers.now c.args.from c.requires c.unwrap.result (sym c.unwrap.ensures ∙ c.first_free.ensures ∙ is_ahead c.args.numbers.now c.args.from c.requires)).0

pub returns-clause-rest : goal.returns-clause-rest
returns-clause-rest c =
    (is_the_first c.args.numbers.now c.args.from c.requires c.unwrap.result (sym c.unwrap.ensures ∙ c.first_free.ensures ∙ is_ahead c.args.numbers.now c.args.from c.requires)).1
