-- What is not found stands before nothing, and nothing before it; the order of two slots is that of their lines.
use Rattle.std.proofs.Common.{sym, ◌∙◌}
use Rattle.lines.proofs.Agreeing.{not_found_is_absent, absent_before_none, none_before_absent, order_of_found}
use Rattle.lines.proofs.Lines.before.Goals as goal

pub returns-in_default : goal.returns-in_default
returns-in_default c Q keeps good = sym (absent_before_none Q _ _ good (not_found_is_absent keeps _ c.in_default.ensures))

pub returns-in_default-slot_of : goal.returns-in_default-slot_of
returns-in_default-slot_of c Q keeps good = sym (none_before_absent Q _ _ good (not_found_is_absent keeps _ c.in_default-slot_of.ensures))

pub returns : goal.returns
returns c Q keeps good = c.before-2.ensures ∙ order_of_found keeps _ _ _ _ c.in-Some.ensures c.in-Some-slot_of.ensures
