use Rattle.settling.proofs.Leading.{some_line_leads}
use Rattle.settling.proofs.some_line_leads_to_a_conflict.Goals as goal

pub returns : goal.returns
returns c = some_line_leads
