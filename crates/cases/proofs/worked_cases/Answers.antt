use Rattle.cases.proofs.Computed.{worked_cases}
use Rattle.cases.proofs.worked_cases.Goals as goal

pub returns : goal.returns
returns c = worked_cases
