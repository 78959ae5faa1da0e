use Rattle.console.proofs.OneMeaning.{one_meaning}
use Rattle.console.proofs.laws.line_says_one_command.Goals as goal

pub returns : goal.returns
returns c = one_meaning
