use Rattle.journal.proofs.Fronts.{front_opens}
use Rattle.journal.proofs.laws.front_of_a_file_opens.Goals as goal

pub returns : goal.returns
returns c = front_opens
