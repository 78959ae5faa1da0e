use Rattle.console.proofs.Digits.{reads_back}
use Rattle.console.proofs.laws.hex_reads_back.Goals as goal

pub returns : goal.returns
returns c = reads_back
