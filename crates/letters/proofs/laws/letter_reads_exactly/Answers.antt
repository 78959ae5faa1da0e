use Rattle.letters.proofs.Codec.{letter_reads_exactly}
use Rattle.letters.proofs.laws.letter_reads_exactly.Goals as goal

pub returns : goal.returns
returns c = letter_reads_exactly
