use Rattle.change.proofs.Codec.{reads_exactly}
use Rattle.change.proofs.laws.reading_is_exact.Goals as goal

pub returns : goal.returns
returns c = reads_exactly
