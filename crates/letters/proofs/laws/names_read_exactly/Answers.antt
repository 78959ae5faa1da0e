use Rattle.letters.proofs.Codec.{names_read_exactly}
use Rattle.letters.proofs.laws.names_read_exactly.Goals as goal

pub returns : goal.returns
returns c = names_read_exactly
