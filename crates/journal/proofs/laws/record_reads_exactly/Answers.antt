use Rattle.journal.proofs.Codec.{record_reads_exactly}
use Rattle.journal.proofs.laws.record_reads_exactly.Goals as goal

pub returns : goal.returns
returns c = record_reads_exactly
