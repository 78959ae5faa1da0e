use Rattle.world.proofs.Taken.{takes_what_is_meant}
use Rattle.world.proofs.bytes_are_taken_as_meant.Goals as goal

pub returns : goal.returns
returns c = takes_what_is_meant
