use Rattle.std.proofs.Common.{◌-◌, length}
use Rattle.sheet.proofs.block.+block_end.Given as goal

abbrev pub decreases-block_end : goal.decreases-block_end
decreases-block_end l = length l.walked.now - l.place
