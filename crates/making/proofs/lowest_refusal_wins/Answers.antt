use Rattle.making.proofs.Lowest.{lowest_wins}
use Rattle.making.proofs.lowest_refusal_wins.Goals as goal

pub returns : goal.returns
returns c = lowest_wins
