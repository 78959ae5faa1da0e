use Rattle.making.proofs.Meaning.{missing_is_unknown}
use Rattle.making.proofs.missing_means_unknown.Goals as goal

pub returns : goal.returns
returns c = missing_is_unknown
