use Rattle.history.proofs.Verdicts.{taken_is_fits}
use Rattle.history.proofs.laws.taken_exactly_if_it_fits.Goals as goal

pub returns : goal.returns
returns c = taken_is_fits
