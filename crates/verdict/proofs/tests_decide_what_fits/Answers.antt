use Rattle.verdict.proofs.Fitting.{fits_decided}
use Rattle.verdict.proofs.tests_decide_what_fits.Goals as goal

pub returns : goal.returns
returns c = fits_decided
