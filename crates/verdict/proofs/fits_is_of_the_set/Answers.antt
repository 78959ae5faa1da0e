use Rattle.verdict.proofs.Alike.{fits_alike}
use Rattle.verdict.proofs.fits_is_of_the_set.Goals as goal

pub returns : goal.returns
returns c = fits_alike
