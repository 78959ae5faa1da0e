use Rattle.making.proofs.Made.{made_fits}
use Rattle.making.proofs.made_change_fits.Goals as goal

pub returns : goal.returns
returns c = made_fits
