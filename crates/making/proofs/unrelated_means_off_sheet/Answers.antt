use Rattle.making.proofs.Meaning.{unrelated_is_off_sheet}
use Rattle.making.proofs.unrelated_means_off_sheet.Goals as goal

pub returns : goal.returns
returns c = unrelated_is_off_sheet
