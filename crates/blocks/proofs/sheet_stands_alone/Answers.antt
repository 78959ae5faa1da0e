use Rattle.blocks.proofs.Sheets.{sheet_listed}
use Rattle.blocks.proofs.sheet_stands_alone.Goals as goal

pub returns : goal.returns
returns c = sheet_listed
