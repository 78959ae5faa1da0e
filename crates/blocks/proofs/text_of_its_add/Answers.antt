use Rattle.blocks.proofs.Texts.{text_of_add}
use Rattle.blocks.proofs.text_of_its_add.Goals as goal

pub returns : goal.returns
returns c = text_of_add
