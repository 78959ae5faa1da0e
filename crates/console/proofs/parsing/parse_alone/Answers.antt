use Rattle.console.proofs.NoMeaning.{no_word_alone}
use Rattle.console.proofs.parsing.parse_alone.Goals as goal

pub returns-in_default : goal.returns-in_default
returns-in_default c = no_word_alone c.args.word.now c.requires c.in_default.not-make c.in_default.not-have c.in_default.not-show c.in_default.not-lines
