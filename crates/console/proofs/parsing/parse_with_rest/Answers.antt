use Rattle.console.proofs.NoMeaning.{no_word_before_rest}
use Rattle.console.proofs.parsing.parse_with_rest.Goals as goal

pub returns-in_default : goal.returns-in_default
returns-in_default c =
    no_word_before_rest c.args.word.now c.requires c.args.rest.now c.in_default.not-sheet c.in_default.not-add c.in_default.not-kill c.in_default.not-back c.in_default.not-take c.in_default.not-send
