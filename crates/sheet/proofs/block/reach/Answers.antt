use Rattle.table.specs.Held.{held}
use Rattle.sheet.proofs.Reaching.{reaches_past, reaches_no_further}
use Rattle.sheet.proofs.block.reach.Goals as goal

pub returns-in-Some : goal.returns-in-Some
returns-in-Some c = reaches_past (held c.args.table.now) c.args.walked.now c.args.place c.requires.within c.in-Some.last c.in-Some.ensures

pub returns-in-None : goal.returns-in-None
returns-in-None c = reaches_no_further (held c.args.table.now) c.args.walked.now c.args.place c.requires.within c.in-None.ensures
