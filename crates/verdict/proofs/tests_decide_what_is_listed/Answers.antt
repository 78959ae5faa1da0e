use Rattle.verdict.proofs.Fitting.{listed_decided}
use Rattle.verdict.proofs.tests_decide_what_is_listed.Goals as goal

pub returns : goal.returns
returns c = listed_decided
