use Rattle.std.proofs.lemmas.Result.{IfOk-weaker}
use Rattle.table.specs.Held.{held}
use Rattle.sheet.proofs.Members.{within_from_all}
use Rattle.sheet.proofs.Walking.{walked_is_walk}
use Rattle.sheet.proofs.walk.walked.Goals as goal

pub returns-clause-only : goal.returns-clause-only
returns-clause-only c = IfOk-weaker c.walked.result _ _ (λ v all. within_from_all v.items c.args.lines.now all) c.walked.ensures.among

pub returns-clause-is : goal.returns-clause-is
returns-clause-is c =
    IfOk-weaker c.walked.result _ _ (λ v walks before orders. walked_is_walk (held c.args.table.now) before v.items c.args.lines.now walks c.requires.distinct orders) c.walked.ensures.walks
