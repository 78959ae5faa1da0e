use Rattle.drafts.specs.Asked.{asked_by}
use Rattle.desk.proofs.Desk.take_digits.Goals as goal

pub returns : goal.returns
returns c = c.take_digits.ensures (asked_by c.args.self.now.request)
