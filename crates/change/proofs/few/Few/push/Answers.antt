use Rattle.std.proofs.Common.{rules}
use Rattle.std.proofs.lemmas.List.{take_more_set}
use Rattle.change.proofs.few.Few.push.Goals as goal

pub returns : goal.returns
returns g c = record { test = search rules; items = search (rules, take_more_set); count = search rules }
