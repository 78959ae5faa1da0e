use Rattle.std.proofs.Common.{refl, arith, rules}
use Rattle.std.proofs.lemmas.Slice.{overwrites}
use Rattle.letters.proofs.writing.put.Goals as goal

pub returns : goal.returns
returns c = (refl, omega arith, search (rules, overwrites), search (rules, overwrites))
