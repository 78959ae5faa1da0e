use Rattle.std.proofs.Common.{arith, length-drop}
use Rattle.std.proofs.lemmas.Bool.Decides.{nat_tests}
use Rattle.change.proofs.cursor.Cursor.is_done.Goals as goal

pub returns : goal.returns
returns c = let inside = c.args.self.now.inside in simp length-drop (grind (arith, nat_tests))
