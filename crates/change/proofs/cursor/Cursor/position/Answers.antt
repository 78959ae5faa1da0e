use Rattle.std.proofs.Common.{arith, length-drop}
use Rattle.change.proofs.cursor.Cursor.position.Goals as goal

pub returns : goal.returns
returns c = let inside = c.args.self.now.inside in simp length-drop (omega arith)
