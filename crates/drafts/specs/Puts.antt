-- The puts of a request's adds, and a question about the order taken back one put.
-- put_at name place a: that of the add at a place of the change of this name. answer_in R o: what the order R answers, where o is the answer itself or what is left to ask of R.
-- goes_behind L name earlier a: with the puts of the adds `earlier` on top of those of the changes L, the add a behind them goes between lines that stand in order, if it may name both.
-- Assumes nothing.
use Rattle.std.specs.Prelude.{ℕ, Bool, not, ◌||◌, List, length}
use Rattle.std.specs.declared.ops.ControlFlow.{ControlFlow}
use Rattle.std.specs.declared.ops.ControlFlow.TheVariants.{Break, Continue}
use Rattle.change.specs.declared.names.Line.{Line}
use Rattle.change.specs.declared.span.AddAt.{AddAt}
use Rattle.change.specs.Model.{Change, line_of}
use Rattle.order.specs.Order.{Put}
use Rattle.order.specs.Table.{bef, onto, placed}
use Rattle.drafts.specs.PutsOf.{puts_of}
use Rattle.drafts.specs.Lines.{may_name_both}

abbrev pub put_at : ℕ → ℕ → AddAt → Put
put_at name place a = record { line = line_of name place; after = a.after.0; before = a.before.0 }

abbrev pub answer_in : (ℕ → ℕ → Bool) → ControlFlow Bool (Line × Line) → Bool
answer_in R (Break b) = b
answer_in R (Continue (u, v)) = R u.0 v.0

abbrev pub goes_behind : List Change → ℕ → List AddAt → AddAt → Bool
goes_behind L name earlier a = not (may_name_both L name (length earlier) a) || bef (onto (placed L) (puts_of (line_of name 0) earlier)) a.after.0 a.before.0
