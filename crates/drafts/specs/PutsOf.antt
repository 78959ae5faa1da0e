-- The puts of the adds that are asked for.
-- Assumes nothing.
use Rattle.std.specs.Prelude.{ℕ, List, [], map}
use Rattle.change.specs.declared.span.AddAt.{AddAt}
use Rattle.change.specs.View.{add_in}
use Rattle.order.specs.Order.{Put, puts_from}

-- those for the lines n, n + 1 and so on; a put has no text, so that any bytes will do for those of the adds
abbrev pub puts_of : ℕ → List AddAt → List Put
puts_of n adds = puts_from n (map (add_in []) adds)
