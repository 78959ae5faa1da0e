-- The changes of one sheet: which they are, and that they could have come without the others, since a change needs changes of its own sheet only.
-- Assumes nothing.
use Rattle.std.proofs.Common.{ℕ, List, ◌∙◌}
use Rattle.std.proofs.lemmas.Bool.{eqb-true, eq-eqb}
use Rattle.change.specs.Membership.{Within}
use Rattle.change.specs.Model.{Change}
use Rattle.order.proofs.Members.{kept_from, kept_has}
use Rattle.order.proofs.OneName.{needs_of_sheet}
use Rattle.order.proofs.ClosedPart.{listed_kept}
use Rattle.blocks.specs.Sheet.{of_sheet}
use Rattle.blocks.specs.Theorems.{SheetListed}

pub of_sheet_within : (n : ℕ) (L M : List Change) → Within L M → Within (of_sheet n L) (of_sheet n M)
of_sheet_within n L M w c i = let (j, e) = kept_from _ L c i in kept_has _ M c (w c j) e

pub sheet_listed : SheetListed
sheet_listed L h n = listed_kept _ L h (λ c d i j e k. eq-eqb d.sheet n (needs_of_sheet L h c d i j k ∙ eqb-true c.sheet n e))
