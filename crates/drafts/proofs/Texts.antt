-- The puts of adds don't hang on their texts.
-- Assumes nothing.
use Rattle.std.proofs.Common.{◌≡◌, ℕ, suc, List, [], ◌∷◌, map, refl, ap}
use Rattle.change.specs.declared.span.AddAt.{AddAt}
use Rattle.change.specs.View.{add_in}
use Rattle.order.specs.Order.{puts_from}
use Rattle.drafts.specs.PutsOf.{puts_of}

pub puts_of_view : (n : ℕ) (bytes : List ℕ) (adds : List AddAt) → puts_of n adds ≡ puts_from n (map (add_in bytes) adds)
puts_of_view n bytes [] = refl
puts_of_view n bytes (a ∷ adds) = ap (λ ps. record { line = n; after = a.after.0; before = a.before.0 } ∷ ps) (puts_of_view (suc n) bytes adds)
