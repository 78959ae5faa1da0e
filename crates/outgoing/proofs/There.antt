-- What stands at a place that is in use is there, and is what was read.
-- Assumes nothing.
use Rattle.std.proofs.Common.{◌≡◌, true, is_some, Some, None, Option, sym, ap, ◌∙◌}
use Rattle.std.specs.Option.{option_map}

module _ {X Y : Type 0} (f : X → Y) (y : Y) where
  pub is_there : (o : Option X) → option_map f o ≡ Some y → is_some o ≡ true
  is_there (Some x) found = ap is_some found
  is_there None found = ap is_some found

  pub value_there : (o : Option X) → option_map f o ≡ Some y → (x : X) → o ≡ Some x → f x ≡ y
  value_there o found x e = let same : Some (f x) ≡ Some y = ap (option_map f) (sym e) ∙ found in cc
