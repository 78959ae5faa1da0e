-- Bytes read to their end: the value whose bytes they are, or malformed.
-- Assumes nothing.
use Rattle.std.proofs.Common.{◌≡◌, ℕ, Bool, true, List, [], ◌∷◌, ◌++◌, Ok, Err, sym, refl, ap, ◌∙◌, append-nil}
use Rattle.change.specs.declared.refusal.Refusal.TheVariants.{Malformed}
use Rattle.change.specs.Reading.{Read}
use Rattle.world.specs.Calls.{wholly}

module _ {X : Type 0} (read : List ℕ → Read X) (write : X → List ℕ) (good : X → Bool)
    (exact : (bytes : List ℕ) (x : X) (rest : List ℕ) → (read bytes ≡ Ok (x, rest) → (good x ≡ true) × (bytes ≡ write x ++ rest)) × (good x ≡ true → bytes ≡ write x ++ rest → read bytes ≡ Ok (x, rest))) where
  pub whole_value : (x : X) (bytes : List ℕ) → good x ≡ true → bytes ≡ write x → wholly (read bytes) ≡ Ok x
  whole_value x bytes formed own = ap wholly ((exact bytes x []).1 formed (own ∙ sym (append-nil (write x))))

  pub no_value : (bytes : List ℕ) → ((x : X) → good x ≡ true → bytes ≡ write x → ⊥) → wholly (read bytes) ≡ Err Malformed
  no_value bytes none = go (read bytes) refl
    where
      go : (r : Read X) → read bytes ≡ r → wholly r ≡ Err Malformed
      go (Ok (x, [])) e = let (formed, own) = (exact bytes x []).0 e in absurd (none x formed (own ∙ append-nil (write x)))
      go (Ok (x, b ∷ rest)) e = refl
      go (Err f) e = refl
