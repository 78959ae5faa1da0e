-- The parts of a change, written one behind the other.
-- Assumes nothing.
use Rattle.std.proofs.Common.{◌≡◌, ℕ, List, [], ◌∷◌, ◌++◌, map, ap, ◌∙◌, append_assoc}
use Rattle.change.specs.declared.span.AddAt.{AddAt}
use Rattle.change.specs.Bytes.{number_bytes, counted, add_bytes, change_kind, change_bytes}
use Rattle.change.specs.Model.{Add}
use Rattle.change.specs.View.{add_in}
use Rattle.change.proofs.Appended.{then_written, counted_map}

pub parts_written : {X : Type 0} {x₀ x₁ x₂ x₃ : List ℕ} (add_of : X → Add) (name sheet : ℕ) (needs kills : List ℕ) (adds : List X) →
    x₀ ≡ [] → x₁ ≡ x₀ ++ (change_kind ∷ (number_bytes name ++ (sheet ∷ counted number_bytes needs))) → x₂ ≡ x₁ ++ counted (λ a. add_bytes (add_of a)) adds → x₃ ≡ x₂ ++ counted number_bytes kills →
    x₃ ≡ change_bytes (record { name = name; sheet = sheet; needs = needs; adds = map add_of adds; kills = kills })
parts_written add_of name sheet needs kills adds e₀ e₁ e₂ e₃ =
    let all = then_written [] _ (counted number_bytes kills) (then_written [] front _ (e₁ ∙ ap (λ l. l ++ front) e₀) e₂) e₃ in
    all ∙ append_assoc front (counted (λ a. add_bytes (add_of a)) adds) (counted number_bytes kills)
    ∙ ap (λ l. front ++ (l ++ counted number_bytes kills)) (counted_map add_bytes add_of adds)
  where
    front : List ℕ
    front = change_kind ∷ (number_bytes name ++ (sheet ∷ counted number_bytes needs))

-- the same for one who writes the front in four pieces, and has the texts of the adds in one place
pub change_written : {x₀ x₁ x₂ x₃ x₄ x₅ x₆ : List ℕ} (name sheet : ℕ) (texts needs kills : List ℕ) (adds : List AddAt) →
    x₀ ≡ [] → x₁ ≡ x₀ ++ change_kind ∷ [] → x₂ ≡ x₁ ++ number_bytes name → x₃ ≡ x₂ ++ sheet ∷ [] →
    x₄ ≡ x₃ ++ counted number_bytes needs → x₅ ≡ x₄ ++ counted (λ a. add_bytes (add_in texts a)) adds → x₆ ≡ x₅ ++ counted number_bytes kills →
    x₆ ≡ change_bytes (record { name = name; sheet = sheet; needs = needs; adds = map (add_in texts) adds; kills = kills })
change_written {x₀} name sheet texts needs kills adds e₀ e₁ e₂ e₃ e₄ =
    let front = then_written x₀ _ _ (then_written x₀ (change_kind ∷ []) _ e₁ e₂) e₃ in
    parts_written (add_in texts) name sheet needs kills adds e₀ (then_written x₀ _ _ front e₄ ∙ ap (λ l. x₀ ++ l) (append_assoc (change_kind ∷ number_bytes name) (sheet ∷ []) (counted number_bytes needs)))
