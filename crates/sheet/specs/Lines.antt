-- The lines of a sheet as they are given to be shown, and what they say of their numbers.
-- numbers ls: the numbers of the lines ls. line_inside area a: the area reaches as far as the text of a. Distinct us: no number comes twice.
-- of_line none part ls u: that part of the first line of ls with the number u, or `none`. before_in R ls, text_in area ls: who stands before whom and the texts by number, where R says it by slot.
-- Orders R ls before: of the numbers of ls, `before` says what R says of their slots. Texts area ls text: `text` has the text of each line of ls by its number.
-- Assumes nothing.
use Rattle.std.specs.Prelude.{◌≡◌, ℕ, Bool, cond, List, [], ◌∷◌, map, ◌==◌}
use Rattle.change.specs.Membership.{In}
use Rattle.change.specs.View.{cut, inside}
use Rattle.sheet.specs.declared.line.LineAt.{LineAt}

abbrev pub numbers : List LineAt → List ℕ
numbers ls = map (λ a. a.number.0) ls

abbrev pub line_inside : List ℕ → LineAt → Bool
line_inside area a = inside area a.text

abbrev pub Distinct : List ℕ → Type 0
Distinct [] = Unit {0}
Distinct (u ∷ us) = (In u us → ⊥) × Distinct us

abbrev pub of_line : {X : Type 0} → X → (LineAt → X) → List LineAt → ℕ → X
of_line none part [] u = none
of_line none part (a ∷ ls) u = cond (a.number.0 == u) (part a) (of_line none part ls u)

abbrev pub slot_of : List LineAt → ℕ → ℕ
slot_of ls = of_line 0 (λ a. a.slot) ls

abbrev pub before_in : (ℕ → ℕ → Bool) → List LineAt → ℕ → ℕ → Bool
before_in R ls u v = R (slot_of ls u) (slot_of ls v)

abbrev pub text_in : List ℕ → List LineAt → ℕ → List ℕ
text_in area ls = of_line [] (λ a. cut area a.text) ls

abbrev pub Orders : (ℕ → ℕ → Bool) → List LineAt → (ℕ → ℕ → Bool) → Type 0
Orders R ls before = (a b : LineAt) → In a ls → In b ls → before a.number.0 b.number.0 ≡ R a.slot b.slot

abbrev pub Texts : List ℕ → List LineAt → (ℕ → List ℕ) → Type 0
Texts area ls text = (a : LineAt) → In a ls → text a.number.0 ≡ cut area a.text

-- what a list gives past its end
abbrev pub no_line : LineAt
no_line = record { number = record { 0 = 0 }; slot = 0; text = record { start = 0; len = 0 } }
