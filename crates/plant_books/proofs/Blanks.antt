-- A blank book is the empty one of any plant.
-- Assumes nothing.
use Rattle.std.proofs.Common.{◌≡◌, ℕ, true, eqb, List, [], ◌∷◌, length, refl, arith}
use Rattle.std.proofs.lemmas.Bool.{and_parts, eqb-true}
use Rattle.history.specs.Book.{Book, empty}
use Rattle.plant_books.specs.Blank.{is_blank}

none_of : {X : Type 0} (xs : List X) → length xs ≡ 0 → xs ≡ []
none_of [] e = refl
none_of (x ∷ xs) e = absurd (omega arith)

pub blank_is_empty : (B : Book) → is_blank B ≡ true → (plant : ℕ) → record { plant = plant; highest = B.highest; changes = B.changes; waiting = B.waiting } ≡ empty plant
blank_is_empty B blank plant =
    let (no_changes, others) = and_parts (eqb (length B.changes) 0) _ blank in
    let (none_waits, no_count) = and_parts (eqb (length B.waiting) 0) _ others in
    let a = none_of B.changes (eqb-true _ 0 no_changes) in
    let b = none_of B.waiting (eqb-true _ 0 none_waits) in
    let d = eqb-true B.highest 0 no_count in
    λ i. record { plant = plant; highest = d i; changes = a i; waiting = b i }
