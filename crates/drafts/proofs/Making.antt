-- What making a change of a request comes to, once it is known whether it is refused.
-- Assumes nothing.
use Rattle.std.proofs.Common.{◌≡◌, ℕ, ◌-◌, ◌≤◌, leb, List, [], length, Some, None, Ok, Err, refl, ap, arith}
use Rattle.std.proofs.lemmas.Bool.{and_parts, not-false, leb-true}
use Rattle.change.specs.declared.refusal.Refusal.{Refusal}
use Rattle.change.specs.declared.refusal.Refusal.TheVariants.{Full}
use Rattle.change.specs.Model.{Change, count_of, plant_of}
use Rattle.change.specs.WellFormed.{lowest_name}
use Rattle.history.specs.Book.{Book}
use Rattle.making.specs.Request.{Request}
use Rattle.making.specs.Making.{change_for, refusal, make, unless}
use Rattle.making.specs.Sorted.{sorted}
use Rattle.making.proofs.Lowest.{made_none_holds}
use Rattle.drafts.specs.Named.{needs_named}
use Rattle.drafts.specs.Refusing.{Next}

-- a book with these changes and this next name
some_book : List Change → ℕ → Book
some_book L n = record { plant = plant_of n; highest = count_of n - 1; changes = L; waiting = [] }

is_next : (L : List Change) (n : ℕ) → lowest_name ≤ n → Next (some_book L n) L n
unfolding some_book
is_next L n low = record { changes = refl; name = omega arith; plant = omega arith }

-- what is not refused in any such book has few parts
pub few_parts : (L : List Change) (n : ℕ) (r : Request) → lowest_name ≤ n → ((B : Book) → Next B L n → refusal B r ≡ None) →
    (length (needs_named n r) ≤ 32) × (length r.adds ≤ 64) × (length (sorted r.kills) ≤ 64)
unfolding some_book
few_parts L n r low unrefused =
    let B = some_book L n in
    let next = is_next L n low in
    let none = (made_none_holds B r (change_for B r) (change_for B r) (ap (λ o. unless o (change_for B r)) (unrefused B next))).0 in
    let (needs, rest) = and_parts (leb (length (change_for B r).needs) 32) _ (not-false _ (none Full)) in
    let (adds, more) = and_parts (leb (length r.adds) 64) _ rest in
    let (kills, _) = and_parts (leb (length (sorted r.kills)) 64) _ more in
    (omega (arith, leb-true _ _ needs, ap (λ m. length (needs_named m r)) next.name), leb-true _ _ adds, leb-true _ _ kills)

pub comes_to_it : (B : Book) (r : Request) → refusal B r ≡ None → make B r ≡ Ok (change_for B r)
comes_to_it B r none = ap (λ o. unless o (change_for B r)) none

pub comes_to_refusal : (B : Book) (r : Request) (e : Refusal) → refusal B r ≡ Some e → make B r ≡ Err e
comes_to_refusal B r e refused = ap (λ o. unless o (change_for B r)) refused
