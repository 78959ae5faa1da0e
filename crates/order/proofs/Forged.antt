-- Two sound sets that turn two lines around: a change of the one has the name of a change of the other, and other contents.
-- first: the change 16, which puts the line 1024 between the start and the end. second a b: a change 17 that needs it and puts the line 1088 between a and b.
-- Assumes nothing.
use Rattle.std.proofs.Common.{◌≡◌, ℕ, true, List, [], ◌∷◌, sym, refl, ap, inl, inr, arith, lit<}
use Rattle.change.specs.Model.{Change}
use Rattle.change.specs.WellFormed.{well_formed}
use Rattle.order.specs.Order.{Put, Brought, Precedes, whole, behind, ahead, Line}
use Rattle.order.specs.Fits.{Named, With, Fits, Sound}
use Rattle.order.specs.Theorems.{NamesMatter}
use Rattle.order.proofs.Fitting.{listed_sound}

abbrev first : Change
first = record { name = 16; sheet = 0; needs = []; adds = record { after = 0; before = 1; text = [] } ∷ []; kills = [] }

abbrev first_put : Put
first_put = record { line = 1024; after = 0; before = 1 }

abbrev second : ℕ → ℕ → Change
second a b = record { name = 17; sheet = 0; needs = 16 ∷ []; adds = record { after = a; before = b; text = [] } ∷ []; kills = [] }

abbrev second_put : ℕ → ℕ → Put
second_put a b = record { line = 1088; after = a; before = b }

abbrev both : ℕ → ℕ → List Change
both a b = second a b ∷ first ∷ []

first_fits : Fits [] first
first_fits = record {
  formed = refl;
  new = λ d i e. i;
  needed = λ n i. absurd i;
  adds = (inl (lit< tt), inl (lit< tt), whole, tt);
  kills = λ u i. absurd i;
}

-- the second may name the first's line, since it needs the first
named_1024 : (a b : ℕ) → Named (first ∷ []) (second a b) [] 1024
named_1024 a b = inr (inr (first, inl refl, inl refl, (first_put, inl refl, refl)))

both_sound : (a b : ℕ) → well_formed (second a b) ≡ true → Named (first ∷ []) (second a b) [] a → Named (first ∷ []) (second a b) [] b → Precedes (With (first ∷ []) []) a b → Sound (both a b)
both_sound a b formed named_a named_b order = listed_sound (both a b) (fits, (first_fits, tt))
  where
    fits : Fits (first ∷ []) (second a b)
    fits = record {
      formed = formed;
      new = λ d i e. elim i [ inl f ↦ omega (arith, ap (λ c. c.name) f) | inr j ↦ j ];
      needed = λ n i. elim i [ inl e ↦ (first, inl refl, sym e, refl) | inr j ↦ absurd j ];
      adds = (named_a, named_b, order, tt);
      kills = λ u i. absurd i;
    }

line_1024 : (a b : ℕ) → Line (both a b) 1024
line_1024 a b = inr (inr (first_put, (first, inr (inl refl), inl refl), refl))

put_1088 : (a b : ℕ) → Brought (both a b) (second_put a b)
put_1088 a b = (second a b, inl refl, inl refl)

line_1088 : (a b : ℕ) → Line (both a b) 1088
line_1088 a b = inr (inr (second_put a b, put_1088 a b, refl))

pub names_matter : NamesMatter
names_matter = (
  both 1024 1,
  both 0 1024,
  1024,
  1088,
  both_sound 1024 1 refl (named_1024 1024 1) (inl (lit< tt)) (ahead first_put (inl (first, inl refl, inl refl))),
  both_sound 0 1024 refl (inl (lit< tt)) (named_1024 0 1024) (behind first_put (inl (first, inl refl, inl refl))),
  line_1024 1024 1,
  line_1088 1024 1,
  line_1024 0 1024,
  line_1088 0 1024,
  behind (second_put 1024 1) (put_1088 1024 1),
  ahead (second_put 0 1024) (put_1088 0 1024),
)
