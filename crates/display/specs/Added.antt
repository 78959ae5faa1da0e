-- The lines that changes add, each as its number and its text, and those of them that are not struck out.
-- added_by c: the lines of a change. spared ks u: u is not among the lines ks. sparing ks ps: the lines ps without those of ks.
-- Assumes nothing.
use Rattle.std.specs.Prelude.{ℕ, suc, Bool, not, List, [], ◌∷◌, filter, ◌==◌}
use Rattle.std.specs.List.{list_all}
use Rattle.change.specs.Model.{Add, Change, line_of}

abbrev pub added_from : ℕ → List Add → List (ℕ × List ℕ)
added_from n [] = []
added_from n (a ∷ adds) = (n, a.text) ∷ added_from (suc n) adds

abbrev pub added_by : Change → List (ℕ × List ℕ)
added_by c = added_from (line_of c.name 0) c.adds

abbrev pub spared : List ℕ → ℕ → Bool
spared ks u = list_all (λ v. not (v == u)) ks

abbrev pub sparing : List ℕ → List (ℕ × List ℕ) → List (ℕ × List ℕ)
sparing ks ps = filter (λ p. spared ks p.0) ps
