-- Which changes a set can take, and which sets can come about.
-- Fits S c: c can be added to S. Listed L: each change of L fits those listed behind it (the latest stands first). Sound S: S has the changes of such a list.
-- Closed S: with each change S has those that it needs. OneChange S R: changes of one name in the two are the same change.
-- Assumes nothing.
use Rattle.std.specs.Prelude.{◌≡◌, ℕ, ◌<◌, true, ◌⊎◌, List, [], ◌∷◌, ◌≢◌}
use Rattle.change.specs.Membership.{In, SameMembers}
use Rattle.change.specs.Model.{Change}
use Rattle.change.specs.WellFormed.{well_formed}
use Rattle.order.specs.Names.{HasName}
use Rattle.order.specs.Order.{Put, puts, Brought, Precedes}

-- a line that one of the changes needed by c brought
abbrev pub FromNeeds : List Change → Change → ℕ → Type 0
FromNeeds S c u = (d : Change) × In d S × In d.name c.needs × ((p : Put) × In p (puts d) × (p.line ≡ u))

-- a line that an add may name: the start, the end, one of an earlier add of the change itself, or one from its needs
abbrev pub Named : List Change → Change → List Put → ℕ → Type 0
Named S c earlier u = (u < 2) ⊎ (((p : Put) × In p earlier × (p.line ≡ u)) ⊎ FromNeeds S c u)

-- the puts of a set, and the earlier ones of the change itself
abbrev pub With : List Change → List Put → Put → Type 0
With S earlier p = Brought S p ⊎ In p earlier

-- the puts of c, one after the other, where those of `earlier` have been put already: each goes between two lines that stand in this order
abbrev pub PutsFit : List Change → Change → List Put → List Put → Type 0
PutsFit S c earlier [] = Unit {0}
PutsFit S c earlier (p ∷ ps) =
    Named S c earlier p.after × Named S c earlier p.before
    × Precedes (With S earlier) p.after p.before
    × PutsFit S c (p ∷ earlier) ps

pub record Fits (S : List Change) (c : Change) : Type 0 where
  pub formed : well_formed c ≡ true
  pub new : (d : Change) → In d S → d.name ≢ c.name
  pub needed : (n : ℕ) → In n c.needs → (d : Change) × In d S × (d.name ≡ n) × (d.sheet ≡ c.sheet)
  pub adds : PutsFit S c [] (puts c)
  pub kills : (u : ℕ) → In u c.kills → FromNeeds S c u

abbrev pub Listed : List Change → Type 0
Listed [] = Unit {0}
Listed (c ∷ L) = Fits L c × Listed L

abbrev pub Sound : List Change → Type 0
Sound S = (L : List Change) × Listed L × SameMembers L S

abbrev pub Closed : List Change → Type 0
Closed S = (c : Change) → In c S → (n : ℕ) → In n c.needs → HasName S n

abbrev pub OneChange : List Change → List Change → Type 0
OneChange S R = (c d : Change) → In c S → In d R → c.name ≡ d.name → c ≡ d
