-- Among some changes of a sound set one needs none of the others: the one that was listed first.
-- Assumes nothing.
use Rattle.std.proofs.Common.{◌≡◌, Bool, true, false, not, ◌⊎◌, List, [], ◌∷◌, Decides, refl, subst, inl, inr}
use Rattle.std.proofs.lemmas.Bool.{both_ways, cases_Bool, or_cases}
use Rattle.std.proofs.lemmas.Bool.Decides.{Decides-not}
use Rattle.change.specs.Membership.{In, Within}
use Rattle.change.specs.Model.{Change}
use Rattle.std.specs.List.{list_any}
use Rattle.order.specs.Names.{has_name}
use Rattle.order.specs.Fits.{Listed, Sound}
use Rattle.order.proofs.Deciding.{decides_itself, decides_every, decides_some}
use Rattle.order.proofs.Fitting.{listed_sound}
use Rattle.order.proofs.OneName.{sound_closed, sound_one, has_name_lem}
use Rattle.verdict.specs.FromNeeds.{is_among}
use Rattle.verdict.proofs.FromNeeds.{decides_among}
use Rattle.sending.specs.Sending.{goes_first}
use Rattle.sending.specs.Relation.{GoesFirst}

pub goes_first_lem : (T : List Change) (c : Change) → Decides (goes_first T c) (GoesFirst T c)
goes_first_lem T c =
    decides_every (λ d. not (is_among d.name c.needs)) (λ d. In d.name c.needs → ⊥) (λ d. Decides-not _ (decides_among d.name c.needs)) T

passing : (test : Change → Bool) (L : List Change) → Decides (list_any test L) ((c : Change) × In c L × (test c ≡ true))
passing test = decides_some test (λ c. test c ≡ true) (λ c. decides_itself (test c))

-- of the changes of a list that pass a test, the one that came first
module _ (test : Change → Bool) where
  abbrev First : List Change → Type 0
  First L = (m : Change) × In m L × (test m ≡ true) × ((d : Change) → In d L → test d ≡ true → In d.name m.needs → ⊥)

  pub first_of : (L : List Change) → Listed L → list_any test L ≡ true → First L
  first_of [] l t = let (c, i, _) = (passing test []).0 t in absurd i
  first_of (c ∷ L) (f, l) t = go (cases_Bool (list_any test L)) (or_cases (test c) (list_any test L) t) (first_of L l)
    where
      -- what is listed later has a name that none of L has, and so none of L needs it
      unneeded : (m : Change) → In m L → In c.name m.needs → ⊥
      unneeded m i n = let (d, j, e) = sound_closed L (listed_sound L l) m i c.name n in f.new d j e

      not_itself : In c.name c.needs → ⊥
      not_itself n = let (d, j, e, _) = f.needed c.name n in f.new d j e

      go : (list_any test L ≡ true) ⊎ (list_any test L ≡ false) → (test c ≡ true) ⊎ (list_any test L ≡ true) → (list_any test L ≡ true → First L) → First (c ∷ L)
      go (inl s) _ rest =
          let (m, i, p, none) = rest s in
          (m, inr i, p, λ d j q n. elim j [ inl e ↦ unneeded m i (rw e at n) | inr k ↦ none d k q n ])
      go (inr s) (inl p) rest =
          (c, inl refl, p, λ d j q n. elim j [ inl e ↦ not_itself (rw e at n) | inr k ↦ both_ways _ s ((passing test L).1 (d, k, q)) ])
      go (inr s) (inr p) rest = absurd (both_ways _ s p)

pub some_first : (S : List Change) → Sound S → (T : List Change) → Within T S → (c : Change) → In c T → (m : Change) × In m T × GoesFirst T m
some_first S (L, l, same) T w c i =
    let (m, j, p, none) = first_of test L l ((passing test L).1 (c, same.1 c (w c i), here c i)) in
    let (x, k, e) = (has_name_lem T m.name).0 p in
    (m, subst (λ y. In y T) (sound_one S (L, l, same) x m (w x k) (same.0 m j) e) k, λ d h. none d (same.1 d (w d h)) (here d h))
  where
    test : Change → Bool
    test d = has_name T d.name

    here : (d : Change) → In d T → test d ≡ true
    here d h = (has_name_lem T d.name).1 (d, h, refl)
