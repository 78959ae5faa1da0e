-- The letter that the function finds is what the relation asks for.
-- Walked T cs: cs are the changes of T, in order.
-- Assumes nothing.
use Rattle.std.proofs.Common.{◌≡◌, ℕ, zero, suc, ◌≤◌, true, not, eqb, List, [], ◌∷◌, length, Some, None, filter, Option, sym, refl, ap, subst, inl, inr, arith}
use Rattle.std.proofs.lemmas.Bool.{cases_eq, eq-eqb, ne_eqb, not_from_true, not_from_false}
use Rattle.std.proofs.lemmas.Bool.Decides.{Decides-not}
use Rattle.change.specs.Membership.{In, Within, SameMembers}
use Rattle.change.specs.Model.{Change}
use Rattle.order.specs.Names.{HasName}
use Rattle.order.specs.Fits.{Sound}
use Rattle.order.specs.Theorems.{without}
use Rattle.order.proofs.Members.{kept_from, kept_has}
use Rattle.order.proofs.OneName.{sound_one}
use Rattle.verdict.proofs.FromNeeds.{decides_among}
use Rattle.history.specs.Taking.{lowest}
use Rattle.history.proofs.Names.{has_name_more, without_none, length_kept_less}
use Rattle.history.proofs.Lowest.{IsLowest, lowest_is}
use Rattle.sending.specs.Sending.{lacking, goes_first, go_on, walk}
use Rattle.sending.specs.Relation.{GoesFirst, Ordered}
use Rattle.sending.specs.Theorems.{SentSends}
use Rattle.sending.proofs.Firsts.{goes_first_lem, some_first}

abbrev Walked : List Change → List Change → Type 0
Walked T cs = Ordered cs × SameMembers cs T

module _ (S : List Change) (sound : Sound S) where
  -- one change, the lowest of those that need none of T, and the walk through the others
  module _ (n : ℕ) (T : List Change) (w : Within T S) (few : length T ≤ suc n) (next : (K : List Change) → Within K S → length K ≤ n → Walked K (walk n K)) where
    walk_step : (o : Option Change) → IsLowest (filter (goes_first T) T) o → Walked T (go_on (walk n) T o)
    walk_step None none =
        (tt, (λ c i. absurd i, λ c i. let (m, j, f) = some_first S sound T w c i in absurd (none m (kept_has (goes_first T) T m j ((goes_first_lem T m).1 f)))))
    walk_step (Some c) (i, low) = ((once, first, least, rest.0), (from, to))
      where
        here : In c T × (goes_first T c ≡ true)
        here = kept_from (goes_first T) T c i

        K : List Change
        K = without c.name T

        others : (d : Change) → In d K → In d T
        others d j = (kept_from _ T d j).0

        rest : Walked K (walk n K)
        rest =
            next K (λ d j. w d (others d j))
            (omega (arith, length_kept_less (λ d. not (eqb d.name c.name)) T c here.0 (not_from_true _ (eq-eqb c.name c.name refl))))

        from : Within (c ∷ walk n K) T
        from d (inl e) = subst (λ x. In x T) (sym e) here.0
        from d (inr j) = others d (rest.1.0 d j)

        to : Within T (c ∷ walk n K)
        to d j = elim (cases_eq d.name c.name) [
          | inl e ↦ inl (sound_one S sound d c (w d j) (w c here.0) e)
          | inr ne ↦ inr (rest.1.1 d (kept_has _ T d j (not_from_false _ (ne_eqb _ _ ne))))
        ]

        once : HasName (walk n K) c.name → ⊥
        once h = without_none c.name T (has_name_more (walk n K) K rest.1.0 c.name h)

        first : GoesFirst (c ∷ walk n K) c
        first d j = (goes_first_lem T c).0 here.1 d (from d j)

        least : (d : Change) → In d (walk n K) → GoesFirst (c ∷ walk n K) d → c.name ≤ d.name
        least d j f = low d (kept_has (goes_first T) T d (from d (inr j)) ((goes_first_lem T d).1 (λ x k. f x (to x k))))

  walk_walked : (n : ℕ) (T : List Change) → Within T S → length T ≤ n → Walked T (walk n T)
  walk_walked zero [] w few = (tt, (λ c i. i, λ c i. i))
  walk_walked zero (c ∷ T) w few = absurd (omega arith)
  walk_walked (suc n) T w few = walk_step n T w few (walk_walked n) (lowest (filter (goes_first T) T)) (lowest_is (filter (goes_first T) T))

pub lacking_from : (has : List ℕ) (S : List Change) (c : Change) → In c (lacking has S) → In c S × (In c.name has → ⊥)
lacking_from has S c i = let (j, t) = kept_from _ S c i in (j, (Decides-not _ (decides_among c.name has)).0 t)

pub lacking_has : (has : List ℕ) (S : List Change) (c : Change) → In c S → (In c.name has → ⊥) → In c (lacking has S)
lacking_has has S c i none = kept_has _ S c i ((Decides-not _ (decides_among c.name has)).1 none)

pub sent_sends : SentSends
sent_sends has S sound =
    let (ordered, (to, from)) = walk_walked S sound (length (lacking has S)) (lacking has S) (λ c i. (lacking_from has S c i).0) (omega arith) in
    record { exactly = λ c. (λ i. lacking_from has S c (to c i), λ (i, none). from c (lacking_has has S c i none)); ordered = ordered }

-- more steps than there are changes make no difference
pub walk_enough : (n m : ℕ) (T : List Change) → length T ≤ n → length T ≤ m → walk n T ≡ walk m T
walk_enough zero zero T few few' = refl
walk_enough zero (suc m) [] few few' = refl
walk_enough zero (suc m) (c ∷ T) few few' = absurd (omega arith)
walk_enough (suc n) zero [] few few' = refl
walk_enough (suc n) zero (c ∷ T) few few' = absurd (omega arith)
walk_enough (suc n) (suc m) T few few' = go (lowest firsts) (lowest_is firsts) (walk_enough n m)
  where
    firsts : List Change
    firsts = filter (goes_first T) T

    go : (o : Option Change) → IsLowest firsts o → ((K : List Change) → length K ≤ n → length K ≤ m → walk n K ≡ walk m K) → go_on (walk n) T o ≡ go_on (walk m) T o
    go None none next = refl
    go (Some c) (i, low) next =
        let less = length_kept_less (λ d. not (eqb d.name c.name)) T c (kept_from (goes_first T) T c i).0 (not_from_true _ (eq-eqb c.name c.name refl)) in
        ap (λ cs. c ∷ cs) (next (without c.name T) (omega (arith, less)) (omega (arith, less)))
