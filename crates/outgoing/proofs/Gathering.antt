-- What is gathered from the changes, place by place.
-- LackingSoFar has K i ls: ls tell of those of the first i changes of K whose names are not among `has`.
-- Assumes nothing.
use Rattle.std.proofs.Common.{◌≡◌, ℕ, ◌+◌, ◌<◌, true, false, cond, not, List, [], ◌∷◌, ◌++◌, map, length, take, sym, ap, ◌∙◌, subst, inl, inr, ⊎_elim, append-nil}
use Rattle.std.proofs.lemmas.List.Elements.{filter_more}
use Rattle.std.proofs.lemmas.List.{map_push}
use Rattle.change.specs.Membership.{In}
use Rattle.change.specs.Model.{Change}
use Rattle.order.proofs.Members.{in_either}
use Rattle.verdict.specs.FromNeeds.{is_among}
use Rattle.sending.specs.Sending.{lacking}
use Rattle.outgoing.specs.declared.lacking.Lacking.{Lacking}
use Rattle.outgoing.specs.Places.{no_change, change_at, changes_at, name_at}
use Rattle.outgoing.specs.Lacking.{places_of, IsOf, ToldOf}

pub record LackingSoFar (has : List ℕ) (K : List Change) (i : ℕ) (ls : List Lacking) : Type 0 where
  pub told : ToldOf K ls
  pub are : changes_at K (places_of ls) ≡ lacking has (take i K)

module _ (has : List ℕ) (K : List Change) (i : ℕ) (less : i < length K) (ls ms : List Lacking) (so_far : LackingSoFar has K i ls) where
  pub lacks_one_more : is_among (name_at K i) has ≡ false → (l : Lacking) → l.place ≡ i → IsOf K l → ms ≡ ls ++ l ∷ [] → LackingSoFar has K (i + 1) ms
  lacks_one_more lacks l here of more = record {
    told = λ m j. ⊎_elim (so_far.told m) (λ k. elim k [ inl e ↦ subst (IsOf K) (sym e) of | inr none ↦ absurd none ]) (in_either ls (l ∷ []) m (subst (In m) more j));
    are =
        ap (λ ks. changes_at K (places_of ks)) more ∙ ap (map (change_at K)) (map_push (λ k. k.place) ls l) ∙ map_push (change_at K) (places_of ls) l.place
        ∙ (λ j. so_far.are j ++ cond (not (sym lacks j)) (change_at K (here j) ∷ []) [])
        ∙ sym (filter_more (λ c. not (is_among c.name has)) K i no_change less);
  }

  pub lacks_no_more : is_among (name_at K i) has ≡ true → ms ≡ ls → LackingSoFar has K (i + 1) ms
  lacks_no_more known same = record {
    told = λ m j. so_far.told m (subst (In m) same j);
    are =
        ap (λ ks. changes_at K (places_of ks)) same ∙ so_far.are ∙ sym (append-nil (lacking has (take i K)))
        ∙ (λ j. lacking has (take i K) ++ cond (not (sym known j)) (change_at K i ∷ []) [])
        ∙ sym (filter_more (λ c. not (is_among c.name has)) K i no_change less);
  }
