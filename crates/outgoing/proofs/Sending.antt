-- The changes that are written are those of the letter, and the letter is one that can be read.
-- Assumes nothing.
use Rattle.std.proofs.Common.{◌≡◌, ℕ, zero, suc, ◌≤◌, true, not, List, [], ◌∷◌, reverse, length, Some, None, filter, Option, sym, ap, ◌∙◌, subst, arith}
use mathlib.Core.List.{reverse-cons}
use Rattle.std.proofs.lemmas.List.{length-map, length-reverse, reverse-reverse}
use Rattle.std.specs.Option.{ok_or}
use Rattle.std.proofs.lemmas.Bool.{le-leb}
use Rattle.change.specs.Model.{Change}
use Rattle.change.specs.WellFormed.{well_formed}
use Rattle.change.proofs.Tests.{both_true}
use Rattle.order.specs.Fits.{Listed}
use Rattle.order.specs.Theorems.{without}
use Rattle.order.proofs.Deciding.{decides_every, decides_itself}
use Rattle.order.proofs.Fitting.{listed_sound}
use Rattle.order.proofs.Placed.{listed_formed}
use Rattle.history.specs.Sane.{Distinct}
use Rattle.history.specs.Taking.{lowest}
use Rattle.history.proofs.Names.{distinct_push, distinct_kept, length_kept}
use Rattle.shelf.proofs.Reversed.{in_reverse, reverse_in}
use Rattle.letters.specs.Letter.{is_letter, letter_bytes, letter_limit}
use Rattle.letters.specs.Written.{Written}
use Rattle.verdict.specs.FromNeeds.{is_among}
use Rattle.sending.specs.Sending.{lacking, goes_first, go_on, walk, walk_all, sent}
use Rattle.sending.proofs.Walks.{sent_sends}
use Rattle.sending.proofs.OneLetter.{sent_alike}
use Rattle.outgoing.specs.declared.lacking.Lacking.{Lacking}
use Rattle.outgoing.specs.Lacking.{places_of, ToldOf}
use Rattle.outgoing.specs.declared.trouble.SendTrouble.TheVariants.{TooShort}
use Rattle.outgoing.specs.Sent.{Sent}
use Rattle.outgoing.specs.Places.{change_at, changes_at}

listed_round : (L : List Change) → Listed L → Distinct (reverse L)
listed_round [] l = tt
listed_round (c ∷ L) (f, l) = subst Distinct (sym (reverse-cons c L)) (distinct_push (reverse L) c (listed_round L l) (λ (d, i, e). f.new d (in_reverse L d i) e))

walk_is_short : (n : ℕ) (T : List Change) → length (walk n T) ≤ n
walk_is_short zero T = omega arith
walk_is_short (suc n) T = go (lowest (filter (goes_first T) T)) (walk_is_short n)
  where
    go : (o : Option Change) → ((R : List Change) → length (walk n R) ≤ n) → length (go_on (walk n) T o) ≤ suc n
    go None short = omega arith
    go (Some c) short = omega (arith, short (without c.name T))

module _ (has : List ℕ) (K : List Change) (listed : Listed (reverse K)) where
  pub lacking_distinct : Distinct (lacking has K)
  lacking_distinct = distinct_kept _ K (subst Distinct (reverse-reverse K) (listed_round (reverse K) listed))

  pub few_sent : length K ≤ letter_limit → length (sent has (reverse K)) ≤ letter_limit
  few_sent few = omega (arith, walk_is_short (length (lacking has (reverse K))) (lacking has (reverse K)), length_kept (λ c. not (is_among c.name has)) (reverse K), length-reverse K)

  pub sent_is_letter : length K ≤ letter_limit → is_letter (sent has (reverse K)) ≡ true
  sent_is_letter few =
      both_true (le-leb _ letter_limit (few_sent few))
      ((decides_every well_formed (λ c. well_formed c ≡ true) (λ c. decides_itself (well_formed c)) (sent has (reverse K))).1
      (λ c i. listed_formed (reverse K) listed c (((sent_sends has (reverse K) (listed_sound (reverse K) listed)).exactly c).0 i).0))

  -- what was walked through is the letter
  pub walked_is_sent : (ps qs : List ℕ) → changes_at K ps ≡ lacking has K → changes_at K qs ≡ walk (length ps) (changes_at K ps) → changes_at K qs ≡ sent has (reverse K)
  walked_is_sent ps qs are walked =
      let many = sym (length-map ps (change_at K)) ∙ ap length are in
      walked ∙ (λ j. walk (many j) (are j))
      ∙ sym (sent_alike has has (reverse K) K ((λ n i. i), (λ n i. i)) (in_reverse K, reverse_in K) (listed_sound (reverse K) listed))

  -- so is what is walked through by what was noted of each change that lacks
  pub told_is_sent :
      (ls ks : List Lacking) (qs : List ℕ) → ks ≡ ls → ToldOf K ls → changes_at K (places_of ls) ≡ lacking has K →
      ((S : List Change) → ToldOf S ks → Distinct (changes_at S (places_of ks)) → changes_at S qs ≡ walk_all (changes_at S (places_of ks))) → changes_at K qs ≡ sent has (reverse K)
  told_is_sent ls ks qs same told are walked =
      let ps = places_of ls in
      let all = subst (λ l. ToldOf K l → Distinct (changes_at K (places_of l)) → changes_at K qs ≡ walk_all (changes_at K (places_of l))) same (walked K) told (subst Distinct (sym are) lacking_distinct) in
      walked_is_sent ps qs are (all ∙ ap (λ n. walk n (changes_at K ps)) (length-map ps (change_at K)))

  pub few_walked : length K ≤ letter_limit → (qs : List ℕ) → changes_at K qs ≡ sent has (reverse K) → length qs ≤ letter_limit
  few_walked few qs are = omega (arith, few_sent few, length-map qs (change_at K), ap length are)

-- a letter that was written is sent, and one that didn't fit is told as too long
pub written_is_sent : (cs : List Change) (was now : List ℕ) (o : Option ℕ) → Written 0 (letter_bytes cs) was now o → Sent cs was now (ok_or o TooShort)
written_is_sent cs was now (Some n) (ends, within, front, back) = (omega arith, within, front, back)
written_is_sent cs was now None (short, same) = (omega arith, same)
