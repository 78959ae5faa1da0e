-- How many bytes the changes at some places have, and bytes written one behind the other.
-- size_of K ps: the bytes of the changes at the places ps of K, all of them.
-- Assumes nothing.
use Rattle.std.proofs.Common.{◌≡◌, ℕ, ◌+◌, ◌-◌, ◌<◌, ◌≤◌, cond, List, [], ◌∷◌, ◌++◌, length, get_or, take, drop, Some, None, Option, sym, refl, ap, ◌∙◌, subst, append_assoc, append-nil, arith, length-append, take-append-drop}
use Rattle.std.specs.List.{flat_map}
use Rattle.std.proofs.lemmas.List.{map_more, map-append, drop-drop}
use Rattle.std.proofs.lemmas.Bool.{le-leb}
use Rattle.change.specs.Bytes.{change_bytes}
use Rattle.change.specs.Model.{Change}
use Rattle.store.proofs.Joined.{joined_append}
use Rattle.letters.specs.Letter.{letter_kind, letter_limit}
use Rattle.letters.specs.Message.{head_bytes}
use Rattle.letters.specs.Written.{Written, Begun}
use Rattle.outgoing.specs.Places.{change_at, changes_at}

abbrev pub bytes_at : List Change → List ℕ → List ℕ
bytes_at K ps = flat_map change_bytes (changes_at K ps)

module _ (K : List Change) (ps : List ℕ) (i : ℕ) where
  pub bytes_more : i < length ps → bytes_at K (take (i + 1) ps) ≡ bytes_at K (take i ps) ++ change_bytes (change_at K (get_or ps i 0))
  bytes_more less =
      ap (flat_map change_bytes) (map_more (change_at K) ps i 0 less) ∙ joined_append change_bytes (changes_at K (take i ps)) (change_at K (get_or ps i 0) ∷ [])
      ∙ ap (λ l. bytes_at K (take i ps) ++ l) (append-nil (change_bytes (change_at K (get_or ps i 0))))

  pub size_more : i < length ps → length (bytes_at K (take (i + 1) ps)) ≡ length (bytes_at K (take i ps)) + length (change_bytes (change_at K (get_or ps i 0)))
  size_more less = ap length (bytes_more less) ∙ length-append (bytes_at K (take i ps)) (change_bytes (change_at K (get_or ps i 0)))

  pub part_is_less : length (bytes_at K (take i ps)) ≤ length (bytes_at K ps)
  part_is_less =
      let parts = ap (bytes_at K) (sym (take-append-drop i ps)) ∙ ap (flat_map change_bytes) (map-append (change_at K) (take i ps) (drop i ps)) ∙ joined_append change_bytes (changes_at K (take i ps)) (changes_at K (drop i ps)) in
      omega (arith, ap length parts ∙ length-append (bytes_at K (take i ps)) (bytes_at K (drop i ps)))

-- nothing, and then more and more
pub written_none : (at : ℕ) (was : List ℕ) → at ≤ length was → Written at [] was was (Some at)
written_none at was within = (omega arith, within, sym (append-nil (take at was)), refl)

pub written_more : (at e n : ℕ) (a b was mid now : List ℕ) → Written at a was mid (Some e) → length mid ≡ length was → Written e b mid now (Some n) → Written at (a ++ b) was now (Some n)
written_more at e n a b was mid now (ends, _, front, back) same (ends', within, front', back') = (
  omega (arith, length-append a b),
  omega arith,
  front' ∙ ap (λ l. l ++ b) front ∙ append_assoc (take at was) a b,
  back' ∙ further mid ∙ ap (drop (n - e)) back ∙ sym (further was),
)
  where
    further : (l : List ℕ) → drop n l ≡ drop (n - e) (drop e l)
    further l = let sum : n ≡ e + (n - e) = omega arith in ap (λ m. drop m l) sum ∙ sym (drop-drop (n - e) e l)

pub begun_written : (count : ℕ) → count ≤ letter_limit → (was now : List ℕ) (r : Option ℕ) → Begun count was now r → Written 0 (head_bytes letter_kind count) was now r
begun_written count few was now r begun = subst (λ b. cond b (Written 0 (head_bytes letter_kind count) was now r) ((r ≡ None) × (now ≡ was))) (le-leb count letter_limit few) begun
