-- What the change of a request needs, told by the lines that its parts name: the order in which they are looked at makes no difference.
-- Assumes nothing.
use Rattle.std.proofs.Common.{◌≡◌, ℕ, Bool, true, false, cond, ◌⊎◌, List, [], ◌∷◌, ◌++◌, map, filter, sym, refl, ap, ◌∙◌, subst, ap₂, inl, inr}
use Rattle.std.proofs.lemmas.List.{map-append}
use Rattle.change.specs.declared.names.Line.{Line}
use Rattle.change.specs.declared.span.AddAt.{AddAt}
use Rattle.change.specs.Membership.{In, Within, SameMembers}
use Rattle.change.specs.Model.{bringer}
use Rattle.change.specs.View.{add_in}
use Rattle.order.proofs.Members.{kept_from, kept_has, in_left, in_right, in_either, in_mapped, mapped_in}
use Rattle.making.specs.Request.{add_lines, named_lines}
use Rattle.making.specs.Sorted.{sorted}
use Rattle.drafts.specs.Named.{is_foreign_to, needs_named}
use Rattle.drafts.specs.Needs.{lines_in}
use Rattle.drafts.specs.Parts.{request_from}
use Rattle.drafts.proofs.Sorting.{same_sorted}

abbrev number : Line → ℕ
number line = line.0

module _ (bytes : List ℕ) where
  after_or_before : (adds : List AddAt) (u : ℕ) → In u (add_lines (map (add_in bytes) adds)) → In u (map (λ a. a.after.0) adds) ⊎ In u (map (λ a. a.before.0) adds)
  after_or_before [] u i = absurd i
  after_or_before (a ∷ adds) u (inl e) = inl (inl e)
  after_or_before (a ∷ adds) u (inr (inl e)) = inr (inl e)
  after_or_before (a ∷ adds) u (inr (inr i)) = elim (after_or_before adds u i) [ inl j ↦ inl (inr j) | inr j ↦ inr (inr j) ]

  after_is_named : (adds : List AddAt) (u : ℕ) → In u (map (λ a. a.after.0) adds) → In u (add_lines (map (add_in bytes) adds))
  after_is_named [] u i = i
  after_is_named (a ∷ adds) u (inl e) = inl e
  after_is_named (a ∷ adds) u (inr i) = inr (inr (after_is_named adds u i))

  before_is_named : (adds : List AddAt) (u : ℕ) → In u (map (λ a. a.before.0) adds) → In u (add_lines (map (add_in bytes) adds))
  before_is_named [] u i = i
  before_is_named (a ∷ adds) u (inl e) = inr (inl e)
  before_is_named (a ∷ adds) u (inr i) = inr (inr (before_is_named adds u i))

  same_lines : (adds : List AddAt) (kills : List ℕ) → SameMembers (map (λ a. a.after.0) adds ++ map (λ a. a.before.0) adds ++ kills) (add_lines (map (add_in bytes) adds) ++ kills)
  same_lines adds kills =
      let afters = map (λ (a : AddAt). a.after.0) adds in
      let befores = map (λ (a : AddAt). a.before.0) adds in
      let named = add_lines (map (add_in bytes) adds) in (
        λ u i. elim (in_either (afters ++ befores) kills u i) [
          | inl j ↦ in_left named kills u (elim (in_either afters befores u j) [ inl k ↦ after_is_named adds u k | inr k ↦ before_is_named adds u k ])
          | inr j ↦ in_right named kills u j
        ],
        λ u i. elim (in_either named kills u i) [
          | inl j ↦ in_left (afters ++ befores) kills u (elim (after_or_before adds u j) [ inl k ↦ in_left afters befores u k | inr k ↦ in_right afters befores u k ])
          | inr j ↦ in_right (afters ++ befores) kills u j
        ],
      )

-- whether the lines are looked at or their numbers
numbers_of_lines : (adds : List AddAt) (kills : List Line) → map number (lines_in adds kills) ≡ map (λ a. a.after.0) adds ++ map (λ a. a.before.0) adds ++ map number kills
numbers_of_lines adds kills =
    let afters = map (λ (a : AddAt). a.after) adds in
    let befores = map (λ (a : AddAt). a.before) adds in
    map-append number (afters ++ befores) kills
    ∙ ap (λ ns. ns ++ map number kills) (map-append number afters befores ∙ ap₂ ◌++◌ (map_twice (λ a. a.after) adds) (map_twice (λ a. a.before) adds))
  where
    map_twice : (part : AddAt → Line) (all : List AddAt) → map number (map part all) ≡ map (λ a. number (part a)) all
    map_twice part [] = refl
    map_twice part (a ∷ all) = ap (λ ns. number (part a) ∷ ns) (map_twice part all)

kept_numbers : (test : ℕ → Bool) (lines : List Line) → map (λ line. bringer (number line)) (filter (λ line. test (number line)) lines) ≡ map bringer (filter test (map number lines))
kept_numbers test [] = refl
kept_numbers test (line ∷ lines) = go (test (number line)) (kept_numbers test lines)
  where
    go : (b : Bool) → map (λ l. bringer (number l)) (filter (λ l. test (number l)) lines) ≡ map bringer (filter test (map number lines)) →
        map (λ l. bringer (number l)) (cond b (line ∷ filter (λ l. test (number l)) lines) (filter (λ l. test (number l)) lines))
        ≡ map bringer (cond b (number line ∷ filter test (map number lines)) (filter test (map number lines)))
    go true rest = ap (λ ns. bringer (number line) ∷ ns) rest
    go false rest = rest

kept_within : (test : ℕ → Bool) (f : ℕ → ℕ) (us vs : List ℕ) → Within us vs → Within (map f (filter test us)) (map f (filter test vs))
kept_within test f us vs within x i =
    let (u, j, e) = in_mapped f x (filter test us) i in
    let (k, passes) = kept_from test us u j in
    subst (λ y. In y (map f (filter test vs))) (sym e) (mapped_in f u (filter test vs) (kept_has test vs u (within u k) passes))

pub needs_by_parts : (name sheet : ℕ) (texts : List ℕ) (adds : List AddAt) (kills : List Line) →
    sorted (map (λ line. bringer (number line)) (filter (λ line. is_foreign_to name (number line)) (lines_in adds kills))) ≡ needs_named name (request_from sheet texts adds kills)
needs_by_parts name sheet texts adds kills =
    let (from, has) = same_lines texts adds (map number kills) in
    let looked_at = map (λ (a : AddAt). a.after.0) adds ++ map (λ (a : AddAt). a.before.0) adds ++ map number kills in
    let named = named_lines (request_from sheet texts adds kills) in
    ap sorted (kept_numbers (is_foreign_to name) (lines_in adds kills) ∙ ap (λ us. map bringer (filter (is_foreign_to name) us)) (numbers_of_lines adds kills))
    ∙ same_sorted (map bringer (filter (is_foreign_to name) looked_at)) (map bringer (filter (is_foreign_to name) named))
    (kept_within (is_foreign_to name) bringer looked_at named from, kept_within (is_foreign_to name) bringer named looked_at has)
