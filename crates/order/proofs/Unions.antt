-- That closed sets can be joined, and sound sets with one change to a name.
-- Assumes nothing.
use Rattle.std.proofs.Common.{◌≡◌, List, [], ◌∷◌, ◌++◌, sym, refl, ◌∙◌, inl, inr}
use Rattle.change.specs.Membership.{In, Within}
use Rattle.change.specs.Model.{Change}
use Rattle.order.specs.Names.{HasName}
use Rattle.order.specs.Fits.{Listed, Sound, OneChange}
use Rattle.order.specs.Theorems.{UnionClosed, UnionSound}
use Rattle.order.proofs.Members.{in_left, in_right, in_either}
use Rattle.order.proofs.Fitting.{fits_more, sound_like, sound_more}
use Rattle.order.proofs.Deciding.{choice}
use Rattle.order.proofs.OneName.{has_name_lem}

pub union_closed : UnionClosed
union_closed S R s r c i n j = elim (in_either S R c i) [
  | inl k ↦ let (d, h, e) = s c k n j in (d, in_left S R d h, e)
  | inr k ↦ let (d, h, e) = r c k n j in (d, in_right S R d h, e)
]

-- the changes of the list L are added to S, the oldest first, each unless S has it
listed_union : (L S : List Change) → Listed L → Sound S → OneChange L S → Sound (L ++ S)
listed_union [] S l s one = s
listed_union (c ∷ L) S (f, l) s one = go (choice _ (has_name_lem S c.name)) (listed_union L S l s (λ a b i j. one a b (inr i) j))
  where
    go : Dec (HasName S c.name) → Sound (L ++ S) → Sound (c ∷ (L ++ S))
    go (yes (d, i, e)) rest = sound_like (L ++ S) (c ∷ (L ++ S)) (λ a j. inr j, had) rest
      where
        had : Within (c ∷ (L ++ S)) (L ++ S)
        had a (inl g) = rw (g ∙ one c d (inl refl) i (sym e)) (in_right L S d i)
        had a (inr j) = j
    go (no none) rest = sound_more (L ++ S) c rest (fits_more L (L ++ S) c (in_left L S) new f)
      where
        new : (d : Change) → In d (L ++ S) → d.name ≡ c.name → ⊥
        new d i e = elim (in_either L S d i) [ inl j ↦ f.new d j e | inr j ↦ none (d, j, e) ]

pub union_sound : UnionSound
union_sound S R s (L, l, m) one = sound_like (L ++ S) (S ++ R) (there, back) (listed_union L S l s (λ c d i j e. sym (one d c j (m.0 c i) (sym e))))
  where
    there : Within (L ++ S) (S ++ R)
    there c i = elim (in_either L S c i) [ inl j ↦ in_right S R c (m.0 c j) | inr j ↦ in_left S R c j ]

    back : Within (S ++ R) (L ++ S)
    back c i = elim (in_either S R c i) [ inl j ↦ in_right L S c j | inr j ↦ in_left L S c (m.1 c j) ]
