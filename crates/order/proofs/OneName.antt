-- That a sound set has the changes that its changes need, and one change to a name; and the search for a change by its name.
-- Assumes nothing.
use Rattle.std.proofs.Common.{◌≡◌, ℕ, eqb, List, [], ◌∷◌, Decides, sym, ap, ◌∙◌, subst, inl, inr}
use Rattle.std.proofs.lemmas.Bool.Decides.{Decides-eqb}
use Rattle.change.specs.Membership.{In}
use Rattle.change.specs.Model.{Change}
use Rattle.order.specs.Names.{HasName, has_name}
use Rattle.order.specs.Fits.{Listed, Sound, Closed, OneChange}
use Rattle.order.specs.Theorems.{SoundIsClosed}
use Rattle.order.proofs.Deciding.{decides_some}

-- what a change of a listed set needs is in the set, and on its sheet
listed_needs : (L : List Change) → Listed L → (c : Change) → In c L → (n : ℕ) → In n c.needs → (d : Change) × In d L × (d.name ≡ n) × (d.sheet ≡ c.sheet)
listed_needs [] l c i n j = absurd i
listed_needs (d ∷ L) (f, l) c (inl e) n j = let (x, k, a, b) = f.needed n (subst (λ y. In n y.needs) e j) in (x, inr k, a, rw e b)
listed_needs (d ∷ L) (f, l) c (inr i) n j = let (x, k, a, b) = listed_needs L l c i n j in (x, inr k, a, b)

listed_one : (L : List Change) → Listed L → OneChange L L
listed_one [] l c d i j e = absurd i
listed_one (x ∷ L) (f, l) c d (inl a) (inl b) e = a ∙ sym b
listed_one (x ∷ L) (f, l) c d (inl a) (inr j) e = absurd (f.new d j (sym e ∙ ap (λ y. y.name) a))
listed_one (x ∷ L) (f, l) c d (inr i) (inl b) e = absurd (f.new c i (e ∙ ap (λ y. y.name) b))
listed_one (x ∷ L) (f, l) c d (inr i) (inr j) e = listed_one L l c d i j e

pub needs_of_sheet : (L : List Change) → Listed L → (c d : Change) → In c L → In d L → In d.name c.needs → d.sheet ≡ c.sheet
needs_of_sheet L l c d i j n = let (x, k, e, s) = listed_needs L l c i d.name n in ap (λ y. y.sheet) (listed_one L l d x j k (sym e)) ∙ s

pub sound_closed : (S : List Change) → Sound S → Closed S
sound_closed S (L, l, m) c i n j = let (d, k, e, _) = listed_needs L l c (m.1 c i) n j in (d, m.0 d k, e)

pub sound_one : (S : List Change) → Sound S → OneChange S S
sound_one S (L, l, m) c d i j = listed_one L l c d (m.1 c i) (m.1 d j)

pub sound_is_closed : SoundIsClosed
sound_is_closed S s = (sound_closed S s, sound_one S s)

pub has_name_lem : (S : List Change) (n : ℕ) → Decides (has_name S n) (HasName S n)
has_name_lem S n = decides_some (λ d. eqb d.name n) (λ d. d.name ≡ n) (λ d. Decides-eqb d.name n) S
