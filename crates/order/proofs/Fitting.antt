-- When a change that fits one set fits another: its needs are in the other, and the lines that its adds name stand there in the same order.
-- Ok earlier: what the proof that they do may rely on, of the adds that were put already.
-- Assumes nothing.
use Rattle.std.proofs.Common.{◌≡◌, ℕ, List, [], ◌∷◌, sym, refl, subst, inl, inr}
use Rattle.change.specs.Membership.{In, Within, SameMembers}
use Rattle.change.specs.Model.{Change}
use Rattle.order.specs.Order.{Put, puts, Precedes}
use Rattle.order.specs.Fits.{FromNeeds, Named, With, PutsFit, Fits, Listed, Sound}
use Rattle.order.proofs.Precedes.{precedes_more, brought_more}

module _ (S R : List Change) (c : Change) (needs : (d : Change) → In d S → In d.name c.needs → In d R) where
  from_needs : (u : ℕ) → FromNeeds S c u → FromNeeds R c u
  from_needs u (d, i, n, h) = (d, needs d i n, n, h)

  named : (earlier : List Put) (u : ℕ) → Named S c earlier u → Named R c earlier u
  named earlier u (inl h) = inl h
  named earlier u (inr (inl h)) = inr (inl h)
  named earlier u (inr (inr h)) = inr (inr (from_needs u h))

  module _ (Ok : List Put → Type 0) (none : Ok [])
      (one : (p : Put) (earlier : List Put) → In p (puts c) → Named R c earlier p.after → Named R c earlier p.before → Ok earlier → Ok (p ∷ earlier))
      (order : (earlier : List Put) → Ok earlier → (u v : ℕ) → Named R c earlier u → Named R c earlier v → Precedes (With S earlier) u v → Precedes (With R earlier) u v) where
    puts_fit : (earlier ps : List Put) → Within ps (puts c) → Ok earlier → PutsFit S c earlier ps → PutsFit R c earlier ps
    puts_fit earlier [] w ok f = tt
    puts_fit earlier (p ∷ ps) w ok (a, b, o, f) =
        let a' = named earlier _ a in
        let b' = named earlier _ b in
        (a', b', order earlier ok _ _ a' b' o, puts_fit (p ∷ earlier) ps (λ q i. w q (inr i)) (one p earlier (w p (inl refl)) a' b' ok) f)

    pub fits_other : ((d : Change) → In d R → d.name ≡ c.name → ⊥) → Fits S c → Fits R c
    fits_other new f = record {
      formed = f.formed;
      new = new;
      needed = λ n i. let (d, j, e, s) = f.needed n i in (d, needs d j (subst (λ m. In m c.needs) (sym e) i), e, s);
      adds = puts_fit [] (puts c) (λ q i. i) none f.adds;
      kills = λ u i. from_needs u (f.kills u i);
    }

with_more : (S R : List Change) → Within S R → (earlier : List Put) (q : Put) → With S earlier q → With R earlier q
with_more S R w earlier q (inl b) = inl (brought_more S R w q b)
with_more S R w earlier q (inr i) = inr i

-- A larger set that has no change of its name is such another.
pub fits_more : (S R : List Change) (c : Change) → Within S R → ((d : Change) → In d R → d.name ≡ c.name → ⊥) → Fits S c → Fits R c
fits_more S R c w = fits_other S R c (λ d i n. w d i) (λ earlier. Unit {0}) tt (λ p earlier i a b ok. tt) (λ earlier ok u v a b. precedes_more (with_more S R w earlier) u v)

pub listed_sound : (L : List Change) → Listed L → Sound L
listed_sound L l = (L, l, (λ c i. i, λ c i. i))

pub sound_like : (S R : List Change) → SameMembers S R → Sound S → Sound R
sound_like S R w (L, l, m) = (L, l, (λ c i. w.0 c (m.0 c i), λ c i. m.1 c (w.1 c i)))

pub sound_more : (S : List Change) (c : Change) → Sound S → Fits S c → Sound (c ∷ S)
sound_more S c (L, l, m) f = (c ∷ L, (fits_more S L c m.1 (λ d i. f.new d (m.0 d i)) f, l), (kept L S m.0, kept S L m.1))
  where
    kept : (X Y : List Change) → Within X Y → Within (c ∷ X) (c ∷ Y)
    kept X Y w d (inl e) = inl e
    kept X Y w d (inr i) = inr (w d i)
