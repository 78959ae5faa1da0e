-- That the changes of a listed set which pass a test fit one another as they come, if with each of them those that it needs pass too; and so, that a closed part of a sound set is sound.
-- NeedsPass test L: with a change of L that passes, those of L that it needs pass.
-- Assumes nothing.
use Rattle.std.proofs.Common.{◌≡◌, ℕ, Bool, true, false, cond, List, [], ◌∷◌, filter, refl, subst, inl, inr, arith}
use native.Mathlib.Decide.{ℕ_discrete}
use Rattle.change.specs.Membership.{In, Within}
use Rattle.change.specs.Model.{Change}
use Rattle.order.specs.Names.{has_name}
use Rattle.order.specs.Order.{Put, puts, Precedes, LineOf}
use Rattle.order.specs.Table.{placed}
use Rattle.order.specs.Fits.{Named, With, Fits, Listed}
use Rattle.order.specs.Theorems.{PartSound}
use Rattle.order.proofs.Members.{kept_from, kept_has}
use Rattle.order.proofs.Precedes.{precedes_more, line_more, brought_more}
use Rattle.order.proofs.PartOrder.{HasItsLines, part_keeps}
use Rattle.order.proofs.Placed.{placed_has, placed_good}
use Rattle.order.proofs.SoundPuts.{sound_has_its_lines}
use Rattle.order.proofs.Fitting.{fits_other, listed_sound}
use Rattle.order.proofs.OneName.{sound_one, has_name_lem}

abbrev pub NeedsPass : (Change → Bool) → List Change → Type 0
NeedsPass test L = (c d : Change) → In c L → In d L → test c ≡ true → In d.name c.needs → test d ≡ true

-- A change c that fits L fits the changes K of L that pass, if those that it needs do.
module _ (test : Change → Bool) (L : List Change) (c : Change) (l : Listed (c ∷ L)) (k : Listed (filter test L))
    (pass : (d : Change) → In d L → In d.name c.needs → test d ≡ true) where
  abbrev K : List Change
  K = filter test L

  named_line : (earlier : List Put) (u : ℕ) → Named K c earlier u → LineOf (With K earlier) u
  named_line earlier u (inl h) = elim (ℕ_discrete u 0) [ yes e ↦ inl e | no ne ↦ inr (inl (omega arith)) ]
  named_line earlier u (inr (inl (p, i, e))) = inr (inr (p, inr i, e))
  named_line earlier u (inr (inr (d, i, n, (p, j, e)))) = inr (inr (p, inl (d, i, j), e))

  -- the earlier puts are c's, and name lines of theirs or of K
  abbrev Ok : List Put → Type 0
  Ok earlier = (q : Put) → In q earlier → In q (puts c) × LineOf (With K earlier) q.after × LineOf (With K earlier) q.before

  -- one put more: what was a line is one, and the two that it names are
  later : (p : Put) (earlier : List Put) (u : ℕ) → LineOf (With K earlier) u → LineOf (With K (p ∷ earlier)) u
  later p earlier = line_more (λ q h. elim h [ inl b ↦ inl b | inr i ↦ inr (inr i) ])

  one : (p : Put) (earlier : List Put) → In p (puts c) → Named K c earlier p.after → Named K c earlier p.before → Ok earlier → Ok (p ∷ earlier)
  one p earlier i a b ok q (inl e) = rw e (i, later p earlier _ (named_line earlier _ a), later p earlier _ (named_line earlier _ b))
  one p earlier i a b ok q (inr j) = let (x, y, z) = ok q j in (x, later p earlier _ y, later p earlier _ z)

  has_its_lines : (earlier : List Put) → Ok earlier → HasItsLines (With K earlier)
  has_its_lines earlier ok q (inl b) =
      let h = sound_has_its_lines K (listed_sound K k) q b in
      (line_more (λ r. inl) _ h.0, line_more (λ r. inl) _ h.1)
  has_its_lines earlier ok q (inr i) = ((ok q i).1, (ok q i).2)

  -- Both K and L, with the earlier puts, are among the puts of c and L, by which the order is the same.
  in_all : (M : List Change) → Within M L → (earlier : List Put) → Ok earlier → (q : Put) → With M earlier q → In q (placed (c ∷ L))
  in_all M w earlier ok q (inl b) = placed_has (c ∷ L) q (brought_more M (c ∷ L) (λ d i. inr (w d i)) q b)
  in_all M w earlier ok q (inr i) = placed_has (c ∷ L) q (c, inl refl, (ok q i).0)

  within : Within K L
  within d i = (kept_from test L d i).0

  order : (earlier : List Put) → Ok earlier → (u v : ℕ) → Named K c earlier u → Named K c earlier v → Precedes (With L earlier) u v → Precedes (With K earlier) u v
  order earlier ok u v a b o =
      part_keeps (placed (c ∷ L)) (placed_good (c ∷ L) l) (With K earlier) (has_its_lines earlier ok) (in_all K within earlier ok) u v
      (named_line earlier u a) (named_line earlier v b) (precedes_more (in_all L (λ d i. i) earlier ok) u v o)

  fits_kept : Fits K c
  fits_kept = fits_other L K c (λ d i n. kept_has test L d i (pass d i n)) Ok (λ q i. absurd i) one order (λ d i. l.0.new d (within d i)) l.0

pub listed_kept : (test : Change → Bool) (L : List Change) → Listed L → NeedsPass test L → Listed (filter test L)
listed_kept test [] l p = tt
listed_kept test (c ∷ L) l p = go (test c) refl (listed_kept test L l.1 (λ d e i j. p d e (inr i) (inr j)))
  where
    go : (b : Bool) → test c ≡ b → Listed (filter test L) → Listed (cond b (c ∷ filter test L) (filter test L))
    go true e k = (fits_kept test L c l k (λ d i. p c d (inl refl) (inr i) e), k)
    go false e k = k

pub part_sound : PartSound
part_sound S R (L, l, m) w closed = (filter test L, listed_kept test L l needs, (to, from))
  where
    test : Change → Bool
    test c = has_name R c.name

    -- R has a change of S if it has one of that name
    passes : (c : Change) → In c L → test c ≡ true → In c R
    passes c i t = let (d, j, e) = (has_name_lem R c.name).0 t in subst (λ x. In x R) (sound_one S (L, l, m) d c (w d j) (m.0 c i) e) j

    needs : NeedsPass test L
    needs c d i j t n = (has_name_lem R d.name).1 (closed c (passes c i t) d.name n)

    to : Within (filter test L) R
    to c i = let (j, t) = kept_from test L c i in passes c j t

    from : Within R (filter test L)
    from c i = kept_has test L c (m.1 c (w c i)) ((has_name_lem R c.name).1 (c, i, refl))
