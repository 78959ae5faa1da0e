-- That the puts of a listed set, as they come, make a good list.
-- Ready S earlier Q n m: Q is a good list of the puts of S and the earlier ones of the next change, with no line from n up to m.
-- Assumes nothing.
use Rattle.std.proofs.Common.{◌≡◌, ℕ, suc, ◌+◌, ◌<◌, ◌≤◌, true, ◌⊎◌, List, [], ◌∷◌, length, refl, subst, inl, inr, arith}
use Rattle.change.specs.Membership.{In}
use Rattle.change.specs.Model.{Add, Change, line_of}
use Rattle.change.specs.WellFormed.{well_formed}
use Rattle.change.proofs.Limits.{name_least, adds_most}
use Rattle.order.specs.Order.{Put, puts, puts_from, Brought, Precedes}
use Rattle.order.specs.Table.{onto, placed}
use Rattle.order.specs.Good.{On, NewOn, Good}
use Rattle.order.specs.Fits.{With, PutsFit, Listed}
use Rattle.order.proofs.Precedes.{precedes_more, brought_more}
use Rattle.order.proofs.Stands.{on_cases}
use Rattle.order.proofs.Table.{stands_bef}
use Rattle.order.proofs.Numbers.{line_range}

onto_from : (Q ps : List Put) (q : Put) → In q (onto Q ps) → In q Q ⊎ In q ps
onto_from Q [] q i = inl i
onto_from Q (p ∷ ps) q i = elim (onto_from (p ∷ Q) ps q i) [ inl (inl e) ↦ inr (inl e) | inl (inr j) ↦ inl j | inr j ↦ inr (inr j) ]

onto_has : (Q ps : List Put) (q : Put) → In q Q ⊎ In q ps → In q (onto Q ps)
onto_has Q [] q (inl i) = i
onto_has Q [] q (inr i) = absurd i
onto_has Q (p ∷ ps) q (inl i) = onto_has (p ∷ Q) ps q (inl (inr i))
onto_has Q (p ∷ ps) q (inr (inl e)) = onto_has (p ∷ Q) ps q (inl (inl e))
onto_has Q (p ∷ ps) q (inr (inr i)) = onto_has (p ∷ Q) ps q (inr i)

pub placed_from : (L : List Change) (q : Put) → In q (placed L) → Brought L q
placed_from [] q i = absurd i
placed_from (c ∷ L) q i = elim (onto_from (placed L) (puts c) q i) [ inl j ↦ brought_more L (c ∷ L) (λ d k. inr k) q (placed_from L q j) | inr j ↦ (c, inl refl, j) ]

pub placed_has : (L : List Change) (q : Put) → Brought L q → In q (placed L)
placed_has [] q (d, i, j) = absurd i
placed_has (c ∷ L) q (d, inl e, j) = onto_has (placed L) (puts c) q (inr (subst (λ a. In q (puts a)) e j))
placed_has (c ∷ L) q (d, inr i, j) = onto_has (placed L) (puts c) q (inl (placed_has L q (d, i, j)))

pub record Ready (S : List Change) (earlier Q : List Put) (n m : ℕ) : Type 0 where
  pub low : 2 ≤ n
  pub free : (u : ℕ) → On Q u → n ≤ u → u < m → ⊥
  pub has : (q : Put) → With S earlier q → In q Q
  pub from : (q : Put) → In q Q → With S earlier q
  pub good : Good Q

module _ (S : List Change) (m : ℕ) where
  -- an add takes the first of the numbers that are free
  pub ready_more : (earlier Q : List Put) (p : Put) → p.line < m → Precedes (With S earlier) p.after p.before → Ready S earlier Q p.line m →
      Ready S (p ∷ earlier) (p ∷ Q) (suc p.line) m
  ready_more earlier Q p room order r = record { low = omega (arith, r.low); free = free'; has = has'; from = from'; good = (new, r.good) }
    where
      free' : (u : ℕ) → On (p ∷ Q) u → p.line < u → u < m → ⊥
      free' u o h k = elim (on_cases p Q u o) [ inl e ↦ omega arith | inr q ↦ r.free u q (omega arith) k ]

      has' : (q : Put) → With S (p ∷ earlier) q → In q (p ∷ Q)
      has' q (inl b) = inr (r.has q (inl b))
      has' q (inr (inl e)) = inl e
      has' q (inr (inr i)) = inr (r.has q (inr i))

      from' : (q : Put) → In q (p ∷ Q) → With S (p ∷ earlier) q
      from' q (inl e) = inr (inl e)
      from' q (inr i) = elim (r.from q i) [ inl b ↦ inl b | inr j ↦ inr (inr j) ]

      new : NewOn Q p
      new = record { low = r.low; new = λ o. r.free p.line o (omega arith) room; between = stands_bef Q r.good _ _ (precedes_more r.has _ _ order) }

  -- the adds of a change one by one
  puts_good : (c : Change) (n : ℕ) (adds : List Add) (earlier Q : List Put) → n + length adds ≤ m → PutsFit S c earlier (puts_from n adds) → Ready S earlier Q n m → Good (onto Q (puts_from n adds))
  puts_good c n [] earlier Q high fit r = r.good
  puts_good c n (a ∷ adds) earlier Q high (_, _, order, fit) r = puts_good c (suc n) adds (p ∷ earlier) (p ∷ Q) (omega arith) fit (ready_more earlier Q p (omega arith) order r)
    where
      p : Put
      p = record { line = n; after = a.after; before = a.before }

pub listed_formed : (L : List Change) → Listed L → (c : Change) → In c L → well_formed c ≡ true
listed_formed [] l c i = absurd i
listed_formed (d ∷ L) (f, l) c (inl e) = rw e f.formed
listed_formed (d ∷ L) (f, l) c (inr i) = listed_formed L l c i

-- the puts of a listed set are ready for those of a change with a new name
pub ready_new : (L : List Change) (c : Change) → Listed L → Good (placed L) → well_formed c ≡ true → ((d : Change) → In d L → d.name ≡ c.name → ⊥) →
    Ready L [] (placed L) (line_of c.name 0) (line_of c.name 64)
ready_new L c l good formed new = record {
  low = omega (arith, least);
  free = free;
  has = λ q i. elim i [ inl b ↦ placed_has L q b | inr j ↦ absurd j ];
  from = λ q i. inl (placed_from L q i);
  good = good;
}
  where
    least : 16 ≤ c.name
    least = name_least c formed

    free : (u : ℕ) → On (placed L) u → line_of c.name 0 ≤ u → u < line_of c.name 64 → ⊥
    free u (inl e) h k = omega (arith, least)
    free u (inr (inl e)) h k = omega (arith, least)
    free u (inr (inr (q, i, e))) h k =
        let (d, j, p) = placed_from L q i in
        new d j (omega (arith, line_range d (listed_formed L l d j) q p))

pub placed_good : (L : List Change) → Listed L → Good (placed L)
placed_good [] l = tt
placed_good (c ∷ L) (f, l) =
    puts_good L (line_of c.name 64) c (line_of c.name 0) c.adds [] (placed L) (omega (arith, adds_most c f.formed)) f.adds
    (ready_new L c l (placed_good L l) f.formed f.new)
