-- Lines in a chain, put one behind the other and all before one line.
-- Linked R a m us: the first of us stands behind a, each other behind the one before it, and all before m.
-- Assumes nothing.
use Rattle.std.proofs.Common.{◌≡◌, ℕ, suc, List, [], ◌∷◌, ◌++◌, map, sym, refl, ap, subst, inl, inr}
use Rattle.change.specs.Membership.{In}
use Rattle.order.specs.Order.{Put, puts_from, Precedes, behind, ahead}
use Rattle.order.proofs.Precedes.{Transitive, Sub}
use Rattle.settling.specs.Requests.{chained, numbers_from, last_of}
use Rattle.settling.proofs.Replaced.{Chained}

abbrev pub Linked : (ℕ → ℕ → Type 0) → ℕ → ℕ → List ℕ → Type 0
Linked R a m [] = Unit {0}
Linked R a m (u ∷ us) = R a u × R u m × Linked R u m us

module _ (R : ℕ → ℕ → Type 0) (m : ℕ) where
  pub linked_more : (T : ℕ → ℕ → Type 0) → Sub R T → (a : ℕ) (us : List ℕ) → Linked R a m us → Linked T a m us
  linked_more T f a [] l = tt
  linked_more T f a (u ∷ us) (p, q, l) = (f a u p, f u m q, linked_more T f u us l)

  pub linked_on : (a : ℕ) (us vs : List ℕ) → Linked R a m us → Linked R (last_of a us) m vs → Linked R a m (us ++ vs)
  linked_on a [] vs l k = k
  linked_on a (u ∷ us) vs (p, q, l) k = (p, q, linked_on u us vs l k)

  pub linked_last : (a : ℕ) (us : List ℕ) → R a m → Linked R a m us → R (last_of a us) m
  linked_last a [] h l = h
  linked_last a (u ∷ us) h (p, q, l) = linked_last u us q l

  pub linked_before : (a : ℕ) (us : List ℕ) → Linked R a m us → (v : ℕ) → In v us → R v m
  linked_before a [] l v i = absurd i
  linked_before a (u ∷ us) (p, q, l) v (inl e) = subst (λ x. R x m) (sym e) q
  linked_before a (u ∷ us) (p, q, l) v (inr i) = linked_before u us l v i

  module _ (trans : Transitive R) where
    pub linked_behind : (a : ℕ) (us : List ℕ) → Linked R a m us → (v : ℕ) → In v us → R a v
    linked_behind a [] l v i = absurd i
    linked_behind a (u ∷ us) (p, q, l) v (inl e) = subst (R a) (sym e) p
    linked_behind a (u ∷ us) (p, q, l) v (inr i) = trans a u v p (linked_behind u us l v i)

    pub linked_chained : (a : ℕ) (us : List ℕ) → Linked R a m us → Chained R us
    linked_chained a [] l = tt
    linked_chained a (u ∷ us) (p, q, l) = (linked_behind u us l, linked_chained u us l)

-- the puts of chained adds link their lines
pub puts_linked : (P : Put → Type 0) (m a n : ℕ) (texts : List (List ℕ)) → ((p : Put) → In p (puts_from n (chained m a n texts)) → P p) → Linked (Precedes P) a m (numbers_from n texts)
puts_linked P m a n [] has = tt
puts_linked P m a n (t ∷ texts) has =
    let p : Put = record { line = n; after = a; before = m } in
    (behind p (has p (inl refl)), ahead p (has p (inl refl)), puts_linked P m n (suc n) texts (λ q i. has q (inr i)))

pub put_number : (m a n : ℕ) (texts : List (List ℕ)) (p : Put) → In p (puts_from n (chained m a n texts)) → In p.line (numbers_from n texts)
put_number m a n [] p i = absurd i
put_number m a n (t ∷ texts) p (inl e) = inl (ap (λ q. q.line) e)
put_number m a n (t ∷ texts) p (inr i) = inr (put_number m n (suc n) texts p i)

pub number_put : (m a n : ℕ) (texts : List (List ℕ)) (u : ℕ) → In u (numbers_from n texts) → (p : Put) × In p (puts_from n (chained m a n texts)) × (p.line ≡ u)
number_put m a n [] u i = absurd i
number_put m a n (t ∷ texts) u (inl e) = (record { line = n; after = a; before = m }, inl refl, sym e)
number_put m a n (t ∷ texts) u (inr i) = let (p, j, e) = number_put m n (suc n) texts u i in (p, inr j, e)

pub numbers_alike : {X Y : Type 0} (f : X → Y) (n : ℕ) (xs : List X) → numbers_from n (map f xs) ≡ numbers_from n xs
numbers_alike f n [] = refl
numbers_alike f n (x ∷ xs) = ap (λ us. n ∷ us) (numbers_alike f (suc n) xs)
