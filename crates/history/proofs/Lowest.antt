-- That the change which is tried next is the one with the lowest name of those that wait and are ready.
-- Assumes nothing.
use Rattle.std.proofs.Common.{◌≡◌, ◌≤◌, Bool, true, false, cond, ltb, List, [], ◌∷◌, Some, None, Decides, filter, Option, refl, ap, subst, inl, inr, arith}
use Rattle.std.proofs.lemmas.Bool.{ltb-true, ltb-false}
use Rattle.change.specs.Membership.{In}
use Rattle.change.specs.Model.{Change}
use Rattle.order.proofs.Members.{kept_from, kept_has}
use Rattle.history.specs.Book.{Book, is_ready}
use Rattle.history.specs.Taking.{lower, lowest, lowest_ready}
use Rattle.history.specs.Theorems.{Ready, LowestNext}
use Rattle.history.proofs.Names.{distinct_one, decides_ready}

-- what the lowest of a list is: none, if the list is empty
abbrev pub IsLowest : List Change → Option Change → Type 0
IsLowest S None = (d : Change) → In d S → ⊥
IsLowest S (Some c) = In c S × ((d : Change) → In d S → c.name ≤ d.name)

lower_is : (c : Change) (S : List Change) (o : Option Change) → IsLowest S o → IsLowest (c ∷ S) (lower c o)
lower_is c S None none = (inl refl, λ d i. elim i [ inl e ↦ rw e (omega arith) | inr j ↦ absurd (none d j) ])
lower_is c S (Some d) (i, low) = go (ltb d.name c.name) refl
  where
    go : (b : Bool) → ltb d.name c.name ≡ b → IsLowest (c ∷ S) (cond b (Some d) (Some c))
    go true e = (inr i, λ x j. elim j [ inl f ↦ omega (arith, ap (λ y. y.name) f, ltb-true _ _ e) | inr k ↦ low x k ])
    go false e = (inl refl, λ x j. elim j [ inl f ↦ omega (arith, ap (λ y. y.name) f) | inr k ↦ omega (arith, low x k, ltb-false _ _ e) ])

pub lowest_is : (S : List Change) → IsLowest S (lowest S)
lowest_is [] = λ d i. i
lowest_is (c ∷ S) = lower_is c S (lowest S) (lowest_is S)

module _ (B : Book) where
  abbrev ready : List Change
  ready = filter (is_ready B) B.waiting

  next_lowest : (o : Option Change) → lowest_ready B ≡ o → IsLowest ready o
  next_lowest o e = subst (IsLowest ready) e (lowest_is ready)

  pub next_waits : (c : Change) → lowest_ready B ≡ Some c → In c B.waiting × (is_ready B c ≡ true)
  next_waits c e = kept_from (is_ready B) B.waiting c (next_lowest (Some c) e).0

  pub none_ready : lowest_ready B ≡ None → (d : Change) → In d B.waiting → is_ready B d ≡ true → ⊥
  none_ready e d i t = next_lowest None e d (kept_has (is_ready B) B.waiting d i t)

  next_low : (c : Change) → lowest_ready B ≡ Some c → (d : Change) → In d B.waiting → is_ready B d ≡ true → c.name ≤ d.name
  next_low c e d i t = (next_lowest (Some c) e).1 d (kept_has (is_ready B) B.waiting d i t)

pub lowest_next : LowestNext
lowest_next B distinct c = (to, λ (i, r, low). from i r low (lowest_ready B) refl)
  where
    Lowest : Type 0
    Lowest = (d : Change) → In d B.waiting → Ready B d → c.name ≤ d.name

    tells : (d : Change) → Decides (is_ready B d) (Ready B d)
    tells = decides_ready B.changes

    to : lowest_ready B ≡ Some c → In c B.waiting × Ready B c × Lowest
    to e = let (i, t) = next_waits B c e in (i, (tells c).0 t, λ d j r. next_low B c e d j ((tells d).1 r))

    from : In c B.waiting → Ready B c → Lowest → (o : Option Change) → lowest_ready B ≡ o → o ≡ Some c
    from i r low None e = absurd (none_ready B e c i ((tells c).1 r))
    from i r low (Some d) e =
        let (j, t) = next_waits B d e in
        ap Some (distinct_one B.waiting distinct d c j i (omega (arith, low d j ((tells d).0 t), next_low B d e c i ((tells c).1 r))))
