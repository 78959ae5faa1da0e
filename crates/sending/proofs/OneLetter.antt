-- There is one letter: two that have the same changes begin with the same one, and so on with what is left.
-- Assumes nothing.
use Rattle.std.proofs.Common.{◌≡◌, ◌≤◌, List, [], ◌∷◌, sym, refl, ap, ◌∙◌, inl, inr, arith}
use Rattle.change.specs.Membership.{In, Within, SameMembers}
use Rattle.change.specs.Model.{Change}
use Rattle.order.proofs.Fitting.{sound_like}
use Rattle.sending.specs.Sending.{sent}
use Rattle.sending.specs.Relation.{GoesFirst, Ordered}
use Rattle.sending.specs.Theorems.{OneLetter, SentAlike}
use Rattle.sending.proofs.Walks.{sent_sends}

first_lowest : (c d : Change) (cs : List Change) → Ordered (c ∷ cs) → In d (c ∷ cs) → GoesFirst (c ∷ cs) d → c.name ≤ d.name
first_lowest c d cs o (inl e) f = omega (arith, ap (λ x. x.name) e)
first_lowest c d cs o (inr i) f = o.2 d i f

-- what has the name of the first is the first
by_name : (c d : Change) (cs : List Change) → Ordered (c ∷ cs) → In d (c ∷ cs) → d.name ≡ c.name → d ≡ c
by_name c d cs o (inl e) n = e
by_name c d cs o (inr i) n = absurd (o.0 (d, i, n))

rest_within : (c d : Change) (cs ds : List Change) → c ≡ d → Ordered (c ∷ cs) → Within (c ∷ cs) (d ∷ ds) → Within cs ds
rest_within c d cs ds e o w x i = elim (w x (inr i)) [ inl f ↦ absurd (o.0 (x, i, ap (λ y. y.name) (f ∙ sym e))) | inr j ↦ j ]

-- a letter is known by its members
by_members : (cs ds : List Change) → Ordered cs → Ordered ds → SameMembers cs ds → cs ≡ ds
by_members [] [] o p m = refl
by_members [] (d ∷ ds) o p m = absurd (m.1 d (inl refl))
by_members (c ∷ cs) [] o p m = absurd (m.0 c (inl refl))
by_members (c ∷ cs) (d ∷ ds) o p m =
    let low : d.name ≤ c.name = first_lowest d c ds p (m.0 c (inl refl)) (λ x i. o.1 x (m.1 x i)) in
    let high : c.name ≤ d.name = first_lowest c d cs o (m.1 d (inl refl)) (λ x i. p.1 x (m.0 x i)) in
    let e : c ≡ d = by_name d c ds p (m.0 c (inl refl)) (omega arith) in
    let t = by_members cs ds o.3 p.3 (rest_within c d cs ds e o m.0, rest_within d c ds cs (sym e) p m.1) in
    cc

pub one_letter : OneLetter
one_letter has other S R (to, from) (across, back) cs ds s t = by_members cs ds s.ordered t.ordered (there, here)
  where
    there : Within cs ds
    there c i = let (j, none) = (s.exactly c).0 i in (t.exactly c).1 (across c j, λ n. none (from c.name n))

    here : Within ds cs
    here c i = let (j, none) = (t.exactly c).0 i in (s.exactly c).1 (back c j, λ n. none (to c.name n))

pub sent_alike : SentAlike
sent_alike has other S R names same sound =
    one_letter has other S R names same (sent has S) (sent other R) (sent_sends has S sound) (sent_sends other R (sound_like S R same sound))
