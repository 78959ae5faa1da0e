-- The first line that leads to a conflict, if any does.
-- Assumes nothing.
use Rattle.std.proofs.Common.{◌≡◌, ℕ, Bool, true, false, cond, List, [], ◌∷◌, Some, None, Option, IsSomeAnd, MatchOption, sym, refl, ap, ◌∙◌, subst, inl, inr, Bor}
use Rattle.std.specs.List.{find}
use Rattle.std.specs.Option.{option_map}
use Rattle.change.specs.declared.names.Line.{Line}
use Rattle.change.specs.Membership.{In}
use Rattle.sheet.specs.declared.line.LineAt.{LineAt}
use Rattle.conflicts.specs.Leading.{leads_from, NoneLeads, SomeLeads}

module _ {X : Type 0} (test : X → Bool) where
  -- what is found is the first that passes, and nothing where none does
  found : (x : X) (xs : List X) → find test xs ≡ Some x → In x xs × (test x ≡ true)
  found x [] e = let no : ⊥ = cc in absurd no
  found x (y ∷ ys) e = go (test y) refl (found x ys) e
    where
      go : (b : Bool) → test y ≡ b → (find test ys ≡ Some x → In x ys × (test x ≡ true)) → cond b (Some y) (find test ys) ≡ Some x → In x (y ∷ ys) × (test x ≡ true)
      go true t rest f = let same : y ≡ x = cc in (inl (sym same), sym (ap test same) ∙ t)
      go false t rest f = (inr (rest f).0, (rest f).1)

  none_found : (xs : List X) → find test xs ≡ None → (x : X) → In x xs → test x ≡ false
  none_found [] e x i = absurd i
  none_found (y ∷ ys) e x i = go (test y) refl (none_found ys) e i
    where
      go : (b : Bool) → test y ≡ b → (find test ys ≡ None → (z : X) → In z ys → test z ≡ false) → cond b (Some y) (find test ys) ≡ None → In x (y ∷ ys) → test x ≡ false
      go true t rest f i = let no : ⊥ = cc in absurd no
      go false t rest f (inl same) = ap test same ∙ t
      go false t rest f (inr j) = rest f x j

module _ (R : ℕ → ℕ → Bool) (above : List LineAt) (m : ℕ) (ls : List LineAt) (start : leads_from R above m 0 ≡ false) where
  abbrev leads : LineAt → Bool
  leads a = leads_from R above m a.slot

  pub first_leads :
      {C : Bor LineAt → Line → Type 0} (o : Option (Bor LineAt)) (r : Option Line) → option_map (λ b. b.now) o ≡ find leads ls → MatchOption o (r ≡ None) (λ b. IsSomeAnd r (C b)) → ((b : Bor LineAt) (u : Line) → C b u → u ≡ b.now.number) →
      MatchOption r (NoneLeads R above m ls) (λ u. SomeLeads R above m ls u.0)
  first_leads None r is e number =
      subst (λ q. MatchOption q (NoneLeads R above m ls) (λ u. SomeLeads R above m ls u.0)) (sym e) (start, none_found leads ls (sym is))
  first_leads (Some b) None is e number = absurd e
  first_leads (Some b) (Some u) is e number =
      let (there, passes) = found leads b.now ls (sym is) in
      inr (b.now, there, ap (λ l. l.0) (sym (number b u e)), passes)
