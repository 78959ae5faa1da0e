-- That the lowest-numbered refusal that holds is the one given, and that none is given where none holds.
-- Numbered low es: the numbers of es rise, from low on. IsFirst test es o: what the first of es that passes a test is: the one with the lowest number, or none.
-- Assumes nothing.
use Rattle.std.proofs.Common.{◌≡◌, ℕ, suc, ◌≤◌, Bool, true, false, cond, List, [], ◌∷◌, map, Some, None, Ok, Err, Option, Result, sym, refl, ap, ◌∙◌, inl, inr, arith}
use Rattle.std.proofs.lemmas.Bool.{and_parts, both_ways, leb-true}
use Rattle.change.specs.declared.refusal.Refusal.{Refusal}
use Rattle.change.specs.declared.refusal.Refusal.TheVariants.{Malformed, Known, Unrelated, Unordered, Full, Needed, Missing, Exhausted, Misplaced}
use Rattle.change.specs.Membership.{In}
use Rattle.change.specs.Refusals.{number_of}
use Rattle.change.specs.WellFormed.{rising}
use Rattle.history.specs.Book.{Book}
use Rattle.making.specs.Request.{Request}
use Rattle.making.specs.Making.{change_for, holds, refusals, first_of, refusal, unless}
use Rattle.making.specs.Theorems.{LowestWins, MadeUnlessRefused}

listed_refusal : (e : Refusal) → In e refusals
listed_refusal Malformed = inl refl
listed_refusal Known = inr (inl refl)
listed_refusal Unrelated = inr (inr (inl refl))
listed_refusal Unordered = inr (inr (inr (inl refl)))
listed_refusal Full = inr (inr (inr (inr (inl refl))))
listed_refusal Needed = inr (inr (inr (inr (inr (inl refl)))))
listed_refusal Missing = inr (inr (inr (inr (inr (inr (inl refl))))))
listed_refusal Exhausted = inr (inr (inr (inr (inr (inr (inr (inl refl)))))))
listed_refusal Misplaced = inr (inr (inr (inr (inr (inr (inr (inr (inl refl))))))))

abbrev Numbered : ℕ → List Refusal → Type 0
Numbered low es = rising low 9 (map number_of es) ≡ true

numbered_more : {low : ℕ} (e : Refusal) (es : List Refusal) → Numbered low (e ∷ es) → (low ≤ number_of e) × Numbered (suc (number_of e)) es
numbered_more e es h = let (range, more) = and_parts _ _ h in (leb-true _ _ (and_parts _ _ range).0, more)

numbered_low : (low : ℕ) (es : List Refusal) → Numbered low es → (e : Refusal) → In e es → low ≤ number_of e
numbered_low low [] h e i = absurd i
numbered_low low (f ∷ es) h e (inl p) = rw p (numbered_more f es h).0
numbered_low low (f ∷ es) h e (inr i) = let (here, more) = numbered_more f es h in omega (arith, numbered_low _ es more e i)

-- a number has one refusal
numbered_one : (low : ℕ) (es : List Refusal) → Numbered low es → (e f : Refusal) → In e es → In f es → number_of e ≡ number_of f → e ≡ f
numbered_one low [] h e f i j p = absurd i
numbered_one low (x ∷ es) h e f (inl a) (inl b) p = a ∙ sym b
numbered_one low (x ∷ es) h e f (inl a) (inr j) p = absurd (omega (arith, ap number_of a, numbered_low _ es (numbered_more x es h).1 f j))
numbered_one low (x ∷ es) h e f (inr i) (inl b) p = absurd (omega (arith, ap number_of b, numbered_low _ es (numbered_more x es h).1 e i))
numbered_one low (x ∷ es) h e f (inr i) (inr j) p = numbered_one _ es (numbered_more x es h).1 e f i j p

module _ (test : Refusal → Bool) where
  abbrev IsFirst : List Refusal → Option Refusal → Type 0
  IsFirst es None = (e : Refusal) → In e es → test e ≡ false
  IsFirst es (Some e) = (test e ≡ true) × ((f : Refusal) → In f es → test f ≡ true → number_of e ≤ number_of f)

  first_is : (low : ℕ) (es : List Refusal) → Numbered low es → IsFirst es (first_of test es)
  first_is low [] h = λ e i. absurd i
  first_is low (x ∷ es) h = go (test x) refl (first_of test es) (first_is _ es (numbered_more x es h).1)
    where
      low_here : (f : Refusal) → In f (x ∷ es) → number_of x ≤ number_of f
      low_here f (inl q) = omega (arith, ap number_of q)
      low_here f (inr i) = omega (arith, numbered_low _ es (numbered_more x es h).1 f i)

      go : (b : Bool) → test x ≡ b → (o : Option Refusal) → IsFirst es o → IsFirst (x ∷ es) (cond b (Some x) o)
      go true t o first = (t, λ f i _. low_here f i)
      go false t None none = λ e i. elim i [ inl p ↦ ap test p ∙ t | inr j ↦ none e j ]
      go false t (Some e) (s, least) = (s, λ f i u. elim i [ inl p ↦ absurd (both_ways (test f) (ap test p ∙ t) u) | inr j ↦ least f j u ])

ok_or_err : {X : Type 0} (x : X) (e : Refusal) → ◌≡◌ {A = Result X Refusal} (Ok x) (Err e) → ⊥
ok_or_err x e p = let z : ◌≡◌ {A = ℕ} 0 1 = cc in omega arith

module _ (B : Book) (r : Request) where
  told : IsFirst (holds B r) refusals (refusal B r)
  told = first_is (holds B r) 1 refusals refl

  -- where something is made, no refusal holds
  pub made_none_holds : {X : Type 0} (x y : X) → unless (refusal B r) x ≡ Ok y → ((e : Refusal) → holds B r e ≡ false) × (x ≡ y)
  made_none_holds {X} x y = go (refusal B r) told
    where
      go : (o : Option Refusal) → IsFirst (holds B r) refusals o → unless o x ≡ Ok y → ((e : Refusal) → holds B r e ≡ false) × (x ≡ y)
      go None none p = (λ e. none e (listed_refusal e), cc)
      go (Some e) first p = absurd (ok_or_err y e (sym p))

pub made_unless_refused : MadeUnlessRefused
made_unless_refused B r = (λ p. (made_none_holds B r _ _ p).0, λ none. go none (refusal B r) (told B r))
  where
    go : ((e : Refusal) → holds B r e ≡ false) → (o : Option Refusal) → IsFirst (holds B r) refusals o → unless o (change_for B r) ≡ Ok (change_for B r)
    go none None _ = refl
    go none (Some e) (t, _) = absurd (both_ways _ (none e) t)

pub lowest_wins : LowestWins
lowest_wins B r e = (to (refusal B r) (told B r), λ (t, least). from t least (refusal B r) (told B r))
  where
    Least : Type 0
    Least = (f : Refusal) → holds B r f ≡ true → number_of e ≤ number_of f

    to : (o : Option Refusal) → IsFirst (holds B r) refusals o → unless o (change_for B r) ≡ Err e → (holds B r e ≡ true) × Least
    to None none p = absurd (ok_or_err _ e p)
    to (Some f) (t, least) p = let same : f ≡ e = cc in (rw same at t, λ g u. rw same at (least g (listed_refusal g) u))

    from : holds B r e ≡ true → Least → (o : Option Refusal) → IsFirst (holds B r) refusals o → unless o (change_for B r) ≡ Err e
    from t least None none = absurd (both_ways _ (none e (listed_refusal e)) t)
    from t least (Some f) (u, low) =
        ap Err (numbered_one 1 refusals refl f e (listed_refusal f) (listed_refusal e) (omega (arith, low e (listed_refusal e) t, least f u)))
