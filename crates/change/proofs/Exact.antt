-- Readers that are exact: they answer a value exactly where the bytes are that value's, and what they turn away as malformed stays so, whatever follows.
-- Exact p w P: p reads what w writes, for the values of which P holds.
-- Assumes nothing.
use Rattle.std.proofs.Common.{◌≡◌, ℕ, ◌<◌, Bool, true, false, cond, ◌⊎◌, List, [], ◌++◌, length, take, drop, Ok, Err, Result, sym, refl, ap, ◌∙◌, subst, inl, inr, ⊎_elim, append_assoc, append-nil, arith, length-append, length-drop, take-append-drop}
use Rattle.change.specs.declared.fault.Fault.{Fault}
use Rattle.change.specs.declared.fault.Fault.TheVariants.{CutShort, Malformed}
use Rattle.change.specs.Reading.{Read, next, only}

pub record Exact {X : Type 0} (p : List ℕ → Read X) (w : X → List ℕ) (P : X → Type 0) : Type 0 where
  pub writes : (x : X) (rest : List ℕ) → P x → p (w x ++ rest) ≡ Ok (x, rest)
  pub reads : (bytes : List ℕ) (x : X) (rest : List ℕ) → p bytes ≡ Ok (x, rest) → P x × (bytes ≡ w x ++ rest)
  pub stays : (bytes more : List ℕ) → p bytes ≡ Err Malformed → p (bytes ++ more) ≡ Err Malformed

-- Two answers that differ in their case are no answer.
pub ok_is_not_err : {A : Type 0} {X E : Type 0} {x : X} {e : E} → ◌≡◌ {A = Result X E} (Ok x) (Err e) → A
ok_is_not_err h = let z : ◌≡◌ {A = ℕ} 0 1 = cc in absurd (omega arith)

pub cut_is_not_malformed : {A : Type 0} {X : Type 0} → ◌≡◌ {A = Result X Fault} (Err CutShort) (Err Malformed) → A
cut_is_not_malformed h = let z : ◌≡◌ {A = ℕ} 0 1 = cc in absurd (omega arith)

pub same_answer : {X : Type 0} {x y : X} {l m : List ℕ} → ◌≡◌ {A = Read X} (Ok (x, l)) (Ok (y, m)) → (x ≡ y) × (l ≡ m)
same_answer {X} {x} {y} {l} {m} h = let e : ◌≡◌ {A = X × List ℕ} (x, l) (y, m) = cc in (ap (λ t. t.0) e, ap (λ t. t.1) e)

-- The test of what is whole came out true where a value is read, and goes on failing where it failed.
pub chosen_ok : {X : Type 0} (b : Bool) (x y : X) (l m : List ℕ) → ◌≡◌ {A = Read X} (cond b (Ok (x, l)) (Err Malformed)) (Ok (y, m)) → (b ≡ true) × (x ≡ y) × (l ≡ m)
chosen_ok true x y l m h = let s = same_answer h in (refl, s.0, s.1)
chosen_ok false x y l m h = ok_is_not_err (sym h)

pub chosen_malformed : {X : Type 0} (b : Bool) (x y : X) (l m : List ℕ) → ◌≡◌ {A = Read X} (cond b (Ok (x, l)) (Err Malformed)) (Err Malformed) → ◌≡◌ {A = Read X} (cond b (Ok (y, m)) (Err Malformed)) (Err Malformed)
chosen_malformed true x y l m h = ok_is_not_err h
chosen_malformed false x y l m h = refl

pub next_ok : {X Y : Type 0} (r : Read X) (k : X → List ℕ → Read Y) (y : Y) (rest : List ℕ) → next r k ≡ Ok (y, rest) → (x : X) × (mid : List ℕ) × (r ≡ Ok (x, mid)) × (k x mid ≡ Ok (y, rest))
next_ok (Ok (x, mid)) k y rest h = (x, mid, refl, h)
next_ok (Err e) k y rest h = ok_is_not_err (sym h)

pub next_malformed : {X Y : Type 0} (r : Read X) (k : X → List ℕ → Read Y) → next r k ≡ Err Malformed → (r ≡ Err Malformed) ⊎ ((x : X) × (mid : List ℕ) × (r ≡ Ok (x, mid)) × (k x mid ≡ Err Malformed))
next_malformed (Ok (x, mid)) k h = inr (x, mid, refl, h)
next_malformed (Err CutShort) k h = cut_is_not_malformed h
next_malformed (Err Malformed) k h = inl refl

-- Another way to say which values, or how they are written.
pub exact_by : {X : Type 0} {p : List ℕ → Read X} {w : X → List ℕ} {P : X → Type 0} (v : X → List ℕ) (Q : X → Type 0) → Exact p w P → ((x : X) → w x ≡ v x) → ((x : X) → P x → Q x) → ((x : X) → Q x → P x) → Exact p v Q
exact_by {p = p} v Q e same to from = record {
  writes = λ x rest h. ap (λ l. p (l ++ rest)) (sym (same x)) ∙ e.writes x rest (from x h);
  reads = λ bytes x rest h. let t = e.reads bytes x rest h in (to x t.0, t.1 ∙ ap (λ l. l ++ rest) (same x));
  stays = e.stays;
}

-- What comes behind an exact reader stays malformed if it does by itself.
pub next_stays : {X Y : Type 0} {p : List ℕ → Read X} {w : X → List ℕ} {P : X → Type 0} (k : X → List ℕ → Read Y) → Exact p w P →
    ((x : X) → P x → (bytes more : List ℕ) → k x bytes ≡ Err Malformed → k x (bytes ++ more) ≡ Err Malformed) →
    (bytes more : List ℕ) → next (p bytes) k ≡ Err Malformed → next (p (bytes ++ more)) k ≡ Err Malformed
next_stays {X} {Y} {p} {w} k first second bytes more h = ⊎_elim
    (λ (e : p bytes ≡ Err Malformed). ap (λ r. next r k) (first.stays bytes more e))
    (λ (t : (x : X) × (mid : List ℕ) × (p bytes ≡ Ok (x, mid)) × (k x mid ≡ Err Malformed)).
    let front = first.reads bytes t.0 t.1 t.2 in
    ap (λ l. next (p l) k) (ap (λ l. l ++ more) front.1 ∙ append_assoc (w t.0) t.1 more)
    ∙ ap (λ r. next r k) (first.writes t.0 (t.1 ++ more) front.0)
    ∙ second t.0 front.0 t.1 more t.3)
    (next_malformed (p bytes) k h)

-- A reader, and then one that goes by what the first has read, which is a part of the whole value.
pub next_exact : {X Y : Type 0} {p : List ℕ → Read X} {w : X → List ℕ} {P : X → Type 0} (part : Y → X) (k : X → List ℕ → Read Y) (v : Y → List ℕ) (Q : Y → Type 0) →
    Exact p w P → ((x : X) → P x → Exact (k x) v (λ y. (part y ≡ x) × Q y)) → Exact (λ bytes. next (p bytes) k) (λ y. w (part y) ++ v y) (λ y. P (part y) × Q y)
next_exact {X} {Y} {p} {w} {P} part k v Q first second = record { writes = writes; reads = reads; stays = next_stays k first (λ x h. (second x h).stays) }
  where
    writes : (y : Y) (rest : List ℕ) → P (part y) × Q y → next (p ((w (part y) ++ v y) ++ rest)) k ≡ Ok (y, rest)
    writes y rest h =
        ap (λ l. next (p l) k) (append_assoc (w (part y)) (v y) rest)
        ∙ ap (λ r. next r k) (first.writes (part y) (v y ++ rest) h.0)
        ∙ (second (part y) h.0).writes y rest (refl, h.1)

    reads : (bytes : List ℕ) (y : Y) (rest : List ℕ) → next (p bytes) k ≡ Ok (y, rest) → (P (part y) × Q y) × (bytes ≡ (w (part y) ++ v y) ++ rest)
    reads bytes y rest h =
        let t = next_ok (p bytes) k y rest h in
        let front = first.reads bytes t.0 t.1 t.2 in
        let back = (second t.0 front.0).reads t.1 y rest t.3 in
        let same = sym back.0.0 in (
          (subst P same front.0, back.0.1),
          front.1 ∙ ap (λ x. w x ++ t.1) same ∙ ap (λ l. w (part y) ++ l) back.1 ∙ sym (append_assoc (w (part y)) (v y) rest),
        )

-- Nothing is left to read.
pub done_exact : {Y : Type 0} (x : Y) → Exact (λ bytes. Ok (x, bytes)) (λ y. []) (λ y. y ≡ x)
done_exact {Y} x = record {
  writes = λ y rest h. ap (λ z. Ok (z, rest)) (sym h);
  reads = λ bytes y rest h. let e = same_answer h in (sym e.0, e.1);
  stays = λ bytes more h. ok_is_not_err h;
}

-- What is read must pass a test as well.
pub only_exact : {X : Type 0} {p : List ℕ → Read X} {w : X → List ℕ} {P : X → Type 0} (test : X → Bool) → Exact p w P → Exact (λ bytes. only test (p bytes)) w (λ x. P x × (test x ≡ true))
only_exact {X} {p} {w} {P} test e = record {
  writes = λ x rest h. ap (only test) (e.writes x rest h.0) ∙ ap (λ b. cond b (Ok (x, rest)) (Err Malformed)) h.1;
  reads = λ bytes x rest h.
      let t = next_ok (p bytes) _ x rest h in
      let passed = chosen_ok (test t.0) t.0 x t.1 rest t.3 in
      let front = e.reads bytes t.0 t.1 t.2 in
      ((subst P passed.1 front.0, ap test (sym passed.1) ∙ passed.0), front.1 ∙ (λ i. w (passed.1 i) ++ passed.2 i));
  stays = next_stays _ e (λ x h bytes more. chosen_malformed (test x) x x bytes (bytes ++ more));
}

-- Every front of a value's bytes, the whole of them aside, is cut short.
pub front_is_cut_short : {X : Type 0} {p : List ℕ → Read X} {w : X → List ℕ} {P : X → Type 0} → Exact p w P → (x : X) → P x → (k : ℕ) → k < length (w x) → p (take k (w x)) ≡ Err CutShort
front_is_cut_short {X} {p} {w} {P} e x h k short = go (p (take k (w x))) refl
  where
    front : List ℕ
    front = take k (w x)

    whole : front ++ drop k (w x) ≡ w x
    whole = take-append-drop k (w x)

    read_whole : p (w x) ≡ Ok (x, [])
    read_whole = ap p (sym (append-nil (w x))) ∙ e.writes x [] h

    left_over : (l : List ℕ) → l ++ drop k (w x) ≡ [] → ⊥
    left_over l none = let n = ap length none in omega (arith, n, length-append l (drop k (w x)), length-drop k (w x))

    go : (r : Read X) → p front ≡ r → p front ≡ Err CutShort
    go (Ok (y, rest)) eq =
        let t = e.reads front y rest eq in
        let again = ap p (sym whole ∙ ap (λ l. l ++ drop k (w x)) t.1 ∙ append_assoc (w y) rest (drop k (w x))) ∙ e.writes y (rest ++ drop k (w x)) t.0 in
        absurd (left_over rest (same_answer (sym again ∙ read_whole)).1)
    go (Err CutShort) eq = eq
    go (Err Malformed) eq = ok_is_not_err (sym read_whole ∙ ap p (sym whole) ∙ e.stays front (drop k (w x)) eq)

-- Values that are written alike are the same value.
pub one_string : {X : Type 0} {p : List ℕ → Read X} {w : X → List ℕ} {P : X → Type 0} → Exact p w P → (x y : X) → P x → P y → w x ≡ w y → x ≡ y
one_string {p = p} {w = w} e x y h k same = (same_answer (sym (e.writes x [] h) ∙ ap (λ l. p (l ++ [])) same ∙ e.writes y [] k)).0
