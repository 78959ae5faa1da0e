-- A loop that reads several values: what it has, and what reading the others will say.
-- Going one then n state bytes done whole: with `done` read and n still to come, the whole reading says what reading those says, behind `done`.
-- Assumes nothing.
use Rattle.std.proofs.Common.{◌≡◌, ℕ, suc, List, [], ◌∷◌, ◌++◌, Ok, Err, sym, refl, ap, ◌∙◌, append_assoc, append-nil}
use Rattle.change.specs.declared.fault.Fault.{Fault}
use Rattle.change.specs.Reading.{Read, next, several}

abbrev pub behind : {X : Type 0} → List X → Read (List X) → Read (List X)
behind done r = next r (λ xs rest. Ok (done ++ xs, rest))

behind_none : {X : Type 0} (r : Read (List X)) → r ≡ behind [] r
behind_none (Ok x) = refl
behind_none (Err e) = refl

behind_one : {X : Type 0} (done : List X) (x : X) (r : Read (List X)) → behind done (next r (λ xs rest. Ok (x ∷ xs, rest))) ≡ behind (done ++ x ∷ []) r
behind_one done x (Ok (xs, rest)) = ap (λ l. Ok (l, rest)) (sym (append_assoc done (x ∷ []) xs))
behind_one done x (Err e) = refl

pub record Going {X : Type 0} (one : ℕ → List ℕ → Read X) (then : X → ℕ) (n state : ℕ) (bytes : List ℕ) (done : List X) (whole : Read (List X)) : Type 0 where
  pub says : whole ≡ behind done (several one then n state bytes)

module _ {X : Type 0} (one : ℕ → List ℕ → Read X) (then : X → ℕ) where
  pub counted_goes : (state : ℕ) {n : ℕ} {rest : List ℕ} {r : Read ℕ} → Ok (n, rest) ≡ r → several one then n state rest ≡ next r (λ k rest'. several one then k state rest')
  counted_goes state e = ap (λ s. next s (λ k rest'. several one then k state rest')) e

  pub goes_from_none : {m n s state : ℕ} {bytes : List ℕ} {done : List X} → m ≡ n → s ≡ state → done ≡ [] → Going one then m s bytes done (several one then n state bytes)
  goes_from_none {bytes = bytes} em es ed = record { says = behind_none _ ∙ (λ i. behind (sym ed i) (several one then (sym em i) (sym es i) bytes)) }

module _ {X : Type 0} {one : ℕ → List ℕ → Read X} {then : X → ℕ} {m state : ℕ} {bytes : List ℕ} {done : List X} {whole : Read (List X)} (going : Going one then m state bytes done whole) where
  at_one : (n : ℕ) → m ≡ suc n → (r : Read X) → r ≡ one state bytes → whole ≡ behind done (next r (λ x rest. next (several one then n (then x) rest) (λ xs rest'. Ok (x ∷ xs, rest'))))
  at_one n more r e = going.says ∙ (λ i. behind done (several one then (more i) state bytes)) ∙ (λ i. behind done (next (sym e i) (λ x rest. next (several one then n (then x) rest) (λ xs rest'. Ok (x ∷ xs, rest')))))

  pub goes_on : {n s : ℕ} {rest : List ℕ} {done' : List X} {x : X} → m ≡ suc n → Ok (x, rest) ≡ one state bytes → s ≡ then x → done' ≡ done ++ x ∷ [] → Going one then n s rest done' whole
  goes_on {n} {s} {rest} {done'} {x} more e es ed = record { says = at_one n more _ e ∙ behind_one done x _ ∙ (λ i. behind (sym ed i) (several one then n (sym es i) rest)) }

  pub goes_wrong : (n : ℕ) (e : Fault) → m ≡ suc n → Err e ≡ one state bytes → Err e ≡ whole
  goes_wrong n e more h = sym (at_one n more _ h)

  pub goes_through : m ≡ 0 → Ok (done, bytes) ≡ whole
  goes_through none = ap (λ l. Ok (l, bytes)) (sym (append-nil done)) ∙ sym (going.says ∙ (λ i. behind done (several one then (none i) state bytes)))
