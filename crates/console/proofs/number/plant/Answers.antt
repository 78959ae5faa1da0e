use Rattle.std.proofs.Common.{◌≡◌, ℕ, ◌^◌, ◌<◌, List, decimal, Option, Some, None, is_some, IfSome, MatchOption, nat_lt, sym, ap, ◌∙◌, arith, rules}
use Rattle.std.proofs.lemmas.Fmt.{decimal_injective}
use Rattle.std.proofs.lemmas.Bool.Decides.{nat_tests}
use Rattle.change.specs.declared.names.Plant.{Plant}
use Rattle.console.proofs.number.plant.Goals as goal

too_high : (word : List ℕ) (m : ℕ) → m < 2 ^ 32 → 15 < m → word ≡ decimal m → (n : ℕ) → n < 16 → word ≡ decimal n → ⊥
too_high word m fits high is n low same = let e = decimal_injective m n (omega arith) (omega arith) (sym is ∙ same) in omega arith

high : (m : ℕ) → (m < 256 → ⊥) → 15 < m
high m none = omega (arith, none)

named : (word : List ℕ) (m : ℕ) (o : Option Plant) → m < 2 ^ 32 → word ≡ decimal m → is_some o ≡ nat_lt m 16 → IfSome o (λ p. p.number ≡ m) →
    MatchOption o ((n : ℕ) → n < 16 → word ≡ decimal n → ⊥) (λ p. word ≡ decimal p.number)
named word m None fits is none value = too_high word m fits (grind (arith, nat_tests, none)) is
named word m (Some p) fits is some value = is ∙ ap decimal (sym value)

pub returns-in_default : goal.returns-in_default
returns-in_default c = too_high c.args.word.now c.in_ok-number.field-0 (search rules) (high c.in_ok-number.field-0 c.in_default.ensures) c.in_ok-number.ensures

pub returns : goal.returns
returns c = named c.args.word.now _ c.new.result (omega arith) (c.in_ok-number.ensures ∙ ap decimal (sym c.in-Ok.ensures.1)) c.new.ensures.some c.new.ensures.value
