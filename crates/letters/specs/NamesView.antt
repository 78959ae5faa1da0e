-- The names that a view over lent bytes shows.
-- names_in v: what its bytes read as.
-- NamesRead: what reading bytes as names, and nothing behind them, answers: a view exactly where they are such names' bytes. passed r: r, with the value forgotten.
-- Assumes nothing.
use Rattle.std.specs.Prelude.{◌≡◌, ℕ, true, List, Ok, Err, Result, ◌≢◌}
use Rattle.change.specs.declared.refusal.Refusal.{Refusal}
use Rattle.change.specs.declared.refusal.Refusal.TheVariants.{Malformed}
use Rattle.change.specs.Reading.{Read, next}
use Rattle.letters.specs.declared.names.Names.{Names}
use Rattle.letters.specs.Names.{names_bytes, are_names}
use Rattle.letters.specs.NamesRead.{names_read}

abbrev pub names_in : Names → List ℕ
names_in v = names_read v.bytes.now

abbrev pub NamesRead : List ℕ → Result Names Refusal → Type 0
NamesRead bytes (Ok v) = bytes ≡ names_bytes (names_in v)
NamesRead bytes (Err e) = (e ≡ Malformed) × ((ns : List ℕ) → are_names ns ≡ true → bytes ≢ names_bytes ns)

abbrev pub passed : {X : Type 0} → Read X → Read (Unit {0})
passed r = next r (λ _ rest. Ok (tt, rest))
