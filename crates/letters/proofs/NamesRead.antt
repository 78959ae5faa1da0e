-- Reading names to their end, where only that they were read is kept.
-- Assumes nothing.
use Rattle.std.proofs.Common.{◌≡◌, ℕ, true, List, length, Ok, Err, sym, ap, ◌∙◌, subst}
use Rattle.change.specs.declared.fault.Fault.{Fault}
use Rattle.change.specs.Reading.{Read}
use Rattle.change.proofs.Exact.{ok_is_not_err, same_answer, next_ok}
use Rattle.letters.specs.NamesRead.{values_of, names_read}
use Rattle.letters.specs.Names.{names_bytes, are_names, names_of}
use Rattle.letters.specs.NamesView.{passed}
use Rattle.letters.proofs.Codec.{names_exact, fault_is_no_value, rest_is_no_value, no_rest_is_whole}

passed_fault : {X : Type 0} (r : Read X) (f : Fault) → Err f ≡ passed r → r ≡ Err f
passed_fault (Ok (x, rest)) f h = ok_is_not_err (sym h)
passed_fault (Err e) f h = let same : f ≡ e = cc in ap Err (sym same)

module _ (bytes : List ℕ) where
  pub no_names : (f : Fault) → Err f ≡ passed (names_of bytes) → (ns : List ℕ) → are_names ns ≡ true → bytes ≡ names_bytes ns → ⊥
  no_names f fault = fault_is_no_value names_exact bytes (passed_fault (names_of bytes) f fault)

  module _ (rest : List ℕ) (read : Ok (tt, rest) ≡ passed (names_of bytes)) where
    were_read : (ns : List ℕ) × (names_of bytes ≡ Ok (ns, rest))
    were_read =
        let t = next_ok (names_of bytes) (λ _ rest'. Ok (tt, rest')) tt rest (sym read) in
        (t.0, t.2 ∙ ap (λ l. Ok (t.0, l)) (same_answer t.3).1)

    pub names_left_over : (length rest ≡ 0 → ⊥) → (ns : List ℕ) → are_names ns ≡ true → bytes ≡ names_bytes ns → ⊥
    names_left_over more = rest_is_no_value names_exact rest bytes were_read.1 more

    pub names_whole : length rest ≡ 0 → (are_names (names_read bytes) ≡ true) × (bytes ≡ names_bytes (names_read bytes))
    unfolding names_read
    names_whole none =
        let (ns, is) = were_read in
        let (named, whole) = no_rest_is_whole names_exact ns rest bytes is none in
        let shown : ns ≡ names_read bytes = ap values_of (sym is) in
        (subst (λ l. are_names l ≡ true) shown named, whole ∙ ap names_bytes shown)
