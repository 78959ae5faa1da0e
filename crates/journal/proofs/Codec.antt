-- A record is read exactly: a taking back by its first byte, and all else as a change.
-- Assumes nothing.
use Rattle.std.proofs.Common.{◌≡◌, ℕ, Bool, true, false, cond, eqb, List, [], ◌∷◌, ◌++◌, Ok, Err, refl, ap, ◌∙◌, subst, lit≤, eqb-true}
use Rattle.change.specs.declared.fault.Fault.TheVariants.{Malformed}
use Rattle.change.specs.Bytes.{number_bytes}
use Rattle.change.specs.Cursor.{is_next}
use Rattle.change.specs.Reading.{Read, next, number_within}
use Rattle.change.specs.WellFormed.{is_name, lowest_name, highest_name}
use Rattle.change.proofs.Exact.{Exact, exact_by, next_exact, next_ok, next_stays, only_exact, ok_is_not_err, cut_is_not_malformed, same_answer, front_is_cut_short, one_string}
use Rattle.change.proofs.Parts.{byte_exact, within_exact}
use Rattle.change.proofs.Whole.{change_exact}
use Rattle.letters.proofs.Codec as letters
use Rattle.journal.specs.Record.{Record, came, went, went_kind, went_bytes, went_of, record_bytes, is_record, record_of}
use Rattle.journal.specs.Theorems.{RecordReadsExactly, RecordHasOneString, FrontOfRecordIsCutShort, MalformedRecordForGood}

pub went_exact : Exact went_of went_bytes (λ n. is_name n ≡ true)
went_exact =
    exact_by _ _ (next_exact (λ _. went_kind) (λ _. number_within highest_name lowest_name) number_bytes (λ n. is_name n ≡ true) (only_exact (eqb went_kind) byte_exact) (λ k h.
    exact_by _ _ (within_exact highest_name lowest_name (lit≤ tt)) (λ n. refl) (λ n t. (eqb-true went_kind k h.1, t)) (λ n t. t.1)))
    (λ n. refl) (λ n h. h.1) (λ n h. ((refl, refl), h))

-- A value that was read, made a record.
module _ {X : Type 0} {p : List ℕ → Read X} {w : X → List ℕ} {P : X → Type 0} (exact : Exact p w P) (record_of : X → Record) where
  abbrev made : List ℕ → Read Record
  made bytes = next (p bytes) (λ x rest. Ok (record_of x, rest))

  made_reads : (bytes : List ℕ) (r : Record) (rest : List ℕ) → made bytes ≡ Ok (r, rest) → (x : X) × P x × (record_of x ≡ r) × (bytes ≡ w x ++ rest)
  made_reads bytes r rest h =
      let (x, mid, e, f) = next_ok (p bytes) _ r rest h in
      let (ok, same) = exact.reads bytes x mid e in
      let (as_is, left) = same_answer f in
      (x, ok, as_is, same ∙ ap (λ l. w x ++ l) left)

  made_stays : (bytes more : List ℕ) → made bytes ≡ Err Malformed → made (bytes ++ more) ≡ Err Malformed
  made_stays = next_stays (λ x rest. Ok (record_of x, rest)) exact (λ x h bytes more e. ok_is_not_err e)

pub record_exact : Exact record_of record_bytes (λ r. is_record r ≡ true)
record_exact = record { writes = writes; reads = λ bytes r rest. reads bytes r rest (is_next went_kind bytes); stays = stays }
  where
    writes : (r : Record) (rest : List ℕ) → is_record r ≡ true → record_of (record_bytes r ++ rest) ≡ Ok (r, rest)
    writes (came c) rest h = ap (λ a. next a (λ d more. Ok (came d, more))) (change_exact.writes c rest h)
    writes (went n) rest h = ap (λ a. next a (λ m more. Ok (went m, more))) (went_exact.writes n rest h)

    reads : (bytes : List ℕ) (r : Record) (rest : List ℕ) (b : Bool) → cond b (made went_exact went bytes) (made change_exact came bytes) ≡ Ok (r, rest) → (is_record r ≡ true) × (bytes ≡ record_bytes r ++ rest)
    reads bytes r rest true h =
        let (n, ok, as_is, same) = made_reads went_exact went bytes r rest h in
        subst (λ s. (is_record s ≡ true) × (bytes ≡ record_bytes s ++ rest)) as_is (ok, same)
    reads bytes r rest false h =
        let (c, ok, as_is, same) = made_reads change_exact came bytes r rest h in
        subst (λ s. (is_record s ≡ true) × (bytes ≡ record_bytes s ++ rest)) as_is (ok, same)

    stays_as : (bytes more : List ℕ) (b : Bool) → cond b (made went_exact went bytes) (made change_exact came bytes) ≡ Err Malformed → cond b (made went_exact went (bytes ++ more)) (made change_exact came (bytes ++ more)) ≡ Err Malformed
    stays_as bytes more true h = made_stays went_exact went bytes more h
    stays_as bytes more false h = made_stays change_exact came bytes more h

    stays : (bytes more : List ℕ) → record_of bytes ≡ Err Malformed → record_of (bytes ++ more) ≡ Err Malformed
    stays [] more h = cut_is_not_malformed h
    stays (b ∷ bytes) more h = stays_as (b ∷ bytes) more (eqb b went_kind) h

pub record_reads_exactly : RecordReadsExactly
record_reads_exactly = letters.reads_exactly record_exact

pub record_has_one_string : RecordHasOneString
record_has_one_string = one_string record_exact

pub front_of_record_is_cut_short : FrontOfRecordIsCutShort
front_of_record_is_cut_short = front_is_cut_short record_exact

pub malformed_record_for_good : MalformedRecordForGood
malformed_record_for_good = record_exact.stays
