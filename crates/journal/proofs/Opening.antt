-- What opening does at each record, and so to all: the steps, and that it replays exactly the records at the front.
-- Assumes nothing.
use Rattle.std.proofs.Common.{◌≡◌, ℕ, zero, suc, ◌+◌, ◌<◌, ◌≤◌, true, List, [], ◌∷◌, ◌++◌, length, take, Ok, Err, Result, sym, refl, ap, ◌∙◌, subst, inl, inr, append_assoc, append-nil, arith, length-append, take_at}
use Rattle.std.specs.List.{list_all}
use Rattle.change.specs.declared.fault.Fault.{Fault}
use Rattle.change.specs.declared.fault.Fault.TheVariants.{CutShort, Malformed}
use Rattle.change.specs.declared.refusal.Refusal.{Refusal}
use Rattle.change.specs.Reading.{Read}
use Rattle.change.proofs.Tests.{and_true, both_true}
use Rattle.history.specs.Book.{Book}
use Rattle.journal.specs.Record.{Record, came, went, record_bytes, is_record, record_of, records_bytes}
use Rattle.journal.specs.Replay.{replayed, onward, replayed_all}
use Rattle.journal.specs.Opening.{Opened, stopped, followed, read_on, opening, opened_from, opened}
use Rattle.journal.specs.Theorems.{Stops, Opens, OpensExactly, RecordsOpen, OpensAgain}
use Rattle.journal.proofs.Codec.{record_exact}
use Rattle.journal.proofs.Replaying.{onward_ok, refused_is_misplaced}

-- Each record has bytes, so that less is left behind it.
some_bytes : (r : Record) → 0 < length (record_bytes r)
some_bytes (came c) = omega arith
some_bytes (went n) = omega arith

pub size_read : (bytes : List ℕ) (r : Record) (rest : List ℕ) → record_of bytes ≡ Ok (r, rest) → length bytes ≡ length (record_bytes r) + length rest
size_read bytes r rest e = ap length (record_exact.reads bytes r rest e).1 ∙ length-append (record_bytes r) rest

pub less_left : (bytes : List ℕ) (r : Record) (rest : List ℕ) → record_of bytes ≡ Ok (r, rest) → length rest < length bytes
less_left bytes r rest e = omega (arith, size_read bytes r rest e, some_bytes r)

-- More turns than bytes change nothing.
pub turns_suffice : (m n at : ℕ) (B : Book) (bytes : List ℕ) → length bytes ≤ m → length bytes ≤ n → opening m at B bytes ≡ opening n at B bytes
turns_suffice zero zero at B bytes few enough = refl
turns_suffice zero (suc n) at B [] few enough = refl
turns_suffice zero (suc n) at B (b ∷ bytes) few enough = absurd (omega arith)
turns_suffice (suc m) zero at B [] few enough = refl
turns_suffice (suc m) zero at B (b ∷ bytes) few enough = absurd (omega arith)
turns_suffice (suc m) (suc n) at B bytes few enough = go (record_of bytes) refl (turns_suffice m n)
  where
    go : (a : Read Record) → record_of bytes ≡ a → ((at' : ℕ) (A : Book) (rest : List ℕ) → length rest ≤ m → length rest ≤ n → opening m at' A rest ≡ opening n at' A rest) →
        read_on (opening m) at B a ≡ read_on (opening n) at B a
    go (Ok (r, rest)) e others = then (replayed B r)
      where
        then : (a : Result Book Refusal) → followed (λ A. opening m (at + length (record_bytes r)) A rest) B a ≡ followed (λ A. opening n (at + length (record_bytes r)) A rest) B a
        then (Ok A) = let less = less_left bytes r rest e in others (at + length (record_bytes r)) A rest (omega arith) (omega arith)
        then (Err f) = refl
    go (Err f) e others = refl

-- The steps: what opening does by what is read next.
module _ (at : ℕ) (B : Book) (bytes : List ℕ) where
  pub opened_by_turns : opened_from at B bytes ≡ opening (suc (length bytes)) at B bytes
  opened_by_turns = turns_suffice (length bytes) (suc (length bytes)) at B bytes (omega arith) (omega arith)

  pub opens_stop : (e : Fault) → record_of bytes ≡ Err e → opened_from at B bytes ≡ (stopped at e, B)
  opens_stop e h = opened_by_turns ∙ ap (read_on (opening (length bytes)) at B) h

  module _ (r : Record) (rest : List ℕ) (read : record_of bytes ≡ Ok (r, rest)) where
    reads_on : opened_from at B bytes ≡ followed (λ A. opening (length bytes) (at + length (record_bytes r)) A rest) B (replayed B r)
    reads_on = opened_by_turns ∙ ap (read_on (opening (length bytes)) at B) read

    pub opens_on : (A : Book) → replayed B r ≡ Ok A → opened_from at B bytes ≡ opened_from (at + length (record_bytes r)) A rest
    opens_on A h =
        let less = less_left bytes r rest read in
        reads_on ∙ ap (followed (λ M. opening (length bytes) (at + length (record_bytes r)) M rest) B) h
        ∙ turns_suffice (length bytes) (length rest) (at + length (record_bytes r)) A rest (omega arith) (omega arith)

    pub opens_not : (e : Refusal) → replayed B r ≡ Err e → opened_from at B bytes ≡ (Err e, B)
    opens_not e h = reads_on ∙ ap (followed (λ M. opening (length bytes) (at + length (record_bytes r)) M rest) B) h

-- Records that replay are behind, whatever follows them.
pub opens_past : (rs : List Record) (at : ℕ) (B A : Book) (rest : List ℕ) → list_all is_record rs ≡ true → replayed_all B rs ≡ Ok A →
    opened_from at B (records_bytes rs ++ rest) ≡ opened_from (at + length (records_bytes rs)) A rest
opens_past [] at B A rest formed replays =
    let same : B ≡ A = cc in (λ i. opened_from (n i) (same i) rest)
  where
    n : at ≡ at + 0
    n = omega arith
opens_past (r ∷ rs) at B A rest formed replays =
    let (first, others) = and_true (is_record r) _ formed in
    let (M, one, more) = onward_ok (replayed B r) (λ X. replayed_all X rs) A replays in
    ap (opened_from at B) (append_assoc (record_bytes r) (records_bytes rs) rest)
    ∙ opens_on at B (record_bytes r ++ (records_bytes rs ++ rest)) r (records_bytes rs ++ rest) (record_exact.writes r (records_bytes rs ++ rest) first) M one
    ∙ opens_past rs (at + length (record_bytes r)) M A rest others more
    ∙ ap (λ k. opened_from k A rest) (simp length-append (omega arith))

opens_stops : (at : ℕ) (A : Book) (rest : List ℕ) (a : Result ℕ Refusal) → Stops A at rest a → opened_from at A rest ≡ (a, A)
opens_stops at A rest (Ok n) (e, cut) = opens_stop at A rest CutShort cut ∙ ap (λ k. (Ok k, A)) (sym e)
opens_stops at A rest (Err f) (inl (e, malformed)) = opens_stop at A rest Malformed malformed ∙ ap (λ g. (Err g, A)) (sym e)
opens_stops at A rest (Err f) (inr (r, more, e, read, misplaced)) = opens_not at A rest r more read f misplaced

-- The same with some bytes behind: what is opened are records, and a rest at which opening stops.
pub record OpensFrom (at : ℕ) (B : Book) (bytes : List ℕ) (a : Result ℕ Refusal) (A : Book) : Type 0 where
  pub records : List Record
  pub rest : List ℕ
  pub formed : list_all is_record records ≡ true
  pub whole : bytes ≡ records_bytes records ++ rest
  pub replays : replayed_all B records ≡ Ok A
  pub stops : Stops A (at + length (records_bytes records)) rest a

stopped_stops : (at : ℕ) (B : Book) (bytes : List ℕ) (e : Fault) → record_of bytes ≡ Err e → Stops B (at + 0) bytes (stopped at e)
stopped_stops at B bytes CutShort h = (omega arith, h)
stopped_stops at B bytes Malformed h = inl (refl, h)

pub opening_opens : (turns at : ℕ) (B : Book) (bytes : List ℕ) → length bytes ≤ turns → OpensFrom at B bytes (opening turns at B bytes).0 (opening turns at B bytes).1
opening_opens zero at B [] few = record { records = []; rest = []; formed = refl; whole = refl; replays = refl; stops = (omega arith, refl) }
opening_opens zero at B (b ∷ bytes) few = absurd (omega arith)
opening_opens (suc turns) at B bytes few = go (record_of bytes) refl (opening_opens turns)
  where
    go : (a : Read Record) → record_of bytes ≡ a →
        ((at' : ℕ) (A : Book) (rest : List ℕ) → length rest ≤ turns → OpensFrom at' A rest (opening turns at' A rest).0 (opening turns at' A rest).1) →
        OpensFrom at B bytes (read_on (opening turns) at B a).0 (read_on (opening turns) at B a).1
    go (Err e) h others = record { records = []; rest = bytes; formed = refl; whole = refl; replays = refl; stops = stopped_stops at B bytes e h }
    go (Ok (r, rest)) h others = then (replayed B r) refl
      where
        on : Book → Opened
        on A = opening turns (at + length (record_bytes r)) A rest

        then : (a : Result Book Refusal) → replayed B r ≡ a → OpensFrom at B bytes (followed on B a).0 (followed on B a).1
        then (Ok A) e =
            let less = less_left bytes r rest h in
            let (first, same) = record_exact.reads bytes r rest h in
            let o = others (at + length (record_bytes r)) A rest (omega arith) in
            record {
              records = r ∷ o.records;
              rest = o.rest;
              formed = both_true first o.formed;
              whole = same ∙ ap (λ l. record_bytes r ++ l) o.whole ∙ sym (append_assoc (record_bytes r) (records_bytes o.records) o.rest);
              replays = ap (λ x. onward x (λ X. replayed_all X o.records)) e ∙ o.replays;
              stops = subst (λ k. Stops (on A).1 k o.rest (on A).0) (simp length-append (omega arith)) o.stops;
            }
        then (Err f) e = record { records = []; rest = bytes; formed = refl; whole = refl; replays = refl; stops = inr (r, rest, refused_is_misplaced B r f e, h, e) }

pub opens_exactly : OpensExactly
opens_exactly B bytes a A = (to, from)
  where
    to : opened B bytes ≡ (a, A) → Opens B bytes a A
    to e =
        let o = opening_opens (length bytes) 0 B bytes (omega arith) in
        let all : Opens B bytes (opened B bytes).0 (opened B bytes).1 =
        record { records = o.records; rest = o.rest; formed = o.formed; whole = o.whole; replays = o.replays; stops = subst (λ k. Stops (opened B bytes).1 k o.rest (opened B bytes).0) (omega arith) o.stops }
        in
        subst (λ (q : Opened). Opens B bytes q.0 q.1) e all

    from : Opens B bytes a A → opened B bytes ≡ (a, A)
    from o =
        ap (opened B) o.whole ∙ opens_past o.records 0 B A o.rest o.formed o.replays
        ∙ opens_stops _ A o.rest a (subst (λ k. Stops A k o.rest a) (omega arith) o.stops)

pub records_open : RecordsOpen
records_open B A rs formed replays =
    (opens_exactly B (records_bytes rs) (Ok (length (records_bytes rs))) A).1
    (record { records = rs; rest = []; formed = formed; whole = sym (append-nil (records_bytes rs)); replays = replays; stops = (refl, refl) })

pub opens_again : OpensAgain
opens_again B bytes n A e =
    let o = (opens_exactly B bytes (Ok n) A).0 e in
    let size = length-append (records_bytes o.records) o.rest in
    let all = ap length o.whole in
    let fit : n ≤ length bytes = omega (arith, o.stops.0, size, all) in
    let kept : take n bytes ≡ records_bytes o.records = ap (take n) o.whole ∙ take_at (records_bytes o.records) o.rest n (sym o.stops.0) in
    (fit, ap (opened B) kept ∙ records_open B A o.records o.formed o.replays ∙ ap (λ k. (Ok k, A)) (sym o.stops.0))
