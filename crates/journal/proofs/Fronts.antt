-- The first bytes of records: those that lie wholly in them, and the front of the next, which is cut short.
-- Assumes nothing.
use Rattle.std.proofs.Common.{◌≡◌, ℕ, zero, suc, ◌+◌, ◌-◌, ◌≤◌, true, List, [], ◌∷◌, ◌++◌, length, take, Ok, Err, sym, refl, ap, ◌∙◌, subst, inl, inr, append_assoc, arith, length-append}
use lib.Seq.{take-append-add, take-append-le}
use Rattle.std.proofs.lemmas.Bool.{cases_lt}
use Rattle.std.specs.List.{list_all}
use Rattle.change.specs.declared.fault.Fault.TheVariants.{CutShort}
use Rattle.change.proofs.Tests.{and_true}
use Rattle.journal.specs.Record.{Record, record_bytes, is_record, record_of, records_bytes}
use Rattle.journal.specs.Replay.{replayed_all}
use Rattle.journal.specs.Theorems.{EndsBeyond, FrontOpens}
use Rattle.journal.proofs.Codec.{front_of_record_is_cut_short}
use Rattle.journal.proofs.Opening.{opens_exactly}
use Rattle.journal.proofs.Replaying.{replays_split, formed_split}

-- records cut at k bytes
pub record Cut (rs : List Record) (k : ℕ) : Type 0 where
  pub front : List Record
  pub back : List Record
  pub rest : List ℕ
  pub parts : rs ≡ front ++ back
  pub bytes : take k (records_bytes rs) ≡ records_bytes front ++ rest
  pub short : record_of rest ≡ Err CutShort
  pub inside : length (records_bytes front) ≤ k
  pub beyond : EndsBeyond k (length (records_bytes front)) back

take_none : (k : ℕ) → ◌≡◌ {A = List ℕ} (take k []) []
take_none zero = refl
take_none (suc k) = refl

beyond_more : (k j at : ℕ) (r : Record) (rs : List Record) → k ≡ length (record_bytes r) + j → EndsBeyond j at rs → EndsBeyond k (length (record_bytes r) + at) rs
beyond_more k j at r [] e h = tt
beyond_more k j at r (s ∷ rs) e h = omega arith

pub cut_at : (rs : List Record) → list_all is_record rs ≡ true → (k : ℕ) → Cut rs k
cut_at [] formed k = record { front = []; back = []; rest = []; parts = refl; bytes = take_none k; short = refl; inside = omega arith; beyond = tt }
cut_at (r ∷ rs) formed k =
    let (first, others) = and_true (is_record r) _ formed in
    elim (cases_lt k (length (record_bytes r))) [
      | inl less ↦ record {
        front = [];
        back = r ∷ rs;
        rest = take k (record_bytes r);
        parts = refl;
        bytes = take-append-le k (record_bytes r) (records_bytes rs) (omega arith);
        short = front_of_record_is_cut_short r first k less;
        inside = omega arith;
        beyond = omega arith;
      }
      | inr more ↦ more_than r rs k (k - length (record_bytes r)) (omega arith) (cut_at rs others (k - length (record_bytes r)))
    ]
  where
    more_than : (r : Record) (rs : List Record) (k j : ℕ) → k ≡ length (record_bytes r) + j → Cut rs j → Cut (r ∷ rs) k
    more_than r rs k j e c = record {
      front = r ∷ c.front;
      back = c.back;
      rest = c.rest;
      parts = ap (λ l. r ∷ l) c.parts;
      bytes =
          ap (λ n. take n (record_bytes r ++ records_bytes rs)) e ∙ take-append-add (record_bytes r) (records_bytes rs) j
          ∙ ap (λ l. record_bytes r ++ l) c.bytes ∙ sym (append_assoc (record_bytes r) (records_bytes c.front) c.rest);
      short = c.short;
      inside = simp length-append (omega (arith, c.inside));
      beyond = subst (λ n. EndsBeyond k n c.back) (sym (length-append (record_bytes r) (records_bytes c.front))) (beyond_more k j (length (records_bytes c.front)) r c.back e c.beyond);
    }

pub front_opens : FrontOpens
front_opens B A rs formed replays k =
    let c = cut_at rs formed k in
    let (M, first, then) = replays_split B A c.front c.back (ap (replayed_all B) (sym c.parts) ∙ replays) in
    record {
      front = c.front;
      back = c.back;
      parts = c.parts;
      middle = M;
      first = first;
      then = then;
      opens =
          (opens_exactly B (take k (records_bytes rs)) (Ok (length (records_bytes c.front))) M).1
          (record { records = c.front; rest = c.rest; formed = (formed_split c.front c.back (ap (list_all is_record) (sym c.parts) ∙ formed)).0; whole = c.bytes; replays = first; stops = (refl, c.short) });
      inside = c.inside;
      beyond = c.beyond;
    }
