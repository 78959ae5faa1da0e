-- Records replayed one after the other: in parts.
-- Assumes nothing.
use Rattle.std.proofs.Common.{◌≡◌, Bool, true, false, cond, List, [], ◌∷◌, ◌++◌, Ok, Err, Result, sym, refl, ap, ◌∙◌, append_assoc}
use Rattle.std.specs.List.{list_all}
use Rattle.change.specs.declared.refusal.Refusal.{Refusal}
use Rattle.change.specs.declared.refusal.Refusal.TheVariants.{Misplaced}
use Rattle.change.proofs.Exact.{ok_is_not_err}
use Rattle.change.proofs.Tests.{and_true, both_true}
use Rattle.history.specs.declared.Outcome.{Outcome}
use Rattle.history.specs.declared.Outcome.TheVariants.{Taken, Waits, Refused}
use Rattle.history.specs.Book.{Book, enter}
use Rattle.history.specs.Taking.{verdict, is_free, taken_back}
use Rattle.journal.specs.Record.{Record, came, went, is_record, record_bytes, records_bytes}
use Rattle.journal.specs.Replay.{if_taken, replayed, onward, replayed_all}

-- what replaying goes on from
pub onward_ok : (a : Result Book Refusal) (next : Book → Result Book Refusal) (A : Book) → onward a next ≡ Ok A → (M : Book) × (a ≡ Ok M) × (next M ≡ Ok A)
onward_ok (Ok M) next A h = (M, refl, h)
onward_ok (Err e) next A h = ok_is_not_err (sym h)

pub replayed_joined : (B : Book) (rs ss : List Record) → replayed_all B (rs ++ ss) ≡ onward (replayed_all B rs) (λ M. replayed_all M ss)
replayed_joined B [] ss = refl
replayed_joined B (r ∷ rs) ss = go (replayed B r) (λ A. replayed_joined A rs ss)
  where
    go : (a : Result Book Refusal) → ((A : Book) → replayed_all A (rs ++ ss) ≡ onward (replayed_all A rs) (λ M. replayed_all M ss)) →
        onward a (λ A. replayed_all A (rs ++ ss)) ≡ onward (onward a (λ A. replayed_all A rs)) (λ M. replayed_all M ss)
    go (Ok A) rest = rest A
    go (Err e) rest = refl

pub replays_then : (B M A : Book) (rs ss : List Record) → replayed_all B rs ≡ Ok M → replayed_all M ss ≡ Ok A → replayed_all B (rs ++ ss) ≡ Ok A
replays_then B M A rs ss first then = replayed_joined B rs ss ∙ ap (λ a. onward a (λ X. replayed_all X ss)) first ∙ then

pub replays_split : (B A : Book) (rs ss : List Record) → replayed_all B (rs ++ ss) ≡ Ok A → (M : Book) × (replayed_all B rs ≡ Ok M) × (replayed_all M ss ≡ Ok A)
replays_split B A rs ss h = onward_ok (replayed_all B rs) (λ M. replayed_all M ss) A (sym (replayed_joined B rs ss) ∙ h)

-- the only refusal is that a record can't follow
taken_or_misplaced : (o : Outcome) (A : Book) (e : Refusal) → if_taken o A ≡ Err e → e ≡ Misplaced
taken_or_misplaced Taken A e h = ok_is_not_err h
taken_or_misplaced Waits A e h = cc
taken_or_misplaced (Refused r) A e h = cc

pub refused_is_misplaced : (B : Book) (r : Record) (e : Refusal) → replayed B r ≡ Err e → e ≡ Misplaced
refused_is_misplaced B (came c) e h = taken_or_misplaced (verdict B c) (enter B c) e h
refused_is_misplaced B (went n) e h = go (is_free B n) h
  where
    go : (b : Bool) → ◌≡◌ {A = Result Book Refusal} (cond b (Ok (taken_back B n)) (Err Misplaced)) (Err e) → e ≡ Misplaced
    go true f = ok_is_not_err f
    go false f = cc

-- records in two parts
pub formed_joined : (rs ss : List Record) → list_all is_record rs ≡ true → list_all is_record ss ≡ true → list_all is_record (rs ++ ss) ≡ true
formed_joined [] ss p q = q
formed_joined (r ∷ rs) ss p q = let (first, others) = and_true (is_record r) _ p in both_true first (formed_joined rs ss others q)

pub formed_split : (rs ss : List Record) → list_all is_record (rs ++ ss) ≡ true → (list_all is_record rs ≡ true) × (list_all is_record ss ≡ true)
formed_split [] ss p = (refl, p)
formed_split (r ∷ rs) ss p =
    let (first, others) = and_true (is_record r) _ p in let (front, back) = formed_split rs ss others in (both_true first front, back)

pub bytes_joined : (rs ss : List Record) → records_bytes (rs ++ ss) ≡ records_bytes rs ++ records_bytes ss
bytes_joined [] ss = refl
bytes_joined (r ∷ rs) ss = ap (λ l. record_bytes r ++ l) (bytes_joined rs ss) ∙ sym (append_assoc (record_bytes r) (records_bytes rs) (records_bytes ss))
