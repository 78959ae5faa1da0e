-- A record that can follow is taken, or taken back: so a book that was opened came about as any other.
-- Assumes nothing.
use Rattle.std.proofs.Common.{◌≡◌, Bool, true, false, cond, List, [], ◌∷◌, length, Ok, Err, Result, sym, refl, ap, ◌∙◌, subst}
use Rattle.std.specs.List.{list_all}
use borrow.Author.Tests.{clash}
use Rattle.change.specs.declared.refusal.Refusal.{Refusal}
use Rattle.change.specs.declared.refusal.Refusal.TheVariants.{Misplaced}
use Rattle.change.specs.Model.{Change}
use Rattle.change.proofs.Exact.{ok_is_not_err}
use Rattle.change.proofs.Tests.{and_true}
use Rattle.history.specs.declared.Outcome.{Outcome}
use Rattle.history.specs.declared.Outcome.TheVariants.{Taken, Waits, Refused}
use Rattle.history.specs.Book.{Book, enter}
use Rattle.history.specs.Later.{Later, now, took, took_back}
use Rattle.history.specs.Taking.{verdict, settled, taken_as, take, is_free, taken_back}
use Rattle.journal.specs.Record.{Record, came, went, is_record}
use Rattle.journal.specs.Replay.{if_taken, replayed, replayed_all}
use Rattle.journal.specs.Theorems.{ReplayIsTaking, ReplayIsTakingBack, OpenedArises}
use Rattle.journal.proofs.Opening.{opens_exactly}
use Rattle.journal.proofs.Replaying.{onward_ok}

same_book : (A B : Book) → ◌≡◌ {A = Result Book Refusal} (Ok A) (Ok B) → A ≡ B
same_book A B e = cc

-- with nothing waiting, nothing comes in behind a change that is taken
taken_alone : (B : Book) → B.waiting ≡ [] → (c : Change) → verdict B c ≡ Taken → (take B c).1 ≡ enter B c
taken_alone B none c e = ap (λ o. (taken_as o B c).1) e ∙ ap (λ (w : List Change). (settled (length w) (enter B c)).1) none

pub replay_is_taking : ReplayIsTaking
replay_is_taking B none c A = (to (verdict B c) refl, λ (e, same). ap (λ o. if_taken o (enter B c)) e ∙ ap Ok (sym (taken_alone B none c e) ∙ same))
  where
    to : (o : Outcome) → verdict B c ≡ o → if_taken o (enter B c) ≡ Ok A → (o ≡ Taken) × ((take B c).1 ≡ A)
    to Taken e h = (refl, taken_alone B none c e ∙ same_book (enter B c) A h)
    to Waits e h = ok_is_not_err (sym h)
    to (Refused r) e h = ok_is_not_err (sym h)

pub replay_is_taking_back : ReplayIsTakingBack
replay_is_taking_back B n A = go (is_free B n)
  where
    go : (b : Bool) → (◌≡◌ {A = Result Book Refusal} (cond b (Ok (taken_back B n)) (Err Misplaced)) (Ok A) → (b ≡ true) × (cond b (taken_back B n) B ≡ A))
        × ((b ≡ true) × (cond b (taken_back B n) B ≡ A) → ◌≡◌ {A = Result Book Refusal} (cond b (Ok (taken_back B n)) (Err Misplaced)) (Ok A))
    go true = (λ h. (refl, same_book (taken_back B n) A h), λ h. ap Ok h.1)
    go false = (λ h. ok_is_not_err (sym h), λ h. absurd (clash h.0))

-- a book that came about from B, in which nothing waits
abbrev Arises : Book → Book → Type 0
Arises B A = Later B A × (A.waiting ≡ [])

replayed_arises : (B M : Book) → Arises B M → (r : Record) → is_record r ≡ true → (A : Book) → replayed M r ≡ Ok A → Arises B A
replayed_arises B M (l, none) (came c) formed A e =
    let (taken, same) = (replay_is_taking M none c A).0 e in
    (subst (Later B) same (took M l c formed), ap (λ X. X.waiting) (sym same ∙ taken_alone M none c taken) ∙ none)
replayed_arises B M (l, none) (went n) formed A e =
    let (free, same) = (replay_is_taking_back M n A).0 e in
    (subst (Later B) same (took_back M l n), ap (λ X. X.waiting) (sym same) ∙ ap (λ b. (cond b (taken_back M n) M).waiting) free ∙ none)

all_arise : (B : Book) (rs : List Record) (M : Book) → Arises B M → list_all is_record rs ≡ true → (A : Book) → replayed_all M rs ≡ Ok A → Arises B A
all_arise B [] M h formed A e = subst (Arises B) (same_book M A e) h
all_arise B (r ∷ rs) M h formed A e =
    let (first, others) = and_true (is_record r) _ formed in
    let (N, one, more) = onward_ok (replayed M r) (λ X. replayed_all X rs) A e in
    all_arise B rs N (replayed_arises B M h r first N one) others A more

pub opened_arises : OpenedArises
opened_arises B none bytes = let o = (opens_exactly B bytes _ _).0 refl in all_arise B o.records B (now, none) o.formed _ o.replays
