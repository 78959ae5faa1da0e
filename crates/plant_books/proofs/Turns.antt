-- Trying the changes that wait, turn by turn.
-- GoesOn B i A: A is the book B after i tries, and what follows of A follows of B.
-- Assumes nothing.
use Rattle.std.proofs.Common.{◌≡◌, ℕ, zero, suc, ◌+◌, ◌-◌, ◌≤◌, List, [], ◌∷◌, ◌++◌, length, Some, None, sym, refl, ap, ◌∙◌, append_assoc, append-nil, arith}
use Rattle.change.specs.Model.{Change}
use Rattle.history.specs.declared.Event.{Event}
use Rattle.history.specs.Book.{Book}
use Rattle.history.specs.Taking.{event, admitted, lowest_ready, tried, try_then, settled}
use Rattle.sending.specs.Receiving.{and_then}

-- the events of i tries are added and_then es, and each further try of B is one of A
pub record GoesOn (B A : Book) (i : ℕ) (es fs : List Event) : Type 0 where
  pub told : List Event
  pub added : fs ≡ es ++ told
  pub further : (m : ℕ) → settled (i + m) B ≡ and_then told (settled m A)

pub goes_on_at_first : (B : Book) (es : List Event) → GoesOn B B 0 es es
goes_on_at_first B es = record { told = []; added = sym (append-nil es); further = λ m. ap (λ k. settled k B) (omega arith) }

module _ (B A : Book) (i : ℕ) (es fs : List Event) (so_far : GoesOn B A i es fs) where
  abbrev told : List Event
  told = so_far.told

  so_many : settled i B ≡ (told, A)
  so_many = ap (λ k. settled k B) (omega arith) ∙ so_far.further 0 ∙ ap (λ l. (l, A)) (append-nil told)

  pub one_more : (c : Change) → lowest_ready A ≡ Some c → (gs : List Event) → gs ≡ fs ++ event c.name (admitted A c) ∷ [] → (Z : Book) → Z ≡ tried A c → GoesOn B Z (i + 1) es gs
  one_more c next gs pushed Z after = record {
    told = told ++ e ∷ [];
    added = pushed ∙ ap (λ l. l ++ e ∷ []) so_far.added ∙ append_assoc es told (e ∷ []);
    further = λ m.
        ap (λ k. settled k B) (omega arith) ∙ so_far.further (suc m)
        ∙ ap (λ o. and_then told (try_then (settled m) A o)) next
        ∙ ap (λ l. (l, (settled m (tried A c)).1)) (sym (append_assoc told (e ∷ []) (settled m (tried A c)).0))
        ∙ ap (λ Y. and_then (told ++ e ∷ []) (settled m Y)) (sym after);
  }
    where
      e : Event
      e = event c.name (admitted A c)

  -- all have been tried
  pub all_tried : i ≡ length B.waiting → (fs, A) ≡ and_then es (settled (length B.waiting) B)
  all_tried all = ap (λ l. (l, A)) so_far.added ∙ ap (and_then es) (sym so_many) ∙ ap (λ k. and_then es (settled k B)) all

  none_follows : lowest_ready A ≡ None → (m : ℕ) → settled m A ≡ ([], A)
  none_follows none zero = refl
  none_follows none (suc m) = ap (try_then (settled m) A) none

  -- nothing is ready any more, so further tries would come to nothing
  pub none_left : i ≤ length B.waiting → lowest_ready A ≡ None → (Z : Book) → Z ≡ A → (fs, Z) ≡ and_then es (settled (length B.waiting) B)
  none_left few none Z same = ap (λ Y. (fs, Y)) same ∙ ap (λ l. (l, A)) so_far.added ∙ ap (and_then es) (sym all)
    where
      n : ℕ
      n = length B.waiting

      all : settled n B ≡ (told, A)
      all = ap (λ k. settled k B) (omega arith) ∙ so_far.further (n - i) ∙ ap (and_then told) (none_follows none (n - i)) ∙ ap (λ l. (l, A)) (append-nil told)
