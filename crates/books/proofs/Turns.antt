-- Trying the changes that wait, turn by turn.
-- GoesOn B i A: A is the book B after i tries, and what follows of A follows of B.
-- Assumes nothing.
use Rattle.std.proofs.Common.{◌≡◌, ℕ, zero, suc, ◌+◌, ◌-◌, ◌≤◌, Bool, true, false, List, [], ◌∷◌, ◌++◌, length, Some, None, sym, refl, ap, ◌∙◌, append_assoc, append-nil, arith}
use Rattle.change.specs.Model.{Change}
use Rattle.history.specs.declared.Event.{Event}
use Rattle.history.specs.Book.{Book}
use Rattle.history.specs.Taking.{event, admitted, lowest_ready, tried, try_then, settled}
use Rattle.books.specs.Settling.{Settled}

-- the events es, and then those of what follows
abbrev behind : List Event → List Event × Book → List Event × Book
behind es (fs, A) = (es ++ fs, A)

-- the events of i tries are added behind es, and each further try of B is one of A
pub record GoesOn (B A : Book) (i : ℕ) (es fs : List Event) : Type 0 where
  pub told : List Event
  pub added : fs ≡ es ++ told
  pub further : (m : ℕ) → settled (i + m) B ≡ behind told (settled m A)

pub goes_on_at_first : (B : Book) (es : List Event) → GoesOn B B 0 es es
goes_on_at_first B es = record { told = []; added = sym (append-nil es); further = λ m. ap (λ k. settled k B) (omega arith) }

module _ (B A : Book) (i : ℕ) (es fs : List Event) (so_far : GoesOn B A i es fs) where
  abbrev told : List Event
  told = so_far.told

  so_many : settled i B ≡ (told, A)
  so_many = ap (λ k. settled k B) (omega arith) ∙ so_far.further 0 ∙ ap (λ l. (l, A)) (append-nil told)

  pub one_more : (c : Change) → lowest_ready A ≡ Some c → (gs : List Event) → gs ≡ fs ++ event c.name (admitted A c) ∷ [] → (Z : Book) → Z ≡ tried A c → GoesOn B Z (i + 1) es gs
  one_more c next gs pushed Z after = record {
    told = told ++ e ∷ [];
    added = pushed ∙ ap (λ l. l ++ e ∷ []) so_far.added ∙ append_assoc es told (e ∷ []);
    further = λ m.
        ap (λ k. settled k B) (omega arith) ∙ so_far.further (suc m)
        ∙ ap (λ o. behind told (try_then (settled m) A o)) next
        ∙ ap (λ l. (l, (settled m (tried A c)).1)) (sym (append_assoc told (e ∷ []) (settled m (tried A c)).0))
        ∙ ap (λ Y. behind (told ++ e ∷ []) (settled m Y)) (sym after);
  }
    where
      e : Event
      e = event c.name (admitted A c)

  -- after i tries
  pub stops : i ≤ length B.waiting → (Z : Book) → Z ≡ A → (gs : List Event) → gs ≡ fs → (r : Bool) → (r ≡ true → i ≡ length B.waiting) → Settled B Z es gs r
  stops few Z same gs kept r complete = record {
    tries = i;
    few = few;
    events = kept ∙ so_far.added ∙ ap (λ s. es ++ s.0) (sym so_many);
    book = same ∙ ap (λ s. s.1) (sym so_many);
    complete = complete;
  }

  pub stops_early : i ≤ length B.waiting → (Z : Book) → Z ≡ A → (gs : List Event) → gs ≡ fs → Settled B Z es gs false
  stops_early few Z same gs kept = stops few Z same gs kept false (λ e. absurd (let z : ◌≡◌ {A = ℕ} 0 1 = cc in omega arith))

  none_follows : lowest_ready A ≡ None → (m : ℕ) → settled m A ≡ ([], A)
  none_follows none zero = refl
  none_follows none (suc m) = ap (try_then (settled m) A) none

  -- nothing is ready any more, so further tries would come to nothing
  pub is_through : i ≤ length B.waiting → lowest_ready A ≡ None → (Z : Book) → Z ≡ A → (gs : List Event) → gs ≡ fs → (r : Bool) → Settled B Z es gs r
  is_through few none Z same gs kept r = record {
    tries = n;
    few = omega arith;
    events = kept ∙ so_far.added ∙ ap (λ s. es ++ s.0) (sym all);
    book = same ∙ ap (λ s. s.1) (sym all);
    complete = λ _. refl;
  }
    where
      n : ℕ
      n = length B.waiting

      all : settled n B ≡ (told, A)
      all = ap (λ k. settled k B) (omega arith) ∙ so_far.further (n - i) ∙ ap (behind told) (none_follows none (n - i)) ∙ ap (λ l. (l, A)) (append-nil told)
