-- What comes into a book comes in change by change, and each could be replayed at its turn, also where nothing waits.
-- Came B cs A: on the way from the book B to the book A the changes cs came in, the oldest first.
-- Assumes nothing.
use Rattle.std.proofs.Common.{◌≡◌, ℕ, zero, suc, Bool, true, false, not, ◌||◌, List, [], ◌∷◌, ◌++◌, map, reverse, length, drop, Some, None, Ok, Option, sym, refl, ap, ◌∙◌, subst, inl, inr, append_assoc, append-nil, drop_at}
use mathlib.Core.List.{reverse-cons}
use lib.ListN.{length-reverse}
use Rattle.std.specs.List.{flat_map, list_all}
use Rattle.std.proofs.lemmas.Bool.{cond-true}
use Rattle.std.proofs.lemmas.Bool.Decides.{Decides-not}
use Rattle.change.specs.Bytes.{change_bytes}
use Rattle.change.specs.Model.{Change}
use Rattle.change.specs.WellFormed.{well_formed}
use Rattle.change.proofs.Tests.{both_true}
use Rattle.order.specs.Names.{HasName}
use Rattle.order.proofs.OneName.{has_name_lem}
use Rattle.history.specs.declared.Outcome.{Outcome}
use Rattle.history.specs.declared.Outcome.TheVariants.{Taken, Waits, Refused}
use Rattle.history.specs.Book.{Book, is_ready, enter, waits_no_more}
use Rattle.history.specs.Taking.{admitted, verdict, lowest_ready, after, tried, try_then, settled, taken_as, take}
use Rattle.history.specs.Sane.{Orderly, Sane}
use Rattle.history.proofs.Lowest.{next_waits}
use Rattle.history.proofs.Moments.{enter_orderly}
use Rattle.history.proofs.Outcomes.{provided_from, admitted_either}
use Rattle.history.proofs.Settling.{settled_story}
use Rattle.history.proofs.Taking.{sane_take}
use Rattle.history.proofs.Verdicts.{taken_tests, taken_is_fits}
use Rattle.sending.specs.Receiving.{received}
use Rattle.sending.proofs.Receiving.{Formed}
use Rattle.journal.specs.Record.{came, is_record, records_bytes}
use Rattle.journal.specs.Replay.{if_taken, onward, replayed_all}
use Rattle.journal.specs.Opening.{of_file}
use Rattle.journal.specs.Calls.{written}
use Rattle.journal.proofs.Replaying.{replays_then, formed_joined}

pub record Came (B : Book) (cs : List Change) (A : Book) : Type 0 where
  pub plant : A.plant ≡ B.plant
  pub formed : list_all is_record (map came cs) ≡ true
  pub lists : reverse A.changes ≡ reverse B.changes ++ cs
  pub replays : replayed_all (of_file B) (map came cs) ≡ Ok (of_file A)

pub came_none : (B A : Book) → of_file A ≡ of_file B → Came B [] A
came_none B A e = record {
  plant = ap (λ X. X.plant) e;
  formed = refl;
  lists = ap (λ X. reverse X.changes) e ∙ sym (append-nil (reverse B.changes));
  replays = ap Ok (sym e);
}

map_joined : (cs ds : List Change) → map came (cs ++ ds) ≡ map came cs ++ map came ds
map_joined [] ds = refl
map_joined (c ∷ cs) ds = ap (λ l. came c ∷ l) (map_joined cs ds)

pub came_then : (B M A : Book) (cs ds : List Change) → Came B cs M → Came M ds A → Came B (cs ++ ds) A
came_then B M A cs ds s t = record {
  plant = t.plant ∙ s.plant;
  formed = ap (list_all is_record) (map_joined cs ds) ∙ formed_joined (map came cs) (map came ds) s.formed t.formed;
  lists = t.lists ∙ ap (λ l. l ++ ds) s.lists ∙ append_assoc (reverse B.changes) cs ds;
  replays = ap (replayed_all (of_file B)) (map_joined cs ds) ∙ replays_then (of_file B) (of_file M) (of_file A) (map came cs) (map came ds) s.replays t.replays;
}

-- A change that is new, ready and admitted is taken also where nothing waits.
taken_where_none_waits : (B : Book) (c : Change) → (HasName B.changes c.name → ⊥) → is_ready B c ≡ true → admitted B c ≡ Taken → verdict (of_file B) c ≡ Taken
taken_where_none_waits B c new ready taken =
    provided_from _ _ _ (go _ ((Decides-not _ (has_name_lem B.changes c.name)).1 new)) ∙ cond-true _ _ _ ready ∙ taken
  where
    go : (b : Bool) → not b ≡ true → not (b || false) ≡ true
    go true e = e
    go false e = e

-- the book M has what B has but for what waits
came_one : (B M : Book) (c : Change) → of_file M ≡ of_file B → well_formed c ≡ true → (HasName B.changes c.name → ⊥) → is_ready B c ≡ true → admitted B c ≡ Taken → Came B (c ∷ []) (enter M c)
came_one B M c same formed new ready taken = record {
  plant = ap (λ X. X.plant) same;
  formed = both_true formed refl;
  lists = reverse-cons c M.changes ∙ ap (λ X. reverse X.changes ++ c ∷ []) same;
  replays =
      ap (λ o. onward (if_taken o (enter (of_file B) c)) (λ A. replayed_all A [])) (taken_where_none_waits B c new ready taken)
      ∙ ap (λ X. Ok (enter X c)) (sym same);
}

module _ (B : Book) (o : Orderly B) (c : Change) (next : lowest_ready B ≡ Some c) where
  tried_orderly : Orderly (tried B c)
  tried_orderly = subst (λ x. Orderly (try_then (settled 0) B x).1) next (settled_story 1 B o).orderly

  tried_came : (cs : List Change) × Came B cs (tried B c)
  tried_came =
      let (i, ready) = next_waits B c next in
      elim (admitted_either B c) [
        | inl e ↦ (c ∷ [], subst TriedAs (sym e) (came_one B (waits_no_more B c.name) c refl (o.formed c i) (o.outside c i) ready e))
        | inr (r, away, e) ↦ ([], subst (λ x. Came B [] (after x (waits_no_more B c.name) c)) (sym e) (came_none B (waits_no_more B c.name) refl))
      ]
    where
      TriedAs : Outcome → Type 0
      TriedAs x = Came B (c ∷ []) (after x (waits_no_more B c.name) c)

pub settled_came : (n : ℕ) (B : Book) → Orderly B → (cs : List Change) × Came B cs (settled n B).1
settled_came zero B o = ([], came_none B B refl)
settled_came (suc n) B o = go (lowest_ready B) refl (settled_came n)
  where
    go : (next : Option Change) → lowest_ready B ≡ next → ((A : Book) → Orderly A → (cs : List Change) × Came A cs (settled n A).1) → (cs : List Change) × Came B cs (try_then (settled n) B next).1
    go None e rest = ([], came_none B B refl)
    go (Some c) e rest =
        let (cs, first) = tried_came B o c e in
        let (ds, then) = rest (tried B c) (tried_orderly B o c e) in
        (cs ++ ds, came_then B (tried B c) (settled n (tried B c)).1 cs ds first then)

pub take_came : (B : Book) → Sane B → (c : Change) → well_formed c ≡ true → (cs : List Change) × Came B cs (take B c).1
take_came B s c formed = go (verdict B c) refl
  where
    go : (o : Outcome) → verdict B c ≡ o → (cs : List Change) × Came B cs (taken_as o B c).1
    go Taken e =
        let (new, ready, taken) = taken_tests B c e in
        let (fits, alone, room) = (taken_is_fits B s c formed).0 e in
        let (ds, then) = settled_came (length B.waiting) (enter B c) (enter_orderly B s.orderly c fits alone room) in
        (c ∷ ds, came_then B (enter B c) (settled (length B.waiting) (enter B c)).1 (c ∷ []) ds (came_one B B c refl formed new.0 ready taken) then)
    go Waits e = ([], came_none B _ refl)
    go (Refused r) e = ([], came_none B B refl)

pub received_came : (B : Book) → Sane B → (cs : List Change) → Formed cs → (ds : List Change) × Came B ds (received B cs).1
received_came B s [] formed = ([], came_none B B refl)
received_came B s (c ∷ cs) formed =
    let well = formed c (inl refl) in
    let (ds, first) = take_came B s c well in
    let (es, then) = received_came (take B c).1 (sane_take B s c well) cs (λ d i. formed d (inr i)) in
    (ds ++ es, came_then B (take B c).1 _ ds es first then)

-- What a call writes are the records of what came in.
bytes_of_came : (cs : List Change) → flat_map change_bytes cs ≡ records_bytes (map came cs)
bytes_of_came [] = refl
bytes_of_came (c ∷ cs) = ap (λ l. change_bytes c ++ l) (bytes_of_came cs)

pub came_written : (B A : Book) (cs : List Change) → Came B cs A → written B A ≡ records_bytes (map came cs)
came_written B A cs h =
    ap (flat_map change_bytes) (ap (drop (length B.changes)) h.lists ∙ drop_at (reverse B.changes) cs (length B.changes) (length-reverse B.changes))
    ∙ bytes_of_came cs
