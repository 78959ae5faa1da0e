-- The requests for all pieces, made one after the other.
-- AllMade B a name pieces: the book after them, and what came of it.
-- Assumes nothing.
use Rattle.std.proofs.Common.{◌≡◌, ℕ, suc, ◌+◌, ◌<◌, ◌≤◌, true, eqb, List, [], ◌∷◌, ◌++◌, map, length, Ok, sym, refl, ap, ◌∙◌, subst, inl, inr, arith, length-append}
use lib.ListN.{length-map}
use Rattle.std.proofs.lemmas.Bool.{cond-true, cond-false, eq-eqb, ne_eqb}
use Rattle.change.specs.Membership.{In}
use Rattle.change.specs.Model.{Change, line_of}
use Rattle.change.specs.WellFormed.{is_text}
use Rattle.order.specs.Order.{Order, Line}
use Rattle.order.specs.Fits.{Listed}
use Rattle.order.proofs.Members.{in_left, in_right}
use Rattle.blocks.specs.Sheet.{of_sheet}
use Rattle.blocks.specs.Theorems.{flat}
use Rattle.blocks.proofs.Sheets.{sheet_listed}
use Rattle.history.specs.Book.{Book, enter, next_name}
use Rattle.history.specs.Sane.{Sane}
use Rattle.making.specs.Request.{Request}
use Rattle.making.specs.Making.{change_for, make}
use Rattle.making.proofs.Sorted.{sorted_members}
use Rattle.settling.specs.Requests.{last_of, request, new_of, requests, new_lines, piece_limit, going_on, made_all}
use Rattle.settling.specs.Settled.{RoomFor, NoneAwaited}
use Rattle.settling.proofs.Linked.{linked_last, numbers_alike}
use Rattle.settling.proofs.Grows.{Grows, grows_none, grows_then, grows_one, map_on, lines_within, order_within}
use Rattle.settling.proofs.Adds.{length_chained}
use Rattle.settling.proofs.Request.{is_made}
use Rattle.settling.proofs.Made.{fits, made_is, enter_sane, next_name_lem, still_none, room_left}

module _ (sheet : ℕ) (text : ℕ → List ℕ) (m : ℕ) (high : 2 ≤ m) where
  abbrev on : Book → List Change
  on B = of_sheet sheet B.changes

  abbrev pub AllMade : Book → ℕ → ℕ → List (List ℕ) → Type 0
  AllMade B a name pieces =
      (A : Book) × (made_all (requests text m a name pieces sheet) B ≡ Ok A) × Sane A
      × Grows (on B) (on A) a m (flat pieces) (new_lines name pieces) (map text (flat pieces))
      × ((other : ℕ) → (other ≡ sheet → ⊥) → of_sheet other A.changes ≡ of_sheet other B.changes)

  -- the lines to be settled are there, with texts
  abbrev pub There : Book → List ℕ → Type 0
  There B us = (u : ℕ) → In u us → Line (on B) u × (2 ≤ u) × (is_text (text u) ≡ true)

  -- one piece, and then the others
  module _ (B : Book) (s : Sane B) (low : B.plant < 16) (still : NoneAwaited B) (a : ℕ) (leads : Order (on B) a m) (piece : List ℕ) (rest : List ℕ) (more : ℕ)
      (there : There B (piece ++ rest)) (few : length piece ≤ piece_limit) (room : RoomFor B (suc more) (length (piece ++ rest))) where
    abbrev r : Request
    r = request text m a (next_name B) piece sheet

    abbrev c : Change
    c = change_for B r

    abbrev pub after : Book
    after = enter B c

    abbrev pub last : ℕ
    last = last_of a (new_of (next_name B) piece)

    length_both : length (piece ++ rest) ≡ length piece + length rest
    length_both = length-append piece rest

    ok : make B r ≡ Ok c
    ok = is_made B s low sheet text m a piece (λ u i. let (l, h, _) = there u (in_left piece rest u i) in (l, h)) (λ u i. (there u (in_left piece rest u i)).2)
        few leads high (omega arith, omega (arith, length_both), omega arith)

    on_after : on after ≡ c ∷ on B
    on_after = cond-true (eqb sheet sheet) (c ∷ on B) (on B) (eq-eqb sheet sheet refl)

    listed : Listed (c ∷ on B)
    listed = subst Listed on_after (sheet_listed after.changes (fits B s low still r ok, s.orderly.listed) sheet)

    one : Grows (on B) (on after) a m piece (new_of (next_name B) piece) (map text piece)
    one =
        subst (λ M. Grows (on B) M a m piece (new_of (next_name B) piece) (map text piece)) (sym on_after)
        (subst (λ us. Grows (on B) (c ∷ on B) a m piece us (map text piece)) (numbers_alike text (line_of (next_name B) 0) piece)
        (grows_one (on B) c listed m a (map text piece) refl piece (sorted_members piece)))

    leads_on : Order (on after) last m
    leads_on = linked_last (Order (on after)) m a (new_of (next_name B) piece) (order_within (on B) (on after) one.within a m leads) one.linked

    there_on : There after rest
    there_on u i = let (l, h, t) = there u (in_right piece rest u i) in (lines_within (on B) (on after) one.within u l, h, t)

    room_on : RoomFor after more (length rest)
    room_on =
        let adds = length_chained m a (line_of (next_name B) 0) (map text piece) in
        room_left B s low still r ok more (length rest) (omega arith, omega (arith, length_both, adds, length-map piece text), omega arith)

    elsewhere : (other : ℕ) → (other ≡ sheet → ⊥) → of_sheet other after.changes ≡ of_sheet other B.changes
    elsewhere other ne = cond-false (eqb sheet other) (c ∷ of_sheet other B.changes) (of_sheet other B.changes) (ne_eqb sheet other (λ e. ne (sym e)))

    made_more : (pieces : List (List ℕ)) → flat pieces ≡ rest → AllMade after last (next_name after) pieces → AllMade B a (next_name B) (piece ∷ pieces)
    made_more pieces same made_rest =
        let (A, e, sane, g, els) = subst (λ n. AllMade after last n pieces) (next_name_lem B s low still r ok) made_rest in (
          A,
          ap (going_on (made_all (requests text m last (next_name B + 16) pieces sheet))) (made_is B s low still r ok) ∙ e,
          sane,
          subst (λ ts. Grows (on B) (on A) a m (piece ++ flat pieces) (new_lines (next_name B) (piece ∷ pieces)) ts) (sym (map_on text piece (flat pieces)))
              (grows_then (on B) (on after) (on A) a m piece (new_of (next_name B) piece) (map text piece) (flat pieces) (new_lines (next_name B + 16) pieces) (map text (flat pieces)) one g),
          λ other ne. els other ne ∙ elsewhere other ne,
        )

  pub all_made :
      (pieces : List (List ℕ)) (B : Book) → Sane B → B.plant < 16 → NoneAwaited B → (a : ℕ) → Order (on B) a m → There B (flat pieces) →
      ((piece : List ℕ) → In piece pieces → length piece ≤ piece_limit) → RoomFor B (length pieces) (length (flat pieces)) → AllMade B a (next_name B) pieces
  all_made [] B s low still a leads there few room = (B, refl, s, grows_none (on B) (sheet_listed B.changes s.orderly.listed sheet) a m, λ other ne. refl)
  all_made (piece ∷ pieces) B s low still a leads there few room =
      let short = few piece (inl refl) in
      let n = ok B s low still a leads piece (flat pieces) (length pieces) there short room in
      made_more B s low still a leads piece (flat pieces) (length pieces) there short room pieces refl
      (all_made pieces (after B s low still a leads piece (flat pieces) (length pieces) there short room)
      (enter_sane B s low still (request text m a (next_name B) piece sheet) n) low
      (still_none B s low still (request text m a (next_name B) piece sheet) n)
      (last B s low still a leads piece (flat pieces) (length pieces) there short room)
      (leads_on B s low still a leads piece (flat pieces) (length pieces) there short room)
      (there_on B s low still a leads piece (flat pieces) (length pieces) there short room)
      (λ p i. few p (inr i))
      (room_on B s low still a leads piece (flat pieces) (length pieces) there short room))
