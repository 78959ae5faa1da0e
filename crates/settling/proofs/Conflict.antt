-- That every conflict can be settled: some line leads to it, and its pieces are settled behind that line.
-- Assumes nothing.
use Rattle.std.proofs.Common.{◌≡◌, ℕ, suc, ◌+◌, ◌≤◌, List, [], ◌∷◌, length, sym, refl, ap, ◌∙◌, subst, inl, arith}
use Rattle.change.specs.Membership.{In, SameMembers}
use Rattle.blocks.specs.Sheet.{of_sheet}
use Rattle.history.specs.Book.{next_name}
use Rattle.settling.specs.Requests.{last_of, new_of, requests, new_lines, in_pieces}
use Rattle.settling.specs.Settled.{text_on, Conflict, RoomFor, Settled}
use Rattle.settling.specs.Theorems.{ConflictSettles, EveryConflictSettles}
use Rattle.settling.proofs.Settle.{settles_in_pieces}
use Rattle.settling.proofs.Leading.{some_line_leads}
use Rattle.settling.proofs.CutUp.{pieces_are_few}

length_requests : (text : ℕ → List ℕ) (m a name : ℕ) (pieces : List (List ℕ)) (sheet : ℕ) → length (requests text m a name pieces sheet) ≡ length pieces
length_requests text m a name [] sheet = refl
length_requests text m a name (piece ∷ pieces) sheet = ap suc (length_requests text m (last_of a (new_of name piece)) (name + 16) pieces sheet)

first_of : (block : List ℕ) → 2 ≤ length block → (m : ℕ) × In m block
first_of [] long = absurd (omega arith)
first_of (m ∷ block) long = (m, inl refl)

pub conflict_settles : ConflictSettles
conflict_settles B s low still sheet order a m c room =
    let (whole, short, few) = pieces_are_few order in
    let (A, made, sane, settled) =
    settles_in_pieces B s low still sheet c.front c.block c.back c.blocks (in_pieces order) short (subst (λ us. SameMembers us c.block) (sym whole) c.same) a m c.member c.leads
    (subst (λ us. RoomFor B (length (in_pieces order)) (length us)) (sym whole) (subst (λ k. RoomFor B k (length order)) (sym few) room)) in
    (A, made, sane, subst (λ us. Settled B A sheet c.front us (new_lines (next_name B) (in_pieces order)) c.back) whole settled)

pub every_conflict_settles : EveryConflictSettles
every_conflict_settles B s low still sheet front block back blocks long order all room =
    let (m, i) = first_of block long in
    let (a, leads) = some_line_leads B s sheet front block back blocks long m i in
    let c : Conflict (of_sheet sheet B.changes) order a m = record { front = front; block = block; back = back; blocks = blocks; long = long; same = all; member = i; leads = leads } in
    let (A, made, sane, settled) = conflict_settles B s low still sheet order a m c room in (
      requests (text_on B sheet) m a (next_name B) (in_pieces order) sheet,
      A,
      new_lines (next_name B) (in_pieces order),
      length_requests (text_on B sheet) m a (next_name B) (in_pieces order) sheet ∙ (pieces_are_few order).2,
      made,
      sane,
      settled,
    )
