-- The theorems on blocks at the order that a set of changes makes: it is strict, and the table decides it.
-- Assumes nothing.
use Rattle.std.proofs.Common.{ℕ, Bool, List, ap₂}
use Rattle.std.proofs.lemmas.Bool.Decides.{Decides-like}
use Rattle.change.specs.Membership.{In, SameMembers}
use Rattle.change.specs.Model.{Change}
use Rattle.order.specs.Order.{through, Order, Alive}
use Rattle.order.specs.Table.{bef, placed}
use Rattle.order.specs.Fits.{Sound}
use Rattle.order.proofs.Precedes.{line_more, brought_more, order_alike}
use Rattle.order.proofs.Fitting.{listed_sound}
use Rattle.order.proofs.OneSet.{no_ring, decided}
use Rattle.blocks.specs.Bytes.{sheet_bytes}
use Rattle.blocks.specs.Sheet.{of_sheet, living, sheet_blocks}
use Rattle.blocks.specs.Strict.{Says, Strict}
use Rattle.blocks.specs.Theorems.{SetFound, SetOneWay, SetApart, SetPlain, SetSameBlock, SetUpper, SetBetween, ShownOneWay}
use Rattle.blocks.proofs.Ties.{Told, decidable, apart}
use Rattle.blocks.proofs.Alike.{shows_alike}
use Rattle.blocks.proofs.OneWay.{one_way}
use Rattle.blocks.proofs.Cuts.{found}
use Rattle.blocks.proofs.Reading.{one_by_one, tied_together, upper, middle}
use Rattle.blocks.proofs.Living.{living_alive}
use Rattle.blocks.proofs.Texts.{texts_alike}
use Rattle.blocks.proofs.Sheets.{of_sheet_within, sheet_listed}

alive_on : (S T : List Change) → SameMembers S T → (u : ℕ) → Alive S u → Alive T u
alive_on S T (to, from) u (line, high, alive) = (line_more (brought_more S T to) u line, high, λ (c, i, j). alive (c, from c i, j))

alive_alike : (S T : List Change) → SameMembers S T → (u : ℕ) → (Alive S u → Alive T u) × (Alive T u → Alive S u)
alive_alike S T (to, from) u = (alive_on S T (to, from) u, alive_on T S (from, to) u)

pub set_plain : SetPlain
set_plain S = one_by_one (Order S) (Alive S)

pub set_same_block : SetSameBlock
set_same_block S = tied_together (Order S) (Alive S)

order_strict : (S : List Change) → Sound S → Strict (Order S)
order_strict S sound = record { never = no_ring S sound; onward = through }

pub set_one_way : SetOneWay
set_one_way S T sound m bs cs s t =
    one_way (Alive S) (Order S) (order_strict S sound) bs cs s
    (shows_alike (Alive T) (Alive S) (Order T) (Order S) (alive_alike T S (m.1, m.0)) (order_alike T S (m.1, m.0)) cs t)

pub set_upper : SetUpper
set_upper S sound blocks shows = upper (Order S) (Alive S) blocks shows (order_strict S sound)

pub set_between : SetBetween
set_between S sound blocks shows = middle (Order S) (Alive S) blocks shows (order_strict S sound)

pub set_apart : SetApart
set_apart S (L, h, m) =
    apart (order_strict S (L, h, m))
    (decidable {before = bef (placed L)} (λ u v. let (to, from) = order_alike L S m u v in Decides-like _ to from (decided L h u v)))

says_strict : (R : ℕ → ℕ → Type 0) (before : ℕ → ℕ → Bool) → Told R before → Strict R → Strict (Says before)
says_strict R before told strict =
    record { never = λ u t. strict.never u ((told u u).0 t); onward = λ {u} {w} v s t. (told u w).1 (strict.onward v ((told u v).0 s) ((told v w).0 t)) }

pub set_found : SetFound
set_found L h =
    shows_alike (λ u. In u (living L)) (Alive L) (Says (bef (placed L))) (Order L) (living_alive L h) (decided L h) (sheet_blocks L)
    (found (bef (placed L)) (says_strict (Order L) (bef (placed L)) (decided L h) (order_strict L (listed_sound L h))) (living L))

pub shown_one_way : ShownOneWay
shown_one_way L M h k (to, from) n =
    let L' = of_sheet n L in
    let M' = of_sheet n M in
    let same : SameMembers L' M' = (of_sheet_within n L M to, of_sheet_within n M L from) in
    let h' = sheet_listed L h n in
    let k' = sheet_listed M k n in
    ap₂ sheet_bytes (texts_alike L' M' h' k' same)
    (set_one_way L' M' (listed_sound L' h') same (sheet_blocks L') (sheet_blocks M') (set_found L' h') (set_found M' k'))
