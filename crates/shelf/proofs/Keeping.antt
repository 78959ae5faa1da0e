-- What keeps a shelf sane: the changes that it then has fit one after the other, and its lines are theirs.
-- Assumes nothing.
use Rattle.std.proofs.Common.{◌≡◌, ℕ, ◌+◌, ◌≤◌, leb, List, [], ◌∷◌, ◌++◌, reverse, length, Err, refl, sym, ap, ◌∙◌, subst, arith}
use Rattle.std.proofs.lemmas.List.{reverse-append}
use Rattle.std.proofs.lemmas.List.Sums.{sum_by-cons}
use Rattle.std.proofs.lemmas.Bool.Decides.{nat_tests}
use Rattle.change.specs.Model.{Change}
use Rattle.order.specs.Order.{Put}
use Rattle.order.specs.Table.{placed}
use Rattle.order.specs.Fits.{Listed}
use Rattle.order.proofs.Placed.{placed_good}
use Rattle.table.specs.Held.{held}
use Rattle.lines.specs.declared.Lines.{Lines}
use Rattle.lines.specs.Numbers.{free_in}
use Rattle.lines.specs.Lines.{numbers_of, Keeps, Unmoved}
use Rattle.lines.proofs.Filled.{all_but_the_lines_are_free}
use Rattle.store.specs.declared.Store.{Store}
use Rattle.store.specs.Kept.{kept}
use Rattle.store.specs.declared.no_room.NoRoom.{NoRoom}
use Rattle.store.specs.declared.no_room.NoRoom.TheVariants.{Area, Memory}
use Rattle.store.specs.Pushed.{Pushed}
use Rattle.store.specs.Room.{SameRoom}
use Rattle.history.specs.Book.{change_limit, line_limit, lines_of}
use Rattle.shelf.specs.declared.Shelf.{Shelf}
use Rattle.shelf.specs.Roomy.{Roomy}
use Rattle.shelf.specs.Sane.{changes}
use Rattle.shelf.specs.Together.{changes_in, slot_count, Together}
use Rattle.shelf.proofs.Placing.{length_placed}
use Rattle.shelf.proofs.Sure.{sane}

-- The free slots are as many as the lines that may still come, and 64 more.
pub free_slots : (s : Shelf) → free_in (numbers_of s.lines) + lines_of (changes s) ≡ line_limit + 64
free_slots s =
    let is = sane s in
    omega (arith, all_but_the_lines_are_free (held s.lines.table) (numbers_of s.lines) (placed (changes s)) is.keeps (placed_good (changes s) is.listed), length_placed (changes s), is.slots)

-- so the free slots tell whether there are too many lines
pub slots_tell_room : (s : Shelf) (c : Change) (adds free : ℕ) → adds ≡ length c.adds → free ≡ free_in (numbers_of s.lines) → leb (adds + 64) free ≡ leb (lines_of (c ∷ changes s)) line_limit
slots_tell_room s c adds free few same =
    let slots = free_slots s in
    let more = sum_by-cons (λ d. length d.adds) c (changes s) in
    grind (arith, nat_tests)

pub sane_with : (store : Store) (lines : Lines) (L : List Change) → changes_in store ≡ L → Listed L → Keeps lines (placed L) → length (numbers_of lines) ≡ slot_count →
    length L ≤ change_limit → lines_of L ≤ line_limit → Together store lines
sane_with store lines L same listed keeps slots few few_lines = record {
  listed = subst Listed (sym same) listed;
  keeps = subst (λ M. Keeps lines (placed M)) (sym same) keeps;
  slots = slots;
  few = subst (λ M. length M ≤ change_limit) (sym same) few;
  few_lines = subst (λ M. lines_of M ≤ line_limit) (sym same) few_lines;
}

-- the same changes, with lines that keep what they kept
pub sane_still : (s : Shelf) (store : Store) (lines : Lines) → kept store ≡ kept s.store → ((Q : List Put) → Keeps s.lines Q → Keeps lines Q) → Unmoved s.lines lines → Together store lines
sane_still s store lines same keeps unmoved =
    let was = sane s in
    sane_with store lines (changes s) (ap reverse same) was.listed (keeps _ was.keeps) (ap length unmoved.numbers ∙ was.slots) was.few was.few_lines

-- the same changes and the same lines, in a store that something was tried on
pub sane_in : (s : Shelf) (store : Store) → kept store ≡ kept s.store → Together store s.lines
sane_in s store same = sane_still s store s.lines same (λ Q keeps. keeps) (record { numbers = refl; order = λ _ _ _ _. refl })

pub not_pushed : (s t : Store) (c : Change) (e : NoRoom) → Pushed s t c (Err e) → kept t ≡ kept s
not_pushed s t c Area pushed = pushed.0
not_pushed s t c Memory pushed = pushed.0

pub changes_push : (s t : Store) (c : Change) → kept t ≡ kept s ++ c ∷ [] → reverse (kept t) ≡ c ∷ reverse (kept s)
changes_push s t c pushed = ap reverse pushed ∙ reverse-append (kept s) (c ∷ [])

pub roomy_still : (s t : Store) → SameRoom s t → Roomy s → Roomy t
roomy_still s t same roomy = record { most = omega (arith, same.most, roomy.most); space = omega (arith, same.space, roomy.space) }
