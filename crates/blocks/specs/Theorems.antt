-- What is proved of blocks. Each is a type; a term of that type in proofs/ is its proof, and a function of src/ names it in its contract.
-- First for any strict order that a test tells and any lines, given as a list; then for the lines of a set of changes.
-- Apart, OneByOne, TiedTogether, Upper, Middle: what both parts say of lines that live (A), their order (R) and the blocks that show them.
-- Together: in one block. flat: the lines of all blocks. Above: the upper of two.
-- Assumes nothing.
use Rattle.std.specs.Prelude.{◌≡◌, ℕ, Bool, ◌⊎◌, List, [], ◌∷◌, ◌++◌, length}
use Rattle.change.specs.Membership.{In, SameMembers}
use Rattle.change.specs.Model.{Add, Change, line_of}
use Rattle.order.specs.Order.{Order, Alive}
use Rattle.order.specs.Fits.{Listed, Sound}
use Rattle.blocks.specs.Strict.{Says, Strict}
use Rattle.blocks.specs.Relation.{Loose, Tied, Shows}
use Rattle.blocks.specs.Function.{blocks_of}
use Rattle.blocks.specs.Sheet.{of_sheet, living, text_of, sheet_blocks, shown}

-- The blocks that the function finds show the lines.
abbrev pub Found : Type 0
Found = (before : ℕ → ℕ → Bool) → Strict (Says before) → (ls : List ℕ) → Shows (λ u. In u ls) (Says before) (blocks_of before ls)

-- There is one way to show lines, and it depends on which they are alone.
abbrev pub OneWay : Type 0
OneWay =
    (before : ℕ → ℕ → Bool) → Strict (Says before) → (ls ks : List ℕ) → SameMembers ls ks →
    (bs cs : List (List ℕ)) → Shows (λ u. In u ls) (Says before) bs → Shows (λ u. In u ks) (Says before) cs → bs ≡ cs

-- all lines tied to u stand before all tied to v
abbrev pub AllBefore : (ℕ → Type 0) → (ℕ → ℕ → Type 0) → ℕ → ℕ → Type 0
AllBefore A R u v = (x y : ℕ) → Tied A R u x → Tied A R v y → R x y

-- of two blocks, each given by a line of it, one stands before the other as a whole
abbrev pub Apart : (ℕ → Type 0) → (ℕ → ℕ → Type 0) → Type 0
Apart A R = (u v : ℕ) → A u → A v → (Tied A R u v → ⊥) → AllBefore A R u v ⊎ AllBefore A R v u

abbrev pub BlocksApart : Type 0
BlocksApart = (before : ℕ → ℕ → Bool) → Strict (Says before) → (ls : List ℕ) → Apart (λ u. In u ls) (Says before)

-- where no two lines are loose, each block is one line
abbrev pub OneByOne : (ℕ → Type 0) → (ℕ → ℕ → Type 0) → List (List ℕ) → Type 0
OneByOne A R blocks = ((u v : ℕ) → Loose A R u v → ⊥) → (b : List ℕ) → In b blocks → (u : ℕ) × (b ≡ u ∷ [])

abbrev pub Plain : Type 0
Plain = (before : ℕ → ℕ → Bool) (ls : List ℕ) (blocks : List (List ℕ)) → Shows (λ u. In u ls) (Says before) blocks → OneByOne (λ u. In u ls) (Says before) blocks

-- one of the blocks has both lines
abbrev pub Together : List (List ℕ) → ℕ → ℕ → Type 0
Together blocks u v = (b : List ℕ) × In b blocks × In u b × In v b

-- a living line is in one block with exactly those that are tied to it
abbrev pub TiedTogether : (ℕ → Type 0) → (ℕ → ℕ → Type 0) → List (List ℕ) → Type 0
TiedTogether A R blocks = (u v : ℕ) → A u → (Together blocks u v → Tied A R u v) × (Tied A R u v → Together blocks u v)

abbrev pub SameBlock : Type 0
SameBlock = (before : ℕ → ℕ → Bool) (ls : List ℕ) (blocks : List (List ℕ)) → Shows (λ u. In u ls) (Says before) blocks → TiedTogether (λ u. In u ls) (Says before) blocks

-- the lines of all blocks, as they are shown
abbrev pub flat : List (List ℕ) → List ℕ
flat [] = []
flat (b ∷ bs) = b ++ flat bs

-- u is in the list above v
abbrev pub Above : List ℕ → ℕ → ℕ → Type 0
Above [] u v = ⊥
Above (x ∷ xs) u v = ((u ≡ x) × In v xs) ⊎ Above xs u v

-- the lower of two shown lines does not stand before the upper, and unless they are in one block the upper stands before the lower
abbrev pub Upper : (ℕ → ℕ → Type 0) → List (List ℕ) → Type 0
Upper R blocks = (u v : ℕ) → Above (flat blocks) u v → (R v u → ⊥) × (Together blocks u v ⊎ R u v)

abbrev pub UpperBefore : Type 0
UpperBefore = (before : ℕ → ℕ → Bool) → Strict (Says before) → (ls : List ℕ) (blocks : List (List ℕ)) → Shows (λ u. In u ls) (Says before) blocks → Upper (Says before) blocks

-- a living line that stands between two is shown between them
abbrev pub Middle : (ℕ → Type 0) → (ℕ → ℕ → Type 0) → List (List ℕ) → Type 0
Middle A R blocks = (a x b : ℕ) → A a → A x → A b → R a x → R x b → Above (flat blocks) a x × Above (flat blocks) x b

abbrev pub Between : Type 0
Between = (before : ℕ → ℕ → Bool) → Strict (Says before) → (ls : List ℕ) (blocks : List (List ℕ)) → Shows (λ u. In u ls) (Says before) blocks → Middle (λ u. In u ls) (Says before) blocks

-- The changes of one sheet, listed as they came, could have come without the others.
abbrev pub SheetListed : Type 0
SheetListed = (L : List Change) → Listed L → (n : ℕ) → Listed (of_sheet n L)

-- The list of living lines has those that live.
abbrev pub LivingAlive : Type 0
LivingAlive = (L : List Change) → Listed L → (u : ℕ) → (In u (living L) → Alive L u) × (Alive L u → In u (living L))

-- Each line has the text of its add.
abbrev pub TextOfAdd : Type 0
TextOfAdd =
    (L : List Change) → Listed L → (c : Change) → In c L → (front : List Add) (a : Add) (back : List Add) → c.adds ≡ front ++ a ∷ back →
    text_of L (line_of c.name (length front)) ≡ a.text

-- The same of the order that a set of changes makes: its blocks show its living lines in their order, in the one way there is.
abbrev pub SetFound : Type 0
SetFound = (L : List Change) → Listed L → Shows (Alive L) (Order L) (sheet_blocks L)

abbrev pub SetOneWay : Type 0
SetOneWay = (S T : List Change) → Sound S → SameMembers S T → (bs cs : List (List ℕ)) → Shows (Alive S) (Order S) bs → Shows (Alive T) (Order T) cs → bs ≡ cs

abbrev pub SetApart : Type 0
SetApart = (S : List Change) → Sound S → Apart (Alive S) (Order S)

abbrev pub SetPlain : Type 0
SetPlain = (S : List Change) (blocks : List (List ℕ)) → Shows (Alive S) (Order S) blocks → OneByOne (Alive S) (Order S) blocks

abbrev pub SetSameBlock : Type 0
SetSameBlock = (S : List Change) (blocks : List (List ℕ)) → Shows (Alive S) (Order S) blocks → TiedTogether (Alive S) (Order S) blocks

abbrev pub SetUpper : Type 0
SetUpper = (S : List Change) → Sound S → (blocks : List (List ℕ)) → Shows (Alive S) (Order S) blocks → Upper (Order S) blocks

abbrev pub SetBetween : Type 0
SetBetween = (S : List Change) → Sound S → (blocks : List (List ℕ)) → Shows (Alive S) (Order S) blocks → Middle (Alive S) (Order S) blocks

-- The bytes shown depend on the set of changes alone, and not on how they came.
abbrev pub ShownOneWay : Type 0
ShownOneWay = (L M : List Change) → Listed L → Listed M → SameMembers L M → (n : ℕ) → shown n L ≡ shown n M
