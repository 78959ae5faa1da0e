-- What is proved of settling. Each is a type; a term of that type in proofs/ is its proof, and a function of src/ names it in its contract.
-- A plant is a number below 16, as names have room for no more.
-- Assumes nothing.
use Rattle.std.specs.Prelude.{◌≡◌, ℕ, ◌+◌, ◌/◌, ◌<◌, ◌≤◌, ◌⊎◌, List, ◌∷◌, ◌++◌, length, Ok}
use Rattle.change.specs.Membership.{In, Within, SameMembers}
use Rattle.change.specs.Model.{Change}
use Rattle.blocks.specs.Sheet.{of_sheet}
use Rattle.blocks.specs.Theorems.{flat, Above}
use Rattle.history.specs.Book.{Book, next_name}
use Rattle.history.specs.Sane.{Sane}
use Rattle.making.specs.Request.{Request}
use Rattle.settling.specs.Requests.{piece_limit, requests, new_lines, in_pieces, made_all}
use Rattle.settling.specs.Settled.{text_on, blocks_on, singles, LeadsTo, Conflict, RoomFor, NoneAwaited, Settled}

-- the book after the requests for these pieces
abbrev pub SettledBy : Book → ℕ → List (List ℕ) → List (List ℕ) → ℕ → ℕ → List (List ℕ) → Type 0
SettledBy B sheet front back a m pieces =
    (A : Book) × (made_all (requests (text_on B sheet) m a (next_name B) pieces sheet) B ≡ Ok A) × Sane A
    × Settled B A sheet front (flat pieces) (new_lines (next_name B) pieces) back

-- A block is settled in any order of its lines, in pieces of at most 30, behind any line that leads to one of its lines: no request is refused, if there is room.
abbrev pub SettlesInPieces : Type 0
SettlesInPieces =
    (B : Book) → Sane B → B.plant < 16 → NoneAwaited B →
    (sheet : ℕ) (front : List (List ℕ)) (block : List ℕ) (back : List (List ℕ)) → blocks_on B sheet ≡ front ++ block ∷ back →
    (pieces : List (List ℕ)) → ((piece : List ℕ) → In piece pieces → length piece ≤ piece_limit) → SameMembers (flat pieces) block →
    (a m : ℕ) → In m block → LeadsTo (of_sheet sheet B.changes) front a m → RoomFor B (length pieces) (length (flat pieces)) →
    SettledBy B sheet front back a m pieces

-- Where the block has two lines or more, there is a line that leads to each of its lines, whatever stands above it.
abbrev pub SomeLineLeads : Type 0
SomeLineLeads =
    (B : Book) → Sane B →
    (sheet : ℕ) (front : List (List ℕ)) (block : List ℕ) (back : List (List ℕ)) → blocks_on B sheet ≡ front ++ block ∷ back → 2 ≤ length block →
    (m : ℕ) → In m block → (a : ℕ) × LeadsTo (of_sheet sheet B.changes) front a m

-- The pieces have the lines in their order, none has more than a change may name, and they are as few as can be: one, if the lines are 30 or fewer.
abbrev pub PiecesAreFew : Type 0
PiecesAreFew =
    (order : List ℕ) →
    (flat (in_pieces order) ≡ order) × ((piece : List ℕ) → In piece (in_pieces order) → length piece ≤ piece_limit) × (length (in_pieces order) ≡ (length order + 29) / 30)

-- A conflict is settled by the requests for its pieces, which are made one after the other.
abbrev pub ConflictSettles : Type 0
ConflictSettles =
    (B : Book) → Sane B → B.plant < 16 → NoneAwaited B →
    (sheet : ℕ) (order : List ℕ) (a m : ℕ) (c : Conflict (of_sheet sheet B.changes) order a m) → RoomFor B ((length order + 29) / 30) (length order) →
    (A : Book) × (made_all (requests (text_on B sheet) m a (next_name B) (in_pieces order) sheet) B ≡ Ok A) × Sane A
    × Settled B A sheet c.front order (new_lines (next_name B) (in_pieces order)) c.back

-- So every conflict can be settled, wherever it stands and in any order of its lines, by that many changes.
abbrev pub EveryConflictSettles : Type 0
EveryConflictSettles =
    (B : Book) → Sane B → B.plant < 16 → NoneAwaited B →
    (sheet : ℕ) (front : List (List ℕ)) (block : List ℕ) (back : List (List ℕ)) → blocks_on B sheet ≡ front ++ block ∷ back → 2 ≤ length block →
    (order : List ℕ) → SameMembers order block → RoomFor B ((length order + 29) / 30) (length order) →
    (rs : List Request) × (A : Book) × (news : List ℕ)
    × (length rs ≡ (length order + 29) / 30) × (made_all rs B ≡ Ok A) × Sane A × Settled B A sheet front order news back

-- What was settled stays so: in a book that has more changes, none of which strikes out a settled line, these are still shown in their order.
abbrev pub StaysSettled : Type 0
StaysSettled =
    (A Z : Book) → Sane A → Sane Z → Within A.changes Z.changes →
    (sheet : ℕ) (front : List (List ℕ)) (news : List ℕ) (back : List (List ℕ)) → blocks_on A sheet ≡ front ++ (singles news ++ back) →
    ((d : Change) → In d Z.changes → In d A.changes ⊎ ((u : ℕ) → In u news → In u d.kills → ⊥)) →
    (u v : ℕ) → Above news u v → Above (flat (blocks_on Z sheet)) u v
