-- What can be relied on in every world that comes about, without asking who made what: the statement of the whole.
-- BookAt W i B: B is the book at place i. Exact S: what the blocks of a sheet, of which S are the changes, tell a reader.
-- Whole W: all of it, of the world W.
-- Assumes nothing.
use Rattle.std.specs.Prelude.{◌≡◌, ℕ, true, ◌↔◌, List, [], ◌∷◌, ◌++◌, Some, Ok, Err, ◌≢◌}
use Rattle.std.specs.List.{slice_get}
use Rattle.change.specs.declared.refusal.Refusal.{Refusal}
use Rattle.change.specs.Membership.{In, SameMembers}
use Rattle.change.specs.Model.{Change}
use Rattle.change.specs.WellFormed.{well_formed}
use Rattle.change.specs.Bytes.{change_bytes}
use Rattle.order.specs.Order.{Put, puts, Order, Line, Alive}
use Rattle.order.specs.Fits.{Listed, OneChange}
use Rattle.blocks.specs.Relation.{Shows}
use Rattle.blocks.specs.Sheet.{of_sheet, sheet_blocks, shown}
use Rattle.blocks.specs.Theorems.{TiedTogether, Upper, Middle}
use Rattle.history.specs.declared.Outcome.TheVariants.{Refused}
use Rattle.history.specs.Book.{Book}
use Rattle.history.specs.Taking.{event, verdict}
use Rattle.history.specs.Sane.{Sane}
use Rattle.letters.specs.Letter.{letter_bytes, is_letter}
use Rattle.sending.specs.Receiving.{received}
use Rattle.world.specs.World.{World, Action, takes, takes_back, acted, Arises}

abbrev pub BookAt : World → ℕ → Book → Type 0
BookAt W i B = slice_get W i ≡ Some B

pub record Exact (S : List Change) : Type 0 where
  -- the living lines are shown, block by block, in their order
  pub shows : Shows (Alive S) (Order S) (sheet_blocks S)
  -- lines are in one block, a conflict, exactly if they are tied by pairs that nobody has put in order
  pub conflicts : TiedTogether (Alive S) (Order S) (sheet_blocks S)
  -- of two lines in different blocks the upper was put before the lower, and in a block none is shown above one that was put before it
  pub upper : Upper (Order S) (sheet_blocks S)
  -- a line that stands between two others is shown between them
  pub middle : Middle (Alive S) (Order S) (sheet_blocks S)

pub record Whole (W : World) : Type 0 where
  pub sane : (B : Book) → In B W → Sane B
  -- any two books that hold the same changes, here or in any other world, now or later, show the same bytes on every sheet
  pub same_bytes : (V : World) → Arises V → (A B : Book) → In A W → In B V → SameMembers A.changes B.changes → (sheet : ℕ) → shown sheet A.changes ≡ shown sheet B.changes
  -- a line put between two others stands between them in every book that has it
  pub between :
      (B : Book) → In B W → (c : Change) → In c B.changes → (p : Put) → In p (puts c) →
      Order (of_sheet c.sheet B.changes) p.after p.line × Order (of_sheet c.sheet B.changes) p.line p.before
  -- no action alters the order of two lines that stood, as long as they are there
  pub steady :
      (a : Action) (i : ℕ) (A B : Book) → BookAt W i A → BookAt (acted W a).1 i B →
      (u v : ℕ) → Line A.changes u → Line A.changes v → Line B.changes u → Line B.changes v → Order A.changes u v ↔ Order B.changes u v
  -- nor does any list of actions, nor do two books ever differ on lines that both have, where changes of one name are the same change
  pub agree :
      (V : World) → Arises V → (A B : Book) → In A W → In B V → OneChange A.changes B.changes →
      (u v : ℕ) → Line A.changes u → Line A.changes v → Line B.changes u → Line B.changes v → Order A.changes u v ↔ Order B.changes u v
  -- what is shown in order, somebody put in order; all else is a conflict, exactly
  pub exact : (B : Book) → In B W → (sheet : ℕ) → Exact (of_sheet sheet B.changes)
  -- taking a change back leaves what any history of the other changes shows
  pub as_if_never :
      (i n : ℕ) (A B : Book) → BookAt W i A → (acted W (takes_back i n)).0 ≡ Ok [] → BookAt (acted W (takes_back i n)).1 i B →
      (M : List Change) → Listed M → ((d : Change) → In d M ↔ (In d A.changes × (d.name ≢ n))) → (sheet : ℕ) → shown sheet B.changes ≡ shown sheet M
  -- what is refused leaves every book as it was
  pub refused : (a : Action) (e : Refusal) → (acted W a).0 ≡ Err e → (acted W a).1 ≡ W
  -- and so does a change that is turned away
  pub turned_away :
      (i : ℕ) (B : Book) → BookAt W i B → (c : Change) → well_formed c ≡ true → (r : Refusal) → verdict B c ≡ Refused r →
      acted W (takes i (change_bytes c)) ≡ (Ok (event c.name (Refused r) ∷ []), W)
  -- and a letter does what it would do without those of it that are turned away
  pub turned_away_of_letter :
      (i : ℕ) (B : Book) → BookAt W i B → (front : List Change) (c : Change) (back : List Change) → is_letter (front ++ c ∷ back) ≡ true →
      (r : Refusal) → verdict (received B front).1 c ≡ Refused r →
      (acted W (takes i (letter_bytes (front ++ c ∷ back)))).1 ≡ (acted W (takes i (letter_bytes (front ++ back)))).1
