-- The file follows the book: what each call writes makes it the file of the book after.
-- Held F B rs: F is the bytes of the records rs, which lead to what the file has of B. Onward B A bytes: the bytes are those of records that lead on from that to what the file has of A.
-- Writes B bytes d: the book that d comes to, if it isn't refused, is led to by the bytes for it.
-- Assumes nothing.
use Rattle.std.proofs.Common.{◌≡◌, ℕ, ◌<◌, Bool, true, false, cond, List, [], ◌∷◌, ◌++◌, map, length, Some, None, Ok, Err, Option, sym, refl, ap, ◌∙◌, subst, append-nil, arith, length-append}
use Rattle.std.specs.List.{list_all}
use Rattle.change.specs.declared.refusal.Refusal.{Refusal}
use Rattle.change.specs.declared.refusal.Refusal.TheVariants.{Needed, Misplaced}
use Rattle.change.specs.Model.{Change}
use Rattle.change.specs.WellFormed.{is_name}
use Rattle.change.proofs.Tests.{and_true, both_true}
use Rattle.order.proofs.Placed.{listed_formed}
use Rattle.history.specs.declared.Event.{Event}
use Rattle.history.specs.Book.{Book, empty}
use Rattle.history.specs.Taking.{take, is_free, taken_back}
use Rattle.history.specs.Sane.{Sane}
use Rattle.history.proofs.Back.{free_is_unneeded}
use Rattle.making.specs.Request.{Request}
use Rattle.making.specs.Making.{change_for, refusal, unless, made}
use Rattle.making.proofs.Made.{made_fits}
use Rattle.world.specs.Calls.{Done, take_bytes, take_back_done}
use Rattle.world.proofs.Taken.{taken_either}
use Rattle.world.specs.World.{makes, takes, takes_back}
use Rattle.world.proofs.Steps.{Steps, letter_is_formed, done_steps}
use Rattle.journal.specs.Record.{Record, came, went, went_bytes, is_record, records_bytes}
use Rattle.journal.specs.Replay.{onward, replayed_all}
use Rattle.journal.specs.Opening.{opened, of_file, Filed}
use Rattle.journal.specs.Calls.{written, Call, to_make, to_take, to_take_back, asked, appended}
use Rattle.journal.specs.Theorems.{FiledEmpty, FiledTake, FiledMade, FiledBack}
use Rattle.journal.proofs.Coming.{Came, take_came, received_came, came_written}
use Rattle.journal.proofs.Opening.{opens_exactly, records_open}
use Rattle.journal.proofs.Replaying.{replays_then, formed_joined, bytes_joined}

pub record Held (F : List ℕ) (B : Book) (rs : List Record) : Type 0 where
  pub formed : list_all is_record rs ≡ true
  pub bytes : F ≡ records_bytes rs
  pub replays : replayed_all (empty B.plant) rs ≡ Ok (of_file B)

none_left : (xs ys : List ℕ) → length (xs ++ ys) ≡ length xs → ys ≡ []
none_left xs [] e = refl
none_left xs (y ∷ ys) e = absurd (omega (arith, length-append xs (y ∷ ys)))

pub filed_held : (F : List ℕ) (B : Book) → Filed F B → (rs : List Record) × Held F B rs
filed_held F B filed =
    let o = (opens_exactly (empty B.plant) F (Ok (length F)) (of_file B)).0 filed in
    let none = none_left (records_bytes o.records) o.rest (ap length (sym o.whole) ∙ o.stops.0) in
    (o.records, record { formed = o.formed; bytes = o.whole ∙ ap (λ l. records_bytes o.records ++ l) none ∙ append-nil (records_bytes o.records); replays = o.replays })

pub held_filed : (F : List ℕ) (B : Book) (rs : List Record) → Held F B rs → Filed F B
held_filed F B rs h =
    ap (opened (empty B.plant)) h.bytes ∙ records_open (empty B.plant) (of_file B) rs h.formed h.replays ∙ ap (λ l. (Ok (length l), of_file B)) (sym h.bytes)

pub record Onward (B A : Book) (bytes : List ℕ) : Type 0 where
  pub plant : A.plant ≡ B.plant
  pub records : List Record
  pub formed : list_all is_record records ≡ true
  pub same : bytes ≡ records_bytes records
  pub replays : replayed_all (of_file B) records ≡ Ok (of_file A)

pub onward_none : (B : Book) → Onward B B []
onward_none B = record { plant = refl; records = []; formed = refl; same = refl; replays = refl }

pub onward_then : (B M A : Book) (b c : List ℕ) → Onward B M b → Onward M A c → Onward B A (b ++ c)
onward_then B M A b c s t = record {
  plant = t.plant ∙ s.plant;
  records = s.records ++ t.records;
  formed = formed_joined s.records t.records s.formed t.formed;
  same = (λ i. s.same i ++ t.same i) ∙ sym (bytes_joined s.records t.records);
  replays = replays_then (of_file B) (of_file M) (of_file A) s.records t.records s.replays t.replays;
}

pub filed_onward : (F : List ℕ) (B A : Book) (bytes : List ℕ) → Filed F B → Onward B A bytes → Filed (F ++ bytes) A
filed_onward F B A bytes filed on =
    let (rs, h) = filed_held F B filed in
    held_filed (F ++ bytes) A (rs ++ on.records) (record {
      formed = formed_joined rs on.records h.formed on.formed;
      bytes = (λ i. h.bytes i ++ on.same i) ∙ sym (bytes_joined rs on.records);
      replays =
          ap (λ p. replayed_all (empty p) (rs ++ on.records)) on.plant
          ∙ replays_then (empty B.plant) (of_file B) (of_file A) rs on.records h.replays on.replays;
    })

pub came_onward : (B A : Book) (cs : List Change) → Came B cs A → Onward B A (written B A)
came_onward B A cs h = record { plant = h.plant; records = map came cs; formed = h.formed; same = came_written B A cs h; replays = h.replays }

abbrev pub Writes : Book → (Book → List ℕ) → Done → Type 0
Writes B bytes (Ok q) = Onward B q.1 (bytes q.1)
Writes B bytes (Err e) = Unit {0}

writes_as : (B : Book) (bytes : Book → List ℕ) (d : Done) (es : List Event) (A : Book) → Writes B bytes d → d ≡ Ok (es, A) → Onward B A (bytes A)
writes_as B bytes d es A h e = subst (Writes B bytes) e h

take_writes : (B : Book) → Sane B → (bytes : List ℕ) → Writes B (written B) (take_bytes B bytes)
take_writes B s bytes =
    taken_either B bytes (Writes B (written B))
    (λ c formed e. let (cs, h) = take_came B s c formed in came_onward B (take B c).1 cs h)
    (λ cs formed e. let (ds, h) = received_came B s cs (letter_is_formed cs formed) in came_onward B _ ds h) tt

made_writes : (B : Book) → Sane B → B.plant < 16 → (r : Request) → Writes B (written B) (made B r)
made_writes B s low r = go (refusal B r) refl
  where
    go : (o : Option Refusal) → refusal B r ≡ o → Writes B (written B) (unless o (take B (change_for B r)))
    go None e =
        let (cs, h) = take_came B s (change_for B r) (made_fits B s low r (change_for B r) (ap (λ x. unless x (change_for B r)) e)).0.formed in
        came_onward B (take B (change_for B r)).1 cs h
    go (Some f) e = tt

free_is_a_name : (B : Book) → Sane B → (n : ℕ) → is_free B n ≡ true → is_name n ≡ true
free_is_a_name B s n free =
    let ((d, i, e), _) = (free_is_unneeded B n).0 free in
    subst (λ m. is_name m ≡ true) e (and_true (is_name d.name) _ (listed_formed B.changes s.orderly.listed d i)).0

pub back_onward : (B : Book) → Sane B → (n : ℕ) → is_free B n ≡ true → Onward B (taken_back B n) (went_bytes n)
back_onward B s n free = record {
  plant = refl;
  records = went n ∷ [];
  formed = both_true (free_is_a_name B s n free) refl;
  same = sym (append-nil (went_bytes n));
  replays = ap (λ b. onward (cond b (Ok (taken_back (of_file B) n)) (Err Misplaced)) (λ A. replayed_all A [])) free;
}

back_writes : (B : Book) → Sane B → (n : ℕ) → Writes B (λ A. went_bytes n) (take_back_done B n)
back_writes B s n = go (is_free B n) refl
  where
    go : (b : Bool) → is_free B n ≡ b → Writes B (λ A. went_bytes n) (cond b (Ok ([], taken_back B n)) (Err Needed))
    go true e = back_onward B s n e
    go false e = tt

pub filed_empty : FiledEmpty
filed_empty plant = refl

pub filed_take : FiledTake
filed_take F B filed s bytes es A e = filed_onward F B A (written B A) filed (writes_as B (written B) (take_bytes B bytes) es A (take_writes B s bytes) e)

pub filed_made : FiledMade
filed_made F B filed s low r es A e = filed_onward F B A (written B A) filed (writes_as B (written B) (made B r) es A (made_writes B s low r) e)

pub filed_back : FiledBack
filed_back F B filed s n free = filed_onward F B (taken_back B n) (went_bytes n) filed (back_onward B s n free)

-- Each call on a sane book, and so all.
pub asked_writes : (B : Book) → Sane B → B.plant < 16 → (call : Call) → Writes B (appended B call) (asked B call)
asked_writes B s low (to_make r) = made_writes B s low r
asked_writes B s low (to_take bytes) = take_writes B s bytes
asked_writes B s low (to_take_back n) = back_writes B s n

-- A book by itself does what it does in a world.
pub asked_steps : (B : Book) → Sane B → B.plant < 16 → (call : Call) → Steps B (asked B call)
asked_steps B s low (to_make r) = done_steps [] (λ X i. absurd i) (makes 0 r) B (s, low)
asked_steps B s low (to_take bytes) = done_steps [] (λ X i. absurd i) (takes 0 bytes) B (s, low)
asked_steps B s low (to_take_back n) = done_steps [] (λ X i. absurd i) (takes_back 0 n) B (s, low)
