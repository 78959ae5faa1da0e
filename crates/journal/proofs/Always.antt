-- Along every list of calls the file is that of the book, and any front of it that has all that was synced opens to a book of a moment since.
-- Steady m: the book of the moment m is sane, of a plant that names have room for, and the file is its file.
-- Assumes nothing.
use Rattle.std.proofs.Common.{◌≡◌, ℕ, ◌+◌, ◌-◌, ◌<◌, ◌≤◌, List, [], ◌∷◌, ◌++◌, length, take, Ok, Err, sym, refl, ap, ◌∙◌, append_assoc, append-nil, arith, length-append}
use lib.Seq.{take-append-add}
use Rattle.history.specs.Book.{Book, empty}
use Rattle.history.specs.Sane.{Sane}
use Rattle.history.proofs.Taking.{sane_empty}
use Rattle.world.specs.Calls.{Done}
use Rattle.world.proofs.Steps.{Steps}
use Rattle.journal.specs.Record.{Record, records_bytes}
use Rattle.journal.specs.Opening.{opened, of_file, Filed}
use Rattle.journal.specs.Calls.{Call, asked, appended, Moment, concluded, called, called_all, begun}
use Rattle.journal.specs.Theorems.{EndsBeyond, Recovered, FiledAlways, CrashLeavesAMoment}
use Rattle.journal.proofs.Filing.{Held, Onward, Writes, onward_none, onward_then, filed_empty, filed_held, filed_onward, asked_writes, asked_steps}
use Rattle.journal.proofs.Fronts.{front_opens}
use Rattle.journal.proofs.Opening.{opens_exactly}
use Rattle.journal.proofs.Replaying.{replays_then, formed_joined, bytes_joined}

pub record Steady (m : Moment) : Type 0 where
  pub sane : Sane m.book
  pub low : m.book.plant < 16
  pub filed : Filed m.file m.book

-- what is written on the way from one moment to a later one
abbrev pub Later : Moment → Moment → Type 0
Later m n = Steady n × ((bytes : List ℕ) × (n.file ≡ m.file ++ bytes) × Onward m.book n.book bytes)

later_same : (m : Moment) → Steady m → Later m m
later_same m s = (s, ([], sym (append-nil m.file), onward_none m.book))

called_later : (m : Moment) → Steady m → (call : Call) → Later m (called m call)
called_later m s call = go (asked m.book call) (asked_steps m.book s.sane s.low call) (asked_writes m.book s.sane s.low call)
  where
    go : (d : Done) → Steps m.book d → Writes m.book (appended m.book call) d → Later m (concluded m call d)
    go (Ok (es, A)) step on = (
      record { sane = step.sane; low = rw step.plant s.low; filed = filed_onward m.file m.book A (appended m.book call A) s.filed on },
      (appended m.book call A, refl, on),
    )
    go (Err e) step on = later_same m s

pub all_later : (m : Moment) → Steady m → (calls : List Call) → Later m (called_all m calls)
all_later m s [] = later_same m s
all_later m s (call ∷ calls) =
    let (s', (b, e, on)) = called_later m s call in
    let (s'', (c, f, more)) = all_later (called m call) s' calls in
    (s'', (b ++ c, f ∙ ap (λ l. l ++ c) e ∙ append_assoc m.file b c, onward_then m.book (called m call).book (called_all (called m call) calls).book b c on more))

pub begun_steady : (plant : ℕ) → plant < 16 → Steady (begun plant)
begun_steady plant low = record { sane = sane_empty plant; low = low; filed = filed_empty plant }

pub filed_always : FiledAlways
filed_always plant low calls = (all_later (begun plant) (begun_steady plant low) calls).0.filed

cut_behind : (F later : List ℕ) (k : ℕ) → length F ≤ k → take k (F ++ later) ≡ F ++ take (k - length F) later
cut_behind F later k enough = let e : k ≡ length F + (k - length F) = omega arith in ap (λ n. take n (F ++ later)) e ∙ take-append-add F later (k - length F)

-- Bytes behind a file of B are opened as they are from what the file has of B.
opens_on_from :
    (F : List ℕ) (B : Book) (rs : List Record) → Held F B rs → (bytes : List ℕ) (n : ℕ) (M : Book) → opened (of_file B) bytes ≡ (Ok n, M) →
    opened (empty B.plant) (F ++ bytes) ≡ (Ok (length F + n), M)
opens_on_from F B rs h bytes n M e =
    let o = (opens_exactly (of_file B) bytes (Ok n) M).0 e in
    let joint = bytes_joined rs o.records in
    let size = length-append (records_bytes rs) (records_bytes o.records) in
    let all = ap length h.bytes in
    let sizes = ap length joint in
    (opens_exactly (empty B.plant) (F ++ bytes) (Ok (length F + n)) M).1 (record {
      records = rs ++ o.records;
      rest = o.rest;
      formed = formed_joined rs o.records h.formed o.formed;
      whole =
          (λ i. h.bytes i ++ o.whole i) ∙ sym (append_assoc (records_bytes rs) (records_bytes o.records) o.rest)
          ∙ ap (λ l. l ++ o.rest) (sym joint);
      replays = replays_then (empty B.plant) (of_file B) M rs o.records h.replays o.replays;
      stops = (omega (arith, o.stops.0), o.stops.1);
    })

pub recovered : (F : List ℕ) (B : Book) (later : List ℕ) (A : Book) → Filed F B → Onward B A later → (k : ℕ) → length F ≤ k → Recovered F B later A k
recovered F B later A filed on k enough =
    let (rs, h) = filed_held F B filed in
    let j = k - length F in
    let f = front_opens (of_file B) (of_file A) on.records on.formed on.replays j in
    record {
      front = f.front;
      back = f.back;
      parts = on.same ∙ ap records_bytes f.parts;
      middle = f.middle;
      first = f.first;
      then = f.then;
      opens = ap (opened (empty B.plant)) (cut_behind F later k enough) ∙ opens_on_from F B rs h (take j later) (length (records_bytes f.front)) f.middle (ap (λ l. opened (of_file B) (take j l)) on.same ∙ f.opens);
      inside = omega (arith, f.inside);
      beyond = beyond f.front f.back f.beyond;
    }
  where
    beyond : (front back : List Record) → EndsBeyond (k - length F) (length (records_bytes front)) back → EndsBeyond k (length F + length (records_bytes front)) back
    beyond front [] h = tt
    beyond front (r ∷ back) h = omega arith

pub crash_leaves_a_moment : CrashLeavesAMoment
crash_leaves_a_moment plant low before after =
    let (s, _) = all_later (begun plant) (begun_steady plant low) before in
    let (_, (later, e, on)) = all_later (called_all (begun plant) before) s after in
    (later, e, λ k enough. recovered (called_all (begun plant) before).file (called_all (begun plant) before).book later (called_all (called_all (begun plant) before) after).book s.filed on k enough)
