-- A store is whole exactly where the bytes in use are those of the changes that it keeps, since reading changes is exact.
-- Assumes nothing.
use Rattle.std.proofs.Common.{◌≡◌, ℕ, true, ◌&&◌, List, [], ◌∷◌, length, take, Ok, sym, refl, ap, ◌∙◌, append-nil, arith}
use Rattle.std.specs.List.{flat_map, list_all}
use Rattle.change.specs.Bytes.{change_bytes}
use Rattle.change.specs.Model.{Change}
use Rattle.change.specs.Reading.{change_of}
use Rattle.change.specs.WellFormed.{well_formed}
use Rattle.change.proofs.Exact.{Exact}
use Rattle.change.proofs.Parts.{chained, several_exact}
use Rattle.change.proofs.Whole.{change_exact}
use Rattle.store.specs.declared.Store.{Store}
use Rattle.store.specs.declared.entry.Entry.{Entry}
use Rattle.store.specs.Entries.{entries_from}
use Rattle.store.specs.InUse.{changes_of, values_of, kept_in}
use Rattle.store.specs.Kept.{entries_of, kept, IsWhole, Whole}
use Rattle.store.specs.Laid.{Laid}
use Rattle.store.proofs.Entries.{length_entries}

every_is_chained : (cs : List Change) → list_all well_formed cs ≡ chained (λ _. well_formed) (λ _. 0) 0 cs
every_is_chained [] = refl
every_is_chained (c ∷ cs) = ap (λ b. well_formed c && b) (every_is_chained cs)

changes_exact : (n : ℕ) → Exact (changes_of n) (flat_map change_bytes) (λ cs. (length cs ≡ n) × (chained (λ _. well_formed) (λ _. 0) 0 cs ≡ true))
changes_exact n = several_exact (λ _. change_of) change_bytes (λ _. well_formed) (λ _. 0) (λ _. change_exact) n 0

pub whole : (s : Store) → Whole s
whole s = record { inside = s.inside; reads = s.reads; entries = s.marked }

pub whole_lies : {area : List ℕ} {used : ℕ} {marks : List Entry} → IsWhole area used marks → Laid area used marks (kept_in (take used area) (length marks))
whole_lies {area} {used} {marks} w =
    let cs = kept_in (take used area) (length marks) in
    let read = (changes_exact (length marks)).reads (take used area) cs [] w.reads in
    record { inside = (let i = w.inside in omega arith); formed = every_is_chained cs ∙ read.0.1; bytes = read.1 ∙ append-nil (flat_map change_bytes cs); marked = w.entries }

pub whole_is_laid : (s : Store) → Laid s.area.now s.used (entries_of s) (kept s)
whole_is_laid s = whole_lies (whole s)

module _ {area : List ℕ} {used : ℕ} {entries : List Entry} {cs : List Change} (laid : Laid area used entries cs) where
  reads_laid : changes_of (length entries) (take used area) ≡ Ok (cs, [])
  reads_laid =
      ap (changes_of (length entries)) (laid.bytes ∙ sym (append-nil (flat_map change_bytes cs)))
      ∙ (changes_exact (length entries)).writes cs [] (sym (ap length laid.marked ∙ length_entries 0 cs), sym (every_is_chained cs) ∙ laid.formed)

  pub laid_is_kept : kept_in (take used area) (length entries) ≡ cs
  unfolding kept_in
  laid_is_kept = ap values_of reads_laid

  pub laid_reads : changes_of (length entries) (take used area) ≡ Ok (kept_in (take used area) (length entries), [])
  laid_reads = reads_laid ∙ ap (λ l. Ok (l, [])) (sym laid_is_kept)

  pub laid_marked : entries ≡ entries_from 0 (kept_in (take used area) (length entries))
  laid_marked = laid.marked ∙ ap (entries_from 0) (sym laid_is_kept)

  pub laid_is_whole : IsWhole area used entries
  laid_is_whole = record { inside = (let i = laid.inside in omega arith); reads = laid_reads; entries = laid_marked }
