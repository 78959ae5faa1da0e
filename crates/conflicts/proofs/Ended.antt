-- What the ends that were found say of the sheet: a conflict, or that there is none.
-- Assumes nothing.
use Rattle.std.proofs.Common.{◌≡◌, ℕ, List, [], Some, None, vec_items, Option, sym, ap, subst, inl, inr}
use Rattle.std.specs.List.{flat_map}
use Rattle.change.specs.Model.{Change}
use Rattle.table.specs.declared.Table.{Table}
use Rattle.table.specs.Held.{held}
use Rattle.lines.specs.declared.Lines.{Lines}
use Rattle.lines.specs.Lines.{numbers_of}
use Rattle.store.specs.declared.Store.{Store}
use Rattle.blocks.specs.Sheet.{of_sheet, added}
use Rattle.sheet.specs.declared.line.LineAt.{LineAt}
use Rattle.sheet.specs.Lines.{numbers}
use Rattle.settling.specs.Settled as settled
use Rattle.display.specs.declared.gathered.Gathered.{Gathered}
use Rattle.display.specs.Added.{added_by, sparing}
use Rattle.display.specs.Gathered.{Gives}
use Rattle.display.specs.Held.{latest, Held}
use Rattle.display.proofs.Listed.{all_added}
use Rattle.conflicts.specs.declared.leading.Ends.{Ends}
use Rattle.conflicts.specs.Walks.{Walks}
use Rattle.conflicts.specs.Ends.{EndsOf}
use Rattle.conflicts.specs.Found.{NoConflict, HasTexts}
use Rattle.conflicts.proofs.Slots.{listed, gathered_placed, gathered_texts}
use Rattle.conflicts.proofs.Standing.{is_conflict, some_must_lead, no_conflict}

module _ (s : Store) (l : Lines) (h : Held s l) (n : ℕ) (ws : List LineAt) (walks : Walks (of_sheet n (latest s)) (numbers_of l) ws) (g : Gathered) (gives : Gives (numbers_of l) g (sparing [] (flat_map added_by (of_sheet n (latest s))))) where
  abbrev T : List Change
  T = of_sheet n (latest s)

  abbrev ls : List LineAt
  ls = vec_items g.lines

  whole : numbers ls ≡ added T
  whole = all_added (numbers_of l) T (listed s l h n) g gives

  pub has_texts : HasTexts T g
  has_texts = record { lines = whole; texts = gathered_texts s l h n [] g gives; inside = gives.inside }

  no_ends : (order : List ℕ) → EndsOf (held l.table) ws ls order None → NoConflict T order
  no_ends order (inl none) = no_conflict s l h n ws walks.here walks.walked order none
  no_ends order (inr (start, end, block, none)) =
      absurd (some_must_lead s l h n ws walks.here walks.walked start end block.block ls (gathered_placed s l h n [] g gives) block.long whole none)

  ends : (order : List ℕ) (e : Ends) → EndsOf (held l.table) ws ls order (Some e) → settled.Conflict T order e.after.0 e.before.0
  ends order e (start, end, block, (at, leading)) =
      subst (settled.Conflict T order e.after.0) (ap (λ u. u.0) (sym at))
      (is_conflict s l h n ws walks.here walks.walked start end block.block ls (gathered_placed s l h n [] g gives) order block.long block.same e.after.0 leading)

  -- the same of a table and of lines as they are lent
  module _ (t : Table) (vs ks : List LineAt) (order : List ℕ) (at_table : t ≡ l.table) (at_walk : vs ≡ ws) (at_lines : ks ≡ ls) where
    as_kept : (o : Option Ends) → EndsOf (held t) vs ks order o → EndsOf (held l.table) ws ls order o
    as_kept o f = subst (λ x. EndsOf (held x) ws ls order o) at_table (subst (λ x. EndsOf (held t) x ls order o) at_walk (subst (λ x. EndsOf (held t) vs x order o) at_lines f))

    pub none_found : EndsOf (held t) vs ks order None → NoConflict T order
    none_found f = no_ends order (as_kept None f)

    pub one_found : (e : Ends) → EndsOf (held t) vs ks order (Some e) → settled.Conflict T order e.after.0 e.before.0
    one_found e f = ends order e (as_kept (Some e) f)
