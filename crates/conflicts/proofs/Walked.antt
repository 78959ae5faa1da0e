-- The walk through the living lines of a sheet: each stands in its slot, and they come as the theory's walk has them.
-- Assumes nothing.
use Rattle.std.proofs.Common.{◌≡◌, ℕ, Bool, List, length, vec_items, sym, ap, ◌∙◌, subst, ap₂}
use Rattle.std.specs.List.{flat_map}
use Rattle.std.proofs.lemmas.List.{length-map}
use Rattle.change.specs.Membership.{In, Within}
use Rattle.order.specs.Table.{bef, placed}
use Rattle.table.specs.declared.Table.{Table}
use Rattle.table.specs.Held.{held}
use Rattle.lines.specs.declared.Lines.{Lines}
use Rattle.lines.specs.Lines.{numbers_of}
use Rattle.store.specs.declared.Store.{Store}
use Rattle.blocks.specs.Function.{walk}
use Rattle.blocks.specs.Sheet.{of_sheet, unkilled, living}
use Rattle.sheet.specs.declared.line.LineAt.{LineAt}
use Rattle.sheet.specs.Lines.{numbers, Orders}
use Rattle.display.specs.declared.gathered.Gathered.{Gathered}
use Rattle.display.specs.Added.{added_by, spared, sparing}
use Rattle.display.specs.Gathered.{Gives}
use Rattle.display.specs.Held.{latest, Held}
use Rattle.display.proofs.Shown.{all_living, in_order}
use Rattle.conflicts.specs.Walks.{Walks}
use Rattle.conflicts.proofs.Slots.{gathered_placed}

pub walks_living :
    (s : Store) (l : Lines) (h : Held s l) (n : ℕ) (ks : List ℕ) (g : Gathered) → ((u : ℕ) → spared ks u ≡ unkilled (of_sheet n (latest s)) u) →
    Gives (numbers_of l) g (sparing ks (flat_map added_by (of_sheet n (latest s)))) →
    (t : Table) (ls ws : List LineAt) → t ≡ l.table → ls ≡ vec_items g.lines → Within ws ls →
    ((before : ℕ → ℕ → Bool) → Orders (held t) ls before → numbers ws ≡ walk before (length ls) (numbers ls)) → Walks (of_sheet n (latest s)) (numbers_of l) ws
walks_living s l h n ks g same gives t ls ws at_table at_lines only is =
    let before = bef (placed (of_sheet n (latest s))) in
    let all : numbers ls ≡ living (of_sheet n (latest s)) = ap numbers at_lines ∙ all_living s l h n ks g same gives in
    record {
      here = λ a i. gathered_placed s l h n ks g gives a (subst (In a) at_lines (only a i));
      walked =
          is before (subst (λ x. Orders (held x) ls before) (sym at_table) (subst (λ x. Orders (held l.table) x before) (sym at_lines) (in_order s l h n ks g same gives)))
          ∙ ap₂ (walk before) (sym (length-map ls (λ a. a.number.0)) ∙ ap length all) all;
    }
