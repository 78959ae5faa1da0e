use Rattle.std.specs.List.{flat_map}
use Rattle.lines.specs.Lines.{numbers_of}
use Rattle.store.specs.Kept.{kept}
use Rattle.display.specs.Added.{added_by, sparing}
use Rattle.display.specs.Gathered.{Gives}
use Rattle.display.proofs.Backwards.{sheet_from}
use Rattle.display.proofs.Sheets.living_lines.Given as goal

abbrev pub invariant-loop-place : goal.invariant-loop-place
invariant-loop-place l = Gives (numbers_of l.self.lines.now) l.living (sparing l.killed.lines.now (flat_map added_by (sheet_from l.sheet.0 (kept l.self.store.now) l.place)))
