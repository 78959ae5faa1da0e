use Rattle.std.proofs.Common.{◌≡◌, vec_items}
use Rattle.store.specs.Kept.{kept}
use Rattle.blocks.specs.Sheet.{killed}
use Rattle.display.proofs.Backwards.{sheet_from}
use Rattle.display.proofs.killed.killed_lines.Given as goal

abbrev pub invariant-loop-place : goal.invariant-loop-place
invariant-loop-place l = vec_items l.lines ≡ killed (sheet_from l.sheet.0 (kept l.store) l.place)
