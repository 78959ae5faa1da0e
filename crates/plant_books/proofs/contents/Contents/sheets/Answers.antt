use Rattle.plant_books.proofs.Shelved.{shelf_holds}
use Rattle.plant_books.proofs.contents.Contents.sheets.Goals as goal

pub invariant_of-result : goal.invariant_of-result
invariant_of-result c = record { held = ∣ shelf_holds c.args.self.now.shelf c.store.result.now c.lines.result.now c.store.ensures c.lines.ensures ∣₁ }
