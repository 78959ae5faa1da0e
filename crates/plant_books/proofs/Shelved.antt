-- A shelf's changes and lines, as they are lent to be shown.
-- Assumes nothing.
use Rattle.std.proofs.Common.{◌≡◌, sym, subst}
use Rattle.lines.specs.declared.Lines.{Lines}
use Rattle.store.specs.declared.Store.{Store}
use Rattle.shelf.specs.declared.Shelf.{Shelf}
use Rattle.shelf.proofs.Sure.{sane}
use Rattle.display.specs.Held.{Held}

pub shelf_holds : (shelf : Shelf) (store : Store) (lines : Lines) → store ≡ shelf.store → lines ≡ shelf.lines → Held store lines
shelf_holds shelf store lines changes order =
    subst (λ l. Held store l) (sym order) (subst (λ s. Held s shelf.lines) (sym changes) (record { listed = (sane shelf).listed; keeps = (sane shelf).keeps }))
