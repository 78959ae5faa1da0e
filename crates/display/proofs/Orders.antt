-- That the order of a sheet's own lines is the same by its changes alone and by all that a book holds.
-- Assumes nothing.
use Rattle.std.proofs.Common.{◌≡◌, ℕ, List}
use Rattle.std.proofs.lemmas.Bool.Decides.{Decides-like, same_from_decides}
use Rattle.change.specs.Membership.{Within}
use Rattle.change.specs.Model.{Change}
use Rattle.order.specs.Order.{Line}
use Rattle.order.specs.Table.{bef, placed}
use Rattle.order.specs.Fits.{Listed}
use Rattle.order.proofs.Agreement.{agree_within}
use Rattle.order.proofs.Fitting.{listed_sound}
use Rattle.order.proofs.Members.{kept_from}
use Rattle.order.proofs.OneSet.{decided}
use Rattle.blocks.specs.Sheet.{of_sheet}
use Rattle.blocks.proofs.Sheets.{sheet_listed}

module _ (L : List Change) (l : Listed L) (n : ℕ) where
  pub sheet_within : Within (of_sheet n L) L
  sheet_within c i = (kept_from _ L c i).0

  own : Listed (of_sheet n L)
  own = sheet_listed L l n

  pub sheet_order : (u v : ℕ) → Line (of_sheet n L) u → Line (of_sheet n L) v → bef (placed (of_sheet n L)) u v ≡ bef (placed L) u v
  sheet_order u v i j =
      let (to, from) = agree_within (of_sheet n L) L (listed_sound (of_sheet n L) own) (listed_sound L l) sheet_within u v i j in
      same_from_decides _ _ (decided (of_sheet n L) own u v) (Decides-like _ from to (decided L l u v))
