-- The bytes of a change read as that change.
-- Assumes nothing.
use Rattle.std.proofs.Common.{◌≡◌, ℕ, true, List, IsOk, Ok, Err, Result, refl, ap}
use Rattle.change.specs.declared.refusal.Refusal.{Refusal}
use Rattle.change.specs.declared.view.ChangeView.{ChangeView}
use Rattle.change.specs.Bytes.{change_bytes}
use Rattle.change.specs.Model.{Change}
use Rattle.change.specs.Viewed.{WholeRead}
use Rattle.change.specs.WellFormed.{well_formed}
use Rattle.change.proofs.Codec.{whole_is_read}
use Rattle.letters.specs.ChangeRead.{value_of, change_read}

module _ (bytes : List ℕ) where
  pub its_change : (c : Change) → well_formed c ≡ true → bytes ≡ change_bytes c → change_read bytes ≡ c
  unfolding change_read
  its_change c formed same = ap value_of (whole_is_read bytes c formed same)

  pub is_read : (c : Change) → well_formed c ≡ true → bytes ≡ change_bytes c → (r : Result ChangeView Refusal) → WholeRead bytes r → IsOk r
  is_read c formed same (Ok v) read = refl
  is_read c formed same (Err e) read = absurd (read.1 c formed same)
