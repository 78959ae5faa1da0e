-- The bytes of a change, read whole, are a view of that change.
-- Assumes nothing.
use Rattle.std.proofs.Common.{◌≡◌, ℕ, zero, suc, Bool, true, List, [], ◌∷◌, IfSome, Some, None, Ok, Err, Option, Result, sym, ap, ◌∙◌, arith}
use Rattle.std.specs.List.{slice_get, list_all}
use Rattle.std.specs.Option.{option_map}
use Rattle.std.specs.Result.{result_ok}
use Rattle.change.specs.declared.refusal.Refusal.{Refusal}
use Rattle.change.specs.declared.view.ChangeView.{ChangeView}
use Rattle.change.specs.Bytes.{change_bytes}
use Rattle.change.specs.Model.{Change}
use Rattle.change.specs.Viewed.{viewed, WholeRead}
use Rattle.change.specs.WellFormed.{well_formed}
use Rattle.change.proofs.Codec.{change_has_one_string}
use Rattle.change.proofs.Tests.{and_true}

nth_passes : {X : Type 0} (test : X → Bool) (xs : List X) (i : ℕ) → list_all test xs ≡ true → IfSome (slice_get xs i) (λ x. test x ≡ true)
nth_passes test [] i h = tt
nth_passes test (x ∷ xs) zero h = (and_true (test x) (list_all test xs) h).0
nth_passes test (x ∷ xs) (suc i) h = nth_passes test xs i (and_true (test x) (list_all test xs) h).1

view_shows : (o : Option Change) (bytes : List ℕ) (r : Result ChangeView Refusal) →
    IfSome o (λ c. well_formed c ≡ true) → Some bytes ≡ option_map change_bytes o → WholeRead bytes r → option_map viewed (result_ok r) ≡ o
view_shows None bytes r well same read = let z : ◌≡◌ {A = ℕ} 0 1 = cc in absurd (omega arith)
view_shows (Some c) bytes (Ok v) well same read =
    let mine : bytes ≡ change_bytes c = cc in
    ap Some (change_has_one_string (viewed v) c v.well well (sym read ∙ mine))
view_shows (Some c) bytes (Err e) well same read = let mine : bytes ≡ change_bytes c = cc in absurd (read.1 c well mine)

pub view_at : (cs : List Change) → list_all well_formed cs ≡ true → (i : ℕ) (bytes : List ℕ) (r : Result ChangeView Refusal) → Some bytes ≡ option_map change_bytes (slice_get cs i) → WholeRead bytes r →
    option_map viewed (result_ok r) ≡ slice_get cs i
view_at cs formed i bytes r same read = view_shows (slice_get cs i) bytes r (nth_passes well_formed cs i formed) same read
