-- What tests say: of each member of a list, and where one follows from another.
-- Assumes nothing.
use Rattle.std.proofs.Common.{◌≡◌, Bool, true, false, not, ◌||◌, List, Decides, refl}
use Rattle.std.proofs.lemmas.Bool.{false≢true}
use Rattle.std.specs.List.{list_all}
use Rattle.change.specs.Membership.{In}
use Rattle.order.proofs.Deciding.{decides_itself, decides_every}

pub decides_each : {X : Type 0} (test : X → Bool) (xs : List X) → Decides (list_all test xs) ((x : X) → In x xs → test x ≡ true)
decides_each test xs = decides_every test (λ x. test x ≡ true) (λ x. decides_itself (test x)) xs

pub decides_follows : (x y : Bool) → Decides (not x || y) (x ≡ true → y ≡ true)
decides_follows true y = (λ h e. h, λ f. f refl)
decides_follows false y = (λ h e. absurd (false≢true e), λ f. refl)

pub or_more : (x y z : Bool) → (y ≡ true → z ≡ true) → (x || y) ≡ true → (x || z) ≡ true
or_more true y z f h = refl
or_more false y z f h = f h
