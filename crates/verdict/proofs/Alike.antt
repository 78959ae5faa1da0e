-- That the tests depend on the set of changes alone.
-- Assumes nothing.
use Rattle.std.proofs.Common.{◌≡◌, Bool, true, ◌&&◌, List, [], Decides, ap, ap₂}
use mathlib.Core.Path.{fun_ext}
use Rattle.std.proofs.lemmas.Bool.Decides.{Decides-like, same_from_decides}
use Rattle.std.specs.List.{list_all, list_any}
use Rattle.change.specs.Membership.{In, SameMembers}
use Rattle.change.specs.Model.{Change, bringer}
use Rattle.order.specs.Names.{has_name}
use Rattle.order.specs.Order.{puts}
use Rattle.order.proofs.Deciding.{decides_itself, decides_every, decides_some}
use Rattle.order.proofs.OneSet.{set_alone}
use Rattle.verdict.specs.FromNeeds.{is_among, adds_line, from_needs}
use Rattle.verdict.specs.Verdict.{all_named, all_ordered}
use Rattle.verdict.specs.Theorems.{FitsAlike}

module _ {X : Type 0} (test : X → Bool) (xs ys : List X) (m : SameMembers xs ys) where
  every_alike : list_all test xs ≡ list_all test ys
  every_alike = same_from_decides _ _ (each xs) (Decides-like _ (λ h x i. h x (m.0 x i)) (λ h x i. h x (m.1 x i)) (each ys))
    where
      each : (zs : List X) → Decides (list_all test zs) ((x : X) → In x zs → test x ≡ true)
      each = decides_every test (λ x. test x ≡ true) (λ x. decides_itself (test x))

  some_alike : list_any test xs ≡ list_any test ys
  some_alike = same_from_decides _ _ (one xs) (Decides-like _ (λ (x, i, t). (x, m.1 x i, t)) (λ (x, i, t). (x, m.0 x i, t)) (one ys))
    where
      one : (zs : List X) → Decides (list_any test zs) ((x : X) × In x zs × (test x ≡ true))
      one = decides_some test (λ x. test x ≡ true) (λ x. decides_itself (test x))

module _ (L M : List Change) (m : SameMembers L M) where
  has_name_alike : has_name L ≡ has_name M
  has_name_alike = fun_ext (λ n. some_alike _ L M m)

  from_needs_alike : (c : Change) → from_needs L c ≡ from_needs M c
  from_needs_alike c = fun_ext (λ u. ap (λ b. is_among (bringer u) c.needs && b) (some_alike (λ d. adds_line d u) L M m))

pub fits_alike : FitsAlike
fits_alike L M m c = (
  ap (λ has. has c.name) (has_name_alike L M m),
  ap (λ has. list_all has c.needs) (has_name_alike L M m),
  ap₂ (λ sheet from. sheet && (all_named from [] (puts c) && list_all from c.kills)) (every_alike _ L M m) (from_needs_alike L M m c),
  λ l k. ap (λ R. all_ordered R (puts c)) (fun_ext (λ u. fun_ext (set_alone L M l k m u))),
)
