-- What a book shows: as if a change that was taken back had never come, and the same as any other book with its changes.
-- Assumes nothing.
use Rattle.std.proofs.Common.{sym, subst}
use Rattle.std.proofs.lemmas.Bool.{cond-true, eqb-false, ne_eqb, not-true, not_from_false}
use Rattle.change.specs.Membership.{SameMembers}
use Rattle.order.specs.Theorems.{without}
use Rattle.order.proofs.Members.{kept_from, kept_has}
use Rattle.blocks.specs.Theorems.{ShownOneWay}
use Rattle.history.specs.Taking.{taken_back, take_back}
use Rattle.history.specs.Theorems.{AsIfNever, SameBytes}
use Rattle.history.proofs.Back.{sane_take_back}

module _ (one_way : ShownOneWay) where
  pub same_bytes : SameBytes
  same_bytes A B a b = one_way A.changes B.changes a.orderly.listed b.orderly.listed

  pub as_if_never : AsIfNever
  as_if_never B s n free M listed others =
      one_way (take_back B n).changes M (sane_take_back B s n).orderly.listed listed
      (subst (λ A. SameMembers A.changes M) (sym (cond-true _ (taken_back B n) B free)) same)
    where
      same : SameMembers (without n B.changes) M
      same = (
        λ d i. let (j, t) = kept_from _ B.changes d i in (others d).1 (j, eqb-false _ _ (not-true _ t)),
        λ d i. let (j, ne) = (others d).0 i in kept_has _ B.changes d j (not_from_false _ (ne_eqb _ _ ne)),
      )
