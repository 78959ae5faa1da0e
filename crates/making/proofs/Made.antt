-- What holds of a change that was made: it fits, its name is new, and the book has it.
-- Assumes nothing.
use Rattle.std.proofs.Common.{◌≡◌, List, sym, refl, ap, subst, inl, inr}
use Rattle.change.specs.Membership.{In}
use Rattle.order.specs.Fits.{Fits}
use Rattle.history.specs.declared.Outcome.TheVariants.{Taken}
use Rattle.history.specs.declared.Event.{Event}
use Rattle.history.specs.Book.{Book, next_name}
use Rattle.history.specs.Taking.{event, verdict, take}
use Rattle.history.specs.Sane.{Sane}
use Rattle.history.specs.Theorems.{New}
use Rattle.history.proofs.Counts.{next_is_new}
use Rattle.history.proofs.Taking.{sane_take, came_in, events_of_waiting}
use Rattle.making.specs.Making.{change_for}
use Rattle.making.specs.Theorems.{MadeFits, MadeNameIsNew, MadeComesIn}
use Rattle.making.proofs.Lowest.{made_none_holds}
use Rattle.making.proofs.Fitting.{fits_book, is_taken}

pub made_fits : MadeFits
made_fits B s low r c p =
    let (none, same) = made_none_holds B r (change_for B r) c p in
    subst (λ d. Fits B.changes d × (verdict B d ≡ Taken)) same (fits_book B s low r none, is_taken B s low r none)

pub made_name_is_new : MadeNameIsNew
made_name_is_new B s low r c p = subst (New B) (made_none_holds B r (change_for B r) c p).1 (next_is_new B s low)

pub made_comes_in : MadeComesIn
made_comes_in B s low r es A p =
    let (none, same) = made_none_holds B r (take B (change_for B r)) (es, A) p in
    let formed = (fits_book B s low r none).formed in
    let (more, first, _) = events_of_waiting B s (change_for B r) formed in
    let said : In (event (next_name B) Taken) (take B (change_for B r)).0 = subst (In (event (next_name B) Taken)) (sym first) (inl (ap (event (next_name B)) (sym (is_taken B s low r none)))) in
    subst (λ (q : List Event × Book). In (change_for B r) q.1.changes × In (event (next_name B) Taken) q.0 × Sane q.1) same
    ((came_in B s (change_for B r) formed (change_for B r)).1 (inr (inl refl, said)), said, sane_take B s (change_for B r) formed)
