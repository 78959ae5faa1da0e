use Rattle.std.proofs.Common.{◌≡◌, sym, ap, ◌∙◌, subst}
use Rattle.change.specs.Viewed.{viewed}
use Rattle.history.specs.Sane.{Orderly}
use Rattle.history.specs.Taking.{event, admitted}
use Rattle.history.proofs.Lowest.{next_waits}
use Rattle.plant_books.specs.Sane.{model_of}
use Rattle.plant_books.proofs.Trying.{admission_is, next_is_new, tried_orderly, parts_are_tried, the_next, waits_without_it}
use Rattle.plant_books.proofs.Counts.{still_counted}
use Rattle.plant_books.proofs.Rooms.{roomy_still}
use Rattle.plant_books.proofs.contents.Contents.try_next.Goals as goal

pub admit_in_room-outcome-requires : goal.admit_in_room-outcome-requires
admit_in_room-outcome-requires c =
    let B = model_of c.args.self.now in
    let d = viewed c.in_ok-view.view in
    let next = the_next B c.in_ok-place.place d c.in_ok-place.ensures c.in_ok-view.ensures in
    record { roomy = c.requires.to_come; ready = (next_waits B d next).1; new = next_is_new B c.requires.orderly d next }

pub returns : goal.returns
returns c =
    let B = model_of c.args.self.now in
    let d = viewed c.in_ok-view.view in
    let p = c.in_ok-place.place in
    let here = c.in_ok-view.ensures in
    let next = the_next B p d c.in_ok-place.ensures here in
    let o = c.admit_in_room-outcome.result in
    let (told, changed) = c.admit_in_room-outcome.ensures.admitted in
    let outcome : o ≡ admitted B d = told ∙ admission_is B d in
    let gone = waits_without_it B.waiting p d here c.requires.orderly.distinct c.remove.result c.remove.ensures.answer _ c.remove.ensures.removed in
    let after = parts_are_tried B c.requires.orderly d next o outcome _ c.highest_after-self.ensures _ changed _ gone in
    record {
      whole = record {
        counted = still_counted o B.plant d c.in_ok-view.view.well _ c.requires.counted _ c.highest_after-self.ensures;
        to_come = c.admit_in_room-outcome.ensures.roomy;
        to_wait = roomy_still c.args.self.now.waiting c.remove.new.self c.remove.ensures.room c.requires.to_wait;
        orderly = subst Orderly (sym after) (tried_orderly B c.requires.orderly d next);
      };
      tried = (d, next, ap (event d.name) outcome, after);
    }
