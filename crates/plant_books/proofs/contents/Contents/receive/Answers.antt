use Rattle.std.proofs.Common.{◌≡◌, true, false, sym, refl, ap, ◌∙◌, arith}
use Rattle.std.proofs.lemmas.Bool.{lt-ltb, or_parts}
use Rattle.change.specs.Viewed.{viewed}
use Rattle.history.specs.Book.{Book, wait_limit, wait}
use Rattle.history.specs.declared.Outcome.TheVariants.{Waits}
use Rattle.history.proofs.Outcomes.{admitted_not_waits}
use Rattle.plant_books.specs.Sane.{model_of}
use Rattle.plant_books.proofs.Counts.{still_counted}
use Rattle.plant_books.proofs.Rooms.{roomy_still, room_to_wait}
use Rattle.plant_books.proofs.Verdicts.{verdict_by_tests, received_orderly}
use Rattle.plant_books.proofs.Trying.{admission_is, parts_are_after}
use Rattle.plant_books.proofs.contents.Contents.receive.Goals as goal

pub admit_in_room-outcome-requires : goal.admit_in_room-outcome-requires
admit_in_room-outcome-requires c = record { roomy = c.requires.whole.to_come; ready = sym c.if-needs_here.ensures; new = (or_parts _ _ (sym c.if-is_known.ensures)).0 }

pub returns-then-is_known : goal.returns-then-is_known
returns-then-is_known c =
    let B = model_of c.args.self.now in
    let d = viewed c.args.view.now in
    record { whole = c.requires.whole; outcome = verdict_by_tests B d true _ _ (sym c.if-is_known.ensures) refl refl; came = refl }

pub returns-then-needs_here : goal.returns-then-needs_here
returns-then-needs_here c =
    let B = model_of c.args.self.now in
    let d = viewed c.args.view.now in
    let o = c.admit_in_room-outcome.result in
    let (told, changed) = c.admit_in_room-outcome.ensures.admitted in
    let outcome = told ∙ admission_is B d in
    let answer = outcome ∙ verdict_by_tests B d false true _ (sym c.if-is_known.ensures) (sym c.if-needs_here.ensures) refl in
    let came = parts_are_after B d o (λ e. admitted_not_waits B d (sym outcome ∙ e)) _ c.highest_after-self.ensures _ changed in
    record {
      whole = record {
        counted = still_counted o B.plant d c.args.view.now.well _ c.requires.whole.counted _ c.highest_after-self.ensures;
        to_come = c.admit_in_room-outcome.ensures.roomy;
        to_wait = c.requires.whole.to_wait;
        orderly = received_orderly B d c.requires.model c.args.view.now.well o answer _ came;
      };
      outcome = answer;
      came = came;
    }

pub push_in_room-requires : goal.push_in_room-requires
push_in_room-requires c = room_to_wait c.args.self.now.waiting c.requires.whole.to_wait (omega (arith, c.len.ensures)) (viewed c.args.view.now) c.args.view.now.well

pub returns : goal.returns
returns c =
    let B = model_of c.args.self.now in
    let d = viewed c.args.view.now in
    let answer = verdict_by_tests B d false false true (sym c.if-is_known.ensures) (sym c.if-needs_here.ensures) (lt-ltb _ wait_limit (omega (arith, c.len.ensures))) in
    let came : ◌≡◌ {A = Book} _ (wait B d) = ap (λ W. record { plant = B.plant; highest = B.highest; changes = B.changes; waiting = W }) c.push_in_room.ensures.pushed in
    record {
      whole = record {
        counted = c.requires.whole.counted;
        to_come = c.requires.whole.to_come;
        to_wait = roomy_still c.args.self.now.waiting c.push_in_room.new.self c.push_in_room.ensures.room c.requires.whole.to_wait;
        orderly = received_orderly B d c.requires.model c.args.view.now.well Waits answer _ came;
      };
      outcome = answer;
      came = came;
    }
