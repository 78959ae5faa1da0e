use Rattle.std.proofs.Common.{◌≡◌, length, ap, ◌∙◌, arith}
use Rattle.change.specs.Viewed.{viewed}
use Rattle.history.specs.Taking.{after}
use Rattle.plant_books.specs.Sane.{model_of}
use Rattle.plant_books.proofs.Verdicts.{nothing_tried, then_tried, taken_sane}
use Rattle.plant_books.proofs.contents.Contents.take.Goals as goal

pub push_reserved-requires : goal.push_reserved-requires
push_reserved-requires c = omega (arith, c.requires.room)

pub settle-requires : goal.settle-requires
settle-requires c =
    let same : length (model_of c.receive-outcome.new.self).waiting ≡ length (model_of c.args.self.now).waiting =
    ap (λ A. length A.waiting) (c.receive-outcome.ensures.came ∙ ap (λ o. after o (model_of c.args.self.now) (viewed c.args.view.now)) c.in-Taken.is) in
    record { whole = c.receive-outcome.ensures.whole; room = omega (arith, same, c.requires.room, c.push_reserved.ensures.len, c.push_reserved.ensures.capacity) }

pub returns-in_default : goal.returns-in_default
returns-in_default c =
    let B = model_of c.args.self.now in
    let d = viewed c.args.view.now in
    let took = nothing_tried B d c.requires.sane.model c.args.view.now.well _ c.receive-outcome.ensures.outcome c.in_default.not-Taken _ _ c.push_reserved.ensures.items _ c.receive-outcome.ensures.came in
    record {
      sane = record { whole = c.receive-outcome.ensures.whole; model = taken_sane B d c.requires.sane.model c.args.view.now.well _ _ _ took };
      took = took;
      capacity = c.push_reserved.ensures.capacity;
    }

pub returns-in-Taken : goal.returns-in-Taken
returns-in-Taken c =
    let B = model_of c.args.self.now in
    let d = viewed c.args.view.now in
    let took =
    then_tried B d c.requires.sane.model c.args.view.now.well _ c.in-Taken.is c.receive-outcome.ensures.outcome _ _ c.push_reserved.ensures.items _ c.receive-outcome.ensures.came _ c.settle.ensures.settled in
    record {
      sane = record { whole = c.settle.ensures.whole; model = taken_sane B d c.requires.sane.model c.args.view.now.well _ _ _ took };
      took = took;
      capacity = c.settle.ensures.capacity ∙ c.push_reserved.ensures.capacity;
    }
