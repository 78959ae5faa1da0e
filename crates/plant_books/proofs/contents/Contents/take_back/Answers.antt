use Rattle.std.proofs.Common.{sym, ap, ◌∙◌}
use Rattle.plant_books.specs.Answers.{freed}
use Rattle.plant_books.specs.Sane.{model_of}
use Rattle.plant_books.proofs.Back.{back_as_answered, sane_back}
use Rattle.plant_books.proofs.contents.Contents.take_back.Goals as goal

pub returns-then-take_back : goal.returns-then-take_back
returns-then-take_back c =
    let B = model_of c.args.self.now in
    let n = c.args.name.0 in
    let rest = back_as_answered B n c.take_back.result c.take_back.ensures.answer _ c.take_back.ensures.rest in
    record {
      sane = sane_back c.args.self.now c.take_back.new.self n c.requires (c.take_back.ensures.roomy c.requires.whole.to_come) rest;
      answer = ap freed (sym c.if-take_back.true ∙ c.take_back.ensures.answer);
      rest = rest;
    }

pub returns-else-take_back : goal.returns-else-take_back
returns-else-take_back c =
    let B = model_of c.args.self.now in
    let n = c.args.name.0 in
    let rest = back_as_answered B n c.take_back.result c.take_back.ensures.answer _ c.take_back.ensures.rest in
    record {
      sane = sane_back c.args.self.now c.take_back.new.self n c.requires (c.take_back.ensures.roomy c.requires.whole.to_come) rest;
      answer = ap freed (sym c.if-take_back.false ∙ c.take_back.ensures.answer);
      rest = rest;
    }
