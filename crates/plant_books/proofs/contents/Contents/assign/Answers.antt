use Rattle.std.proofs.Common.{sym, refl, ◌∙◌, subst}
use Rattle.history.specs.Sane as histories
use Rattle.history.proofs.Taking.{sane_empty}
use Rattle.plant_books.specs.Sane.{model_of}
use Rattle.plant_books.proofs.Blanks.{blank_is_empty}
use Rattle.plant_books.proofs.contents.Contents.assign.Goals as goal

pub returns-then-not-is_blank : goal.returns-then-not-is_blank
returns-then-not-is_blank c = record { sane = c.requires; answer = sym c.if-not-is_blank.true ∙ c.is_blank.ensures; book = refl }

pub returns : goal.returns
returns c =
    let B = model_of c.args.self.now in
    let p = c.args.plant.number in
    let is = blank_is_empty B (sym c.is_blank.ensures ∙ c.if-not-is_blank.false) p in
    let model = subst histories.Sane (sym is) (sane_empty p) in
    record {
      sane = record {
        whole = record { to_come = c.requires.whole.to_come; to_wait = c.requires.whole.to_wait; orderly = model.orderly; counted = c.requires.whole.counted };
        model = model;
      };
      answer = sym c.if-not-is_blank.false ∙ c.is_blank.ensures;
      book = is;
    }
