use Rattle.std.proofs.Common.{◌||◌, ap, ◌∙◌}
use Rattle.order.specs.Names.{has_name}
use Rattle.plant_books.specs.Sane.{model_of}
use Rattle.plant_books.proofs.Rooms.{found_waits}
use Rattle.plant_books.proofs.contents.Contents.is_known.Goals as goal

pub returns-else-has : goal.returns-else-has
returns-else-has c =
    let B = model_of c.args.self.now in
    c.is_some.ensures
    ∙ found_waits c.args.self.now.waiting c.args.name.0 c.find.result c.find.ensures
    ∙ ap (λ b. b || has_name B.waiting c.args.name.0) c.if-has.ensures
