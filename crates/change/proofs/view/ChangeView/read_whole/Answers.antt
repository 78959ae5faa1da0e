use Rattle.std.proofs.Common.{refl, ap, ◌∙◌, true-eqb, false-eqb}
use Rattle.change.specs.Cursor.{left}
use Rattle.change.specs.Reading.{change_of}
use Rattle.change.specs.Viewed.{viewed}
use Rattle.change.proofs.Codec.{fault_is_no_change, rest_is_no_change, no_rest_is_whole}
use Rattle.change.proofs.view.ChangeView.read_whole.Goals as goal

pub returns-in_default : goal.returns-in_default
returns-in_default c = (refl, fault_is_no_change c.args.bytes.now (c.in_default.ensures.reads ∙ ap change_of c.new-cursor.ensures.all))

pub returns-then-not-is_done : goal.returns-then-not-is_done
returns-then-not-is_done c =
    (refl, rest_is_no_change (left c.read.new.cursor) c.args.bytes.now (c.in-Ok.ensures.reads ∙ ap change_of c.new-cursor.ensures.all) (false-eqb _ 0 c.if-not-is_done.ensures))

pub returns : goal.returns
returns c =
    no_rest_is_whole (viewed c.in-Ok.view) (left c.read.new.cursor) c.args.bytes.now (c.in-Ok.ensures.reads ∙ ap change_of c.new-cursor.ensures.all) (true-eqb _ 0 c.if-not-is_done.ensures)
