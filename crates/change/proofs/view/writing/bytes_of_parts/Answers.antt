use Rattle.change.specs.View.{add_in}
use Rattle.change.proofs.Views.{parts_written}
use Rattle.change.proofs.view.writing.bytes_of_parts.Goals as goal

pub returns : goal.returns
returns c =
    parts_written (add_in c.args.texts.now) c.args.name.0 c.args.sheet.0 c.args.needs.now c.args.kills.now c.args.adds.now
    c.new-out.ensures.items c.in_ok-push_front.ensures c.in_ok-push_adds.ensures c.in_ok-push_numbers.ensures
