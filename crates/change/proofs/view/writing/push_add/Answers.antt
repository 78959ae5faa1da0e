use Rattle.std.proofs.Common.{[], ◌∷◌, ◌++◌, length, vec_items}
use Rattle.change.specs.Bytes.{number_bytes}
use Rattle.change.proofs.Appended.{then_written}
use Rattle.change.proofs.view.writing.push_add.Goals as goal

pub returns : goal.returns
returns c =
    let start = vec_items c.args.out.now in
    let after = number_bytes c.args.after.0 in
    let before = number_bytes c.args.before.0 in
    let text = c.args.text.now in
    let count = length text ∷ [] in
    then_written start (after ++ (before ++ count)) text
    (then_written start (after ++ before) count (then_written start after before c.in_ok-push_number.ensures c.in_ok-push_number-2.ensures) c.in_ok-push.ensures.items)
    c.in_ok-extend_from_slice.ensures.items
