use Rattle.std.proofs.Common.{length, get_or, arith, leb-true}
use Rattle.change.specs.Bytes.{add_bytes}
use Rattle.change.specs.View.{add_seen, no_add}
use Rattle.change.specs.WellFormed.{is_line, is_add}
use Rattle.change.proofs.Every.{every_at}
use Rattle.change.proofs.Appended.{one_more_written, all_written}
use Rattle.change.proofs.Tests.{and_true}
use Rattle.change.proofs.view.writing.push_adds_seen.Goals as goal

pub push_add-requires : goal.push_add-requires
push_add-requires c =
    let a = get_or c.args.adds.now c.loop-add.add-index no_add in
    let add = every_at (λ a. is_add (add_seen a)) c.args.adds.now c.loop-add.add-index no_add c.requires.formed (omega arith) in
    let text = (and_true (is_line a.before.0) _ (and_true (is_line a.after.0) _ add).1).1 in
    let short = leb-true (length a.text.now) 120 (and_true _ _ text).0 in
    omega arith

pub loop-add-preserved : goal.loop-add-preserved
loop-add-preserved c = one_more_written (λ a. add_bytes (add_seen a)) _ c.args.adds.now c.loop-add.add-index _ c.loop-add.invariant no_add _ (omega arith) c.in_ok-push_add.ensures

pub returns : goal.returns
returns c = all_written (λ a. add_bytes (add_seen a)) _ c.args.adds.now c.loop-add.add-index _ c.loop-add.invariant _ (omega arith) c.in_ok-push.ensures.items
