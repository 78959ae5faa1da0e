use Rattle.std.proofs.Common.{[], sym, ◌∙◌, append-nil}
use Rattle.change.specs.View.{add_seen, change_by}
use Rattle.change.specs.WellFormed.{is_add}
use Rattle.change.proofs.Codec.{reads_exactly}
use Rattle.change.proofs.Every.{every_map}
use Rattle.change.proofs.Limits.{adds_formed}
use Rattle.change.proofs.Views.{parts_written}
use Rattle.change.proofs.view.writing.bytes_of_change.Goals as goal

pub push_adds_seen-requires-clause-formed : goal.push_adds_seen-requires-clause-formed
push_adds_seen-requires-clause-formed c = sym (every_map is_add add_seen c.args.adds.now) ∙ adds_formed (change_by c.args.name.0 c.args.sheet.0 c.args.needs.now c.args.adds.now c.args.kills.now) c.requires

pub returns-clause-bytes : goal.returns-clause-bytes
returns-clause-bytes c =
    parts_written add_seen c.args.name.0 c.args.sheet.0 c.args.needs.now c.args.kills.now c.args.adds.now
    c.new-out.ensures.items c.in_ok-push_front.ensures c.in_ok-push_adds_seen.ensures c.in_ok-push_numbers.ensures

pub returns-clause-reads_back : goal.returns-clause-reads_back
returns-clause-reads_back c =
    (reads_exactly _ (change_by c.args.name.0 c.args.sheet.0 c.args.needs.now c.args.adds.now c.args.kills.now) []).1 c.requires (returns-clause-bytes c ∙ sym (append-nil _))
