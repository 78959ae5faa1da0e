use Rattle.std.proofs.Common.{ap, ◌∙◌}
use Rattle.std.proofs.lemmas.Option.{slice_get-get_or}
use Rattle.change.specs.Viewed.{viewed}
use Rattle.store.specs.Kept.{kept}
use Rattle.outgoing.specs.Places.{no_change, change_at}
use Rattle.outgoing.proofs.There.{is_there, value_there}
use Rattle.outgoing.proofs.reads.needs_at.Goals as goal

pub unwrap-requires : goal.unwrap-requires
unwrap-requires c =
    let K = kept c.args.store.now in
    is_there viewed (change_at K c.args.place) c.get.result (c.get.ensures ∙ slice_get-get_or K c.args.place no_change c.requires)

pub returns : goal.returns
returns c =
    let K = kept c.args.store.now in
    ap (λ d. d.needs) (value_there viewed (change_at K c.args.place) c.get.result (c.get.ensures ∙ slice_get-get_or K c.args.place no_change c.requires) c.unwrap.result c.unwrap.ensures)
