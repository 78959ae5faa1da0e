use Rattle.std.proofs.Common.{ℕ, List, ap, ◌∙◌, Bor}
use Rattle.std.specs.Option.{option_map}
use Rattle.std.proofs.lemmas.Option.{slice_get-get_or}
use Rattle.change.specs.Bytes.{change_bytes}
use Rattle.store.specs.Kept.{kept}
use Rattle.outgoing.specs.Places.{no_change, change_at}
use Rattle.outgoing.proofs.There.{is_there, value_there}
use Rattle.outgoing.proofs.reads.bytes_at.Goals as goal

pub unwrap-requires : goal.unwrap-requires
unwrap-requires c =
    let K = kept c.args.store.now in
    is_there (λ (b : Bor (List ℕ)). b.now) (change_bytes (change_at K c.args.place)) c.bytes.result (c.bytes.ensures ∙ ap (option_map change_bytes) (slice_get-get_or K c.args.place no_change c.requires))

pub returns : goal.returns
returns c =
    let K = kept c.args.store.now in
    value_there (λ (b : Bor (List ℕ)). b.now) (change_bytes (change_at K c.args.place)) c.bytes.result (c.bytes.ensures ∙ ap (option_map change_bytes) (slice_get-get_or K c.args.place no_change c.requires)) c.unwrap.result c.unwrap.ensures
