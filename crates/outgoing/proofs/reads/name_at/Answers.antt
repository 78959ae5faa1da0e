use Rattle.std.proofs.Common.{◌<◌, length, get_or, ◌∙◌, arith}
use Rattle.std.proofs.lemmas.List.{get_or-map, length-map}
use Rattle.std.proofs.lemmas.Option.{slice_get-get_or}
use Rattle.change.specs.declared.names.Name.{Name}
use Rattle.store.specs.Kept.{kept, names}
use Rattle.outgoing.specs.Places.{no_change}
use Rattle.outgoing.proofs.There.{is_there, value_there}
use Rattle.outgoing.proofs.reads.name_at.Goals as goal

pub unwrap-requires : goal.unwrap-requires
unwrap-requires c =
    let s = c.args.store.now in
    let less : c.args.place < length (names s) = omega (arith, length-map (kept s) (λ d. d.name), c.requires) in
    is_there (λ (n : Name). n.0) (get_or (names s) c.args.place 0) c.name.result (c.name.ensures ∙ slice_get-get_or (names s) c.args.place 0 less)

pub returns : goal.returns
returns c =
    let s = c.args.store.now in
    let less : c.args.place < length (names s) = omega (arith, length-map (kept s) (λ d. d.name), c.requires) in
    value_there (λ (n : Name). n.0) (get_or (names s) c.args.place 0) c.name.result (c.name.ensures ∙ slice_get-get_or (names s) c.args.place 0 less) c.unwrap.result c.unwrap.ensures
    ∙ get_or-map (λ d. d.name) (kept s) c.args.place no_change 0 c.requires
