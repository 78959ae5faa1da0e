use Rattle.std.proofs.Common.{[], ◌∷◌, ◌++◌, length, vec_items, ap, ◌∙◌}
use Rattle.display.proofs.Gathering.{gives_push}
use Rattle.display.proofs.gathered.Gathered.push.Goals as goal

pub returns : goal.returns
returns c =
    let g = c.args.self.now in
    gives_push g (record { lines = c.push.new.self; texts = c.extend_from_slice.new.self }) c.args.line c.args.slot c.args.text.now c.in_ok-extend_from_slice.ensures.items
    (c.in_ok-push.ensures.items ∙ ap (λ n. vec_items g.lines ++ record { number = record { 0 = c.args.line }; slot = c.args.slot; text = record { start = n; len = length c.args.text.now } } ∷ []) (c.len.ensures ∙ g.texts.ok.0))
