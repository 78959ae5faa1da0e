use Rattle.std.proofs.Common.{◌++◌, vec_items, sym, ap, ◌∙◌, append-nil, rules}
use Rattle.std.proofs.lemmas.Result.{IfOk-weaker}
use Rattle.change.proofs.Every.{every_at}
use Rattle.sheet.specs.Lines.{line_inside, no_line}
use Rattle.sheet.proofs.Shown.{none_shown, alone_shown, conflict_shown}
use Rattle.sheet.proofs.bytes.push_block.Goals as goal

pub push_text-requires : goal.push_text-requires
push_text-requires c = every_at (line_inside c.args.area.now) c.args.block.now 0 no_line c.requires (search rules)

pub returns-in-empty : goal.returns-in-empty
returns-in-empty c text texts =
    let start = vec_items c.args.out.now in
    sym (append-nil start) ∙ ap (λ bytes. start ++ bytes) (none_shown c.args.area.now text c.args.block.now (search rules))

pub returns-in-len1 : goal.returns-in-len1
returns-in-len1 c =
    IfOk-weaker c.push_text.result _ _
    (λ _ e text texts. e ∙ ap (λ bytes. vec_items c.args.out.now ++ bytes) (alone_shown c.args.area.now text c.args.block.now (search rules) texts))
    c.push_text.ensures

pub returns-in_default : goal.returns-in_default
returns-in_default c =
    IfOk-weaker c.push_marked.result _ _
    (λ _ e text texts. e ∙ ap (λ bytes. vec_items c.args.out.now ++ bytes) (conflict_shown c.args.area.now text c.args.block.now (search rules) texts))
    c.push_marked.ensures
