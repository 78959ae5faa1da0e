use Rattle.std.proofs.Common.{◌++◌, codes, sym, subst, rules}
use Rattle.console.specs.Meaning.{Parsed}
use Rattle.console.proofs.Adds.{add_has_space, add_has_first_number, add_has_second_number, add_is_said}
use Rattle.console.proofs.Words.{cut_at_space, no_cut}
use Rattle.console.proofs.parsing.parse_add.Goals as goal

pub returns-in_err-after : goal.returns-in_err-after
returns-in_err-after c =
    let rest = c.args.rest.now in
    subst (Parsed (codes "add " ++ rest)) (sym c.from_residual.ensures) (add_has_space rest (no_cut rest c.in_err-after.ensures.cases))

pub returns-in_err-number : goal.returns-in_err-number
returns-in_err-number c =
    let rest = c.args.rest.now in let after = c.in_ok-after.after in let later = c.in_ok-after.rest in
    let cut = cut_at_space rest (after, later) c.in_ok-after.ensures.cases in
    subst (Parsed (codes "add " ++ rest)) (sym c.from_residual-in_err-number.ensures)
    (add_has_first_number rest after.now later.now cut.0 cut.1 c.in_err-number.ensures)

pub returns-in_err-number-2 : goal.returns-in_err-number-2
returns-in_err-number-2 c =
    let rest = c.args.rest.now in let after = c.in_ok-after.after in let later = c.in_ok-after.rest in
    let cut = cut_at_space rest (after, later) c.in_ok-after.ensures.cases in
    let split = c.split_word in
    subst (Parsed (codes "add " ++ rest)) (sym c.from_residual-in_err-number-2.ensures)
    (add_has_second_number rest after.now later.now cut.0 cut.1 split.result.0.now split.result.1.now split.ensures.spaceless split.ensures.split c.in_err-number-2.ensures)

pub returns : goal.returns
returns c =
    let rest = c.args.rest.now in let after = c.in_ok-after.after in let later = c.in_ok-after.rest in
    let cut = cut_at_space rest (after, later) c.in_ok-after.ensures.cases in
    let split = c.split_word in
    add_is_said rest after.now later.now cut.0 cut.1 split.result.0.now split.result.1.now c.as_bytes.result.now c.in_ok-number.field-0 c.in_ok-number-2.field-0
    c.in_ok-number.ensures c.in_ok-number-2.ensures split.ensures.split c.as_bytes.ensures.value (search rules) (search rules)
