use Rattle.std.proofs.Common.{sym, ◌∙◌, arith, rules}
use Rattle.std.proofs.lemmas.Fmt.{decimal_injective}
use Rattle.console.proofs.NoMeaning.{no_sheet}
use Rattle.console.proofs.parsing.parse_sheet.Goals as goal

pub returns-in_default : goal.returns-in_default
returns-in_default c =
    no_sheet c.args.rest.now
    (λ n small e. c.in_default.ensures (let same = decimal_injective c.in_ok-number.field-0 n (search rules) (omega arith) (sym c.in_ok-number.ensures ∙ e) in omega arith))
