use Rattle.std.proofs.Common.{sym, subst}
use Rattle.console.specs.Meaning.{Parsed}
use Rattle.console.proofs.Words.{cut_at_space, no_cut}
use Rattle.console.proofs.parsing.parse.Goals as goal

pub parse_with_rest-requires : goal.parse_with_rest-requires
parse_with_rest-requires c = (cut_at_space c.args.line.now (c.in-Some.word, c.in-Some.rest) c.in-Some.ensures.cases).1

pub parse_alone-requires : goal.parse_alone-requires
parse_alone-requires c = no_cut c.args.line.now c.in-None.ensures.cases

pub returns-in-Some : goal.returns-in-Some
returns-in-Some c =
    let cut = cut_at_space c.args.line.now (c.in-Some.word, c.in-Some.rest) c.in-Some.ensures.cases in
    subst (λ l. Parsed l c.parse_with_rest.result) (sym cut.0) c.parse_with_rest.ensures
