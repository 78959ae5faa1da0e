use Rattle.std.proofs.Common.{◌∷◌, ◌++◌, sym, ap, ◌∙◌, subst}
use Rattle.console.proofs.Words.{cut_at_space, no_cut}
use Rattle.rehearse.specs.Lines.{Read}
use Rattle.rehearse.proofs.Moves.{says_nothing_alone}
use Rattle.rehearse.proofs.script.read.Goals as goal

pub returns-in_err-word : goal.returns-in_err-word
returns-in_err-word c =
    let line = c.args.line.now in
    subst (Read line) (sym c.from_residual.ensures) (says_nothing_alone line (no_cut line c.in_err-word.ensures.cases))

pub read_tell-requires-clause-word : goal.read_tell-requires-clause-word
read_tell-requires-clause-word c = (cut_at_space c.args.line.now (c.in_ok-word.word, c.in_ok-word.rest) c.in_ok-word.ensures.cases).1

pub returns-in-pass : goal.returns-in-pass
returns-in-pass c =
    let line = c.args.line.now in
    let rest = c.in_ok-word.rest.now in
    let cut = cut_at_space line (c.in_ok-word.word, c.in_ok-word.rest) c.in_ok-word.ensures.cases in
    subst (λ l. Read l c.read_pass.result) (sym (cut.0 ∙ ap (λ w. w ++ 32 ∷ rest) c.in-pass.is)) c.read_pass.ensures

pub returns-in_default : goal.returns-in_default
returns-in_default c =
    let cut = cut_at_space c.args.line.now (c.in_ok-word.word, c.in_ok-word.rest) c.in_ok-word.ensures.cases in
    subst (λ l. Read l c.read_tell.result) (sym cut.0) c.read_tell.ensures
