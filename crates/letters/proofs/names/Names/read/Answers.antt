use Rattle.std.proofs.Common.{refl, ap, ◌∙◌, true-eqb, false-eqb}
use Rattle.change.specs.Cursor.{left}
use Rattle.letters.specs.Names.{names_of}
use Rattle.letters.specs.NamesView.{passed}
use Rattle.letters.proofs.NamesRead.{no_names, names_left_over, names_whole}
use Rattle.letters.proofs.names.Names.read.Goals as goal

pub returns-in_default : goal.returns-in_default
returns-in_default c = (refl, no_names c.args.bytes.now _ (c.in_default.ensures.reads ∙ ap (λ l. passed (names_of l)) c.new-cursor.ensures.all))

pub returns-then-not-is_done : goal.returns-then-not-is_done
returns-then-not-is_done c =
    (refl, names_left_over c.args.bytes.now (left c.pass_names.new.cursor) (c.in-Ok.ensures.reads ∙ ap (λ l. passed (names_of l)) c.new-cursor.ensures.all) (false-eqb _ 0 c.if-not-is_done.ensures))

pub invariant_of-result : goal.invariant_of-result
invariant_of-result c =
    let whole = names_whole c.args.bytes.now (left c.pass_names.new.cursor) (c.in-Ok.ensures.reads ∙ ap (λ l. passed (names_of l)) c.new-cursor.ensures.all) (true-eqb _ 0 c.if-not-is_done.ensures) in
    record { named = whole.0; own = whole.1 }
