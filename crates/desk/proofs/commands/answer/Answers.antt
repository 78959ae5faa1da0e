use Rattle.std.proofs.Common.{subst, vec_items}
use Rattle.console.specs.Meaning.{Meaning, meaning_of}
use Rattle.console.proofs.OneMeaning.{one_meaning}
use Rattle.desk.specs.Performing.{Performed}
use Rattle.desk.specs.State.{state_with}
use Rattle.desk.proofs.commands.answer.Goals as goal

pub returns-in-Some-clause-performed : goal.returns-in-Some-clause-performed
returns-in-Some-clause-performed c = λ m says.
    let P : Meaning → Type 0 = λ n. Performed n (state_with c.args.book.now c.args.request.now) (state_with c.perform.new.book c.perform.new.request) (vec_items c.args.out.now) (vec_items c.perform.new.out) c.perform.result in
    subst P (one_meaning c.args.line.now (meaning_of c.in-Some.command) m c.in-Some.ensures says) c.perform.ensures
