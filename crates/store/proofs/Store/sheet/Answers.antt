use Rattle.std.proofs.Common.{refl, arith, rules}
use Rattle.std.proofs.lemmas.Bool.Decides.{nat_tests}
use Rattle.store.proofs.Places.{shown_at, none_past}
use Rattle.store.proofs.Store.sheet.Goals as goal

pub returns-in_err-entry : goal.returns-in_err-entry
returns-in_err-entry c = rw c.from_residual.ensures (none_past c.args.self.now (λ d. d.sheet) c.args.place (grind (arith, nat_tests, c.in_err-entry.ensures.lookup, c.deref.ensures.len)))

pub returns : goal.returns
returns c = shown_at c.args.self.now (λ e. e.sheet.0) (λ d. d.sheet) (λ start d. refl) c.args.place c.in_ok-entry.entry.now (grind (arith, nat_tests, c.in_ok-entry.ensures.lookup, c.deref.ensures.len)) (search rules)
