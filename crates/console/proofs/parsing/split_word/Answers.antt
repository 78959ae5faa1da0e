use Rattle.std.proofs.Common.{refl, inl, inr}
use Rattle.console.proofs.Words.{cut_at_space, no_cut}
use Rattle.console.proofs.parsing.split_word.Goals as goal

pub returns-in-Some : goal.returns-in-Some
returns-in-Some c = let cut = cut_at_space c.args.line.now c.in-Some.parts c.in-Some.ensures.cases in record { spaceless = cut.1; split = inl cut.0 }

pub returns-in-None : goal.returns-in-None
returns-in-None c = record { spaceless = no_cut c.args.line.now c.in-None.ensures.cases; split = inr (refl, refl) }
