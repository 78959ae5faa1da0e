use Rattle.std.proofs.Common.{Some, sym, ap, ◌∙◌, arith}
use Rattle.std.proofs.lemmas.Option.{slice_get-get_or, slice_get_past}
use Rattle.letters.specs.NamesView.{names_in}
use Rattle.letters.proofs.names.Names.get.Goals as goal

pub returns-then-place-len : goal.returns-then-place-len
returns-then-place-len c = ap Some c.number.ensures ∙ sym (slice_get-get_or (names_in c.args.self.now) c.args.place 0 (omega arith))

pub returns-else-place-len : goal.returns-else-place-len
returns-else-place-len c = sym (slice_get_past (names_in c.args.self.now) c.args.place (omega arith))
