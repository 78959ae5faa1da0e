use Rattle.std.proofs.Common.{◌+◌, ◌*◌, ◌<◌, get_or, arith, rules}
use Rattle.change.proofs.Steps.{number_reads}
use Rattle.letters.specs.NamesView.{names_in}
use Rattle.letters.proofs.Places.{name_inside, number_at}
use Rattle.letters.proofs.names.Names.number.Goals as goal

pub bounds-bytes-at : goal.bounds-bytes-at
bounds-bytes-at c = omega (arith, name_inside (names_in c.args.self.now) c.args.self.now.bytes.now c.args.self.now.named c.args.self.now.own c.args.place c.requires)

pub bounds-bytes-at-2 : goal.bounds-bytes-at-2
bounds-bytes-at-2 c = omega (arith, name_inside (names_in c.args.self.now) c.args.self.now.bytes.now c.args.self.now.named c.args.self.now.own c.args.place c.requires)

pub bounds-bytes-at-3 : goal.bounds-bytes-at-3
bounds-bytes-at-3 c = omega (arith, name_inside (names_in c.args.self.now) c.args.self.now.bytes.now c.args.self.now.named c.args.self.now.own c.args.place c.requires)

pub bounds-bytes-at-4 : goal.bounds-bytes-at-4
bounds-bytes-at-4 c = omega (arith, name_inside (names_in c.args.self.now) c.args.self.now.bytes.now c.args.self.now.named c.args.self.now.own c.args.place c.requires)

pub returns : goal.returns
returns c =
    let ns = names_in c.args.self.now in
    let bytes = c.args.self.now.bytes.now in
    let at = 3 + 4 * c.args.place in
    let inside = name_inside ns bytes c.args.self.now.named c.args.self.now.own c.args.place c.requires in
    let a : get_or bytes at 0 < 256 = search rules in
    let b : get_or bytes (at + 1) 0 < 256 = search rules in
    let d : get_or bytes (at + 2) 0 < 256 = search rules in
    let e : get_or bytes (at + 3) 0 < 256 = search rules in
    number_at ns bytes c.args.self.now.named c.args.self.now.own c.args.place c.requires c.from_be_bytes.result _
    (number_reads bytes at c.from_be_bytes.result (omega arith) a b d e c.from_be_bytes.ensures)
