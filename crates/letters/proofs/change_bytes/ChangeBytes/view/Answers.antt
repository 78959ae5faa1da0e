use Rattle.std.proofs.Common.{sym, subst}
use Rattle.change.specs.Viewed.{viewed, WholeRead}
use Rattle.letters.specs.LetterRead.{change_in}
use Rattle.letters.proofs.ChangeRead.{its_change, is_read}
use Rattle.letters.proofs.change_bytes.ChangeBytes.view.Goals as goal

pub unwrap-requires : goal.unwrap-requires
unwrap-requires c =
    let b = c.args.self.now in
    is_read b.bytes.now (change_in b) b.well b.own c.read_whole.result c.read_whole.ensures

pub returns : goal.returns
returns c =
    let b = c.args.self.now in
    let v = c.unwrap.result in
    sym (its_change b.bytes.now (viewed v) v.well (subst (WholeRead b.bytes.now) c.unwrap.ensures c.read_whole.ensures))
