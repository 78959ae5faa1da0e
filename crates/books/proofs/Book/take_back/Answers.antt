use Rattle.std.proofs.Common.{sym, subst}
use Rattle.history.specs.Sane.{Orderly}
use Rattle.books.specs.Sane.{model_of}
use Rattle.books.proofs.Back.{back_orderly, back_as_answered}
use Rattle.books.proofs.Book.take_back.Goals as goal

pub returns : goal.returns
returns c =
    let B = model_of c.args.self.now in
    let n = c.args.name.0 in
    let rest = back_as_answered B c.requires.orderly n c.take_back.result c.take_back.ensures.answer _ c.take_back.ensures.rest in
    record {
      sane = record { waiting = c.requires.waiting; orderly = subst Orderly (sym rest) (back_orderly B c.requires.orderly n) };
      answer = c.take_back.ensures.answer;
      rest = rest;
    }
