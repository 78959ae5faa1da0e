use Rattle.std.proofs.Common.{reverse, length, sym, ap, subst, arith}
use Rattle.std.proofs.lemmas.List.{length-reverse}
use Rattle.order.specs.Fits.{Listed}
use Rattle.store.specs.Kept.{kept}
use Rattle.shelf.proofs.Sure.{sane}
use Rattle.plant_books.proofs.contents.Contents.send.Goals as goal

pub send-requires : goal.send-requires
send-requires c = record {
  listed = subst (λ s. Listed (reverse (kept s))) (sym c.store.ensures) (sane c.args.self.now.shelf).listed;
  few = omega (arith, ap (λ s. length (kept s)) c.store.ensures, length-reverse (kept c.args.self.now.shelf.store), (sane c.args.self.now.shelf).few);
}
