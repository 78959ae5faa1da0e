use Rattle.std.proofs.Common.{◌≡◌, reverse, length, IfOk, vec_items, ap, subst, arith}
use Rattle.std.proofs.lemmas.List.{length-reverse}
use Rattle.letters.specs.Names.{names_bytes}
use Rattle.outgoing.specs.NameList.{name_list}
use Rattle.store.specs.Kept.{kept}
use Rattle.shelf.proofs.Sure.{sane}
use Rattle.plant_books.proofs.contents.Contents.have.Goals as goal

pub have-requires : goal.have-requires
have-requires c = omega (arith, ap (λ s. length (kept s)) c.store.ensures, length-reverse (kept c.args.self.now.shelf.store), (sane c.args.self.now.shelf).few)

pub returns : goal.returns
returns c = subst (λ s. IfOk c.have.result (λ v. vec_items v ≡ names_bytes (name_list (reverse (kept s))))) c.store.ensures c.have.ensures.bytes
