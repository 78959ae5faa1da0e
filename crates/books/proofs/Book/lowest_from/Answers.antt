use Rattle.std.proofs.Common.{◌≡◌, true, cond, Some, sym, refl, ◌∙◌, subst}
use Rattle.change.specs.Viewed.{viewed}
use Rattle.history.specs.Book.{is_ready}
use Rattle.history.specs.Taking.{lower}
use Rattle.books.specs.Next.{Marks}
use Rattle.books.specs.Sane.{model_of}
use Rattle.books.proofs.Next.{at_place, lower_marks}
use Rattle.books.proofs.Book.lowest_from.Goals as goal

pub returns : goal.returns
returns c o marks =
    let B = model_of c.args.self.now in
    let W = B.waiting in
    let d = viewed c.in-Some.view in
    let here = c.in-Some.ensures in
    let ready : is_ready B d ≡ true = sym c.needs_here.ensures ∙ c.if-not-needs_here.false in
    at_place W c.args.place d here _
    (subst (λ b. Marks W (Some c.lower_mark.result) (cond b (lower d o) o)) (sym ready)
    (subst (λ m. Marks W (Some m) (lower d o)) (sym c.lower_mark.ensures) (lower_marks W c.args.place d here _ refl refl c.args.behind o marks)))
