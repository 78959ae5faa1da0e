use Rattle.std.proofs.Common.{◌≡◌, ℕ, ◌<◌, IfOk, Ok, Err, vec_items, Result, Vec, sym, refl, ◌∙◌, subst, arith}
use Rattle.std.proofs.lemmas.Result.{err_from_is_err_and}
use Rattle.std.specs.declared.alloc.Global.{Global}
use Rattle.history.specs.declared.Event.{Event}
use Rattle.history.specs.Book.{Book}
use Rattle.history.specs.Sane.{Sane}
use Rattle.making.specs.Request as making
use Rattle.making.specs.Making.{change_for, make, made}
use Rattle.change.specs.declared.trouble.Trouble.{Trouble}
use Rattle.change.specs.declared.trouble.Trouble.TheVariants.{Refused, Memory}
use Rattle.drafts.specs.Asked.{asked_by}
use Rattle.drafts.specs.Refusing.{Comes}
use Rattle.plant_books.specs.Answers.{Answered}
use Rattle.plant_books.specs.Sane.{model_of}
use Rattle.plant_books.specs.Named.{MadeAs}
use Rattle.plant_books.proofs.Made.{not_made, taken_is_made, made_as}
use Rattle.plant_books.proofs.contents.Contents.make.Goals as goal

named_so : (B : Book) (r : making.Request) → Sane B → B.plant < 16 → make B r ≡ Ok (change_for B r) → (A : Book) (answer : Result (Vec Event Global) Trouble) → Answered (made B r) B A answer → IfOk answer (λ events. MadeAs B r (vec_items events))
named_so B r sane plant makes A (Ok events) told = made_as B r sane plant makes (vec_items events) A told
named_so B r sane plant makes A (Err e) told = tt

-- what comes of a request of which no change is made
turned_down : (B : Book) (r : making.Request) (e : Trouble) → Comes {V = Vec ℕ Global} vec_items B r (Err e) → Answered (made B r) B B (Err e)
turned_down B r (Refused e) refused = (not_made B r e refused, refl)
turned_down B r Memory wanting = refl

pub make-requires : goal.make-requires
make-requires c = omega (arith, c.next_name-name.ensures)

pub returns-in_err-bytes : goal.returns-in_err-bytes
returns-in_err-bytes c =
    let B = model_of c.args.self.now in
    let r = asked_by c.args.request.now in
    let exit = err_from_is_err_and c.from_residual.result c.from_residual.ensures.1 in
    record { sane = c.requires; made = rw (exit.1, exit.2) (turned_down B r _ (c.in_err-bytes.ensures B (record { changes = refl; name = sym c.next_name-name.ensures; plant = c.args.self.now.plant.below }))); named = rw exit.1 tt }

pub returns : goal.returns
returns c =
    let B = model_of c.args.self.now in
    let r = asked_by c.args.request.now in
    let (makes, own) = c.in_ok-bytes.ensures B (record { changes = refl; name = sym c.next_name-name.ensures; plant = c.args.self.now.plant.below }) in
    let made = subst (λ done. Answered done B (model_of c.take_change.new.self) c.take_change.result) (taken_is_made B r c.requires.model c.args.self.now.plant.below makes _ (c.as_slice.ensures.value ∙ own)) c.take_change.ensures.took in
    record { sane = c.take_change.ensures.sane; made = made; named = named_so B r c.requires.model c.args.self.now.plant.below makes _ c.take_change.result made }
