use Rattle.std.proofs.Common.{◌≡◌, ℕ, ◌++◌, OnOk, refl, subst, vec_items}
use Rattle.blocks.specs.Sheet.{of_sheet}
use Rattle.display.specs.declared.listing.Listing.{Listing}
use Rattle.display.specs.Listing.{Lists}
use Rattle.answers.specs.Lines.{listing_lines}
use Rattle.drafts.specs.Asked.{asked_by}
use Rattle.plant_books.specs.Books.{book_of}
use Rattle.desk.proofs.commands.perform.Goals as goal

pub returns-in-Lines : goal.returns-in-Lines
returns-in-Lines c =
    let Told : ℕ → Type 0 = λ n. OnOk c.lines.result ((all : Listing) × Lists (of_sheet n (book_of c.args.book.now).changes) all × (vec_items c.lines.new.out ≡ vec_items c.args.out.now ++ listing_lines all)) in
    rw c.in-Lines.is (refl, subst Told c.sheet-in-Lines.ensures c.lines.ensures)

pub returns-in-Add : goal.returns-in-Add
returns-in-Add c = rw c.in-Add.is (c.add.ensures (book_of c.args.book.now))

pub returns-in-Take : goal.returns-in-Take
returns-in-Take c = rw c.in-Take.is (c.take_digits.ensures (asked_by c.args.request.now))
