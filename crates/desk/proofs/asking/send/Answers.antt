use Rattle.std.proofs.Common.{List, ℕ, ◌≡◌, ◌++◌, OnOk, vec_items, subst}
use Rattle.std.proofs.lemmas.Option.{MatchOption-at_some, MatchOption-at_none}
use Rattle.answers.specs.Lines.{hex_line}
use Rattle.plant_books.specs.Books.{book_of}
use Rattle.plant_books.specs.Sent.{LetterFor}
use Rattle.desk.specs.Answering.{NoNames}
use Rattle.desk.proofs.Digits.{names_answered, letter_sent, names_refused}
use Rattle.desk.proofs.asking.send.Goals as goal

pub returns-in-Some-2 : goal.returns-in-Some-2
returns-in-Some-2 c =
    let read = MatchOption-at_some _ _ _ c.in-Some.is c.in_ok-names.ensures in
    let B = book_of c.args.book.now in
    let names = vec_items c.in-Some.names in
    let letter = vec_items c.in-Some-2.letter in
    let For : List ℕ → Type 0 = λ n. LetterFor B n letter in
    let Written : List ℕ → Type 0 = λ l. OnOk c.digits.result (c.digits.new.out.items ≡ c.args.out.now.items ++ hex_line l) in
    let sent = MatchOption-at_some _ _ _ c.in-Some-2.is c.in_ok-letter.ensures in
    names_answered B c.args.names.now names _ _ c.digits.result (record { in_range = read.0; spells = read.1 })
    (letter_sent B names letter _ _ c.digits.result (subst For c.as_slice.ensures.value sent) (subst Written c.as_slice-in-Some-2.ensures.value c.digits.ensures))

pub returns : goal.returns
returns c =
    let read = MatchOption-at_some _ _ _ c.in-Some.is c.in_ok-names.ensures in
    let B = book_of c.args.book.now in
    let names = vec_items c.in-Some.names in
    let none = MatchOption-at_none (NoNames c.as_slice.result.now) _ c.in-None.is c.in_ok-letter.ensures in
    names_answered B c.args.names.now names _ _ c.refused-in-None.result (record { in_range = read.0; spells = read.1 })
    (names_refused B names _ _ c.refused-in-None.result (subst NoNames c.as_slice.ensures.value none) c.refused-in-None.ensures)
