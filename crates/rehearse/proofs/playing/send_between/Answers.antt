use Rattle.std.proofs.Common.{List, ℕ, get_or, rules, inl, inr, refl, subst, ◌∙◌, vec_items}
use Rattle.std.proofs.lemmas.Option.{slice_get-get_or, MatchOption-at_some, MatchOption-at_none}
use Rattle.world.specs.Calls.{take_bytes}
use Rattle.plant_books.specs.Sent.{LetterFor}
use Rattle.plant_books.specs.Books.{book_of}
use Rattle.desk.specs.Answering.{NoNames, TakeAnswered}
use Rattle.rehearse.proofs.playing.send_between.Goals as goal

pub returns-in_err-names : goal.returns-in_err-names
returns-in_err-names c =
    let seats = c.args.seats.now in
    (_, _, slice_get-get_or seats c.args.sender c.index-seats-receiver.result c.requires.sender, slice_get-get_or seats c.args.receiver c.index-seats-receiver.result c.requires.receiver, inr (inr (search rules, refl)))

pub returns-in_err-letter : goal.returns-in_err-letter
returns-in_err-letter c =
    let seats = c.args.seats.now in
    (_, _, slice_get-get_or seats c.args.sender c.index-seats-receiver.result c.requires.sender, slice_get-get_or seats c.args.receiver c.index-seats-receiver.result c.requires.receiver, inr (inr (search rules, refl)))

pub returns-in-Some : goal.returns-in-Some
returns-in-Some c =
    let seats = c.args.seats.now in
    let s = get_or seats c.args.sender c.index-seats-sender.result in
    let letter = vec_items c.in-Some.letter in
    let For : List ℕ → Type 0 = λ names. LetterFor (book_of s.desk.book) names letter in
    let sent = MatchOption-at_some _ _ _ c.in-Some.is c.in_ok-letter.ensures in
    let t = get_or seats c.args.receiver c.index-seats-receiver-in-Some.result in
    let Taken : List ℕ → Type 0 = λ l. TakeAnswered (take_bytes (book_of t.desk.book) l) (book_of t.desk.book) (book_of c.take.new.self.book) (vec_items c.args.out.now) (vec_items c.take.new.out) c.take.result in (
      _,
      _,
      slice_get-get_or seats c.args.sender c.index-seats-sender.result c.requires.sender,
      slice_get-get_or seats c.args.receiver c.index-seats-receiver.result c.requires.receiver,
      inl (
        letter,
        subst For (c.as_slice.ensures.value ∙ c.in_ok-names.ensures) sent,
        (_, _, slice_get-get_or seats c.args.receiver c.index-seats-receiver-in-Some.result c.requires.receiver, refl, record { plant = refl; desk = (c.take.ensures.request, subst Taken c.as_slice-in-Some.ensures.value c.take.ensures.taken) }),
      ),
    )

pub returns : goal.returns
returns c =
    let seats = c.args.seats.now in
    let none = MatchOption-at_none (NoNames c.as_slice.result.now) _ c.in-None.is c.in_ok-letter.ensures in (
      _,
      _,
      slice_get-get_or seats c.args.sender c.index-seats-sender.result c.requires.sender,
      slice_get-get_or seats c.args.receiver c.index-seats-receiver.result c.requires.receiver,
      inr (inl (subst NoNames (c.as_slice.ensures.value ∙ c.in_ok-names.ensures) none, record { same = refl; line = c.refused.ensures })),
    )
