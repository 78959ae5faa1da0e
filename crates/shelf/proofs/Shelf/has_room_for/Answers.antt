use Rattle.std.proofs.Common.{◌≡◌, ◌+◌, true, ◌&&◌, ltb, leb, length, sym, ap, ◌∙◌, arith}
use Rattle.std.proofs.lemmas.List.{length-reverse}
use Rattle.std.proofs.lemmas.Bool.{and_left, lt-ltb, le-ltb}
use Rattle.store.specs.Kept.{kept}
use Rattle.history.specs.Book.{line_limit, lines_of}
use Rattle.shelf.specs.Sane.{changes}
use Rattle.shelf.proofs.Answering.{slots_tell_room_for}
use Rattle.shelf.proofs.Keeping.{free_slots}
use Rattle.shelf.proofs.Sure.{sane}
use Rattle.shelf.proofs.Shelf.has_room_for.Goals as goal

pub overflow_sub-result : goal.overflow_sub-result
overflow_sub-result c = omega (arith, free_slots c.args.self.now, (sane c.args.self.now).few_lines, c.free.ensures.count)

pub returns-then-len-lt-CHANGE_LIMIT : goal.returns-then-len-lt-CHANGE_LIMIT
returns-then-len-lt-CHANGE_LIMIT c =
    let s = c.args.self.now in
    let few : ltb (length (changes s)) 1024 ≡ true = lt-ltb _ _ (omega (arith, length-reverse (kept s.store))) in
    slots_tell_room_for s c.args.adds c.free.result c.free.ensures.count ∙ ap (λ b. b && leb (lines_of (changes s) + c.args.adds) line_limit) (sym few)

pub returns-else-len-lt-CHANGE_LIMIT : goal.returns-else-len-lt-CHANGE_LIMIT
returns-else-len-lt-CHANGE_LIMIT c =
    let s = c.args.self.now in
    le-ltb _ _ (omega arith) ∙ sym (and_left (ltb (length (changes s)) 1024) _ (le-ltb _ _ (omega (arith, length-reverse (kept s.store)))))
