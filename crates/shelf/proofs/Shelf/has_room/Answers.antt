use Rattle.std.proofs.Common.{◌≡◌, true, ◌&&◌, ltb, leb, ◌∷◌, length, sym, ap, ◌∙◌, arith}
use lib.ListN.{length-map}
use Rattle.std.proofs.lemmas.List.{length-reverse}
use Rattle.std.proofs.lemmas.Bool.{and_left, lt-ltb, le-ltb}
use Rattle.change.specs.Few.{listed}
use Rattle.change.specs.View.{add_seen}
use Rattle.change.specs.Viewed.{viewed}
use Rattle.store.specs.Kept.{kept}
use Rattle.history.specs.Book.{line_limit, lines_of}
use Rattle.shelf.specs.Sane.{changes}
use Rattle.shelf.proofs.Keeping.{slots_tell_room}
use Rattle.shelf.proofs.Shelf.has_room.Goals as goal

pub returns-then-len-lt-CHANGE_LIMIT : goal.returns-then-len-lt-CHANGE_LIMIT
returns-then-len-lt-CHANGE_LIMIT c =
    let s = c.args.self.now in
    let v = c.args.view.now in
    let adds : length c.as_slice.result.now ≡ length (viewed v).adds = ap length c.as_slice.ensures ∙ sym (length-map (listed v.adds) add_seen) in
    let few : ltb (length (changes s)) 1024 ≡ true = lt-ltb _ _ (omega (arith, length-reverse (kept s.store))) in
    slots_tell_room s (viewed v) (length c.as_slice.result.now) c.free.result adds c.free.ensures.count
    ∙ ap (λ b. b && leb (lines_of (viewed v ∷ changes s)) line_limit) (sym few)

pub returns-else-len-lt-CHANGE_LIMIT : goal.returns-else-len-lt-CHANGE_LIMIT
returns-else-len-lt-CHANGE_LIMIT c =
    let s = c.args.self.now in
    le-ltb _ _ (omega arith) ∙ sym (and_left (ltb (length (changes s)) 1024) _ (le-ltb _ _ (omega (arith, length-reverse (kept s.store)))))
