use Rattle.std.proofs.Common.{map, vec_items, sym, refl, ap, ◌∙◌, append-nil, arith, take_all}
use lib.ListN.{length-map}
use Rattle.std.proofs.lemmas.List.{get_or-map}
use Rattle.change.specs.Viewed.{viewed}
use Rattle.letters.specs.LetterRead.{change_in}
use Rattle.sending.specs.Receiving.{and_then, received}
use Rattle.plant_books.specs.Sane.{model_of}
use Rattle.plant_books.proofs.Counting.{added_counts}
use Rattle.plant_books.proofs.Each.{one_more_taken}
use Rattle.plant_books.proofs.contents.Contents.take_each.Goals as goal

pub loop-change-init : goal.loop-change-init
loop-change-init c = (c.requires.sane, ap (λ l. (l, model_of c.args.self.now)) (sym (append-nil (vec_items c.args.events.now))), refl, omega arith)

pub take-requires : goal.take-requires
take-requires c =
    let (sane, took, cap, room) = c.loop-change.invariant in
    record { sane = sane; room = omega (arith, c.requires.room) }

pub loop-change-preserved : goal.loop-change-preserved
loop-change-preserved c =
    let (sane, took, cap, room) = c.loop-change.invariant in
    let parts = c.args.changes.now in
    let i = c.loop-change.change-index in
    let d = viewed c.view.result in (
      c.take.ensures.sane,
      one_more_taken (map change_in parts) i d d (omega (arith, length-map parts change_in)) (c.view.ensures ∙ ap change_in c.change-item.is ∙ sym (get_or-map change_in parts i c.change-item.result d c.loop-change-test.true)) _ _ _ _ took _ c.take.ensures.took,
      c.take.ensures.capacity ∙ cap,
      omega (arith, added_counts (vec_items c.loop-change.events) (vec_items c.take.new.events) (model_of c.loop-change.self) (model_of c.take.new.self) d c.take.ensures.took, c.loop-change.events.ok.0, c.take.new.events.ok.0),
    )

pub returns : goal.returns
returns c =
    let (sane, took, cap, room) = c.loop-change.invariant in
    let cs = map change_in c.args.changes.now in
    record {
      sane = sane;
      took = took ∙ ap (λ l. and_then (vec_items c.args.events.now) (received (model_of c.args.self.now) l)) (take_all c.loop-change.change-index cs (omega (arith, length-map c.args.changes.now change_in)));
    }
