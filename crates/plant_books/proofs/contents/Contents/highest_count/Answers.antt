use Rattle.std.proofs.Common.{length, refl, sym, ◌∙◌, subst, ◌≤◌, arith, rules, tests}
use Rattle.std.proofs.lemmas.Iterator.{YieldsList-from_range}
use Rattle.std.proofs.lemmas.Iterator.Consumers.{fold_from_yields_List}
use Rattle.change.specs.Model.{count_of}
use Rattle.change.specs.WellFormed.{highest_name}
use Rattle.plant_books.specs.Counted.{counted_at}
use Rattle.plant_books.specs.Sane.{model_of}
use Rattle.plant_books.proofs.Counts.{counted_by_places, all_counted_most}
use Rattle.plant_books.proofs.contents.Contents.highest_count.Goals as goal

pub returns : goal.returns
returns c =
    let B = model_of c.args.self.now in
    let n = length B.waiting in
    let folded = fold_from_yields_List _ (counted_at B) B.highest c.fold.result c.fold.ensures.ran (YieldsList-from_range 0 c.len.result n refl (omega (arith, c.len.ensures))) (λ a x b q k. search (rules, tests)) in
    let all = folded ∙ counted_by_places B.plant B.waiting n B.highest 0 (omega arith) in
    record { counted = all; low = subst (λ k. k ≤ count_of highest_name) (sym all) (all_counted_most B.plant B.waiting c.requires.orderly.formed B.highest c.requires.counted) }
