use Rattle.std.proofs.Common.{◌≡◌, ℕ, ◌<◌, ◌≤◌, leb, List, ◌++◌, map, length, get_or, take, drop, sym, ap, ◌∙◌, subst, append-nil, arith, length-take-le, take_all, drop-cons, leb-true}
use lib.ListN.{length-map}
use lib.Seq.{get_or_at}
use Rattle.std.proofs.lemmas.List.Edits.{map_over_more}
use Rattle.std.proofs.lemmas.List.{drop_all, get_or_default}
use Rattle.change.proofs.Every.{every_at}
use Rattle.store.specs.Entries.{entry_of, lowered}
use Rattle.store.proofs.Places.{blank}
use Rattle.store.proofs.entry.lower.Goals as goal

-- the element that comes next is as it was
next_is_same : {X : Type 0} (f : X → X) (xs ys : List X) (i : ℕ) (d : X) → i < length xs → ys ≡ map f (take i xs) ++ drop i xs → get_or ys i d ≡ get_or xs i d
next_is_same f xs ys i d less so_far =
    ap (λ l. get_or l i d) (so_far ∙ ap (λ l. map f (take i xs) ++ l) (drop-cons xs i d less))
    ∙ get_or_at (map f (take i xs)) (get_or xs i d) _ d i (length-map (take i xs) f ∙ length-take-le i xs (omega arith))

pub overflow_sub-entry : goal.overflow_sub-entry
overflow_sub-entry c =
    let i = c.loop-entry.entry-index in
    let same = next_is_same (lowered c.args.by) c.args.entries.now c.loop-entry.entries i (entry_of 0 blank) (omega arith) c.loop-entry.invariant in
    let high = leb-true _ _ (every_at (λ e. leb c.args.by e.start) c.args.entries.now i (entry_of 0 blank) c.requires (omega arith)) in
    subst (λ e. c.args.by ≤ e.start) (sym same) high

pub loop-entry-preserved : goal.loop-entry-preserved
loop-entry-preserved c =
    let i = c.loop-entry.entry-index in
    map_over_more (lowered c.args.by) c.args.entries.now c.loop-entry.entries i _ (omega arith) c.loop-entry.invariant (get_or_default c.loop-entry.entries i _ _ (omega arith))

pub returns : goal.returns
returns c =
    let i = c.loop-entry.entry-index in
    let es = c.args.entries.now in
    let f = lowered c.args.by in
    c.loop-entry.invariant ∙ (λ j. map f (take_all i es c.loop-entry-test.false j) ++ drop_all i es c.loop-entry-test.false j) ∙ append-nil (map f es)
