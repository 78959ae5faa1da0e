use Rattle.std.proofs.Common.{◌+◌, ◌-◌, [], ◌∷◌, ◌++◌, map, vec_items, refl, sym, ap, ◌∙◌, arith}
use Rattle.std.proofs.lemmas.List.{map_push}
use Rattle.std.proofs.lemmas.Result.{err_from_is_err_and}
use Rattle.change.proofs.Several.{goes_from_none, goes_on, goes_wrong, goes_through}
use Rattle.letters.specs.LetterRead.{change_in}
use Rattle.letters.proofs.letter.read_changes.Goals as goal

pub loop-init : goal.loop-init
loop-init c = (goes_from_none _ _ (omega arith) refl (ap (map change_in) c.new-changes.ensures.items), refl)

pub returns-in_err-view : goal.returns-in_err-view
returns-in_err-view c =
    let p = err_from_is_err_and c.from_residual.result c.from_residual.ensures.1 in
    record {
      reads = rw (p.1, p.2) (refl, (_, sym (goes_wrong c.loop.invariant.0 (c.args.count - (c.loop.counter + 1)) _ (omega arith) c.in_err-view.ensures.reads)));
      same = c.read.ensures.same ∙ c.loop.invariant.1;
    }

pub loop-preserved : goal.loop-preserved
loop-preserved c = (
  goes_on c.loop.invariant.0 (omega arith) c.in_ok-view.ensures.reads refl
      (ap (map change_in) c.in_ok-push.ensures.items ∙ map_push change_in (vec_items c.loop.changes) c.of.result
      ∙ ap (λ d. map change_in (vec_items c.loop.changes) ++ d ∷ []) c.of.ensures),
  c.read.ensures.same ∙ c.loop.invariant.1,
)

pub returns : goal.returns
returns c = record { reads = sym (goes_through c.loop.invariant.0 (omega arith)); same = c.loop.invariant.1 }
