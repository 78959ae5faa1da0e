use Rattle.std.proofs.Common.{map, refl, ap, ◌∙◌, sym, subst}
use Rattle.store.specs.First.{FirstAt}
use Rattle.store.proofs.Firsts.{first_at}
use Rattle.store.proofs.Places.{all_shown}
use Rattle.store.proofs.Store.find.Goals as goal

pub returns : goal.returns
returns c =
    let s = c.args.self.now in
    let same = ap (map (λ e. e.name.0)) c.as_slice.ensures.value ∙ all_shown s (λ e. e.name.0) (λ d. d.name) (λ start d. refl) in
    subst (λ l. FirstAt l c.args.name.0 c.find.result) same (subst (FirstAt _ c.args.name.0) (sym c.find.ensures) (first_at c.as_slice.result.now c.args.name.0))
