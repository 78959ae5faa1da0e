use Rattle.store.proofs.Laid.{whole, whole_is_laid, whole_lies, laid_is_whole, laid_is_kept}
use Rattle.store.proofs.laws.whole_is_laid.Goals as goal

pub returns : goal.returns
returns c = (λ s. (whole s, whole_is_laid s), λ area used marks. (whole_lies, λ cs laid. (laid_is_whole laid, laid_is_kept laid)))
