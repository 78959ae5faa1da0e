-- What holds of whole histories: a book stays sane, and its plant's count never falls.
-- Assumes nothing.
use Rattle.std.proofs.Common.{◌<◌, refl, ◌∙◌, arith}
use Rattle.history.specs.Book.{Book}
use Rattle.history.specs.Sane.{Sane}
use Rattle.history.specs.Later.{Later, now, took, took_back}
use Rattle.history.specs.Theorems.{SaneLater, NameGivenOnce}
use Rattle.history.proofs.Settling.{CountGoesOn}
use Rattle.history.proofs.Taking.{sane_take, take_counts}
use Rattle.history.proofs.Back.{back_or_as_was, sane_take_back}
use Rattle.history.proofs.Counts.{next_of_plant, next_above}

pub sane_later : SaneLater
sane_later A _ s now = s
sane_later A _ s (took B l c formed) = sane_take B (sane_later A B s l) c formed
sane_later A _ s (took_back B l n) = sane_take_back B (sane_later A B s l) n

count_goes_on : (A B : Book) → Sane A → Later A B → CountGoesOn A B
count_goes_on A _ s now = (refl, omega arith)
count_goes_on A _ s (took B l c formed) =
    let (plant, high) = count_goes_on A B s l in
    let (plant', high') = take_counts B (sane_later A B s l) c formed in
    (plant' ∙ plant, omega arith)
count_goes_on A _ s (took_back B l n) = let ih = count_goes_on A B s l in back_or_as_was B n (CountGoesOn A) ih (λ none. ih)

pub name_given_once : NameGivenOnce
name_given_once A B s low l d i e =
    let (plant, high) = count_goes_on A B s l in
    let low' : B.plant < 16 = rw plant low in
    omega (arith, s.orderly.counted d i (next_of_plant B low' d.name e ∙ plant), next_above B low' d.name e)
