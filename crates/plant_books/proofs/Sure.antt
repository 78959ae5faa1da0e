-- A book is known to be sane without it being known how (under a truncation): each part of that is a proposition or can be decided, so it is sane.
-- Assumes nothing.
use Rattle.std.proofs.Common.{List, [], ◌∷◌}
use mathlib.Core.HLevel.{⊥_prop}
use mathlib.Core.Bool.{Bool-set}
use mathlib.Core.Logic.{∥∥₁_elim, ∥∥₁_map}
use Rattle.change.specs.Model.{Change}
use Rattle.verdict.proofs.Fitting.{listed_decided}
use Rattle.shelf.proofs.Sure.{Sure, sure_prop, sure_decided, sure_le, part}
use Rattle.history.specs.Book.{Book}
use Rattle.history.specs.Sane as histories
use Rattle.history.proofs.Names.{decides_lacks}
use Rattle.plant_books.specs.declared.contents.Contents.{Contents}
use Rattle.plant_books.specs.Sane.{model_of, Sane}

sure_distinct : (S : List Change) → Sure (histories.Distinct S)
sure_distinct [] t = tt
sure_distinct (c ∷ S) t = (λ h. ∥∥₁_elim t ⊥_prop (λ d. d.0 h), sure_distinct S (∥∥₁_map t (λ d. d.1)))

sure_orderly : (B : Book) → Sure (histories.Orderly B)
sure_orderly B t = record {
  listed = part (λ k. k.listed) (sure_decided _ (listed_decided B.changes)) t;
  formed = λ c i. part (λ k. k.formed c i) (sure_prop (Bool-set _ _)) t;
  distinct = part (λ k. k.distinct) (sure_distinct B.waiting) t;
  outside = λ c i h. ∥∥₁_elim t ⊥_prop (λ k. k.outside c i h);
  few_changes = part (λ k. k.few_changes) (sure_le _ _) t;
  few_lines = part (λ k. k.few_lines) (sure_le _ _) t;
  few_wait = part (λ k. k.few_wait) (sure_le _ _) t;
  counted = λ c i e. part (λ k. k.counted c i e) (sure_le _ _) t;
}

pub sure_sane : (b : Contents) → Sure (Sane b)
sure_sane b t =
    let orderly = part (λ k. k.model.orderly) (sure_orderly (model_of b)) t in
    record {
      whole = record {
        to_come = record { most = part (λ k. k.whole.to_come.most) (sure_le _ _) t; space = part (λ k. k.whole.to_come.space) (sure_le _ _) t };
        to_wait = record { most = part (λ k. k.whole.to_wait.most) (sure_le _ _) t; space = part (λ k. k.whole.to_wait.space) (sure_le _ _) t };
        orderly = orderly;
        counted = part (λ k. k.whole.counted) (sure_le _ _) t;
      };
      model = record {
        orderly = orderly;
        lacking = λ c i. part (λ k. k.model.lacking c i) (sure_decided _ (decides_lacks (model_of b).changes c)) t;
      };
    }
