-- That a request keeps to its sheet exactly where each of its adds and each line that it strikes out does.
-- Assumes nothing.
use Rattle.std.proofs.Common.{◌≡◌, ℕ, Bool, true, false, not, ◌&&◌, List, [], ◌∷◌, map, sym, refl, ap, ◌∙◌, ap₂}
use Rattle.std.specs.List.{list_all}
use Rattle.std.proofs.Math.Bool.{and_assoc}
use Rattle.std.proofs.lemmas.List.Folds.{list_all-append, list_all-map}
use Rattle.change.specs.declared.names.Line.{Line}
use Rattle.change.specs.declared.span.AddAt.{AddAt}
use Rattle.change.specs.Model.{Change}
use Rattle.change.specs.View.{add_in}
use Rattle.making.specs.Making.{is_edge}
use Rattle.making.specs.Request.{add_lines}
use Rattle.shelf.specs.Asking.{is_line_of_sheet}
use Rattle.drafts.specs.Parts.{request_from}
use Rattle.drafts.specs.Named.{keeps_to_sheet_among}
use Rattle.drafts.specs.Lines.{is_add_of_sheet, may_be_struck}

and_both : (x y p q : Bool) → (x && p) && (y && q) ≡ (x && y) && (p && q)
and_both true true p q = refl
and_both true false true q = refl
and_both true false false q = refl
and_both false y p q = refl

module _ {X : Type 0} (f : X → Bool) where
  every_both : (g : X → Bool) (xs : List X) → list_all f xs && list_all g xs ≡ list_all (λ x. f x && g x) xs
  every_both g [] = refl
  every_both g (x ∷ xs) = and_both (f x) (g x) (list_all f xs) (list_all g xs) ∙ ap (λ b. (f x && g x) && b) (every_both g xs)

module _ (L : List Change) (sheet : ℕ) where
  add_lines_of_sheet : (bytes : List ℕ) (adds : List AddAt) → list_all (is_line_of_sheet L sheet) (add_lines (map (add_in bytes) adds)) ≡ list_all (is_add_of_sheet L sheet) adds
  add_lines_of_sheet bytes [] = refl
  add_lines_of_sheet bytes (a ∷ adds) =
      sym (and_assoc (is_line_of_sheet L sheet a.after.0) (is_line_of_sheet L sheet a.before.0) _) ∙ ap (λ b. is_add_of_sheet L sheet a && b) (add_lines_of_sheet bytes adds)

pub keeps_to_sheet_line_by_line : (L : List Change) (sheet : ℕ) (texts : List ℕ) (adds : List AddAt) (kills : List Line) →
    list_all (is_add_of_sheet L sheet) adds && list_all (may_be_struck L sheet) kills ≡ keeps_to_sheet_among L (request_from sheet texts adds kills)
keeps_to_sheet_line_by_line L sheet texts adds kills =
    let lines = add_lines (map (add_in texts) adds) in
    let numbers = map (λ (line : Line). line.0) kills in
    let of_sheet = is_line_of_sheet L sheet in
    ap₂ ◌&&◌ (sym (add_lines_of_sheet L sheet texts adds))
    (sym (every_both of_sheet (λ u. not (is_edge u)) numbers ∙ list_all-map (λ u. of_sheet u && not (is_edge u)) (λ line. line.0) kills))
    ∙ sym (and_assoc (list_all of_sheet lines) (list_all of_sheet numbers) _)
    ∙ ap (λ b. b && list_all (λ u. not (is_edge u)) numbers) (sym (list_all-append of_sheet lines numbers))
