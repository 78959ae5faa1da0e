-- That an add may name a line exactly where the tests say so: the lines of the adds before it are so many from the first on.
-- Assumes nothing.
use Rattle.std.proofs.Common.{◌≡◌, ℕ, ◌<◌, ◌≤◌, ◌&&◌, ◌||◌, List, [], map, reverse, length, get_or, take, Decides, sym, ap, ◌∙◌, ap₂, arith}
use lib.ListN.{length-map}
use Rattle.std.proofs.lemmas.Bool.{leb-true, le-leb}
use Rattle.std.proofs.lemmas.Bool.Decides.{Decides-ltb, Decides-and, Decides-like, same_from_decides}
use Rattle.std.specs.List.{list_all, enumerate_from}
use Rattle.std.proofs.lemmas.List.Folds.{list_all-map}
use Rattle.change.specs.declared.names.Line.{Line}
use Rattle.change.specs.declared.span.AddAt.{AddAt}
use Rattle.change.specs.Model.{Change, line_of}
use Rattle.change.specs.View.{blank, add_in}
use Rattle.lines.specs.Puts.{Given}
use Rattle.drafts.specs.PutsOf.{puts_of}
use Rattle.verdict.specs.Verdict.{is_named, all_named}
use Rattle.making.specs.Making.{is_edge}
use Rattle.shelf.specs.Asking.{has_line}
use Rattle.shelf.specs.Relating.{earlier, are_named}
use Rattle.shelf.proofs.Earlier.{decides_earlier}
use Rattle.shelf.proofs.Naming.{nowhere, put_has_the_lines, named_by_places}
use Rattle.drafts.proofs.Texts.{puts_of_view}
use Rattle.drafts.specs.Parts.{request_from}
use Rattle.drafts.specs.Named.{is_known_among}
use Rattle.drafts.specs.Lines.{is_own, is_here, may_name, may_name_both}

decides_own : (name place u : ℕ) → Decides (is_own name place u) (Given (line_of name 0) place u)
decides_own name place u =
    Decides-like _ (λ (low, high). (low, omega arith)) (λ (low, high). (low, omega arith)) (Decides-and _ _ (leb-true (line_of name 0) u, le-leb (line_of name 0) u) (Decides-ltb u (line_of name place)))

module _ (L : List Change) (name : ℕ) (adds : List AddAt) where
  -- the change of this name with these adds
  abbrev asked : Change
  asked = record { name = name; sheet = 0; needs = []; adds = map (add_in []) adds; kills = [] }

  may_name_is_named : (place u : ℕ) → place ≤ length adds → may_name L name place u ≡ is_named (has_line L) (earlier asked place) u
  may_name_is_named place u within =
      ap (λ b. is_edge u || (b || has_line L u)) (same_from_decides _ _ (decides_own name place u) (decides_earlier asked place u (omega (arith, length-map adds (add_in [])))))

  pub may_name_at : (i : ℕ) → i < length adds →
      are_named (has_line L) (reverse (take i (puts_of (line_of name 0) adds))) (get_or (puts_of (line_of name 0) adds) i nowhere).after (get_or (puts_of (line_of name 0) adds) i nowhere).before
      ≡ may_name_both L name i (get_or adds i blank)
  may_name_at i less =
      let (after, before) = put_has_the_lines (add_in []) nowhere blank (line_of name 0) adds i less in
      ap₂ (are_named (has_line L) (earlier asked i)) after before
      ∙ sym (ap₂ ◌&&◌ (may_name_is_named i (get_or adds i blank).after.0 (omega arith)) (may_name_is_named i (get_or adds i blank).before.0 (omega arith)))

pub known_line_by_line : (L : List Change) (name sheet : ℕ) (texts : List ℕ) (adds : List AddAt) (kills : List Line) →
    list_all (λ p. may_name_both L name p.0 p.1) (enumerate_from 0 adds) && list_all (is_here L) kills ≡ is_known_among L name (request_from sheet texts adds kills)
known_line_by_line L name sheet texts adds kills =
    ap₂ ◌&&◌ (named_by_places (has_line L) (add_in []) blank (line_of name 0) adds (λ p. may_name_both L name p.0 p.1) (may_name_at L name adds) ∙ ap (all_named (has_line L) []) (puts_of_view (line_of name 0) texts adds)) (sym (list_all-map (has_line L) (λ line. line.0) kills))
