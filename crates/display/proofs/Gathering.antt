-- One line more among those gathered: the texts that lie there already stay as they are.
-- Assumes nothing.
use Rattle.std.proofs.Common.{◌≡◌, ℕ, ◌+◌, ◌≤◌, true, List, [], ◌∷◌, ◌++◌, map, length, take, drop, Some, vec_items, All, sym, refl, ap, ◌∙◌, subst, ap₂, arith, length-append, length-drop, take_all, drop_at}
use lib.Seq.{take-append-le}
use Rattle.std.proofs.lemmas.List.Elements.{All-push}
use Rattle.std.proofs.lemmas.List.{drop-append-le, map_push}
use Rattle.std.proofs.lemmas.Bool.{leb-true, le-leb, and_parts, and_from}
use Rattle.std.specs.List.{list_all}
use Rattle.change.specs.declared.span.Span.{Span}
use Rattle.change.specs.View.{cut, inside}
use Rattle.change.proofs.Every.{every_push}
use Rattle.lines.specs.Numbers.{Finds}
use Rattle.sheet.specs.declared.line.LineAt.{LineAt}
use Rattle.sheet.specs.Lines.{line_inside}
use Rattle.display.specs.declared.gathered.Gathered.{Gathered}
use Rattle.display.specs.Gathered.{with_text, Gives}

module _ (area more : List ℕ) where
  inside_more : (s : Span) → inside area s ≡ true → inside (area ++ more) s ≡ true
  inside_more s h = le-leb (s.start + s.len) (length (area ++ more)) (omega (arith, leb-true (s.start + s.len) (length area) h, length-append area more))

  cut_same : (s : Span) → inside area s ≡ true → cut (area ++ more) s ≡ cut area s
  cut_same s h =
      let within : s.start + s.len ≤ length area = leb-true (s.start + s.len) (length area) h in
      ap (take s.len) (drop-append-le s.start area more (omega arith)) ∙ take-append-le s.len (drop s.start area) more (omega (arith, length-drop s.start area))

  lines_same : (ls : List LineAt) → list_all (line_inside area) ls ≡ true → map (with_text (area ++ more)) ls ≡ map (with_text area) ls
  lines_same [] h = refl
  lines_same (a ∷ ls) h =
      let (e, rest) = and_parts (line_inside area a) (list_all (line_inside area) ls) h in
      λ i. (a.number.0, cut_same a.text e i) ∷ lines_same ls rest i

  all_inside_more : (ls : List LineAt) → list_all (line_inside area) ls ≡ true → list_all (line_inside (area ++ more)) ls ≡ true
  all_inside_more [] h = refl
  all_inside_more (a ∷ ls) h =
      let (e, rest) = and_parts (line_inside area a) (list_all (line_inside area) ls) h in
      and_from (line_inside (area ++ more) a) (list_all (line_inside (area ++ more)) ls) (inside_more a.text e) (all_inside_more ls rest)

  abbrev behind : Span
  behind = record { start = length area; len = length more }

  cut_behind : cut (area ++ more) behind ≡ more
  cut_behind = ap (take (length more)) (drop_at area more (length area) refl) ∙ take_all (length more) more (omega arith)

  inside_behind : inside (area ++ more) behind ≡ true
  inside_behind = le-leb (length area + length more) (length (area ++ more)) (omega (arith, length-append area more))

module _ (g g' : Gathered) (line slot : ℕ) (text : List ℕ) where
  abbrev pub new_line : LineAt
  new_line = record { number = record { 0 = line }; slot = slot; text = behind (vec_items g.texts) text }

  pub gives_push : vec_items g'.texts ≡ vec_items g.texts ++ text → vec_items g'.lines ≡ vec_items g.lines ++ new_line ∷ [] →
      (ns : List ℕ) (ps : List (ℕ × List ℕ)) → Gives ns g ps → Finds ns line (Some slot) → Gives ns g' (ps ++ (line, text) ∷ [])
  gives_push texts lines ns ps gives found = record {
    lines =
        ap₂ (λ area ls. map (with_text area) ls) texts lines
        ∙ map_push (with_text all) (vec_items g.lines) new_line
        ∙ (λ i. (lines_same (vec_items g.texts) text (vec_items g.lines) gives.inside ∙ gives.lines) i ++ (line, cut_behind (vec_items g.texts) text i) ∷ []);
    slots = subst (All (λ a. Finds ns a.number.0 (Some a.slot))) (sym lines) (All-push (λ a. Finds ns a.number.0 (Some a.slot)) (vec_items g.lines) new_line gives.slots found);
    inside =
        ap₂ (λ area ls. list_all (line_inside area) ls) texts lines
        ∙ every_push (line_inside all) (vec_items g.lines) new_line (all_inside_more (vec_items g.texts) text (vec_items g.lines) gives.inside) (inside_behind (vec_items g.texts) text);
  }
    where
      all : List ℕ
      all = vec_items g.texts ++ text
