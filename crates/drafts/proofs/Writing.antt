-- One add more in a request: the others stay as they are, and what was well written stays so.
-- Assumes nothing.
use Rattle.std.proofs.Common.{◌≡◌, ℕ, ◌+◌, Bool, true, false, cond, List, [], ◌∷◌, ◌++◌, map, length, take, drop, sym, refl, ap, ◌∙◌, subst, arith, length-append, length-drop}
use lib.Seq.{take-append-le, drop-append-le, drop-append_seam}
use Rattle.std.proofs.lemmas.List.{take_all, map_push}
use Rattle.std.proofs.lemmas.Bool.{and_parts, and_from, leb-true, le-leb}
use Rattle.std.specs.List.{list_all}
use Rattle.change.specs.declared.names.Line.{Line}
use Rattle.change.specs.declared.span.Span.{Span}
use Rattle.change.specs.declared.span.AddAt.{AddAt}
use Rattle.change.specs.Model.{Add}
use Rattle.change.specs.View.{cut, inside, add_in, add_inside}
use Rattle.change.specs.WellFormed.{is_byte, is_add}
use Rattle.change.proofs.Every.{every_push}
use Rattle.making.specs.Request.{Request}
use Rattle.making.specs.Making.{is_written}
use Rattle.drafts.specs.Parts.{request_from, with_add}

written_with_add : (r : Request) (a : Add) → is_written r ≡ true → is_add a ≡ true → is_written (with_add r a) ≡ true
written_with_add r a written add =
    let (sheet, rest) = and_parts (is_byte r.sheet) _ written in
    let (adds, kills) = and_parts (list_all is_add r.adds) _ rest in
    and_from _ _ sheet (and_from _ _ (every_push is_add r.adds a adds add) kills)

module _ (texts more : List ℕ) where
  inside_more : (s : Span) → inside texts s ≡ true → inside (texts ++ more) s ≡ true
  inside_more s within = le-leb _ _ (omega (arith, leb-true _ _ within, length-append texts more))

  cut_stays : (s : Span) → inside texts s ≡ true → cut (texts ++ more) s ≡ cut texts s
  cut_stays s within =
      let reach = leb-true (s.start + s.len) (length texts) within in
      ap (take s.len) (drop-append-le s.start texts more (omega arith))
      ∙ take-append-le s.len (drop s.start texts) more (omega (arith, length-drop s.start texts))

  adds_stay : (adds : List AddAt) → list_all (add_inside texts) adds ≡ true → map (add_in (texts ++ more)) adds ≡ map (add_in texts) adds
  adds_stay [] within = refl
  adds_stay (a ∷ adds) within =
      let (here, rest) = and_parts _ _ within in
      λ i. record { after = a.after.0; before = a.before.0; text = cut_stays a.text here i } ∷ adds_stay adds rest i

  still_inside : (adds : List AddAt) → list_all (add_inside texts) adds ≡ true → list_all (add_inside (texts ++ more)) adds ≡ true
  still_inside [] within = refl
  still_inside (a ∷ adds) within = let (here, rest) = and_parts _ _ within in and_from _ _ (inside_more a.text here) (still_inside adds rest)

  abbrev behind : Span
  behind = record { start = length texts; len = length more }

  cut_behind : cut (texts ++ more) behind ≡ more
  cut_behind = ap (take (length more)) (drop-append_seam texts more) ∙ take_all (length more) more (omega arith)

  inside_behind : inside (texts ++ more) behind ≡ true
  inside_behind = le-leb _ _ (omega (arith, length-append texts more))

-- the parts as they were, and as they are with more bytes behind the texts
module _ (sheet : ℕ) (texts texts' more : List ℕ) (adds adds' : List AddAt) (kills : List Line)
    (written : is_written (request_from sheet texts adds kills) ≡ true) (inside_before : list_all (add_inside texts) adds ≡ true) (longer : texts' ≡ texts ++ more) where
  abbrev asked : Request
  asked = request_from sheet texts adds kills

  -- bytes behind the texts are no text
  pub unused_bytes : adds' ≡ adds → request_from sheet texts' adds' kills ≡ asked
  unused_bytes same = (λ i. request_from sheet (longer i) (same i) kills) ∙ ap (λ asks. record { sheet = sheet; adds = asks; kills = map (λ line. line.0) kills }) (adds_stay texts more adds inside_before)

  module _ (a : AddAt) (place : a.text ≡ behind texts more) where
    abbrev new : Add
    new = record { after = a.after.0; before = a.before.0; text = more }

    pub with_it : adds' ≡ adds ++ a ∷ [] → request_from sheet texts' adds' kills ≡ with_add asked new
    with_it pushed =
        (λ i. request_from sheet (longer i) (pushed i) kills)
        ∙ ap (λ asks. record { sheet = sheet; adds = asks; kills = map (λ line. line.0) kills })
        (map_push (add_in (texts ++ more)) adds a
        ∙ (λ i. adds_stay texts more adds inside_before i ++ record { after = a.after.0; before = a.before.0; text = (ap (cut (texts ++ more)) place ∙ cut_behind texts more) i } ∷ []))

    -- whether there was memory for it or not
    pub stays_right : (is_there : Bool) → adds' ≡ cond is_there (adds ++ a ∷ []) adds → is_add new ≡ true → (is_written (request_from sheet texts' adds' kills) ≡ true) × (list_all (add_inside texts') adds' ≡ true)
    stays_right true pushed add = (
      subst (λ r. is_written r ≡ true) (sym (with_it pushed)) (written_with_add asked new written add),
      (λ i. list_all (add_inside (longer i)) (pushed i))
          ∙ every_push (add_inside (texts ++ more)) adds a (still_inside texts more adds inside_before) (subst (λ s. inside (texts ++ more) s ≡ true) (sym place) (inside_behind texts more)),
    )
    stays_right false same add = (
      subst (λ r. is_written r ≡ true) (sym (unused_bytes same)) written,
      (λ i. list_all (add_inside (longer i)) (same i)) ∙ still_inside texts more adds inside_before,
    )
