-- That the request for one piece is made: the change that it comes to fits the book, and there is room.
-- Assumes nothing.
use Rattle.std.proofs.Common.{◌≡◌, ℕ, ◌<◌, ◌≤◌, true, ◌⊎◌, List, [], ◌∷◌, map, length, Ok, sym, ap, ◌∙◌, subst, inl, inr, arith}
use lib.ListN.{length-map}
use Rattle.std.proofs.lemmas.Bool.{and_parts, and_from, le-leb, leb-true, eqb-true, cases_lt}
use Rattle.change.specs.Membership.{In}
use Rattle.change.specs.Model.{Change, line_of, bringer}
use Rattle.change.specs.WellFormed.{well_formed, is_name, is_byte, is_text, are_needs, are_adds, are_kills, lowest_name, highest_name, highest_line}
use Rattle.change.proofs.Every.{every_map}
use Rattle.order.specs.Order.{Line, Order}
use Rattle.order.specs.Fits.{FromNeeds, Fits, Listed}
use Rattle.order.proofs.Members.{kept_from, in_left, in_right, in_either, mapped_in}
use Rattle.order.proofs.Precedes.{precedes_more}
use Rattle.order.proofs.Placed.{listed_formed}
use Rattle.blocks.specs.Sheet.{of_sheet}
use Rattle.blocks.proofs.Sheets.{sheet_listed}
use Rattle.history.specs.Book.{Book, next_name}
use Rattle.history.specs.Sane.{Sane}
use Rattle.history.proofs.Counts.{next_is_new}
use Rattle.history.proofs.Verdicts.{taken_is_fits}
use Rattle.making.specs.Request.{Request, add_lines, named_lines}
use Rattle.making.specs.Making.{foreign_lines, change_for, make}
use Rattle.making.proofs.Tests.{decides_each}
use Rattle.making.proofs.Sorted.{sorted_members, sorted_rises}
use Rattle.making.proofs.Needs.{needs_exactly}
use Rattle.making.proofs.Exact.{made_if_taken}
use Rattle.settling.specs.Requests.{request, piece_limit}
use Rattle.settling.specs.Settled.{RoomFor}
use Rattle.settling.proofs.Lines.{ends_are_lines, line_put}
use Rattle.settling.proofs.Grows.{order_within}
use Rattle.settling.proofs.Few.{sorted_few}
use Rattle.settling.proofs.Adds.{length_chained, chained_names, chained_written, chained_fit}

module _ (B : Book) (s : Sane B) (low : B.plant < 16) (sheet : ℕ) where
  abbrev lines_of : List Change
  lines_of = of_sheet sheet B.changes

  pub listed_on : Listed lines_of
  listed_on = sheet_listed B.changes s.orderly.listed sheet

  on_sheet : (d : Change) → In d lines_of → In d B.changes × (d.sheet ≡ sheet)
  on_sheet d i = let (j, e) = kept_from _ B.changes d i in (j, eqb-true _ _ e)

  line_most : (u : ℕ) → Line lines_of u → u ≤ highest_line
  line_most u line = elim (cases_lt u 2) [
    | inl h ↦ omega arith
    | inr h ↦ (let (d, i, _, e) = line_put lines_of listed_on u line h in
        omega (arith, leb-true d.name highest_name (and_parts _ _ (and_parts (is_name d.name) _ (listed_formed lines_of listed_on d i)).0).1))
  ]

  module _ (text : ℕ → List ℕ) (m a : ℕ) (piece : List ℕ) (lines : (u : ℕ) → In u piece → Line lines_of u × (2 ≤ u)) (texts : (u : ℕ) → In u piece → is_text (text u) ≡ true)
      (few : length piece ≤ piece_limit) (leads : Order lines_of a m) (high : 2 ≤ m) (room : RoomFor B 1 (length piece)) where
    abbrev r : Request
    r = request text m a (next_name B) piece sheet

    abbrev c : Change
    c = change_for B r

    line_a : Line lines_of a
    line_a = (ends_are_lines lines_of listed_on a m leads).0

    line_m : Line lines_of m
    line_m = (ends_are_lines lines_of listed_on a m leads).1

    length_texts : length (map text piece) ≡ length piece
    length_texts = length-map piece text

    name_most : next_name B ≤ highest_name
    name_most = omega arith

    -- what the request names: a, m, lines of its own, and the piece
    abbrev Names : ℕ → Type 0
    Names u = (u ≡ a) ⊎ ((u ≡ m) ⊎ ((bringer u ≡ next_name B) ⊎ In u piece))

    names : (u : ℕ) → In u (named_lines r) → Names u
    names u i = elim (in_either (add_lines r.adds) piece u i) [
      | inl j ↦ elim (chained_names m (next_name B) a (line_of (next_name B) 0) (map text piece) (omega arith) (omega (arith, length_texts)) u j) [
        | inl e ↦ inl e
        | inr (inl e) ↦ inr (inl e)
        | inr (inr e) ↦ inr (inr (inl e))
      ]
      | inr j ↦ inr (inr (inr j))
    ]

    -- those that aren't its own, nor an edge, are lines of the sheet
    named_line : (u : ℕ) → Names u → (bringer u ≡ next_name B → ⊥) → Line lines_of u
    named_line u (inl e) other = rw e line_a
    named_line u (inr (inl e)) other = rw e line_m
    named_line u (inr (inr (inl e))) other = absurd (other e)
    named_line u (inr (inr (inr i))) other = (lines u i).0

    sheet_byte : is_byte sheet ≡ true
    sheet_byte =
        let (d, i, _, _) = line_put lines_of listed_on m line_m high in
        let formed = listed_formed lines_of listed_on d i in
        subst (λ x. is_byte x ≡ true) (on_sheet d i).1 (and_parts (is_byte d.sheet) _ (and_parts (is_name d.name) _ formed).1).0

    -- the changes that the lines come from
    abbrev origins : List ℕ
    origins = bringer a ∷ bringer m ∷ map bringer piece

    origin : (u : ℕ) → Names u → (bringer u ≡ next_name B → ⊥) → In (bringer u) origins
    origin u (inl e) other = inl (ap bringer e)
    origin u (inr (inl e)) other = inr (inl (ap bringer e))
    origin u (inr (inr (inl e))) other = absurd (other e)
    origin u (inr (inr (inr i))) other = inr (inr (mapped_in bringer u piece i))

    need_of : (n : ℕ) → In n c.needs → In n origins × ((d : Change) × In d B.changes × (d.name ≡ n) × (d.sheet ≡ sheet))
    need_of n i =
        let (u, named, least, other, e) = (needs_exactly B r n).0 i in
        let (d, j, _, f) = line_put lines_of listed_on u (named_line u (names u named) other) least in
        let (k, of) = on_sheet d j in
        (subst (λ x. In x origins) e (origin u (names u named) other), (d, k, f ∙ e, of))

    named_needs : (u : ℕ) → In u (named_lines r) → Line lines_of u → 2 ≤ u → FromNeeds B.changes c u
    named_needs u i line least =
        let (d, j, put, e) = line_put lines_of listed_on u line least in
        let here = (on_sheet d j).0 in
        (d, here, (needs_exactly B r d.name).1 (u, i, least, λ own. (next_is_new B s low).0 (d, here, e ∙ own), sym e), put)

    in_adds : (u : ℕ) → In u (add_lines r.adds) → In u (named_lines r)
    in_adds = in_left (add_lines r.adds) piece

    pub fits : Fits B.changes c
    fits = record {
      formed = formed;
      new = λ d i e. (next_is_new B s low).0 (d, i, e);
      needed = λ n i. (need_of n i).1;
      adds =
          chained_fit m B.changes c [] a (line_of (next_name B) 0) (map text piece)
          (λ i. elim (cases_lt a 2) [ inl h ↦ inl h | inr h ↦ inr (inr (named_needs a (in_adds a i) line_a h)) ])
          (λ i. named_needs m (in_adds m i) line_m high)
          (precedes_more (λ p b. inl b) a m (order_within lines_of B.changes (λ d i. (on_sheet d i).0) a m leads));
      kills = λ u i. let j = (sorted_members piece).0 u i in named_needs u (in_right (add_lines r.adds) piece u j) (lines u j).0 (lines u j).1;
    }
      where
        -- as `change_for` has it
        named : List ℕ
        named = map bringer (foreign_lines B r)

        range : (n : ℕ) → In n c.needs → (lowest_name ≤ n) × (n ≤ highest_name)
        range n i =
            let (d, j, e, _) = (need_of n i).1 in
            let (least, most) = and_parts _ _ (and_parts (is_name d.name) _ (listed_formed B.changes s.orderly.listed d j)).0 in
            (subst (λ x. lowest_name ≤ x) e (leb-true _ _ least), subst (λ x. x ≤ highest_name) e (leb-true _ _ most))

        needs : are_needs c.needs ≡ true
        needs =
            let few_needs : length c.needs ≤ length origins = sorted_few highest_name named origins (λ n i. let j = (sorted_members named).1 n i in ((range n j).1, (need_of n j).0)) in
            and_from _ _ (le-leb _ 32 (omega (arith, few_needs, length-map piece bringer)))
            (sorted_rises highest_name lowest_name named (λ n i. range n ((sorted_members named).1 n i)))

        adds : are_adds r.adds ≡ true
        adds =
            let count = length_chained m a (line_of (next_name B) 0) (map text piece) in
            and_from _ _ (le-leb (length r.adds) 64 (omega (arith, count, length_texts)))
            (chained_written m a (line_of (next_name B) 0) (map text piece) (line_most a line_a) (line_most m line_m) (omega (arith, length_texts, name_most))
            (every_map is_text text piece ∙ (decides_each _ piece).1 texts))

        kills : are_kills c.kills ≡ true
        kills =
            let most : (u : ℕ) → In u piece → u ≤ highest_line = λ u i. line_most u (lines u i).0 in
            let few_kills = sorted_few highest_line piece piece (λ u i. (most u i, i)) in
            and_from _ _ (le-leb (length c.kills) 64 (omega (arith, few_kills)))
            (sorted_rises highest_line 0 piece (λ u i. (omega arith, most u i)))

        formed : well_formed c ≡ true
        formed =
            and_from _ _ (and_from _ _ (le-leb lowest_name (next_name B) (omega arith)) (le-leb (next_name B) highest_name name_most))
            (and_from _ _ sheet_byte (and_from _ _ needs (and_from _ _ adds kills)))

    -- the request is not refused
    pub is_made : make B r ≡ Ok c
    is_made =
        let count = length_chained m a (line_of (next_name B) 0) (map text piece) in
        (made_if_taken B s low r).1
        (fits.formed, (taken_is_fits B s c fits.formed).1 (fits, (next_is_new B s low).1, (omega arith, omega (arith, count, length_texts))))
