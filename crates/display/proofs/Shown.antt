-- That the lines gathered are those to be shown of a sheet: living, all different, in the order of the sheet's changes and with their texts.
-- Assumes nothing.
use Rattle.std.proofs.Common.{◌≡◌, ℕ, Bool, List, [], ◌∷◌, map, Some, vec_items, All, sym, refl, ap, ◌∙◌, subst, inl, inr}
use Rattle.std.specs.List.{flat_map}
use Rattle.std.proofs.lemmas.List.Elements.{All-head, All-tail}
use Rattle.change.specs.Membership.{In}
use Rattle.change.specs.Model.{Change}
use Rattle.order.specs.Order.{Line}
use Rattle.order.specs.Table.{bef, placed}
use Rattle.order.proofs.Members.{kept_from}
use Rattle.table.specs.declared.Table.{Table}
use Rattle.table.specs.Held.{held}
use Rattle.lines.specs.declared.Lines.{Lines}
use Rattle.lines.specs.Numbers.{Finds}
use Rattle.lines.specs.Lines.{numbers_of}
use Rattle.lines.proofs.Agreeing.{order_of_found}
use Rattle.store.specs.declared.Store.{Store}
use Rattle.blocks.specs.Function.{blocks_of}
use Rattle.blocks.specs.Bytes.{sheet_bytes}
use Rattle.blocks.specs.Sheet.{of_sheet, unkilled, living, text_of, shown}
use Rattle.blocks.proofs.Sheets.{sheet_listed}
use Rattle.sheet.specs.declared.line.LineAt.{LineAt}
use Rattle.sheet.specs.Lines.{numbers, Distinct, Orders, Texts}
use Rattle.display.specs.declared.gathered.Gathered.{Gathered}
use Rattle.display.specs.Added.{added_by, spared, sparing}
use Rattle.display.specs.Gathered.{with_text, Gives}
use Rattle.display.specs.Held.{latest, Held}
use Rattle.display.proofs.Numbered.{spared_lives, living_distinct}
use Rattle.display.proofs.Orders.{sheet_order}
use Rattle.display.proofs.Slots.{put_of_line}
use Rattle.display.proofs.TextOf.{change_of_line, text_of_line}

pub numbers_with_text : (area : List ℕ) (ls : List LineAt) → numbers ls ≡ map (λ p. p.0) (map (with_text area) ls)
numbers_with_text area [] = refl
numbers_with_text area (a ∷ ls) = ap (λ l. a.number.0 ∷ l) (numbers_with_text area ls)

in_with_text : (area : List ℕ) (ls : List LineAt) (a : LineAt) → In a ls → In (with_text area a) (map (with_text area) ls)
in_with_text area [] a i = absurd i
in_with_text area (b ∷ ls) a (inl e) = inl (ap (with_text area) e)
in_with_text area (b ∷ ls) a (inr i) = inr (in_with_text area ls a i)

pub line_among : (ns ks : List ℕ) (g : Gathered) (ps : List (ℕ × List ℕ)) → Gives ns g (sparing ks ps) → (a : LineAt) → In a (vec_items g.lines) → In (with_text (vec_items g.texts) a) ps
line_among ns ks g ps gives a i =
    let p = with_text (vec_items g.texts) a in
    (kept_from _ ps p (subst (In p) gives.lines (in_with_text (vec_items g.texts) (vec_items g.lines) a i))).0

pub of_all : {X : Type 0} (P : X → Type 0) (xs : List X) → All P xs → (x : X) → In x xs → P x
of_all P [] h x i = absurd i
of_all P (y ∷ xs) h x (inl e) = subst P (sym e) (All-head P y xs h)
of_all P (y ∷ xs) h x (inr i) = of_all P xs (All-tail P y xs h) x i

-- the bytes are shown of these lines, by any order and any texts that agree with them
abbrev pub ShowsLines : Table → List LineAt → List ℕ → List ℕ → Type 0
ShowsLines table ls area out =
    (before : ℕ → ℕ → Bool) (text : ℕ → List ℕ) → Orders (held table) ls before → Texts area ls text → out ≡ sheet_bytes text (blocks_of before (numbers ls))

pub shows_same_lines : (t t' : Table) (ls ls' : List LineAt) (area area' out : List ℕ) → t ≡ t' → ls ≡ ls' → area ≡ area' → ShowsLines t ls area out → ShowsLines t' ls' area' out
shows_same_lines t t' ls ls' area area' out d e f shows =
    subst (λ x. ShowsLines x ls' area' out) d (subst (λ x. ShowsLines t x area' out) e (subst (λ x. ShowsLines t ls x out) f shows))

module _ (s : Store) (l : Lines) (held_so : Held s l) (n : ℕ) (ks : List ℕ) (g : Gathered) where
  abbrev S : List Change
  S = of_sheet n (latest s)

  module _ (same : (u : ℕ) → spared ks u ≡ unkilled S u) (gives : Gives (numbers_of l) g (sparing ks (flat_map added_by S))) where
    abbrev ls : List LineAt
    ls = vec_items g.lines

    abbrev area : List ℕ
    area = vec_items g.texts

    pub all_living : numbers ls ≡ living S
    all_living = numbers_with_text area ls ∙ ap (map (λ p. p.0)) gives.lines ∙ spared_lives ks S same

    pub all_distinct : Distinct (numbers ls)
    all_distinct = subst Distinct (sym all_living) (living_distinct S (sheet_listed (latest s) held_so.listed n))

    added_line : (a : LineAt) → In a ls → In (with_text area a) (flat_map added_by S)
    added_line = line_among (numbers_of l) ks g (flat_map added_by S) gives

    pub is_line : (a : LineAt) → In a ls → Line S a.number.0
    is_line a i =
        let (c, j, k) = change_of_line S (with_text area a) (added_line a i) in
        let (q, m, e) = put_of_line _ c.adds (with_text area a) k in
        inr (inr (q, (c, j, m), e))

    pub in_slot : (a : LineAt) → In a ls → Finds (numbers_of l) a.number.0 (Some a.slot)
    in_slot = of_all (λ a. Finds (numbers_of l) a.number.0 (Some a.slot)) ls gives.slots

    pub in_order : Orders (held l.table) ls (bef (placed S))
    in_order a b i j =
        sheet_order (latest s) held_so.listed n a.number.0 b.number.0 (is_line a i) (is_line b j)
        ∙ sym (order_of_found held_so.keeps a.number.0 b.number.0 a.slot b.slot (in_slot a i) (in_slot b j))

    pub with_texts : Texts area ls (text_of S)
    with_texts a i = text_of_line S (sheet_listed (latest s) held_so.listed n) (with_text area a) (added_line a i)

    pub shows_sheet : (out : List ℕ) → ShowsLines l.table ls area out → out ≡ shown n (latest s)
    shows_sheet out shows = shows (bef (placed S)) (text_of S) in_order with_texts ∙ ap (λ us. sheet_bytes (text_of S) (blocks_of (bef (placed S)) us)) all_living
