-- The blocks of a walk, cut at a place: where a block ends, they are cut too.
-- Assumes nothing.
use Rattle.std.proofs.Common.{◌≡◌, ℕ, zero, suc, ◌+◌, ◌-◌, ◌<◌, ◌≤◌, Bool, true, false, List, [], ◌∷◌, ◌++◌, length, get_or, take, drop, Some, None, Option, IfSome, sym, refl, ap, ◌∙◌, subst, inl, inr, append_assoc, append-nil, arith}
use Rattle.std.specs.Iterator.{Yields, YieldsThen}
use Rattle.std.specs.List.{between, FoldsTo}
use Rattle.std.proofs.lemmas.List.Edits.{get_or-between}
use Rattle.std.proofs.lemmas.List.{take_all, length-map, take-map, drop-map}
use Rattle.change.specs.Membership.{In, SameMembers}
use Rattle.order.proofs.Members.{in_either}
use Rattle.blocks.specs.Function.{cut_all}
use Rattle.blocks.specs.Theorems.{flat}
use Rattle.sheet.specs.declared.line.LineAt.{LineAt}
use Rattle.sheet.specs.Lines.{numbers}
use Rattle.sheet.specs.declared.block.Block.{Block}
use Rattle.sheet.specs.declared.block.Blocks.{Blocks}
use Rattle.sheet.specs.Blocks.{NextBlock}
use Rattle.sheet.specs.Ends.{BlockEnd}
use Rattle.sheet.proofs.Stepping.{Stepping, goes_on, as_begun}
use Rattle.table.specs.Held.{held}
use Rattle.sheet.proofs.Cutting.{block_cut}
use Rattle.conflicts.proofs.Members.{decides_has_line}
use Rattle.conflicts.specs.Block.{has_line, CutTo, WithLine, PartOf, IsBlock, BlockOf, NoBlockOf}

take_on : {X : Type 0} (i j : ℕ) (xs : List X) → i ≤ j → take j xs ≡ take i xs ++ between i j xs
take_on zero j xs h = ap (λ n. take n xs) (omega arith)
take_on (suc i) zero xs h = absurd (omega arith)
take_on (suc i) (suc j) [] h = sym (none (suc j - suc i))
  where
    none : {Y : Type 0} (n : ℕ) → take {A = Y} n [] ≡ []
    none zero = refl
    none (suc n) = refl
take_on (suc i) (suc j) (x ∷ xs) h = ap (λ l. x ∷ l) (take_on i j xs (omega arith) ∙ ap (λ n. take i xs ++ take n (drop i xs)) (omega arith))

flat_push : (bs : List (List ℕ)) (b : List ℕ) → flat (bs ++ b ∷ []) ≡ flat bs ++ b
flat_push [] b = append-nil b
flat_push (c ∷ bs) b = ap (λ l. c ++ l) (flat_push bs b) ∙ sym (append_assoc c (flat bs) b)

-- Searching R ws u start: the blocks are cut at `start`, and u is in none of those before it.
pub record Searching (R : ℕ → ℕ → Bool) (ws : List LineAt) (u start : ℕ) : Type 0 where
  pub within : start ≤ length ws
  pub above : CutTo R ws start
  pub passed : In u (take start (numbers ws)) → ⊥

pub search_begins : (R : ℕ → ℕ → Bool) (ws : List LineAt) (u : ℕ) → Searching R ws u 0
search_begins R ws u = record { within = omega arith; above = λ before orders. ([], refl, refl); passed = λ i. i }

module _ (R : ℕ → ℕ → Bool) (ws : List LineAt) (u start : ℕ) (at : Searching R ws u start) where
  module _ (r : ℕ) (end : BlockEnd R ws start (start + 1) r) where
    pub is_block : IsBlock R ws start r
    is_block = record { some = omega (arith, end.past); within = end.within; above = at.above; here = λ before orders. block_cut R before ws orders start r end }

    pub search_goes_on : (In u (between start r (numbers ws)) → ⊥) → Searching R ws u r
    search_goes_on out = record {
      within = end.within;
      above = λ before orders.
          let (front, lines, blocks) = at.above before orders in
          let block = between start r (numbers ws) in
          let rest = cut_all before (drop r (numbers ws)) in (
            front ++ block ∷ [],
            flat_push front block ∙ ap (λ l. l ++ block) lines ∙ sym joined,
            blocks ∙ ap (λ l. front ++ l) (block_cut R before ws orders start r end) ∙ sym (append_assoc front (block ∷ []) rest),
          );
      passed = λ i. elim (in_either (take start (numbers ws)) (between start r (numbers ws)) u (subst (In u) joined i)) [ inl j ↦ at.passed j | inr j ↦ out j ];
    }
      where
        joined : take r (numbers ws) ≡ take start (numbers ws) ++ between start r (numbers ws)
        joined = take_on start r (numbers ws) (omega (arith, end.past))

  pub search_ends : length ws ≤ start → In u (numbers ws) → ⊥
  search_ends done i = at.passed (subst (In u) (sym (take_all start (numbers ws) (omega (arith, length-map ws (λ a. a.number.0))))) i)

numbers_between : (s e : ℕ) (ws : List LineAt) → numbers (between s e ws) ≡ between s e (numbers ws)
numbers_between s e ws = sym (take-map (λ a. a.number.0) (e - s) (drop s ws)) ∙ ap (take (e - s)) (sym (drop-map (λ a. a.number.0) s ws))

-- the iterator over the blocks gives r, and goes on to t
abbrev Gives : Blocks → Option Block → Blocks → Type 0
Gives s r t = (t.table ≡ s.table) × (t.walked ≡ s.walked) × NextBlock (held s.table.now) s.walked.now s.start r t.start

-- a search through the blocks by a test that fails where the block lacks the line u, and holds where it has it
module _ {F : Type 0} (Fails : F → Block → F → Type 0) (Holds : Block → F → Type 0) (f : F) (u : ℕ) where
  module _ (begun : Blocks) where
    abbrev R : ℕ → ℕ → Bool
    R = held begun.table.now

    abbrev ws : List LineAt
    ws = begun.walked.now

    passed_over : ((b : Block) (h : F) → Fails f b h → (h ≡ f) × (false ≡ has_line b.lines.now u)) → (bs : List Block) (s t : Blocks) (g : F) → Yields Gives s bs t → FoldsTo Fails f bs g → Stepping begun s → Searching R ws u s.start → (g ≡ f) × Stepping begun t × Searching R ws u t.start
    passed_over lacks [] s t g same unchanged stepping at = (sym unchanged, subst (Stepping begun) same stepping, subst (λ (v : Blocks). Searching R ws u v.start) same at)
    passed_over lacks (b ∷ bs) s t g (next, (table, walked, step), rest) (h, fails, others) stepping at =
        let (unchanged, out) = lacks b h fails in
        let (end, _, lines) = as_begun begun s stepping (Some b) next step in
        let stands = ap numbers lines ∙ numbers_between s.start next.start ws in
        passed_over lacks bs next t g rest (subst (λ p. FoldsTo Fails p bs g) unchanged others) (goes_on begun s stepping next table walked)
        (search_goes_on R ws u s.start at next.start end (λ i. let both : true ≡ false = sym ((decides_has_line b.lines.now u).1 (subst (In u) (sym stands) i)) ∙ sym out in cc))

    found_at : ((b : Block) (h : F) → Holds b h → true ≡ has_line b.lines.now u) → (o : Option Block) (t v : Blocks) → NextBlock R ws t.start o v.start → Searching R ws u t.start → IfSome o (λ b. (h : F) × Holds b h) → WithLine R ws u o
    found_at has None t v (ends, _) at none = search_ends R ws u t.start at (omega arith)
    found_at has (Some b) t v (end, above, lines) at (h, holds) =
        (t.start, v.start, record { above = above; lines = lines }, is_block R ws u t.start at v.start end, (decides_has_line b.lines.now u).0 (sym (has b h holds)))

pub searched :
    {F : Type 0} (Fails : F → Block → F → Type 0) (Holds : Block → F → Type 0) (f : F) (u : ℕ) (begun : Blocks) (o : Option Block) (v : Blocks) (bs : List Block) (g : F) → begun.start ≡ 0 →
    YieldsThen Gives begun bs o v → FoldsTo Fails f bs g → IfSome o (λ b. (h : F) × Holds b h) → ((b : Block) (h : F) → Fails f b h → (h ≡ f) × (false ≡ has_line b.lines.now u)) →
    (g ≡ f → (b : Block) (h : F) → Holds b h → true ≡ has_line b.lines.now u) → WithLine (held begun.table.now) begun.walked.now u o
searched Fails Holds f u begun o v bs g starts (t, yields, (_, _, last)) fails found lacks has =
    let R = held begun.table.now in
    let ws = begun.walked.now in
    let begins = subst (Searching R ws u) (sym starts) (search_begins R ws u) in
    let (unchanged, stepping, at) = passed_over Fails Holds f u begun lacks bs begun t g yields fails (record { table = refl; walked = refl }) begins in
    found_at Fails Holds f u begun (has unchanged) o t v (as_begun begun t stepping o v last) at found

pub no_block_from :
    (R : ℕ → ℕ → Bool) (ws : List LineAt) (order : List ℕ) (u start end : ℕ) → 0 < length order → u ≡ get_or order 0 0 → IsBlock R ws start end → In u (between start end (numbers ws)) →
    (2 ≤ length (between start end (numbers ws)) → SameMembers order (between start end (numbers ws)) → ⊥) → NoBlockOf R ws order
no_block_from R ws [] u start end some e block in_block none = absurd (omega arith)
no_block_from R ws (v ∷ order) u start end some e block in_block none = inr (start, end, block, subst (λ x. In x (between start end (numbers ws))) e in_block, none)

-- a part of a walk that is a block
module _ (R : ℕ → ℕ → Bool) (ws : List LineAt) (order : List ℕ) (start end : ℕ) (b : Block) (part : PartOf ws start end b) (block : IsBlock R ws start end) where
  stands : numbers b.lines.now ≡ between start end (numbers ws)
  stands = ap numbers part.lines ∙ numbers_between start end ws

  pub is_block_of : 2 ≤ length b.lines.now → SameMembers order (numbers b.lines.now) → BlockOf R ws order start end
  is_block_of long same = record {
    block = block;
    long = omega (arith, long, ap length stands, length-map b.lines.now (λ a. a.number.0));
    same = subst (SameMembers order) stands same;
  }

  pub is_no_block_of : (u : ℕ) → 0 < length order → u ≡ get_or order 0 0 → In u (numbers b.lines.now) → (2 ≤ length b.lines.now → SameMembers order (numbers b.lines.now) → ⊥) → NoBlockOf R ws order
  is_no_block_of u some first has none =
      no_block_from R ws order u start end some first block (subst (In u) stands has)
      (λ long same. none (omega (arith, long, ap length stands, length-map b.lines.now (λ a. a.number.0))) (subst (SameMembers order) (sym stands) same))

  pub first_line : (d : LineAt) → get_or b.lines.now 0 d ≡ get_or ws start d
  first_line d = let inner : start + 0 < end = omega (arith, block.some) in ap (λ ls. get_or ls 0 d) part.lines ∙ get_or-between ws start end 0 d inner ∙ ap (λ k. get_or ws k d) (omega arith)
