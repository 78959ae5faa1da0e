use Rattle.std.proofs.Common.{◌≡◌, ℕ, ◌≤◌, true, List, ◌++◌, length, Some, None, vec_items, sym, ap, ◌∙◌, subst, arith}
use Rattle.std.specs.List.{list_all}
use Rattle.table.specs.Held.{held}
use Rattle.blocks.specs.Bytes.{block_bytes}
use Rattle.change.specs.Membership.{In}
use Rattle.sheet.specs.declared.block.Blocks.{Blocks}
use Rattle.sheet.specs.declared.line.LineAt.{LineAt}
use Rattle.sheet.specs.Lines.{numbers, line_inside, before_in, text_in, no_line, Texts}
use Rattle.sheet.proofs.Members.{in_between, every_within}
use Rattle.sheet.proofs.ByNumber.{lines_order, lines_texts}
use Rattle.sheet.proofs.Stepping.{goes_on, as_begun}
use Rattle.sheet.proofs.Writing.{Writing, block_written, lines_shown}
use Rattle.sheet.proofs.show.Goals as goal

pub push_block-requires : goal.push_block-requires
push_block-requires c =
    let begun = c.into_iter-block-iterator.result in
    let (end, above, lines) = as_begun begun c.loop-block.block-iterator c.loop-block.invariant.0 (Some c.in-Some.block) c.next.new.self c.in-Some.ensures.steps.2 in
    let walked : begun.walked.now ≡ vec_items c.in_ok-ordered.ordered =
    ap (λ (b : Blocks). b.walked.now) c.into_iter-block-iterator.ensures.into_iter_gives ∙ c.new-block-items.ensures.walked ∙ c.deref.ensures.value in
    let test = line_inside c.args.area.now in
    subst (λ ls. list_all test ls ≡ true) (sym lines)
    (every_within test no_line _ c.args.lines.now c.requires.inside (λ a i. c.in_ok-ordered.ensures.only a (subst (In a) walked (in_between a _ _ begun.walked.now i))))

pub loop-block-preserved : goal.loop-block-preserved
loop-block-preserved c =
    let begun = c.into_iter-block-iterator.result in
    let at = c.loop-block.block-iterator in
    let steps = c.in-Some.ensures.steps in
    let (end, above, lines) = as_begun begun at c.loop-block.invariant.0 (Some c.in-Some.block) c.next.new.self steps.2 in
    let out = vec_items c.loop-block.out in
    let more = vec_items c.push_block.new.out in (
      goes_on begun at c.loop-block.invariant.0 c.next.new.self steps.0 steps.1,
      block_written (held begun.table.now) c.args.area.now begun.walked.now at.start out c.loop-block.invariant.1 c.next.new.self.start more end
          (subst (λ (ls : List LineAt). (text : ℕ → List ℕ) → Texts c.args.area.now ls text → more ≡ out ++ block_bytes text (numbers ls)) lines c.in_ok-push_block.ensures),
    )

pub returns : goal.returns
returns c =
    let R = held c.args.table.now in
    let area = c.args.area.now in
    let ls = c.args.lines.now in
    let ws = vec_items c.in_ok-ordered.ordered in
    let begun = c.into_iter-block-iterator.result in
    let at = c.loop-block.block-iterator in
    let walked : begun.walked.now ≡ ws = ap (λ (b : Blocks). b.walked.now) c.into_iter-block-iterator.ensures.into_iter_gives ∙ c.new-block-items.ensures.walked ∙ c.deref.ensures.value in
    let table : begun.table.now ≡ c.args.table.now = ap (λ (b : Blocks). b.table.now) c.into_iter-block-iterator.ensures.into_iter_gives ∙ c.new-block-items.ensures.table in
    let (ends, _) = as_begun begun at c.loop-block.invariant.0 None c.next.new.self c.in-None.ensures.steps.2 in
    let out = vec_items c.loop-block.out in
    let writing = subst (λ t. Writing (held t) area ws at.start out) table (subst (λ vs. Writing (held begun.table.now) area vs at.start out) walked c.loop-block.invariant.1) in
    let done : length ws ≤ at.start = omega (arith, ends, ap length walked) in
    let alike = lines_shown R area ls ws at.start out writing done c.in_ok-ordered.ensures.only c.in_ok-ordered.ensures.is in
    record { shown = alike (before_in R ls) (text_in area ls) (lines_order ls c.requires.distinct R) (lines_texts ls c.requires.distinct area); alike = alike }
