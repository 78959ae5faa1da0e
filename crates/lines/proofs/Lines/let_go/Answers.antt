-- A slot is looked at: its line stays or goes.
use Rattle.std.proofs.Common.{◌≡◌, ◌<◌, ◌≤◌, true, length, get_or, sym, refl, ◌∙◌, subst, arith, rules}
use Rattle.std.proofs.lemmas.List.{get_or_read}
use Rattle.std.proofs.lemmas.Bool.Decides.{not_from_Decides, nat_tests}
use Rattle.lines.specs.Lines.{numbers_of}
use Rattle.lines.specs.Puts.{Given}
use Rattle.lines.proofs.Going.{gone_none, gone_past, gone_more, the_others_stay}
use Rattle.lines.proofs.Lines.let_go.Goals as goal
use Rattle.lines.proofs.Lines.let_go.Goals.{then-is_given, else-is_given}

pub loop-slot-init : goal.loop-slot-init
loop-slot-init c = gone_none c.args.self.now c.args.first c.args.count

pub loop-slot-preserved : goal.loop-slot-preserved
loop-slot-preserved c =
    let l₀ = c.args.self.now in
    let l = c.loop-slot.self in
    let s = c.loop-slot.slot in
    let gone = c.loop-slot.invariant in
    let low : 2 ≤ s = omega arith in
    let within : s < length (numbers_of l) = search rules in
    let read : c.index.result.now ≡ get_or (numbers_of l) s 0 = get_or_read (numbers_of l) s c.index.result.now within c.index.ensures 0 in
    elim c.if-is_given.branch [
      | then-is_given w ↦
          let let_go = w.let_go.ensures in
          let may : w.let_go.result ≡ true = let_go.answer ∙ (let high : s < l.table.slots = omega (arith, l.size) in grind (arith, nat_tests)) in
          rw w.self-is (gone_more l₀ l c.args.first c.args.count s gone low _ within
          (subst (Given c.args.first c.args.count) read (c.is_given.ensures.0 w.if-is_given.true))
          refl (let_go.gone may))
      | else-is_given w ↦
          rw w.self-is (gone_past l₀ l c.args.first c.args.count s gone low
          (λ given. not_from_Decides c.is_given.result c.is_given.ensures w.if-is_given.false (subst (Given c.args.first c.args.count) (sym read) given)))
    ]

pub returns : goal.returns
returns c = record {
  slots = c.loop-slot.invariant.size;
  kept = λ Q Q' keeps without.
      the_others_stay c.args.self.now c.loop-slot.self c.args.first c.args.count c.loop-slot.slot c.loop-slot.invariant (search rules) Q Q' keeps without;
}
