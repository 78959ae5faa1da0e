-- Each exit: the tests made so far give the refusal, whatever the others would say.
use Rattle.std.proofs.Common.{true, false, sym, refl, ◌∙◌}
use Rattle.drafts.specs.Asked.{asked_by}
use Rattle.drafts.proofs.Lowest.{refusal_of_request, past_highest}
use Rattle.drafts.proofs.request.Request.may_be_made.Goals as goal

pub returns-then-not-keeps_to_sheet : goal.returns-then-not-keeps_to_sheet
returns-then-not-keeps_to_sheet c B next =
    refusal_of_request B _ _ next (asked_by c.args.self.now) false _ _ _ _ _ _ c.args.self.now.written (sym c.keeps_to_sheet.ensures ∙ c.if-not-keeps_to_sheet.true) refl c.requires.needs c.requires.kills refl refl refl

pub returns-then-not-is_in_order : goal.returns-then-not-is_in_order
returns-then-not-is_in_order c B next =
    refusal_of_request B _ _ next (asked_by c.args.self.now) true false _ _ _ _ _ c.args.self.now.written (sym c.keeps_to_sheet.ensures ∙ c.if-not-keeps_to_sheet.false)
    (sym c.is_in_order.ensures ∙ c.if-not-is_in_order.true) c.requires.needs c.requires.kills refl refl refl

pub returns-then-not-is_within_limits : goal.returns-then-not-is_within_limits
returns-then-not-is_within_limits c B next =
    refusal_of_request B _ _ next (asked_by c.args.self.now) true true false _ _ _ _ c.args.self.now.written (sym c.keeps_to_sheet.ensures ∙ c.if-not-keeps_to_sheet.false)
    (sym c.is_in_order.ensures ∙ c.if-not-is_in_order.false) c.requires.needs c.requires.kills (sym c.is_within_limits.ensures ∙ c.if-not-is_within_limits.true) refl refl

pub returns-then-not-is_known : goal.returns-then-not-is_known
returns-then-not-is_known c B next =
    refusal_of_request B _ _ next (asked_by c.args.self.now) true true true false _ _ _ c.args.self.now.written (sym c.keeps_to_sheet.ensures ∙ c.if-not-keeps_to_sheet.false)
    (sym c.is_in_order.ensures ∙ c.if-not-is_in_order.false) c.requires.needs c.requires.kills (sym c.is_within_limits.ensures ∙ c.if-not-is_within_limits.false) (sym c.is_known.ensures ∙ c.if-not-is_known.true) refl

pub returns-then-gt : goal.returns-then-gt
returns-then-gt c B next =
    refusal_of_request B _ _ next (asked_by c.args.self.now) true true true true true _ _ c.args.self.now.written (sym c.keeps_to_sheet.ensures ∙ c.if-not-keeps_to_sheet.false)
    (sym c.is_in_order.ensures ∙ c.if-not-is_in_order.false) c.requires.needs c.requires.kills (sym c.is_within_limits.ensures ∙ c.if-not-is_within_limits.false) (sym c.is_known.ensures ∙ c.if-not-is_known.false)
    (past_highest c.args.upcoming.now.name.0 true (sym c.gt.ensures ∙ c.if-gt.true))

pub returns : goal.returns
returns c B next =
    refusal_of_request B _ _ next (asked_by c.args.self.now) true true true true false _ _ c.args.self.now.written (sym c.keeps_to_sheet.ensures ∙ c.if-not-keeps_to_sheet.false)
    (sym c.is_in_order.ensures ∙ c.if-not-is_in_order.false) c.requires.needs c.requires.kills (sym c.is_within_limits.ensures ∙ c.if-not-is_within_limits.false) (sym c.is_known.ensures ∙ c.if-not-is_known.false)
    (past_highest c.args.upcoming.now.name.0 false (sym c.gt.ensures ∙ c.if-gt.false))
