use Rattle.std.proofs.Common.{◌≡◌, map, filter, vec_items, rules}
use borrow.Author.Tests.{tests}
use Rattle.std.proofs.lemmas.Result.{IfOk-weaker}
use Rattle.std.proofs.lemmas.Iterator.{YieldsList-from_slice, YieldsList-from_map}
use Rattle.std.proofs.lemmas.Iterator.Consumers.{YieldsList-at, YieldsList-from_chain, YieldsList-from_copied, YieldsList-from_filter}
use Rattle.change.specs.Model.{bringer}
use Rattle.making.specs.Sorted.{sorted}
use Rattle.drafts.specs.Named.{is_foreign_to}
use Rattle.drafts.specs.Needs.{lines_in}
use Rattle.drafts.proofs.Running.{said_of_all}
use Rattle.drafts.proofs.request.needs.bringers.Goals as goal

pub returns : goal.returns
returns c =
    IfOk-weaker c.in_rising_order.result _ _ (
    λ v. said_of_all _ c.map-bringers.result (map (λ line. bringer line.0) (filter (λ line. is_foreign_to c.args.name.0 line.0) (lines_in c.args.adds.now c.args.kills.now)))
    (YieldsList-from_map _ (λ line. bringer line.0) (YieldsList-at c.map-bringers.ensures.source
    (YieldsList-from_filter _ (λ line. is_foreign_to c.args.name.0 line.0) (YieldsList-at c.filter.ensures.source
    (YieldsList-from_chain
    (YieldsList-at c.chain-2.ensures.first
    (YieldsList-from_chain
    (YieldsList-at c.chain.ensures.first (YieldsList-from_map _ (λ add. add.after) (YieldsList-at c.map-afters.ensures.source (YieldsList-from_slice c.args.adds.now c.iter.ensures.rest)) c.map-afters.ensures.closure (λ x r q k. search rules)))
    (YieldsList-at c.chain.ensures.second (YieldsList-from_map _ (λ add. add.before) (YieldsList-at c.map-befores.ensures.source (YieldsList-from_slice c.args.adds.now c.iter-2.ensures.rest)) c.map-befores.ensures.closure (λ x r q k. search rules)))
    c.chain.ensures.first_done c.chain.ensures.second_done))
    (YieldsList-at c.chain-2.ensures.second (YieldsList-from_copied (YieldsList-at c.copied.ensures.source (YieldsList-from_slice c.args.kills.now c.iter-3.ensures.rest))))
    c.chain-2.ensures.first_done c.chain-2.ensures.second_done))
    c.filter.ensures.closure (λ x b q k. search (rules, tests))))
    c.map-bringers.ensures.closure (λ x r q k. search rules))
    (λ ns. vec_items v ≡ sorted ns)
    ) c.in_rising_order.ensures
