use Rattle.std.proofs.Common.{map, vec_items, sym, ◌∙◌}
use Rattle.std.proofs.lemmas.Option.{MatchOption-at_some}
use Rattle.std.proofs.lemmas.Bool.{leb-true}
use Rattle.blocks.specs.Sheet.{of_sheet}
use Rattle.blocks.proofs.Sheets.{sheet_listed}
use Rattle.drafts.specs.Asked.{asked_by}
use Rattle.display.specs.Held.{latest}
use Rattle.display.proofs.Sure.{held}
use Rattle.conflicts.proofs.Settling.{known, requests_settle}
use Rattle.conflicts.proofs.settle.Goals as goal

pub request_all-requires : goal.request_all-requires
request_all-requires c =
    let L = latest c.args.sheets.now.store.now in
    let S = of_sheet c.args.sheet.0 L in
    let listed = sheet_listed L (held c.args.sheets.now).listed c.args.sheet.0 in
    let found = MatchOption-at_some _ _ c.in-Some.conflict c.in-Some.is c.in_ok-conflict.ensures in
    record {
      known = known S listed c.args.order.now c.in-Some.conflict found;
      named = leb-true _ _ (sym c.has_names.ensures ∙ c.if-not-has_names.false);
    }

pub returns : goal.returns
returns c =
    let L = latest c.args.sheets.now.store.now in
    let listed = sheet_listed L (held c.args.sheets.now).listed c.args.sheet.0 in
    let found = MatchOption-at_some _ _ c.in-Some.conflict c.in-Some.is c.in_ok-conflict.ensures in
    requests_settle L c.args.sheet.0 c.args.next.0 c.args.order.now listed c.in-Some.conflict found
    (map asked_by (vec_items c.in_ok-requests.requests)) c.in_ok-requests.ensures
