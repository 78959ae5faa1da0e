use Rattle.std.proofs.Common.{◌≡◌, length, drop, Ok, sym, ap, ◌∙◌, arith, rules, length-append, length-drop}
use Rattle.std.proofs.lemmas.List.{append_cancel_right}
use Rattle.change.specs.Bytes.{change_bytes}
use Rattle.change.specs.Cursor.{lent, left}
use Rattle.change.specs.Reading.{change_of}
use Rattle.change.specs.View.{change_from}
use Rattle.change.proofs.Codec.{reads_exactly}
use Rattle.change.proofs.view.ChangeView.read.Goals as goal

pub since-bytes-requires : goal.since-bytes-requires
since-bytes-requires c =
    let change = change_from c.in_ok-number_within.field-0 c.in_ok-byte-2.field-0 c.in_ok-needs.needs c.in_ok-adds.adds c.in_ok-kills.kills in
    let reads : Ok (change, left c.rising-2.new.self) ≡ change_of (left c.args.cursor.now) = search rules in
    let exact = (reads_exactly (left c.args.cursor.now) change (left c.rising-2.new.self)).0 (sym reads) in
    let same : lent c.rising-2.new.self ≡ lent c.args.cursor.now =
    c.rising-2.ensures.same ∙ c.adds.ensures.same ∙ c.rising.ensures.same ∙ c.byte-2.ensures.same ∙ c.number_within.ensures.same ∙ c.byte.ensures.same in
    omega (arith, c.position-start.ensures, ap length same, ap length exact.1, length-append (change_bytes change) (left c.rising-2.new.self))

pub invariant_of-result : goal.invariant_of-result
invariant_of-result c =
    let change = change_from c.in_ok-number_within.field-0 c.in_ok-byte-2.field-0 c.in_ok-needs.needs c.in_ok-adds.adds c.in_ok-kills.kills in
    let reads : Ok (change, left c.rising-2.new.self) ≡ change_of (left c.args.cursor.now) = search rules in
    let exact = (reads_exactly (left c.args.cursor.now) change (left c.rising-2.new.self)).0 (sym reads) in
    let same : lent c.rising-2.new.self ≡ lent c.args.cursor.now =
    c.rising-2.ensures.same ∙ c.adds.ensures.same ∙ c.rising.ensures.same ∙ c.byte-2.ensures.same ∙ c.number_within.ensures.same ∙ c.byte.ensures.same in
    let start : c.position-start.result ≡ c.args.cursor.now.at = omega (arith, c.position-start.ensures, c.args.cursor.now.inside, length-drop c.args.cursor.now.at (lent c.args.cursor.now)) in
    record {
      well = exact.0;
      own = append_cancel_right _ _ _ (c.since-bytes.ensures ∙ (λ i. drop (start i) (same i)) ∙ exact.1);
    }
