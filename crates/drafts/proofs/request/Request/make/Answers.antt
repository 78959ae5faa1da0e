use Rattle.std.proofs.Common.{length, sym, ap, ◌∙◌, arith}
use Rattle.std.proofs.lemmas.Result.{err_from_is_err_and}
use Rattle.change.specs.Bytes.{change_bytes}
use Rattle.making.specs.Sorted.{sorted}
use Rattle.shelf.specs.Sane.{changes}
use Rattle.drafts.specs.Asked.{asked_by}
use Rattle.drafts.specs.Named.{needs_named}
use Rattle.drafts.proofs.Making.{few_parts, comes_to_it, comes_to_refusal}
use Rattle.drafts.proofs.request.Request.make.Goals as goal

pub may_be_made-requires : goal.may_be_made-requires
may_be_made-requires c = record {
  needs = c.len.ensures ∙ c.in_ok-needs.needs.ok.0 ∙ ap length c.in_ok-needs.ensures;
  kills = c.len-2.ensures ∙ c.in_ok-kills.kills.ok.0 ∙ ap length c.in_ok-kills.ensures;
}

pub returns-in_err-may_be_made : goal.returns-in_err-may_be_made
returns-in_err-may_be_made c B next =
    let refused = err_from_is_err_and c.from_residual-in_err-may_be_made.result c.from_residual-in_err-may_be_made.ensures.1 in
    rw (refused.1, refused.2) (comes_to_refusal B (asked_by c.args.self.now) _ (c.in_err-may_be_made.ensures B next))

pub bytes_as-requires : goal.bytes_as-requires
bytes_as-requires c =
    let (needs, adds, kills) = few_parts (changes c.args.shelf.now) c.args.name.0 (asked_by c.args.self.now) c.requires c.in_ok-may_be_made.ensures in (
      omega (arith, ap length (c.deref.ensures.value ∙ c.in_ok-needs.ensures)),
      omega arith,
      omega (arith, ap length (c.deref-2.ensures.value ∙ c.in_ok-kills.ensures)),
    )

pub returns : goal.returns
returns c B next =
    let r = asked_by c.args.self.now in
    let needs = c.deref.ensures.value ∙ c.in_ok-needs.ensures in
    let kills = c.deref-2.ensures.value ∙ c.in_ok-kills.ensures in (
      comes_to_it B r (c.in_ok-may_be_made.ensures B next),
      c.in_ok-bytes_as.ensures
          ∙ (λ i. change_bytes (record { name = c.args.name.0; sheet = r.sheet; needs = needs i; adds = r.adds; kills = kills i }))
          ∙ (λ i. change_bytes (record { name = sym next.name i; sheet = r.sheet; needs = needs_named (sym next.name i) r; adds = r.adds; kills = sorted r.kills })),
    )
