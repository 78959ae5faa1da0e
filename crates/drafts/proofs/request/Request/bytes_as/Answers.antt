use Rattle.std.proofs.Common.{◌≡◌, true, length, vec_items, sym, ap, ◌∙◌, subst, arith}
use lib.ListN.{length-map}
use Rattle.std.proofs.lemmas.Bool.{and_parts}
use Rattle.std.specs.List.{list_all}
use Rattle.change.specs.View.{add_in, add_inside}
use Rattle.change.specs.WellFormed.{is_add, is_byte}
use Rattle.change.proofs.Every.{every_map}
use Rattle.drafts.specs.Asked.{asked_by}
use Rattle.drafts.proofs.request.Request.bytes_as.Goals as goal

pub bytes_of_parts-requires : goal.bytes_of_parts-requires
bytes_of_parts-requires c =
    let d = c.args.self.now in
    let adds = sym c.deref-2.ensures.value in
    let texts = sym c.deref.ensures.value in
    let written = (and_parts (list_all is_add (asked_by d).adds) _ (and_parts (is_byte d.sheet.0) _ d.written).1).0 in
    record {
      few = (c.requires.0, omega (arith, c.requires.1, length-map (vec_items d.adds) (add_in (vec_items d.texts)), ap length adds), c.requires.2);
      inside = subst (λ l. list_all (add_inside l) c.deref-2.result.now ≡ true) texts (subst (λ l. list_all (add_inside (vec_items d.texts)) l ≡ true) adds d.inside);
      formed = subst (λ l. list_all (λ a. is_add (add_in l a)) c.deref-2.result.now ≡ true) texts
          (subst (λ l. list_all (λ a. is_add (add_in (vec_items d.texts) a)) l ≡ true) adds (sym (every_map is_add (add_in (vec_items d.texts)) (vec_items d.adds)) ∙ written));
    }
