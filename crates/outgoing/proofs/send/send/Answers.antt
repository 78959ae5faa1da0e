use Rattle.std.proofs.Common.{refl, ap, ◌∙◌, subst, vec_items, arith}
use Rattle.std.proofs.lemmas.Result.{err_from_is_err_and}
use Rattle.change.specs.Membership.{In}
use Rattle.order.proofs.Members.{in_mapped}
use Rattle.letters.specs.Letter.{letter_bytes}
use Rattle.letters.specs.NamesView.{names_in}
use Rattle.letters.specs.Written.{Written}
use Rattle.store.specs.Kept.{kept}
use Rattle.outgoing.specs.declared.lacking.Lacking.{Lacking}
use Rattle.outgoing.specs.Places.{changes_at}
use Rattle.outgoing.proofs.Sending.{sent_is_letter, told_is_sent, few_walked, written_is_sent}
use Rattle.outgoing.proofs.send.send.Goals as goal

pub returns-in_err-lacking : goal.returns-in_err-lacking
returns-in_err-lacking c =
    let p = err_from_is_err_and c.from_residual.result c.from_residual.ensures.1 in
    record { sent = rw (p.1, p.2) refl; letter = sent_is_letter (names_in c.args.names.now) (kept c.args.store.now) c.requires.listed c.requires.few }

pub returns-in_err-places : goal.returns-in_err-places
returns-in_err-places c =
    let p = err_from_is_err_and c.from_residual-in_err-places.result c.from_residual-in_err-places.ensures.1 in
    record { sent = rw (p.1, p.2) refl; letter = sent_is_letter (names_in c.args.names.now) (kept c.args.store.now) c.requires.listed c.requires.few }

pub write_letter-requires : goal.write_letter-requires
write_letter-requires c =
    let K = kept c.args.store.now in
    let has = names_in c.args.names.now in
    let same = c.as_slice-2.ensures.value in
    let ls = vec_items c.in_ok-lacking.lacking in
    let are = told_is_sent has K c.requires.listed ls _ _ c.as_slice.ensures.value c.in_ok-lacking.ensures.told c.in_ok-lacking.ensures.are c.in_ok-places.ensures.are in
    record {
      places = λ p i.
          let (l, j, e) = in_mapped (λ (l : Lacking). l.place) p c.as_slice.result.now (c.in_ok-places.ensures.places p (subst (In p) same i)) in
          let of = c.in_ok-lacking.ensures.told l (subst (In l) c.as_slice.ensures.value j) in
          omega (arith, of.within);
      few = few_walked has K c.requires.listed c.requires.few _ (ap (changes_at K) same ∙ are);
    }

pub returns : goal.returns
returns c =
    let K = kept c.args.store.now in
    let has = names_in c.args.names.now in
    let ls = vec_items c.in_ok-lacking.lacking in
    let are = told_is_sent has K c.requires.listed ls _ _ c.as_slice.ensures.value c.in_ok-lacking.ensures.told c.in_ok-lacking.ensures.are c.in_ok-places.ensures.are in
    record {
      sent = rw c.ok_or.ensures.value (written_is_sent _ _ _ c.write_letter.result (subst (λ cs. Written 0 (letter_bytes cs) c.args.out.now c.write_letter.new.out c.write_letter.result) (ap (changes_at K) c.as_slice-2.ensures.value ∙ are) c.write_letter.ensures));
      letter = sent_is_letter has K c.requires.listed c.requires.few;
    }
