use Rattle.std.proofs.Common.{◌≡◌, ◌+◌, ◌-◌, ◌≤◌, length, take, drop, vec_items, sym, ap, ◌∙◌, arith, rules}
use Rattle.std.proofs.lemmas.Bool.{leb-true}
use Rattle.std.specs.List.{find}
use Rattle.sheet.specs.Lines.{line_inside}
use Rattle.conflicts.proofs.Drafted.{has_number, found_passes, found_text, none_found}
use Rattle.conflicts.proofs.conflict.Conflict.text.Goals as goal

pub returns-in_err-line : goal.returns-in_err-line
returns-in_err-line c =
    let ls = vec_items c.args.self.now.all.lines in
    rw c.from_residual.ensures
    (none_found c.args.number ls (sym (c.line_of_number.ensures ∙ ap (find (has_number c.args.number)) c.deref.ensures.value) ∙ c.in_err-line.was))

pub overflow_add-result : goal.overflow_add-result
overflow_add-result c =
    let d = c.args.self.now in
    let line = c.in_ok-line.line in
    let found = sym (c.line_of_number.ensures ∙ ap (find (has_number c.args.number)) c.deref.ensures.value) ∙ c.in_ok-line.was in
    let inside : line.text.start + line.text.len ≤ length (vec_items d.all.texts) =
    leb-true _ _ (found_passes c.args.number (line_inside (vec_items d.all.texts)) (vec_items d.all.lines) line found d.inside) in
    let same = c.deref-2.ensures.value in
    let fits = c.deref-2.type_inv in
    omega (arith, ap length same)

pub slice_bounds-result-end : goal.slice_bounds-result-end
slice_bounds-result-end c =
    let d = c.args.self.now in
    let line = c.in_ok-line.line in
    let found = sym (c.line_of_number.ensures ∙ ap (find (has_number c.args.number)) c.deref.ensures.value) ∙ c.in_ok-line.was in
    let inside : line.text.start + line.text.len ≤ length c.deref-2.result.now =
    rw c.deref-2.ensures.value (leb-true _ _ (found_passes c.args.number (line_inside (vec_items d.all.texts)) (vec_items d.all.lines) line found d.inside)) in
    search rules

pub returns : goal.returns
returns c =
    let d = c.args.self.now in
    let line = c.in_ok-line.line in
    let found = sym (c.line_of_number.ensures ∙ ap (find (has_number c.args.number)) c.deref.ensures.value) ∙ c.in_ok-line.was in
    let size : line.text.start + line.text.len - line.text.start ≡ line.text.len = omega arith in
    ap (λ n. take n (drop line.text.start c.deref-2.result.now)) size
    ∙ ap (λ area. take line.text.len (drop line.text.start area)) c.deref-2.ensures.value
    ∙ sym (found_text c.args.number (vec_items d.all.texts) (vec_items d.all.lines) line found)
