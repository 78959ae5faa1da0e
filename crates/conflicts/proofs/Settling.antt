-- That the requests for the pieces of a conflict settle it: the texts that they take are those of the lines.
-- Assumes nothing.
use Rattle.std.proofs.Common.{◌≡◌, ℕ, ◌+◌, ◌≤◌, eqb, true, List, [], ◌∷◌, vec_items, sym, refl, ap, ◌∙◌, subst, ap₂, inl, inr, arith}
use Rattle.std.proofs.lemmas.Bool.{cases_eq, cond-true, cond-false, eq-eqb, ne_eqb}
use Rattle.change.specs.Membership.{In, Within}
use Rattle.change.specs.Model.{Change, line_of}
use Rattle.change.specs.WellFormed.{is_text}
use Rattle.change.proofs.Limits.{name_least}
use Rattle.order.specs.Order.{Line, Order, Alive}
use Rattle.order.specs.Fits.{Listed}
use Rattle.order.proofs.Members.{in_left, in_right}
use Rattle.order.proofs.Numbers.{put_by_name}
use Rattle.order.proofs.Placed.{listed_formed}
use Rattle.blocks.specs.Relation.{Shows}
use Rattle.blocks.specs.Sheet.{of_sheet, added, text_of}
use Rattle.blocks.specs.Theorems.{flat}
use Rattle.blocks.proofs.Sets.{set_found}
use Rattle.sheet.specs.declared.line.LineAt.{LineAt}
use Rattle.sheet.specs.Lines.{numbers, text_in, Texts}
use Rattle.history.specs.Book.{next_name}
use Rattle.making.specs.Request.{Request}
use Rattle.settling.specs.Requests.{chained, last_of, new_of, requests, new_lines, in_pieces, made_all}
use Rattle.settling.specs.Settled as settled
use Rattle.settling.proofs.Conflict.{conflict_settles}
use Rattle.settling.proofs.Cuts.{in_some_right}
use Rattle.settling.proofs.CutUp.{pieces_are_few}
use Rattle.settling.proofs.Grows.{map_alike}
use Rattle.settling.proofs.Lines.{line_is_text}
use Rattle.display.proofs.Numbered.{in_added}
use Rattle.display.specs.declared.gathered.Gathered.{Gathered}
use Rattle.conflicts.specs.declared.conflict.Conflict.{Conflict}
use Rattle.conflicts.specs.Found.{HasTexts, Found}
use Rattle.conflicts.specs.Drafting.{numbers_in, text_of_line}
use Rattle.conflicts.specs.Settles.{Settles}
use Rattle.conflicts.proofs.Standing.{line_added}

text_in_is : (area : List ℕ) (ls : List LineAt) (text : ℕ → List ℕ) → Texts area ls text → (u : ℕ) → In u (numbers ls) → text_in area ls u ≡ text u
text_in_is area [] text texts u i = absurd i
text_in_is area (a ∷ ls) text texts u i = elim (cases_eq a.number.0 u) [
  | inl e ↦ cond-true (eqb a.number.0 u) _ _ (eq-eqb _ _ e) ∙ sym (texts a (inl refl)) ∙ ap text e
  | inr ne ↦ cond-false (eqb a.number.0 u) _ _ (ne_eqb _ _ ne) ∙ text_in_is area ls text (λ b j. texts b (inr j)) u (elim i [ inl e ↦ absurd (ne (sym e)) | inr j ↦ j ])
]

requests_alike :
    (text other : ℕ → List ℕ) (m a name : ℕ) (pieces : List (List ℕ)) (sheet : ℕ) → ((u : ℕ) → In u (flat pieces) → text u ≡ other u) →
    requests text m a name pieces sheet ≡ requests other m a name pieces sheet
requests_alike text other m a name [] sheet same = refl
requests_alike text other m a name (piece ∷ pieces) sheet same =
    ap₂ ◌∷◌ (ap (λ ts. record { sheet = sheet; adds = chained m a (line_of name 0) ts; kills = piece }) (map_alike text other piece (λ u i. same u (in_left piece (flat pieces) u i))))
    (requests_alike text other m (last_of a (new_of name piece)) (name + 16) pieces sheet (λ u i. same u (in_right piece (flat pieces) u i)))

module _ (S : List Change) (h : Listed S) (g : Gathered) (has : HasTexts S g) where
  is_line : (u : ℕ) → In u (numbers (vec_items g.lines)) → Line S u × (2 ≤ u)
  is_line u i =
      let (d, j, (p, k, e)) = in_added S u (subst (In u) has.lines i) in
      let formed = listed_formed S h d j in
      (inr (inr (p, (d, j, k), e)), omega (arith, name_least d formed, put_by_name d formed p k))

  text_is : (u : ℕ) → In u (numbers (vec_items g.lines)) → text_in (vec_items g.texts) (vec_items g.lines) u ≡ text_of S u
  text_is = text_in_is (vec_items g.texts) (vec_items g.lines) (text_of S) has.texts

  pub all_written : (u : ℕ) → In u (numbers (vec_items g.lines)) → is_text (text_in (vec_items g.texts) (vec_items g.lines) u) ≡ true
  all_written u i = let (line, high) = is_line u i in ap is_text (text_is u i) ∙ line_is_text S h u line high

module _ (S : List Change) (h : Listed S) (order : List ℕ) (c : Conflict) (f : Found S order c) where
  pub known : Within order (numbers_in c)
  known u i = subst (In u) (sym f.texts.lines) (go shown.0 shown.1)
    where
      k : settled.Conflict S order c.ends.after.0 c.ends.before.0
      k = f.conflict

      shown : Alive S u
      shown = (subst (Shows (Alive S) (Order S)) k.blocks (set_found S h)).only u (in_some_right u k.front (k.block ∷ k.back) (inl (k.same.0 u i)))

      go : Line S u → 2 ≤ u → In u (added S)
      go (inl e) high = absurd (omega arith)
      go (inr (inl e)) high = absurd (omega arith)
      go (inr (inr (p, (d, j, l), e))) high = line_added S u p d j l e

pub requests_settle :
    (L : List Change) (sheet next : ℕ) (order : List ℕ) → Listed (of_sheet sheet L) → (c : Conflict) → Found (of_sheet sheet L) order c → (rs : List Request) →
    rs ≡ requests (text_of_line c) c.ends.before.0 c.ends.after.0 next (in_pieces order) sheet → Settles L sheet next order rs
requests_settle L sheet next order h c f rs is B same named s low still room =
    let a = c.ends.after.0 in
    let m = c.ends.before.0 in
    let k : settled.Conflict (of_sheet sheet B.changes) order a m = subst (λ x. settled.Conflict (of_sheet sheet x) order a m) (sym same) f.conflict in
    let (A, made, sane, after) = conflict_settles B s low still sheet order a m k room in
    let texts : (u : ℕ) → In u (flat (in_pieces order)) → text_of_line c u ≡ text_of (of_sheet sheet B.changes) u =
    λ u i. text_is (of_sheet sheet L) h c.all f.texts u (known (of_sheet sheet L) h order c f u (subst (In u) (pieces_are_few order).0 i)) ∙ ap (λ x. text_of (of_sheet sheet x) u) (sym same) in
    let alike : rs ≡ requests (text_of (of_sheet sheet B.changes)) m a (next_name B) (in_pieces order) sheet =
    is ∙ requests_alike (text_of_line c) (text_of (of_sheet sheet B.changes)) m a next (in_pieces order) sheet texts ∙ ap (λ n. requests (text_of (of_sheet sheet B.changes)) m a n (in_pieces order) sheet) (sym named) in
    (a, m, k, A, ap (λ x. made_all x B) alike ∙ made, sane, subst (λ n. settled.Settled B A sheet k.front order (new_lines n (in_pieces order)) k.back) named after)
