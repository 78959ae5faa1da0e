-- What the steps of admitting a change come to: the tests that were made give the outcome, and a change that passes them all is listed on top of those that are here.
-- Assumes nothing.
use Rattle.std.proofs.Common.{◌≡◌, ℕ, Bool, true, false, leb, List, [], ◌∷◌, ◌++◌, reverse, length, sym, refl, ap, ◌∙◌, ap₂, subst, arith}
use lib.ListN.{length-map}
use Rattle.std.proofs.lemmas.Bool.{and_parts, and_from, not_from_false, leb-true}
use Rattle.change.specs.declared.refusal.Refusal.TheVariants.{Unrelated, Unordered, Full}
use Rattle.change.specs.declared.add.AddView.{AddView}
use Rattle.change.specs.declared.view.ChangeView.{ChangeView}
use Rattle.change.specs.Few.{listed}
use Rattle.change.specs.Model.{Change, line_of}
use Rattle.change.specs.View.{add_seen}
use Rattle.change.specs.Viewed.{viewed}
use Rattle.order.specs.Order.{Put, puts}
use Rattle.order.specs.Table.{placed}
use Rattle.order.specs.Fits.{Listed}
use Rattle.order.proofs.Placed.{placed_good}
use Rattle.lines.specs.Puts.{puts_of, in_order}
use Rattle.lines.specs.Lines.{numbers_of, Keeps, MayAdd, Prepared}
use Rattle.verdict.specs.Verdict.{is_known, needs_here, is_related, is_ordered}
use Rattle.verdict.proofs.Fitting.{fits_decided}
use Rattle.store.specs.Kept.{kept}
use Rattle.history.specs.declared.Outcome.TheVariants.{Taken}
use Rattle.history.specs.Book.{change_limit, line_limit, lines_of}
use Rattle.history.specs.Taking.{provided}
use Rattle.shelf.specs.declared.Shelf.{Shelf}
use Rattle.shelf.specs.Admitting.{room_for, admission, ReadyFor}
use Rattle.shelf.specs.Sane.{changes}
use Rattle.shelf.proofs.Placing.{in_order_is_ordered, lines_are_new}
use Rattle.shelf.proofs.Keeping.{sane_with, changes_push}
use Rattle.shelf.proofs.Sure.{sane}
use Rattle.shelf.specs.Together.{Together}
use Rattle.store.specs.declared.Store.{Store}
use Rattle.lines.specs.declared.Lines.{Lines}

pub outcome_by_tests : (L : List Change) (c : Change) (related ordered room : Bool) → is_related L c ≡ related → is_ordered L c ≡ ordered → room_for L c ≡ room →
    provided related Unrelated (provided ordered Unordered (provided room Full Taken)) ≡ admission L c
outcome_by_tests L c related ordered room related_is ordered_is is_room =
    sym (λ i. provided (related_is i) Unrelated (provided (ordered_is i) Unordered (provided (is_room i) Full Taken)))

-- a view asked to be admitted, with what the code has for its first line and its adds
pub record Asked (s : Shelf) (v : ChangeView) (first : ℕ) (adds : List AddView) : Type 0 where
  pub ready : needs_here (changes s) (viewed v) ≡ true
  pub new : is_known (changes s) (viewed v) ≡ false
  pub is_first : first ≡ line_of v.name.0 0
  pub are_adds : adds ≡ listed v.adds

module _ {s : Shelf} {v : ChangeView} {first : ℕ} {adds : List AddView} (asked : Asked s v first adds) where
  abbrev L : List Change
  L = changes s

  abbrev d : Change
  d = viewed v

  pub count_of_adds : length adds ≡ length d.adds
  count_of_adds = ap length asked.are_adds ∙ sym (length-map (listed v.adds) add_seen)

  pub may_add : MayAdd s.lines first (length adds) (placed L)
  may_add = (
    (sane s).keeps,
    placed_good L (sane s).listed,
    λ u (low, high) on. lines_are_new L d (sane s).listed v.well asked.new u (omega (arith, asked.is_first), omega (arith, asked.is_first, count_of_adds)) on,
  )

  pub puts_are : puts_of first adds ≡ puts d
  puts_are = ap₂ puts_of asked.is_first asked.are_adds

  pub ordered_as_answered : (r : Bool) → ((Q : List Put) → MayAdd s.lines first (length adds) Q → r ≡ in_order Q (puts_of first adds)) → is_ordered L d ≡ r
  ordered_as_answered r answer = sym (answer (placed L) may_add ∙ ap (in_order (placed L)) puts_are ∙ in_order_is_ordered (placed L) (puts d))

-- A view asked on a shelf, asked again on one with the same changes, its adds as they stand in it.
pub asked_still : (s t : Shelf) (v : ChangeView) (first : ℕ) → t.store ≡ s.store → needs_here (changes s) (viewed v) ≡ true → is_known (changes s) (viewed v) ≡ false → first ≡ line_of v.name.0 0 →
    Asked t v first (listed v.adds)
asked_still s t v first same ready new is_first = record {
  ready = subst (λ u. needs_here (reverse (kept u)) (viewed v) ≡ true) (sym same) ready;
  new = subst (λ u. is_known (reverse (kept u)) (viewed v) ≡ false) (sym same) new;
  is_first = is_first;
  are_adds = refl;
}

-- A view that passed every test comes in: the shelf that then is has it in its store, and its lines where they were prepared.
module _ {s : Shelf} {v : ChangeView} {first : ℕ} {adds : List AddView} (asked : Asked s v first adds) {slots : List ℕ} (ready : ReadyFor s (viewed v) slots) where
  listed_more : Listed (viewed v ∷ changes s)
  listed_more = (
    (fits_decided (changes s) (sane s).listed (viewed v)).0
        (and_from _ _ v.well (and_from _ _ (not_from_false _ asked.new) (and_from _ _ asked.ready (and_from _ _ ready.related ready.ordered)))),
    (sane s).listed,
  )

  pub sane_after : (store : Store) (lines : Lines) → kept store ≡ kept s.store ++ viewed v ∷ [] → ((Q : List Put) → Prepared s.lines first slots Q → Keeps lines Q) → length (numbers_of lines) ≡ length (numbers_of s.lines) → Together store lines
  sane_after store lines pushed keeps slots_same =
      let d = viewed v in
      let (few, few_lines) = and_parts (leb (length (d ∷ changes s)) change_limit) (leb (lines_of (d ∷ changes s)) line_limit) ready.room in
      let prepared = subst (λ u. Prepared s.lines u slots (placed (d ∷ changes s))) (sym asked.is_first) ready.prepared in
      sane_with store lines (d ∷ changes s) (changes_push s.store store d pushed) listed_more (keeps _ prepared) (slots_same ∙ (sane s).slots) (leb-true _ _ few) (leb-true _ _ few_lines)
