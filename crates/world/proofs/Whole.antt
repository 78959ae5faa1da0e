-- The theorem of the whole, from what holds of single books and of sets of changes.
-- Assumes nothing.
use Rattle.std.proofs.Common.{◌≡◌, ℕ, ◌≤◌, Bool, true, false, cond, ◌⊎◌, ◌↔◌, List, [], ◌∷◌, ◌++◌, length, set, Some, None, Ok, Err, Option, sym, refl, ap, ◌∙◌, subst, inl, inr, arith, length-append}
use Rattle.std.specs.List.{slice_get}
use Rattle.std.proofs.lemmas.Bool.{and_parts, and_from, leb-true, le-leb, cond-true, eq-eqb}
use Rattle.change.specs.declared.refusal.Refusal.{Refusal}
use Rattle.change.specs.declared.refusal.Refusal.TheVariants.{Needed}
use Rattle.change.specs.Membership.{In, Within}
use Rattle.change.specs.Model.{Change}
use Rattle.change.specs.Bytes.{change_bytes}
use Rattle.change.proofs.Exact.{ok_is_not_err}
use Rattle.order.specs.Order.{Brought, behind, ahead, Order, Line}
use Rattle.order.proofs.Members.{kept_has, in_left, in_right, in_either}
use Rattle.order.proofs.Fitting.{listed_sound}
use Rattle.order.proofs.Agreement.{agree, agree_within}
use Rattle.blocks.specs.Sheet.{of_sheet, sheet_blocks, shown}
use Rattle.blocks.proofs.Sheets.{sheet_listed}
use Rattle.blocks.proofs.Sets.{set_found, set_same_block, set_upper, set_between, shown_one_way}
use Rattle.history.specs.declared.Outcome.TheVariants.{Refused}
use Rattle.history.specs.Book.{Book}
use Rattle.history.specs.Taking.{event, is_free, taken_back}
use Rattle.history.specs.Sane.{Sane}
use Rattle.history.proofs.Taking.{refused_alters_nothing}
use Rattle.history.proofs.Shown.{same_bytes, as_if_never}
use Rattle.letters.specs.Letter.{letter_limit, letter_bytes, is_letter}
use Rattle.sending.specs.Receiving.{received}
use Rattle.sending.proofs.Receiving.{refused_leaves_no_trace}
use Rattle.world.specs.Calls.{Done}
use Rattle.world.specs.World.{World, Action, takes, takes_back, place_of, done, concluded, acted_on, acted}
use Rattle.world.specs.Whole.{BookAt, Exact}
use Rattle.world.specs.Theorems.{WholeHolds}
use Rattle.world.proofs.Places.{same_some, nth_in, nth_set_same, set_same}
use Rattle.world.proofs.Taken.{taken_as_change, taken_as_letter}
use Rattle.world.proofs.Steps.{book_sound, decides_formed, letter_is_formed, acted_step, arises_good}

sheet_exact : (B : Book) → Sane B → (sheet : ℕ) → Exact (of_sheet sheet B.changes)
sheet_exact B s sheet =
    let S = of_sheet sheet B.changes in
    let listed = sheet_listed B.changes s.orderly.listed sheet in
    let shows = set_found S listed in
    record {
      shows = shows;
      conflicts = set_same_block S (sheet_blocks S) shows;
      upper = set_upper S (listed_sound S listed) (sheet_blocks S) shows;
      middle = set_between S (listed_sound S listed) (sheet_blocks S) shows;
    }

-- the order of the lines that two books have, of which one has all that the other has
same_order : (A B : Book) → Sane A → Sane B → Within A.changes B.changes ⊎ Within B.changes A.changes → (u v : ℕ) →
    Line A.changes u → Line A.changes v → Line B.changes u → Line B.changes v → Order A.changes u v ↔ Order B.changes u v
same_order A B s t (inl w) u v au av bu bv = agree_within A.changes B.changes (book_sound A s) (book_sound B t) w u v au av
same_order A B s t (inr w) u v au av bu bv =
    let (to, from) = agree_within B.changes A.changes (book_sound B t) (book_sound A s) w u v bu bv in (from, to)

-- what is taken back was free, and the book is then without it
back_was_free : (W : World) (i n : ℕ) (A B : Book) → BookAt W i A → (acted W (takes_back i n)).0 ≡ Ok [] → BookAt (acted W (takes_back i n)).1 i B → (is_free A n ≡ true) × (taken_back A n ≡ B)
back_was_free W i n A B here answer there =
    go (is_free A n) refl (subst (λ o. (acted_on W (takes_back i n) o).0 ≡ Ok []) here answer) (subst (λ o. BookAt (acted_on W (takes_back i n) o).1 i B) here there)
  where
    go : (b : Bool) → is_free A n ≡ b → (concluded W i (cond b (Ok ([], taken_back A n)) (Err Needed))).0 ≡ Ok [] → BookAt (concluded W i (cond b (Ok ([], taken_back A n)) (Err Needed))).1 i B → (is_free A n ≡ true) × (taken_back A n ≡ B)
    go true e ok now = (e, same_some _ _ (sym (nth_set_same W i (taken_back A n) A here) ∙ now))
    go false e ok now = ok_is_not_err (sym ok)

refused_stays : (W : World) (a : Action) (e : Refusal) → (acted W a).0 ≡ Err e → (acted W a).1 ≡ W
refused_stays W a e = at (slice_get W (place_of a))
  where
    after : (d : Done) → (concluded W (place_of a) d).0 ≡ Err e → (concluded W (place_of a) d).1 ≡ W
    after (Ok (es, B)) p = ok_is_not_err p
    after (Err f) p = refl

    at : (o : Option Book) → (acted_on W a o).0 ≡ Err e → (acted_on W a o).1 ≡ W
    at None p = refl
    at (Some B) p = after (done W a B) p

-- what a book takes of a letter leaves the world with that book
letter_taken : (W : World) (i : ℕ) (B : Book) → BookAt W i B → (cs : List Change) → is_letter cs ≡ true → (acted W (takes i (letter_bytes cs))).1 ≡ set W i (received B cs).1
letter_taken W i B here cs formed = ap (λ o. (acted_on W (takes i (letter_bytes cs)) o).1) here ∙ ap (λ d. (concluded W i d).1) (taken_as_letter B cs formed)

letter_without : (front : List Change) (c : Change) (back : List Change) → is_letter (front ++ c ∷ back) ≡ true → is_letter (front ++ back) ≡ true
letter_without front c back h =
    let (few, formed) = and_parts _ _ h in
    let most : length (front ++ c ∷ back) ≤ letter_limit = leb-true _ _ few in
    and_from _ _ (le-leb _ _ (simp length-append (omega (arith, length-append front (c ∷ back)))))
    ((decides_formed (front ++ back)).1
    (λ d i. letter_is_formed (front ++ c ∷ back) h d (elim (in_either front back d i) [ inl j ↦ in_left front (c ∷ back) d j | inr j ↦ in_right front (c ∷ back) d (inr j) ])))

pub whole_holds : WholeHolds
whole_holds W arises = record {
  sane = sane;
  same_bytes = λ V rises A B i j. same_bytes shown_one_way A B (sane A i) (arises_good V rises B j).0;
  between = λ B i c j p k.
      let here : Brought (of_sheet c.sheet B.changes) p = (c, kept_has _ B.changes c j (eq-eqb c.sheet c.sheet refl), k) in
      (behind p here, ahead p here);
  steady = λ a i A B here there u v au av bu bv.
      elim (acted_step W (arises_good W arises) a i A B here there) [
        | inl e ↦ subst (λ Z. Order A.changes u v ↔ Order Z.changes u v) e (λ o. o, λ o. o)
        | inr step ↦ same_order A B (sane A (nth_in W i A here)) step.sane step.either u v au av bu bv
      ];
  agree = λ V rises A B i j one u v au av bu bv.
      let a = book_sound A (sane A i) in
      let b = book_sound B (arises_good V rises B j).0 in (
        agree A.changes B.changes a b one u v au av bu bv,
        agree B.changes A.changes b a (λ c d k l e. sym (one d c l k (sym e))) u v bu bv au av,
      );
  exact = λ B i. sheet_exact B (sane B i);
  as_if_never = λ i n A B here answer there M listed others sheet.
      let (free, same) = back_was_free W i n A B here answer there in
      subst (λ Z. shown sheet Z.changes ≡ shown sheet M) (cond-true _ (taken_back A n) A free ∙ same)
      (as_if_never shown_one_way A (sane A (nth_in W i A here)) n free M listed others sheet);
  refused = refused_stays W;
  turned_away = λ i B here c formed r e.
      ap (acted_on W (takes i (change_bytes c))) here
      ∙ ap (concluded W i) (taken_as_change B c formed ∙ ap Ok (refused_alters_nothing B c r e))
      ∙ ap (λ V. (Ok (event c.name (Refused r) ∷ []), V)) (set_same W i B here);
  turned_away_of_letter = λ i B here front c back formed r e.
      letter_taken W i B here (front ++ c ∷ back) formed ∙ ap (set W i) (refused_leaves_no_trace B front c back r e)
      ∙ sym (letter_taken W i B here (front ++ back) (letter_without front c back formed));
}
  where
    sane : (B : Book) → In B W → Sane B
    sane B i = (arises_good W arises B i).0
