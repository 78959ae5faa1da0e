-- That settled lines stay in their order, since no change turns lines around.
-- Assumes nothing.
use Rattle.std.proofs.Common.{◌≡◌, ℕ, ◌≤◌, List, [], ◌∷◌, ◌++◌, sym, refl, ap, ◌∙◌, subst, inl, inr}
use Rattle.std.proofs.lemmas.Bool.{eqb-true, eq-eqb}
use Rattle.change.specs.Membership.{In}
use Rattle.change.specs.Model.{Change, bringer}
use Rattle.order.specs.Order.{through, Order, Line, Dead, Alive}
use Rattle.order.specs.Fits.{FromNeeds, Listed}
use Rattle.order.proofs.Members.{kept_from, kept_has}
use Rattle.order.proofs.Fitting.{listed_sound}
use Rattle.order.proofs.Numbers.{put_by_name}
use Rattle.order.proofs.OneSet.{no_ring}
use Rattle.order.proofs.OneName.{sound_one, needs_of_sheet}
use Rattle.order.proofs.Placed.{listed_formed}
use Rattle.blocks.specs.Relation.{InOrder, Shows}
use Rattle.blocks.specs.Sheet.{of_sheet, sheet_blocks}
use Rattle.blocks.specs.Theorems.{Above}
use Rattle.blocks.proofs.Sheets.{of_sheet_within, sheet_listed}
use Rattle.blocks.proofs.Sets.{set_found}
use Rattle.blocks.proofs.Reading.{shown_above, above_in}
use Rattle.settling.specs.Settled.{singles}
use Rattle.settling.specs.Theorems.{StaysSettled}
use Rattle.settling.proofs.Cuts.{in_some_left, in_some_right, singles_in, order_front, order_back}
use Rattle.settling.proofs.Lines.{line_put}
use Rattle.settling.proofs.Grows.{lines_within, order_within}

singles_above : (R : ℕ → ℕ → Type 0) (us : List ℕ) → InOrder R (singles us) → (u v : ℕ) → Above us u v → R u v
singles_above R [] o u v h = absurd h
singles_above R (x ∷ us) (_, above, o) u v (inl (e, i)) = subst (λ y. R y v) (sym e) (above x v (inl refl) (singles_in v us i))
singles_above R (x ∷ us) (_, above, o) u v (inr h) = singles_above R us o u v h

-- what a change strikes out comes from its needs
kills_need : (L : List Change) → Listed L → (d : Change) → In d L → (u : ℕ) → In u d.kills → FromNeeds L d u
kills_need [] h d i u k = absurd i
kills_need (c ∷ L) (f, h) d (inl e) u k = let (x, j, n, p) = f.kills u (subst (λ y. In u y.kills) e k) in (x, inr j, subst (λ y. In x.name y.needs) (sym e) n, p)
kills_need (c ∷ L) (f, h) d (inr i) u k = let (x, j, n, p) = kills_need L h d i u k in (x, inr j, n, p)

-- a line is struck out by changes of its own sheet
dead_on_sheet : (L : List Change) → Listed L → (sheet u : ℕ) → Line (of_sheet sheet L) u → 2 ≤ u → Dead L u → Dead (of_sheet sheet L) u
dead_on_sheet L h sheet u line high (d, i, k) =
    let (x, j, need, (p, q, e)) = kills_need L h d i u k in
    let (y, l, _, f) = line_put (of_sheet sheet L) (sheet_listed L h sheet) u line high in
    let (there, on) = kept_from _ L y l in
    let name : x.name ≡ y.name = sym (put_by_name x (listed_formed L h x j) p q) ∙ ap bringer e ∙ sym f in
    let one = sound_one L (listed_sound L h) x y j there name in
    let of : d.sheet ≡ sheet = sym (needs_of_sheet L h d x i j need) ∙ ap (λ z. z.sheet) one ∙ eqb-true _ _ on in
    (d, kept_has _ L d i (eq-eqb _ _ of), k)

pub stays_settled : StaysSettled
stays_settled A Z s t w sheet front news back blocks others u v h =
    let L = of_sheet sheet A.changes in
    let M = of_sheet sheet Z.changes in
    let l = sheet_listed A.changes s.orderly.listed sheet in
    let k = sheet_listed Z.changes t.orderly.listed sheet in
    let within = of_sheet_within sheet A.changes Z.changes w in
    let shows = subst (Shows (Alive L) (Order L)) blocks (set_found L l) in
    let ordered = order_front (Order L) (singles news) back (order_back (Order L) front (singles news ++ back) shows.ordered) in
    let alive : (x : ℕ) → In x news → Alive M x = λ x i.
    let (line, high, lives) = shows.only x (in_some_right x front (singles news ++ back) (in_some_left x (singles news) back (singles_in x news i))) in (
      lines_within L M within x line,
      high,
      λ (d, j, n). elim (others d (kept_from _ Z.changes d j).0) [
        | inl m ↦ lives (dead_on_sheet A.changes s.orderly.listed sheet x line high (d, m, n))
        | inr none ↦ none x i n
      ],
    ) in
    let (i, j) = above_in news u v h in
    shown_above (Order M) (Alive M) (sheet_blocks M) (set_found M k) record { never = no_ring M (listed_sound M k); onward = through } u v (alive u i) (alive v j)
    (order_within L M within u v (singles_above (Order L) news ordered u v h))
