-- Lines of a listed set: what is before or behind another is one, what is struck out is one, and a line's text is a text.
-- Assumes nothing.
use Rattle.std.proofs.Common.{◌≡◌, ℕ, suc, ◌+◌, ◌≤◌, Bool, true, List, [], ◌∷◌, ◌++◌, length, sym, refl, ap, ◌∙◌, subst, inl, inr, arith}
use Rattle.std.proofs.lemmas.Bool.{and_parts}
use Rattle.std.specs.List.{list_all}
use Rattle.change.specs.Membership.{In}
use Rattle.change.specs.Model.{Add, Change, line_of, bringer}
use Rattle.change.specs.WellFormed.{is_name, is_byte, are_needs, are_adds, is_add, is_line, is_text}
use Rattle.order.specs.Order.{Put, puts, puts_from, Line, Order, Dead}
use Rattle.order.specs.Fits.{Listed}
use Rattle.order.proofs.Precedes.{line_more, brought_more}
use Rattle.order.proofs.Numbers.{put_by_name}
use Rattle.order.proofs.Placed.{listed_formed}
use Rattle.order.proofs.Fitting.{listed_sound}
use Rattle.order.proofs.Stands.{laws}
use Rattle.order.proofs.SoundPuts.{sound_puts, order_stands, on_line}
use Rattle.blocks.specs.Sheet.{text_of}
use Rattle.blocks.proofs.Texts.{text_of_add}

-- a put of a change is one of its adds, at a place
put_add : (n : ℕ) (adds : List Add) (p : Put) → In p (puts_from n adds) → (front : List Add) × (x : Add) × (back : List Add) × (adds ≡ front ++ x ∷ back) × (p.line ≡ n + length front)
put_add n [] p i = absurd i
put_add n (x ∷ adds) p (inl e) = ([], x, adds, refl, omega (arith, ap (λ q. q.line) e))
put_add n (x ∷ adds) p (inr i) =
    let (front, y, back, e, f) = put_add (suc n) adds p i in
    (x ∷ front, y, back, ap (λ z. x ∷ z) e, omega arith)

every_member : {X : Type 0} (test : X → Bool) (front : List X) (x : X) (back : List X) → list_all test (front ++ x ∷ back) ≡ true → test x ≡ true
every_member test [] x back h = (and_parts _ _ h).0
every_member test (y ∷ front) x back h = every_member test front x back (and_parts (test y) _ h).1

module _ (L : List Change) (h : Listed L) where
  pub ends_are_lines : (u v : ℕ) → Order L u v → Line L u × Line L v
  ends_are_lines u v o =
      let q = sound_puts L (listed_sound L h) in
      let (i, j) = (laws q.list q.good).ends u v (order_stands q u v o) in
      (on_line q u i, on_line q v j)

  -- a line above the edges was put by a change of its number
  pub line_put : (u : ℕ) → Line L u → 2 ≤ u → (d : Change) × In d L × ((p : Put) × In p (puts d) × (p.line ≡ u)) × (d.name ≡ bringer u)
  line_put u (inl e) high = absurd (omega arith)
  line_put u (inr (inl e)) high = absurd (omega arith)
  line_put u (inr (inr (p, (d, i, j), e))) high = (d, i, (p, j, e), sym (put_by_name d (listed_formed L h d i) p j) ∙ ap bringer e)

  pub line_is_text : (u : ℕ) → Line L u → 2 ≤ u → is_text (text_of L u) ≡ true
  line_is_text u line high =
      let (d, i, (p, j, e), _) = line_put u line high in
      let formed = listed_formed L h d i in
      let (front, x, back, split, place) = put_add (line_of d.name 0) d.adds p j in
      let adds = (and_parts (are_needs d.needs) _ (and_parts (is_byte d.sheet) _ (and_parts (is_name d.name) _ formed).1).1).1 in
      let each : list_all is_add d.adds ≡ true = (and_parts _ _ (and_parts (are_adds d.adds) _ adds).0).1 in
      let one : is_add x ≡ true = every_member is_add front x back (subst (λ z. list_all is_add z ≡ true) split each) in
      let text : is_text x.text ≡ true = (and_parts (is_line x.before) _ (and_parts (is_line x.after) _ one).1).1 in
      let at : u ≡ line_of d.name (length front) = omega arith in
      subst (λ t. is_text t ≡ true) (sym (ap (text_of L) at ∙ text_of_add L h d i front x back split)) text

pub dead_is_line : (L : List Change) → Listed L → (u : ℕ) → Dead L u → Line L u
dead_is_line [] h u (c, i, k) = absurd i
dead_is_line (d ∷ L) (f, h) u (c, inl e, k) =
    let (x, i, _, (p, j, at)) = f.kills u (subst (λ y. In u y.kills) e k) in
    inr (inr (p, (x, inr i, j), at))
dead_is_line (d ∷ L) (f, h) u (c, inr i, k) = line_more (brought_more L (d ∷ L) (λ x j. inr j)) u (dead_is_line L h u (c, i, k))
