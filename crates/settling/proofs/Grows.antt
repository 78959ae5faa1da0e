-- What changes that settle do to a listed set, one after another.
-- Grows L M a m kills news texts: the set M has, besides what L has, the lines `news` with these texts, in a chain between a and m, and strikes out `kills`.
-- Assumes nothing.
use Rattle.std.proofs.Common.{◌≡◌, ℕ, suc, ◌≤◌, eqb, ◌⊎◌, List, [], ◌∷◌, ◌++◌, map, length, sym, refl, ap, ◌∙◌, subst, ap₂, inl, inr, append_assoc, arith, length-append}
use Rattle.std.proofs.lemmas.Bool.{cond-false, ne_eqb}
use Rattle.change.specs.Membership.{In, Within, SameMembers}
use Rattle.change.specs.Model.{Add, Change, line_of, bringer}
use Rattle.change.proofs.Limits.{name_least}
use Rattle.order.specs.Order.{Put, puts, puts_from, Brought, Order, Line, Dead}
use Rattle.order.specs.Fits.{Listed}
use Rattle.order.proofs.Members.{in_left, in_right, in_either}
use Rattle.order.proofs.Precedes.{precedes_more, line_more, brought_more}
use Rattle.order.proofs.Numbers.{put_by_name}
use Rattle.blocks.specs.Sheet.{text_of}
use Rattle.blocks.proofs.Texts.{text_of_add}
use Rattle.settling.specs.Requests.{chained, numbers_from, last_of}
use Rattle.settling.proofs.Lines.{line_put}
use Rattle.settling.proofs.Linked.{Linked, linked_more, linked_on, puts_linked, put_number, number_put}

pub record Grows (L M : List Change) (a m : ℕ) (kills news : List ℕ) (texts : List (List ℕ)) : Type 0 where
  pub listed : Listed M
  pub within : Within L M
  pub linked : Linked (Order M) a m news
  pub lines : (u : ℕ) → Line M u → Line L u ⊎ In u news
  pub new : (u : ℕ) → In u news → Line M u × (2 ≤ u) × (Line L u → ⊥)
  pub dead : (u : ℕ) → Dead M u → Dead L u ⊎ In u kills
  pub struck : (u : ℕ) → In u kills → Dead M u
  pub texts_new : map (text_of M) news ≡ texts
  pub texts_old : (u : ℕ) → Line L u → 2 ≤ u → text_of M u ≡ text_of L u

pub grows_none : (L : List Change) → Listed L → (a m : ℕ) → Grows L L a m [] [] []
grows_none L h a m = record {
  listed = h;
  within = λ c i. i;
  linked = tt;
  lines = λ u l. inl l;
  new = λ u i. absurd i;
  dead = λ u d. inl d;
  struck = λ u i. absurd i;
  texts_new = refl;
  texts_old = λ u l high. refl;
}

pub map_alike : {X Y : Type 0} (f g : X → Y) (xs : List X) → ((x : X) → In x xs → f x ≡ g x) → map f xs ≡ map g xs
map_alike f g [] same = refl
map_alike f g (x ∷ xs) same = ap₂ ◌∷◌ (same x (inl refl)) (map_alike f g xs (λ y i. same y (inr i)))

pub map_on : {X Y : Type 0} (f : X → Y) (xs ys : List X) → map f (xs ++ ys) ≡ map f xs ++ map f ys
map_on f [] ys = refl
map_on f (x ∷ xs) ys = ap (λ zs. f x ∷ zs) (map_on f xs ys)

pub lines_within : (L M : List Change) → Within L M → (u : ℕ) → Line L u → Line M u
lines_within L M w = line_more (brought_more L M w)

pub order_within : (L M : List Change) → Within L M → (u v : ℕ) → Order L u v → Order M u v
order_within L M w = precedes_more (brought_more L M w)

pub dead_within : (L M : List Change) → Within L M → (u : ℕ) → Dead L u → Dead M u
dead_within L M w u (c, i, k) = (c, w c i, k)

pub grows_then :
    (L M N : List Change) (a m : ℕ) (kills news : List ℕ) (texts : List (List ℕ)) (kills' news' : List ℕ) (texts' : List (List ℕ)) →
    Grows L M a m kills news texts → Grows M N (last_of a news) m kills' news' texts' → Grows L N a m (kills ++ kills') (news ++ news') (texts ++ texts')
grows_then L M N a m kills news texts kills' news' texts' g k = record {
  listed = k.listed;
  within = λ c i. k.within c (g.within c i);
  linked = linked_on (Order N) m a news news' (linked_more (Order M) m (Order N) (order_within M N k.within) a news g.linked) k.linked;
  lines = λ u l. elim (k.lines u l) [
    | inl n ↦ elim (g.lines u n) [ inl o ↦ inl o | inr i ↦ inr (in_left news news' u i) ]
    | inr i ↦ inr (in_right news news' u i)
  ];
  new = λ u i. elim (in_either news news' u i) [
    | inl j ↦ let (line, high, fresh) = g.new u j in (lines_within M N k.within u line, high, fresh)
    | inr j ↦ let (line, high, fresh) = k.new u j in (line, high, λ l. fresh (lines_within L M g.within u l))
  ];
  dead = λ u d. elim (k.dead u d) [
    | inl e ↦ elim (g.dead u e) [ inl f ↦ inl f | inr i ↦ inr (in_left kills kills' u i) ]
    | inr i ↦ inr (in_right kills kills' u i)
  ];
  struck = λ u i. elim (in_either kills kills' u i) [ inl j ↦ dead_within M N k.within u (g.struck u j) | inr j ↦ k.struck u j ];
  texts_new =
      map_on (text_of N) news news'
      ∙ ap₂ ◌++◌ (map_alike (text_of N) (text_of M) news (λ u i. k.texts_old u (g.new u i).0 (g.new u i).1) ∙ g.texts_new) k.texts_new;
  texts_old = λ u l high. k.texts_old u (lines_within L M g.within u l) high ∙ g.texts_old u l high;
}

-- one change more, whose adds are chained
module _ (L : List Change) (c : Change) (h : Listed (c ∷ L)) (m a : ℕ) (texts : List (List ℕ)) (adds : c.adds ≡ chained m a (line_of c.name 0) texts) where
  abbrev M : List Change
  M = c ∷ L

  abbrev news : List ℕ
  news = numbers_from (line_of c.name 0) texts

  own : (p : Put) → In p (puts_from (line_of c.name 0) (chained m a (line_of c.name 0) texts)) → In p (puts c)
  own p i = subst (λ x. In p (puts_from (line_of c.name 0) x)) (sym adds) i

  own_number : (p : Put) → In p (puts c) → In p.line news
  own_number p i = put_number m a (line_of c.name 0) texts p (subst (λ x. In p (puts_from (line_of c.name 0) x)) adds i)

  line_cases : (u : ℕ) → Line M u → Line L u ⊎ In u news
  line_cases u (inl e) = inl (inl e)
  line_cases u (inr (inl e)) = inl (inr (inl e))
  line_cases u (inr (inr (p, (d, inl e, j), at))) = inr (subst (λ x. In x news) at (own_number p (subst (λ x. In p (puts x)) e j)))
  line_cases u (inr (inr (p, (d, inr i, j), at))) = inl (inr (inr (p, (d, i, j), at)))

  -- a line of the others has another number
  other_name : (d : Change) → In d L → d.name ≡ c.name → ⊥
  other_name = h.0.new

  new_line : (u : ℕ) → In u news → Line M u × (2 ≤ u) × (Line L u → ⊥)
  new_line u i =
      let (p, j, at) = number_put m a (line_of c.name 0) texts u i in
      let named = put_by_name c h.0.formed p (own p j) in
      let high : 2 ≤ u = omega (arith, name_least c h.0.formed) in (
        inr (inr (p, (c, inl refl, own p j), at)),
        high,
        λ l. let (d, k, _, e) = line_put L h.1 u l high in other_name d k (e ∙ ap bringer (sym at) ∙ named),
      )

  text_from : (front : List Add) (b n : ℕ) (ts : List (List ℕ)) → c.adds ≡ front ++ chained m b n ts → n ≡ line_of c.name (length front) → map (text_of M) (numbers_from n ts) ≡ ts
  text_from front b n [] e at = refl
  text_from front b n (t ∷ ts) e at =
      let x : Add = record { after = b; before = m; text = t } in
      ap₂ ◌∷◌ (ap (text_of M) at ∙ text_of_add M h c (inl refl) front x (chained m n (suc n) ts) e)
      (text_from (front ++ x ∷ []) n (suc n) ts (e ∙ sym (append_assoc front (x ∷ []) (chained m n (suc n) ts))) (simp length-append (omega arith)))

  text_kept : (u : ℕ) → Line L u → 2 ≤ u → text_of M u ≡ text_of L u
  text_kept u l high =
      let (d, i, _, e) = line_put L h.1 u l high in
      cond-false (eqb c.name (bringer u)) _ _ (ne_eqb c.name (bringer u) (λ f. other_name d i (e ∙ sym f)))

  pub grows_one : (kills : List ℕ) → SameMembers c.kills kills → Grows L M a m kills news texts
  grows_one kills (to, from) = record {
    listed = h;
    within = λ d i. inr i;
    linked = puts_linked (Brought M) m a (line_of c.name 0) texts (λ p i. (c, inl refl, own p i));
    lines = line_cases;
    new = new_line;
    dead = λ u (d, i, k). elim i [ inl e ↦ inr (to u (subst (λ x. In u x.kills) e k)) | inr j ↦ inl (d, j, k) ];
    struck = λ u i. (c, inl refl, from u i);
    texts_new = text_from [] a (line_of c.name 0) texts adds refl;
    texts_old = text_kept;
  }
