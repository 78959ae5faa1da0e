-- The cuts in a walk: the block that begins at a place is the lines up to its end.
use Rattle.std.proofs.Common.{◌≡◌, ℕ, zero, suc, ◌+◌, ◌-◌, ◌<◌, ◌≤◌, Bool, true, false, cond, List, [], ◌∷◌, ◌++◌, length, get_or, drop, sym, refl, ap, ◌∙◌, ⊎_elim, arith}
use Rattle.std.specs.List.{between, list_all}
use Rattle.std.proofs.lemmas.List.Edits.{between_none, between_more, length-between, get_or-between}
use Rattle.std.proofs.lemmas.List.{drop_more, get_or-drop, length-drop, length-map, get_or-map}
use Rattle.std.proofs.lemmas.Bool.{cases_Bool}
use Rattle.change.proofs.Every.{every_at}
use Rattle.order.proofs.Members.{in_get_or}
use Rattle.blocks.specs.Function.{wholly, cut, cut_all}
use Rattle.sheet.specs.declared.line.LineAt.{LineAt}
use Rattle.sheet.specs.Lines.{numbers, no_line, Orders}
use Rattle.sheet.specs.Ends.{slot_at, Above, BlockEnd}
use Rattle.sheet.proofs.Members.{every_from_at}

module _ (before : ℕ → ℕ → Bool) where
  cut_here : (b t : List ℕ) → wholly before b t ≡ true → cut before b t ≡ b ∷ cut_all before t
  cut_here b [] w = refl
  cut_here b (x ∷ xs) w = ap (λ c. cond c (b ∷ cut before (x ∷ []) xs) (cut before (b ++ x ∷ []) xs)) w

  cut_later : (b : List ℕ) (x : ℕ) (xs : List ℕ) → wholly before b (x ∷ xs) ≡ false → cut before b (x ∷ xs) ≡ cut before (b ++ x ∷ []) xs
  cut_later b x xs w = ap (λ c. cond c (b ∷ cut before (x ∷ []) xs) (cut before (b ++ x ∷ []) xs)) w

  module _ (us : List ℕ) (s r : ℕ) (within : r ≤ length us) where
    abbrev WhollyAt : ℕ → Bool → Type 0
    WhollyAt e t = wholly before (between s e us) (drop e us) ≡ t

    -- n more lines are joined before the block is cut off
    cut_at : (n e : ℕ) → n + e ≡ r → s ≤ e → WhollyAt r true → ((m : ℕ) → e ≤ m → m < r → WhollyAt m false) → cut before (between s e us) (drop e us) ≡ between s r us ∷ cut_all before (drop r us)
    cut_at zero e same up whole sooner =
        let here : e ≡ r = omega arith in
        ap (λ m. cut before (between s m us) (drop m us)) here ∙ cut_here (between s r us) (drop r us) whole
    cut_at (suc n) e same up whole sooner =
        let less : e < length us = omega arith in
        let next = drop_more us e 0 less in
        ap (cut before (between s e us)) next
        ∙ cut_later (between s e us) (get_or us e 0) (drop (e + 1) us) (ap (wholly before (between s e us)) (sym next) ∙ sooner e (omega arith) (omega arith))
        ∙ ap (λ b. cut before b (drop (e + 1) us)) (sym (between_more us s e 0 up less))
        ∙ cut_at n (e + 1) (omega arith) (omega arith) whole (λ m a. sooner m (omega arith))

    first_cut : s < r → WhollyAt r true → ((m : ℕ) → s + 1 ≤ m → m < r → WhollyAt m false) → cut_all before (drop s us) ≡ between s r us ∷ cut_all before (drop r us)
    first_cut less whole sooner =
        ap (cut_all before) (drop_more us s 0 (omega arith))
        ∙ ap (λ b. cut before (b ++ get_or us s 0 ∷ []) (drop (s + 1) us)) (sym (between_none us s))
        ∙ ap (λ b. cut before b (drop (s + 1) us)) (sym (between_more us s s 0 (omega arith) (omega arith)))
        ∙ cut_at (r - (s + 1)) (s + 1) (omega arith) (omega arith) whole sooner

module _ (R before : ℕ → ℕ → Bool) (ws : List LineAt) (orders : Orders R ws before) where
  abbrev us : List ℕ
  us = numbers ws

  long : length us ≡ length ws
  long = length-map ws (λ a. a.number.0)

  told : (k j : ℕ) → k < length ws → j < length ws → before (get_or us k 0) (get_or us j 0) ≡ R (slot_at ws k) (slot_at ws j)
  told k j h g =
      (λ i. before (get_or-map (λ a. a.number.0) ws k no_line 0 h i) (get_or-map (λ a. a.number.0) ws j no_line 0 g i))
      ∙ orders (get_or ws k no_line) (get_or ws j no_line) (in_get_or ws k no_line h) (in_get_or ws j no_line g)

  module _ (s e : ℕ) (within : e ≤ length ws) where
    block_long : length (between s e us) ≡ e - s
    block_long = length-between us s e (omega (arith, long))

    rest_long : length (drop e us) ≡ length ws - e
    rest_long = length-drop e us ∙ ap (λ n. n - e) long

    wholly_from_above : Above R ws s e → wholly before (between s e us) (drop e us) ≡ true
    wholly_from_above above =
        every_from_at _ (between s e us) 0 (λ k h.
        let inner : s + k < e = omega (arith, block_long) in
        every_from_at _ (drop e us) 0 (λ j g.
        let outer : e + j < length ws = omega (arith, rest_long) in
        (λ i. before (get_or-between us s e k 0 inner i) (get_or-drop e us j 0 i)) ∙ told (s + k) (e + j) (omega arith) outer ∙ above (s + k) (e + j) (omega arith) inner (omega arith) outer))

    above_from_wholly : wholly before (between s e us) (drop e us) ≡ true → Above R ws s e
    above_from_wholly whole k j a b d h =
        let here : s + (k - s) ≡ k = omega arith in
        let there : e + (j - e) ≡ j = omega arith in
        let inner : s + (k - s) < e = omega arith in
        let row = every_at (λ u. list_all (before u) (drop e us)) (between s e us) (k - s) 0 whole (omega (arith, block_long)) in
        let cell = every_at (before (get_or (between s e us) (k - s) 0)) (drop e us) (j - e) 0 row (omega (arith, rest_long)) in
        sym (told k j (omega arith) h)
        ∙ (λ i. before (get_or us (sym here i) 0) (get_or us (sym there i) 0))
        ∙ (λ i. before (sym (get_or-between us s e (k - s) 0 inner) i) (sym (get_or-drop e us (j - e) 0) i))
        ∙ cell

  pub block_cut : (s r : ℕ) → BlockEnd R ws s (s + 1) r → cut_all before (drop s us) ≡ between s r us ∷ cut_all before (drop r us)
  block_cut s r end =
      first_cut before us s r (omega (arith, end.within, long)) (omega (arith, end.past)) (wholly_from_above s r end.within end.above)
      (λ m a b. ⊎_elim (λ t. absurd (end.least m a b (above_from_wholly s m (omega (arith, end.within)) t))) (λ f. f) (cases_Bool (wholly before (between s m us) (drop m us))))
