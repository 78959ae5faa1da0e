-- The order with a request's own puts on top of the book's, asked put by put.
-- Assumes nothing.
use Rattle.std.proofs.Common.{◌≡◌, ℕ, suc, ◌+◌, ◌<◌, List, [], ◌∷◌, ◌++◌, length, get_or, take, sym, refl, ap, ◌∙◌, arith}
use Rattle.std.proofs.lemmas.List.{take_more}
use Rattle.change.specs.declared.span.AddAt.{AddAt}
use Rattle.change.specs.Model.{line_of}
use Rattle.order.specs.Order.{Put}
use Rattle.order.specs.Table.{step, bef, onto}
use Rattle.drafts.specs.PutsOf.{puts_of}
use Rattle.drafts.specs.Puts.{put_at}
use Rattle.shelf.proofs.Naming.{nowhere}

abbrev pub put_of_add : ℕ → AddAt → Put
put_of_add n a = record { line = n; after = a.after.0; before = a.before.0 }

pub onto_push : (Q ps : List Put) (p : Put) → onto Q (ps ++ p ∷ []) ≡ p ∷ onto Q ps
onto_push Q [] p = refl
onto_push Q (q ∷ ps) p = onto_push (q ∷ Q) ps p

module _ (Q ps : List Put) where
  pub onto_next : (i : ℕ) → i < length ps → onto Q (take (i + 1) ps) ≡ get_or ps i nowhere ∷ onto Q (take i ps)
  onto_next i less = ap (onto Q) (take_more ps i nowhere less) ∙ onto_push Q (take i ps) (get_or ps i nowhere)

puts_push : (n : ℕ) (adds : List AddAt) (a : AddAt) → puts_of n (adds ++ a ∷ []) ≡ puts_of n adds ++ put_of_add (n + length adds) a ∷ []
puts_push n [] a = let same : n ≡ n + 0 = omega arith in ap (λ m. put_of_add m a ∷ []) same
puts_push n (b ∷ adds) a =
    let same : suc n + length adds ≡ n + suc (length adds) = omega arith in
    ap (λ ps. put_of_add n b ∷ ps) (puts_push (suc n) adds a ∙ ap (λ m. puts_of (suc n) adds ++ put_of_add m a ∷ []) same)

module _ (Q : List Put) (name : ℕ) (u v : ℕ) where
  -- what is asked of all adds is asked of the last
  pub ask_of_last : (adds earlier : List AddAt) (a : AddAt) (place : ℕ) → adds ≡ earlier ++ a ∷ [] → place ≡ length earlier →
      step (bef (onto Q (puts_of (line_of name 0) earlier))) (put_at name place a) u v ≡ bef (onto Q (puts_of (line_of name 0) adds)) u v
  ask_of_last adds earlier a place is at =
      let n = line_of name 0 in
      let line : line_of name place ≡ n + length earlier = omega arith in
      ap (λ m. step (bef (onto Q (puts_of n earlier))) (put_of_add m a) u v) line
      ∙ ap (λ ps. bef ps u v) (sym (onto_push Q (puts_of n earlier) (put_of_add (n + length earlier) a)))
      ∙ ap (λ ps. bef (onto Q ps) u v) (sym (ap (puts_of n) is ∙ puts_push n earlier a))
