-- The numbers of lines: those of one change lie in a range of 64 of its own.
-- Assumes nothing.
use Rattle.std.proofs.Common.{◌≡◌, ℕ, suc, ◌+◌, ◌*◌, ◌<◌, ◌≤◌, true, List, [], ◌∷◌, length, sym, ap, ◌∙◌, inl, inr, arith}
use Rattle.change.specs.Membership.{In}
use Rattle.change.specs.Model.{Add, Change, bringer}
use Rattle.change.specs.WellFormed.{well_formed}
use Rattle.change.proofs.Limits.{adds_most}
use Rattle.order.specs.Order.{Put, puts, puts_from}

pub puts_range : (n : ℕ) (adds : List Add) (p : Put) → In p (puts_from n adds) → (n ≤ p.line) × (p.line < n + length adds)
puts_range n [] p i = absurd i
puts_range n (a ∷ adds) p (inl e) = omega (arith, ap (λ q. q.line) e)
puts_range n (a ∷ adds) p (inr i) = omega (arith, puts_range (suc n) adds p i)

pub line_range : (c : Change) → well_formed c ≡ true → (p : Put) → In p (puts c) → (c.name * 64 ≤ p.line) × (p.line < c.name * 64 + 64)
line_range c h p i = omega (arith, puts_range _ c.adds p i, adds_most c h)

-- A line's number has the name of the change that puts it.
pub put_by_name : (c : Change) → well_formed c ≡ true → (p : Put) → In p (puts c) → bringer p.line ≡ c.name
put_by_name c h p i = omega (arith, line_range c h p i)

-- Two changes that put one line have one name.
pub same_name : (c d : Change) → well_formed c ≡ true → well_formed d ≡ true → (p q : Put) → In p (puts c) → In q (puts d) → p.line ≡ q.line → c.name ≡ d.name
same_name c d hc hd p q i j e = sym (put_by_name c hc p i) ∙ ap bringer e ∙ put_by_name d hd q j
