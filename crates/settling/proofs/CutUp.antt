-- That lines cut up in pieces are all there, in pieces of at most 30, and as few as can be.
-- Assumes nothing.
use Rattle.std.proofs.Common.{◌≡◌, ℕ, zero, suc, ◌+◌, ◌*◌, ◌<◌, ◌≤◌, List, [], ◌∷◌, ◌++◌, length, take, drop, refl, ap, ◌∙◌, inl, inr, arith, length-drop, take-append-drop, length-take}
use Rattle.change.specs.Membership.{In}
use Rattle.blocks.specs.Theorems.{flat}
use Rattle.settling.specs.Requests.{piece_limit, cut_up}
use Rattle.settling.specs.Theorems.{PiecesAreFew}

cut_whole : (n : ℕ) (us : List ℕ) → length us ≤ n → flat (cut_up n us) ≡ us
cut_whole zero [] few = refl
cut_whole zero (u ∷ us) few = absurd (omega arith)
cut_whole (suc n) [] few = refl
cut_whole (suc n) (u ∷ us) few =
    ap (λ x. take piece_limit (u ∷ us) ++ x) (cut_whole n (drop piece_limit (u ∷ us)) (omega (arith, length-drop piece_limit (u ∷ us))))
    ∙ take-append-drop piece_limit (u ∷ us)

cut_short : (n : ℕ) (us : List ℕ) (piece : List ℕ) → In piece (cut_up n us) → length piece ≤ piece_limit
cut_short zero us piece i = absurd i
cut_short (suc n) [] piece i = absurd i
cut_short (suc n) (u ∷ us) piece (inl e) = omega (arith, ap length e, length-take piece_limit (u ∷ us))
cut_short (suc n) (u ∷ us) piece (inr i) = cut_short n (drop piece_limit (u ∷ us)) piece i

cut_few : (n : ℕ) (us : List ℕ) → length us ≤ n → (length us ≤ length (cut_up n us) * 30) × (length (cut_up n us) * 30 < length us + 30)
cut_few zero [] few = (omega arith, omega arith)
cut_few zero (u ∷ us) few = absurd (omega arith)
cut_few (suc n) [] few = (omega arith, omega arith)
cut_few (suc n) (u ∷ us) few =
    let left = length-drop piece_limit (u ∷ us) in
    let (enough, not_more) = cut_few n (drop piece_limit (u ∷ us)) (omega (arith, left)) in
    (omega (arith, left, enough), omega (arith, left, not_more))

pub pieces_are_few : PiecesAreFew
pieces_are_few order = (cut_whole (length order) order (omega arith), cut_short (length order) order, omega (arith, cut_few (length order) order (omega arith)))
