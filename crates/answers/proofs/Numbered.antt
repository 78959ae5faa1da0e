-- The numbers of a made change's lines, written one behind the other.
-- Assumes nothing.
use Rattle.std.proofs.Common.{◌≡◌, ℕ, ◌+◌, List, ◌++◌, sym, ap, ◌∙◌, arith}
use Rattle.std.specs.List.{flat_map}
use Rattle.std.proofs.lemmas.List.FromFn.{map-range_with_len_more}
use Rattle.std.proofs.lemmas.List.{flat_map_more}
use Rattle.change.specs.Model.{line_of}
use Rattle.answers.specs.Lines.{spaced, lines_of}

pub one_more_number :
    (front was now : List ℕ) (name n : ℕ) → was ≡ front ++ flat_map spaced (lines_of name n) → now ≡ was ++ spaced (line_of name n) → now ≡ front ++ flat_map spaced (lines_of name (n + 1))
one_more_number front was now name n so_far e =
    e ∙ ap (λ l. l ++ spaced (line_of name n)) so_far ∙ flat_map_more spaced front (lines_of name n) (line_of name n)
    ∙ ap (λ l. front ++ flat_map spaced l) (sym (map-range_with_len_more (line_of name) 0 n n (omega arith)))
