-- What a line can say, from its first word and what stands behind: one command at most.
-- Assumes nothing.
use Rattle.std.proofs.Common.{◌≡◌, ℕ, cond, List, codes, decimal, sym, ap, ◌∙◌, subst, arith}
use Rattle.std.specs.Str.Parse.{digits_value}
use Rattle.std.specs.Str.{bytes_eq}
use Rattle.std.proofs.lemmas.Fmt.{digits_value-decimal}
use Rattle.console.specs.Meaning.{Meaning, sheet, add, kill, make, back, take, have, send, show, lines, Says, OneMeaning}
use Rattle.console.proofs.Decimal.{numerals, decimal_has_no_space}
use Rattle.console.proofs.Words.{word_of, behind, word_before_space, rest_behind_space, word_of_split, rest_of_split}

-- the one command that a line can say
abbrev pub only_meaning : List ℕ → Meaning
only_meaning line =
    cond (bytes_eq (word_of line) (codes "sheet")) (sheet (digits_value 10 (behind line)))
    (cond (bytes_eq (word_of line) (codes "add")) (add (digits_value 10 (word_of (behind line))) (digits_value 10 (word_of (behind (behind line)))) (behind (behind (behind line))))
    (cond (bytes_eq (word_of line) (codes "kill")) (kill (digits_value 10 (behind line)))
    (cond (bytes_eq (word_of line) (codes "make")) make
    (cond (bytes_eq (word_of line) (codes "back")) (back (digits_value 10 (behind line)))
    (cond (bytes_eq (word_of line) (codes "take")) (take (behind line))
    (cond (bytes_eq (word_of line) (codes "have")) have
    (cond (bytes_eq (word_of line) (codes "send")) (send (behind line))
    (cond (bytes_eq (word_of line) (codes "show")) show lines))))))))

says_only : (line : List ℕ) (m : Meaning) → Says line m → only_meaning line ≡ m
says_only line (sheet n) (small, e) = ap only_meaning e ∙ ap sheet (digits_value-decimal numerals n (omega arith))
says_only line (add a b text) (less, small, (rest, e, split)) =
    let behind_a = rest_behind_space rest (decimal a) (decimal_has_no_space a less) in
    let first = ap (digits_value 10) (word_before_space rest (decimal a) (decimal_has_no_space a less)) ∙ digits_value-decimal numerals a (omega arith) in
    let second = ap (λ r. digits_value 10 (word_of r)) behind_a ∙ ap (digits_value 10) (word_of_split rest (decimal b) text split (decimal_has_no_space b small)) ∙ digits_value-decimal numerals b (omega arith) in
    let third = ap behind behind_a ∙ rest_of_split rest (decimal b) text split (decimal_has_no_space b small) in
    ap only_meaning e ∙ (λ i. add (first i) (second i) (third i))
says_only line (kill n) (small, e) = ap only_meaning e ∙ ap kill (digits_value-decimal numerals n (omega arith))
says_only line make e = ap only_meaning e
says_only line (back n) (small, e) = ap only_meaning e ∙ ap back (digits_value-decimal numerals n (omega arith))
says_only line (take digits) e = ap only_meaning e
says_only line have e = ap only_meaning e
says_only line (send digits) e = ap only_meaning e
says_only line show e = ap only_meaning e
says_only line lines e = ap only_meaning e

pub one_meaning : OneMeaning
one_meaning line m n p q = sym (says_only line m p) ∙ says_only line n q

-- A line that says a command says the one that it can.
pub says_that : (line : List ℕ) (m : Meaning) → Says line m → Says line (only_meaning line)
says_that line m h = subst (Says line) (sym (says_only line m h)) h
