-- Reading a change is exact: the theorems on changes, from what holds of any exact reader.
-- Assumes nothing.
use Rattle.std.proofs.Common.{◌≡◌, ℕ, true, List, [], ◌∷◌, length, Ok, Err, sym, ap, ◌∙◌, append-nil, arith}
use Rattle.change.specs.declared.fault.Fault.{Fault}
use Rattle.change.specs.Bytes.{change_bytes}
use Rattle.change.specs.Codec.{ReadsExactly, OneString, FrontIsCutShort, MalformedForGood}
use Rattle.change.specs.Model.{Change}
use Rattle.change.specs.Reading.{change_of}
use Rattle.change.specs.WellFormed.{well_formed}
use Rattle.change.proofs.Exact.{ok_is_not_err, same_answer, front_is_cut_short, one_string}
use Rattle.change.proofs.Whole.{change_exact}

pub reads_exactly : ReadsExactly
reads_exactly bytes c rest = (change_exact.reads bytes c rest, λ formed same. ap change_of same ∙ change_exact.writes c rest formed)

pub change_has_one_string : OneString
change_has_one_string = one_string change_exact

pub front_of_change_is_cut_short : FrontIsCutShort
front_of_change_is_cut_short = front_is_cut_short change_exact

pub malformed_for_good : MalformedForGood
malformed_for_good = change_exact.stays

-- A whole change is read with nothing left.
pub whole_is_read : (bytes : List ℕ) (c : Change) → well_formed c ≡ true → bytes ≡ change_bytes c → change_of bytes ≡ Ok (c, [])
whole_is_read bytes c formed same = (reads_exactly bytes c []).1 formed (same ∙ sym (append-nil (change_bytes c)))

-- Where there is a fault, or something left, the bytes are no change's.
pub fault_is_no_change : {e : Fault} (bytes : List ℕ) → Err e ≡ change_of bytes → (c : Change) → well_formed c ≡ true → bytes ≡ change_bytes c → ⊥
fault_is_no_change bytes fault c formed same = ok_is_not_err (sym (whole_is_read bytes c formed same) ∙ sym fault)

pub rest_is_no_change : {d : Change} (rest bytes : List ℕ) → Ok (d, rest) ≡ change_of bytes → (length rest ≡ 0 → ⊥) → (c : Change) → well_formed c ≡ true → bytes ≡ change_bytes c → ⊥
rest_is_no_change rest bytes read more c formed same = more (ap length (same_answer (read ∙ whole_is_read bytes c formed same)).1)

pub no_rest_is_whole : (c : Change) (rest bytes : List ℕ) → Ok (c, rest) ≡ change_of bytes → length rest ≡ 0 → bytes ≡ change_bytes c
no_rest_is_whole c [] bytes read none = ((reads_exactly bytes c []).0 (sym read)).1 ∙ append-nil (change_bytes c)
no_rest_is_whole c (b ∷ rest) bytes read none = absurd (omega arith)
