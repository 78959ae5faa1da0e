-- Letters and names are read exactly: the theorems, from what holds of any exact reader.
-- Assumes nothing.
use Rattle.std.proofs.Common.{◌≡◌, ℕ, suc, Bool, true, ◌&&◌, leb, List, [], ◌∷◌, length, Ok, Err, sym, refl, ap, ◌∙◌, append-nil, arith, lit<, lit≤}
use Rattle.std.specs.List.{list_all}
use Rattle.change.specs.declared.fault.Fault.{Fault}
use Rattle.change.specs.Bytes.{number_bytes, change_bytes}
use Rattle.change.specs.Model.{Change}
use Rattle.change.specs.Reading.{Read, number_within, change_of}
use Rattle.change.specs.WellFormed.{well_formed, lowest_name, highest_name}
use Rattle.change.proofs.Exact.{Exact, exact_by, ok_is_not_err, same_answer, front_is_cut_short, one_string}
use Rattle.change.proofs.Parts.{chained, within_exact}
use Rattle.change.proofs.Tests.{and_true, both_true}
use Rattle.change.proofs.Whole.{rising_is_chained, change_exact}
use Rattle.letters.specs.Letter.{letter_kind, letter_limit, letter_bytes, is_letter, letter_of}
use Rattle.letters.specs.Names.{names_kind, names_limit, names_bytes, are_names, names_of}
use Rattle.letters.specs.Theorems.{ReadsExactly, LetterReadsExactly, LetterHasOneString, FrontOfLetterIsCutShort, MalformedLetterForGood, NamesReadExactly, NamesHaveOneString, FrontOfNamesIsCutShort, MalformedNamesForGood}
use Rattle.letters.proofs.Messages.{message_exact}

well_formed_is_chained : (cs : List Change) → list_all well_formed cs ≡ chained (λ _. well_formed) (λ _. 0) 0 cs
well_formed_is_chained [] = refl
well_formed_is_chained (c ∷ cs) = ap (λ b. well_formed c && b) (well_formed_is_chained cs)

pub letter_exact : Exact letter_of letter_bytes (λ cs. is_letter cs ≡ true)
letter_exact =
    exact_by _ _ (message_exact (λ _. change_of) change_bytes (λ _. well_formed) (λ _. 0) (λ _. change_exact) letter_kind letter_limit 0 (lit< tt) (lit< tt))
    (λ cs. refl) (λ cs h. both_true h.0 (well_formed_is_chained cs ∙ h.1))
    (λ cs h. let t = and_true (leb (length cs) letter_limit) _ h in (t.0, sym (well_formed_is_chained cs) ∙ t.1))

pub names_exact : Exact names_of names_bytes (λ ns. are_names ns ≡ true)
names_exact =
    exact_by _ _ (message_exact (number_within highest_name) number_bytes (λ l n. leb l n && leb n highest_name) suc (λ l. within_exact highest_name l (lit≤ tt)) names_kind names_limit lowest_name (lit< tt) (lit< tt))
    (λ ns. refl) (λ ns h. both_true h.0 (rising_is_chained lowest_name highest_name ns ∙ h.1))
    (λ ns h. let t = and_true (leb (length ns) names_limit) _ h in (t.0, sym (rising_is_chained lowest_name highest_name ns) ∙ t.1))

-- What an exact reader gives for each value that passes a test.
module _ {X : Type 0} {p : List ℕ → Read X} {w : X → List ℕ} {test : X → Bool} (exact : Exact p w (λ x. test x ≡ true)) where
  pub reads_exactly : ReadsExactly p w test
  reads_exactly bytes x rest = (exact.reads bytes x rest, λ formed same. ap p same ∙ exact.writes x rest formed)

  -- A whole value is read with nothing left.
  pub whole_is_read : (bytes : List ℕ) (x : X) → test x ≡ true → bytes ≡ w x → p bytes ≡ Ok (x, [])
  whole_is_read bytes x formed same = (reads_exactly bytes x []).1 formed (same ∙ sym (append-nil (w x)))

  -- Where there is a fault, or something left, the bytes are no value's.
  pub fault_is_no_value : {e : Fault} (bytes : List ℕ) → p bytes ≡ Err e → (x : X) → test x ≡ true → bytes ≡ w x → ⊥
  fault_is_no_value bytes fault x formed same = ok_is_not_err (sym (whole_is_read bytes x formed same) ∙ fault)

  pub rest_is_no_value : {y : X} (rest bytes : List ℕ) → p bytes ≡ Ok (y, rest) → (length rest ≡ 0 → ⊥) → (x : X) → test x ≡ true → bytes ≡ w x → ⊥
  rest_is_no_value rest bytes read more x formed same = more (ap length (same_answer (sym read ∙ whole_is_read bytes x formed same)).1)

  pub no_rest_is_whole : (x : X) (rest bytes : List ℕ) → p bytes ≡ Ok (x, rest) → length rest ≡ 0 → (test x ≡ true) × (bytes ≡ w x)
  no_rest_is_whole x [] bytes read none = let t = exact.reads bytes x [] read in (t.0, t.1 ∙ append-nil (w x))
  no_rest_is_whole x (b ∷ rest) bytes read none = absurd (omega arith)

pub letter_reads_exactly : LetterReadsExactly
letter_reads_exactly = reads_exactly letter_exact

pub letter_has_one_string : LetterHasOneString
letter_has_one_string = one_string letter_exact

pub front_of_letter_is_cut_short : FrontOfLetterIsCutShort
front_of_letter_is_cut_short = front_is_cut_short letter_exact

pub malformed_letter_for_good : MalformedLetterForGood
malformed_letter_for_good = letter_exact.stays

pub names_read_exactly : NamesReadExactly
names_read_exactly = reads_exactly names_exact

pub names_have_one_string : NamesHaveOneString
names_have_one_string = one_string names_exact

pub front_of_names_is_cut_short : FrontOfNamesIsCutShort
front_of_names_is_cut_short = front_is_cut_short names_exact

pub malformed_names_for_good : MalformedNamesForGood
malformed_names_for_good = names_exact.stays
