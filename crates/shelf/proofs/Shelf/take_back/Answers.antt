use Rattle.std.proofs.Common.{◌≡◌, ℕ, ◌≤◌, true, List, reverse, length, get_or, Some, None, sym, refl, ap, ◌∙◌, subst, arith}
use Rattle.std.specs.List.{remove}
use Rattle.std.proofs.lemmas.Bool.{and_left, and_from, cond-true, lt-ltb}
use Rattle.change.specs.WellFormed.{well_formed, lowest_name, highest_name}
use Rattle.change.proofs.Limits.{name_least}
use Rattle.order.specs.Table.{placed}
use Rattle.order.specs.Theorems.{without, NoneNeeds}
use Rattle.order.proofs.Members.{in_get_or}
use Rattle.order.proofs.Placed.{listed_formed}
use Rattle.lines.specs.Puts.{Without}
use Rattle.store.specs.First.{FirstAt}
use Rattle.store.specs.Kept.{kept, names}
use Rattle.store.proofs.Places.{blank}
use Rattle.shelf.specs.declared.Shelf.{Shelf}
use Rattle.shelf.specs.Sane.{changes}
use Rattle.shelf.specs.Together.{changes_in, Together}
use Rattle.lines.specs.declared.Lines.{Lines}
use Rattle.lines.specs.Lines.{numbers_of, Keeps}
use Rattle.store.specs.declared.Store.{Store}
use Rattle.order.specs.Order.{Put}
use Rattle.change.specs.Model.{line_of}
use Rattle.shelf.specs.TakingBack.{none_needs}
use Rattle.shelf.proofs.Finding.{found_has_the_name, found_tells_has}
use Rattle.shelf.proofs.Keeping.{sane_with, roomy_still}
use Rattle.shelf.proofs.Needing.{none_needs_lem}
use Rattle.shelf.proofs.Placing.{name_most}
use Rattle.shelf.proofs.Reversed.{reverse_in}
use Rattle.shelf.proofs.TakingOut.{others_listed, its_lines_go, no_more_changes, no_more_lines, removed_is_without}
use Rattle.shelf.proofs.Sure.{sane}
use Rattle.shelf.proofs.Shelf.take_back.Goals as goal

-- the name of a change that was found is within the limits of names
found_is_name : (s : Shelf) (n i : ℕ) → FirstAt (names s.store) n (Some i) → (lowest_name ≤ n) × (n ≤ highest_name)
found_is_name s n i first =
    let cs = kept s.store in
    let (less, name) = found_has_the_name cs n i first in
    let d = get_or cs i blank in
    let well : well_formed d ≡ true = listed_formed (changes s) (sane s).listed d (reverse_in cs d (in_get_or cs i blank less)) in
    (omega (arith, name_least d well), omega (arith, name_most d well))

pub returns-in_default : goal.returns-in_default
returns-in_default c =
    let s = c.args.self.now in
    record {
      answer = sym (and_left _ (none_needs (changes s) c.args.name.0) (sym (found_tells_has (kept s.store) c.args.name.0 None c.in_default.ensures)));
      roomy = λ roomy. roomy;
      rest = refl;
    }

pub line-requires-clause-name : goal.line-requires-clause-name
line-requires-clause-name c = (found_is_name c.args.self.now c.args.name.0 c.in-Some.place c.in-Some.ensures).1

-- the shelf without the change that was found at a place
module _ (s : Shelf) (n place : ℕ) (first : FirstAt (names s.store) n (Some place)) (is_free : none_needs (changes s) n ≡ true) (store : Store) (gone : kept store ≡ remove (kept s.store) place) where
  rest_is : changes_in store ≡ without n (changes s)
  rest_is =
      let (less, name) = found_has_the_name (kept s.store) n place first in
      ap reverse gone ∙ removed_is_without (kept s.store) place blank less (sane s).listed ∙ ap (λ m. without m (changes s)) name

  still_together : (lines : Lines) (u : ℕ) → u ≡ line_of n 0 → ((Q Q' : List Put) → Keeps s.lines Q → Without Q u 64 Q' → Keeps lines Q') → length (numbers_of lines) ≡ length (numbers_of s.lines) → Together store lines
  still_together lines u is_line kept_so slots =
      let L = changes s in
      let was = sane s in
      let none : NoneNeeds n L = none_needs_lem L n is_free in
      let left = subst (λ v. Without (placed L) v 64 (placed (without n L))) (sym is_line) (its_lines_go L was.listed n none (found_is_name s n place first).0) in
      sane_with store lines (without n L) rest_is (others_listed L was.listed n none) (kept_so (placed L) (placed (without n L)) was.keeps left)
      (slots ∙ was.slots) (omega (arith, no_more_changes n L, was.few)) (omega (arith, no_more_lines n L, was.few_lines))

pub invariant_of-self : goal.invariant_of-self
invariant_of-self c =
    let s = c.args.self.now in
    let is_free : none_needs (changes s) c.args.name.0 ≡ true = sym c.none_needs.ensures ∙ c.if-not-none_needs.false in
    let (less, _) = found_has_the_name (kept s.store) c.args.name.0 c.in-Some.place c.in-Some.ensures in
    let gone : kept c.remove.new.self ≡ remove (kept s.store) c.in-Some.place = c.remove.ensures.removed ∙ cond-true _ _ _ (c.remove.ensures.answer ∙ lt-ltb _ _ less) in
    record { sane = ∣ still_together s c.args.name.0 c.in-Some.place c.in-Some.ensures is_free c.remove.new.self gone c.let_go.new.self c.line.result.0 c.line.ensures c.let_go.ensures.kept c.let_go.ensures.slots ∣₁ }

pub returns : goal.returns
returns c =
    let s = c.args.self.now in
    let is_free : none_needs (changes s) c.args.name.0 ≡ true = sym c.none_needs.ensures ∙ c.if-not-none_needs.false in
    let (less, _) = found_has_the_name (kept s.store) c.args.name.0 c.in-Some.place c.in-Some.ensures in
    let gone : kept c.remove.new.self ≡ remove (kept s.store) c.in-Some.place = c.remove.ensures.removed ∙ cond-true _ _ _ (c.remove.ensures.answer ∙ lt-ltb _ _ less) in
    record {
      answer = sym (and_from _ _ (sym (found_tells_has (kept s.store) c.args.name.0 (Some c.in-Some.place) c.in-Some.ensures)) is_free);
      roomy = roomy_still s.store c.remove.new.self c.remove.ensures.room;
      rest = rest_is s c.args.name.0 c.in-Some.place c.in-Some.ensures is_free c.remove.new.self gone;
    }
