-- What a pass does: it is the taking of a letter, by the book that it goes to.
-- Assumes nothing.
use Rattle.std.proofs.Common.{◌≡◌, ℕ, true, List, [], ◌∷◌, set, Ok, sym, refl, ap, ◌∙◌, inl, inr, arith}
use Rattle.std.proofs.lemmas.Bool.{and_from, le-leb}
use Rattle.change.specs.Model.{Change}
use Rattle.history.specs.declared.Event.{Event}
use Rattle.history.specs.Book.{Book}
use Rattle.history.specs.Sane.{Distinct, Sane}
use Rattle.letters.specs.Letter.{letter_bytes, is_letter}
use Rattle.sending.specs.Sending.{names_of, sent}
use Rattle.sending.specs.Relation.{Ordered}
use Rattle.sending.specs.Theorems.{NamedIn}
use Rattle.sending.proofs.Walks.{sent_sends}
use Rattle.sending.proofs.Receiving.{letter_formed}
use Rattle.sending.proofs.Room.{no_more_changes}
use Rattle.world.specs.Calls.{passed}
use Rattle.world.specs.World.{World, takes, passes, passed_from, concluded, acted_on, acted}
use Rattle.world.specs.Whole.{BookAt}
use Rattle.world.specs.Theorems.{PassIsTaking}
use Rattle.world.proofs.Places.{nth_in}
use Rattle.world.proofs.Taken.{taken_as_letter}
use Rattle.world.proofs.Steps.{book_sound, decides_formed, arises_good}

pub names_named : (S : List Change) → NamedIn S (names_of S)
names_named [] n i = absurd i
names_named (c ∷ S) n (inl e) = (c, inl refl, sym e)
names_named (c ∷ S) n (inr i) = let (d, j, e) = names_named S n i in (d, inr j, e)

ordered_distinct : (cs : List Change) → Ordered cs → Distinct cs
ordered_distinct [] o = tt
ordered_distinct (c ∷ cs) o = (o.0, ordered_distinct cs o.3)

-- what a book sends can be written as a letter
pub sent_is_letter : (A : Book) → Sane A → (has : List ℕ) → is_letter (sent has A.changes) ≡ true
sent_is_letter A s has =
    let sends = sent_sends has A.changes (book_sound A s) in
    let few = no_more_changes (sent has A.changes) A.changes (ordered_distinct _ sends.ordered) (λ c i. ((sends.exactly c).0 i).0) in
    and_from _ _ (le-leb _ _ (omega (arith, few, s.orderly.few_changes)))
    ((decides_formed _).1 (letter_formed A.changes (book_sound A s) has))

pub pass_is_taking : PassIsTaking
pass_is_taking W arises i j A B here there =
    ap (acted_on W (passes i j)) there ∙ ap (λ o. concluded W j (passed_from o B)) here
    ∙ ap (concluded W j) (sym (taken_as_letter B letter (sent_is_letter A (arises_good W arises A (nth_in W i A here)).0 _)))
    ∙ sym (ap (acted_on W (takes j (letter_bytes letter))) there)
  where
    letter : List Change
    letter = sent (names_of B.changes) A.changes

-- what a pass did to the world
pub pass_did : (W : World) (i j : ℕ) (A B : Book) → BookAt W i A → BookAt W j B → (es : List Event) (V : World) → acted W (passes i j) ≡ (Ok es, V) → (es ≡ (passed A B).0) × (V ≡ set W j (passed A B).1)
pass_did W i j A B here there es V e =
    let did : concluded W j (Ok (passed A B)) ≡ (Ok es, V) = sym (ap (acted_on W (passes i j)) there ∙ ap (λ o. concluded W j (passed_from o B)) here) ∙ e in
    let answer : Ok (passed A B).0 ≡ Ok es = ap (λ q. q.0) did in
    (cc, sym (ap (λ q. q.1) did))
