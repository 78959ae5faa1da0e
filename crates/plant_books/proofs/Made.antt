-- What making a change of a request comes to, by what making its bytes comes to.
-- Assumes nothing.
use Rattle.std.proofs.Common.{◌≡◌, ℕ, ◌<◌, List, ◌∷◌, Some, None, Ok, Err, Option, sym, refl, ap, ◌∙◌, arith}
use Rattle.std.proofs.lemmas.Bool.{and_parts}
use Rattle.change.specs.declared.refusal.Refusal.{Refusal}
use Rattle.change.specs.Bytes.{change_bytes}
use Rattle.change.specs.Reading.{change_of}
use Rattle.change.specs.WellFormed.{well_formed, is_name}
use Rattle.change.proofs.Codec.{reads_exactly}
use Rattle.change.proofs.Limits.{adds_most}
use Rattle.history.specs.Book.{Book, next_name}
use Rattle.history.specs.Sane.{Sane}
use Rattle.history.specs.declared.Event.{Event}
use Rattle.history.specs.Taking.{event, verdict, after, tries, settled, take}
use Rattle.making.specs.Request.{Request}
use Rattle.making.specs.Making.{refusal, unless, change_for, make, made}
use Rattle.making.proofs.Exact.{made_if_taken}
use Rattle.world.specs.Calls.{wholly, with}
use Rattle.plant_books.specs.Named.{MadeAs}
use Rattle.plant_books.proofs.Wholly.{whole_value}

module _ (B : Book) (r : Request) where
  refused_so : (o : Option Refusal) (e : Refusal) → unless o (change_for B r) ≡ Err e → unless o (take B (change_for B r)) ≡ Err e
  refused_so None e h = absurd (let z : ◌≡◌ {A = ℕ} 0 1 = cc in omega arith)
  refused_so (Some f) e h = let same : f ≡ e = cc in ap Err same

  pub not_made : (e : Refusal) → make B r ≡ Err e → made B r ≡ Err e
  not_made e h = refused_so (refusal B r) e h

  made_so : (o : Option Refusal) → unless o (change_for B r) ≡ Ok (change_for B r) → unless o (take B (change_for B r)) ≡ Ok (take B (change_for B r))
  made_so None h = refl
  made_so (Some f) h = absurd (let z : ◌≡◌ {A = ℕ} 0 1 = cc in omega arith)

  -- taking its bytes is making it
  pub taken_is_made : Sane B → B.plant < 16 → make B r ≡ Ok (change_for B r) → (bytes : List ℕ) → bytes ≡ change_bytes (change_for B r) → with (take B) (wholly (change_of bytes)) ≡ made B r
  taken_is_made sane plant makes bytes own =
      let formed = ((made_if_taken B sane plant r).0 makes).0 in
      ap (with (take B)) (whole_value change_of change_bytes well_formed reads_exactly (change_for B r) bytes formed own) ∙ sym (made_so (refusal B r) makes)

  -- what is made has a name, not too many adds, and its event first
  pub made_as : Sane B → B.plant < 16 → make B r ≡ Ok (change_for B r) → (es : List Event) (A : Book) → made B r ≡ Ok (es, A) → MadeAs B r es
  made_as sane plant makes es A done =
      let (formed, taken) = (made_if_taken B sane plant r).0 makes in
      let told : es ≡ (take B (change_for B r)).0 = let both : Ok (es, A) ≡ Ok (take B (change_for B r)) = sym done ∙ made_so (refusal B r) makes in cc in
      record {
        name = (and_parts (is_name (next_name B)) _ formed).0;
        few = adds_most (change_for B r) formed;
        first = ((settled (tries (verdict B (change_for B r)) B) (after (verdict B (change_for B r)) B (change_for B r))).0, told ∙ ap (λ o. event (next_name B) o ∷ (settled (tries (verdict B (change_for B r)) B) (after (verdict B (change_for B r)) B (change_for B r))).0) taken);
      }
