use Rattle.std.proofs.Common.{ℕ, List, map, Ok, Err, vec_items, Vec, sym, refl, ap, ◌∙◌, arith}
use Rattle.std.specs.declared.alloc.Global.{Global}
use Rattle.std.proofs.lemmas.Result.{err_from_is_err_and}
use Rattle.history.specs.Book.{Book}
use Rattle.change.specs.declared.trouble.Trouble.{Trouble}
use Rattle.change.specs.declared.trouble.Trouble.TheVariants.{Refused, Memory}
use Rattle.letters.specs.declared.change_bytes.ChangeBytes.{ChangeBytes}
use Rattle.letters.specs.Letter.{letter_bytes, is_letter, letter_of}
use Rattle.letters.specs.LetterRead.{change_in, LetterRead}
use Rattle.letters.proofs.Codec.{letter_reads_exactly}
use Rattle.sending.specs.Receiving.{and_then, received}
use Rattle.world.specs.Calls.{wholly, with}
use Rattle.plant_books.specs.Answers.{Answered}
use Rattle.plant_books.specs.Sane.{model_of}
use Rattle.plant_books.proofs.Wholly.{whole_value, no_value}
use Rattle.plant_books.proofs.contents.Contents.take_letter.Goals as goal

unread : (bytes : List ℕ) (B : Book) (fault : Trouble) → LetterRead {V = Vec ChangeBytes Global} vec_items bytes (Err fault) →
    Answered (with (received B) (wholly (letter_of bytes))) B B (Err fault)
unread bytes B (Refused e) read = (ap (with (received B)) (no_value letter_of letter_bytes is_letter letter_reads_exactly bytes read.1) ∙ ap Err (sym read.0), refl)
unread bytes B Memory read = refl

pub returns-in_err-changes : goal.returns-in_err-changes
returns-in_err-changes c =
    let p = err_from_is_err_and c.from_residual.result c.from_residual.ensures.1 in
    record { sane = c.requires; took = rw (p.1, p.2) (unread c.args.bytes.now (model_of c.args.self.now) c.in_err-changes.field-0.0 c.in_err-changes.ensures) }

pub take_each-requires : goal.take_each-requires
take_each-requires c = record {
  sane = c.requires;
  room = omega (arith, c.in_ok-events.ensures.len, c.in_ok-events.ensures.capacity, c.len.ensures, c.len-2.ensures, c.deref.ensures.len);
}

pub returns : goal.returns
returns c =
    let B = model_of c.args.self.now in
    let bytes = c.args.bytes.now in
    let (letter, own) = c.in_ok-changes.ensures in
    let cs = map change_in (vec_items c.in_ok-changes.changes) in
    record {
      sane = c.take_each.ensures.sane;
      took =
          ap (with (received B)) (whole_value letter_of letter_bytes is_letter letter_reads_exactly cs bytes letter own)
          ∙ ap Ok (sym (c.take_each.ensures.took ∙ ap (λ l. and_then (vec_items c.in_ok-events.events) (received B (map change_in l))) c.deref.ensures.value
          ∙ ap (λ es. and_then es (received B cs)) c.in_ok-events.ensures.items));
    }
