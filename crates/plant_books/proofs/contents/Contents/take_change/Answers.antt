use Rattle.std.proofs.Common.{Ok, Err, sym, refl, ap, ◌∙◌}
use Rattle.std.proofs.lemmas.Result.{err_from_is_err_and}
use Rattle.change.specs.Bytes.{change_bytes}
use Rattle.change.specs.Reading.{change_of}
use Rattle.change.specs.Viewed.{viewed}
use Rattle.change.specs.WellFormed.{well_formed}
use Rattle.change.proofs.Codec.{reads_exactly}
use Rattle.history.specs.Taking.{take}
use Rattle.sending.specs.Receiving.{and_then}
use Rattle.world.specs.Calls.{with}
use Rattle.plant_books.specs.Sane.{model_of}
use Rattle.plant_books.proofs.Wholly.{whole_value, no_value}
use Rattle.plant_books.proofs.contents.Contents.take_change.Goals as goal

pub returns-in_err-view : goal.returns-in_err-view
returns-in_err-view c =
    let p = err_from_is_err_and c.from_residual.result c.from_residual.ensures.1 in
    let read = c.in_err-view.ensures in
    record {
      sane = c.requires;
      took = rw (p.1, p.2) (ap (with (take (model_of c.args.self.now))) (no_value change_of change_bytes well_formed reads_exactly c.args.bytes.now read.1) ∙ ap Err (sym read.0), refl);
    }

pub returns : goal.returns
returns c =
    let B = model_of c.args.self.now in
    let d = viewed c.in_ok-view.view in
    record {
      sane = c.take.ensures.sane;
      took =
          ap (with (take B)) (whole_value change_of change_bytes well_formed reads_exactly d c.args.bytes.now c.in_ok-view.view.well c.in_ok-view.ensures)
          ∙ ap Ok (sym (c.take.ensures.took ∙ ap (λ es. and_then es (take B d)) c.in_ok-events.ensures.items));
    }
