-- What a call that alters a book answers, where the theory says `done`.
-- Answered done B A r: of the book B, which then is A, with the answer r: the events and the book are those of the theory; it is refused as the theory says, or memory was wanting, and the book is as it was.
-- freed free: what taking a change back answers, where the theory says whether it is free.
-- Assumes nothing.
use Rattle.std.specs.Prelude.{◌≡◌, Bool, true, false, Ok, Err, vec_items, Result, Vec}
use Rattle.std.specs.declared.alloc.Global.{Global}
use Rattle.change.specs.declared.refusal.Refusal.{Refusal}
use Rattle.change.specs.declared.refusal.Refusal.TheVariants.{Needed}
use Rattle.history.specs.declared.Event.{Event}
use Rattle.history.specs.Book.{Book}
use Rattle.world.specs.Calls.{Done}
use Rattle.change.specs.declared.trouble.Trouble.{Trouble}
use Rattle.change.specs.declared.trouble.Trouble.TheVariants.{Refused, Memory}

abbrev pub Answered : Done → Book → Book → Result (Vec Event Global) Trouble → Type 0
Answered done B A (Ok events) = done ≡ Ok (vec_items events, A)
Answered done B A (Err (Refused e)) = (done ≡ Err e) × (A ≡ B)
Answered done B A (Err Memory) = A ≡ B

abbrev pub freed : Bool → Result (Unit {0}) Refusal
freed true = Ok tt
freed false = Err Needed
