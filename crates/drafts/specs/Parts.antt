-- A request by its parts, as a writer fills them in.
-- request_from sheet texts adds kills: the request for the sheet with these adds, whose texts lie in the bytes `texts`, and these lines to strike out.
-- with_add r a, with_kill r u: the request r with one add more, or one line more to strike out.
-- TextAnswered is_text r: the answer r to an add whose text is one or is none: what is no text is refused as malformed, and nothing else is refused.
-- Assumes nothing.
use Rattle.std.specs.Prelude.{◌≡◌, ℕ, Bool, true, false, List, [], ◌∷◌, ◌++◌, map, Ok, Err, Result}
use Rattle.change.specs.declared.names.Line.{Line}
use Rattle.change.specs.declared.refusal.Refusal.TheVariants.{Malformed}
use Rattle.change.specs.declared.trouble.Trouble.{Trouble}
use Rattle.change.specs.declared.trouble.Trouble.TheVariants.{Refused, Memory}
use Rattle.change.specs.declared.span.AddAt.{AddAt}
use Rattle.change.specs.Model.{Add}
use Rattle.change.specs.View.{add_in}
use Rattle.making.specs.Request.{Request}

abbrev pub request_from : ℕ → List ℕ → List AddAt → List Line → Request
request_from sheet texts adds kills = record { sheet = sheet; adds = map (add_in texts) adds; kills = map (λ line. line.0) kills }

abbrev pub with_add : Request → Add → Request
with_add r a = record { sheet = r.sheet; adds = r.adds ++ a ∷ []; kills = r.kills }

abbrev pub with_kill : Request → ℕ → Request
with_kill r u = record { sheet = r.sheet; adds = r.adds; kills = r.kills ++ u ∷ [] }

abbrev pub TextAnswered : Bool → Result (Unit {0}) Trouble → Type 0
TextAnswered is_text (Ok _) = is_text ≡ true
TextAnswered is_text (Err (Refused e)) = (is_text ≡ false) × (e ≡ Malformed)
TextAnswered is_text (Err Memory) = is_text ≡ true
