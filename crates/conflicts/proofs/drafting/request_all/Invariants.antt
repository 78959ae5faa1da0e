use Rattle.std.proofs.Common.{◌≡◌, map, vec_items}
use Rattle.std.specs.Slice.Iter.{chunks_rest, chunks_size}
use Rattle.change.specs.Membership.{Within}
use Rattle.drafts.specs.Asked.{asked_by}
use Rattle.settling.specs.Requests.{piece_limit}
use Rattle.conflicts.specs.Drafting.{text_of_line}
use Rattle.conflicts.proofs.Drafted.{Cutting}
use Rattle.conflicts.proofs.drafting.request_all.Given as goal

abbrev pub invariant-loop-piece : goal.invariant-loop-piece
invariant-loop-piece l = record {
  size : chunks_size l.piece-iterator ≡ piece_limit;
  known : Within (chunks_rest l.piece-iterator) l.order;
  cutting : Cutting (text_of_line l.conflict) l.conflict.ends.before.0 l.conflict.ends.after.0 l.initial.name.0 l.order l.sheet.0 (map asked_by (vec_items l.requests)) l.after.0 l.name.0 (chunks_rest l.piece-iterator);
}
