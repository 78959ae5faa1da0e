use Rattle.sending.proofs.Receiving.{refused_leaves_no_trace}
use Rattle.sending.proofs.refused_of_a_letter_leaves_no_trace.Goals as goal

pub returns : goal.returns
returns c = refused_leaves_no_trace
