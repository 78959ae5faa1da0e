use Rattle.std.proofs.Common.{[], sym, ◌∙◌, append-nil}
use Rattle.change.specs.Viewed.{viewed}
use Rattle.change.proofs.Codec.{reads_exactly}
use Rattle.std.proofs.lemmas.Result.{IfOk-weaker}
use Rattle.change.proofs.view.ChangeView.to_bytes.Goals as goal

pub returns : goal.returns
returns c =
    let view = c.args.self.now in
    record {
      bytes = IfOk-weaker c.from_slice.result _ _ (λ v is. is ∙ view.own) c.from_slice.ensures.items;
      reads_back = IfOk-weaker c.from_slice.result _ _ (λ v is. (reads_exactly _ (viewed view) []).1 view.well (is ∙ view.own ∙ sym (append-nil _))) c.from_slice.ensures.items;
    }
