-- The changes of a letter, taken one after the other.
-- Assumes nothing.
use Rattle.std.proofs.Common.{◌≡◌, ℕ, ◌+◌, ◌<◌, List, [], ◌∷◌, ◌++◌, length, get_or, take, sym, ap, ◌∙◌, append_assoc, append-nil}
use Rattle.std.proofs.lemmas.List.{take_more}
use Rattle.change.specs.Model.{Change}
use Rattle.history.specs.declared.Event.{Event}
use Rattle.history.specs.Book.{Book}
use Rattle.history.specs.Taking as taking
use Rattle.sending.specs.Receiving.{and_then, received}

received_push : (B : Book) (cs : List Change) (c : Change) → received B (cs ++ c ∷ []) ≡ and_then (received B cs).0 (taking.take (received B cs).1 c)
received_push B [] c = ap (λ l. (l, (taking.take B c).1)) (append-nil (taking.take B c).0)
received_push B (d ∷ cs) c =
    let (es, A) = taking.take B d in
    ap (and_then es) (received_push A cs c) ∙ ap (λ l. (l, (taking.take (received A cs).1 c).1)) (sym (append_assoc es (received A cs).0 (taking.take (received A cs).1 c).0))

-- those before it were taken, and now it was
pub one_more_taken : (cs : List Change) (i : ℕ) (c d : Change) → i < length cs → c ≡ get_or cs i d → (B A : Book) (es fs : List Event) → (fs, A) ≡ and_then es (received B (take i cs)) →
    (t : List Event × Book) → t ≡ and_then fs (taking.take A c) → t ≡ and_then es (received B (take (i + 1) cs))
one_more_taken cs i c d less here B A es fs so_far t took =
    took ∙ ap (λ r. and_then r.0 (taking.take r.1 c)) so_far
    ∙ ap (λ l. (l, (taking.take (received B (take i cs)).1 c).1)) (append_assoc es (received B (take i cs)).0 (taking.take (received B (take i cs)).1 c).0)
    ∙ ap (and_then es) (sym (received_push B (take i cs) c))
    ∙ ap (λ x. and_then es (received B (take i cs ++ x ∷ []))) here
    ∙ ap (λ l. and_then es (received B l)) (sym (take_more cs i d less))
