-- What a set of changes, listed with the latest first, shows of a sheet.
-- of_sheet n S: its changes of sheet n. gather part S: a part of each change, one after another.
-- added S, killed S: the lines that its changes add and strike out. living S: those added and not struck out.
-- text_of S u: the text of line u. sheet_blocks S: the blocks of its living lines. shown n S: the bytes of sheet n.
-- Assumes nothing.
use Rattle.std.specs.Prelude.{ℕ, zero, suc, ◌%◌, Bool, cond, not, List, [], ◌∷◌, ◌++◌, filter, ◌==◌, nat_eq}
use Rattle.std.specs.List.{list_all}
use Rattle.change.specs.Model.{Add, Change, bringer}
use Rattle.order.specs.Order.{Put, puts}
use Rattle.order.specs.Table.{bef, placed}
use Rattle.blocks.specs.Function.{blocks_of}
use Rattle.blocks.specs.Bytes.{sheet_bytes}

abbrev pub of_sheet : ℕ → List Change → List Change
of_sheet n S = filter (λ c. nat_eq c.sheet n) S

abbrev pub gather : (Change → List ℕ) → List Change → List ℕ
gather part [] = []
gather part (c ∷ S) = part c ++ gather part S

abbrev pub lines : List Put → List ℕ
lines [] = []
lines (p ∷ ps) = p.line ∷ lines ps

abbrev pub added : List Change → List ℕ
added S = gather (λ c. lines (puts c)) S

abbrev pub killed : List Change → List ℕ
killed S = gather (λ c. c.kills) S

-- no change of S strikes u out
abbrev pub unkilled : List Change → ℕ → Bool
unkilled S u = list_all (λ v. not (v == u)) (killed S)

abbrev pub living : List Change → List ℕ
living S = filter (unkilled S) (added S)

-- the text of the add at a place, from 0; nothing past the last
abbrev pub text_at : List Add → ℕ → List ℕ
text_at [] k = []
text_at (a ∷ adds) zero = a.text
text_at (a ∷ adds) (suc k) = text_at adds k

-- a line's number has the name of its change and its place among that change's adds
abbrev pub text_of : List Change → ℕ → List ℕ
text_of [] u = []
text_of (c ∷ S) u = cond (c.name == bringer u) (text_at c.adds (u % 64)) (text_of S u)

abbrev pub sheet_blocks : List Change → List (List ℕ)
sheet_blocks S = blocks_of (bef (placed S)) (living S)

abbrev pub shown : ℕ → List Change → List ℕ
shown n S = sheet_bytes (text_of (of_sheet n S)) (sheet_blocks (of_sheet n S))
