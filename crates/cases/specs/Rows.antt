-- The worked cases: one table, and one rule for all its rows. A new row needs no proof.
-- Names: 16, 17 and 18 are the first changes of plants 0, 1 and 2, 32 is the second of plant 0. Lines: 1024 and 1025 are the first two of change 16, 1088 is the first of 17, 1152 of 18, 2048 of 32.
-- change: one of sheet 0. on: one of any sheet. put a b text: an add between lines a and b, where 0 is the start and 1 the end.
-- Assumes nothing.
use Rattle.std.specs.Prelude.{ℕ, List, [], ◌∷◌, codes}
use Prim.Native.String.{String}
use Rattle.change.specs.Membership.{In}
use Rattle.change.specs.Model.{Add, Change}
use Rattle.cases.specs.Play.{comes, goes}
use Rattle.cases.specs.Row.{Row, shows, plays, Holds}

abbrev on : ℕ → ℕ → List ℕ → List Add → List ℕ → Change
on sheet name needs adds kills = record { name = name; sheet = sheet; needs = needs; adds = adds; kills = kills }

abbrev change : ℕ → List ℕ → List Add → List ℕ → Change
change = on 0

abbrev put : ℕ → ℕ → String → Add
put a b text = record { after = a; before = b; text = codes text }

-- A first line, and two lines that two plants put behind it, neither knowing of the other's.
abbrev a : Change
a = change 16 [] (put 0 1 "a" ∷ []) []

abbrev b : Change
b = change 17 (16 ∷ []) (put 1024 1 "b" ∷ []) []

abbrev c : Change
c = change 18 (16 ∷ []) (put 1024 1 "c" ∷ []) []

-- A line behind the first of the two, and the change that settles the block.
abbrev d : Change
d = change 32 (17 ∷ []) (put 1088 1 "d" ∷ []) []

abbrev settled : Change
settled = change 48 (18 ∷ 32 ∷ []) (put 2048 1 "c" ∷ []) (1152 ∷ [])

-- Two lines, and one that goes between them. Then: the first is struck out; or the one between is, with a line put before it and another behind it.
abbrev two : Change
two = change 16 [] (put 0 1 "salt" ∷ put 1024 1 "rice" ∷ []) []

abbrev between : Change
between = change 17 (16 ∷ []) (put 1024 1025 "tea" ∷ []) []

abbrev struck : Change
struck = change 18 (16 ∷ []) [] (1024 ∷ [])

abbrev oil : Change
oil = change 18 (16 ∷ 17 ∷ []) (put 1024 1088 "oil" ∷ []) (1088 ∷ [])

abbrev milk : Change
milk = change 19 (16 ∷ 17 ∷ []) (put 1088 1025 "milk" ∷ []) []

-- A line of another sheet.
abbrev elsewhere : Change
elsewhere = on 1 17 [] (put 0 1 "salt" ∷ []) []

abbrev pub rows : List Row
rows =
    -- a sheet that no change speaks of is empty
    shows [] 0 (codes "")
    -- lines stand where they were put, whatever their numbers
    ∷ shows (two ∷ []) 0 (codes "salt\nrice\n")
    ∷ shows (between ∷ two ∷ []) 0 (codes "salt\ntea\nrice\n")
    ∷ shows (change 16 [] (put 0 1 "below" ∷ put 0 1024 "above" ∷ []) [] ∷ []) 0 (codes "above\nbelow\n")
    -- a line that was struck out isn't shown; without the change that struck it out it is again, as above
    ∷ shows (struck ∷ between ∷ two ∷ []) 0 (codes "tea\nrice\n")
    -- but it keeps its place: what was put on either side of it stays on that side
    ∷ shows (milk ∷ oil ∷ between ∷ two ∷ []) 0 (codes "salt\noil\nmilk\nrice\n")
    -- sheets don't touch: each shows its own lines
    ∷ shows (elsewhere ∷ a ∷ []) 0 (codes "a\n")
    ∷ shows (elsewhere ∷ a ∷ []) 1 (codes "salt\n")
    -- two lines put at one place are a block, by their numbers, whichever came first
    ∷ shows (c ∷ b ∷ a ∷ []) 0 (codes "a\n<<\n1088 b\n1152 c\n>>\n")
    ∷ shows (b ∷ c ∷ a ∷ []) 0 (codes "a\n<<\n1088 b\n1152 c\n>>\n")
    -- what is put behind one of them is in the block too, since the other may stand on either side of it
    ∷ shows (d ∷ c ∷ b ∷ a ∷ []) 0 (codes "a\n<<\n1088 b\n1152 c\n2048 d\n>>\n")
    -- a line of the block that stands before another comes before it, though its number is higher
    ∷ shows (change 34 (16 ∷ 18 ∷ []) (put 1024 1152 "d" ∷ []) [] ∷ c ∷ b ∷ a ∷ []) 0 (codes "a\n<<\n1088 b\n2176 d\n1152 c\n>>\n")
    -- what stands before all of the block or behind it is outside
    ∷ shows (change 18 (16 ∷ []) (put 1024 1025 "milk" ∷ []) [] ∷ between ∷ two ∷ []) 0 (codes "salt\n<<\n1088 tea\n1152 milk\n>>\nrice\n")
    -- a change that strikes one line out and puts it anew settles the block
    ∷ shows (settled ∷ d ∷ c ∷ b ∷ a ∷ []) 0 (codes "a\nb\nd\nc\n")
    -- and so does taking one of the two back
    ∷ shows (c ∷ a ∷ []) 0 (codes "a\nc\n")
    -- two plants that better one line: both are shown, and the old line is not
    ∷ shows (change 18 (16 ∷ []) (put 0 1 "A" ∷ []) (1024 ∷ []) ∷ change 17 (16 ∷ []) (put 0 1 "a!" ∷ []) (1024 ∷ []) ∷ a ∷ []) 0 (codes "<<\n1088 a!\n1152 A\n>>\n")
    -- a change that lacks a need waits, and comes in when that comes; the lowest name first
    ∷ plays (comes a ∷ comes d ∷ comes b ∷ []) (codes "taken 16\nwaits 32\ntaken 17\ntaken 32\n")
    ∷ plays (comes d ∷ comes c ∷ comes b ∷ comes a ∷ []) (codes "waits 32\nwaits 18\nwaits 17\ntaken 16\ntaken 17\ntaken 18\ntaken 32\n")
    -- a name comes once, whether it is in the book or waits
    ∷ plays (comes a ∷ comes a ∷ comes d ∷ comes d ∷ []) (codes "taken 16\nrefused 2 16\nwaits 32\nrefused 2 32\n")
    -- a line must come from what the change needs, and the start can't be struck out; one that waited is turned away for good
    ∷ plays (comes a ∷ comes b ∷ comes (change 33 (17 ∷ []) (put 1024 1 "x" ∷ []) []) ∷ comes (change 34 (16 ∷ []) [] (0 ∷ [])) ∷ []) (codes "taken 16\ntaken 17\nrefused 3 33\nrefused 3 34\n")
    ∷ plays (comes a ∷ comes (change 33 (17 ∷ []) (put 1024 1 "x" ∷ []) []) ∷ comes b ∷ comes (change 33 (17 ∷ []) [] []) ∷ []) (codes "taken 16\nwaits 33\ntaken 17\nrefused 3 33\ntaken 33\n")
    -- a line goes between two that stand in this order
    ∷ plays (comes a ∷ comes b ∷ comes c ∷ comes (change 33 (16 ∷ 17 ∷ []) (put 1088 1024 "x" ∷ []) []) ∷ []) (codes "taken 16\ntaken 17\ntaken 18\nrefused 4 33\n")
    -- what another change needs can't be taken back, nor what isn't there; what nothing rests on can, and may come again
    ∷ plays (comes a ∷ comes b ∷ comes c ∷ goes 16 ∷ goes 17 ∷ goes 17 ∷ comes b ∷ []) (codes "taken 16\ntaken 17\ntaken 18\nrefused 6 16\nback 17\nrefused 6 17\ntaken 17\n")
    ∷ []

abbrev pub WorkedCases : Type 0
WorkedCases = (r : Row) → In r rows → Holds r
