-- What fits, as tests that a program can make: L lists the changes that are there, the latest first, and c is the one in question.
-- is_known: a change of c's name is there. needs_here: what c needs is there. is_related: c keeps to its sheet, and to lines that it may name.
-- is_ordered: each add of c goes between two lines that stand in this order.
-- fits: all is well, and c is new. listed: each change of a list fits those behind it.
-- Assumes nothing.
use Rattle.std.specs.Prelude.{ℕ, Bool, true, not, ◌&&◌, ◌||◌, List, [], ◌∷◌, ◌==◌, nat_eq, nat_lt}
use Rattle.std.specs.List.{list_all, list_any}
use Rattle.change.specs.Model.{Change}
use Rattle.change.specs.WellFormed.{well_formed}
use Rattle.order.specs.Names.{has_name}
use Rattle.order.specs.Order.{Put, puts}
use Rattle.order.specs.Table.{step, bef, placed}
use Rattle.verdict.specs.FromNeeds.{is_among, from_needs}

abbrev pub is_known : List Change → Change → Bool
is_known L c = has_name L c.name

abbrev pub needs_here : List Change → Change → Bool
needs_here L c = list_all (has_name L) c.needs

-- what c needs of L is of the sheet of c
abbrev pub one_sheet : List Change → Change → Bool
one_sheet L c = list_all (λ d. not (is_among d.name c.needs) || d.sheet == c.sheet) L

-- the start, the end, the line of an earlier put, or one that comes from elsewhere, as `from` says
abbrev pub is_named : (ℕ → Bool) → List Put → ℕ → Bool
is_named from earlier u = nat_lt u 2 || (list_any (λ p. nat_eq p.line u) earlier || from u)

-- the puts of a change, one after the other, name such lines only
abbrev pub all_named : (ℕ → Bool) → List Put → List Put → Bool
all_named from earlier [] = true
all_named from earlier (p ∷ ps) = is_named from earlier p.after && (is_named from earlier p.before && all_named from (p ∷ earlier) ps)

abbrev pub is_related : List Change → Change → Bool
is_related L c = one_sheet L c && (all_named (from_needs L c) [] (puts c) && list_all (from_needs L c) c.kills)

-- the puts of a change, one after the other, go between lines that stand so in the order R and by the puts before them
abbrev pub all_ordered : (ℕ → ℕ → Bool) → List Put → Bool
all_ordered R [] = true
all_ordered R (p ∷ ps) = R p.after p.before && all_ordered (step R p) ps

abbrev pub is_ordered : List Change → Change → Bool
is_ordered L c = all_ordered (bef (placed L)) (puts c)

abbrev pub fits : List Change → Change → Bool
fits L c = well_formed c && (not (is_known L c) && (needs_here L c && (is_related L c && is_ordered L c)))

abbrev pub listed : List Change → Bool
listed [] = true
listed (c ∷ L) = listed L && fits L c
