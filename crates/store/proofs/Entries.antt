-- The entries of changes: of two parts, at a place, and after a change is taken out.
-- Assumes nothing.
use Rattle.std.proofs.Common.{◌≡◌, ℕ, zero, suc, ◌+◌, ◌-◌, ◌<◌, List, [], ◌∷◌, ◌++◌, map, length, get_or, take, drop, sym, refl, ap, ◌∙◌, arith, length-append}
use Rattle.std.specs.List.{flat_map, remove}
use Rattle.change.specs.Bytes.{change_bytes}
use Rattle.change.specs.Model.{Change}
use Rattle.store.specs.declared.entry.Entry.{Entry}
use Rattle.store.specs.Entries.{start_of, entry_of, entries_from, lowered}
use Rattle.store.proofs.Joined.{joined_next}

pub length_entries : (start : ℕ) (cs : List Change) → length (entries_from start cs) ≡ length cs
length_entries start [] = refl
length_entries start (c ∷ cs) = ap suc (length_entries (start + length (change_bytes c)) cs)

pub map_entries : (f : Entry → ℕ) (g : Change → ℕ) → ((start : ℕ) (c : Change) → f (entry_of start c) ≡ g c) → (start : ℕ) (cs : List Change) → map f (entries_from start cs) ≡ map g cs
map_entries f g shows start [] = refl
map_entries f g shows start (c ∷ cs) = λ i. shows start c i ∷ map_entries f g shows (start + length (change_bytes c)) cs i

-- one change further on
further : (start n : ℕ) (front back : List ℕ) → n ≡ length back → start + length front + n ≡ start + length (front ++ back)
further start n front back e = omega (arith, length-append front back)

pub entries_append : (start : ℕ) (cs ds : List Change) → entries_from start (cs ++ ds) ≡ entries_from start cs ++ entries_from (start + length (flat_map change_bytes cs)) ds
entries_append start [] ds = ap (λ n. entries_from n ds) (omega arith)
entries_append start (c ∷ cs) ds =
    ap (λ l. entry_of start c ∷ l)
    (entries_append (start + length (change_bytes c)) cs ds
    ∙ ap (λ n. entries_from (start + length (change_bytes c)) cs ++ entries_from n ds) (further start _ (change_bytes c) (flat_map change_bytes cs) refl))

pub entry_at : (start : ℕ) (cs : List Change) (i : ℕ) (e : Entry) (d : Change) → i < length cs → get_or (entries_from start cs) i e ≡ entry_of (start + start_of cs i) (get_or cs i d)
entry_at start [] i e d less = absurd (omega arith)
entry_at start (c ∷ cs) zero e d less = ap (λ n. entry_of n c) (omega arith)
entry_at start (c ∷ cs) (suc i) e d less =
    entry_at (start + length (change_bytes c)) cs i e d (omega arith)
    ∙ ap (λ n. entry_of n (get_or cs i d)) (further start _ (change_bytes c) (flat_map change_bytes (take i cs)) refl)

pub take_entries : (start : ℕ) (cs : List Change) (i : ℕ) → take i (entries_from start cs) ≡ entries_from start (take i cs)
take_entries start cs zero = refl
take_entries start [] (suc i) = refl
take_entries start (c ∷ cs) (suc i) = ap (λ l. entry_of start c ∷ l) (take_entries (start + length (change_bytes c)) cs i)

pub drop_entries : (start : ℕ) (cs : List Change) (i : ℕ) → drop i (entries_from start cs) ≡ entries_from (start + start_of cs i) (drop i cs)
drop_entries start cs zero = ap (λ n. entries_from n cs) (omega arith)
drop_entries start [] (suc i) = refl
drop_entries start (c ∷ cs) (suc i) =
    drop_entries (start + length (change_bytes c)) cs i
    ∙ ap (λ n. entries_from n (drop i cs)) (further start _ (change_bytes c) (flat_map change_bytes (take i cs)) refl)

pub lowered_entries : (start by : ℕ) (cs : List Change) → map (lowered by) (entries_from (start + by) cs) ≡ entries_from start cs
lowered_entries start by [] = refl
lowered_entries start by (c ∷ cs) =
    (λ i. entry_of (same i) c ∷ map (lowered by) (entries_from (on i) cs)) ∙ ap (λ l. entry_of start c ∷ l) (lowered_entries (start + length (change_bytes c)) by cs)
  where
    same : start + by - by ≡ start
    same = omega arith

    on : start + by + length (change_bytes c) ≡ start + length (change_bytes c) + by
    on = omega arith

pub start_next : (cs : List Change) (i : ℕ) (d : Change) → i < length cs → start_of cs (suc i) ≡ start_of cs i + length (change_bytes (get_or cs i d))
start_next cs i d less = ap length (joined_next change_bytes cs i d less) ∙ length-append (flat_map change_bytes (take i cs)) (change_bytes (get_or cs i d))

-- the entries behind the one that is taken out begin by its length earlier
pub entries_removed : (cs : List Change) (i : ℕ) (d : Change) → i < length cs →
    take i (entries_from 0 cs) ++ map (lowered (length (change_bytes (get_or cs i d)))) (drop (suc i) (entries_from 0 cs)) ≡ entries_from 0 (remove cs i)
entries_removed cs i d less =
    let size = length (change_bytes (get_or cs i d)) in
    let behind = drop_entries 0 cs (suc i) ∙ ap (λ n. entries_from n (drop (suc i) cs)) (omega (arith, start_next cs i d less)) in
    (λ j. take_entries 0 cs i j ++ map (lowered size) (behind j))
    ∙ ap (λ l. entries_from 0 (take i cs) ++ l) (lowered_entries (0 + start_of cs i) size (drop (suc i) cs))
    ∙ sym (entries_append 0 (take i cs) (drop (suc i) cs))
