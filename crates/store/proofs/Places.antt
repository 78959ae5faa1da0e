-- What a whole store has at a place, by its entries and by its bytes.
-- Assumes nothing.
use Rattle.std.proofs.Common.{◌≡◌, ℕ, suc, ◌+◌, ◌-◌, ◌<◌, ◌≤◌, List, [], ◌++◌, map, length, get_or, take, drop, Some, None, vec_len, sym, ap, ◌∙◌, append-nil, arith, length-append, take-append-drop, length-take-le, take_all}
use lib.ListN.{length-map}
use Rattle.std.specs.List.{slice_get, flat_map}
use Rattle.std.specs.Option.{option_map}
use Rattle.std.proofs.lemmas.List.{get_or-map}
use Rattle.std.proofs.lemmas.Option.{slice_get-get_or, slice_get_past}
use Rattle.change.specs.Bytes.{change_bytes}
use Rattle.change.specs.Model.{Change}
use Rattle.store.specs.declared.Store.{Store}
use Rattle.store.specs.declared.entry.Entry.{Entry}
use Rattle.store.specs.Entries.{start_of, entry_of}
use Rattle.store.specs.Kept.{entries_of, kept}
use Rattle.store.proofs.Entries.{length_entries, map_entries, entry_at, start_next}
use Rattle.store.proofs.Joined.{joined_append, joined_at, second_part}
use Rattle.store.proofs.Laid.{whole_is_laid}

-- what stands past the end
abbrev pub blank : Change
blank = record { name = 0; sheet = 0; needs = []; adds = []; kills = [] }

-- An element that was read, by what is asked of it.
nth_map_read : {X Y : Type 0} (f : X → Y) (xs : List X) (i : ℕ) (x : X) → i < length xs → x ≡ get_or xs i x → Some (f x) ≡ slice_get (map f xs) i
nth_map_read f xs i x less e =
    ap (λ y. Some (f y)) e ∙ ap Some (sym (get_or-map f xs i x (f x) less)) ∙ sym (slice_get-get_or (map f xs) i (f x) (rw length-map less))

module _ (s : Store) where
  pub length_kept : vec_len s.entries ≡ length (kept s)
  length_kept = s.entries.ok.0 ∙ ap length s.marked ∙ length_entries 0 (kept s)

  -- what entries and changes both show
  module _ (f : Entry → ℕ) (g : Change → ℕ) (shows : (start : ℕ) (c : Change) → f (entry_of start c) ≡ g c) where
    pub all_shown : map f (entries_of s) ≡ map g (kept s)
    all_shown = ap (map f) s.marked ∙ map_entries f g shows 0 (kept s)

    pub shown_at : (i : ℕ) (e : Entry) → i < vec_len s.entries → e ≡ get_or (entries_of s) i e → Some (f e) ≡ slice_get (map g (kept s)) i
    shown_at i e less read = nth_map_read f (entries_of s) i e (omega (arith, s.entries.ok.0)) read ∙ ap (λ l. slice_get l i) all_shown

  pub none_past : (g : Change → ℕ) (i : ℕ) → vec_len s.entries ≤ i → None ≡ slice_get (map g (kept s)) i
  none_past g i past = sym (slice_get_past (map g (kept s)) i (omega (arith, length-map (kept s) g, length_kept)))

  pub start_at : (i : ℕ) (e : Entry) → i < vec_len s.entries → e ≡ get_or (entries_of s) i e → e.start ≡ start_of (kept s) i
  start_at i e less read =
      let n = length_kept in
      ap (λ x. x.start) (read ∙ ap (λ l. get_or l i e) s.marked ∙ entry_at 0 (kept s) i e blank (omega arith)) ∙ omega arith

  pub used_is : s.used ≡ length (flat_map change_bytes (kept s))
  used_is = sym (length-take-le s.used s.area.now s.inside) ∙ ap length (whole_is_laid s).bytes

  pub start_past : (i : ℕ) → vec_len s.entries ≤ i → s.used ≡ start_of (kept s) i
  start_past i past = let n = length_kept in used_is ∙ ap (λ l. length (flat_map change_bytes l)) (sym (take_all i (kept s) (omega arith)))

  pub start_inside : (i : ℕ) → start_of (kept s) i ≤ s.used
  start_inside i =
      let parts = ap (flat_map change_bytes) (sym (take-append-drop i (kept s))) ∙ joined_append change_bytes (take i (kept s)) (drop i (kept s)) in
      let n = ap length parts ∙ length-append (flat_map change_bytes (take i (kept s))) (flat_map change_bytes (drop i (kept s))) in
      omega (arith, used_is)

  pub start_on : (i : ℕ) → i < vec_len s.entries → start_of (kept s) (i + 1) ≡ start_of (kept s) i + length (change_bytes (get_or (kept s) i blank))
  start_on i less = let n = length_kept in let one_more : i + 1 ≡ suc i = omega arith in ap (start_of (kept s)) one_more ∙ start_next (kept s) i blank (omega arith)

  pub bytes_at : (i from to : ℕ) → i < vec_len s.entries → from ≡ start_of (kept s) i → to ≡ start_of (kept s) (i + 1) →
      Some (take (to - from) (drop from s.area.now)) ≡ option_map change_bytes (slice_get (kept s) i)
  bytes_at i from to less begins ends =
      let n = length_kept in
      let within : i < length (kept s) = omega arith in
      let c = get_or (kept s) i blank in
      let size : to - from ≡ length (change_bytes c) = omega (arith, start_on i less) in
      let part = second_part s.area.now s.used s.inside (flat_map change_bytes (take i (kept s))) (change_bytes c) (flat_map change_bytes (drop (suc i) (kept s)))
      ((whole_is_laid s).bytes ∙ joined_at change_bytes (kept s) i blank within) in
      ap Some ((λ j. take (size j) (drop (begins j) s.area.now)) ∙ part) ∙ ap (option_map change_bytes) (sym (slice_get-get_or (kept s) i blank within))

  pub no_bytes_past : (i : ℕ) → vec_len s.entries ≤ i → None ≡ option_map change_bytes (slice_get (kept s) i)
  no_bytes_past i past = let n = length_kept in ap (option_map change_bytes) (sym (slice_get_past (kept s) i (omega arith)))

  pub bytes_from : (i from : ℕ) → from ≡ start_of (kept s) i → take (s.used - from) (drop from s.area.now) ≡ flat_map change_bytes (drop i (kept s))
  bytes_from i from begins =
      let front = flat_map change_bytes (take i (kept s)) in
      let back = flat_map change_bytes (drop i (kept s)) in
      let parts : flat_map change_bytes (kept s) ≡ front ++ back = ap (flat_map change_bytes) (sym (take-append-drop i (kept s))) ∙ joined_append change_bytes (take i (kept s)) (drop i (kept s)) in
      let size : s.used - from ≡ length back = omega (arith, used_is, ap length parts ∙ length-append front back) in
      (λ j. take (size j) (drop (begins j) s.area.now))
      ∙ second_part s.area.now s.used s.inside front back [] ((whole_is_laid s).bytes ∙ parts ∙ ap (λ l. front ++ l) (sym (append-nil back)))
