-- What holds of the items of the changes that wait: place by place, when one more comes, and when one waits no more.
-- Assumes nothing.
use Rattle.std.proofs.Common.{◌≡◌, ℕ, zero, suc, ◌≤◌, Bool, true, eqb, List, [], ◌∷◌, ◌++◌, map, length, Some, None, sym, refl, ap, ◌∙◌, arith}
use lib.ListN.{length-map}
use Rattle.std.specs.List.{slice_get, remove, list_all, list_any}
use Rattle.std.specs.Option.{option_map}
use Rattle.std.proofs.lemmas.List.{map_push}
use Rattle.std.proofs.lemmas.Option.{slice_get_past}
use Rattle.change.specs.Bytes.{change_bytes}
use Rattle.change.specs.Model.{Change}
use Rattle.change.specs.WellFormed.{well_formed}
use Rattle.change.proofs.Codec.{whole_is_read}
use Rattle.change.proofs.Every.{every_push}
use Rattle.change.proofs.Tests.{and_true, both_true}
use Rattle.order.specs.Names.{has_name}
use Rattle.waiting.specs.declared.item.Item.{Item}
use Rattle.waiting.specs.declared.Waiting.{Waiting}
use Rattle.waiting.proofs.Found.{any_map}
use Rattle.waiting.specs.Waiting.{change_read, change_in, items_of, bytes_of, waits, Whole}

nth_map : {X Y : Type 0} (f : X → Y) (xs : List X) (i : ℕ) → slice_get (map f xs) i ≡ option_map f (slice_get xs i)
nth_map f [] i = refl
nth_map f (x ∷ xs) zero = refl
nth_map f (x ∷ xs) (suc i) = nth_map f xs i

module _ (w : Waiting) (whole : Whole w) where
  pub bytes_at : (i : ℕ) (item : Item) → slice_get (items_of w) i ≡ Some item → Some (bytes_of item) ≡ option_map change_bytes (slice_get (waits w) i)
  bytes_at i item here =
      ap (option_map bytes_of) (sym here) ∙ sym (nth_map bytes_of (items_of w) i) ∙ ap (λ l. slice_get l i) whole.bytes ∙ nth_map change_bytes (waits w) i

  pub name_waits : (n : ℕ) → list_any (λ i. eqb i.name.0 n) (items_of w) ≡ has_name (waits w) n
  name_waits n =
      sym (any_map (λ m. eqb m n) (λ i. i.name.0) (items_of w)) ∙ ap (list_any (λ m. eqb m n)) whole.names ∙ any_map (λ m. eqb m n) (λ c. c.name) (waits w)

pub none_past : (w : Waiting) (i : ℕ) → length (items_of w) ≤ i → None ≡ option_map change_bytes (slice_get (waits w) i)
none_past w i past = ap (option_map change_bytes) (sym (slice_get_past (waits w) i (omega (arith, length-map (items_of w) (λ a. change_in (bytes_of a))))))

-- an item of the bytes of a change is of that change
pub its_change : (bytes : List ℕ) (c : Change) → well_formed c ≡ true → bytes ≡ change_bytes c → change_in bytes ≡ c
its_change bytes c formed same = ap change_read (whole_is_read bytes c formed same)

module _ (w t : Waiting) (item : Item) (c : Change) (formed : well_formed c ≡ true) (own : bytes_of item ≡ change_bytes c) (pushed : items_of t ≡ items_of w ++ item ∷ []) where
  pub one_more_waits : waits t ≡ waits w ++ c ∷ []
  one_more_waits =
      ap (map (λ i. change_in (bytes_of i))) pushed ∙ map_push (λ i. change_in (bytes_of i)) (items_of w) item ∙ ap (λ d. waits w ++ d ∷ []) (its_change (bytes_of item) c formed own)

  grown : {Y : Type 0} (f : Item → Y) (g : Change → Y) → map f (items_of w) ≡ map g (waits w) → f item ≡ g c → map f (items_of t) ≡ map g (waits t)
  grown f g same new =
      ap (map f) pushed ∙ map_push f (items_of w) item ∙ (λ i. same i ++ new i ∷ []) ∙ sym (map_push g (waits w) c) ∙ ap (map g) (sym one_more_waits)

  pub whole_with_one_more : item.name.0 ≡ c.name → Whole w → Whole t
  whole_with_one_more name whole = record {
    formed = ap (list_all well_formed) one_more_waits ∙ every_push well_formed (waits w) c whole.formed formed;
    bytes = grown bytes_of change_bytes whole.bytes own;
    names = grown (λ i. i.name.0) (λ d. d.name) whole.names name;
  }

map_removed : {X Y : Type 0} (f : X → Y) (xs : List X) (i : ℕ) → map f (remove xs i) ≡ remove (map f xs) i
map_removed f [] zero = refl
map_removed f [] (suc i) = refl
map_removed f (x ∷ xs) zero = refl
map_removed f (x ∷ xs) (suc i) = ap (λ l. f x ∷ l) (map_removed f xs i)

every_removed : {X : Type 0} (test : X → Bool) (xs : List X) (i : ℕ) → list_all test xs ≡ true → list_all test (remove xs i) ≡ true
every_removed test [] zero h = refl
every_removed test [] (suc i) h = refl
every_removed test (x ∷ xs) zero h = (and_true (test x) (list_all test xs) h).1
every_removed test (x ∷ xs) (suc i) h = let t = and_true (test x) (list_all test xs) h in both_true t.0 (every_removed test xs i t.1)

module _ (w t : Waiting) (i : ℕ) (gone : items_of t ≡ remove (items_of w) i) where
  pub one_waits_no_more : waits t ≡ remove (waits w) i
  one_waits_no_more = ap (map (λ a. change_in (bytes_of a))) gone ∙ map_removed (λ a. change_in (bytes_of a)) (items_of w) i

  left_over : {Y : Type 0} (f : Item → Y) (g : Change → Y) → map f (items_of w) ≡ map g (waits w) → map f (items_of t) ≡ map g (waits t)
  left_over f g same = ap (map f) gone ∙ map_removed f (items_of w) i ∙ ap (λ l. remove l i) same ∙ sym (map_removed g (waits w) i) ∙ ap (map g) (sym one_waits_no_more)

  pub whole_without_one : Whole w → Whole t
  whole_without_one whole = record {
    formed = ap (list_all well_formed) one_waits_no_more ∙ every_removed well_formed (waits w) i whole.formed;
    bytes = left_over bytes_of change_bytes whole.bytes;
    names = left_over (λ a. a.name.0) (λ d. d.name) whole.names;
  }
