-- Who sits where, and what a plant's taking a seat comes to.
-- Unused s: nobody sits there, nothing has come to its book, and nothing was said.
-- is_plants o n: o is the plant with the number n. is_nobodys o: it is no plant. first_of n seats: the place where the plant n sits. first_free seats: the first place where nobody does.
-- Altered P k old new: of the seats, that at the place k alone is another, and P holds of it as it was and as it is. Given n s t: the seat s is given to the plant n, and then is t; a book in which nothing has come yet is the plant's from then on.
-- TookSeat n old new r: the place r where the plant n sits, or the first free one, which it then takes; none where it sits nowhere and nothing is free.
-- wants n seats: 1 where the plant n has no seat yet. fit_both n m seats: each of two plants has a seat, or there is a free one for it.
-- Assumes nothing.
use Rattle.std.specs.Prelude.{◌≡◌, ℕ, ◌+◌, Bool, true, false, cond, List, Some, None, Option, ◌⊎◌, ◌==◌, is_none, nat_le, position, count_by, slice_set, slice_get}
use Rattle.change.specs.declared.names.Plant.{Plant}
use Rattle.history.specs.Book.{empty}
use Rattle.plant_books.specs.Blank.{is_blank}
use Rattle.desk.specs.State.{state_of, begun}
use Rattle.rehearse.specs.declared.seats.Seat.{Seat}

abbrev pub is_plants : Option Plant → ℕ → Bool
is_plants None n = false
is_plants (Some p) n = p.number == n

abbrev pub is_nobodys : Option Plant → Bool
is_nobodys None = true
is_nobodys (Some p) = false

abbrev pub place_of : ℕ → List Seat → Option ℕ
place_of n seats = position (λ s. is_plants s.plant n) seats

abbrev pub first_free : List Seat → Option ℕ
first_free seats = position (λ s. is_nobodys s.plant) seats

abbrev pub Altered : (Seat → Seat → Type 0) → ℕ → List Seat → List Seat → Type 0
Altered P k old new = (s : Seat) × (t : Seat) × (slice_get old k ≡ Some s) × (new ≡ slice_set old k t) × P s t

pub record Given (n : ℕ) (s t : Seat) : Type 0 where
  pub plant : is_plants t.plant n ≡ true
  pub desk : state_of t.desk ≡ record { book = cond (is_blank (state_of s.desk).book) (empty n) (state_of s.desk).book; request = (state_of s.desk).request }

abbrev pub TookSeat : ℕ → List Seat → List Seat → Option ℕ → Type 0
TookSeat n old new None = (place_of n old ≡ None) × (first_free old ≡ None) × (new ≡ old)
TookSeat n old new (Some k) = ((place_of n old ≡ Some k) × (new ≡ old)) ⊎ ((place_of n old ≡ None) × (first_free old ≡ Some k) × Altered (Given n) k old new)

abbrev pub wants : ℕ → List Seat → ℕ
wants n seats = cond (is_none (place_of n seats)) 1 0

abbrev pub fit_both : ℕ → ℕ → List Seat → Bool
fit_both n m seats = nat_le (wants n seats + cond (n == m) 0 (wants m seats)) (count_by (λ s. is_nobodys s.plant) seats)

pub record Unused (s : Seat) : Type 0 where
  pub plant : s.plant ≡ None
  pub desk : state_of s.desk ≡ record { book = empty 0; request = begun 0 }
