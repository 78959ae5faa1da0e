-- One line more in a request, and one piece more among the requests; what is known of a line that is looked for by its number.
-- Assumes nothing.
use Rattle.std.proofs.Common.{◌≡◌, ℕ, zero, suc, ◌+◌, ◌-◌, ◌*◌, ◌<◌, ◌≤◌, min, eqb, Bool, true, ◌⊎◌, List, [], ◌∷◌, ◌++◌, map, length, get_or, take, drop, Some, None, sym, refl, ap, ◌∙◌, subst, ap₂, inl, inr, append_assoc, append-nil, arith, length-append}
use Rattle.std.specs.List.{find, list_all}
use Rattle.std.proofs.Math.Seq.{take-append_seam, drop-append_seam}
use Rattle.std.proofs.lemmas.List.{take_all, take_more, map-append, drop_all, length-take}
use Rattle.std.proofs.lemmas.Bool.{cases_eq, cases_lt, and_parts, cond-true, cond-false, eq-eqb, ne_eqb}
use Rattle.change.specs.Membership.{In}
use Rattle.change.specs.View.{cut}
use Rattle.change.specs.Model.{line_of}
use Rattle.change.specs.WellFormed.{highest_name}
use Rattle.sheet.specs.declared.line.LineAt.{LineAt}
use Rattle.sheet.specs.Lines.{numbers, text_in}
use Rattle.making.specs.Request.{Request}
use Rattle.settling.proofs.Linked.{numbers_alike}
use Rattle.settling.specs.Requests.{chained, numbers_from, last_of, request, new_of, requests, piece_limit, cut_up, in_pieces}

chained_push : (m a n : ℕ) (texts : List (List ℕ)) (t : List ℕ) →
    chained m a n (texts ++ t ∷ []) ≡ chained m a n texts ++ record { after = last_of a (numbers_from n texts); before = m; text = t } ∷ []
chained_push m a n [] t = refl
chained_push m a n (s ∷ texts) t = ap (λ l. record { after = a; before = m; text = s } ∷ l) (chained_push m n (suc n) texts t)

pub last_of_numbers : {X : Type 0} (a n : ℕ) (xs : List X) → 0 < length xs → last_of a (numbers_from n xs) ≡ n + (length xs - 1)
last_of_numbers a n [] some = absurd (omega arith)
last_of_numbers a n (x ∷ []) some = omega arith
last_of_numbers a n (x ∷ y ∷ xs) some = last_of_numbers n (suc n) (y ∷ xs) (omega arith) ∙ omega arith

-- Drafting text m a name piece sheet k r last: r asks for the first k lines of the piece, and `last` is the last line that it adds, or a.
pub record Drafting (text : ℕ → List ℕ) (m a name : ℕ) (piece : List ℕ) (sheet k : ℕ) (r : Request) (last : ℕ) : Type 0 where
  pub asks : r ≡ request text m a name (take k piece) sheet
  pub ends : last ≡ last_of a (new_of name (take k piece))

module _ (text : ℕ → List ℕ) (m a name : ℕ) (piece : List ℕ) (sheet : ℕ) where
  pub drafting_begins : (r : Request) → r ≡ record { sheet = sheet; adds = []; kills = [] } → Drafting text m a name piece sheet 0 r a
  drafting_begins r e = record { asks = e; ends = refl }

  pub drafting_more :
      (k : ℕ) (r r' r'' : Request) (last last' : ℕ) (t : List ℕ) → k < length piece → Drafting text m a name piece sheet k r last → t ≡ text (get_or piece k 0) →
      r' ≡ record { sheet = r.sheet; adds = r.adds ++ record { after = last; before = m; text = t } ∷ []; kills = r.kills } →
      r'' ≡ record { sheet = r'.sheet; adds = r'.adds; kills = r'.kills ++ get_or piece k 0 ∷ [] } →
      last' ≡ line_of name k → Drafting text m a name piece sheet (k + 1) r'' last'
  drafting_more k r r' r'' last last' t less d is_text_lem added killed behind = record { asks = asks'; ends = behind ∙ ends' }
    where
      more : take (k + 1) piece ≡ take k piece ++ get_or piece k 0 ∷ []
      more = take_more piece k 0 less

      few : length (take k piece) ≡ k
      few = omega (arith, length-take k piece)

      adds : chained m a (line_of name 0) (map text (take k piece ++ get_or piece k 0 ∷ [])) ≡ chained m a (line_of name 0) (map text (take k piece)) ++ record { after = last; before = m; text = t } ∷ []
      adds =
          ap (chained m a (line_of name 0)) (map-append text (take k piece) (get_or piece k 0 ∷ []))
          ∙ chained_push m a (line_of name 0) (map text (take k piece)) (text (get_or piece k 0))
          ∙ ap₂ (λ b s. chained m a (line_of name 0) (map text (take k piece)) ++ record { after = b; before = m; text = s } ∷ [])
          (ap (last_of a) (numbers_alike text (line_of name 0) (take k piece)) ∙ sym d.ends) (sym is_text_lem)

      asks' : r'' ≡ request text m a name (take (k + 1) piece) sheet
      asks' =
          killed
          ∙ ap (λ (x : Request). record { sheet = x.sheet; adds = x.adds; kills = x.kills ++ get_or piece k 0 ∷ [] })
          (added ∙ ap (λ (x : Request). record { sheet = x.sheet; adds = x.adds ++ record { after = last; before = m; text = t } ∷ []; kills = x.kills }) d.asks)
          ∙ ap (λ l. record { sheet = sheet; adds = l; kills = take k piece ++ get_or piece k 0 ∷ [] }) (sym adds)
          ∙ ap (λ p. request text m a name p sheet) (sym more)

      ends' : line_of name k ≡ last_of a (new_of name (take (k + 1) piece))
      ends' =
          let long : length (take (k + 1) piece) ≡ k + 1 = omega (arith, length-take (k + 1) piece) in
          sym (last_of_numbers a (line_of name 0) (take (k + 1) piece) (omega arith) ∙ omega arith)

  pub drafting_ends : (k : ℕ) (r : Request) (last : ℕ) → length piece ≤ k → Drafting text m a name piece sheet k r last → r ≡ request text m a name piece sheet
  drafting_ends k r last done d = d.asks ∙ ap (λ p. request text m a name p sheet) (take_all k piece done)

-- Cutting text m a next order sheet rs b name rest: the requests rs for the pieces that were cut off, with those for the pieces of what is left, behind the line b and from this name on, are all; and there are names for these.
pub record Cutting (text : ℕ → List ℕ) (m a next : ℕ) (order : List ℕ) (sheet : ℕ) (rs : List Request) (b name : ℕ) (rest : List ℕ) : Type 0 where
  pub fuel : ℕ
  pub enough : length rest ≤ fuel
  pub asks : rs ++ requests text m b name (cut_up fuel rest) sheet ≡ requests text m a next (in_pieces order) sheet
  pub names : name + length (cut_up fuel rest) * 16 ≤ highest_name + 16

cut_seam : (piece behind : List ℕ) → (length piece ≡ piece_limit) ⊎ ((length piece ≤ piece_limit) × (length behind ≡ 0)) → (take piece_limit (piece ++ behind) ≡ piece) × (drop piece_limit (piece ++ behind) ≡ behind)
cut_seam piece behind (inl full) = (
  ap (λ n. take n (piece ++ behind)) (sym full) ∙ take-append_seam piece behind,
  ap (λ n. drop n (piece ++ behind)) (sym full) ∙ drop-append_seam piece behind,
)
cut_seam piece [] (inr (short, last)) = (
  ap (take piece_limit) (append-nil piece) ∙ take_all piece_limit piece short,
  ap (drop piece_limit) (append-nil piece) ∙ drop_all piece_limit piece short,
)
cut_seam piece (u ∷ behind) (inr (short, last)) = absurd (omega arith)

module _ (text : ℕ → List ℕ) (m a next : ℕ) (order : List ℕ) (sheet : ℕ) where
  pub cutting_begins : (rs : List Request) (rest : List ℕ) → rs ≡ [] → rest ≡ order → next + length (in_pieces order) * 16 ≤ highest_name + 16 → Cutting text m a next order sheet rs a next rest
  cutting_begins rs rest e same names =
      subst (Cutting text m a next order sheet rs a next) (sym same)
      (record { fuel = length order; enough = omega arith; asks = ap (λ l. l ++ requests text m a next (in_pieces order) sheet) e; names = names })

  pub cutting_ends : (rs : List Request) (b name : ℕ) (rest : List ℕ) → Cutting text m a next order sheet rs b name rest → length rest ≡ 0 → rs ≡ requests text m a next (in_pieces order) sheet
  cutting_ends rs b name rest c done = sym (append-nil rs) ∙ ap (λ us. rs ++ requests text m b name us sheet) (sym (cut_none c.fuel rest done)) ∙ c.asks
    where
      cut_none : (n : ℕ) (us : List ℕ) → length us ≡ 0 → cut_up n us ≡ []
      cut_none zero us none = refl
      cut_none (suc n) [] none = refl
      cut_none (suc n) (u ∷ us) some = absurd (omega arith)

  -- a piece is cut off what is left
  module _ (rest piece behind : List ℕ) (is : rest ≡ piece ++ behind) (size : length piece ≡ min piece_limit (length rest)) (some : 0 < length rest) where
    sizes : length rest ≡ length piece + length behind
    sizes = ap length is ∙ length-append piece behind

    cut_off : (us : List ℕ) → us ≡ rest → (n : ℕ) → length rest ≤ n → (k : ℕ) × (n ≡ suc k) × (cut_up n us ≡ take piece_limit us ∷ cut_up k (drop piece_limit us))
    cut_off [] e n h = absurd (omega (arith, ap length e))
    cut_off (u ∷ us) e zero h = absurd (omega arith)
    cut_off (u ∷ us) e (suc n) h = (n, refl, refl)

    pub cutting_name : (rs : List Request) (b name : ℕ) → Cutting text m a next order sheet rs b name rest → name ≤ highest_name
    cutting_name rs b name c =
        let (k, e, cut) = cut_off rest refl c.fuel c.enough in
        omega (arith, c.names, ap length cut)

    full_or_last : (length piece ≡ piece_limit) ⊎ ((length piece ≤ piece_limit) × (length behind ≡ 0))
    full_or_last = elim (cases_lt (length rest) 30) [ inl h ↦ inr (omega (arith, sizes), omega (arith, sizes)) | inr h ↦ inl (omega (arith, sizes)) ]

    piece_is : take piece_limit rest ≡ piece
    piece_is = ap (take piece_limit) is ∙ (cut_seam piece behind full_or_last).0

    behind_is : drop piece_limit rest ≡ behind
    behind_is = ap (drop piece_limit) is ∙ (cut_seam piece behind full_or_last).1

    pub cutting_more :
        (rs rs' : List Request) (r : Request) (b b' name : ℕ) → Cutting text m a next order sheet rs b name rest →
        r ≡ request text m b name piece sheet → rs' ≡ rs ++ r ∷ [] → b' ≡ line_of name (length piece - 1) →
        Cutting text m a next order sheet rs' b' (name + 16) behind
    cutting_more rs rs' r b b' name c asked more last =
        let (k, e, cut) = cut_off rest refl c.fuel c.enough in
        let cut' : cut_up c.fuel rest ≡ piece ∷ cut_up k behind = cut ∙ ap₂ (λ p us. p ∷ cut_up k us) piece_is behind_is in
        let last' : b' ≡ last_of b (new_of name piece) = last ∙ sym (last_of_numbers b (line_of name 0) piece (omega arith) ∙ omega arith) in
        record {
          fuel = k;
          enough = omega (arith, sizes, c.enough);
          asks =
              ap₂ (λ l x. l ++ requests text m x (name + 16) (cut_up k behind) sheet) (more ∙ ap (λ x. rs ++ x ∷ []) asked) last'
              ∙ append_assoc rs (request text m b name piece sheet ∷ []) (requests text m (last_of b (new_of name piece)) (name + 16) (cut_up k behind) sheet)
              ∙ ap (λ us. rs ++ requests text m b name us sheet) (sym cut')
              ∙ c.asks;
          names = omega (arith, c.names, ap length cut');
        }

-- what is known of the first line with a number, where it is looked for
module _ (number : ℕ) where
  abbrev pub has_number : LineAt → Bool
  has_number a = eqb a.number.0 number

  skipped : (b : LineAt) (ls : List LineAt) → (b.number.0 ≡ number → ⊥) → find has_number (b ∷ ls) ≡ find has_number ls
  skipped b ls other = cond-false (eqb b.number.0 number) _ _ (ne_eqb _ _ other)

  found_here : (b : LineAt) (ls : List LineAt) → b.number.0 ≡ number → find has_number (b ∷ ls) ≡ Some b
  found_here b ls same = cond-true (eqb b.number.0 number) _ _ (eq-eqb _ _ same)

  pub found_passes : (test : LineAt → Bool) (ls : List LineAt) (a : LineAt) → find has_number ls ≡ Some a → list_all test ls ≡ true → test a ≡ true
  found_passes test [] a found all = cc
  found_passes test (b ∷ ls) a found all =
      let (here, rest) = and_parts (test b) (list_all test ls) all in
      elim (cases_eq b.number.0 number) [
        | inl same ↦ (let it : Some b ≡ Some a = sym (found_here b ls same) ∙ found in let is : b ≡ a = cc in ap test (sym is) ∙ here)
        | inr other ↦ found_passes test ls a (sym (skipped b ls other) ∙ found) rest
      ]

  pub found_text : (area : List ℕ) (ls : List LineAt) (a : LineAt) → find has_number ls ≡ Some a → text_in area ls number ≡ cut area a.text
  found_text area [] a found = cc
  found_text area (b ∷ ls) a found =
      elim (cases_eq b.number.0 number) [
        | inl same ↦ (let it : Some b ≡ Some a = sym (found_here b ls same) ∙ found in let is : b ≡ a = cc in
            cond-true (eqb b.number.0 number) (cut area b.text) (text_in area ls number) (eq-eqb _ _ same) ∙ ap (λ (x : LineAt). cut area x.text) is)
        | inr other ↦ cond-false (eqb b.number.0 number) (cut area b.text) (text_in area ls number) (ne_eqb _ _ other) ∙ found_text area ls a (sym (skipped b ls other) ∙ found)
      ]

  pub none_found : (ls : List LineAt) → find has_number ls ≡ None → In number (numbers ls) → ⊥
  none_found [] none i = i
  none_found (b ∷ ls) none (inl same) = let it : Some b ≡ None = sym (found_here b ls (sym same)) ∙ none in cc
  none_found (b ∷ ls) none (inr i) =
      elim (cases_eq b.number.0 number) [
        | inl same ↦ (let it : Some b ≡ None = sym (found_here b ls same) ∙ none in cc)
        | inr other ↦ none_found ls (sym (skipped b ls other) ∙ none) i
      ]
