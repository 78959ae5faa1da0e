-- The adds of a request one by one: those whose lines are known are asked for their order, and each is put in.
-- Assumes nothing.
use Rattle.std.proofs.Common.{◌≡◌, ℕ, ◌+◌, ◌<◌, ◌≤◌, Bool, true, not, ◌&&◌, ◌||◌, List, [], ◌∷◌, map, reverse, length, get_or, take, drop, sym, ap, ◌∙◌, ap₂, arith}
use Rattle.std.proofs.lemmas.List.{at_drop_more, at_drop_all, take_more, reverse-append, take-map, length-take-le}
use Rattle.std.specs.List.{list_all, enumerate_from}
use Rattle.change.specs.declared.names.Line.{Line}
use Rattle.change.specs.declared.span.AddAt.{AddAt}
use Rattle.change.specs.Model.{Change, line_of}
use Rattle.change.specs.View.{blank, add_in}
use Rattle.order.specs.Order.{Put, puts_from}
use Rattle.order.specs.Table.{bef, onto, placed}
use Rattle.drafts.specs.PutsOf.{puts_of}
use Rattle.making.specs.Making.{known_ordered}
use Rattle.shelf.specs.Relating.{are_named}
use Rattle.shelf.specs.Asking.{has_line}
use Rattle.shelf.proofs.Earlier.{take_puts}
use Rattle.shelf.proofs.Naming.{nowhere, put_has_the_lines, length_puts}
use Rattle.drafts.proofs.Texts.{puts_of_view}
use Rattle.drafts.specs.Parts.{request_from}
use Rattle.drafts.specs.Named.{is_ordered_among}
use Rattle.drafts.specs.Lines.{may_name_both}
use Rattle.drafts.specs.Puts.{goes_behind}
use Rattle.drafts.proofs.Naming.{may_name_at}
use Rattle.shelf.proofs.Places.{place_by_place}
use Rattle.drafts.proofs.Asking.{onto_next}

module _ (from : ℕ → Bool) (Q ps : List Put) where
  -- what the puts from a place on come to, with those before it put in
  abbrev pub order_from : ℕ → Bool
  order_from i = known_ordered from (bef (onto Q (take i ps))) (reverse (take i ps)) (drop i ps)

  -- the put at a place goes between lines that stand in order, if it may name them
  abbrev pub goes : ℕ → Bool
  goes i =
      let p = get_or ps i nowhere in
      not (are_named from (reverse (take i ps)) p.after p.before) || bef (onto Q (take i ps)) p.after p.before

  module _ (i : ℕ) where
    abbrev here : Put
    here = get_or ps i nowhere

    pub at_place : i < length ps → order_from i ≡ goes i && order_from (i + 1)
    at_place less =
        at_drop_more (known_ordered from (bef (onto Q (take i ps))) (reverse (take i ps))) ps i nowhere less
        ∙ ap (λ qs. goes i && known_ordered from (bef (here ∷ onto Q (take i ps))) qs (drop (i + 1) ps)) (sym (ap reverse (take_more ps i nowhere less) ∙ reverse-append (take i ps) (here ∷ [])))
        ∙ ap (λ qs. goes i && known_ordered from (bef qs) (reverse (take (i + 1) ps)) (drop (i + 1) ps)) (sym (onto_next Q ps i less))

    pub at_end : length ps ≤ i → order_from i ≡ true
    at_end all = at_drop_all (known_ordered from (bef (onto Q (take i ps))) (reverse (take i ps))) ps i all

module _ (L : List Change) (name : ℕ) (adds : List AddAt) where
  abbrev first : ℕ
  first = line_of name 0

  -- that the put at a place does, by the lines of its add and the puts of the adds before it
  pub goes_by_add : (i : ℕ) → i < length adds → goes (has_line L) (placed L) (puts_of first adds) i ≡ goes_behind L name (take i adds) (get_or adds i blank)
  goes_by_add i less =
      let a = get_or adds i blank in
      let (after, before) = put_has_the_lines (add_in []) nowhere blank first adds i less in
      let front = take_puts first (map (add_in []) adds) i ∙ ap (puts_from first) (take-map (add_in []) i adds) in
      ap₂ (λ x y. not x || y) (may_name_at L name adds i less) (λ j. bef (onto (placed L) (front j)) (after j) (before j))
      ∙ ap (λ n. not (may_name_both L name n a) || bef (onto (placed L) (puts_of first (take i adds))) a.after.0 a.before.0) (sym (length-take-le i adds (omega arith)))

  ordered_by_places : list_all (λ p. goes_behind L name (take p.0 adds) p.1) (enumerate_from 0 adds) ≡ known_ordered (has_line L) (bef (placed L)) [] (puts_of first adds)
  ordered_by_places =
      let left = order_from (has_line L) (placed L) (puts_of first adds) in
      let long = length_puts (add_in []) first adds in
      sym (place_by_place (λ p. goes_behind L name (take p.0 adds) p.1) left blank adds
      (λ i less. at_place (has_line L) (placed L) (puts_of first adds) i (omega arith) ∙ ap (λ b. b && left (i + 1)) (goes_by_add i less))
      (at_end (has_line L) (placed L) (puts_of first adds) (length adds) (omega arith)))

pub ordered_line_by_line : (L : List Change) (name sheet : ℕ) (texts : List ℕ) (adds : List AddAt) (kills : List Line) →
    list_all (λ p. goes_behind L name (take p.0 adds) p.1) (enumerate_from 0 adds) ≡ is_ordered_among L name (request_from sheet texts adds kills)
ordered_line_by_line L name sheet texts adds kills = ordered_by_places L name adds ∙ ap (known_ordered (has_line L) (bef (placed L)) []) (puts_of_view (line_of name 0) texts adds)
