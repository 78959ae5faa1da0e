-- Lines that live alike and stand alike are shown alike: Shows A R becomes Shows B Q where A and B hold of the same lines, and R and Q of the same pairs.
-- Assumes nothing.
use Rattle.std.proofs.Common.{ℕ, List, [], ◌∷◌}
use Rattle.blocks.specs.Relation.{Loose, Tied, same, by, Walk, InOrder, Shows}

module _ (A B : ℕ → Type 0) (R Q : ℕ → ℕ → Type 0)
    (live : (u : ℕ) → (A u → B u) × (B u → A u)) (stand : (u v : ℕ) → (R u v → Q u v) × (Q u v → R u v)) where
  loose_alike : (u v : ℕ) → Loose A R u v → Loose B Q u v
  loose_alike u v l =
      record {
        lives = (live u).0 l.lives;
        other_lives = (live v).0 l.other_lives;
        differ = l.differ;
        not_before = λ q. l.not_before ((stand u v).1 q);
        not_behind = λ q. l.not_behind ((stand v u).1 q);
      }

  tied_alike : {u v : ℕ} → Tied A R u v → Tied B Q u v
  tied_alike same = same
  tied_alike (by {u = u} v l t) = by v (loose_alike u v l) (tied_alike t)

  walk_alike : (ls : List ℕ) → Walk R ls → Walk Q ls
  walk_alike [] w = tt
  walk_alike (u ∷ ls) (once, free, low, w) =
      (once, λ v i q. free v i ((stand v u).1 q), λ v i f. low v i (λ x j r. f x j ((stand x v).0 r)), walk_alike ls w)

  ordered_alike : (bs : List (List ℕ)) → InOrder R bs → InOrder Q bs
  ordered_alike [] o = tt
  ordered_alike (b ∷ bs) (filled, above, o) = (filled, λ u v i j. (stand u v).0 (above u v i j), ordered_alike bs o)

  pub shows_alike : (bs : List (List ℕ)) → Shows A R bs → Shows B Q bs
  shows_alike bs s =
      record {
        all = λ u b. s.all u ((live u).1 b);
        only = λ u i. (live u).0 (s.only u i);
        walked = λ b i. walk_alike b (s.walked b i);
        blockwise = λ b i u v j k. tied_alike (s.blockwise b i u v j k);
        ordered = ordered_alike bs s.ordered;
      }
