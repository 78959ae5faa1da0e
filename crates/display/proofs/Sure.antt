-- What a `Sheets` holds is known to belong together without it being known how (under a truncation): each part of that is a proposition or can be decided, so it does.
-- Assumes nothing.
use Rattle.shelf.proofs.Sure.{sure_decided, sure_lines, part}
use Rattle.verdict.proofs.Fitting.{listed_decided}
use Rattle.display.specs.declared.Sheets.{Sheets}
use Rattle.display.specs.Held.{latest, Held}

pub held : (s : Sheets) → Held s.store.now s.lines.now
held s = record {
  listed = part (λ k. k.listed) (sure_decided _ (listed_decided (latest s.store.now))) s.held;
  keeps = part (λ k. k.keeps) (sure_lines s.lines.now _) s.held;
}
