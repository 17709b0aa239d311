use Rattle.std.proofs.Common.{◌≡◌, ◌≤◌, List, ℕ, suc, length, ◌∷◌, true}
use Rattle.type_walk.specs.declared.levels.Level.{Level}
use Rattle.type_walk.specs.Positions.{standing as open_at}
use Rattle.translate_verdicts.specs.Body.{source_in}
use Rattle.message_show.specs.Inside.{IsSound, at}
use Rattle.message_show.specs.Pieces.{Tells, output}
use Rattle.message_show.specs.Turns.{standing, Leads}
use Rattle.message_show.proofs.telling.+tell_level.Given as goal

-- what was told is the text of the items so far
abbrev pub invariant-turns : goal.invariant-turns
invariant-turns g l =
    let source = source_in g.R.ReadRules in
    let sink = g.O.Sink in
    record {
      told : (up : List Level) → g.R.ReadRules.depth l.fn.reader ≡ suc (length up)
          → (text : List ℕ) × Leads source g.R.ReadRules.nest (standing l.fn.reader (open_at l.schema (l.fn.known ∷ up)) true) (standing l.reader (at l.schema l.here up) l.here.first) text
          × Tells (output (sink.written l.fn.out) (sink.faults l.fn.out)) l.fn.line (output (sink.written l.out) (sink.faults l.out)) l.line text;
      depth : g.R.ReadRules.depth l.reader ≡ g.R.ReadRules.depth l.fn.reader;
      sound : IsSound l.schema l.here;
      pays : g.R.ReadRules.ahead l.reader ≤ g.R.ReadRules.ahead l.fn.reader;
    }

abbrev pub decreases-turns : goal.decreases-turns
decreases-turns g l = g.R.ReadRules.ahead l.reader

-- reading what opens a level pays for it
abbrev pub decreases-tell_level : goal.decreases-tell_level
decreases-tell_level g l = g.R.ReadRules.ahead l.reader.now
