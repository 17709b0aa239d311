-- What was gathered is written.
use Rattle.std.proofs.Common.{◌≡◌, ℕ, List, [], inr, sym, ◌∙◌, ap, subst, Option, None, Some, Result, Ok, Err}
use Rattle.std.specs.Prelude.{OnOk}
use Rattle.std.specs.Io.KnownBytes.{Appends}
use Rattle.line_transport.specs.Front.{front}
use Rattle.line_transport.specs.declared.transport.Excess.{Excess}
use Rattle.gate_streams.specs.Terms.{Terms}
use Rattle.gate_streams.specs.declared.stream.Broken.{Broken}
use Rattle.gate_streams.specs.Progress.{Moment, BreaksBefore}
use Rattle.gate_streams.specs.Working.{IsWaiting, Handles, Drains, WritesBoth, MakesRoom}
use Rattle.gate_streams.proofs.Progress.{waits_done, waits_broken}

pub all_drained : (k : Terms) (a b c : Moment) (out waiting : List ℕ) (large : Option Excess) → Handles k a b out waiting (Ok large) → c.left ≡ b.left → c.held ≡ b.held → c.frames ≡ b.frames → c.taken ≡ b.taken → c.refused ≡ b.refused → Appends b.written c.written out → Appends b.reported c.reported waiting → Drains k a c (Ok large)
all_drained k a b c out waiting None h left held frames taken refused f r =
    (waits_done k a b c out waiting h.0 left held frames taken refused f r, subst (λ (xs : List ℕ). IsWaiting k xs) (sym held) h.1)
all_drained k a b c out waiting (Some n) h left held frames taken refused f r =
    (waits_done k a b c out waiting h.0 left held frames taken refused f r, ap (front k.input k.limit) held ∙ h.1)

pub drain_broke : (broken : Broken) (k : Terms) (a b c : Moment) (out waiting : List ℕ) (large : Option Excess) → Handles k a b out waiting (Ok large) → c.left ≡ b.left → WritesBoth (Err broken) out waiting b.written c.written b.reported c.reported → BreaksBefore broken k a c
drain_broke broken k a b c out waiting None h left w = waits_broken broken k a b c out waiting h.0 left w
drain_broke broken k a b c out waiting (Some n) h left w = waits_broken broken k a b c out waiting h.0 left w

-- room was made
pub made : (r : Result (Unit {0}) Broken) (page page' waiting waiting' : List ℕ) (w w' v v' : Option (List ℕ)) → WritesBoth r page waiting w w' v v' → OnOk r (page' ≡ []) → OnOk r (waiting' ≡ []) → MakesRoom r page page' waiting waiting' w w' v v'
made (Ok done) page page' waiting waiting' w w' v v' h e f = inr (record { page_empty = e; waiting_empty = f; page_written = h.0; all_reported = h.1 })
made (Err broken) page page' waiting waiting' w w' v v' h e f = h
