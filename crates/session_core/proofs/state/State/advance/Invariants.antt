use Rattle.std.proofs.Common.{◌≡◌, ◌+◌, length}
use Rattle.session_core.specs.Working.{Keeps, FitsOn}
use Rattle.session_core.proofs.state.State.advance.Given as goal

abbrev pub invariant-frames : goal.invariant-frames
invariant-frames g l =
    let rules = g.J.Judge.rules l.fn.judge in
    record {
      keeps : Keeps rules l.fn.self l.self;
      same : l.judge ≡ l.fn.judge;
      fits : FitsOn rules l.fn.self l.self (g.N.Notes.tells l.fn.notes l.notes) (λ h. h);
    }

abbrev pub decreases-frames : goal.decreases-frames
decreases-frames g l = length l.self.client.held.held + length l.self.upstream.held.held
