use Rattle.std.proofs.Common.{◌≡◌}
use Rattle.service_router.specs.Working.{standing, Keeps, FitsOn}
use Rattle.service_router.proofs.Endings.{all_held}
use Rattle.service_router.proofs.state.State.advance.Given as goal

abbrev pub invariant-frames : goal.invariant-frames
invariant-frames g l = record {
  keeps : Keeps l.fn.judge l.fn.self l.self;
  same : l.judge ≡ l.fn.judge;
  fits : FitsOn l.fn.judge l.fn.self l.self (g.N.Notes.tells l.fn.notes l.notes) (λ h. h);
}

abbrev pub decreases-frames : goal.decreases-frames
decreases-frames g l = all_held (standing l.self)
