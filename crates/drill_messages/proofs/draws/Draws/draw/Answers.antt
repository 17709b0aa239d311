use Rattle.std.proofs.Common.{ℕ, ◌/◌, ◌*◌, ◌^◌, ap}
use Rattle.std.proofs.Math.Nat.{mod-add-mod}
use Rattle.drill_messages.specs.Draws.{stepped, draw}
use Rattle.drill_messages.proofs.draws.Draws.draw.Goals as goal

pub returns-clause-drawn : goal.returns-clause-drawn
unfolding draw stepped
returns-clause-drawn c = ap (λ (n : ℕ). n / 2 ^ 33) (mod-add-mod (c.args.self.now.state * 6364136223846793005) (2 ^ 64) 1442695040888963407)

pub returns-clause-state : goal.returns-clause-state
unfolding stepped
returns-clause-state c = mod-add-mod (c.args.self.now.state * 6364136223846793005) (2 ^ 64) 1442695040888963407
