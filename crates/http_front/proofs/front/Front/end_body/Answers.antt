use Rattle.std.proofs.Common.{refl, ap, ◌∙◌, arith}
use Rattle.gate_io.specs.Buffer.{Buffer}
use Rattle.http_front.proofs.front.Front.end_body.Goals as goal

pub invariant_of-self : goal.invariant_of-self
invariant_of-self c = (
  ap (λ (b : Buffer). b.room) c.drop_front.ensures ∙ c.self.invariant.0,
  record {
    limit = c.self.invariant.1.limit;
    stage = c.behind_body-self-inside.ensures.within c.self.inside.limit;
    seen = omega arith;
    short = omega arith;
    look = refl;
  },
)
