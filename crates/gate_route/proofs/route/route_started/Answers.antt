use Rattle.std.proofs.Common.{arith, length, refl, ap, sym, ◌∙◌}
use Rattle.gate_route.proofs.route.route_started.Goals as goal

pub route_serve-requires-clause-good : goal.route_serve-requires-clause-good
route_serve-requires-clause-good g c = record {
  small = omega (arith, c.requires.limit);
  some = omega (arith, c.requires.some);
  few = omega (arith, c.requires.few);
  service = refl;
  some_targets = c.as_slice-targets.ensures.few.0;
  few_targets = c.as_slice-targets.ensures.few.1;
}

pub route_serve-requires-clause-targets : goal.route_serve-requires-clause-targets
route_serve-requires-clause-targets g c = c.requires.targets ∙ ap length (sym c.as_slice-targets.ensures.value)

pub returns-clause-serves : goal.returns-clause-serves
returns-clause-serves g c =
    let serves = c.route_serve.ensures.serves in
    rw (c.as_slice-targets.ensures.value, c.new-telling.ensures) at serves
