-- Between whom a router is opened.
use Rattle.std.specs.Prelude.{List}
use Rattle.gate_fan.specs.declared.fan.Target.{Target}
use Rattle.session_judge.specs.declared.setup.Setup.{Setup}
use Rattle.service_router.specs.Rules.{RouteRules}
use Rattle.service_router.specs.Routing.{Routing}
use Rattle.service_router.specs.Judging.{rules_of}

abbrev pub routing_of : Setup → List Target → Routing
routing_of s targets = record { declarations = s.schema.now; client = s.client; upstream = s.upstream; targets = targets; longest = s.limit }

-- how a router judges that is opened so
abbrev pub rules_for : Setup → List Target → RouteRules
rules_for s targets = rules_of (routing_of s targets)
