-- How a router judges frames: as a session does, and a call that no target serves is refused.
use Rattle.std.specs.Prelude.{ℕ, List, Option, Some, None, Bool, true, false}
use Rattle.translate_verdicts.specs.declared.route.Route.TheVariants.{ByName}
use Rattle.translate_verdicts.specs.declared.verdict.Cause.TheVariants.{NoRoute}
use Rattle.translate_verdicts.specs.Judged.{Judged}
use Rattle.translate_methods.specs.Methods.{target_of_name}
use Rattle.protocol_pairs.specs.Pairs.{answered}
use Rattle.protocol_pairs.specs.Methods.{method_judged, name_of}
use Rattle.session_core.specs.declared.judge.ClientJudged.{ClientJudged}
use Rattle.session_core.specs.declared.judge.ClientJudged.TheVariants as client
use Rattle.session_judge.specs.Setting.{Setting}
use Rattle.session_judge.specs.Client.{of_client, onward, answer_by}
use Rattle.session_judge.specs.Rules as session
use Rattle.service_router.specs.Rules.{RouteRules}
use Rattle.service_router.specs.Routing.{Routing, server_of}

-- the session of which a router's replies are those
abbrev pub setting_of : Routing → Setting
setting_of r = record { declarations = r.declarations; service = None; client = r.client; upstream = r.upstream; longest = r.longest }

-- a frame of the client: its body is that of the method that its whole name means, and the method's name alone is written
abbrev pub asked : Routing → List ℕ → Judged
asked r frame = method_judged r.declarations (ByName None) r.client r.upstream frame

-- the target that serves what a frame of the client asks for
abbrev pub target_in : Routing → List ℕ → Option ℕ
target_in r frame = target_of_name (server_of r.targets) (name_of r.client frame)

-- it goes on to a target
abbrev pub goes_on : ClientJudged → Bool
goes_on (client.Opens call) = true
goes_on client.Goes = true
goes_on (client.Halts h) = false
goes_on (client.Refused cause) = false
goes_on (client.Dropped cause) = false

-- what passes goes to its target; without a target a call is refused, and what waits for no answer is dropped
abbrev pub unserved : ClientJudged → ClientJudged
unserved (client.Opens call) = client.Refused NoRoute
unserved client.Goes = client.Dropped NoRoute
unserved (client.Halts h) = client.Halts h
unserved (client.Refused cause) = client.Refused cause
unserved (client.Dropped cause) = client.Dropped cause

abbrev pub by_target : Option ℕ → ClientJudged → ClientJudged
by_target (Some u) v = v
by_target None v = unserved v

abbrev pub or_first : Option ℕ → ℕ
or_first (Some u) = u
or_first None = 0

abbrev pub judged_client : Routing → List ℕ → ClientJudged
judged_client r frame = by_target (target_in r frame) (of_client (asked r frame).verdict)

-- what goes to the target
abbrev pub output_of : Routing → List ℕ → List ℕ
output_of r frame = onward (judged_client r frame) (asked r frame).bytes

unfoldable pub rules_of : Routing → RouteRules
rules_of r = record {
  judging = record {
    judged = λ frame. judged_client r frame;
    output = λ frame. output_of r frame;
    answer = λ frame. answer_by (answered r.client r.client frame) (judged_client r frame);
    replied = (session.rules_of (setting_of r)).replied;
    reply = (session.rules_of (setting_of r)).reply;
  };
  target = λ frame. or_first (target_in r frame);
}
