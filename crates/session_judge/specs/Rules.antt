-- How a session's frames are judged.
use Rattle.std.specs.Prelude.{ℕ, List}
use Rattle.translate_verdicts.specs.declared.route.Route.TheVariants.{ByName, Answer}
use Rattle.translate_verdicts.specs.Judged.{Judged}
use Rattle.protocol_pairs.specs.Pairs.{judged, answered}
use Rattle.session_core.specs.declared.judge.Call.{Call}
use Rattle.session_core.specs.Rules.{Rules}
use Rattle.session_judge.specs.Setting.{Setting}
use Rattle.session_judge.specs.Client.{of_client, output_of, answer_by}
use Rattle.session_judge.specs.Upstream.{expected, of_upstream, reply_of}

-- a frame of the client: its body is that of the method that its name means
abbrev pub asked : Setting → List ℕ → Judged
asked s frame = judged s.declarations (ByName s.service) s.client s.upstream frame

-- a frame of the upstream: its body is the reply to this call
abbrev pub told : Setting → Call → List ℕ → Judged
told s call frame = judged s.declarations (Answer (expected s.declarations call.result)) s.upstream s.client frame

abbrev pub rules_of : Setting → Rules
rules_of s = record {
  judged = λ frame. of_client (asked s frame).verdict;
  output = λ frame. output_of (asked s frame);
  answer = λ frame. answer_by (answered s.client s.client frame) (of_client (asked s frame).verdict);
  replied = λ call frame. of_upstream (told s call frame).verdict;
  reply = λ call frame. reply_of (answered s.upstream s.client frame) (told s call frame);
}
