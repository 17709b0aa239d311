-- What a quick look tells of a frame.
use Rattle.std.specs.Prelude.{Option, Some, None}
use Rattle.session_core.specs.declared.judge.CallLook.{CallLook}
use Rattle.session_core.specs.declared.judge.CallLook.TheVariants as look
use Rattle.session_core.specs.declared.judge.ClientJudged.{ClientJudged}
use Rattle.session_core.specs.declared.judge.ClientJudged.TheVariants as client

-- the verdict on a frame of the client, where the look tells it
abbrev pub seen_as : CallLook → Option ClientJudged
seen_as look.Nothing = None
seen_as (look.Opens call) = Some (client.Opens call)
seen_as look.Goes = Some client.Goes
