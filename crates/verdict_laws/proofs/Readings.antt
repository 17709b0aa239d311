-- The verdict on a frame by what the reader answers.
use Rattle.std.specs.Prelude.{◌≡◌, ℕ, ◌<◌, List, [], Ok, Err}
use Rattle.thrift_value.specs.Trees.{Message, depth_of_members}
use Rattle.protocol_traits.specs.declared.fault.Bar.{Bar}
use Rattle.protocol_traits.specs.declared.fault.Fault.{Fault}
use Rattle.protocol_traits.specs.declared.proto.Proto.{Proto}
use Rattle.protocol_traits.specs.Heads.{Header}
use Rattle.type_tables.specs.Declarations.{Declarations}
use Rattle.translate_verdicts.specs.declared.route.Route.{Route}
use Rattle.translate_verdicts.specs.declared.verdict.Cause.TheVariants.{Grammar, Barred}
use Rattle.translate_verdicts.specs.declared.verdict.Verdict.TheVariants.{Passed, Refused, Unread}
use Rattle.translate_verdicts.specs.Routes.{info_of}
use Rattle.translate_verdicts.specs.Body.{Source}
use Rattle.translate_verdicts.specs.Judged.{Judged, judged}
use Rattle.binary_laws.specs.Reads.{header_of_message}
use Rattle.verdict_laws.specs.Bars.{Spot, HoldsAll, IsFirstBar}
use Rattle.verdict_laws.specs.Verdicts.{IsPlain}

pub data IsReadVerdict {S : Type 0} (source : Source S) (Spells : Message → List ℕ → Type 0) (IsRefused : List ℕ → Fault → Type 0) (Place : Message → List ℕ → Spot → ℕ → Type 0) (d : Declarations) (route : Route) (to : Proto) (frame : List ℕ) (j : Judged) : Type 0 where
  ReadPasses : (m : Message) (bytes : List ℕ) → Spells m frame → depth_of_members m.body < 256 → HoldsAll to d route m → IsPlain to d route m bytes
      → j ≡ judged (Passed (info_of d route (header_of_message m))) bytes → IsReadVerdict source Spells IsRefused Place d route to frame j
  ReadBarred : (m : Message) (spot : Spot) (place : ℕ) (bar : Bar) → Spells m frame → depth_of_members m.body < 256 → IsFirstBar to d route m spot bar → Place m frame spot place
      → j ≡ judged (Refused (info_of d route (header_of_message m)) (Barred place bar)) [] → IsReadVerdict source Spells IsRefused Place d route to frame j
  ReadFaulty : (header : Header) (first : S) (f : Fault) → source.reads_head (source.begun frame) ≡ Ok (header, first) → IsRefused frame f
      → j ≡ judged (Refused (info_of d route header) (Grammar f)) [] → IsReadVerdict source Spells IsRefused Place d route to frame j
  ReadUnread : (f : Fault) → source.reads_head (source.begun frame) ≡ Err f → IsRefused frame f → j ≡ judged (Unread f) [] → IsReadVerdict source Spells IsRefused Place d route to frame j
