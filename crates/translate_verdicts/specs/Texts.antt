-- The text of each cause, as reports and answers print it.
use Rattle.std.specs.Prelude.{ℕ, ℤ, pos, List, codes}
use Rattle.protocol_traits.specs.declared.fault.Reason.{Reason}
use Rattle.protocol_traits.specs.declared.fault.Reason.TheVariants as reasons
use Rattle.protocol_traits.specs.declared.fault.Bar.{Bar}
use Rattle.protocol_traits.specs.declared.fault.Bar.TheVariants as bars
use Rattle.translate_verdicts.specs.declared.verdict.Cause.{Cause}
use Rattle.translate_verdicts.specs.declared.verdict.Cause.TheVariants.{Grammar, Barred, NoRoute}

unfoldable pub reason_text : Reason → List ℕ
reason_text reasons.Truncated = codes "G1 truncated"
reason_text reasons.Trailing = codes "G2 trailing bytes"
reason_text reasons.TooDeep = codes "G3 too deep"
reason_text reasons.BadKind = codes "G4 bad kind"
reason_text reasons.BadBool = codes "G5 bad bool"
reason_text reasons.BadSize = codes "G6 bad size"
reason_text reasons.BadVersion = codes "G7 bad version"
reason_text reasons.BadType = codes "G8 bad type"
reason_text reasons.BadVarint = codes "G9 bad varint"
reason_text reasons.BadId = codes "G10 bad id"
reason_text reasons.BadNumber = codes "G11 bad number"
reason_text reasons.BadString = codes "G12 bad string"
reason_text reasons.BadBase64 = codes "G13 bad base64"
reason_text reasons.BadToken = codes "G14 bad token"

unfoldable pub bar_text : Bar → List ℕ
bar_text bars.Double = codes "U1 double"
bar_text bars.UnknownString = codes "U2 unknown string"
bar_text bars.NotUtf8 = codes "U3 not UTF-8"
bar_text bars.Uuid = codes "U4 uuid"

unfoldable pub no_route_text : List ℕ
no_route_text = codes "V1 no route"

-- the text of a cause
abbrev pub cause_text : Cause → List ℕ
cause_text (Grammar fault) = reason_text fault.reason
cause_text (Barred place bar) = bar_text bar
cause_text NoRoute = no_route_text

-- The type that an answer tells for a cause, a number of TApplicationException: a call that no target serves is an unknown
-- method, all else a protocol error.
abbrev pub failure_type : Cause → ℤ
failure_type (Grammar fault) = pos 7
failure_type (Barred place bar) = pos 7
failure_type NoRoute = pos 1

-- the place in the frame that a cause tells: a call that no target serves has none
abbrev pub place_of : Cause → ℕ
place_of (Grammar fault) = fault.place
place_of (Barred place bar) = place
place_of NoRoute = 0
