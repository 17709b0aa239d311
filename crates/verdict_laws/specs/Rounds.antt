-- A message that goes from one protocol to another, and comes back.
use Rattle.std.specs.Prelude.{◌≡◌, ℕ, ◌+◌, ◌*◌, ◌<◌, ◌≤◌, List, length}
use Rattle.thrift_value.specs.Trees.{Message, depth_of_members}
use Rattle.protocol_traits.specs.declared.nest.TheConstants.{DEPTH}
use Rattle.protocol_traits.specs.declared.proto.Proto.{Proto}
use Rattle.protocol_traits.specs.declared.proto.Proto.TheVariants as protocols
use Rattle.type_tables.specs.Declarations.{Declarations}
use Rattle.translate_verdicts.specs.declared.route.Route.{Route}
use Rattle.translate_verdicts.specs.declared.verdict.Verdict.TheVariants.{Passed}
use Rattle.translate_verdicts.specs.Routes.{info_of}
use Rattle.translate_verdicts.specs.Judged.{judged}
use Rattle.protocol_pairs.specs.Pairs.{binary_target, compact_target, json_target}
use Rattle.protocol_pairs.specs.Pairs as pairs
use Rattle.gate_base.specs.Bytes.{AreBytes}
use Rattle.binary_laws.specs.Reads.{header_of_message}
use Rattle.verdict_laws.specs.Bars.{HoldsAll}
use Rattle.verdict_laws.specs.Spellings.{SpellsBy, IsShort, plain_of}

-- Binary and Compact, whose spellings are no text
abbrev pub IsOfBytes : Proto → Type 0
IsOfBytes protocol = protocol ≡ protocols.Json → ⊥

-- the plain spelling of the message in the protocol
abbrev pub plain_in : Proto → Declarations → Route → Message → List ℕ
plain_in protocols.Binary d route m = plain_of binary_target d route m
plain_in protocols.Compact d route m = plain_of compact_target d route m
plain_in protocols.Json d route m = plain_of json_target d route m

-- the frame passes as this message, and this is written
abbrev pub PassesAs : Declarations → Route → Proto → Proto → List ℕ → Message → List ℕ → Type 0
PassesAs d route from to frame m bytes = pairs.judged d route from to frame ≡ judged (Passed (info_of d route (header_of_message m))) bytes

-- The frame passes with the plain spelling of its message, which spells that message and is at most 24 times as long and 256 bytes;
-- and that passes back with the plain spelling in the protocol from which it came.
pub record IsRound (d : Declarations) (route : Route) (from to : Proto) (frame : List ℕ) (m : Message) : Type 0 where
  pub goes : PassesAs d route from to frame m (plain_in to d route m)
  pub spells : SpellsBy d route to m (plain_in to d route m)
  pub short : length (plain_in to d route m) ≤ 24 * length frame + 256
  pub comes : PassesAs d route to from (plain_in to d route m) m (plain_in from d route m)

-- a frame that spells a message of depth at most `DEPTH` in the protocol
pub record Spelling (d : Declarations) (route : Route) (from : Proto) : Type 0 where
  pub message : Message
  pub frame : List ℕ
  pub spelled : SpellsBy d route from message frame
  pub shallow : depth_of_members message.body < DEPTH

-- it consists of bytes, in JSON of less than 2^31
abbrev pub IsShortOfBytes : {d : Declarations} {route : Route} {from : Proto} → Spelling d route from → Type 0
IsShortOfBytes {d} {route} {from} s = AreBytes s.frame × IsShort from s.frame

-- the protocol holds all of its message
abbrev pub IsHeldBy : {d : Declarations} {route : Route} {from : Proto} → Proto → Spelling d route from → Type 0
IsHeldBy {d} {route} {from} to s = HoldsAll to d route s.message

abbrev pub GoesRound : {d : Declarations} {route : Route} {from : Proto} → Proto → Spelling d route from → Type 0
GoesRound {d} {route} {from} to s = IsRound d route from to s.frame s.message
