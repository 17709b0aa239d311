-- What the frames of a stream give that is converted.
use Rattle.std.specs.Prelude.{◌≡◌, ◌⊎◌, ⊤, ℕ, ◌<◌, ◌≤◌, List, [], ◌∷◌, ◌++◌, length}
use Rattle.std.specs.List.{All}
use Rattle.thrift_value.specs.Trees.{Message, depth_of_members}
use Rattle.protocol_traits.specs.declared.proto.Proto.{Proto}
use Rattle.protocol_traits.specs.declared.proto.Proto.TheVariants as protocols
use Rattle.translate_verdicts.specs.declared.route.Route.TheVariants.{ByName}
use Rattle.line_transport.specs.Cuts.{sent, CutsAll}
use Rattle.line_transport.specs.declared.transport.Transport.TheVariants.{Lines}
use Rattle.gate_base.specs.Bytes.{AreBytes}
use Rattle.verdict_laws.specs.Bars.{HoldsAll}
use Rattle.verdict_laws.specs.Rounds.{plain_in}
use Rattle.verdict_laws.specs.Spellings.{SpellsBy, IsShort}
use Rattle.gate_streams.specs.Terms.{Terms}
use Rattle.gate_streams.specs.declared.task.Doing.TheVariants.{Convert}

-- the frame spells this message of depth at most 256, of which its body is one level, and the other protocol holds all of it
pub record Carries (k : Terms) (from to : Proto) (frame : List ℕ) (m : Message) : Type 0 where
  pub spells : SpellsBy k.declarations (ByName k.service) from m frame
  pub shallow : depth_of_members m.body < 256
  pub holds : HoldsAll to k.declarations (ByName k.service) m

-- The frame spells such a message, and gives the frame, or the line, of its plain spelling; or it spells none, and gives nothing.
abbrev pub Gives : Terms → Proto → Proto → List ℕ → List ℕ → Type 0
Gives k from to frame out =
    ((m : Message) × Carries k from to frame m × (out ≡ sent k.output (plain_in to k.declarations (ByName k.service) m)))
    ⊎ (((m : Message) → Carries k from to frame m → ⊥) × (out ≡ []))

-- the frames give these bytes, one after another
abbrev pub GiveAll : Terms → Proto → Proto → List (List ℕ) → List ℕ → Type 0
GiveAll k from to [] out = out ≡ []
GiveAll k from to (frame ∷ frames) out = (first : List ℕ) × (rest : List ℕ) × Gives k from to frame first × GiveAll k from to frames rest × (out ≡ first ++ rest)

-- frames of bytes, short ones in JSON
abbrev pub AreFrames : Proto → List (List ℕ) → Type 0
AreFrames from [] = ⊤
AreFrames from (frame ∷ frames) = AreBytes frame × IsShort from frame × AreFrames from frames

-- these are the plain spellings of the messages that the frames carry, in order
abbrev pub AreCarried : Terms → Proto → Proto → List (List ℕ) → List (List ℕ) → Type 0
AreCarried k from to [] plains = plains ≡ []
AreCarried k from to (frame ∷ frames) plains =
    ((m : Message) × (rest : List (List ℕ)) × Carries k from to frame m × AreCarried k from to frames rest × (plains ≡ plain_in to k.declarations (ByName k.service) m ∷ rest))
    ⊎ (((m : Message) → Carries k from to frame m → ⊥) × AreCarried k from to frames plains)

-- what is written on lines of JSON is cut into these spellings again, where the limit is as long as each
pub record IsCutBack (k : Terms) (from : Proto) (frames : List (List ℕ)) (out : List ℕ) : Type 0 where
  pub plains : List (List ℕ)
  pub carried : AreCarried k from protocols.Json frames plains
  pub cut : (limit : ℕ) → All (λ line. length line ≤ limit) plains → CutsAll Lines limit out plains

-- messages of this protocol are converted to JSON, and written on lines
abbrev pub WritesLines : Terms → Proto → Type 0
WritesLines k p = (k.doing ≡ Convert p protocols.Json) × (k.output ≡ Lines)
