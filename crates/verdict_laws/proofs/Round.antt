-- A message that goes from one protocol to another, and comes back.
use Rattle.std.proofs.Common.{◌≡◌, ℕ, pos, ◌+◌, ◌*◌, ◌<◌, ◌≤◌, List, length, refl}
use Rattle.thrift_value.specs.Trees.{Message, items_of_members, depth_of_members}
use Rattle.protocol_traits.specs.declared.proto.Proto.{Proto}
use Rattle.protocol_traits.specs.declared.proto.Proto.TheVariants as protocols
use Rattle.type_tables.specs.Declarations.{Declarations}
use Rattle.translate_verdicts.specs.declared.route.Route.{Route}
use Rattle.translate_core.specs.Answers.{TakesAll, marked}
use Rattle.protocol_pairs.specs.Pairs.{binary_target, compact_target, json_target}
use Rattle.protocol_pairs.specs.Pairs as pairs
use Rattle.binary_protocol.specs.Laws as binary
use Rattle.binary_protocol.specs.Plain as binary_plainly
use Rattle.compact_protocol.specs.Laws as compact
use Rattle.compact_protocol.specs.Plain as compact_plainly
use Rattle.json_protocol.specs.Weights as json
use Rattle.gate_base.specs.Bytes.{AreBytes}
use Rattle.binary_laws.specs.Written.{IsMessage}
use Rattle.json_laws.specs.Written.{HaveBytes}
use Rattle.verdict_laws.specs.Bars.{bar_in, body_start, HoldsAll}
use Rattle.verdict_laws.specs.Spellings.{SpellsBy, IsShort}
use Rattle.verdict_laws.specs.Rounds.{IsOfBytes, plain_in, PassesAs, IsRound}
use Rattle.verdict_laws.proofs.Barred.{takes_as}
use Rattle.verdict_laws.proofs.Firm.{AreFirm, members_firm, binary_takes_all, compact_takes_all}
use Rattle.verdict_laws.proofs.CompactFirm.{members_firm as compact_members_firm}
use Rattle.verdict_laws.proofs.Ranges.{binary_message, compact_message}
use Rattle.verdict_laws.proofs.Plain.{binary_plain, compact_plain}
use Rattle.verdict_laws.proofs.Binary.{binary_passes, binary_short}
use Rattle.verdict_laws.proofs.Compact.{compact_passes, compact_short}
use Rattle.verdict_laws.proofs.Json.{json_passes, json_short}
use Rattle.verdict_laws.proofs.Strings.{binary_strings, compact_strings}
use Rattle.verdict_laws.proofs.Held.{held_firm, json_plain, json_message, json_strings, json_held}

-- ---- what passes, whichever frame spells it

to_binary : (d : Declarations) (route : Route) (m : Message) → HoldsAll protocols.Binary d route m → TakesAll binary_target.bar (marked (body_start d route m) (items_of_members m.body))
to_binary d route m holds = takes_as (bar_in protocols.Binary) binary_target.bar (λ item mark. refl) (items_of_members m.body) (body_start d route m) holds.1

to_compact : (d : Declarations) (route : Route) (m : Message) → HoldsAll protocols.Compact d route m → TakesAll compact_target.bar (marked (body_start d route m) (items_of_members m.body))
to_compact d route m holds = takes_as (bar_in protocols.Compact) compact_target.bar (λ item mark. refl) (items_of_members m.body) (body_start d route m) holds.1

to_json : (d : Declarations) (route : Route) (m : Message) → HoldsAll protocols.Json d route m → TakesAll json_target.bar (marked (body_start d route m) (items_of_members m.body))
to_json d route m holds = takes_as (bar_in protocols.Json) json_target.bar (λ item mark. refl) (items_of_members m.body) (body_start d route m) holds.1

passes : (d : Declarations) (route : Route) (from to : Proto) (m : Message) (frame : List ℕ) → SpellsBy d route from m frame → depth_of_members m.body < 256 → HoldsAll to d route m → PassesAs d route from to frame m (plain_in to d route m)
unfolding pairs.judged
passes d route protocols.Binary protocols.Binary m frame spells deep holds = binary_passes d route protocols.Binary frame binary_target m spells deep holds.0 (to_binary d route m holds)
passes d route protocols.Binary protocols.Compact m frame spells deep holds = binary_passes d route protocols.Compact frame compact_target m spells deep holds.0 (to_compact d route m holds)
passes d route protocols.Binary protocols.Json m frame spells deep holds = binary_passes d route protocols.Json frame json_target m spells deep holds.0 (to_json d route m holds)
passes d route protocols.Compact protocols.Binary m frame spells deep holds = compact_passes d route protocols.Binary frame binary_target m spells deep holds.0 (to_binary d route m holds)
passes d route protocols.Compact protocols.Compact m frame spells deep holds = compact_passes d route protocols.Compact frame compact_target m spells deep holds.0 (to_compact d route m holds)
passes d route protocols.Compact protocols.Json m frame spells deep holds = compact_passes d route protocols.Json frame json_target m spells deep holds.0 (to_json d route m holds)
passes d route protocols.Json protocols.Binary m frame spells deep holds = json_passes d route frame binary_target m spells deep holds.0 (to_binary d route m holds)
passes d route protocols.Json protocols.Compact m frame spells deep holds = json_passes d route frame compact_target m spells deep holds.0 (to_compact d route m holds)
passes d route protocols.Json protocols.Json m frame spells deep holds = json_passes d route frame json_target m spells deep holds.0 (to_json d route m holds)

-- ---- what is written

pub plain_spells : (d : Declarations) (route : Route) (to : Proto) (m : Message) → IsMessage m → AreFirm (items_of_members m.body) → (to ≡ protocols.Json → HaveBytes (items_of_members m.body)) → HoldsAll to d route m
    → SpellsBy d route to m (plain_in to d route m)
plain_spells d route protocols.Binary m is firm strings holds = binary_plain d route m is firm
plain_spells d route protocols.Compact m is firm strings holds = compact_plain d route m is firm
plain_spells d route protocols.Json m is firm strings holds = json_plain d route m is (strings refl) holds

plain_short : (d : Declarations) (route : Route) (from to : Proto) (m : Message) (frame : List ℕ) → SpellsBy d route from m frame → depth_of_members m.body < 256 → IsMessage m → AreFirm (items_of_members m.body)
    → length (plain_in to d route m) ≤ 24 * length frame + 256
plain_short d route protocols.Binary protocols.Binary m frame spells deep is firm =
    binary_short d route protocols.Binary frame binary_target (λ w item mark sized. binary.light item mark sized) (λ h fits. binary.light_head h) m spells deep
plain_short d route protocols.Binary protocols.Compact m frame spells deep is firm =
    binary_short d route protocols.Compact frame compact_target (λ w item mark sized. compact.light w item sized) compact.light_head m spells deep
plain_short d route protocols.Binary protocols.Json m frame spells deep is firm = binary_short d route protocols.Json frame json_target json.light json.light_head m spells deep
plain_short d route protocols.Compact protocols.Binary m frame spells deep is firm =
    compact_short d route protocols.Binary frame binary_target (λ w item mark sized. binary.light item mark sized) (λ h fits. binary.light_head h) m spells deep
plain_short d route protocols.Compact protocols.Compact m frame spells deep is firm =
    compact_short d route protocols.Compact frame compact_target (λ w item mark sized. compact.light w item sized) compact.light_head m spells deep
plain_short d route protocols.Compact protocols.Json m frame spells deep is firm = compact_short d route protocols.Json frame json_target json.light json.light_head m spells deep
plain_short d route protocols.Json protocols.Binary m frame spells deep is firm =
    json_short d route frame binary_target (λ w item mark sized. binary.light item mark sized) (λ h fits. binary.light_head h) m spells deep is.body firm is.seq
plain_short d route protocols.Json protocols.Compact m frame spells deep is firm =
    json_short d route frame compact_target (λ w item mark sized. compact.light w item sized) compact.light_head m spells deep is.body firm is.seq
plain_short d route protocols.Json protocols.Json m frame spells deep is firm = json_short d route frame json_target json.light json.light_head m spells deep is.body firm is.seq

-- ---- there and back

carried : (d : Declarations) (route : Route) (from to : Proto) (m : Message) (frame : List ℕ) → SpellsBy d route from m frame → depth_of_members m.body < 256 → IsMessage m → AreFirm (items_of_members m.body)
    → (to ≡ protocols.Json → HaveBytes (items_of_members m.body)) → HoldsAll to d route m → HoldsAll from d route m → IsRound d route from to frame m
carried d route from to m frame spells deep is firm strings holds back =
    let over = plain_spells d route to m is firm strings holds in
    record {
      goes = passes d route from to m frame spells deep holds;
      spells = over;
      short = plain_short d route from to m frame spells deep is firm;
      comes = passes d route to from m (plain_in to d route m) over deep back;
    }

-- Binary and Compact hold what has no loose text
pub held_plainly : (d : Declarations) (route : Route) (to : Proto) (m : Message) → (to ≡ protocols.Json → ⊥) → AreFirm (items_of_members m.body) → HoldsAll to d route m
held_plainly d route protocols.Binary m other firm =
    (refl, takes_as binary_plainly.bar (bar_in protocols.Binary) (λ item mark. refl) (items_of_members m.body) (body_start d route m) (binary_takes_all (items_of_members m.body) (body_start d route m) firm))
held_plainly d route protocols.Compact m other firm =
    (refl, takes_as (λ item mark. compact_plainly.bar item) (bar_in protocols.Compact) (λ item mark. refl) (items_of_members m.body) (body_start d route m) (compact_takes_all (items_of_members m.body) (body_start d route m) firm))
held_plainly d route protocols.Json m other firm = absurd (other refl)

message_of : (d : Declarations) (route : Route) (from : Proto) (m : Message) (frame : List ℕ) → SpellsBy d route from m frame → depth_of_members m.body < 256 → IsShort from frame → IsMessage m
message_of d route protocols.Binary m frame spells deep small = binary_message m frame spells
message_of d route protocols.Compact m frame spells deep small = compact_message m frame spells
message_of d route protocols.Json m frame spells deep small = json_message d route m frame spells deep small

strings_of : (d : Declarations) (route : Route) (from : Proto) (m : Message) (frame : List ℕ) → SpellsBy d route from m frame → AreBytes frame → HaveBytes (items_of_members m.body)
strings_of d route protocols.Binary m frame spells are = binary_strings m frame spells are
strings_of d route protocols.Compact m frame spells are = compact_strings m frame spells are
strings_of d route protocols.Json m frame spells are = json_strings d route m frame spells

held_back : (d : Declarations) (route : Route) (from : Proto) (m : Message) (frame : List ℕ) → SpellsBy d route from m frame → depth_of_members m.body < 256 → IsShort from frame → AreFirm (items_of_members m.body) → HoldsAll from d route m
held_back d route protocols.Binary m frame spells deep small firm = held_plainly d route protocols.Binary m (λ e. absurd (cc)) firm
held_back d route protocols.Compact m frame spells deep small firm = held_plainly d route protocols.Compact m (λ e. absurd (cc)) firm
held_back d route protocols.Json m frame spells deep small firm = json_held d route m frame spells deep small firm

-- what the other protocol holds
pub held_round : (d : Declarations) (route : Route) (from to : Proto) (m : Message) (frame : List ℕ) → SpellsBy d route from m frame → depth_of_members m.body < 256 → AreBytes frame → IsShort from frame → HoldsAll to d route m
    → IsRound d route from to frame m
held_round d route from to m frame spells deep are small holds =
    let firm = held_firm to (items_of_members m.body) (body_start d route m) holds.1 in
    carried d route from to m frame spells deep (message_of d route from m frame spells deep small) firm (λ e. strings_of d route from m frame spells are) holds (held_back d route from m frame spells deep small firm)

-- ---- between Binary and Compact

firm_in : (d : Declarations) (route : Route) (from : Proto) (m : Message) (frame : List ℕ) → SpellsBy d route from m frame → (from ≡ protocols.Json → ⊥) → AreFirm (items_of_members m.body)
firm_in d route protocols.Binary m frame spells source = members_firm m.body spells.2.1 spells.2.3
firm_in d route protocols.Compact m frame spells source = compact_members_firm (pos 0) m.body spells.1 spells.3
firm_in d route protocols.Json m frame spells source = absurd (source refl)

message_in : (d : Declarations) (route : Route) (from : Proto) (m : Message) (frame : List ℕ) → SpellsBy d route from m frame → (from ≡ protocols.Json → ⊥) → IsMessage m
message_in d route protocols.Binary m frame spells source = binary_message m frame spells
message_in d route protocols.Compact m frame spells source = compact_message m frame spells
message_in d route protocols.Json m frame spells source = absurd (source refl)

pub always_round : (d : Declarations) (route : Route) (from to : Proto) (m : Message) (frame : List ℕ) → SpellsBy d route from m frame → depth_of_members m.body < 256 → (from ≡ protocols.Json → ⊥) → (to ≡ protocols.Json → ⊥)
    → IsRound d route from to frame m
always_round d route from to m frame spells deep source target =
    let firm = firm_in d route from m frame spells source in
    carried d route from to m frame spells deep (message_in d route from m frame spells source) firm (λ e. absurd (target e)) (held_plainly d route to m target firm) (held_plainly d route from m source firm)

-- Binary and Compact hold what one of them spells
pub always_held : (d : Declarations) (route : Route) (from to : Proto) (m : Message) (frame : List ℕ) → SpellsBy d route from m frame → IsOfBytes from → IsOfBytes to → HoldsAll to d route m
always_held d route from to m frame spells source target = held_plainly d route to m target (firm_in d route from m frame spells source)
