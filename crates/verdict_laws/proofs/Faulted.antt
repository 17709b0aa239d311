-- The verdict on a frame in the words of the grammar alone: by what it spells, by the header at its front, and by the fault that stands in it.
use Rattle.std.proofs.Common.{◌≡◌, ℕ, ◌<◌, ◌^◌, List, ◌++◌, length, drop, Ok, Err, ap, ◌∙◌, sym}
use Rattle.thrift_value.specs.Trees.{Message, no_members}
use Rattle.protocol_traits.specs.declared.fault.Fault.{Fault}
use Rattle.protocol_traits.specs.declared.proto.Proto.{Proto}
use Rattle.protocol_traits.specs.declared.proto.Proto.TheVariants as protocols
use Rattle.protocol_traits.specs.Heads.{Header}
use Rattle.type_tables.specs.Declarations.{Declarations}
use Rattle.translate_verdicts.specs.declared.route.Route.{Route}
use Rattle.translate_verdicts.specs.Body.{Source}
use Rattle.translate_verdicts.specs.Judged.{Judged}
use Rattle.protocol_pairs.specs.Pairs as pairs
use Rattle.protocol_pairs.specs.Pairs.{binary_source, compact_source, json_source}
use Rattle.binary_protocol.specs.Grammar.{BinarySpells}
use Rattle.binary_protocol.specs.Heads.{head_at}
use Rattle.binary_protocol.specs.Reading as binary_reading
use Rattle.compact_protocol.specs.Grammar.{CompactSpells}
use Rattle.compact_protocol.specs.Scan.{front_at, string_at}
use Rattle.compact_protocol.specs.Reading as compact_reading
use Rattle.gate_base.specs.Bytes.{AreBytes}
use Rattle.binary_laws.specs.Faults as binary_faults
use Rattle.binary_laws.proofs.Faults as binary_proofs
use Rattle.binary_laws.proofs.Heading as binary_heading
use Rattle.binary_laws.proofs.Headed.{message_of}
use Rattle.binary_laws.proofs.Headed as binary_headed
use Rattle.binary_laws.proofs.Sound as binary_sound
use Rattle.binary_laws.proofs.Spelled as binary_spelled
use Rattle.compact_laws.specs.Faults as compact_faults
use Rattle.compact_laws.proofs.Faults as compact_proofs
use Rattle.compact_laws.proofs.Heading as compact_heading
use Rattle.compact_laws.proofs.Headed as compact_headed
use Rattle.compact_laws.proofs.Spelled as compact_spelled
use Rattle.json_protocol.specs.Reading as json_reading
use Rattle.json_protocol.specs.Head as json_head
use Rattle.json_laws.specs.Fronts.{SpellsHeader as JsonHead}
use Rattle.json_laws.proofs.Fronting.{header_stands, header_again}
use Rattle.verdict_laws.specs.Bars.{Spot, BinaryPlace, CompactPlace, JsonPlace}
use Rattle.verdict_laws.specs.Spellings.{SpellsBy}
use Rattle.verdict_laws.specs.Verdicts.{BinaryHead, CompactHead, JsonFault, IsVerdict}
use Rattle.verdict_laws.specs.Verdicts.IsVerdict.{Passes, IsBarred, IsFaulty, IsUnread}
use Rattle.verdict_laws.proofs.Readings.{IsReadVerdict}
use Rattle.verdict_laws.proofs.Readings.IsReadVerdict.{ReadPasses, ReadBarred, ReadFaulty, ReadUnread}
use Rattle.verdict_laws.proofs.Binary.{binary_judged}
use Rattle.verdict_laws.proofs.Compact.{compact_judged}
use Rattle.verdict_laws.proofs.Json.{json_judged}

-- some front of the frame is this header
abbrev pub Fronted : (Header → List ℕ → Type 0) → Header → List ℕ → Type 0
Fronted SpellsHead header frame = (front : List ℕ) × (rest : List ℕ) × (frame ≡ front ++ rest) × SpellsHead header front

told : {S : Type 0} → (source : Source S) (SpellsHead : Header → List ℕ → Type 0) (Spells : Message → List ℕ → Type 0) (P Q : List ℕ → Fault → Type 0) (Place : Message → List ℕ → Spot → ℕ → Type 0) (d : Declarations) (route : Route) (to : Proto) (frame : List ℕ) (j : Judged)
    → ((header : Header) (first : S) → source.reads_head (source.begun frame) ≡ Ok (header, first) → Fronted SpellsHead header frame)
    → ((header : Header) (f : Fault) → source.reads_head (source.begun frame) ≡ Err f → Fronted SpellsHead header frame → ⊥)
    → ((f : Fault) → P frame f → Q frame f) → IsReadVerdict source Spells P Place d route to frame j → IsVerdict SpellsHead Spells Q Place d route to frame j
told {S} source SpellsHead Spells P Q Place d route to frame j fronted none same (ReadPasses m bytes spells deep holds plain e) = Passes m bytes spells deep holds plain e
told {S} source SpellsHead Spells P Q Place d route to frame j fronted none same (ReadBarred m spot place bar spells deep first at e) = IsBarred m spot place bar spells deep first at e
told {S} source SpellsHead Spells P Q Place d route to frame j fronted none same (ReadFaulty header first f read refused e) = let h = fronted header first read in IsFaulty header h.0 h.1 f h.2 h.3 (same f refused) e
told {S} source SpellsHead Spells P Q Place d route to frame j fronted none same (ReadUnread f read refused e) = IsUnread f (λ header front rest laid spells. none header f read (front, rest, laid, spells)) (same f refused) e

-- ---- Binary

pub binary_fronted : (frame : List ℕ) → AreBytes frame → (header : Header) (first : binary_reading.State) → binary_reading.reads_head (binary_reading.begun frame) ≡ Ok (header, first) → Fronted BinaryHead header frame
binary_fronted frame are header first e =
    let r = binary_sound.begun_read frame header first e in
    let x = binary_headed.head_read frame are header r.0 r.1 in
    (x.header, x.body, x.laid, (x.small, x.fits, x.spells no_members))

pub binary_none : (frame : List ℕ) (header : Header) (f : Fault) → binary_reading.reads_head (binary_reading.begun frame) ≡ Err f → Fronted BinaryHead header frame → ⊥
binary_none frame header f e (front, rest, laid, (small, fits, spells)) =
    let m = message_of header no_members in
    let read = binary_spelled.head_is frame header (length front) (ap head_at laid ∙ binary_heading.head_again m small fits rest front spells) in
    let wrong = sym read ∙ e in
    absurd (cc)

-- ---- Compact

pub compact_fronted : (frame : List ℕ) → AreBytes frame → (header : Header) (first : compact_reading.State) → compact_reading.reads_head (compact_reading.begun frame) ≡ Ok (header, first) → Fronted CompactHead header frame
compact_fronted frame are header first e = let x = compact_headed.head_read frame are header first e in (x.header, x.body, x.laid, x.spells no_members)

pub compact_none : (frame : List ℕ) (header : Header) (f : Fault) → compact_reading.reads_head (compact_reading.begun frame) ≡ Err f → Fronted CompactHead header frame → ⊥
compact_none frame header f e (front, rest, laid, spells) =
    let m = message_of header no_members in
    let h = compact_heading.head_again m front rest spells in
    let read = compact_spelled.head_is frame m.name (m.mtype, m.seq) h.at h.long (ap front_at laid ∙ h.front) (ap (λ l. string_at (drop h.at l)) laid ∙ h.name) in
    let wrong = sym read ∙ e in
    absurd (cc)

-- ---- JSON

pub json_fronted : (frame : List ℕ) (header : Header) (first : json_reading.State) → json_head.reads_head (json_reading.begun frame) ≡ Ok (header, first) → Fronted JsonHead header frame
json_fronted frame header first e = header_stands frame header first e

pub json_none : (frame : List ℕ) (header : Header) (f : Fault) → json_head.reads_head (json_reading.begun frame) ≡ Err f → Fronted JsonHead header frame → ⊥
json_none frame header f e (front, rest, laid, spells) =
    let again = header_again frame front rest header laid spells in
    let wrong = sym again.1 ∙ e in
    absurd (cc)

pub json_told : (d : Declarations) (route : Route) (to : Proto) (frame : List ℕ) → length frame < 2 ^ 31
    → IsVerdict JsonHead (SpellsBy d route protocols.Json) (JsonFault d route) (JsonPlace d route) d route to frame (pairs.judged d route protocols.Json to frame)
json_told d route to frame small =
    told json_source JsonHead (SpellsBy d route protocols.Json) (JsonFault d route) (JsonFault d route) (JsonPlace d route) d route to frame _ (json_fronted frame) (json_none frame) (λ f refused. refused) (json_judged d route to frame small)

module _ (d : Declarations) (route : Route) (to : Proto) (frame : List ℕ) (are : AreBytes frame) where
  pub binary_told : IsVerdict BinaryHead BinarySpells binary_faults.FaultAt BinaryPlace d route to frame (pairs.judged d route protocols.Binary to frame)
  binary_told = told binary_source BinaryHead BinarySpells _ binary_faults.FaultAt BinaryPlace d route to frame _ (binary_fronted frame are) (binary_none frame) (λ f refused. binary_proofs.stands_there frame f are refused) (binary_judged d route to frame are)

  pub compact_told : IsVerdict CompactHead CompactSpells compact_faults.FaultAt CompactPlace d route to frame (pairs.judged d route protocols.Compact to frame)
  compact_told = told compact_source CompactHead CompactSpells _ compact_faults.FaultAt CompactPlace d route to frame _ (compact_fronted frame are) (compact_none frame) (λ f refused. compact_proofs.stands_there frame f are refused) (compact_judged d route to frame are)
