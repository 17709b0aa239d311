-- What is shown of a frame.
use Rattle.std.proofs.Common.{◌≡◌, ℕ, ◌<◌, ◌^◌, List, ◌++◌, length, Option, Ok, ap, subst, ◌⊎◌, inl, inr}
use Rattle.thrift_value.specs.Items.{Item}
use Rattle.thrift_value.specs.Trees.{items_of_members}
use Rattle.type_tables.specs.declared.declared.ServiceId.{ServiceId}
use Rattle.type_tables.specs.Declarations.{Declarations}
use Rattle.protocol_traits.specs.declared.fault.Fault.{Fault}
use Rattle.protocol_traits.specs.Heads.{Header}
use Rattle.translate_verdicts.specs.declared.route.Route.TheVariants.{ByName}
use Rattle.translate_core.specs.Answers.{marked, spelled}
use Rattle.translate_verdicts.specs.Routes.{body_of, start_of}
use Rattle.protocol_traits.specs.declared.proto.Proto.TheVariants as protocols
use Rattle.translate_verdicts.specs.declared.route.Route.{Route}
use Rattle.protocol_pairs.specs.Pairs.{binary_source, compact_source, json_source}
use Rattle.message_show.specs.Line.{begun, head_text, line_end}
use Rattle.message_show.specs.Shown.{Line, Refused, place, line_target, shown_by}
use Rattle.binary_protocol.specs.Grammar.{BinarySpells}
use Rattle.compact_protocol.specs.Grammar.{CompactSpells}
use Rattle.gate_base.specs.Bytes.{AreBytes}
use Rattle.binary_laws.specs.Faults as binary_faults
use Rattle.binary_laws.specs.Reads.{IsRead}
use Rattle.binary_laws.specs.Refused.{Refuses, IsRefused}
use Rattle.binary_laws.proofs.Either.{read_or_refused}
use Rattle.binary_laws.proofs.Sound.{read_spelled}
use Rattle.binary_laws.proofs.Faults.{stands_there}
use Rattle.compact_laws.specs.Faults as compact_faults
use Rattle.compact_laws.specs.Reads as compact_reads
use Rattle.compact_laws.specs.Refused as compact_refused
use Rattle.compact_laws.proofs.Either as compact_either
use Rattle.compact_laws.proofs.Sound as compact_sound
use Rattle.compact_laws.proofs.Faults as compact_stands
use Rattle.json_protocol.specs.Reading.{State}
use Rattle.json_protocol.specs.Reading as json_reading
use Rattle.json_protocol.specs.Head.{reads_head}
use Rattle.json_laws.specs.Fronts.{SpellsHeader as JsonHead}
use Rattle.json_laws.specs.Reads as json_reads
use Rattle.json_laws.specs.Refused as json_refused
use Rattle.type_walk.specs.Positions.{start}
use Rattle.verdict_laws.specs.Spellings.{SpellsBy}
use Rattle.verdict_laws.specs.Verdicts.{BinaryHead, CompactHead, JsonFault}
use Rattle.verdict_laws.proofs.Binary as binary
use Rattle.verdict_laws.proofs.Compact as compact
use Rattle.verdict_laws.proofs.Json as json
use Rattle.verdict_laws.proofs.Json.{Outcome, IsWhole, IsCut, IsHeadless}
use Rattle.verdict_laws.proofs.Faulted.{binary_fronted, binary_none, compact_fronted, compact_none, json_fronted, json_none}
use Rattle.show_laws.specs.Showings.{body_start, IsShowing, ShowsMessage, TellsFault, TellsNoHeader}
use Rattle.show_laws.proofs.Bodies.{shown_unread, shown_whole, shown_faulty, shown_trailing}

-- the line of what was read
abbrev line_of : Declarations → Option ServiceId → Header → List Item → List ℕ
line_of d service h items =
    let p = body_start d service h in
    (head_text h ++ spelled (line_target (place p begun)).plain (line_target (place p begun)).after (place p begun) (marked p items)) ++ line_end

-- ---- Binary

module _ (d : Declarations) (service : Option ServiceId) (frame : List ℕ) (are : AreBytes frame) where
  abbrev binary_is : Type 0
  binary_is = IsShowing BinaryHead BinarySpells binary_faults.FaultAt d service frame (shown_by binary_source (start_of d (ByName service)) frame)

  binary_whole : (header : Header) (items : List Item) → IsRead frame header items → binary_is
  binary_whole header items (first, last, headed, reads, ends) =
      let m = read_spelled frame header items are (first, last, headed, reads, ends) in
      let is = shown_whole binary_source binary.levels binary.nested (start_of d (ByName service)) frame header first last items headed (binary.body_level frame header first headed)
      (binary.follows items first last (start_of d (ByName service) header) reads) (binary.end_closed last last ends) ends in
      ShowsMessage m.0 m.4 m.3
      (subst (λ h. shown_by binary_source (start_of d (ByName service)) frame ≡ Line (line_of d service h (items_of_members m.0.body))) m.1
      (subst (λ xs. shown_by binary_source (start_of d (ByName service)) frame ≡ Line (line_of d service header xs)) m.2 is))

  binary_fault : (f : Fault) → IsRefused frame f → binary_is
  binary_fault f (inl e) = TellsNoHeader f (λ header front rest laid spells. binary_none frame header f e (front, rest, laid, spells)) (stands_there frame f are (inl e)) (shown_unread binary_source binary.levels binary.nested (start_of d (ByName service)) frame f e)
  binary_fault f (inr (header, items, first, last, headed, reads, refuses)) = by_end refuses
    where
      told : shown_by binary_source (start_of d (ByName service)) frame ≡ Refused f → binary_is
      told e =
          let x = binary_fronted frame are header first headed in
          TellsFault header x.0 x.1 f x.2 x.3 (stands_there frame f are (inr (header, items, first, last, headed, reads, refuses))) e

      by_end : Refuses last f → binary_is
      by_end (inl (some, e)) =
          told (shown_faulty binary_source binary.levels binary.nested (start_of d (ByName service)) frame header first last items headed (binary.body_level frame header first headed)
          (binary.follows items first last (start_of d (ByName service) header) reads) f (binary.some_levels last.nest some) e)
      by_end (inr (none, e)) =
          told (shown_trailing binary_source binary.levels binary.nested (start_of d (ByName service)) frame header first last items headed (binary.body_level frame header first headed)
          (binary.follows items first last (start_of d (ByName service) header) reads) f (ap length none) e)

  pub binary_shown : binary_is
  binary_shown = by_outcome (read_or_refused frame)
    where
      by_outcome : ((header : Header) × (items : List Item) × IsRead frame header items) ⊎ ((f : Fault) × IsRefused frame f) → binary_is
      by_outcome (inl (header, items, read)) = binary_whole header items read
      by_outcome (inr (f, refused)) = binary_fault f refused

-- ---- Compact

module _ (d : Declarations) (service : Option ServiceId) (frame : List ℕ) (are : AreBytes frame) where
  abbrev compact_is : Type 0
  compact_is = IsShowing CompactHead CompactSpells compact_faults.FaultAt d service frame (shown_by compact_source (start_of d (ByName service)) frame)

  compact_whole : (header : Header) (items : List Item) → compact_reads.IsRead frame header items → compact_is
  compact_whole header items (first, last, headed, reads, ends) =
      let m = compact_sound.read_spelled frame header items are (first, last, headed, reads, ends) in
      let is = shown_whole compact_source compact.levels compact.nested (start_of d (ByName service)) frame header first last items headed (compact.body_level frame header first headed)
      (compact.follows items first last (start_of d (ByName service) header) reads) (compact.end_closed last last ends) ends in
      ShowsMessage m.0 m.4 m.3
      (subst (λ h. shown_by compact_source (start_of d (ByName service)) frame ≡ Line (line_of d service h (items_of_members m.0.body))) m.1
      (subst (λ xs. shown_by compact_source (start_of d (ByName service)) frame ≡ Line (line_of d service header xs)) m.2 is))

  compact_fault : (f : Fault) → compact_refused.IsRefused frame f → compact_is
  compact_fault f (inl e) = TellsNoHeader f (λ header front rest laid spells. compact_none frame header f e (front, rest, laid, spells)) (compact_stands.stands_there frame f are (inl e)) (shown_unread compact_source compact.levels compact.nested (start_of d (ByName service)) frame f e)
  compact_fault f (inr (header, items, first, last, headed, reads, refuses)) = by_end refuses
    where
      told : shown_by compact_source (start_of d (ByName service)) frame ≡ Refused f → compact_is
      told e =
          let x = compact_fronted frame are header first headed in
          TellsFault header x.0 x.1 f x.2 x.3 (compact_stands.stands_there frame f are (inr (header, items, first, last, headed, reads, refuses))) e

      by_end : compact_refused.Refuses last f → compact_is
      by_end (inl (some, e)) =
          told (shown_faulty compact_source compact.levels compact.nested (start_of d (ByName service)) frame header first last items headed (compact.body_level frame header first headed)
          (compact.follows items first last (start_of d (ByName service) header) reads) f (compact.some_levels last.nest some) e)
      by_end (inr (none, e)) =
          told (shown_trailing compact_source compact.levels compact.nested (start_of d (ByName service)) frame header first last items headed (compact.body_level frame header first headed)
          (compact.follows items first last (start_of d (ByName service) header) reads) f (ap length none) e)

  pub compact_shown : compact_is
  compact_shown = by_outcome (compact_either.read_or_refused frame)
    where
      by_outcome : ((header : Header) × (items : List Item) × compact_reads.IsRead frame header items) ⊎ ((f : Fault) × compact_refused.IsRefused frame f) → compact_is
      by_outcome (inl (header, items, read)) = compact_whole header items read
      by_outcome (inr (f, refused)) = compact_fault f refused

-- ---- JSON

module _ (d : Declarations) (service : Option ServiceId) (frame : List ℕ) (small : length frame < 2 ^ 31) where
  abbrev route : Route
  route = ByName service

  abbrev json_is : Type 0
  json_is = IsShowing JsonHead (SpellsBy d route protocols.Json) (JsonFault d route) d service frame (shown_by json_source (start_of d route) frame)

  json_cut : (f : Fault) (header : Header) (items : List Item) (first last : State) → reads_head (json_reading.begun frame) ≡ Ok (header, first) → json_reads.Reads (start d (body_of d route header)) first items last
      → JsonFault d route frame f → json_refused.Refuses (json_refused.behind (start d (body_of d route header)) items) last f → json_is
  json_cut f header items first last headed reads fault refuses = by_end refuses
    where
      told : shown_by json_source (start_of d route) frame ≡ Refused f → json_is
      told e = let x = json_fronted frame header first headed in TellsFault header x.0 x.1 f x.2 x.3 fault e

      by_end : json_refused.Refuses (json_refused.behind (start d (body_of d route header)) items) last f → json_is
      by_end (inl (some, e)) =
          told (shown_faulty json_source json.levels json.nested (start_of d route) frame header first last items headed (json.body_level frame header first headed)
          (json.body_follows d route header items first last reads) f (binary.some_levels last.nest some) (json.called_there d route header items last _ e))
      by_end (inr (none, e)) =
          told (shown_trailing json_source json.levels json.nested (start_of d route) frame header first last items headed (json.body_level frame header first headed)
          (json.body_follows d route header items first last reads) f (ap length none) e)

  pub json_shown : json_is
  json_shown = by_outcome (json.outcome d route frame)
    where
      by_outcome : Outcome d route frame → json_is
      by_outcome (IsWhole header items first last headed reads none ends) =
          let m = json.message_read d route frame header items small (first, last, headed, reads, none, ends) in
          let is = shown_whole json_source json.levels json.nested (start_of d route) frame header first last items headed (json.body_level frame header first headed)
          (json.body_follows d route header items first last reads) (ap length none) ends in
          ShowsMessage m.0 m.4 m.3
          (subst (λ h. shown_by json_source (start_of d route) frame ≡ Line (line_of d service h (items_of_members m.0.body))) m.1
          (subst (λ xs. shown_by json_source (start_of d route) frame ≡ Line (line_of d service header xs)) m.2 is))
      by_outcome (IsCut f header items first last headed reads refuses) =
          json_cut f header items first last headed reads (json.fault_behind d route frame f header items first last small headed reads refuses) refuses
      by_outcome (IsHeadless f e) =
          TellsNoHeader f (λ header front rest laid spells. json_none frame header f e (front, rest, laid, spells)) (json.fault_before d route frame f small e)
          (shown_unread json_source json.levels json.nested (start_of d route) frame f e)
