-- What is found of a frame of Binary or Compact.
use Rattle.std.proofs.Common.{◌≡◌, ℕ, ◌<◌, List, [], length, Option, Some, None, ap, refl, ◌∙◌, ◌⊎◌, inl, inr}
use Rattle.thrift_value.specs.Items.{Item}
use Rattle.thrift_value.specs.Trees.{Members, Message, items_of_members, depth_of_members}
use Rattle.type_tables.specs.declared.declared.ServiceId.{ServiceId}
use Rattle.type_tables.specs.declared.declared.StructId.{StructId}
use Rattle.type_tables.specs.Declarations.{Declarations}
use Rattle.type_walk.specs.Positions.{start}
use Rattle.protocol_traits.specs.declared.fault.Fault.{Fault}
use Rattle.protocol_traits.specs.Heads.{Header}
use Rattle.translate_verdicts.specs.declared.route.Route.TheVariants.{ByName}
use Rattle.translate_verdicts.specs.Routes.{body_of}
use Rattle.protocol_pairs.specs.Pairs.{binary_source, compact_source}
use Rattle.binary_protocol.specs.Grammar.{BinarySpells}
use Rattle.compact_protocol.specs.Grammar.{CompactSpells}
use Rattle.gate_base.specs.Bytes.{AreBytes}
use Rattle.binary_laws.specs.Faults as binary_faults
use Rattle.binary_laws.specs.Reads.{IsRead, header_of_message}
use Rattle.binary_laws.specs.Refused.{Refuses, IsRefused}
use Rattle.binary_laws.proofs.Either.{read_or_refused}
use Rattle.binary_laws.proofs.Sound.{read_spelled}
use Rattle.binary_laws.proofs.Faults.{stands_there}
use Rattle.compact_laws.specs.Faults as compact_faults
use Rattle.compact_laws.specs.Reads as compact_reads
use Rattle.compact_laws.specs.Refused as compact_refused
use Rattle.compact_laws.proofs.Either as compact_either
use Rattle.compact_laws.proofs.Sound as compact_sound
use Rattle.compact_laws.proofs.Faults as compact_stands
use Rattle.verdict_laws.specs.Verdicts.{BinaryHead, CompactHead}
use Rattle.verdict_laws.proofs.Binary as binary
use Rattle.verdict_laws.proofs.Compact as compact
use Rattle.verdict_laws.proofs.Faulted.{binary_fronted, binary_none, compact_fronted, compact_none}
use Rattle.conform_check.specs.declared.breach.Breach.TheVariants as breaches
use Rattle.conform_check.specs.Checking.{Broken, Finding, Refused, begun, broken, checked_by, found}
use Rattle.conform_laws.specs.Meeting.{MeetsBody}
use Rattle.conform_laws.specs.Breaking.{breach_of_body}
use Rattle.conform_laws.specs.Checkings.{IsChecking, MessageIsMet, MessageBreaks, TellsFault, TellsNoHeader, first_breach}
use Rattle.conform_laws.proofs.Meeting.{AreUniform, ends_good, fields_meet, good_ends, no_breach_in}
use Rattle.conform_laws.proofs.Running.{body_run, run, run_stays}
use Rattle.conform_laws.proofs.Bodies.{checked_unread, checked_whole, checked_faulty, checked_trailing}
use Rattle.conform_laws.proofs.Uniform.{binary_members, compact_members}

-- what is found of a body's items is its first breach
pub body_first : (d : Declarations) (body : Option StructId) (ms : Members) → AreUniform ms → (run (begun d body) (items_of_members ms)).first ≡ breach_of_body d body ms
body_first d None ms u = run_stays (items_of_members ms) (begun d None) (broken breaches.UnknownMethod []) refl
body_first d (Some s) ms u = body_run d s ms u

body_meets : (d : Declarations) (body : Option StructId) (ms : Members) → AreUniform ms → breach_of_body d body ms ≡ None → MeetsBody d body ms
body_meets d None ms u e = absurd (cc)
body_meets d (Some s) ms u e =
    let good = fields_meet d s [] ms u e in
    let ends = ends_good d s _ good.2 in
    (good.0, record { once = good.1; required = ends.0; one = ends.1 })

body_breaks : (d : Declarations) (body : Option StructId) (ms : Members) (b : Broken) → breach_of_body d body ms ≡ Some b → MeetsBody d body ms → ⊥
body_breaks d None ms b e meets = meets
body_breaks d (Some s) ms b e meets =
    absurd (cc (e, no_breach_in d s [] ms meets.0 meets.1.once (good_ends d s _ meets.1.required meets.1.one)))

module _ (SpellsHead : Header → List ℕ → Type 0) (Spells : Message → List ℕ → Type 0) (FaultAt : List ℕ → Fault → Type 0) (d : Declarations) (service : Option ServiceId) (frame : List ℕ) where
  -- a message that a frame spells meets its declarations, or has a first breach
  pub either : (m : Message) (finding : Finding) → Spells m frame → depth_of_members m.body < 256 → AreUniform m.body → finding ≡ found (first_breach d service m)
      → IsChecking SpellsHead Spells FaultAt d service frame finding
  either m finding spells deep u is = by (first_breach d service m) refl
    where
      by : (o : Option Broken) → first_breach d service m ≡ o → IsChecking SpellsHead Spells FaultAt d service frame finding
      by None e = MessageIsMet m spells deep (body_meets d (body_of d (ByName service) (header_of_message m)) m.body u e) (is ∙ ap found e)
      by (Some b) e = MessageBreaks m b spells deep (body_breaks d (body_of d (ByName service) (header_of_message m)) m.body b e) e (is ∙ ap found e)

-- ---- Binary

module _ (d : Declarations) (service : Option ServiceId) (frame : List ℕ) (are : AreBytes frame) where
  abbrev binary_is : Type 0
  binary_is = IsChecking BinaryHead BinarySpells binary_faults.FaultAt d service frame (checked_by binary_source d service frame)

  binary_whole : (header : Header) (items : List Item) → IsRead frame header items → binary_is
  binary_whole header items (first, last, headed, reads, ends) =
      let m = read_spelled frame header items are (first, last, headed, reads, ends) in
      let is = checked_whole binary_source binary.levels binary.nested d service frame header first last items headed (binary.body_level frame header first headed)
      (binary.follows items first last (start d (body_of d (ByName service) header)) reads) (binary.end_closed last last ends) ends in
      let here = ap (λ xs. found (run (begun d (body_of d (ByName service) header)) xs).first) m.2
      ∙ ap (λ h. found (run (begun d (body_of d (ByName service) h)) (items_of_members m.0.body)).first) m.1 in
      let u = binary_members m.0.body m.4.2.1 m.4.2.3 in
      either BinaryHead BinarySpells binary_faults.FaultAt d service frame m.0 _ m.4 m.3 u
      (is ∙ here ∙ ap found (body_first d (body_of d (ByName service) (header_of_message m.0)) m.0.body u))

  binary_fault : (f : Fault) → IsRefused frame f → binary_is
  binary_fault f (inl e) = TellsNoHeader f (λ header front rest laid spells. binary_none frame header f e (front, rest, laid, spells)) (stands_there frame f are (inl e)) (checked_unread binary_source binary.levels binary.nested d service frame f e)
  binary_fault f (inr (header, items, first, last, headed, reads, refuses)) = by_end refuses
    where
      told : checked_by binary_source d service frame ≡ Refused f → binary_is
      told e =
          let x = binary_fronted frame are header first headed in
          TellsFault header x.0 x.1 f x.2 x.3 (stands_there frame f are (inr (header, items, first, last, headed, reads, refuses))) e

      by_end : Refuses last f → binary_is
      by_end (inl (some, e)) =
          told (checked_faulty binary_source binary.levels binary.nested d service frame header first last items headed (binary.body_level frame header first headed)
          (binary.follows items first last (start d (body_of d (ByName service) header)) reads) f (binary.some_levels last.nest some) e)
      by_end (inr (none, e)) =
          told (checked_trailing binary_source binary.levels binary.nested d service frame header first last items headed (binary.body_level frame header first headed)
          (binary.follows items first last (start d (body_of d (ByName service) header)) reads) f (ap length none) e)

  pub binary_checked : binary_is
  binary_checked = by_outcome (read_or_refused frame)
    where
      by_outcome : ((header : Header) × (items : List Item) × IsRead frame header items) ⊎ ((f : Fault) × IsRefused frame f) → binary_is
      by_outcome (inl (header, items, read)) = binary_whole header items read
      by_outcome (inr (f, refused)) = binary_fault f refused

-- ---- Compact

module _ (d : Declarations) (service : Option ServiceId) (frame : List ℕ) (are : AreBytes frame) where
  abbrev compact_is : Type 0
  compact_is = IsChecking CompactHead CompactSpells compact_faults.FaultAt d service frame (checked_by compact_source d service frame)

  compact_whole : (header : Header) (items : List Item) → compact_reads.IsRead frame header items → compact_is
  compact_whole header items (first, last, headed, reads, ends) =
      let m = compact_sound.read_spelled frame header items are (first, last, headed, reads, ends) in
      let is = checked_whole compact_source compact.levels compact.nested d service frame header first last items headed (compact.body_level frame header first headed)
      (compact.follows items first last (start d (body_of d (ByName service) header)) reads) (compact.end_closed last last ends) ends in
      let here = ap (λ xs. found (run (begun d (body_of d (ByName service) header)) xs).first) m.2
      ∙ ap (λ h. found (run (begun d (body_of d (ByName service) h)) (items_of_members m.0.body)).first) m.1 in
      let u = compact_members m.0.body _ m.4.1 m.4.3 in
      either CompactHead CompactSpells compact_faults.FaultAt d service frame m.0 _ m.4 m.3 u
      (is ∙ here ∙ ap found (body_first d (body_of d (ByName service) (header_of_message m.0)) m.0.body u))

  compact_fault : (f : Fault) → compact_refused.IsRefused frame f → compact_is
  compact_fault f (inl e) = TellsNoHeader f (λ header front rest laid spells. compact_none frame header f e (front, rest, laid, spells)) (compact_stands.stands_there frame f are (inl e)) (checked_unread compact_source compact.levels compact.nested d service frame f e)
  compact_fault f (inr (header, items, first, last, headed, reads, refuses)) = by_end refuses
    where
      told : checked_by compact_source d service frame ≡ Refused f → compact_is
      told e =
          let x = compact_fronted frame are header first headed in
          TellsFault header x.0 x.1 f x.2 x.3 (compact_stands.stands_there frame f are (inr (header, items, first, last, headed, reads, refuses))) e

      by_end : compact_refused.Refuses last f → compact_is
      by_end (inl (some, e)) =
          told (checked_faulty compact_source compact.levels compact.nested d service frame header first last items headed (compact.body_level frame header first headed)
          (compact.follows items first last (start d (body_of d (ByName service) header)) reads) f (compact.some_levels last.nest some) e)
      by_end (inr (none, e)) =
          told (checked_trailing compact_source compact.levels compact.nested d service frame header first last items headed (compact.body_level frame header first headed)
          (compact.follows items first last (start d (body_of d (ByName service) header)) reads) f (ap length none) e)

  pub compact_checked : compact_is
  compact_checked = by_outcome (compact_either.read_or_refused frame)
    where
      by_outcome : ((header : Header) × (items : List Item) × compact_reads.IsRead frame header items) ⊎ ((f : Fault) × compact_refused.IsRefused frame f) → compact_is
      by_outcome (inl (header, items, read)) = compact_whole header items read
      by_outcome (inr (f, refused)) = compact_fault f refused
