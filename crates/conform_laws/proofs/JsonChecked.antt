-- What is found of a frame of JSON.
use Rattle.std.proofs.Common.{◌≡◌, ℕ, ◌<◌, ◌^◌, List, length, Option, Ok, ap, sym, ◌∙◌, inl, inr}
use Rattle.thrift_value.specs.declared.kind.Kind.{Kind}
use Rattle.thrift_value.specs.Items.{Item}
use Rattle.thrift_value.specs.Trees.{Tree, truth, whole_8, whole_16, whole_32, whole_64, double, characters, loose_number, loose_text, structure, mapping_of_none, mapping, collection, sequence, unique_id, Members, no_members, one_member, Trees, no_trees, one_tree, Pairs, no_pairs, one_pair, Message, IsValue, AreMembers, AreAll, ArePairs, items_of_members}
use Rattle.type_tables.specs.declared.declared.ServiceId.{ServiceId}
use Rattle.type_tables.specs.Declarations.{Declarations}
use Rattle.type_walk.specs.Positions.{start, hint_of}
use Rattle.protocol_traits.specs.declared.fault.Fault.{Fault}
use Rattle.protocol_traits.specs.declared.proto.Proto.TheVariants as protocols
use Rattle.protocol_traits.specs.Heads.{Header}
use Rattle.translate_verdicts.specs.declared.route.Route.TheVariants.{ByName}
use Rattle.translate_verdicts.specs.Routes.{body_of}
use Rattle.protocol_pairs.specs.Pairs.{json_source}
use Rattle.json_protocol.specs.Reading.{State, begun, reads}
use Rattle.json_protocol.specs.Head.{reads_head}
use Rattle.binary_laws.specs.Reads.{header_of_message}
use Rattle.json_laws.specs.Fronts.{SpellsHeader as JsonHead}
use Rattle.json_laws.specs.Reads.{Reads}
use Rattle.json_laws.specs.Refused.{Refuses, behind}
use Rattle.verdict_laws.specs.Spellings.{SpellsBy}
use Rattle.verdict_laws.specs.Verdicts.{JsonFault}
use Rattle.verdict_laws.proofs.Binary.{some_levels}
use Rattle.verdict_laws.proofs.Faulted.{json_fronted, json_none}
use Rattle.verdict_laws.proofs.Json.{levels, nested, body_level, follows, behind_same, Outcome, IsWhole, IsCut, IsHeadless, outcome, message_read, fault_behind, fault_before}
use Rattle.conform_check.specs.Checking.{Refused, begun as starts, checked_by, found}
use Rattle.conform_laws.specs.Checkings.{IsChecking, TellsFault, TellsNoHeader}
use Rattle.conform_laws.proofs.Meeting.{AllAre, AreUniform, IsUniform, PairsAre}
use Rattle.conform_laws.proofs.Running.{run}
use Rattle.conform_laws.proofs.Bodies.{checked_unread, checked_whole, checked_faulty, checked_trailing}
use Rattle.conform_laws.proofs.Checked.{body_first, either}

-- in a message the parts of each container have the kinds that it tells
mutual
  value_uniform : (t : Tree) → IsValue t → IsUniform t
  value_uniform (truth b) v = tt
  value_uniform (whole_8 n) v = tt
  value_uniform (whole_16 n) v = tt
  value_uniform (whole_32 n) v = tt
  value_uniform (whole_64 n) v = tt
  value_uniform (double eight) v = tt
  value_uniform (characters text) v = tt
  value_uniform (loose_number text) v = tt
  value_uniform (loose_text text) v = tt
  value_uniform (structure ms) v = members_uniform ms v
  value_uniform mapping_of_none v = tt
  value_uniform (mapping key value ps) v = pairs_uniform key value ps v.2
  value_uniform (collection kind ts) v = all_uniform kind ts v.1
  value_uniform (sequence kind ts) v = all_uniform kind ts v.1
  value_uniform (unique_id sixteen) v = tt

  members_uniform : (ms : Members) → AreMembers ms → AreUniform ms
  members_uniform no_members v = tt
  members_uniform (one_member id t ms) v = (value_uniform t v.1, members_uniform ms v.2)

  all_uniform : (kind : Kind) (ts : Trees) → AreAll kind ts → AllAre kind ts
  all_uniform kind no_trees v = tt
  all_uniform kind (one_tree t ts) v = (v.0, value_uniform t v.1, all_uniform kind ts v.2)

  pairs_uniform : (key value : Kind) (ps : Pairs) → ArePairs key value ps → PairsAre key value ps
  pairs_uniform key value no_pairs v = tt
  pairs_uniform key value (one_pair k x ps) v = (v.0, v.1, value_uniform k v.2, value_uniform x v.3, pairs_uniform key value ps v.4)

message_uniform : (d : Declarations) (service : Option ServiceId) (m : Message) (frame : List ℕ) → SpellsBy d (ByName service) protocols.Json m frame → AreUniform m.body
message_uniform d service m frame (name, seq, inner, text, int, fits, are, members, laid) = members_uniform m.body are

module _ (d : Declarations) (service : Option ServiceId) (frame : List ℕ) (small : length frame < 2 ^ 31) where
  abbrev json_is : Type 0
  json_is = IsChecking JsonHead (SpellsBy d (ByName service) protocols.Json) (JsonFault d (ByName service)) d service frame (checked_by json_source d service frame)

  json_cut : (f : Fault) (header : Header) (items : List Item) (first last : State) → reads_head (begun frame) ≡ Ok (header, first) → Reads (start d (body_of d (ByName service) header)) first items last
      → JsonFault d (ByName service) frame f → Refuses (behind (start d (body_of d (ByName service) header)) items) last f → json_is
  json_cut f header items first last headed read fault refuses = by_end refuses
    where
      told : checked_by json_source d service frame ≡ Refused f → json_is
      told e = let x = json_fronted frame header first headed in TellsFault header x.0 x.1 f x.2 x.3 fault e

      by_end : Refuses (behind (start d (body_of d (ByName service) header)) items) last f → json_is
      by_end (inl (some, e)) =
          told (checked_faulty json_source levels nested d service frame header first last items headed (body_level frame header first headed) (follows items first last (start d (body_of d (ByName service) header)) read) f
          (some_levels last.nest some) (ap (λ x. reads last (hint_of x)) (sym (behind_same (start d (body_of d (ByName service) header)) items)) ∙ e))
      by_end (inr (none, e)) =
          told (checked_trailing json_source levels nested d service frame header first last items headed (body_level frame header first headed) (follows items first last (start d (body_of d (ByName service) header)) read) f (ap length none) e)

  pub json_checked : json_is
  json_checked = by_outcome (outcome d (ByName service) frame)
    where
      by_outcome : Outcome d (ByName service) frame → json_is
      by_outcome (IsWhole header items first last headed read none ends) =
          let m = message_read d (ByName service) frame header items small (first, last, headed, read, none, ends) in
          let is = checked_whole json_source levels nested d service frame header first last items headed (body_level frame header first headed) (follows items first last (start d (body_of d (ByName service) header)) read) (ap length none) ends in
          let here = ap (λ xs. found (run (starts d (body_of d (ByName service) header)) xs).first) m.2 ∙ ap (λ h. found (run (starts d (body_of d (ByName service) h)) (items_of_members m.0.body)).first) m.1 in
          let u = message_uniform d service m.0 frame m.4 in
          either JsonHead (SpellsBy d (ByName service) protocols.Json) (JsonFault d (ByName service)) d service frame m.0 _ m.4 m.3 u
          (is ∙ here ∙ ap found (body_first d (body_of d (ByName service) (header_of_message m.0)) m.0.body u))
      by_outcome (IsCut f header items first last headed read refuses) = json_cut f header items first last headed read (fault_behind d (ByName service) frame f header items first last small headed read refuses) refuses
      by_outcome (IsHeadless f e) =
          TellsNoHeader f (λ header front rest laid spells. json_none frame header f e (front, rest, laid, spells)) (fault_before d (ByName service) frame f small e) (checked_unread json_source levels nested d service frame f e)
