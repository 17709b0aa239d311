-- The first part of a frame that is called for and doesn't stand.
use Rattle.std.specs.Prelude.{◌≡◌, ◌⊎◌, ℕ, ◌+◌, ◌<◌, List, [], ◌∷◌, ◌++◌, length, take, drop}
use Rattle.thrift_value.specs.Items.{Item, end}
use Rattle.thrift_value.specs.Trees.{Message, depth_of_members, items_of_members}
use Rattle.protocol_traits.specs.declared.fault.Fault.{Fault}
use Rattle.protocol_traits.specs.declared.fault.Reason.{Reason}
use Rattle.protocol_traits.specs.declared.fault.Reason.TheVariants as reasons
use Rattle.protocol_traits.specs.declared.nest.Slot.{Slot}
use Rattle.protocol_traits.specs.Follow.{after as levels_after}
use Rattle.protocol_traits.specs.Heads.{Header}
use Rattle.type_walk.specs.Positions.{Position, start}
use Rattle.type_walk.specs.Positions.{after as position_after}
use Rattle.json_protocol.specs.declared.opening.Opening.{Opening}
use Rattle.json_protocol.specs.declared.opening.Opening.TheVariants as openings
use Rattle.json_protocol.specs.Scan.{gap}
use Rattle.json_protocol.specs.Reading.{opening_after}
use Rattle.json_laws.specs.Fronts.{body_nest}
use Rattle.json_laws.specs.Stated.{Known, JsonSpells}
use Rattle.json_laws.specs.Plans.{Part, Value, StandsAs, reason_of, IsThere, extent, Plan, done, want, header_plan, last_plan, called_plan}
use Rattle.binary_laws.specs.Reads.{header_of_message}

abbrev pub fault_at : ℕ → Reason → Fault
fault_at place reason = record { place = place; reason = reason }

-- behind so many bytes and the whitespace that stands there
abbrev pub there : ℕ → List ℕ → ℕ
there n bytes = n + gap (drop n bytes)

-- no front of the bytes is the part
abbrev pub NoneStandsAs : Part → List ℕ → Type 0
NoneStandsAs part bytes = (x : Value part) (taken : ℕ) → StandsAs part bytes x taken → ⊥

-- whatever follows
abbrev pub NoneBegins : Part → List ℕ → Type 0
NoneBegins part bytes = (more : List ℕ) → NoneStandsAs part (bytes ++ more)

-- with some bytes behind
abbrev pub SomeBegins : Part → List ℕ → Type 0
SomeBegins part bytes = (more : List ℕ) × (x : Value part) × (taken : ℕ) × StandsAs part (bytes ++ more) x taken

-- Behind so many bytes the part is at fault: with the bytes of it, as far as there are any, none begins, whatever follows, and the fault is the
-- part's, there or in the string; or the bytes end inside one, and are truncated.
abbrev pub IsAtFault : Part → ℕ → List ℕ → Fault → Type 0
IsAtFault part at bytes f =
    ((inside : ℕ) × IsThere part (drop at bytes) inside × NoneBegins part (take (extent part (drop at bytes) inside) (drop at bytes)) × (f ≡ fault_at (at + inside) (reason_of part)))
    ⊎ (NoneStandsAs part (drop at bytes) × SomeBegins part (drop at bytes) × (f ≡ fault_at (length bytes) reasons.Truncated))

-- the parts of the plan stand behind so many bytes, with whitespace before each, up to this place, and mean this together
abbrev pub Passes : {Y : Type 0} → Plan Y → ℕ → List ℕ → Y → ℕ → Type 0
Passes (done x) n bytes y past = (x ≡ y) × (n ≡ past)
Passes (want part plan) n bytes y past =
    (x : Value part) × (taken : ℕ) × StandsAs part (drop (there n bytes) bytes) x taken × Passes (plan x) (there n bytes + taken) bytes y past

-- some of them stand, and the next one is at fault
abbrev pub Meets : {Y : Type 0} → Plan Y → ℕ → List ℕ → Fault → Type 0
Meets (done x) n bytes f = ⊥
Meets (want part plan) n bytes f =
    IsAtFault part (there n bytes) bytes f ⊎ ((x : Value part) × (taken : ℕ) × StandsAs part (drop (there n bytes) bytes) x taken × Meets (plan x) (there n bytes + taken) bytes f)

-- a fault behind so many bytes
abbrev pub IsBehind : ℕ → Fault → Fault → Type 0
IsBehind n g f = f ≡ fault_at (n + g.place) g.reason

-- these items stand one behind another, and what the levels then go on with is at fault
abbrev pub BodyMeets : Position → List Slot → Opening → List Item → List ℕ → Fault → Type 0
BodyMeets p nest opening [] bytes f = Meets (called_plan p nest opening) 0 bytes f
BodyMeets p nest opening (item ∷ items) bytes f =
    (nest ≡ [] → ⊥)
    × ((past : ℕ) × Passes (called_plan p nest opening) 0 bytes item past
    × ((g : Fault) × BodyMeets (position_after p item) (levels_after item nest) (opening_after item) items (drop past bytes) g × IsBehind past g f))

-- The header is at fault; or it stands, and behind it some items of a body, and then what is called for is at fault.
abbrev pub FirstFault : Known → List ℕ → Fault → Type 0
FirstFault k bytes f =
    Meets header_plan 0 bytes f
    ⊎ ((header : Header) × (past : ℕ) × Passes header_plan 0 bytes header past
    × ((items : List Item) × (g : Fault) × BodyMeets (start k.declared k.body) body_nest openings.Body items (drop past bytes) g × IsBehind past g f))

-- the frame spells a message of depth at most 256
abbrev pub IsWhole : Known → List ℕ → Type 0
IsWhole k bytes = (m : Message) × (depth_of_members m.body < 256) × JsonSpells k m bytes

-- these items stand one behind another up to the last level, and then the bracket of the message, and the end
abbrev pub BodyPasses : Position → List Slot → Opening → List Item → List ℕ → Type 0
BodyPasses p nest opening [] bytes = (nest ≡ []) × ((past : ℕ) × Passes last_plan 0 bytes end past)
BodyPasses p nest opening (item ∷ items) bytes =
    (nest ≡ [] → ⊥)
    × ((past : ℕ) × Passes (called_plan p nest opening) 0 bytes item past
    × BodyPasses (position_after p item) (levels_after item nest) (opening_after item) items (drop past bytes))

-- the header stands, and behind it these items of a body, and nothing else
abbrev pub FramePasses : Known → List ℕ → Header → List Item → Type 0
FramePasses k bytes header items =
    (past : ℕ) × Passes header_plan 0 bytes header past × BodyPasses (start k.declared k.body) body_nest openings.Body items (drop past bytes)

-- the same of the header and the items of a message
abbrev pub MessagePasses : Known → List ℕ → Message → Type 0
MessagePasses k bytes m = FramePasses k bytes (header_of_message m) (items_of_members m.body)
