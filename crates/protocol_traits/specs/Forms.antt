-- The forms of the quick way: one item that is read at a place of a frame, and one that is written into cells.
use Rattle.std.specs.Prelude.{◌≡◌, ℕ, ℤ, pos, ◌+◌, ◌-◌, ◌*◌, ◌<◌, ◌≤◌, List, [], ◌∷◌, ◌++◌, length, take, drop, Bool, true, Option, None, Ok, ◌==◌, if◌then◌else◌}
use Rattle.std.specs.Int.{w64, to_be_bytes}
use Rattle.thrift_value.specs.declared.kind.Kind.{Kind}
use Rattle.thrift_value.specs.declared.kind.Kind.TheVariants as kinds
use Rattle.thrift_value.specs.Items.{Item, field, stop, bool_value, double_value, text, struct_begin, empty_map, map_begin, set_begin, list_begin, end, uuid_value}
use Rattle.protocol_traits.specs.declared.fault.Bar.{Bar}
use Rattle.protocol_traits.specs.declared.forms.Container.{Container}
use Rattle.protocol_traits.specs.declared.forms.Container.TheVariants as containers
use Rattle.protocol_traits.specs.declared.forms.Lead.{Lead}
use Rattle.protocol_traits.specs.declared.forms.Lead.TheVariants as leads
use Rattle.protocol_traits.specs.declared.forms.Opening.{Opening}
use Rattle.protocol_traits.specs.declared.forms.Opening.TheVariants as openings
use Rattle.protocol_traits.specs.declared.forms.Stand.{Stand}
use Rattle.protocol_traits.specs.declared.forms.Stand.TheVariants as stands
use Rattle.protocol_traits.specs.declared.nest.Slot.{Slot}
use Rattle.protocol_traits.specs.declared.nest.Slot.TheVariants as slots
use Rattle.protocol_traits.specs.declared.nest.TheConstants.{DEPTH}
use Rattle.protocol_traits.specs.declared.proto.Hint.{Hint}
use Rattle.protocol_traits.specs.declared.proto.Mark.{Mark}
use Rattle.protocol_traits.specs.Heads.{Header}
use Rattle.protocol_traits.specs.Steps.{Step}
use Rattle.protocol_traits.specs.Follow.{after}

-- what was read or written of the innermost level behind an item
abbrev pub opening_after : Item → Opening
opening_after struct_begin = openings.New
opening_after (map_begin key value size) = openings.New
opening_after (set_begin kind size) = openings.New
opening_after (list_begin kind size) = openings.New
opening_after item = openings.Old

-- the item that a lead stands for
abbrev pub lead_item : Lead → ℤ → Item
lead_item leads.Bool id = field id kinds.Bool
lead_item leads.I8 id = field id kinds.I8
lead_item leads.I16 id = field id kinds.I16
lead_item leads.I32 id = field id kinds.I32
lead_item leads.I64 id = field id kinds.I64
lead_item leads.Double id = field id kinds.Double
lead_item leads.Str id = field id kinds.Str
lead_item leads.Struct id = field id kinds.Struct
lead_item leads.Map id = field id kinds.Map
lead_item leads.Set id = field id kinds.Set
lead_item leads.List id = field id kinds.List
lead_item leads.Uuid id = field id kinds.Uuid
lead_item leads.Stop id = stop
lead_item leads.Bad id = stop

-- the beginning of a list or a set
abbrev pub elements_item : Container → Kind → ℕ → Item
elements_item containers.Set kind size = set_begin kind size
elements_item container kind size = list_begin kind size

-- the kind of a container
abbrev pub container_kind : Container → Kind
container_kind containers.Map = kinds.Map
container_kind containers.Set = kinds.Set
container_kind containers.List = kinds.List

-- the beginning of a map: the empty one stands alone
abbrev pub pairs_item : Kind → Kind → ℕ → Item
pairs_item key value size = if size == 0 then empty_map else map_begin key value size

-- a part of a frame
abbrev pub part : List ℕ → ℕ → ℕ → List ℕ
part frame begin behind = take (behind - begin) (drop begin frame)

-- a double, by the number that its bytes make big endian
abbrev pub double_item : ℕ → Item
double_item number = double_value (to_be_bytes w64 number)

-- a uuid whose sixteen bytes lie in a frame
abbrev pub uuid_item : List ℕ → ℕ → Item
uuid_item frame begin = uuid_value (part frame begin (begin + 16))

-- the most bytes that any protocol spells a text of so many bytes in
abbrev pub text_weight : ℕ → ℕ
text_weight size = 6 * size + 5

-- the innermost level calls for a value of this kind, and this is where it stands
abbrev pub Calls : Stand → Kind → Opening → List Slot → Type 0
Calls stands.Field kind opening (slots.Value own id ∷ up) = own ≡ kind
Calls stands.Element kind opening (slots.Elements own left ∷ up) = (own ≡ kind) × (0 < left)
Calls stands.FirstKey kind opening (slots.Keys key value left ∷ up) = (key ≡ kind) × (0 < left) × (opening ≡ openings.New)
Calls stands.Key kind opening (slots.Keys key value left ∷ up) = (key ≡ kind) × (0 < left) × (opening ≡ openings.Old)
Calls stands.Value kind opening (slots.Values key value left ∷ up) = value ≡ kind
Calls stand kind opening nest = ⊥

-- a container has nothing left
abbrev pub IsDone : Container → List Slot → Type 0
IsDone containers.Map (slots.Keys key value left ∷ up) = left ≡ 0
IsDone containers.Set (slots.Elements kind left ∷ up) = left ≡ 0
IsDone containers.List (slots.Elements kind left ∷ up) = left ≡ 0
IsDone container nest = ⊥

-- behind one place, and in the frame
abbrev pub IsPast : ℕ → List ℕ → ℕ → Type 0
IsPast at frame behind = (at < behind) × (behind ≤ length frame)

module _ {S : Type 0} (reads : S → Hint → Step S Item) (stands_at : S → List ℕ → ℕ → Opening → List Slot → Type 0) where
  -- Wherever a reader stands at this place of the frame, it reads this item, and stands at that place behind it.
  abbrev pub Steps : List ℕ → ℕ → Opening → List Slot → Hint → Item → ℕ → Type 0
  Steps frame at opening nest hint item behind =
      (s : S) → stands_at s frame at opening nest
      → (new : S) × (reads s hint ≡ Ok (item, new)) × stands_at new frame behind (opening_after item) (after item nest)

  -- the same of a field and its value
  abbrev pub StepsTwice : List ℕ → ℕ → Opening → List Slot → Item → Item → ℕ → Type 0
  StepsTwice frame at opening nest first item behind =
      (s : S) (hint next : Hint) → stands_at s frame at opening nest
      → (mid new : S) × (reads s hint ≡ Ok (first, mid)) × (reads mid next ≡ Ok (item, new))
      × stands_at new frame behind (opening_after item) (after item (after first nest))

  -- a value that is called for there is read
  abbrev pub StepsValue : List ℕ → ℕ → Stand → Kind → Item → ℕ → Type 0
  StepsValue frame at stand kind item behind = (opening : Opening) (nest : List Slot) (hint : Hint) → Calls stand kind opening nest → Steps frame at opening nest hint item behind

  -- the beginning of one that is a level is read, not too deep
  abbrev pub StepsInto : List ℕ → ℕ → Stand → Kind → Item → ℕ → Type 0
  StepsInto frame at stand kind item behind = (opening : Opening) (nest : List Slot) (hint : Hint) → Calls stand kind opening nest → length nest < DEPTH → Steps frame at opening nest hint item behind

  -- what stands next in a struct is read: its end, or the id and kind of a field
  abbrev pub StepsLead : List ℕ → ℕ → Opening → ℤ → Lead → ℤ → ℕ → Type 0
  StepsLead frame at opening last lead id behind = (up : List Slot) (hint : Hint) → (lead ≡ leads.Bad → ⊥) → Steps frame at opening (slots.Fields last ∷ up) hint (lead_item lead id) behind

  -- where the id and kind of a bool field are read to the first of two places, its value is read to the second
  abbrev pub StepsFlag : List ℕ → ℕ → Opening → ℕ → Bool → ℕ → Type 0
  StepsFlag frame at opening named value behind =
      (id : ℤ) (last : ℤ) (up : List Slot) → ((hint : Hint) → Steps frame at opening (slots.Fields last ∷ up) hint (field id kinds.Bool) named)
      → StepsTwice frame at opening (slots.Fields last ∷ up) (field id kinds.Bool) (bool_value value) behind

  -- A string that is called for there is read. Where that depends on its position, this hint is what the position says.
  abbrev pub StepsText : Bool → Hint → List ℕ → ℕ → Stand → List ℕ → ℕ → Type 0
  StepsText hinted hint frame at stand bytes behind =
      (opening : Opening) (nest : List Slot) (known : Hint) → (hinted ≡ true → known ≡ hint)
      → Calls stand kinds.Str opening nest → Steps frame at opening nest known (text bytes) behind

  -- the end of a container is read
  abbrev pub StepsEnd : List ℕ → ℕ → Container → ℕ → Type 0
  StepsEnd frame at container behind = (opening : Opening) (nest : List Slot) (hint : Hint) → IsDone container nest → Steps frame at opening nest hint end behind

module _ {S : Type 0} (stands_at : S → List ℕ → ℕ → Opening → List Slot → Type 0) where
  -- a frame's header was read, and the reader stands behind it, where the body begins
  abbrev pub ReadsHead : Step S Header → List ℕ → Header → ℕ → Type 0
  ReadsHead step frame header behind = (new : S) × (step ≡ Ok (header, new)) × stands_at new frame behind openings.Body (slots.Fields (pos 0) ∷ [])

-- the cells in front of these places are those before, and behind them this text
abbrev pub Appends : List ℕ → ℕ → List ℕ → ℕ → List ℕ → Type 0
Appends old to new behind added = take behind new ≡ take to old ++ added

module _ {T : Type 0} (bar : Item → Mark → Option Bar) (plain : T → Item → Mark → List ℕ) (stands_at : T → Opening → List Slot → Type 0) where
  -- Wherever a writer stands in these levels, nothing bars this item, and the cells have its spelling.
  abbrev pub Spells : List ℕ → ℕ → List ℕ → ℕ → Opening → List Slot → Mark → Item → Type 0
  Spells old to new behind opening nest mark item =
      (t : T) → stands_at t opening nest → (bar item mark ≡ None) × Appends old to new behind (plain t item mark)

  -- a value that is called for there is written
  abbrev pub SpellsValue : List ℕ → ℕ → List ℕ → ℕ → Stand → Kind → Item → Type 0
  SpellsValue old to new behind stand kind item = (opening : Opening) (nest : List Slot) (mark : Mark) → Calls stand kind opening nest → Spells old to new behind opening nest mark item

  -- a field and its value are written
  abbrev pub SpellsTwice : (T → Item → Mark → T) → List ℕ → ℕ → List ℕ → ℕ → Opening → List Slot → Item → Item → Type 0
  SpellsTwice next old to new behind opening nest first item =
      (t : T) (mark later : Mark) → stands_at t opening nest
      → (bar first mark ≡ None) × (bar item later ≡ None)
      × Appends old to new behind (plain t first mark ++ plain (next t first mark) item later)

  -- a field's id and kind are written, behind the field with the last id
  abbrev pub SpellsField : List ℕ → ℕ → List ℕ → ℕ → Opening → ℤ → Item → Type 0
  SpellsField old to new behind opening last item = (up : List Slot) (mark : Mark) → Spells old to new behind opening (slots.Fields last ∷ up) mark item

  -- a bool field is written whole, behind the field with the last id
  abbrev pub SpellsFlag : (T → Item → Mark → T) → List ℕ → ℕ → List ℕ → ℕ → Opening → ℤ → ℤ → Bool → Type 0
  SpellsFlag next old to new behind opening last id value =
      (up : List Slot) → SpellsTwice next old to new behind opening (slots.Fields last ∷ up) (field id kinds.Bool) (bool_value value)

  -- the end of a struct that is the innermost of so many levels is written
  abbrev pub SpellsStop : List ℕ → ℕ → List ℕ → ℕ → Opening → ℕ → Type 0
  SpellsStop old to new behind opening depth =
      (last : ℤ) (up : List Slot) (mark : Mark) → length up + 1 ≡ depth → Spells old to new behind opening (slots.Fields last ∷ up) mark stop

  -- A string that is called for there is written. Where that depends on its position, this hint is what the position says.
  abbrev pub SpellsText : Bool → Hint → List ℕ → ℕ → List ℕ → ℕ → Stand → List ℕ → Type 0
  SpellsText hinted hint old to new behind stand bytes =
      (opening : Opening) (nest : List Slot) (mark : Mark) → (hinted ≡ true → mark.hint ≡ hint)
      → Calls stand kinds.Str opening nest → Spells old to new behind opening nest mark (text bytes)

  -- the beginning of a list or set is written
  abbrev pub SpellsElements : List ℕ → ℕ → List ℕ → ℕ → Stand → Container → Kind → ℕ → Type 0
  SpellsElements old to new behind stand container kind size = SpellsValue old to new behind stand (container_kind container) (elements_item container kind size)

  -- An empty map is written. Where that depends on its position, this mark is what is known of the position.
  abbrev pub SpellsNoPairs : Bool → Mark → List ℕ → ℕ → List ℕ → ℕ → Stand → Type 0
  SpellsNoPairs marked known old to new behind stand =
      (opening : Opening) (nest : List Slot) (mark : Mark) → (marked ≡ true → mark ≡ known)
      → Calls stand kinds.Map opening nest → Spells old to new behind opening nest mark empty_map

  -- the end of a container is written
  abbrev pub SpellsEnd : List ℕ → ℕ → List ℕ → ℕ → Container → Type 0
  SpellsEnd old to new behind container = (opening : Opening) (nest : List Slot) (mark : Mark) → IsDone container nest → Spells old to new behind opening nest mark end
