-- The quick way through a body: what is taken from one place of a frame to another, and how the cells grow by it.
use Rattle.std.specs.Prelude.{◌≡◌, ℕ, ℤ, ◌+◌, ◌*◌, ◌≤◌, List, [], Bool, true, ◌∷◌, ◌++◌, length, pos, Option, Some, None, IfSome, Ok}
use Rattle.thrift_value.specs.declared.kind.Kind.{Kind}
use Rattle.thrift_value.specs.declared.kind.Kind.TheVariants as kinds
use Rattle.protocol_traits.specs.declared.forms.Container.{Container}
use Rattle.protocol_traits.specs.declared.forms.Container.TheVariants as containers
use Rattle.protocol_traits.specs.declared.traits.ReadRules.{Ghosts as ReadRules}
use Rattle.protocol_traits.specs.declared.traits.WireWrite.{Ghosts as WriteRules}
use Rattle.protocol_traits.specs.declared.forms.Lead.{Lead}
use Rattle.protocol_traits.specs.declared.forms.Opening.{Opening}
use Rattle.protocol_traits.specs.declared.forms.Opening.TheVariants as openings
use Rattle.protocol_traits.specs.declared.forms.Pairs.{Pairs}
use Rattle.protocol_traits.specs.declared.forms.Stand.{Stand}
use Rattle.protocol_traits.specs.declared.nest.Slot.{Slot}
use Rattle.protocol_traits.specs.declared.nest.Slot.TheVariants as slots
use Rattle.protocol_traits.specs.Follow.{spent}
use Rattle.protocol_traits.specs.declared.proto.Head.{Head}
use Rattle.protocol_traits.specs.Heads.{Header, header_of}
use Rattle.protocol_traits.specs.Steps.{told}
use Rattle.protocol_traits.specs.declared.proto.Hint.{Hint}
use Rattle.protocol_traits.specs.Forms.{Appends, Calls, Steps, lead_item}
use Rattle.thrift_value.specs.Items.{Item, field}
use Rattle.type_tables.specs.declared.declared.StructId.{StructId}
use Rattle.type_tables.specs.declared.declared.Ty.{Ty}
use Rattle.type_tables.specs.declared.declared.Ty.TheVariants as types
use Rattle.type_tables.specs.Declarations.{Declarations}
use Rattle.type_walk.specs.declared.levels.Level.{Level}
use Rattle.type_walk.specs.declared.levels.Level.TheVariants as levels
use Rattle.type_walk.specs.Positions.{Position, called_for, hint_at, in_list, in_set, in_struct, passed, standing, start}
use Rattle.translate_verdicts.specs.Positions.{typed}
use Rattle.translate_verdicts.specs.Body.{Source, TargetRules, Ended, going, whole, source_in, target_in}
use Rattle.translate_known.specs.declared.reach.Reach.{Reach}

-- where a body stands: the place in the frame, what was read of the innermost level, the open levels, and the position
pub record Spot : Type 0 where
  pub at : ℕ
  pub opening : Opening
  pub nest : List Slot
  pub position : Position

abbrev pub spot : ℕ → Opening → List Slot → Position → Spot
spot at opening nest position = record { at = at; opening = opening; nest = nest; position = position }

-- the position of a value of this type in these levels
abbrev pub called : Declarations → List Level → Ty → Position
called d outer ty = record { schema = d; levels = outer; next = ty }

-- what a list or set of a declared type is inside
abbrev pub in_elements : Declarations → Container → Ty → Kind → Level
in_elements d containers.Set ty kind = in_set d ty kind
in_elements d container ty kind = in_list d ty kind

-- what the level of a map is between a key and its value
abbrev pub turned : Level → Level
turned (levels.Keys key value) = levels.Values key value
turned level = level

-- the type of a body of this struct, if any
abbrev pub body_type : Option StructId → Ty
body_type None = types.Unknown
body_type (Some s) = types.Struct s

-- a value within leaves the level as it was
abbrev pub IsFlat : Level → Type 0
IsFlat level = (outer : List Level) → passed (level ∷ outer) ≡ level ∷ outer

-- a key turns the level, and its value turns it back
abbrev pub Turns : Level → Type 0
Turns level = (outer : List Level) → (passed (level ∷ outer) ≡ turned level ∷ outer) × (passed (turned level ∷ outer) ≡ level ∷ outer)

-- what is known says what reading and writing depend on
abbrev pub Informs : Bool → Bool → Bool → Type 0
Informs tells reads_hinted writes_hinted = (reads_hinted ≡ true → tells ≡ true) × (writes_hinted ≡ true → tells ≡ true)

-- there are 24 cells for each byte that is left of the frame, and so many more
abbrev pub HasRoom : ℕ → List ℕ → ℕ → List ℕ → ℕ → Type 0
HasRoom more frame at cells to = to + (24 * length frame + more) ≤ length cells + 24 * at

-- each byte that was read gave at most so many
abbrev pub Grows : ℕ → ℕ → ℕ → ℕ → Type 0
Grows from into read written = written + 24 * from ≤ into + 24 * read

module _ {S T : Type 0} (source : Source S) (target : TargetRules T) (reader_at : S → List ℕ → ℕ → Opening → List Slot → Type 0) (writer_at : T → Opening → List Slot → Type 0) where
  -- what becomes of the rest of a body from here on, behind what was written
  abbrev pub rest_from : Spot → S → T → List ℕ → Ended S Position T
  rest_from here s t written = whole source typed target (going s here.position t (length here.nest) None written)

  -- From each reader and writer that stand at the first spot the body leads to the second, and what it wrote on the way
  -- stands in the cells.
  abbrev pub Takes : List ℕ → Spot → Spot → List ℕ → ℕ → List ℕ → ℕ → Type 0
  Takes frame a b old to new behind =
      (s : S) (t : T) → reader_at s frame a.at a.opening a.nest → writer_at t a.opening a.nest
      → (read : S) × (wrote : T) × (text : List ℕ) × reader_at read frame b.at b.opening b.nest × writer_at wrote b.opening b.nest
      × Appends old to new behind text × ((written : List ℕ) → rest_from a s t written ≡ rest_from b read wrote (written ++ text))

  -- a value of this type is taken whole, where it is called for inside so many levels
  abbrev pub TakesValue : Declarations → Ty → ℕ → List ℕ → ℕ → Stand → Kind → List ℕ → ℕ → List ℕ → ℕ → ℕ → Type 0
  TakesValue d ty depth frame at stand kind old to new read written =
      (opening : Opening) (nest : List Slot) (outer : List Level) → Calls stand kind opening nest → length nest ≡ depth
      → Takes frame (spot at opening nest (called d outer ty)) (spot read openings.Old (spent nest) (standing d (passed outer))) old to new written

  -- behind this item, which a field's lead tells, the field is taken whole, where its struct is the innermost of so many levels
  abbrev pub TakesField : Declarations → Ty → ℕ → List ℕ → ℕ → Opening → ℤ → Item → ℤ → ℕ → List ℕ → ℕ → List ℕ → ℕ → ℕ → Type 0
  TakesField d ty depth frame at opening last lead id behind old to new read written =
      (up : List Slot) (outer : List Level) → length up + 1 ≡ depth
      → ((hint : Hint) → Steps source.reads reader_at frame at opening (slots.Fields last ∷ up) hint lead behind)
      → Takes frame (spot at opening (slots.Fields last ∷ up) (standing d (in_struct ty ∷ outer))) (spot read openings.Old (slots.Fields id ∷ up) (standing d (in_struct ty ∷ outer))) old to new written

  -- so many elements of a list or set are taken, and its end is not, where it is the innermost of so many levels
  abbrev pub TakesRun : Declarations → Level → ℕ → List ℕ → ℕ → Kind → ℕ → List ℕ → ℕ → List ℕ → ℕ → ℕ → Type 0
  TakesRun d level depth frame at kind size old to new read written =
      (opening : Opening) (up : List Slot) (outer : List Level) → length up + 1 ≡ depth
      → (now : Opening) × Takes frame (spot at opening (slots.Elements kind size ∷ up) (standing d (level ∷ outer))) (spot read now (slots.Elements kind 0 ∷ up) (standing d (level ∷ outer))) old to new written

  -- the elements of a list or set are taken to its end, where it is the innermost of so many levels
  abbrev pub TakesElements : Declarations → Level → ℕ → List ℕ → ℕ → Kind → ℕ → List ℕ → ℕ → List ℕ → ℕ → ℕ → Type 0
  TakesElements d level depth frame at kind size old to new read written =
      (opening : Opening) (up : List Slot) (outer : List Level) → length up + 1 ≡ depth
      → Takes frame (spot at opening (slots.Elements kind size ∷ up) (standing d (level ∷ outer))) (spot read openings.Old up (standing d outer)) old to new written

  -- the pairs of a map are taken to its end
  abbrev pub TakesPairs : Declarations → Level → ℕ → List ℕ → ℕ → Kind → Kind → ℕ → List ℕ → ℕ → List ℕ → ℕ → ℕ → Type 0
  TakesPairs d level depth frame at key value size old to new read written =
      (up : List Slot) (outer : List Level) → length up + 1 ≡ depth
      → Takes frame (spot at openings.New (slots.Keys key value size ∷ up) (standing d (level ∷ outer))) (spot read openings.Old up (standing d outer)) old to new written

  -- the fields of a struct of this type are taken to its end, where it is the innermost of so many levels
  abbrev pub TakesFields : Declarations → Ty → ℕ → List ℕ → ℕ → Opening → List ℕ → ℕ → List ℕ → ℕ → ℕ → Type 0
  TakesFields d ty depth frame at opening old to new read written =
      (up : List Slot) (outer : List Level) → length up + 1 ≡ depth
      → Takes frame (spot at opening (slots.Fields (pos 0) ∷ up) (standing d (in_struct ty ∷ outer))) (spot read openings.Old up (standing d outer)) old to new written

module _ {S T : Type 0} (source : Source S) (target : TargetRules T) where
  -- The body from here on passes whole, with the end of the message behind it, and these are its bytes.
  abbrev pub Passes : S → Position → List ℕ → List ℕ → Type 0
  Passes s position old new =
      (read : S) × (wrote : T) × (behind : Position) × (added : List ℕ) × (whole source typed target (going s position target.begun 1 None []) ≡ Ok (going read behind wrote 0 None added))
      × (told (source.reads_end read) ≡ Ok tt) × (new ≡ old ++ added)

-- ---- What the code took, if it took anything, by the rules of any reader and any writer. Each word has first what is known, then
-- where that stood in the frame, then the cells before, the place in them, and the cells after.

-- the places that were reached, where the one in the cells is told apart
abbrev pub reached : Option ℕ → ℕ → Option Reach
reached None written = None
reached (Some read) written = Some (record { read = read; written = written })

module _ {S T : Type 0} (reads : ReadRules S) (writes : WriteRules T) where
  -- a value that is no level and no string was taken: whatever is declared, and in however many levels
  abbrev pub TookLeaf : List ℕ → ℕ → Stand → Kind → List ℕ → ℕ → List ℕ → Option Reach → Type 0
  TookLeaf frame at stand kind old to new taken = IfSome taken (λ x. (d : Declarations) (ty : Ty) (depth : ℕ)
      → TakesValue (source_in reads) (target_in writes) reads.stands_at writes.stands_at d ty depth frame at stand kind old to new x.read x.written)

  -- a string was taken, of each type that tells this hint where reading or writing depends on that
  abbrev pub TookText : Bool → Bool → Hint → List ℕ → ℕ → Stand → List ℕ → ℕ → List ℕ → Option Reach → Type 0
  TookText reads_hinted writes_hinted hint frame at stand old to new taken = IfSome taken (λ x. (d : Declarations) (ty : Ty) (depth : ℕ)
      → (reads_hinted ≡ true → hint_at ty ≡ hint) → (writes_hinted ≡ true → hint_at ty ≡ hint)
      → TakesValue (source_in reads) (target_in writes) reads.stands_at writes.stands_at d ty depth frame at stand kinds.Str old to new x.read x.written)

  -- a field was taken whose value is no level and no string
  abbrev pub TookLeafField : List ℕ → ℕ → Opening → ℤ → Kind → ℤ → ℕ → List ℕ → ℕ → List ℕ → Option Reach → Type 0
  TookLeafField frame at opening last kind id behind old to new taken = IfSome taken (λ x. (d : Declarations) (ty : Ty) (depth : ℕ)
      → TakesField (source_in reads) (target_in writes) reads.stands_at writes.stands_at d ty depth frame at opening last (field id kind) id behind old to new x.read x.written)

  -- so many elements that are no levels and no strings were taken, and the end was not: whatever is declared, and in
  -- however many levels
  abbrev pub TookLeaves : List ℕ → ℕ → Kind → ℕ → List ℕ → ℕ → List ℕ → Option Reach → Type 0
  TookLeaves frame at kind size old to new taken = IfSome taken (λ x. (d : Declarations) (level : Level) (depth : ℕ) → IsFlat level
      → TakesRun (source_in reads) (target_in writes) reads.stands_at writes.stands_at d level depth frame at kind size old to new x.read x.written)

  -- so many strings were taken, in each level whose elements' type tells this hint where reading or writing depends on that
  abbrev pub TookTexts : Bool → Bool → Hint → List ℕ → ℕ → ℕ → List ℕ → ℕ → List ℕ → Option Reach → Type 0
  TookTexts reads_hinted writes_hinted hint frame at size old to new taken = IfSome taken (λ x. (d : Declarations) (level : Level) (depth : ℕ) → IsFlat level
      → (reads_hinted ≡ true → hint_at (called_for (Some level)) ≡ hint) → (writes_hinted ≡ true → hint_at (called_for (Some level)) ≡ hint)
      → TakesRun (source_in reads) (target_in writes) reads.stands_at writes.stands_at d level depth frame at kinds.Str size old to new x.read x.written)

  -- In each word from here on what is known of the value or of the struct means some types, of which it has one.
  module _ (means : Ty → Type 0) (d : Declarations) where
    -- a string field was taken
    abbrev pub TookTextField : List ℕ → ℕ → Opening → ℤ → ℤ → ℕ → List ℕ → ℕ → List ℕ → Option Reach → Type 0
    TookTextField frame at opening last id behind old to new taken = IfSome taken (λ x. (ty : Ty) (depth : ℕ) → means ty
        → TakesField (source_in reads) (target_in writes) reads.stands_at writes.stands_at d ty depth frame at opening last (field id kinds.Str) id behind old to new x.read x.written)

    -- a field was taken that this lead tells, and whose value is no level: in however many levels
    abbrev pub TookPlainField : List ℕ → ℕ → Opening → ℤ → Lead → ℤ → ℕ → List ℕ → ℕ → List ℕ → Option Reach → Type 0
    TookPlainField frame at opening last lead id behind old to new taken = IfSome taken (λ x. (ty : Ty) (depth : ℕ) → means ty
        → TakesField (source_in reads) (target_in writes) reads.stands_at writes.stands_at d ty depth frame at opening last (lead_item lead id) id behind old to new x.read x.written)

    -- a value was taken, inside so many levels
    abbrev pub TookValue : ℕ → List ℕ → ℕ → Stand → Kind → List ℕ → ℕ → List ℕ → Option Reach → Type 0
    TookValue depth frame at stand kind old to new taken = IfSome taken (λ x. (ty : Ty) → means ty
        → TakesValue (source_in reads) (target_in writes) reads.stands_at writes.stands_at d ty depth frame at stand kind old to new x.read x.written)

    -- a map was taken, where the place in the cells is told apart
    abbrev pub TookMap : ℕ → List ℕ → ℕ → Stand → List ℕ → ℕ → List ℕ → Option ℕ → ℕ → Type 0
    TookMap depth frame at stand old to new taken into =
        TookValue depth frame at stand kinds.Map old to new (reached taken into)

    -- a field was taken whose value has this kind
    abbrev pub TookField : ℕ → List ℕ → ℕ → Opening → ℤ → Kind → ℤ → ℕ → List ℕ → ℕ → List ℕ → Option Reach → Type 0
    TookField depth frame at opening last kind id behind old to new taken = IfSome taken (λ x. (ty : Ty) → means ty
        → TakesField (source_in reads) (target_in writes) reads.stands_at writes.stands_at d ty depth frame at opening last (field id kind) id behind old to new x.read x.written)

    -- a field was taken that this lead tells
    abbrev pub TookLead : ℕ → List ℕ → ℕ → Opening → ℤ → Lead → ℤ → ℕ → List ℕ → ℕ → List ℕ → Option Reach → Type 0
    TookLead depth frame at opening last lead id behind old to new taken = IfSome taken (λ x. (ty : Ty) → means ty
        → TakesField (source_in reads) (target_in writes) reads.stands_at writes.stands_at d ty depth frame at opening last (lead_item lead id) id behind old to new x.read x.written)

    -- the fields of a struct were taken to its end
    abbrev pub TookFields : ℕ → List ℕ → ℕ → Opening → List ℕ → ℕ → List ℕ → Option ℕ → ℕ → Type 0
    TookFields depth frame at opening old to new taken written = IfSome taken (λ read. (ty : Ty) → means ty
        → TakesFields (source_in reads) (target_in writes) reads.stands_at writes.stands_at d ty depth frame at opening old to new read written)

    -- so many elements of a list or set were taken, and its end was not
    abbrev pub TookRun : ℕ → List ℕ → ℕ → Kind → ℕ → List ℕ → ℕ → List ℕ → Option Reach → Type 0
    TookRun depth frame at kind size old to new taken = IfSome taken (λ x. (level : Level) → IsFlat level → means (called_for (Some level))
        → TakesRun (source_in reads) (target_in writes) reads.stands_at writes.stands_at d level depth frame at kind size old to new x.read x.written)

    -- the elements of a list or set were taken to its end
    abbrev pub TookElements : ℕ → List ℕ → ℕ → Kind → ℕ → List ℕ → ℕ → List ℕ → Option Reach → Type 0
    TookElements depth frame at kind size old to new taken = IfSome taken (λ x. (level : Level) → IsFlat level → means (called_for (Some level))
        → TakesElements (source_in reads) (target_in writes) reads.stands_at writes.stands_at d level depth frame at kind size old to new x.read x.written)

  -- the pairs of a map were taken to its end, whose keys and values may have these types
  abbrev pub TookPairs : (Ty → Type 0) → (Ty → Type 0) → Declarations → ℕ → List ℕ → Pairs → List ℕ → ℕ → List ℕ → Option Reach → Type 0
  TookPairs keys values d depth frame pairs old to new taken =
      IfSome taken (λ x. (level : Level) → Turns level → keys (called_for (Some level)) → values (called_for (Some (turned level)))
      → TakesPairs (source_in reads) (target_in writes) reads.stands_at writes.stands_at d level depth frame pairs.behind pairs.key pairs.value pairs.size old to new x.read x.written)

  -- From each reader that stands at the beginning of the body, at this place of the frame, the body passes whole.
  abbrev pub PassesBody : Declarations → Option StructId → List ℕ → ℕ → List ℕ → List ℕ → Type 0
  PassesBody d body frame at old new =
      (s : S) → reads.stands_at s frame at openings.Body (slots.Fields (pos 0) ∷ []) → Passes (source_in reads) (target_in writes) s (start d body) old new

  -- the same behind this header, which was written first
  abbrev pub PassesMessage : Declarations → Option StructId → Header → List ℕ → ℕ → List ℕ → List ℕ → Type 0
  PassesMessage d body header frame at old new = PassesBody d body frame at (old ++ writes.plain_head header) new

  -- the same for each struct that a body may be of which something is known
  module _ (means : Ty → Type 0) (d : Declarations) where
    abbrev pub PassedBody : List ℕ → ℕ → List ℕ → List ℕ → Type 0
    PassedBody frame at old new = (body : Option StructId) → means (body_type body) → PassesBody d body frame at old new

    abbrev pub PassedMessage : Head → List ℕ → ℕ → List ℕ → List ℕ → Type 0
    PassedMessage head frame at old new = (body : Option StructId) → means (body_type body) → PassesMessage d body (header_of head) frame at old new
