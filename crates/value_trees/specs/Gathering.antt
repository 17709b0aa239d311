-- A body gathered event by event: the structs and containers that are open, the innermost first.
use Rattle.std.specs.Prelude.{◌≡◌, ⊤, ℕ, ◌+◌, ◌-◌, ◌<◌, ◌≤◌, ◌^◌, Bool, false, ◌&&◌, Option, Some, None, List, [], ◌∷◌, length, take, nat_lt, nat_eq, if◌then◌else◌}
use Rattle.thrift_value.specs.declared.kind.Kind.{Kind}
use Rattle.thrift_value.specs.declared.kind.Kind.TheVariants as kinds
use Rattle.value_trees.specs.declared.value.Value.{Value}
use Rattle.value_trees.specs.declared.value.Value.TheVariants as values
use Rattle.value_trees.specs.declared.level.Level.{Level}
use Rattle.value_trees.specs.declared.level.Level.TheVariants as levels
use Rattle.value_trees.specs.declared.level.Start.{Start}
use Rattle.value_trees.specs.declared.level.Start.TheVariants as starts
use Rattle.value_trees.specs.declared.level.LevelChange.{LevelChange}
use Rattle.value_trees.specs.declared.level.LevelChange.TheVariants as turns
use Rattle.thrift_value.specs.Items.{Item, field, stop, bool_value, i8_value, i16_value, i32_value, i64_value, double_value, text, number_text, unknown_text, struct_begin, empty_map, map_begin, set_begin, list_begin, end, uuid_value}
use Rattle.thrift_value.specs.Kinds.{same_kind}
use Rattle.thrift_value.specs.Trees.{Members, no_members, no_trees, no_pairs, kind_of}
use Rattle.value_trees.specs.Views.{tree_of, then_member, then_tree, then_pair}

-- a level calls for a value of this kind
abbrev pub wants : Level → Kind → Bool
wants (levels.Fields fields) kind = false
wants (levels.Named fields id wanted) kind = same_kind wanted kind
wants (levels.Set wanted left items) kind = nat_lt 0 left && same_kind wanted kind
wants (levels.List wanted left items) kind = nat_lt 0 left && same_kind wanted kind
wants (levels.Map key value left pairs) kind = nat_lt 0 left && same_kind key kind
wants (levels.Keyed key value left pairs k) kind = same_kind value kind

-- the level with the value that it called for
abbrev pub put : Level → Value → Level
put (levels.Fields fields) v = levels.Fields fields
put (levels.Named fields id kind) v = levels.Fields (then_member fields (record { id = id; value = v }))
put (levels.Set kind left items) v = levels.Set kind (left - 1) (then_tree items (tree_of v))
put (levels.List kind left items) v = levels.List kind (left - 1) (then_tree items (tree_of v))
put (levels.Map key value left pairs) v = levels.Keyed key value (left - 1) pairs v
put (levels.Keyed key value left pairs k) v = levels.Map key value left (then_pair pairs (k, v))

-- what an event that begins no value does to a level: it names a struct's next field, or ends a struct or a container that has
-- all that was announced
abbrev pub turn_of : Level → Item → LevelChange
turn_of (levels.Fields fields) (field id kind) = turns.Named (levels.Named fields id kind)
turn_of (levels.Fields fields) stop = turns.Closed (values.Struct fields)
turn_of (levels.Set kind left items) end = if nat_eq left 0 then turns.Closed (values.Set kind items) else turns.Neither
turn_of (levels.List kind left items) end = if nat_eq left 0 then turns.Closed (values.List kind items) else turns.Neither
turn_of (levels.Map key value left pairs) end = if nat_eq left 0 then turns.Closed (values.Map key value pairs) else turns.Neither
turn_of _ _ = turns.Neither

-- what an event begins: a value that is whole at once, or a struct or container with the kind that it has
abbrev pub start_of : Item → Start
start_of (bool_value b) = starts.Whole (values.Bool b)
start_of (i8_value n) = starts.Whole (values.I8 n)
start_of (i16_value n) = starts.Whole (values.I16 n)
start_of (i32_value n) = starts.Whole (values.I32 n)
start_of (i64_value n) = starts.Whole (values.I64 n)
start_of (double_value bytes) = starts.Whole (values.Double bytes)
start_of (text bytes) = if nat_lt (length bytes) (2 ^ 31) then starts.Whole (values.Str bytes) else starts.Nothing
start_of (number_text bytes) = starts.Whole (values.NumberText bytes)
start_of (unknown_text bytes) = if nat_lt (length bytes) (2 ^ 31) then starts.Whole (values.UnknownText bytes) else starts.Nothing
start_of struct_begin = starts.Opens kinds.Struct (levels.Fields no_members)
start_of empty_map = starts.Whole values.EmptyMap
start_of (map_begin key value size) = if nat_lt 0 size && nat_lt size (2 ^ 31) then starts.Opens kinds.Map (levels.Map key value size no_pairs) else starts.Nothing
start_of (set_begin kind size) = if nat_lt size (2 ^ 31) then starts.Opens kinds.Set (levels.Set kind size no_trees) else starts.Nothing
start_of (list_begin kind size) = if nat_lt size (2 ^ 31) then starts.Opens kinds.List (levels.List kind size no_trees) else starts.Nothing
start_of (uuid_value bytes) = starts.Whole (values.Uuid bytes)
start_of _ = starts.Nothing

-- how far the events have come: what is open, the innermost first; the whole body; or no body begins so
pub data Stand : Type 0 where
  going : List Level → Stand
  over : Members → Stand
  refused : Stand

-- a whole value put where it belongs
abbrev pub settled : Value → List Level → Stand
settled (values.Struct fields) [] = over fields
settled _ [] = refused
settled v (l ∷ ls) = if wants l (kind_of (tree_of v)) then going (put l v ∷ ls) else refused

abbrev pub turned : LevelChange → List Level → Stand
turned (turns.Named l) ls = going (l ∷ ls)
turned (turns.Closed v) ls = settled v ls
turned turns.Neither ls = refused

abbrev pub started : Start → Item → Level → List Level → Stand
started (starts.Whole v) item l ls = settled v (l ∷ ls)
started (starts.Opens kind new) item l ls = if wants l kind then going (new ∷ l ∷ ls) else refused
started starts.Nothing item l ls = turned (turn_of l item) ls

-- one more event
abbrev pub step : List Level → Item → Stand
step [] item = refused
step (l ∷ ls) item = started (start_of item) item l ls

-- after the whole body no event may follow
abbrev pub onward : Stand → Item → Stand
onward (going ls) item = step ls item
onward (over fields) item = refused
onward refused item = refused

abbrev pub run : Stand → List Item → Stand
run s [] = s
run s (item ∷ items) = run (onward s item) items

abbrev pub at_first : Stand
at_first = going (levels.Fields no_members ∷ [])

abbrev pub IsRefused : Stand → Type 0
IsRefused refused = ⊤
IsRefused _ = ⊥

abbrev pub body_at : Stand → Option Members
body_at (over fields) = Some fields
body_at _ = None

-- the events before this place begin a body's events, and those up to and with it don't; where all of them begin one, but are no
-- body's, the place is their number
pub record StopsAt (items : List Item) (place : ℕ) : Type 0 where
  pub front : IsRefused (run at_first (take place items)) → ⊥
  pub within : place ≤ length items
  pub broken : place < length items → IsRefused (run at_first (take (place + 1) items))
  pub short : place ≡ length items → body_at (run at_first items) ≡ None
