-- The course of a value: the names in it that stand for constants, in order, up to the first thing that is refused.
use Rattle.std.specs.Prelude.{ℕ, List, [], ◌∷◌, Result, Ok, Err}
use Rattle.idl_document.specs.Item.{ValueItem, whole, double, literal, named, list_begin, list_end, map_begin, map_end}
use Rattle.idl_names.specs.declared.documents.Spot.{Spot}
use Rattle.idl_names.specs.Files.{FileTree}
use Rattle.idl_consts.specs.declared.fitting.Answer.{Answer}
use Rattle.idl_consts.specs.declared.fitting.Answer.TheVariants as answers
use Rattle.idl_consts.specs.declared.row.ConstRow.{ConstRow}
use Rattle.idl_consts.specs.declared.row.ConstRow.TheVariants as rows
use Rattle.idl_consts.specs.Fitting.{whole_answer, double_answer, literal_answer, named_answer}
use Rattle.idl_consts.specs.Keys.{key_answer}
use Rattle.idl_consts.specs.Meant.{Meant, structure, mapping, sequence}

-- a name stands at its offset for a constant, where a value of a type is asked for
pub data Course : Type 0 where
  ends : Course
  fails : ℕ → ConstRow → Course
  stands : ℕ → Spot → Meant → Course → Course

-- what is asked for next in an open value
pub data Context : Type 0 where
  elements : Meant → Context
  keys : Meant → Meant → Context
  values : Meant → Meant → Context
  names : Spot → Context
  field_value : Spot → Meant → Context

-- an item is refused, or stands for a constant, or fits; and what is open behind it
pub data Move : Type 0 where
  refused_at : ℕ → ConstRow → Move
  stands_at : ℕ → Spot → Meant → List Context → Move
  goes : List Context → Move

abbrev pub answered : Answer → ℕ → Meant → List Context → Move
answered answers.Fits at m next = goes next
answered (answers.Refused row) at m next = refused_at at row
answered (answers.StandsFor spot) at m next = stands_at at spot m next

abbrev pub opened_list : Meant → ℕ → List Context → Move
opened_list (sequence element) at next = goes (elements element ∷ next)
opened_list m at next = refused_at at rows.WrongForm

abbrev pub opened_map : Meant → ℕ → List Context → Move
opened_map (mapping key value) at next = goes (keys key value ∷ next)
opened_map (structure s) at next = goes (names s ∷ next)
opened_map m at next = refused_at at rows.WrongForm

-- the first item of a value of this type, behind which `next` is open
abbrev pub value_move : List FileTree → ℕ → Meant → List Context → ValueItem → Move
value_move d file m next (whole at z) = answered (whole_answer m z) at m next
value_move d file m next (double at text) = answered (double_answer m) at m next
value_move d file m next (literal at text) = answered (literal_answer m text) at m next
value_move d file m next (named at word) = answered (named_answer d file m word) at m next
value_move d file m next (list_begin at) = opened_list m at next
value_move d file m next (map_begin at) = opened_map m at next
value_move d file m next item = goes next

abbrev pub offset_of : ValueItem → ℕ
offset_of (whole at z) = at
offset_of (double at text) = at
offset_of (literal at text) = at
offset_of (named at word) = at
offset_of (list_begin at) = at
offset_of (map_begin at) = at
offset_of item = 0

-- the key of a struct's field, behind which the field's value is asked for
abbrev pub key_move : Result Meant ConstRow → ℕ → Spot → List Context → Move
key_move (Ok m) at s up = goes (field_value s m ∷ up)
key_move (Err row) at s up = refused_at at row

-- an item that ends nothing
abbrev pub inner_move : List FileTree → ℕ → Context → List Context → ValueItem → Move
inner_move d file (elements m) up item = value_move d file m (elements m ∷ up) item
inner_move d file (keys key value) up item = value_move d file key (values key value ∷ up) item
inner_move d file (values key value) up item = value_move d file value (keys key value ∷ up) item
inner_move d file (names s) up item = key_move (key_answer d file s item) (offset_of item) s up
inner_move d file (field_value s m) up item = value_move d file m (names s ∷ up) item

abbrev pub item_move : List FileTree → ℕ → Context → List Context → ValueItem → Move
item_move d file c up list_end = goes up
item_move d file c up map_end = goes up
item_move d file c up item = inner_move d file c up item

abbrev pub move : List FileTree → ℕ → List Context → ValueItem → Move
move d file [] item = goes []
move d file (c ∷ up) item = item_move d file c up item

abbrev pub moved : Move → (List Context → Course) → Course
moved (refused_at at row) go = fails at row
moved (stands_at at spot m next) go = stands at spot m (go next)
moved (goes next) go = go next

-- the course of the items that are left, where this is open
abbrev pub course_from : List FileTree → ℕ → List Context → List ValueItem → Course
course_from d file open_now [] = ends
course_from d file open_now (item ∷ items) = moved (move d file open_now item) (λ next. course_from d file next items)

-- the course of a value that is written in a file, where this type is asked for
unfoldable pub course : List FileTree → ℕ → Meant → List ValueItem → Course
course d file m items = course_from d file (elements m ∷ []) items
