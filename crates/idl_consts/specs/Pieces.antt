-- What the code holds of a value and of its course.
use Rattle.std.specs.Prelude.{ℕ, List, [], ◌∷◌, map, reverse, Option, Some, None, Result, Ok, Err, ◌≡◌}
use Rattle.idl_document.specs.Item.{ValueItem, whole, double, literal, named, list_begin, list_end, map_begin, map_end}
use Rattle.idl_names.specs.Files.{FileTree}
use Rattle.idl_consts.specs.declared.pieces.Piece.{Piece}
use Rattle.idl_consts.specs.declared.pieces.Piece.TheVariants as pieces
use Rattle.idl_consts.specs.declared.row.ConstRow.{ConstRow}
use Rattle.idl_consts.specs.declared.survey.OpenValue.{OpenValue}
use Rattle.idl_consts.specs.declared.survey.OpenValue.TheVariants as opens
use Rattle.idl_consts.specs.declared.survey.ConstRef.{ConstRef}
use Rattle.idl_consts.specs.declared.survey.Survey.{Survey}
use Rattle.idl_consts.specs.declared.survey.SurveyStep.{SurveyStep}
use Rattle.idl_consts.specs.declared.survey.SurveyStep.TheVariants as turns
use Rattle.idl_consts.specs.declared.types.TypeRef.{TypeRef}
use Rattle.idl_consts.specs.Course.{Course, ends, fails, stands, Context, elements, keys, values, names, field_value, Move, refused_at, stands_at, goes, moved, course_from, value_move}
use Rattle.idl_consts.specs.Meant.{Meant, meant_at}

abbrev pub item_of : Piece → ValueItem
item_of (pieces.Whole at z) = whole at z
item_of (pieces.Double at text) = double at text.now
item_of (pieces.Literal at text) = literal at text.now
item_of (pieces.Named at word) = named at word.now
item_of (pieces.ListBegin at) = list_begin at
item_of pieces.ListEnd = list_end
item_of (pieces.MapBegin at) = map_begin at
item_of pieces.MapEnd = map_end

abbrev pub context_of : List FileTree → OpenValue → Context
context_of d (opens.Elements t) = elements (meant_at d t)
context_of d (opens.Keys key value) = keys (meant_at d key) (meant_at d value)
context_of d (opens.Values key value) = values (meant_at d key) (meant_at d value)
context_of d (opens.Names s) = names s
context_of d (opens.FieldValue s t) = field_value s (meant_at d t)

-- the innermost stands last
abbrev pub contexts : List FileTree → List OpenValue → List Context
contexts d all = reverse (map (context_of d) all)

abbrev pub move_of : List FileTree → List Context → SurveyStep → Move
move_of d up (turns.Fails at row) = refused_at at row
move_of d up (turns.Reference reference next) = stands_at reference.at reference.constant (meant_at d reference.ty) (context_of d next ∷ up)
move_of d up (turns.Goes next) = goes (context_of d next ∷ up)
move_of d up (turns.Opens outer inner) = goes (context_of d inner ∷ context_of d outer ∷ up)
move_of d up turns.Closes = goes up

abbrev pub chained : List FileTree → List ConstRef → Course → Course
chained d [] k = k
chained d (s ∷ ss) k = stands s.at s.constant (meant_at d s.ty) (chained d ss k)

abbrev pub ending : Option (ℕ × ConstRow) → Course
ending None = ends
ending (Some fault) = fails fault.0 fault.1

abbrev pub course_of : List FileTree → Survey → Course
course_of d s = chained d s.references.items (ending s.fault)

abbrev pub key_meant : List FileTree → Result TypeRef ConstRow → Result Meant ConstRow
key_meant d (Ok t) = Ok (meant_at d t)
key_meant d (Err row) = Err row

-- a turn was taken: the names before it and what was open, and the same behind it
abbrev pub Takes : List FileTree → SurveyStep → List ConstRef → List OpenValue → Option (ℕ × ConstRow) → List ConstRef → List OpenValue → Type 0
Takes d turn before stack None after left =
    (go : List Context → Course) → chained d before (moved (move_of d (contexts d stack) turn) go) ≡ chained d after (go (contexts d left))
Takes d turn before stack (Some fault) after left =
    (go : List Context → Course) → chained d before (moved (move_of d (contexts d stack) turn) go) ≡ chained d after (fails fault.0 fault.1)

-- these pieces were surveyed where so much is open: what is refused, or ends, stands behind the names before it and those after
abbrev pub Surveys : List FileTree → ℕ → List ConstRef → List OpenValue → List Piece → List ConstRef → Option (ℕ × ConstRow) → Type 0
Surveys d file before open_now pieces after fault =
    chained d after (ending fault) ≡ chained d before (course_from d file (contexts d open_now) (map item_of pieces))

-- the first piece of a value of this type, behind which `next` is open
abbrev pub piece_move : List FileTree → ℕ → TypeRef → OpenValue → List Context → Piece → Move
piece_move d file ty next up piece = value_move d file (meant_at d ty) (context_of d next ∷ up) (item_of piece)
