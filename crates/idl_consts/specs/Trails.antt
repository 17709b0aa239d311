-- The names that are being followed one from the other.
use Rattle.std.specs.Prelude.{◌≡◌, ◌⊎◌, ℕ, ◌+◌, ◌/◌, List, [], ◌∷◌, ◌++◌, length, drop, slice_get, Option, Some, None}
use Rattle.idl_names.specs.declared.documents.Spot.{Spot}
use Rattle.idl_names.specs.Files.{FileTree}
use Rattle.idl_consts.specs.declared.row.ConstRow.{ConstRow}
use Rattle.idl_consts.specs.declared.follow.Frame.{Frame}
use Rattle.idl_consts.specs.declared.survey.ConstRef.{ConstRef}
use Rattle.idl_consts.specs.declared.follow.Trail.{Trail}
use Rattle.idl_consts.specs.declared.follow.Upcoming.{Upcoming}
use Rattle.idl_consts.specs.declared.follow.Upcoming.TheVariants as upcoming
use Rattle.idl_consts.specs.Course.{Course, ends, fails, stands}
use Rattle.idl_consts.specs.Following.{IsFree, IsWrong, constant_course}
use Rattle.idl_consts.specs.Meant.{Meant, meant_at}
use Rattle.idl_consts.specs.Pieces.{chained, ending}
use Rattle.idl_consts.specs.Words.{IsSameRef}

-- of a course this is left, and through the names before it nothing is refused
abbrev pub IsPassed : List FileTree → Course → Course → Type 0
IsPassed d ends left = left ≡ ends
IsPassed d (fails at row) left = left ≡ fails at row
IsPassed d (stands at spot m rest) left = (left ≡ stands at spot m rest) ⊎ (IsFree d spot m × IsPassed d rest left)

-- what is left of a frame's value
abbrev pub left_of : List FileTree → Frame → Course
left_of d f = chained d (drop f.next f.survey.references.items) (ending f.survey.fault)

abbrev pub IsFrame : List FileTree → Frame → Type 0
IsFrame d f = IsPassed d (constant_course d f.constant (meant_at d f.ty)) (left_of d f)

-- a frame waits for a name in its value
abbrev pub IsWaiting : List FileTree → Frame → Spot → Meant → Type 0
IsWaiting d f spot m = (at : ℕ) × IsPassed d (constant_course d f.constant (meant_at d f.ty)) (stands at spot m (left_of d f))

-- frames, the outermost first, of which each waits for the next and the last for a name
abbrev pub Leads : List FileTree → Spot → Meant → List Frame → Spot → Meant → Type 0
Leads d s m [] t n = (s ≡ t) × (m ≡ n)
Leads d s m (f ∷ fs) t n =
    (s ≡ f.constant) × (m ≡ meant_at d f.ty) × ((x : Spot) × (y : Meant) × IsWaiting d f x y × Leads d x y fs t n)

-- the trail from a name
abbrev pub IsTrail : List FileTree → Spot → Meant → Trail → Type 0
IsTrail d s m trail = Leads d s m trail.outer.items (trail.top).constant (meant_at d (trail.top).ty) × IsFrame d trail.top

-- the name stands for the constant of one of these frames, where the same type is asked for
abbrev pub IsAmong : List FileTree → Spot → Meant → List Frame → Spot → Meant → Type 0
IsAmong d x y [] t n = (x ≡ t) × (y ≡ n)
IsAmong d x y (f ∷ fs) t n = ((x ≡ f.constant) × (y ≡ meant_at d f.ty)) ⊎ IsAmong d x y fs t n

-- the name stands for what a frame of the trail is of, where the same type is asked for
abbrev pub IsOnTrail : List FileTree → ConstRef → Trail → Type 0
IsOnTrail d name trail =
    IsAmong d name.constant (meant_at d name.ty) trail.outer.items (trail.top).constant (meant_at d (trail.top).ty)

-- the name stands for a frame's constant, and the type is asked for in the same words
abbrev pub IsOf : ConstRef → Frame → Type 0
IsOf name f = (name.constant ≡ f.constant) × IsSameRef name.ty f.ty

-- the name stands for what the frame half way up the trail is of, the last one counted in
abbrev pub IsHalfway : ConstRef → Trail → Type 0
IsHalfway name trail =
    (f : Frame) × (slice_get (trail.outer.items ++ trail.top ∷ []) ((length trail.outer.items + 1) / 2) ≡ Some f) × IsOf name f

-- what was taken from the front of what is left of a frame
abbrev pub IsNext : List FileTree → Frame → Upcoming → Frame → Type 0
IsNext d old (upcoming.Name name) new =
    (left_of d old ≡ stands name.at name.constant (meant_at d name.ty) (left_of d new)) × (new.constant ≡ old.constant) × (new.ty ≡ old.ty)
IsNext d old (upcoming.Fault at row) new = (left_of d old ≡ fails at row) × (new.constant ≡ old.constant) × (new.ty ≡ old.ty)
IsNext d old upcoming.Nothing new = (left_of d old ≡ ends) × (new.constant ≡ old.constant) × (new.ty ≡ old.ty)

-- something is refused through the last name of a trail
abbrev pub IsHalted : List FileTree → Spot → Meant → Trail → ConstRow → Type 0
IsHalted d s m trail row =
    Leads d s m trail.outer.items (trail.top).constant (meant_at d (trail.top).ty) × IsWrong d (trail.top).constant (meant_at d (trail.top).ty) row

-- the trail goes on, or nothing is refused through the name at its beginning, or something is refused at its end
abbrev pub GoesOn : List FileTree → Spot → Meant → Option (Option ConstRow) → Trail → Type 0
GoesOn d s m None new = IsTrail d s m new
GoesOn d s m (Some None) new = IsFree d s m
GoesOn d s m (Some (Some row)) new = IsHalted d s m new row

-- what a known row says of the trail
abbrev pub met : Option ConstRow → Option (Option ConstRow)
met None = None
met (Some row) = Some (Some row)

abbrev pub upcoming_fault : Option (ℕ × ConstRow) → Upcoming
upcoming_fault None = upcoming.Nothing
upcoming_fault (Some fault) = upcoming.Fault fault.0 fault.1

-- the innermost value waits for this name
abbrev pub IsFollowing : List FileTree → Spot → Meant → Trail → ConstRef → Type 0
IsFollowing d s m trail name =
    Leads d s m trail.outer.items (trail.top).constant (meant_at d (trail.top).ty) × IsWaiting d trail.top name.constant (meant_at d name.ty)

-- nothing is refused through the last name
abbrev pub IsLeaving : List FileTree → Spot → Meant → Trail → Type 0
IsLeaving d s m trail =
    Leads d s m trail.outer.items (trail.top).constant (meant_at d (trail.top).ty) × IsFree d (trail.top).constant (meant_at d (trail.top).ty)
