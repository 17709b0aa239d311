-- What is found of a frame: that its message meets what is declared of it, the first breach with its path, or the fault that stands in the
-- frame, which goes before every breach.
use Rattle.std.specs.Prelude.{◌≡◌, ⊤, ℕ, List, [], ◌∷◌, Option, Some, None, Result, Ok, Err}
use Rattle.thrift_value.specs.Items.{Item}
use Rattle.type_tables.specs.declared.declared.ServiceId.{ServiceId}
use Rattle.type_tables.specs.declared.declared.StructId.{StructId}
use Rattle.type_tables.specs.Declarations.{Declarations}
use Rattle.type_walk.specs.Positions.{Position, start}
use Rattle.type_walk.specs.Positions as positions
use Rattle.protocol_traits.specs.declared.fault.Fault.{Fault}
use Rattle.protocol_traits.specs.Heads.{Header}
use Rattle.protocol_traits.specs.Steps.{Step as ReadStep}
use Rattle.protocol_traits.specs.declared.traits.ReadRules.{Ghosts as ReadRules}
use Rattle.translate_verdicts.specs.declared.route.Route.TheVariants.{ByName}
use Rattle.translate_verdicts.specs.Positions.{typed}
use Rattle.translate_verdicts.specs.Routes.{body_of}
use Rattle.translate_verdicts.specs.Body.{Source, TargetRules, Ended, going, whole, source_in}
use Rattle.conform_check.specs.declared.step.Step.{Step}
use Rattle.conform_check.specs.declared.breach.Breach.{Breach}
use Rattle.conform_check.specs.declared.breach.Breach.TheVariants as breaches
use Rattle.conform_check.specs.declared.breach.Found.{Found}
use Rattle.conform_check.specs.declared.breach.Checked.{Checked}
use Rattle.conform_check.specs.declared.breach.Checked.TheVariants as checked
use Rattle.conform_check.specs.Inside.{Inside, in_fields, inside_after, outer, path_to}
use Rattle.conform_check.specs.Breaches.{found_in}

-- a breach and the path to where it stands, the outermost step first
pub record Broken : Type 0 where
  pub breach : Breach
  pub path : List Step

abbrev pub broken : Breach → List Step → Broken
broken breach path = record { breach = breach; path = path }

abbrev pub last_steps : Option Step → List Step
last_steps None = []
last_steps (Some step) = step ∷ []

-- what was found in the innermost of these levels, with its path
abbrev pub placed : List Inside → Option Found → Option Broken
placed open_levels None = None
placed open_levels (Some f) = Some (broken f.breach (path_to (outer open_levels) (last_steps f.last)))

-- what stands against an item at this position
abbrev pub against : Position → List Inside → Item → Option Broken
against position open_levels item = placed open_levels (found_in position open_levels item)

-- only the first breach counts
abbrev pub first_broken : Option Broken → Option Broken → Option Broken
first_broken (Some first) next = Some first
first_broken None next = next

-- the position in a body, what is open there, and the first breach so far
pub record Checking : Type 0 where
  pub position : Position
  pub open_levels : List Inside
  pub first : Option Broken

abbrev pub checking : Position → List Inside → Option Broken → Checking
checking position open_levels first = record { position = position; open_levels = open_levels; first = first }

abbrev pub checked_item : Checking → Item → Checking
checked_item c item = checking (positions.after c.position item) (inside_after item c.open_levels) (first_broken c.first (against c.position c.open_levels item))

-- a target that writes nothing, and checks each item
abbrev pub check_target : Checking → TargetRules Checking
check_target begun = record {
  begun = begun;
  name_bar = λ name. None;
  plain_head = λ header. [];
  bar = λ item mark. None;
  plain = λ c item mark. [];
  after = λ c item mark. checked_item c item;
}

-- a message whose body isn't declared breaks at once
abbrev pub undeclared : Option StructId → Option Broken
undeclared None = Some (broken breaches.UnknownMethod [])
undeclared (Some s) = None

-- at the beginning of a body of this struct
abbrev pub begun : Declarations → Option StructId → Checking
begun d body = checking (start d body) (in_fields ∷ []) (undeclared body)

-- what was found of a frame
pub data Finding : Type 0 where
  Meets : Finding
  Breaks : Broken → Finding
  Refused : Fault → Finding
  Unread : Fault → Finding

abbrev pub found : Option Broken → Finding
found None = Meets
found (Some first) = Breaks first

abbrev pub at_end : {S : Type 0} → Option Broken → ReadStep S (Unit {0}) → Finding
at_end first (Ok x) = found first
at_end first (Err f) = Refused f

module _ {S : Type 0} (source : Source S) where
  abbrev pub after_body : Ended S Position Checking → Finding
  after_body (Ok g) = at_end g.writer.first (source.reads_end g.reader)
  after_body (Err f) = Refused f

  -- a body from its beginning on
  abbrev pub body_from : S → Checking → Ended S Position Checking
  body_from s c = whole source typed (check_target c) (going s c.position c 1 None [])

  abbrev pub after_head : Declarations → Option ServiceId → ReadStep S Header → Finding
  after_head d service (Ok x) = after_body (body_from x.1 (begun d (body_of d (ByName service) x.0)))
  after_head d service (Err f) = Unread f

  -- the frame's header, its items to the end of the body, and its end; names without a service before them are those of this service
  unfoldable pub checked_by : Declarations → Option ServiceId → List ℕ → Finding
  checked_by d service frame = after_head d service (source.reads_head (source.begun frame))

-- the declarations by which messages are checked, and the path of the last breach
pub record Checker : Type 0 where
  pub schema : Declarations
  pub path : List Step

-- the code's answer, and the path beside it
abbrev pub IsChecked : Checked → List Step → Finding → Type 0
IsChecked checked.Meets path Meets = path ≡ []
IsChecked (checked.Broken breach) path (Breaks first) = first ≡ broken breach path
IsChecked (checked.Refused f) path (Refused g) = (f ≡ g) × (path ≡ [])
IsChecked (checked.Unread f) path (Unread g) = (f ≡ g) × (path ≡ [])
IsChecked answer path finding = ⊥

-- the first breach as the code keeps it: the path lies apart
abbrev pub kept_broken : Option Breach → List Step → Option Broken
kept_broken None path = None
kept_broken (Some breach) path = Some (broken breach path)

-- what the loop over a body answered, with the reader and the path as they are then
abbrev pub IsLooked : {S : Type 0} → Result (Option Breach) Fault → S → List Step → Ended S Position Checking → Type 0
IsLooked (Ok first) reader path (Ok g) = (g.reader ≡ reader) × (g.writer.first ≡ kept_broken first path)
IsLooked (Ok first) reader path (Err g) = ⊥
IsLooked (Err f) reader path end = end ≡ Err f

-- the same as IsChecked, but for the path where a fault was met
abbrev pub IsFoundOf : Checked → List Step → Finding → Type 0
IsFoundOf checked.Meets path Meets = ⊤
IsFoundOf (checked.Broken breach) path (Breaks first) = first ≡ broken breach path
IsFoundOf (checked.Refused f) path (Refused g) = f ≡ g
IsFoundOf answer path finding = ⊥

-- ---- the same by the rules of any reader

-- of a frame
abbrev pub ChecksFrame : {S : Type 0} → ReadRules S → Declarations → Option ServiceId → List ℕ → Checked → List Step → Type 0
ChecksFrame rules d service frame answer path = IsChecked answer path (checked_by (source_in rules) d service frame)

-- of a body of this struct that begins where the reader stands, and of the end behind it
abbrev pub ChecksBody : {S : Type 0} → ReadRules S → Declarations → Option StructId → S → Checked → List Step → Type 0
ChecksBody rules d body reader answer path = IsFoundOf answer path (after_body (source_in rules) (body_from (source_in rules) reader (begun d body)))

-- of the body alone, behind which the reader stands then
abbrev pub LooksThrough : {S : Type 0} → ReadRules S → Declarations → Option StructId → S → Result (Option Breach) Fault → S → List Step → Type 0
LooksThrough rules d body reader answer behind path = IsLooked answer behind path (body_from (source_in rules) reader (begun d body))
