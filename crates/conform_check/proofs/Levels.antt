-- What is open fits what is declared, behind each event.
use Rattle.std.proofs.Common.{◌≡◌, ℤ, pos, suc, ◌<◌, List, [], ◌∷◌, ◌++◌, Bool, true, false, Option, Some, None, length, length-append, subst, refl, ap, sym, arith}
use Rattle.std.specs.Prelude.{is_some, not}
use Rattle.std.specs.List.{IsDistinct}
use Rattle.thrift_value.specs.declared.kind.Kind.{Kind}
use Rattle.thrift_value.specs.Items.{Item, field, stop, bool_value, i8_value, i16_value, i32_value, i64_value, double_value, text, number_text, unknown_text, struct_begin, empty_map, map_begin, set_begin, list_begin, end, uuid_value}
use Rattle.type_tables.specs.declared.declared.FieldInfo.{FieldInfo}
use Rattle.type_tables.specs.declared.declared.Ty.{Ty}
use Rattle.type_tables.specs.declared.declared.StructId.{StructId}
use Rattle.type_tables.specs.Declarations.{Declarations}
use Rattle.type_tables.specs.Fields.{field_in}
use Rattle.type_tables.specs.Kinds.{kind_of}
use Rattle.type_tables.specs.Structs.{fields_of, widest}
use Rattle.type_walk.specs.declared.levels.Level.{Level}
use Rattle.type_walk.specs.declared.levels.Level.TheVariants as levels
use Rattle.type_walk.specs.Stack.{first_of, rest_of}
use Rattle.type_walk.specs.Positions.{Position, after, has_kind, in_list, in_map, in_set, in_struct, passed, start, struct_in}
use Rattle.conform_check.specs.declared.step.Step.{Step}
use Rattle.conform_check.specs.declared.step.Step.TheVariants as steps
use Rattle.conform_check.specs.declared.breach.Breach.{Breach}
use Rattle.conform_check.specs.declared.breach.Breach.TheVariants as breaches
use Rattle.conform_check.specs.Inside.{Inside, advanced, announced, closed, in_fields, inside_after, opened, top_seen}
use Rattle.conform_check.specs.Breaches.{at, breach_unless, declared_for, field_breach, found_in, stood}
use Rattle.conform_check.specs.Fitting.{AreFitting, IsFitting}
use Rattle.conform_check.proofs.Ids.{few_ids, fields_more}
use Rattle.conform_check.proofs.Declared.{within_widest}

pub same_length : (d : Declarations) (known : List Level) (open_levels : List Inside) → AreFitting d known open_levels → length known ≡ length open_levels
same_length d [] [] fit = refl
same_length d (level ∷ known) (here ∷ up) fit = ap suc (same_length d known up fit.1)
same_length d [] (here ∷ up) fit = absurd fit
same_length d (level ∷ known) [] fit = absurd fit

nothing_fits : (d : Declarations) (level : Level) → IsFitting d level []
unfolding IsDistinct
nothing_fits d levels.Unknown = tt
nothing_fits d (levels.Fields s) = record { once = tt; declared = λ id e. absurd (cc) }
nothing_fits d (levels.Elements element) = tt
nothing_fits d (levels.Keys key value) = tt
nothing_fits d (levels.Values key value) = tt

-- one level more
pub fits_opened : (d : Declarations) (level : Level) (step : Step) (known : List Level) (open_levels : List Inside) → AreFitting d known open_levels → AreFitting d (level ∷ known) (opened step ∷ open_levels)
fits_opened d level step known open_levels fit = (nothing_fits d level, fit)

pub fits_passed : (d : Declarations) (known : List Level) (open_levels : List Inside) → AreFitting d known open_levels → AreFitting d (passed known) open_levels
fits_passed d [] open_levels fit = fit
fits_passed d (levels.Unknown ∷ known) open_levels fit = fit
fits_passed d (levels.Fields s ∷ known) open_levels fit = fit
fits_passed d (levels.Elements element ∷ known) open_levels fit = fit
fits_passed d (levels.Keys key value ∷ known) (here ∷ up) fit = fit
fits_passed d (levels.Keys key value ∷ known) [] fit = absurd fit
fits_passed d (levels.Values key value ∷ known) (here ∷ up) fit = fit
fits_passed d (levels.Values key value ∷ known) [] fit = absurd fit

pub fits_advanced : (d : Declarations) (known : List Level) (open_levels : List Inside) → AreFitting d known open_levels → AreFitting d known (advanced open_levels)
fits_advanced d [] [] fit = fit
fits_advanced d (level ∷ known) (here ∷ up) fit = fit
fits_advanced d [] (here ∷ up) fit = absurd fit
fits_advanced d (level ∷ known) [] fit = absurd fit

pub fits_value : (d : Declarations) (known : List Level) (open_levels : List Inside) → AreFitting d known open_levels → AreFitting d (passed known) (advanced open_levels)
fits_value d known open_levels fit = fits_advanced d (passed known) open_levels (fits_passed d known open_levels fit)

pub fits_closed : (d : Declarations) (known : List Level) (open_levels : List Inside) → AreFitting d known open_levels → AreFitting d (rest_of known) (closed open_levels)
fits_closed d [] [] fit = fit
fits_closed d (level ∷ known) (here ∷ up) fit = fits_advanced d known up fit.1
fits_closed d [] (here ∷ up) fit = absurd fit
fits_closed d (level ∷ known) [] fit = absurd fit

-- a field against which nothing stands is declared, and its id is new
pub field_is : (f : Option FieldInfo) (kind : Kind) (before : Bool) → None ≡ field_breach f kind before → (is_some f ≡ true) × (before ≡ false)
field_is None kind before e = absurd (cc)
field_is (Some g) kind before e = by (has_kind (kind_of g.ty) kind) refl
  where
    new : (b : Bool) → None ≡ breach_unless (not b) breaches.Repeated → b ≡ false
    new true n = absurd (cc)
    new false n = refl

    by : (b : Bool) → has_kind (kind_of g.ty) kind ≡ b → (is_some (Some g) ≡ true) × (before ≡ false)
    by true is = (refl, new before (rw is at e))
    by false is = absurd (cc (rw is at e))

-- such a field's id has room, and what is open fits behind it
pub fits_announced : (d : Declarations) (known : List Level) (open_levels : List Inside) (id : ℤ) (kind : Kind) → AreFitting d known open_levels → 0 < length known
    → None ≡ field_breach (declared_for d (struct_in (first_of known)) id) kind (stood id (top_seen open_levels))
    → (length (top_seen open_levels) < widest d.structs) × AreFitting d known (announced id open_levels)
fits_announced d [] open_levels id kind fit some e = absurd (omega arith)
fits_announced d (levels.Unknown ∷ known) open_levels id kind fit some e = absurd (cc)
fits_announced d (levels.Elements element ∷ known) open_levels id kind fit some e = absurd (cc)
fits_announced d (levels.Keys key value ∷ known) open_levels id kind fit some e = absurd (cc)
fits_announced d (levels.Values key value ∷ known) open_levels id kind fit some e = absurd (cc)
fits_announced d (levels.Fields s ∷ known) [] id kind fit some e = absurd fit
fits_announced d (levels.Fields s ∷ known) (here ∷ up) id kind fit some e =
    let is = field_is (field_in id (fields_of d.structs s.0)) kind (stood id here.seen) e in
    let more = fields_more (fields_of d.structs s.0) here.seen id fit.0 is.0 is.1 in
    let few = few_ids (fields_of d.structs s.0) (here.seen ++ id ∷ []) more in
    (omega (arith, few, within_widest d.structs s.0, length-append here.seen (id ∷ [])), (more, fit.1))

at_none : (step : Step) (o : Option Breach) → at step o ≡ None → None ≡ o
at_none step None e = refl
at_none step (Some b) e = absurd (cc)

-- what is open fits behind an item against which nothing stands
pub fits_after : (d : Declarations) (known : List Level) (next : Ty) (open_levels : List Inside) (item : Item) → AreFitting d known open_levels → 0 < length known
    → found_in (record { schema = d; levels = known; next = next }) open_levels item ≡ None
    → AreFitting d (after (record { schema = d; levels = known; next = next }) item).levels (inside_after item open_levels)
fits_after d known next [] (field id kind) fit some e = absurd (omega (arith, same_length d known [] fit, some))
fits_after d known next (here ∷ up) (field id kind) fit some e = (fits_announced d known (here ∷ up) id kind fit some (at_none (steps.Field id) _ e)).1
fits_after d known next open_levels stop fit some e = fits_closed d known open_levels fit
fits_after d known next open_levels end fit some e = fits_closed d known open_levels fit
fits_after d known next open_levels struct_begin fit some e = fits_opened d (in_struct next) (steps.Field (pos 0)) (passed known) open_levels (fits_passed d known open_levels fit)
fits_after d known next open_levels (map_begin key value size) fit some e = fits_opened d (in_map d next key value) (steps.Key 0) (passed known) open_levels (fits_passed d known open_levels fit)
fits_after d known next open_levels (set_begin kind size) fit some e = fits_opened d (in_set d next kind) (steps.Item 0) (passed known) open_levels (fits_passed d known open_levels fit)
fits_after d known next open_levels (list_begin kind size) fit some e = fits_opened d (in_list d next kind) (steps.Item 0) (passed known) open_levels (fits_passed d known open_levels fit)
fits_after d known next open_levels (bool_value b) fit some e = fits_value d known open_levels fit
fits_after d known next open_levels (i8_value n) fit some e = fits_value d known open_levels fit
fits_after d known next open_levels (i16_value n) fit some e = fits_value d known open_levels fit
fits_after d known next open_levels (i32_value n) fit some e = fits_value d known open_levels fit
fits_after d known next open_levels (i64_value n) fit some e = fits_value d known open_levels fit
fits_after d known next open_levels (double_value bytes) fit some e = fits_value d known open_levels fit
fits_after d known next open_levels (text bytes) fit some e = fits_value d known open_levels fit
fits_after d known next open_levels (number_text bytes) fit some e = fits_value d known open_levels fit
fits_after d known next open_levels (unknown_text bytes) fit some e = fits_value d known open_levels fit
fits_after d known next open_levels empty_map fit some e = fits_value d known open_levels fit
fits_after d known next open_levels (uuid_value bytes) fit some e = fits_value d known open_levels fit

pub fits_behind : (d : Declarations) (p : Position) (open_levels : List Inside) (item : Item) → p.schema ≡ d → AreFitting d p.levels open_levels → 0 < length p.levels → found_in p open_levels item ≡ None
    → AreFitting d (after p item).levels (inside_after item open_levels)
fits_behind d p open_levels item same fit some none =
    subst (λ (x : Declarations). AreFitting x (after p item).levels (inside_after item open_levels)) same
    (fits_after p.schema p.levels p.next open_levels item (subst (λ (x : Declarations). AreFitting x p.levels open_levels) (sym same) fit) some none)

-- at the beginning of a body
pub fits_begun : (d : Declarations) (body : Option StructId) → AreFitting d (start d body).levels (in_fields ∷ [])
fits_begun d None = (nothing_fits d levels.Unknown, tt)
fits_begun d (Some s) = (nothing_fits d (levels.Fields s), tt)
