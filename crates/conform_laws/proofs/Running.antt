-- Going through the items of a tree finds its first breach.
use Rattle.std.proofs.Common.{◌≡◌, ℕ, ℤ, List, [], ◌∷◌, ◌++◌, Bool, true, false, Option, Some, None, refl, sym, ap, subst, ◌∙◌}
use Rattle.thrift_value.specs.declared.kind.Kind.{Kind}
use Rattle.thrift_value.specs.Items.{Item, field, struct_begin, map_begin, set_begin, list_begin}
use Rattle.thrift_value.specs.Trees.{Tree, Members, Trees, Pairs, truth, whole_8, whole_16, whole_32, whole_64, double, characters, loose_number, loose_text, structure, mapping_of_none, mapping, collection, sequence, unique_id, no_members, one_member, no_trees, one_tree, no_pairs, one_pair, items_of, items_of_members, items_of_trees, items_of_pairs, count_of_pairs, count_of_trees}
use Rattle.thrift_value.specs.Trees as trees
use Rattle.type_tables.specs.declared.declared.FieldInfo.{FieldInfo}
use Rattle.type_tables.specs.declared.declared.StructId.{StructId}
use Rattle.type_tables.specs.declared.declared.Ty.{Ty}
use Rattle.type_tables.specs.declared.declared.Ty.TheVariants as types
use Rattle.type_tables.specs.Declarations.{Declarations}
use Rattle.type_tables.specs.Fields.{field_in}
use Rattle.type_tables.specs.Kinds as declared_kinds
use Rattle.type_tables.specs.Structs.{fields_of}
use Rattle.type_walk.specs.declared.levels.Level.{Level}
use Rattle.type_walk.specs.declared.levels.Level.TheVariants as levels
use Rattle.type_walk.specs.Positions.{Position, called_for, declared_type, field_type, has_kind, in_list, in_map, in_set, in_struct, kept, passed, standing, struct_level, type_at, under}
use Rattle.conform_check.specs.declared.step.Step.TheVariants as steps
use Rattle.conform_check.specs.declared.breach.Breach.{Breach}
use Rattle.conform_check.specs.declared.breach.Breach.TheVariants as breaches
use Rattle.conform_check.specs.Inside.{Inside, advanced, in_fields, next_place, next_step, opened, path_to}
use Rattle.conform_check.specs.Breaches.{Standing, at, breach_unless, field_breach, found_in, list_agrees, map_agrees, number_agrees, set_agrees, stood, stop_breach, text_agrees}
use Rattle.conform_check.specs.Checking.{Broken, Checking, broken, checked_item, checking, first_broken, placed}
use Rattle.conform_laws.specs.Meeting.{HasKind}
use Rattle.conform_laws.specs.Breaking.{below, breach_of, breach_of_all, breach_of_fields, breach_of_pairs, element_type, ending, itself, key_type, struct_of, value_type}
use Rattle.conform_laws.proofs.Agreeing.{field_good, is_has, is_list, is_map, is_set}
use Rattle.conform_laws.proofs.Meeting.{AllAre, AreUniform, IsUniform, PairsAre}

-- what is checked behind these items
abbrev pub run : Checking → List Item → Checking
run c [] = c
run c (item ∷ items) = run (checked_item c item) items

pub run_on : (c : Checking) (front rest : List Item) → run c (front ++ rest) ≡ run (run c front) rest
run_on c [] rest = refl
run_on c (item ∷ front) rest = run_on (checked_item c item) front rest

abbrev position : Declarations → List Level → Ty → Position
position d known next = record { schema = d; levels = known; next = next }

-- a breach with the path to it from the body
abbrev pub lifted : List Inside → Option Broken → Option Broken
lifted up None = None
lifted up (Some b) = Some (broken b.breach (path_to up b.path))

abbrev stepped : Inside → Inside
stepped here = record { step = next_step here.step; seen = here.seen }

-- ---- the first of several

then_first : (a b c : Option Broken) → first_broken (first_broken a b) c ≡ first_broken a (first_broken b c)
then_first (Some x) b c = refl
then_first None b c = refl

none_last : (a : Option Broken) → first_broken a None ≡ a
none_last (Some x) = refl
none_last None = refl

lifted_first : (up : List Inside) (a b : Option Broken) → lifted up (first_broken a b) ≡ first_broken (lifted up a) (lifted up b)
lifted_first up (Some x) b = refl
lifted_first up None b = refl

lifted_below : (here : Inside) (up : List Inside) (o : Option Broken) → lifted (here ∷ up) o ≡ lifted up (below here.step o)
lifted_below here up None = refl
lifted_below here up (Some b) = refl

placed_at : (here : Inside) (up : List Inside) (o : Option Breach) → placed (here ∷ up) (at here.step o) ≡ lifted (here ∷ up) (itself o)
placed_at here up None = refl
placed_at here up (Some b) = refl

placed_end : (here : Inside) (up : List Inside) (f : Standing) → placed (here ∷ up) f ≡ lifted up (ending f)
placed_end here up None = refl
placed_end here up (Some f) = refl

-- ---- levels

under_itself : (ty : Ty) (kind : Kind) → has_kind (declared_kinds.kind_of ty) kind ≡ true → under ty kind ≡ ty
under_itself ty kind has = by (declared_kinds.kind_of ty) refl
  where
    chosen : (own : Option Kind) → has_kind own kind ≡ true → kept own kind ty ≡ ty
    chosen None e = absurd (cc)
    chosen (Some own) e = rw e refl

    by : (own : Option Kind) → declared_kinds.kind_of ty ≡ own → under ty kind ≡ ty
    by own is = chosen (declared_kinds.kind_of ty) has

struct_is : (ty : Ty) → in_struct ty ≡ struct_level (struct_of ty)
struct_is types.Unknown = refl
struct_is types.Bool = refl
struct_is types.I8 = refl
struct_is types.I16 = refl
struct_is types.I32 = refl
struct_is types.I64 = refl
struct_is types.Double = refl
struct_is types.Text = refl
struct_is types.Blob = refl
struct_is (types.Enum e) = refl
struct_is (types.Struct s) = refl
struct_is (types.Map key value) = refl
struct_is (types.Set element) = refl
struct_is (types.List element) = refl
struct_is types.Uuid = refl

-- a level in which one value follows another
abbrev Stays : Level → Type 0
Stays l = (up : List Level) → passed (l ∷ up) ≡ l ∷ up

set_stays : (d : Declarations) (ty : Ty) (kind : Kind) → Stays (in_set d ty kind)
set_stays d types.Unknown kind up = refl
set_stays d types.Bool kind up = refl
set_stays d types.I8 kind up = refl
set_stays d types.I16 kind up = refl
set_stays d types.I32 kind up = refl
set_stays d types.I64 kind up = refl
set_stays d types.Double kind up = refl
set_stays d types.Text kind up = refl
set_stays d types.Blob kind up = refl
set_stays d (types.Enum e) kind up = refl
set_stays d (types.Struct s) kind up = refl
set_stays d (types.Map key value) kind up = refl
set_stays d (types.Set element) kind up = refl
set_stays d (types.List element) kind up = refl
set_stays d types.Uuid kind up = refl

list_stays : (d : Declarations) (ty : Ty) (kind : Kind) → Stays (in_list d ty kind)
list_stays d types.Unknown kind up = refl
list_stays d types.Bool kind up = refl
list_stays d types.I8 kind up = refl
list_stays d types.I16 kind up = refl
list_stays d types.I32 kind up = refl
list_stays d types.I64 kind up = refl
list_stays d types.Double kind up = refl
list_stays d types.Text kind up = refl
list_stays d types.Blob kind up = refl
list_stays d (types.Enum e) kind up = refl
list_stays d (types.Struct s) kind up = refl
list_stays d (types.Map key value) kind up = refl
list_stays d (types.Set element) kind up = refl
list_stays d (types.List element) kind up = refl
list_stays d types.Uuid kind up = refl

-- two levels in turn: where a key comes next, and where a value does
pub record Turns (l : Level) : Type 0 where
  pub other : Level
  pub on : (up : List Level) → passed (l ∷ up) ≡ other ∷ up
  pub back : (up : List Level) → passed (other ∷ up) ≡ l ∷ up

abbrev unknown_turns : Turns levels.Unknown
unknown_turns = record { other = levels.Unknown; on = λ up. refl; back = λ up. refl }

map_turns : (d : Declarations) (ty : Ty) (a b : Kind) → Turns (in_map d ty a b)
map_turns d types.Unknown a b = unknown_turns
map_turns d types.Bool a b = unknown_turns
map_turns d types.I8 a b = unknown_turns
map_turns d types.I16 a b = unknown_turns
map_turns d types.I32 a b = unknown_turns
map_turns d types.I64 a b = unknown_turns
map_turns d types.Double a b = unknown_turns
map_turns d types.Text a b = unknown_turns
map_turns d types.Blob a b = unknown_turns
map_turns d (types.Enum e) a b = unknown_turns
map_turns d (types.Struct s) a b = unknown_turns
map_turns d (types.Map key value) a b = record { other = levels.Values (under (type_at d key) a) (under (type_at d value) b); on = λ up. refl; back = λ up. refl }
map_turns d (types.Set element) a b = unknown_turns
map_turns d (types.List element) a b = unknown_turns
map_turns d types.Uuid a b = unknown_turns

-- the parts of a map whose kinds agree have the declared types
map_known : (d : Declarations) (ty : Ty) (a b : Kind) → map_agrees d ty a b ≡ true
    → (called_for (Some (in_map d ty a b)) ≡ key_type d ty) × (called_for (Some (map_turns d ty a b).other) ≡ value_type d ty) × HasKind (key_type d ty) a × HasKind (value_type d ty) b
unfolding map_turns
map_known d ty a b agrees =
    let is = is_map d ty a b agrees in
    subst (λ x. (called_for (Some (in_map d x a b)) ≡ key_type d x) × (called_for (Some (map_turns d x a b).other) ≡ value_type d x) × HasKind (key_type d x) a × HasKind (value_type d x) b) (sym is.2)
    (under_itself (type_at d is.0) a (is_has (type_at d is.0) a is.3), under_itself (type_at d is.1) b (is_has (type_at d is.1) b is.4), is.3, is.4)

set_known : (d : Declarations) (ty : Ty) (k : Kind) → set_agrees d ty k ≡ true → (called_for (Some (in_set d ty k)) ≡ element_type d ty) × HasKind (element_type d ty) k
set_known d ty k agrees =
    let is = is_set d ty k agrees in
    subst (λ x. (called_for (Some (in_set d x k)) ≡ element_type d x) × HasKind (element_type d x) k) (sym is.1)
    (under_itself (type_at d is.0) k (is_has (type_at d is.0) k is.2), is.2)

list_known : (d : Declarations) (ty : Ty) (k : Kind) → list_agrees d ty k ≡ true → (called_for (Some (in_list d ty k)) ≡ element_type d ty) × HasKind (element_type d ty) k
list_known d ty k agrees =
    let is = is_list d ty k agrees in
    subst (λ x. (called_for (Some (in_list d x k)) ≡ element_type d x) × HasKind (element_type d x) k) (sym is.1)
    (under_itself (type_at d is.0) k (is_has (type_at d is.0) k is.2), is.2)

-- ---- going through items

-- the items lead from one place to another, and this is the first breach among them
abbrev Runs : Position → List Inside → List Item → Position → List Inside → Option Broken → Type 0
Runs p open_levels items q behind o = (first : Option Broken) → run (checking p open_levels first) items ≡ checking q behind (first_broken first o)

runs_then : (p q r : Position) (a b c : List Inside) (front rest : List Item) (o next : Option Broken) → Runs p a front q b o → Runs q b rest r c next → Runs p a (front ++ rest) r c (first_broken o next)
runs_then p q r a b c front rest o next f g first =
    run_on (checking p a first) front rest ∙ ap (λ x. run x rest) (f first) ∙ g (first_broken first o) ∙ ap (checking r c) (then_first first o next)

-- nothing stands against the first item
runs_quiet : (p q r : Position) (a b c : List Inside) (item : Item) (rest : List Item) (o : Option Broken) → ((first : Option Broken) → checked_item (checking p a first) item ≡ checking q b (first_broken first None))
    → Runs q b rest r c o → Runs p a (item ∷ rest) r c o
runs_quiet p q r a b c item rest o here g first =
    ap (λ x. run x rest) (here first) ∙ g (first_broken first None) ∙ ap (λ x. checking r c (first_broken x o)) (none_last first)

-- this stands against the first item, or nothing
runs_item : (p q r : Position) (a b c : List Inside) (item : Item) (rest : List Item) (o next : Option Broken) → ((first : Option Broken) → checked_item (checking p a first) item ≡ checking q b (first_broken first o))
    → Runs q b rest r c next → Runs p a (item ∷ rest) r c (first_broken o next)
runs_item p q r a b c item rest o next here g first =
    ap (λ x. run x rest) (here first) ∙ g (first_broken first o) ∙ ap (checking r c) (then_first first o next)

abbrev element_at : ℕ → Inside
element_at n = opened (steps.Item n)

abbrev key_at : ℕ → Inside
key_at n = opened (steps.Key n)

abbrev part_at : ℕ → Inside
part_at n = opened (steps.Part n)

abbrev Value : Declarations → List Level → Ty → Inside → List Inside → Tree → Type 0
Value d known next here up t =
    (o : Option Broken) × Runs (position d known next) (here ∷ up) (items_of t) (standing d (passed known)) (stepped here ∷ up) o
    × (IsUniform t → HasKind next (trees.kind_of t) → o ≡ lifted (here ∷ up) (breach_of d next t))

abbrev Fields : Declarations → Option StructId → List Level → Inside → List Inside → Members → Type 0
Fields d s known here up ms =
    (o : Option Broken) × Runs (standing d (struct_level s ∷ known)) (here ∷ up) (items_of_members ms) (standing d known) (advanced up) o
    × (AreUniform ms → o ≡ lifted up (breach_of_fields d s here.seen ms))

abbrev Elements : Declarations → Level → List Level → ℕ → List Inside → Trees → Type 0
Elements d l known n up ts =
    (o : Option Broken) × Runs (standing d (l ∷ known)) (element_at n ∷ up) (items_of_trees ts) (standing d known) (advanced up) o
    × ((kind : Kind) → AllAre kind ts → HasKind (called_for (Some l)) kind → o ≡ lifted up (breach_of_all d (called_for (Some l)) n ts))

abbrev Paired : Declarations → (l : Level) → Turns l → List Level → ℕ → List Inside → Pairs → Type 0
Paired d l turns known n up ps =
    (o : Option Broken) × Runs (standing d (l ∷ known)) (key_at n ∷ up) (items_of_pairs ps) (standing d known) (advanced up) o
    × ((a b : Kind) → PairsAre a b ps → HasKind (called_for (Some l)) a → HasKind (called_for (Some turns.other)) b
    → o ≡ lifted up (breach_of_pairs d (called_for (Some l)) (called_for (Some turns.other)) n ps))

-- a leaf against which this stands
leaf : (d : Declarations) (known : List Level) (next : Ty) (here : Inside) (up : List Inside) (t : Tree) (o : Option Breach)
    → Runs (position d known next) (here ∷ up) (items_of t) (standing d (passed known)) (stepped here ∷ up) (placed (here ∷ up) (at here.step o))
    → breach_of d next t ≡ itself o → Value d known next here up t
leaf d known next here up t o runs is = (placed (here ∷ up) (at here.step o), runs, λ u has. placed_at here up o ∙ ap (lifted (here ∷ up)) (sym is))

-- a container whose parts agree with what is declared, or not
agreed : (d : Declarations) (here : Inside) (up : List Inside) (agrees : Bool) (inner rest : Option Broken) → (agrees ≡ true → inner ≡ lifted (here ∷ up) rest)
    → first_broken (placed (here ∷ up) (at here.step (breach_unless agrees breaches.WrongKind))) inner ≡ lifted (here ∷ up) (first_broken (itself (breach_unless agrees breaches.WrongKind)) rest)
agreed d here up true inner rest is = is refl
agreed d here up false inner rest is = refl

-- a field whose value and the fields behind it were gone through
field_found : (here : Inside) (up : List Inside) (id : ℤ) (f : Option FieldInfo) (kind : Kind) (before : Bool) (inner rest : Option Broken) (tree_breach : Ty → Option Broken) (more : Option Broken)
    → ((g : FieldInfo) → f ≡ Some g → HasKind g.ty kind → inner ≡ lifted up (below (steps.Field id) (tree_breach g.ty)))
    → rest ≡ lifted up more
    → first_broken (placed (here ∷ up) (at (steps.Field id) (field_breach f kind before))) (first_broken inner rest)
    ≡ lifted up (first_broken (below (steps.Field id) (itself (field_breach f kind before))) (first_broken (below (steps.Field id) (tree_breach (declared_type f))) more))
field_found here up id f kind before inner rest tree_breach more is same = by (field_breach f kind before) refl
  where
    by : (o : Option Breach) → field_breach f kind before ≡ o
        → first_broken (placed (here ∷ up) (at (steps.Field id) o)) (first_broken inner rest)
        ≡ lifted up (first_broken (below (steps.Field id) (itself o)) (first_broken (below (steps.Field id) (tree_breach (declared_type f))) more))
    by (Some b) e = refl
    by None e =
        let g = field_good f kind before e in
        ap (λ x. first_broken x rest) (is g.0 g.1 g.2)
        ∙ ap (λ x. first_broken (lifted up (below (steps.Field id) (tree_breach g.0.ty))) x) same
        ∙ sym (lifted_first up (below (steps.Field id) (tree_breach g.0.ty)) more)
        ∙ ap (λ x. lifted up (first_broken (below (steps.Field id) (tree_breach (declared_type x))) more)) (sym g.1)

mutual
  pub value_run : (d : Declarations) (known : List Level) (next : Ty) (here : Inside) (up : List Inside) (t : Tree) → Value d known next here up t
  value_run d known next here up (truth b) = leaf d known next here up (truth b) None (λ first. refl) refl
  value_run d known next here up (whole_8 n) = leaf d known next here up (whole_8 n) None (λ first. refl) refl
  value_run d known next here up (whole_16 n) = leaf d known next here up (whole_16 n) None (λ first. refl) refl
  value_run d known next here up (whole_32 n) = leaf d known next here up (whole_32 n) (breach_unless (number_agrees d next n) breaches.NotMember) (λ first. refl) refl
  value_run d known next here up (whole_64 n) = leaf d known next here up (whole_64 n) None (λ first. refl) refl
  value_run d known next here up (double bytes) = leaf d known next here up (double bytes) None (λ first. refl) refl
  value_run d known next here up (characters bytes) = leaf d known next here up (characters bytes) (breach_unless (text_agrees next bytes) breaches.NotText) (λ first. refl) refl
  value_run d known next here up (loose_number bytes) = leaf d known next here up (loose_number bytes) None (λ first. refl) refl
  value_run d known next here up (loose_text bytes) = leaf d known next here up (loose_text bytes) (breach_unless (text_agrees next bytes) breaches.NotText) (λ first. refl) refl
  value_run d known next here up mapping_of_none = leaf d known next here up mapping_of_none None (λ first. refl) refl
  value_run d known next here up (unique_id bytes) = leaf d known next here up (unique_id bytes) None (λ first. refl) refl
  value_run d known next here up (structure ms) =
      let r = fields_run d (struct_of next) (passed known) in_fields (here ∷ up) ms in
      let begun = subst (λ (l : Level). Runs (standing d (l ∷ passed known)) (in_fields ∷ here ∷ up) (items_of_members ms) (standing d (passed known)) (stepped here ∷ up) r.0) (sym (struct_is next)) r.1 in
      (r.0, runs_quiet _ _ _ _ _ _ struct_begin (items_of_members ms) r.0 (λ first. refl) begun, λ u has. r.2 u)
  value_run d known next here up (mapping a b ps) =
      let l = in_map d next a b in
      let r = pairs_run d l (map_turns d next a b) (passed known) 0 (here ∷ up) ps in
      let o = placed (here ∷ up) (at here.step (breach_unless (map_agrees d next a b) breaches.WrongKind)) in (
        first_broken o r.0,
        runs_item _ _ _ _ _ _ (map_begin a b (count_of_pairs ps)) (items_of_pairs ps) o r.0 (λ first. refl) r.1,
        λ u has. agreed d here up (map_agrees d next a b) r.0 (breach_of_pairs d (key_type d next) (value_type d next) 0 ps)
            (λ agrees.
            let k = map_known d next a b agrees in
            r.2 a b u (subst (λ x. HasKind x a) (sym k.0) k.2) (subst (λ x. HasKind x b) (sym k.1) k.3)
            ∙ ap (λ x. lifted (here ∷ up) (breach_of_pairs d x (called_for (Some (map_turns d next a b).other)) 0 ps)) k.0
            ∙ ap (λ x. lifted (here ∷ up) (breach_of_pairs d (key_type d next) x 0 ps)) k.1),
      )
  value_run d known next here up (collection kind ts) =
      let l = in_set d next kind in
      let r = all_run d l (set_stays d next kind) (passed known) 0 (here ∷ up) ts in
      let o = placed (here ∷ up) (at here.step (breach_unless (set_agrees d next kind) breaches.WrongKind)) in (
        first_broken o r.0,
        runs_item _ _ _ _ _ _ (set_begin kind (count_of_trees ts)) (items_of_trees ts) o r.0 (λ first. refl) r.1,
        λ u has. agreed d here up (set_agrees d next kind) r.0 (breach_of_all d (element_type d next) 0 ts)
            (λ agrees.
            let k = set_known d next kind agrees in
            r.2 kind u (subst (λ x. HasKind x kind) (sym k.0) k.1) ∙ ap (λ x. lifted (here ∷ up) (breach_of_all d x 0 ts)) k.0),
      )
  value_run d known next here up (sequence kind ts) =
      let l = in_list d next kind in
      let r = all_run d l (list_stays d next kind) (passed known) 0 (here ∷ up) ts in
      let o = placed (here ∷ up) (at here.step (breach_unless (list_agrees d next kind) breaches.WrongKind)) in (
        first_broken o r.0,
        runs_item _ _ _ _ _ _ (list_begin kind (count_of_trees ts)) (items_of_trees ts) o r.0 (λ first. refl) r.1,
        λ u has. agreed d here up (list_agrees d next kind) r.0 (breach_of_all d (element_type d next) 0 ts)
            (λ agrees.
            let k = list_known d next kind agrees in
            r.2 kind u (subst (λ x. HasKind x kind) (sym k.0) k.1) ∙ ap (λ x. lifted (here ∷ up) (breach_of_all d x 0 ts)) k.0),
      )

  pub fields_run : (d : Declarations) (s : Option StructId) (known : List Level) (here : Inside) (up : List Inside) (ms : Members) → Fields d s known here up ms
  fields_run d None known here up no_members = (placed (here ∷ up) (stop_breach d None here.seen), λ first. refl, λ u. placed_end here up (stop_breach d None here.seen))
  fields_run d (Some s) known here up no_members = (placed (here ∷ up) (stop_breach d (Some s) here.seen), λ first. refl, λ u. placed_end here up (stop_breach d (Some s) here.seen))
  fields_run d None known here up (one_member id t ms) =
      let kind = trees.kind_of t in
      let there : Inside = record { step = steps.Field id; seen = here.seen ++ id ∷ [] } in
      let o = placed (here ∷ up) (at (steps.Field id) (field_breach None kind (stood id here.seen))) in
      let v = value_run d (levels.Unknown ∷ known) types.Unknown there up t in
      let r = fields_run d None known there up ms in (
        first_broken o (first_broken v.0 r.0),
        runs_item (standing d (levels.Unknown ∷ known)) (position d (levels.Unknown ∷ known) types.Unknown) (standing d known) (here ∷ up) (there ∷ up) (advanced up) (field id kind) (items_of t ++ items_of_members ms) o (first_broken v.0 r.0) (λ first. refl)
            (runs_then (position d (levels.Unknown ∷ known) types.Unknown) (standing d (levels.Unknown ∷ known)) (standing d known) (there ∷ up) (there ∷ up) (advanced up) (items_of t) (items_of_members ms) v.0 r.0 v.1 r.1),
        λ u. refl,
      )
  fields_run d (Some s) known here up (one_member id t ms) =
      let kind = trees.kind_of t in
      let f = field_in id (fields_of d.structs s.0) in
      let next = field_type d (Some (levels.Fields s)) id kind in
      let there : Inside = record { step = steps.Field id; seen = here.seen ++ id ∷ [] } in
      let o = placed (here ∷ up) (at (steps.Field id) (field_breach f kind (stood id here.seen))) in
      let v = value_run d (levels.Fields s ∷ known) next there up t in
      let r = fields_run d (Some s) known there up ms in (
        first_broken o (first_broken v.0 r.0),
        runs_item (standing d (levels.Fields s ∷ known)) (position d (levels.Fields s ∷ known) next) (standing d known) (here ∷ up) (there ∷ up) (advanced up) (field id kind) (items_of t ++ items_of_members ms) o (first_broken v.0 r.0) (λ first. refl)
            (runs_then (position d (levels.Fields s ∷ known) next) (standing d (levels.Fields s ∷ known)) (standing d known) (there ∷ up) (there ∷ up) (advanced up) (items_of t) (items_of_members ms) v.0 r.0 v.1 r.1),
        λ u. field_found here up id f kind (stood id here.seen) v.0 r.0 (λ ty. breach_of d ty t) (breach_of_fields d (Some s) (here.seen ++ id ∷ []) ms)
            (λ g is has.
            let own : next ≡ g.ty = ap (λ x. under (declared_type x) kind) is ∙ under_itself g.ty kind (is_has g.ty kind has) in
            v.2 u.0 (subst (λ x. HasKind x kind) (sym own) has) ∙ lifted_below there up (breach_of d next t) ∙ ap (λ x. lifted up (below (steps.Field id) (breach_of d x t))) own)
            (r.2 u.1),
      )

  pub all_run : (d : Declarations) (l : Level) (stays : Stays l) (known : List Level) (n : ℕ) (up : List Inside) (ts : Trees) → Elements d l known n up ts
  all_run d l stays known n up no_trees = (None, λ first. refl, λ kind u has. refl)
  all_run d l stays known n up (one_tree t ts) =
      let ty = called_for (Some l) in
      let v = value_run d (l ∷ known) ty (element_at n) up t in
      let r = all_run d l stays known (next_place n) up ts in
      let at_next = subst (λ (x : List Level). Runs (standing d (l ∷ known)) (element_at n ∷ up) (items_of t) (standing d x) (element_at (next_place n) ∷ up) v.0) (stays known) v.1 in (
        first_broken v.0 r.0,
        runs_then _ _ _ _ _ _ (items_of t) (items_of_trees ts) v.0 r.0 at_next r.1,
        λ kind u has.
            ap (λ x. first_broken x r.0) (v.2 u.1 (subst (λ k. HasKind ty k) (sym u.0) has) ∙ lifted_below (element_at n) up (breach_of d ty t))
            ∙ ap (λ x. first_broken (lifted up (below (steps.Item n) (breach_of d ty t))) x) (r.2 kind u.2 has)
            ∙ sym (lifted_first up (below (steps.Item n) (breach_of d ty t)) (breach_of_all d ty (next_place n) ts)),
      )

  pub pairs_run : (d : Declarations) (l : Level) (turns : Turns l) (known : List Level) (n : ℕ) (up : List Inside) (ps : Pairs) → Paired d l turns known n up ps
  pairs_run d l turns known n up no_pairs = (None, λ first. refl, λ a b u x y. refl)
  pairs_run d l turns known n up (one_pair k v ps) =
      let key = called_for (Some l) in
      let value = called_for (Some turns.other) in
      let f = value_run d (l ∷ known) key (key_at n) up k in
      let g = value_run d (turns.other ∷ known) value (part_at n) up v in
      let r = pairs_run d l turns known (next_place n) up ps in
      let at_value = subst (λ (x : List Level). Runs (standing d (l ∷ known)) (key_at n ∷ up) (items_of k) (standing d x) (part_at n ∷ up) f.0) (turns.on known) f.1 in
      let at_next = subst (λ (x : List Level). Runs (standing d (turns.other ∷ known)) (part_at n ∷ up) (items_of v) (standing d x) (key_at (next_place n) ∷ up) g.0) (turns.back known) g.1 in (
        first_broken f.0 (first_broken g.0 r.0),
        runs_then _ _ _ _ _ _ (items_of k) (items_of v ++ items_of_pairs ps) f.0 (first_broken g.0 r.0) at_value (runs_then _ _ _ _ _ _ (items_of v) (items_of_pairs ps) g.0 r.0 at_next r.1),
        λ a b u x y.
            let at_key = f.2 u.2 (subst (λ z. HasKind key z) (sym u.0) x) ∙ lifted_below (key_at n) up (breach_of d key k) in
            let at_part = g.2 u.3 (subst (λ z. HasKind value z) (sym u.1) y) ∙ lifted_below (part_at n) up (breach_of d value v) in
            let rest = breach_of_pairs d key value (next_place n) ps in
            let below_part = below (steps.Part n) (breach_of d value v) in
            ap (λ z. first_broken z (first_broken g.0 r.0)) at_key
            ∙ ap (λ z. first_broken (lifted up (below (steps.Key n) (breach_of d key k))) z)
            (ap (λ z. first_broken z r.0) at_part ∙ ap (λ z. first_broken (lifted up below_part) z) (r.2 a b u.4 x y) ∙ sym (lifted_first up below_part rest))
            ∙ sym (lifted_first up (below (steps.Key n) (breach_of d key k)) (first_broken below_part rest)),
      )

-- the first breach of a body whose struct is declared
pub body_run : (d : Declarations) (s : StructId) (ms : Members) → AreUniform ms
    → (run (checking (standing d (levels.Fields s ∷ [])) (in_fields ∷ []) None) (items_of_members ms)).first ≡ breach_of_fields d (Some s) [] ms
body_run d s ms u =
    let r = fields_run d (Some s) [] in_fields [] ms in
    ap (λ (c : Checking). c.first) (r.1 None) ∙ r.2 u ∙ lifted_all (breach_of_fields d (Some s) [] ms)
  where
    lifted_all : (o : Option Broken) → lifted [] o ≡ o
    lifted_all None = refl
    lifted_all (Some b) = refl

-- once a breach was found it stays the first
pub run_stays : (items : List Item) (c : Checking) (b : Broken) → c.first ≡ Some b → (run c items).first ≡ Some b
run_stays [] c b is = is
run_stays (item ∷ items) c b is = run_stays items (checked_item c item) b (ap (λ x. first_broken x (placed c.open_levels (found_in c.position c.open_levels item))) is)
