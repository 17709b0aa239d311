-- A value meets its type exactly where it has the type's kind and no first breach.
use Rattle.std.proofs.Common.{◌≡◌, ℕ, ℤ, List, [], ◌∷◌, ◌++◌, Bool, true, false, ◌&&◌, Option, Some, None, length, refl, sym, ap, subst, ◌∙◌, arith, append_assoc}
use Rattle.std.specs.Prelude.{⊤, Contains, not}
use Rattle.std.proofs.lemmas.List.{append-nil}
use Rattle.std.proofs.lemmas.Bool.Decides.{nat_tests}
use Rattle.thrift_value.specs.declared.kind.Kind.{Kind}
use Rattle.thrift_value.specs.Trees.{Tree, Members, Trees, Pairs, truth, whole_8, whole_16, whole_32, whole_64, double, characters, loose_number, loose_text, structure, mapping_of_none, mapping, collection, sequence, unique_id, no_members, one_member, no_trees, one_tree, no_pairs, one_pair}
use Rattle.thrift_value.specs.Trees as trees
use Rattle.type_tables.specs.declared.declared.FieldInfo.{FieldInfo}
use Rattle.type_tables.specs.declared.declared.Form.{Form}
use Rattle.type_tables.specs.declared.declared.Form.TheVariants as forms
use Rattle.type_tables.specs.declared.declared.Need.{Need}
use Rattle.type_tables.specs.declared.declared.Need.TheVariants as needs
use Rattle.type_tables.specs.declared.declared.StructId.{StructId}
use Rattle.type_tables.specs.declared.declared.Ty.{Ty}
use Rattle.type_tables.specs.Declarations.{Declarations}
use Rattle.type_tables.specs.Fields.{field_in}
use Rattle.type_tables.specs.Structs.{fields_of, form_at}
use Rattle.type_walk.specs.Positions.{declared_type, type_at}
use Rattle.conform_check.specs.declared.step.Step.{Step}
use Rattle.conform_check.specs.declared.step.Step.TheVariants as steps
use Rattle.conform_check.specs.declared.breach.Breach.{Breach}
use Rattle.conform_check.specs.Inside.{next_place}
use Rattle.conform_check.specs.Breaches.{breach_unless, end_breach, field_breach, is_complete, is_missing, is_required, list_agrees, map_agrees, missing, set_agrees, stood, stop_breach}
use Rattle.conform_check.specs.Checking.{Broken, first_broken}
use Rattle.conform_laws.specs.Meeting.{AreNew, HasKind, HaveRequired, MeetAll, MeetFields, MeetPairs, Meets, ids_of}
use Rattle.conform_laws.specs.Breaking.{below, breach_of, breach_of_all, breach_of_fields, breach_of_pairs, element_type, ending, itself, key_type, struct_of, value_type}
use Rattle.conform_laws.proofs.Agreeing.{field_good, good_field, is_has, is_list, is_map, is_member, is_set, is_stood, is_struct, is_text, map_is, member_is, stood_is, text_is}

-- elements and pairs have the kinds that their container tells
abbrev mutual
  pub IsUniform : Tree → Type 0
  IsUniform (truth b) = ⊤
  IsUniform (whole_8 n) = ⊤
  IsUniform (whole_16 n) = ⊤
  IsUniform (whole_32 n) = ⊤
  IsUniform (whole_64 n) = ⊤
  IsUniform (double bytes) = ⊤
  IsUniform (characters bytes) = ⊤
  IsUniform (loose_number bytes) = ⊤
  IsUniform (loose_text bytes) = ⊤
  IsUniform (structure ms) = AreUniform ms
  IsUniform mapping_of_none = ⊤
  IsUniform (mapping key value ps) = PairsAre key value ps
  IsUniform (collection kind ts) = AllAre kind ts
  IsUniform (sequence kind ts) = AllAre kind ts
  IsUniform (unique_id bytes) = ⊤

  pub AreUniform : Members → Type 0
  AreUniform no_members = ⊤
  AreUniform (one_member id t ms) = IsUniform t × AreUniform ms

  pub AllAre : Kind → Trees → Type 0
  AllAre kind no_trees = ⊤
  AllAre kind (one_tree t ts) = (trees.kind_of t ≡ kind) × IsUniform t × AllAre kind ts

  pub PairsAre : Kind → Kind → Pairs → Type 0
  PairsAre key value no_pairs = ⊤
  PairsAre key value (one_pair k v ps) = (trees.kind_of k ≡ key) × (trees.kind_of v ≡ value) × IsUniform k × IsUniform v × PairsAre key value ps

-- ---- small pieces

first_none : (a b : Option Broken) → first_broken a b ≡ None → (a ≡ None) × (b ≡ None)
first_none (Some x) b e = absurd (cc)
first_none None b e = (refl, e)

none_first : (a b : Option Broken) → a ≡ None → b ≡ None → first_broken a b ≡ None
none_first a b x y = rw (x, y) refl

below_none : (step : Step) (o : Option Broken) → below step o ≡ None → o ≡ None
below_none step None e = refl
below_none step (Some b) e = absurd (cc)

itself_none : (o : Option Breach) → itself o ≡ None → o ≡ None
itself_none None e = refl
itself_none (Some b) e = absurd (cc)

unless_none : (b : Bool) (breach : Breach) → itself (breach_unless b breach) ≡ None → b ≡ true
unless_none true breach e = refl
unless_none false breach e = absurd (cc)

none_unless : (b : Bool) (breach : Breach) → b ≡ true → itself (breach_unless b breach) ≡ None
none_unless b breach e = rw e refl

-- ---- the end of a struct

need_of : (need : Need) → is_required need ≡ true → need ≡ needs.Required
need_of needs.Required e = refl
need_of needs.Optional e = absurd (cc)
need_of needs.Default e = absurd (cc)

not_missing : (required there : Bool) → (required && not there) ≡ false → required ≡ true → there ≡ true
not_missing true true e r = refl
not_missing true false e r = absurd (cc)
not_missing false there e r = absurd (cc)

missing_none : (fs : List FieldInfo) (ids : List ℤ) → missing fs ids ≡ None → HaveRequired fs ids
missing_none [] ids e = tt
missing_none (f ∷ fs) ids e = by (is_missing f ids) refl (missing_none fs ids)
  where
    by : (b : Bool) → is_missing f ids ≡ b → (missing fs ids ≡ None → HaveRequired fs ids) → (f.need ≡ needs.Required → Contains ids f.id) × HaveRequired fs ids
    by true is rest = absurd (cc (rw is at e))
    by false is rest = (λ r. stood_is f.id ids (not_missing (is_required f.need) (stood f.id ids) is (ap is_required r)), rest (rw is at e))

none_missing : (fs : List FieldInfo) (ids : List ℤ) → HaveRequired fs ids → missing fs ids ≡ None
none_missing [] ids has = refl
none_missing (f ∷ fs) ids has = by (is_missing f ids) refl (none_missing fs ids has.1)
  where
    wrong : (required there : Bool) → required ≡ is_required f.need → there ≡ stood f.id ids → (required && not there) ≡ true → ⊥
    wrong true true r t e = absurd (cc)
    wrong true false r t e = absurd (cc (t, is_stood f.id ids (has.0 (need_of f.need (sym r)))))
    wrong false there r t e = absurd (cc)

    by : (b : Bool) → is_missing f ids ≡ b → missing fs ids ≡ None → missing (f ∷ fs) ids ≡ None
    by true is rest = absurd (wrong (is_required f.need) (stood f.id ids) refl refl is)
    by false is rest = rw is rest

complete_is : (form : Option Form) (ids : List ℤ) → is_complete form ids ≡ true → form ≡ Some forms.Union → length ids ≡ 1
complete_is (Some forms.Union) ids e u = grind (arith, nat_tests)
complete_is (Some forms.Struct) ids e u = absurd (cc)
complete_is (Some forms.Exception) ids e u = absurd (cc)
complete_is (Some forms.Args) ids e u = absurd (cc)
complete_is (Some forms.Result) ids e u = absurd (cc)
complete_is None ids e u = absurd (cc)

is_complete_of : (form : Option Form) (ids : List ℤ) → (form ≡ Some forms.Union → length ids ≡ 1) → is_complete form ids ≡ true
is_complete_of (Some forms.Union) ids one = let h = one refl in grind (arith, nat_tests, h)
is_complete_of (Some forms.Struct) ids one = refl
is_complete_of (Some forms.Exception) ids one = refl
is_complete_of (Some forms.Args) ids one = refl
is_complete_of (Some forms.Result) ids one = refl
is_complete_of None ids one = refl

ending_none : (lacks : Option ℤ) (complete : Bool) → ending (end_breach lacks complete) ≡ None → (lacks ≡ None) × (complete ≡ true)
ending_none (Some id) complete e = absurd (cc)
ending_none None true e = (refl, refl)
ending_none None false e = absurd (cc)

-- nothing stands against the end of a struct
pub ends_good : (d : Declarations) (s : StructId) (ids : List ℤ) → ending (stop_breach d (Some s) ids) ≡ None
    → HaveRequired (fields_of d.structs s.0) ids × (form_at d.structs s.0 ≡ Some forms.Union → length ids ≡ 1)
ends_good d s ids e =
    let two = ending_none (missing (fields_of d.structs s.0) ids) (is_complete (form_at d.structs s.0) ids) e in
    (missing_none (fields_of d.structs s.0) ids two.0, complete_is (form_at d.structs s.0) ids two.1)

pub good_ends : (d : Declarations) (s : StructId) (ids : List ℤ) → HaveRequired (fields_of d.structs s.0) ids → (form_at d.structs s.0 ≡ Some forms.Union → length ids ≡ 1)
    → ending (stop_breach d (Some s) ids) ≡ None
good_ends d s ids has one = rw (none_missing (fields_of d.structs s.0) ids has, is_complete_of (form_at d.structs s.0) ids one) refl

-- ---- values

not_stood : (id : ℤ) (ids : List ℤ) → stood id ids ≡ false → Contains ids id → ⊥
not_stood id ids e has = absurd (cc (e, is_stood id ids has))

new_stood : (id : ℤ) (ids : List ℤ) → (Contains ids id → ⊥) → stood id ids ≡ false
new_stood id ids new = by (stood id ids) refl
  where
    by : (b : Bool) → stood id ids ≡ b → stood id ids ≡ false
    by true is = absurd (new (stood_is id ids is))
    by false is = is

-- what is found good of the fields behind some
abbrev Good : Declarations → StructId → List ℤ → Members → Type 0
Good d s seen ms = MeetFields d s ms × AreNew seen (ids_of ms) × (ending (stop_breach d (Some s) (seen ++ ids_of ms)) ≡ None)

joined : (seen : List ℤ) (id : ℤ) (ids : List ℤ) → (seen ++ id ∷ []) ++ ids ≡ seen ++ id ∷ ids
joined seen id ids = append_assoc seen (id ∷ []) ids

mutual
  -- a value of the type's kind without a breach meets the type
  pub meets : (d : Declarations) (ty : Ty) (t : Tree) → IsUniform t → HasKind ty (trees.kind_of t) → breach_of d ty t ≡ None → Meets d ty t
  meets d ty (truth b) u has none = has
  meets d ty (whole_8 n) u has none = has
  meets d ty (whole_16 n) u has none = has
  meets d ty (whole_32 n) u has none = (has, member_is d ty n (unless_none _ _ none))
  meets d ty (whole_64 n) u has none = has
  meets d ty (double bytes) u has none = has
  meets d ty (characters bytes) u has none = (has, text_is ty bytes (unless_none _ _ none))
  meets d ty (loose_number bytes) u has none = has
  meets d ty (loose_text bytes) u has none = (has, text_is ty bytes (unless_none _ _ none))
  meets d ty (structure ms) u has none =
      let is = is_struct ty has in
      let good = fields_meet d is.0 [] ms u (ap (λ x. breach_of_fields d (struct_of x) [] ms) (sym is.1) ∙ none) in
      let ends = ends_good d is.0 (ids_of ms) good.2 in
      (is.0, is.1, good.0, record { once = good.1; required = ends.0; one = ends.1 })
  meets d ty mapping_of_none u has none = has
  meets d ty (mapping key value ps) u has none =
      let two = first_none _ _ none in
      let is = is_map d ty key value (unless_none _ _ two.0) in
      let rest = subst (λ x. breach_of_pairs d (key_type d x) (value_type d x) 0 ps ≡ None) is.2 two.1 in
      (is.0, is.1, is.2, is.3, is.4, pairs_meet d (type_at d is.0) (type_at d is.1) key value 0 ps u is.3 is.4 rest)
  meets d ty (collection kind ts) u has none =
      let two = first_none _ _ none in
      let is = is_set d ty kind (unless_none _ _ two.0) in
      let rest = subst (λ x. breach_of_all d (element_type d x) 0 ts ≡ None) is.1 two.1 in
      (is.0, is.1, is.2, all_meet d (type_at d is.0) kind 0 ts u is.2 rest)
  meets d ty (sequence kind ts) u has none =
      let two = first_none _ _ none in
      let is = is_list d ty kind (unless_none _ _ two.0) in
      let rest = subst (λ x. breach_of_all d (element_type d x) 0 ts ≡ None) is.1 two.1 in
      (is.0, is.1, is.2, all_meet d (type_at d is.0) kind 0 ts u is.2 rest)
  meets d ty (unique_id bytes) u has none = has

  pub fields_meet : (d : Declarations) (s : StructId) (seen : List ℤ) (ms : Members) → AreUniform ms → breach_of_fields d (Some s) seen ms ≡ None → Good d s seen ms
  fields_meet d s seen no_members u none = (tt, tt, ap (λ ids. ending (stop_breach d (Some s) ids)) (append-nil seen) ∙ none)
  fields_meet d s seen (one_member id t ms) u none =
      let two = first_none _ _ none in
      let more = first_none _ _ two.1 in
      let f = field_good (field_in id (fields_of d.structs s.0)) (trees.kind_of t) (stood id seen) (itself_none _ (below_none (steps.Field id) _ two.0)) in
      let inner = subst (λ g. breach_of d (declared_type g) t ≡ None) f.1 (below_none (steps.Field id) _ more.0) in
      let rest = fields_meet d s (seen ++ id ∷ []) ms u.1 more.1 in
      (((f.0, f.1, meets d f.0.ty t u.0 f.2 inner), rest.0), (not_stood id seen f.3, rest.1), subst (λ ids. ending (stop_breach d (Some s) ids) ≡ None) (joined seen id (ids_of ms)) rest.2)

  pub all_meet : (d : Declarations) (ty : Ty) (kind : Kind) (n : ℕ) (ts : Trees) → AllAre kind ts → HasKind ty kind → breach_of_all d ty n ts ≡ None → MeetAll d ty ts
  all_meet d ty kind n no_trees u has none = tt
  all_meet d ty kind n (one_tree t ts) u has none =
      let two = first_none _ _ none in
      (meets d ty t u.1 (subst (λ k. HasKind ty k) (sym u.0) has) (below_none (steps.Item n) _ two.0), all_meet d ty kind (next_place n) ts u.2 has two.1)

  pub pairs_meet : (d : Declarations) (key value : Ty) (a b : Kind) (n : ℕ) (ps : Pairs) → PairsAre a b ps → HasKind key a → HasKind value b → breach_of_pairs d key value n ps ≡ None → MeetPairs d key value ps
  pairs_meet d key value a b n no_pairs u x y none = tt
  pairs_meet d key value a b n (one_pair k v ps) u x y none =
      let two = first_none _ _ none in
      let more = first_none _ _ two.1 in
      let at_key = meets d key k u.2 (subst (λ z. HasKind key z) (sym u.0) x) (below_none (steps.Key n) _ two.0) in
      let at_value = meets d value v u.3 (subst (λ z. HasKind value z) (sym u.1) y) (below_none (steps.Part n) _ more.0) in
      (at_key, at_value, pairs_meet d key value a b (next_place n) ps u.4 x y more.1)

-- a value that meets its type has its kind and no breach
pub has_kind_of : (d : Declarations) (ty : Ty) (t : Tree) → Meets d ty t → HasKind ty (trees.kind_of t)
has_kind_of d ty (truth b) m = m
has_kind_of d ty (whole_8 n) m = m
has_kind_of d ty (whole_16 n) m = m
has_kind_of d ty (whole_32 n) m = m.0
has_kind_of d ty (whole_64 n) m = m
has_kind_of d ty (double bytes) m = m
has_kind_of d ty (characters bytes) m = m.0
has_kind_of d ty (loose_number bytes) m = m
has_kind_of d ty (loose_text bytes) m = m.0
has_kind_of d ty (structure ms) m = rw m.1 refl
has_kind_of d ty mapping_of_none m = m
has_kind_of d ty (mapping key value ps) m = rw m.2 refl
has_kind_of d ty (collection kind ts) m = rw m.1 refl
has_kind_of d ty (sequence kind ts) m = rw m.1 refl
has_kind_of d ty (unique_id bytes) m = m

mutual
  pub no_breach : (d : Declarations) (ty : Ty) (t : Tree) → Meets d ty t → breach_of d ty t ≡ None
  no_breach d ty (truth b) m = refl
  no_breach d ty (whole_8 n) m = refl
  no_breach d ty (whole_16 n) m = refl
  no_breach d ty (whole_32 n) m = none_unless _ _ (is_member d ty n m.1)
  no_breach d ty (whole_64 n) m = refl
  no_breach d ty (double bytes) m = refl
  no_breach d ty (characters bytes) m = none_unless _ _ (is_text ty bytes m.1)
  no_breach d ty (loose_number bytes) m = refl
  no_breach d ty (loose_text bytes) m = none_unless _ _ (is_text ty bytes m.1)
  no_breach d ty (structure ms) m =
      ap (λ x. breach_of_fields d (struct_of x) [] ms) m.1 ∙ no_breach_in d m.0 [] ms m.2 m.3.once (good_ends d m.0 (ids_of ms) m.3.required m.3.one)
  no_breach d ty mapping_of_none m = refl
  no_breach d ty (mapping key value ps) m =
      none_first _ _ (none_unless _ _ (ap (λ x. map_agrees d x key value) m.2 ∙ map_is d m.0 m.1 key value m.3 m.4))
      (ap (λ x. breach_of_pairs d (key_type d x) (value_type d x) 0 ps) m.2 ∙ no_breach_in_pairs d (type_at d m.0) (type_at d m.1) 0 ps m.5)
  no_breach d ty (collection kind ts) m =
      none_first _ _ (none_unless _ _ (ap (λ x. set_agrees d x kind) m.1 ∙ is_has (type_at d m.0) kind m.2))
      (ap (λ x. breach_of_all d (element_type d x) 0 ts) m.1 ∙ no_breach_in_all d (type_at d m.0) 0 ts m.3)
  no_breach d ty (sequence kind ts) m =
      none_first _ _ (none_unless _ _ (ap (λ x. list_agrees d x kind) m.1 ∙ is_has (type_at d m.0) kind m.2))
      (ap (λ x. breach_of_all d (element_type d x) 0 ts) m.1 ∙ no_breach_in_all d (type_at d m.0) 0 ts m.3)
  no_breach d ty (unique_id bytes) m = refl

  pub no_breach_in : (d : Declarations) (s : StructId) (seen : List ℤ) (ms : Members) → MeetFields d s ms → AreNew seen (ids_of ms) → ending (stop_breach d (Some s) (seen ++ ids_of ms)) ≡ None
      → breach_of_fields d (Some s) seen ms ≡ None
  no_breach_in d s seen no_members m new ends = ap (λ ids. ending (stop_breach d (Some s) ids)) (sym (append-nil seen)) ∙ ends
  no_breach_in d s seen (one_member id t ms) m new ends =
      let f = m.0 in
      let here = ap (λ g. field_breach g (trees.kind_of t) (stood id seen)) f.1 ∙ ap (λ b. field_breach (Some f.0) (trees.kind_of t) b) (new_stood id seen new.0) ∙ good_field f.0 (trees.kind_of t) (has_kind_of d f.0.ty t f.2) in
      let inner = ap (λ g. breach_of d (declared_type g) t) f.1 ∙ no_breach d f.0.ty t f.2 in
      let rest = no_breach_in d s (seen ++ id ∷ []) ms m.1 new.1 (subst (λ ids. ending (stop_breach d (Some s) ids) ≡ None) (sym (joined seen id (ids_of ms))) ends) in
      none_first _ _ (ap (λ o. below (steps.Field id) (itself o)) here) (none_first _ _ (ap (below (steps.Field id)) inner) rest)

  pub no_breach_in_all : (d : Declarations) (ty : Ty) (n : ℕ) (ts : Trees) → MeetAll d ty ts → breach_of_all d ty n ts ≡ None
  no_breach_in_all d ty n no_trees m = refl
  no_breach_in_all d ty n (one_tree t ts) m = none_first _ _ (ap (below (steps.Item n)) (no_breach d ty t m.0)) (no_breach_in_all d ty (next_place n) ts m.1)

  pub no_breach_in_pairs : (d : Declarations) (key value : Ty) (n : ℕ) (ps : Pairs) → MeetPairs d key value ps → breach_of_pairs d key value n ps ≡ None
  no_breach_in_pairs d key value n no_pairs m = refl
  no_breach_in_pairs d key value n (one_pair k v ps) m =
      none_first _ _ (ap (below (steps.Key n)) (no_breach d key k m.0))
      (none_first _ _ (ap (below (steps.Part n)) (no_breach d value v m.1)) (no_breach_in_pairs d key value (next_place n) ps m.2))
