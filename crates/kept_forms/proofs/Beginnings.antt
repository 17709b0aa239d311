-- A field's head, or that of a container, where its bytes are those that the Compact protocol's writer would lay.
use Rattle.std.proofs.Common.{◌≡◌, ℕ, ℤ, ◌+◌, ◌-◌, ◌/◌, ◌%◌, ◌<◌, ◌≤◌, Bool, true, false, List, [], ◌∷◌, ◌++◌, take, drop, get_or, Some, Ok, Err, refl, sym, ap, subst, ◌∙◌, arith}
use Rattle.std.specs.Prelude.{IfOk, ◌==◌, slice_index}
use Rattle.std.proofs.lemmas.Bool.Decides.{nat_tests}
use Rattle.std.proofs.lemmas.List.{get_or-drop}
use Rattle.thrift_value.specs.declared.kind.Kind.{Kind}
use Rattle.thrift_value.specs.declared.kind.Kind.TheVariants as kinds
use Rattle.thrift_value.specs.Items.{Item, field, stop, bool_value, map_begin, set_begin, list_begin}
use Rattle.protocol_traits.specs.declared.forms.Container.{Container}
use Rattle.protocol_traits.specs.declared.forms.Container.TheVariants as containers
use Rattle.protocol_traits.specs.declared.forms.Lead.{Lead}
use Rattle.protocol_traits.specs.declared.forms.Lead.TheVariants as leads
use Rattle.protocol_traits.specs.declared.forms.Opening.{Opening}
use Rattle.protocol_traits.specs.declared.forms.Pairs.{Pairs}
use Rattle.protocol_traits.specs.declared.forms.Stand.{Stand}
use Rattle.protocol_traits.specs.declared.nest.Slot.{Slot}
use Rattle.protocol_traits.specs.declared.nest.Slot.TheVariants as slots
use Rattle.protocol_traits.specs.Forms.{container_kind, elements_item, lead_item, pairs_item, IsPast, StepsFlag, StepsInto, StepsLead, SpellsField, SpellsFlag, SpellsStop}
use Rattle.compact_protocol.specs.Codes.{flag_code, kind_of, code_of}
use Rattle.compact_protocol.specs.Forms.{next_read, stands_at, flag_read}
use Rattle.compact_protocol.specs.Plain.{Writer, last_of, writes_later, elements_spelling, field_spelling, spelling}
use Rattle.compact_protocol.specs.Scan.{Scan, ◌>>=◌, elements_at, field_at, flag_of, list_at, set_at, value_at}
use Rattle.compact_protocol.specs.WriteForms.{stands_at as writer_at}
use Rattle.kept_forms.specs.Keeping.{SpellsLead}
use Rattle.kept_forms.specs.InCompact.{own_after, own_bar, own_plain, KeepsElements, KeepsFlag, KeepsLead, KeepsPairs}
use Rattle.kept_forms.specs.Shortest.{IsOwnHead, IsOwnId, IsOwnSize}
use Rattle.kept_forms.proofs.Fronts.{Small, small_behind, laid_there}
use Rattle.kept_forms.proofs.Heads.{Own, OwnHead, OwnSize, IsElements, IsField, IsMap, elements_found, field_found, kind_code, lead_found, level_found, map_found}

-- the last byte between two places
last_there : (frame : List ℕ) (at behind : ℕ) → at < behind → get_or (drop at frame) (behind - at - 1) 0 ≡ get_or frame (behind - 1) 0
last_there frame at behind order =
    let place : at + (behind - at - 1) ≡ behind - 1 = omega arith in
    get_or-drop at frame (behind - at - 1) 0 ∙ ap (λ n. get_or frame n 0) place

first_there : (frame : List ℕ) (at : ℕ) → slice_index (drop at frame) 0 ≡ get_or frame at 0
first_there frame at = get_or-drop at frame 0 0 ∙ ap (λ (n : ℕ). get_or frame n 0) (omega arith)

-- ---- a struct's next field

own_there : (frame : List ℕ) (at behind : ℕ) (last id : ℤ) → at < behind → IsOwnId frame at behind last id → Own last id (drop at frame) (behind - at)
own_there frame at behind last id order own more =
    let both = own (omega (arith, more)) in
    (both.0, λ most. rw (last_there frame at behind order) (both.1 (omega (arith, most))))

-- the head of a field, with the code that stands there
head_there : (frame : List ℕ) (at behind : ℕ) (last id : ℤ) (kind : Kind) → Small frame → at < behind → IsOwnId frame at behind last id → field_at last (drop at frame) ≡ Ok (field id kind, behind - at)
    → (kind_of (slice_index (drop at frame) 0 % 16) ≡ Some kind) × (take behind frame ≡ take at frame ++ field_spelling last id (slice_index (drop at frame) 0 % 16))
head_there frame at behind last id kind small order own found =
    let f : IsField last (drop at frame) (field id kind, behind - at) = subst (λ scan. IfOk scan (IsField last (drop at frame))) found (field_found last (drop at frame) (small_behind at frame small)) in
    let order_too : at ≤ behind = omega (arith, order) in
    (f.0, laid_there frame (field_spelling last id (slice_index (drop at frame) 0 % 16)) at behind order_too (f.1 (own_there frame at behind last id order own)))

plain_code : (code : ℕ) (kind : Kind) → writes_later kind ≡ false → kind_of code ≡ Some kind → code ≡ code_of kind
plain_code code kind later is = kind_code code kind is (λ two. absurd (other code kind two later is))
  where
    other : (code : ℕ) (kind : Kind) → code ≡ 2 → writes_later kind ≡ false → kind_of code ≡ Some kind → ⊥
    other code kind two later is =
        let bool : Some kinds.Bool ≡ Some kind = sym (ap kind_of two) ∙ is in
        let same : kinds.Bool ≡ kind = cc in
        let never : true ≡ false = ap writes_later same ∙ later in
        absurd (cc)

field_plain : (w : Writer) (last id : ℤ) (kind : Kind) (up : List Slot) → writes_later kind ≡ false → w.nest ≡ slots.Fields last ∷ up → spelling w (field id kind) ≡ field_spelling last id (code_of kind)
unfolding spelling
field_plain w last id kind up later there = rw later (ap (λ nest. field_spelling (last_of nest) id (code_of kind)) there)

field_spelled : (frame : List ℕ) (at behind : ℕ) (opening : Opening) (last id : ℤ) (kind : Kind) → Small frame → at < behind → IsOwnId frame at behind last id → writes_later kind ≡ false → field_at last (drop at frame) ≡ Ok (field id kind, behind - at)
    → SpellsField own_bar own_plain writer_at frame at frame behind opening last (field id kind)
field_spelled frame at behind opening last id kind small order own later found up mark w there =
    let head = head_there frame at behind last id kind small order own found in
    let code = plain_code (slice_index (drop at frame) 0 % 16) kind later head.0 in
    (refl, head.1 ∙ ap (λ c. take at frame ++ field_spelling last id c) code ∙ ap (λ xs. take at frame ++ xs) (sym (field_plain w last id kind up later there)))

stop_spelled : (frame : List ℕ) (at behind : ℕ) (opening : Opening) (last : ℤ) (depth : ℕ) → Small frame → at < behind → field_at last (drop at frame) ≡ Ok (stop, behind - at)
    → SpellsStop own_bar own_plain writer_at frame at frame behind opening depth
unfolding spelling
stop_spelled frame at behind opening last depth small order found own up mark deep w there =
    let f : IsField last (drop at frame) (stop, behind - at) = subst (λ scan. IfOk scan (IsField last (drop at frame))) found (field_found last (drop at frame) (small_behind at frame small)) in
    let order_too : at ≤ behind = omega (arith, order) in
    (refl, laid_there frame (0 ∷ []) at behind order_too f)

lead_spelled : (frame : List ℕ) (at behind : ℕ) (opening : Opening) (last id : ℤ) (lead : Lead) → Small frame → ((lead ≡ leads.Bad → ⊥) → at < behind) → IsOwnId frame at behind last id
    → ((lead ≡ leads.Bad → ⊥) → field_at last (drop at frame) ≡ Ok (lead_item lead id, behind - at)) → SpellsLead next_read stands_at own_bar own_plain writer_at frame at opening last lead id behind
lead_spelled frame at behind opening last id leads.Bool small order own found = tt
lead_spelled frame at behind opening last id leads.Bad small order own found = tt
lead_spelled frame at behind opening last id leads.Stop small order own found = λ depth. stop_spelled frame at behind opening last depth small (order (λ never. absurd (cc))) (found (λ never. absurd (cc)))
lead_spelled frame at behind opening last id leads.I8 small order own found = field_spelled frame at behind opening last id kinds.I8 small (order (λ never. absurd (cc))) own refl (found (λ never. absurd (cc)))
lead_spelled frame at behind opening last id leads.I16 small order own found = field_spelled frame at behind opening last id kinds.I16 small (order (λ never. absurd (cc))) own refl (found (λ never. absurd (cc)))
lead_spelled frame at behind opening last id leads.I32 small order own found = field_spelled frame at behind opening last id kinds.I32 small (order (λ never. absurd (cc))) own refl (found (λ never. absurd (cc)))
lead_spelled frame at behind opening last id leads.I64 small order own found = field_spelled frame at behind opening last id kinds.I64 small (order (λ never. absurd (cc))) own refl (found (λ never. absurd (cc)))
lead_spelled frame at behind opening last id leads.Double small order own found = field_spelled frame at behind opening last id kinds.Double small (order (λ never. absurd (cc))) own refl (found (λ never. absurd (cc)))
lead_spelled frame at behind opening last id leads.Str small order own found = field_spelled frame at behind opening last id kinds.Str small (order (λ never. absurd (cc))) own refl (found (λ never. absurd (cc)))
lead_spelled frame at behind opening last id leads.Struct small order own found = field_spelled frame at behind opening last id kinds.Struct small (order (λ never. absurd (cc))) own refl (found (λ never. absurd (cc)))
lead_spelled frame at behind opening last id leads.Map small order own found = field_spelled frame at behind opening last id kinds.Map small (order (λ never. absurd (cc))) own refl (found (λ never. absurd (cc)))
lead_spelled frame at behind opening last id leads.Set small order own found = field_spelled frame at behind opening last id kinds.Set small (order (λ never. absurd (cc))) own refl (found (λ never. absurd (cc)))
lead_spelled frame at behind opening last id leads.List small order own found = field_spelled frame at behind opening last id kinds.List small (order (λ never. absurd (cc))) own refl (found (λ never. absurd (cc)))
lead_spelled frame at behind opening last id leads.Uuid small order own found = field_spelled frame at behind opening last id kinds.Uuid small (order (λ never. absurd (cc))) own refl (found (λ never. absurd (cc)))

pub next_kept : (frame : List ℕ) (at behind : ℕ) (opening : Opening) (last id : ℤ) (lead : Lead) → Small frame → ((lead ≡ leads.Bad → ⊥) → IsPast at frame behind) → IsOwnId frame at behind last id → StepsLead next_read stands_at frame at opening last lead id behind
    → KeepsLead frame at opening last lead id behind
next_kept frame at behind opening last id lead small past own steps =
    (steps, lead_spelled frame at behind opening last id lead small (λ good. (past good).0) own (λ good. lead_found frame at behind opening last id lead good steps))

-- ---- a bool field

flag_spelling : (w : Writer) (last id : ℤ) (value : Bool) (up : List Slot) → w.nest ≡ slots.Fields last ∷ up → spelling w (field id kinds.Bool) ++ spelling (record { nest = slots.Value kinds.Bool id ∷ up; before = last_of w.nest }) (bool_value value) ≡ field_spelling last id (flag_code value)
unfolding spelling
flag_spelling w last id value up there = ap (λ nest. field_spelling (last_of nest) id (flag_code value)) there

bool_code : (code : ℕ) → kind_of code ≡ Some kinds.Bool → code ≡ flag_code (code == 1)
bool_code code is = split (code == 1) refl
  where
    split : (one : Bool) → (code == 1) ≡ one → code ≡ flag_code one
    split true e = grind (arith, nat_tests, e)
    split false e = grind (arith, nat_tests, e)

pub flag_kept : (frame : List ℕ) (at named : ℕ) (opening : Opening) (last id : ℤ) → Small frame → IsPast at frame named → IsOwnId frame at named last id
    → KeepsFlag frame at opening last id named named
unfolding spelling flag_of
flag_kept frame at named opening last id small past own = (flag_of (drop at frame), steps, spelled)
  where
    byte : ℕ
    byte = slice_index (drop at frame) 0 % 16

    never_bad : leads.Bool ≡ leads.Bad → ⊥
    never_bad e = absurd (cc)

    steps : StepsFlag next_read stands_at frame at opening named (flag_of (drop at frame)) named
    steps any before up first = flag_read frame at named opening any before up (flag_of (drop at frame)) refl first

    spelled : StepsLead next_read stands_at frame at opening last leads.Bool id named → SpellsFlag own_bar own_plain writer_at own_after frame at frame named opening last id (flag_of (drop at frame))
    spelled lead up w mark later there =
        let found = lead_found frame at named opening last id leads.Bool never_bad lead in
        let head = head_there frame at named last id kinds.Bool small past.0 own found in
        (refl, refl, head.1 ∙ ap (λ c. take at frame ++ field_spelling last id c) (bool_code byte head.0) ∙ ap (λ nest. take at frame ++ field_spelling (last_of nest) id (flag_code (byte == 1))) (sym there))

-- ---- containers

size_there : (frame : List ℕ) (at behind size : ℕ) → at < behind → (get_or frame at 0 % 16 ≡ 2 → ⊥) → IsOwnSize frame at behind size → OwnSize (drop at frame) size (behind - at)
size_there frame at behind size order code own = (
  (λ two. code (sym (ap (λ b. b % 16) (first_there frame at)) ∙ two)),
  λ more.
      let both = own (omega (arith, more)) in
      (both.0, λ most. rw (last_there frame at behind order) (both.1 (omega (arith, most)))),
)

scanned : {X : Type 0} (P : X × ℕ → Type 0) (Q : Item × ℕ → Type 0) (make : X → Item) (scan : Scan X) → ((x : X × ℕ) → P x → Q (make x.0, x.1)) → IfOk scan P → IfOk (scan >>= λ x. Ok (make x.0, x.1)) Q
scanned P Q make (Ok x) go good = go x good
scanned P Q make (Err f) go good = tt

abbrev HasElements : List ℕ → Item × ℕ → Type 0
HasElements bytes (set_begin kind size, taken) = IsElements bytes ((kind, size), taken)
HasElements bytes (list_begin kind size, taken) = IsElements bytes ((kind, size), taken)
HasElements bytes (item, taken) = Unit {0}

set_found : (bytes : List ℕ) → Small bytes → IfOk (value_at kinds.Set bytes) (HasElements bytes)
unfolding value_at set_at
set_found bytes small = scanned (IsElements bytes) (HasElements bytes) (λ x. set_begin x.0 x.1) (elements_at bytes) (λ x good. good) (elements_found bytes small)

list_found : (bytes : List ℕ) → Small bytes → IfOk (value_at kinds.List bytes) (HasElements bytes)
unfolding value_at list_at
list_found bytes small = scanned (IsElements bytes) (HasElements bytes) (λ x. list_begin x.0 x.1) (elements_at bytes) (λ x good. good) (elements_found bytes small)

pub elements_kept : (frame : List ℕ) (at behind : ℕ) (stand : Stand) (container : Container) (kind : Kind) (size : ℕ) → Small frame → (container ≡ containers.Map → ⊥) → IsPast at frame behind → (get_or frame at 0 % 16 ≡ 2 → ⊥) → IsOwnSize frame at behind size
    → StepsInto next_read stands_at frame at stand (container_kind container) (elements_item container kind size) behind → KeepsElements frame at stand container kind size behind
unfolding spelling
elements_kept frame at behind stand containers.Map kind size small other past code own steps = absurd (other refl)
elements_kept frame at behind stand containers.Set kind size small other past code own steps =
    let found = level_found frame at behind stand kinds.Set (set_begin kind size) refl refl steps in
    let bytes : IsElements (drop at frame) ((kind, size), behind - at) = subst (λ scan. IfOk scan (HasElements (drop at frame))) found (set_found (drop at frame) (small_behind at frame small)) in
    let order : at ≤ behind = omega (arith, past.0) in
    (steps, λ opening nest mark calls w there. (refl, laid_there frame (elements_spelling kind size) at behind order (bytes (size_there frame at behind size past.0 code own))))
elements_kept frame at behind stand containers.List kind size small other past code own steps =
    let found = level_found frame at behind stand kinds.List (list_begin kind size) refl refl steps in
    let bytes : IsElements (drop at frame) ((kind, size), behind - at) = subst (λ scan. IfOk scan (HasElements (drop at frame))) found (list_found (drop at frame) (small_behind at frame small)) in
    let order : at ≤ behind = omega (arith, past.0) in
    (steps, λ opening nest mark calls w there. (refl, laid_there frame (elements_spelling kind size) at behind order (bytes (size_there frame at behind size past.0 code own))))

head_own : (frame : List ℕ) (at behind : ℕ) → at + 2 ≤ behind → IsOwnHead frame at behind → OwnHead (drop at frame) (behind - at)
head_own frame at behind long own =
    let last = last_there frame at behind (omega arith) in
    let place : behind - 1 - at - 1 ≡ behind - at - 1 - 1 = omega arith in (
      (λ two. own.0 (sym (ap (λ b. b / 16) last) ∙ two)),
      (λ two. own.1 (sym (ap (λ b. b % 16) last) ∙ two)),
      (λ more. subst (λ n. 0 < get_or (drop at frame) n 0) place (rw (last_there frame at (behind - 1) (omega (arith, long))) (own.2 (omega (arith, more, long))))),
    )

some_found : (bytes : List ℕ) → Small bytes → IfOk (value_at kinds.Map bytes) (IsMap bytes)
unfolding value_at
some_found bytes small = map_found bytes small

pub pairs_kept : (frame : List ℕ) (at : ℕ) (stand : Stand) (pairs : Pairs) → Small frame → at + 2 ≤ pairs.behind → 0 < pairs.size → IsOwnHead frame at pairs.behind
    → StepsInto next_read stands_at frame at stand kinds.Map (pairs_item pairs.key pairs.value pairs.size) pairs.behind → KeepsPairs frame at stand pairs
unfolding spelling
pairs_kept frame at stand pairs small long some own steps =
    let any : (pairs.size == 0) ≡ false = grind (arith, nat_tests) in
    let item = map_begin pairs.key pairs.value pairs.size in
    let found = level_found frame at pairs.behind stand kinds.Map item refl refl (rw any at steps) in
    let bytes : IsMap (drop at frame) (item, pairs.behind - at) = subst (λ scan. IfOk scan (IsMap (drop at frame))) found (some_found (drop at frame) (small_behind at frame small)) in
    let order : at ≤ pairs.behind = omega (arith, long) in
    (steps, λ more opening nest mark calls w there. (refl, laid_there frame _ at pairs.behind order (bytes (head_own frame at pairs.behind long own))))

pub none_kept : (frame : List ℕ) (at : ℕ) (stand : Stand) (pairs : Pairs) → pairs.size ≡ 0 → StepsInto next_read stands_at frame at stand kinds.Map (pairs_item pairs.key pairs.value pairs.size) pairs.behind → KeepsPairs frame at stand pairs
none_kept frame at stand pairs none steps = (steps, λ more. absurd (omega (arith, more, none)))
