-- Where the Binary protocol's reader goes from one place to another, what it reads is spelled between them.
use Rattle.std.proofs.Common.{◌≡◌, ℕ, ℤ, ◌+◌, ◌-◌, ◌<◌, ◌≤◌, Bool, false, List, [], ◌∷◌, ◌++◌, length, take, drop, Option, Some, None, Ok, Err, refl, sym, ap, subst, ◌∙◌, arith, append_assoc, length-drop}
use Rattle.std.specs.Prelude.{IfOk, IfSome, nat_lt, ◌==◌}
use Rattle.std.specs.Int.{w8, w16, w32, w64}
use Rattle.std.proofs.lemmas.Bool.Decides.{nat_tests}
use Rattle.thrift_value.specs.declared.kind.Kind.{Kind}
use Rattle.thrift_value.specs.declared.kind.Kind.TheVariants as kinds
use Rattle.thrift_value.specs.Items.{Item, field, stop, bool_value, text, struct_begin, map_begin, set_begin, list_begin, end}
use Rattle.protocol_traits.specs.declared.forms.Container.{Container}
use Rattle.protocol_traits.specs.declared.forms.Container.TheVariants as containers
use Rattle.protocol_traits.specs.declared.forms.Lead.{Lead}
use Rattle.protocol_traits.specs.declared.forms.Lead.TheVariants as leads
use Rattle.protocol_traits.specs.declared.forms.Opening.{Opening}
use Rattle.protocol_traits.specs.declared.forms.Pairs.{Pairs}
use Rattle.protocol_traits.specs.declared.forms.Stand.{Stand}
use Rattle.protocol_traits.specs.declared.nest.Slot.{Slot}
use Rattle.protocol_traits.specs.declared.nest.Slot.TheVariants as slots
use Rattle.protocol_traits.specs.declared.proto.Hint.{Hint}
use Rattle.protocol_traits.specs.declared.proto.Hint.TheVariants as hints
use Rattle.protocol_traits.specs.declared.proto.Mark.{Mark}
use Rattle.protocol_traits.specs.Forms.{container_kind, elements_item, lead_item, pairs_item, IsPast, Steps, StepsValue, StepsText, StepsInto, StepsLead, StepsFlag, StepsEnd, SpellsField, SpellsFlag, SpellsStop, SpellsValue}
use Rattle.protocol_traits.specs.Steps.{Step}
use Rattle.binary_protocol.specs.Forms.{next_read, stands_at, value_read}
use Rattle.binary_protocol.specs.Plain.{bar as own_bar, plain}
use Rattle.binary_protocol.specs.Reading.{State, reads}
use Rattle.binary_protocol.specs.Scan.{nests, signed_at, value_at, i8_at, i16_at, i32_at, i64_at, double_at, uuid_at}
use Rattle.binary_protocol.specs.WriteForms.{stands_at as writer_at}
use Rattle.kept_forms.specs.Keeping.{LeafOf, SpellsLead, leaf_item}
use Rattle.kept_forms.specs.InBinary.{own_plain, own_after, KeepsElements, KeepsEnd, KeepsFlag, KeepsLead, KeepsPairs, KeepsStruct, KeepsValue, width_of}
use Rattle.kept_forms.proofs.Fronts.{Small, small_behind, laid_there, calling}
use Rattle.kept_forms.proofs.Plainly.{IsPlain, reads_plain, reads_on}

-- one item that a reader reads
step_plain : (frame : List ℕ) (at behind : ℕ) (s new : State) (item : Item) (mark : Mark) → Small frame → s.frame ≡ frame → s.place ≡ at → new.place ≡ behind → reads s ≡ Ok (item, new)
    → IsPlain mark (drop at frame) item (behind - at)
step_plain frame at behind s new item mark small there begins ends e =
    let now : drop s.place s.frame ≡ drop at frame = ap (λ (n : ℕ). drop n s.frame) begins ∙ ap (drop at) there in
    let own : Small (drop s.place s.frame) = subst Small (sym now) (small_behind at frame small) in
    let read : IsPlain mark (drop s.place s.frame) item (new.place - s.place) =
    subst (λ (r : Step State Item). IfOk r (λ x. IsPlain mark (drop s.place s.frame) x.0 (x.1.place - s.place))) e (reads_plain mark s own) in
    let size : new.place - s.place ≡ behind - at = omega (arith, begins, ends) in
    subst (λ bytes. IsPlain mark bytes item (behind - at)) now (subst (λ n. IsPlain mark (drop s.place s.frame) item n) size read)

abbrev stood : List ℕ → ℕ → List Slot → State
stood frame at nest = record { frame = frame; place = at; value = 0; nest = nest }

pub kept_item : (frame : List ℕ) (at behind : ℕ) (opening : Opening) (nest : List Slot) (hint : Hint) (item : Item) (mark : Mark) → Small frame → Steps next_read stands_at frame at opening nest hint item behind
    → IsPlain mark (drop at frame) item (behind - at)
kept_item frame at behind opening nest hint item mark small steps =
    let one = steps (stood frame at nest) (refl, refl, refl) in
    step_plain frame at behind (stood frame at nest) one.0 item mark small refl refl one.2.1 one.1

pub kept_value : (frame : List ℕ) (at behind : ℕ) (stand : Stand) (kind : Kind) (item : Item) (mark : Mark) → Small frame → StepsValue next_read stands_at frame at stand kind item behind
    → IsPlain mark (drop at frame) item (behind - at)
kept_value frame at behind stand kind item mark small steps =
    let c = calling stand kind in
    kept_item frame at behind c.opening c.nest hints.Unknown item mark small (steps c.opening c.nest hints.Unknown c.calls)

pub kept_level : (frame : List ℕ) (at behind : ℕ) (stand : Stand) (kind : Kind) (item : Item) (mark : Mark) → Small frame → StepsInto next_read stands_at frame at stand kind item behind
    → IsPlain mark (drop at frame) item (behind - at)
kept_level frame at behind stand kind item mark small steps =
    let c = calling stand kind in
    kept_item frame at behind c.opening c.nest hints.Unknown item mark small (steps c.opening c.nest hints.Unknown c.calls (omega (arith, c.alone)))

pub kept_lead : (frame : List ℕ) (at behind : ℕ) (opening : Opening) (last id : ℤ) (lead : Lead) (mark : Mark) → Small frame → (lead ≡ leads.Bad → ⊥) → StepsLead next_read stands_at frame at opening last lead id behind
    → IsPlain mark (drop at frame) (lead_item lead id) (behind - at)
kept_lead frame at behind opening last id lead mark small good steps =
    kept_item frame at behind opening (slots.Fields last ∷ []) hints.Unknown (lead_item lead id) mark small (steps [] hints.Unknown good)

-- ---- what is spelled there

pub value_spelled : (frame : List ℕ) (at behind : ℕ) (stand : Stand) (kind : Kind) (item : Item) → Small frame → at ≤ behind → ((mark : Mark) → own_bar item mark ≡ None)
    → ((mark : Mark) → IsPlain mark (drop at frame) item (behind - at) → take (behind - at) (drop at frame) ≡ plain item mark) → StepsValue next_read stands_at frame at stand kind item behind
    → SpellsValue own_bar own_plain writer_at frame at frame behind stand kind item
value_spelled frame at behind stand kind item small order free is steps opening nest mark calls t there =
    (free mark, laid_there frame (plain item mark) at behind order (is mark (kept_value frame at behind stand kind item mark small steps)))

pub level_spelled : (frame : List ℕ) (at behind : ℕ) (stand : Stand) (kind : Kind) (item : Item) → Small frame → at ≤ behind → ((mark : Mark) → own_bar item mark ≡ None)
    → ((mark : Mark) → IsPlain mark (drop at frame) item (behind - at) → take (behind - at) (drop at frame) ≡ plain item mark) → StepsInto next_read stands_at frame at stand kind item behind
    → SpellsValue own_bar own_plain writer_at frame at frame behind stand kind item
level_spelled frame at behind stand kind item small order free is steps opening nest mark calls t there =
    (free mark, laid_there frame (plain item mark) at behind order (is mark (kept_level frame at behind stand kind item mark small steps)))

-- a string, whatever its position says
pub text_steps : (frame : List ℕ) (at behind : ℕ) (stand : Stand) (bytes : List ℕ) (hint : Hint) → StepsText next_read stands_at false hint frame at stand bytes behind
    → StepsValue next_read stands_at frame at stand kinds.Str (text bytes) behind
text_steps frame at behind stand bytes hint steps opening nest known calls = steps opening nest known (λ never. absurd (cc)) calls

-- ---- values of a known size

enough : (size most : ℕ) → most ≤ size → nat_lt size most ≡ false
enough size most long = grind (arith, nat_tests)

-- a value that is found wherever there are so many bytes
found_kept : (frame : List ℕ) (at taken width : ℕ) (stand : Stand) (kind : Kind) (value : LeafOf kind) → Small frame → at + width ≤ length frame → taken ≡ width → nests kind ≡ false
    → ((mark : Mark) → own_bar (leaf_item kind value) mark ≡ None) → ((mark : Mark) (n : ℕ) → IsPlain mark (drop at frame) (leaf_item kind value) n → take n (drop at frame) ≡ plain (leaf_item kind value) mark)
    → (nat_lt (length (drop at frame)) taken ≡ false → value_at kind (drop at frame) ≡ Ok (leaf_item kind value, taken)) → KeepsValue frame at stand kind (at + width)
found_kept frame at taken width stand kind value small within same flat free is found =
    let long : taken ≤ length (drop at frame) = omega (arith, length-drop at frame, same, within) in
    let steps = value_read frame at taken stand kind (leaf_item kind value) flat (found (enough (length (drop at frame)) taken long), long) in
    subst (λ n. KeepsValue frame at stand kind (at + n)) same (value, steps, value_spelled frame at (at + taken) stand kind (leaf_item kind value) small (omega arith) free (λ mark. is mark (at + taken - at)) steps)

-- a value of a kind whose values all have as many bytes
pub value_there : (frame : List ℕ) (at : ℕ) (stand : Stand) (kind : Kind) (width : ℕ) → Small frame → width_of kind ≡ Some width → at + width ≤ length frame → KeepsValue frame at stand kind (at + width)
unfolding value_at i8_at i16_at i32_at i64_at double_at uuid_at
value_there frame at stand kinds.I8 width small is within = found_kept frame at 1 width stand kinds.I8 (signed_at w8 (drop at frame)) small within (cc) refl (λ mark. refl) (λ mark n is. is) (λ long. rw long refl)
value_there frame at stand kinds.I16 width small is within = found_kept frame at 2 width stand kinds.I16 (signed_at w16 (drop at frame)) small within (cc) refl (λ mark. refl) (λ mark n is. is) (λ long. rw long refl)
value_there frame at stand kinds.I32 width small is within = found_kept frame at 4 width stand kinds.I32 (signed_at w32 (drop at frame)) small within (cc) refl (λ mark. refl) (λ mark n is. is) (λ long. rw long refl)
value_there frame at stand kinds.I64 width small is within = found_kept frame at 8 width stand kinds.I64 (signed_at w64 (drop at frame)) small within (cc) refl (λ mark. refl) (λ mark n is. is) (λ long. rw long refl)
value_there frame at stand kinds.Double width small is within = found_kept frame at 8 width stand kinds.Double (take 8 (drop at frame)) small within (cc) refl (λ mark. refl) (λ mark n is. is) (λ long. rw long refl)
value_there frame at stand kinds.Uuid width small is within = found_kept frame at 16 width stand kinds.Uuid (take 16 (drop at frame)) small within (cc) refl (λ mark. refl) (λ mark n is. is) (λ long. rw long refl)
value_there frame at stand kinds.Bool width small is within = absurd (cc)
value_there frame at stand kinds.Str width small is within = absurd (cc)
value_there frame at stand kinds.Struct width small is within = absurd (cc)
value_there frame at stand kinds.Map width small is within = absurd (cc)
value_there frame at stand kinds.Set width small is within = absurd (cc)
value_there frame at stand kinds.List width small is within = absurd (cc)

-- ---- a struct's next field

field_spelled : (frame : List ℕ) (at behind : ℕ) (opening : Opening) (last id : ℤ) (kind : Kind) → Small frame → at ≤ behind → Steps next_read stands_at frame at opening (slots.Fields last ∷ []) hints.Unknown (field id kind) behind
    → SpellsField own_bar own_plain writer_at frame at frame behind opening last (field id kind)
field_spelled frame at behind opening last id kind small order steps up mark t there =
    (refl, laid_there frame (plain (field id kind) mark) at behind order (kept_item frame at behind opening (slots.Fields last ∷ []) hints.Unknown (field id kind) mark small steps))

stop_spelled : (frame : List ℕ) (at behind : ℕ) (opening : Opening) (last : ℤ) (depth : ℕ) → Small frame → at ≤ behind → Steps next_read stands_at frame at opening (slots.Fields last ∷ []) hints.Unknown stop behind
    → SpellsStop own_bar own_plain writer_at frame at frame behind opening depth
stop_spelled frame at behind opening last depth small order steps own up mark deep t there =
    (refl, laid_there frame (plain stop mark) at behind order (kept_item frame at behind opening (slots.Fields last ∷ []) hints.Unknown stop mark small steps))

lead_spelled : (frame : List ℕ) (at behind : ℕ) (opening : Opening) (last id : ℤ) (lead : Lead) → Small frame → ((lead ≡ leads.Bad → ⊥) → IsPast at frame behind) → StepsLead next_read stands_at frame at opening last lead id behind
    → SpellsLead next_read stands_at own_bar own_plain writer_at frame at opening last lead id behind
lead_spelled frame at behind opening last id leads.Bool small past steps = tt
lead_spelled frame at behind opening last id leads.Bad small past steps = tt
lead_spelled frame at behind opening last id leads.Stop small past steps = λ depth.
    stop_spelled frame at behind opening last depth small (omega (arith, (past (λ never. absurd (cc))).0)) (steps [] hints.Unknown (λ never. absurd (cc)))
lead_spelled frame at behind opening last id leads.I8 small past steps =
    field_spelled frame at behind opening last id kinds.I8 small (omega (arith, (past (λ never. absurd (cc))).0)) (steps [] hints.Unknown (λ never. absurd (cc)))
lead_spelled frame at behind opening last id leads.I16 small past steps =
    field_spelled frame at behind opening last id kinds.I16 small (omega (arith, (past (λ never. absurd (cc))).0)) (steps [] hints.Unknown (λ never. absurd (cc)))
lead_spelled frame at behind opening last id leads.I32 small past steps =
    field_spelled frame at behind opening last id kinds.I32 small (omega (arith, (past (λ never. absurd (cc))).0)) (steps [] hints.Unknown (λ never. absurd (cc)))
lead_spelled frame at behind opening last id leads.I64 small past steps =
    field_spelled frame at behind opening last id kinds.I64 small (omega (arith, (past (λ never. absurd (cc))).0)) (steps [] hints.Unknown (λ never. absurd (cc)))
lead_spelled frame at behind opening last id leads.Double small past steps =
    field_spelled frame at behind opening last id kinds.Double small (omega (arith, (past (λ never. absurd (cc))).0)) (steps [] hints.Unknown (λ never. absurd (cc)))
lead_spelled frame at behind opening last id leads.Str small past steps =
    field_spelled frame at behind opening last id kinds.Str small (omega (arith, (past (λ never. absurd (cc))).0)) (steps [] hints.Unknown (λ never. absurd (cc)))
lead_spelled frame at behind opening last id leads.Struct small past steps =
    field_spelled frame at behind opening last id kinds.Struct small (omega (arith, (past (λ never. absurd (cc))).0)) (steps [] hints.Unknown (λ never. absurd (cc)))
lead_spelled frame at behind opening last id leads.Map small past steps =
    field_spelled frame at behind opening last id kinds.Map small (omega (arith, (past (λ never. absurd (cc))).0)) (steps [] hints.Unknown (λ never. absurd (cc)))
lead_spelled frame at behind opening last id leads.Set small past steps =
    field_spelled frame at behind opening last id kinds.Set small (omega (arith, (past (λ never. absurd (cc))).0)) (steps [] hints.Unknown (λ never. absurd (cc)))
lead_spelled frame at behind opening last id leads.List small past steps =
    field_spelled frame at behind opening last id kinds.List small (omega (arith, (past (λ never. absurd (cc))).0)) (steps [] hints.Unknown (λ never. absurd (cc)))
lead_spelled frame at behind opening last id leads.Uuid small past steps =
    field_spelled frame at behind opening last id kinds.Uuid small (omega (arith, (past (λ never. absurd (cc))).0)) (steps [] hints.Unknown (λ never. absurd (cc)))

pub next_kept : (frame : List ℕ) (at : ℕ) (opening : Opening) (last : ℤ) (found : Option (Lead × ℤ × ℕ)) → Small frame → IfSome found (λ x. (x.0 ≡ leads.Bad → ⊥) → IsPast at frame x.2)
    → IfSome found (λ x. StepsLead next_read stands_at frame at opening last x.0 x.1 x.2) → IfSome found (λ x. KeepsLead frame at opening last x.0 x.1 x.2)
next_kept frame at opening last (Some x) small past steps = (steps, lead_spelled frame at x.2 opening last x.1 x.0 small past steps)
next_kept frame at opening last None small past steps = tt

-- ---- a bool field

abbrev after_step : State → Step State Item → State
after_step s (Ok x) = x.1
after_step s (Err f) = s

same_state : (step : Step State Item) (item : Item) (one two : State) → step ≡ Ok (item, one) → step ≡ Ok (item, two) → two ≡ one
same_state step item one two first second =
    let both : Ok (item, two) ≡ Ok (item, one) = sym second ∙ first in
    ap (after_step one) both

pub flag_kept : (frame : List ℕ) (at named behind : ℕ) (opening : Opening) (last id : ℤ) (value : Bool) → Small frame → at ≤ named → StepsFlag next_read stands_at frame at opening named value behind
    → KeepsFlag frame at opening last id named behind
flag_kept frame at named behind opening last id value small first_order steps = (value, steps, spelled)
  where
    never_bad : leads.Bool ≡ leads.Bad → ⊥
    never_bad e = absurd (cc)

    spelled : StepsLead next_read stands_at frame at opening last leads.Bool id named → SpellsFlag own_bar own_plain writer_at own_after frame at frame behind opening last id value
    spelled lead up t mark later there =
        let s = stood frame at (slots.Fields last ∷ []) in
        let first : (hint : Hint) → Steps next_read stands_at frame at opening (slots.Fields last ∷ []) hint (field id kinds.Bool) named = λ hint. lead [] hint never_bad in
        let one = first hints.Unknown s (refl, refl, refl) in
        let two = steps id last [] first s hints.Unknown hints.Unknown (refl, refl, refl) in
        let same = same_state (reads s) (field id kinds.Bool) one.0 two.0 one.1 two.2 in
        let head = step_plain frame at named s one.0 (field id kinds.Bool) mark small refl refl one.2.1 one.1 in
        let ends : two.1.place ≡ behind = two.4.1 in
        let begins : two.0.place ≡ named = ap (λ (m : State). m.place) same ∙ one.2.1 in
        let on : two.0.place ≤ two.1.place = subst (λ (r : Step State Item). IfOk r (λ x. two.0.place ≤ x.1.place)) two.3 (reads_on two.0) in
        let order : named ≤ behind = omega (arith, begins, ends, on) in
        let body = step_plain frame named behind two.0 two.1 (bool_value value) later small (ap (λ (m : State). m.frame) same ∙ one.2.0) begins ends two.3 in
        let one_text = plain (field id kinds.Bool) mark in
        let two_text = plain (bool_value value) later in
        (refl, refl, laid_there frame two_text named behind order body ∙ ap (λ xs. xs ++ two_text) (laid_there frame one_text at named first_order head) ∙ append_assoc (take at frame) one_text two_text)

-- ---- containers

pub elements_kept : (frame : List ℕ) (at : ℕ) (stand : Stand) (container : Container) (found : Option (Kind × ℕ × ℕ)) → Small frame → (container ≡ containers.Map → ⊥) → IfSome found (λ x. IsPast at frame x.2)
    → IfSome found (λ x. StepsInto next_read stands_at frame at stand (container_kind container) (elements_item container x.0 x.1) x.2) → IfSome found (λ x. KeepsElements frame at stand container x.0 x.1 x.2)
elements_kept frame at stand container None small other past steps = tt
elements_kept frame at stand containers.Map (Some x) small other past steps = absurd (other refl)
elements_kept frame at stand containers.Set (Some x) small other past steps =
    (steps, level_spelled frame at x.2 stand kinds.Set (set_begin x.0 x.1) small (omega (arith, past.0)) (λ mark. refl) (λ mark is. is) steps)
elements_kept frame at stand containers.List (Some x) small other past steps =
    (steps, level_spelled frame at x.2 stand kinds.List (list_begin x.0 x.1) small (omega (arith, past.0)) (λ mark. refl) (λ mark is. is) steps)

pub pairs_kept : (frame : List ℕ) (at : ℕ) (stand : Stand) (found : Option Pairs) → Small frame → IfSome found (λ x. IsPast at frame x.behind)
    → IfSome found (λ x. StepsInto next_read stands_at frame at stand kinds.Map (pairs_item x.key x.value x.size) x.behind) → IfSome found (λ x. KeepsPairs frame at stand x)
pairs_kept frame at stand None small past steps = tt
pairs_kept frame at stand (Some x) small past steps = (steps, some)
  where
    some : 0 < x.size → SpellsValue own_bar own_plain writer_at frame at frame x.behind stand kinds.Map (map_begin x.key x.value x.size)
    some more =
        let any : (x.size == 0) ≡ false = grind (arith, nat_tests) in
        level_spelled frame at x.behind stand kinds.Map (map_begin x.key x.value x.size) small (omega (arith, past.0)) (λ mark. refl) (λ mark is. is) (rw any at steps)

pub struct_kept : (frame : List ℕ) (at : ℕ) (stand : Stand) (found : Option ℕ) → Small frame → IfSome found (λ x. (at ≤ x) × (x ≤ length frame))
    → IfSome found (λ x. StepsInto next_read stands_at frame at stand kinds.Struct struct_begin x) → IfSome found (λ x. KeepsStruct frame at stand x)
struct_kept frame at stand None small within steps = tt
struct_kept frame at stand (Some x) small within steps = (steps, level_spelled frame at x stand kinds.Struct struct_begin small within.0 (λ mark. refl) (λ mark is. is) steps)

pub end_kept : (frame : List ℕ) (at : ℕ) (container : Container) (found : Option ℕ) → Small frame → IfSome found (λ x. (at ≤ x) × (x ≤ length frame))
    → IfSome found (λ x. StepsEnd next_read stands_at frame at container x) → IfSome found (λ x. KeepsEnd frame at container x)
end_kept frame at container None small within steps = tt
end_kept frame at container (Some x) small within steps =
    (steps, λ opening nest mark done t there. (refl, laid_there frame (plain end mark) at x within.0 (kept_item frame at x opening nest hints.Unknown end mark small (steps opening nest hints.Unknown done))))
