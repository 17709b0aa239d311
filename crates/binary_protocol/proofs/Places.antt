-- An item that was found at a place of a frame is read there, and the place behind it is past the item's own.
use Rattle.std.proofs.Common.{◌≡◌, ℕ, ℤ, ◌+◌, ◌-◌, ◌≤◌, ◌<◌, false, List, ◌∷◌, length, drop, Option, Some, None, refl, sym, ap, subst, ◌∙◌, arith, length-drop}
use Rattle.std.specs.Prelude.{IfSome, nat_lt, slice_index}
use Rattle.std.proofs.lemmas.Bool.Decides.{nat_tests}
use Rattle.std.proofs.lemmas.List.{drop-drop, get_or-drop}
use Rattle.thrift_value.specs.declared.kind.Kind.{Kind}
use Rattle.thrift_value.specs.declared.kind.Kind.TheVariants as kinds
use Rattle.thrift_value.specs.Items.{Item, text}
use Rattle.protocol_traits.specs.declared.forms.Container.{Container}
use Rattle.protocol_traits.specs.declared.forms.Container.TheVariants as containers
use Rattle.protocol_traits.specs.declared.forms.Lead.{Lead}
use Rattle.protocol_traits.specs.declared.forms.Lead.TheVariants as leads
use Rattle.protocol_traits.specs.declared.forms.Opening.{Opening}
use Rattle.protocol_traits.specs.declared.forms.Pairs.{Pairs}
use Rattle.protocol_traits.specs.declared.forms.Stand.{Stand}
use Rattle.protocol_traits.specs.declared.nest.Slot.TheVariants as slots
use Rattle.protocol_traits.specs.Forms.{lead_item, container_kind, elements_item, pairs_item, IsPast, Steps, StepsLead, StepsValue, StepsInto}
use Rattle.binary_protocol.specs.Codes.{kind_of_code}
use Rattle.binary_protocol.specs.Scan.{field_at, string_at, text_at, value_at, nests, size_at, elements_at, map_at, is_bad_kind}
use Rattle.binary_protocol.specs.Forms.{Finds, IsGood, next_read, stands_at, value_read, level_read, field_read, lead_past, found_past, elements_there, pairs_found, blank_found}

-- ---- a value that takes so many bytes

pub value_seen : {X : Type 0} (frame : List ℕ) (at taken : ℕ) (stand : Stand) (kind : Kind) (item : X → Item) (r : Option (X × ℕ)) → nests kind ≡ false
    → IfSome r (λ x. x.1 ≡ at + taken) → IfSome r (λ x. Finds (drop at frame) (value_at kind (drop at frame)) (item x.0) taken)
    → IfSome r (λ x. StepsValue next_read stands_at frame at stand kind (item x.0) x.1)
value_seen frame at taken stand kind item None flat place found = tt
value_seen frame at taken stand kind item (Some x) flat place found =
    subst (StepsValue next_read stands_at frame at stand kind (item x.0)) (sym place) (value_read frame at taken stand kind (item x.0) flat found)

pub value_past : {X : Type 0} (frame : List ℕ) (at taken : ℕ) (kind : Kind) (item : X → Item) (r : Option (X × ℕ)) → at ≤ length frame → 1 ≤ taken
    → IfSome r (λ x. x.1 ≡ at + taken) → IfSome r (λ x. Finds (drop at frame) (value_at kind (drop at frame)) (item x.0) taken)
    → IfSome r (λ x. IsPast at frame x.1)
value_past frame at taken kind item None within some place found = tt
value_past frame at taken kind item (Some x) within some place found =
    subst (IsPast at frame) (sym place) (found_past frame at taken (value_at kind (drop at frame)) (item x.0) within found some)

-- ---- a field's kind and id, or the end of the struct

pub lead_seen : (frame : List ℕ) (at : ℕ) (opening : Opening) (last : ℤ) (r : Option (Lead × ℤ × ℕ))
    → IfSome r (λ x. (at ≤ x.2) × (x.2 ≤ length frame)) → IfSome r (λ x. IsGood x.0 → Finds (drop at frame) (field_at (drop at frame)) (lead_item x.0 x.1) (x.2 - at))
    → IfSome r (λ x. StepsLead next_read stands_at frame at opening last x.0 x.1 x.2)
lead_seen frame at opening last None within found = tt
lead_seen frame at opening last (Some x) within found = λ up hint good.
    let there : at + (x.2 - at) ≡ x.2 = omega (arith, within.0) in
    subst (Steps next_read stands_at frame at opening (slots.Fields last ∷ up) hint (lead_item x.0 x.1)) there (field_read frame at (x.2 - at) opening last up hint (lead_item x.0 x.1) (found good))

pub lead_goes : (frame : List ℕ) (at : ℕ) (r : Option (Lead × ℤ × ℕ)) → at ≤ length frame
    → IfSome r (λ x. (at ≤ x.2) × (x.2 ≤ length frame)) → IfSome r (λ x. IsGood x.0 → Finds (drop at frame) (field_at (drop at frame)) (lead_item x.0 x.1) (x.2 - at))
    → IfSome r (λ x. (x.0 ≡ leads.Bad → ⊥) → IsPast at frame x.2)
lead_goes frame at None long within found = tt
lead_goes frame at (Some x) long within found = λ good.
    let there : at + (x.2 - at) ≡ x.2 = omega (arith, within.0) in
    subst (IsPast at frame) there (lead_past frame at (x.2 - at) x.0 x.1 long (found good))

-- ---- a text

string_text : (bytes whole : List ℕ) (taken : ℕ) → Finds bytes (string_at bytes) whole taken → Finds bytes (value_at kinds.Str bytes) (text whole) taken
unfolding value_at text_at
string_text bytes whole taken found = rw found.0 (refl, found.1)

pub text_seen : (frame whole : List ℕ) (at behind : ℕ) (stand : Stand) → at ≤ behind → Finds (drop at frame) (string_at (drop at frame)) whole (behind - at)
    → StepsValue next_read stands_at frame at stand kinds.Str (text whole) behind
text_seen frame whole at behind stand past found =
    let there : at + (behind - at) ≡ behind = omega (arith, past) in
    subst (StepsValue next_read stands_at frame at stand kinds.Str (text whole)) there (value_read frame at (behind - at) stand kinds.Str (text whole) refl (string_text (drop at frame) whole (behind - at) found))

-- ---- what stands before the elements of a container

byte_there : (frame : List ℕ) (at n here : ℕ) → here ≡ at + n → slice_index frame here ≡ slice_index (drop at frame) n
byte_there frame at n here is = ap (slice_index frame) is ∙ sym (get_or-drop at frame n 0)

size_there : (frame : List ℕ) (at n size : ℕ) → Finds (drop (at + n) frame) (size_at (drop (at + n) frame)) size 4 → Finds (drop n (drop at frame)) (size_at (drop n (drop at frame))) size 4
size_there frame at n size = subst (λ (bytes : List ℕ). Finds bytes (size_at bytes) size 4) (sym (drop-drop n at frame))

pub elements_found : (frame : List ℕ) (at size : ℕ) (kind : Kind) → Finds (drop (at + 1) frame) (size_at (drop (at + 1) frame)) size 4
    → Some kind ≡ kind_of_code (slice_index frame at) → Finds (drop at frame) (elements_at (drop at frame)) (kind, size) 5
unfolding elements_at
elements_found frame at size kind found known =
    let long : 5 ≤ length (drop at frame) = omega (arith, found.1, length-drop at frame, length-drop (at + 1) frame) in
    let some : nat_lt (length (drop at frame)) 1 ≡ false = grind (arith, nat_tests, long) in
    let first : Some kind ≡ kind_of_code (slice_index (drop at frame) 0) = known ∙ ap kind_of_code (byte_there frame at 0 at (omega arith)) in
    rw (some, ← first, (size_there frame at 1 size found).0) (refl, long)

pub kinds_found : (frame : List ℕ) (at size : ℕ) (key value : Kind) → Finds (drop (at + 2) frame) (size_at (drop (at + 2) frame)) size 4
    → Some key ≡ kind_of_code (slice_index frame at) → Some value ≡ kind_of_code (slice_index frame (at + 1)) → Finds (drop at frame) (map_at (drop at frame)) (pairs_item key value size) 6
kinds_found frame at size key value found first second =
    pairs_found (drop at frame) key value size (omega (arith, found.1, length-drop at frame, length-drop (at + 2) frame)) (first ∙ ap kind_of_code (byte_there frame at 0 at (omega arith)))
    (second ∙ ap kind_of_code (byte_there frame at 1 (at + 1) refl)) (size_there frame at 2 size found)

pub none_found : (frame : List ℕ) (at : ℕ) (key value : Kind) → Finds (drop (at + 2) frame) (size_at (drop (at + 2) frame)) 0 4
    → is_bad_kind (slice_index frame at) ≡ false → is_bad_kind (slice_index frame (at + 1)) ≡ false → Finds (drop at frame) (map_at (drop at frame)) (pairs_item key value 0) 6
none_found frame at key value found first second =
    blank_found (drop at frame) key value (omega (arith, found.1, length-drop at frame, length-drop (at + 2) frame)) (sym (ap is_bad_kind (byte_there frame at 0 at (omega arith))) ∙ first)
    (sym (ap is_bad_kind (byte_there frame at 1 (at + 1) refl)) ∙ second) (size_there frame at 2 0 found)

pub elements_seen : (frame : List ℕ) (at : ℕ) (stand : Stand) (container : Container) (r : Option (Kind × ℕ × ℕ)) → (container ≡ containers.Map → ⊥)
    → IfSome r (λ x. x.2 ≡ at + 5) → IfSome r (λ x. Finds (drop at frame) (elements_at (drop at frame)) (x.0, x.1) 5)
    → IfSome r (λ x. StepsInto next_read stands_at frame at stand (container_kind container) (elements_item container x.0 x.1) x.2)
elements_seen frame at stand container None other place found = tt
elements_seen frame at stand container (Some x) other place found =
    let item = elements_item container x.0 x.1 in
    subst (StepsInto next_read stands_at frame at stand (container_kind container) item) (sym place)
    (level_read frame at 5 stand (container_kind container) item (elements_there container (drop at frame) x.0 x.1 other found))

pub elements_past : (frame : List ℕ) (at : ℕ) (r : Option (Kind × ℕ × ℕ)) → at ≤ length frame
    → IfSome r (λ x. x.2 ≡ at + 5) → IfSome r (λ x. Finds (drop at frame) (elements_at (drop at frame)) (x.0, x.1) 5) → IfSome r (λ x. IsPast at frame x.2)
elements_past frame at None within place found = tt
elements_past frame at (Some x) within place found = subst (IsPast at frame) (sym place) (found_past frame at 5 (elements_at (drop at frame)) (x.0, x.1) within found (omega arith))

pub pairs_seen : (frame : List ℕ) (at : ℕ) (stand : Stand) (r : Option Pairs)
    → IfSome r (λ x. x.behind ≡ at + 6) → IfSome r (λ x. Finds (drop at frame) (map_at (drop at frame)) (pairs_item x.key x.value x.size) 6)
    → IfSome r (λ x. StepsInto next_read stands_at frame at stand kinds.Map (pairs_item x.key x.value x.size) x.behind)
unfolding value_at
pairs_seen frame at stand None place found = tt
pairs_seen frame at stand (Some x) place found =
    let item = pairs_item x.key x.value x.size in
    subst (StepsInto next_read stands_at frame at stand kinds.Map item) (sym place) (level_read frame at 6 stand kinds.Map item found)

pub pairs_past : (frame : List ℕ) (at : ℕ) (r : Option Pairs) → at ≤ length frame
    → IfSome r (λ x. x.behind ≡ at + 6) → IfSome r (λ x. Finds (drop at frame) (map_at (drop at frame)) (pairs_item x.key x.value x.size) 6) → IfSome r (λ x. IsPast at frame x.behind)
pairs_past frame at None within place found = tt
pairs_past frame at (Some x) within place found =
    subst (IsPast at frame) (sym place) (found_past frame at 6 (map_at (drop at frame)) (pairs_item x.key x.value x.size) within found (omega arith))

pub pairs_long : (at : ℕ) (r : Option Pairs) → IfSome r (λ x. x.behind ≡ at + 6) → IfSome r (λ x. 0 < x.size → at + 2 ≤ x.behind)
pairs_long at None place = tt
pairs_long at (Some x) place = λ some. omega (arith, place)
