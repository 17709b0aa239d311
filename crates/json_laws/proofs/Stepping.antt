-- One item that is read, and what the open levels held before it.
use Rattle.std.proofs.Common.{◌≡◌, ℕ, suc, ◌+◌, ◌<◌, Bool, true, false, List, [], ◌∷◌, length, drop, Some, Ok, Err, refl, ap, ◌∙◌, sym, subst, arith}
use Rattle.std.specs.Prelude.{nat_le, ◌==◌, ◌&&◌, if◌then◌else◌}
use Rattle.std.proofs.lemmas.Bool.Decides.{nat_tests}
use Rattle.std.proofs.lemmas.List.{drop-drop}
use Rattle.thrift_value.specs.declared.kind.Kind.{Kind}
use Rattle.thrift_value.specs.Items.{Item}
use Rattle.protocol_traits.specs.declared.fault.Reason.TheVariants as reasons
use Rattle.protocol_traits.specs.declared.nest.Slot.{Slot}
use Rattle.protocol_traits.specs.declared.nest.Slot.TheVariants as slots
use Rattle.protocol_traits.specs.declared.proto.Hint.{Hint}
use Rattle.protocol_traits.specs.Stack.{first_of}
use Rattle.protocol_traits.specs.Follow.{spent}
use Rattle.type_tables.specs.declared.declared.Ty.{Ty}
use Rattle.type_tables.specs.Declarations.{Declarations}
use Rattle.type_walk.specs.declared.levels.Level.{Level}
use Rattle.type_walk.specs.Positions.{Position, under, passed, standing}
use Rattle.json_protocol.specs.declared.opening.Opening.{Opening}
use Rattle.json_protocol.specs.declared.opening.Opening.TheVariants as openings
use Rattle.json_protocol.specs.Scan.{Scan, gap, further, shifted, mark_at}
use Rattle.json_protocol.specs.Values.{end_at, opens, value_at, value_in}
use Rattle.json_protocol.specs.Reading.{lead_by, lead_pairs, lead_fields, lead_key, lead_at, item_in, begun_at, led, scan_at}
use Rattle.json_protocol.specs.Writing.{is_key}
use Rattle.json_protocol.specs.Grammar.{Tokens, mark}
use Rattle.binary_laws.proofs.Walking.{CallsFor}
use Rattle.json_laws.specs.Positions.{element_of, key_of, value_of}
use Rattle.json_laws.proofs.Marks.{Lies}
use Rattle.json_laws.proofs.Places.{struct_steady, at_type, at_level}
use Rattle.json_laws.specs.Fronts.{leading, field_leading}
use Rattle.json_laws.proofs.Inverse.{is_read, same_read, no_fault, bound, past_fault, gap_back, mark_behind}
use Rattle.json_laws.proofs.Levels.{value_type}
use Rattle.json_laws.proofs.Begun.{TiedOne, IsGood}

-- ---- the marks before an item

-- what stands at a place stands behind these marks
abbrev pub Leads : (Tokens → Tokens) → List ℕ → ℕ → Type 0
Leads marks bytes place = (tail token : List ℕ) (more : Tokens) → Lies tail (token ∷ more) (drop place bytes) → Lies tail (marks (token ∷ more)) bytes

pub one_lead : (m : ℕ) (bytes : List ℕ) (x : Unit {0}) (place : ℕ) → lead_by m bytes ≡ is_read (x, place) → Leads (λ t. mark m ∷ t) bytes place
one_lead m bytes x place e =
    let a = bound (further 0 (mark_at m) bytes) _ (x, place) e in
    let same = same_read tt x (a.0.1 + gap (drop a.0.1 bytes)) place a.2 in
    λ tail token more lies. mark_behind m 0 bytes a.0.0 a.0.1 a.1 tail (token ∷ more) (gap_back tail a.0.1 bytes token more (subst (λ n. Lies tail (token ∷ more) (drop n bytes)) (sym same.1) lies))

pub two_lead : (bytes : List ℕ) (x : Unit {0}) (place : ℕ) → lead_pairs bytes ≡ is_read (x, place) → Leads (λ t. mark 44 ∷ mark 123 ∷ t) bytes place
unfolding lead_pairs
two_lead bytes x place e =
    let a = bound (further 0 (mark_at 44) bytes) _ (x, place) e in
    let b = bound (further a.0.1 (mark_at 123) bytes) _ (x, place) a.2 in
    let same = same_read tt x (b.0.1 + gap (drop b.0.1 bytes)) place b.2 in
    λ tail token more lies.
    mark_behind 44 0 bytes a.0.0 a.0.1 a.1 tail (mark 123 ∷ token ∷ more)
    (mark_behind 123 a.0.1 bytes b.0.0 b.0.1 b.1 tail (token ∷ more) (gap_back tail b.0.1 bytes token more (subst (λ n. Lies tail (token ∷ more) (drop n bytes)) (sym same.1) lies)))

pub no_lead : (bytes : List ℕ) (x : Unit {0}) (place : ℕ) → is_read (tt, gap bytes) ≡ is_read (x, place) → Leads (λ t. t) bytes place
no_lead bytes x place e =
    let same = same_read tt x (gap bytes) place e in
    let start : place ≡ 0 + gap (drop 0 bytes) = sym same.1 ∙ omega arith in
    λ tail token more lies. gap_back tail 0 bytes token more (subst (λ n. Lies tail (token ∷ more) (drop n bytes)) start lies)

pub field_lead : (opening : Opening) (bytes : List ℕ) (x : Unit {0}) (place : ℕ) → lead_fields opening bytes ≡ is_read (x, place) → Leads (field_leading opening) bytes place
unfolding lead_fields
field_lead openings.Body bytes x place e = one_lead 123 bytes x place e
field_lead openings.New bytes x place e = no_lead bytes x place e
field_lead openings.Old bytes x place e = one_lead 125 bytes x place e

-- ---- an item behind its marks

pub record LedBack (depth : ℕ) (opening : Opening) (hint : Hint) (slot : Slot) (bytes : List ℕ) (item : Item) (start taken : ℕ) : Type 0 where
  pub place : ℕ
  pub lead : lead_at opening slot bytes ≡ is_read (tt, place)
  pub inner : ℕ
  pub read : item_in depth opening hint slot (drop place bytes) ≡ is_read (item, inner)
  pub sum : place + inner ≡ taken
  pub begins : place ≡ start

abbrev pub answer : (Item × ℕ) × ℕ → Scan (Item × ℕ)
answer x = Ok x

begun_back : (place : ℕ) (scan : Scan Item) (item : Item) (start taken : ℕ) → begun_at place (shifted place scan) ≡ answer ((item, start), taken) → (inner : ℕ) × (scan ≡ is_read (item, inner)) × (place + inner ≡ taken) × (place ≡ start)
begun_back place (Ok x) item start taken e =
    let same = same_read (x.0, place) (item, start) (place + x.1) taken e in
    (x.1, ap (λ (y : Item × ℕ). is_read (y.0, x.1)) same.0, same.1, ap (λ (y : Item × ℕ). y.1) same.0)
begun_back place (Err f) item start taken e = absurd (no_fault _ ((item, start), taken) e)

led_by : (depth : ℕ) (opening : Opening) (hint : Hint) (slot : Slot) (bytes : List ℕ) (item : Item) (start taken : ℕ) (lead : Scan (Unit {0})) → lead_at opening slot bytes ≡ lead
    → led depth opening hint slot bytes lead ≡ answer ((item, start), taken) → LedBack depth opening hint slot bytes item start taken
led_by depth opening hint slot bytes item start taken (Ok x) is e =
    let b = begun_back x.1 (item_in depth opening hint slot (drop x.1 bytes)) item start taken e in
    record { place = x.1; lead = is; inner = b.0; read = b.1; sum = b.2; begins = b.3 }
led_by depth opening hint slot bytes item start taken (Err f) is e = absurd (no_fault f ((item, start), taken) e)

pub led_back : (depth : ℕ) (opening : Opening) (hint : Hint) (slot : Slot) (bytes : List ℕ) (item : Item) (start taken : ℕ) → scan_at depth opening hint (Some slot) bytes ≡ answer ((item, start), taken) → LedBack depth opening hint slot bytes item start taken
led_back depth opening hint slot bytes item start taken e = led_by depth opening hint slot bytes item start taken (lead_at opening slot bytes) refl e

-- what is left behind an item is left behind it and its marks
pub moved_on : (tail : List ℕ) (more : Tokens) (bytes : List ℕ) (place inner taken : ℕ) → place + inner ≡ taken → Lies tail more (drop taken bytes) → Lies tail more (drop inner (drop place bytes))
moved_on tail more bytes place inner taken e lies = subst (Lies tail more) (ap (λ n. drop n bytes) (sym e) ∙ sym (drop-drop inner place bytes)) lies

-- a value behind its marks
pub record CalledBack (nest : List Slot) (opening : Opening) (hint : Hint) (k : Kind) (bytes : List ℕ) (item : Item) (start taken : ℕ) : Type 0 where
  pub place : ℕ
  pub leads : Leads (leading opening nest) bytes place
  pub inner : ℕ
  pub read : value_in (length nest) (is_key (first_of nest)) hint k (drop place bytes) ≡ is_read (item, inner)
  pub sum : place + inner ≡ taken
  pub begins : place ≡ start

pub more_left : (left : ℕ) → 0 < left → (left == 0) ≡ false
more_left left some = grind (arith, nat_tests)

pub called_back : (nest : List Slot) (opening : Opening) (hint : Hint) (k : Kind) (bytes : List ℕ) (item : Item) (start taken : ℕ) → CallsFor nest k → scan_at (length nest) opening hint (first_of nest) bytes ≡ answer ((item, start), taken)
    → CalledBack nest opening hint k bytes item start taken
unfolding lead_at lead_key item_in
called_back [] opening hint k bytes item start taken c e = absurd c
called_back (slots.Fields last ∷ up) opening hint k bytes item start taken c e = absurd c
called_back (slots.Value kind id ∷ up) opening hint k bytes item start taken c e =
    let l = led_back (suc (length up)) opening hint (slots.Value kind id) bytes item start taken e in
    record { place = l.place; leads = one_lead 58 bytes tt l.place l.lead; inner = l.inner; read = subst (λ z. value_in (suc (length up)) false hint z (drop l.place bytes) ≡ is_read (item, l.inner)) c l.read; sum = l.sum; begins = l.begins }
called_back (slots.Elements kind left ∷ up) opening hint k bytes item start taken c e =
    let l = led_back (suc (length up)) opening hint (slots.Elements kind left) bytes item start taken e in
    let t = more_left left c.1 in
    record {
      place = l.place;
      leads = one_lead 44 bytes tt l.place (subst (λ b. (if b then Ok (tt, gap bytes) else lead_by 44 bytes) ≡ is_read (tt, l.place)) t l.lead);
      inner = l.inner;
      read = subst (λ z. value_in (suc (length up)) false hint z (drop l.place bytes) ≡ is_read (item, l.inner)) c.0
          (subst (λ b. (if b then end_at (drop l.place bytes) else value_in (suc (length up)) false hint kind (drop l.place bytes)) ≡ is_read (item, l.inner)) t l.read);
      sum = l.sum;
      begins = l.begins;
    }
called_back (slots.Keys key value left ∷ up) opening hint k bytes item start taken c e =
    let l = led_back (suc (length up)) opening hint (slots.Keys key value left) bytes item start taken e in
    let t = more_left left c.1 in
    record {
      place = l.place;
      leads = key_lead opening (subst (λ b. (if b then lead_by 125 bytes else lead_key opening bytes) ≡ is_read (tt, l.place)) t l.lead);
      inner = l.inner;
      read = subst (λ z. value_in (suc (length up)) true hint z (drop l.place bytes) ≡ is_read (item, l.inner)) c.0
          (subst (λ b. (if b then end_at (drop l.place bytes) else value_in (suc (length up)) true hint key (drop l.place bytes)) ≡ is_read (item, l.inner)) t l.read);
      sum = l.sum;
      begins = l.begins;
    }
  where
    key_lead : (o : Opening) {place : ℕ} → lead_key o bytes ≡ is_read (tt, place) → Leads (leading o (slots.Keys key value left ∷ up)) bytes place
    key_lead openings.Body {place} h = two_lead bytes tt place h
    key_lead openings.New {place} h = two_lead bytes tt place h
    key_lead openings.Old {place} h = one_lead 44 bytes tt place h
called_back (slots.Values key value left ∷ up) opening hint k bytes item start taken c e =
    let l = led_back (suc (length up)) opening hint (slots.Values key value left) bytes item start taken e in
    record { place = l.place; leads = one_lead 58 bytes tt l.place l.lead; inner = l.inner; read = subst (λ z. value_in (suc (length up)) false hint z (drop l.place bytes) ≡ is_read (item, l.inner)) c l.read; sum = l.sum; begins = l.begins }

-- a value that is not too deep
within_depth : (b : Bool) (depth : ℕ) → (b && nat_le 256 depth) ≡ false → b ≡ true → depth < 256
within_depth true depth e h = grind (arith, nat_tests)
within_depth false depth e h = absurd (cc)

pub value_past : (depth : ℕ) (key : Bool) (hint : Hint) (k : Kind) (bytes : List ℕ) (item : Item) (taken : ℕ) → value_in depth key hint k bytes ≡ is_read (item, taken) → (opens k ≡ true → depth < 256) × (value_at key hint k bytes ≡ is_read (item, taken))
unfolding value_in
value_past depth key hint k bytes item taken e =
    let p = past_fault (opens k && nat_le 256 depth) (record { place = 0; reason = reasons.TooDeep }) (value_at key hint k bytes) (item, taken) e in
    (within_depth (opens k) depth p.0, p.1)

module _ (d : Declarations) where
  -- ---- where the walk stands

  -- the walk's levels belong to the open slots and to their types; outer ones call for no field's value
  abbrev pub AreTied : List Slot → List Level → List Ty → Type 0
  AreTied [] [] [] = Unit {0}
  AreTied (slots.Fields last ∷ up) (level ∷ levels) (ty ∷ tys) = TiedOne d (slots.Fields last) level ty × AreTied up levels tys
  AreTied (slots.Elements k left ∷ up) (level ∷ levels) (ty ∷ tys) = TiedOne d (slots.Elements k left) level ty × AreTied up levels tys
  AreTied (slots.Keys k v left ∷ up) (level ∷ levels) (ty ∷ tys) = TiedOne d (slots.Keys k v left) level ty × AreTied up levels tys
  AreTied (slots.Values k v left ∷ up) (level ∷ levels) (ty ∷ tys) = TiedOne d (slots.Values k v left) level ty × AreTied up levels tys
  AreTied nest levels tys = ⊥

  abbrev pub TopTied : List Slot → List Level → List Ty → Type 0
  TopTied [] [] [] = Unit {0}
  TopTied (slot ∷ up) (level ∷ levels) (ty ∷ tys) = TiedOne d slot level ty × AreTied up levels tys
  TopTied nest levels tys = ⊥

  abbrev pub IsAt : List Slot → List Level → List Ty → Position → Type 0
  IsAt [] levels tys p = Unit {0}
  IsAt (slots.Fields last ∷ up) levels tys p = p ≡ standing d levels
  IsAt (slots.Value k id ∷ up) levels tys p = p ≡ at_type d levels (value_type d (slots.Value k id ∷ up) tys)
  IsAt (slots.Elements k left ∷ up) levels tys p = p ≡ at_type d levels (value_type d (slots.Elements k left ∷ up) tys)
  IsAt (slots.Keys k v left ∷ up) levels tys p = p ≡ at_type d levels (value_type d (slots.Keys k v left ∷ up) tys)
  IsAt (slots.Values k v left ∷ up) levels tys p = p ≡ at_type d levels (value_type d (slots.Values k v left ∷ up) tys)

  abbrev pub IsFresh : Opening → List Slot → Type 0
  IsFresh openings.Old nest = Unit {0}
  IsFresh opening [] = Unit {0}
  IsFresh opening (slot ∷ up) = IsGood d slot

  pub record Stand (p : Position) (nest : List Slot) (opening : Opening) (levels : List Level) (tys : List Ty) : Type 0 where
    pub tied : TopTied nest levels tys
    pub at : IsAt nest levels tys p
    pub fresh : IsFresh opening nest

  -- the outer levels on their own
  pub outer_stand : (nest : List Slot) (levels : List Level) (tys : List Ty) → AreTied nest levels tys → Stand (standing d levels) nest openings.Old levels tys
  outer_stand [] [] [] t = record { tied = tt; at = tt; fresh = tt }
  outer_stand [] (level ∷ levels) tys t = absurd t
  outer_stand [] [] (ty ∷ tys) t = absurd t
  outer_stand (slots.Value k id ∷ up) levels tys t = absurd t
  outer_stand (slots.Fields last ∷ up) [] tys t = absurd t
  outer_stand (slots.Fields last ∷ up) (level ∷ levels) [] t = absurd t
  outer_stand (slots.Fields last ∷ up) (level ∷ levels) (ty ∷ tys) t = record { tied = t; at = refl; fresh = tt }
  outer_stand (slots.Elements k left ∷ up) [] tys t = absurd t
  outer_stand (slots.Elements k left ∷ up) (level ∷ levels) [] t = absurd t
  outer_stand (slots.Elements k left ∷ up) (level ∷ levels) (ty ∷ tys) t = record { tied = t; at = at_level d level levels (under (element_of d ty) k) t.0.calls; fresh = tt }
  outer_stand (slots.Keys k v left ∷ up) [] tys t = absurd t
  outer_stand (slots.Keys k v left ∷ up) (level ∷ levels) [] t = absurd t
  outer_stand (slots.Keys k v left ∷ up) (level ∷ levels) (ty ∷ tys) t = record { tied = t; at = at_level d level levels (under (key_of d ty) k) t.0.1.key_calls; fresh = tt }
  outer_stand (slots.Values k v left ∷ up) [] tys t = absurd t
  outer_stand (slots.Values k v left ∷ up) (level ∷ levels) [] t = absurd t
  outer_stand (slots.Values k v left ∷ up) (level ∷ levels) (ty ∷ tys) t = record { tied = t; at = at_level d level levels (under (value_of d ty) v) t.0.1.value_calls; fresh = tt }

  -- a value has been read where one was called for
  pub record Spent (nest : List Slot) (levels : List Level) (tys : List Ty) : Type 0 where
    pub new : List Level
    pub is : passed levels ≡ new
    pub tied : AreTied (spent nest) new tys

  pub spent_tied : (nest : List Slot) (levels : List Level) (tys : List Ty) (k : Kind) → CallsFor nest k → TopTied nest levels tys → Spent nest levels tys
  spent_tied [] levels tys k c t = absurd c
  spent_tied (slots.Fields last ∷ up) levels tys k c t = absurd c
  spent_tied (slot ∷ up) [] tys k c t = absurd t
  spent_tied (slot ∷ up) (level ∷ levels) [] k c t = absurd t
  spent_tied (slots.Value kind id ∷ up) (level ∷ levels) (ty ∷ tys) k c t =
      record { new = level ∷ levels; is = subst (λ z. passed (z ∷ levels) ≡ z ∷ levels) (sym t.0) (struct_steady ty levels); tied = t }
  spent_tied (slots.Elements kind left ∷ up) (level ∷ levels) (ty ∷ tys) k c t = record { new = level ∷ levels; is = t.0.steady levels; tied = t }
  spent_tied (slots.Keys key value left ∷ up) (level ∷ levels) (ty ∷ tys) k c t = record { new = t.0.0 ∷ levels; is = t.0.1.key_passed levels; tied = ((level, t.0.1), t.1) }
  spent_tied (slots.Values key value left ∷ up) (level ∷ levels) (ty ∷ tys) k c t = record { new = t.0.0 ∷ levels; is = t.0.1.value_passed levels; tied = ((level, t.0.1), t.1) }

  -- a level that has just begun
  pub new_stand : (slot : Slot) (nest : List Slot) (level : Level) (levels : List Level) (ty : Ty) (tys : List Ty) → TiedOne d slot level ty → IsGood d slot → AreTied nest levels tys → Stand (standing d (level ∷ levels)) (slot ∷ nest) openings.New (level ∷ levels) (ty ∷ tys)
  new_stand (slots.Fields last) nest level levels ty tys t g more = record { tied = (t, more); at = refl; fresh = g }
  new_stand (slots.Value k id) nest level levels ty tys t g more = absurd g
  new_stand (slots.Elements k left) nest level levels ty tys t g more = record { tied = (t, more); at = at_level d level levels (under (element_of d ty) k) t.calls; fresh = g }
  new_stand (slots.Keys k v left) nest level levels ty tys t g more = record { tied = (t, more); at = at_level d level levels (under (key_of d ty) k) t.1.key_calls; fresh = g }
  new_stand (slots.Values k v left) nest level levels ty tys t g more = record { tied = (t, more); at = at_level d level levels (under (value_of d ty) v) t.1.value_calls; fresh = g }
