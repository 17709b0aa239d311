-- What the scans of items, of a header and of the end read is what their plans run.
use Rattle.std.proofs.Common.{◌≡◌, ℕ, ℤ, zero, suc, pos, negsuc, ◌+◌, ◌<◌, ◌≤◌, Bool, true, false, cond, List, [], ◌∷◌, length, drop, Some, Ok, Err, refl, ap, ◌∙◌, sym, subst, arith, length-drop}
use Rattle.std.specs.Prelude.{nat_lt, nat_le, int_lt, ◌==◌, ◌&&◌}
use Rattle.std.proofs.lemmas.Bool.Decides.{nat_tests}
use Rattle.thrift_value.specs.declared.kind.Kind.{Kind}
use Rattle.thrift_value.specs.declared.kind.Kind.TheVariants as kinds
use Rattle.thrift_value.specs.declared.kind.MessageType.{MessageType}
use Rattle.thrift_value.specs.Items.{Item, field, stop, bool_value, i8_value, i16_value, i32_value, i64_value, text, number_text, unknown_text, struct_begin, set_begin, list_begin, end}
use Rattle.protocol_traits.specs.declared.fault.Fault.{Fault}
use Rattle.protocol_traits.specs.declared.fault.Reason.TheVariants as reasons
use Rattle.protocol_traits.specs.declared.nest.Slot.{Slot}
use Rattle.protocol_traits.specs.declared.nest.Slot.TheVariants as slots
use Rattle.protocol_traits.specs.declared.proto.Hint.{Hint}
use Rattle.protocol_traits.specs.declared.proto.Hint.TheVariants as hints
use Rattle.protocol_traits.specs.Heads.{Header}
use Rattle.json_text.specs.Scan.{is_white}
use Rattle.json_text_laws.proofs.Choices.{cond_true, cond_false}
use Rattle.json_text_laws.proofs.Parts.{Apart}
use Rattle.json_protocol.specs.declared.opening.Opening.{Opening}
use Rattle.json_protocol.specs.declared.opening.Opening.TheVariants as openings
use Rattle.json_protocol.specs.Scan.{Scan, fault, gap, further, shifted, mark_at, ◌>>=◌}
use Rattle.json_protocol.specs.Words.{kind_at, int_in, text_in, string_in}
use Rattle.json_protocol.specs.Values.{field_at, first_at, next_at, bool_at, i8_at, i16_at, i32_at, i64_at, double_at, struct_at, size_of, size_in, sequence_at, list_at, set_at, map_head_at, no_pairs_at, map_then, map_at, end_at, opens, value_at, value_in}
use Rattle.json_protocol.specs.Reading.{lead_by, lead_pairs, lead_fields, lead_key, lead_at, item_in, begun_at, led, scan_at}
use Rattle.json_protocol.specs.Head.{type_of, front_at, back_at, head_at, end_scan}
use Rattle.json_laws.specs.Plans.{version_number, type_number, id_number, flag_number, number_8, number_16, number_32, number_64, Part, mark_part, whole_part, kind_part, double_part, text_part, blob_part, first_part, deep_part, nameless_part, end_part, Value, Plan, done, want, marked, header_plan, sequence_plan, pairs_plan, map_plan, value_plan, level_plan, field_plan, unless_closed, first_plan, next_plan, fields_plan, key_plan, item_plan, last_plan}
use Rattle.json_laws.specs.Firsts.{fault_at}
use Rattle.json_laws.proofs.Inverse.{is_read, is_fault, same_read, no_fault}
use Rattle.json_laws.proofs.Cut.{Cuts, further_mark, gap_within}
use Rattle.json_laws.proofs.Completing.{no_read, same_fault}
use Rattle.json_laws.proofs.PartScans.{end_of, scan_of}
use Rattle.json_laws.proofs.PlanRuns.{run, AreProper, Begins, IsRun, solid_further, further_run}

-- ---- one scan behind another

bind_same : {X Y : Type 0} → (s : Scan X) (f h : X × ℕ → Scan Y) → ((x : X × ℕ) → f x ≡ h x) → (s >>= f) ≡ (s >>= h)
bind_same {X} {Y} (Ok x) f h e = e x
bind_same {X} {Y} (Err g) f h e = refl

bind_then : {X Y Z : Type 0} → (s : Scan X) (f : X × ℕ → Scan Y) (g : Y × ℕ → Scan Z) (h : X × ℕ → Scan Z) → ((x : X × ℕ) → (f x >>= g) ≡ h x) → ((s >>= f) >>= g) ≡ (s >>= h)
bind_then {X} {Y} {Z} (Ok x) f g h e = e x
bind_then {X} {Y} {Z} (Err k) f g h e = refl

-- the same, of what was read alone
bind_read : {X Y Z : Type 0} → (s : Scan X) (f : X × ℕ → Scan Y) (g : Y × ℕ → Scan Z) (h : X × ℕ → Scan Z) → ((x : X × ℕ) → s ≡ is_read x → (f x >>= g) ≡ h x) → ((s >>= f) >>= g) ≡ (s >>= h)
bind_read {X} {Y} {Z} (Ok x) f g h e = e x refl
bind_read {X} {Y} {Z} (Err k) f g h e = refl

further_map : {X Y : Type 0} → (s : List ℕ → Scan X) (g : X → Y) (n : ℕ) (bytes : List ℕ) → further n (λ b. s b >>= λ z. Ok (g z.0, z.1)) bytes ≡ (further n s bytes >>= λ z. Ok (g z.0, z.1))
further_map {X} {Y} s g n bytes = by_scan (s (drop at bytes))
  where
    at : ℕ
    at = n + gap (drop n bytes)

    by_scan : (scan : Scan X) → shifted at (scan >>= λ z. is_read (g z.0, z.1)) ≡ (shifted at scan >>= λ z. is_read (g z.0, z.1))
    by_scan (Ok x) = refl
    by_scan (Err f) = refl

-- the first part, where no whitespace stands
first_run : {Y : Type 0} → (part : Part) (bytes : List ℕ) → Apart is_white bytes → (go : Value part × ℕ → Scan Y) → (scan_of part bytes >>= go) ≡ (further 0 (scan_of part) bytes >>= go)
first_run {Y} part bytes solid go = ap (λ s. s >>= go) (sym (solid_further (scan_of part) bytes solid))

-- ---- values

size_run : {Y : Type 0} → (n : ℕ) (bytes : List ℕ) (go : ℕ × ℕ → Scan Y) → (further n size_in bytes >>= go) ≡ (further n (int_in reasons.BadSize (pos 0) (pos 2147483647)) bytes >>= λ z. go (size_of z.0, z.1))
size_run {Y} n bytes go =
    let ints = int_in reasons.BadSize (pos 0) (pos 2147483647) in
    ap (λ s. s >>= go) (further_map ints size_of n bytes) ∙ bind_then (further n ints bytes) (λ z. is_read (size_of z.0, z.1)) go (λ z. go (size_of z.0, z.1)) (λ x. refl)

sequence_run : (item : Kind → ℕ → Item) (bytes : List ℕ) → Apart is_white bytes → (sequence_at bytes >>= λ l. Ok (item l.0.0 l.0.1, l.1)) ≡ run (sequence_plan item) 0 bytes
unfolding sequence_at
sequence_run item bytes solid = bind_then (mark_at 91 bytes) _ last begun (λ bracket. by_bracket bracket.1) ∙ first_run (mark_part 91) bytes solid begun
  where
    last : (Kind × ℕ) × ℕ → Scan Item
    last l = is_read (item l.0.0 l.0.1, l.1)

    sized : Kind → ℕ → Scan Item
    sized kind n = further n (int_in reasons.BadSize (pos 0) (pos 2147483647)) bytes >>= λ size. is_read (item kind (size_of size.0), size.1)

    after_kind : Kind → ℕ → Scan Item
    after_kind kind n = further n (mark_at 44) bytes >>= λ comma. sized kind comma.1

    begun : Unit {0} × ℕ → Scan Item
    begun bracket = further bracket.1 kind_at bytes >>= λ kind. after_kind kind.0 kind.1

    sizes : Kind → ℕ → Scan (Kind × ℕ)
    sizes kind n = further n size_in bytes >>= λ size. is_read ((kind, size.0), size.1)

    commas : Kind → ℕ → Scan (Kind × ℕ)
    commas kind n = further n (mark_at 44) bytes >>= λ comma. sizes kind comma.1

    brackets : ℕ → Scan (Kind × ℕ)
    brackets n = further n kind_at bytes >>= λ kind. commas kind.0 kind.1

    by_size : (kind : Kind) (n : ℕ) → (sizes kind n >>= last) ≡ sized kind n
    by_size kind n = bind_then (further n size_in bytes) (λ size. is_read ((kind, size.0), size.1)) last (λ size. is_read (item kind size.0, size.1)) (λ x. refl) ∙ size_run n bytes (λ size. is_read (item kind size.0, size.1))

    by_comma : (kind : Kind) (n : ℕ) → (commas kind n >>= last) ≡ after_kind kind n
    by_comma kind n = bind_then (further n (mark_at 44) bytes) (λ comma. sizes kind comma.1) last (λ comma. sized kind comma.1) (λ comma. by_size kind comma.1)

    by_bracket : (n : ℕ) → (brackets n >>= last) ≡ begun (tt, n)
    by_bracket n = bind_then (further n kind_at bytes) (λ kind. commas kind.0 kind.1) last (λ kind. after_kind kind.0 kind.1) (λ kind. by_comma kind.0 kind.1)

pairs_run : (k v : Kind) (size at : ℕ) (bytes : List ℕ) → map_then bytes k v size at ≡ run (pairs_plan k v size) at bytes
unfolding no_pairs_at
pairs_run k v zero at bytes = refl
pairs_run k v (suc more) at bytes = refl

map_run : IsRun map_at map_plan
unfolding map_at map_head_at
map_run bytes solid = bind_then (mark_at 91 bytes) _ last begun (λ bracket. by_bracket bracket.1) ∙ first_run (mark_part 91) bytes solid begun
  where
    last : ((Kind × Kind) × ℕ) × ℕ → Scan Item
    last m = map_then bytes m.0.0.0 m.0.0.1 m.0.1 m.1

    after_size : Kind → Kind → ℕ → Scan Item
    after_size k v n = further n (int_in reasons.BadSize (pos 0) (pos 2147483647)) bytes >>= λ size. run (pairs_plan k v (size_of size.0)) size.1 bytes

    after_value : Kind → Kind → ℕ → Scan Item
    after_value k v n = further n (mark_at 44) bytes >>= λ comma. after_size k v comma.1

    after_comma : Kind → ℕ → Scan Item
    after_comma k n = further n kind_at bytes >>= λ value. after_value k value.0 value.1

    after_key : Kind → ℕ → Scan Item
    after_key k n = further n (mark_at 44) bytes >>= λ comma. after_comma k comma.1

    begun : Unit {0} × ℕ → Scan Item
    begun bracket = further bracket.1 kind_at bytes >>= λ key. after_key key.0 key.1

    sizes : Kind → Kind → ℕ → Scan ((Kind × Kind) × ℕ)
    sizes k v n = further n size_in bytes >>= λ size. is_read (((k, v), size.0), size.1)

    values : Kind → Kind → ℕ → Scan ((Kind × Kind) × ℕ)
    values k v n = further n (mark_at 44) bytes >>= λ second. sizes k v second.1

    commas : Kind → ℕ → Scan ((Kind × Kind) × ℕ)
    commas k n = further n kind_at bytes >>= λ value. values k value.0 value.1

    keys : Kind → ℕ → Scan ((Kind × Kind) × ℕ)
    keys k n = further n (mark_at 44) bytes >>= λ comma. commas k comma.1

    brackets : ℕ → Scan ((Kind × Kind) × ℕ)
    brackets n = further n kind_at bytes >>= λ key. keys key.0 key.1

    by_size : (k v : Kind) (n : ℕ) → (sizes k v n >>= last) ≡ after_size k v n
    by_size k v n =
        bind_then (further n size_in bytes) (λ size. is_read (((k, v), size.0), size.1)) last (λ size. map_then bytes k v size.0 size.1) (λ x. refl) ∙ size_run n bytes (λ size. map_then bytes k v size.0 size.1)
        ∙ bind_same (further n (int_in reasons.BadSize (pos 0) (pos 2147483647)) bytes) (λ z. map_then bytes k v (size_of z.0) z.1) (λ z. run (pairs_plan k v (size_of z.0)) z.1 bytes) (λ z. pairs_run k v (size_of z.0) z.1 bytes)

    by_value : (k v : Kind) (n : ℕ) → (values k v n >>= last) ≡ after_value k v n
    by_value k v n = bind_then (further n (mark_at 44) bytes) (λ second. sizes k v second.1) last (λ comma. after_size k v comma.1) (λ comma. by_size k v comma.1)

    by_comma : (k : Kind) (n : ℕ) → (commas k n >>= last) ≡ after_comma k n
    by_comma k n = bind_then (further n kind_at bytes) (λ value. values k value.0 value.1) last (λ value. after_value k value.0 value.1) (λ value. by_value k value.0 value.1)

    by_key : (k : Kind) (n : ℕ) → (keys k n >>= last) ≡ after_key k n
    by_key k n = bind_then (further n (mark_at 44) bytes) (λ comma. commas k comma.1) last (λ comma. after_comma k comma.1) (λ comma. by_comma k comma.1)

    by_bracket : (n : ℕ) → (brackets n >>= last) ≡ begun (tt, n)
    by_bracket n = bind_then (further n kind_at bytes) (λ key. keys key.0 key.1) last (λ key. after_key key.0 key.1) (λ key. by_key key.0 key.1)

value_run : (key : Bool) (hint : Hint) (kind : Kind) → IsRun (value_at key hint kind) (value_plan key hint kind)
unfolding value_at bool_at i8_at i16_at i32_at i64_at double_at struct_at list_at set_at string_in
value_run key hint kinds.Bool bytes solid = first_run (whole_part key flag_number) bytes solid (λ z. is_read (bool_value (int_lt (pos 0) z.0), z.1))
value_run key hint kinds.I8 bytes solid = first_run (whole_part key number_8) bytes solid (λ z. is_read (i8_value z.0, z.1))
value_run key hint kinds.I16 bytes solid = first_run (whole_part key number_16) bytes solid (λ z. is_read (i16_value z.0, z.1))
value_run key hint kinds.I32 bytes solid = first_run (whole_part key number_32) bytes solid (λ z. is_read (i32_value z.0, z.1))
value_run key hint kinds.I64 bytes solid = first_run (whole_part key number_64) bytes solid (λ z. is_read (i64_value z.0, z.1))
value_run key hint kinds.Double bytes solid = first_run (double_part key) bytes solid (λ t. is_read (number_text t.0, t.1))
value_run key hints.Text kinds.Str bytes solid = first_run text_part bytes solid (λ t. is_read (text t.0, t.1))
value_run key hints.Blob kinds.Str bytes solid = first_run blob_part bytes solid (λ t. is_read (text t.0, t.1))
value_run key hints.Unknown kinds.Str bytes solid = first_run text_part bytes solid (λ t. is_read (unknown_text t.0, t.1))
value_run key hint kinds.Struct bytes solid = first_run (mark_part 123) bytes solid (λ brace. is_read (struct_begin, brace.1))
value_run key hint kinds.Map bytes solid = map_run bytes solid
value_run key hint kinds.Set bytes solid = sequence_run (λ kind n. set_begin kind n) bytes solid
value_run key hint kinds.List bytes solid = sequence_run (λ kind n. list_begin kind n) bytes solid
value_run key hint kinds.Uuid bytes solid = first_run nameless_part bytes solid (λ x. is_read (end, x.1))

level_run : (depth : ℕ) (key : Bool) (hint : Hint) (kind : Kind) → IsRun (value_in depth key hint kind) (level_plan depth key hint kind)
unfolding value_in
level_run depth key hint kind bytes solid = by_depth (opens kind && nat_le 256 depth)
  where
    by_depth : (b : Bool) → cond b (fault 0 reasons.TooDeep) (value_at key hint kind bytes) ≡ run (cond b (want deep_part (λ x. done end)) (value_plan key hint kind)) 0 bytes
    by_depth true = first_run deep_part bytes solid (λ x. is_read (end, x.1))
    by_depth false = value_run key hint kind bytes solid

-- a plan of an item begins with a part, and each part of it is proper
record IsGood {Y : Type 0} (plan : Plan Y) : Type 0 where
  begins : Begins plan
  proper : AreProper plan

pairs_proper : (k v : Kind) (size : ℕ) → AreProper (pairs_plan k v size)
pairs_proper k v zero = (tt, λ a. (tt, λ b. (tt, λ c. (tt, λ d. tt))))
pairs_proper k v (suc more) = tt

value_good : (key : Bool) (hint : Hint) (kind : Kind) → IsGood (value_plan key hint kind)
value_good key hint kinds.Bool = record { begins = tt; proper = (tt, λ z. tt) }
value_good key hint kinds.I8 = record { begins = tt; proper = (tt, λ z. tt) }
value_good key hint kinds.I16 = record { begins = tt; proper = (tt, λ z. tt) }
value_good key hint kinds.I32 = record { begins = tt; proper = (tt, λ z. tt) }
value_good key hint kinds.I64 = record { begins = tt; proper = (tt, λ z. tt) }
value_good key hint kinds.Double = record { begins = tt; proper = (tt, λ z. tt) }
value_good key hints.Text kinds.Str = record { begins = tt; proper = (tt, λ z. tt) }
value_good key hints.Blob kinds.Str = record { begins = tt; proper = (tt, λ z. tt) }
value_good key hints.Unknown kinds.Str = record { begins = tt; proper = (tt, λ z. tt) }
value_good key hint kinds.Struct = record { begins = tt; proper = (tt, λ z. tt) }
value_good key hint kinds.Map = record { begins = tt; proper = (tt, λ b. (tt, λ k. (tt, λ c. (tt, λ v. (tt, λ d. (tt, λ n. pairs_proper k v (size_of n))))))) }
value_good key hint kinds.Set = record { begins = tt; proper = (tt, λ b. (tt, λ k. (tt, λ c. (tt, λ n. tt)))) }
value_good key hint kinds.List = record { begins = tt; proper = (tt, λ b. (tt, λ k. (tt, λ c. (tt, λ n. tt)))) }
value_good key hint kinds.Uuid = record { begins = tt; proper = (tt, λ z. tt) }

level_good : (depth : ℕ) (key : Bool) (hint : Hint) (kind : Kind) → IsGood (level_plan depth key hint kind)
level_good depth key hint kind = by_depth (opens kind && nat_le 256 depth)
  where
    by_depth : (b : Bool) → IsGood (cond b (want deep_part (λ x. done end)) (value_plan key hint kind))
    by_depth true = record { begins = tt; proper = (tt, λ x. tt) }
    by_depth false = value_good key hint kind

-- ---- fields

field_run : IsRun field_at field_plan
unfolding field_at
field_run bytes solid = first_run (whole_part true id_number) bytes solid (λ id. run (marked 58 (marked 123 (want kind_part (λ kind. done (field id.0 kind))))) id.1 bytes)

field_proper : AreProper field_plan
field_proper = (tt, λ id. (tt, λ c. (tt, λ b. (tt, λ k. tt))))

some_byte : (x : ℕ) (rest : List ℕ) → nat_lt (length (x ∷ rest)) 1 ≡ false
some_byte x rest = grind (arith, nat_tests)

first_at_run : IsRun first_at first_plan
unfolding first_at
first_at_run [] solid = first_run (first_part 34) [] solid (λ c. run (unless_closed field_plan c.0) c.1 [])
first_at_run (x ∷ rest) solid =
    cond_false (nat_lt (length (x ∷ rest)) 1) (fault 0 reasons.Truncated) _ (some_byte x rest) ∙ by_byte (x == 125) (x == 34) ∙ first_run (first_part 34) (x ∷ rest) solid go
  where
    go : Bool × ℕ → Scan Item
    go c = run (unless_closed field_plan c.0) c.1 (x ∷ rest)

    by_byte : (b c : Bool) → cond b (is_read (stop, 1)) (cond c (field_at (x ∷ rest)) (fault 0 reasons.BadToken)) ≡ (cond b (is_read (true, 1)) (cond c (is_read (false, 0)) (fault 0 reasons.BadToken)) >>= go)
    by_byte true c = refl
    by_byte false true = field_run (x ∷ rest) solid
    by_byte false false = refl

mark_there : (m x : ℕ) (rest : List ℕ) → (x == m) ≡ true → mark_at m (x ∷ rest) ≡ is_read (tt, 1)
unfolding mark_at
mark_there m x rest e = grind (arith, nat_tests)

next_at_run : IsRun next_at next_plan
unfolding next_at
next_at_run [] solid = first_run (first_part 44) [] solid (λ c. run (unless_closed (marked 44 field_plan) c.0) c.1 [])
next_at_run (x ∷ rest) solid =
    cond_false (nat_lt (length (x ∷ rest)) 1) (fault 0 reasons.Truncated) _ (some_byte x rest) ∙ by_byte (x == 125) (x == 44) refl ∙ first_run (first_part 44) (x ∷ rest) solid go
  where
    go : Bool × ℕ → Scan Item
    go c = run (unless_closed (marked 44 field_plan) c.0) c.1 (x ∷ rest)

    behind_comma : (x == 44) ≡ true → further 1 field_at (x ∷ rest) ≡ run (marked 44 field_plan) 0 (x ∷ rest)
    behind_comma e =
        further_run field_at field_plan 1 (x ∷ rest) tt field_run ∙ ap (λ s. s >>= λ v. run field_plan v.1 (x ∷ rest)) (sym (mark_there 44 x rest e)) ∙ first_run (mark_part 44) (x ∷ rest) solid (λ v. run field_plan v.1 (x ∷ rest))

    by_byte : (b c : Bool) → (x == 44) ≡ c → cond b (is_read (stop, 1)) (cond c (further 1 field_at (x ∷ rest)) (fault 0 reasons.BadToken)) ≡ (cond b (is_read (true, 1)) (cond c (is_read (false, 0)) (fault 0 reasons.BadToken)) >>= go)
    by_byte true c e = refl
    by_byte false true e = behind_comma e
    by_byte false false e = refl

end_run : IsRun end_at (marked 93 (done end))
unfolding end_at
end_run bytes solid = first_run (mark_part 93) bytes solid (λ bracket. is_read (end, bracket.1))

-- ---- items behind their marks

-- what was read, without its place
abbrev pub plain : {Y : Type 0} → Scan (Y × ℕ) → Scan Y
plain (Ok x) = Ok (x.0.0, x.1)
plain (Err f) = Err f

pub plain_fault : {Y : Type 0} → (scan : Scan (Y × ℕ)) (f : Fault) → plain scan ≡ is_fault f → scan ≡ is_fault f
plain_fault {Y} (Ok x) f e = absurd (no_read _ f e)
plain_fault {Y} (Err g) f e = ap (λ h. is_fault h) (same_fault {X = Y} g f e)

pub plain_read : {Y : Type 0} → (scan : Scan (Y × ℕ)) (y : Y) (n : ℕ) → plain scan ≡ is_read (y, n) → (place : ℕ) × (scan ≡ is_read ((y, place), n))
plain_read {Y} (Ok x) y n e = let same = same_read x.0.0 y x.1 n e in (x.0.1, ap (λ z. is_read ((z, x.0.1), x.1)) same.0 ∙ ap (λ k. is_read ((y, x.0.1), k)) same.1)
plain_read {Y} (Err g) y n e = absurd (no_fault g (y, n) e)

plain_then : {X Y : Type 0} → (s : Scan X) (f : X × ℕ → Scan (Y × ℕ)) (h : X × ℕ → Scan Y) → ((x : X × ℕ) → plain (f x) ≡ h x) → plain (s >>= f) ≡ (s >>= h)
plain_then {X} {Y} (Ok x) f h e = e x
plain_then {X} {Y} (Err g) f h e = refl

plain_begun : (place : ℕ) (s : Scan Item) → plain (begun_at place s) ≡ s
plain_begun place (Ok x) = refl
plain_begun place (Err f) = refl

module _ (depth : ℕ) (opening : Opening) (hint : Hint) (slot : Slot) (bytes : List ℕ) (plan : Plan Item) (begins : Begins plan) (is : IsRun (item_in depth opening hint slot) plan) where
  abbrev behind : Scan (Unit {0}) → Scan Item
  behind lead = plain (led depth opening hint slot bytes lead)

  led_marked : (m n : ℕ) → behind (further n (mark_at m) bytes >>= λ there. is_read (tt, there.1 + gap (drop there.1 bytes))) ≡ run (marked m plan) n bytes
  led_marked m n = by_scan (further n (mark_at m) bytes)
    where
      by_scan : (t : Scan (Unit {0})) → behind (t >>= λ there. is_read (tt, there.1 + gap (drop there.1 bytes))) ≡ (t >>= λ v. run plan v.1 bytes)
      by_scan (Ok x) = plain_begun _ _ ∙ further_run (item_in depth opening hint slot) plan x.1 bytes begins is
      by_scan (Err f) = refl

  led_pairs : behind (lead_pairs bytes) ≡ run (marked 44 (marked 123 plan)) 0 bytes
  unfolding lead_pairs
  led_pairs = by_scan (further 0 (mark_at 44) bytes)
    where
      by_scan : (t : Scan (Unit {0})) → behind (t >>= λ comma. further comma.1 (mark_at 123) bytes >>= λ brace. is_read (tt, brace.1 + gap (drop brace.1 bytes))) ≡ (t >>= λ v. run (marked 123 plan) v.1 bytes)
      by_scan (Ok x) = led_marked 123 x.1
      by_scan (Err f) = refl

  led_none : behind (is_read (tt, gap bytes)) ≡ run plan 0 bytes
  led_none =
      let same : gap bytes ≡ 0 + gap (drop 0 bytes) = omega arith in
      plain_begun _ _ ∙ ap (λ k. shifted k (item_in depth opening hint slot (drop k bytes))) same ∙ further_run (item_in depth opening hint slot) plan 0 bytes begins is

some_left : (n : ℕ) → (suc n == 0) ≡ false
some_left n = grind (arith, nat_tests)

pub scan_run : (depth : ℕ) (opening : Opening) (hint : Hint) (slot : Slot) (bytes : List ℕ) → plain (scan_at depth opening hint (Some slot) bytes) ≡ run (item_plan depth opening hint slot) 0 bytes
unfolding lead_at lead_fields lead_key item_in
scan_run depth openings.Body hint (slots.Fields last) bytes = led_marked depth openings.Body hint (slots.Fields last) bytes first_plan tt first_at_run 123 0
scan_run depth openings.New hint (slots.Fields last) bytes = led_none depth openings.New hint (slots.Fields last) bytes first_plan tt first_at_run
scan_run depth openings.Old hint (slots.Fields last) bytes = led_marked depth openings.Old hint (slots.Fields last) bytes next_plan tt next_at_run 125 0
scan_run depth opening hint (slots.Value kind id) bytes = led_marked depth opening hint (slots.Value kind id) bytes (level_plan depth false hint kind) (level_good depth false hint kind).begins (level_run depth false hint kind) 58 0
scan_run depth opening hint (slots.Values key value left) bytes = led_marked depth opening hint (slots.Values key value left) bytes (level_plan depth false hint value) (level_good depth false hint value).begins (level_run depth false hint value) 58 0
scan_run depth opening hint (slots.Elements kind zero) bytes = led_none depth opening hint (slots.Elements kind 0) bytes (marked 93 (done end)) tt end_run
scan_run depth opening hint (slots.Keys key value zero) bytes = led_marked depth opening hint (slots.Keys key value 0) bytes (marked 93 (done end)) tt end_run 125 0
scan_run depth opening hint (slots.Elements kind (suc left)) bytes =
    let slot = slots.Elements kind (suc left) in
    ap (λ l. plain (led depth opening hint slot bytes l)) (cond_false (suc left == 0) (Ok (tt, gap bytes)) (lead_by 44 bytes) (some_left left))
    ∙ led_marked depth opening hint slot bytes (level_plan depth false hint kind) (level_good depth false hint kind).begins
    (λ b solid. cond_false (suc left == 0) (end_at b) (value_in depth false hint kind b) (some_left left) ∙ level_run depth false hint kind b solid) 44 0
scan_run depth opening hint (slots.Keys key value (suc left)) bytes =
    ap (λ l. plain (led depth opening hint slot bytes l)) (cond_false (suc left == 0) (lead_by 125 bytes) (lead_key opening bytes) (some_left left)) ∙ by_opening opening
  where
    slot : Slot
    slot = slots.Keys key value (suc left)

    plan : Plan Item
    plan = level_plan depth true hint key

    own : (o : Opening) → IsRun (item_in depth o hint slot) plan
    own o b solid = cond_false (suc left == 0) (end_at b) (value_in depth true hint key b) (some_left left) ∙ level_run depth true hint key b solid

    by_opening : (o : Opening) → plain (led depth o hint slot bytes (lead_key o bytes)) ≡ run (key_plan o plan) 0 bytes
    by_opening openings.Old = led_marked depth openings.Old hint slot bytes plan (level_good depth true hint key).begins (own openings.Old) 44 0
    by_opening openings.New = led_pairs depth openings.New hint slot bytes plan (level_good depth true hint key).begins (own openings.New)
    by_opening openings.Body = led_pairs depth openings.Body hint slot bytes plan (level_good depth true hint key).begins (own openings.Body)

first_proper : AreProper first_plan
first_proper = (refl, by_close)
  where
    by_close : (closes : Bool) → AreProper (unless_closed field_plan closes)
    by_close true = tt
    by_close false = field_proper

next_proper : AreProper next_plan
next_proper = (refl, by_close)
  where
    by_close : (closes : Bool) → AreProper (unless_closed (marked 44 field_plan) closes)
    by_close true = tt
    by_close false = (tt, λ c. field_proper)

fields_proper : (opening : Opening) → AreProper (fields_plan opening)
fields_proper openings.Body = (tt, λ b. first_proper)
fields_proper openings.New = first_proper
fields_proper openings.Old = (tt, λ b. next_proper)

key_proper : (opening : Opening) (plan : Plan Item) → AreProper plan → AreProper (key_plan opening plan)
key_proper openings.Old plan p = (tt, λ c. p)
key_proper openings.New plan p = (tt, λ c. (tt, λ b. p))
key_proper openings.Body plan p = (tt, λ c. (tt, λ b. p))

pub item_proper : (depth : ℕ) (opening : Opening) (hint : Hint) (slot : Slot) → AreProper (item_plan depth opening hint slot)
item_proper depth opening hint (slots.Fields last) = fields_proper opening
item_proper depth opening hint (slots.Value kind id) = (tt, λ c. (level_good depth false hint kind).proper)
item_proper depth opening hint (slots.Values key value left) = (tt, λ c. (level_good depth false hint value).proper)
item_proper depth opening hint (slots.Elements kind zero) = (tt, λ b. tt)
item_proper depth opening hint (slots.Elements kind (suc left)) = (tt, λ c. (level_good depth false hint kind).proper)
item_proper depth opening hint (slots.Keys key value zero) = (tt, λ b. (tt, λ c. tt))
item_proper depth opening hint (slots.Keys key value (suc left)) = key_proper opening (level_plan depth true hint key) (level_good depth true hint key).proper

-- ---- the header

pub header_proper : AreProper header_plan
header_proper = (tt, λ a. (tt, λ v. (tt, λ b. (tt, λ name. (tt, λ c. (tt, λ t. (tt, λ d. (tt, λ seq. (tt, λ e. tt)))))))))

module _ (bytes : List ℕ) where
  abbrev header : List ℕ → MessageType × ℤ → Header
  header name back = record { name = name; mtype = back.0; seq = back.1 }

  -- from the name on, as it is read and as it is run
  abbrev named : Unit {0} × ℕ → Scan (Header × ℕ)
  named front = shifted front.1 (text_in (drop front.1 bytes)) >>= λ name. back_at name.1 bytes >>= λ back. is_read ((header name.0 back.0, front.1), back.1)

  abbrev back_plan : List ℕ → Plan Header
  back_plan name = marked 44 (want (whole_part false type_number) (λ t. marked 44 (want (whole_part false number_32) (λ seq. marked 44 (done (record { name = name; mtype = type_of t; seq = seq }))))))

  back_run : (name : List ℕ) (n : ℕ) → (back_at n bytes >>= λ back. is_read (header name back.0, back.1)) ≡ run (back_plan name) n bytes
  unfolding back_at
  back_run name n =
      bind_then (further n (mark_at 44) bytes) _ last (λ a. run (want (whole_part false type_number) (λ t. typed t)) a.1 bytes) (λ a.
      bind_then (further a.1 (int_in reasons.BadType (pos 1) (pos 4)) bytes) _ last (λ t. run (typed t.0) t.1 bytes) (λ t.
      bind_then (further t.1 (mark_at 44) bytes) _ last (λ b. run (want (whole_part false number_32) (λ seq. numbered t.0 seq)) b.1 bytes) (λ b.
      bind_then (further b.1 (int_in reasons.BadNumber (negsuc 2147483647) (pos 2147483647)) bytes) _ last (λ seq. run (numbered t.0 seq.0) seq.1 bytes) (λ seq.
      bind_then (further seq.1 (mark_at 44) bytes) _ last (λ c. is_read (header name (type_of t.0, seq.0), c.1)) (λ c. refl)))))
    where
      last : (MessageType × ℤ) × ℕ → Scan Header
      last back = is_read (header name back.0, back.1)

      numbered : ℤ → ℤ → Plan Header
      numbered t seq = marked 44 (done (header name (type_of t, seq)))

      typed : ℤ → Plan Header
      typed t = marked 44 (want (whole_part false number_32) (λ seq. numbered t seq))

  name_run : (n : ℕ) → plain (named (tt, n + gap (drop n bytes))) ≡ run (want text_part back_plan) n bytes
  name_run n =
      plain_then (further n text_in bytes) (λ name. back_at name.1 bytes >>= λ back. is_read ((header name.0 back.0, n + gap (drop n bytes)), back.1)) (λ name. run (back_plan name.0) name.1 bytes)
      (λ name. plain_then (back_at name.1 bytes) (λ back. is_read ((header name.0 back.0, n + gap (drop n bytes)), back.1)) (λ back. is_read (header name.0 back.0, back.1)) (λ back. refl) ∙ back_run name.0 name.1)

  abbrev third : Unit {0} × ℕ → Scan (Header × ℕ)
  third comma = named (tt, comma.1 + gap (drop comma.1 bytes))

  abbrev second : ℤ × ℕ → Scan (Header × ℕ)
  second version = further version.1 (mark_at 44) bytes >>= third

  abbrev first : Unit {0} × ℕ → Scan (Header × ℕ)
  first bracket = further bracket.1 (int_in reasons.BadVersion (pos 1) (pos 1)) bytes >>= second

  head_apart : head_at bytes ≡ (further 0 (mark_at 91) bytes >>= first)
  unfolding head_at front_at
  head_apart =
      bind_then (further 0 (mark_at 91) bytes) _ named first (λ bracket.
      bind_then (further bracket.1 (int_in reasons.BadVersion (pos 1) (pos 1)) bytes) _ named second (λ version.
      bind_then (further version.1 (mark_at 44) bytes) _ named third (λ comma. refl)))

  pub head_run : plain (head_at bytes) ≡ run header_plan 0 bytes
  head_run =
      ap (λ s. plain s) head_apart
      ∙ plain_then (further 0 (mark_at 91) bytes) first (λ bracket. run (want (whole_part false version_number) (λ v. marked 44 (want text_part back_plan))) bracket.1 bytes) (λ bracket.
      plain_then (further bracket.1 (int_in reasons.BadVersion (pos 1) (pos 1)) bytes) second (λ version. run (marked 44 (want text_part back_plan)) version.1 bytes) (λ version.
      plain_then (further version.1 (mark_at 44) bytes) third (λ comma. run (want text_part back_plan) comma.1 bytes) (λ comma. name_run comma.1)))

  -- ---- the end

  abbrev read_up : Scan (Unit {0})
  read_up = is_read (tt, length bytes)

  abbrev trails : ℕ → Scan (Unit {0})
  trails at = fault at reasons.Trailing

  abbrev as_end : Unit {0} × ℕ → Scan Item
  as_end x = is_read (end, x.1)

  last_there : (at : ℕ) → at ≤ length bytes → (cond (at == length bytes) read_up (trails at) >>= as_end) ≡ (shifted at (end_of (drop at bytes)) >>= as_end)
  last_there at most = by_left (drop at bytes) refl
    where
      by_left : (left : List ℕ) → drop at bytes ≡ left → (cond (at == length bytes) read_up (trails at) >>= as_end) ≡ (shifted at (end_of left) >>= as_end)
      by_left [] e =
          let all : at ≡ length bytes = omega (arith, most, ap length e, length-drop at bytes) in
          let test : (at == length bytes) ≡ true = grind (arith, nat_tests) in
          ap (λ s. s >>= as_end) (cond_true (at == length bytes) read_up (trails at) test) ∙ ap (λ n. is_read (end, n)) (omega (arith, all))
      by_left (x ∷ rest) e =
          let some : at < length bytes = omega (arith, most, ap length e, length-drop at bytes) in
          let test : (at == length bytes) ≡ false = grind (arith, nat_tests) in
          ap (λ s. s >>= as_end) (cond_false (at == length bytes) read_up (trails at) test) ∙ ap (λ n. is_fault (fault_at n reasons.Trailing)) (omega arith)

  pub last_run : (end_scan bytes >>= as_end) ≡ run last_plan 0 bytes
  unfolding end_scan
  last_run = bind_read (further 0 (mark_at 93) bytes) _ as_end (λ bracket. run (want end_part (λ x. done end)) bracket.1 bytes) by_bracket
    where
      by_bracket : (bracket : Unit {0} × ℕ) → further 0 (mark_at 93) bytes ≡ is_read bracket
          → (cond (bracket.1 + gap (drop bracket.1 bytes) == length bytes) read_up (trails (bracket.1 + gap (drop bracket.1 bytes))) >>= as_end) ≡ run (want end_part (λ x. done end)) bracket.1 bytes
      by_bracket bracket e =
          let within : bracket.1 ≤ length bytes = subst (Cuts (length bytes)) e (further_mark 93 0 bytes (omega arith)) in
          last_there (bracket.1 + gap (drop bracket.1 bytes)) (gap_within bracket.1 bytes within)

pub last_proper : AreProper last_plan
last_proper = (tt, λ b. (tt, λ x. tt))
