-- Where a part is called for and what begins there is none of it, the frame is refused there, or for a value that lies too deep before.
use Rattle.std.proofs.Common.{◌≡◌, ℕ, suc, ◌+◌, ◌*◌, ◌/◌, ◌%◌, ◌<◌, ◌≤◌, Bool, true, false, cond, List, ◌∷◌, ◌++◌, length, take, drop, None, Ok, Err, refl, ap, ◌∙◌, sym, subst, arith, ◌⊎◌, inl, inr, length-append, length-take-le, length-drop, append_assoc}
use Rattle.std.specs.Prelude.{nat_lt, nat_le, ◌==◌, ◌&&◌, slice_index}
use Rattle.std.specs.Int.{w32, cast_signed}
use Rattle.std.proofs.lemmas.Bool.Decides.{nat_tests}
use Rattle.std.proofs.lemmas.List.{take-append-drop}
use Rattle.varint_zigzag.specs.Varint.{Spells}
use Rattle.thrift_value.specs.declared.kind.Kind.{Kind}
use Rattle.thrift_value.specs.declared.kind.Kind.TheVariants as kinds
use Rattle.thrift_value.specs.declared.kind.MessageType.{MessageType}
use Rattle.thrift_value.specs.Items.{Item}
use Rattle.protocol_traits.specs.declared.fault.Fault.{Fault}
use Rattle.protocol_traits.specs.declared.fault.Reason.{Reason}
use Rattle.protocol_traits.specs.declared.fault.Reason.TheVariants as reasons
use Rattle.protocol_traits.specs.declared.nest.Slot.{Slot}
use Rattle.protocol_traits.specs.declared.nest.Slot.TheVariants as slots
use Rattle.compact_protocol.specs.Codes.{type_of, type_code}
use Rattle.compact_protocol.specs.Scan.{Scan, fault, opens, value_at, value_in, field_value, next_of, item_in, varint32_at, string_at, type_or_fault, type_at, front_at}
use Rattle.compact_protocol.specs.Reading.{State, reads}
use Rattle.gate_base.specs.Bytes.{AreBytes}
use Rattle.binary_laws.specs.Reads.{header_of_message}
use Rattle.binary_laws.proofs.Heading.{drop_front}
use Rattle.compact_laws.specs.Called.{Part, protocol_byte, version_byte, varint_part, size_part, level_part, HeaderCalls, ValueCalls, ItemCalls, BodyCalls, IsCalled}
use Rattle.compact_laws.specs.Faulty.{IsFaulty}
use Rattle.compact_laws.specs.Reads.{Reads}
use Rattle.compact_laws.specs.Refused.{Refuses, IsRefused}
use Rattle.compact_laws.proofs.Heading.{type_again, front_scan, head_again}
use Rattle.compact_laws.proofs.Spelled.{At, body_open, headed_state, head_is}
use Rattle.compact_laws.proofs.Staying.{call_fault, begun_bad, name_bad}
use Rattle.compact_laws.proofs.Reaching.{some_slot, read_frame}
use Rattle.compact_laws.proofs.Leaves.{varint32_again}
use Rattle.compact_laws.proofs.Standing.{bytes_on}
use Rattle.compact_laws.proofs.Wrong.{varint32_bad, string_bad, fields_wrong, value_wrong}
use Rattle.compact_laws.proofs.Arriving.{Arrived, Drowned, arrives, no_bool_kind}

-- ---- one item

-- such a fault is told of the item, or that its value lies too deep
abbrev Told : ℕ → Reason → Scan Item → Type 0
Told place r scan = (scan ≡ fault place r) ⊎ (scan ≡ fault 0 reasons.TooDeep)

module _ (begun rest : List ℕ) (part : Part) (r : Reason) (are : AreBytes rest) (some : 1 ≤ length rest) (bad : IsFaulty part r rest) where
  value_told : (d : ℕ) (k : Kind) → ValueCalls d k begun part → Told (length begun) r (value_in d k (begun ++ rest))
  unfolding value_in
  value_told d k c = by_test (opens k && nat_le 256 d)
    where
      by_test : (b : Bool) → Told (length begun) r (cond b (fault 0 reasons.TooDeep) (value_at k (begun ++ rest)))
      by_test true = inr refl
      by_test false = inl (value_wrong begun rest part r are some bad d k c)

  some_left : (n : ℕ) → 1 ≤ n → (n == 0) ≡ false
  some_left n h = grind (arith, nat_tests)

  item_told : (d : ℕ) (slot : Slot) (flag : Bool) → ItemCalls d slot begun part → Told (length begun) r (item_in d slot flag (begun ++ rest))
  unfolding item_in field_value next_of
  item_told d (slots.Fields last) flag c = inl (fields_wrong begun rest part r are some bad last c)
  item_told d (slots.Value k id) flag (not, c) = let v = value_told d k c in rw (no_bool_kind k not) v
  item_told d (slots.Elements k left) flag (more, c) = let v = value_told d k c in rw (some_left left more) v
  item_told d (slots.Keys key value left) flag (more, c) = let v = value_told d key c in rw (some_left left more) v
  item_told d (slots.Values key value left) flag c = value_told d value c

-- a value that is called for inside 256 levels
module _ (begun rest : List ℕ) where
  shuts : (d : ℕ) (k : Kind) → opens k ≡ true → d ≡ 256 → value_in d k (begun ++ rest) ≡ fault 0 reasons.TooDeep
  unfolding value_in
  shuts d k o e = let t : nat_le 256 d ≡ true = grind (arith, nat_tests) in rw (o, t) refl

  value_deep : (d : ℕ) (k : Kind) → ValueCalls d k begun level_part → value_in d k (begun ++ rest) ≡ fault 0 reasons.TooDeep
  value_deep d kinds.Bool (none, is) = absurd (cc)
  value_deep d kinds.I8 c = absurd c
  value_deep d kinds.I16 (none, is) = absurd (cc)
  value_deep d kinds.I32 (none, is) = absurd (cc)
  value_deep d kinds.I64 (none, is) = absurd (cc)
  value_deep d kinds.Double c = absurd c
  value_deep d kinds.Uuid c = absurd c
  value_deep d kinds.Str (none, is) = absurd (cc)
  value_deep d kinds.Struct (deep, none, is) = shuts d kinds.Struct refl deep
  value_deep d kinds.Map (inl (deep, none, is)) = shuts d kinds.Map refl deep
  value_deep d kinds.Map (inr (inl (none, is))) = absurd (cc)
  value_deep d kinds.Map (inr (inr (size, some, spelled, is))) = absurd (cc)
  value_deep d kinds.Set (inl (deep, none, is)) = shuts d kinds.Set refl deep
  value_deep d kinds.Set (inr (inl (none, is))) = absurd (cc)
  value_deep d kinds.Set (inr (inr (kind, code, c, laid, is))) = absurd (cc)
  value_deep d kinds.List (inl (deep, none, is)) = shuts d kinds.List refl deep
  value_deep d kinds.List (inr (inl (none, is))) = absurd (cc)
  value_deep d kinds.List (inr (inr (kind, code, c, laid, is))) = absurd (cc)

  some_more : (n : ℕ) → 1 ≤ n → (n == 0) ≡ false
  some_more n h = grind (arith, nat_tests)

  item_deep : (d : ℕ) (slot : Slot) (flag : Bool) → ItemCalls d slot begun level_part → item_in d slot flag (begun ++ rest) ≡ fault 0 reasons.TooDeep
  unfolding item_in field_value next_of
  item_deep d (slots.Fields last) flag (inl (none, is)) = absurd (cc)
  item_deep d (slots.Fields last) flag (inr (kind, code, c, laid, is)) = absurd (cc)
  item_deep d (slots.Value k id) flag (not, c) = rw (no_bool_kind k not) (value_deep d k c)
  item_deep d (slots.Elements k left) flag (more, c) = rw (some_more left more) (value_deep d k c)
  item_deep d (slots.Keys key value left) flag (more, c) = rw (some_more left more) (value_deep d key c)
  item_deep d (slots.Values key value left) flag c = value_deep d value c

-- ---- the body

-- the frame is refused for a value that lies too deep, at this place at the latest
abbrev pub DeepBy : List ℕ → ℕ → Type 0
DeepBy bytes place = (f : Fault) × IsRefused bytes f × (f.reason ≡ reasons.TooDeep) × (f.place ≤ place)

module _ (bytes before rest : List ℕ) (part : Part) (b : BodyCalls before part) (all : bytes ≡ before ++ rest) where
  abbrev tail : List ℕ
  tail = b.front ++ (b.begun ++ rest)

  parts : bytes ≡ b.header ++ tail
  parts = all ∙ ap (λ l. l ++ rest) b.laid ∙ append_assoc b.header (b.front ++ b.begun) rest ∙ ap (λ l. b.header ++ l) (append_assoc b.front b.begun rest)

  long : length before ≡ length b.header + (length b.front + length b.begun)
  long = ap length b.laid ∙ length-append b.header (b.front ++ b.begun) ∙ ap (λ n. length b.header + n) (length-append b.front b.begun)

  -- the reader arrives at the item
  by_way : (first : State) → (at : At first body_open false tail) → first.place ≡ length b.header → first.frame ≡ bytes → ((items : List Item) (last : State) (f : Fault) → Reads first items last → Refuses last f → IsRefused bytes f)
      → (P : Type 0) → ((new : State) (flag : Bool) → At new (b.slot ∷ b.up) flag (b.begun ++ rest) → new.place + length b.begun ≡ length before → ((f : Fault) → reads new ≡ Err f → IsRefused bytes f) → P) → P ⊎ DeepBy bytes (length before)
  by_way first at place frame refused P here = by_arrival (arrives b.items first body_open false b.front (b.begun ++ rest) (b.slot ∷ b.up) at (omega arith) b.lead)
    where
      by_arrival : Arrived first (b.slot ∷ b.up) (b.begun ++ rest) ⊎ Drowned first (first.place + length b.front) → P ⊎ DeepBy bytes (length before)
      by_arrival (inr w) = let early = w.before in let size = long in inr (w.f, refused w.items w.new w.f w.read w.refuses, w.deep, omega (arith, early, place, size))
      by_arrival (inl w) =
          let a = w.at in
          let same : w.new.frame ≡ bytes = read_frame w.items first w.new w.read ∙ frame in
          let one = ap length (sym same ∙ a.laid) ∙ length-append a.front (b.begun ++ rest) in
          let two = ap length all ∙ length-append before rest in
          let three = length-append b.begun rest in
          let four = a.place in
          inl (here w.new w.flag a (omega (arith, one, two, three, four)) (λ f e. refused w.items w.new f w.read (inl ((λ none. some_slot b.slot b.up (sym a.open_levels ∙ none)), e))))

  on_way : (P : Type 0) → ((new : State) (flag : Bool) → At new (b.slot ∷ b.up) flag (b.begun ++ rest) → new.place + length b.begun ≡ length before → ((f : Fault) → reads new ≡ Err f → IsRefused bytes f) → P) → P ⊎ DeepBy bytes (length before)
  on_way P here =
      let m = b.message in
      let h = head_again m b.header tail b.head in
      let whole = h.whole in
      let first = headed_state bytes h.at h.long in
      let read = head_is bytes m.name (m.mtype, m.seq) h.at h.long (ap front_at parts ∙ h.front) (ap (λ l. string_at (drop h.at l)) parts ∙ h.name) in
      by_way first (record { front = b.header; open_levels = refl; told = refl; laid = parts; place = omega (arith, whole) }) (omega (arith, whole)) refl (λ items last f body refuses. inr (header_of_message m, items, first, last, read, body, refuses)) P here

  body_wrong : (r : Reason) → AreBytes rest → 1 ≤ length rest → IsFaulty part r rest → IsRefused bytes (record { place = length before; reason = r }) ⊎ DeepBy bytes (length before)
  body_wrong r are some bad = by_both (on_way (IsRefused bytes (record { place = length before; reason = r }) ⊎ DeepBy bytes (length before)) here)
    where
      by_both : (IsRefused bytes (record { place = length before; reason = r }) ⊎ DeepBy bytes (length before)) ⊎ DeepBy bytes (length before) → IsRefused bytes (record { place = length before; reason = r }) ⊎ DeepBy bytes (length before)
      by_both (inl x) = x
      by_both (inr d) = inr d

      here : (new : State) (flag : Bool) → At new (b.slot ∷ b.up) flag (b.begun ++ rest) → new.place + length b.begun ≡ length before → ((f : Fault) → reads new ≡ Err f → IsRefused bytes f) → IsRefused bytes (record { place = length before; reason = r }) ⊎ DeepBy bytes (length before)
      here new flag at place refused = by_told (item_told b.begun rest part r are some bad (suc (length b.up)) b.slot flag b.calls)
        where
          by_told : Told (length b.begun) r (item_in (suc (length b.up)) b.slot flag (b.begun ++ rest)) → IsRefused bytes (record { place = length before; reason = r }) ⊎ DeepBy bytes (length before)
          by_told (inl e) = inl (subst (λ n. IsRefused bytes (record { place = n; reason = r })) place (refused (record { place = new.place + length b.begun; reason = r }) (call_fault new (b.slot ∷ b.up) flag (b.begun ++ rest) (record { place = length b.begun; reason = r }) at e)))
          by_told (inr e) = inr (_, refused (record { place = new.place + 0; reason = reasons.TooDeep }) (call_fault new (b.slot ∷ b.up) flag (b.begun ++ rest) (record { place = 0; reason = reasons.TooDeep }) at e), refl, omega (arith, place))

module _ (bytes before rest : List ℕ) (b : BodyCalls before level_part) (all : bytes ≡ before ++ rest) where
  body_deep : DeepBy bytes (length before)
  body_deep = by_both (on_way bytes before rest level_part b all (DeepBy bytes (length before)) here)
    where
      by_both : DeepBy bytes (length before) ⊎ DeepBy bytes (length before) → DeepBy bytes (length before)
      by_both (inl d) = d
      by_both (inr d) = d

      here : (new : State) (flag : Bool) → At new (b.slot ∷ b.up) flag (b.begun ++ rest) → new.place + length b.begun ≡ length before → ((f : Fault) → reads new ≡ Err f → IsRefused bytes f) → DeepBy bytes (length before)
      here new flag at place refused =
          let e = item_deep b.begun rest (suc (length b.up)) b.slot flag b.calls in
          (_, refused (record { place = new.place + 0; reason = reasons.TooDeep }) (call_fault new (b.slot ∷ b.up) flag (b.begun ++ rest) (record { place = 0; reason = reasons.TooDeep }) at e), refl, omega (arith, place))

-- ---- the header

first_wrong : (bytes : List ℕ) → 0 < length bytes → (slice_index bytes 0 ≡ 130 → ⊥) → type_at bytes ≡ fault 0 reasons.BadVersion
unfolding type_at
first_wrong bytes some differs =
    let a : nat_lt (length bytes) 1 ≡ false = grind (arith, nat_tests) in
    let b : (slice_index bytes 0 == 130) ≡ false = grind (arith, nat_tests) in
    rw (a, b) refl

module _ (bytes : List ℕ) (two : 1 < length bytes) (begins : slice_index bytes 0 ≡ 130) where
  one_byte : nat_lt (length bytes) 1 ≡ false
  one_byte = grind (arith, nat_tests)

  two_bytes : nat_lt (length bytes) 2 ≡ false
  two_bytes = grind (arith, nat_tests)

  first_is : (slice_index bytes 0 == 130) ≡ true
  first_is = grind (arith, nat_tests)

  version_wrong : (slice_index bytes 1 % 32 ≡ 1 → ⊥) → type_at bytes ≡ fault 1 reasons.BadVersion
  unfolding type_at
  version_wrong differs = let second : (slice_index bytes 1 % 32 == 1) ≡ false = grind (arith, nat_tests) in rw (one_byte, first_is, two_bytes, second) refl

  type_wrong : slice_index bytes 1 % 32 ≡ 1 → type_of (slice_index bytes 1 / 32) ≡ None → type_at bytes ≡ fault 1 reasons.BadType
  unfolding type_at
  type_wrong version none = let second : (slice_index bytes 1 % 32 == 1) ≡ true = grind (arith, nat_tests) in rw (one_byte, first_is, two_bytes, second) (ap type_or_fault none)

type_front : (bytes : List ℕ) (place : ℕ) (r : Reason) → type_at bytes ≡ fault place r → front_at bytes ≡ fault place r
unfolding front_at
type_front bytes place r e = rw e refl

number_front : (bytes rest : List ℕ) (t : MessageType) (r : Reason) → type_at bytes ≡ Ok (t, 2) → drop 2 bytes ≡ rest → varint32_at rest ≡ fault 0 r → front_at bytes ≡ fault 2 r
unfolding front_at
number_front bytes rest t r e is v = rw (e, is, v) refl

module _ (rest : List ℕ) (are : AreBytes rest) (some : 1 ≤ length rest) where
  -- a header that is a fault there
  at_front : (bytes : List ℕ) (place : ℕ) (r : Reason) → front_at bytes ≡ fault place r → IsRefused bytes (record { place = place; reason = r })
  at_front bytes place r e = subst (λ n. IsRefused bytes (record { place = n; reason = r })) (omega arith) (inl (begun_bad bytes (record { place = place; reason = r }) e))

  protocol_wrong : (r : Reason) → IsFaulty protocol_byte r rest → IsRefused rest (record { place = 0; reason = r })
  protocol_wrong reasons.BadVersion differs = at_front rest 0 reasons.BadVersion (type_front rest 0 reasons.BadVersion (first_wrong rest (omega (arith, some)) differs))
  protocol_wrong r bad = absurd bad

  second_wrong : (r : Reason) → IsFaulty version_byte r rest → IsRefused (130 ∷ rest) (record { place = 1; reason = r })
  second_wrong reasons.BadVersion differs = at_front (130 ∷ rest) 1 reasons.BadVersion (type_front (130 ∷ rest) 1 reasons.BadVersion (version_wrong (130 ∷ rest) (omega (arith, some)) refl differs))
  second_wrong reasons.BadType (version, none) = at_front (130 ∷ rest) 1 reasons.BadType (type_front (130 ∷ rest) 1 reasons.BadType (type_wrong (130 ∷ rest) (omega (arith, some)) refl version none))
  second_wrong r bad = absurd bad

  number_wrong : (t : MessageType) (r : Reason) → IsFaulty (varint_part 5 32) r rest → IsRefused (130 ∷ (32 * type_code t + 1) ∷ rest) (record { place = 2; reason = r })
  number_wrong t reasons.BadVarint n = let all = 130 ∷ (32 * type_code t + 1) ∷ rest in at_front all 2 reasons.BadVarint (number_front all rest t reasons.BadVarint (type_again t rest) refl (varint32_bad rest are n))
  number_wrong t r bad = absurd bad

  name_wrong : (t : MessageType) (number : List ℕ) (n : ℕ) (r : Reason) → Spells 5 32 number n → IsFaulty size_part r rest → IsRefused (130 ∷ (32 * type_code t + 1) ∷ (number ++ rest)) (record { place = suc (suc (length number)); reason = r })
  name_wrong t number n r spelled bad =
      let all = 130 ∷ (32 * type_code t + 1) ∷ (number ++ rest) in
      let two : 2 + length number ≡ suc (suc (length number)) = omega arith in
      let front = front_scan all t n (length number) (type_again t (number ++ rest)) (varint32_again n number rest spelled) in
      let behind : drop (2 + length number) all ≡ rest = ap (λ k. drop k all) two ∙ drop_front number rest in
      subst (λ k. IsRefused all (record { place = k; reason = r })) (omega arith) (inl (name_bad all (t, cast_signed w32 n) (2 + length number) (record { place = 0; reason = r }) front (ap string_at behind ∙ string_bad rest are r bad)))

  header_wrong : (before : List ℕ) (part : Part) (r : Reason) → HeaderCalls before part → IsFaulty part r rest → IsRefused (before ++ rest) (record { place = length before; reason = r })
  header_wrong before part r (inl (laid, is)) bad = rw laid (protocol_wrong r (subst (λ p. IsFaulty p r rest) is bad))
  header_wrong before part r (inr (inl (laid, is))) bad = rw laid (second_wrong r (subst (λ p. IsFaulty p r rest) is bad))
  header_wrong before part r (inr (inr (inl (t, laid, is)))) bad = rw laid (number_wrong t r (subst (λ p. IsFaulty p r rest) is bad))
  header_wrong before part r (inr (inr (inr (t, number, n, spelled, laid, is)))) bad = rw laid (name_wrong t number n r spelled (subst (λ p. IsFaulty p r rest) is bad))

no_level : (before : List ℕ) → HeaderCalls before level_part → ⊥
no_level before (inl (laid, is)) = absurd (cc)
no_level before (inr (inl (laid, is))) = absurd (cc)
no_level before (inr (inr (inl (t, laid, is)))) = absurd (cc)
no_level before (inr (inr (inr (t, number, n, spelled, laid, is)))) = absurd (cc)

-- ---- a whole frame

module _ (bytes : List ℕ) (are : AreBytes bytes) (place : ℕ) (within : place ≤ length bytes) where
  abbrev front : List ℕ
  front = take place bytes

  abbrev behind : List ℕ
  behind = drop place bytes

  laid : bytes ≡ front ++ behind
  laid = sym (take-append-drop place bytes)

  size : length front ≡ place
  size = length-take-le place bytes within

  pub wrong_there : (part : Part) (r : Reason) → place < length bytes → IsCalled part bytes place → IsFaulty part r behind → IsRefused bytes (record { place = place; reason = r }) ⊎ DeepBy bytes place
  wrong_there part r less called bad = subst (λ n. IsRefused bytes (record { place = n; reason = r }) ⊎ DeepBy bytes n) size (by_part called)
    where
      some : 1 ≤ length behind
      some = let n = length-drop place bytes in omega (arith, n, less)

      by_part : IsCalled part bytes place → IsRefused bytes (record { place = length front; reason = r }) ⊎ DeepBy bytes (length front)
      by_part (inl (viable, c)) = inl (subst (λ l. IsRefused l (record { place = length front; reason = r })) (sym laid) (header_wrong behind (bytes_on place bytes are) some front part r c bad))
      by_part (inr c) = body_wrong bytes front behind part c laid r (bytes_on place bytes are) some bad

  pub deep_there : IsCalled level_part bytes place → DeepBy bytes place
  deep_there (inl (viable, c)) = absurd (no_level front c)
  deep_there (inr c) = subst (DeepBy bytes) size (body_deep bytes front behind c laid)
