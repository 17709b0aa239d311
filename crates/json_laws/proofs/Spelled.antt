-- A frame that spells a message is read as that message.
use Rattle.std.proofs.Common.{◌≡◌, ℕ, ℤ, pos, negsuc, ◌+◌, ◌<◌, true, List, [], ◌∷◌, ◌++◌, length, drop, Option, Ok, refl, ap, ◌∙◌, sym, subst, arith, inl, inr, length-drop}
use Rattle.std.specs.Prelude.{◌==◌, FitsSigned}
use Rattle.std.specs.Int.{w32}
use Rattle.std.proofs.lemmas.Bool.Decides.{nat_tests}
use Rattle.std.proofs.lemmas.List.{append-nil, drop-drop}
use Rattle.thrift_value.specs.declared.kind.MessageType.{MessageType}
use Rattle.thrift_value.specs.declared.kind.MessageType.TheVariants as types
use Rattle.thrift_value.specs.Items.{Item}
use Rattle.thrift_value.specs.Trees.{Message, items_of_members, depth_of_members}
use Rattle.protocol_traits.specs.declared.fault.Reason.TheVariants as reasons
use Rattle.protocol_traits.specs.declared.nest.Slot.{Slot}
use Rattle.protocol_traits.specs.declared.nest.Slot.TheVariants as slots
use Rattle.protocol_traits.specs.Stack.{first_of}
use Rattle.protocol_traits.specs.Follow.{after}
use Rattle.type_tables.specs.declared.declared.StructId.{StructId}
use Rattle.type_tables.specs.Declarations.{Declarations}
use Rattle.type_walk.specs.Positions.{Position, hint_of, standing, start}
use Rattle.type_walk.specs.Positions.{after as position_after}
use Rattle.json_text.specs.Scan.{is_white}
use Rattle.json_text.specs.Grammar.{AreWhite, SpellsInt, SpellsText}
use Rattle.json_text_laws.proofs.Parts.{cut_len}
use Rattle.json_protocol.specs.declared.opening.Opening.{Opening}
use Rattle.json_protocol.specs.declared.opening.Opening.TheVariants as openings
use Rattle.json_protocol.specs.Scan.{gap, further, mark_at}
use Rattle.json_protocol.specs.Words.{int_in, text_in}
use Rattle.json_protocol.specs.Reading.{State, begun, rest, scan_at, opening_after, moved, reads}
use Rattle.json_protocol.specs.Head.{type_of, front_at, back_at, head_at, headed, reads_head, end_scan, reads_end}
use Rattle.json_protocol.specs.Writing.{type_digit}
use Rattle.json_protocol.specs.Grammar.{Tokens, mark, SpellsMessage}
use Rattle.binary_laws.specs.Reads.{header_of_message}
use Rattle.json_laws.specs.Positions.{declared_of, body_of}
use Rattle.json_laws.specs.Fronts.{head_tokens}
use Rattle.json_laws.specs.Reads.{Reads, IsRead}
use Rattle.json_laws.proofs.Marks.{all_white, Lies, laid_lies, front, ahead, found, found_mark}
use Rattle.json_laws.proofs.Words.{IsIn, int_word, int_solid, in_32, text_word, text_solid}
use Rattle.json_laws.proofs.Places.{start_is}
use Rattle.json_laws.proofs.Walking.{Walks}
use Rattle.json_laws.proofs.Trees.{members_walk}

-- ---- from walks to calls

-- the reader has these levels open, so much read of the innermost, and these bytes left
pub record At (s : State) (nest : List Slot) (opening : Opening) (bytes : List ℕ) : Type 0 where
  pub open_levels : s.nest ≡ nest
  pub begins : s.opening ≡ opening
  pub left : rest s ≡ bytes

abbrev pub onward : State → Item → ℕ → ℕ → State
onward s item place taken = record { frame = s.frame; place = s.place + taken; value = s.place + place; nest = after item s.nest; opening = opening_after item }

pub reads_is : (s : State) (p : Position) (nest : List Slot) (opening : Opening) (bytes : List ℕ) (item : Item) (place taken : ℕ) → At s nest opening bytes
    → scan_at (length nest) opening (hint_of p) (first_of nest) bytes ≡ Ok ((item, place), taken) → reads s (hint_of p) ≡ Ok (item, onward s item place taken)
unfolding reads
reads_is s p nest opening bytes item place taken a e =
    ap (λ b. moved s (scan_at (length s.nest) s.opening (hint_of p) (first_of s.nest) b)) a.left
    ∙ ap (λ o. moved s (scan_at (length s.nest) o (hint_of p) (first_of s.nest) bytes)) a.begins
    ∙ ap (λ n. moved s (scan_at (length n) opening (hint_of p) (first_of n) bytes)) a.open_levels ∙ ap (moved s) e

pub at_onward : (s : State) (nest : List Slot) (opening : Opening) (bytes : List ℕ) (item : Item) (place taken : ℕ) → At s nest opening bytes → At (onward s item place taken) (after item nest) (opening_after item) (drop taken bytes)
at_onward s nest opening bytes item place taken a =
    record { open_levels = ap (after item) a.open_levels; begins = refl; left = sym (drop-drop taken s.place s.frame) ∙ ap (drop taken) a.left }

module _ (tail : List ℕ) where
  walk_reads : (items : List Item) (s : State) (p : Position) (nest : List Slot) (opening : Opening) (bytes : List ℕ) (last : Position) (up : List Slot) (more : Tokens) → At s nest opening bytes
      → Walks tail (λ n. n) p nest opening bytes items last up more → (new : State) × Reads p s items new × (new.nest ≡ up) × Lies tail more (rest new)
  walk_reads [] s p nest opening bytes last up more a w = (s, refl, a.open_levels ∙ w.1, subst (Lies tail more) (sym a.left) w.3)
  walk_reads (item ∷ items) s p nest opening bytes last up more a (place, taken, scan, w) =
      let next = onward s item place taken in
      let later = walk_reads items next (position_after p item) (after item nest) (opening_after item) (drop taken bytes) last up more (at_onward s nest opening bytes item place taken a) w in
      (later.0, (next, reads_is s p nest opening bytes item place taken a scan, later.1), later.2, later.3)

  -- ---- the end

  whole_white : AreWhite tail → gap tail ≡ length tail
  whole_white white = ap gap (sym (append-nil tail)) ∙ cut_len is_white tail [] (all_white tail white) tt

  pub ends : (s : State) → AreWhite tail → Lies tail (mark 93 ∷ []) (rest s) → reads_end s ≡ Ok (tt, s)
  unfolding reads_end end_scan
  ends s white lies =
      let bytes = rest s in
      let f = found_mark tail 93 0 bytes [] refl lies in
      let size : length tail ≡ length (drop f.past bytes) = ap length (sym f.left) in
      let within = f.within in
      let all : f.past + gap (drop f.past bytes) ≡ length bytes = ap (λ b. f.past + gap b) f.left ∙ ap (λ n. f.past + n) (whole_white white) ∙ omega (arith, size, length-drop f.past bytes) in
      let test : (f.past + gap (drop f.past bytes) == length bytes) ≡ true = grind (arith, nat_tests) in
      rw (f.read, test) refl

  -- ---- the header

  pub version_in : IsIn (pos 1) (pos 1) (pos 1) (49 ∷ [])
  version_in = record { spells = inr (inl ((omega arith, omega arith, tt), refl)); least = grind (arith, nat_tests); most = grind (arith, nat_tests); fits = (grind (arith, nat_tests), grind (arith, nat_tests)) }

  abbrev pub IsType : MessageType → ℕ → Type 0
  IsType t n = IsIn (pos 1) (pos 4) (pos n) (type_digit t) × (type_of (pos n) ≡ t)

  pub type_in : (t : MessageType) → (n : ℕ) × IsType t n
  type_in types.Call = (1, (record { spells = inr (inl ((omega arith, omega arith, tt), refl)); least = grind (arith, nat_tests); most = grind (arith, nat_tests); fits = (grind (arith, nat_tests), grind (arith, nat_tests)) }, refl))
  type_in types.Reply = (2, (record { spells = inr (inl ((omega arith, omega arith, tt), refl)); least = grind (arith, nat_tests); most = grind (arith, nat_tests); fits = (grind (arith, nat_tests), grind (arith, nat_tests)) }, refl))
  type_in types.Exception = (3, (record { spells = inr (inl ((omega arith, omega arith, tt), refl)); least = grind (arith, nat_tests); most = grind (arith, nat_tests); fits = (grind (arith, nat_tests), grind (arith, nat_tests)) }, refl))
  type_in types.Oneway = (4, (record { spells = inr (inl ((omega arith, omega arith, tt), refl)); least = grind (arith, nat_tests); most = grind (arith, nat_tests); fits = (grind (arith, nat_tests), grind (arith, nat_tests)) }, refl))

  -- behind the name
  pub record Backed (n : ℕ) (bytes : List ℕ) (t : MessageType) (seq : ℤ) (more : Tokens) : Type 0 where
    pub past : ℕ
    pub read : back_at n bytes ≡ Ok ((t, seq), past)
    pub left : Lies tail more (drop past bytes)

  backed : (n : ℕ) (bytes : List ℕ) (t : MessageType) (seq : ℤ) (digits : List ℕ) (more : Tokens) → SpellsInt seq digits → FitsSigned w32 seq → Lies tail (mark 44 ∷ type_digit t ∷ mark 44 ∷ digits ∷ mark 44 ∷ more) (drop n bytes)
      → Backed n bytes t seq more
  unfolding back_at
  backed n bytes t seq digits more spells fits lies =
      let z = type_in t in
      let i = in_32 seq digits spells fits in
      let a = found_mark tail 44 n bytes (type_digit t ∷ mark 44 ∷ digits ∷ mark 44 ∷ more) refl lies in
      let b = found tail (int_in reasons.BadType (pos 1) (pos 4)) a.past bytes (type_digit t) (mark 44 ∷ digits ∷ mark 44 ∷ more) (pos z.0) (int_word tail reasons.BadType (pos 1) (pos 4) (pos z.0) (type_digit t) (mark 44 ∷ digits ∷ mark 44 ∷ more) z.1.0 refl) (int_solid (pos z.0) (type_digit t) z.1.0.spells) a.left in
      let c = found_mark tail 44 b.past bytes (digits ∷ mark 44 ∷ more) refl b.left in
      let e = found tail (int_in reasons.BadNumber (negsuc 2147483647) (pos 2147483647)) c.past bytes digits (mark 44 ∷ more) seq (int_word tail reasons.BadNumber (negsuc 2147483647) (pos 2147483647) seq digits (mark 44 ∷ more) i refl) (int_solid seq digits spells) c.left in
      let f = found_mark tail 44 e.past bytes more refl e.left in
      record { past = f.past; read = rw (a.read, b.read, c.read, e.read, f.read) (ap (λ k. Ok ((k, seq), f.past)) z.1.1); left = f.left }

  -- up to the name
  pub record Fronted (bytes name : List ℕ) (more : Tokens) : Type 0 where
    pub place : ℕ
    pub read : front_at bytes ≡ Ok (tt, place)
    pub past : ℕ
    pub left : Lies tail more (drop (place + past) bytes)

  pub record Headed (m : Message) (bytes : List ℕ) (more : Tokens) : Type 0 where
    pub place : ℕ
    pub past : ℕ
    pub read : head_at bytes ≡ Ok ((header_of_message m, place), past)
    pub left : Lies tail more (drop past bytes)

  head_joined : (bytes : List ℕ) (m : Message) (place n past : ℕ) → front_at bytes ≡ Ok (tt, place) → text_in (drop place bytes) ≡ Ok (m.name, n) → back_at (place + n) bytes ≡ Ok ((m.mtype, m.seq), past)
      → head_at bytes ≡ Ok ((header_of_message m, place), past)
  unfolding head_at
  head_joined bytes m place n past f t b = rw (f, t, b) refl

  front_joined : (bytes : List ℕ) (a b c : ℕ) → further 0 (mark_at 91) bytes ≡ Ok (tt, a) → further a (int_in reasons.BadVersion (pos 1) (pos 1)) bytes ≡ Ok (pos 1, b) → further b (mark_at 44) bytes ≡ Ok (tt, c)
      → front_at bytes ≡ Ok (tt, c + gap (drop c bytes))
  unfolding front_at
  front_joined bytes a b c x y z = rw (x, y, z) refl

  pub head_read : (m : Message) (name seq : List ℕ) (more : Tokens) (bytes : List ℕ) → SpellsText m.name name → SpellsInt m.seq seq → FitsSigned w32 m.seq → Lies tail (head_tokens m.mtype name seq more) bytes → Headed m bytes more
  head_read m name seq more bytes text int fits lies =
      let behind = mark 44 ∷ type_digit m.mtype ∷ mark 44 ∷ seq ∷ mark 44 ∷ more in
      let a = found_mark tail 91 0 bytes (mark 49 ∷ mark 44 ∷ name ∷ behind) refl lies in
      let b = found tail (int_in reasons.BadVersion (pos 1) (pos 1)) a.past bytes (mark 49) (mark 44 ∷ name ∷ behind) (pos 1) (int_word tail reasons.BadVersion (pos 1) (pos 1) (pos 1) (mark 49) (mark 44 ∷ name ∷ behind) version_in refl) refl a.left in
      let c = found_mark tail 44 b.past bytes (name ∷ behind) refl b.left in
      let e = ahead tail c.past bytes name behind (text_solid m.name name text) c.left in
      let place = c.past + gap (drop c.past bytes) in
      let t = front tail text_in name behind (drop place bytes) m.name (text_word tail m.name name behind text) e.ready in
      let k = backed (place + t.past) bytes m.mtype m.seq seq more int fits (subst (Lies tail behind) (drop-drop t.past place bytes) t.left) in
      record { place = place; past = k.past; read = head_joined bytes m place t.past k.past (front_joined bytes a.past b.past c.past a.read b.read c.read) t.read k.read; left = k.left }

-- ---- a whole frame

abbrev pub headed_state : List ℕ → ℕ → ℕ → State
headed_state bytes place past = record { frame = bytes; place = 0 + past; value = 0 + place; nest = slots.Fields (pos 0) ∷ []; opening = openings.Body }

pub head_is : (bytes : List ℕ) (m : Message) (place past : ℕ) → head_at bytes ≡ Ok ((header_of_message m, place), past) → reads_head (begun bytes) ≡ Ok (header_of_message m, headed_state bytes place past)
unfolding reads_head
head_is bytes m place past e = ap (headed (begun bytes)) e

pub spelled_read : (d : Declarations) (body : Option StructId) (m : Message) (bytes : List ℕ) → SpellsMessage (declared_of d) (body_of body) m bytes → depth_of_members m.body < 256
    → IsRead (start d body) bytes (header_of_message m) (items_of_members m.body)
spelled_read d body m bytes (name, seq, inner, text, int, fits, are, members, laid) deep =
    let later = mark 123 ∷ (inner ++ (mark 125 ∷ mark 93 ∷ [])) in
    let l = laid_lies (head_tokens m.mtype name seq later) bytes [] laid in
    let tail = l.0 in
    let lies = subst (Lies tail (head_tokens m.mtype name seq later)) (append-nil bytes) (subst (λ t. Lies t (head_tokens m.mtype name seq later) (bytes ++ [])) (append-nil tail) l.2) in
    let h = head_read tail m name seq later bytes text int fits lies in
    let first = headed_state bytes h.place h.past in
    let walk = members_walk tail (λ n. n) d m.body (body_of body) [] (pos 0) [] openings.Body (drop h.past bytes) inner (mark 93 ∷ []) are members h.left (λ k less. omega (arith, less, deep)) in
    let same : 0 + h.past ≡ h.past = omega arith in
    let at : At first (slots.Fields (pos 0) ∷ []) openings.Body (drop h.past bytes) = record { open_levels = refl; begins = refl; left = ap (λ n. drop n bytes) same } in
    let w = walk_reads tail (items_of_members m.body) first (start d body) (slots.Fields (pos 0) ∷ []) openings.Body (drop h.past bytes) (standing d []) [] (mark 93 ∷ []) at
    (subst (λ p. Walks tail (λ n. n) p (slots.Fields (pos 0) ∷ []) openings.Body (drop h.past bytes) (items_of_members m.body) (standing d []) [] (mark 93 ∷ [])) (sym (start_is d body)) walk) in
    (first, w.0, head_is bytes m h.place h.past h.read, w.1, w.2, ends tail w.0 l.1 w.3)
