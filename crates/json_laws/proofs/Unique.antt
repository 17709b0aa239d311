-- Bytes spell one message at most, and what follows a message in a longer spelling is whitespace.
use Rattle.std.proofs.Common.{◌≡◌, ℕ, ℤ, pos, List, [], ◌∷◌, ◌++◌, length, drop, Option, Ok, Err, refl, ap, ◌∙◌, sym, subst, arith}
use Rattle.std.proofs.lemmas.List.{append-nil}
use Rattle.thrift_value.specs.declared.kind.MessageType.{MessageType}
use Rattle.thrift_value.specs.Items.{Item}
use Rattle.thrift_value.specs.Trees.{Message, Members, items_of_members}
use Rattle.protocol_traits.specs.declared.fault.Fault.{Fault}
use Rattle.protocol_traits.specs.declared.nest.Slot.{Slot}
use Rattle.protocol_traits.specs.declared.nest.Slot.TheVariants as slots
use Rattle.protocol_traits.specs.Heads.{Header}
use Rattle.protocol_traits.specs.Stack.{first_of}
use Rattle.protocol_traits.specs.Follow.{after}
use Rattle.type_tables.specs.declared.declared.StructId.{StructId}
use Rattle.type_tables.specs.Declarations.{Declarations}
use Rattle.type_walk.specs.Positions.{Position, hint_of, in_struct, standing}
use Rattle.type_walk.specs.Positions.{after as position_after}
use Rattle.json_text.specs.Grammar.{AreWhite}
use Rattle.json_protocol.specs.declared.opening.Opening.{Opening}
use Rattle.json_protocol.specs.declared.opening.Opening.TheVariants as openings
use Rattle.json_protocol.specs.Scan.{Scan}
use Rattle.json_protocol.specs.Reading.{rest, scan_at, opening_after}
use Rattle.json_protocol.specs.Head.{head_at}
use Rattle.json_protocol.specs.Grammar.{Tokens, mark, SpellsMessage}
use Rattle.binary_laws.specs.Reads.{header_of_message}
use Rattle.json_laws.specs.Positions.{declared_of, body_of}
use Rattle.json_laws.proofs.Marks.{Lies, laid_lies, found_mark}
use Rattle.json_laws.proofs.Walking.{Walks}
use Rattle.json_laws.proofs.Trees.{members_walk}
use Rattle.json_laws.specs.Fronts.{head_tokens}
use Rattle.json_laws.proofs.Spelled.{head_read}
use Rattle.json_laws.proofs.Events.{bodies_same}

-- ---- answers

abbrev is_ok : {X : Type 0} → X × ℕ → Scan X
is_ok x = Ok x

abbrev got : {X : Type 0} → X × ℕ → Scan X → X × ℕ
got x (Ok y) = y
got x (Err f) = x

same_scan : {X : Type 0} → (x y : X) (m n : ℕ) → is_ok (x, m) ≡ is_ok (y, n) → (x ≡ y) × (m ≡ n)
same_scan {X} x y m n e = (ap (λ (s : Scan X). (got (x, m) s).0) e, ap (λ (s : Scan X). (got (x, m) s).1) e)

no_scan : {X : Type 0} → (f : Fault) (x : X × ℕ) → Err f ≡ is_ok x → ⊥
no_scan f x e = absurd (cc)

-- ---- two walks over the same bytes

record SameWalk (white other : List ℕ) (xs ys : List Item) (more : Tokens) : Type 0 where
  items : xs ≡ ys
  rest : List ℕ
  one : Lies white more rest
  two : Lies other more rest

-- no item is read behind the last level
none_behind : (depth : ℕ) (opening : Opening) (p : Position) (nest : List Slot) (bytes : List ℕ) (x : (Item × ℕ) × ℕ) → nest ≡ [] → scan_at depth opening (hint_of p) (first_of nest) bytes ≡ Ok x → ⊥
none_behind depth opening p nest bytes x none e = no_scan _ x (ap (λ n. scan_at depth opening (hint_of p) (first_of n) bytes) (sym none) ∙ e)

walks_same : (white other : List ℕ) (level : ℕ → ℕ) (xs ys : List Item) (p : Position) (nest : List Slot) (opening : Opening) (bytes : List ℕ) (last end : Position) (more : Tokens)
    → Walks white level p nest opening bytes xs last [] more → Walks other level p nest opening bytes ys end [] more → SameWalk white other xs ys more
walks_same white other level [] [] p nest opening bytes last end more w v = record { items = refl; rest = bytes; one = w.3; two = v.3 }
walks_same white other level [] (y ∷ ys) p nest opening bytes last end more w (place, taken, scan, v) = absurd (none_behind (level (length nest)) opening p nest bytes ((y, place), taken) w.1 scan)
walks_same white other level (x ∷ xs) [] p nest opening bytes last end more (place, taken, scan, w) v = absurd (none_behind (level (length nest)) opening p nest bytes ((x, place), taken) v.1 scan)
walks_same white other level (x ∷ xs) (y ∷ ys) p nest opening bytes last end more (place, taken, scan, w) (spot, size, other_scan, v) =
    let same = same_scan (x, place) (y, spot) taken size (sym scan ∙ other_scan) in
    let item : x ≡ y = ap (λ (i : Item × ℕ). i.0) same.0 in
    let turned = subst (λ i. Walks other level (position_after p i) (after i nest) (opening_after i) (drop taken bytes) ys end [] more) (sym item)
    (subst (λ n. Walks other level (position_after p y) (after y nest) (opening_after y) (drop n bytes) ys end [] more) (sym same.1) v) in
    let r = walks_same white other level xs ys (position_after p x) (after x nest) (opening_after x) (drop taken bytes) last end more w turned in
    record { items = ap (λ i. i ∷ xs) item ∙ ap (λ l. y ∷ l) r.items; rest = r.rest; one = r.one; two = r.two }

-- ---- two messages

-- what is read of a spelled message with anything behind it, its levels counted or not
pub record Read (d : Declarations) (body : Option StructId) (m : Message) (tail bytes : List ℕ) : Type 0 where
  pub place : ℕ
  pub past : ℕ
  pub head : head_at bytes ≡ Ok ((header_of_message m, place), past)
  pub walk : Walks tail (λ n. 0) (standing d (in_struct (body_of body) ∷ [])) (slots.Fields (pos 0) ∷ []) openings.Body (drop past bytes) (items_of_members m.body) (standing d []) [] (mark 93 ∷ [])

pub read_of : (d : Declarations) (body : Option StructId) (m : Message) (bytes more : List ℕ) → SpellsMessage (declared_of d) (body_of body) m bytes → (white : List ℕ) × AreWhite white × Read d body m (white ++ more) (bytes ++ more)
read_of d body m bytes more (name, seq, inner, text, int, fits, are, members, laid) =
    let later = mark 123 ∷ (inner ++ (mark 125 ∷ mark 93 ∷ [])) in
    let l = laid_lies (head_tokens m.mtype name seq later) bytes more laid in
    let tail = l.0 ++ more in
    let h = head_read tail m name seq later (bytes ++ more) text int fits l.2 in (
      l.0,
      l.1,
      record {
        place = h.place;
        past = h.past;
        head = h.read;
        walk = members_walk tail (λ n. 0) d m.body (body_of body) [] (pos 0) [] openings.Body (drop h.past (bytes ++ more)) inner (mark 93 ∷ []) are members h.left (λ k less. omega arith);
      },
    )

-- the closing bracket, and what is left behind it
same_tail : (white other bytes : List ℕ) → Lies white (mark 93 ∷ []) bytes → Lies other (mark 93 ∷ []) bytes → white ≡ other
same_tail white other bytes one two =
    let f = found_mark white 93 0 bytes [] refl one in
    let g = found_mark other 93 0 bytes [] refl two in
    let same = same_scan tt tt f.past g.past (sym f.read ∙ g.read) in
    sym f.left ∙ ap (λ n. drop n bytes) same.1 ∙ g.left

white_back : (xs ys : List ℕ) → AreWhite (xs ++ ys) → AreWhite ys
white_back [] ys h = h
white_back (x ∷ xs) ys h = white_back xs ys h.1

abbrev message : List ℕ → MessageType → ℤ → Members → Message
message name mtype seq body = record { name = name; mtype = mtype; seq = seq; body = body }

same_message : (m n : Message) → header_of_message m ≡ header_of_message n → m.body ≡ n.body → m ≡ n
same_message m n h b = ap (λ (k : Header). message k.name k.mtype k.seq m.body) h ∙ ap (message n.name n.mtype n.seq) b

joined : (d : Declarations) (body : Option StructId) (m n : Message) (white other bytes : List ℕ) → Read d body m white bytes → Read d body n other bytes → (m ≡ n) × (white ≡ other)
joined d body m n white other bytes r s =
    let same = same_scan (header_of_message m, r.place) (header_of_message n, s.place) r.past s.past (sym r.head ∙ s.head) in
    let start = standing d (in_struct (body_of body) ∷ []) in
    let turned = subst (λ k. Walks other (λ n. 0) start (slots.Fields (pos 0) ∷ []) openings.Body (drop k bytes) (items_of_members n.body) (standing d []) [] (mark 93 ∷ [])) (sym same.1) s.walk in
    let w = walks_same white other (λ n. 0) (items_of_members m.body) (items_of_members n.body) start (slots.Fields (pos 0) ∷ []) openings.Body (drop r.past bytes) (standing d []) (standing d []) (mark 93 ∷ []) r.walk turned in
    (same_message m n (ap (λ (x : Header × ℕ). x.0) same.0) (bodies_same m.body n.body w.items), same_tail white other w.rest w.one w.two)

pub one_message : (d : Declarations) (body : Option StructId) (m n : Message) (front rest : List ℕ) → SpellsMessage (declared_of d) (body_of body) m front → SpellsMessage (declared_of d) (body_of body) n (front ++ rest) → (m ≡ n) × AreWhite rest
one_message d body m n front rest s r =
    let a = read_of d body m front rest s in
    let b = read_of d body n (front ++ rest) [] r in
    let read = subst (Read d body n (b.0 ++ [])) (append-nil (front ++ rest)) b.2 in
    let j = joined d body m n (a.0 ++ rest) (b.0 ++ []) (front ++ rest) a.2 read in
    (j.0, white_back a.0 rest (subst AreWhite (sym (j.1 ∙ append-nil b.0)) b.1))
