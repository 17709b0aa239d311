-- A frame that spells a message is read as that message.
use Rattle.std.proofs.Common.{◌≡◌, ℕ, ℤ, pos, ◌+◌, ◌<◌, Bool, true, false, List, [], ◌∷◌, ◌++◌, length, drop, Ok, refl, ap, ◌∙◌, sym, subst, arith, length-append, append_assoc}
use Rattle.std.specs.Prelude.{◌==◌}
use Rattle.std.proofs.lemmas.Bool.Decides.{nat_tests}
use Rattle.std.proofs.lemmas.List.{append-nil}
use Rattle.thrift_value.specs.declared.kind.MessageType.{MessageType}
use Rattle.thrift_value.specs.Items.{Item}
use Rattle.thrift_value.specs.Trees.{Message, items_of_members, depth_of_members}
use Rattle.protocol_traits.specs.declared.nest.Slot.{Slot}
use Rattle.protocol_traits.specs.declared.nest.Slot.TheVariants as slots
use Rattle.protocol_traits.specs.Stack.{first_of}
use Rattle.protocol_traits.specs.Follow.{after}
use Rattle.compact_protocol.specs.Scan.{front_at, string_at, flag_of, shifted}
use Rattle.compact_protocol.specs.Reading.{State, rest, scan_at, moved, reads, named, headed, begun, reads_head, reads_end}
use Rattle.compact_protocol.specs.Grammar.{CompactSpells}
use Rattle.compact_laws.proofs.Walking.{Walks, members_walk}
use Rattle.compact_laws.proofs.Heading.{head_again}
use Rattle.compact_laws.specs.Reads.{Reads, IsRead}
use Rattle.binary_laws.specs.Reads.{header_of_message}
use Rattle.binary_laws.proofs.Heading.{drop_front}

-- so much of the frame is behind, this was told last, and these levels and bytes are left
pub record At (s : State) (nest : List Slot) (flag : Bool) (bytes : List ℕ) : Type 0 where
  pub front : List ℕ
  pub open_levels : s.nest ≡ nest
  pub told : s.flag ≡ flag
  pub laid : s.frame ≡ front ++ bytes
  pub place : s.place ≡ length front

pub rest_is : (s : State) (nest : List Slot) (flag : Bool) (bytes : List ℕ) → At s nest flag bytes → rest s ≡ bytes
rest_is s nest flag bytes a = ap (λ f. drop s.place f) a.laid ∙ ap (λ n. drop n (a.front ++ bytes)) a.place ∙ drop_front a.front bytes

abbrev pub onward : State → Item → ℕ → State
onward s item taken = record { frame = s.frame; place = s.place + taken; value = s.place; flag = flag_of (rest s); nest = after item s.nest }

pub scan_is : (s : State) (nest : List Slot) (flag : Bool) (bytes : List ℕ) → At s nest flag bytes → scan_at (first_of s.nest) (length s.nest) s.flag (rest s) ≡ scan_at (first_of nest) (length nest) flag bytes
scan_is s nest flag bytes a =
    ap (λ l. scan_at (first_of s.nest) (length s.nest) s.flag l) (rest_is s nest flag bytes a) ∙ ap (λ f. scan_at (first_of s.nest) (length s.nest) f bytes) a.told ∙ ap (λ n. scan_at (first_of n) (length n) flag bytes) a.open_levels

pub reads_is : (s : State) (nest : List Slot) (flag : Bool) (bytes : List ℕ) (item : Item) (taken : ℕ) → At s nest flag bytes → scan_at (first_of nest) (length nest) flag bytes ≡ Ok (item, taken) → reads s ≡ Ok (item, onward s item taken)
unfolding reads
reads_is s nest flag bytes item taken a e = ap (moved s) (scan_is s nest flag bytes a ∙ e)

pub at_onward : (s : State) (nest : List Slot) (flag : Bool) (item : Item) (front rest : List ℕ) → At s nest flag (front ++ rest) → At (onward s item (length front)) (after item nest) (flag_of (front ++ rest)) rest
at_onward s nest flag item front rest a = record {
  front = a.front ++ front;
  open_levels = ap (after item) a.open_levels;
  told = ap flag_of (rest_is s nest flag (front ++ rest) a);
  laid = a.laid ∙ sym (append_assoc a.front front rest);
  place = ap (λ n. n + length front) a.place ∙ sym (length-append a.front front);
}

pub walk_reads : (items : List Item) (s : State) (nest : List Slot) (flag : Bool) (bytes : List ℕ) (last : List Slot) (left : List ℕ) → At s nest flag bytes → Walks nest flag bytes items last left
    → (new : State) × Reads s items new × ((told : Bool) × At new last told left)
walk_reads [] s nest flag bytes last left a w = (s, refl, (flag, subst (λ n. At s n flag left) w.0 (subst (At s nest flag) w.1 a)))
walk_reads (item ∷ items) s nest flag bytes last left a (front, rest, laid, scan, w) =
    let next = onward s item (length front) in
    let at = at_onward s nest flag item front rest (subst (At s nest flag) laid a) in
    let same = subst (λ b. Walks (after item nest) (flag_of b) rest items last left) laid w in
    let more = walk_reads items next (after item nest) (flag_of (front ++ rest)) rest last left at same in
    (more.0, (next, reads_is s nest flag bytes item (length front) a scan, more.1), more.2)

ends : (s : State) (flag : Bool) → At s [] flag [] → reads_end s ≡ Ok (tt, s)
unfolding reads_end
ends s flag a =
    let none : (length s.nest == 0) ≡ true = ap (λ n. length n == 0) a.open_levels in
    let size : length s.frame ≡ s.place = ap length (a.laid ∙ append-nil a.front) ∙ sym a.place in
    let all : (s.place == length s.frame) ≡ true = grind (arith, nat_tests) in
    rw (none, all) refl

-- the body's struct alone
abbrev pub body_open : List Slot
body_open = slots.Fields (pos 0) ∷ []

-- behind a header whose name began at a place and was so long
abbrev pub headed_state : List ℕ → ℕ → ℕ → State
headed_state bytes at long = record { frame = bytes; place = 0 + (at + long); value = 0 + at; flag = false; nest = body_open }

pub head_is : (bytes name : List ℕ) (front : MessageType × ℤ) (at long : ℕ) → front_at bytes ≡ Ok (front, at) → string_at (drop at bytes) ≡ Ok (name, long)
    → reads_head (begun bytes) ≡ Ok (record { name = name; mtype = front.0; seq = front.1 }, headed_state bytes at long)
unfolding reads_head
head_is bytes name front at long e f = ap (headed (begun bytes)) e ∙ ap (λ s. named (begun bytes) front at (shifted at s)) f

pub spelled_read : (m : Message) (bytes : List ℕ) → CompactSpells m bytes → depth_of_members m.body < 256 → IsRead bytes (header_of_message m) (items_of_members m.body)
spelled_read m bytes (header, body, head, members, laid) deep =
    let h = head_again m header body head in
    let whole = h.whole in
    let first = headed_state bytes h.at h.long in
    let at : At first body_open false (body ++ []) = record { front = header; open_levels = refl; told = refl; laid = laid ∙ ap (λ b. header ++ b) (sym (append-nil body)); place = omega arith } in
    let w = walk_reads (items_of_members m.body) first body_open false (body ++ []) [] [] at (members_walk m.body (pos 0) [] false body [] members (omega arith)) in
    (first, w.0, head_is bytes m.name (m.mtype, m.seq) h.at h.long (ap front_at laid ∙ h.front) (ap (λ l. string_at (drop h.at l)) laid ∙ h.name), w.1, ends w.0 w.2.0 w.2.1)
