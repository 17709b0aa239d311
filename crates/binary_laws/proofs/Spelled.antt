-- A frame that spells a message is read as that message.
use Rattle.std.proofs.Common.{◌≡◌, ℕ, pos, ◌+◌, ◌<◌, true, List, [], ◌∷◌, ◌++◌, length, drop, Ok, refl, ap, ◌∙◌, sym, subst, arith, length-append, append_assoc}
use Rattle.std.specs.Prelude.{◌==◌}
use Rattle.std.proofs.lemmas.Bool.Decides.{nat_tests}
use Rattle.std.proofs.lemmas.List.{append-nil}
use Rattle.thrift_value.specs.Items.{Item}
use Rattle.thrift_value.specs.Trees.{Message, items_of_members, depth_of_members}
use Rattle.protocol_traits.specs.declared.nest.Slot.{Slot}
use Rattle.protocol_traits.specs.Stack.{first_of}
use Rattle.protocol_traits.specs.Follow.{after}
use Rattle.protocol_traits.specs.Heads.{Header}
use Rattle.binary_protocol.specs.Heads.{head_at, name_place}
use Rattle.binary_protocol.specs.Reading.{State, rest, scan_at, moved, reads, headed, begun, body_open, reads_head, reads_end}
use Rattle.binary_protocol.specs.Grammar.{BinarySpells}
use Rattle.binary_laws.proofs.Walking.{Walks, members_walk}
use Rattle.binary_laws.proofs.Heading.{drop_front, head_again}
use Rattle.binary_laws.specs.Reads.{Reads, IsRead, header_of_message}

-- so much of the frame is behind, and these levels and bytes are left
pub record At (s : State) (nest : List Slot) (bytes : List ℕ) : Type 0 where
  pub front : List ℕ
  pub open_levels : s.nest ≡ nest
  pub laid : s.frame ≡ front ++ bytes
  pub place : s.place ≡ length front

pub rest_is : (s : State) (nest : List Slot) (bytes : List ℕ) → At s nest bytes → rest s ≡ bytes
rest_is s nest bytes a = ap (λ f. drop s.place f) a.laid ∙ ap (λ n. drop n (a.front ++ bytes)) a.place ∙ drop_front a.front bytes

abbrev pub onward : State → Item → ℕ → State
onward s item taken = record { frame = s.frame; place = s.place + taken; value = s.place; nest = after item s.nest }

pub reads_is : (s : State) (nest : List Slot) (bytes : List ℕ) (item : Item) (taken : ℕ) → At s nest bytes → scan_at (first_of nest) (length nest) bytes ≡ Ok (item, taken) → reads s ≡ Ok (item, onward s item taken)
unfolding reads
reads_is s nest bytes item taken a e =
    ap (λ l. moved s (scan_at (first_of s.nest) (length s.nest) l)) (rest_is s nest bytes a) ∙ ap (λ n. moved s (scan_at (first_of n) (length n) bytes)) a.open_levels ∙ ap (moved s) e

pub at_onward : (s : State) (nest : List Slot) (item : Item) (front rest : List ℕ) → At s nest (front ++ rest) → At (onward s item (length front)) (after item nest) rest
at_onward s nest item front rest a = record {
  front = a.front ++ front;
  open_levels = ap (after item) a.open_levels;
  laid = a.laid ∙ sym (append_assoc a.front front rest);
  place = ap (λ n. n + length front) a.place ∙ sym (length-append a.front front);
}

pub walk_reads : (items : List Item) (s : State) (nest : List Slot) (bytes : List ℕ) (last : List Slot) (left : List ℕ) → At s nest bytes → Walks nest bytes items last left → (new : State) × Reads s items new × At new last left
walk_reads [] s nest bytes last left a w = (s, refl, subst (λ n. At s n left) w.0 (subst (At s nest) w.1 a))
walk_reads (item ∷ items) s nest bytes last left a (front, rest, laid, scan, w) =
    let next = onward s item (length front) in
    let more = walk_reads items next (after item nest) rest last left (at_onward s nest item front rest (subst (At s nest) laid a)) w in
    (more.0, (next, reads_is s nest bytes item (length front) a scan, more.1), more.2)

ends : (s : State) → At s [] [] → reads_end s ≡ Ok (tt, s)
unfolding reads_end
ends s a =
    let none : (length s.nest == 0) ≡ true = ap (λ n. length n == 0) a.open_levels in
    let size : length s.frame ≡ s.place = ap length (a.laid ∙ append-nil a.front) ∙ sym a.place in
    let all : (s.place == length s.frame) ≡ true = grind (arith, nat_tests) in
    rw (none, all) refl

abbrev pub headed_state : List ℕ → ℕ → State
headed_state bytes taken = record { frame = bytes; place = 0 + taken; value = 0 + name_place bytes; nest = body_open }

pub head_is : (bytes : List ℕ) (h : Header) (taken : ℕ) → head_at bytes ≡ Ok (h, taken) → reads_head (begun bytes) ≡ Ok (h, headed_state bytes taken)
unfolding reads_head
head_is bytes h taken e = ap (headed (begun bytes)) e

pub spelled_read : (m : Message) (bytes : List ℕ) → BinarySpells m bytes → depth_of_members m.body < 256 → IsRead bytes (header_of_message m) (items_of_members m.body)
spelled_read m bytes (small, fits, (header, body, head, members, laid)) deep =
    let first = headed_state bytes (length header) in
    let scan = ap head_at laid ∙ head_again m small fits body header head in
    let at : At first body_open (body ++ []) = record { front = header; open_levels = refl; laid = laid ∙ ap (λ b. header ++ b) (sym (append-nil body)); place = omega arith } in
    let w = walk_reads (items_of_members m.body) first body_open (body ++ []) [] [] at (members_walk m.body (pos 0) [] body [] members (omega arith)) in
    (first, w.0, head_is bytes (header_of_message m) (length header) scan, w.1, ends w.0 w.2)
