-- A frame that is read is spelled as a message.
use Rattle.std.proofs.Common.{◌≡◌, ℕ, pos, ◌<◌, ◌≤◌, Bool, false, cond, List, [], ◌∷◌, ◌++◌, length, Ok, Err, refl, ap, ◌∙◌, sym, subst, arith, length-append}
use Rattle.std.specs.Prelude.{◌==◌}
use Rattle.std.proofs.lemmas.Bool.Decides.{nat_tests}
use Rattle.std.proofs.lemmas.List.{append-nil}
use Rattle.thrift_value.specs.Items.{Item}
use Rattle.thrift_value.specs.Trees.{Message, Members, items_of_members, depth_of_members}
use Rattle.protocol_traits.specs.declared.nest.Slot.{Slot}
use Rattle.protocol_traits.specs.Stack.{first_of}
use Rattle.protocol_traits.specs.Follow.{after}
use Rattle.protocol_traits.specs.Heads.{Header}
use Rattle.compact_protocol.specs.Scan.{Scan, flag_of}
use Rattle.compact_protocol.specs.Reading.{State, rest, scan_at, moved, reads, reads_end}
use Rattle.compact_protocol.specs.Grammar.{SpellsMembers, CompactSpells}
use Rattle.gate_base.specs.Bytes.{AreBytes}
use Rattle.binary_laws.specs.Reads.{header_of_message}
use Rattle.binary_laws.proofs.Inverse.{bytes_front, no_fault}
use Rattle.binary_laws.proofs.Headed.{message_of}
use Rattle.compact_laws.specs.Reads.{Reads, IsRead}
use Rattle.compact_laws.proofs.Levels.{Ends, AreIds}
use Rattle.compact_laws.proofs.Stepping.{stepped}
use Rattle.compact_laws.proofs.Headed.{head_read, at_body}
use Rattle.compact_laws.proofs.Spelled.{At, scan_is, onward, at_onward, body_open}
use Rattle.compact_laws.proofs.Steps.{same_answer, no_step, no_levels, step_past}

-- ---- answers

pub moved_read : (s : State) (scan : Scan Item) (item : Item) (next : State) → moved s scan ≡ Ok (item, next) → (taken : ℕ) × (scan ≡ Ok (item, taken)) × (next ≡ onward s item taken)
moved_read s (Ok x) item next e =
    let same = same_answer x.0 item (onward s x.0 x.1) next e in
    (x.1, ap (λ i. Ok (i, x.1)) same.0, sym same.1 ∙ ap (λ i. onward s i x.1) same.0)
moved_read s (Err f) item next e = absurd (no_step _ (item, next) e)

pub reads_read : (s : State) (nest : List Slot) (flag : Bool) (bytes : List ℕ) (item : Item) (next : State) → At s nest flag bytes → reads s ≡ Ok (item, next)
    → (taken : ℕ) × (scan_at (first_of nest) (length nest) flag bytes ≡ Ok (item, taken)) × (next ≡ onward s item taken)
unfolding reads
reads_read s nest flag bytes item next a e =
    let m = moved_read s (scan_at (first_of s.nest) (length s.nest) s.flag (rest s)) item next e in
    (m.0, sym (scan_is s nest flag bytes a) ∙ m.1, m.2)

-- ---- the end

no_bytes : (bytes : List ℕ) → length bytes ≡ 0 → bytes ≡ []
no_bytes [] e = refl
no_bytes (x ∷ bytes) e = absurd (omega arith)

end_read : (s last : State) (nest : List Slot) (flag : Bool) (bytes : List ℕ) → At s nest flag bytes → reads_end s ≡ Ok (tt, last) → Ends 256 flag nest [] bytes
unfolding reads_end
end_read s last nest flag bytes a e =
    let p = step_past (length s.nest == 0) (cond (s.place == length s.frame) (Ok (tt, s)) (Err _)) _ (tt, last) e in
    let q = step_past (s.place == length s.frame) (Ok (tt, s)) _ (tt, last) p.1 in
    let none : nest ≡ [] = sym a.open_levels ∙ no_levels s.nest p.0 in
    let q0 = q.0 in
    let all : s.place ≡ length s.frame = grind (arith, nat_tests) in
    let empty : bytes ≡ [] = no_bytes bytes (omega (arith, all, a.place, ap length a.laid, length-append a.front bytes)) in
    subst (λ n. Ends 256 flag n [] bytes) (sym none) (refl, empty)

-- ---- item after item

pub at_front : (s : State) (nest : List Slot) (flag : Bool) (item : Item) (taken : ℕ) (front more : List ℕ) → At s nest flag (front ++ more) → taken ≡ length front → At (onward s item taken) (after item nest) (flag_of (front ++ more)) more
at_front s nest flag item taken front more a e = subst (λ n. At (onward s item n) (after item nest) (flag_of (front ++ more)) more) (sym e) (at_onward s nest flag item front more a)

-- what a state stands for: its levels, with ids in range, what was told and the bytes that are left
pub record Stands (s : State) (nest : List Slot) (flag : Bool) (bytes : List ℕ) : Type 0 where
  pub at : At s nest flag bytes
  pub are : AreBytes bytes
  pub most : length nest ≤ 256
  pub ids : AreIds nest

-- what the items behind hold, and one more
one_more : (item : Item) (items : List Item) (s next : State) (nest : List Slot) (flag : Bool) (bytes : List ℕ) → Stands s nest flag bytes
    → (taken : ℕ) × (scan_at (first_of nest) (length nest) flag bytes ≡ Ok (item, taken)) × (next ≡ onward s item taken)
    → ((inner : List Slot) (told : Bool) (rest : List ℕ) → Stands next inner told rest → Ends 256 told inner items rest) → Ends 256 flag nest (item ∷ items) bytes
one_more item items s next [] flag bytes a (taken, scan, is) go = absurd (no_fault _ (item, taken) scan)
one_more item items s next (slot ∷ up) flag bytes a (taken, scan, is) go =
    let st = stepped slot up flag bytes item taken a.most a.ids a.are scan in
    let at = at_front s (slot ∷ up) flag item taken st.front st.rest (subst (At s (slot ∷ up) flag) st.laid a.at) st.size in
    let same = subst (λ b. At (onward s item taken) (after item (slot ∷ up)) (flag_of b) st.rest) (sym st.laid) at in
    let rest_are = (bytes_front st.front st.rest (subst AreBytes st.laid a.are)).1 in
    let ends = go (after item (slot ∷ up)) (flag_of bytes) st.rest (record { at = subst (λ x. At x (after item (slot ∷ up)) (flag_of bytes) st.rest) (sym is) same; are = rest_are; most = st.within; ids = st.ids }) in
    subst (λ b. Ends 256 flag (slot ∷ up) (item ∷ items) b) (sym st.laid) (st.onward 256 (omega arith) items st.rest ends)

pub sound : (items : List Item) (s last : State) (nest : List Slot) (flag : Bool) (bytes : List ℕ) → Stands s nest flag bytes → Reads s items last → reads_end last ≡ Ok (tt, last) → Ends 256 flag nest items bytes
sound [] s last nest flag bytes a r e = end_read s last nest flag bytes a.at (subst (λ x. reads_end x ≡ Ok (tt, last)) (sym r) e)
sound (item ∷ items) s last nest flag bytes a (next, step, more) e =
    one_more item items s next nest flag bytes a (reads_read s nest flag bytes item next a.at step) (λ inner told rest b. sound items next last inner told rest b more e)

-- ---- a whole frame

-- of the body alone
record Body (items : List Item) (bytes : List ℕ) : Type 0 where
  ms : Members
  spells : SpellsMembers (pos 0) ms bytes
  is : items ≡ items_of_members ms
  deep : depth_of_members ms < 256

body_spelled : (items : List Item) (bytes : List ℕ) → Ends 256 false body_open items bytes → Body items bytes
body_spelled items bytes e =
    let f = e.one in
    let none = e.two.1 in
    let all : bytes ≡ e.front = e.laid ∙ ap (λ l. e.front ++ l) none.1 ∙ append-nil e.front in
    record {
      ms = f.ms;
      spells = subst (SpellsMembers (pos 0) f.ms) (sym all) f.spells;
      is = e.is ∙ ap (λ l. e.first ++ l) none.0 ∙ append-nil e.first ∙ f.is;
      deep = omega (arith, f.deep);
    }

pub read_spelled : (bytes : List ℕ) (h : Header) (items : List Item) → AreBytes bytes → IsRead bytes h items
    → (m : Message) × (h ≡ header_of_message m) × (items ≡ items_of_members m.body) × (depth_of_members m.body < 256) × CompactSpells m bytes
read_spelled bytes h items are (first, last, head, body, end) =
    let x = head_read bytes are h first head in
    let body_are = (bytes_front x.header x.body (subst AreBytes x.laid are)).1 in
    let a : Stands first body_open false x.body = record { at = at_body bytes h first x; are = body_are; most = omega arith; ids = (omega arith, tt) } in
    let b = body_spelled items x.body (sound items first last body_open false x.body a body end) in
    (message_of h b.ms, refl, b.is, b.deep, (x.header, x.body, x.spells b.ms, b.spells, x.laid))
