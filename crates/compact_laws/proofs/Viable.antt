-- A frame that is cut short can be completed to a message.
use Rattle.std.proofs.Common.{◌≡◌, ℕ, pos, suc, ◌+◌, ◌≤◌, Bool, true, false, cond, List, [], ◌∷◌, ◌++◌, length, Ok, Err, ap, ◌∙◌, sym, subst, arith, inl, inr, length-append, append_assoc}
use Rattle.std.specs.Prelude.{◌==◌}
use Rattle.std.proofs.lemmas.List.{append-nil}
use Rattle.thrift_value.specs.Items.{Item}
use Rattle.thrift_value.specs.Trees.{Members}
use Rattle.protocol_traits.specs.declared.fault.Fault.{Fault}
use Rattle.protocol_traits.specs.declared.fault.Reason.TheVariants as reasons
use Rattle.protocol_traits.specs.declared.nest.Slot.{Slot}
use Rattle.protocol_traits.specs.Stack.{first_of}
use Rattle.protocol_traits.specs.Follow.{after}
use Rattle.compact_protocol.specs.Scan.{item_in, flag_of}
use Rattle.compact_protocol.specs.Reading.{State, scan_at, reads_end}
use Rattle.compact_protocol.specs.Grammar.{SpellsMembers}
use Rattle.gate_base.specs.Bytes.{AreBytes}
use Rattle.binary_laws.proofs.Inverse.{bytes_front, no_fault}
use Rattle.binary_laws.proofs.Closing.{bytes_join}
use Rattle.binary_laws.proofs.Headed.{message_of}
use Rattle.binary_laws.proofs.Unique.{split_same}
use Rattle.compact_laws.specs.Reads.{Reads}
use Rattle.compact_laws.specs.Refused.{IsViable, Refuses, IsRefused}
use Rattle.compact_laws.proofs.Levels.{Ends, AreIds}
use Rattle.compact_laws.proofs.Closing.{nest_closed}
use Rattle.compact_laws.proofs.Cutting.{Completed, item_cut}
use Rattle.compact_laws.proofs.HeadCut.{head_cut}
use Rattle.compact_laws.proofs.Stepping.{stepped}
use Rattle.compact_laws.proofs.Headed.{head_read, at_body}
use Rattle.compact_laws.proofs.Spelled.{At, onward, body_open}
use Rattle.compact_laws.proofs.Staying.{reads_fault, head_fault}
use Rattle.compact_laws.proofs.Steps.{is_step, is_bad, same_blame, no_blame}
use Rattle.compact_laws.proofs.Sound.{Stands, reads_read, at_front}

-- some bytes behind these end what is open
pub record Goes (nest : List Slot) (flag : Bool) (bytes : List ℕ) : Type 0 where
  pub more : List ℕ
  pub items : List Item
  pub ends : Ends 257 flag nest items (bytes ++ more)

-- ---- the item that is cut

pub completed_goes : (slot : Slot) (up : List Slot) (flag : Bool) (bytes : List ℕ) → suc (length up) ≤ 256 → AreIds (slot ∷ up) → AreBytes bytes → Completed (item_in (suc (length up)) slot flag) bytes → Goes (slot ∷ up) flag bytes
completed_goes slot up flag bytes most ids are c =
    let front = bytes ++ c.more in
    let one = stepped slot up flag (front ++ []) c.item (length front) most ids (bytes_join front [] (bytes_join bytes c.more are c.are) tt) (c.whole []) in
    let cl = nest_closed (after c.item (slot ∷ up)) (flag_of (front ++ [])) one.within in
    let same = split_same front one.front [] one.rest one.size one.laid in
    let all = one.onward 257 (omega arith) cl.items cl.bytes cl.closes in
    record {
      more = c.more ++ cl.bytes;
      items = c.item ∷ cl.items;
      ends = subst (Ends 257 flag (slot ∷ up) (c.item ∷ cl.items)) (ap (λ l. l ++ cl.bytes) (sym same.0) ∙ append_assoc bytes c.more cl.bytes) all;
    }

-- ---- the call that is refused

-- where no level is open, the end is refused as trailing
end_trailing : (s : State) (f : Fault) → s.nest ≡ [] → reads_end s ≡ Err f → reasons.Trailing ≡ f.reason
unfolding reads_end
end_trailing s f none e = by_tests (length s.nest == 0) (s.place == length s.frame) (ap (λ n. length n == 0) none) e
  where
    by_tests : (a b : Bool) → a ≡ true → cond a (cond b (is_step (tt {0}, s)) (is_bad {X = Unit {0}} (record { place = s.place; reason = reasons.Trailing }))) (is_bad (record { place = length s.frame; reason = reasons.Truncated })) ≡ Err f → reasons.Trailing ≡ f.reason
    by_tests false b p h = absurd (cc)
    by_tests true true p h = absurd (no_blame (tt {0}, s) f h)
    by_tests true false p h = ap (λ (b : Fault). b.reason) (same_blame {X = Unit {0}} (record { place = s.place; reason = reasons.Trailing }) f h)

not_trailing : reasons.Trailing ≡ reasons.Truncated → ⊥
not_trailing e = absurd (cc)

abbrev pub Cut : State → List Slot → Bool → List ℕ → Fault → Type 0
Cut s nest flag bytes f = (f.place ≡ length s.frame) × Goes nest flag bytes

cut_here : (s : State) (nest : List Slot) (flag : Bool) (bytes : List ℕ) (f : Fault) → Stands s nest flag bytes → f.reason ≡ reasons.Truncated → Refuses s f → Cut s nest flag bytes f
cut_here s [] flag bytes f a t (inl (some, e)) = absurd (some a.at.open_levels)
cut_here s (slot ∷ up) flag bytes f a t (inl (some, e)) =
    let g = reads_fault s (slot ∷ up) flag bytes f a.at e in
    let c = item_cut (suc (length up)) slot flag bytes a.are g.0 g.1 (ap (λ (b : Fault). b.reason) (sym g.2) ∙ t) in
    let place : f.place ≡ s.place + g.0.place = ap (λ (b : Fault). b.place) g.2 in
    (omega (arith, place, c.0, a.at.place, ap length a.at.laid, length-append a.at.front bytes), completed_goes slot up flag bytes a.most a.ids a.are c.1)
cut_here s nest flag bytes f a t (inr (none, e)) = absurd (not_trailing (end_trailing s f none e ∙ t))

-- ---- item after item

pub one_back : (item : Item) (s next : State) (nest : List Slot) (flag : Bool) (bytes : List ℕ) (f : Fault) → Stands s nest flag bytes
    → (taken : ℕ) × (scan_at (first_of nest) (length nest) flag bytes ≡ Ok (item, taken)) × (next ≡ onward s item taken)
    → ((inner : List Slot) (told : Bool) (rest : List ℕ) → Stands next inner told rest → Cut next inner told rest f) → Cut s nest flag bytes f
one_back item s next [] flag bytes f a (taken, scan, is) go = absurd (no_fault _ (item, taken) scan)
one_back item s next (slot ∷ up) flag bytes f a (taken, scan, is) go =
    let nest = slot ∷ up in
    let st = stepped slot up flag bytes item taken a.most a.ids a.are scan in
    let at = at_front s nest flag item taken st.front st.rest (subst (At s nest flag) st.laid a.at) st.size in
    let same = subst (λ b. At (onward s item taken) (after item nest) (flag_of b) st.rest) (sym st.laid) at in
    let rest_are = (bytes_front st.front st.rest (subst AreBytes st.laid a.are)).1 in
    let c = go (after item nest) (flag_of bytes) st.rest (record { at = subst (λ x. At x (after item nest) (flag_of bytes) st.rest) (sym is) same; are = rest_are; most = st.within; ids = st.ids }) in
    let g = c.1 in (
      c.0 ∙ ap (λ (x : State). length x.frame) is,
      record {
        more = g.more;
        items = item ∷ g.items;
        ends = subst (Ends 257 flag (slot ∷ up) (item ∷ g.items)) (sym (append_assoc st.front st.rest g.more) ∙ ap (λ l. l ++ g.more) (sym st.laid)) (st.onward 257 (omega arith) g.items (st.rest ++ g.more) g.ends);
      },
    )

cut_from : (items : List Item) (s last : State) (nest : List Slot) (flag : Bool) (bytes : List ℕ) (f : Fault) → Stands s nest flag bytes → f.reason ≡ reasons.Truncated → Reads s items last → Refuses last f → Cut s nest flag bytes f
cut_from [] s last nest flag bytes f a t r e = cut_here s nest flag bytes f a t (subst (λ x. Refuses x f) (sym r) e)
cut_from (item ∷ items) s last nest flag bytes f a t (next, step, more) e =
    one_back item s next nest flag bytes f a (reads_read s nest flag bytes item next a.at step) (λ inner told rest b. cut_from items next last inner told rest f b t more e)

-- ---- a whole frame

pub record Body (bytes : List ℕ) : Type 0 where
  pub ms : Members
  pub spells : SpellsMembers (pos 0) ms bytes

pub body_of : (items : List Item) (bytes : List ℕ) → Ends 257 false body_open items bytes → Body bytes
body_of items bytes e =
    let none = e.two.1 in
    let all : bytes ≡ e.front = e.laid ∙ ap (λ l. e.front ++ l) none.1 ∙ append-nil e.front in
    record { ms = e.one.ms; spells = subst (SpellsMembers (pos 0) e.one.ms) (sym all) e.one.spells }

pub cut_viable : (bytes : List ℕ) (f : Fault) → AreBytes bytes → IsRefused bytes f → f.reason ≡ reasons.Truncated → (f.place ≡ length bytes) × IsViable bytes
cut_viable bytes f are (inl e) t = head_cut bytes are f (head_fault bytes f e) t
cut_viable bytes f are (inr (h, items, first, last, head, body, refuses)) t =
    let x = head_read bytes are h first head in
    let body_are = (bytes_front x.header x.body (subst AreBytes x.laid are)).1 in
    let a : Stands first body_open false x.body = record { at = at_body bytes h first x; are = body_are; most = omega arith; ids = (omega arith, tt) } in
    let c = cut_from items first last body_open false x.body f a t body refuses in
    let g = c.1 in
    let b = body_of g.items (x.body ++ g.more) g.ends in
    (c.0 ∙ ap (λ (s : State). length s.frame) x.start, (g.more, message_of h b.ms, (x.header, x.body ++ g.more, x.spells b.ms, b.spells, ap (λ l. l ++ g.more) x.laid ∙ append_assoc x.header x.body g.more)))
