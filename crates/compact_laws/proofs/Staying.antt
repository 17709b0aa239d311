-- A frame that is refused, other than as truncated, is refused with more bytes behind.
use Rattle.std.proofs.Common.{◌≡◌, ℕ, ℤ, suc, ◌+◌, ◌<◌, Bool, true, false, cond, List, [], ◌∷◌, ◌++◌, length, drop, Ok, Err, refl, ap, ◌∙◌, sym, subst, arith, ◌⊎◌, inl, inr, length-append, append_assoc}
use Rattle.std.specs.Prelude.{◌==◌}
use Rattle.std.proofs.lemmas.Bool.Decides.{nat_tests}
use Rattle.thrift_value.specs.declared.kind.MessageType.{MessageType}
use Rattle.thrift_value.specs.Items.{Item}
use Rattle.thrift_value.specs.Trees.{Message, depth_of_members}
use Rattle.protocol_traits.specs.declared.fault.Fault.{Fault}
use Rattle.protocol_traits.specs.declared.fault.Reason.TheVariants as reasons
use Rattle.protocol_traits.specs.declared.nest.Slot.{Slot}
use Rattle.protocol_traits.specs.Stack.{first_of}
use Rattle.protocol_traits.specs.Follow.{after}
use Rattle.protocol_traits.specs.Heads.{Header}
use Rattle.compact_protocol.specs.Scan.{Scan, shifted, front_at, string_at, flag_of}
use Rattle.compact_protocol.specs.Reading.{State, rest, scan_at, moved, reads, named, headed, begun, reads_head, reads_end}
use Rattle.compact_protocol.specs.Grammar.{CompactSpells}
use Rattle.gate_base.specs.Bytes.{AreBytes}
use Rattle.binary_laws.proofs.Inverse.{is_read, bytes_front, no_fault}
use Rattle.compact_laws.specs.Reads.{Reads}
use Rattle.compact_laws.specs.Refused.{Refuses, IsRefused}
use Rattle.compact_laws.proofs.Stepping.{Alike, stepped}
use Rattle.compact_laws.proofs.Headed.{head_read, at_body}
use Rattle.compact_laws.proofs.Stable.{Stays, item_stays, front_stays, name_stays}
use Rattle.compact_laws.proofs.Steps.{is_step, is_bad, same_answer, same_blame, no_step, no_blame}
use Rattle.compact_laws.proofs.Spelled.{At, rest_is, scan_is, reads_is, onward, body_open, headed_state, head_is, spelled_read}
use Rattle.compact_laws.proofs.Sound.{Stands, reads_read, at_front}
use Rattle.compact_laws.proofs.Either.{never_both}

-- ---- scans

ok_stays : {X : Type 0} → (scan longer : Scan X) (x : X × ℕ) → scan ≡ Ok x → Stays scan longer → longer ≡ Ok x
ok_stays {X} scan longer x e (inl (f, g, t)) = absurd (no_fault {X = X} f x (sym g ∙ e))
ok_stays {X} scan longer x e (inr same) = same ∙ e

err_stays : {X : Type 0} → (scan longer : Scan X) (f : Fault) → scan ≡ Err f → (f.reason ≡ reasons.Truncated → ⊥) → Stays scan longer → longer ≡ Err f
err_stays {X} scan longer f e other (inl (g, h, t)) = let same : g ≡ f = cc in absurd (other (ap (λ (b : Fault). b.reason) (sym same) ∙ t))
err_stays {X} scan longer f e other (inr same) = same ∙ e

-- ---- the faults of calls

pub moved_fault : (s : State) (scan : Scan Item) (f : Fault) → moved s scan ≡ Err f → (g : Fault) × (scan ≡ Err g) × (f ≡ record { place = s.place + g.place; reason = g.reason })
moved_fault s (Ok x) f e = absurd (no_blame _ f e)
moved_fault s (Err g) f e = (g, refl, sym (same_blame {X = Item} (record { place = s.place + g.place; reason = g.reason }) f e))

pub reads_fault : (s : State) (nest : List Slot) (flag : Bool) (bytes : List ℕ) (f : Fault) → At s nest flag bytes → reads s ≡ Err f
    → (g : Fault) × (scan_at (first_of nest) (length nest) flag bytes ≡ Err g) × (f ≡ record { place = s.place + g.place; reason = g.reason })
unfolding reads
reads_fault s nest flag bytes f a e =
    let m = moved_fault s (scan_at (first_of s.nest) (length s.nest) s.flag (rest s)) f e in
    (m.0, sym (scan_is s nest flag bytes a) ∙ m.1, m.2)

-- the fault of a scan is the fault of the call
pub call_fault : (s : State) (nest : List Slot) (flag : Bool) (bytes : List ℕ) (g : Fault) → At s nest flag bytes → scan_at (first_of nest) (length nest) flag bytes ≡ Err g → reads s ≡ Err (record { place = s.place + g.place; reason = g.reason })
unfolding reads
call_fault s nest flag bytes g a e = ap (moved s) (scan_is s nest flag bytes a ∙ e)

-- ---- states over more bytes

module _ (more : List ℕ) where
  -- the same place of a longer frame, where what was told may differ if it doesn't matter
  pub record Longer (s t : State) : Type 0 where
    pub frame : t.frame ≡ s.frame ++ more
    pub place : t.place ≡ s.place
    pub open_levels : t.nest ≡ s.nest
    pub alike : Alike s.nest s.flag t.flag

  pub at_longer : (s t : State) (nest : List Slot) (flag : Bool) (bytes : List ℕ) → At s nest flag bytes → Longer s t → At t nest t.flag (bytes ++ more)
  at_longer s t nest flag bytes a l = record {
    front = a.front;
    open_levels = l.open_levels ∙ a.open_levels;
    told = refl;
    laid = l.frame ∙ ap (λ b. b ++ more) a.laid ∙ append_assoc a.front bytes more;
    place = l.place ∙ a.place;
  }

  scan_stays : (nest : List Slot) (flag : Bool) (bytes : List ℕ) → Stays (scan_at (first_of nest) (length nest) flag bytes) (scan_at (first_of nest) (length nest) flag (bytes ++ more))
  scan_stays [] flag bytes = inr refl
  scan_stays (slot ∷ up) flag bytes = item_stays (suc (length up)) slot flag bytes more

  scan_longer : (s t : State) (nest : List Slot) (flag : Bool) (bytes : List ℕ) → At s nest flag bytes → Longer s t → Stays (scan_at (first_of nest) (length nest) flag bytes) (scan_at (first_of nest) (length nest) t.flag (bytes ++ more))
  scan_longer s t nest flag bytes a l =
      let same = subst (λ f. Alike nest f t.flag) a.told (subst (λ n. Alike n s.flag t.flag) a.open_levels l.alike) in
      subst (λ z. Stays (scan_at (first_of nest) (length nest) flag bytes) z) (same (bytes ++ more)) (scan_stays nest flag bytes)

  read_longer : (s t : State) (nest : List Slot) (flag : Bool) (bytes : List ℕ) (item : Item) (taken : ℕ) → At s nest flag bytes → Longer s t → scan_at (first_of nest) (length nest) flag bytes ≡ Ok (item, taken) → reads t ≡ Ok (item, onward t item taken)
  read_longer s t nest flag bytes item taken a l e =
      reads_is t nest t.flag (bytes ++ more) item taken (at_longer s t nest flag bytes a l) (ok_stays _ _ (item, taken) e (scan_longer s t nest flag bytes a l))

  reads_longer : (s t : State) (nest : List Slot) (flag : Bool) (bytes : List ℕ) (f : Fault) → At s nest flag bytes → Longer s t → (f.reason ≡ reasons.Truncated → ⊥) → reads s ≡ Err f → reads t ≡ Err f
  reads_longer s t nest flag bytes f a l other e =
      let r = reads_fault s nest flag bytes f a e in
      let g = r.0 in
      let reason : f.reason ≡ g.reason = ap (λ (b : Fault). b.reason) r.2 in
      let scan = err_stays _ _ g r.1 (λ d. other (reason ∙ d)) (scan_longer s t nest flag bytes a l) in
      call_fault t nest t.flag (bytes ++ more) g (at_longer s t nest flag bytes a l) scan ∙ ap (λ n. is_bad (record { place = n + g.place; reason = g.reason })) l.place ∙ ap is_bad (sym r.2)

  end_longer : (s t : State) (f : Fault) (nest : List Slot) (flag : Bool) (bytes : List ℕ) → At s nest flag bytes → Longer s t → s.nest ≡ [] → reads_end s ≡ Err f → reads_end t ≡ Err f
  unfolding reads_end
  end_longer s t f nest flag bytes a l none e = by_tests (length s.nest == 0) (s.place == length s.frame) (ap (λ n. length n == 0) none) refl e
    where
      closed : (length t.nest == 0) ≡ true
      closed = ap (λ n. length n == 0) (l.open_levels ∙ none)

      by_tests : (p q : Bool) → p ≡ true → (s.place == length s.frame) ≡ q
          → cond p (cond q (Ok (tt {0}, s)) (is_bad {X = Unit {0}} (record { place = s.place; reason = reasons.Trailing }))) (is_bad {X = Unit {0}} (record { place = length s.frame; reason = reasons.Truncated })) ≡ Err f
          → cond (length t.nest == 0) (cond (t.place == length t.frame) (Ok (tt {0}, t)) (is_bad {X = Unit {0}} (record { place = t.place; reason = reasons.Trailing }))) (is_bad {X = Unit {0}} (record { place = length t.frame; reason = reasons.Truncated })) ≡ Err f
      by_tests false q h g k = absurd (cc)
      by_tests true true h g k = absurd (cc)
      by_tests true false h g k =
          let m = ap length l.frame ∙ length-append s.frame more in
          let n = ap length a.laid ∙ length-append a.front bytes in
          let at = a.place in
          let same = l.place in
          let apart : (t.place == length t.frame) ≡ false = grind (arith, nat_tests) in
          rw (closed, apart) (ap (λ z. is_bad {X = Unit {0}} (record { place = z; reason = reasons.Trailing })) same ∙ k)

  refuses_longer : (s t : State) (nest : List Slot) (flag : Bool) (bytes : List ℕ) (f : Fault) → At s nest flag bytes → Longer s t → (f.reason ≡ reasons.Truncated → ⊥) → Refuses s f → Refuses t f
  refuses_longer s t nest flag bytes f a l other (inl (some, e)) = inl ((λ none. some (sym l.open_levels ∙ none)), reads_longer s t nest flag bytes f a l other e)
  refuses_longer s t nest flag bytes f a l other (inr (none, e)) = inr (l.open_levels ∙ none, end_longer s t f nest flag bytes a l none e)

  -- ---- item after item

  -- these items are read from here, and this holds behind them
  abbrev pub ReadsTo : (State → Type 0) → State → List Item → Type 0
  ReadsTo holds t items = (last : State) × Reads t items last × holds last

  pub one_longer : (holds : State → Type 0) (item : Item) (items : List Item) (s t next : State) (nest : List Slot) (flag : Bool) (bytes : List ℕ) → Stands s nest flag bytes → Longer s t
      → (taken : ℕ) × (scan_at (first_of nest) (length nest) flag bytes ≡ Ok (item, taken)) × (next ≡ onward s item taken)
      → ((inner : List Slot) (told : Bool) (rest : List ℕ) (u : State) → Stands next inner told rest → Longer next u → ReadsTo holds u items) → ReadsTo holds t (item ∷ items)
  one_longer holds item items s t next [] flag bytes a l (taken, scan, is) go = absurd (no_fault _ (item, taken) scan)
  one_longer holds item items s t next (slot ∷ up) flag bytes a l (taken, scan, is) go =
      let nest = slot ∷ up in
      let st = stepped slot up flag bytes item taken a.most a.ids a.are scan in
      let at = at_front s nest flag item taken st.front st.rest (subst (At s nest flag) st.laid a.at) st.size in
      let same = subst (λ b. At (onward s item taken) (after item nest) (flag_of b) st.rest) (sym st.laid) at in
      let rest_are = (bytes_front st.front st.rest (subst AreBytes st.laid a.are)).1 in
      let stands : Stands next (after item nest) (flag_of bytes) st.rest = record { at = subst (λ x. At x (after item nest) (flag_of bytes) st.rest) (sym is) same; are = rest_are; most = st.within; ids = st.ids } in
      let far = at_longer s t nest flag bytes a.at l in
      let here : rest s ≡ bytes = rest_is s nest flag bytes a.at in
      let there : rest t ≡ bytes ++ more = rest_is t nest t.flag (bytes ++ more) far in
      let alike = subst (λ b. Alike (after item nest) (flag_of b) (flag_of (rest t))) (sym here) (subst (λ b. Alike (after item nest) (flag_of bytes) (flag_of b)) (sym there) (st.alike more)) in
      let u = onward t item taken in
      let long : Longer (onward s item taken) u = record {
        frame = l.frame;
        place = ap (λ n. n + taken) l.place;
        open_levels = ap (after item) l.open_levels;
        alike = subst (λ n. Alike (after item n) (flag_of (rest s)) (flag_of (rest t))) (sym a.at.open_levels) alike;
      } in
      let c = go (after item nest) (flag_of bytes) st.rest u stands (subst (λ x. Longer x u) (sym is) long) in
      (c.0, (u, read_longer s t nest flag bytes item taken a.at l scan, c.1), c.2)

  all_longer : (items : List Item) (s t last : State) (nest : List Slot) (flag : Bool) (bytes : List ℕ) (f : Fault) → Stands s nest flag bytes → Longer s t → (f.reason ≡ reasons.Truncated → ⊥) → Reads s items last → Refuses last f → ReadsTo (λ x. Refuses x f) t items
  all_longer [] s t last nest flag bytes f a l other r e = (t, refl, refuses_longer s t nest flag bytes f a.at l other (subst (λ x. Refuses x f) (sym r) e))
  all_longer (item ∷ items) s t last nest flag bytes f a l other (next, step, behind) e =
      one_longer (λ x. Refuses x f) item items s t next nest flag bytes a l (reads_read s nest flag bytes item next a.at step) (λ inner told left u b k. all_longer items next u last inner told left f b k other behind e)

-- ---- a whole frame

-- what the header's two scans tell
pub record HeadParts (bytes : List ℕ) (h : Header) (first : State) : Type 0 where
  pub front : MessageType × ℤ
  pub at : ℕ
  pub long : ℕ
  pub fronted : front_at bytes ≡ Ok (front, at)
  pub named : string_at (drop at bytes) ≡ Ok (h.name, long)
  pub is : h ≡ record { name = h.name; mtype = front.0; seq = front.1 }
  pub start : first ≡ headed_state bytes at long

abbrev header_with : List ℕ → MessageType × ℤ → Header
header_with name front = record { name = name; mtype = front.0; seq = front.1 }

name_parts : (bytes : List ℕ) (front : MessageType × ℤ) (at : ℕ) → front_at bytes ≡ is_read (front, at) → (scan : Scan (List ℕ)) → string_at (drop at bytes) ≡ scan → (h : Header) (first : State) → named (begun bytes) front at (shifted at scan) ≡ Ok (h, first) → HeadParts bytes h first
name_parts bytes front at f (Err g) s h first e = absurd (no_step _ (h, first) e)
name_parts bytes front at f (Ok x) s h first e =
    let found = header_with x.0 front in
    let same = same_answer found h (headed_state bytes at x.1) first e in
    let name : x.0 ≡ h.name = ap (λ (z : Header). z.name) same.0 in
    record { front = front; at = at; long = x.1; fronted = f; named = s ∙ ap (λ n. is_read (n, x.1)) name; is = sym same.0 ∙ ap (λ n. header_with n front) name; start = sym same.1 }

front_parts : (bytes : List ℕ) (scan : Scan (MessageType × ℤ)) → front_at bytes ≡ scan → (h : Header) (first : State) → headed (begun bytes) scan ≡ Ok (h, first) → HeadParts bytes h first
front_parts bytes (Err g) f h first e = absurd (no_step _ (h, first) e)
front_parts bytes (Ok x) f h first e = name_parts bytes x.0 x.1 f (string_at (drop x.1 bytes)) refl h first e

pub head_parts : (bytes : List ℕ) (h : Header) (first : State) → reads_head (begun bytes) ≡ Ok (h, first) → HeadParts bytes h first
unfolding reads_head
head_parts bytes h first e = front_parts bytes (front_at bytes) refl h first e

-- a header that is read is read with more bytes behind
pub head_longer : (bytes more : List ℕ) (h : Header) (first : State) (p : HeadParts bytes h first) → reads_head (begun (bytes ++ more)) ≡ Ok (h, headed_state (bytes ++ more) p.at p.long)
head_longer bytes more h first p =
    let front = ok_stays (front_at bytes) (front_at (bytes ++ more)) (p.front, p.at) p.fronted (front_stays bytes more) in
    let name = ok_stays (string_at (drop p.at bytes)) (string_at (drop p.at (bytes ++ more))) (h.name, p.long) p.named (name_stays p.at bytes more) in
    head_is (bytes ++ more) h.name p.front p.at p.long front name ∙ ap (λ z. is_step (z, headed_state (bytes ++ more) p.at p.long)) (sym p.is)

-- a header that is a fault is one in one of its two scans
abbrev pub HeadFault : List ℕ → Fault → Type 0
HeadFault bytes f =
    ((g : Fault) × (front_at bytes ≡ Err g) × (f ≡ record { place = 0 + g.place; reason = g.reason }))
    ⊎ ((front : MessageType × ℤ) × (at : ℕ) × (g : Fault) × (front_at bytes ≡ Ok (front, at)) × (string_at (drop at bytes) ≡ Err g) × (f ≡ record { place = 0 + (at + g.place); reason = g.reason }))

name_fault : (bytes : List ℕ) (front : MessageType × ℤ) (at : ℕ) → front_at bytes ≡ is_read (front, at) → (scan : Scan (List ℕ)) → string_at (drop at bytes) ≡ scan → (f : Fault) → named (begun bytes) front at (shifted at scan) ≡ Err f → HeadFault bytes f
name_fault bytes front at r (Ok x) s f e = absurd (no_blame _ f e)
name_fault bytes front at r (Err g) s f e = inr (front, at, g, r, s, sym (same_blame {X = Header} (record { place = 0 + (at + g.place); reason = g.reason }) f e))

front_fault : (bytes : List ℕ) (scan : Scan (MessageType × ℤ)) → front_at bytes ≡ scan → (f : Fault) → headed (begun bytes) scan ≡ Err f → HeadFault bytes f
front_fault bytes (Err g) r f e = inl (g, r, sym (same_blame {X = Header} (record { place = 0 + g.place; reason = g.reason }) f e))
front_fault bytes (Ok x) r f e = name_fault bytes x.0 x.1 r (string_at (drop x.1 bytes)) refl f e

pub head_fault : (bytes : List ℕ) (f : Fault) → reads_head (begun bytes) ≡ Err f → HeadFault bytes f
unfolding reads_head
head_fault bytes f e = front_fault bytes (front_at bytes) refl f e

pub begun_bad : (bytes : List ℕ) (g : Fault) → front_at bytes ≡ Err g → reads_head (begun bytes) ≡ Err (record { place = 0 + g.place; reason = g.reason })
unfolding reads_head
begun_bad bytes g e = ap (headed (begun bytes)) e

pub name_bad : (bytes : List ℕ) (front : MessageType × ℤ) (at : ℕ) (g : Fault) → front_at bytes ≡ Ok (front, at) → string_at (drop at bytes) ≡ Err g → reads_head (begun bytes) ≡ Err (record { place = 0 + (at + g.place); reason = g.reason })
unfolding reads_head
name_bad bytes front at g e s = ap (headed (begun bytes)) e ∙ ap (λ z. named (begun bytes) front at (shifted at z)) s

bad_longer : (bytes more : List ℕ) (f : Fault) → (f.reason ≡ reasons.Truncated → ⊥) → HeadFault bytes f → reads_head (begun (bytes ++ more)) ≡ Err f
bad_longer bytes more f other (inl (g, e, is)) =
    let reason : f.reason ≡ g.reason = ap (λ (b : Fault). b.reason) is in
    begun_bad (bytes ++ more) g (err_stays (front_at bytes) (front_at (bytes ++ more)) g e (λ d. other (reason ∙ d)) (front_stays bytes more)) ∙ ap is_bad (sym is)
bad_longer bytes more f other (inr (front, at, g, e, s, is)) =
    let reason : f.reason ≡ g.reason = ap (λ (b : Fault). b.reason) is in
    let first = ok_stays (front_at bytes) (front_at (bytes ++ more)) (front, at) e (front_stays bytes more) in
    name_bad (bytes ++ more) front at g first (err_stays (string_at (drop at bytes)) (string_at (drop at (bytes ++ more))) g s (λ d. other (reason ∙ d)) (name_stays at bytes more)) ∙ ap is_bad (sym is)

stays : (bytes more : List ℕ) (f : Fault) → AreBytes bytes → IsRefused bytes f → (f.reason ≡ reasons.Truncated → ⊥) → IsRefused (bytes ++ more) f
stays bytes more f are (inl e) other = inl (bad_longer bytes more f other (head_fault bytes f e))
stays bytes more f are (inr (h, items, first, last, head, body, refuses)) other =
    let p = head_parts bytes h first head in
    let x = head_read bytes are h first head in
    let body_are = (bytes_front x.header x.body (subst AreBytes x.laid are)).1 in
    let a : Stands first body_open false x.body = record { at = at_body bytes h first x; are = body_are; most = omega arith; ids = (omega arith, tt) } in
    let start = headed_state (bytes ++ more) p.at p.long in
    let same : Longer more (headed_state bytes p.at p.long) start = record { frame = refl; place = refl; open_levels = refl; alike = (λ b. refl) } in
    let c = all_longer more items first start last body_open false x.body f a (subst (λ s. Longer more s start) (sym p.start) same) other body refuses in
    inr (h, items, start, c.0, head_longer bytes more h first p, c.1, c.2)

pub refused_stays : (bytes more : List ℕ) (f : Fault) → AreBytes bytes → IsRefused bytes f → (f.reason ≡ reasons.Truncated → ⊥)
    → IsRefused (bytes ++ more) f × ((m : Message) → depth_of_members m.body < 256 → CompactSpells m (bytes ++ more) → ⊥)
refused_stays bytes more f are e other =
    let longer_one = stays bytes more f are e other in (longer_one, (λ m deep spells. never_both (bytes ++ more) _ _ f (spelled_read m (bytes ++ more) spells deep) longer_one))
