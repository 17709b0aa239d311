-- A frame that is refused, other than as truncated, is refused with more bytes behind.
use Rattle.std.proofs.Common.{◌≡◌, ℕ, suc, ◌+◌, ◌<◌, ◌≤◌, Bool, true, false, cond, List, [], ◌∷◌, ◌++◌, length, Ok, Err, refl, ap, ◌∙◌, sym, subst, arith, inl, inr, length-append, append_assoc}
use Rattle.std.specs.Prelude.{◌==◌}
use Rattle.std.proofs.lemmas.Bool.Decides.{nat_tests}
use Rattle.thrift_value.specs.Items.{Item}
use Rattle.thrift_value.specs.Trees.{Message, depth_of_members}
use Rattle.protocol_traits.specs.declared.fault.Fault.{Fault}
use Rattle.protocol_traits.specs.declared.fault.Reason.TheVariants as reasons
use Rattle.protocol_traits.specs.declared.nest.Slot.{Slot}
use Rattle.protocol_traits.specs.Stack.{first_of}
use Rattle.protocol_traits.specs.Follow.{after}
use Rattle.protocol_traits.specs.Heads.{Header}
use Rattle.binary_protocol.specs.Scan.{Scan}
use Rattle.binary_protocol.specs.Heads.{head_at}
use Rattle.binary_protocol.specs.Reading.{State, rest, scan_at, moved, reads, headed, begun, body_open, reads_head, reads_end}
use Rattle.binary_protocol.specs.Grammar.{BinarySpells}
use Rattle.gate_base.specs.Bytes.{AreBytes}
use Rattle.binary_laws.specs.Reads.{Reads}
use Rattle.binary_laws.specs.Refused.{Refuses, IsRefused}
use Rattle.binary_laws.proofs.Inverse.{bytes_front, no_fault}
use Rattle.binary_laws.proofs.Stepping.{stepped}
use Rattle.binary_laws.proofs.Headed.{head_read}
use Rattle.binary_laws.proofs.Stable.{Stays, item_stays, head_stays}
use Rattle.binary_laws.proofs.Spelled.{At, rest_is, reads_is, onward, headed_state, spelled_read}
use Rattle.binary_laws.proofs.Sound.{reads_read, at_front, begun_read}
use Rattle.binary_laws.proofs.Viable.{is_bad, reads_fault, begun_fault}
use Rattle.binary_laws.proofs.Either.{never_both}

-- ---- scans

ok_stays : {X : Type 0} → (scan longer : Scan X) (x : X × ℕ) → scan ≡ Ok x → Stays scan longer → longer ≡ Ok x
ok_stays {X} scan longer x e (inl (f, g, t)) = absurd (no_fault {X = X} f x (sym g ∙ e))
ok_stays {X} scan longer x e (inr same) = same ∙ e

err_stays : {X : Type 0} → (scan longer : Scan X) (f : Fault) → scan ≡ Err f → (f.reason ≡ reasons.Truncated → ⊥) → Stays scan longer → longer ≡ Err f
err_stays {X} scan longer f e other (inl (g, h, t)) = let same : g ≡ f = cc in absurd (other (ap (λ (b : Fault). b.reason) (sym same) ∙ t))
err_stays {X} scan longer f e other (inr same) = same ∙ e

-- ---- states over more bytes

module _ (more : List ℕ) where
  abbrev pub longer : State → State
  longer s = record { frame = s.frame ++ more; place = s.place; value = s.value; nest = s.nest }

  pub at_longer : (s : State) (nest : List Slot) (bytes : List ℕ) → At s nest bytes → At (longer s) nest (bytes ++ more)
  at_longer s nest bytes a = record { front = a.front; open_levels = a.open_levels; laid = ap (λ l. l ++ more) a.laid ∙ append_assoc a.front bytes more; place = a.place }

  scan_stays : (nest : List Slot) (bytes : List ℕ) → Stays (scan_at (first_of nest) (length nest) bytes) (scan_at (first_of nest) (length nest) (bytes ++ more))
  scan_stays [] bytes = inr refl
  scan_stays (slot ∷ up) bytes = item_stays (suc (length up)) slot bytes more

  pub read_longer : (s : State) (nest : List Slot) (bytes : List ℕ) (item : Item) (taken : ℕ) → At s nest bytes → scan_at (first_of nest) (length nest) bytes ≡ Ok (item, taken) → reads (longer s) ≡ Ok (item, longer (onward s item taken))
  read_longer s nest bytes item taken a e = reads_is (longer s) nest (bytes ++ more) item taken (at_longer s nest bytes a) (ok_stays _ _ (item, taken) e (scan_stays nest bytes))

  -- the fault of a scan is the fault of the call
  call_fault : (s : State) (nest : List Slot) (bytes : List ℕ) (g : Fault) → At s nest bytes → scan_at (first_of nest) (length nest) bytes ≡ Err g → reads s ≡ Err (record { place = s.place + g.place; reason = g.reason })
  unfolding reads
  call_fault s nest bytes g a e =
      ap (λ l. moved s (scan_at (first_of s.nest) (length s.nest) l)) (rest_is s nest bytes a) ∙ ap (λ n. moved s (scan_at (first_of n) (length n) bytes)) a.open_levels ∙ ap (moved s) e

  fault_is : (p q : ℕ) (f g : Fault) → p ≡ f.place → g.reason ≡ f.reason → q ≡ p → f ≡ record { place = q; reason = g.reason }
  fault_is p q f g a b c = sym (ap (λ n. record { place = n; reason = g.reason }) (c ∙ a) ∙ ap (λ r. record { place = f.place; reason = r }) b)

  reads_longer : (s : State) (nest : List Slot) (bytes : List ℕ) (f : Fault) → At s nest bytes → (f.reason ≡ reasons.Truncated → ⊥) → reads s ≡ Err f → reads (longer s) ≡ Err f
  reads_longer s nest bytes f a other e =
      let r = reads_fault s nest bytes f a e in
      let g = r.0 in
      let scan = err_stays _ _ g r.1 (λ t. other (sym r.3 ∙ t)) (scan_stays nest bytes) in
      call_fault (longer s) nest (bytes ++ more) g (at_longer s nest bytes a) scan ∙ ap (λ b. Err b) (sym (fault_is (s.place + g.place) (s.place + g.place) f g r.2 r.3 refl))

  end_longer : (s : State) (f : Fault) (nest : List Slot) (bytes : List ℕ) → At s nest bytes → s.nest ≡ [] → reads_end s ≡ Err f → reads_end (longer s) ≡ Err f
  unfolding reads_end
  end_longer s f nest bytes a none e = by_tests (length s.nest == 0) (s.place == length s.frame) (ap (λ n. length n == 0) none) refl e
    where
      by_tests : (p q : Bool) → p ≡ true → (s.place == length s.frame) ≡ q
          → cond p (cond q (Ok (tt {0}, s)) (is_bad {X = Unit {0}} (record { place = s.place; reason = reasons.Trailing }))) (is_bad {X = Unit {0}} (record { place = length s.frame; reason = reasons.Truncated })) ≡ Err f
          → cond p (cond (s.place == length (s.frame ++ more)) (Ok (tt {0}, longer s)) (is_bad {X = Unit {0}} (record { place = s.place; reason = reasons.Trailing }))) (is_bad {X = Unit {0}} (record { place = length (s.frame ++ more); reason = reasons.Truncated })) ≡ Err f
      by_tests false q h g k = absurd (cc)
      by_tests true true h g k = absurd (cc)
      by_tests true false h g k =
          let l = length-append s.frame more in
          let m = ap length a.laid ∙ length-append a.front bytes in
          let at = a.place in
          let apart : (s.place == length (s.frame ++ more)) ≡ false = grind (arith, nat_tests) in
          rw apart k

  -- ---- item after item

  refuses_longer : (s : State) (nest : List Slot) (bytes : List ℕ) (f : Fault) → At s nest bytes → (f.reason ≡ reasons.Truncated → ⊥) → Refuses s f → Refuses (longer s) f
  refuses_longer s nest bytes f a other (inl (some, e)) = inl (some, reads_longer s nest bytes f a other e)
  refuses_longer s nest bytes f a other (inr (none, e)) = inr (none, end_longer s f nest bytes a none e)

  abbrev Longer : State → List Item → Fault → Type 0
  Longer s items f = (last : State) × Reads (longer s) items last × Refuses last f

  one_longer : (item : Item) (items : List Item) (s next : State) (nest : List Slot) (bytes : List ℕ) (f : Fault) → At s nest bytes → AreBytes bytes → length nest ≤ 256
      → (taken : ℕ) × (scan_at (first_of nest) (length nest) bytes ≡ Ok (item, taken)) × (next ≡ onward s item taken)
      → ((inner : List Slot) (rest : List ℕ) → At next inner rest → AreBytes rest → length inner ≤ 256 → Longer next items f) → Longer s (item ∷ items) f
  one_longer item items s next [] bytes f a are most (taken, scan, is) go = absurd (no_fault _ (item, taken) scan)
  one_longer item items s next (slot ∷ up) bytes f a are most (taken, scan, is) go =
      let st = stepped slot up bytes item taken most are scan in
      let at = at_front s (slot ∷ up) item taken st.front st.rest (subst (At s (slot ∷ up)) st.laid a) st.size in
      let rest_are = (bytes_front st.front st.rest (subst AreBytes st.laid are)).1 in
      let c = go (after item (slot ∷ up)) st.rest (subst (λ x. At x (after item (slot ∷ up)) st.rest) (sym is) at) rest_are st.within in
      (c.0, (longer next, read_longer s (slot ∷ up) bytes item taken a scan ∙ ap (λ (x : State). Ok (item, longer x)) (sym is), c.1), c.2)

  all_longer : (items : List Item) (s last : State) (nest : List Slot) (bytes : List ℕ) (f : Fault) → At s nest bytes → AreBytes bytes → length nest ≤ 256 → (f.reason ≡ reasons.Truncated → ⊥) → Reads s items last → Refuses last f → Longer s items f
  all_longer [] s last nest bytes f a are most other r e = (longer s, refl, refuses_longer s nest bytes f a other (subst (λ x. Refuses x f) (sym r) e))
  all_longer (item ∷ items) s last nest bytes f a are most other (next, step, rest) e =
      one_longer item items s next nest bytes f a are most (reads_read s nest bytes item next a step) (λ inner left b some less. all_longer items next last inner left f b some less other rest e)

-- ---- a whole frame

pub head_longer : (bytes more : List ℕ) (h : Header) (taken : ℕ) → head_at bytes ≡ Ok (h, taken) → head_at (bytes ++ more) ≡ Ok (h, taken)
head_longer bytes more h taken e = ok_stays (head_at bytes) (head_at (bytes ++ more)) (h, taken) e (head_stays bytes more)

pub begun_is : (bytes : List ℕ) (h : Header) (taken : ℕ) → head_at bytes ≡ Ok (h, taken) → reads_head (begun bytes) ≡ Ok (h, headed_state bytes taken)
unfolding reads_head
begun_is bytes h taken e = ap (headed (begun bytes)) e

begun_bad : (bytes : List ℕ) (g : Fault) → head_at bytes ≡ Err g → reads_head (begun bytes) ≡ Err (record { place = 0 + g.place; reason = g.reason })
unfolding reads_head
begun_bad bytes g e = ap (headed (begun bytes)) e

-- the value's place may be another, where the first byte isn't there yet; it is, since the header was read
pub same_value_place : (bytes more : List ℕ) (taken : ℕ) → 1 ≤ length bytes → longer more (headed_state bytes taken) ≡ headed_state (bytes ++ more) taken
same_value_place [] more taken h = absurd (omega arith)
same_value_place (x ∷ bytes) more taken h = refl

pub some_bytes : (bytes : List ℕ) (h : Header) (taken : ℕ) → head_at bytes ≡ Ok (h, taken) → 1 ≤ length bytes
unfolding head_at
some_bytes [] h taken e = absurd (cc)
some_bytes (x ∷ bytes) h taken e = omega arith

stays : (bytes more : List ℕ) (f : Fault) → AreBytes bytes → IsRefused bytes f → (f.reason ≡ reasons.Truncated → ⊥) → IsRefused (bytes ++ more) f
stays bytes more f are (inl e) other =
    let r = begun_fault bytes f e in
    let g = r.0 in
    let scan = err_stays (head_at bytes) (head_at (bytes ++ more)) g r.1 (λ t. other (sym r.3 ∙ t)) (head_stays bytes more) in
    inl (begun_bad (bytes ++ more) g scan ∙ ap (λ b. Err b) (sym (fault_is more (0 + g.place) (0 + g.place) f g r.2 r.3 refl)))
stays bytes more f are (inr (h, items, first, last, head, body, refuses)) other =
    let r = begun_read bytes h first head in
    let x = head_read bytes are h r.0 r.1 in
    let at : At first body_open x.body = subst (λ s. At s body_open x.body) (sym r.2) (record { front = x.header; open_levels = refl; laid = x.laid; place = omega (arith, x.long) }) in
    let body_are = (bytes_front x.header x.body (subst AreBytes x.laid are)).1 in
    let c = all_longer more items first last body_open x.body f at body_are (omega arith) other body refuses in
    let start : longer more first ≡ headed_state (bytes ++ more) r.0 = ap (longer more) r.2 ∙ same_value_place bytes more r.0 (some_bytes bytes h r.0 r.1) in
    inr (h, items, headed_state (bytes ++ more) r.0, c.0, begun_is (bytes ++ more) h r.0 (head_longer bytes more h r.0 r.1), subst (λ s. Reads s items c.0) start c.1, c.2)

pub refused_stays : (bytes more : List ℕ) (f : Fault) → AreBytes bytes → IsRefused bytes f → (f.reason ≡ reasons.Truncated → ⊥)
    → IsRefused (bytes ++ more) f × ((m : Message) → depth_of_members m.body < 256 → BinarySpells m (bytes ++ more) → ⊥)
refused_stays bytes more f are e other =
    let longer_one = stays bytes more f are e other in (longer_one, (λ m deep spells. never_both (bytes ++ more) _ _ f (spelled_read m (bytes ++ more) spells deep) longer_one))
