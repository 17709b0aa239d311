-- A frame that is cut short ends inside the item at fault, or before it: whatever stands behind.
use Rattle.std.proofs.Common.{◌≡◌, ℕ, suc, ◌+◌, ◌<◌, ◌≤◌, Bool, true, false, cond, List, [], ◌∷◌, ◌++◌, length, Ok, Err, refl, ap, ◌∙◌, sym, subst, arith, ◌⊎◌, inl, inr, length-append}
use Rattle.std.specs.Prelude.{◌==◌}
use Rattle.std.proofs.lemmas.Bool.Decides.{nat_tests}
use Rattle.thrift_value.specs.Items.{Item}
use Rattle.protocol_traits.specs.declared.fault.Fault.{Fault}
use Rattle.protocol_traits.specs.declared.fault.Reason.TheVariants as reasons
use Rattle.protocol_traits.specs.declared.nest.Slot.{Slot}
use Rattle.protocol_traits.specs.Stack.{first_of}
use Rattle.protocol_traits.specs.Follow.{after}
use Rattle.protocol_traits.specs.Heads.{Header}
use Rattle.binary_protocol.specs.Reading.{State, rest, scan_at, reads, begun, body_open, reads_head, reads_end}
use Rattle.gate_base.specs.Bytes.{AreBytes}
use Rattle.binary_laws.specs.Reads.{Reads}
use Rattle.binary_laws.specs.Refused.{Refuses, IsRefused}
use Rattle.binary_laws.specs.Faults.{extent}
use Rattle.binary_laws.proofs.Inverse.{bytes_front, no_fault}
use Rattle.binary_laws.proofs.Stepping.{stepped}
use Rattle.binary_laws.proofs.Headed.{head_read}
use Rattle.binary_laws.proofs.Spelled.{At, onward, headed_state}
use Rattle.binary_laws.proofs.Sound.{is_step, same_answer, moved_read, reads_read, at_front, begun_read}
use Rattle.binary_laws.proofs.Viable.{is_bad, moved_fault, reads_fault, end_fault, begun_fault, not_trailing}
use Rattle.binary_laws.proofs.Either.{refuses_stops, both}
use Rattle.binary_laws.proofs.Staying.{longer, at_longer, read_longer, head_longer, begun_is, same_value_place, some_bytes}
use Rattle.binary_laws.proofs.Needs.{Beyond, item_needs, head_needs}
use Rattle.binary_laws.proofs.Standing.{item_stands, head_stands, Standing, DeepOr}

-- ---- places only rise

step_place : (s next : State) (item : Item) → reads s ≡ Ok (item, next) → s.place ≤ next.place
unfolding reads
step_place s next item e =
    let m = moved_read s (scan_at (first_of s.nest) (length s.nest) (rest s)) item next e in
    let p = ap (λ (x : State). x.place) m.2 in
    omega (arith, p)

refusal_place : (s : State) (f : Fault) → Refuses s f → s.place ≤ f.place
unfolding reads
refusal_place s f (inl (some, e)) = let m = moved_fault s (scan_at (first_of s.nest) (length s.nest) (rest s)) f e in let p = m.2 in omega (arith, p)
refusal_place s f (inr (none, e)) = let m = end_fault s f none e in let p = m.0 in omega (arith, p)

pub last_place : (items : List Item) (s last : State) (f : Fault) → Reads s items last → Refuses last f → s.place ≤ f.place
last_place [] s last f r e = refusal_place s f (subst (λ x. Refuses x f) (sym r) e)
last_place (item ∷ items) s last f (next, step, more) e =
    let p = step_place s next item step in
    let q = last_place items next last f more e in
    omega (arith, p, q)

-- ---- one item

-- one item on: what is left, and the same item over more bytes
pub step_on : (P : Type 0) (more : List ℕ) (item : Item) (s next : State) (nest : List Slot) (bytes : List ℕ) → At s nest bytes → AreBytes bytes → length nest ≤ 256 → reads s ≡ Ok (item, next)
    → ((inner : List Slot) (rest : List ℕ) → At next inner rest → AreBytes rest → length inner ≤ 256 → next.frame ≡ s.frame → reads (longer more s) ≡ Ok (item, longer more next) → P) → P
step_on P more item s next nest bytes a are most step go = by_nest nest a most (reads_read s nest bytes item next a step)
  where
    by_nest : (nest : List Slot) → At s nest bytes → length nest ≤ 256 → (taken : ℕ) × (scan_at (first_of nest) (length nest) bytes ≡ Ok (item, taken)) × (next ≡ onward s item taken) → P
    by_nest [] a most (taken, scan, is) = absurd (no_fault _ (item, taken) scan)
    by_nest (slot ∷ up) a most (taken, scan, is) =
        let st = stepped slot up bytes item taken most are scan in
        let at = at_front s (slot ∷ up) item taken st.front st.rest (subst (At s (slot ∷ up)) st.laid a) st.size in
        let rest_are = (bytes_front st.front st.rest (subst AreBytes st.laid are)).1 in
        go (after item (slot ∷ up)) st.rest (subst (λ x. At x (after item (slot ∷ up)) st.rest) (sym is) at) rest_are st.within (ap (λ (x : State). x.frame) is)
        (read_longer more s (slot ∷ up) bytes item taken a scan ∙ ap (λ (x : State). Ok (item, longer more x)) (sym is))

pub some_slot : (slot : Slot) (up : List Slot) → slot ∷ up ≡ [] → ⊥
some_slot slot up e = absurd (cc)

-- ---- where it is cut

abbrev pub Takes : List ℕ → Fault → Type 0
Takes frame f = length frame < f.place + extent f.reason

module _ (more : List ℕ) (f : Fault) (other : f.reason ≡ reasons.Truncated → ⊥) where
  refused_needs : (s : State) (nest : List Slot) (bytes : List ℕ) → At s nest bytes → Beyond (length bytes) (scan_at (first_of nest) (length nest) (bytes ++ more)) → (nest ≡ [] → ⊥) → Refuses (longer more s) f → Takes s.frame f
  refused_needs s nest bytes a needs some (inr (none, e)) = absurd (some (sym a.open_levels ∙ none))
  refused_needs s nest bytes a needs some (inl (open_one, e)) =
      let r = reads_fault (longer more s) nest (bytes ++ more) f (at_longer more s nest bytes a) e in
      let b = subst (Beyond (length bytes)) r.1 needs (λ t. other (sym r.3 ∙ t)) in
      let same = ap extent r.3 in
      let place = r.2 in
      omega (arith, b, same, place, a.place, ap length a.laid, length-append a.front bytes)

  goes_needs : (s : State) (nest : List Slot) (bytes : List ℕ) (ys : List Item) (halt : State) → At s nest bytes → Beyond (length bytes) (scan_at (first_of nest) (length nest) (bytes ++ more)) → (nest ≡ [] → ⊥)
      → Reads (longer more s) ys halt → Refuses halt f → Takes s.frame f
  goes_needs s nest bytes [] halt a needs some q e = refused_needs s nest bytes a needs some (subst (λ x. Refuses x f) (sym q) e)
  goes_needs s nest bytes (y ∷ ys) halt a needs some (next, step, rest) e =
      let r = reads_read (longer more s) nest (bytes ++ more) y next (at_longer more s nest bytes a) step in
      let b : length bytes < r.0 = subst (Beyond (length bytes)) r.1 needs in
      let place = ap (λ (x : State). x.place) r.2 in
      let last = last_place ys next halt f rest e in
      omega (arith, b, place, last, a.place, ap length a.laid, length-append a.front bytes)

  here_needs : (s : State) (nest : List Slot) (bytes : List ℕ) (g : Fault) (ys : List Item) (halt : State) → At s nest bytes → g.reason ≡ reasons.Truncated → Refuses s g → Reads (longer more s) ys halt → Refuses halt f → Takes s.frame f
  here_needs s [] bytes g ys halt a t (inl (some, e)) q h = absurd (some a.open_levels)
  here_needs s (slot ∷ up) bytes g ys halt a t (inl (some, e)) q h =
      let r = reads_fault s (slot ∷ up) bytes g a e in
      goes_needs s (slot ∷ up) bytes ys halt a ((item_needs (suc (length up)) slot bytes more).by r.0 r.1 (r.3 ∙ t)) (some_slot slot up) q h
  here_needs s nest bytes g ys halt a t (inr (none, e)) q h = let m = end_fault s g none e in absurd (not_trailing (m.1 ∙ t))

  from_needs : (items : List Item) (s last : State) (nest : List Slot) (bytes : List ℕ) (g : Fault) (ys : List Item) (halt : State) → At s nest bytes → AreBytes bytes → length nest ≤ 256 → g.reason ≡ reasons.Truncated
      → Reads s items last → Refuses last g → Reads (longer more s) ys halt → Refuses halt f → Takes s.frame f
  from_needs [] s last nest bytes g ys halt a are most t r e q h = here_needs s nest bytes g ys halt a t (subst (λ x. Refuses x g) (sym r) e) q h
  from_needs (item ∷ items) s last nest bytes g [] halt a are most t (next, step, rest) e q h =
      step_on (Takes s.frame f) more item s next nest bytes a are most step (λ inner left b some less frame again. absurd (both (longer more s) (longer more next) item (refuses_stops halt f h).0 again (ap reads q ∙ (refuses_stops halt f h).1)))
  from_needs (item ∷ items) s last nest bytes g (y ∷ ys) halt a are most t (next, step, rest) e (n, first, others) h =
      step_on (Takes s.frame f) more item s next nest bytes a are most step (λ inner left b some less frame again.
      let same = same_answer y item n (longer more next) (sym first ∙ again) in
      subst (λ l. Takes l f) frame (from_needs items next last inner left g ys halt b some less t rest e (subst (λ x. Reads x ys halt) same.1 others) h))

-- ---- a whole frame

head_cut_needs : (a b : List ℕ) (g f : Fault) → reads_head (begun a) ≡ Err g → g.reason ≡ reasons.Truncated → IsRefused (a ++ b) f → (f.reason ≡ reasons.Truncated → ⊥) → Takes a f
head_cut_needs a b g f e t (inl h) other =
    let r = begun_fault a g e in
    let q = begun_fault (a ++ b) f h in
    let needs = subst (Beyond (length a)) q.1 ((head_needs a b).by r.0 r.1 (r.3 ∙ t)) (λ u. other (sym q.3 ∙ u)) in
    let same = ap extent q.3 in
    let place = q.2 in
    omega (arith, needs, same, place)
head_cut_needs a b g f e t (inr (header, ys, first, halt, h, body, refuses)) other =
    let r = begun_fault a g e in
    let q = begun_read (a ++ b) header first h in
    let needs : length a < q.0 = subst (Beyond (length a)) q.1 ((head_needs a b).by r.0 r.1 (r.3 ∙ t)) in
    let place = ap (λ (x : State). x.place) q.2 in
    let last = last_place ys first halt f body refuses in
    omega (arith, needs, place, last)

pub cut_needs : (a b : List ℕ) (g f : Fault) → AreBytes a → IsRefused a g → g.reason ≡ reasons.Truncated → IsRefused (a ++ b) f → (f.reason ≡ reasons.Truncated → ⊥) → Takes a f
cut_needs a b g f are (inl e) t h other = head_cut_needs a b g f e t h other
cut_needs a b g f are (inr (header, items, first, last, head, body, refuses)) t (inl h) other =
    let r = begun_read a header first head in
    let wrong = sym (begun_is (a ++ b) header r.0 (head_longer a b header r.0 r.1)) ∙ h in
    absurd (no_both (header, headed_state (a ++ b) r.0) f wrong)
  where
    no_both : (x : Header × State) (f : Fault) → is_step x ≡ Err f → ⊥
    no_both x f e = absurd (cc)
cut_needs a b g f are (inr (header, items, first, last, head, body, refuses)) t (inr (k, ys, start, halt, again, more, stops)) other =
    let r = begun_read a header first head in
    let x = head_read a are header r.0 r.1 in
    let at : At first body_open x.body = subst (λ s. At s body_open x.body) (sym r.2) (record { front = x.header; open_levels = refl; laid = x.laid; place = omega (arith, x.long) }) in
    let body_are = (bytes_front x.header x.body (subst AreBytes x.laid are)).1 in
    let one = same_answer k header start (headed_state (a ++ b) r.0) (sym again ∙ begun_is (a ++ b) header r.0 (head_longer a b header r.0 r.1)) in
    let is : longer b first ≡ start = ap (longer b) r.2 ∙ same_value_place a b r.0 (some_bytes a header r.0 r.1) ∙ sym one.1 in
    subst (λ l. Takes l f) (ap (λ (s : State). s.frame) r.2)
    (from_needs b f other items first last body_open x.body g ys halt at body_are (omega arith) t body refuses (subst (λ s. Reads s ys halt) (sym is) more) stops)

-- ---- where a fault lies

-- the place of each sort of fault
abbrev pub Lies : List ℕ → Fault → Type 0
Lies frame f =
    (f.reason ≡ reasons.Truncated) ⊎ ((f.reason ≡ reasons.Trailing) × (f.place < length frame)) ⊎ ((f.reason ≡ reasons.TooDeep) × (f.place ≤ length frame)) ⊎ ((1 ≤ extent f.reason) × (f.place < length frame))

end_apart : (s : State) (f : Fault) → s.nest ≡ [] → reads_end s ≡ Err f → (s.place == length s.frame) ≡ false
unfolding reads_end
end_apart s f none e = by_tests (length s.nest == 0) (s.place == length s.frame) (ap (λ n. length n == 0) none) e
  where
    by_tests : (a b : Bool) → a ≡ true → cond a (cond b (is_step (tt, s)) (is_bad {X = Unit {0}} (record { place = s.place; reason = reasons.Trailing }))) (is_bad (record { place = length s.frame; reason = reasons.Truncated })) ≡ Err f → b ≡ false
    by_tests false b p h = absurd (cc)
    by_tests true true p h = absurd (cc)
    by_tests true false p h = refl

item_lies : (s : State) (nest : List Slot) (bytes : List ℕ) (f g : Fault) → At s nest bytes → s.place + g.place ≡ f.place → g.reason ≡ f.reason → DeepOr (length bytes) g → Lies s.frame f
item_lies s nest bytes f g a place same (inl (deep, zero)) = inr (inr (inl (sym same ∙ deep, omega (arith, place, zero, a.place, ap length a.laid, length-append a.front bytes))))
item_lies s nest bytes f g a place same (inr (inl t)) = inl (sym same ∙ t)
item_lies s nest bytes f g a place same (inr (inr (row, less))) =
    inr (inr (inr (subst (λ r. 1 ≤ extent r) same row, omega (arith, place, less, a.place, ap length a.laid, length-append a.front bytes))))

here_lies : (s : State) (nest : List Slot) (bytes : List ℕ) (f : Fault) → At s nest bytes → Refuses s f → Lies s.frame f
here_lies s [] bytes f a (inl (some, e)) = absurd (some a.open_levels)
here_lies s (slot ∷ up) bytes f a (inl (some, e)) =
    let r = reads_fault s (slot ∷ up) bytes f a e in
    item_lies s (slot ∷ up) bytes f r.0 a r.2 r.3 (item_stands (suc (length up)) slot bytes r.0 r.1)
here_lies s nest bytes f a (inr (none, e)) =
    let m = end_fault s f none e in
    let apart = end_apart s f none e in
    let place = m.0 in
    let size = ap length a.laid ∙ length-append a.front bytes in
    let at = a.place in
    inr (inl (sym m.1, grind (arith, nat_tests)))

from_lies : (items : List Item) (s last : State) (nest : List Slot) (bytes : List ℕ) (f : Fault) → At s nest bytes → AreBytes bytes → length nest ≤ 256 → Reads s items last → Refuses last f → Lies s.frame f
from_lies [] s last nest bytes f a are most r e = here_lies s nest bytes f a (subst (λ x. Refuses x f) (sym r) e)
from_lies (item ∷ items) s last nest bytes f a are most (next, step, rest) e =
    step_on (Lies s.frame f) [] item s next nest bytes a are most step (λ inner left b some less frame again. subst (λ l. Lies l f) frame (from_lies items next last inner left f b some less rest e))

head_lies : (bytes : List ℕ) (f g : Fault) → 0 + g.place ≡ f.place → g.reason ≡ f.reason → Standing (length bytes) g → Lies bytes f
head_lies bytes f g place same (inl t) = inl (sym same ∙ t)
head_lies bytes f g place same (inr (row, less)) = inr (inr (inr (subst (λ r. 1 ≤ extent r) same row, omega (arith, place, less))))

pub fault_lies : (bytes : List ℕ) (f : Fault) → AreBytes bytes → IsRefused bytes f → Lies bytes f
fault_lies bytes f are (inl e) = let r = begun_fault bytes f e in head_lies bytes f r.0 r.2 r.3 ((head_stands bytes).by r.0 r.1)
fault_lies bytes f are (inr (header, items, first, last, head, body, refuses)) =
    let r = begun_read bytes header first head in
    let x = head_read bytes are header r.0 r.1 in
    let at : At first body_open x.body = subst (λ s. At s body_open x.body) (sym r.2) (record { front = x.header; open_levels = refl; laid = x.laid; place = omega (arith, x.long) }) in
    let body_are = (bytes_front x.header x.body (subst AreBytes x.laid are)).1 in
    subst (λ l. Lies l f) (ap (λ (s : State). s.frame) r.2) (from_lies items first last body_open x.body f at body_are (omega arith) body refuses)
