-- Where the reading of a body ends, it ends in one way.
use Rattle.std.proofs.Common.{◌≡◌, ◌⊎◌, inl, inr, ℕ, pos, Bool, false, List, [], ◌∷◌, drop, Ok, Err, refl, sym, ap, ◌∙◌, subst}
use Rattle.thrift_value.specs.Items.{Item}
use Rattle.protocol_traits.specs.declared.fault.Fault.{Fault}
use Rattle.protocol_traits.specs.declared.fault.Reason.TheVariants as reasons
use Rattle.protocol_traits.specs.declared.nest.Slot.{Slot}
use Rattle.protocol_traits.specs.declared.nest.Slot.TheVariants as slots
use Rattle.protocol_traits.specs.Follow.{after}
use Rattle.protocol_traits.specs.Heads.{Header}
use Rattle.protocol_traits.specs.Steps.{Step}
use Rattle.stream_messages.specs.declared.scan.Wire.{Wire}
use Rattle.stream_messages.specs.declared.scan.Wire.TheVariants as wires
use Rattle.stream_messages.specs.Fronts.{Found, whole, cut, bad, item_at, told_by, Leads, IsFault, Stops, IsBody, IsFront}

-- nothing is read here
abbrev pub Halts : Wire → List Slot → Bool → List ℕ → Type 0
Halts wire nest flag bytes = (nest ≡ []) ⊎ ((f : Fault) × (item_at wire nest flag bytes ≡ Err f))

pub no_item : (wire : Wire) (flag : Bool) (bytes : List ℕ) → item_at wire [] flag bytes ≡ Err (record { place = 0; reason = reasons.Trailing })
no_item wires.Binary flag bytes = refl
no_item wires.Compact flag bytes = refl

halted : (wire : Wire) (nest : List Slot) (flag : Bool) (bytes : List ℕ) (x : Item × ℕ) → Halts wire nest flag bytes → item_at wire nest flag bytes ≡ Ok x → ⊥
halted wire nest flag bytes x (inl e) k = let n = subst (λ l. item_at wire l flag bytes ≡ Ok x) e k in absurd (cc (no_item wire flag bytes))
halted wire nest flag bytes x (inr (f, e)) k = absurd (cc)

abbrev pub is_read : {X : Type 0} → X × ℕ → Step ℕ X
is_read x = Ok x

pub same_read : {X : Type 0} → (a b : X × ℕ) → is_read a ≡ is_read b → a ≡ b
same_read a b e = cc

pub same_end : (wire : Wire) (xs ys : List Item) (nest : List Slot) (flag : Bool) (bytes : List ℕ) (last end : List Slot) (a b : Bool) (rest left : List ℕ)
    → Leads wire nest flag bytes xs last a rest → Halts wire last a rest → Leads wire nest flag bytes ys end b left → Halts wire end b left
    → (last ≡ end) × (a ≡ b) × (rest ≡ left)
same_end wire [] [] nest flag bytes last end a b rest left l h m k = (sym l.0 ∙ m.0, sym l.1 ∙ m.1, sym l.2 ∙ m.2)
same_end wire [] (y ∷ ys) nest flag bytes last end a b rest left l h m k =
    absurd (halted wire nest flag bytes (y, m.0) (subst (λ n. Halts wire n flag bytes) (sym l.0) (subst (λ f. Halts wire last f bytes) (sym l.1) (subst (λ r. Halts wire last a r) (sym l.2) h))) m.1)
same_end wire (x ∷ xs) [] nest flag bytes last end a b rest left l h m k =
    absurd (halted wire nest flag bytes (x, l.0) (subst (λ n. Halts wire n flag bytes) (sym m.0) (subst (λ f. Halts wire end f bytes) (sym m.1) (subst (λ r. Halts wire end b r) (sym m.2) k))) l.1)
same_end wire (x ∷ xs) (y ∷ ys) nest flag bytes last end a b rest left l h m k =
    let e : (x, l.0) ≡ (y, m.0) = same_read {X = Item} (x, l.0) (y, m.0) (sym l.1 ∙ m.1) in
    let i : x ≡ y = ap (λ (p : Item × ℕ). p.0) e in
    let n : l.0 ≡ m.0 = ap (λ (p : Item × ℕ). p.1) e in
    same_end wire xs ys (after y nest) (told_by wire bytes) (drop m.0 bytes) last end a b rest left
    (subst (λ z. Leads wire (after z nest) (told_by wire bytes) (drop m.0 bytes) xs last a rest) i (subst (λ z. Leads wire (after x nest) (told_by wire bytes) (drop z bytes) xs last a rest) n l.2)) h m.2 k

pub stops_halt : (wire : Wire) (found : Found) (nest : List Slot) (flag : Bool) (bytes : List ℕ) → Stops wire found nest flag bytes → Halts wire nest flag bytes
stops_halt wire whole nest flag bytes h = inl h.0
stops_halt wire cut nest flag bytes h = inr (h.1.0, h.1.1)
stops_halt wire bad nest flag bytes h = inr (h.1.0, h.1.1)

one_stop : (wire : Wire) (x y : Found) (nest : List Slot) (flag : Bool) (bytes : List ℕ) → Stops wire x nest flag bytes → Stops wire y nest flag bytes → x ≡ y
one_stop wire whole whole nest flag bytes h k = refl
one_stop wire whole cut nest flag bytes h k = absurd (k.0 h.0)
one_stop wire whole bad nest flag bytes h k = absurd (k.0 h.0)
one_stop wire cut whole nest flag bytes h k = absurd (h.0 k.0)
one_stop wire cut cut nest flag bytes h k = refl
one_stop wire cut bad nest flag bytes h k = let e : h.1.0 ≡ k.1.0 = let a = h.1.1 in let b = k.1.1 in cc in absurd (k.1.2 (sym (ap (λ (f : Fault). f.reason) e) ∙ h.1.2))
one_stop wire bad whole nest flag bytes h k = absurd (h.0 k.0)
one_stop wire bad cut nest flag bytes h k = let e : h.1.0 ≡ k.1.0 = let a = h.1.1 in let b = k.1.1 in cc in absurd (h.1.2 (ap (λ (f : Fault). f.reason) e ∙ k.1.2))
one_stop wire bad bad nest flag bytes h k = refl

pub one_body : (wire : Wire) (x y : Found) (nest : List Slot) (flag : Bool) (bytes : List ℕ) → IsBody wire x nest flag bytes → IsBody wire y nest flag bytes → x ≡ y
one_body wire x y nest flag bytes h k =
    let e = same_end wire h.items k.items nest flag bytes h.last k.last h.last_flag k.last_flag h.rest k.rest h.leads (stops_halt wire x h.last h.last_flag h.rest h.stops) k.leads (stops_halt wire y k.last k.last_flag k.rest k.stops) in
    one_stop wire x y k.last k.last_flag k.rest
    (subst (λ n. Stops wire x n k.last_flag k.rest) e.0 (subst (λ f. Stops wire x h.last f k.rest) e.1 (subst (λ r. Stops wire x h.last h.last_flag r) e.2 h.stops))) k.stops

one_fault : (x y : Found) (f : Fault) → IsFault x f → IsFault y f → x ≡ y
one_fault whole y f h k = absurd h
one_fault cut whole f h k = absurd k
one_fault cut cut f h k = refl
one_fault cut bad f h k = absurd (k h)
one_fault bad whole f h k = absurd k
one_fault bad cut f h k = absurd (h k)
one_fault bad bad f h k = refl

pub one_found : (wire : Wire) (x y : Found) (bytes : List ℕ) → IsFront wire x bytes → IsFront wire y bytes → x ≡ y
one_found wire x y bytes (inl (f, e, h)) (inl (g, k, i)) = let s : f ≡ g = cc in one_fault x y g (subst (λ z. IsFault x z) s h) i
one_found wire x y bytes (inl (f, e, h)) (inr (head, size, k, b)) = absurd (cc)
one_found wire x y bytes (inr (head, size, e, a)) (inl (g, k, i)) = absurd (cc)
one_found wire x y bytes (inr (head, size, e, a)) (inr (other, long, k, b)) =
    let s : (head, size) ≡ (other, long) = same_read {X = Header} (head, size) (other, long) (sym e ∙ k) in
    let n : size ≡ long = ap (λ (p : Header × ℕ). p.1) s in
    one_body wire x y (slots.Fields (pos 0) ∷ []) false (drop long bytes) (subst (λ z. IsBody wire x (slots.Fields (pos 0) ∷ []) false (drop z bytes)) n a) b
