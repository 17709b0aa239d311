-- What the reader of the Compact protocol reads of a frame is found of it as a front.
use Rattle.std.proofs.Common.{◌≡◌, ◌⊎◌, inl, inr, ℕ, pos, ◌+◌, ◌-◌, ◌<◌, ◌≤◌, Bool, true, false, cond, List, [], ◌∷◌, length, drop, take, Ok, Err, refl, sym, ap, ◌∙◌, subst, arith, length-drop}
use Rattle.std.specs.Prelude.{ℤ, ◌==◌}
use Rattle.std.proofs.lemmas.Bool.Decides.{nat_tests}
use Rattle.std.proofs.lemmas.List.{drop-drop}
use Rattle.gate_base.specs.Bytes.{AreBytes}
use Rattle.thrift_value.specs.declared.kind.MessageType.{MessageType}
use Rattle.thrift_value.specs.Items.{Item}
use Rattle.thrift_value.specs.Trees.{items_of_members}
use Rattle.protocol_traits.specs.declared.fault.Fault.{Fault}
use Rattle.protocol_traits.specs.declared.fault.Reason.{Reason}
use Rattle.protocol_traits.specs.declared.fault.Reason.TheVariants as reasons
use Rattle.protocol_traits.specs.declared.nest.Slot.{Slot}
use Rattle.protocol_traits.specs.declared.nest.Slot.TheVariants as slots
use Rattle.protocol_traits.specs.Follow.{after}
use Rattle.protocol_traits.specs.Heads.{Header}
use Rattle.protocol_traits.specs.Stack.{first_of}
use Rattle.protocol_traits.specs.Steps.{Step}
use Rattle.compact_protocol.specs.Scan.{Scan, shifted, ◌>>=◌, front_at, string_at, flag_of}
use Rattle.compact_protocol.specs.Reading.{State, rest, scan_at, moved, reads, named, headed, begun, reads_head, reads_end}
use Rattle.compact_laws.specs.Reads.{Reads, IsRead}
use Rattle.binary_laws.specs.Reads.{header_of_message}
use Rattle.compact_laws.specs.Refused.{IsRefused}
use Rattle.compact_laws.specs.Faults.{IsWhole, StandsAt, FaultAt}
use Rattle.compact_laws.proofs.Spelled.{onward, spelled_read}
use Rattle.compact_laws.proofs.Sound.{moved_read}
use Rattle.binary_laws.proofs.Sound.{no_levels}
use Rattle.compact_laws.proofs.Faults.{judged, stands_there, refuses}
use Rattle.stream_messages.specs.declared.scan.Wire.TheVariants as wires
use Rattle.stream_messages.specs.Fronts.{Found, whole, cut, bad, item_at, Leads, IsFault, Stops, IsFront}
use Rattle.unframed_laws.proofs.Ends.{same_end, same_read, stops_halt, one_found}

-- read item after item, from one state to another
record Led (s : State) (items : List Item) (last : State) : Type 0 where
  leads : Leads wires.Compact s.nest s.flag (rest s) items last.nest last.flag (rest last)
  frame : last.frame ≡ s.frame

step_read : (s next : State) (item : Item) → reads s ≡ Ok (item, next) → (taken : ℕ) × (scan_at (first_of s.nest) (length s.nest) s.flag (rest s) ≡ Ok (item, taken)) × (next ≡ onward s item taken)
unfolding reads
step_read s next item e = moved_read s (scan_at (first_of s.nest) (length s.nest) s.flag (rest s)) item next e

led : (items : List Item) (s last : State) → Reads s items last → Led s items last
led [] s last r = record { leads = (ap (λ (x : State). x.nest) r, ap (λ (x : State). x.flag) r, ap rest r); frame = ap (λ (x : State). x.frame) (sym r) }
led (item ∷ items) s last (next, e, more) =
    let m = step_read s next item e in
    let deeper = led items (onward s item m.0) last (subst (λ x. Reads x items last) m.2 more) in
    record {
      leads = (m.0, m.1, subst (λ l. Leads wires.Compact (after item s.nest) (flag_of (rest s)) l items last.nest last.flag (rest last)) (sym (drop-drop m.0 s.place s.frame)) deeper.leads);
      frame = deeper.frame;
    }

-- the header behind what its front tells
abbrev head_of : List ℕ → Scan (MessageType × ℤ) → Scan Header
head_of bytes scan =
    scan >>= λ front.
    shifted front.1 (string_at (drop front.1 bytes)) >>= λ name.
    Ok (record { name = name.0; mtype = front.0.0; seq = front.0.1 }, name.1)

abbrev name_of : MessageType × ℤ → Scan (List ℕ) → Scan Header
name_of front scan = scan >>= λ name. Ok (record { name = name.0; mtype = front.0; seq = front.1 }, name.1)

-- the state behind a header
abbrev body_at : List ℕ → ℕ → ℕ → State
body_at bytes size value = record { frame = bytes; place = 0 + size; value = value; flag = false; nest = slots.Fields (pos 0) ∷ [] }

abbrev is_header : Header → State → Step State Header
is_header h s = Ok (h, s)

same_header : (h k : Header) (s t : State) → is_header h s ≡ is_header k t → (h ≡ k) × (s ≡ t)
same_header h k s t e = let p : (h, s) ≡ (k, t) = cc in (ap (λ (x : Header × State). x.0) p, ap (λ (x : Header × State). x.1) p)

name_read : (bytes : List ℕ) (front : MessageType × ℤ) (at : ℕ) (scan : Scan (List ℕ)) (h : Header) (first : State) → named (begun bytes) front at scan ≡ Ok (h, first)
    → (size : ℕ) × (value : ℕ) × (name_of front scan ≡ Ok (h, size)) × (first ≡ body_at bytes size value)
name_read bytes front at (Ok x) h first e =
    let s = same_header (record { name = x.0; mtype = front.0; seq = front.1 }) h (body_at bytes x.1 (0 + at)) first e in
    (x.1, 0 + at, ap (λ k. Ok (k, x.1)) s.0, sym s.1)
name_read bytes front at (Err f) h first e = absurd (cc)

front_read : (bytes : List ℕ) (scan : Scan (MessageType × ℤ)) (h : Header) (first : State) → headed (begun bytes) scan ≡ Ok (h, first)
    → (size : ℕ) × (value : ℕ) × (head_of bytes scan ≡ Ok (h, size)) × (first ≡ body_at bytes size value)
front_read bytes (Ok x) h first e = name_read bytes x.0 x.1 (shifted x.1 (string_at (drop x.1 bytes))) h first e
front_read bytes (Err f) h first e = absurd (cc)

begun_read : (bytes : List ℕ) (h : Header) (first : State) → reads_head (begun bytes) ≡ Ok (h, first)
    → (size : ℕ) × (value : ℕ) × (head_of bytes (front_at bytes) ≡ Ok (h, size)) × (first ≡ body_at bytes size value)
unfolding reads_head
begun_read bytes h first e = front_read bytes (front_at bytes) h first e

-- the header, and the items behind it
record Opened (bytes : List ℕ) (header : Header) (items : List Item) (last : State) : Type 0 where
  size : ℕ
  head : head_of bytes (front_at bytes) ≡ Ok (header, size)
  leads : Leads wires.Compact (slots.Fields (pos 0) ∷ []) false (drop size bytes) items last.nest last.flag (rest last)
  frame : last.frame ≡ bytes

opened : (bytes : List ℕ) (header : Header) (items : List Item) (first last : State) → reads_head (begun bytes) ≡ Ok (header, first) → Reads first items last → Opened bytes header items last
opened bytes header items first last e r =
    let b = begun_read bytes header first e in
    let l = led items (body_at bytes b.0 b.1) last (subst (λ x. Reads x items last) b.3 r) in
    let n : 0 + b.0 ≡ b.0 = omega arith in
    record { size = b.0; head = b.2; leads = subst (λ k. Leads wires.Compact (slots.Fields (pos 0) ∷ []) false (drop k bytes) items last.nest last.flag (rest last)) n l.leads; frame = l.frame }

none_left : (n : ℕ) (l : List ℕ) → length l ≤ n → drop n l ≡ []
none_left n l h = by_list (drop n l) (omega (arith, length-drop n l))
  where
    by_list : (x : List ℕ) → length x ≡ 0 → x ≡ []
    by_list [] e = refl
    by_list (y ∷ x) e = absurd (omega arith)

abbrev is_end : State → Step State (Unit {0})
is_end last = Ok (tt, last)

-- the end of a message with nothing behind
end_read : (last : State) → reads_end last ≡ Ok (tt, last) → (last.nest ≡ []) × (rest last ≡ [])
unfolding reads_end
end_read last e = by_tests (length last.nest == 0) (last.place == length last.frame) refl refl e
  where
    by_tests : (x y : Bool) → (length last.nest == 0) ≡ x → (last.place == length last.frame) ≡ y
        → cond x (cond y (Ok (tt, last)) (Err (record { place = last.place; reason = reasons.Trailing }))) (Err (record { place = length last.frame; reason = reasons.Truncated })) ≡ is_end last
        → (last.nest ≡ []) × (rest last ≡ [])
    by_tests true true p q e = (no_levels last.nest p, none_left last.place last.frame (grind (arith, nat_tests)))
    by_tests true false p q e = absurd (cc)
    by_tests false y p q e = absurd (cc)

pub read_front : (bytes : List ℕ) (header : Header) (items : List Item) → IsRead bytes header items → IsFront wires.Compact whole bytes
read_front bytes header items (first, last, head, r, e) =
    let o = opened bytes header items first last head r in
    inr (header, o.size, o.head, record { items = items; last = last.nest; last_flag = last.flag; rest = rest last; leads = o.leads; stops = end_read last e })

pub is_whole : (bytes : List ℕ) → IsWhole bytes → IsFront wires.Compact whole bytes
is_whole bytes (m, spells, deep) = read_front bytes (header_of_message m) (items_of_members m.body) (spelled_read m bytes spells deep)

-- ---- refused

abbrev is_fault : {X : Type 0} → Fault → Step State X
is_fault {X} f = Err f

same_reason : {X : Type 0} → (g f : Fault) → is_fault {X = X} g ≡ Err f → g.reason ≡ f.reason
same_reason {X} g f e = let h : g ≡ f = cc in ap (λ (x : Fault). x.reason) h

name_fault : (bytes : List ℕ) (front : MessageType × ℤ) (at : ℕ) (scan : Scan (List ℕ)) (f : Fault) → named (begun bytes) front at scan ≡ Err f → (g : Fault) × (name_of front scan ≡ Err g) × (g.reason ≡ f.reason)
name_fault bytes front at (Ok x) f e = absurd (cc)
name_fault bytes front at (Err g) f e = (g, refl, same_reason {X = Header} (record { place = 0 + g.place; reason = g.reason }) f e)

head_fault : (bytes : List ℕ) (scan : Scan (MessageType × ℤ)) (f : Fault) → headed (begun bytes) scan ≡ Err f → (g : Fault) × (head_of bytes scan ≡ Err g) × (g.reason ≡ f.reason)
head_fault bytes (Ok x) f e = name_fault bytes x.0 x.1 (shifted x.1 (string_at (drop x.1 bytes))) f e
head_fault bytes (Err g) f e = (g, refl, same_reason {X = Header} (record { place = 0 + g.place; reason = g.reason }) f e)

begun_fault : (bytes : List ℕ) (f : Fault) → reads_head (begun bytes) ≡ Err f → (g : Fault) × (head_of bytes (front_at bytes) ≡ Err g) × (g.reason ≡ f.reason)
unfolding reads_head
begun_fault bytes f e = head_fault bytes (front_at bytes) f e

item_fault : (s : State) (scan : Scan Item) (f : Fault) → moved s scan ≡ Err f → (g : Fault) × (scan ≡ Err g) × (g.reason ≡ f.reason)
item_fault s (Ok x) f e = absurd (cc)
item_fault s (Err g) f e = (g, refl, same_reason {X = Item} (record { place = s.place + g.place; reason = g.reason }) f e)

step_fault : (s : State) (f : Fault) → reads s ≡ Err f → (g : Fault) × (scan_at (first_of s.nest) (length s.nest) s.flag (rest s) ≡ Err g) × (g.reason ≡ f.reason)
unfolding reads
step_fault s f e = item_fault s (scan_at (first_of s.nest) (length s.nest) s.flag (rest s)) f e

end_fault : (last : State) (f : Fault) → last.nest ≡ [] → reads_end last ≡ Err f → (f.reason ≡ reasons.Trailing) × (f.place ≡ last.place)
unfolding reads_end
end_fault last f n e = by_test (length last.nest == 0) (last.place == length last.frame) (ap (λ l. length l == 0) n) e
  where
    by_test : (x y : Bool) → x ≡ true → cond x (cond y (is_end last) (Err (record { place = last.place; reason = reasons.Trailing }))) (Err (record { place = length last.frame; reason = reasons.Truncated })) ≡ Err f
        → (f.reason ≡ reasons.Trailing) × (f.place ≡ last.place)
    by_test true true p e = absurd (cc)
    by_test true false p e = let h : record { place = last.place; reason = reasons.Trailing } ≡ f = cc in (ap (λ (x : Fault). x.reason) (sym h), ap (λ (x : Fault). x.place) (sym h))
    by_test false y p e = absurd (cc)

stopped : (found : Found) (nest : List Slot) (flag : Bool) (bytes : List ℕ) (g : Fault) → (nest ≡ [] → ⊥) → item_at wires.Compact nest flag bytes ≡ Err g → IsFault found g → Stops wires.Compact found nest flag bytes
stopped whole nest flag bytes g n e h = absurd h
stopped cut nest flag bytes g n e h = (n, (g, e, h))
stopped bad nest flag bytes g n e h = (n, (g, e, h))

-- a frame that is refused, but not for what trails, is found so
refused_front : (bytes : List ℕ) (f : Fault) (found : Found) → ((g : Fault) → g.reason ≡ f.reason → IsFault found g) → (f.reason ≡ reasons.Trailing → ⊥) → IsRefused bytes f → IsFront wires.Compact found bytes
refused_front bytes f found is behind (inl e) = let g = begun_fault bytes f e in inl (g.0, g.1, is g.0 g.2)
refused_front bytes f found is behind (inr (header, items, first, last, head, r, inl (n, e))) =
    let o = opened bytes header items first last head r in
    let g = step_fault last f e in
    inr (header, o.size, o.head, record { items = items; last = last.nest; last_flag = last.flag; rest = rest last; leads = o.leads; stops = stopped found last.nest last.flag (rest last) g.0 n g.1 (is g.0 g.2) })
refused_front bytes f found is behind (inr (header, items, first, last, head, r, inr (n, e))) = absurd (behind (end_fault last f n e).0)

-- ---- a byte trails

cut_is_whole : cut ≡ whole → ⊥
cut_is_whole e = absurd (cc)

bad_is_whole : bad ≡ whole → ⊥
bad_is_whole e = absurd (cc)

bad_is_cut : bad ≡ cut → ⊥
bad_is_cut e = absurd (cc)

trailing : (g f : Fault) → g.reason ≡ f.reason → f.reason ≡ reasons.Trailing → IsFault bad g
trailing g f e t c = absurd (cc)

-- behind the last level with a byte left, where the front isn't bad
past : (bytes : List ℕ) (f : Fault) (header : Header) (items : List Item) (last : State) → AreBytes bytes → IsRefused bytes f → f.reason ≡ reasons.Trailing → Opened bytes header items last → last.nest ≡ [] → f.place ≡ last.place
    → (found : Found) → (found ≡ bad → ⊥) → IsFront wires.Compact found bytes → ⊥
past bytes f header items last are refused t o n p found other (inl (g, e, h)) = absurd (cc (o.head))
past bytes f header items last are refused t o n p found other (inr (head, size, e, b)) =
    let s : (header, o.size) ≡ (head, size) = same_read {X = Header} (header, o.size) (head, size) (sym o.head ∙ e) in
    let k : o.size ≡ size = ap (λ (x : Header × ℕ). x.1) s in
    let l = subst (λ z. Leads wires.Compact (slots.Fields (pos 0) ∷ []) false (drop z bytes) items last.nest last.flag (rest last)) k o.leads in
    let same = same_end wires.Compact items b.items (slots.Fields (pos 0) ∷ []) false (drop size bytes) last.nest b.last last.flag b.last_flag (rest last) b.rest l (inl n) b.leads (stops_halt wires.Compact found b.last b.last_flag b.rest b.stops) in
    by_found found other b.last b.last_flag b.rest (sym same.0 ∙ n) same.2 b.stops (stands_there bytes f are refused)
  where
    short_of : StandsAt reasons.Trailing bytes f.place → rest last ≡ [] → ⊥
    short_of h r =
        let size : length (rest last) ≡ length last.frame - last.place = length-drop last.place last.frame in
        let none : length (rest last) ≡ 0 = ap length r in
        let all : length last.frame ≡ length bytes = ap length o.frame in
        let less : f.place < length bytes = h.0 in
        absurd (omega arith)

    by_found : (found : Found) → (found ≡ bad → ⊥) → (end : List Slot) (flag : Bool) (left : List ℕ) → end ≡ [] → rest last ≡ left → Stops wires.Compact found end flag left → FaultAt bytes f → ⊥
    by_found whole other end flag left n r h at = short_of (subst (λ x. StandsAt x bytes f.place) t at) (r ∙ h.1)
    by_found cut other end flag left n r h at = h.0 n
    by_found bad other end flag left n r h at = other refl

-- so it is found neither whole nor cut
trailed : (bytes : List ℕ) (f : Fault) (found : Found) → (found ≡ bad → ⊥) → AreBytes bytes → IsRefused bytes f → f.reason ≡ reasons.Trailing → IsFront wires.Compact found bytes → ⊥
trailed bytes f found other are (inl e) t h = let g = begun_fault bytes f e in other (one_found wires.Compact found bad bytes h (inl (g.0, g.1, trailing g.0 f g.2 t)))
trailed bytes f found other are (inr (header, items, first, last, head, r, inl (n, e))) t h =
    let o = opened bytes header items first last head r in
    let g = step_fault last f e in
    other (one_found wires.Compact found bad bytes h
    (inr (header, o.size, o.head, record { items = items; last = last.nest; last_flag = last.flag; rest = rest last; leads = o.leads; stops = stopped bad last.nest last.flag (rest last) g.0 n g.1 (trailing g.0 f g.2 t) })))
trailed bytes f found other are (inr (header, items, first, last, head, r, inr (n, e))) t h =
    past bytes f header items last are (inr (header, items, first, last, head, r, inr (n, e))) t (opened bytes header items first last head r) n (end_fault last f n e).1 found other h

-- ---- the laws

is_cut_fault : (f : Fault) → f.reason ≡ reasons.Truncated → (g : Fault) → g.reason ≡ f.reason → IsFault cut g
is_cut_fault f t g e = e ∙ t

is_bad_fault : (f : Fault) → (f.reason ≡ reasons.Truncated → ⊥) → (g : Fault) → g.reason ≡ f.reason → IsFault bad g
is_bad_fault f t g e = λ c. t (sym e ∙ c)

-- cut short, with a byte that trails, or otherwise at fault
abbrev Sorts : Fault → Type 0
Sorts f = (f.reason ≡ reasons.Truncated) ⊎ (f.reason ≡ reasons.Trailing) ⊎ ((f.reason ≡ reasons.Truncated → ⊥) × (f.reason ≡ reasons.Trailing → ⊥))

sort_of : (f : Fault) → Sorts f
sort_of f = by_reason f.reason refl
  where
    by_reason : (r : Reason) → f.reason ≡ r → Sorts f
    by_reason reasons.Truncated e = inl e
    by_reason reasons.Trailing e = inr (inl e)
    by_reason r e = inr (inr ((λ t. absurd (cc)), (λ t. absurd (cc))))

pub whole_spells : (bytes : List ℕ) → AreBytes bytes → IsFront wires.Compact whole bytes → IsWhole bytes
whole_spells bytes are h = by_case (judged bytes are)
  where
    by_sort : (f : Fault) → IsRefused bytes f → Sorts f → IsWhole bytes
    by_sort f r (inl t) = absurd (cut_is_whole (one_found wires.Compact cut whole bytes (refused_front bytes f cut (is_cut_fault f t) (λ x. absurd (cc)) r) h))
    by_sort f r (inr (inl t)) = absurd (trailed bytes f whole (λ e. bad_is_whole (sym e)) are r t h)
    by_sort f r (inr (inr n)) = absurd (bad_is_whole (one_found wires.Compact bad whole bytes (refused_front bytes f bad (is_bad_fault f n.0) n.1 r) h))

    by_case : IsWhole bytes ⊎ ((f : Fault) × IsRefused bytes f × FaultAt bytes f) → IsWhole bytes
    by_case (inl w) = w
    by_case (inr (f, r, at)) = by_sort f r (sort_of f)

pub cut_stands : (bytes : List ℕ) → AreBytes bytes → IsFront wires.Compact cut bytes → StandsAt reasons.Truncated bytes (length bytes)
cut_stands bytes are h = by_case (judged bytes are)
  where
    by_sort : (f : Fault) → IsRefused bytes f → FaultAt bytes f → Sorts f → StandsAt reasons.Truncated bytes (length bytes)
    by_sort f r at (inl t) = let s = subst (λ x. StandsAt x bytes f.place) t at in subst (λ p. StandsAt reasons.Truncated bytes p) s.0 s
    by_sort f r at (inr (inl t)) = absurd (trailed bytes f cut (λ e. bad_is_cut (sym e)) are r t h)
    by_sort f r at (inr (inr n)) = absurd (bad_is_cut (one_found wires.Compact bad cut bytes (refused_front bytes f bad (is_bad_fault f n.0) n.1 r) h))

    by_case : IsWhole bytes ⊎ ((f : Fault) × IsRefused bytes f × FaultAt bytes f) → StandsAt reasons.Truncated bytes (length bytes)
    by_case (inl w) = absurd (cut_is_whole (one_found wires.Compact cut whole bytes h (is_whole bytes w)))
    by_case (inr (f, r, at)) = by_sort f r at (sort_of f)

pub is_cut : (bytes : List ℕ) → AreBytes bytes → StandsAt reasons.Truncated bytes (length bytes) → IsFront wires.Compact cut bytes
is_cut bytes are h =
    let f : Fault = record { place = length bytes; reason = reasons.Truncated } in
    refused_front bytes f cut (is_cut_fault f refl) (λ x. absurd (cc)) (refuses bytes f are h)

-- a front that is bad, and no shorter one of which is a message, has a fault other than that it ends too early or that a byte trails
pub bad_stands : (bytes : List ℕ) → AreBytes bytes → ((k : ℕ) → k < length bytes → IsFront wires.Compact cut (take k bytes)) → IsFront wires.Compact bad bytes
    → (f : Fault) × FaultAt bytes f × (f.reason ≡ reasons.Truncated → ⊥) × (f.reason ≡ reasons.Trailing → ⊥)
bad_stands bytes are shorter h = by_case (judged bytes are)
  where
    by_sort : (f : Fault) → IsRefused bytes f → FaultAt bytes f → Sorts f → (f : Fault) × FaultAt bytes f × (f.reason ≡ reasons.Truncated → ⊥) × (f.reason ≡ reasons.Trailing → ⊥)
    by_sort f r at (inl t) = absurd (bad_is_cut (one_found wires.Compact bad cut bytes h (refused_front bytes f cut (is_cut_fault f t) (λ x. absurd (cc)) r)))
    by_sort f r at (inr (inl t)) =
        let s = subst (λ x. StandsAt x bytes f.place) t at in
        absurd (cut_is_whole (one_found wires.Compact cut whole (take f.place bytes) (shorter f.place s.0) (is_whole (take f.place bytes) s.2)))
    by_sort f r at (inr (inr n)) = (f, at, n.0, n.1)

    by_case : IsWhole bytes ⊎ ((f : Fault) × IsRefused bytes f × FaultAt bytes f) → (f : Fault) × FaultAt bytes f × (f.reason ≡ reasons.Truncated → ⊥) × (f.reason ≡ reasons.Trailing → ⊥)
    by_case (inl w) = absurd (bad_is_whole (one_found wires.Compact bad whole bytes h (is_whole bytes w)))
    by_case (inr (f, r, at)) = by_sort f r at (sort_of f)

pub is_bad : (bytes : List ℕ) (f : Fault) → AreBytes bytes → FaultAt bytes f → (f.reason ≡ reasons.Truncated → ⊥) → (f.reason ≡ reasons.Trailing → ⊥) → IsFront wires.Compact bad bytes
is_bad bytes f are at t l = refused_front bytes f bad (is_bad_fault f t) l (refuses bytes f are at)
