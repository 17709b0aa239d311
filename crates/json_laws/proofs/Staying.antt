-- A frame that is refused, other than as truncated, is refused with more bytes behind.
use Rattle.std.proofs.Common.{◌≡◌, ℕ, suc, ◌+◌, ◌*◌, ◌<◌, ◌≤◌, true, false, List, [], ◌∷◌, ◌++◌, length, drop, Some, Ok, Err, IfOk, refl, ap, ◌∙◌, sym, subst, arith, ◌⊎◌, inl, inr, length-drop}
use Rattle.std.specs.Prelude.{nat_lt}
use Rattle.std.proofs.lemmas.Bool.Decides.{nat_tests}
use Rattle.thrift_value.specs.Items.{Item}
use Rattle.protocol_traits.specs.declared.fault.Fault.{Fault}
use Rattle.protocol_traits.specs.declared.fault.Reason.{Reason}
use Rattle.protocol_traits.specs.declared.fault.Reason.TheVariants as reasons
use Rattle.protocol_traits.specs.declared.nest.Slot.{Slot}
use Rattle.protocol_traits.specs.Heads.{Header}
use Rattle.protocol_traits.specs.Room.{weight}
use Rattle.protocol_traits.specs.Steps.{Step}
use Rattle.protocol_traits.specs.Stack.{first_of}
use Rattle.type_walk.specs.Positions.{Position, hint_of, start}
use Rattle.type_walk.specs.Positions.{after as position_after}
use Rattle.json_text_laws.proofs.Choices.{either_way}
use Rattle.json_text_laws.proofs.Refused.{drop_more}
use Rattle.json_protocol.specs.Laws.{reads_pays}
use Rattle.json_protocol.specs.Scan.{Scan}
use Rattle.json_protocol.specs.Reading.{State, begun, rest, ahead, scan_at, moved, reads}
use Rattle.json_protocol.specs.Head.{head_at, headed, reads_head, end_scan, ended, reads_end}
use Rattle.json_laws.specs.Reads.{Reads}
use Rattle.json_laws.specs.Refused.{behind, Refuses, IsRefused}
use Rattle.json_laws.specs.Stated.{Known, Begins, IsSame}
use Rattle.json_laws.proofs.Either.{weighs, same_blame, refused_spells_none}
use Rattle.json_laws.proofs.Keeping.{Stays, drop_past}
use Rattle.json_laws.proofs.KeepingCalls.{scan_stable, scan_cut, Blames, end_blames, end_cut, head_stable}

abbrev IsOther : Fault → Type 0
IsOther f = f.reason ≡ reasons.Truncated → ⊥

abbrev shown : ℕ → Fault → Fault
shown n f = record { place = n + f.place; reason = f.reason }

abbrev state_in : {X : Type 0} → State → Step State X → State
state_in s (Ok x) = x.1
state_in s (Err f) = s

-- a place further on
again : (size at : ℕ) (frame : List ℕ) (b c f : Fault) → size ≡ length (drop at frame) → shown at b ≡ f → c.reason ≡ b.reason → (b.place < size → c ≡ b) → IsSame (length frame) f (shown at c)
again size at frame b c f is e r p = (
  r ∙ ap (λ (x : Fault). x.reason) e,
  λ h. let same : at + b.place ≡ f.place = ap (λ (x : Fault). x.place) e in ap (shown at) (p (omega (arith, h, same, is, length-drop at frame))) ∙ e,
)

module _ (more : List ℕ) where
  abbrev longer : State → State
  longer s = record { frame = s.frame ++ more; place = s.place; value = s.value; nest = s.nest; opening = s.opening }

  abbrev Fits : State → Type 0
  Fits s = s.place ≤ length s.frame

  abbrev grown : {X : Type 0} → Step State X → Step State X
  grown (Ok x) = Ok (x.0, longer x.1)
  grown (Err f) = Err f

  rest_longer : (s : State) → Fits s → rest (longer s) ≡ rest s ++ more
  rest_longer s fits = drop_more s.place s.frame more fits

  abbrev here : State → Position → Scan (Item × ℕ)
  here s p = scan_at (length s.nest) s.opening (hint_of p) (first_of s.nest) (rest s)

  scan_longer : (s : State) (p : Position) → Fits s → Stays false (length (rest s)) (here s p) (here (longer s) p)
  scan_longer s p fits =
      subst (λ l. Stays false (length (rest s)) (here s p) (scan_at (length s.nest) s.opening (hint_of p) (first_of s.nest) l)) (sym (rest_longer s fits)) (scan_stable (length s.nest) s.opening (hint_of p) (first_of s.nest) (rest s) more)

  -- ---- one call

  -- what was read is read again, or nothing is left behind it
  abbrev Goes : {X : Type 0} → State → X → State → Step State X → Type 0
  Goes s x next step = (next.frame ≡ s.frame) × ((Fits next × (step ≡ Ok (x, longer next))) ⊎ (rest next ≡ []))

  item_goes : (s : State) (p : Position) (item : Item) (next : State) → Fits s → reads s (hint_of p) ≡ Ok (item, next) → Goes s item next (reads (longer s) (hint_of p))
  unfolding reads
  item_goes s p item next fits = of_scan (here s p) (here (longer s) p) (scan_longer s p fits)
    where
      of_scan : (scan other : Scan (Item × ℕ)) → Stays false (length (rest s)) scan other → moved s scan ≡ Ok (item, next) → Goes s item next (moved (longer s) other)
      of_scan (Err f) other h e = absurd (cc)
      of_scan (Ok x) other h e =
          let same : state_in s (moved s (Ok x)) ≡ next = ap (state_in s) e in
          (sym (ap (λ (t : State). t.frame) same), by_end (either_way (nat_lt x.1 (length (rest s)))) same)
        where
          by_end : (nat_lt x.1 (length (rest s)) ≡ true) ⊎ (nat_lt x.1 (length (rest s)) ≡ false) → state_in s (moved s (Ok x)) ≡ next → (Fits next × (moved (longer s) other ≡ Ok (item, longer next))) ⊎ (rest next ≡ [])
          by_end (inl t) same =
              let less : x.1 < length (rest s) = grind (arith, nat_tests) in
              inl (subst Fits same (omega (arith, less, fits, length-drop s.place s.frame)), ap (moved (longer s)) (h (inr less)) ∙ ap grown e)
          by_end (inr t) same =
              let past : length (rest s) ≤ x.1 = grind (arith, nat_tests) in
              inr (subst (λ (n : State). rest n ≡ []) same (drop_past (s.place + x.1) s.frame (omega (arith, past, length-drop s.place s.frame))))

  abbrev FaultGoes : {X : Type 0} → State → Fault → Step State X → Type 0
  FaultGoes s f step = (g : Fault) × (step ≡ Err g) × IsSame (length s.frame) f g

  fault_goes : (s : State) (p : Position) (f : Fault) → Fits s → IsOther f → reads s (hint_of p) ≡ Err f → FaultGoes s f (reads (longer s) (hint_of p))
  unfolding reads
  fault_goes s p f fits is_other = of_scan (here s p) (here (longer s) p) (scan_longer s p fits)
    where
      of_scan : (scan other : Scan (Item × ℕ)) → Stays false (length (rest s)) scan other → moved s scan ≡ Err f → FaultGoes s f (moved (longer s) other)
      of_scan (Ok x) other h e = absurd (cc)
      of_scan (Err b) other (inl cut) e = absurd (is_other (sym (ap (λ (x : Fault). x.reason) (same_blame {X = Item} (shown s.place b) f e)) ∙ cut))
      of_scan (Err b) other (inr (c, is, r, place)) e = (shown s.place c, ap (moved (longer s)) is, again (length (rest s)) s.place s.frame b c f refl (same_blame {X = Item} (shown s.place b) f e) r place)

  end_goes : (s : State) (f : Fault) → Fits s → IsOther f → reads_end s ≡ Err f → FaultGoes s f (reads_end (longer s))
  unfolding reads_end
  end_goes s f fits is_other =
      of_scan (end_scan (rest s)) (end_scan (rest (longer s))) (subst (λ l. Blames (length (rest s)) (end_scan (rest s)) (end_scan l)) (sym (rest_longer s fits)) (end_blames (rest s) more))
    where
      of_scan : (scan other : Scan (Unit {0})) → Blames (length (rest s)) scan other → ended s scan ≡ Err f → FaultGoes s f (ended (longer s) other)
      of_scan (Ok x) other h e = absurd (cc)
      of_scan (Err b) other (inl cut) e = absurd (is_other (sym (ap (λ (x : Fault). x.reason) (same_blame {X = Unit {0}} (shown s.place b) f e)) ∙ cut))
      of_scan (Err b) other (inr (c, is, r, place)) e = (shown s.place c, ap (ended (longer s)) is, again (length (rest s)) s.place s.frame b c f refl (same_blame {X = Unit {0}} (shown s.place b) f e) r place)

  -- ---- where nothing is left

  nothing_reads : (s : State) (p : Position) (item : Item) (next : State) → rest s ≡ [] → reads s (hint_of p) ≡ Ok (item, next) → ⊥
  nothing_reads s p item next none e =
      let pays = subst (λ step. IfOk step (λ x. weight x.0 + ahead x.1 ≤ ahead s)) e (reads_pays s (hint_of p)) in
      let zero_left : ahead s ≡ 0 = ap (λ (l : List ℕ). 24 * length l) none in
      omega (arith, pays, zero_left, weighs item)

  read_cut : (s : State) (p : Position) (f : Fault) → rest s ≡ [] → (s.nest ≡ [] → ⊥) → reads s (hint_of p) ≡ Err f → f.reason ≡ reasons.Truncated
  unfolding reads
  read_cut s p f none some e = by_nest s.nest refl
    where
      by_nest : (nest : List Slot) → s.nest ≡ nest → f.reason ≡ reasons.Truncated
      by_nest [] is = absurd (some is)
      by_nest (slot ∷ up) is =
          let cut = scan_cut (suc (length up)) s.opening (hint_of p) slot in
          let all : here s p ≡ scan_at (suc (length up)) s.opening (hint_of p) (Some slot) [] =
          ap (λ l. scan_at (length s.nest) s.opening (hint_of p) (first_of s.nest) l) none ∙ ap (λ (n : List Slot). scan_at (length n) s.opening (hint_of p) (first_of n) []) is in
          sym (ap (λ (x : Fault). x.reason) (same_blame {X = Item} (shown s.place (record { place = cut.0; reason = reasons.Truncated })) f (sym (ap (moved s) (all ∙ cut.1)) ∙ e)))

  ends_cut : (s : State) (f : Fault) → rest s ≡ [] → reads_end s ≡ Err f → f.reason ≡ reasons.Truncated
  unfolding reads_end
  ends_cut s f none e =
      sym (ap (λ (x : Fault). x.reason) (same_blame {X = Unit {0}} (shown s.place (record { place = 0; reason = reasons.Truncated })) f (sym (ap (λ l. ended s (end_scan l)) none ∙ ap (ended s) end_cut) ∙ e)))

  refuses_cut : (s : State) (p : Position) (f : Fault) → rest s ≡ [] → Refuses p s f → f.reason ≡ reasons.Truncated
  refuses_cut s p f none (inl (some, e)) = read_cut s p f none some e
  refuses_cut s p f none (inr (empty, e)) = ends_cut s f none e

  all_cut : (items : List Item) (p : Position) (s last : State) (f : Fault) → rest s ≡ [] → Reads p s items last → Refuses (behind p items) last f → f.reason ≡ reasons.Truncated
  all_cut [] p s last f none same refuses = refuses_cut s p f none (subst (λ t. Refuses p t f) (sym same) refuses)
  all_cut (item ∷ items) p s last f none (next, e, body) refuses = absurd (nothing_reads s p item next none e)

  -- ---- item after item

  abbrev BodyGoes : Position → State → List Item → State → Fault → Type 0
  BodyGoes p s items last f = (g : Fault) × Reads p (longer s) items (longer last) × Refuses (behind p items) (longer last) g × IsSame (length s.frame) f g

  refuses_goes : (s : State) (p : Position) (f : Fault) → Fits s → IsOther f → Refuses p s f → BodyGoes p s [] s f
  refuses_goes s p f fits is_other (inl (some, e)) = let r = fault_goes s p f fits is_other e in (r.0, refl, inl (some, r.1), r.2)
  refuses_goes s p f fits is_other (inr (empty, e)) = let r = end_goes s f fits is_other e in (r.0, refl, inr (empty, r.1), r.2)

  body_goes : (items : List Item) (p : Position) (s last : State) (f : Fault) → Fits s → IsOther f → Reads p s items last → Refuses (behind p items) last f → BodyGoes p s items last f
  body_goes [] p s last f fits is_other same refuses = subst (λ t. BodyGoes p s [] t f) same (refuses_goes s p f fits is_other (subst (λ t. Refuses p t f) (sym same) refuses))
  body_goes (item ∷ items) p s last f fits is_other (next, e, body) refuses =
      let g = item_goes s p item next fits e in
      by_goes g.0 g.1 (λ good. body_goes items (position_after p item) next last f good is_other body refuses)
    where
      by_goes : next.frame ≡ s.frame → (Fits next × (reads (longer s) (hint_of p) ≡ Ok (item, longer next))) ⊎ (rest next ≡ []) → (Fits next → BodyGoes (position_after p item) next items last f) → BodyGoes p s (item ∷ items) last f
      by_goes same (inl (good, read)) go = let r = go good in (r.0, (longer next, read, r.1), r.2, subst (λ l. IsSame (length l) f r.0) same r.3)
      by_goes same (inr none) go = absurd (is_other (all_cut items (position_after p item) next last f none body refuses))

  -- ---- a frame

  head_longer : (bytes : List ℕ) → Stays true (length bytes) (head_at bytes) (head_at (bytes ++ more))
  head_longer bytes = head_stable bytes more

  head_goes : (bytes : List ℕ) (h : Header) (first : State) → reads_head (begun bytes) ≡ Ok (h, first) → (reads_head (begun (bytes ++ more)) ≡ Ok (h, longer first)) × (first.frame ≡ bytes)
  unfolding reads_head
  head_goes bytes h first = of_scan (head_at bytes) (head_at (bytes ++ more)) (head_longer bytes)
    where
      of_scan : (scan other : Scan (Header × ℕ)) → Stays true (length bytes) scan other → headed (begun bytes) scan ≡ Ok (h, first) → (headed (begun (bytes ++ more)) other ≡ Ok (h, longer first)) × (first.frame ≡ bytes)
      of_scan (Err f) other s e = absurd (cc)
      of_scan (Ok x) other s e = (ap (headed (begun (bytes ++ more))) (s (inl refl)) ∙ ap grown e, sym (ap (λ (t : State). t.frame) (ap (state_in (begun bytes)) e)))

  head_fault : (bytes : List ℕ) (f : Fault) → IsOther f → reads_head (begun bytes) ≡ Err f → FaultGoes (begun bytes) f (reads_head (begun (bytes ++ more)))
  unfolding reads_head
  head_fault bytes f is_other = of_scan (head_at bytes) (head_at (bytes ++ more)) (head_longer bytes)
    where
      of_scan : (scan other : Scan (Header × ℕ)) → Stays true (length bytes) scan other → headed (begun bytes) scan ≡ Err f → FaultGoes (begun bytes) f (headed (begun (bytes ++ more)) other)
      of_scan (Ok x) other h e = absurd (cc)
      of_scan (Err b) other (inl cut) e = absurd (is_other (sym (ap (λ (x : Fault). x.reason) (same_blame {X = Header} (shown 0 b) f e)) ∙ cut))
      of_scan (Err b) other (inr (c, is, r, place)) e = (shown 0 c, ap (headed (begun (bytes ++ more))) is, again (length bytes) 0 bytes b c f refl (same_blame {X = Header} (shown 0 b) f e) r place)

  fits_or_none : (s : State) → Fits s ⊎ (rest s ≡ [])
  fits_or_none s = by_test (either_way (nat_lt s.place (length s.frame)))
    where
      by_test : (nat_lt s.place (length s.frame) ≡ true) ⊎ (nat_lt s.place (length s.frame) ≡ false) → Fits s ⊎ (rest s ≡ [])
      by_test (inl e) = let less : s.place < length s.frame = grind (arith, nat_tests) in inl (omega (arith, less))
      by_test (inr e) = let past : length s.frame ≤ s.place = grind (arith, nat_tests) in inr (drop_past s.place s.frame past)

  pub refused_stays : (p : Position) (bytes : List ℕ) (f : Fault) → IsRefused p bytes f → IsOther f → (g : Fault) × IsRefused p (bytes ++ more) g × IsSame (length bytes) f g
  refused_stays p bytes f (inl e) is_other = let r = head_fault bytes f is_other e in (r.0, inl r.1, r.2)
  refused_stays p bytes f (inr (h, items, first, last, head, body, refuses)) is_other =
      let r = head_goes bytes h first head in
      by_fits r.0 r.1 (fits_or_none first)
    where
      by_fits : reads_head (begun (bytes ++ more)) ≡ Ok (h, longer first) → first.frame ≡ bytes → Fits first ⊎ (rest first ≡ []) → (g : Fault) × IsRefused p (bytes ++ more) g × IsSame (length bytes) f g
      by_fits read same (inl good) =
          let b = body_goes items p first last f good is_other body refuses in
          (b.0, inr (h, items, longer first, longer last, read, b.1, b.2), subst (λ l. IsSame (length l) f b.0) same b.3)
      by_fits read same (inr none) = absurd (is_other (all_cut items p first last f none body refuses))

-- ---- what begins a message is truncated

pub cut_or_bad : (f : Fault) (r : Reason) → f.reason ≡ r → (f.reason ≡ reasons.Truncated) ⊎ (f.reason ≡ reasons.Truncated → ⊥)
cut_or_bad f reasons.Truncated e = inl e
cut_or_bad f reasons.Trailing e = inr (λ t. let wrong = sym e ∙ t in absurd (cc))
cut_or_bad f reasons.TooDeep e = inr (λ t. let wrong = sym e ∙ t in absurd (cc))
cut_or_bad f reasons.BadKind e = inr (λ t. let wrong = sym e ∙ t in absurd (cc))
cut_or_bad f reasons.BadBool e = inr (λ t. let wrong = sym e ∙ t in absurd (cc))
cut_or_bad f reasons.BadSize e = inr (λ t. let wrong = sym e ∙ t in absurd (cc))
cut_or_bad f reasons.BadVersion e = inr (λ t. let wrong = sym e ∙ t in absurd (cc))
cut_or_bad f reasons.BadType e = inr (λ t. let wrong = sym e ∙ t in absurd (cc))
cut_or_bad f reasons.BadVarint e = inr (λ t. let wrong = sym e ∙ t in absurd (cc))
cut_or_bad f reasons.BadId e = inr (λ t. let wrong = sym e ∙ t in absurd (cc))
cut_or_bad f reasons.BadNumber e = inr (λ t. let wrong = sym e ∙ t in absurd (cc))
cut_or_bad f reasons.BadString e = inr (λ t. let wrong = sym e ∙ t in absurd (cc))
cut_or_bad f reasons.BadBase64 e = inr (λ t. let wrong = sym e ∙ t in absurd (cc))
cut_or_bad f reasons.BadToken e = inr (λ t. let wrong = sym e ∙ t in absurd (cc))

pub front_is_cut : (k : Known) (bytes : List ℕ) (f : Fault) → Begins k bytes → IsRefused (start k.declared k.body) bytes f → f.reason ≡ reasons.Truncated
front_is_cut k bytes f b refused = by_reason (cut_or_bad f f.reason refl)
  where
    by_reason : (f.reason ≡ reasons.Truncated) ⊎ (f.reason ≡ reasons.Truncated → ⊥) → f.reason ≡ reasons.Truncated
    by_reason (inl e) = e
    by_reason (inr other) =
        let r = refused_stays b.more (start k.declared k.body) bytes f refused other in
        absurd (refused_spells_none k.declared k.body b.message (bytes ++ b.more) r.0 r.1 b.spelled b.shallow)
