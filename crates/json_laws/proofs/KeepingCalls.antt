-- What stands before an item, and a header, with more bytes behind those that were given.
use Rattle.std.proofs.Common.{◌≡◌, ℕ, ℤ, zero, suc, pos, negsuc, ◌+◌, ◌<◌, ◌≤◌, Bool, true, false, cond, List, [], ◌++◌, length, drop, Ok, Err, refl, ap, ◌∙◌, sym, subst, arith, ◌⊎◌, inl, inr, length-append, length-drop}
use Rattle.std.specs.Prelude.{slice_index, nat_lt, ◌==◌, Option, Some, None}
use Rattle.std.proofs.lemmas.Bool.Decides.{nat_tests}
use Rattle.std.proofs.lemmas.List.Sums.{prefix_len-le-length}
use Rattle.thrift_value.specs.Items.{Item}
use Rattle.protocol_traits.specs.declared.proto.Hint.{Hint}
use Rattle.protocol_traits.specs.declared.fault.Reason.{Reason}
use Rattle.protocol_traits.specs.declared.fault.Reason.TheVariants as reasons
use Rattle.protocol_traits.specs.declared.nest.Slot.{Slot}
use Rattle.protocol_traits.specs.declared.nest.Slot.TheVariants as slots
use Rattle.protocol_traits.specs.Heads.{Header}
use Rattle.json_text.specs.Scan.{is_white}
use Rattle.json_text.specs.Text.{text_at}
use Rattle.json_text.specs.Int.{int_at, integer, magnitude}
use Rattle.json_text_laws.proofs.Choices.{either_way}
use Rattle.json_text_laws.specs.Judged.{IsRange}
use Rattle.json_text_laws.proofs.Refused.{drop_more}
use Rattle.json_protocol.specs.declared.opening.Opening.{Opening}
use Rattle.json_protocol.specs.declared.opening.Opening.TheVariants as openings
use Rattle.json_protocol.specs.Scan.{Scan, fault, shifted, ◌>>=◌, gap, further, mark_at}
use Rattle.json_protocol.specs.Words.{int_in, text_in}
use Rattle.json_protocol.specs.Values.{first_at, next_at, end_at}
use Rattle.json_protocol.specs.Reading.{lead_by, lead_pairs, lead_fields, lead_key, lead_at, item_in, begun_at, led, scan_at}
use Rattle.json_protocol.specs.Head.{type_of, front_at, back_at, head_at, end_scan}
use Rattle.json_laws.proofs.ItemsBack.{range_32}
use Rattle.json_laws.proofs.HeadBack.{range_version, range_type}
use Rattle.json_laws.proofs.Keeping.{Blamed, Stays, IsStable, IsNone, same_fault, shifted_stays, late_stays, then_stays, late_then, run_same, drop_past, further_stays, cut_then, mapped}
use Rattle.json_laws.proofs.KeepingWords.{int_stable, text_stable}
use Rattle.json_laws.proofs.KeepingItems.{further_mark, mark_then, mark_late, item_none, item_stable}

-- ---- leads: what was read before an item is read again; at the end the whitespace may go on

abbrev LeadStays : ℕ → Scan (Unit {0}) → Scan (Unit {0}) → Type 0
LeadStays size (Ok x) longer = (n : ℕ) × (longer ≡ Ok (tt, n)) × (x.1 < size → n ≡ x.1)
LeadStays size (Err f) longer = Blamed size f longer

gap_same : (n : ℕ) (bytes more : List ℕ) → n + gap (drop n bytes) < length bytes → n + gap (drop n (bytes ++ more)) ≡ n + gap (drop n bytes)
gap_same n bytes more less =
    let front : drop n (bytes ++ more) ≡ drop n bytes ++ more = drop_more n bytes more (omega (arith, less)) in
    ap (λ k. n + k) (ap gap front ∙ run_same is_white (drop n bytes) more (omega (arith, length-drop n bytes, less)))

gap_stays : (n : ℕ) (bytes more : List ℕ) → LeadStays (length bytes) (Ok (tt, n + gap (drop n bytes))) (Ok (tt, n + gap (drop n (bytes ++ more))))
gap_stays n bytes more = (n + gap (drop n (bytes ++ more)), refl, gap_same n bytes more)

lead_then : {X : Type 0} → (size : ℕ) (scan longer : Scan X) (go on : X × ℕ → Scan (Unit {0})) → Stays true size scan longer → ((x : X × ℕ) → LeadStays size (go x) (on x)) → LeadStays size (scan >>= go) (longer >>= on)
lead_then {X} size (Ok x) longer go on h f = subst (λ s. LeadStays size (go x) (s >>= on)) (sym (h (inl refl))) (f x)
lead_then size (Err f) longer go on (inl cut) g = inl cut
lead_then size (Err f) longer go on (inr (b, e, r, p)) g = inr (b, ap (λ s. s >>= on) e, r, p)

lead_late_then : {X : Type 0} → (size : ℕ) (scan longer : Scan X) (go on : X × ℕ → Scan (Unit {0})) → Stays false size scan longer → ((x : X × ℕ) → x.1 < size → LeadStays size (go x) (on x))
    → ((x : X × ℕ) (other : Scan (Unit {0})) → size ≤ x.1 → LeadStays size (go x) other) → LeadStays size (scan >>= go) (longer >>= on)
lead_late_then {X} size (Ok x) longer go on h f late = by_end (either_way (nat_lt x.1 size))
  where
    by_end : (nat_lt x.1 size ≡ true) ⊎ (nat_lt x.1 size ≡ false) → LeadStays size (go x) (longer >>= on)
    by_end (inl e) = let less : x.1 < size = grind (arith, nat_tests) in subst (λ s. LeadStays size (go x) (s >>= on)) (sym (h (inr less))) (f x less)
    by_end (inr e) = late x (longer >>= on) (grind (arith, nat_tests))
lead_late_then size (Err f) longer go on (inl cut) g late = inl cut
lead_late_then size (Err f) longer go on (inr (b, e, r, p)) g late = inr (b, ap (λ s. s >>= on) e, r, p)

-- a mark that is called for where nothing is left
lead_cut : (mark n : ℕ) (bytes : List ℕ) (go : Unit {0} × ℕ → Scan (Unit {0})) (other : Scan (Unit {0})) → length bytes ≤ n → LeadStays (length bytes) (further n (mark_at mark) bytes >>= go) other
unfolding mark_at
lead_cut mark n bytes go other past =
    let at = n + gap (drop n bytes) in
    let none : drop at bytes ≡ [] = drop_past at bytes (omega (arith, past)) in
    subst (λ l. LeadStays (length bytes) (shifted at (mark_at mark l) >>= go) other) (sym none) (inl refl)

by_stays : (mark : ℕ) (bytes more : List ℕ) → LeadStays (length bytes) (lead_by mark bytes) (lead_by mark (bytes ++ more))
by_stays mark bytes more = lead_then (length bytes) (further 0 (mark_at mark) bytes) (further 0 (mark_at mark) (bytes ++ more)) _ _ (further_mark mark 0 bytes more) (λ there. gap_stays there.1 bytes more)

pairs_stays : (bytes more : List ℕ) → LeadStays (length bytes) (lead_pairs bytes) (lead_pairs (bytes ++ more))
unfolding lead_pairs
pairs_stays bytes more =
    lead_then (length bytes) (further 0 (mark_at 44) bytes) (further 0 (mark_at 44) (bytes ++ more)) _ _ (further_mark 44 0 bytes more) (λ comma.
    lead_then (length bytes) (further comma.1 (mark_at 123) bytes) (further comma.1 (mark_at 123) (bytes ++ more)) _ _ (further_mark 123 comma.1 bytes more) (λ brace. gap_stays brace.1 bytes more))

none_stays : (bytes more : List ℕ) → LeadStays (length bytes) (Ok (tt, gap bytes)) (Ok (tt, gap (bytes ++ more)))
none_stays bytes more = (gap (bytes ++ more), refl, run_same is_white bytes more)

fields_lead : (opening : Opening) (bytes more : List ℕ) → LeadStays (length bytes) (lead_fields opening bytes) (lead_fields opening (bytes ++ more))
unfolding lead_fields
fields_lead openings.Body bytes more = by_stays 123 bytes more
fields_lead openings.New bytes more = none_stays bytes more
fields_lead openings.Old bytes more = by_stays 125 bytes more

key_lead : (opening : Opening) (bytes more : List ℕ) → LeadStays (length bytes) (lead_key opening bytes) (lead_key opening (bytes ++ more))
unfolding lead_key
key_lead openings.Body bytes more = pairs_stays bytes more
key_lead openings.New bytes more = pairs_stays bytes more
key_lead openings.Old bytes more = by_stays 44 bytes more

lead_if : (size : ℕ) (b : Bool) (x y z w : Scan (Unit {0})) → LeadStays size x z → LeadStays size y w → LeadStays size (cond b x y) (cond b z w)
lead_if size true x y z w f g = f
lead_if size false x y z w f g = g

lead_stays : (opening : Opening) (slot : Slot) (bytes more : List ℕ) → LeadStays (length bytes) (lead_at opening slot bytes) (lead_at opening slot (bytes ++ more))
unfolding lead_at
lead_stays opening (slots.Fields last) bytes more = fields_lead opening bytes more
lead_stays opening (slots.Value kind id) bytes more = by_stays 58 bytes more
lead_stays opening (slots.Elements kind left) bytes more = lead_if (length bytes) (left == 0) _ _ _ _ (none_stays bytes more) (by_stays 44 bytes more)
lead_stays opening (slots.Keys key value left) bytes more = lead_if (length bytes) (left == 0) _ _ _ _ (by_stays 125 bytes more) (key_lead opening bytes more)
lead_stays opening (slots.Values key value left) bytes more = by_stays 58 bytes more

-- ---- an item behind its lead

begun_stays : (size start : ℕ) (scan longer : Scan Item) → Stays false size scan longer → Stays false size (begun_at start scan) (begun_at start longer)
begun_stays size start (Ok x) longer h = λ p. ap (begun_at start) (h p)
begun_stays size start (Err f) longer (inl cut) = inl cut
begun_stays size start (Err f) longer (inr (g, e, r, p)) = inr (g, ap (begun_at start) e, r, p)

begun_late : (size start other : ℕ) (scan longer : Scan Item) → IsNone scan → Stays false size scan longer → Stays false size (begun_at start scan) (begun_at other longer)
begun_late size start other (Ok x) longer none h = absurd none
begun_late size start other (Err f) longer none (inl cut) = inl cut
begun_late size start other (Err f) longer none (inr (g, e, r, p)) = inr (g, ap (begun_at other) e, r, p)

shifted_none : {X : Type 0} → (n : ℕ) (scan : Scan X) → IsNone scan → IsNone (shifted n scan)
shifted_none n (Ok x) h = absurd h
shifted_none n (Err f) h = tt

led_stays : (depth : ℕ) (opening : Opening) (hint : Hint) (slot : Slot) (bytes more : List ℕ) (lead longer : Scan (Unit {0})) → LeadStays (length bytes) lead longer
    → Stays false (length bytes) (led depth opening hint slot bytes lead) (led depth opening hint slot (bytes ++ more) longer)
led_stays depth opening hint slot bytes more (Err f) longer (inl cut) = inl cut
led_stays depth opening hint slot bytes more (Err f) longer (inr (g, e, r, p)) = inr (g, ap (led depth opening hint slot (bytes ++ more)) e, r, p)
led_stays depth opening hint slot bytes more (Ok x) longer (n, e, same) =
    subst (λ s. Stays false (length bytes) (led depth opening hint slot bytes (Ok x)) (led depth opening hint slot (bytes ++ more) s)) (sym e) (by_end (either_way (nat_lt x.1 (length bytes))))
  where
    scan : List ℕ → Scan Item
    scan = item_in depth opening hint slot

    by_end : (nat_lt x.1 (length bytes) ≡ true) ⊎ (nat_lt x.1 (length bytes) ≡ false)
        → Stays false (length bytes) (begun_at x.1 (shifted x.1 (scan (drop x.1 bytes)))) (begun_at n (shifted n (scan (drop n (bytes ++ more)))))
    by_end (inl t) =
        let less : x.1 < length bytes = grind (arith, nat_tests) in
        let left : length (drop x.1 bytes) + x.1 ≡ length bytes = omega (arith, length-drop x.1 bytes, less) in
        let rest : drop x.1 (bytes ++ more) ≡ drop x.1 bytes ++ more = drop_more x.1 bytes more (omega (arith, less)) in
        let here = subst (λ l. Stays false (length (drop x.1 bytes)) (scan (drop x.1 bytes)) (scan l)) (sym rest) (item_stable depth opening hint slot (drop x.1 bytes) more) in
        subst (λ k. Stays false (length bytes) (begun_at x.1 (shifted x.1 (scan (drop x.1 bytes)))) (begun_at k (shifted k (scan (drop k (bytes ++ more)))))) (sym (same less))
        (begun_stays (length bytes) x.1 (shifted x.1 (scan (drop x.1 bytes))) (shifted x.1 (scan (drop x.1 (bytes ++ more)))) (shifted_stays false (length bytes) x.1 (scan (drop x.1 bytes)) (scan (drop x.1 (bytes ++ more))) less (length (drop x.1 bytes)) left here))
    by_end (inr t) =
        let past : length bytes ≤ x.1 = grind (arith, nat_tests) in
        let none = item_none depth opening hint slot in
        subst (λ l. Stays false (length bytes) (begun_at x.1 (shifted x.1 (scan l))) (begun_at n (shifted n (scan (drop n (bytes ++ more)))))) (sym (drop_past x.1 bytes past))
        (begun_late (length bytes) x.1 n (shifted x.1 (scan [])) (shifted n (scan (drop n (bytes ++ more)))) (shifted_none x.1 (scan []) none)
        (late_stays false (length bytes) x.1 n (scan []) (scan (drop n (bytes ++ more))) past none (item_stable depth opening hint slot [] (drop n (bytes ++ more)))))

pub scan_stable : (depth : ℕ) (opening : Opening) (hint : Hint) (top : Option Slot) → IsStable false (scan_at depth opening hint top)
scan_stable depth opening hint None bytes more = same_fault false (length bytes) 0 reasons.Trailing
scan_stable depth opening hint (Some slot) bytes more = led_stays depth opening hint slot bytes more (lead_at opening slot bytes) (lead_at opening slot (bytes ++ more)) (lead_stays opening slot bytes more)

-- where nothing is left an item is cut short
abbrev IsCut : {X : Type 0} → Scan X → Type 0
IsCut scan = (place : ℕ) × (scan ≡ fault place reasons.Truncated)

cut_if : (b : Bool) (f g : Scan (Item × ℕ)) → IsCut f → IsCut g → IsCut (cond b f g)
cut_if true f g p q = p
cut_if false f g p q = q

pub scan_cut : (depth : ℕ) (opening : Opening) (hint : Hint) (slot : Slot) → IsCut (scan_at depth opening hint (Some slot) [])
unfolding lead_at lead_fields lead_key lead_pairs mark_at item_in first_at next_at end_at
scan_cut depth openings.Body hint (slots.Fields last) = (0, refl)
scan_cut depth openings.New hint (slots.Fields last) = (0, refl)
scan_cut depth openings.Old hint (slots.Fields last) = (0, refl)
scan_cut depth opening hint (slots.Value kind id) = (0, refl)
scan_cut depth opening hint (slots.Elements kind zero) = (0, refl)
scan_cut depth opening hint (slots.Elements kind (suc left)) = let some : (suc left == 0) ≡ false = grind (arith, nat_tests) in (0, rw some refl)
scan_cut depth opening hint (slots.Keys key value zero) = (0, refl)
scan_cut depth openings.Body hint (slots.Keys key value (suc left)) = let some : (suc left == 0) ≡ false = grind (arith, nat_tests) in (0, rw some refl)
scan_cut depth openings.New hint (slots.Keys key value (suc left)) = let some : (suc left == 0) ≡ false = grind (arith, nat_tests) in (0, rw some refl)
scan_cut depth openings.Old hint (slots.Keys key value (suc left)) = let some : (suc left == 0) ≡ false = grind (arith, nat_tests) in (0, rw some refl)
scan_cut depth opening hint (slots.Values key value left) = (0, refl)

-- ---- the end

-- what is a fault stays one
abbrev pub Blames : {X : Type 0} → ℕ → Scan X → Scan X → Type 0
Blames size (Ok x) longer = Unit {0}
Blames size (Err f) longer = Blamed size f longer

differ : (a b : ℕ) → (a == b) ≡ false → a ≡ b → ⊥
differ a b e same = absurd (grind (arith, nat_tests))

-- a mark takes one byte
abbrev IsOne : ℕ → Scan (Unit {0}) → Type 0
IsOne size (Ok x) = (x.1 ≡ 1) × (1 ≤ size)
IsOne size (Err f) = Unit {0}

mark_one : (mark : ℕ) (bytes : List ℕ) → IsOne (length bytes) (mark_at mark bytes)
unfolding mark_at
mark_one mark bytes = by_first (nat_lt (length bytes) 1) (slice_index bytes 0 == mark) refl
  where
    by_first : (b c : Bool) → nat_lt (length bytes) 1 ≡ b → IsOne (length bytes) (cond b (fault 0 reasons.Truncated) (cond c (Ok (tt, 1)) (fault 0 reasons.BadToken)))
    by_first true c e = tt
    by_first false true e = (refl, grind (arith, nat_tests))
    by_first false false e = tt

abbrev EndsIn : ℕ → Scan (Unit {0}) → Type 0
EndsIn size (Ok x) = x.1 ≤ size
EndsIn size (Err f) = Unit {0}

further_in : (at : ℕ) (bytes : List ℕ) (scan : Scan (Unit {0})) → IsOne (length (drop at bytes)) scan → EndsIn (length bytes) (shifted at scan)
further_in at bytes (Ok x) h = omega (arith, h.0, h.1, length-drop at bytes)
further_in at bytes (Err f) h = tt

pub end_blames : (bytes more : List ℕ) → Blames (length bytes) (end_scan bytes) (end_scan (bytes ++ more))
unfolding end_scan
end_blames bytes more =
    let at = 0 + gap (drop 0 bytes) in
    by_bracket (further 0 (mark_at 93) bytes) (further 0 (mark_at 93) (bytes ++ more)) (further_mark 93 0 bytes more) (further_in at bytes (mark_at 93 (drop at bytes)) (mark_one 93 (drop at bytes)))
  where
    tested : List ℕ → Unit {0} × ℕ → Scan (Unit {0})
    tested l bracket = cond (bracket.1 + gap (drop bracket.1 l) == length l) (Ok (tt, length l)) (fault (bracket.1 + gap (drop bracket.1 l)) reasons.Trailing)

    at_first : (n : ℕ) → (bracket : Unit {0} × ℕ) → bracket.1 ≤ length bytes → (n ≡ bracket.1 + gap (drop bracket.1 bytes)) → n < length bytes → tested (bytes ++ more) bracket ≡ fault n reasons.Trailing
    at_first n bracket within is less =
        let same : bracket.1 + gap (drop bracket.1 (bytes ++ more)) ≡ n = gap_same bracket.1 bytes more (omega (arith, is, less)) ∙ sym is in
        let long = length-append bytes more in
        let not : (n == length (bytes ++ more)) ≡ false = grind (arith, nat_tests) in
        ap (λ k. cond (k == length (bytes ++ more)) (Ok (tt {0}, length (bytes ++ more))) (fault k reasons.Trailing)) same ∙ ap (λ b. cond b (Ok (tt {0}, length (bytes ++ more))) (fault n reasons.Trailing)) not

    by_bracket : (scan longer : Scan (Unit {0})) → Stays true (length bytes) scan longer → EndsIn (length bytes) scan → Blames (length bytes) (scan >>= tested bytes) (longer >>= tested (bytes ++ more))
    by_bracket (Err f) longer (inl cut) _ = inl cut
    by_bracket (Err f) longer (inr (g, e, r, p)) _ = inr (g, ap (λ s. s >>= tested (bytes ++ more)) e, r, p)
    by_bracket (Ok x) longer h within = by_size (x.1 + gap (drop x.1 bytes) == length bytes) refl
      where
        by_size : (b : Bool) → (x.1 + gap (drop x.1 bytes) == length bytes) ≡ b → Blames (length bytes) (cond b (Ok (tt, length bytes)) (fault (x.1 + gap (drop x.1 bytes)) reasons.Trailing)) (longer >>= tested (bytes ++ more))
        by_size true e = tt
        by_size false e =
            let gap_most = prefix_len-le-length is_white (drop x.1 bytes) in
            let less : x.1 + gap (drop x.1 bytes) < length bytes = omega (arith, gap_most, within, length-drop x.1 bytes, differ (x.1 + gap (drop x.1 bytes)) (length bytes) e) in
            inr (_, ap (λ s. s >>= tested (bytes ++ more)) (h (inl refl)) ∙ at_first (x.1 + gap (drop x.1 bytes)) x within refl less, refl, λ _. refl)

pub end_cut : end_scan [] ≡ fault 0 reasons.Truncated
unfolding end_scan mark_at
end_cut = refl

-- ---- the header

int_none : (reason : Reason) (low high : ℤ) → IsNone (int_in reason low high [])
unfolding int_in int_at integer magnitude
int_none reason low high = tt

further_int : (reason : Reason) (low high : ℤ) (n : ℕ) (bytes more : List ℕ) → IsRange low high → Stays false (length bytes) (further n (int_in reason low high) bytes) (further n (int_in reason low high) (bytes ++ more))
further_int reason low high n bytes more range = further_stays false (int_in reason low high) n bytes more (int_stable reason low high range) (int_none reason low high)

front_stays : (bytes more : List ℕ) → LeadStays (length bytes) (front_at bytes) (front_at (bytes ++ more))
unfolding front_at
front_stays bytes more =
    lead_then (length bytes) (further 0 (mark_at 91) bytes) (further 0 (mark_at 91) (bytes ++ more)) _ _ (further_mark 91 0 bytes more) (λ bracket.
    lead_late_then (length bytes) (further bracket.1 (int_in reasons.BadVersion (pos 1) (pos 1)) bytes) (further bracket.1 (int_in reasons.BadVersion (pos 1) (pos 1)) (bytes ++ more)) _ _
    (further_int reasons.BadVersion (pos 1) (pos 1) bracket.1 bytes more range_version)
    (λ version less. lead_then (length bytes) (further version.1 (mark_at 44) bytes) (further version.1 (mark_at 44) (bytes ++ more)) _ _ (further_mark 44 version.1 bytes more) (λ comma. gap_stays comma.1 bytes more))
    (λ version other past. lead_cut 44 version.1 bytes _ other past))

back_stays : (n : ℕ) (bytes more : List ℕ) → Stays true (length bytes) (back_at n bytes) (back_at n (bytes ++ more))
unfolding back_at
back_stays n bytes more =
    mark_then true 44 n bytes more _ _ (λ first.
    late_then true (length bytes) (further first.1 (int_in reasons.BadType (pos 1) (pos 4)) bytes) (further first.1 (int_in reasons.BadType (pos 1) (pos 4)) (bytes ++ more)) _ _
    (further_int reasons.BadType (pos 1) (pos 4) first.1 bytes more range_type)
    (λ kind less. mark_then true 44 kind.1 bytes more _ _ (λ second.
    late_then true (length bytes) (further second.1 (int_in reasons.BadNumber (negsuc 2147483647) (pos 2147483647)) bytes) (further second.1 (int_in reasons.BadNumber (negsuc 2147483647) (pos 2147483647)) (bytes ++ more)) _ _
    (further_int reasons.BadNumber (negsuc 2147483647) (pos 2147483647) second.1 bytes more range_32)
    (λ seq fewer. mapped true (length bytes) (further seq.1 (mark_at 44) bytes) (further seq.1 (mark_at 44) (bytes ++ more)) (λ _. (type_of kind.0, seq.0)) (further_mark 44 seq.1 bytes more))
    (λ seq other past. mark_late true 44 seq.1 bytes _ other past)))
    (λ kind other past. mark_late true 44 kind.1 bytes _ other past))

text_cut : text_in [] ≡ fault 0 reasons.Truncated
unfolding text_in text_at
text_cut = refl

-- the name and what follows it
abbrev named_at : List ℕ → Unit {0} × ℕ → Scan (Header × ℕ)
named_at bytes front = shifted front.1 (text_in (drop front.1 bytes)) >>= λ name. back_at name.1 bytes >>= λ back. Ok ((record { name = name.0; mtype = back.0.0; seq = back.0.1 }, front.1), back.1)

named_stays : (bytes more : List ℕ) (lead longer : Scan (Unit {0})) → LeadStays (length bytes) lead longer → Stays true (length bytes) (lead >>= named_at bytes) (longer >>= named_at (bytes ++ more))
named_stays bytes more (Err f) longer (inl cut) = inl cut
named_stays bytes more (Err f) longer (inr (g, e, r, p)) = inr (g, ap (λ s. s >>= named_at (bytes ++ more)) e, r, p)
named_stays bytes more (Ok x) longer (n, e, same) =
    subst (λ s. Stays true (length bytes) (named_at bytes x) (s >>= named_at (bytes ++ more))) (sym e) (by_end (either_way (nat_lt x.1 (length bytes))))
  where
    by_end : (nat_lt x.1 (length bytes) ≡ true) ⊎ (nat_lt x.1 (length bytes) ≡ false) → Stays true (length bytes) (named_at bytes x) (named_at (bytes ++ more) (tt, n))
    by_end (inl t) =
        let less : x.1 < length bytes = grind (arith, nat_tests) in
        let left : length (drop x.1 bytes) + x.1 ≡ length bytes = omega (arith, length-drop x.1 bytes, less) in
        let rest : drop x.1 (bytes ++ more) ≡ drop x.1 bytes ++ more = drop_more x.1 bytes more (omega (arith, less)) in
        let here = subst (λ l. Stays true (length (drop x.1 bytes)) (text_in (drop x.1 bytes)) (text_in l)) (sym rest) (text_stable (drop x.1 bytes) more) in
        subst (λ k. Stays true (length bytes) (named_at bytes x) (named_at (bytes ++ more) (tt, k))) (sym (same less))
        (then_stays true (length bytes) (shifted x.1 (text_in (drop x.1 bytes))) (shifted x.1 (text_in (drop x.1 (bytes ++ more)))) _ _
        (shifted_stays true (length bytes) x.1 (text_in (drop x.1 bytes)) (text_in (drop x.1 (bytes ++ more))) less (length (drop x.1 bytes)) left here)
        (λ name was. mapped true (length bytes) (back_at name.1 bytes) (back_at name.1 (bytes ++ more)) (λ b. (record { name = name.0; mtype = b.0; seq = b.1 }, x.1)) (back_stays name.1 bytes more)))
    by_end (inr t) =
        let past : length bytes ≤ x.1 = grind (arith, nat_tests) in
        cut_then true (length bytes) (x.1 + 0) (shifted x.1 (text_in (drop x.1 bytes))) _ (named_at (bytes ++ more) (tt, n)) (ap (λ l. shifted x.1 (text_in l)) (drop_past x.1 bytes past) ∙ ap (shifted x.1) text_cut)

pub head_stable : IsStable true head_at
unfolding head_at
head_stable bytes more = named_stays bytes more (front_at bytes) (front_at (bytes ++ more)) (front_stays bytes more)
