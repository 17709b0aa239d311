-- What a scan tells, with more bytes behind those that it was given.
use Rattle.std.proofs.Common.{◌≡◌, ℕ, zero, suc, ◌+◌, ◌<◌, ◌≤◌, Bool, true, false, cond, List, [], ◌∷◌, ◌++◌, length, drop, Ok, Err, refl, ap, ◌∙◌, sym, subst, arith, ◌⊎◌, inl, inr, length-append, length-drop}
use Rattle.std.specs.Prelude.{slice_index, nat_lt, nat_le, ◌==◌, ◌&&◌, ◌||◌}
use Rattle.std.specs.List.{prefix_len}
use Rattle.std.proofs.lemmas.Bool.Decides.{nat_tests}
use Rattle.protocol_traits.specs.declared.fault.Fault.{Fault}
use Rattle.protocol_traits.specs.declared.fault.Reason.{Reason}
use Rattle.protocol_traits.specs.declared.fault.Reason.TheVariants as reasons
use Rattle.json_text.specs.Scan.{is_white, moved}
use Rattle.json_text.specs.declared.scanned.Scan.{Scan as Text}
use Rattle.json_text.specs.declared.scanned.Scan.TheVariants.{Whole, Short, Bad}
use Rattle.json_text_laws.specs.Judged.{Good, Judges}
use Rattle.json_text_laws.proofs.Choices.{either_way}
use Rattle.json_text_laws.proofs.Ends.{front_index}
use Rattle.json_text_laws.proofs.Parts.{append_more}
use Rattle.json_text_laws.proofs.Refused.{drop_more}
use Rattle.json_protocol.specs.Scan.{Scan, fault, shifted, ◌>>=◌, item, gap, further, byte_fits, word_end}
use Rattle.json_protocol.specs.Words.{closed, begins_two, begins_three, infinity_fits}

-- cut short, or the same fault; at the end its place may go on, past whitespace
abbrev pub Blamed : {X : Type 0} → ℕ → Fault → Scan X → Type 0
Blamed size f longer = (f.reason ≡ reasons.Truncated) ⊎ ((g : Fault) × (longer ≡ Err g) × (g.reason ≡ f.reason) × (f.place < size → g ≡ f))

-- What was read is read again. Where it is not sure, as with a number that may go on, that is said only of what ends before the bytes do.
abbrev pub Stays : {X : Type 0} → Bool → ℕ → Scan X → Scan X → Type 0
Stays sure size (Ok x) longer = (sure ≡ true) ⊎ (x.1 < size) → longer ≡ Ok x
Stays sure size (Err f) longer = Blamed size f longer

abbrev pub IsStable : {X : Type 0} → Bool → (List ℕ → Scan X) → Type 0
IsStable sure scan = (bytes more : List ℕ) → Stays sure (length bytes) (scan bytes) (scan (bytes ++ more))

-- where there are no bytes nothing is read
abbrev pub IsNone : {X : Type 0} → Scan X → Type 0
IsNone (Ok x) = ⊥
IsNone (Err f) = Unit {0}

pub weaker : {X : Type 0} → (size : ℕ) (scan longer : Scan X) → Stays true size scan longer → Stays false size scan longer
weaker size (Ok x) longer h = λ _. h (inl refl)
weaker size (Err f) longer h = h

pub of_sure : {X : Type 0} → (sure : Bool) (size : ℕ) (scan longer : Scan X) → Stays true size scan longer → Stays sure size scan longer
of_sure true size scan longer h = h
of_sure false size scan longer h = weaker size scan longer h

pub ends_short : {X : Type 0} → (sure : Bool) (size place : ℕ) (longer : Scan X) → Stays sure size (fault place reasons.Truncated) longer
ends_short sure size place longer = inl refl

pub same_fault : {X : Type 0} → (sure : Bool) (size place : ℕ) (reason : Reason) → Stays {X = X} sure size (fault place reason) (fault place reason)
same_fault sure size place reason = inr (_, refl, refl, λ _. refl)

pub same_read : {X : Type 0} → (sure : Bool) (size : ℕ) (x : X × ℕ) → Stays {X = X} sure size (Ok x) (Ok x)
same_read sure size x = λ _. refl

-- ---- choices

pub by_test : {X : Type 0} → (sure : Bool) (size : ℕ) (b c : Bool) (x y z w : Scan X) → (b ≡ true → (c ≡ true) × Stays sure size x z) → (b ≡ false → (c ≡ false) × Stays sure size y w) → Stays sure size (cond b x y) (cond c z w)
by_test sure size true c x y z w f g = let h = f refl in subst (λ t. Stays sure size x (cond t z w)) (sym h.0) h.1
by_test sure size false c x y z w f g = let h = g refl in subst (λ t. Stays sure size y (cond t z w)) (sym h.0) h.1

pub by_same : {X : Type 0} → (sure : Bool) (size : ℕ) (b c : Bool) (x y z w : Scan X) → c ≡ b → Stays sure size x z → Stays sure size y w → Stays sure size (cond b x y) (cond c z w)
by_same sure size b c x y z w e f g = by_test sure size b c x y z w (λ t. (e ∙ t, f)) (λ t. (e ∙ t, g))

-- a scan that wants a byte
pub wants_one : {X : Type 0} → (sure : Bool) (bytes more : List ℕ) (y w : Scan X) → (0 < length bytes → Stays sure (length bytes) y w)
    → Stays sure (length bytes) (cond (nat_lt (length bytes) 1) (fault 0 reasons.Truncated) y) (cond (nat_lt (length (bytes ++ more)) 1) (fault 0 reasons.Truncated) w)
wants_one {X} sure bytes more y w h = by_some (either_way (nat_lt (length bytes) 1))
  where
    by_some : (nat_lt (length bytes) 1 ≡ true) ⊎ (nat_lt (length bytes) 1 ≡ false) → Stays sure (length bytes) (cond (nat_lt (length bytes) 1) (fault 0 reasons.Truncated) y) (cond (nat_lt (length (bytes ++ more)) 1) (fault 0 reasons.Truncated) w)
    by_some (inl e) = subst (λ s. Stays sure (length bytes) s (cond (nat_lt (length (bytes ++ more)) 1) (fault 0 reasons.Truncated) w)) (sym (cond_true_scan (nat_lt (length bytes) 1) (fault 0 reasons.Truncated) y e)) (inl refl)
      where
        cond_true_scan : (b : Bool) (x y : Scan X) → b ≡ true → cond b x y ≡ x
        cond_true_scan true x y e = refl
        cond_true_scan false x y e = absurd (cc)
    by_some (inr e) =
        let some : 0 < length bytes = grind (arith, nat_tests) in
        let long = length-append bytes more in
        let not : nat_lt (length (bytes ++ more)) 1 ≡ false = grind (arith, nat_tests) in
        by_test sure (length bytes) (nat_lt (length bytes) 1) (nat_lt (length (bytes ++ more)) 1) (fault 0 reasons.Truncated) y (fault 0 reasons.Truncated) w (λ t. absurd (let wrong = sym t ∙ e in cc)) (λ t. (not, h some))

-- ---- one scan behind another

pub shifted_stays : {X : Type 0} → (sure : Bool) (size at : ℕ) (scan longer : Scan X) → at < size → (left : ℕ) → left + at ≡ size → Stays sure left scan longer → Stays sure size (shifted at scan) (shifted at longer)
shifted_stays {X} sure size at (Ok x) longer less left is h = λ p. ap (shifted at) (h (within p))
  where
    within : (sure ≡ true) ⊎ (at + x.1 < size) → (sure ≡ true) ⊎ (x.1 < left)
    within (inl e) = inl e
    within (inr e) = inr (omega (arith, e, is))
shifted_stays {X} sure size at (Err f) longer less left is (inl cut) = inl cut
shifted_stays {X} sure size at (Err f) longer less left is (inr (g, e, r, p)) =
    inr (record { place = at + g.place; reason = g.reason }, ap (shifted at) e, r, λ h. ap (λ (b : Fault). record { place = at + b.place; reason = b.reason }) (p (omega (arith, h, is))))

-- where nothing is left
pub late_stays : {X : Type 0} → (sure : Bool) (size at to : ℕ) (scan longer : Scan X) → size ≤ at → IsNone scan → Stays sure 0 scan longer → Stays sure size (shifted at scan) (shifted to longer)
late_stays sure size at to (Ok x) longer less none h = absurd none
late_stays sure size at to (Err f) longer less none (inl cut) = inl cut
late_stays sure size at to (Err f) longer less none (inr (g, e, r, p)) = inr (record { place = to + g.place; reason = g.reason }, ap (shifted to) e, r, λ h. absurd (omega (arith, h, less)))

pub then_stays : {X Y : Type 0} → (sure : Bool) (size : ℕ) (scan longer : Scan X) (go on : X × ℕ → Scan Y) → Stays true size scan longer → ((x : X × ℕ) → scan ≡ Ok x → Stays sure size (go x) (on x)) → Stays sure size (scan >>= go) (longer >>= on)
then_stays sure size (Ok x) longer go on h f = subst (λ s. Stays sure size (go x) (s >>= on)) (sym (h (inl refl))) (f x refl)
then_stays sure size (Err f) longer go on (inl cut) g = inl cut
then_stays sure size (Err f) longer go on (inr (b, e, r, p)) g = inr (b, ap (λ s. s >>= on) e, r, p)

-- behind what is not sure: where that ends the bytes, what follows is cut short or not sure
pub late_then : {X Y : Type 0} → (sure : Bool) (size : ℕ) (scan longer : Scan X) (go on : X × ℕ → Scan Y) → Stays false size scan longer → ((x : X × ℕ) → x.1 < size → Stays sure size (go x) (on x))
    → ((x : X × ℕ) (other : Scan Y) → size ≤ x.1 → Stays sure size (go x) other) → Stays sure size (scan >>= go) (longer >>= on)
late_then {X} {Y} sure size (Ok x) longer go on h f late = by_end (either_way (nat_lt x.1 size))
  where
    by_end : (nat_lt x.1 size ≡ true) ⊎ (nat_lt x.1 size ≡ false) → Stays sure size (go x) (longer >>= on)
    by_end (inl e) = let less : x.1 < size = grind (arith, nat_tests) in subst (λ s. Stays sure size (go x) (s >>= on)) (sym (h (inr less))) (f x less)
    by_end (inr e) = late x (longer >>= on) (grind (arith, nat_tests))
late_then sure size (Err f) longer go on (inl cut) g late = inl cut
late_then sure size (Err f) longer go on (inr (b, e, r, p)) g late = inr (b, ap (λ s. s >>= on) e, r, p)

-- the longest front of bytes that pass, where one that doesn't follows
pub run_same : (p : ℕ → Bool) (bytes more : List ℕ) → prefix_len p bytes < length bytes → prefix_len p (bytes ++ more) ≡ prefix_len p bytes
run_same p [] more h = absurd (omega (arith, h))
run_same p (x ∷ xs) more h = by_first (p x) refl (λ less. run_same p xs more less)
  where
    by_first : (b : Bool) → p x ≡ b → (prefix_len p xs < length xs → prefix_len p (xs ++ more) ≡ prefix_len p xs) → prefix_len p ((x ∷ xs) ++ more) ≡ prefix_len p (x ∷ xs)
    by_first true e deeper =
        let long : prefix_len p (x ∷ xs) ≡ 1 + prefix_len p xs = ap (λ b. cond b (1 + prefix_len p xs) 0) e in
        let less : prefix_len p xs < length xs = omega (arith, h, long) in
        ap (λ b. cond b (1 + prefix_len p (xs ++ more)) 0) e ∙ ap (λ n. 1 + n) (deeper less) ∙ sym long
    by_first false e deeper = ap (λ b. cond b (1 + prefix_len p (xs ++ more)) 0) e ∙ sym (ap (λ b. cond b (1 + prefix_len p xs) 0) e)

pub drop_past : (n : ℕ) (bytes : List ℕ) → length bytes ≤ n → drop n bytes ≡ []
drop_past zero [] h = refl
drop_past (suc n) [] h = refl
drop_past zero (x ∷ xs) h = absurd (omega (arith, h))
drop_past (suc n) (x ∷ xs) h = drop_past n xs (omega (arith, h))

pub further_stays : {X : Type 0} → (sure : Bool) (scan : List ℕ → Scan X) (n : ℕ) (bytes more : List ℕ) → IsStable sure scan → IsNone (scan []) → Stays sure (length bytes) (further n scan bytes) (further n scan (bytes ++ more))
further_stays {X} sure scan n bytes more stable none = by_end (either_way (nat_lt at (length bytes)))
  where
    at : ℕ
    at = n + gap (drop n bytes)

    to : ℕ
    to = n + gap (drop n (bytes ++ more))

    by_end : (nat_lt at (length bytes) ≡ true) ⊎ (nat_lt at (length bytes) ≡ false) → Stays sure (length bytes) (further n scan bytes) (further n scan (bytes ++ more))
    by_end (inl e) =
        let less : at < length bytes = grind (arith, nat_tests) in
        let front : drop n (bytes ++ more) ≡ drop n bytes ++ more = drop_more n bytes more (omega (arith, less)) in
        let left : length (drop at bytes) + at ≡ length bytes = omega (arith, length-drop at bytes, less) in
        let same_gap : gap (drop n (bytes ++ more)) ≡ gap (drop n bytes) = ap gap front ∙ run_same is_white (drop n bytes) more (omega (arith, length-drop n bytes, less)) in
        let same : at ≡ to = ap (λ k. n + k) (sym same_gap) in
        let rest : drop at (bytes ++ more) ≡ drop at bytes ++ more = drop_more at bytes more (omega (arith, less)) in
        let here = subst (λ l. Stays sure (length (drop at bytes)) (scan (drop at bytes)) (scan l)) (sym rest) (stable (drop at bytes) more) in
        subst (λ k. Stays sure (length bytes) (shifted at (scan (drop at bytes))) (shifted k (scan (drop k (bytes ++ more))))) same
        (shifted_stays sure (length bytes) at (scan (drop at bytes)) (scan (drop at (bytes ++ more))) less (length (drop at bytes)) left here)
    by_end (inr e) =
        let past : length bytes ≤ at = grind (arith, nat_tests) in
        subst (λ l. Stays sure (length bytes) (shifted at (scan l)) (shifted to (scan (drop to (bytes ++ more))))) (sym (drop_past at bytes past))
        (late_stays sure (length bytes) at to (scan []) (scan (drop to (bytes ++ more))) past none (stable [] (drop to (bytes ++ more))))

-- where nothing is left it is cut short
pub further_late : {X : Type 0} → (scan : List ℕ → Scan X) (n place : ℕ) (bytes : List ℕ) → scan [] ≡ fault place reasons.Truncated → length bytes ≤ n → (at : ℕ) × (further n scan bytes ≡ fault at reasons.Truncated)
further_late scan n place bytes cut past =
    let at = n + gap (drop n bytes) in
    let none : drop at bytes ≡ [] = drop_past at bytes (omega (arith, past)) in
    (at + place, ap (λ l. shifted at (scan l)) none ∙ ap (shifted at) cut)

-- what follows a scan that is cut short
pub cut_then : {X Y : Type 0} → (sure : Bool) (size place : ℕ) (scan : Scan X) (go : X × ℕ → Scan Y) (other : Scan Y) → scan ≡ fault place reasons.Truncated → Stays sure size (scan >>= go) other
cut_then {X} {Y} sure size place scan go other e = subst (λ s. Stays sure size (s >>= go) other) (sym e) (inl refl)

-- the same scan with another value
pub mapped : {X Y : Type 0} → (sure : Bool) (size : ℕ) (scan longer : Scan X) (f : X → Y) → Stays sure size scan longer → Stays sure size (scan >>= λ x. Ok (f x.0, x.1)) (longer >>= λ x. Ok (f x.0, x.1))
mapped {X} {Y} sure size (Ok x) longer f h = λ p. ap (λ s. s >>= λ y. Ok (f y.0, y.1)) (h p)
mapped sure size (Err b) longer f (inl cut) = inl cut
mapped sure size (Err b) longer f (inr (g, e, r, p)) = inr (g, ap (λ s. s >>= λ y. Ok (f y.0, y.1)) e, r, p)

-- ---- words

-- of a scan of a word
abbrev pub TextStays : {X : Type 0} → Bool → ℕ → Text X → Text X → Type 0
TextStays sure size (Whole x n) longer = (sure ≡ true) ⊎ (n < size) → longer ≡ Whole x n
TextStays sure size Short longer = Unit {0}
TextStays sure size (Bad q) longer = longer ≡ Bad q

pub item_stays : {X : Type 0} → (sure : Bool) (reason : Reason) (bytes more : List ℕ) (scan longer : Text X) → TextStays sure (length bytes) scan longer
    → Stays sure (length bytes) (item reason bytes (moved 0 scan)) (item reason (bytes ++ more) (moved 0 longer))
item_stays {X} sure reason bytes more (Whole x n) longer h = λ p. ap (λ s. item reason (bytes ++ more) (moved 0 s)) (h (within p))
  where
    within : (sure ≡ true) ⊎ (0 + n < length bytes) → (sure ≡ true) ⊎ (n < length bytes)
    within (inl e) = inl e
    within (inr e) = inr (omega (arith, e))
item_stays sure reason bytes more Short longer h = inl refl
item_stays sure reason bytes more (Bad q) longer h = inr (_, ap (λ s. item reason (bytes ++ more) (moved 0 s)) h, refl, λ _. refl)

pub closed_stays : {X : Type 0} → (reason : Reason) (bytes more : List ℕ) (scan longer : Text X) → 0 < length bytes → TextStays false (length (drop 1 bytes)) scan longer
    → Stays true (length bytes) (closed reason bytes (moved 1 scan)) (closed reason (bytes ++ more) (moved 1 longer))
closed_stays {X} reason bytes more (Whole x n) longer some h = by_end (either_way (nat_le (length bytes) (1 + n)))
  where
    tested : List ℕ → Scan X
    tested l = cond (slice_index l (1 + n) == 34) (Ok (x, 1 + n + 1)) (fault 0 reason)

    by_end : (nat_le (length bytes) (1 + n) ≡ true) ⊎ (nat_le (length bytes) (1 + n) ≡ false) → Stays true (length bytes) (closed reason bytes (moved 1 (Whole x n))) (closed reason (bytes ++ more) (moved 1 longer))
    by_end (inl e) = subst (λ b. Stays true (length bytes) (cond b (fault (length bytes) reasons.Truncated) (tested bytes)) (closed reason (bytes ++ more) (moved 1 longer))) (sym e) (inl refl)
    by_end (inr e) =
        let less : 1 + n < length bytes = grind (arith, nat_tests) in
        let long = length-append bytes more in
        let not : nat_le (length (bytes ++ more)) (1 + n) ≡ false = grind (arith, nat_tests) in
        let same : longer ≡ Whole x n = h (inr (omega (arith, length-drop 1 bytes, less))) in
        let byte : (slice_index (bytes ++ more) (1 + n) == 34) ≡ (slice_index bytes (1 + n) == 34) = ap (λ k. k == 34) (front_index bytes more (1 + n) less) in
        subst (λ s. Stays true (length bytes) (closed reason bytes (moved 1 (Whole x n))) (closed reason (bytes ++ more) (moved 1 s))) (sym same)
        (by_test true (length bytes) (nat_le (length bytes) (1 + n)) (nat_le (length (bytes ++ more)) (1 + n)) (fault (length bytes) reasons.Truncated) (tested bytes) (fault (length (bytes ++ more)) reasons.Truncated) (tested (bytes ++ more))
        (λ t. absurd (let wrong = sym t ∙ e in cc)) (λ t. (not, by_same true (length bytes) _ _ _ _ _ _ byte (same_read true (length bytes) (x, 1 + n + 1)) (same_fault true (length bytes) 0 reason))))
closed_stays reason bytes more Short longer some h = inl refl
closed_stays reason bytes more (Bad q) longer some h = inr (_, ap (λ s. closed reason (bytes ++ more) (moved 1 s)) h, refl, λ _. refl)

-- where no continuation is good, none is with more bytes
pub judged_bad : {X : Type 0} → (good : Good X) (bytes more : List ℕ) (scan longer : Text X) (q : ℕ) → Judges good bytes scan → Judges good (bytes ++ more) longer → scan ≡ Bad q → longer ≡ Bad q
judged_bad {X} good bytes more scan longer q j k e = by_longer (subst (Judges good bytes) e j) longer k
  where
    by_longer : Judges good bytes (Bad q) → (l : Text X) → Judges good (bytes ++ more) l → l ≡ Bad q
    by_longer b (Whole x n) g = absurd (b.1 more x n g)
    by_longer b Short g = absurd (b.1 (more ++ g.1.0) g.1.1 g.1.2 (subst (λ l. good l g.1.1 g.1.2) (append_more bytes more g.1.0) g.1.3))
    by_longer b (Bad r) g = ap Bad (g.0 ∙ sym b.0)

-- ---- letters

-- a test of a word that looks at the first `size` bytes, as far as there are any
pub record Keeps (test : List ℕ → Bool) (bytes more : List ℕ) (size : ℕ) : Type 0 where
  pub falls : test bytes ≡ false → test (bytes ++ more) ≡ false
  pub same : size ≤ length bytes → test (bytes ++ more) ≡ test bytes

byte_same : (bytes more : List ℕ) (at byte : ℕ) → at < length bytes → byte_fits (bytes ++ more) at byte ≡ byte_fits bytes at byte
byte_same bytes more at byte h =
    let long = length-append bytes more in
    let one : nat_le (length (bytes ++ more)) at ≡ false = grind (arith, nat_tests) in
    let two : nat_le (length bytes) at ≡ false = grind (arith, nat_tests) in
    ap (λ x. nat_le (length (bytes ++ more)) at || (x == byte)) (front_index bytes more at h) ∙ ap (λ t. t || (slice_index bytes at == byte)) (one ∙ sym two)

or_first : (a b : Bool) → (a || b) ≡ false → a ≡ false
or_first false b e = refl
or_first true b e = absurd (cc)

pub byte_kept : (bytes more : List ℕ) (size at byte : ℕ) → at < size → Keeps (λ b. byte_fits b at byte) bytes more size
byte_kept bytes more size at byte h = record {
  falls = (λ e. let first = or_first (nat_le (length bytes) at) (slice_index bytes at == byte) e in byte_same bytes more at byte (grind (arith, nat_tests)) ∙ e);
  same = (λ most. byte_same bytes more at byte (omega (arith, h, most)));
}

and_false : (a b : Bool) → b ≡ false → (a && b) ≡ false
and_false true b e = e
and_false false b e = refl

and_falls : (a b c d : Bool) → (a ≡ false → c ≡ false) → (b ≡ false → d ≡ false) → (a && b) ≡ false → (c && d) ≡ false
and_falls false b c d f g e = ap (λ z. z && d) (f refl)
and_falls true b c d f g e = and_false c d (g e)

pub both_kept : (f g : List ℕ → Bool) (bytes more : List ℕ) (size : ℕ) → Keeps f bytes more size → Keeps g bytes more size → Keeps (λ b. f b && g b) bytes more size
both_kept f g bytes more size k l = record {
  falls = and_falls (f bytes) (g bytes) (f (bytes ++ more)) (g (bytes ++ more)) k.falls l.falls;
  same = (λ most. ap (λ t. t && g (bytes ++ more)) (k.same most) ∙ ap (λ t. f bytes && t) (l.same most));
}

pub word_stays : {X : Type 0} → (sure : Bool) (bytes more : List ℕ) (size : ℕ) (x : X) → size ≤ length bytes → Stays sure (length bytes) (word_end bytes size x) (word_end (bytes ++ more) size x)
word_stays sure bytes more size x most =
    let long = length-append bytes more in
    let one : nat_lt (length bytes) size ≡ false = grind (arith, nat_tests) in
    let two : nat_lt (length (bytes ++ more)) size ≡ false = grind (arith, nat_tests) in
    by_same sure (length bytes) (nat_lt (length bytes) size) (nat_lt (length (bytes ++ more)) size) (fault (length bytes) reasons.Truncated) (Ok (x, size)) (fault (length (bytes ++ more)) reasons.Truncated) (Ok (x, size)) (two ∙ sym one) (inl refl) (same_read sure (length bytes) (x, size))

-- a word of so many bytes, or else something other; `then` goes on with the word
pub word_or : {X Y : Type 0} → (sure : Bool) (test : List ℕ → Bool) (bytes more : List ℕ) (size : ℕ) (x : X) (go on : Scan X → Scan Y) (other otherwise : Scan Y) → Keeps test bytes more size
    → (size ≤ length bytes → Stays sure (length bytes) (go (word_end bytes size x)) (on (word_end (bytes ++ more) size x))) → (nat_lt (length bytes) size ≡ true → (longer : Scan Y) → Stays sure (length bytes) (go (word_end bytes size x)) longer)
    → Stays sure (length bytes) other otherwise → Stays sure (length bytes) (cond (test bytes) (go (word_end bytes size x)) other) (cond (test (bytes ++ more)) (on (word_end (bytes ++ more) size x)) otherwise)
word_or {X} {Y} sure test bytes more size x go on other otherwise k f cut g = by_size (either_way (nat_lt (length bytes) size)) (either_way (test bytes))
  where
    Goal : Type 0
    Goal = Stays sure (length bytes) (cond (test bytes) (go (word_end bytes size x)) other) (cond (test (bytes ++ more)) (on (word_end (bytes ++ more) size x)) otherwise)

    by_size : (nat_lt (length bytes) size ≡ true) ⊎ (nat_lt (length bytes) size ≡ false) → (test bytes ≡ true) ⊎ (test bytes ≡ false) → Goal
    by_size (inl e) (inl t) = subst (λ b. Stays sure (length bytes) (cond b (go (word_end bytes size x)) other) (cond (test (bytes ++ more)) (on (word_end (bytes ++ more) size x)) otherwise)) (sym t) (cut e _)
    by_size (inr e) (inl t) =
        let most : size ≤ length bytes = grind (arith, nat_tests) in
        by_test sure (length bytes) (test bytes) (test (bytes ++ more)) _ other _ otherwise (λ s. (k.same most ∙ s, f most)) (λ s. absurd (let wrong = sym t ∙ s in cc))
    by_size h (inr t) = by_test sure (length bytes) (test bytes) (test (bytes ++ more)) _ other _ otherwise (λ s. absurd (let wrong = sym t ∙ s in cc)) (λ s. (k.falls s, g))

pub word_cut : {X : Type 0} → (sure : Bool) (bytes : List ℕ) (size : ℕ) (x : X) → nat_lt (length bytes) size ≡ true → (longer : Scan X) → Stays sure (length bytes) (word_end bytes size x) longer
word_cut sure bytes size x e longer = subst (λ b. Stays sure (length bytes) (cond b (fault (length bytes) reasons.Truncated) (Ok (x, size))) longer) (sym e) (inl refl)

pub two_kept : (bytes more : List ℕ) (size x y : ℕ) → 4 ≤ size → Keeps (λ b. begins_two b x y) bytes more size
two_kept bytes more size x y some = both_kept (λ b. byte_fits b 0 34 && byte_fits b 1 x && byte_fits b 2 y) (λ b. byte_fits b 3 34) bytes more size (both_kept (λ b. byte_fits b 0 34 && byte_fits b 1 x) (λ b. byte_fits b 2 y) bytes more size (both_kept (λ b. byte_fits b 0 34) (λ b. byte_fits b 1 x) bytes more size (byte_kept bytes more size 0 34 (omega (arith, some))) (byte_kept bytes more size 1 x (omega (arith, some)))) (byte_kept bytes more size 2 y (omega (arith, some)))) (byte_kept bytes more size 3 34 (omega (arith, some)))

pub three_kept : (bytes more : List ℕ) (size x y z : ℕ) → 5 ≤ size → Keeps (λ b. begins_three b x y z) bytes more size
three_kept bytes more size x y z some = both_kept (λ b. byte_fits b 0 34 && byte_fits b 1 x && byte_fits b 2 y && byte_fits b 3 z) (λ b. byte_fits b 4 34) bytes more size (both_kept (λ b. byte_fits b 0 34 && byte_fits b 1 x && byte_fits b 2 y) (λ b. byte_fits b 3 z) bytes more size (both_kept (λ b. byte_fits b 0 34 && byte_fits b 1 x) (λ b. byte_fits b 2 y) bytes more size (both_kept (λ b. byte_fits b 0 34) (λ b. byte_fits b 1 x) bytes more size (byte_kept bytes more size 0 34 (omega (arith, some))) (byte_kept bytes more size 1 x (omega (arith, some)))) (byte_kept bytes more size 2 y (omega (arith, some)))) (byte_kept bytes more size 3 z (omega (arith, some)))) (byte_kept bytes more size 4 34 (omega (arith, some)))

pub infinity_kept : (bytes more : List ℕ) (size at : ℕ) → at + 9 ≤ size → Keeps (λ b. infinity_fits b at) bytes more size
unfolding infinity_fits
infinity_kept bytes more size at some = both_kept (λ b. byte_fits b at 73 && byte_fits b (at + 1) 110 && byte_fits b (at + 2) 102 && byte_fits b (at + 3) 105 && byte_fits b (at + 4) 110 && byte_fits b (at + 5) 105 && byte_fits b (at + 6) 116 && byte_fits b (at + 7) 121) (λ b. byte_fits b (at + 8) 34) bytes more size (both_kept (λ b. byte_fits b at 73 && byte_fits b (at + 1) 110 && byte_fits b (at + 2) 102 && byte_fits b (at + 3) 105 && byte_fits b (at + 4) 110 && byte_fits b (at + 5) 105 && byte_fits b (at + 6) 116) (λ b. byte_fits b (at + 7) 121) bytes more size (both_kept (λ b. byte_fits b at 73 && byte_fits b (at + 1) 110 && byte_fits b (at + 2) 102 && byte_fits b (at + 3) 105 && byte_fits b (at + 4) 110 && byte_fits b (at + 5) 105) (λ b. byte_fits b (at + 6) 116) bytes more size (both_kept (λ b. byte_fits b at 73 && byte_fits b (at + 1) 110 && byte_fits b (at + 2) 102 && byte_fits b (at + 3) 105 && byte_fits b (at + 4) 110) (λ b. byte_fits b (at + 5) 105) bytes more size (both_kept (λ b. byte_fits b at 73 && byte_fits b (at + 1) 110 && byte_fits b (at + 2) 102 && byte_fits b (at + 3) 105) (λ b. byte_fits b (at + 4) 110) bytes more size (both_kept (λ b. byte_fits b at 73 && byte_fits b (at + 1) 110 && byte_fits b (at + 2) 102) (λ b. byte_fits b (at + 3) 105) bytes more size (both_kept (λ b. byte_fits b at 73 && byte_fits b (at + 1) 110) (λ b. byte_fits b (at + 2) 102) bytes more size (both_kept (λ b. byte_fits b at 73) (λ b. byte_fits b (at + 1) 110) bytes more size (byte_kept bytes more size at 73 (omega (arith, some))) (byte_kept bytes more size (at + 1) 110 (omega (arith, some)))) (byte_kept bytes more size (at + 2) 102 (omega (arith, some)))) (byte_kept bytes more size (at + 3) 105 (omega (arith, some)))) (byte_kept bytes more size (at + 4) 110 (omega (arith, some)))) (byte_kept bytes more size (at + 5) 105 (omega (arith, some)))) (byte_kept bytes more size (at + 6) 116 (omega (arith, some)))) (byte_kept bytes more size (at + 7) 121 (omega (arith, some)))) (byte_kept bytes more size (at + 8) 34 (omega (arith, some)))
