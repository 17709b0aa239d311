-- How many bytes stand before the first LF.
use Rattle.std.proofs.Common.{◌≡◌, ℕ, ◌+◌, ◌-◌, ◌<◌, ◌≤◌, ◌==◌, not, true, false, Bool, cond, eqb, nat_lt, List, [], ◌∷◌, ◌++◌, length, take, drop, get_or, Option, None, Some, arith, refl, sym, ◌∙◌, ap, subst}
use Rattle.std.specs.List.{prefix_len}
use Rattle.std.specs.Prelude.{slice_index}
use Rattle.std.proofs.lemmas.Bool.Decides.{nat_tests}
use Rattle.std.proofs.lemmas.List.{get_or-drop, get_or-take, length-drop, drop_more, take-append-drop}
use Rattle.std.proofs.lemmas.List.Folds.{prefix_len-append, length-prefix_len}
use Rattle.std.proofs.lemmas.List.Sums.{prefix_len-le-length, prefix_len_is, prefix_len_passes, prefix_len_stops}
use Rattle.memchr.specs.Find.{IsFirstByte, is_byte}
use Rattle.line_transport.specs.Lines.{is_inner, line_length}

pub length_within : (bytes : List ℕ) → line_length bytes ≤ length bytes
unfolding line_length
length_within bytes = prefix_len-le-length is_inner bytes

pub searched_within : (n : ℕ) (bytes : List ℕ) → n ≤ line_length bytes → n ≤ length bytes
searched_within n bytes h = omega (arith, h, length_within bytes)

longer_by : (b : Bool) (m n : ℕ) → m ≤ n → cond b (1 + m) 0 ≤ cond b (1 + n) 0
longer_by true m n h = omega (arith, h)
longer_by false m n h = omega arith

inner_on : (xs ys : List ℕ) → prefix_len is_inner xs ≤ prefix_len is_inner (xs ++ ys)
inner_on [] ys = omega arith
inner_on (x ∷ xs) ys = longer_by (is_inner x) (prefix_len is_inner xs) (prefix_len is_inner (xs ++ ys)) (inner_on xs ys)

-- as more comes, what was searched stays so
pub longer : (xs ys : List ℕ) → line_length xs ≤ line_length (xs ++ ys)
unfolding line_length
longer xs ys = inner_on xs ys

pub searched_on : (n : ℕ) (xs ys : List ℕ) → n ≤ line_length xs → n ≤ line_length (xs ++ ys)
searched_on n xs ys h = omega (arith, h, longer xs ys)

-- where no LF stands, it is the length of all
all_by : (b : Bool) (p n : ℕ) (ys : ℕ) → b ≡ true → cond b (n + ys) p ≡ n + ys
all_by b p n ys e = ap (λ t. cond t (n + ys) p) e

same_numbers : (m n : ℕ) → m ≡ n → eqb m n ≡ true
same_numbers m n e = grind (arith, nat_tests)

-- behind bytes without an LF
pub behind_line : (line rest : List ℕ) → line_length line ≡ length line → line_length (line ++ rest) ≡ length line + line_length rest
unfolding line_length
behind_line line rest e =
    prefix_len-append is_inner line rest ∙ all_by (eqb (prefix_len is_inner line) (length line)) (prefix_len is_inner line) (length line) (prefix_len is_inner rest) (same_numbers (prefix_len is_inner line) (length line) e)

pub at_feed : (rest : List ℕ) → line_length (10 ∷ rest) ≡ 0
unfolding line_length
at_feed rest = refl

-- the bytes before the first LF have none
pub front_unbroken : (bytes : List ℕ) (n : ℕ) → n ≡ line_length bytes → line_length (take n bytes) ≡ length (take n bytes)
unfolding line_length
front_unbroken bytes n e =
    let long : length (take n bytes) ≡ n = subst (λ (k : ℕ). length (take k bytes) ≡ k) (sym e) (length-prefix_len is_inner bytes) in
    prefix_len_is is_inner (take n bytes) (length (take n bytes)) 0 (omega arith)
    (λ k low. ap is_inner (get_or-take n bytes k 0 (omega (arith, low, long))) ∙ prefix_len_passes is_inner bytes k 0 (omega (arith, low, long, e)))
    (λ over. absurd (omega (arith, over)))

inner_is : (b : ℕ) → is_inner b ≡ false → b ≡ 10
inner_is b e = grind (arith, nat_tests)

feed_is : (b : ℕ) → (b == 10) ≡ true → is_inner b ≡ false
feed_is b e = ap not e

-- an LF stands behind them, where there is one
pub feed_behind : (bytes : List ℕ) (n : ℕ) → n ≡ line_length bytes → n < length bytes → bytes ≡ take n bytes ++ 10 ∷ drop (n + 1) bytes
unfolding line_length
feed_behind bytes n e low =
    let stops : is_inner (get_or bytes n 0) ≡ false = subst (λ (k : ℕ). is_inner (get_or bytes k 0) ≡ false) (sym e) (prefix_len_stops is_inner bytes 0 (omega (arith, low, e))) in
    let is : get_or bytes n 0 ≡ 10 = inner_is (get_or bytes n 0) stops in
    sym (take-append-drop n bytes) ∙ ap (λ xs. take n bytes ++ xs) (drop_more bytes n 0 low ∙ ap (λ b. b ∷ drop (n + 1) bytes) is)

-- ---- what a search finds behind bytes that were searched

not_true : (b : Bool) → (b ≡ true → ⊥) → b ≡ false
not_true true h = absurd (h refl)
not_true false h = refl

-- an LF that stands right behind them
pub found_at : (bytes : List ℕ) (n : ℕ) → n ≤ line_length bytes → n < length bytes → slice_index bytes n ≡ 10 → n ≡ line_length bytes
unfolding line_length
found_at bytes n searched low is =
    sym (prefix_len_is is_inner bytes n 0 (omega (arith, low)) (λ k l. prefix_len_passes is_inner bytes k 0 (omega (arith, l, searched))) (λ l. ap is_inner is))

-- by what the search answers
pub found : (bytes : List ℕ) (n : ℕ) (answer : Option ℕ) → n ≤ line_length bytes → IsFirstByte (is_byte 10) (drop n bytes) answer → (more : ℕ) → answer ≡ Some more → (n + more < length bytes) × (n + more ≡ line_length bytes)
unfolding line_length
found bytes n None searched h more e = absurd (cc)
found bytes n (Some k) searched h more e =
    let same : k ≡ more = cc in
    let within : n ≤ length bytes = omega (arith, searched, prefix_len-le-length is_inner bytes) in
    let low : n + more < length bytes = omega (arith, h.0.high, length-drop n bytes, same, within) in
    let passes : (j : ℕ) → j < n + more → is_inner (get_or bytes j 0) ≡ true = λ j l. passes_below bytes n more j l searched (λ i a. not_true (slice_index (drop n bytes) i == 10) (λ yes. h.0.before i (omega arith) (omega (arith, a, same)) yes)) in
    (low, sym (prefix_len_is is_inner bytes (n + more) 0 (omega (arith, low)) passes (λ l. stops bytes n more (subst (λ (i : ℕ). (slice_index (drop n bytes) i == 10) ≡ true) same h.1))))
  where
    passes_below : (bytes : List ℕ) (n more j : ℕ) → j < n + more → n ≤ prefix_len is_inner bytes → ((i : ℕ) → i < more → (slice_index (drop n bytes) i == 10) ≡ false) → is_inner (get_or bytes j 0) ≡ true
    passes_below bytes n more j l searched h = by (nat_lt j n) refl
      where
        by : (b : Bool) → nat_lt j n ≡ b → is_inner (get_or bytes j 0) ≡ true
        by true e = prefix_len_passes is_inner bytes j 0 (let low : j < n = grind (arith, nat_tests, e) in omega (arith, low, searched))
        by false e =
            let high : n ≤ j = grind (arith, nat_tests, e) in
            let at : n + (j - n) ≡ j = omega (arith, high) in
            ap (λ i. is_inner (get_or bytes i 0)) (sym at) ∙ (ap is_inner (sym (get_or-drop n bytes (j - n) 0)) ∙ ap not (h (j - n) (omega (arith, l, high))))

    stops : (bytes : List ℕ) (n more : ℕ) → (slice_index (drop n bytes) more == 10) ≡ true → is_inner (get_or bytes (n + more) 0) ≡ false
    stops bytes n more e = ap is_inner (sym (get_or-drop n bytes more 0)) ∙ ap not e

-- or finds none
pub none_found : (bytes : List ℕ) (n : ℕ) (answer : Option ℕ) → n ≤ line_length bytes → IsFirstByte (is_byte 10) (drop n bytes) answer → answer ≡ None → length bytes ≡ line_length bytes
unfolding line_length
none_found bytes n (Some k) searched h e = absurd (cc)
none_found bytes n None searched h e =
    sym (prefix_len_is is_inner bytes (length bytes) 0 (omega arith) (λ j l. passes j l (nat_lt j n) refl) (λ over. absurd (omega (arith, over))))
  where
    passes : (j : ℕ) → j < length bytes → (b : Bool) → nat_lt j n ≡ b → is_inner (get_or bytes j 0) ≡ true
    passes j l true e = prefix_len_passes is_inner bytes j 0 (let low : j < n = grind (arith, nat_tests, e) in omega (arith, low, searched))
    passes j l false e =
        let high : n ≤ j = grind (arith, nat_tests, e) in
        let at : n + (j - n) ≡ j = omega (arith, high) in
        ap (λ i. is_inner (get_or bytes i 0)) (sym at) ∙ (ap is_inner (sym (get_or-drop n bytes (j - n) 0)) ∙
        ap not (not_true (slice_index (drop n bytes) (j - n) == 10) (λ yes. h (j - n) (omega arith) (omega (arith, l, high, length-drop n bytes)) yes)))
