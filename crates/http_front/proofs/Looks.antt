-- Where no head can be whole.
use Rattle.std.proofs.Common.{◌≡◌, ℕ, zero, suc, ◌+◌, ◌≤◌, ◌<◌, List, [], ◌∷◌, ◌++◌, length, take, drop, ◌-◌, Bool, true, false, true≢false, if◌then◌else◌, ◌==◌, ◌||◌, ap, sym, ◌∙◌, subst, refl, arith, eqb-true, slice_index_or}
use Rattle.std.specs.List.{flat_map}
use Rattle.httparse.specs.Ascii.{line_feed, carriage_return, space, colon}
use Rattle.httparse.specs.Grammar.{LineEnd, crlf, lf, print_end, print_blank, Field, print_field, print_section, RequestHead, IsRequestHead, print_request, ReadsRequest, HasNoRequest, is_token_byte, print_version}
use Rattle.http_front.specs.Looking.{sees, looked}
use Rattle.http_front.specs.declared.look.Look.{Look}
use Rattle.http_front.specs.declared.look.Look.TheVariants as look

pub looked_on : (at : Look) (xs ys : List ℕ) → looked at (xs ++ ys) ≡ looked (looked at xs) ys
looked_on at [] ys = refl
looked_on at (x ∷ xs) ys = looked_on (sees at x) xs ys

whole_stays : (xs : List ℕ) → looked look.Whole xs ≡ look.Whole
whole_stays [] = refl
whole_stays (x ∷ xs) = whole_stays xs

-- past the beginning of the request line
abbrev IsIn : Look → Type 0
IsIn look.Before = ⊥
IsIn look.Line = Unit {0}
IsIn look.Ended = Unit {0}
IsIn look.Return = Unit {0}
IsIn look.Whole = Unit {0}

-- behind the end of a line
abbrev IsBehind : Look → Type 0
IsBehind look.Before = ⊥
IsBehind look.Line = ⊥
IsBehind look.Ended = Unit {0}
IsBehind look.Return = ⊥
IsBehind look.Whole = Unit {0}

in_if : (t : Bool) (a b : Look) → IsIn a → IsIn b → IsIn (if t then a else b)
in_if true a b p q = p
in_if false a b p q = q

stays_in : (at : Look) (x : ℕ) → IsIn at → IsIn (sees at x)
stays_in look.Before x p = absurd p
stays_in look.Line x p = in_if (x == line_feed) look.Ended look.Line tt tt
stays_in look.Ended x p = in_if (x == line_feed) look.Whole (if x == carriage_return then look.Return else look.Line) tt (in_if (x == carriage_return) look.Return look.Line tt tt)
stays_in look.Return x p = in_if (x == line_feed) look.Whole look.Line tt tt
stays_in look.Whole x p = tt

all_in : (at : Look) (xs : List ℕ) → IsIn at → IsIn (looked at xs)
all_in at [] p = p
all_in at (x ∷ xs) p = all_in (sees at x) xs (stays_in at x p)

line_ends : (at : Look) (end : LineEnd) → IsIn at → IsBehind (looked at (print_end end))
line_ends look.Before end p = absurd p
line_ends look.Line crlf p = tt
line_ends look.Line lf p = tt
line_ends look.Ended crlf p = tt
line_ends look.Ended lf p = tt
line_ends look.Return crlf p = tt
line_ends look.Return lf p = tt
line_ends look.Whole crlf p = tt
line_ends look.Whole lf p = tt

behind_in : (at : Look) → IsBehind at → IsIn at
behind_in look.Before p = absurd p
behind_in look.Line p = absurd p
behind_in look.Ended p = tt
behind_in look.Return p = absurd p
behind_in look.Whole p = tt

line_behind : (at : Look) (xs : List ℕ) (end : LineEnd) → IsIn at → IsBehind (looked at (xs ++ print_end end))
line_behind at xs end p = subst IsBehind (sym (looked_on at xs (print_end end))) (line_ends (looked at xs) end (all_in at xs p))

fields_behind : (at : Look) (fields : List Field) → IsBehind at → IsBehind (looked at (flat_map print_field fields))
fields_behind at [] p = p
fields_behind at (f ∷ fields) p =
    subst IsBehind (sym (looked_on at (print_field f) (flat_map print_field fields)))
    (fields_behind (looked at (print_field f)) fields (line_behind at (f.name ++ colon ∷ f.raw) f.end (behind_in at p)))

last_ends : (at : Look) (end : LineEnd) → IsBehind at → looked at (print_end end) ≡ look.Whole
last_ends look.Before end p = absurd p
last_ends look.Line end p = absurd p
last_ends look.Ended crlf p = refl
last_ends look.Ended lf p = refl
last_ends look.Return end p = absurd p
last_ends look.Whole crlf p = refl
last_ends look.Whole lf p = refl

section_whole : (at : Look) (fields : List Field) (last : LineEnd) → IsBehind at → looked at (print_section fields last) ≡ look.Whole
section_whole at fields last p =
    looked_on at (flat_map print_field fields) (print_end last) ∙ last_ends (looked at (flat_map print_field fields)) last (fields_behind at fields p)

blank_before : (ends : List LineEnd) → looked look.Before (print_blank ends) ≡ look.Before
blank_before [] = refl
blank_before (crlf ∷ ends) = blank_before ends
blank_before (lf ∷ ends) = blank_before ends

no_line_feed : is_token_byte line_feed ≡ true → ⊥
unfolding is_token_byte
no_line_feed is = absurd (true≢false (sym is))

no_return : is_token_byte carriage_return ≡ true → ⊥
unfolding is_token_byte
no_return is = absurd (true≢false (sym is))

token_in : (x : ℕ) → is_token_byte x ≡ true → IsIn (sees look.Before x)
token_in x is = by (x == line_feed) (x == carriage_return) refl refl
  where
    by : (a b : Bool) → (x == line_feed) ≡ a → (x == carriage_return) ≡ b → IsIn (if a || b then look.Before else look.Line)
    by true b e f = absurd (no_line_feed (subst (λ (y : ℕ). is_token_byte y ≡ true) (eqb-true x line_feed e) is))
    by false true e f = absurd (no_return (subst (λ (y : ℕ). is_token_byte y ≡ true) (eqb-true x carriage_return f) is))
    by false false e f = tt

token_begins : (xs : List ℕ) → 0 < length xs → ((k : ℕ) (d : ℕ) → k < length xs → is_token_byte (slice_index_or xs k d) ≡ true) → IsIn (looked look.Before xs)
token_begins [] some all = absurd (omega (arith, some))
token_begins (x ∷ xs) some all = all_in (sees look.Before x) xs (token_in x (all 0 0 some))

line_whole : (h : RequestHead) → IsRequestHead h → IsBehind (looked look.Before (print_blank h.blank ++ h.method ++ space ∷ h.target ++ space ∷ print_version h.minor ++ print_end h.line_end))
line_whole h is =
    subst IsBehind (sym (looked_on look.Before (print_blank h.blank ++ h.method ++ space ∷ h.target ++ space ∷ print_version h.minor) (print_end h.line_end)))
    (line_ends _ h.line_end
    (subst IsIn (sym (looked_on look.Before (print_blank h.blank ++ h.method ++ space ∷ h.target) (space ∷ print_version h.minor)))
    (all_in _ (space ∷ print_version h.minor)
    (subst IsIn (sym (looked_on look.Before (print_blank h.blank ++ h.method) (space ∷ h.target)))
    (all_in _ (space ∷ h.target)
    (subst IsIn (sym (looked_on look.Before (print_blank h.blank) h.method))
    (subst (λ (at : Look). IsIn (looked at h.method)) (sym (blank_before h.blank)) (token_begins h.method is.method.0 is.method.1))))))))

head_whole : (h : RequestHead) → IsRequestHead h → looked look.Before (print_request h) ≡ look.Whole
unfolding print_request
head_whole h is =
    looked_on look.Before (print_blank h.blank ++ h.method ++ space ∷ h.target ++ space ∷ print_version h.minor ++ print_end h.line_end) (print_section h.fields h.last)
    ∙ section_whole _ h.fields h.last (line_whole h is)

-- where a head stands whole, its end was seen
pub seen_whole : (bytes : List ℕ) (h : RequestHead) (rest : List ℕ) → ReadsRequest bytes h rest → looked look.Before bytes ≡ look.Whole
seen_whole bytes h rest reads =
    ap (looked look.Before) reads.1 ∙ (looked_on look.Before (print_request h) rest ∙ (ap (λ (at : Look). looked at rest) (head_whole h reads.0) ∙ whole_stays rest))

pub none_whole : (bytes : List ℕ) → (looked look.Before bytes ≡ look.Whole → ⊥) → HasNoRequest bytes
none_whole bytes other h rest reads = other (seen_whole bytes h rest reads)

-- ---- how far was looked

take_nil : (n : ℕ) → take {A = ℕ} n [] ≡ []
take_nil zero = refl
take_nil (suc n) = refl

take_on : (n m : ℕ) (xs : List ℕ) → take (n + m) xs ≡ take n xs ++ take m (drop n xs)
take_on zero m xs =
    let e : 0 + m ≡ m = omega arith in
    ap (λ (k : ℕ). take k xs) e
take_on (suc n) m [] = take_nil (suc n + m) ∙ sym (take_nil m)
take_on (suc n) m (x ∷ xs) =
    let e : suc n + m ≡ suc (n + m) = omega arith in
    ap (λ (k : ℕ). take k (x ∷ xs)) e ∙ ap (λ (l : List ℕ). x ∷ l) (take_on n m xs)

-- on from where it stopped
pub look_end : (bytes : List ℕ) (seen end : ℕ) (at result : Look) → at ≡ looked look.Before (take seen bytes) → result ≡ looked at (take (end - seen) (drop seen bytes)) → seen ≤ end → result ≡ looked look.Before (take end bytes)
look_end bytes seen end at result was is le =
    let sum : seen + (end - seen) ≡ end = omega (arith, le) in
    is ∙ (ap (λ (l : Look). looked l (take (end - seen) (drop seen bytes))) was
    ∙ (sym (looked_on look.Before (take seen bytes) (take (end - seen) (drop seen bytes)))
    ∙ ap (looked look.Before) (sym (take_on seen (end - seen) bytes) ∙ ap (λ (k : ℕ). take k bytes) sum)))
