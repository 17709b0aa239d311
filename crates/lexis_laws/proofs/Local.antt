-- What is cut depends on three bytes behind it alone.
use Rattle.std.proofs.Common.{◌≡◌, ℕ, ℤ, pos, ◌-ℤ◌, ◌+◌, ◌-◌, ◌<◌, ◌≤◌, Bool, true, false, List, [], ◌∷◌, ◌++◌, length, take, drop, Some, refl, sym, ap, ◌∙◌, subst, arith, ◌⊎◌, inl, inr, length-append, length-take, length-take-le, take-append-drop, take-take}
use Rattle.std.specs.List.{list_all}
use lib.Seq.{take-append-add}
use Rattle.std.proofs.lemmas.List.{take-append-le, drop-take}
use Rattle.std.proofs.lemmas.Bool.{cases_lt}
use Rattle.idl_lexer.specs.Bytes.{is_digit, is_letter, is_hex, is_inner, is_mark, literal_end}
use Rattle.idl_lexer.specs.Grammar.{IsToken, IsSign, IsSigned, IsDigits, IsMantissa, IsExponent, IsQuoted, IsLineEnd, number_of}
use Rattle.idl_lexer.specs.Grammar as grammar
use Rattle.idl_lexer.specs.declared.token.Token.{Token}
use Rattle.idl_lexer.specs.declared.token.TokenForm.{TokenForm}
use Rattle.idl_lexer.specs.declared.token.TokenForm.TheVariants as forms
use Rattle.lexis_laws.specs.Cutting.{IsGap, Stands, Cuts}
use Rattle.lexis_laws.specs.Cutting as cuttings
use Rattle.lexis_laws.proofs.Fronts.{true_false, same_head, same_tail, take_front, drop_front, regroup, all_front}
use Rattle.lexis_laws.proofs.Literals.{literal_whole}
use Rattle.lexis_laws.proofs.Firsts.{IsNumber, TokenView, a_word, a_number, a_literal, a_mark, token_view, is_quote, is_number, number_begins, number_sign, first_is, quote_no_letter, quote_no_number, quote_no_mark}
use Rattle.lexis_laws.proofs.Firsts as numbers
use Rattle.lexis_laws.proofs.Longest.{Bound, longest_of}
use Rattle.lexis_laws.proofs.Piece.{quotes, no_backslash, same_end}
use Rattle.lexis_laws.proofs.Single.{token_some}

-- ---- a longer token has one among its fronts that is at most three bytes longer

-- a front of the bytes that is a token, longer than n by three bytes at most
pub record Next (text : List ℕ) (n : ℕ) : Type 0 where
  pub size : ℕ
  pub form : TokenForm
  pub more : n < size
  pub few : size ≤ n + 3
  pub within : size ≤ length text
  pub token : IsToken form (take size text)

-- a front, and bytes behind it that may end anywhere
module _ (head digits : List ℕ) (each : (k : ℕ) → 0 < k → k ≤ length digits → (form : TokenForm) × IsToken form (head ++ take k digits)) where
  grown : (n k : ℕ) → 0 < k → k ≤ length digits → n < length head + k → length head + k ≤ n + 3 → Next (head ++ digits) n
  grown n k some most more few =
      let total = length-append head digits in
      record {
        size = length head + k;
        form = (each k some most).0;
        more = more;
        few = few;
        within = omega (arith, most, total);
        token = subst (IsToken (each k some most).0) (sym (take-append-add head digits k)) (each k some most).1;
      }

  grow : (n : ℕ) → 0 < length digits → n < length (head ++ digits) → length head ≤ n + 2 → Next (head ++ digits) n
  grow n some less near = by_size (cases_lt n (length head))
    where
      by_size : (n < length head) ⊎ (length head ≤ n) → Next (head ++ digits) n
      by_size (inl h) = grown n 1 (omega arith) some (omega (arith, h)) (omega (arith, near))
      by_size (inr h) =
          let total = length-append head digits in
          grown n (n + 1 - length head) (omega (arith, h)) (omega (arith, h, less, total)) (omega (arith, h)) (omega (arith, h))

pub next_more : (xs ys : List ℕ) (n : ℕ) → Next xs n → Next (xs ++ ys) n
next_more xs ys n next =
    let within = next.within in
    let total = length-append xs ys in
    record {
      size = next.size;
      form = next.form;
      more = next.more;
      few = next.few;
      within = omega (arith, within, total);
      token = subst (IsToken next.form) (sym (take-append-le next.size xs ys next.within)) next.token;
    }

all_taken : (p : ℕ → Bool) (k : ℕ) (xs : List ℕ) → list_all p xs ≡ true → list_all p (take k xs) ≡ true
all_taken p k xs all = all_front p (take k xs) (drop k xs) (ap (list_all p) (take-append-drop k xs) ∙ all)

taken_some : (k : ℕ) (xs : List ℕ) → 0 < k → k ≤ length xs → 0 < length (take k xs)
taken_some k xs some most = let size = length-take-le k xs most in omega (arith, size, some)

taken_digits : (k : ℕ) (digits : List ℕ) → IsDigits digits → 0 < k → k ≤ length digits → IsDigits (take k digits)
taken_digits k digits d some most = record { some = taken_some k digits some most; all = all_taken is_digit k digits d.all }

pub sign_small : (sign : List ℕ) → IsSign sign → length sign ≤ 1
sign_small sign grammar.no_sign = omega arith
sign_small sign grammar.plus_sign = omega arith
sign_small sign grammar.minus_sign = omega arith

signed_by : (sign : List ℕ) (n : ℕ) → IsSign sign → (z : ℤ) × IsSigned sign n z
signed_by sign n grammar.no_sign = (pos n, grammar.bare n)
signed_by sign n grammar.plus_sign = (pos n, grammar.plus n)
signed_by sign n grammar.minus_sign = (pos 0 -ℤ pos n, grammar.minus n)

-- ---- numbers

pub digits_next : (sign digits : List ℕ) (n : ℕ) → IsSign sign → IsDigits digits → n < length (sign ++ digits) → Next (sign ++ digits) n
digits_next sign digits n s d less =
    let small = sign_small sign s in
    grow sign digits (λ k some most.
    let z = signed_by sign (number_of 10 0 (take k digits)) s in
    (forms.Int z.0, grammar.decimal sign (take k digits) z.0 (taken_digits k digits d some most) z.1)) n d.some less (omega (arith, small))

hexadecimal_next : (sign digits : List ℕ) (n : ℕ) → IsSign sign → 0 < length digits → list_all is_hex digits ≡ true → 0 < n → n < length (sign ++ 48 ∷ 120 ∷ digits) → Next (sign ++ 48 ∷ 120 ∷ digits) n
hexadecimal_next sign digits n s some all one less =
    let small = sign_small sign s in
    let head = sign ++ 48 ∷ 120 ∷ [] in
    let size = length-append sign (48 ∷ 120 ∷ []) in
    let laid : head ++ digits ≡ sign ++ 48 ∷ 120 ∷ digits = regroup sign (48 ∷ 120 ∷ []) digits in
    subst (λ xs. Next xs n) laid
    (grow head digits (λ k more most.
    let z = signed_by sign (number_of 16 0 (take k digits)) s in (
      forms.Int z.0,
      subst (IsToken (forms.Int z.0)) (sym (regroup sign (48 ∷ 120 ∷ []) (take k digits)))
          (grammar.hexadecimal sign (take k digits) z.0 (taken_some k digits more most) (all_taken is_hex k digits all) z.1),
    )) n some (subst (λ xs. n < length xs) (sym laid) less) (omega (arith, small, size, one)))

pub behind_point : (sign front digits : List ℕ) (n : ℕ) → IsSign sign → list_all is_digit front ≡ true → IsDigits digits → length (sign ++ front) ≤ n + 1
    → n < length (sign ++ (front ++ 46 ∷ digits)) → Next (sign ++ (front ++ 46 ∷ digits)) n
behind_point sign front digits n s a d least less =
    let head = sign ++ (front ++ 46 ∷ []) in
    let outer = length-append sign (front ++ 46 ∷ []) in
    let inner = length-append front (46 ∷ []) in
    let before = length-append sign front in
    let laid : head ++ digits ≡ sign ++ (front ++ 46 ∷ digits) = regroup sign (front ++ 46 ∷ []) digits ∙ ap (λ xs. sign ++ xs) (regroup front (46 ∷ []) digits) in
    subst (λ xs. Next xs n) laid
    (grow head digits (λ k more most. (
      forms.Double,
      subst (IsToken forms.Double) (sym (regroup sign (front ++ 46 ∷ []) (take k digits) ∙ ap (λ xs. sign ++ xs) (regroup front (46 ∷ []) (take k digits))))
          (grammar.pointed_double sign front (take k digits) s a (taken_digits k digits d more most)),
    )) n d.some (subst (λ xs. n < length xs) (sym laid) less) (omega (arith, outer, inner, before, least)))

pointed_next : (sign front digits : List ℕ) (n : ℕ) → IsSign sign → list_all is_digit front ≡ true → IsDigits digits → 0 < n → n < length (sign ++ (front ++ 46 ∷ digits)) → Next (sign ++ (front ++ 46 ∷ digits)) n
pointed_next sign front digits n s a d one less = by_size (cases_lt n (length (sign ++ front)))
  where
    by_size : (n < length (sign ++ front)) ⊎ (length (sign ++ front) ≤ n) → Next (sign ++ (front ++ 46 ∷ digits)) n
    by_size (inl h) =
        let small = sign_small sign s in
        let before = length-append sign front in
        let some : 0 < length front = omega (arith, small, before, h, one) in
        subst (λ xs. Next xs n) (regroup sign front (46 ∷ digits)) (next_more (sign ++ front) (46 ∷ digits) n (digits_next sign front n s (record { some = some; all = a }) h))
    by_size (inr h) = behind_point sign front digits n s a d (omega (arith, h)) less

mantissa_next : (sign mantissa : List ℕ) (n : ℕ) → IsSign sign → IsMantissa mantissa → 0 < n → n < length (sign ++ mantissa) → Next (sign ++ mantissa) n
mantissa_next sign mantissa n s (grammar.whole digits d) one less = digits_next sign digits n s d less
mantissa_next sign mantissa n s (grammar.pointed front digits a d) one less = pointed_next sign front digits n s a d one less

behind_mantissa : (sign mantissa exponent : List ℕ) (n : ℕ) → IsSign sign → IsMantissa mantissa → IsExponent exponent → length (sign ++ mantissa) ≤ n
    → n < length (sign ++ (mantissa ++ exponent)) → Next (sign ++ (mantissa ++ exponent)) n
behind_mantissa sign mantissa exponent n s m (grammar.exponent e t digits is ts d) least less =
    let head = sign ++ (mantissa ++ e ∷ t) in
    let small = sign_small t ts in
    let outer = length-append sign (mantissa ++ e ∷ t) in
    let inner = length-append mantissa (e ∷ t) in
    let before = length-append sign mantissa in
    let laid : head ++ digits ≡ sign ++ (mantissa ++ e ∷ (t ++ digits)) = regroup sign (mantissa ++ e ∷ t) digits ∙ ap (λ xs. sign ++ xs) (regroup mantissa (e ∷ t) digits) in
    subst (λ xs. Next xs n) laid
    (grow head digits (λ k more most. (
      forms.Double,
      subst (IsToken forms.Double) (sym (regroup sign (mantissa ++ e ∷ t) (take k digits) ∙ ap (λ xs. sign ++ xs) (regroup mantissa (e ∷ t) (take k digits))))
          (grammar.raised_double sign mantissa (e ∷ (t ++ take k digits)) s m (grammar.exponent e t (take k digits) is ts (taken_digits k digits d more most))),
    )) n d.some (subst (λ xs. n < length xs) (sym laid) less)
    (omega (arith, outer, inner, before, least, small)))

raised_next : (sign mantissa exponent : List ℕ) (n : ℕ) → IsSign sign → IsMantissa mantissa → IsExponent exponent → 0 < n → n < length (sign ++ (mantissa ++ exponent)) → Next (sign ++ (mantissa ++ exponent)) n
raised_next sign mantissa exponent n s m x one less = by_size (cases_lt n (length (sign ++ mantissa)))
  where
    by_size : (n < length (sign ++ mantissa)) ⊎ (length (sign ++ mantissa) ≤ n) → Next (sign ++ (mantissa ++ exponent)) n
    by_size (inl h) = subst (λ xs. Next xs n) (regroup sign mantissa exponent) (next_more (sign ++ mantissa) exponent n (mantissa_next sign mantissa n s m one h))
    by_size (inr h) = behind_mantissa sign mantissa exponent n s m x h less

number_next : (form : TokenForm) (sign body : List ℕ) (n : ℕ) → IsSign sign → IsNumber form sign body → 0 < n → n < length (sign ++ body) → Next (sign ++ body) n
number_next form sign body n i (numbers.decimal s digits z d j) one less = digits_next s digits n i d less
number_next form sign body n i (numbers.hexadecimal s digits z some all j) one less = hexadecimal_next s digits n i some all one less
number_next form sign body n i (numbers.pointed s front digits j a d) one less = pointed_next s front digits n i a d one less
number_next form sign body n i (numbers.raised s mantissa exponent j m x) one less = raised_next s mantissa exponent n i m x one less

-- ---- tokens

word_next : (b : ℕ) (bs : List ℕ) (n : ℕ) → is_letter b ≡ true → list_all is_inner bs ≡ true → 0 < n → n < length (b ∷ bs) → Next (b ∷ bs) n
word_next b bs n l all one less =
    grow (b ∷ []) bs (λ k some most. (forms.Word, grammar.word b (take k bs) l (all_taken is_inner k bs all))) n (omega (arith, one, less)) less (omega arith)

-- unless it is a literal
next_of : (form : TokenForm) (front : List ℕ) (n : ℕ) → TokenView form front → (form ≡ forms.Literal → ⊥) → 0 < n → n < length front → Next front n
next_of form front n (a_word b bs l all) never one less = word_next b bs n l all one less
next_of form front n (a_number f sign body number) never one less = number_next f sign body n (number_sign f sign body number) number one less
next_of form front n (a_literal q bs t i) never one less = absurd (never refl)
next_of form front n (a_mark m t) never one less = absurd (omega (arith, one, less))

-- a literal ends where its quote comes again, and no token at its front is shorter
literal_size : (bytes rest : List ℕ) (q : ℕ) (bs behind : List ℕ) (form : TokenForm) → is_quote q ≡ true → IsQuoted q bs → bytes ++ rest ≡ q ∷ (bs ++ q ∷ behind) → TokenView form bytes → length bytes ≡ length bs + 2
literal_size bytes rest q bs behind form is i e (a_word b cs l all) = absurd (true_false (is_letter q) (ap is_letter (sym (same_head b q (cs ++ rest) (bs ++ q ∷ behind) e)) ∙ l) (quote_no_letter q is))
literal_size bytes rest q bs behind form is i e (a_number f sign body n) =
    absurd (true_false (is_number q) (first_is q (bs ++ q ∷ behind) (sign ++ body) rest is_number (sym e) (number_begins f sign body n)) (quote_no_number q is))
literal_size bytes rest q bs behind form is i e (a_literal p cs t j) =
    let quote : p ≡ q = same_head p q ((cs ++ p ∷ []) ++ rest) (bs ++ q ∷ behind) e in
    let laid : cs ++ p ∷ rest ≡ bs ++ q ∷ behind = sym (regroup cs (p ∷ []) rest) ∙ same_tail p q ((cs ++ p ∷ []) ++ rest) (bs ++ q ∷ behind) e in
    let here = literal_whole q bs behind (no_backslash q (quotes q is)) i in
    let there : literal_end false q (bs ++ q ∷ behind) ≡ Some (length cs + 1) =
    ap (λ y. literal_end false y (bs ++ q ∷ behind)) (sym quote) ∙ ap (literal_end false p) (sym laid) ∙ literal_whole p cs rest (no_backslash p (quotes p t)) j in
    let same = same_end (literal_end false q (bs ++ q ∷ behind)) (length bs + 1) (length cs + 1) here there in
    let total = length-append cs (p ∷ []) in
    omega (arith, same, total)
literal_size bytes rest q bs behind form is i e (a_mark m t) = absurd (true_false (is_mark q) (ap is_mark (sym (same_head m q rest (bs ++ q ∷ behind) e)) ∙ t) (quote_no_mark q is))

pub number_no_literal : (form : TokenForm) (sign body : List ℕ) → IsNumber form sign body → form ≡ forms.Literal → ⊥
number_no_literal form sign body (numbers.decimal s digits z d j) e = absurd (cc)
number_no_literal form sign body (numbers.hexadecimal s digits z some all j) e = absurd (cc)
number_no_literal form sign body (numbers.pointed s front digits j a d) e = absurd (cc)
number_no_literal form sign body (numbers.raised s mantissa exponent j m x) e = absurd (cc)

no_longer_literal : (form g : TokenForm) (bytes rest front behind : List ℕ) → IsToken form bytes → bytes ++ rest ≡ front ++ behind → TokenView g front → length bytes < length front → g ≡ forms.Literal → ⊥
no_longer_literal form g bytes rest front behind token e (a_literal q bs t i) less is =
    let laid : bytes ++ rest ≡ q ∷ (bs ++ q ∷ behind) = e ∙ ap (λ xs. q ∷ xs) (regroup bs (q ∷ []) behind) in
    let size = literal_size bytes rest q bs behind form t i laid (token_view form bytes token) in
    let total = length-append bs (q ∷ []) in
    omega (arith, size, total, less)
no_longer_literal form g bytes rest front behind token e (a_word b cs l all) less is = absurd (cc)
no_longer_literal form g bytes rest front behind token e (a_number f sign body n) less is = number_no_literal f sign body n is
no_longer_literal form g bytes rest front behind token e (a_mark m t) less is = absurd (cc)

-- ---- three bytes

-- so many bytes behind a front
taken_behind : (bytes rest other : List ℕ) (k : ℕ) → k ≤ 3 → take 3 rest ≡ take 3 other → take (length bytes + k) (bytes ++ other) ≡ take (length bytes + k) (bytes ++ rest)
taken_behind bytes rest other k small e =
    let three : take k other ≡ take k rest = sym (take-take k 3 other small) ∙ ap (take k) (sym e) ∙ take-take k 3 rest small in
    take-append-add bytes other k ∙ ap (λ xs. bytes ++ xs) three ∙ sym (take-append-add bytes rest k)

taken_up_to : (bytes rest other : List ℕ) (m : ℕ) → length bytes < m → m ≤ length bytes + 3 → take 3 rest ≡ take 3 other → take m (bytes ++ other) ≡ take m (bytes ++ rest)
taken_up_to bytes rest other m less few e =
    let k = m - length bytes in
    let size : length bytes + k ≡ m = omega (arith, less) in
    ap (λ n. take n (bytes ++ other)) (sym size) ∙ taken_behind bytes rest other k (omega (arith, few)) e ∙ ap (λ n. take n (bytes ++ rest)) size

within_taken : (m : ℕ) (xs : List ℕ) → length (take m xs) ≡ m → m ≤ length xs
within_taken m xs e = let size = length-take m xs in omega (arith, size, e)

module _ (form : TokenForm) (bytes rest other : List ℕ) (s : Stands form bytes rest) (e : take 3 rest ≡ take 3 other) where
  no_next : (front behind : List ℕ) → bytes ++ other ≡ front ++ behind → Next front (length bytes) → ⊥
  no_next front behind laid next =
      let here : take next.size front ≡ take next.size (bytes ++ rest) =
      sym (take-append-le next.size front behind next.within) ∙ ap (take next.size) (sym laid) ∙ taken_up_to bytes rest other next.size next.more next.few e in
      let size : length (take next.size (bytes ++ rest)) ≡ next.size = ap length (sym here) ∙ length-take-le next.size front next.within in
      s.longest next.form next.size next.more (within_taken next.size (bytes ++ rest) size) (subst (IsToken next.form) here next.token)

  other_bound : Bound (bytes ++ other) (length bytes)
  other_bound g front behind laid token = by_size (cases_lt (length bytes) (length front))
    where
      by_size : (length bytes < length front) ⊎ (length front ≤ length bytes) → length front ≤ length bytes
      by_size (inl h) =
          let view = token_view g front token in
          absurd (no_next front behind laid (next_of g front (length bytes) view (no_longer_literal form g bytes other front behind s.token laid view h) (token_some form bytes s.token) h))
      by_size (inr h) = h

  pub stands_so : Stands form bytes other
  stands_so = record { token = s.token; longest = longest_of bytes other other_bound }

-- ---- a cutting

ends_so : (rest other : List ℕ) → take 3 rest ≡ take 3 other → IsLineEnd rest → IsLineEnd other
ends_so rest [] e ends = grammar.text_ends
ends_so rest (y ∷ ys) e grammar.text_ends = let wrong : [] ≡ y ∷ take 2 ys = e in absurd (cc)
ends_so rest (y ∷ ys) e (grammar.line_ends more) = subst (λ z. IsLineEnd (z ∷ ys)) (same_head 10 y (take 2 more) (take 2 ys) e) (grammar.line_ends ys)

gap_so : (bytes rest other : List ℕ) → take 3 rest ≡ take 3 other → IsGap bytes rest → IsGap bytes other
gap_so bytes rest other e (cuttings.whitespace b r is) = cuttings.whitespace b other is
gap_so bytes rest other e (cuttings.hash line r one ends) = cuttings.hash line other one (ends_so r other e ends)
gap_so bytes rest other e (cuttings.slashes line r one ends) = cuttings.slashes line other one (ends_so r other e ends)
gap_so bytes rest other e (cuttings.comment inside r within) = cuttings.comment inside other within

pub fewer : (k : ℕ) (rest other : List ℕ) → k ≤ 3 → take 3 rest ≡ take 3 other → take k rest ≡ take k other
fewer k rest other small e = sym (take-take k 3 rest small) ∙ ap (take k) e ∙ take-take k 3 other small

-- three bytes behind one more front
three_more : (front rest other : List ℕ) → take 3 rest ≡ take 3 other → take 3 (front ++ rest) ≡ take 3 (front ++ other)
three_more [] rest other e = e
three_more (a ∷ []) rest other e = ap (λ xs. a ∷ xs) (fewer 2 rest other (omega arith) e)
three_more (a ∷ b ∷ []) rest other e = ap (λ xs. a ∷ b ∷ xs) (fewer 1 rest other (omega arith) e)
three_more (a ∷ b ∷ c ∷ front) rest other e = refl

record CutSo (at : ℕ) (text : List ℕ) (tokens : List Token) (place : ℕ) (behind other : List ℕ) : Type 0 where
  front : List ℕ
  laid : text ≡ front ++ behind
  size : place ≡ at + length front
  cut : Cuts at (front ++ other) tokens place other

cut_so : (at place : ℕ) (text behind other : List ℕ) (tokens : List Token) → take 3 behind ≡ take 3 other → Cuts at text tokens place behind → CutSo at text tokens place behind other
cut_so at place text behind other tokens e (cuttings.here a rest) = record { front = []; laid = refl; size = omega arith; cut = cuttings.here a other }
cut_so at place text behind other tokens e (cuttings.gap a p bytes rest b ts gap c) =
    let so = cut_so (a + length bytes) p rest b other ts e c in
    let size = so.size in
    let total = length-append bytes so.front in
    let same : take 3 rest ≡ take 3 (so.front ++ other) = ap (take 3) so.laid ∙ three_more so.front b other e in
    record {
      front = bytes ++ so.front;
      laid = ap (λ xs. bytes ++ xs) so.laid ∙ sym (regroup bytes so.front b);
      size = omega (arith, size, total);
      cut = subst (λ xs. Cuts a xs ts p other) (sym (regroup bytes so.front other)) (cuttings.gap a p bytes (so.front ++ other) other ts (gap_so bytes rest (so.front ++ other) same gap) so.cut);
    }
cut_so at place text behind other tokens e (cuttings.token a p form bytes rest b ts s fits c) =
    let so = cut_so (a + length bytes) p rest b other ts e c in
    let size = so.size in
    let total = length-append bytes so.front in
    let same : take 3 rest ≡ take 3 (so.front ++ other) = ap (take 3) so.laid ∙ three_more so.front b other e in
    record {
      front = bytes ++ so.front;
      laid = ap (λ xs. bytes ++ xs) so.laid ∙ sym (regroup bytes so.front b);
      size = omega (arith, size, total);
      cut = subst (λ xs. Cuts a xs (record { form = form; from = a; len = length bytes } ∷ ts) p other) (sym (regroup bytes so.front other))
          (cuttings.token a p form bytes (so.front ++ other) other ts (stands_so form bytes rest (so.front ++ other) s same) fits so.cut);
    }

-- where a cutting ends
record Ends (text : List ℕ) (place : ℕ) (behind : List ℕ) : Type 0 where
  front : List ℕ
  laid : text ≡ front ++ behind
  size : place ≡ length front

cut_ends : (text : List ℕ) (tokens : List Token) (place : ℕ) (behind : List ℕ) → Cuts 0 text tokens place behind → Ends text place behind
cut_ends text tokens place behind c =
    let so = cut_so 0 place text behind behind tokens refl c in
    let size = so.size in
    record { front = so.front; laid = so.laid; size = omega (arith, size) }

pub behind_is : (text : List ℕ) (tokens : List Token) (place : ℕ) (behind : List ℕ) → Cuts 0 text tokens place behind → drop place text ≡ behind
behind_is text tokens place behind c =
    let ends = cut_ends text tokens place behind c in
    ap (λ n. drop n text) ends.size ∙ ap (drop (length ends.front)) ends.laid ∙ drop_front ends.front behind

-- the bytes from a place on, as many as are the same
pub same_behind : (text other : List ℕ) (place n : ℕ) → take (place + n) text ≡ take (place + n) other → take n (drop place text) ≡ take n (drop place other)
same_behind text other place n e = sym (drop-take place n text) ∙ ap (drop place) e ∙ drop-take place n other

pub no_further : (text other behind : List ℕ) (tokens : List Token) (place : ℕ) → Cuts 0 text tokens place behind → take (place + 3) text ≡ take (place + 3) other → Cuts 0 other tokens place (drop place other)
no_further text other behind tokens place c e =
    let three : take 3 behind ≡ take 3 (drop place other) = ap (take 3) (sym (behind_is text tokens place behind c)) ∙ same_behind text other place 3 e in
    let so = cut_so 0 place text behind (drop place other) tokens three c in
    let size = so.size in
    let length_so : place ≡ length so.front = omega (arith, size) in
    let taken : take place text ≡ so.front = ap (λ n. take n text) length_so ∙ ap (take (length so.front)) so.laid ∙ take_front so.front behind in
    let same : so.front ≡ take place other =
    sym taken ∙ sym (take-take place (place + 3) text (omega arith)) ∙ ap (take place) e ∙ take-take place (place + 3) other (omega arith) in
    subst (λ xs. Cuts 0 xs tokens place (drop place other)) (ap (λ xs. xs ++ drop place other) same ∙ take-append-drop place other) so.cut
