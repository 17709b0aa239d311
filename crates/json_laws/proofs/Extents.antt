-- Where none of a part begins, the bytes of the part that is at fault tell it, and no others.
use Rattle.std.proofs.Common.{◌≡◌, ℕ, ℤ, zero, suc, ◌+◌, ◌≤◌, Bool, true, false, cond, List, [], ◌∷◌, ◌++◌, length, take, drop, refl, ap, ◌∙◌, sym, subst, arith, ◌⊎◌, inl, inr}
use Rattle.std.specs.Prelude.{◌==◌, not, replicate}
use Rattle.std.specs.List.{prefix_len}
use Rattle.std.proofs.lemmas.Bool.Decides.{nat_tests}
use Rattle.std.proofs.lemmas.List.{append-nil, take-append-drop}
use Rattle.base64.specs.Rfc4648.{encode_symbols}
use Rattle.thrift_value.specs.declared.kind.Kind.{Kind}
use Rattle.thrift_value.specs.declared.kind.Kind.TheVariants as kinds
use Rattle.json_text.specs.Int.{is_int_byte}
use Rattle.json_text.specs.Number.{is_number_byte}
use Rattle.json_text.specs.Blob.{is_symbol}
use Rattle.json_text.specs.Grammar.{IsNumber, alphabet}
use Rattle.json_text_laws.specs.Strings.{piece_size}
use Rattle.json_text_laws.proofs.Base64.{encoded_symbols}
use Rattle.json_text_laws.proofs.Parts.{All, Apart, parted, cut_len, take_front, all_append, append_more}
use Rattle.json_protocol.specs.Writing.{kind_name, quoted, number}
use Rattle.json_protocol.specs.Grammar.{IsWord}
use Rattle.json_laws.specs.Plans.{Whole, Part, mark_part, whole_part, kind_part, double_part, text_part, blob_part, first_part, deep_part, nameless_part, end_part, Value, StandsAs, IsThere, through_quote, quoted_extent, double_extent, extent}
use Rattle.json_laws.specs.Firsts.{NoneBegins}
use Rattle.json_laws.proofs.Words.{int_passes, number_passes, quoted_append}
use Rattle.json_laws.proofs.Items.{number_first, one_same}
use Rattle.json_laws.proofs.PartScans.{apart_of, not_quoted}

-- what none of begins with fewer bytes, none begins with more
pub fewer_begin : (part : Part) (n : ℕ) (bytes : List ℕ) → NoneBegins part (take n bytes) → NoneBegins part bytes
fewer_begin part n bytes none more x taken stands =
    let same : bytes ++ more ≡ take n bytes ++ (drop n bytes ++ more) = ap (λ b. b ++ more) (sym (take-append-drop n bytes)) ∙ append_more (take n bytes) (drop n bytes) more in
    none (drop n bytes ++ more) x taken (subst (λ b. StandsAs part b x taken) same stands)

same_bytes : (part : Part) (some all : List ℕ) → some ≡ all → NoneBegins part all → NoneBegins part some
same_bytes part some all e none = subst (NoneBegins part) (sym e) none

-- right there
none_here : (part : Part) (bytes : List ℕ) → NoneBegins part bytes → (x : Value part) (taken : ℕ) → StandsAs part bytes x taken → ⊥
none_here part bytes none x taken stands = none [] x taken (subst (λ b. StandsAs part b x taken) (sym (append-nil bytes)) stands)

-- ---- runs

take_long : (n : ℕ) (xs : List ℕ) → length xs ≤ n → take n xs ≡ xs
take_long zero [] h = refl
take_long zero (x ∷ xs) h = absurd (omega (arith, h))
take_long (suc n) [] h = refl
take_long (suc n) (x ∷ xs) h = ap (λ l. x ∷ l) (take_long n xs (omega (arith, h)))

take_next : (front : List ℕ) (y : ℕ) (ys : List ℕ) → take (suc (length front)) (front ++ (y ∷ ys)) ≡ front ++ (y ∷ [])
take_next [] y ys = refl
take_next (x ∷ front) y ys = ap (λ l. x ∷ l) (take_next front y ys)

same_run : (p : ℕ → Bool) (front rest digits others : List ℕ) → All p front → Apart p rest → All p digits → Apart p others → front ++ rest ≡ digits ++ others → front ≡ digits
same_run p front rest digits others a b c d is =
    let long : length front ≡ length digits = sym (cut_len p front rest a b) ∙ ap (prefix_len p) is ∙ cut_len p digits others c d in
    sym (take_front front rest) ∙ ap (take (length front)) is ∙ ap (λ n. take n (digits ++ others)) long ∙ take_front digits others

-- the longest run and one byte more, if there is one
abbrev RunAndOne : (ℕ → Bool) → List ℕ → Type 0
RunAndOne p bytes =
    (take (suc (prefix_len p bytes)) bytes ≡ bytes)
    ⊎ ((front : List ℕ) × (y : ℕ) × (ys : List ℕ) × (bytes ≡ front ++ (y ∷ ys)) × All p front × (p y ≡ false) × (take (suc (prefix_len p bytes)) bytes ≡ front ++ (y ∷ [])))

run_and_one : (p : ℕ → Bool) (bytes : List ℕ) → RunAndOne p bytes
run_and_one p bytes = let q = parted p bytes in by_rest q.front q.rest q.joined q.all q.apart
  where
    by_rest : (front rest : List ℕ) → bytes ≡ front ++ rest → All p front → Apart p rest → RunAndOne p bytes
    by_rest front [] is all apart =
        let long : prefix_len p bytes ≡ length front = ap (prefix_len p) is ∙ cut_len p front [] all apart in
        inl (take_long (suc (prefix_len p bytes)) bytes (omega (arith, long, ap length (is ∙ append-nil front))))
    by_rest front (y ∷ ys) is all apart =
        let long : prefix_len p bytes ≡ length front = ap (prefix_len p) is ∙ cut_len p front (y ∷ ys) all apart in
        inr (front, y, ys, is, all, apart, ap (λ n. take (suc n) bytes) long ∙ ap (take (suc (length front))) is ∙ take_next front y ys)

-- what stands with one byte behind the run stands with all
int_after : (w : Whole) (bytes front : List ℕ) (y : ℕ) (ys more : List ℕ) (z : ℤ) (n : ℕ) → NoneBegins (whole_part false w) bytes → bytes ≡ front ++ (y ∷ ys) → All is_int_byte front → is_int_byte y ≡ false
    → StandsAs (whole_part false w) (front ++ (y ∷ more)) z n → ⊥
int_after w bytes front y ys more z n none is all apart (digits, rest, laid, spells, low, high, ends, long) =
    let same = same_run is_int_byte front (y ∷ more) digits rest all apart (int_passes z digits spells) (apart_of is_int_byte rest (ends refl)) laid in
    none_here (whole_part false w) bytes none z n (digits, y ∷ ys, is ∙ ap (λ k. k ++ (y ∷ ys)) same, spells, low, high, (λ _. apart), long)

int_through : (w : Whole) (bytes : List ℕ) → NoneBegins (whole_part false w) bytes → NoneBegins (whole_part false w) (take (suc (prefix_len is_int_byte bytes)) bytes)
int_through w bytes none = by_run (run_and_one is_int_byte bytes)
  where
    part : Part
    part = whole_part false w

    by_run : RunAndOne is_int_byte bytes → NoneBegins part (take (suc (prefix_len is_int_byte bytes)) bytes)
    by_run (inl same) = same_bytes part (take (suc (prefix_len is_int_byte bytes)) bytes) bytes same none
    by_run (inr (front, y, ys, is, all, apart, taken)) =
        λ more z n stands. int_after w bytes front y ys more z n none is all apart (subst (λ b. StandsAs part b z n) (ap (λ b. b ++ more) taken ∙ append_more front (y ∷ []) more) stands)

-- ---- words between two quotes

abbrev not_quote : ℕ → Bool
not_quote x = not (x == 34)

all_map : (p q : ℕ → Bool) (xs : List ℕ) → ((x : ℕ) → p x ≡ true → q x ≡ true) → All p xs → All q xs
all_map p q [] h all = tt
all_map p q (x ∷ xs) h all = (h x all.0, all_map p q xs h all.1)

-- all there is, or up to a quote
abbrev ThroughQuote : List ℕ → Type 0
ThroughQuote bytes =
    (take (through_quote bytes) bytes ≡ bytes) ⊎ ((a : List ℕ) × (b : List ℕ) × (bytes ≡ a ++ (34 ∷ b)) × All not_quote a × (take (through_quote bytes) bytes ≡ a ++ (34 ∷ [])))

up_to_quote : (bytes : List ℕ) → ThroughQuote bytes
up_to_quote [] = inl refl
up_to_quote (x ∷ rest) = by_first (x == 34) refl (up_to_quote rest)
  where
    by_first : (b : Bool) → (x == 34) ≡ b → ThroughQuote rest → ThroughQuote (x ∷ rest)
    by_first true e h =
        let is : x ≡ 34 = grind (arith, nat_tests) in
        inr ([], rest, ap (λ y. y ∷ rest) is, tt, ap (λ b. take (cond b 1 (suc (through_quote rest))) (x ∷ rest)) e ∙ ap (λ y. y ∷ []) is)
    by_first false e (inl same) = inl (ap (λ b. take (cond b 1 (suc (through_quote rest))) (x ∷ rest)) e ∙ ap (λ l. x ∷ l) same)
    by_first false e (inr (a, b, is, all, same)) =
        inr (x ∷ a, b, ap (λ l. x ∷ l) is, (ap (λ k. not k) e, all), ap (λ k. take (cond k 1 (suc (through_quote rest))) (x ∷ rest)) e ∙ ap (λ l. x ∷ l) same)

-- what stands behind a quote goes up to the next one, and any bytes may stand behind that
abbrev Quotes : Part → Type 0
Quotes part =
    (bytes : List ℕ) (x : Value part) (n : ℕ) → StandsAs part (34 ∷ bytes) x n
    → (word : List ℕ) × (rest : List ℕ) × (bytes ≡ word ++ (34 ∷ rest)) × All not_quote word × ((others : List ℕ) → StandsAs part (34 ∷ (word ++ (34 ∷ others))) x n)

behind_quote : (part : Part) (bytes : List ℕ) → Quotes part → NoneBegins part (34 ∷ bytes) → NoneBegins part (34 ∷ take (through_quote bytes) bytes)
behind_quote part bytes quotes none = by_quote (up_to_quote bytes)
  where
    by_quote : ThroughQuote bytes → NoneBegins part (34 ∷ take (through_quote bytes) bytes)
    by_quote (inl same) = same_bytes part (34 ∷ take (through_quote bytes) bytes) (34 ∷ bytes) (ap (λ l. 34 ∷ l) same) none
    by_quote (inr (a, b, is, all, same)) =
        λ more x n stands.
        (let q = quotes (take (through_quote bytes) bytes ++ more) x n stands in
        let there : a ++ (34 ∷ more) ≡ q.0 ++ (34 ∷ q.1) = sym (append_more a (34 ∷ []) more) ∙ ap (λ l. l ++ more) (sym same) ∙ q.2 in
        let word = same_run not_quote a (34 ∷ more) q.0 (34 ∷ q.1) all refl q.3 refl there in
        none_here part (34 ∷ bytes) none x n (subst (λ l. StandsAs part (34 ∷ l) x n) (sym (is ∙ ap (λ l. l ++ (34 ∷ b)) word)) (q.4 b)))

abbrev first_byte : List ℕ → ℕ
first_byte [] = 0
first_byte (x ∷ rest) = x

-- it begins with a quote
abbrev BeginsQuoted : Part → Type 0
BeginsQuoted part = (bytes : List ℕ) (x : Value part) (n : ℕ) → StandsAs part bytes x n → first_byte bytes ≡ 34

quoted_through : (part : Part) (bytes : List ℕ) → Quotes part → BeginsQuoted part → NoneBegins part bytes → NoneBegins part (take (quoted_extent bytes) bytes)
quoted_through part [] quotes begins none = none
quoted_through part (x ∷ rest) quotes begins none = by_first (x == 34) refl
  where
    by_first : (b : Bool) → (x == 34) ≡ b → NoneBegins part (take (cond (x == 34) (suc (through_quote rest)) 1) (x ∷ rest))
    by_first true e =
        let is : x ≡ 34 = grind (arith, nat_tests) in
        let same : take (cond (x == 34) (suc (through_quote rest)) 1) (x ∷ rest) ≡ 34 ∷ take (through_quote rest) rest = ap (λ b. take (cond b (suc (through_quote rest)) 1) (x ∷ rest)) e ∙ ap (λ y. y ∷ take (through_quote rest) rest) is in
        same_bytes part (take (cond (x == 34) (suc (through_quote rest)) 1) (x ∷ rest)) (34 ∷ take (through_quote rest) rest) same (behind_quote part rest quotes (subst (λ y. NoneBegins part (y ∷ rest)) is none))
    by_first false e =
        same_bytes part (take (cond (x == 34) (suc (through_quote rest)) 1) (x ∷ rest)) (x ∷ []) (ap (λ b. take (cond b (suc (through_quote rest)) 1) (x ∷ rest)) e)
        (λ more y n stands. (let is : x ≡ 34 = begins (x ∷ more) y n stands in absurd (grind (arith, nat_tests))))

abbrev tail_of : List ℕ → List ℕ
tail_of [] = []
tail_of (x ∷ rest) = rest

-- ---- the parts in quotes

name_plain : (kind : Kind) → All not_quote (kind_name kind)
name_plain kinds.Bool = (refl, (refl, tt))
name_plain kinds.I8 = (refl, (refl, tt))
name_plain kinds.I16 = (refl, (refl, (refl, tt)))
name_plain kinds.I32 = (refl, (refl, (refl, tt)))
name_plain kinds.I64 = (refl, (refl, (refl, tt)))
name_plain kinds.Double = (refl, (refl, (refl, tt)))
name_plain kinds.Str = (refl, (refl, (refl, tt)))
name_plain kinds.Struct = (refl, (refl, (refl, tt)))
name_plain kinds.Map = (refl, (refl, (refl, tt)))
name_plain kinds.Set = (refl, (refl, (refl, tt)))
name_plain kinds.List = (refl, (refl, (refl, tt)))
name_plain kinds.Uuid = (refl, (refl, tt))

kind_quotes : Quotes kind_part
kind_quotes bytes kind n (rest, is, named, long) =
    let word = kind_name kind in
    (word, rest, ap tail_of (is ∙ quoted_append word rest), name_plain kind, (λ others. (others, sym (quoted_append word others), named, long)))

kind_begins : BeginsQuoted kind_part
kind_begins bytes kind n (rest, is, named, long) = ap first_byte is

int_plain : (x : ℕ) → is_int_byte x ≡ true → not_quote x ≡ true
int_plain x e = grind (arith, nat_tests)

number_plain_byte : (x : ℕ) → is_number_byte x ≡ true → not_quote x ≡ true
number_plain_byte x e = grind (arith, nat_tests)

symbol_plain : (x : ℕ) → is_symbol x ≡ true → not_quote x ≡ true
symbol_plain x e = grind (arith, nat_tests)

whole_quotes : (w : Whole) → Quotes (whole_part true w)
whole_quotes w bytes z n (digits, rest, is, spells, low, high, ends, long) = (
  digits,
  rest,
  ap tail_of (is ∙ quoted_append digits rest),
  all_map is_int_byte not_quote digits int_plain (int_passes z digits spells),
  (λ others. (digits, others, sym (quoted_append digits others), spells, low, high, (λ h. absurd (let wrong = h in cc)), long)),
)

whole_begins : (w : Whole) → BeginsQuoted (whole_part true w)
whole_begins w bytes z n (digits, rest, is, spells, low, high, ends, long) = ap first_byte is

word_plain : (word : List ℕ) → IsWord word → All not_quote word
word_plain word (inl e) = subst (All not_quote) (sym e) (refl, (refl, (refl, tt)))
word_plain word (inr (inl e)) = subst (All not_quote) (sym e) (refl, (refl, (refl, (refl, (refl, (refl, (refl, (refl, tt))))))))
word_plain word (inr (inr e)) = subst (All not_quote) (sym e) (refl, (refl, (refl, (refl, (refl, (refl, (refl, (refl, (refl, tt)))))))))

-- a number begins with no quote
number_begins : (digits rest bytes : List ℕ) → IsNumber digits → 34 ∷ bytes ≡ digits ++ rest → ⊥
number_begins digits rest bytes num is = by_first (number_first digits num)
  where
    by_first : ((x : ℕ) × (xs : List ℕ) × (digits ≡ x ∷ xs) × ((48 ≤ x) × (x ≤ 57))) ⊎ ((y : ℕ) × (ys : List ℕ) × (digits ≡ 45 ∷ y ∷ ys) × ((48 ≤ y) × (y ≤ 57))) → ⊥
    by_first (inl (x, xs, e, d)) = let same : 34 ≡ x = ap first_byte (is ∙ ap (λ l. l ++ rest) e) in omega (arith, same, d.0)
    by_first (inr (y, ys, e, d)) = let same : 34 ≡ 45 = ap first_byte (is ∙ ap (λ l. l ++ rest) e) in omega (arith, same)

double_quotes : (key : Bool) → Quotes (double_part key)
double_quotes key bytes digits n (token, rest, is, double, ends, long) = by_token key double
  where
    quoted_so : (k : Bool) → token ≡ quoted digits → ((k ≡ true) × IsNumber digits) ⊎ IsWord digits → All not_quote digits
        → (word : List ℕ) × (left : List ℕ) × (bytes ≡ word ++ (34 ∷ left)) × All not_quote word × ((others : List ℕ) → StandsAs (double_part k) (34 ∷ (word ++ (34 ∷ others))) digits n)
    quoted_so k same which all = (
      digits,
      rest,
      ap tail_of (is ∙ ap (λ t. t ++ rest) same ∙ quoted_append digits rest),
      all,
      (λ others. (quoted digits, others, sym (quoted_append digits others), again which, (λ e. absurd (not_quoted digits e)), long ∙ ap length same)),
    )
      where
        again : ((k ≡ true) × IsNumber digits) ⊎ IsWord digits → (IsNumber digits × (quoted digits ∷ [] ≡ number k digits ∷ [])) ⊎ (IsWord digits × (quoted digits ∷ [] ≡ quoted digits ∷ []))
        again (inl (e, num)) = inl (num, ap (λ b. number b digits ∷ []) (sym e))
        again (inr word) = inr (word, refl)

    by_token : (k : Bool) → (IsNumber digits × (token ∷ [] ≡ number k digits ∷ [])) ⊎ (IsWord digits × (token ∷ [] ≡ quoted digits ∷ []))
        → (word : List ℕ) × (left : List ℕ) × (bytes ≡ word ++ (34 ∷ left)) × All not_quote word × ((others : List ℕ) → StandsAs (double_part k) (34 ∷ (word ++ (34 ∷ others))) digits n)
    by_token true (inl (num, one)) = quoted_so true (one_same token (quoted digits) one) (inl (refl, num)) (all_map is_number_byte not_quote digits number_plain_byte (number_passes digits num))
    by_token false (inl (num, one)) = absurd (number_begins digits rest bytes num (is ∙ ap (λ t. t ++ rest) (one_same token digits one)))
    by_token k (inr (word, one)) = quoted_so k (one_same token (quoted digits) one) (inr word) (word_plain digits word)

double_begins : BeginsQuoted (double_part true)
double_begins bytes digits n (token, rest, is, inl (num, one), ends, long) = ap first_byte (is ∙ ap (λ t. t ++ rest) (one_same token (quoted digits) one))
double_begins bytes digits n (token, rest, is, inr (word, one), ends, long) = ap first_byte (is ∙ ap (λ t. t ++ rest) (one_same token (quoted digits) one))

padding_plain : (n : ℕ) → All not_quote (replicate n 61)
padding_plain zero = tt
padding_plain (suc n) = (refl, padding_plain n)

blob_quotes : Quotes blob_part
blob_quotes bytes meant n (front, rest, is, long, (padding, are, pads, spelled)) =
    let symbols = encode_symbols alphabet meant in
    let word = symbols ++ replicate padding 61 in
    let all = all_append not_quote symbols (replicate padding 61) (all_map is_symbol not_quote symbols symbol_plain (encoded_symbols meant are)) (padding_plain padding) in
    let closed : front ≡ quoted word = spelled ∙ ap (λ l. 34 ∷ l) (sym (append_more symbols (replicate padding 61) (34 ∷ []))) in (
      word,
      rest,
      ap tail_of (is ∙ ap (λ t. t ++ rest) closed ∙ quoted_append word rest),
      all,
      (λ others. (front, others, sym (quoted_append word others) ∙ ap (λ t. t ++ others) (sym closed), long, (padding, are, pads, spelled))),
    )

blob_begins : BeginsQuoted blob_part
blob_begins bytes meant n (front, rest, is, long, (padding, are, pads, spelled)) = ap first_byte (is ∙ ap (λ t. t ++ rest) spelled)

-- ---- a number, or a word

same_first : (front ys zs : List ℕ) (y : ℕ) → first_byte (front ++ (y ∷ ys)) ≡ first_byte (front ++ (y ∷ zs))
same_first [] ys zs y = refl
same_first (x ∷ front) ys zs y = refl

number_after : (bytes front : List ℕ) (y : ℕ) (ys more digits : List ℕ) (n : ℕ) → (first_byte bytes ≡ 34 → ⊥) → NoneBegins (double_part false) bytes → bytes ≡ front ++ (y ∷ ys) → All is_number_byte front → is_number_byte y ≡ false
    → StandsAs (double_part false) (front ++ (y ∷ more)) digits n → ⊥
number_after bytes front y ys more digits n unquoted none is all apart (token, rest, laid, inl (num, one), ends, long) =
    let own = one_same token digits one in
    let same = same_run is_number_byte front (y ∷ more) digits rest all apart (number_passes digits num) (apart_of is_number_byte rest (ends own)) (laid ∙ ap (λ t. t ++ rest) own) in
    none_here (double_part false) bytes none digits n (token, y ∷ ys, is ∙ ap (λ k. k ++ (y ∷ ys)) (same ∙ sym own), inl (num, one), (λ _. apart), long)
number_after bytes front y ys more digits n unquoted none is all apart (token, rest, laid, inr (word, one), ends, long) =
    let own = one_same token (quoted digits) one in
    unquoted (ap first_byte is ∙ same_first front ys more y ∙ ap first_byte (laid ∙ ap (λ t. t ++ rest) own))

number_through : (bytes : List ℕ) → (first_byte bytes ≡ 34 → ⊥) → NoneBegins (double_part false) bytes → NoneBegins (double_part false) (take (suc (prefix_len is_number_byte bytes)) bytes)
number_through bytes unquoted none = by_run (run_and_one is_number_byte bytes)
  where
    part : Part
    part = double_part false

    by_run : RunAndOne is_number_byte bytes → NoneBegins part (take (suc (prefix_len is_number_byte bytes)) bytes)
    by_run (inl same) = same_bytes part (take (suc (prefix_len is_number_byte bytes)) bytes) bytes same none
    by_run (inr (front, y, ys, is, all, apart, taken)) =
        λ more z n stands. number_after bytes front y ys more z n unquoted none is all apart (subst (λ b. StandsAs part b z n) (ap (λ b. b ++ more) taken ∙ append_more front (y ∷ []) more) stands)

double_through : (bytes : List ℕ) → NoneBegins (double_part false) bytes → NoneBegins (double_part false) (take (double_extent bytes) bytes)
double_through [] none = none
double_through (x ∷ rest) none = by_first (x == 34) refl
  where
    part : Part
    part = double_part false

    size : Bool → ℕ
    size b = cond b (suc (through_quote rest)) (suc (prefix_len is_number_byte (x ∷ rest)))

    by_first : (b : Bool) → (x == 34) ≡ b → NoneBegins part (take (cond (x == 34) (suc (through_quote rest)) (suc (prefix_len is_number_byte (x ∷ rest)))) (x ∷ rest))
    by_first true e =
        let is : x ≡ 34 = grind (arith, nat_tests) in
        let same : take (size (x == 34)) (x ∷ rest) ≡ 34 ∷ take (through_quote rest) rest = ap (λ b. take (size b) (x ∷ rest)) e ∙ ap (λ y. y ∷ take (through_quote rest) rest) is in
        same_bytes part (take (size (x == 34)) (x ∷ rest)) (34 ∷ take (through_quote rest) rest) same (behind_quote part rest (double_quotes false) (subst (λ y. NoneBegins part (y ∷ rest)) is none))
    by_first false e =
        same_bytes part (take (size (x == 34)) (x ∷ rest)) (take (suc (prefix_len is_number_byte (x ∷ rest))) (x ∷ rest)) (ap (λ b. take (size b) (x ∷ rest)) e)
        (number_through (x ∷ rest) (λ is. absurd (grind (arith, nat_tests))) none)

-- ---- the bytes of the part at fault

one_byte : (part : Part) (bytes : List ℕ) → ((x : ℕ) (rest more : List ℕ) (y : Value part) (n : ℕ) → StandsAs part (x ∷ more) y n → StandsAs part (x ∷ rest) y n) → NoneBegins part bytes → NoneBegins part (take 1 bytes)
one_byte part [] again none = none
one_byte part (x ∷ rest) again none = λ more y n stands. none_here part (x ∷ rest) none y n (again x rest more y n stands)

head_same : (x y : ℕ) (a b : List ℕ) → x ∷ a ≡ y ∷ b → x ≡ y
head_same x y a b e = ap first_byte e

pub none_through : (part : Part) (bytes : List ℕ) (inside : ℕ) → IsThere part bytes inside → NoneBegins part bytes → NoneBegins part (take (extent part bytes inside) bytes)
none_through (mark_part m) bytes inside there none =
    one_byte (mark_part m) bytes (λ x rest more y n stands. (rest, ap (λ z. z ∷ rest) (head_same x m more stands.0 stands.1), stands.2)) none
none_through (whole_part true w) bytes inside there none = quoted_through (whole_part true w) bytes (whole_quotes w) (whole_begins w) none
none_through (whole_part false w) bytes inside there none = int_through w bytes none
none_through kind_part bytes inside there none = quoted_through kind_part bytes kind_quotes kind_begins none
none_through (double_part true) bytes inside there none = quoted_through (double_part true) bytes (double_quotes true) double_begins none
none_through (double_part false) bytes inside there none = double_through bytes none
none_through text_part bytes inside (inl (at, nothing)) none =
    let test : (inside == 0) ≡ true = grind (arith, nat_tests) in
    same_bytes text_part (take (extent text_part bytes inside) bytes) (take 1 bytes) (ap (λ b. take (cond b 1 (inside + piece_size (drop inside bytes))) bytes) test) nothing
none_through text_part bytes inside (inr ((ps, rest, are, is, at), nothing)) none =
    let test : (inside == 0) ≡ false = grind (arith, nat_tests) in
    same_bytes text_part (take (extent text_part bytes inside) bytes) (take (inside + piece_size (drop inside bytes)) bytes) (ap (λ b. take (cond b 1 (inside + piece_size (drop inside bytes))) bytes) test) nothing
none_through blob_part bytes inside there none = quoted_through blob_part bytes blob_quotes blob_begins none
none_through (first_part m) bytes inside there none = one_byte (first_part m) bytes again none
  where
    again : (x : ℕ) (rest more : List ℕ) (y : Bool) (n : ℕ) → StandsAs (first_part m) (x ∷ more) y n → StandsAs (first_part m) (x ∷ rest) y n
    again x rest more y n (inl (others, is, c, long)) = inl (rest, ap (λ z. z ∷ rest) (head_same x 125 more others is), c, long)
    again x rest more y n (inr (others, is, c, long)) = inr (rest, ap (λ z. z ∷ rest) (head_same x m more others is), c, long)
none_through deep_part bytes inside there none = λ more x n stands. stands
none_through nameless_part bytes inside there none = λ more x n stands. stands
none_through end_part [] inside there none = none
none_through end_part (x ∷ rest) inside there none = λ more y n stands. (let wrong = stands.0 in absurd (cc))
