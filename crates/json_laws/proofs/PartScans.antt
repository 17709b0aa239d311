-- What each part's scan reads is the part, and a part that stands is read.
use Rattle.std.proofs.Common.{◌≡◌, ℕ, ℤ, Bool, true, false, cond, List, [], ◌∷◌, ◌++◌, length, take, drop, Ok, refl, ap, ◌∙◌, sym, subst, arith, inl, inr, length-append, length-take}
use Rattle.std.specs.Prelude.{◌==◌, if◌then◌else◌}
use Rattle.std.specs.List.{prefix_len}
use Rattle.std.proofs.lemmas.Bool.Decides.{nat_tests}
use Rattle.thrift_value.specs.declared.kind.Kind.{Kind}
use Rattle.protocol_traits.specs.declared.fault.Reason.TheVariants as reasons
use Rattle.json_text.specs.Int.{is_int_byte, int_at}
use Rattle.json_text.specs.Number.{is_number_byte, number_at}
use Rattle.json_text.specs.Text.{text_at}
use Rattle.json_text.specs.Blob.{blob_at}
use Rattle.json_text.specs.Grammar.{IsNumber}
use Rattle.json_text_laws.specs.Judged.{Judges, GoodInt, GoodNumber, GoodText, GoodBlob, IsRange}
use Rattle.json_text_laws.proofs.IntLaw.{int_judged}
use Rattle.json_text_laws.proofs.NumberLaw.{number_judged}
use Rattle.json_text_laws.proofs.TextLaw.{text_judged}
use Rattle.json_text_laws.proofs.BlobLaw.{good_read, whole_good}
use Rattle.json_text_laws.proofs.Parts.{Apart, parted, cut_len, drop_front}
use Rattle.json_protocol.specs.Scan.{Scan, fault, mark_at}
use Rattle.json_protocol.specs.Words.{kind_at, int_in, quoted_int_in, whole_in, number_in, double_in, text_in, blob_in}
use Rattle.json_protocol.specs.Writing.{quoted, number}
use Rattle.json_laws.specs.Plans.{Whole, version_number, type_number, id_number, size_number, flag_number, number_8, number_16, number_32, number_64, least, greatest, whole_reason, Part, mark_part, whole_part, kind_part, double_part, text_part, blob_part, first_part, deep_part, nameless_part, end_part, Value, EndsRun, StandsAs}
use Rattle.json_laws.proofs.Inverse.{is_read, same_read, no_fault, mark_back, Token, kind_back}
use Rattle.json_laws.proofs.Words.{IsIn, int_read, quoted_read, quoted_length, kind_read, none_more}
use Rattle.json_laws.proofs.WordsBack.{IsInt, int_back, quoted_back, item_back, IsDouble, spelled_back, double_back}
use Rattle.json_laws.proofs.Items.{IsPlain, by_plain, number_plain, number_first, number_double, word_double, one_same}
use Rattle.json_laws.proofs.ItemsBack.{range_flag, range_8, range_16, range_32, range_64, range_size}
use Rattle.json_laws.proofs.HeadBack.{range_version, range_type}

-- ---- the scans of the parts

abbrev pub first_scan : ℕ → List ℕ → Scan Bool
first_scan byte [] = fault 0 reasons.Truncated
first_scan byte (x ∷ rest) = if x == 125 then Ok (true, 1) else if x == byte then Ok (false, 0) else fault 0 reasons.BadToken

abbrev pub end_of : List ℕ → Scan (Unit {0})
end_of [] = Ok (tt, 0)
end_of (x ∷ rest) = fault 0 reasons.Trailing

abbrev pub scan_of : (part : Part) → List ℕ → Scan (Value part)
scan_of (mark_part byte) = mark_at byte
scan_of (whole_part key w) = whole_in key (whole_reason w) (least w) (greatest w)
scan_of kind_part = kind_at
scan_of (double_part key) = double_in key
scan_of text_part = text_in
scan_of blob_part = blob_in
scan_of (first_part byte) = first_scan byte
scan_of deep_part = λ bytes. fault 0 reasons.TooDeep
scan_of nameless_part = λ bytes. fault 0 reasons.BadKind
scan_of end_part = end_of

pub range_of : (w : Whole) → IsRange (least w) (greatest w)
range_of version_number = range_version
range_of type_number = range_type
range_of id_number = range_16
range_of size_number = range_size
range_of flag_number = range_flag
range_of number_8 = range_8
range_of number_16 = range_16
range_of number_32 = range_32
range_of number_64 = range_64

-- ---- runs

ends_of : (p : ℕ → Bool) (xs : List ℕ) → Apart p xs → EndsRun p xs
ends_of p [] h = tt
ends_of p (x ∷ xs) h = h

pub apart_of : (p : ℕ → Bool) (xs : List ℕ) → EndsRun p xs → Apart p xs
apart_of p [] h = tt
apart_of p (x ∷ xs) h = h

-- what stands behind the longest run
run_ends : (p : ℕ → Bool) (bytes front rest : List ℕ) → bytes ≡ front ++ rest → length (take (prefix_len p bytes) bytes) ≡ length front → EndsRun p rest
run_ends p bytes front rest is long =
    let q = parted p bytes in
    let own : prefix_len p bytes ≡ length q.front = ap (prefix_len p) q.joined ∙ cut_len p q.front q.rest q.all q.apart in
    let same : length q.front ≡ length front = omega (arith, own, long, length-take (prefix_len p bytes) bytes, ap length q.joined, length-append q.front q.rest) in
    let left : q.rest ≡ rest = sym (drop_front q.front q.rest) ∙ ap (drop (length q.front)) (sym q.joined) ∙ ap (λ n. drop n bytes) same ∙ ap (drop (length front)) is ∙ drop_front front rest in
    subst (EndsRun p) left (ends_of p q.rest q.apart)

-- ---- what is read stands

mark_stands : (m : ℕ) (bytes : List ℕ) (x : Unit {0}) (n : ℕ) → mark_at m bytes ≡ is_read (x, n) → StandsAs (mark_part m) bytes x n
mark_stands m bytes x n e =
    let t = mark_back m bytes x n e in
    (t.rest, t.laid ∙ ap (λ k. k ++ t.rest) t.is, t.long ∙ ap length t.is)

int_stands : (w : Whole) (bytes : List ℕ) (z : ℤ) (n : ℕ) → int_in (whole_reason w) (least w) (greatest w) bytes ≡ is_read (z, n) → StandsAs (whole_part false w) bytes z n
unfolding int_in
int_stands w bytes z n e =
    let range = range_of w in
    let t = int_back (whole_reason w) (least w) (greatest w) z bytes n range e in
    let good = subst (Judges (GoodInt (least w) (greatest w)) bytes) (item_back (whole_reason w) bytes (int_at (least w) (greatest w) bytes) z n e) (int_judged (least w) (greatest w) range bytes) in
    let ends = run_ends is_int_byte bytes t.token t.rest t.laid (sym good.0 ∙ t.long) in
    (t.token, t.rest, t.laid, t.is.spells, t.is.least, t.is.most, (λ _. ends), t.long)

quoted_stands : (w : Whole) (bytes : List ℕ) (z : ℤ) (n : ℕ) → quoted_int_in (whole_reason w) (least w) (greatest w) bytes ≡ is_read (z, n) → StandsAs (whole_part true w) bytes z n
quoted_stands w bytes z n e =
    let t = quoted_back (whole_reason w) (least w) (greatest w) z bytes n (range_of w) e in
    let word = t.is.0 in
    let own = t.is.1 in
    (word, t.rest, t.laid ∙ ap (λ k. k ++ t.rest) t.is.2, own.spells, own.least, own.most, (λ h. absurd (let wrong = h in cc)), t.long ∙ ap length t.is.2)

kind_stands : (bytes : List ℕ) (kind : Kind) (n : ℕ) → kind_at bytes ≡ is_read (kind, n) → StandsAs kind_part bytes kind n
kind_stands bytes kind n e =
    let t = kind_back bytes kind n e in
    (t.rest, t.laid ∙ ap (λ k. k ++ t.rest) t.is.0, t.is.1, t.long ∙ ap length t.is.0)

-- a number without quotes goes over its run
number_ends : (bytes digits rest other : List ℕ) (n : ℕ) → IsNumber digits → bytes ≡ digits ++ rest → n ≡ length digits → double_in false bytes ≡ is_read (other, n) → EndsRun is_number_byte rest
unfolding number_in
number_ends bytes digits rest other n num is long e =
    let plain : IsPlain bytes = subst IsPlain (sym is) (number_plain digits rest (number_first digits num)) in
    let s = spelled_back 0 bytes (number_in bytes) other n (sym (by_plain false bytes plain) ∙ e) in
    let good = subst (Judges GoodNumber bytes) (item_back reasons.BadNumber bytes (number_at bytes) s.0 n s.1) (number_judged bytes) in
    run_ends is_number_byte bytes digits rest is (sym good.0 ∙ sym good.1 ∙ long)

pub not_quoted : (digits : List ℕ) → quoted digits ≡ digits → ⊥
not_quoted digits e = omega (arith, ap length e, quoted_length digits)

double_stands : (key : Bool) (bytes digits : List ℕ) (n : ℕ) → double_in key bytes ≡ is_read (digits, n) → StandsAs (double_part key) bytes digits n
double_stands key bytes digits n e = by_token key e (double_back key bytes digits n e)
  where
    ends : (k : Bool) (token rest : List ℕ) → double_in k bytes ≡ is_read (digits, n) → bytes ≡ token ++ rest → n ≡ length token → IsDouble k digits token → token ≡ digits → EndsRun is_number_byte rest
    ends true token rest h is long (inl (num, one)) same = absurd (not_quoted digits (sym (one_same token (quoted digits) one) ∙ same))
    ends false token rest h is long (inl (num, one)) same = number_ends bytes digits rest digits n num (is ∙ ap (λ t. t ++ rest) same) (long ∙ ap length same) h
    ends k token rest h is long (inr (word, one)) same = absurd (not_quoted digits (sym (one_same token (quoted digits) one) ∙ same))

    by_token : (k : Bool) → double_in k bytes ≡ is_read (digits, n) → Token bytes n (IsDouble k digits) → StandsAs (double_part k) bytes digits n
    by_token k h t = (t.token, t.rest, t.laid, t.is, ends k t.token t.rest h t.laid t.long t.is, t.long)

text_stands : (bytes meant : List ℕ) (n : ℕ) → text_in bytes ≡ is_read (meant, n) → GoodText bytes meant n
unfolding text_in
text_stands bytes meant n e = ((text_judged bytes).0 meant n).0 (item_back reasons.BadString bytes (text_at bytes) meant n e)

blob_stands : (bytes meant : List ℕ) (n : ℕ) → blob_in bytes ≡ is_read (meant, n) → GoodBlob bytes meant n
unfolding blob_in
blob_stands bytes meant n e = whole_good bytes meant n (item_back reasons.BadBase64 bytes (blob_at bytes) meant n e)

first_stands : (byte : ℕ) (bytes : List ℕ) (closes : Bool) (n : ℕ) → first_scan byte bytes ≡ is_read (closes, n) → StandsAs (first_part byte) bytes closes n
first_stands byte [] closes n e = absurd (no_fault _ (closes, n) e)
first_stands byte (x ∷ rest) closes n e = by_brace (x == 125) refl e
  where
    by_byte : (b : Bool) → (x == byte) ≡ b → cond b (Ok (false, 0)) (fault 0 reasons.BadToken) ≡ is_read (closes, n) → StandsAs (first_part byte) (x ∷ rest) closes n
    by_byte true t h =
        let same = same_read false closes 0 n h in
        let is : x ≡ byte = grind (arith, nat_tests) in
        inr (rest, ap (λ y. y ∷ rest) is, sym same.0, sym same.1)
    by_byte false t h = absurd (no_fault _ (closes, n) h)

    by_brace : (b : Bool) → (x == 125) ≡ b → cond b (Ok (true, 1)) (cond (x == byte) (Ok (false, 0)) (fault 0 reasons.BadToken)) ≡ is_read (closes, n) → StandsAs (first_part byte) (x ∷ rest) closes n
    by_brace true t h =
        let same = same_read true closes 1 n h in
        let is : x ≡ 125 = grind (arith, nat_tests) in
        inl (rest, ap (λ y. y ∷ rest) is, sym same.0, sym same.1)
    by_brace false t h = by_byte (x == byte) refl h

end_stands : (bytes : List ℕ) (x : Unit {0}) (n : ℕ) → end_of bytes ≡ is_read (x, n) → StandsAs end_part bytes x n
end_stands [] x n e = (refl, sym (same_read tt x 0 n e).1)
end_stands (y ∷ rest) x n e = absurd (no_fault _ (x, n) e)

pub read_stands : (part : Part) (bytes : List ℕ) (x : Value part) (n : ℕ) → scan_of part bytes ≡ is_read (x, n) → StandsAs part bytes x n
read_stands (mark_part m) bytes x n e = mark_stands m bytes x n e
read_stands (whole_part true w) bytes x n e = quoted_stands w bytes x n e
read_stands (whole_part false w) bytes x n e = int_stands w bytes x n e
read_stands kind_part bytes x n e = kind_stands bytes x n e
read_stands (double_part key) bytes x n e = double_stands key bytes x n e
read_stands text_part bytes x n e = text_stands bytes x n e
read_stands blob_part bytes x n e = blob_stands bytes x n e
read_stands (first_part byte) bytes x n e = first_stands byte bytes x n e
read_stands deep_part bytes x n e = absurd (no_fault _ (x, n) e)
read_stands nameless_part bytes x n e = absurd (no_fault _ (x, n) e)
read_stands end_part bytes x n e = end_stands bytes x n e

-- ---- what stands is read

mark_reads : (m : ℕ) (rest : List ℕ) → mark_at m (m ∷ rest) ≡ is_read (tt, 1)
unfolding mark_at
mark_reads m rest = grind (arith, nat_tests)

in_range : (w : Whole) (z : ℤ) (digits : List ℕ) → IsInt (least w) (greatest w) z digits → IsIn (least w) (greatest w) z digits
in_range w z digits i =
    let r = range_of w in
    let low = r.least in
    let high = r.most in
    let a = i.least in
    let b = i.most in
    record { spells = i.spells; least = i.least; most = i.most; fits = (grind (arith, nat_tests), grind (arith, nat_tests)) }

whole_reads : (key : Bool) (w : Whole) (bytes : List ℕ) (z : ℤ) (n : ℕ) → StandsAs (whole_part key w) bytes z n → whole_in key (whole_reason w) (least w) (greatest w) bytes ≡ is_read (z, n)
whole_reads true w bytes z n (digits, rest, is, spells, low, high, ends, long) =
    let i = in_range w z digits (record { spells = spells; least = low; most = high }) in
    ap (quoted_int_in (whole_reason w) (least w) (greatest w)) is ∙ quoted_read (whole_reason w) (least w) (greatest w) z digits rest i ∙ ap (λ k. is_read (z, k)) (sym long)
whole_reads false w bytes z n (digits, rest, is, spells, low, high, ends, long) =
    let i = in_range w z digits (record { spells = spells; least = low; most = high }) in
    ap (int_in (whole_reason w) (least w) (greatest w)) is ∙ int_read (whole_reason w) (least w) (greatest w) z digits rest i (apart_of is_int_byte rest (ends refl)) ∙ ap (λ k. is_read (z, k)) (sym long)

double_reads : (key : Bool) (bytes digits : List ℕ) (n : ℕ) → StandsAs (double_part key) bytes digits n → double_in key bytes ≡ is_read (digits, n)
double_reads key bytes digits n (token, rest, is, double, ends, long) = ap (double_in key) is ∙ by_token double ∙ ap (λ k. is_read (digits, k)) (sym long)
  where
    plain : (k : Bool) → token ≡ number k digits → k ≡ false → Apart is_number_byte rest
    plain true same h = absurd (let wrong = h in cc)
    plain false same h = apart_of is_number_byte rest (ends same)

    by_token : IsDouble key digits token → double_in key (token ++ rest) ≡ is_read (digits, length token)
    by_token (inl (num, one)) =
        let same = one_same token (number key digits) one in
        ap (λ t. double_in key (t ++ rest)) same ∙ number_double key digits rest num (plain key same) ∙ ap (λ t. is_read (digits, length t)) (sym same)
    by_token (inr (word, one)) =
        let same = one_same token (quoted digits) one in
        ap (λ t. double_in key (t ++ rest)) same ∙ word_double key digits rest word ∙ ap (λ t. is_read (digits, length t)) (sym same)

text_reads : (bytes meant : List ℕ) (n : ℕ) → GoodText bytes meant n → text_in bytes ≡ is_read (meant, n)
unfolding text_in
text_reads bytes meant n good = none_more reasons.BadString bytes (text_at bytes) meant n (((text_judged bytes).0 meant n).1 good)

blob_reads : (bytes meant : List ℕ) (n : ℕ) → GoodBlob bytes meant n → blob_in bytes ≡ is_read (meant, n)
unfolding blob_in
blob_reads bytes meant n good = none_more reasons.BadBase64 bytes (blob_at bytes) meant n (good_read bytes meant n good)

-- a byte of its own, that closes nothing
abbrev pub IsProper : Part → Type 0
IsProper (first_part byte) = (byte == 125) ≡ false
IsProper part = Unit {0}

first_reads : (byte : ℕ) (bytes : List ℕ) (closes : Bool) (n : ℕ) → (byte == 125) ≡ false → StandsAs (first_part byte) bytes closes n → first_scan byte bytes ≡ is_read (closes, n)
first_reads byte bytes closes n other (inl (rest, is, c, long)) = ap (first_scan byte) is ∙ ap (λ k. is_read (k, 1)) (sym c) ∙ ap (λ k. is_read (closes, k)) (sym long)
first_reads byte bytes closes n other (inr (rest, is, c, long)) =
    ap (first_scan byte) is ∙ ap (λ b. cond b (Ok (true, 1)) (cond (byte == byte) (Ok (false, 0)) (fault 0 reasons.BadToken))) other ∙ ap (λ b. cond b (Ok (false, 0)) (fault 0 reasons.BadToken)) same
    ∙ ap (λ k. is_read (k, 0)) (sym c) ∙ ap (λ k. is_read (closes, k)) (sym long)
  where
    same : (byte == byte) ≡ true
    same = grind (arith, nat_tests)

pub stands_read : (part : Part) (bytes : List ℕ) (x : Value part) (n : ℕ) → IsProper part → StandsAs part bytes x n → scan_of part bytes ≡ is_read (x, n)
stands_read (mark_part m) bytes x n p (rest, is, long) = ap (mark_at m) is ∙ mark_reads m rest ∙ ap (λ k. is_read (tt, k)) (sym long)
stands_read (whole_part key w) bytes x n p s = whole_reads key w bytes x n s
stands_read kind_part bytes x n p (rest, is, named, long) = ap kind_at is ∙ kind_read x rest named ∙ ap (λ k. is_read (x, k)) (sym long)
stands_read (double_part key) bytes x n p s = double_reads key bytes x n s
stands_read text_part bytes x n p s = text_reads bytes x n s
stands_read blob_part bytes x n p s = blob_reads bytes x n s
stands_read (first_part byte) bytes x n p s = first_reads byte bytes x n p s
stands_read deep_part bytes x n p s = absurd s
stands_read nameless_part bytes x n p s = absurd s
stands_read end_part bytes x n p (is, long) = ap end_of is ∙ ap (λ k. is_read (tt, k)) (sym long)
