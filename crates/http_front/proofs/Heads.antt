-- A head at the front of what is held, by what is read of the first bytes.
use Rattle.std.proofs.Common.{◌≡◌, ◌≢◌, ℕ, ◌+◌, ◌-◌, ◌*◌, ◌≤◌, ◌<◌, ◌⊎◌, inl, inr, List, [], ◌∷◌, ◌++◌, length, take, drop, min, map, Bool, true, false, true≢false, Some, None, Result, Err, ap, sym, ◌∙◌, subst, refl, arith, append_assoc, length-append, length-take, ◌&&◌, if◌then◌else◌, ◌==◌, leb-true, eqb-true, eq-eqb}
use Rattle.std.specs.Str.Parse.{digits_value}
use Rattle.std.proofs.lemmas.Bool.{cases_lt}
use Rattle.std.proofs.lemmas.Option.{same_Some}
use Rattle.std.proofs.lemmas.List.{take-append-drop, take_all, drop_at}
use Rattle.std.proofs.Math.Seq.{take-append-add}
use Rattle.httparse.specs.declared.spans.HeaderSpan.{HeaderSpan}
use Rattle.httparse.specs.declared.spans.RequestSpans.{RequestSpans}
use Rattle.std.specs.List.{flat_map}
use Rattle.httparse.specs.declared.Status.{Status}
use Rattle.httparse.specs.declared.Error.{Error}
use Rattle.httparse.specs.declared.Error.TheVariants.{TooManyHeaders}
use Rattle.httparse.specs.Ascii.{space, colon}
use Rattle.httparse.specs.Spans.{IsRequestAt, RequestExceeds, header_bytes, span_bytes}
use Rattle.httparse.specs.Grammar.{LineEnd, crlf, lf, print_end, print_blank, print_version, print_section, Field, print_field, RequestHead, print_request, ReadsRequest, HasNoRequest, NeverHasRequest}
use Rattle.http_front.specs.Heads.{head_limit, length_within, told_length, body_by, body_length, ends_by, is_last, fields_of}
use Rattle.http_front.specs.Posts.{IsBad, Refused, Hopeless, TooLong}
use Rattle.http_front.specs.Reading.{IsRefused, ReadsHead, ReadsFront, FindsHead, part_of}
use Rattle.http_front.specs.declared.head.Head.{Head}
use Rattle.http_front.specs.declared.head.Head.TheVariants as heads

-- a head of the first bytes is a head of all
pub lifts : (bytes window : List ℕ) (n : ℕ) (h : RequestHead) (rest : List ℕ) → window ≡ take n bytes → ReadsRequest window h rest → ReadsRequest bytes h (rest ++ drop n bytes)
lifts bytes window n h rest is (head, reads) =
    (head, sym (take-append-drop n bytes) ∙ (ap (λ (front : List ℕ). front ++ drop n bytes) (sym is ∙ reads) ∙ append_assoc (print_request h) rest (drop n bytes)))

-- and a short head of all is one of the first bytes
pub lowers : (bytes window : List ℕ) (n : ℕ) (h : RequestHead) (rest : List ℕ) → window ≡ take n bytes → length (print_request h) ≤ n → ReadsRequest bytes h rest → ReadsRequest window h (take (n - length (print_request h)) rest)
lowers bytes window n h rest is short (head, reads) =
    (head, is ∙ (ap (take n) reads ∙ (ap (λ (k : ℕ). take k (print_request h ++ rest)) (sum (length (print_request h)) n short) ∙ take-append-add (print_request h) rest (n - length (print_request h)))))
  where
    sum : (m n : ℕ) → m ≤ n → n ≡ m + (n - m)
    sum m n le = omega (arith, le)

pub never : (bytes window : List ℕ) (n : ℕ) → window ≡ take n bytes → NeverHasRequest window → NeverHasRequest bytes
never bytes window n is none more =
    subst HasNoRequest (sym (append_assoc window (drop n bytes) more) ∙ ap (λ (all : List ℕ). all ++ more) (ap (λ (front : List ℕ). front ++ drop n bytes) is ∙ take-append-drop n bytes)) (none (drop n bytes ++ more))

pub bad_front : (limit : ℕ) (bytes window : List ℕ) (n : ℕ) → window ≡ take n bytes → length window ≤ head_limit → IsRefused limit window ⊎ NeverHasRequest window → IsBad limit bytes
bad_front limit bytes window n is short (inl (h, (rest, reads), none)) = Refused h (rest ++ drop n bytes) (lifts bytes window n h rest is reads) (within window h rest reads short) none
  where
    within : (window : List ℕ) (h : RequestHead) (rest : List ℕ) → ReadsRequest window h rest → length window ≤ head_limit → length (print_request h) ≤ head_limit
    within window h rest reads short = omega (arith, short, ap length reads.1, length-append (print_request h) rest)
bad_front limit bytes window n is short (inr none) = Hopeless (never bytes window n is none)

pub too_long : (limit : ℕ) (bytes window : List ℕ) → window ≡ take head_limit bytes → length window ≡ head_limit → HasNoRequest window → IsBad limit bytes
too_long limit bytes window is full none = TooLong (long bytes window is full) (λ h rest reads. by h rest reads (cases_lt head_limit (length (print_request h))))
  where
    long : (bytes window : List ℕ) → window ≡ take head_limit bytes → length window ≡ head_limit → head_limit ≤ length bytes
    long bytes window is full = omega (arith, full, ap length is, length-take head_limit bytes)

    by : (h : RequestHead) (rest : List ℕ) → ReadsRequest bytes h rest → (head_limit < length (print_request h)) ⊎ (length (print_request h) ≤ head_limit) → head_limit < length (print_request h)
    by h rest reads (inl more) = more
    by h rest reads (inr short) = absurd (none h _ (lowers bytes window head_limit h rest is short reads))

-- ---- a whole head by its spans

pub body_at : (limit : ℕ) (bytes : List ℕ) (headers : List HeaderSpan) (spans : RequestSpans) (h : RequestHead) (method : List ℕ) (fields : List HeaderSpan) → IsRequestAt bytes headers spans h
    → method ≡ span_bytes bytes spans.method → fields ≡ take spans.headers headers → body_by limit method (map (header_bytes bytes) fields) ≡ body_length limit h
unfolding body_length
body_at limit bytes headers spans h method fields at m f =
    ap (λ (x : List ℕ). body_by limit x (map (header_bytes bytes) fields)) (m ∙ at.method)
    ∙ ap (body_by limit h.method) (ap (map (header_bytes bytes)) f ∙ at.fields)

pub last_at : (bytes : List ℕ) (headers : List HeaderSpan) (spans : RequestSpans) (h : RequestHead) (fields : List HeaderSpan) → IsRequestAt bytes headers spans h
    → fields ≡ take spans.headers headers → ends_by spans.version (map (header_bytes bytes) fields) ≡ is_last h
unfolding is_last
last_at bytes headers spans h fields at f =
    ap (λ (n : ℕ). ends_by n (map (header_bytes bytes) fields)) at.version
    ∙ ap (ends_by h.minor) (ap (map (header_bytes bytes)) f ∙ at.fields)

pub judged_bad : (limit : ℕ) (bytes : List ℕ) (headers : List HeaderSpan) (spans : RequestSpans) (h : RequestHead) (method : List ℕ) (fields : List HeaderSpan) → IsRequestAt bytes headers spans h
    → method ≡ span_bytes bytes spans.method → fields ≡ take spans.headers headers → None ≡ body_by limit method (map (header_bytes bytes) fields) → ReadsHead limit bytes heads.Bad
judged_bad limit bytes headers spans h method fields at m f none =
    inl (h, (_, at.reads), sym (none ∙ body_at limit bytes headers spans h method fields at m f))

pub judged_post : (limit : ℕ) (bytes : List ℕ) (headers : List HeaderSpan) (spans : RequestSpans) (h : RequestHead) (method : List ℕ) (fields : List HeaderSpan) (body : ℕ) (last : Bool) → IsRequestAt bytes headers spans h
    → spans.len ≤ length bytes → method ≡ span_bytes bytes spans.method → fields ≡ take spans.headers headers → Some body ≡ body_by limit method (map (header_bytes bytes) fields)
    → last ≡ ends_by spans.version (map (header_bytes bytes) fields) → ReadsHead limit bytes (heads.Post spans.len body last)
judged_post limit bytes headers spans h method fields body last at within m f some is =
    (h, at.reads, at.len, within, sym (some ∙ body_at limit bytes headers spans h method fields at m f), is ∙ last_at bytes headers spans h fields at f)

when_some : (t : Bool) (n : ℕ) (body : ℕ) → (if t then Some n else None) ≡ Some body → (t ≡ true) × (n ≡ body)
when_some true n body is = (refl, same_Some n body is)
when_some false n body is = absurd (none_some is)
  where
    none_some : None ≡ Some body → ⊥
    none_some e = grind arith

length_small : (limit body : ℕ) (digits : List ℕ) → length_within limit digits ≡ Some body → body ≤ limit
unfolding length_within
length_small limit body digits is =
    let x = when_some _ (digits_value 10 digits) body is in
    subst (λ (n : ℕ). n ≤ limit) x.1 (leb-true (digits_value 10 digits) limit (and_right _ _ x.0))
  where
    and_right : (a b : Bool) → (a && b) ≡ true → b ≡ true
    and_right true b is = is
    and_right false b is = absurd (true≢false (sym is))

told_small : (limit body : ℕ) (values : List (List ℕ)) → told_length limit values ≡ Some body → body ≤ limit
told_small limit body [] is = grind arith
told_small limit body (value ∷ []) is = length_small limit body value is
told_small limit body (value ∷ second ∷ more) is = grind arith

by_small : (t : Bool) (limit body : ℕ) (values : List (List ℕ)) → (if t then told_length limit values else None) ≡ Some body → body ≤ limit
by_small true limit body values is = told_small limit body values is
by_small false limit body values is = grind arith

within_by : (limit : ℕ) (method : List ℕ) (fields : List (List ℕ × List ℕ)) (body : ℕ) → body_by limit method fields ≡ Some body → body ≤ limit
within_by limit method fields body is = by_small _ limit body _ is

body_within : (limit : ℕ) (h : RequestHead) (body : ℕ) → body_length limit h ≡ Some body → body ≤ limit
unfolding body_length
body_within limit h body some = within_by limit h.method (fields_of h) body some

-- a good head at the front of the first bytes
pub good_front : (limit : ℕ) (bytes window : List ℕ) (n size body : ℕ) (last : Bool) → window ≡ take n bytes → length window ≤ head_limit → ReadsFront limit window (heads.Post size body last) → FindsHead limit bytes (heads.Post size body last)
good_front limit bytes window n size body last is short (h, reads, len, within, some, ends) =
    let all : ReadsRequest bytes h (drop size window ++ drop n bytes) = lifts bytes window n h (drop size window) is reads in (
      h,
      record { is = reads.0; short = omega (arith, sym len, within, short); length = some },
      all.1 ∙ ap (λ (rest : List ℕ). print_request h ++ rest) (sym (ap (drop size) all.1 ∙ drop_at (print_request h) (drop size window ++ drop n bytes) size (sym len))),
      len,
      omega (arith, within, ap length is, length-take n bytes),
      body_within limit h body some,
      ends,
    )

-- ---- more fields than there is room for

field_long : (f : Field) → 2 ≤ length (print_field f)
field_long f = omega (arith, length-append (f.name ++ colon ∷ f.raw) (print_end f.end), length-append f.name (colon ∷ f.raw), end_some f.end)
  where
    end_some : (end : LineEnd) → 1 ≤ length (print_end end)
    end_some crlf = omega arith
    end_some lf = omega arith

fields_long : (fields : List Field) → 2 * length fields ≤ length (flat_map print_field fields)
fields_long [] = omega arith
fields_long (f ∷ fields) = omega (arith, field_long f, fields_long fields, length-append (print_field f) (flat_map print_field fields))

head_long : (h : RequestHead) → 2 * length h.fields ≤ length (print_request h)
unfolding print_request
head_long h = omega (
  arith,
  fields_long h.fields,
  length-append (print_blank h.blank ++ h.method ++ space ∷ h.target ++ space ∷ print_version h.minor ++ print_end h.line_end) (print_section h.fields h.last),
  length-append (flat_map print_field h.fields) (print_end h.last),
)

-- a head isn't empty
pub head_some : (h : RequestHead) → 0 < length (print_request h)
unfolding print_request
head_some h = omega (
  arith,
  end_some h.last,
  length-append (print_blank h.blank ++ h.method ++ space ∷ h.target ++ space ∷ print_version h.minor ++ print_end h.line_end) (print_section h.fields h.last),
  length-append (flat_map print_field h.fields) (print_end h.last),
)
  where
    end_some : (end : LineEnd) → 1 ≤ length (print_end end)
    end_some crlf = omega arith
    end_some lf = omega arith

pub few_fields : (bytes : List ℕ) → length bytes ≤ head_limit → RequestExceeds 4096 bytes → ⊥
few_fields bytes short (front, after, cut, h, reads, over) =
    absurd (omega (arith, short, over, head_long h, ap length cut, length-append front after, ap length reads.1, length-append front (print_end lf), length-append (print_request h) []))

-- an error of the parser other than for want of room, of which there is enough
pub refused_never : (bytes : List ℕ) (room : ℕ) (e : Error) → length bytes ≤ head_limit → room ≡ 4096 → (e ≢ TooManyHeaders → NeverHasRequest bytes) → (◌≡◌ {A = Result (Status RequestSpans) Error} (Err e) (Err TooManyHeaders) → RequestExceeds room bytes) → NeverHasRequest bytes
refused_never bytes room e short enough invalid too_many = invalid (λ is. few_fields bytes short (subst (λ (n : ℕ). RequestExceeds n bytes) enough (too_many (ap Err is))))

-- ---- the first bytes

pub take_min : (xs : List ℕ) (n m : ℕ) → m ≡ min (length xs) n → take m xs ≡ take n xs
take_min xs n m is = by (cases_lt n (length xs))
  where
    by : (n < length xs) ⊎ (length xs ≤ n) → take m xs ≡ take n xs
    by (inl less) =
        let same : m ≡ n = omega (arith, is, less) in
        ap (λ (k : ℕ). take k xs) same
    by (inr more) = take_all m xs (omega (arith, is, more)) ∙ sym (take_all n xs more)

short_front : (bytes window : List ℕ) → window ≡ take head_limit bytes → (length window ≡ head_limit → ⊥) → (length bytes < head_limit) × (window ≡ bytes)
short_front bytes window is part = by (cases_lt (length bytes) head_limit)
  where
    by : (length bytes < head_limit) ⊎ (head_limit ≤ length bytes) → (length bytes < head_limit) × (window ≡ bytes)
    by (inl less) = (less, is ∙ take_all head_limit bytes (omega (arith, less)))
    by (inr more) =
        let full : length window ≡ head_limit = ap length is ∙ (length-take head_limit bytes ∙ omega (arith, more)) in
        absurd (part full)

pub part_front : (limit : ℕ) (bytes window : List ℕ) (head : Head) → window ≡ take head_limit bytes → HasNoRequest window → head ≡ part_of (length window) → FindsHead limit bytes head
part_front limit bytes window head is none which = subst (λ (h : Head). FindsHead limit bytes h) (sym which) (by (length window == head_limit) refl)
  where
    by : (t : Bool) → (length window == head_limit) ≡ t → FindsHead limit bytes (if t then heads.Bad else heads.Part)
    by true e = too_long limit bytes window is (eqb-true (length window) head_limit e) none
    by false e =
        let s = short_front bytes window is (λ full. absurd (true≢false (sym (eq-eqb (length window) head_limit full) ∙ e))) in
        (s.0, subst HasNoRequest s.1 none)

pub window_short : (bytes : List ℕ) (m : ℕ) → m ≡ min (length bytes) head_limit → length (take m bytes) ≤ head_limit
window_short bytes m is = omega (arith, is, length-take m bytes)
