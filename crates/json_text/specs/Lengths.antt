-- How long the spellings of texts and bytes are, how many bytes base64 and numbers take, and the range of integers.
use Rattle.std.proofs.Common.{◌≡◌, ℕ, ℤ, ◌+◌, ◌*◌, ◌/◌, ◌%◌, ◌≤◌, ◌≤ℤ◌, Bool, true, false, cond, List, [], ◌∷◌, length, take, drop, Option, Some, None, Ok, Err, refl, ap, ◌∙◌, subst, arith, length-drop, length-take, length-append}
use Rattle.std.specs.Prelude.{nat_lt, nat_le, slice_index, ◌==◌, ◌||◌, int_lt}
use Rattle.std.specs.Result.{result_ok}
use Rattle.std.specs.List.{prefix_len}
use Rattle.std.proofs.lemmas.Bool.{cond_both}
use Rattle.std.proofs.lemmas.Bool.Decides.{nat_tests}
use Rattle.base64.specs.declared.decode.DecodeError.{DecodeError}
use Rattle.base64.specs.Decode.{groups_bytes, groups_before_last, suffix_bytes, scan_bytes, scan_last, leftover_bytes, decode_outcome}
use Rattle.base64.specs.Engines.{standard_no_pad}
use Rattle.base64.specs.GeneralPurpose.{decoded_of, decoded_bytes_of}
use Rattle.base64.proofs.Decoding.{length-groups_bytes}
use Rattle.base64.proofs.Canonical.{decoded_bytes-nil}
use Rattle.base64.proofs.RoundTrip.{length-encode_symbols}
use Rattle.json_text.specs.declared.scanned.Scan.{Scan}
use Rattle.json_text.specs.declared.scanned.Scan.TheVariants.{Whole, Short, Bad}
use Rattle.json_text.specs.declared.number.Form.{Form}
use Rattle.json_text.specs.declared.number.Form.TheVariants.{Number, Front, Other}
use Rattle.json_text.specs.Plain.{byte_spelling, pieces_spelling, text_spelling}
use Rattle.json_text.specs.Int.{int_run, integer, within, run_scan, int_at, IsBetween}
use Rattle.json_text.specs.Number.{number_in, unsigned_in, number_run, form_scan, number_at}
use Rattle.json_text.specs.Blob.{is_padding, symbols_in, decoded, closed_by, open_by, is_padded, blob_of, blob_at, symbols_of, blob_spelling}
use Rattle.json_text.specs.Laws.{Takes}

-- ---- what is written

byte_long : (x : ℕ) → length (byte_spelling x) ≤ 6
unfolding byte_spelling
byte_long x = grind (arith, nat_tests)

pieces_long : (bytes : List ℕ) → length (pieces_spelling bytes) ≤ 6 * length bytes
unfolding pieces_spelling
pieces_long [] = omega arith
pieces_long (x ∷ xs) = let e = length-append (byte_spelling x) (pieces_spelling xs) in let b = byte_long x in let p = pieces_long xs in omega arith

-- a text is spelled in at most six bytes a byte and two quotes
pub text_long : (bytes : List ℕ) → length (text_spelling bytes) ≤ 6 * length bytes + 2
unfolding text_spelling
text_long bytes = let e = length-append (pieces_spelling bytes) (34 ∷ []) in let p = pieces_long bytes in omega arith

pub symbols_long : (bytes : List ℕ) → length (symbols_of bytes) ≡ (4 * length bytes + 2) / 3
unfolding symbols_of
symbols_long bytes = length-append _ [] ∙ omega (arith, length-encode_symbols standard_no_pad.encode_table bytes)

-- base64 is spelled in four bytes for three, and two quotes
pub blob_long : (bytes : List ℕ) → length (blob_spelling bytes) ≡ (4 * length bytes + 2) / 3 + 2
unfolding blob_spelling
blob_long bytes = let e = length-append (symbols_of bytes) (34 ∷ []) in let p = symbols_long bytes in omega arith

-- ---- what is read

leftover_long : (st : _) → length (leftover_bytes st) ≤ 3
leftover_long st = omega (arith, length-take {A = ℕ})

scanned_long : (scan : _) → length (scan_bytes scan) ≤ 3
scanned_long (Ok st) = leftover_long st
scanned_long (Err e) = omega arith

bytes_long : (s : List ℕ) → length (decoded_bytes_of standard_no_pad s) ≤ length s + 2
bytes_long [] = omega (arith, ap length (decoded_bytes-nil standard_no_pad.decode_table 61))
bytes_long (x ∷ xs) =
    let s = x ∷ xs in
    let q = groups_before_last (length s) in
    let g = length-groups_bytes standard_no_pad.decode_table s q in
    let l = scanned_long (scan_last standard_no_pad.decode_table 61 (4 * q) s) in
    let a = length-append (groups_bytes standard_no_pad.decode_table s q) (suffix_bytes standard_no_pad.decode_table 61 (4 * q) s) in
    omega arith

outcome_long : (found : Option DecodeError) (bytes b : List ℕ) (size : ℕ) → length bytes ≤ size → result_ok (decode_outcome found bytes) ≡ Some b → length b ≤ size
outcome_long None bytes b size h e = let same : bytes ≡ b = cc in subst (λ l. length l ≤ size) same h
outcome_long (Some f) bytes b size h e = absurd (cc)

cut_long : (test : Bool) (found : Option (List ℕ)) (b : List ℕ) → cond test None found ≡ Some b → found ≡ Some b
cut_long true found b e = absurd (cc)
cut_long false found b e = e

pub decoded_long : (s b : List ℕ) → decoded s ≡ Some b → length b ≤ length s + 2
unfolding decoded decoded_of
decoded_long s b e = outcome_long _ (decoded_bytes_of standard_no_pad s) b (length s + 2) (bytes_long s) (cut_long (length s % 4 == 1) _ b e)

-- the bytes are no more than those that spell them, with the quotes
abbrev pub BlobFits : ℕ → Scan (List ℕ) → Type 0
BlobFits size (Whole b after) = (length b ≤ after) × (2 ≤ after) × (after ≤ size)
BlobFits size Short = Unit {0}
BlobFits size (Bad place) = Unit {0}

closed_fits : (size symbols padding : ℕ) (found : Option (List ℕ)) → ((b : List ℕ) → found ≡ Some b → length b ≤ symbols + 2) → symbols + padding + 2 ≤ size → BlobFits size (closed_by symbols padding found)
closed_fits size symbols padding None h most = tt
closed_fits size symbols padding (Some b) h most =
    cond_both (is_padded symbols padding) (Whole b (symbols + padding + 2)) (Bad 0) (BlobFits size) (λ _. (let l = h b refl in omega arith, omega arith, most)) (λ _. tt)

either_short : (size : ℕ) (b : Bool) → BlobFits size (cond b Short (Bad 0))
either_short size true = tt
either_short size false = tt

open_fits : (size symbols padding : ℕ) (found : Option (List ℕ)) → BlobFits size (open_by symbols padding found)
open_fits size symbols padding None = either_short size _
open_fits size symbols padding (Some b) = either_short size _

front_long : (n : ℕ) (content b : List ℕ) → decoded (take n content) ≡ Some b → length b ≤ n + 2
front_long n content b e = let l = decoded_long (take n content) b e in omega (arith, length-take n content)

content_fits : (content : List ℕ) (symbols padding : ℕ) → BlobFits (1 + length content) (blob_of content symbols padding)
content_fits content symbols padding =
    let found = decoded (take symbols content) in
    let closed = cond (slice_index content (symbols + padding) == 34) (closed_by symbols padding found) (Bad 0) in
    cond_both (nat_le (length content) (symbols + padding)) (open_by symbols padding found) closed (BlobFits (1 + length content)) (λ _. open_fits (1 + length content) symbols padding found) (λ e.
    cond_both (slice_index content (symbols + padding) == 34) (closed_by symbols padding found) (Bad 0) (BlobFits (1 + length content))
    (λ _. closed_fits (1 + length content) symbols padding found (front_long symbols content) (grind (arith, nat_tests))) (λ _. tt))

pub blob_fits : (bytes : List ℕ) → BlobFits (length bytes) (blob_at bytes)
unfolding blob_at
blob_fits bytes =
    let content = drop 1 bytes in
    let pieces = blob_of content (symbols_in content) (prefix_len is_padding (drop (symbols_in content) content)) in
    cond_both (nat_lt (length bytes) 1) Short (cond (slice_index bytes 0 == 34) pieces (Bad 0)) (BlobFits (length bytes)) (λ _. tt) (λ some.
    cond_both (slice_index bytes 0 == 34) pieces (Bad 0) (BlobFits (length bytes))
    (λ _. let all : 1 + length content ≡ length bytes = grind (arith, nat_tests, length-drop {A = ℕ}) in subst (λ n. BlobFits n pieces) all (content_fits content _ _)) (λ _. tt))

-- ---- the range of an integer

tested : (low high v x : ℤ) (b : Bool) → (int_lt v low || int_lt high v) ≡ b → cond b None (Some v) ≡ Some x → (low ≤ℤ x) × (x ≤ℤ high)
tested low high v x true e f = absurd (cc)
tested low high v x false e f = let same : v ≡ x = cc in subst (λ z. (low ≤ℤ z) × (z ≤ℤ high)) same (grind (arith, nat_tests), grind (arith, nat_tests))

within_between : (low high x : ℤ) (found : Option ℤ) → within low high found ≡ Some x → (low ≤ℤ x) × (x ≤ℤ high)
within_between low high x None e = absurd (cc)
within_between low high x (Some v) e = tested low high v x _ refl e

between_short : (low high : ℤ) (b : Bool) → IsBetween low high (cond b Short (Bad 0))
between_short low high true = tt
between_short low high false = tt

run_between : (low high : ℤ) (run bytes : List ℕ) (found : Option ℤ) → ((x : ℤ) → found ≡ Some x → (low ≤ℤ x) × (x ≤ℤ high)) → IsBetween low high (run_scan low run bytes found)
run_between low high run bytes (Some v) h = h v refl
run_between low high run bytes None h = between_short low high _

pub int_between : (low high : ℤ) (bytes : List ℕ) → IsBetween low high (int_at low high bytes)
unfolding int_at
int_between low high bytes = run_between low high (int_run bytes) bytes (within low high (integer (int_run bytes))) (λ x. within_between low high x (integer (int_run bytes)))

-- ---- how many bytes a number takes

short_takes : (size : ℕ) (b : Bool) → Takes {X = ℕ} size (cond b Short (Bad 0))
short_takes size true = tt
short_takes size false = tt

-- the length is that of the bytes that it takes
abbrev pub NumberFits : ℕ → Scan ℕ → Type 0
NumberFits size (Whole n after) = (n ≡ after) × (1 ≤ after) × (after ≤ size)
NumberFits size Short = Unit {0}
NumberFits size (Bad place) = Unit {0}

front_fits : (size : ℕ) (b : Bool) → NumberFits size (cond b Short (Bad 0))
front_fits size true = tt
front_fits size false = tt

form_fits : (form : Form) (size n : ℕ) (ends : Bool) → (form ≡ Number → 1 ≤ n) → n ≤ size → NumberFits size (form_scan form n ends)
form_fits Number size n ends h most = (refl, h refl, most)
form_fits Front size n ends h most = front_fits size ends
form_fits Other size n ends h most = tt

nothing_is_none : (run : List ℕ) → number_in run ≡ Number → 1 ≤ length run
unfolding number_in unsigned_in
nothing_is_none [] e = let no : number_in [] ≡ Front = refl in absurd (cc)
nothing_is_none (x ∷ xs) e = omega arith

pub number_fits : (bytes : List ℕ) → NumberFits (length bytes) (number_at bytes)
unfolding number_at
number_fits bytes = form_fits (number_in (number_run bytes)) (length bytes) (length (number_run bytes)) _ (nothing_is_none (number_run bytes)) (omega (arith, length-take {A = ℕ}))
