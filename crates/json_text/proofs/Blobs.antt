-- Base64 at a place.
use Rattle.std.proofs.Common.{◌≡◌, ℕ, ◌<◌, ◌%◌, List, length, drop, Some, None, Ok, Err, cond, ap, ◌∙◌, arith}
use Rattle.std.proofs.lemmas.Bool.{ne_eqb}
use Rattle.std.proofs.lemmas.Bool.Decides.{nat_tests}
use Rattle.std.specs.List.{prefix_len}
use Rattle.std.specs.Prelude.{slice_index}
use Rattle.std.specs.Result.{result_ok}
use Rattle.base64.specs.declared.decode.DecodeError.{DecodeError}
use Rattle.base64.specs.Engines.{standard_no_pad}
use Rattle.base64.specs.GeneralPurpose.{decode_of, decoded_of}
use Rattle.json_text.specs.declared.scanned.Scan.TheVariants.{Short, Bad}
use Rattle.json_text.specs.Blob.{decoded, is_padding, blob_of, blob_at, symbols_in}

pub decoded_ok : (s b : List ℕ) → (length s % 4 ≡ 1 → ⊥) → decode_of standard_no_pad s ≡ Ok b → decoded s ≡ Some b
unfolding decoded decoded_of
decoded_ok s b odd e = ap (λ t. cond t None (decoded_of standard_no_pad s)) (ne_eqb (length s % 4) 1 odd) ∙ ap result_ok e

pub decoded_err : (s : List ℕ) (f : DecodeError) → (length s % 4 ≡ 1 → ⊥) → decode_of standard_no_pad s ≡ Err f → decoded s ≡ None
unfolding decoded decoded_of
decoded_err s f odd e = ap (λ t. cond t None (decoded_of standard_no_pad s)) (ne_eqb (length s % 4) 1 odd) ∙ ap result_ok e

-- behind the quote at a place
pub blob_behind : (bytes : List ℕ) → 0 < length bytes → slice_index bytes 0 ≡ 34 → (symbols padding : ℕ) → symbols ≡ symbols_in (drop 1 bytes) → padding ≡ prefix_len is_padding (drop symbols (drop 1 bytes))
    → blob_at bytes ≡ blob_of (drop 1 bytes) symbols padding
unfolding blob_at
blob_behind bytes some quote symbols padding e f =
    let g : padding ≡ prefix_len is_padding (drop (symbols_in (drop 1 bytes)) (drop 1 bytes)) = f ∙ ap (λ n. prefix_len is_padding (drop n (drop 1 bytes))) e in
    rw (e, g) (grind (arith, nat_tests))

pub no_blob : (bytes : List ℕ) → length bytes ≡ 0 → blob_at bytes ≡ Short
unfolding blob_at
no_blob bytes none = grind (arith, nat_tests)

pub no_quote : (bytes : List ℕ) → 0 < length bytes → (slice_index bytes 0 ≡ 34 → ⊥) → blob_at bytes ≡ Bad 0
unfolding blob_at
no_quote bytes some p = grind (arith, nat_tests)
