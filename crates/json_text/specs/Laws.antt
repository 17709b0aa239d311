-- How many bytes a scan takes, and how long its text is.
use Rattle.std.proofs.Common.{◌≡◌, ℕ, ℤ, zero, suc, ◌+◌, ◌<◌, ◌≤◌, Bool, true, false, cond, List, [], length, take, drop, Option, Some, None, refl, ap, arith, length-drop, length-take, length-append, subst}
use Rattle.std.specs.Prelude.{nat_lt, not, slice_index, ◌==◌, ◌&&◌}
use Rattle.std.proofs.lemmas.Bool.Decides.{nat_tests}
use Rattle.std.proofs.lemmas.Str.{length-encode, len_utf8_bounds}
use Rattle.std.proofs.lemmas.List.Sums.{prefix_len-le-length}
use Rattle.std.proofs.lemmas.Bool.{cond_both}
use Rattle.std.specs.Char.{encode_utf8, len_utf8}
use Rattle.json_text.specs.declared.scanned.Scan.{Scan}
use Rattle.json_text.specs.declared.scanned.Scan.TheVariants.{Whole, Short, Bad}
use Rattle.json_text.specs.Scan.{moved}
use Rattle.json_text.specs.Int.{integer, magnitude, within, run_scan, int_run, int_at, can_grow}
use Rattle.json_text.specs.Escape.{begins_unit, begins_low, is_high, is_low, unit_at, pair, begins_second, escape_at, unicode_at, pair_at, short_then, short_escape}
use Rattle.json_text.specs.Text.{is_plain, behind, escape_then, piece_then, broken, run_then, turns, pieces_at, text_at}

-- at least one byte, and no more than there are
abbrev pub Takes : {X : Type 0} → ℕ → Scan X → Type 0
Takes size (Whole x after) = (1 ≤ after) × (after ≤ size)
Takes size Short = Unit {0}
Takes size (Bad place) = Unit {0}

positive_of : (n : ℕ) → (n ≡ 0 → ⊥) → 1 ≤ n
positive_of zero h = absurd (h refl)
positive_of (suc n) h = omega arith

no_integer : (run : List ℕ) → length run ≡ 0 → integer run ≡ None
unfolding integer magnitude
no_integer run none = grind (arith, nat_tests)

short_or_bad : (size : ℕ) (b : Bool) → Takes {X = ℤ} size (cond b Short (Bad 0))
short_or_bad size true = tt
short_or_bad size false = tt

run_takes : (low : ℤ) (run bytes : List ℕ) (found : Option ℤ) → (length run ≡ 0 → found ≡ None) → length run ≤ length bytes → Takes (length bytes) (run_scan low run bytes found)
run_takes low run bytes (Some v) some most = (positive_of (length run) (λ e. let f = some e in absurd (cc)), most)
run_takes low run bytes None some most = short_or_bad (length bytes) ((length run == length bytes) && can_grow low run)

pub int_takes : (low high : ℤ) (bytes : List ℕ) → Takes (length bytes) (int_at low high bytes)
unfolding int_at
int_takes low high bytes = run_takes low (int_run bytes) bytes (within low high (integer (int_run bytes))) (λ none. ap (within low high) (no_integer (int_run bytes) none)) (omega (arith, length-take {A = ℕ}))

-- the character is no longer than its escape
abbrev pub EscapeFits : ℕ → Scan ℕ → Type 0
EscapeFits size (Whole c taken) = (len_utf8 c ≤ taken) × (taken ≤ size)
EscapeFits size Short = Unit {0}
EscapeFits size (Bad place) = Unit {0}

small : (c n : ℕ) → 4 ≤ n → len_utf8 c ≤ n
small c n h = omega (arith, (len_utf8_bounds c).1)

-- where there are so many bytes
there : (size n : ℕ) (scan : Scan ℕ) → (n ≤ size → EscapeFits size scan) → EscapeFits size (cond (nat_lt size n) Short scan)
there size n scan h = cond_both (nat_lt size n) Short scan (EscapeFits size) (λ _. tt) (λ e. h (grind (arith, nat_tests)))

unless : (size : ℕ) (b : Bool) (scan : Scan ℕ) → EscapeFits size scan → EscapeFits size (cond b (Bad 0) scan)
unless size true scan h = tt
unless size false scan h = h

pair_fits : (high : ℕ) (bytes : List ℕ) → EscapeFits (length bytes) (pair_at high bytes)
unfolding pair_at
pair_fits high bytes =
    let c = pair high (unit_at bytes 8) in
    unless (length bytes) (not (begins_second bytes 6)) (cond (nat_lt (length bytes) 12) Short (Whole c 12)) (there (length bytes) 12 (Whole c 12) (λ most. (small c 12 (omega arith), most)))

of_unicode : (size : ℕ) (a b c d e : Bool) (x : Scan ℕ) (u : ℕ) → EscapeFits size x → (b ≡ false → 6 ≤ size) → EscapeFits size (cond a (Bad 0) (cond b (cond c (Bad 0) Short) (cond d x (cond e (Bad 0) (Whole u 6)))))
of_unicode size true b c d e x u p h = tt
of_unicode size false true true d e x u p h = tt
of_unicode size false true false d e x u p h = tt
of_unicode size false false c true e x u p h = p
of_unicode size false false c false true x u p h = tt
of_unicode size false false c false false x u p h = (small u 6 (omega arith), h refl)

unicode_fits : (bytes : List ℕ) → EscapeFits (length bytes) (unicode_at bytes)
unfolding unicode_at
unicode_fits bytes = of_unicode (length bytes) (not (begins_unit bytes 2)) (nat_lt (length bytes) 6) (begins_low bytes 2) (is_high (unit_at bytes 2)) (is_low (unit_at bytes 2)) (pair_at (unit_at bytes 2) bytes) (unit_at bytes 2) (pair_fits (unit_at bytes 2) bytes) (λ e. grind (arith, nat_tests))

abbrev pub IsShort : Option ℕ → Type 0
IsShort (Some c) = c < 128
IsShort None = Unit {0}

short_small : (x : ℕ) → IsShort (short_escape x)
unfolding short_escape
short_small x = grind (arith, nat_tests)

short_fits : (size : ℕ) (o : Option ℕ) → IsShort o → 2 ≤ size → EscapeFits size (short_then o)
short_fits size None h most = tt
short_fits size (Some c) h most = (grind (arith, nat_tests), most)

pub escape_fits : (bytes : List ℕ) → EscapeFits (length bytes) (escape_at bytes)
unfolding escape_at
escape_fits bytes =
    let rest = cond (slice_index bytes 1 == 117) (unicode_at bytes) (short_then (short_escape (slice_index bytes 1))) in
    there (length bytes) 2 rest (λ most. cond_both (slice_index bytes 1 == 117) (unicode_at bytes) (short_then (short_escape (slice_index bytes 1))) (EscapeFits (length bytes))
    (λ _. unicode_fits bytes) (λ _. short_fits (length bytes) _ (short_small (slice_index bytes 1)) most))

-- the text is shorter than its spelling by the closing quote
abbrev pub TextFits : ℕ → Scan (List ℕ) → Type 0
TextFits size (Whole text after) = (length text + 1 ≤ after) × (after ≤ size)
TextFits size Short = Unit {0}
TextFits size (Bad place) = Unit {0}

behind_fits : (front : List ℕ) (n size all : ℕ) (scan : Scan (List ℕ)) → length front ≤ n → n + size ≤ all → TextFits size scan → TextFits all (behind front n scan)
behind_fits front n size all (Whole text after) h most fits = let e = length-append front text in (omega (arith, fits.0), omega (arith, fits.1))
behind_fits front n size all Short h most fits = tt
behind_fits front n size all (Bad place) h most fits = tt

escaped_fits : (go : List ℕ → Scan (List ℕ)) (bytes : List ℕ) (scan : Scan ℕ) → ((rest : List ℕ) → TextFits (length rest) (go rest)) → EscapeFits (length bytes) scan → TextFits (length bytes) (escape_then go bytes scan)
escaped_fits go bytes (Whole c n) fits e = behind_fits (encode_utf8 c) n (length (drop n bytes)) (length bytes) (go (drop n bytes)) (omega (arith, length-encode c, e.0)) (omega (arith, length-drop n bytes, e.1)) (fits (drop n bytes))
escaped_fits go bytes Short fits e = tt
escaped_fits go bytes (Bad place) fits e = tt

piece_fits : (go : List ℕ → Scan (List ℕ)) (bytes : List ℕ) → ((rest : List ℕ) → TextFits (length rest) (go rest)) → TextFits (length bytes) (piece_then go bytes)
unfolding piece_then
piece_fits go bytes fits =
    let escape = escape_then go bytes (escape_at bytes) in
    let third = cond (slice_index bytes 0 == 92) escape (Bad 0) in
    let second = cond (slice_index bytes 0 == 34) (Whole [] 1) third in
    cond_both (nat_lt (length bytes) 1) Short second (TextFits (length bytes)) (λ _. tt) (λ some.
    cond_both (slice_index bytes 0 == 34) (Whole [] 1) third (TextFits (length bytes)) (λ _. (omega arith, grind (arith, nat_tests))) (λ _.
    cond_both (slice_index bytes 0 == 92) escape (Bad 0) (TextFits (length bytes)) (λ _. escaped_fits go bytes (escape_at bytes) fits (escape_fits bytes)) (λ _. tt)))

broken_fits : (size : ℕ) (b : Bool) (valid : ℕ) → TextFits size (cond b Short (Bad valid))
broken_fits size true valid = tt
broken_fits size false valid = tt

run_fits : (go : List ℕ → Scan (List ℕ)) (bytes : List ℕ) (run valid : ℕ) → run ≤ length bytes → ((rest : List ℕ) → TextFits (length rest) (go rest)) → TextFits (length bytes) (run_then go bytes run valid)
unfolding run_then
run_fits go bytes run valid most fits =
    cond_both (valid == run) (behind (take run bytes) run (piece_then go (drop run bytes))) (broken bytes run valid) (TextFits (length bytes))
    (λ _. behind_fits (take run bytes) run (length (drop run bytes)) (length bytes) (piece_then go (drop run bytes)) (omega (arith, length-take run bytes)) (omega (arith, length-drop run bytes)) (piece_fits go (drop run bytes) fits))
    (λ _. broken_fits (length bytes) _ valid)

turns_fit : (k : ℕ) (bytes : List ℕ) → TextFits (length bytes) (turns k bytes)
turns_fit zero bytes = tt
turns_fit (suc k) bytes = run_fits (turns k) bytes _ _ (prefix_len-le-length is_plain bytes) (turns_fit k)

-- of a whole string: its two quotes
abbrev pub StringFits : ℕ → Scan (List ℕ) → Type 0
StringFits size (Whole text after) = (length text + 2 ≤ after) × (after ≤ size)
StringFits size Short = Unit {0}
StringFits size (Bad place) = Unit {0}

moved_fits : (size : ℕ) (scan : Scan (List ℕ)) → TextFits size scan → StringFits (1 + size) (moved 1 scan)
moved_fits size (Whole text after) h = (omega (arith, h.0), omega (arith, h.1))
moved_fits size Short h = tt
moved_fits size (Bad place) h = tt

pub text_fits : (bytes : List ℕ) → StringFits (length bytes) (text_at bytes)
unfolding text_at pieces_at
text_fits bytes =
    let pieces = moved 1 (pieces_at (drop 1 bytes)) in
    cond_both (nat_lt (length bytes) 1) Short (cond (slice_index bytes 0 == 34) pieces (Bad 0)) (StringFits (length bytes)) (λ _. tt) (λ some.
    cond_both (slice_index bytes 0 == 34) pieces (Bad 0) (StringFits (length bytes))
    (λ _. let all : 1 + length (drop 1 bytes) ≡ length bytes = grind (arith, nat_tests, length-drop {A = ℕ}) in subst (λ n. StringFits n pieces) all (moved_fits (length (drop 1 bytes)) (pieces_at (drop 1 bytes)) (turns_fit (suc (length (drop 1 bytes))) (drop 1 bytes)))) (λ _. tt))
