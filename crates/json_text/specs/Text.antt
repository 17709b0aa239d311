-- A JSON string behind its opening quote: the bytes that its pieces mean, and how many bytes it takes with its closing quote.
use Rattle.std.specs.Prelude.{◌≡◌, ◌<◌, ℕ, zero, suc, ◌+◌, List, [], ◌++◌, length, take, drop, Bool, true, false, not, ◌&&◌, ◌||◌, ◌==◌, nat_lt, Option, Some, None, if◌then◌else◌, slice_index}
use Rattle.std.specs.List.{prefix_len}
use Rattle.std.specs.Char.{encode_utf8}
use Rattle.std.specs.Str.Lossy.{utf8_valid_len, utf8_error_len}
use Rattle.json_text.specs.declared.scanned.Scan.{Scan}
use Rattle.json_text.specs.declared.scanned.Scan.TheVariants.{Whole, Short, Bad}
use Rattle.json_text.specs.declared.text.Run.{Run}
use Rattle.json_text.specs.declared.text.Run.TheVariants.{Good, EndsEarly, Wrong}
use Rattle.json_text.specs.Scan.{moved}
use Rattle.json_text.specs.Escape.{escape_at}

-- a quote, a backslash or a control byte
abbrev pub is_stop : ℕ → Bool
is_stop x = (x == 34) || (x == 92) || nat_lt x 32

-- a byte of a character that stands for itself
abbrev pub is_plain : ℕ → Bool
is_plain x = not (is_stop x)

-- the text goes on behind what these bytes mean
abbrev pub behind : List ℕ → ℕ → Scan (List ℕ) → Scan (List ℕ)
behind front taken (Whole text after) = Whole (front ++ text) (taken + after)
behind front taken Short = Short
behind front taken (Bad place) = Bad (taken + place)

abbrev pub ends_early : Option ℕ → Bool
ends_early None = true
ends_early (Some n) = false

abbrev pub escape_then : (List ℕ → Scan (List ℕ)) → List ℕ → Scan ℕ → Scan (List ℕ)
escape_then go bytes (Whole c n) = behind (encode_utf8 c) n (go (drop n bytes))
escape_then go bytes Short = Short
escape_then go bytes (Bad place) = Bad place

-- at a byte that is not plain, or at the end
unfoldable pub piece_then : (List ℕ → Scan (List ℕ)) → List ℕ → Scan (List ℕ)
piece_then go bytes =
    if nat_lt (length bytes) 1 then Short
    else if slice_index bytes 0 == 34 then Whole [] 1
    else if slice_index bytes 0 == 92 then escape_then go bytes (escape_at bytes)
    else Bad 0

-- a run of plain bytes that is no UTF-8, of which so many are: it breaks at a character that is wrong, or the bytes end inside one
abbrev pub broken : List ℕ → ℕ → ℕ → Scan (List ℕ)
broken bytes run valid =
    if (run == length bytes) && ends_early (utf8_error_len (drop valid (take run bytes))) then Short else Bad valid

-- a run of plain bytes, and what follows it
unfoldable pub run_then : (List ℕ → Scan (List ℕ)) → List ℕ → ℕ → ℕ → Scan (List ℕ)
run_then go bytes run valid =
    if valid == run then behind (take run bytes) run (piece_then go (drop run bytes)) else broken bytes run valid

abbrev pub turn : (List ℕ → Scan (List ℕ)) → List ℕ → Scan (List ℕ)
turn go bytes = run_then go bytes (prefix_len is_plain bytes) (utf8_valid_len (take (prefix_len is_plain bytes) bytes))

-- so many turns at most
abbrev pub turns : ℕ → List ℕ → Scan (List ℕ)
turns zero bytes = Short
turns (suc more) bytes = turn (turns more) bytes

-- each turn takes a byte, so these are enough
unfoldable pub pieces_at : List ℕ → Scan (List ℕ)
pieces_at bytes = turns (suc (length bytes)) bytes

-- with its opening quote
unfoldable pub text_at : List ℕ → Scan (List ℕ)
text_at bytes =
    if nat_lt (length bytes) 1 then Short
    else if slice_index bytes 0 == 34 then moved 1 (pieces_at (drop 1 bytes))
    else Bad 0

-- what is told of a run of plain bytes
abbrev pub IsRun : List ℕ → ℕ → Run → Type 0
IsRun bytes run Good = utf8_valid_len (take run bytes) ≡ run
IsRun bytes run EndsEarly = (utf8_valid_len (take run bytes) < run) × (broken bytes run (utf8_valid_len (take run bytes)) ≡ Short)
IsRun bytes run (Wrong place) = (utf8_valid_len (take run bytes) < run) × (broken bytes run (utf8_valid_len (take run bytes)) ≡ Bad place)
