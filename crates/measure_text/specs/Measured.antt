-- What is measured: the bytes that a word means, the word, and what reading it tells.
use Rattle.std.specs.Prelude.{ℕ, zero, suc, ◌-◌, List, [], ◌∷◌, length, Bool, true, false, ◌==◌, ◌&&◌, ◌||◌, nat_lt, if◌then◌else◌}
use Rattle.json_text.specs.declared.scanned.Scan.{Scan}
use Rattle.json_text.specs.declared.scanned.Scan.TheVariants.{Whole, Short, Bad}
use Rattle.json_text.specs.Text.{text_at}
use Rattle.json_text.specs.Plain.{text_spelling}
use Rattle.json_text.specs.Blob.{blob_at, blob_spelling}
use Rattle.measure_text.specs.declared.Work.{Work}
use Rattle.measure_text.specs.declared.Work.TheVariants.{ReadText, WriteText, ReadBlob, WriteBlob, Skip}

-- the next byte, where `left` letters come before a line feed, and how many come before one behind it; where `every` is 0,
-- there is no line feed
abbrev pub next_byte : ℕ → ℕ → ℕ × ℕ
next_byte every left = if (left == 0) && nat_lt 0 every then (10, every) else (97, left - 1)

-- so many bytes
abbrev pub letters : ℕ → ℕ → ℕ → List ℕ
letters every left zero = []
letters every left (suc n) = (next_byte every left).0 ∷ letters every (next_byte every left).1 n

-- the word that means these bytes, as base64 or as text
abbrev pub spelling : Bool → List ℕ → List ℕ
spelling true meant = blob_spelling meant
spelling false meant = text_spelling meant

abbrev pub scan_of : Bool → List ℕ → Scan (List ℕ)
scan_of true word = blob_at word
scan_of false word = text_at word

-- so many bytes were read, and they end here
abbrev pub is_whole : ℕ → ℕ → Scan (List ℕ) → Bool
is_whole size end (Whole bytes after) = (length bytes == size) && (after == end)
is_whole size end Short = false
is_whole size end (Bad place) = false

-- the word means so many bytes, and nothing stands behind it
abbrev pub means : Bool → ℕ → List ℕ → Bool
means as_blob size word = is_whole size (length word) (scan_of as_blob word)

-- the same where there is so much room; a longer word isn't read
abbrev pub is_read : Bool → ℕ → ℕ → List ℕ → Bool
is_read as_blob size room word = if nat_lt room (length word) || nat_lt 100663298 (length word) then false else means as_blob size word

abbrev pub is_blob : Work → Bool
is_blob ReadText = false
is_blob WriteText = false
is_blob ReadBlob = true
is_blob WriteBlob = true
is_blob Skip = false

-- the word of these bytes means as many
abbrev pub is_kept : Bool → List ℕ → Bool
is_kept as_blob meant = means as_blob (length meant) (spelling as_blob meant)

-- all that is read in so many rounds is right: reading reads the word in each, and writing reads what was written at the end
abbrev pub is_right : Work → List ℕ → ℕ → Bool
is_right ReadText meant rounds = (rounds == 0) || is_kept false meant
is_right WriteText meant rounds = is_kept false meant
is_right ReadBlob meant rounds = (rounds == 0) || is_kept true meant
is_right WriteBlob meant rounds = is_kept true meant
is_right Skip meant rounds = true
