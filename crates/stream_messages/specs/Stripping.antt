-- Frames that are written, without their lengths.
use Rattle.std.specs.Prelude.{◌≡◌, ℕ, ◌+◌, ◌-◌, ◌<◌, List, [], ◌∷◌, ◌++◌, length, nat_lt, ◌==◌, if◌then◌else◌}
use Rattle.std.specs.Int.{w32, from_be_bytes}

-- the bytes of a length that were written, which isn't whole, and the bytes of a content that weren't written yet
pub record StripperState : Type 0 where
  pub length_bytes : List ℕ
  pub left : ℕ

abbrev pub new_stripper : StripperState
new_stripper = record { length_bytes = []; left = 0 }

-- ---- byte by byte

-- the bytes of a length that came, or a whole one, which tells how many bytes of content follow
abbrev pub length_with : List ℕ → StripperState
length_with bytes = if nat_lt (length bytes) 4 then record { length_bytes = bytes; left = 0 } else record { length_bytes = []; left = from_be_bytes w32 bytes }

abbrev pub behind_byte : StripperState → ℕ → StripperState
behind_byte s byte = if s.left == 0 then length_with (s.length_bytes ++ byte ∷ []) else record s { left = s.left - 1 }

-- what is passed on of it
abbrev pub of_byte : StripperState → ℕ → List ℕ
of_byte s byte = if s.left == 0 then [] else byte ∷ []

abbrev pub behind_bytes : StripperState → List ℕ → StripperState
behind_bytes s [] = s
behind_bytes s (byte ∷ bytes) = behind_bytes (behind_byte s byte) bytes

abbrev pub contents : StripperState → List ℕ → List ℕ
contents s [] = []
contents s (byte ∷ bytes) = of_byte s byte ++ contents (behind_byte s byte) bytes

-- behind these bytes, which belong to a length
abbrev pub IsBehindLength : StripperState → List ℕ → StripperState → Type 0
IsBehindLength s bytes t = (t ≡ behind_bytes s bytes) × (contents s bytes ≡ [])

-- behind so many bytes of a content, whatever they are
abbrev pub IsBehindContent : StripperState → ℕ → StripperState → Type 0
IsBehindContent s count t = (bytes : List ℕ) → length bytes ≡ count → (t ≡ behind_bytes s bytes) × (contents s bytes ≡ bytes)

-- ---- as a relation

-- Of what was written this is what was sent, and the frame that was written last has come so far: into its length, into its
-- content, or there are others behind a whole one.
pub data StripsTo : StripperState → List ℕ → List ℕ → Type 0 where
  in_length : (bytes : List ℕ) → length bytes < 4 → StripsTo (record { length_bytes = bytes; left = 0 }) bytes []
  in_content : (a b c d left : ℕ) (content : List ℕ) → length content + left ≡ from_be_bytes w32 (a ∷ b ∷ c ∷ d ∷ []) → 0 < left
      → StripsTo (record { length_bytes = []; left = left }) (a ∷ b ∷ c ∷ d ∷ content) content
  behind_frame : (s : StripperState) (a b c d : ℕ) (content written sent : List ℕ) → length content ≡ from_be_bytes w32 (a ∷ b ∷ c ∷ d ∷ []) → StripsTo s written sent
      → StripsTo s (a ∷ b ∷ c ∷ d ∷ (content ++ written)) (content ++ sent)
