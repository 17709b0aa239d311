-- The plain spelling of integers and texts.
use Rattle.std.specs.Prelude.{ℕ, ◌/◌, ◌%◌, List, [], ◌∷◌, ◌++◌, ◌==◌, nat_lt, if◌then◌else◌}
use Rattle.std.specs.Char.{digit_char}

abbrev pub two : ℕ → ℕ → List ℕ
two a b = a ∷ b ∷ []

-- one byte of a text
unfoldable pub byte_spelling : ℕ → List ℕ
byte_spelling x =
    if x == 34 then two 92 34
    else if x == 92 then two 92 92
    else if x == 8 then two 92 98
    else if x == 12 then two 92 102
    else if x == 10 then two 92 110
    else if x == 13 then two 92 114
    else if x == 9 then two 92 116
    else if nat_lt x 32 then 92 ∷ 117 ∷ 48 ∷ 48 ∷ digit_char (x / 16) ∷ digit_char (x % 16) ∷ []
    else x ∷ []

unfoldable pub pieces_spelling : List ℕ → List ℕ
pieces_spelling [] = []
pieces_spelling (x ∷ xs) = byte_spelling x ++ pieces_spelling xs

unfoldable pub text_spelling : List ℕ → List ℕ
text_spelling text = 34 ∷ pieces_spelling text ++ 34 ∷ []
