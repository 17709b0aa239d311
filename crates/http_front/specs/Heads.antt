-- The head of a POST that carries a message (RFC 9110, sections 7.6.1, 8.6 and 9.3.3; RFC 9112, sections 2 to 6).
use Rattle.std.specs.Prelude.{ℕ, List, [], ◌∷◌, length, map, Bool, true, false, ◌&&◌, ◌||◌, ◌==◌, nat_eq, nat_lt, nat_le, Option, Some, None, if◌then◌else◌, codes}
use Rattle.std.specs.List.{slice_split, list_any, list_all}
use Rattle.std.specs.Char.{is_ascii_digit, to_ascii_lowercase}
use Rattle.std.specs.Cmp.Lexicographic.{pointwise}
use Rattle.std.specs.Str.Parse.{digits_value}
use Rattle.httparse.specs.Ascii.{comma}
use Rattle.httparse.specs.Grammar.{is_ows, RequestHead}
use Rattle.httparse.specs.Spans.{name_and_value}

-- a head has at most so many bytes
abbrev pub head_limit : ℕ
head_limit = 8192

-- two words without regard to the case of ASCII letters
abbrev pub same_word : List ℕ → List ℕ → Bool
same_word a b = pointwise nat_eq (map to_ascii_lowercase a) (map to_ascii_lowercase b)

-- the values of the fields of a name, in order
abbrev pub values : List ℕ → List (List ℕ × List ℕ) → List (List ℕ)
values name [] = []
values name (field ∷ fields) = if same_word field.0 name then field.1 ∷ values name fields else values name fields

-- what parts the options of a list
abbrev pub is_separator : ℕ → Bool
is_separator b = b == comma || is_ows b

-- one of the options of the list is this
unfoldable pub has_option : List ℕ → List ℕ → Bool
has_option option value = list_any (λ word. same_word word option) (slice_split is_separator value)

-- a length of 1 to 10 digits, and of at most so much
unfoldable pub length_within : ℕ → List ℕ → Option ℕ
length_within limit digits =
    if nat_lt 0 (length digits) && nat_le (length digits) 10 && list_all is_ascii_digit digits && nat_le (digits_value 10 digits) limit
    then Some (digits_value 10 digits)
    else None

-- the length that a head tells: by one value, and no second one
abbrev pub told_length : ℕ → List (List ℕ) → Option ℕ
told_length limit [] = None
told_length limit (value ∷ []) = length_within limit value
told_length limit (value ∷ second ∷ more) = None

abbrev pub is_plain : List (List ℕ) → Bool
is_plain [] = true
is_plain (coding ∷ codings) = false

-- the length of the body that stands behind a head with this method and these fields, where it is a good one
abbrev pub body_by : ℕ → List ℕ → List (List ℕ × List ℕ) → Option ℕ
body_by limit method fields =
    if pointwise nat_eq method (codes "POST") && is_plain (values (codes "transfer-encoding") fields)
    then told_length limit (values (codes "content-length") fields)
    else None

-- the connection ends behind the response
abbrev pub ends_by : ℕ → List (List ℕ × List ℕ) → Bool
ends_by minor fields = minor == 0 || list_any (has_option (codes "close")) (values (codes "connection") fields)

abbrev pub fields_of : RequestHead → List (List ℕ × List ℕ)
fields_of head = map name_and_value head.fields

-- the length of the body of a good head
unfoldable pub body_length : ℕ → RequestHead → Option ℕ
body_length limit head = body_by limit head.method (fields_of head)

unfoldable pub is_last : RequestHead → Bool
is_last head = ends_by head.minor (fields_of head)
