-- Numbers as words spell them.
use Rattle.std.specs.Prelude.{ℕ, ◌^◌, ◌&&◌, List, Option, Some, None, if◌then◌else◌, nat_lt, decimal}
use Rattle.std.specs.Str.Parse.{digits_value}
use Rattle.decimal_words.specs.Same.{is}

-- the number below 2^64 of which this word is the decimal spelling
unfoldable pub number_of : List ℕ → Option ℕ
number_of word =
    let n = digits_value 10 word in
    if is (decimal n) word && nat_lt n (2 ^ 64) then Some n else None

-- a number of this range
abbrev pub within : ℕ → ℕ → Option ℕ → Option ℕ
within low high None = None
within low high (Some n) = if nat_lt n low then None else if nat_lt high n then None else Some n
