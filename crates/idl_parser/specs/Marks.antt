-- The marks of the grammar by their bytes, and how deep types and values nest.
use Rattle.std.specs.Prelude.{ℕ}

-- &
abbrev pub ampersand_mark : ℕ
ampersand_mark = 38

-- (
abbrev pub round_open : ℕ
round_open = 40

-- )
abbrev pub round_close : ℕ
round_close = 41

-- *
abbrev pub star_mark : ℕ
star_mark = 42

-- ,
abbrev pub comma_mark : ℕ
comma_mark = 44

-- .
abbrev pub dot_byte : ℕ
dot_byte = 46

-- :
abbrev pub colon_mark : ℕ
colon_mark = 58

-- ;
abbrev pub semicolon_mark : ℕ
semicolon_mark = 59

-- <
abbrev pub angle_open : ℕ
angle_open = 60

-- =
abbrev pub equals_mark : ℕ
equals_mark = 61

-- >
abbrev pub angle_close : ℕ
angle_close = 62

-- [
abbrev pub square_open : ℕ
square_open = 91

-- ]
abbrev pub square_close : ℕ
square_close = 93

-- {
abbrev pub curly_open : ℕ
curly_open = 123

-- }
abbrev pub curly_close : ℕ
curly_close = 125

-- a type or a value nests no deeper
abbrev pub most_levels : ℕ
most_levels = 64
