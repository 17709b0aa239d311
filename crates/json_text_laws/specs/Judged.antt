-- What a scan has to tell of a word: it is good, or some continuation makes it good, or none does.
use Rattle.std.specs.Prelude.{◌≡◌, ℕ, ℤ, pos, negsuc, ◌≤ℤ◌, List, ◌++◌, length}
use Rattle.json_text.specs.declared.scanned.Scan.{Scan}
use Rattle.json_text.specs.declared.scanned.Scan.TheVariants.{Whole, Short, Bad}
use Rattle.json_text.specs.Int.{int_run}
use Rattle.json_text.specs.Number.{number_run}
use Rattle.json_text.specs.Grammar.{SpellsInt, IsNumber, SpellsText, SpellsBlob}

-- a front of the bytes is good: its value, and the place after it
abbrev pub Good : Type 0 → Type 1
Good X = List ℕ → X → ℕ → Type 0

abbrev pub NoneGood : {X : Type 0} → Good X → List ℕ → Type 0
NoneGood {X} good bytes = (x : X) (after : ℕ) → good bytes x after → ⊥

-- Whole exactly where a front is good; else Short where some continuation makes one good, and Bad, at the front, where none does
abbrev pub Judges : {X : Type 0} → Good X → List ℕ → Scan X → Type 0
Judges good bytes (Whole x after) = good bytes x after
Judges {X} good bytes Short = NoneGood good bytes × ((more : List ℕ) × (x : X) × (after : ℕ) × good (bytes ++ more) x after)
Judges good bytes (Bad place) = (place ≡ 0) × ((more : List ℕ) → NoneGood good (bytes ++ more))

-- the least and the greatest integer of 64 bits
abbrev pub least_i64 : ℤ
least_i64 = negsuc 9223372036854775807

abbrev pub greatest_i64 : ℤ
greatest_i64 = pos 9223372036854775807

-- a range of integers of 64 bits, among them 0 or 1
pub record IsRange (low high : ℤ) : Type 0 where
  pub least : least_i64 ≤ℤ low
  pub most : high ≤ℤ greatest_i64
  pub one : low ≤ℤ pos 1
  pub none : pos 0 ≤ℤ high
  pub some : low ≤ℤ high

-- the longest run of digits and `-` spells an integer of the range
abbrev pub GoodInt : ℤ → ℤ → Good ℤ
GoodInt low high bytes z after = (after ≡ length (int_run bytes)) × SpellsInt z (int_run bytes) × (low ≤ℤ z) × (z ≤ℤ high)

-- the longest run of digits and `+ - . e E` is a number, whose value is its length
abbrev pub GoodNumber : Good ℕ
GoodNumber bytes n after = (n ≡ length (number_run bytes)) × (after ≡ n) × IsNumber (number_run bytes)

-- a front of the bytes is a base64 string
abbrev pub GoodBlob : Good (List ℕ)
GoodBlob bytes meant after = (front : List ℕ) × (rest : List ℕ) × (bytes ≡ front ++ rest) × (after ≡ length front) × SpellsBlob meant front

-- a front of the bytes is a JSON string
abbrev pub GoodText : Good (List ℕ)
GoodText bytes meant after = (front : List ℕ) × (rest : List ℕ) × (bytes ≡ front ++ rest) × (after ≡ length front) × SpellsText meant front
