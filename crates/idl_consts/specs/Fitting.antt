-- What may stand where a value of a type is asked for.
use Rattle.std.specs.Prelude.{ℕ, ℤ, pos, negsuc, ◌+◌, ◌+ℤ◌, ◌==◌, List, [], ◌∷◌, take, drop, Option, Some, None, Bool, true, false, ◌||◌, ◌&&◌, is_some, if◌then◌else◌, int_lt, nat_lt, nat_eq, codes}
use Rattle.std.specs.Cmp.Lexicographic.{pointwise}
use Rattle.idl_document.specs.declared.document.BaseWord.{BaseWord}
use Rattle.idl_document.specs.declared.document.BaseWord.TheVariants as words
use Rattle.idl_document.specs.declared.document.Member.{Member}
use Rattle.idl_document.specs.Trees.{DefinitionTree, enum_of}
use Rattle.idl_rules.specs.declared.scopes.Scope.TheVariants as scopes
use Rattle.idl_names.specs.declared.documents.Spot.{Spot}
use Rattle.idl_names.specs.Files.{FileTree}
use Rattle.idl_names.specs.Meaning.{meaning}
use Rattle.idl_names.specs.Paths.{last_place}
use Rattle.idl_consts.specs.declared.fitting.Answer.{Answer}
use Rattle.idl_consts.specs.declared.fitting.Answer.TheVariants as answers
use Rattle.idl_consts.specs.declared.row.ConstRow.TheVariants as rows
use Rattle.idl_consts.specs.Meant.{Meant, base, enumeration, definition_of}

-- a number between these two
abbrev pub in_range : ℤ → ℤ → ℤ → Answer
in_range low high z = if int_lt z low || int_lt high z then answers.Refused rows.OutOfRange else answers.Fits

-- a number, or the number of an enum's member, where an integer is asked for; no number has more than 64 bits
abbrev pub integer_answer : BaseWord → ℤ → Answer
integer_answer words.I8 z = in_range (negsuc 127) (pos 127) z
integer_answer words.I16 z = in_range (negsuc 32767) (pos 32767) z
integer_answer words.I32 z = in_range (negsuc 2147483647) (pos 2147483647) z
integer_answer words.I64 z = answers.Fits
integer_answer word z = answers.Refused rows.WrongForm

abbrev pub number_answer : BaseWord → ℤ → Answer
number_answer words.Bool z = in_range (pos 0) (pos 1) z
number_answer words.Double z = answers.Fits
number_answer word z = integer_answer word z

-- a number
abbrev pub whole_answer : Meant → ℤ → Answer
whole_answer (base word) z = number_answer word z
whole_answer (enumeration s) z = in_range (negsuc 2147483647) (pos 2147483647) z
whole_answer m z = answers.Refused rows.WrongForm

-- a number with a fraction or an exponent
abbrev pub double_answer : Meant → Answer
double_answer (base words.Double) = answers.Fits
double_answer m = answers.Refused rows.WrongForm

abbrev pub is_hex : ℕ → Bool
is_hex b = nat_lt 47 b && nat_lt b 58 || nat_lt 64 b && nat_lt b 71 || nat_lt 96 b && nat_lt b 103

-- in a template x stands for a hexadecimal digit
abbrev pub fits_letter : ℕ → ℕ → Bool
fits_letter letter b = if letter == 120 then is_hex b else letter == b

abbrev pub fits_template : List ℕ → List ℕ → Bool
fits_template [] [] = true
fits_template [] (b ∷ bs) = false
fits_template (letter ∷ letters) [] = false
fits_template (letter ∷ letters) (b ∷ bs) = fits_letter letter b && fits_template letters bs

abbrev pub bare_uuid : List ℕ
bare_uuid = codes "xxxxxxxx-xxxx-xxxx-xxxx-xxxxxxxxxxxx"

abbrev pub braced_uuid : List ℕ
braced_uuid = codes "{xxxxxxxx-xxxx-xxxx-xxxx-xxxxxxxxxxxx}"

-- hexadecimal digits in the groups of a uuid, in brackets or not
unfoldable pub is_uuid : List ℕ → Bool
is_uuid text = fits_template bare_uuid text || fits_template braced_uuid text

-- a literal
abbrev pub literal_answer : Meant → List ℕ → Answer
literal_answer (base words.Text) text = answers.Fits
literal_answer (base words.Blob) text = answers.Fits
literal_answer (base words.Uuid) text = if is_uuid text then answers.Fits else answers.Refused rows.WrongForm
literal_answer m text = answers.Refused rows.WrongForm

abbrev pub number_by : Option ℤ → ℤ → ℤ
number_by (Some z) next = z
number_by None next = next

-- the number after this one; an enum with a number above 64 bits is refused for it before
abbrev pub after_number : ℤ → ℤ
after_number z = if int_lt z (pos 9223372036854775807) then z +ℤ pos 1 else z

-- the number of the first member of this name, where the first that has no number gets this one
abbrev pub number_from : ℤ → List Member → List ℕ → Option ℤ
number_from next [] word = None
number_from next (m ∷ ms) word =
    if pointwise nat_eq (m.name).text word then Some (number_by m.value next)
    else number_from (after_number (number_by m.value next)) ms word

abbrev pub members_in : Option DefinitionTree → List Member
members_in (Some (enum_of name members)) = members
members_in definition = []

-- the number of the member of this name, of the enum at a spot
unfoldable pub member_of : List FileTree → Spot → List ℕ → Option ℤ
member_of d spot word = number_from (pos 0) (members_in (definition_of d spot)) word

abbrev pub with_spot : Spot → Option ℤ → Option (Spot × ℤ)
with_spot spot None = None
with_spot spot (Some z) = Some (spot, z)

abbrev pub member_at : List FileTree → List ℕ → Option Spot → Option (Spot × ℤ)
member_at d word None = None
member_at d word (Some spot) = with_spot spot (member_of d spot word)

abbrev pub member_by : List FileTree → ℕ → List ℕ → Option ℕ → Option (Spot × ℤ)
member_by d file word None = None
member_by d file word (Some dot) = member_at d (drop (dot + 1) word) (meaning d file scopes.Types (take dot word))

-- a member of any enum: the name of the enum stands before the last dot
unfoldable pub any_member : List FileTree → ℕ → List ℕ → Option (Spot × ℤ)
any_member d file word = member_by d file word (last_place 46 word)

abbrev pub is_truth : List ℕ → Bool
is_truth word = pointwise nat_eq word (codes "true") || pointwise nat_eq word (codes "false")

abbrev pub truth_answer : Meant → Answer
truth_answer (base words.Bool) = answers.Fits
truth_answer m = answers.Refused rows.WrongForm

abbrev pub same_spot : Spot → Spot → Bool
same_spot s t = s.file == t.file && s.definition == t.definition

-- a member of an enum by the enum's name
abbrev pub member_answer : Meant → Option (Spot × ℤ) → Answer
member_answer m None = answers.Refused rows.UnknownConstant
member_answer (base word) (Some found) = integer_answer word found.1
member_answer (enumeration s) (Some found) = if same_spot s found.0 then answers.Fits else answers.Refused rows.WrongForm
member_answer m (Some found) = answers.Refused rows.WrongForm

abbrev pub constant_answer : Option Spot → Answer → Answer
constant_answer (Some spot) other = answers.StandsFor spot
constant_answer None other = other

-- the word of a member alone, where its enum is asked for
abbrev pub is_own_member : List FileTree → Meant → List ℕ → Bool
is_own_member d (enumeration s) word = is_some (member_of d s word)
is_own_member d m word = false

-- a name: true and false, then a member of the enum that is asked for, then a constant, then a member of any enum
abbrev pub named_answer : List FileTree → ℕ → Meant → List ℕ → Answer
named_answer d file m word =
    if is_truth word then truth_answer m
    else if is_own_member d m word then answers.Fits
    else constant_answer (meaning d file scopes.Constants word) (member_answer m (any_member d file word))
