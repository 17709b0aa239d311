-- What the reader of a head answers.
use Rattle.std.specs.Prelude.{◌≡◌, ℕ, ◌≤◌, ◌<◌, ◌⊎◌, List, [], ◌∷◌, ◌++◌, length, drop, ◌==◌, if◌then◌else◌, Some, None}
use Rattle.httparse.specs.Grammar.{RequestHead, print_request, ReadsRequest, HasNoRequest, NeverHasRequest, MayBecomeRequest}
use Rattle.http_front.specs.Heads.{head_limit, body_length, is_last}
use Rattle.http_front.specs.Posts.{IsBad, IsGood}
use Rattle.http_front.specs.declared.head.Head.{Head}
use Rattle.http_front.specs.declared.head.Head.TheVariants as heads
use Rattle.http_front.specs.declared.fields.Values.{Values}
use Rattle.http_front.specs.declared.fields.Values.TheVariants as some

-- this head stands at the front
abbrev pub IsAtFront : List ℕ → RequestHead → Type 0
IsAtFront bytes head = (rest : List ℕ) × ReadsRequest bytes head rest

-- a whole head that isn't good stands at the front
abbrev pub IsRefused : ℕ → List ℕ → Type 0
IsRefused limit bytes = (head : RequestHead) × IsAtFront bytes head × (body_length limit head ≡ None)

-- Part: no head is whole, and one may come of the bytes. Bad: a head that isn't good, or none can come of the bytes. Post: a good
-- head of so many bytes, with the length of its body and whether the connection ends behind it.
abbrev pub ReadsHead : ℕ → List ℕ → Head → Type 0
ReadsHead limit bytes heads.Part = HasNoRequest bytes × MayBecomeRequest bytes
ReadsHead limit bytes heads.Bad = IsRefused limit bytes ⊎ NeverHasRequest bytes
ReadsHead limit bytes (heads.Post size body last) =
    (head : RequestHead) × ReadsRequest bytes head (drop size bytes) × (size ≡ length (print_request head)) × (size ≤ length bytes)
    × (body_length limit head ≡ Some body) × (last ≡ is_last head)

-- the same where the bytes don't have to be the beginning of a head
abbrev pub ReadsFront : ℕ → List ℕ → Head → Type 0
ReadsFront limit bytes heads.Part = HasNoRequest bytes
ReadsFront limit bytes heads.Bad = IsRefused limit bytes ⊎ NeverHasRequest bytes
ReadsFront limit bytes (heads.Post size body last) = ReadsHead limit bytes (heads.Post size body last)

-- what stands at the front of all that is held
abbrev pub FindsHead : ℕ → List ℕ → Head → Type 0
FindsHead limit bytes heads.Part = (length bytes < head_limit) × HasNoRequest bytes
FindsHead limit bytes heads.Bad = IsBad limit bytes
FindsHead limit bytes (heads.Post size body last) =
    (head : RequestHead) × IsGood limit head body × (bytes ≡ print_request head ++ drop size bytes) × (size ≡ length (print_request head))
    × (size ≤ length bytes) × (body ≤ limit) × (last ≡ is_last head)

-- so many bytes without a whole head
abbrev pub part_of : ℕ → Head
part_of size = if size == head_limit then heads.Bad else heads.Part

abbrev pub AreValues : List (List ℕ) → Values → Type 0
AreValues values some.Absent = values ≡ []
AreValues values (some.One value) = values ≡ value.now ∷ []
AreValues values some.Several = (first : List ℕ) × (second : List ℕ) × (more : List (List ℕ)) × (values ≡ first ∷ second ∷ more)
