-- What a client sends, cut into the bodies of its POSTs and a tail, and the frames that stand for it.
use Rattle.std.specs.Prelude.{◌≡◌, ℕ, ◌<◌, ◌≤◌, List, [], ◌∷◌, ◌++◌, length, drop, Bool, true, false, Some, None}
use Rattle.std.specs.List.{flat_map}
use Rattle.framed_transport.specs.Frames.{framed}
use Rattle.httparse.specs.Grammar.{RequestHead, IsRequestHead, print_request, ReadsRequest, HasNoRequest, NeverHasRequest, MayBecomeRequest}
use Rattle.http_front.specs.Heads.{head_limit, body_length, is_last}

pub record Post : Type 0 where
  pub head : RequestHead
  pub body : List ℕ

abbrev pub post_bytes : Post → List ℕ
post_bytes post = print_request post.head ++ post.body

-- a good head within the limit of heads, for a body of so many bytes
pub record IsGood (limit : ℕ) (head : RequestHead) (size : ℕ) : Type 0 where
  pub is : IsRequestHead head
  pub short : length (print_request head) ≤ head_limit
  pub length : body_length limit head ≡ Some size

abbrev pub IsPost : ℕ → Post → Type 0
IsPost limit post = IsGood limit post.head (length post.body)

-- a whole head that isn't good, a beginning of which no head can come, or as many bytes as a head may have without a whole one
pub data IsBad (limit : ℕ) (bytes : List ℕ) : Type 0 where
  Refused : (head : RequestHead) (rest : List ℕ) → ReadsRequest bytes head rest → length (print_request head) ≤ head_limit → body_length limit head ≡ None → IsBad limit bytes
  Hopeless : NeverHasRequest bytes → IsBad limit bytes
  TooLong : head_limit ≤ length bytes → ((head : RequestHead) (rest : List ℕ) → ReadsRequest bytes head rest → head_limit < length (print_request head)) → IsBad limit bytes

-- nothing, the beginning of a head, or a good head with the beginning of its body
pub data IsRest (limit : ℕ) : List ℕ → Type 0 where
  Nothing : IsRest limit []
  InHead : (bytes : List ℕ) → length bytes < head_limit → HasNoRequest bytes → MayBecomeRequest bytes → IsRest limit bytes
  InBody : (head : RequestHead) (size : ℕ) (body : List ℕ) → IsGood limit head size → length body < size → IsRest limit (print_request head ++ body)

-- what stands behind the bodies
pub data Tail : Type 0 where
  rest : List ℕ → Tail
  bad : Tail

abbrev pub IsTail : ℕ → List ℕ → Tail → Type 0
IsTail limit bytes (rest r) = (bytes ≡ r) × IsRest limit r
IsTail limit bytes bad = IsBad limit bytes

-- The POSTs, one behind another, and the tail. Behind a request that ends the connection nothing counts.
abbrev pub Posts : ℕ → List ℕ → List Post → Tail → Type 0
Posts limit bytes [] tail = IsTail limit bytes tail
Posts limit bytes (post ∷ posts) tail =
    IsPost limit post
    × ((behind : List ℕ) × (bytes ≡ post_bytes post ++ behind) × ((is_last post.head ≡ false → Posts limit behind posts tail) × (is_last post.head ≡ true → (posts ≡ []) × (tail ≡ rest []))))

-- they are cut so into some POSTs and a tail
abbrev pub IsCut : ℕ → List ℕ → Type 0
IsCut limit bytes = (posts : List Post) × (tail : Tail) × Posts limit bytes posts tail

-- a POST behind which another one may come is the first bytes, so many
pub record IsFirstPost (limit : ℕ) (bytes : List ℕ) (size : ℕ) : Type 0 where
  pub some : 0 < size
  pub within : size ≤ length bytes
  pub on : IsCut limit (drop size bytes) → IsCut limit bytes

-- the length -1, behind which nothing comes
abbrev pub mark : List ℕ
mark = 255 ∷ 255 ∷ 255 ∷ 255 ∷ []

-- of a client that ended inside a request one byte tells that its end came too early
abbrev pub early : List ℕ
early = 0 ∷ []

abbrev pub tail_frames : Tail → Bool → List ℕ
tail_frames (rest []) ended = []
tail_frames (rest (byte ∷ bytes)) true = early
tail_frames (rest (byte ∷ bytes)) false = []
tail_frames bad ended = mark

-- each body as a frame, and what stands for the tail
abbrev pub post_frames : List Post → Tail → Bool → List ℕ
post_frames posts tail ended = flat_map (λ post. framed post.body) posts ++ tail_frames tail ended
