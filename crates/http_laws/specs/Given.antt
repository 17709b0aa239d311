-- What a client was given of its POSTs, where nothing more is to be given before more comes.
use Rattle.std.specs.Prelude.{◌≡◌, ℕ, ◌<◌, ◌⊎◌, List, ◌++◌, length, true}
use Rattle.std.specs.List.{flat_map}
use Rattle.gate_hub.specs.Meaning.{Told, Meaning}
use Rattle.http_front.specs.Heads.{head_limit}
use Rattle.http_front.specs.Posts.{Post, post_bytes, Tail, Posts, mark, post_frames}
use Rattle.http_front.specs.Fronts.{Reading, Front, Carried, is_asking}
use Rattle.http_front.specs.Moving.{Waits, carried}

-- all frames of the POSTs, and all that stands for the tail
pub record HasAll (limit : ℕ) (c : Carried) (posts : List Post) : Type 0 where
  pub tail : Tail
  pub cut : Posts limit c.received posts tail
  pub all : c.given ≡ post_frames posts tail c.ended

-- All but the mark. Fewer bytes than a head may have stand behind the POSTs.
pub record LacksMark (limit : ℕ) (c : Carried) (posts : List Post) : Type 0 where
  pub tail : Tail
  pub cut : Posts limit c.received posts tail
  pub all_but_mark : c.given ++ mark ≡ post_frames posts tail c.ended
  pub behind : List ℕ
  pub received : c.received ≡ flat_map post_bytes posts ++ behind
  pub short : length behind < head_limit

abbrev pub HasAllSoFar : ℕ → Carried → List Post → Type 0
HasAllSoFar limit c posts = HasAll limit c posts ⊎ LacksMark limit c posts

-- requests are read, and no whole one is held
abbrev pub IsQuiet : Front → Type 0
IsQuiet f = (is_asking f.stage ≡ true) × Waits f.stage f.input

-- however what was received is cut
abbrev pub EachCut : ℕ → List ℕ → (List Post → Type 0) → Type 0
EachCut limit received P = (posts : List Post) (tail : Tail) → Posts limit received posts tail → P posts

-- a client that was told the end has all
abbrev pub HasAllAtEnd : Reading → Told → Told → Type 0
HasAllAtEnd r inner outer =
    outer.client.ended ≡ true → EachCut r.limit inner.client.received (HasAll r.limit (carried inner.client outer.client.received outer.client.sent))

-- each session that the hub below tells to be announced
abbrev pub HaveAllAtEnd : Reading → Meaning → Meaning → Type 0
HaveAllAtEnd r inner outer = (k : ℕ) → (inner.session k).announced ≡ true → HasAllAtEnd r (inner.session k) (outer.session k)
