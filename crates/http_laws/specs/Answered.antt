-- What was sent to a client, behind the responses that are whole.
use Rattle.std.specs.Prelude.{◌≡◌, ◌⊎◌, ℕ, ◌<◌, List, [], ◌∷◌, ◌++◌, length, All, true, false}
use Rattle.framed_transport.specs.Frames.{framed}
use Rattle.http_front.specs.Posts.{Post}
use Rattle.http_front.specs.Replies.{response}
use Rattle.http_front.specs.Fronts.{Reading, Front, Carried, Exchange, IsExchange, IsSound, frames, responses, is_answered, is_empty}
use Rattle.http_laws.specs.Served.{posts_of}

-- the front of a response, to the POST that comes next
pub record IsBegun (later : List Post) (part : List ℕ) : Type 0 where
  pub post : Post
  pub others : List Post
  pub next : later ≡ post ∷ others
  pub content : List ℕ
  pub missing : List ℕ
  pub front : part ++ missing ≡ response content

-- The first POSTs have their responses, whole and in order; behind them nothing was sent, or the front of the response to the next POST.
pub record IsAnsweredInOrder (r : Reading) (c : Carried) (posts : List Post) : Type 0 where
  pub done : List Exchange
  pub each : All (IsExchange r) done
  pub later : List Post
  pub posts_are : posts ≡ posts_of done ++ later
  pub part : List ℕ
  pub sent : c.sent ≡ responses done ++ part
  pub begun : (part ≡ []) ⊎ IsBegun later part

-- a body that ends the session: no answer to it makes an exchange
abbrev pub GetsNoResponse : Reading → Post → Type 0
GetsNoResponse r post = (e : Exchange) → e.post ≡ post → IsExchange r e → ⊥

-- The first POSTs have their responses, whole and in order, and nothing else was sent. Behind their frames no whole one was given, or that of a
-- body that gets no response.
pub record AreAllAnswered (r : Reading) (c : Carried) (posts : List Post) : Type 0 where
  pub done : List Exchange
  pub each : All (IsExchange r) done
  pub later : List Post
  pub posts_are : posts ≡ posts_of done ++ later
  pub sent : c.sent ≡ responses done
  pub due : List ℕ
  pub given : c.given ≡ frames done ++ due
  pub none_whole : (post : Post) (others : List Post) → later ≡ post ∷ others → GetsNoResponse r post ⊎ (length due < length (framed post.body))

-- no answer is awaited, and no response without content waits to be sent
abbrev pub OwesNothing : Front → Type 0
OwesNothing f = IsSound f × (is_answered f.stage ≡ true) × (is_empty f.stage ≡ false)
