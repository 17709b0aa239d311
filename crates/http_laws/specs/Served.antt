-- A client's POSTs, and how far they are served.
use Rattle.std.specs.Prelude.{◌≡◌, ◌≤◌, ℕ, List, [], ◌∷◌, ◌++◌, length, All, Bool, true}
use Rattle.std.specs.Int.{to_be_bytes, w32}
use Rattle.gate_hub.specs.Meaning.{Told, Meaning}
use Rattle.framed_transport.specs.Frames.{framed}
use Rattle.http_front.specs.Posts.{Post, Tail, Posts, tail_frames, post_frames}
use Rattle.http_front.specs.Fronts.{Reading, Carried, Exchange, IsExchange, frames, responses, answers}
use Rattle.http_front.specs.Replies.{response_head, response}
use Rattle.http_front.specs.Moving.{carried}

abbrev pub posts_of : List Exchange → List Post
posts_of [] = []
posts_of (e ∷ done) = e.post ∷ posts_of done

-- the frame of the next body, or what stands for the tail
abbrev pub next_frame : List Post → Tail → Bool → List ℕ
next_frame [] tail ended = tail_frames tail ended
next_frame (post ∷ posts) tail ended = framed post.body

-- What was sent behind the responses that are done, for what was written behind their answers: nothing so far; a front of the head of a
-- response and of as much of its content as was written; or a front of a response without content.
pub data IsAnswering (written sent : List ℕ) : Type 0 where
  Unsent : sent ≡ [] → IsAnswering written sent
  WithContent : (size : ℕ) (content more : List ℕ) → written ≡ to_be_bytes w32 size ++ content → length content ≤ size → sent ++ more ≡ response_head size ++ content → IsAnswering written sent
  Without : (more : List ℕ) → written ≡ [] → sent ++ more ≡ response [] → IsAnswering written sent

-- The first POSTs have their responses and their frames were handed out. Behind them at most the frame of the next body was handed
-- out, or what stands for the tail. What was sent is the responses with the answers that were written, in order, and then as much of the
-- next one as its answer allows.
pub record IsServed (r : Reading) (c : Carried) (posts : List Post) : Type 0 where
  pub done : List Exchange
  pub each : All (IsExchange r) done
  pub later : List Post
  pub posts_are : posts ≡ posts_of done ++ later
  pub tail : Tail
  pub cut : Posts r.limit c.received posts tail
  pub due : List ℕ
  pub more : List ℕ
  pub given : c.given ≡ frames done ++ due
  pub front : due ++ more ≡ next_frame later tail c.ended
  pub after : List ℕ
  pub all : post_frames posts tail c.ended ≡ c.given ++ after
  pub part : List ℕ
  pub sent : c.sent ≡ responses done ++ part
  pub next : List ℕ
  pub written : c.written ≡ answers done ++ next
  pub answering : IsAnswering next part

-- However what the hub below received of the client is cut, the client is served so.
abbrev pub IsClientServed : Reading → Told → Told → Type 0
IsClientServed r inner outer =
    (posts : List Post) (tail : Tail) → Posts r.limit inner.client.received posts tail → IsServed r (carried inner.client outer.client.received outer.client.sent) posts

-- each session that the hub below tells to be announced
abbrev pub AreClientsServed : Reading → Meaning → Meaning → Type 0
AreClientsServed r inner outer = (k : ℕ) → (inner.session k).announced ≡ true → IsClientServed r (inner.session k) (outer.session k)
