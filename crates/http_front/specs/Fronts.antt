-- A session's front: what it holds, and what it stands for.
use Rattle.std.specs.Prelude.{◌≡◌, ◌≢◌, ℕ, ⊤, ◌+◌, ◌-◌, ◌^◌, ◌<◌, ◌≤◌, List, [], ◌∷◌, ◌++◌, length, take, drop, Bool, true, false, Option, Some, None, All, nat_lt, ◌==◌, ◌||◌, not, if◌then◌else◌}
use Rattle.std.specs.List.{flat_map}
use Rattle.std.specs.Int.{to_be_bytes, from_be_bytes, w32}
use Rattle.framed_transport.specs.Frames.{framed}
use Rattle.httparse.specs.Grammar.{RequestHead, print_request, HasNoRequest}
use Rattle.type_tables.specs.Declarations.{Declarations}
use Rattle.type_tables.specs.declared.declared.ServiceId.{ServiceId}
use Rattle.protocol_traits.specs.declared.proto.Proto.{Proto}
use Rattle.http_front.specs.Heads.{head_limit, is_last}
use Rattle.http_front.specs.Looking.{looked}
use Rattle.http_front.specs.Posts.{Post, post_bytes, IsGood, IsPost, IsBad, IsRest, mark, early}
use Rattle.http_front.specs.Replies.{reply_to, response_head, response}
use Rattle.http_front.specs.declared.look.Look.{Look}
use Rattle.http_front.specs.declared.look.Look.TheVariants as look
use Rattle.http_front.specs.declared.stage.Stage.{Stage}
use Rattle.http_front.specs.declared.stage.Stage.TheVariants as stage
use Rattle.http_front.specs.declared.replies.Reply.{Reply}
use Rattle.http_front.specs.declared.replies.Reply.TheVariants as reply

-- the bytes of the client that are held, the greatest length of a body, how far a head's end was looked for and in how many
-- of the bytes, and what comes next
pub record Front : Type 0 where
  pub input : List ℕ
  pub limit : ℕ
  pub look : Look
  pub seen : ℕ
  pub stage : Stage

abbrev pub new_front : ℕ → Front
new_front limit = record { input = []; limit = limit; look = look.Before; seen = 0; stage = stage.Head }

-- ---- what went over it

-- a POST that got its response: with the message that answered it, or without content
pub record Exchange : Type 0 where
  pub post : Post
  pub answer : Option (List ℕ)

abbrev pub content_of : Option (List ℕ) → List ℕ
content_of None = []
content_of (Some content) = content

abbrev pub answer_frame : Option (List ℕ) → List ℕ
answer_frame None = []
answer_frame (Some content) = framed content

-- how bodies are read
pub record Reading : Type 0 where
  pub declared : Declarations
  pub service : Option ServiceId
  pub client : Proto
  pub limit : ℕ

abbrev pub reply_in : Reading → Post → Reply
reply_in r post = reply_to r.declared r.service r.client post.body

-- the response is of this kind
abbrev pub Answers : Reply → Option (List ℕ) → Type 0
Answers reply.Answer (Some content) = length content < 2 ^ 32
Answers reply.Answer None = ⊥
Answers reply.Empty None = ⊤
Answers reply.Empty (Some content) = ⊥
Answers reply.Missing answer = ⊥

pub record IsExchange (r : Reading) (e : Exchange) : Type 0 where
  pub post : IsPost r.limit e.post
  pub answers : Answers (reply_in r e.post) e.answer

abbrev pub requests : List Exchange → List ℕ
requests done = flat_map (λ e. post_bytes e.post) done

abbrev pub frames : List Exchange → List ℕ
frames done = flat_map (λ e. framed e.post.body) done

abbrev pub responses : List Exchange → List ℕ
responses done = flat_map (λ e. response (content_of e.answer)) done

abbrev pub answers : List Exchange → List ℕ
answers done = flat_map (λ e. answer_frame e.answer) done

-- what went over it since the last response: of the client's bytes those that were let go, what was handed out, what was sent
-- and what was written
pub record Now : Type 0 where
  pub dropped : List ℕ
  pub given : List ℕ
  pub sent : List ℕ
  pub written : List ℕ

abbrev pub nothing : Now
nothing = record { dropped = []; given = []; sent = []; written = [] }

abbrev pub asked : Post → List ℕ → List ℕ → Now
asked post sent written = record { dropped = post_bytes post; given = framed post.body; sent = sent; written = written }

-- why nothing more is handed out: the client ended, or ended inside a request; a bad request; a request that ends the connection
-- has its response
pub data IsOver (r : Reading) (input : List ℕ) (ended : Bool) (now : Now) : Type 0 where
  AtEnd : ended ≡ true → input ≡ [] → now ≡ nothing → IsOver r input ended now
  TooEarly : (dropped : List ℕ) → ended ≡ true → IsRest r.limit (dropped ++ input) → dropped ++ input ≢ []
      → now ≡ record { dropped = dropped; given = early; sent = []; written = [] } → IsOver r input ended now
  Marked : IsBad r.limit input → now ≡ record { dropped = []; given = mark; sent = []; written = [] } → IsOver r input ended now
  Last : (e : Exchange) → IsExchange r e → is_last e.post.head ≡ true
      → now ≡ asked e.post (response (content_of e.answer)) (answer_frame e.answer) → IsOver r input ended now

-- the POST is answered by the next message that is written
pub record AwaitsAnswer (r : Reading) (post : Post) (last : Bool) : Type 0 where
  pub post_is : IsPost r.limit post
  pub answers : reply_in r post ≡ reply.Answer
  pub last_is : last ≡ is_last post.head

-- of an answer of so many bytes this much was written
abbrev pub with_content : Post → ℕ → List ℕ → Now
with_content post size content = asked post (response_head size ++ content) (to_be_bytes w32 size ++ content)

-- at each stage, what went over it since the last response
abbrev pub StandsAt : Reading → Stage → List ℕ → Bool → Now → Type 0
StandsAt r stage.Head input ended now = now ≡ nothing
StandsAt r (stage.Body size given last) input ended now =
    (head : RequestHead) × IsGood r.limit head size × (last ≡ is_last head)
    × (now ≡ record { dropped = print_request head; given = take given (framed (take size input)); sent = []; written = [] }) × (0 < given → size ≤ length input)
StandsAt r (stage.Answer bytes have last) input ended now =
    (post : Post) × AwaitsAnswer r post last × (now ≡ asked post [] (take have bytes))
StandsAt r (stage.Response size sent last) input ended now =
    (post : Post) × AwaitsAnswer r post last × (now ≡ asked post (take sent (response_head size)) (to_be_bytes w32 size))
StandsAt r (stage.Content left last) input ended now =
    (post : Post) × (content : List ℕ) × AwaitsAnswer r post last × (length content + left < 2 ^ 32) × (now ≡ with_content post (length content + left) content)
StandsAt r (stage.Empty sent last) input ended now =
    (e : Exchange) × IsExchange r e × (content_of e.answer ≡ []) × (last ≡ is_last e.post.head)
    × (now ≡ asked e.post (take sent (response_head 0)) (answer_frame e.answer))
StandsAt r stage.Missing input ended now =
    (post : Post) × IsPost r.limit post × (reply_in r post ≡ reply.Missing) × (now ≡ asked post [] [])
StandsAt r (stage.Mark given) input ended now =
    IsBad r.limit input × (now ≡ record { dropped = []; given = take given mark; sent = []; written = [] })
StandsAt r stage.Early input ended now =
    (dropped : List ℕ) × (ended ≡ true) × IsRest r.limit (dropped ++ input) × (dropped ++ input ≢ [])
    × (now ≡ record { dropped = dropped; given = []; sent = []; written = [] })
StandsAt r stage.Over input ended now = IsOver r input ended now

-- what was received, whether the client ended, what was handed out, sent and written
pub record Carried : Type 0 where
  pub received : List ℕ
  pub ended : Bool
  pub given : List ℕ
  pub sent : List ℕ
  pub written : List ℕ

-- The front stands for what went over it: exchanges that are done, none of which ends the connection, and what came since.
pub record Fits (r : Reading) (f : Front) (c : Carried) : Type 0 where
  pub limit : f.limit ≡ r.limit
  pub done : List Exchange
  pub now : Now
  pub each : All (IsExchange r) done
  pub goes_on : All (λ e. is_last e.post.head ≡ false) done
  pub received : c.received ≡ requests done ++ (now.dropped ++ f.input)
  pub given : c.given ≡ frames done ++ now.given
  pub sent : c.sent ≡ responses done ++ now.sent
  pub written : c.written ≡ answers done ++ now.written
  pub stands : StandsAt r f.stage f.input c.ended now

-- ---- what it holds

-- the bounds of a stage, where so many bytes are the limit
abbrev pub IsWithin : ℕ → Stage → Type 0
IsWithin limit stage.Head = ⊤
IsWithin limit (stage.Body size given last) = (size ≤ limit) × (given < size + 4)
IsWithin limit (stage.Answer bytes have last) = (have < 4) × (length bytes ≡ 4)
IsWithin limit (stage.Response size sent last) = (sent ≤ length (response_head size)) × (0 < size)
IsWithin limit (stage.Content left last) = (0 < left) × (left < 2 ^ 32)
IsWithin limit (stage.Empty sent last) = sent < length (response_head 0)
IsWithin limit stage.Missing = ⊤
IsWithin limit (stage.Mark given) = given < 4
IsWithin limit stage.Early = ⊤
IsWithin limit stage.Over = ⊤

-- what is known of every front
pub record IsSound (f : Front) : Type 0 where
  pub limit : f.limit < 2 ^ 31
  pub stage : IsWithin f.limit f.stage
  pub seen : f.seen ≤ length f.input
  pub short : f.seen ≤ head_limit
  pub look : f.look ≡ looked look.Before (take f.seen f.input)

-- no head stands whole at the front, and one has room there
abbrev pub IsOpenHead : Stage → List ℕ → Type 0
IsOpenHead stage.Head input = (length input < head_limit) × HasNoRequest input
IsOpenHead (stage.Body size given last) input = ⊤
IsOpenHead (stage.Answer bytes have last) input = ⊤
IsOpenHead (stage.Response size sent last) input = ⊤
IsOpenHead (stage.Content left last) input = ⊤
IsOpenHead (stage.Empty sent last) input = ⊤
IsOpenHead stage.Missing input = ⊤
IsOpenHead (stage.Mark given) input = ⊤
IsOpenHead stage.Early input = ⊤
IsOpenHead stage.Over input = ⊤

-- how many more bytes are asked for
abbrev pub wanted_in : Stage → List ℕ → ℕ
wanted_in stage.Head input = head_limit - length input
wanted_in (stage.Body size given last) input = size - length input
wanted_in (stage.Answer bytes have last) input = 0
wanted_in (stage.Response size sent last) input = 0
wanted_in (stage.Content left last) input = 0
wanted_in (stage.Empty sent last) input = 0
wanted_in stage.Missing input = 0
wanted_in (stage.Mark given) input = 0
wanted_in stage.Early input = 0
wanted_in stage.Over input = 0

abbrev pub wanted : Front → ℕ
wanted f = wanted_in f.stage f.input

-- the most bytes that may still be asked for
abbrev pub ahead_in : Stage → List ℕ → ℕ → ℕ
ahead_in stage.Head input limit = limit + 1 + (head_limit - length input)
ahead_in (stage.Body size given last) input limit = size - length input
ahead_in (stage.Answer bytes have last) input limit = 0
ahead_in (stage.Response size sent last) input limit = 0
ahead_in (stage.Content left last) input limit = 0
ahead_in (stage.Empty sent last) input limit = 0
ahead_in stage.Missing input limit = 0
ahead_in (stage.Mark given) input limit = 0
ahead_in stage.Early input limit = 0
ahead_in stage.Over input limit = 0

abbrev pub ahead : Front → ℕ
ahead f = ahead_in f.stage f.input f.limit

-- nothing is read of the client: an answer is awaited, or the body that was handed out ends the session
abbrev pub holds_back : Stage → Bool
holds_back stage.Head = false
holds_back (stage.Body size given last) = false
holds_back (stage.Answer bytes have last) = true
holds_back (stage.Response size sent last) = true
holds_back (stage.Content left last) = true
holds_back (stage.Empty sent last) = false
holds_back stage.Missing = true
holds_back (stage.Mark given) = false
holds_back stage.Early = false
holds_back stage.Over = false

-- a response without content waits to be sent
abbrev pub is_empty : Stage → Bool
is_empty stage.Head = false
is_empty (stage.Body size given last) = false
is_empty (stage.Answer bytes have last) = false
is_empty (stage.Response size sent last) = false
is_empty (stage.Content left last) = false
is_empty (stage.Empty sent last) = true
is_empty stage.Missing = false
is_empty (stage.Mark given) = false
is_empty stage.Early = false
is_empty stage.Over = false

-- neither: requests are read, and their bodies handed out
abbrev pub is_asking : Stage → Bool
is_asking at = not (holds_back at || is_empty at)

-- no answer is awaited
abbrev pub is_answered : Stage → Bool
is_answered stage.Head = true
is_answered (stage.Body size given last) = true
is_answered (stage.Answer bytes have last) = false
is_answered (stage.Response size sent last) = false
is_answered (stage.Content left last) = false
is_answered (stage.Empty sent last) = true
is_answered stage.Missing = true
is_answered (stage.Mark given) = true
is_answered stage.Early = true
is_answered stage.Over = true

-- what comes behind a response
abbrev pub behind_response : Bool → Stage
behind_response last = if last then stage.Over else stage.Head

-- what comes where so many bytes of an answer are left
abbrev pub behind_content : ℕ → Bool → Stage
behind_content left last = if nat_lt 0 left then stage.Content left last else behind_response last

-- what comes behind so many bytes of an answer's length
abbrev pub behind_length : List ℕ → ℕ → Bool → Stage
behind_length bytes have last =
    if nat_lt have 4 then stage.Answer bytes have last
    else if from_be_bytes w32 bytes == 0 then stage.Empty 0 last
    else stage.Response (from_be_bytes w32 bytes) 0 last

-- what comes behind a body that gets this response
abbrev pub behind_body : Reply → Bool → Stage
behind_body reply.Answer last = stage.Answer (0 ∷ 0 ∷ 0 ∷ 0 ∷ []) 0 last
behind_body reply.Empty last = stage.Empty 0 last
behind_body reply.Missing last = stage.Missing

-- a body of so many bytes is let go
abbrev pub body_ended : Reading → ℕ → Bool → Front → Front
body_ended r size last f =
    record f { input = drop size f.input; look = look.Before; seen = 0; stage = behind_body (reply_to r.declared r.service r.client (take size f.input)) last }

-- what comes where so many bytes of the mark were handed out
abbrev pub behind_mark : ℕ → Stage
behind_mark given = if given == 4 then stage.Over else stage.Mark given
