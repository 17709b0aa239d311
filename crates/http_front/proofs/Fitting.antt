-- How a front fits on.
use Rattle.std.proofs.Common.{◌≡◌, ℕ, zero, suc, ◌+◌, ◌-◌, ◌<◌, ◌≤◌, Bool, true, false, List, [], ◌∷◌, ◌++◌, length, take, drop, min, None, ◌==◌, if◌then◌else◌, refl, sym, ap, ◌∙◌, subst, arith, append_assoc, append-nil, length-append, length-take, eqb-true}
use Rattle.std.specs.List.{flat_map}
use Rattle.std.specs.Int.{to_be_bytes, w32}
use Rattle.std.proofs.lemmas.Grind.{flat_map-append}
use Rattle.std.proofs.lemmas.List.{take-append-drop, take_all}
use Rattle.std.proofs.lemmas.List.Elements.{All-push}
use Rattle.std.proofs.Math.Seq.{take-add}
use Rattle.framed_transport.specs.Frames.{framed}
use Rattle.httparse.specs.Grammar.{print_request}
use Rattle.http_front.specs.Heads.{is_last}
use Rattle.http_front.specs.Posts.{Post, post_bytes, IsGood, IsPost, IsBad, Hopeless, InHead, InBody, mark, early}
use Rattle.http_front.specs.Reading.{FindsHead}
use Rattle.http_front.specs.Replies.{response}
use Rattle.http_front.specs.declared.head.Head.TheVariants as heads
use Rattle.http_front.specs.declared.stage.Stage.{Stage}
use Rattle.http_front.specs.declared.stage.Stage.TheVariants as stage
use Rattle.http_front.specs.declared.replies.Reply.{Reply}
use Rattle.http_front.specs.declared.replies.Reply.TheVariants as reply
use Rattle.http_front.specs.Fronts.{Front, Exchange, content_of, answer_frame, Reading, reply_in, Answers, IsExchange, requests, frames, responses, answers, Now, nothing, asked, AtEnd, TooEarly, Marked, Last, StandsAt, Carried, Fits, IsOpenHead, behind_response, behind_body, behind_mark, body_ended}
use Rattle.http_front.proofs.Heads.{head_some}
use Rattle.http_front.specs.Moving.{Keeps, EndsFront, HandsOut, and_given, EndsHead}

-- ---- one more of what was done

one_more : {X : Type 0} → (f : X → List ℕ) (xs : List X) (x : X) → flat_map f (xs ++ x ∷ []) ≡ flat_map f xs ++ f x
one_more f xs x = flat_map-append f xs (x ∷ []) ∙ ap (λ (l : List ℕ). flat_map f xs ++ l) (append-nil (f x))

-- what came since the last response is other than it was
pub fits_on : (r : Reading) (f g : Front) (c d : Carried) (x : Fits r f c) (now : Now) → g.limit ≡ f.limit → d.received ≡ requests x.done ++ (now.dropped ++ g.input) → d.given ≡ frames x.done ++ now.given
    → d.sent ≡ responses x.done ++ now.sent → d.written ≡ answers x.done ++ now.written → StandsAt r g.stage g.input d.ended now → Fits r g d
fits_on r f g c d x now limit received given sent written stands = record {
  limit = limit ∙ x.limit;
  done = x.done;
  now = now;
  each = x.each;
  goes_on = x.goes_on;
  received = received;
  given = given;
  sent = sent;
  written = written;
  stands = stands;
}

-- a response is whole
pub finishes : (r : Reading) (f g : Front) (c d : Carried) (x : Fits r f c) (e : Exchange) (last : Bool) → IsExchange r e → last ≡ is_last e.post.head → g.limit ≡ f.limit → d.received ≡ requests x.done ++ (post_bytes e.post ++ g.input)
    → d.given ≡ frames x.done ++ framed e.post.body → d.sent ≡ responses x.done ++ response (content_of e.answer) → d.written ≡ answers x.done ++ answer_frame e.answer → g.stage ≡ behind_response last → Fits r g d
finishes r f g c d x e true is ends limit received given sent written at =
    fits_on r f g c d x (asked e.post (response (content_of e.answer)) (answer_frame e.answer)) limit received given sent written (subst (λ (s : Stage). StandsAt r s g.input d.ended (asked e.post (response (content_of e.answer)) (answer_frame e.answer))) (sym at) (Last e is (sym ends) refl))
finishes r f g c d x e false is ends limit received given sent written at = record {
  limit = limit ∙ x.limit;
  done = x.done ++ e ∷ [];
  now = nothing;
  each = All-push (IsExchange r) x.done e x.each is;
  goes_on = All-push (λ (e : Exchange). is_last e.post.head ≡ false) x.done e x.goes_on (sym ends);
  received = received ∙ (sym (append_assoc (requests x.done) (post_bytes e.post) g.input) ∙ ap (λ (l : List ℕ). l ++ g.input) (sym (one_more (λ (e : Exchange). post_bytes e.post) x.done e)));
  given = given ∙ (sym (one_more (λ (e : Exchange). framed e.post.body) x.done e) ∙ sym (append-nil (frames (x.done ++ e ∷ []))));
  sent = sent ∙ (sym (one_more (λ (e : Exchange). response (content_of e.answer)) x.done e) ∙ sym (append-nil (responses (x.done ++ e ∷ []))));
  written = written ∙ (sym (one_more (λ (e : Exchange). answer_frame e.answer) x.done e) ∙ sym (append-nil (answers (x.done ++ e ∷ []))));
  stands = subst (λ (s : Stage). StandsAt r s g.input d.ended nothing) (sym at) refl;
}

-- how it stands at a stage
pub stands_at : (r : Reading) (f : Front) (c : Carried) (s : Stage) (x : Fits r f c) → f.stage ≡ s → StandsAt r s f.input c.ended x.now
stands_at r f c s x at = subst (λ (s : Stage). StandsAt r s f.input c.ended x.now) at x.stands

-- what came since is this
pub now_is : (r : Reading) (f : Front) (c : Carried) (x : Fits r f c) (now : Now) → x.now ≡ now
    → (c.received ≡ requests x.done ++ (now.dropped ++ f.input)) × (c.given ≡ frames x.done ++ now.given) × (c.sent ≡ responses x.done ++ now.sent) × (c.written ≡ answers x.done ++ now.written)
now_is r f c x now is = (
  x.received ∙ ap (λ (n : Now). requests x.done ++ (n.dropped ++ f.input)) is,
  x.given ∙ ap (λ (n : Now). frames x.done ++ n.given) is,
  x.sent ∙ ap (λ (n : Now). responses x.done ++ n.sent) is,
  x.written ∙ ap (λ (n : Now). answers x.done ++ n.written) is,
)

-- ---- the front alone

pub kept_same : (f g : Front) → g.input ≡ f.input → g.limit ≡ f.limit → g.stage ≡ f.stage → Keeps f g
kept_same f g input limit at r c x =
    fits_on r f g c c x x.now limit (x.received ∙ ap (λ (i : List ℕ). requests x.done ++ (x.now.dropped ++ i)) (sym input)) x.given x.sent x.written
    (subst (λ (s : Stage). StandsAt r s g.input c.ended x.now) (sym at) (subst (λ (i : List ℕ). StandsAt r f.stage i c.ended x.now) (sym input) x.stands))

-- a good head stands at the front
pub begins_body : (f g : Front) (size body : ℕ) (last : Bool) → f.stage ≡ stage.Head → FindsHead f.limit f.input (heads.Post size body last) → g.limit ≡ f.limit → g.input ≡ drop size f.input → g.stage ≡ stage.Body body 0 last → Keeps f g
begins_body f g size body last at (h, good, cut, long, held, small, ends) limit input goes r c x =
    let now : Now = record { dropped = print_request h; given = []; sent = []; written = [] } in
    let n = now_is r f c x nothing (stands_at r f c stage.Head x at) in
    fits_on r f g c c x now limit (n.0 ∙ ap (λ (i : List ℕ). requests x.done ++ i) (cut ∙ ap (λ (i : List ℕ). print_request h ++ i) (sym input))) n.1 n.2 n.3
    (subst (λ (s : Stage). StandsAt r s g.input c.ended now) (sym goes) (h, subst (λ (l : ℕ). IsGood l h body) x.limit good, ends, refl, λ some. absurd (omega (arith, some))))

-- a bad one does
pub turns_bad : (f g : Front) → f.stage ≡ stage.Head → FindsHead f.limit f.input heads.Bad → g.input ≡ f.input → g.limit ≡ f.limit → g.stage ≡ stage.Mark 0 → Keeps f g
turns_bad f g at bad input limit goes r c x =
    let n = now_is r f c x nothing (stands_at r f c stage.Head x at) in
    fits_on r f g c c x nothing limit (n.0 ∙ ap (λ (i : List ℕ). requests x.done ++ i) (sym input)) n.1 n.2 n.3
    (subst (λ (s : Stage). StandsAt r s g.input c.ended nothing) (sym goes) (subst (λ (i : List ℕ). IsBad r.limit i) (sym input) (subst (λ (l : ℕ). IsBad l f.input) x.limit bad), refl))

-- no bytes of a frame were handed out before its body was held
pub none_given : (given size held : ℕ) → (0 < given → size ≤ held) → held < size → given ≡ 0
none_given zero size held some short = refl
none_given (suc given) size held some short = absurd (omega (arith, some (omega arith), short))

-- the client has ended inside a body
pub ends_body : (f g : Front) (size given : ℕ) (last : Bool) → f.stage ≡ stage.Body size given last → length f.input < size → g.input ≡ f.input → g.limit ≡ f.limit → g.stage ≡ stage.Early → EndsFront f g
ends_body f g size given last at short input limit goes r c x ended =
    let b = stands_at r f c (stage.Body size given last) x at in
    let now : Now = record { dropped = print_request b.0; given = []; sent = []; written = [] } in
    let was : x.now ≡ now = b.3 ∙ ap (λ (n : ℕ). record { dropped = print_request b.0; given = take n (framed (take size f.input)); sent = []; written = [] }) (none_given given size (length f.input) b.4 short) in
    let n = now_is r f c x now was in
    fits_on r f g c c x now limit (n.0 ∙ ap (λ (i : List ℕ). requests x.done ++ (print_request b.0 ++ i)) (sym input)) n.1 n.2 n.3
    (subst (λ (s : Stage). StandsAt r s g.input c.ended now) (sym goes) (subst (λ (i : List ℕ). StandsAt r stage.Early i c.ended now) (sym input) (
      print_request b.0,
      ended,
      InBody b.0 size f.input b.1 short,
      λ none. absurd (omega (arith, ap (λ (l : List ℕ). length l) none, length-append (print_request b.0) f.input, head_some b.0)),
      refl,
    )))

-- the client has ended before a head was whole
pub ends_head : (f g : Front) → f.stage ≡ stage.Head → IsOpenHead stage.Head f.input → EndsHead f.input g.stage → g.input ≡ f.input → g.limit ≡ f.limit → EndsFront f g
ends_head f g at front ends input limit r c x ended = by g.stage refl ends
  where
    n : (c.received ≡ requests x.done ++ ([] ++ f.input)) × (c.given ≡ frames x.done ++ []) × (c.sent ≡ responses x.done ++ []) × (c.written ≡ answers x.done ++ [])
    n = now_is r f c x nothing (stands_at r f c stage.Head x at)

    so : StandsAt r g.stage f.input c.ended nothing → Fits r g c
    so stands =
        fits_on r f g c c x nothing limit (n.0 ∙ ap (λ (i : List ℕ). requests x.done ++ i) (sym input)) n.1 n.2 n.3
        (subst (λ (i : List ℕ). StandsAt r g.stage i c.ended nothing) (sym input) stands)

    at_stage : (s : Stage) → g.stage ≡ s → StandsAt r s f.input c.ended nothing → Fits r g c
    at_stage s is stands = so (subst (λ (s : Stage). StandsAt r s f.input c.ended nothing) (sym is) stands)

    by : (s : Stage) → g.stage ≡ s → EndsHead f.input s → Fits r g c
    by stage.Over is h = at_stage stage.Over is (AtEnd ended h refl)
    by (stage.Mark given) is h = at_stage (stage.Mark given) is (Hopeless h.1, ap (λ (n : ℕ). record { dropped = []; given = take n mark; sent = []; written = [] }) (sym h.0))
    by stage.Early is h = at_stage stage.Early is ([], ended, InHead f.input front.0 front.1 (h.1 front.1), h.0, refl)
    by stage.Head is h = absurd h
    by (stage.Body size given last) is h = absurd h
    by (stage.Answer bytes have last) is h = absurd h
    by (stage.Response size sent last) is h = absurd h
    by (stage.Content left last) is h = absurd h
    by (stage.Empty sent last) is h = absurd h
    by stage.Missing is h = absurd h

-- ---- handing out

-- a piece of what comes, behind what was given
and_piece : (all given piece : List ℕ) (c : Carried) (done : List Exchange) (n m : ℕ) → c.given ≡ frames done ++ take n all → piece ≡ take m (drop n all) → c.given ++ piece ≡ frames done ++ take (n + m) all
and_piece all given piece c done n m is piece_is =
    ap (λ (l : List ℕ). l ++ piece) is
    ∙ (append_assoc (frames done) (take n all) piece ∙ ap (λ (l : List ℕ). frames done ++ l) (ap (λ (l : List ℕ). take n all ++ l) piece_is ∙ sym (take-add n m all)))

pub hands_part : (f g : Front) (size given count : ℕ) (last : Bool) (piece : List ℕ) → f.stage ≡ stage.Body size given last → size ≤ length f.input → g ≡ record f { stage = stage.Body size (given + count) last }
    → piece ≡ take count (drop given (framed (take size f.input))) → (r : Reading) → HandsOut r piece f g
hands_part f g size given count last piece at whole is piece_is r c x =
    let b = stands_at r f c (stage.Body size given last) x at in
    let n = now_is r f c x (record { dropped = print_request b.0; given = take given (framed (take size f.input)); sent = []; written = [] }) b.3 in
    let now : Now = record { dropped = print_request b.0; given = take (given + count) (framed (take size f.input)); sent = []; written = [] } in
    subst (λ (g : Front). Fits r g (and_given c piece)) (sym is)
    (fits_on r f (record f { stage = stage.Body size (given + count) last }) c (and_given c piece) x now refl n.0 (and_piece (framed (take size f.input)) c.given piece c x.done given count n.1 piece_is) n.2 n.3
    (b.0, b.1, b.2, refl, λ some. whole))

frame_long : (body : List ℕ) → length (framed body) ≡ length body + 4
unfolding framed
frame_long body = omega (arith, length-append (to_be_bytes w32 (length body)) body)

pub hands_whole : (r : Reading) (f g : Front) (size given count : ℕ) (last : Bool) (piece : List ℕ) → f.stage ≡ stage.Body size given last → size ≤ length f.input → given + count ≡ size + 4 → g ≡ body_ended r size last f
    → piece ≡ take count (drop given (framed (take size f.input))) → HandsOut r piece f g
hands_whole r f g size given count last piece at whole all is piece_is c x =
    subst (λ (g : Front). Fits r g (and_given c piece)) (sym is) (by (reply_in r post) refl)
  where
    b : StandsAt r (stage.Body size given last) f.input c.ended x.now
    b = stands_at r f c (stage.Body size given last) x at

    body : List ℕ
    body = take size f.input

    post : Post
    post = record { head = b.0; body = body }

    long : length body ≡ size
    long = omega (arith, length-take size f.input, whole)

    is_post : IsPost r.limit post
    is_post = subst (λ (n : ℕ). IsGood r.limit b.0 n) (sym long) b.1

    so : (s : Stage) → StandsAt r s (drop size f.input) c.ended (asked post [] []) → Fits r (record (body_ended r size last f) { stage = s }) (and_given c piece)
    so s stands =
        let n = now_is r f c x (record { dropped = print_request b.0; given = take given (framed body); sent = []; written = [] }) b.3 in
        fits_on r f (record (body_ended r size last f) { stage = s }) c (and_given c piece) x (asked post [] []) refl
        (n.0 ∙ ap (λ (l : List ℕ). requests x.done ++ l) (ap (λ (l : List ℕ). print_request b.0 ++ l) (sym (take-append-drop size f.input)) ∙ sym (append_assoc (print_request b.0) body (drop size f.input))))
        (and_piece (framed body) c.given piece c x.done given count n.1 piece_is ∙ ap (λ (l : List ℕ). frames x.done ++ l) (take_all (given + count) (framed body) (omega (arith, frame_long body, long, all))))
        n.2 n.3 stands

    by : (rep : Reply) → reply_in r post ≡ rep → Fits r (body_ended r size last f) (and_given c piece)
    by rep e = subst (λ (s : Stage). Fits r (record (body_ended r size last f) { stage = s }) (and_given c piece)) (ap (λ (rep : Reply). behind_body rep last) (sym e)) (so (behind_body rep last) (at_reply rep e))
      where
        at_reply : (rep : Reply) → reply_in r post ≡ rep → StandsAt r (behind_body rep last) (drop size f.input) c.ended (asked post [] [])
        at_reply reply.Answer e = (post, record { post_is = is_post; answers = e; last_is = b.2 }, refl)
        at_reply reply.Empty e = (record { post = post; answer = None }, record { post = is_post; answers = subst (λ (rep : Reply). Answers rep None) (sym e) tt }, refl, b.2, refl)
        at_reply reply.Missing e = (post, is_post, e, refl)

pub hands_mark : (f g : Front) (given count : ℕ) (piece : List ℕ) → f.stage ≡ stage.Mark given → g ≡ record f { stage = behind_mark (given + count) } → piece ≡ take count (drop given mark) → (r : Reading) → HandsOut r piece f g
hands_mark f g given count piece at is piece_is r c x =
    subst (λ (g : Front). Fits r g (and_given c piece)) (sym is) (by (given + count == 4) refl)
  where
    b : StandsAt r (stage.Mark given) f.input c.ended x.now
    b = stands_at r f c (stage.Mark given) x at

    now : Now
    now = record { dropped = []; given = take (given + count) mark; sent = []; written = [] }

    so : StandsAt r (behind_mark (given + count)) f.input c.ended now → Fits r (record f { stage = behind_mark (given + count) }) (and_given c piece)
    so stands =
        let n = now_is r f c x (record { dropped = []; given = take given mark; sent = []; written = [] }) b.1 in
        fits_on r f (record f { stage = behind_mark (given + count) }) c (and_given c piece) x now refl n.0 (and_piece mark c.given piece c x.done given count n.1 piece_is) n.2 n.3 stands

    by : (t : Bool) → (given + count == 4) ≡ t → Fits r (record f { stage = behind_mark (given + count) }) (and_given c piece)
    by true e =
        so (subst (λ (t : Bool). StandsAt r (if t then stage.Over else stage.Mark (given + count)) f.input c.ended now) (sym e)
        (Marked b.0 (ap (λ (n : ℕ). record { dropped = []; given = take n mark; sent = []; written = [] }) (eqb-true (given + count) 4 e))))
    by false e = so (subst (λ (t : Bool). StandsAt r (if t then stage.Over else stage.Mark (given + count)) f.input c.ended now) (sym e) (b.0, refl))

pub hands_early : (f g : Front) (piece : List ℕ) → f.stage ≡ stage.Early → g ≡ record f { stage = stage.Over } → piece ≡ early → (r : Reading) → HandsOut r piece f g
hands_early f g piece at is piece_is r c x =
    let b = stands_at r f c stage.Early x at in
    let n = now_is r f c x (record { dropped = b.0; given = []; sent = []; written = [] }) b.4 in
    let now : Now = record { dropped = b.0; given = early; sent = []; written = [] } in
    subst (λ (g : Front). Fits r g (and_given c piece)) (sym is)
    (fits_on r f (record f { stage = stage.Over }) c (and_given c piece) x now refl n.0
    (ap (λ (l : List ℕ). l ++ piece) n.1 ∙ (append_assoc (frames x.done) [] piece ∙ ap (λ (l : List ℕ). frames x.done ++ l) piece_is)) n.2 n.3
    (TooEarly b.0 b.1 b.2 b.3 refl))

-- some bytes of one
pub early_piece : (count size : ℕ) (piece : List ℕ) → count ≡ min (1 - 0) size → 0 < size → piece ≡ take count (drop 0 early) → piece ≡ early
early_piece count size piece is some piece_is = piece_is ∙ ap (λ (n : ℕ). take n early) one
  where
    one : count ≡ 1
    one = omega (arith, is, some)

-- nothing was handed out
pub hands_nothing : (f g : Front) → g ≡ f → (r : Reading) → HandsOut r [] f g
hands_nothing f g same r c x =
    subst (λ (g : Front). Fits r g (and_given c [])) (sym same)
    (fits_on r f f c (and_given c []) x x.now refl x.received (append-nil c.given ∙ x.given) x.sent x.written x.stands)
