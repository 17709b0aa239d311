-- What a front stands for, by the POSTs that were received.
use Rattle.std.proofs.Common.{◌≡◌, ◌≢◌, ℕ, zero, suc, ◌+◌, ◌<◌, ◌≤◌, Bool, true, List, [], ◌∷◌, ◌++◌, length, take, drop, Option, Some, None, refl, sym, ap, ◌∙◌, subst, arith, append_assoc, append-nil, length-take}
use Rattle.std.specs.Int.{to_be_bytes, w32}
use Rattle.std.proofs.lemmas.List.{take-append-drop}
use Rattle.framed_transport.specs.Frames.{framed}
use Rattle.httparse.specs.Grammar.{RequestHead, print_request}
use Rattle.http_front.specs.Posts.{Post, post_bytes, IsGood, IsPost, IsBad, IsRest, Tail, rest, bad, Posts, mark, early, tail_frames, post_frames}
use Rattle.http_front.specs.Fronts.{Reading, Front, Carried, Fits, Now, asked, Exchange, content_of, answer_frame, frames, StandsAt, IsOver, AtEnd, TooEarly, Marked, Last}
use Rattle.http_front.specs.Replies.{response_head, response}
use Rattle.http_front.specs.declared.stage.Stage.{Stage}
use Rattle.http_front.specs.declared.stage.Stage.TheVariants as stage
use Rattle.http_laws.specs.Served.{IsServed, IsAnswering, Unsent, WithContent, Without, posts_of, next_frame}
use Rattle.http_laws.proofs.Cuts.{first, behind, rejoins, bad_alone, rest_alone}

-- what was handed out since the last response, by what stands behind
record IsNext (limit : ℕ) (bytes : List ℕ) (ended : Bool) (given : List ℕ) (later : List Post) : Type 0 where
  tail : Tail
  cut : Posts limit bytes later tail
  more : List ℕ
  front : given ++ more ≡ next_frame later tail ended

none_yet : (limit : ℕ) (bytes given : List ℕ) (ended : Bool) (later : List Post) (tail : Tail) → Posts limit bytes later tail → given ≡ [] → IsNext limit bytes ended given later
none_yet limit bytes given ended later tail h none = record { tail = tail; cut = h; more = next_frame later tail ended; front = ap (λ (l : List ℕ). l ++ next_frame later tail ended) none }

-- a front of the first body's frame
of_first : (limit : ℕ) (p : Post) (x bytes given more : List ℕ) (ended : Bool) (later : List Post) (tail : Tail) → IsPost limit p → bytes ≡ post_bytes p ++ x → Posts limit bytes later tail → given ++ more ≡ framed p.body → IsNext limit bytes ended given later
of_first limit p x bytes given more ended later tail is at h e =
    let f = first limit p x later tail is (subst (λ (y : List ℕ). Posts limit y later tail) at h) in
    record { tail = tail; cut = h; more = more; front = e ∙ ap (λ (l : List Post). next_frame l tail ended) (sym f.posts_are) }

whole : (limit : ℕ) (p : Post) (dropped input given : List ℕ) (ended : Bool) (later : List Post) (tail : Tail) → IsPost limit p → dropped ≡ post_bytes p → given ≡ framed p.body → Posts limit (dropped ++ input) later tail → IsNext limit (dropped ++ input) ended given later
whole limit p dropped input given ended later tail is d g h =
    of_first limit p input (dropped ++ input) given [] ended later tail is (ap (λ (y : List ℕ). y ++ input) d) h (append-nil given ∙ g)

-- of a bad head
marked : (limit : ℕ) (bytes given more : List ℕ) (ended : Bool) (later : List Post) (tail : Tail) → IsBad limit bytes → given ++ more ≡ mark → Posts limit bytes later tail → IsNext limit bytes ended given later
marked limit bytes given more ended later tail is e h =
    let none = bad_alone limit bytes later tail is h in
    record { tail = bad; cut = subst (λ (l : List Post). Posts limit bytes l bad) (sym none) is; more = more; front = e ∙ ap (λ (l : List Post). next_frame l bad ended) (sym none) }

pub early_frame : (bytes : List ℕ) → bytes ≢ [] → tail_frames (rest bytes) true ≡ early
early_frame [] some = absurd (some refl)
early_frame (b ∷ bytes) some = refl

too_early : (limit : ℕ) (bytes given : List ℕ) (ended : Bool) (later : List Post) (tail : Tail) → ended ≡ true → IsRest limit bytes → bytes ≢ [] → given ≡ early → Posts limit bytes later tail → IsNext limit bytes ended given later
too_early limit bytes given ended later tail over is some e h =
    let none = rest_alone limit bytes later tail is h in
    record {
      tail = rest bytes;
      cut = subst (λ (l : List Post). Posts limit bytes l (rest bytes)) (sym none) (refl, is);
      more = [];
      front = append-nil given ∙ (e ∙ (sym (early_frame bytes some) ∙ (ap (λ (b : Bool). tail_frames (rest bytes) b) (sym over) ∙ ap (λ (l : List Post). next_frame l (rest bytes) ended) (sym none))));
    }

in_body : (limit size given : ℕ) (head : RequestHead) (dropped input out : List ℕ) (ended : Bool) (later : List Post) (tail : Tail) → IsGood limit head size → dropped ≡ print_request head → out ≡ take given (framed (take size input))
    → (0 < given → size ≤ length input) → Posts limit (dropped ++ input) later tail → IsNext limit (dropped ++ input) ended out later
in_body limit size zero head dropped input out ended later tail good d o held h = none_yet limit (dropped ++ input) out ended later tail h o
in_body limit size (suc given) head dropped input out ended later tail good d o held h =
    let n : length (take size input) ≡ size = omega (arith, length-take size input, held (omega arith)) in
    of_first limit (record { head = head; body = take size input }) (drop size input) (dropped ++ input) out (drop (suc given) (framed (take size input))) ended later tail
    (subst (IsGood limit head) (sym n) good)
    (ap (λ (y : List ℕ). y ++ input) d ∙ (ap (λ (y : List ℕ). print_request head ++ y) (sym (take-append-drop size input)) ∙ sym (append_assoc (print_request head) (take size input) (drop size input))))
    h
    (ap (λ (y : List ℕ). y ++ drop (suc given) (framed (take size input))) o ∙ take-append-drop (suc given) (framed (take size input)))

over : (r : Reading) (input : List ℕ) (ended : Bool) (now : Now) (later : List Post) (tail : Tail) → IsOver r input ended now → Posts r.limit (now.dropped ++ input) later tail → IsNext r.limit (now.dropped ++ input) ended now.given later
over r input ended now later tail (AtEnd e none is) h = none_yet _ _ now.given ended later tail h (ap (λ (n : Now). n.given) is)
over r input ended now later tail (TooEarly dropped e left some is) h =
    let d = ap (λ (n : Now). n.dropped ++ input) is in
    too_early _ _ now.given ended later tail e (subst (IsRest r.limit) (sym d) left) (λ n. some (sym d ∙ n)) (ap (λ (n : Now). n.given) is) h
over r input ended now later tail (Marked is_bad is) h =
    marked _ _ now.given [] ended later tail (subst (IsBad r.limit) (sym (ap (λ (n : Now). n.dropped ++ input) is)) is_bad) (append-nil now.given ∙ ap (λ (n : Now). n.given) is) h
over r input ended now later tail (Last e x last is) h =
    whole r.limit e.post now.dropped input now.given ended later tail x.post (ap (λ (n : Now). n.dropped) is) (ap (λ (n : Now). n.given) is) h

next : (r : Reading) (s : Stage) (input : List ℕ) (ended : Bool) (now : Now) (later : List Post) (tail : Tail) → StandsAt r s input ended now → Posts r.limit (now.dropped ++ input) later tail → IsNext r.limit (now.dropped ++ input) ended now.given later
next r stage.Head input ended now later tail s h = none_yet _ _ now.given ended later tail h (ap (λ (n : Now). n.given) s)
next r (stage.Body size given last) input ended now later tail s h =
    in_body r.limit size given s.0 now.dropped input now.given ended later tail s.1 (ap (λ (n : Now). n.dropped) s.3) (ap (λ (n : Now). n.given) s.3) s.4 h
next r (stage.Answer bytes have last) input ended now later tail s h =
    whole r.limit s.0 now.dropped input now.given ended later tail s.1.post_is (ap (λ (n : Now). n.dropped) s.2) (ap (λ (n : Now). n.given) s.2) h
next r (stage.Response size sent last) input ended now later tail s h =
    whole r.limit s.0 now.dropped input now.given ended later tail s.1.post_is (ap (λ (n : Now). n.dropped) s.2) (ap (λ (n : Now). n.given) s.2) h
next r (stage.Content left last) input ended now later tail s h =
    whole r.limit s.0 now.dropped input now.given ended later tail s.2.post_is (ap (λ (n : Now). n.dropped) s.4) (ap (λ (n : Now). n.given) s.4) h
next r (stage.Empty sent last) input ended now later tail s h =
    whole r.limit s.0.post now.dropped input now.given ended later tail s.1.post (ap (λ (n : Now). n.dropped) s.4) (ap (λ (n : Now). n.given) s.4) h
next r stage.Missing input ended now later tail s h =
    whole r.limit s.0 now.dropped input now.given ended later tail s.1 (ap (λ (n : Now). n.dropped) s.3) (ap (λ (n : Now). n.given) s.3) h
next r (stage.Mark given) input ended now later tail s h =
    marked _ _ now.given (drop given mark) ended later tail (subst (IsBad r.limit) (sym (ap (λ (n : Now). n.dropped ++ input) s.1)) s.0)
    (ap (λ (n : Now). n.given ++ drop given mark) s.1 ∙ take-append-drop given mark) h
next r stage.Early input ended now later tail s h = none_yet _ _ now.given ended later tail h (ap (λ (n : Now). n.given) s.4)
next r stage.Over input ended now later tail s h = over r input ended now later tail s h

-- ---- what was sent since the last response

without_content : (answer : Option (List ℕ)) (post : Post) (sent : ℕ) (now : Now) → content_of answer ≡ [] → now ≡ asked post (take sent (response_head 0)) (answer_frame answer) → IsAnswering now.written now.sent
unfolding framed
without_content None post sent now e is =
    Without (drop sent (response_head 0)) (ap (λ (n : Now). n.written) is)
    (ap (λ (n : Now). n.sent ++ drop sent (response_head 0)) is ∙ (take-append-drop sent (response_head 0) ∙ sym (append-nil (response_head 0))))
without_content (Some content) post sent now e is =
    WithContent 0 [] (drop sent (response_head 0)) (ap (λ (n : Now). n.written) is ∙ ap framed e) (omega arith)
    (ap (λ (n : Now). n.sent ++ drop sent (response_head 0)) is ∙ (take-append-drop sent (response_head 0) ∙ sym (append-nil (response_head 0))))

whole_response : (answer : Option (List ℕ)) (post : Post) (now : Now) → now ≡ asked post (response (content_of answer)) (answer_frame answer) → IsAnswering now.written now.sent
unfolding framed
whole_response None post now is = Without [] (ap (λ (n : Now). n.written) is) (append-nil now.sent ∙ ap (λ (n : Now). n.sent) is)
whole_response (Some content) post now is =
    WithContent (length content) content [] (ap (λ (n : Now). n.written) is) (omega arith) (append-nil now.sent ∙ ap (λ (n : Now). n.sent) is)

none_sent : (now : Now) (dropped given written : List ℕ) → now ≡ record { dropped = dropped; given = given; sent = []; written = written } → IsAnswering now.written now.sent
none_sent now dropped given written is = Unsent (ap (λ (n : Now). n.sent) is)

answering_over : (r : Reading) (input : List ℕ) (ended : Bool) (now : Now) → IsOver r input ended now → IsAnswering now.written now.sent
answering_over r input ended now (AtEnd e none is) = none_sent now [] [] [] is
answering_over r input ended now (TooEarly dropped e left some is) = none_sent now dropped early [] is
answering_over r input ended now (Marked is_bad is) = none_sent now [] mark [] is
answering_over r input ended now (Last e x last is) = whole_response e.answer e.post now is

answering : (r : Reading) (s : Stage) (input : List ℕ) (ended : Bool) (now : Now) → StandsAt r s input ended now → IsAnswering now.written now.sent
answering r stage.Head input ended now s = none_sent now [] [] [] s
answering r (stage.Body size given last) input ended now s = none_sent now _ _ [] s.3
answering r (stage.Answer bytes have last) input ended now s = none_sent now _ _ _ s.2
answering r (stage.Response size sent last) input ended now s =
    WithContent size [] (drop sent (response_head size)) (ap (λ (n : Now). n.written) s.2 ∙ sym (append-nil (to_be_bytes w32 size))) (omega arith)
    (ap (λ (n : Now). n.sent ++ drop sent (response_head size)) s.2 ∙ (take-append-drop sent (response_head size) ∙ sym (append-nil (response_head size))))
answering r (stage.Content left last) input ended now s =
    WithContent (length s.1 + left) s.1 [] (ap (λ (n : Now). n.written) s.4) (omega arith) (append-nil now.sent ∙ ap (λ (n : Now). n.sent) s.4)
answering r (stage.Empty sent last) input ended now s = without_content s.0.answer s.0.post sent now s.2 s.4
answering r stage.Missing input ended now s = none_sent now _ _ [] s.3
answering r (stage.Mark given) input ended now s = none_sent now [] _ [] s.1
answering r stage.Early input ended now s = none_sent now _ [] [] s.4
answering r stage.Over input ended now s = answering_over r input ended now s

abbrev more_of : List Post → Tail → Bool → List ℕ
more_of [] tail ended = []
more_of (p ∷ posts) tail ended = post_frames posts tail ended

frames_on : (done : List Exchange) (later : List Post) (tail : Tail) (ended : Bool) (due more : List ℕ) → due ++ more ≡ next_frame later tail ended → post_frames (posts_of done ++ later) tail ended ≡ (frames done ++ due) ++ (more ++ more_of later tail ended)
frames_on [] [] tail ended due more e = sym e ∙ ap (λ (l : List ℕ). due ++ l) (sym (append-nil more))
frames_on [] (p ∷ posts) tail ended due more e =
    append_assoc (framed p.body) _ (tail_frames tail ended) ∙ (ap (λ (l : List ℕ). l ++ post_frames posts tail ended) (sym e) ∙ append_assoc due more (post_frames posts tail ended))
frames_on (x ∷ done) later tail ended due more e =
    append_assoc (framed x.post.body) _ (tail_frames tail ended)
    ∙ (ap (λ (l : List ℕ). framed x.post.body ++ l) (frames_on done later tail ended due more e)
    ∙ (sym (append_assoc (framed x.post.body) (frames done ++ due) (more ++ more_of later tail ended)) ∙ ap (λ (l : List ℕ). l ++ (more ++ more_of later tail ended)) (sym (append_assoc (framed x.post.body) (frames done) due))))

pub served : (r : Reading) (f : Front) (c : Carried) (posts : List Post) (tail : Tail) → Fits r f c → Posts r.limit c.received posts tail → IsServed r c posts
served r f c posts tail x h =
    let b = behind r x.done (x.now.dropped ++ f.input) posts tail x.each x.goes_on (subst (λ (y : List ℕ). Posts r.limit y posts tail) x.received h) in
    let n = next r f.stage f.input c.ended x.now b.later tail x.stands b.cut in
    let cut = rejoins r x.done (x.now.dropped ++ f.input) b.later n.tail x.each x.goes_on n.cut in
    record {
      done = x.done;
      each = x.each;
      later = b.later;
      posts_are = b.posts_are;
      tail = n.tail;
      cut = subst (λ (l : List Post). Posts r.limit c.received l n.tail) (sym b.posts_are) (subst (λ (y : List ℕ). Posts r.limit y (posts_of x.done ++ b.later) n.tail) (sym x.received) cut);
      due = x.now.given;
      more = n.more;
      given = x.given;
      front = n.front;
      after = n.more ++ more_of b.later n.tail c.ended;
      all = ap (λ (l : List Post). post_frames l n.tail c.ended) b.posts_are
          ∙ (frames_on x.done b.later n.tail c.ended x.now.given n.more n.front ∙ ap (λ (l : List ℕ). l ++ (n.more ++ more_of b.later n.tail c.ended)) (sym x.given));
      part = x.now.sent;
      sent = x.sent;
      next = x.now.written;
      written = x.written;
      answering = answering r f.stage f.input c.ended x.now x.stands;
    }
