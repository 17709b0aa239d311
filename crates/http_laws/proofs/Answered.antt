-- What was sent of the response that is under way.
use Rattle.std.proofs.Common.{◌≡◌, ℕ, ◌+◌, ◌⊎◌, inl, inr, Bool, List, [], ◌++◌, length, take, drop, replicate, sym, ap, ◌∙◌, subst, append_assoc, append-nil, length-append}
use Rattle.std.proofs.lemmas.List.{take-append-drop, length-replicate}
use Rattle.http_front.specs.Posts.{Post, post_bytes, IsPost, Tail, Posts}
use Rattle.http_front.specs.Replies.{response_head, response}
use Rattle.http_front.specs.Fronts.{Reading, Front, Carried, Fits, Now, content_of, StandsAt, IsOver, AtEnd, TooEarly, Marked, Last}
use Rattle.http_front.specs.declared.stage.Stage.{Stage}
use Rattle.http_front.specs.declared.stage.Stage.TheVariants as stage
use Rattle.http_laws.specs.Given.{EachCut}
use Rattle.http_laws.specs.Answered.{IsBegun, IsAnsweredInOrder}
use Rattle.http_laws.proofs.Cuts.{first, behind}

abbrev Sent : List Post → List ℕ → Type 0
Sent later part = (part ≡ []) ⊎ IsBegun later part

-- a front of the response with this content, to the first POST of what stands there
begun : (limit : ℕ) (p : Post) (bytes input part content missing : List ℕ) (later : List Post) (tail : Tail) → IsPost limit p → bytes ≡ post_bytes p → part ++ missing ≡ response content → Posts limit (bytes ++ input) later tail → Sent later part
begun limit p bytes input part content missing later tail is at e h =
    let f = first limit p input later tail is (subst (λ (l : List ℕ). Posts limit (l ++ input) later tail) at h) in
    inr (record { post = p; others = f.behind; next = f.posts_are; content = content; missing = missing; front = e })

-- some content of so many bytes
abbrev unknown : ℕ → List ℕ
unknown size = replicate size 0

in_head : (size sent : ℕ) (part : List ℕ) → part ≡ take sent (response_head size) → part ++ (drop sent (response_head size) ++ unknown size) ≡ response (unknown size)
in_head size sent part is =
    ap (λ (l : List ℕ). l ++ (drop sent (response_head size) ++ unknown size)) is
    ∙ (sym (append_assoc (take sent (response_head size)) (drop sent (response_head size)) (unknown size))
    ∙ (ap (λ (l : List ℕ). l ++ unknown size) (take-append-drop sent (response_head size)) ∙ ap (λ (n : ℕ). response_head n ++ unknown size) (sym (length-replicate size 0))))

in_content : (content part : List ℕ) (left : ℕ) → part ≡ response_head (length content + left) ++ content → part ++ unknown left ≡ response (content ++ unknown left)
in_content content part left is =
    let size : length content + left ≡ length (content ++ unknown left) = ap (λ (n : ℕ). length content + n) (sym (length-replicate left 0)) ∙ sym (length-append content (unknown left)) in
    ap (λ (l : List ℕ). l ++ unknown left) is
    ∙ (append_assoc (response_head (length content + left)) content (unknown left) ∙ ap (λ (n : ℕ). response_head n ++ (content ++ unknown left)) size)

in_empty : (sent : ℕ) (part : List ℕ) → part ≡ take sent (response_head 0) → part ++ drop sent (response_head 0) ≡ response []
in_empty sent part is = ap (λ (l : List ℕ). l ++ drop sent (response_head 0)) is ∙ (take-append-drop sent (response_head 0) ∙ sym (append-nil (response_head 0)))

over : (r : Reading) (input : List ℕ) (ended : Bool) (now : Now) (later : List Post) (tail : Tail) → IsOver r input ended now → Posts r.limit (now.dropped ++ input) later tail → Sent later now.sent
over r input ended now later tail (AtEnd e none is) h = inl (ap (λ (n : Now). n.sent) is)
over r input ended now later tail (TooEarly dropped e left some is) h = inl (ap (λ (n : Now). n.sent) is)
over r input ended now later tail (Marked is_bad is) h = inl (ap (λ (n : Now). n.sent) is)
over r input ended now later tail (Last e x last is) h =
    begun r.limit e.post now.dropped input now.sent (content_of e.answer) [] later tail x.post (ap (λ (n : Now). n.dropped) is) (append-nil now.sent ∙ ap (λ (n : Now). n.sent) is) h

sends : (r : Reading) (s : Stage) (input : List ℕ) (ended : Bool) (now : Now) (later : List Post) (tail : Tail) → StandsAt r s input ended now → Posts r.limit (now.dropped ++ input) later tail → Sent later now.sent
sends r stage.Head input ended now later tail s h = inl (ap (λ (n : Now). n.sent) s)
sends r (stage.Body size given last) input ended now later tail s h = inl (ap (λ (n : Now). n.sent) s.3)
sends r (stage.Answer bytes have last) input ended now later tail s h = inl (ap (λ (n : Now). n.sent) s.2)
sends r (stage.Response size sent last) input ended now later tail s h =
    begun r.limit s.0 now.dropped input now.sent (unknown size) (drop sent (response_head size) ++ unknown size) later tail s.1.post_is (ap (λ (n : Now). n.dropped) s.2) (in_head size sent now.sent (ap (λ (n : Now). n.sent) s.2)) h
sends r (stage.Content left last) input ended now later tail s h =
    begun r.limit s.0 now.dropped input now.sent (s.1 ++ unknown left) (unknown left) later tail s.2.post_is (ap (λ (n : Now). n.dropped) s.4) (in_content s.1 now.sent left (ap (λ (n : Now). n.sent) s.4)) h
sends r (stage.Empty sent last) input ended now later tail s h =
    begun r.limit s.0.post now.dropped input now.sent [] (drop sent (response_head 0)) later tail s.1.post (ap (λ (n : Now). n.dropped) s.4) (in_empty sent now.sent (ap (λ (n : Now). n.sent) s.4)) h
sends r stage.Missing input ended now later tail s h = inl (ap (λ (n : Now). n.sent) s.3)
sends r (stage.Mark given) input ended now later tail s h = inl (ap (λ (n : Now). n.sent) s.1)
sends r stage.Early input ended now later tail s h = inl (ap (λ (n : Now). n.sent) s.4)
sends r stage.Over input ended now later tail s h = over r input ended now later tail s h

pub in_order : (r : Reading) (f : Front) (c : Carried) → Fits r f c → EachCut r.limit c.received (IsAnsweredInOrder r c)
in_order r f c x posts tail h =
    let b = behind r x.done (x.now.dropped ++ f.input) posts tail x.each x.goes_on (subst (λ (y : List ℕ). Posts r.limit y posts tail) x.received h) in
    record {
      done = x.done;
      each = x.each;
      later = b.later;
      posts_are = b.posts_are;
      part = x.now.sent;
      sent = x.sent;
      begun = sends r f.stage f.input c.ended x.now b.later tail x.stands b.cut;
    }
