-- That no response is owed.
use Rattle.std.proofs.Common.{◌≡◌, ℕ, zero, suc, ◌+◌, ◌<◌, ◌≤◌, ◌⊎◌, inl, inr, Bool, true, false, true≢false, List, [], ◌∷◌, ◌++◌, length, take, drop, All, refl, sym, ap, ◌∙◌, subst, arith, append_assoc, append-nil, length-append, length-take}
use Rattle.std.proofs.lemmas.List.{length-take-le, take-append-drop}
use Rattle.std.proofs.lemmas.List.Concat.{flat_map-append}
use Rattle.std.proofs.lemmas.List.Elements.{All-push, All-append}
use Rattle.std.specs.Int.{w32, to_be_bytes}
use Rattle.framed_transport.specs.Frames.{framed}
use Rattle.httparse.specs.Grammar.{RequestHead, print_request}
use Rattle.http_front.specs.Posts.{Post, post_bytes, IsGood, IsPost, IsBad, IsRest, Tail, Posts}
use Rattle.http_front.specs.Replies.{response}
use Rattle.http_front.specs.Fronts.{Reading, Front, Carried, Fits, Now, Exchange, IsExchange, IsWithin, content_of, Answers, reply_in, frames, responses, StandsAt, IsOver, AtEnd, TooEarly, Marked, Last, is_answered, is_empty}
use Rattle.http_front.specs.declared.stage.Stage.{Stage}
use Rattle.http_front.specs.declared.stage.Stage.TheVariants as stage
use Rattle.http_laws.specs.Served.{posts_of}
use Rattle.http_laws.specs.Given.{EachCut}
use Rattle.http_laws.specs.Answered.{GetsNoResponse, AreAllAnswered, OwesNothing}
use Rattle.http_laws.proofs.Cuts.{first, behind, bad_alone, rest_alone}

framed_size : (body : List ℕ) → length (framed body) ≡ length body + 4
unfolding framed
framed_size body = omega (arith, length-append (to_be_bytes w32 (length body)) body)

-- so much was given behind the exchanges, which is no whole frame
abbrev NoneWhole : Reading → List Post → List ℕ → Type 0
NoneWhole r later due = (post : Post) (others : List Post) → later ≡ post ∷ others → GetsNoResponse r post ⊎ (length due < length (framed post.body))

none_there : (r : Reading) (later : List Post) (due : List ℕ) → later ≡ [] → NoneWhole r later due
none_there r later due none post others e = absurd (no_list (sym none ∙ e))
  where
    no_list : [] ≡ post ∷ others → ⊥
    no_list h = absurd (cc)

none_given : (r : Reading) (later : List Post) (due : List ℕ) → due ≡ [] → NoneWhole r later due
none_given r later due none post others e = inr (omega (arith, ap (λ (l : List ℕ). length l) none, framed_size post.body))

same_first : (p q : Post) (a b : List Post) → p ∷ a ≡ q ∷ b → p ≡ q
same_first p q a b e = cc

-- the first POST is this one
of_first : (r : Reading) (p : Post) (bytes input due : List ℕ) (later : List Post) (tail : Tail) → IsPost r.limit p → bytes ≡ post_bytes p ++ input → Posts r.limit bytes later tail
    → GetsNoResponse r p ⊎ (length due < length (framed p.body)) → NoneWhole r later due
of_first r p bytes input due later tail is at h holds post others e =
    let f = first r.limit p input later tail is (subst (λ (l : List ℕ). Posts r.limit l later tail) at h) in
    subst (λ (q : Post). GetsNoResponse r q ⊎ (length due < length (framed q.body))) (same_first p post f.behind others (sym f.posts_are ∙ e)) holds

in_body : (r : Reading) (size given : ℕ) (head : RequestHead) (dropped input due : List ℕ) (later : List Post) (tail : Tail) → IsGood r.limit head size → dropped ≡ print_request head → due ≡ take given (framed (take size input))
    → (0 < given → size ≤ length input) → given < size + 4 → Posts r.limit (dropped ++ input) later tail → NoneWhole r later due
in_body r size zero head dropped input due later tail good d o held few h = none_given r later due o
in_body r size (suc given) head dropped input due later tail good d o held few h =
    let body : length (take size input) ≡ size = length-take-le size input (held (omega arith)) in
    let whole : dropped ++ input ≡ (print_request head ++ take size input) ++ drop size input = ap (λ (l : List ℕ). l ++ input) d ∙ parts head size input in
    let short : length due < length (framed (take size input)) = omega (arith, ap (λ (l : List ℕ). length l) o, length-take (suc given) (framed (take size input)), framed_size (take size input), body, few) in
    of_first r (record { head = head; body = take size input }) (dropped ++ input) (drop size input) due later tail (subst (IsGood r.limit head) (sym body) good) whole h (inr short)
  where
    parts : (head : RequestHead) (size : ℕ) (input : List ℕ) → print_request head ++ input ≡ (print_request head ++ take size input) ++ drop size input
    parts head size input = ap (λ (l : List ℕ). print_request head ++ l) (sym (take-append-drop size input)) ∙ sym (append_assoc (print_request head) (take size input) (drop size input))

-- what is done of what stands behind the exchanges: nothing more, or one more
record Done (r : Reading) (now : Now) (later : List Post) : Type 0 where
  more : List Exchange
  each : All (IsExchange r) more
  later_on : List Post
  later_is : later ≡ posts_of more ++ later_on
  sent : now.sent ≡ responses more
  due : List ℕ
  given : now.given ≡ frames more ++ due
  none_whole : NoneWhole r later_on due

no_more : (r : Reading) (now : Now) (later : List Post) → now.sent ≡ [] → NoneWhole r later now.given → Done r now later
no_more r now later nothing_sent none = record {
  more = [];
  each = λ k e inside. absurd (omega (arith, inside));
  later_on = later;
  later_is = refl;
  sent = nothing_sent;
  due = now.given;
  given = refl;
  none_whole = none;
}

over : (r : Reading) (input : List ℕ) (ended : Bool) (now : Now) (later : List Post) (tail : Tail) → IsOver r input ended now → Posts r.limit (now.dropped ++ input) later tail → Done r now later
over r input ended now later tail (AtEnd e none is) h = no_more r now later (ap (λ (n : Now). n.sent) is) (none_given r later now.given (ap (λ (n : Now). n.given) is))
over r input ended now later tail (TooEarly dropped e left some is) h =
    no_more r now later (ap (λ (n : Now). n.sent) is)
    (none_there r later now.given (rest_alone r.limit (now.dropped ++ input) later tail (subst (IsRest r.limit) (sym (ap (λ (n : Now). n.dropped ++ input) is)) left) h))
over r input ended now later tail (Marked is_bad is) h =
    no_more r now later (ap (λ (n : Now). n.sent) is)
    (none_there r later now.given (bad_alone r.limit (now.dropped ++ input) later tail (subst (IsBad r.limit) (sym (ap (λ (n : Now). n.dropped ++ input) is)) is_bad) h))
over r input ended now later tail (Last e x last is) h =
    let at : now.dropped ++ input ≡ post_bytes e.post ++ input = ap (λ (n : Now). n.dropped ++ input) is in
    let f = first r.limit e.post input later tail x.post (subst (λ (l : List ℕ). Posts r.limit l later tail) at h) in
    record {
      more = e ∷ [];
      each = one x;
      later_on = f.behind;
      later_is = f.posts_are;
      sent = ap (λ (n : Now). n.sent) is ∙ sym (append-nil (response (content_of e.answer)));
      due = [];
      given = ap (λ (n : Now). n.given) is ∙ (sym (append-nil (framed e.post.body)) ∙ sym (append-nil (framed e.post.body ++ [])));
      none_whole = none_given r f.behind [] refl;
    }
  where
    one : IsExchange r e → All (IsExchange r) (e ∷ [])
    one x = All-push (IsExchange r) [] e (λ k d inside. absurd (omega (arith, inside))) x

answered : (r : Reading) (s : Stage) (input : List ℕ) (ended : Bool) (now : Now) (later : List Post) (tail : Tail) → is_answered s ≡ true → is_empty s ≡ false → IsWithin r.limit s → StandsAt r s input ended now → Posts r.limit (now.dropped ++ input) later tail → Done r now later
answered r stage.Head input ended now later tail a b w s h = no_more r now later (ap (λ (n : Now). n.sent) s) (none_given r later now.given (ap (λ (n : Now). n.given) s))
answered r (stage.Body size given last) input ended now later tail a b w s h =
    no_more r now later (ap (λ (n : Now). n.sent) s.3) (in_body r size given s.0 now.dropped input now.given later tail s.1 (ap (λ (n : Now). n.dropped) s.3) (ap (λ (n : Now). n.given) s.3) s.4 w.1 h)
answered r (stage.Answer bytes have last) input ended now later tail a b w s h = absurd (true≢false (sym a))
answered r (stage.Response size sent last) input ended now later tail a b w s h = absurd (true≢false (sym a))
answered r (stage.Content left last) input ended now later tail a b w s h = absurd (true≢false (sym a))
answered r (stage.Empty sent last) input ended now later tail a b w s h = absurd (true≢false b)
answered r stage.Missing input ended now later tail a b w s h =
    no_more r now later (ap (λ (n : Now). n.sent) s.3)
    (of_first r s.0 (now.dropped ++ input) input now.given later tail s.1 (ap (λ (n : Now). n.dropped ++ input) s.3) h
    (inl (λ e same x. subst (λ y. Answers y e.answer) (ap (λ (p : Post). reply_in r p) same ∙ s.2) x.answers)))
answered r (stage.Mark given) input ended now later tail a b w s h =
    no_more r now later (ap (λ (n : Now). n.sent) s.1)
    (none_there r later now.given (bad_alone r.limit (now.dropped ++ input) later tail (subst (IsBad r.limit) (sym (ap (λ (n : Now). n.dropped ++ input) s.1)) s.0) h))
answered r stage.Early input ended now later tail a b w s h = no_more r now later (ap (λ (n : Now). n.sent) s.4) (none_given r later now.given (ap (λ (n : Now). n.given) s.4))
answered r stage.Over input ended now later tail a b w s h = over r input ended now later tail s h

posts_join : (a b : List Exchange) (later : List Post) → posts_of a ++ (posts_of b ++ later) ≡ posts_of (a ++ b) ++ later
posts_join [] b later = refl
posts_join (e ∷ a) b later = ap (λ (l : List Post). e.post ∷ l) (posts_join a b later)

all_join : (r : Reading) (a b : List Exchange) → All (IsExchange r) a → All (IsExchange r) b → All (IsExchange r) (a ++ b)
all_join r a b x y = All-append (IsExchange r) a b x y

pub all_answered : (r : Reading) (f : Front) (c : Carried) → Fits r f c → OwesNothing f → EachCut r.limit c.received (AreAllAnswered r c)
all_answered r f c x owes posts tail h =
    let b = behind r x.done (x.now.dropped ++ f.input) posts tail x.each x.goes_on (subst (λ (y : List ℕ). Posts r.limit y posts tail) x.received h) in
    let within : IsWithin r.limit f.stage = subst (λ n. IsWithin n f.stage) x.limit owes.0.stage in
    let d = answered r f.stage f.input c.ended x.now b.later tail owes.1 owes.2 within x.stands b.cut in
    record {
      done = x.done ++ d.more;
      each = all_join r x.done d.more x.each d.each;
      later = d.later_on;
      posts_are = b.posts_are ∙ (ap (λ (l : List Post). posts_of x.done ++ l) d.later_is ∙ posts_join x.done d.more d.later_on);
      sent = x.sent ∙ (ap (λ (l : List ℕ). responses x.done ++ l) d.sent ∙ sym (flat_map-append (λ (e : Exchange). response (content_of e.answer)) x.done d.more));
      due = d.due;
      given = x.given
          ∙ (ap (λ (l : List ℕ). frames x.done ++ l) d.given
          ∙ (sym (append_assoc (frames x.done) (frames d.more) d.due) ∙ ap (λ (l : List ℕ). l ++ d.due) (sym (flat_map-append (λ (e : Exchange). framed e.post.body) x.done d.more))));
      none_whole = d.none_whole;
    }
