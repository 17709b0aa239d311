-- What a front has given where nothing more is to be given.
use Rattle.std.proofs.Common.{◌≡◌, ℕ, zero, suc, ◌<◌, ◌≤◌, ◌⊎◌, inl, inr, Bool, true, false, true≢false, List, [], ◌∷◌, ◌++◌, length, take, refl, sym, ap, ◌∙◌, subst, arith, append_assoc, append-nil}
use Rattle.std.specs.List.{flat_map}
use Rattle.framed_transport.specs.Frames.{framed}
use Rattle.httparse.specs.Grammar.{RequestHead, print_request, ReadsRequest, HasNoRequest}
use Rattle.http_front.specs.Heads.{head_limit, is_last}
use Rattle.http_front.specs.Posts.{Post, post_bytes, IsGood, IsPost, IsBad, IsRest, Nothing, InBody, Tail, rest, bad, IsTail, Posts, mark, tail_frames, post_frames}
use Rattle.http_front.specs.Fronts.{Reading, Front, Carried, Fits, Now, Exchange, requests, frames, StandsAt, IsOver, AtEnd, TooEarly, Marked, Last, is_asking}
use Rattle.http_front.specs.Moving.{Waits}
use Rattle.http_front.specs.declared.stage.Stage.{Stage}
use Rattle.http_front.specs.declared.stage.Stage.TheVariants as stage
use Rattle.http_laws.specs.Served.{posts_of}
use Rattle.http_laws.specs.Given.{HasAll, HasAllSoFar, IsQuiet, EachCut}
use Rattle.http_laws.proofs.Cuts.{first, IsBehind, behind, rejoins, bad_alone, rest_alone, reads}
use Rattle.http_laws.proofs.Served.{early_frame}

-- what was given since the last response is all that what stands behind calls for
record GaveAll (limit : ℕ) (bytes : List ℕ) (ended : Bool) (given : List ℕ) (later : List Post) : Type 0 where
  tail : Tail
  cut : Posts limit bytes later tail
  all : given ≡ post_frames later tail ended

-- nothing but a tail
of_tail : (limit : ℕ) (bytes given : List ℕ) (ended : Bool) (later : List Post) (tail : Tail) → later ≡ [] → IsTail limit bytes tail → given ≡ tail_frames tail ended → GaveAll limit bytes ended given later
of_tail limit bytes given ended later tail none is e = record {
  tail = tail;
  cut = subst (λ (l : List Post). Posts limit bytes l tail) (sym none) is;
  all = e ∙ ap (λ (l : List Post). post_frames l tail ended) (sym none);
}

-- behind a request that ends the connection
of_last : (limit : ℕ) (p : Post) (bytes given : List ℕ) (ended : Bool) (later : List Post) (tail : Tail) → IsPost limit p → is_last p.head ≡ true → (x : List ℕ) → bytes ≡ post_bytes p ++ x → given ≡ framed p.body → Posts limit bytes later tail → GaveAll limit bytes ended given later
of_last limit p bytes given ended later tail is last x at e h =
    let f = first limit p x later tail is (subst (λ (y : List ℕ). Posts limit y later tail) at h) in
    let alone = ends f.behind (subst (λ (l : List Post). Posts limit bytes l tail) f.posts_are h) in
    record {
      tail = tail;
      cut = h;
      all = e ∙ (sym (append-nil (framed p.body)) ∙ (sym (append-nil (framed p.body ++ [])) ∙ ap (λ (l : List Post). post_frames (p ∷ l) (rest []) ended) (sym alone.0)
          ∙ (ap (λ (t : Tail). post_frames (p ∷ f.behind) t ended) (sym alone.1) ∙ ap (λ (l : List Post). post_frames l tail ended) (sym f.posts_are))));
    }
  where
    ends : (others : List Post) → Posts limit bytes (p ∷ others) tail → (others ≡ []) × (tail ≡ rest [])
    ends others k = k.1.2.1 last

over : (r : Reading) (input : List ℕ) (ended : Bool) (now : Now) (later : List Post) (tail : Tail) → IsOver r input ended now → Posts r.limit (now.dropped ++ input) later tail → GaveAll r.limit (now.dropped ++ input) ended now.given later
over r input ended now later tail (AtEnd e none is) h =
    let empty : now.dropped ++ input ≡ [] = ap (λ (n : Now). n.dropped ++ input) is ∙ none in
    let nothing_is : IsRest r.limit (now.dropped ++ input) = subst (IsRest r.limit) (sym empty) Nothing in
    of_tail r.limit (now.dropped ++ input) now.given ended later (rest (now.dropped ++ input)) (rest_alone r.limit (now.dropped ++ input) later tail nothing_is h) (refl, nothing_is)
    (ap (λ (n : Now). n.given) is ∙ ap (λ (l : List ℕ). tail_frames (rest l) ended) (sym empty))
over r input ended now later tail (TooEarly dropped e left some is) h =
    let d = ap (λ (n : Now). n.dropped ++ input) is in
    let left' : IsRest r.limit (now.dropped ++ input) = subst (IsRest r.limit) (sym d) left in
    of_tail r.limit (now.dropped ++ input) now.given ended later (rest (now.dropped ++ input)) (rest_alone r.limit (now.dropped ++ input) later tail left' h) (refl, left')
    (ap (λ (n : Now). n.given) is ∙ (sym (early_frame (now.dropped ++ input) (λ n. some (sym d ∙ n))) ∙ ap (λ (b : Bool). tail_frames (rest (now.dropped ++ input)) b) (sym e)))
over r input ended now later tail (Marked is_bad is) h =
    let bad' : IsBad r.limit (now.dropped ++ input) = subst (IsBad r.limit) (sym (ap (λ (n : Now). n.dropped ++ input) is)) is_bad in
    of_tail r.limit (now.dropped ++ input) now.given ended later bad (bad_alone r.limit (now.dropped ++ input) later tail bad' h) bad' (ap (λ (n : Now). n.given) is)
over r input ended now later tail (Last e x last is) h =
    of_last r.limit e.post (now.dropped ++ input) now.given ended later tail x.post last input (ap (λ (n : Now). n.dropped ++ input) is) (ap (λ (n : Now). n.given) is) h

-- with the frames of the exchanges before
frames_before : (done : List Exchange) (later : List Post) (tail : Tail) (ended : Bool) → post_frames (posts_of done ++ later) tail ended ≡ frames done ++ post_frames later tail ended
frames_before [] later tail ended = refl
frames_before (x ∷ done) later tail ended =
    append_assoc (framed x.post.body) _ (tail_frames tail ended)
    ∙ (ap (λ (l : List ℕ). framed x.post.body ++ l) (frames_before done later tail ended) ∙ sym (append_assoc (framed x.post.body) (frames done) (post_frames later tail ended)))

has_all : (r : Reading) (f : Front) (c : Carried) (x : Fits r f c) (posts : List Post) (later : List Post) → posts ≡ posts_of x.done ++ later → GaveAll r.limit (x.now.dropped ++ f.input) c.ended x.now.given later → HasAll r.limit c posts
has_all r f c x posts later are g = record {
  tail = g.tail;
  cut = subst (λ (l : List Post). Posts r.limit c.received l g.tail) (sym are)
      (subst (λ (y : List ℕ). Posts r.limit y (posts_of x.done ++ later) g.tail) (sym x.received) (rejoins r x.done (x.now.dropped ++ f.input) later g.tail x.each x.goes_on g.cut));
  all = x.given ∙ (ap (λ (l : List ℕ). frames x.done ++ l) g.all ∙ (sym (frames_before x.done later g.tail c.ended) ∙ ap (λ (l : List Post). post_frames l g.tail c.ended) (sym are)));
}

-- what stands behind the exchanges
split : (r : Reading) (f : Front) (c : Carried) (x : Fits r f c) (posts : List Post) (tail : Tail) → Posts r.limit c.received posts tail → IsBehind r.limit x.done (x.now.dropped ++ f.input) posts tail
split r f c x posts tail h = behind r x.done (x.now.dropped ++ f.input) posts tail x.each x.goes_on (subst (λ (y : List ℕ). Posts r.limit y posts tail) x.received h)

pub at_end : (r : Reading) (f : Front) (c : Carried) → Fits r f c → f.stage ≡ stage.Over → EachCut r.limit c.received (HasAll r.limit c)
at_end r f c x is posts tail h =
    let b = split r f c x posts tail h in
    let stands : IsOver r f.input c.ended x.now = subst (λ (s : Stage). StandsAt r s f.input c.ended x.now) is x.stands in
    has_all r f c x posts b.later b.posts_are (over r f.input c.ended x.now b.later tail stands b.cut)

-- ---- where no whole request is held

no_head : (limit : ℕ) (bytes : List ℕ) (later : List Post) (tail : Tail) → HasNoRequest bytes → Posts limit bytes later tail → later ≡ []
no_head limit bytes [] tail none h = refl
no_head limit bytes (p ∷ later) tail none h = absurd (none p.head (p.body ++ h.1.0) (subst (λ (y : List ℕ). ReadsRequest y p.head (p.body ++ h.1.0)) (sym h.1.1) (reads limit p h.1.0 h.0)))

rest_given : (bytes : List ℕ) → tail_frames (rest bytes) false ≡ []
rest_given [] = refl
rest_given (b ∷ bytes) = refl

-- the same with the mark left
record GaveAllButMark (limit : ℕ) (bytes : List ℕ) (given : List ℕ) (later : List Post) : Type 0 where
  none : later ≡ []
  cut : IsBad limit bytes
  given_is : given ≡ []
  short : length bytes < head_limit

abbrev GaveSoFar : ℕ → List ℕ → List ℕ → List Post → Type 0
GaveSoFar limit bytes given later = GaveAll limit bytes false given later ⊎ GaveAllButMark limit bytes given later

in_head : (limit : ℕ) (bytes given : List ℕ) (later : List Post) (tail : Tail) → given ≡ [] → length bytes < head_limit → HasNoRequest bytes → Posts limit bytes later tail → GaveSoFar limit bytes given later
in_head limit bytes given later (rest r) none short lacks h =
    let alone = no_head limit bytes later (rest r) lacks h in
    let is : IsTail limit bytes (rest r) = subst (λ (l : List Post). Posts limit bytes l (rest r)) alone h in
    inl (of_tail limit bytes given false later (rest r) alone is (none ∙ sym (rest_given r)))
in_head limit bytes given later bad none short lacks h =
    let alone = no_head limit bytes later bad lacks h in
    inr (record { none = alone; cut = subst (λ (l : List Post). Posts limit bytes l bad) alone h; given_is = none; short = short })

in_body : (limit size given : ℕ) (head : RequestHead) (dropped input out : List ℕ) (later : List Post) (tail : Tail) → IsGood limit head size → dropped ≡ print_request head → out ≡ take given (framed (take size input))
    → (0 < given → size ≤ length input) → length input < size → Posts limit (dropped ++ input) later tail → GaveSoFar limit (dropped ++ input) out later
in_body limit size zero head dropped input out later tail good d o held short h =
    let is : IsRest limit (dropped ++ input) = subst (λ (l : List ℕ). IsRest limit (l ++ input)) (sym d) (InBody head size input good short) in
    inl (of_tail limit (dropped ++ input) out false later (rest (dropped ++ input)) (rest_alone limit (dropped ++ input) later tail is h) (refl, is) (o ∙ sym (rest_given (dropped ++ input))))
in_body limit size (suc given) head dropped input out later tail good d o held short h = absurd (omega (arith, held (omega arith), short))

quiet : (r : Reading) (s : Stage) (input : List ℕ) (now : Now) (later : List Post) (tail : Tail) → is_asking s ≡ true → Waits s input → StandsAt r s input false now → Posts r.limit (now.dropped ++ input) later tail → GaveSoFar r.limit (now.dropped ++ input) now.given later
quiet r stage.Head input now later tail a w s h =
    let d : now.dropped ++ input ≡ input = ap (λ (n : Now). n.dropped ++ input) s in
    in_head r.limit (now.dropped ++ input) now.given later tail (ap (λ (n : Now). n.given) s) (subst (λ (l : List ℕ). length l < head_limit) (sym d) w.0) (subst HasNoRequest (sym d) w.1) h
quiet r (stage.Body size given last) input now later tail a w s h =
    in_body r.limit size given s.0 now.dropped input now.given later tail s.1 (ap (λ (n : Now). n.dropped) s.3) (ap (λ (n : Now). n.given) s.3) s.4 w h
quiet r (stage.Answer bytes have last) input now later tail a w s h = absurd (true≢false (sym a))
quiet r (stage.Response size sent last) input now later tail a w s h = absurd (true≢false (sym a))
quiet r (stage.Content left last) input now later tail a w s h = absurd (true≢false (sym a))
quiet r (stage.Empty sent last) input now later tail a w s h = absurd (true≢false (sym a))
quiet r stage.Missing input now later tail a w s h = absurd (true≢false (sym a))
quiet r (stage.Mark given) input now later tail a w s h = absurd w
quiet r stage.Early input now later tail a w s h = absurd w
quiet r stage.Over input now later tail a w s h = absurd w

posts_behind : (done : List Exchange) (x : List ℕ) → requests done ++ x ≡ flat_map post_bytes (posts_of done ++ []) ++ x
posts_behind [] x = refl
posts_behind (e ∷ done) x =
    append_assoc (post_bytes e.post) (requests done) x
    ∙ (ap (λ (l : List ℕ). post_bytes e.post ++ l) (posts_behind done x) ∙ sym (append_assoc (post_bytes e.post) (flat_map post_bytes (posts_of done ++ [])) x))

pub so_far : (r : Reading) (f : Front) (c : Carried) → Fits r f c → IsQuiet f → c.ended ≡ false → EachCut r.limit c.received (HasAllSoFar r.limit c)
so_far r f c x is goes_on posts tail h = by (quiet r f.stage f.input x.now b.later tail is.0 is.1 (subst (λ (e : Bool). StandsAt r f.stage f.input e x.now) goes_on x.stands) b.cut)
  where
    b : IsBehind r.limit x.done (x.now.dropped ++ f.input) posts tail
    b = split r f c x posts tail h

    by : GaveSoFar r.limit (x.now.dropped ++ f.input) x.now.given b.later → HasAllSoFar r.limit c posts
    by (inl g) =
        inl (has_all r f c x posts b.later b.posts_are (record { tail = g.tail; cut = g.cut; all = g.all ∙ ap (λ (e : Bool). post_frames b.later g.tail e) (sym goes_on) }))
    by (inr g) =
        let are : posts ≡ posts_of x.done ++ [] = b.posts_are ∙ ap (λ (l : List Post). posts_of x.done ++ l) g.none in
        inr (record {
          tail = bad;
          cut = subst (λ (l : List Post). Posts r.limit c.received l bad) (sym are)
              (subst (λ (y : List ℕ). Posts r.limit y (posts_of x.done ++ []) bad) (sym x.received) (rejoins r x.done (x.now.dropped ++ f.input) [] bad x.each x.goes_on g.cut));
          all_but_mark =
              ap (λ (l : List ℕ). l ++ mark) (x.given ∙ (ap (λ (l : List ℕ). frames x.done ++ l) g.given_is ∙ append-nil (frames x.done)))
              ∙ (sym (frames_before x.done [] bad c.ended) ∙ ap (λ (l : List Post). post_frames l bad c.ended) (sym are));
          behind = x.now.dropped ++ f.input;
          received = x.received ∙ (posts_behind x.done (x.now.dropped ++ f.input) ∙ ap (λ (l : List Post). flat_map post_bytes l ++ (x.now.dropped ++ f.input)) (sym are));
          short = g.short;
        })
