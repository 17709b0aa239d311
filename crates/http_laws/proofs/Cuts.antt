-- A stream is cut into POSTs in one way, but for how its tail is told.
use Rattle.std.proofs.Common.{◌≡◌, ℕ, suc, true≢false, true, false, List, [], ◌∷◌, ◌++◌, length, All, Some, None, refl, sym, ap, ◌∙◌, subst, arith, append_assoc, append-nil, length-append}
use Rattle.std.proofs.lemmas.Option.{same_Some}
use Rattle.httparse.specs.Grammar.{RequestHead, print_request, ReadsRequest, HasNoRequest}
use Rattle.httparse.proofs.GrammarLemmas.{request_unique}
use Rattle.http_front.specs.Heads.{body_length, is_last}
use Rattle.http_front.specs.Posts.{Post, post_bytes, IsPost, IsBad, Refused, Hopeless, TooLong, IsRest, Nothing, InHead, InBody, Tail, rest, bad, IsTail, Posts}
use Rattle.http_front.specs.Fronts.{Reading, Exchange, IsExchange, requests}
use Rattle.http_front.proofs.Heads.{head_some}
use Rattle.http_laws.specs.Served.{posts_of}

same_front : (a b r t : List ℕ) → length a ≡ length b → a ++ r ≡ b ++ t → (a ≡ b) × (r ≡ t)
same_front [] [] r t n e = (refl, e)
same_front [] (y ∷ b) r t n e = absurd (omega arith)
same_front (x ∷ a) [] r t n e = absurd (omega arith)
same_front (x ∷ a) (y ∷ b) r t n e =
    let h : x ≡ y = cc in
    let k : a ++ r ≡ b ++ t = cc in
    let s = same_front a b r t (omega arith) k in
    (ap (λ (l : List ℕ). x ∷ l) s.0 ∙ ap (λ (z : ℕ). z ∷ b) h, s.1)

-- the head of a POST at the front
pub reads : (limit : ℕ) (p : Post) (x : List ℕ) → IsPost limit p → ReadsRequest (post_bytes p ++ x) p.head (p.body ++ x)
reads limit p x is = (is.is, append_assoc (print_request p.head) p.body x)

some_none : (n : ℕ) → Some n ≡ None → ⊥
some_none n e = grind arith

abbrev post_of : RequestHead → List ℕ → Post
post_of h b = record { head = h; body = b }

with_head : (p : Post) {h : RequestHead} → p.head ≡ h → p ≡ post_of h p.body
with_head p e = ap (λ (h : RequestHead). post_of h p.body) e

with_body : (q : Post) {b : List ℕ} → b ≡ q.body → post_of q.head b ≡ q
with_body q e = ap (λ (b : List ℕ). post_of q.head b) e

pub same_post : (limit : ℕ) (p q : Post) (x y : List ℕ) → IsPost limit p → IsPost limit q → post_bytes p ++ x ≡ post_bytes q ++ y → (p ≡ q) × (x ≡ y)
same_post limit p q x y a b e =
    let u = request_unique (post_bytes p ++ x) p.head q.head (p.body ++ x) (q.body ++ y) (reads limit p x a) (b.is, e ∙ append_assoc (print_request q.head) q.body y) in
    let n : length p.body ≡ length q.body = same_Some _ _ (sym a.length ∙ (ap (body_length limit) u.0 ∙ b.length)) in
    let s = same_front p.body q.body x y n u.1 in
    (with_head p u.0 ∙ with_body q s.0, s.1)

pub no_rest : (limit : ℕ) (p : Post) (x r : List ℕ) → IsPost limit p → post_bytes p ++ x ≡ r → IsRest limit r → ⊥
no_rest limit p x _ is e Nothing = absurd (omega (arith, head_some p.head, length-append (print_request p.head) p.body, length-append (post_bytes p) x, ap length e))
no_rest limit p x _ is e (InHead bytes short none may) = none p.head (p.body ++ x) (is.is, sym e ∙ append_assoc (print_request p.head) p.body x)
no_rest limit p x _ is e (InBody head size body good short) =
    let u = request_unique (post_bytes p ++ x) p.head head (p.body ++ x) body (reads limit p x is) (good.is, e) in
    let n : length p.body ≡ size = same_Some _ _ (sym is.length ∙ (ap (body_length limit) u.0 ∙ good.length)) in
    absurd (omega (arith, n, short, ap length u.1, length-append p.body x))

pub no_bad : (limit : ℕ) (p : Post) (x : List ℕ) → IsPost limit p → IsBad limit (post_bytes p ++ x) → ⊥
no_bad limit p x is (Refused head after at short none) =
    let u = request_unique (post_bytes p ++ x) p.head head (p.body ++ x) after (reads limit p x is) at in
    some_none _ (sym is.length ∙ (ap (body_length limit) u.0 ∙ none))
no_bad limit p x is (Hopeless never) = subst HasNoRequest (append-nil (post_bytes p ++ x)) (never []) p.head (p.body ++ x) (reads limit p x is)
no_bad limit p x is (TooLong long all) = absurd (omega (arith, is.short, all p.head (p.body ++ x) (reads limit p x is)))

pub no_tail : (limit : ℕ) (p : Post) (x : List ℕ) (tail : Tail) → IsPost limit p → IsTail limit (post_bytes p ++ x) tail → ⊥
no_tail limit p x (rest r) is h = no_rest limit p x r is h.0 h.1
no_tail limit p x bad is h = no_bad limit p x is h

-- what is cut behind a POST at the front
pub record IsFirst (limit : ℕ) (p : Post) (x : List ℕ) (posts : List Post) (tail : Tail) : Type 0 where
  pub behind : List Post
  pub posts_are : posts ≡ p ∷ behind
  pub cut : is_last p.head ≡ false → Posts limit x behind tail

pub first : (limit : ℕ) (p : Post) (x : List ℕ) (posts : List Post) (tail : Tail) → IsPost limit p → Posts limit (post_bytes p ++ x) posts tail → IsFirst limit p x posts tail
first limit p x [] tail is h = absurd (no_tail limit p x tail is h)
first limit p x (q ∷ posts) tail is h =
    let s = same_post limit p q x h.1.0 is h.0 h.1.1 in
    record {
      behind = posts;
      posts_are = ap (λ (y : Post). y ∷ posts) (sym s.0);
      cut = λ goes_on. subst (λ (y : List ℕ). Posts limit y posts tail) (sym s.1) (h.1.2.0 (ap (λ (y : Post). is_last y.head) (sym s.0) ∙ goes_on));
    }

pub first_of : (P : Exchange → Type 0) (e : Exchange) (done : List Exchange) → All P (e ∷ done) → P e
first_of P e done all = all 0 e (omega arith)

pub others_of : (P : Exchange → Type 0) (e : Exchange) (done : List Exchange) → All P (e ∷ done) → All P done
others_of P e done all = λ k d inside. all (suc k) d (omega (arith, inside))

abbrev GoesOn : Exchange → Type 0
GoesOn e = is_last e.post.head ≡ false

-- and behind exchanges
pub record IsBehind (limit : ℕ) (done : List Exchange) (x : List ℕ) (posts : List Post) (tail : Tail) : Type 0 where
  pub later : List Post
  pub posts_are : posts ≡ posts_of done ++ later
  pub cut : Posts limit x later tail

pub behind : (r : Reading) (done : List Exchange) (x : List ℕ) (posts : List Post) (tail : Tail) → All (IsExchange r) done → All (λ (e : Exchange). is_last e.post.head ≡ false) done
    → Posts r.limit (requests done ++ x) posts tail → IsBehind r.limit done x posts tail
behind r [] x posts tail each on h = record { later = posts; posts_are = refl; cut = h }
behind r (e ∷ done) x posts tail each on h =
    let f = first r.limit e.post (requests done ++ x) posts tail (first_of (IsExchange r) e done each).post (subst (λ (y : List ℕ). Posts r.limit y posts tail) (append_assoc (post_bytes e.post) (requests done) x) h) in
    let b = behind r done x f.behind tail (others_of (IsExchange r) e done each) (others_of GoesOn e done on) (f.cut (first_of GoesOn e done on)) in
    record { later = b.later; posts_are = f.posts_are ∙ ap (λ (y : List Post). e.post ∷ y) b.posts_are; cut = b.cut }

-- the other way round
pub rejoins : (r : Reading) (done : List Exchange) (x : List ℕ) (later : List Post) (tail : Tail) → All (IsExchange r) done → All (λ (e : Exchange). is_last e.post.head ≡ false) done
    → Posts r.limit x later tail → Posts r.limit (requests done ++ x) (posts_of done ++ later) tail
rejoins r [] x later tail each on h = h
rejoins r (e ∷ done) x later tail each on h =
    ((first_of (IsExchange r) e done each).post, (requests done ++ x, append_assoc (post_bytes e.post) (requests done) x, ((λ _. rejoins r done x later tail (others_of (IsExchange r) e done each) (others_of GoesOn e done on) h), (λ last. absurd (ends last)))))
  where
    ends : is_last e.post.head ≡ true → ⊥
    ends last = absurd (true≢false (sym last ∙ first_of GoesOn e done on))

-- behind a bad head, and behind a rest, no POST comes
pub bad_alone : (limit : ℕ) (x : List ℕ) (later : List Post) (tail : Tail) → IsBad limit x → Posts limit x later tail → later ≡ []
bad_alone limit x [] tail is h = refl
bad_alone limit x (p ∷ later) tail is h = absurd (no_bad limit p h.1.0 h.0 (subst (IsBad limit) h.1.1 is))

pub rest_alone : (limit : ℕ) (x : List ℕ) (later : List Post) (tail : Tail) → IsRest limit x → Posts limit x later tail → later ≡ []
rest_alone limit x [] tail is h = refl
rest_alone limit x (p ∷ later) tail is h = absurd (no_rest limit p h.1.0 x h.0 (sym h.1.1) is)
