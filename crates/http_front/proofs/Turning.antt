-- How a front fits on with what is read and sent below.
use Rattle.std.proofs.Common.{◌≡◌, ℕ, zero, suc, ◌+◌, ◌-◌, ◌^◌, ◌<◌, ◌≤◌, Bool, true, false, List, [], ◌++◌, length, take, drop, min, Some, codes, decimal, nat_lt, ◌==◌, if◌then◌else◌, get_or, refl, sym, ap, ◌∙◌, subst, arith, append_assoc, append-nil, length-append, length-take, ltb-true, ltb-false, eqb-true}
use Rattle.std.specs.Int.{to_be_bytes, from_be_bytes, w32}
use Rattle.std.proofs.lemmas.Nat.{be_bytes_4}
use Rattle.std.proofs.lemmas.List.{take_all, length-drop, take-take, take-append-drop, take-append-le}
use Rattle.httparse.specs.Grammar.{RequestHead, print_request}
use Rattle.std.proofs.Math.Seq.{take-append-add, take-add}
use Rattle.framed_transport.specs.Frames.{framed}
use Rattle.gate_hub.specs.Meaning.{Link, Meaning}
use Rattle.gate_hub.specs.Hubs.{LinkReads, LinkWrites}
use Rattle.gate_hub.specs.declared.hub.LinkGot.{LinkGot}
use Rattle.gate_hub.specs.declared.hub.LinkGot.TheVariants as got
use Rattle.gate_hub.specs.declared.hub.LinkPut.TheVariants as put
use Rattle.http_front.specs.Posts.{Post, post_bytes}
use Rattle.http_front.specs.Replies.{response_head, response}
use Rattle.http_front.specs.declared.stage.Stage.{Stage}
use Rattle.http_front.specs.declared.stage.Stage.TheVariants as stage
use Rattle.http_front.specs.declared.replies.Reply.{Reply}
use Rattle.http_front.specs.Fronts.{Front, Exchange, answer_frame, Reading, Answers, requests, frames, responses, answers, Now, asked, AwaitsAnswer, with_content, StandsAt, Carried, Fits, IsWithin, IsOpenHead, wanted_in, wanted, behind_response, behind_content, behind_length}
use Rattle.http_front.proofs.Clients.{goes_weaker}
use Rattle.http_front.specs.Moving.{Goes, SendsUpTo, SendsBelow, carried, ReadsMore, Writes, and_written, Turns, TurnsWritten, Waits}
use Rattle.http_front.proofs.Fitting.{fits_on, finishes, stands_at, now_is, none_given}

-- ---- reads

carried_same : (a b : Link) (gave wrote : List ℕ) → b.received ≡ a.received → b.ended ≡ a.ended → b.sent ≡ a.sent → carried b gave wrote ≡ carried a gave wrote
carried_same a b gave wrote p q s =
    ap (λ (l : List ℕ). record { received = l; ended = b.ended; given = gave; sent = b.sent; written = wrote }) p
    ∙ (ap (λ (e : Bool). record { received = a.received; ended = e; given = gave; sent = b.sent; written = wrote }) q
    ∙ ap (λ (l : List ℕ). record { received = a.received; ended = a.ended; given = gave; sent = l; written = wrote }) s)

-- nothing came and nothing was sent
pub turns_same : (f g : Front) (a b : Link) → g ≡ f → b.received ≡ a.received → b.ended ≡ a.ended → b.sent ≡ a.sent → Turns f g a b
turns_same f g a b same p q s r gave wrote x =
    subst (λ (g : Front). Fits r g (carried b gave wrote)) (sym same) (subst (λ (c : Carried). Fits r f c) (sym (carried_same a b gave wrote p q s)) x)

-- the same stage, of which bytes of the client are held, with more of them
more_stands : (r : Reading) (s : Stage) (input more : List ℕ) (e e' : Bool) (now : Now) → 0 < wanted_in s input → StandsAt r s input e now → StandsAt r s (input ++ more) e' now
more_stands r stage.Head input more e e' now some stands = stands
more_stands r (stage.Body size given last) input more e e' now some (h, good, ends, is, whole) =
    let none : given ≡ 0 = none_given given size (length input) whole (omega (arith, some)) in (
      h,
      good,
      ends,
      is ∙ (ap (λ (n : ℕ). so h (take n (framed (take size input)))) none ∙ ap (λ (n : ℕ). so h (take n (framed (take size (input ++ more))))) (sym none)),
      λ given_some. absurd (omega (arith, given_some, none)),
    )
  where
    so : RequestHead → List ℕ → Now
    so h given = record { dropped = print_request h; given = given; sent = []; written = [] }
more_stands r (stage.Answer bytes have last) input more e e' now some stands = absurd (omega (arith, some))
more_stands r (stage.Response size sent last) input more e e' now some stands = absurd (omega (arith, some))
more_stands r (stage.Content left last) input more e e' now some stands = absurd (omega (arith, some))
more_stands r (stage.Empty sent last) input more e e' now some stands = absurd (omega (arith, some))
more_stands r stage.Missing input more e e' now some stands = absurd (omega (arith, some))
more_stands r (stage.Mark given) input more e e' now some stands = absurd (omega (arith, some))
more_stands r stage.Early input more e e' now some stands = absurd (omega (arith, some))
more_stands r stage.Over input more e e' now some stands = absurd (omega (arith, some))

-- bytes came, and are held
pub turns_more : (f g : Front) (a b : Link) (more : List ℕ) → 0 < wanted f → g ≡ record f { input = f.input ++ more } → b.received ≡ a.received ++ more → b.sent ≡ a.sent → Turns f g a b
turns_more f g a b more some is came sent r gave wrote x =
    subst (λ (g : Front). Fits r g (carried b gave wrote)) (sym is)
    (fits_on r f (record f { input = f.input ++ more }) (carried a gave wrote) (carried b gave wrote) x x.now refl
    (came ∙ (ap (λ (l : List ℕ). l ++ more) x.received ∙ (append_assoc (requests x.done) (x.now.dropped ++ f.input) more ∙ ap (λ (l : List ℕ). requests x.done ++ l) (append_assoc x.now.dropped f.input more))))
    x.given (sent ∙ x.sent) x.written (more_stands r f.stage f.input more a.ended b.ended x.now some x.stands))

-- a read of the hub below, and what is held of it
abbrev pub HoldsNow : LinkGot → Front → Front → List ℕ → Type 0
HoldsNow (got.Bytes n) f g into = g ≡ record f { input = f.input ++ take n into }
HoldsNow got.NotReady f g into = g ≡ f
HoldsNow got.End f g into = g ≡ f
HoldsNow got.Failed f g into = g ≡ f

pub reads_more : (answer : LinkGot) (f g : Front) (into : List ℕ) → 0 < wanted f → HoldsNow answer f g into → (a b : Link) → LinkReads into answer a b → ReadsMore answer f g a b
reads_more (got.Bytes n) f g into some holds a b reads = record {
  turns = turns_more f g a b (take n into) some holds (ap (λ (l : Link). l.received) reads.1) (ap (λ (l : Link). l.sent) reads.1);
  ended = λ e. absurd (cc);
}
reads_more got.NotReady f g into some holds a b reads = record {
  turns = turns_same f g a b holds (ap (λ (l : Link). l.received) reads.1) (ap (λ (l : Link). l.ended) reads.1) (ap (λ (l : Link). l.sent) reads.1);
  ended = λ e. absurd (cc);
}
reads_more got.End f g into some holds a b reads = record {
  turns = λ r gave wrote x. subst (λ (g : Front). Fits r g (carried b gave wrote)) (sym holds)
      (subst (λ (i : List ℕ). Fits r (record f { input = i }) (carried b gave wrote)) (append-nil f.input)
      (turns_more f (record f { input = f.input ++ [] }) a b [] some refl (ap (λ (l : Link). l.received) reads ∙ sym (append-nil a.received)) (ap (λ (l : Link). l.sent) reads) r gave wrote x));
  ended = λ e. ap (λ (l : Link). l.ended) reads;
}
reads_more got.Failed f g into some holds a b reads = record {
  turns = turns_same f g a b holds (ap (λ (l : Link). l.received) reads.1) (ap (λ (l : Link). l.ended) reads.1) (ap (λ (l : Link). l.sent) reads.1);
  ended = λ e. absurd (cc);
}

-- where bytes are still wanted, nothing is to be handed out
pub wanted_waits : (s : Stage) (input : List ℕ) → IsOpenHead s input → 0 < wanted_in s input → Waits s input
wanted_waits stage.Head input front some = front
wanted_waits (stage.Body size given last) input front some = omega (arith, some)
wanted_waits (stage.Answer bytes have last) input front some = tt
wanted_waits (stage.Response size sent last) input front some = tt
wanted_waits (stage.Content left last) input front some = tt
wanted_waits (stage.Empty sent last) input front some = tt
wanted_waits stage.Missing input front some = tt
wanted_waits (stage.Mark given) input front some = absurd (omega (arith, some))
wanted_waits stage.Early input front some = absurd (omega (arith, some))
wanted_waits stage.Over input front some = absurd (omega (arith, some))

-- ---- writes below

pub write_sends : (from : List ℕ) (n : ℕ) (a b : Link) → LinkWrites from (put.Took n) a b → SendsBelow (take n from) a b
write_sends from n a b h = record { received = ap (λ (l : Link). l.received) h; ended = ap (λ (l : Link). l.ended) h; sent = ap (λ (l : Link). l.sent) h }

pub not_ready_sends : (from : List ℕ) (a b : Link) → LinkWrites from put.NotReady a b → SendsBelow [] a b
not_ready_sends from a b h = record { received = ap (λ (l : Link). l.received) h; ended = ap (λ (l : Link). l.ended) h; sent = ap (λ (l : Link). l.sent) h ∙ sym (append-nil a.sent) }

pub failed_sends : (from : List ℕ) (a b : Link) → LinkWrites from put.Failed a b → SendsBelow [] a b
failed_sends from a b h = record { received = ap (λ (l : Link). l.received) h; ended = ap (λ (l : Link). l.ended) h; sent = ap (λ (l : Link). l.sent) h ∙ sym (append-nil a.sent) }

pub sends_then : (xs ys zs : List ℕ) → zs ≡ xs ++ ys → (a b c : Link) → SendsBelow xs a b → SendsBelow ys b c → SendsBelow zs a c
sends_then xs ys zs is a b c p q = record {
  received = q.received ∙ p.received;
  ended = q.ended ∙ p.ended;
  sent = q.sent ∙ (ap (λ (l : List ℕ). l ++ ys) p.sent ∙ (append_assoc a.sent xs ys ∙ ap (λ (l : List ℕ). a.sent ++ l) (sym is)));
}

pub sends_none : (l : Link) → SendsBelow [] l l
sends_none l = record { received = refl; ended = refl; sent = sym (append-nil l.sent) }

-- ---- answers

as_frame : (content : List ℕ) → to_be_bytes w32 (length content) ++ content ≡ framed content
unfolding framed
as_frame content = refl

no_content : framed [] ≡ to_be_bytes w32 0
unfolding framed
no_content = refl

pub some_head : (n : ℕ) → 0 < length (response_head n)
unfolding response_head
some_head n = omega (arith, length-append (codes "HTTP/1.1 200 OK\r\nContent-Type: application/x-thrift\r\nContent-Length: " ++ decimal n) (codes "\r\n\r\n"))

not_zero : (n : ℕ) → (n == 0) ≡ false → 0 < n
not_zero zero e = absurd (cc)
not_zero (suc n) e = omega arith

-- the bounds behind a length
pub within_length : (limit : ℕ) (bytes : List ℕ) (have : ℕ) (last : Bool) → length bytes ≡ 4 → IsWithin limit (behind_length bytes have last)
within_length limit bytes have last long = by (nat_lt have 4) refl
  where
    size : ℕ
    size = from_be_bytes w32 bytes

    sized : (t : Bool) → (size == 0) ≡ t → IsWithin limit (if t then stage.Empty 0 last else stage.Response size 0 last)
    sized true z = some_head 0
    sized false z = (omega arith, not_zero size z)

    by : (t : Bool) → nat_lt have 4 ≡ t → IsWithin limit (behind_length bytes have last)
    by true e = subst (λ (t : Bool). IsWithin limit (if t then stage.Answer bytes have last else if size == 0 then stage.Empty 0 last else stage.Response size 0 last)) (sym e) (ltb-true have 4 e, long)
    by false e =
        subst (λ (t : Bool). IsWithin limit (if t then stage.Answer bytes have last else if size == 0 then stage.Empty 0 last else stage.Response size 0 last)) (sym e)
        (subst (λ (t : Bool). IsWithin limit (if t then stage.Empty 0 last else stage.Response size 0 last)) refl (sized (size == 0) refl))

-- so much of an answer was written
content_on : (r : Reading) (f g : Front) (c d : Carried) (x : Fits r f c) (post : Post) (last : Bool) (size left : ℕ) (content : List ℕ) → AwaitsAnswer r post last → length content + left ≡ size → size < 2 ^ 32 → g.limit ≡ f.limit
    → d.received ≡ requests x.done ++ (post_bytes post ++ g.input) → d.given ≡ frames x.done ++ framed post.body → d.sent ≡ responses x.done ++ (response_head size ++ content) → d.written ≡ answers x.done ++ (to_be_bytes w32 size ++ content)
    → g.stage ≡ behind_content left last → Fits r g d
content_on r f g c d x post last size left content awaits sum small limit received given sent written at = by (nat_lt 0 left) refl
  where
    at_once : (t : Bool) → nat_lt 0 left ≡ t → g.stage ≡ (if t then stage.Content left last else behind_response last)
    at_once t e = subst (λ (t : Bool). g.stage ≡ (if t then stage.Content left last else behind_response last)) e at

    by : (t : Bool) → nat_lt 0 left ≡ t → Fits r g d
    by true e =
        fits_on r f g c d x (with_content post size content) limit received given sent written
        (subst (λ (s : Stage). StandsAt r s g.input d.ended (with_content post size content)) (sym (at_once true e))
        (post, content, awaits, subst (λ (n : ℕ). n < 2 ^ 32) (sym sum) small, ap (λ (n : ℕ). with_content post n content) (sym sum)))
    by false e =
        let all : length content ≡ size = omega (arith, sum, ltb-false 0 left e) in
        let done : Exchange = record { post = post; answer = Some content } in
        finishes r f g c d x done last (record { post = awaits.post_is; answers = subst (λ (rep : Reply). Answers rep (Some content)) (sym awaits.answers) (subst (λ (n : ℕ). n < 2 ^ 32) (sym all) small) }) awaits.last_is limit received given
        (sent ∙ ap (λ (n : ℕ). responses x.done ++ (response_head n ++ content)) (sym all))
        (written ∙ ap (λ (l : List ℕ). answers x.done ++ l) (ap (λ (n : ℕ). to_be_bytes w32 n ++ content) (sym all) ∙ as_frame content))
        (at_once false e)

-- of the length of an answer more has come
pub writes_length : (f g : Front) (bytes bytes' from : List ℕ) (have more : ℕ) (last : Bool) → f.stage ≡ stage.Answer bytes have last → have + more ≤ 4 → length bytes' ≡ 4 → ((i : ℕ) → get_or bytes' i 0 < 256)
    → take (have + more) bytes' ≡ take have bytes ++ take more from → g ≡ record f { stage = behind_length bytes' (have + more) last } → Writes (take more from) f g
writes_length f g bytes bytes' from have more last at most long are joined is r c x =
    subst (λ (g : Front). Fits r g (and_written c (take more from))) (sym is) (by (nat_lt (have + more) 4) refl)
  where
    b : StandsAt r (stage.Answer bytes have last) f.input c.ended x.now
    b = stands_at r f c (stage.Answer bytes have last) x at

    post : Post
    post = b.0

    awaits : AwaitsAnswer r post last
    awaits = b.1

    size : ℕ
    size = from_be_bytes w32 bytes'

    h : Front
    h = record f { stage = behind_length bytes' (have + more) last }

    n : (c.received ≡ requests x.done ++ (post_bytes post ++ f.input)) × (c.given ≡ frames x.done ++ framed post.body) × (c.sent ≡ responses x.done ++ []) × (c.written ≡ answers x.done ++ take have bytes)
    n = now_is r f c x (asked post [] (take have bytes)) b.2

    wrote : c.written ++ take more from ≡ answers x.done ++ take (have + more) bytes'
    wrote = ap (λ (l : List ℕ). l ++ take more from) n.3 ∙ (append_assoc (answers x.done) (take have bytes) (take more from) ∙ ap (λ (l : List ℕ). answers x.done ++ l) (sym joined))

    so : (written : List ℕ) → written ≡ take (have + more) bytes' → StandsAt r (behind_length bytes' (have + more) last) f.input c.ended (asked post [] written) → Fits r h (and_written c (take more from))
    so written is stands = fits_on r f h c (and_written c (take more from)) x (asked post [] written) refl n.0 n.1 n.2 (wrote ∙ ap (λ (l : List ℕ). answers x.done ++ l) (sym is)) stands

    by : (t : Bool) → nat_lt (have + more) 4 ≡ t → Fits r h (and_written c (take more from))
    by true e =
        so (take (have + more) bytes') refl
        (subst (λ (t : Bool). StandsAt r (if t then stage.Answer bytes' (have + more) last else if size == 0 then stage.Empty 0 last else stage.Response size 0 last) f.input c.ended (asked post [] (take (have + more) bytes'))) (sym e)
        (post, awaits, refl))
    by false e = sized (size == 0) refl
      where
        whole : to_be_bytes w32 size ≡ take (have + more) bytes'
        whole = be_bytes_4 bytes' size long are refl ∙ sym (take_all (have + more) bytes' (omega (arith, long, ltb-false (have + more) 4 e)))

        at_end : (now : Now) (t : Bool) → (size == 0) ≡ t → StandsAt r (if t then stage.Empty 0 last else stage.Response size 0 last) f.input c.ended now → StandsAt r (behind_length bytes' (have + more) last) f.input c.ended now
        at_end now t z stands =
            subst (λ (u : Bool). StandsAt r (if u then stage.Answer bytes' (have + more) last else if size == 0 then stage.Empty 0 last else stage.Response size 0 last) f.input c.ended now) (sym e)
            (subst (λ (u : Bool). StandsAt r (if u then stage.Empty 0 last else stage.Response size 0 last) f.input c.ended now) (sym z) stands)

        sized : (t : Bool) → (size == 0) ≡ t → Fits r h (and_written c (take more from))
        sized true z =
            let done : Exchange = record { post = post; answer = Some [] } in
            so (framed []) (no_content ∙ (ap (λ (n : ℕ). to_be_bytes w32 n) (sym (eqb-true size 0 z)) ∙ whole))
            (at_end (asked post [] (framed [])) true z
            (done, record { post = awaits.post_is; answers = subst (λ (rep : Reply). Answers rep (Some [])) (sym awaits.answers) (omega arith) }, refl, awaits.last_is, refl))
        sized false z = so (to_be_bytes w32 size) whole (at_end (asked post [] (to_be_bytes w32 size)) false z (post, awaits, refl))

-- the head of a response was sent, and content behind it
pub sends_head : (f g : Front) (size sent n count content : ℕ) (last : Bool) (from : List ℕ) → f.stage ≡ stage.Response size sent last → size < 2 ^ 32 → sent ≤ length (response_head size) → count ≡ (length (response_head size) - sent) + content
    → content ≤ n → n ≤ length from → n ≤ size → g ≡ record f { stage = behind_content (size - content) last } → (a b : Link) → SendsBelow (take count (drop sent (response_head size ++ take n from))) a b → TurnsWritten (take content from) f g a b
sends_head f g size sent n count content last from at small within is_count few long most is a b sends r gave wrote x =
    let h : Front = record f { stage = behind_content (size - content) last } in
    let p = stands_at r f (carried a gave wrote) (stage.Response size sent last) x at in
    let m = now_is r f (carried a gave wrote) x (asked p.0 (take sent (response_head size)) (to_be_bytes w32 size)) p.2 in
    subst (λ (g : Front). Fits r g (carried b gave (wrote ++ take content from))) (sym is)
    (content_on r f h (carried a gave wrote) (carried b gave (wrote ++ take content from)) x p.0 last size (size - content) (take content from) p.1 (omega (arith, length-take content from, few, long, most)) small refl
    (sends.received ∙ m.0) m.1
    (sends.sent ∙ (ap (λ (l : List ℕ). l ++ take count (drop sent (response_head size ++ take n from))) m.2
    ∙ (append_assoc (responses x.done) (take sent (response_head size)) (take count (drop sent (response_head size ++ take n from))) ∙ ap (λ (l : List ℕ). responses x.done ++ l) whole)))
    (ap (λ (l : List ℕ). l ++ take content from) m.3 ∙ append_assoc (answers x.done) (to_be_bytes w32 size) (take content from))
    refl)
  where
    sum : sent + count ≡ length (response_head size) + content
    sum = omega (arith, is_count, within)

    front : take sent (response_head size) ≡ take sent (response_head size ++ take n from)
    front = sym (take-append-le sent (response_head size) (take n from) within)

    whole : take sent (response_head size) ++ take count (drop sent (response_head size ++ take n from)) ≡ response_head size ++ take content from
    whole =
        ap (λ (l : List ℕ). l ++ take count (drop sent (response_head size ++ take n from))) front
        ∙ (sym (take-add sent count (response_head size ++ take n from))
        ∙ (ap (λ (k : ℕ). take k (response_head size ++ take n from)) sum
        ∙ (take-append-add (response_head size) (take n from) content ∙ ap (λ (l : List ℕ). response_head size ++ l) (take-take content n from few))))

-- a piece of a response's head was sent
head_piece : (size sent n count : ℕ) (from : List ℕ) → sent + count ≤ length (response_head size) → take sent (response_head size) ++ take count (drop sent (response_head size ++ take n from)) ≡ take (sent + count) (response_head size)
head_piece size sent n count from within =
    ap (λ (l : List ℕ). l ++ take count (drop sent (response_head size ++ take n from))) (sym (take-append-le sent (response_head size) (take n from) (omega (arith, within))))
    ∙ (sym (take-add sent count (response_head size ++ take n from)) ∙ take-append-le (sent + count) (response_head size) (take n from) within)

pub sends_some : (f g : Front) (size sent n count : ℕ) (last : Bool) (from : List ℕ) → f.stage ≡ stage.Response size sent last → sent + count ≤ length (response_head size) → g ≡ record f { stage = stage.Response size (sent + count) last }
    → (a b : Link) → SendsBelow (take count (drop sent (response_head size ++ take n from))) a b → Turns f g a b
sends_some f g size sent n count last from at within is a b sends r gave wrote x =
    let p = stands_at r f (carried a gave wrote) (stage.Response size sent last) x at in
    let m = now_is r f (carried a gave wrote) x (asked p.0 (take sent (response_head size)) (to_be_bytes w32 size)) p.2 in
    subst (λ (g : Front). Fits r g (carried b gave wrote)) (sym is)
    (fits_on r f (record f { stage = stage.Response size (sent + count) last }) (carried a gave wrote) (carried b gave wrote) x (asked p.0 (take (sent + count) (response_head size)) (to_be_bytes w32 size)) refl
    (sends.received ∙ m.0) m.1
    (sends.sent ∙ (ap (λ (l : List ℕ). l ++ take count (drop sent (response_head size ++ take n from))) m.2
    ∙ (append_assoc (responses x.done) (take sent (response_head size)) (take count (drop sent (response_head size ++ take n from))) ∙ ap (λ (l : List ℕ). responses x.done ++ l) (head_piece size sent n count from within))))
    m.3 (p.0, p.1, refl))

-- content was sent
pub sends_content : (f g : Front) (left most count : ℕ) (last : Bool) (from : List ℕ) → f.stage ≡ stage.Content left last → count ≤ most → most ≤ length from → most ≤ left → g ≡ record f { stage = behind_content (left - count) last }
    → (a b : Link) → SendsBelow (take count (take most from)) a b → TurnsWritten (take count from) f g a b
sends_content f g left most count last from at few long much is a b sends r gave wrote x =
    let h : Front = record f { stage = behind_content (left - count) last } in
    let p = stands_at r f (carried a gave wrote) (stage.Content left last) x at in
    let size = length p.1 + left in
    let m = now_is r f (carried a gave wrote) x (with_content p.0 size p.1) p.4 in
    subst (λ (g : Front). Fits r g (carried b gave (wrote ++ take count from))) (sym is)
    (content_on r f h (carried a gave wrote) (carried b gave (wrote ++ take count from)) x p.0 last size (left - count) (p.1 ++ take count from) p.2 (omega (arith, length-append p.1 (take count from), length-take count from, few, long, much)) p.3 refl
    (sends.received ∙ m.0) m.1
    (sends.sent ∙ (ap (λ (l : List ℕ). l ++ take count (take most from)) m.2
    ∙ (append_assoc (responses x.done) (response_head size ++ p.1) (take count (take most from))
    ∙ ap (λ (l : List ℕ). responses x.done ++ l) (append_assoc (response_head size) p.1 (take count (take most from)) ∙ ap (λ (l : List ℕ). response_head size ++ (p.1 ++ l)) (take-take count most from few)))))
    (ap (λ (l : List ℕ). l ++ take count from) m.3
    ∙ (append_assoc (answers x.done) (to_be_bytes w32 size ++ p.1) (take count from) ∙ ap (λ (l : List ℕ). answers x.done ++ l) (append_assoc (to_be_bytes w32 size) p.1 (take count from))))
    refl)

-- ---- responses without content

-- what is left of one was sent
pub sends_rest : (f g : Front) (sent count : ℕ) (last : Bool) (tail : List ℕ) → f.stage ≡ stage.Empty sent last → tail ≡ drop sent (response_head 0) → length tail ≤ count → g ≡ record f { stage = behind_response last }
    → (a b : Link) → SendsBelow (take count tail) a b → Turns f g a b
sends_rest f g sent count last tail at is_tail all is a b sends r gave wrote x =
    let h : Front = record f { stage = behind_response last } in
    let p = stands_at r f (carried a gave wrote) (stage.Empty sent last) x at in
    let m = now_is r f (carried a gave wrote) x (asked p.0.post (take sent (response_head 0)) (answer_frame p.0.answer)) p.4 in
    subst (λ (g : Front). Fits r g (carried b gave wrote)) (sym is)
    (finishes r f h (carried a gave wrote) (carried b gave wrote) x p.0 last p.1 p.3 refl
    (sends.received ∙ m.0) m.1
    (sends.sent ∙ (ap (λ (l : List ℕ). l ++ take count tail) m.2
    ∙ (append_assoc (responses x.done) (take sent (response_head 0)) (take count tail) ∙ ap (λ (l : List ℕ). responses x.done ++ l) (whole ∙ ap (λ (l : List ℕ). response l) (sym p.2)))))
    m.3 refl)
  where
    whole : take sent (response_head 0) ++ take count tail ≡ response []
    whole =
        ap (λ (l : List ℕ). take sent (response_head 0) ++ l) (take_all count tail all ∙ is_tail)
        ∙ (take-append-drop sent (response_head 0) ∙ sym (append-nil (response_head 0)))

-- a piece of one was sent
pub sends_less : (f g : Front) (sent count : ℕ) (last : Bool) (tail : List ℕ) → f.stage ≡ stage.Empty sent last → tail ≡ drop sent (response_head 0) → g ≡ record f { stage = stage.Empty (sent + count) last }
    → (a b : Link) → SendsBelow (take count tail) a b → Turns f g a b
sends_less f g sent count last tail at is_tail is a b sends r gave wrote x =
    let h : Front = record f { stage = stage.Empty (sent + count) last } in
    let p = stands_at r f (carried a gave wrote) (stage.Empty sent last) x at in
    let m = now_is r f (carried a gave wrote) x (asked p.0.post (take sent (response_head 0)) (answer_frame p.0.answer)) p.4 in
    subst (λ (g : Front). Fits r g (carried b gave wrote)) (sym is)
    (fits_on r f h (carried a gave wrote) (carried b gave wrote) x (asked p.0.post (take (sent + count) (response_head 0)) (answer_frame p.0.answer)) refl
    (sends.received ∙ m.0) m.1
    (sends.sent ∙ (ap (λ (l : List ℕ). l ++ take count tail) m.2
    ∙ (append_assoc (responses x.done) (take sent (response_head 0)) (take count tail)
    ∙ ap (λ (l : List ℕ). responses x.done ++ l) (ap (λ (l : List ℕ). take sent (response_head 0) ++ take count l) is_tail ∙ sym (take-add sent count (response_head 0))))))
    m.3 (p.0, p.1, p.2, p.3, refl))

-- ---- with the hub below

-- what was laid, and how much of it was sent
pub head_took : (told told' : Meaning → Type 0) (k : ℕ) (f g : Front) (size sent n count head : ℕ) (last : Bool) (from bytes : List ℕ) (answer : ℕ) → f.stage ≡ stage.Response size sent last → size < 2 ^ 32 → sent ≤ length (response_head size) → head ≡ length (response_head size)
    → n ≤ min (length from) size → bytes ≡ drop sent (response_head size ++ take n from) → SendsUpTo (head - sent) bytes count (put.Took answer) → g ≡ record f { stage = behind_content (size - (count - (head - sent))) last } → Goes told told' k (SendsBelow (take count bytes))
    → Goes told told' k (TurnsWritten (take (count - (head - sent)) from) f g)
head_took told told' k f g size sent n count head last from bytes answer at small within is_head few laid up is goes =
    goes_weaker told told' k (SendsBelow (take count bytes)) (TurnsWritten (take (count - (head - sent)) from) f g)
    (λ a b h. sends_head f g size sent n count (count - (head - sent)) last from at small within (omega (arith, up.0, is_head)) few_content (omega (arith, few)) (omega (arith, few)) is a b (subst (λ (l : List ℕ). SendsBelow (take count l) a b) laid h)) goes
  where
    long : length bytes ≡ (length (response_head size) + length (take n from)) - sent
    long = ap (λ (l : List ℕ). length l) laid ∙ (length-drop sent (response_head size ++ take n from) ∙ ap (λ (m : ℕ). m - sent) (length-append (response_head size) (take n from)))

    few_content : count - (head - sent) ≤ n
    few_content = omega (arith, up.1, long, is_head, within, length-take n from)

pub head_less : (told told' : Meaning → Type 0) (k : ℕ) (f g : Front) (size sent n count head : ℕ) (last : Bool) (from bytes : List ℕ) → f.stage ≡ stage.Response size sent last → sent ≤ length (response_head size) → head ≡ length (response_head size)
    → bytes ≡ drop sent (response_head size ++ take n from) → count ≤ head - sent → g ≡ record f { stage = stage.Response size (sent + count) last } → Goes told told' k (SendsBelow (take count bytes)) → Goes told told' k (Turns f g)
head_less told told' k f g size sent n count head last from bytes at within is_head laid few is goes =
    goes_weaker told told' k (SendsBelow (take count bytes)) (Turns f g)
    (λ a b h. sends_some f g size sent n count last from at (omega (arith, few, is_head, within)) is a b (subst (λ (l : List ℕ). SendsBelow (take count l) a b) laid h)) goes

take_none : (n : ℕ) → ◌≡◌ {A = List ℕ} (take n []) []
take_none zero = refl
take_none (suc n) = refl

no_content_laid : (sent n : ℕ) (bytes : List ℕ) → bytes ≡ drop sent (response_head 0 ++ take n []) → bytes ≡ drop sent (response_head 0)
no_content_laid sent n bytes laid = laid ∙ ap (λ (l : List ℕ). drop sent l) (ap (λ (l : List ℕ). response_head 0 ++ l) (take_none n) ∙ append-nil (response_head 0))

pub rest_took : (told told' : Meaning → Type 0) (k : ℕ) (f g : Front) (sent n count head : ℕ) (last : Bool) (bytes : List ℕ) (answer : ℕ) → f.stage ≡ stage.Empty sent last → sent < length (response_head 0) → head ≡ length (response_head 0) → bytes ≡ drop sent (response_head 0 ++ take n [])
    → SendsUpTo ((head - sent) - 1) bytes count (put.Took answer) → g ≡ record f { stage = behind_response last } → Goes told told' k (SendsBelow (take count bytes)) → Goes told told' k (Turns f g)
rest_took told told' k f g sent n count head last bytes answer at within is_head laid up is goes =
    let tail = no_content_laid sent n bytes laid in
    goes_weaker told told' k (SendsBelow (take count bytes)) (Turns f g) (λ a b h. sends_rest f g sent count last bytes at tail (omega (arith, up.0, is_head, within, ap (λ (l : List ℕ). length l) tail, length-drop sent (response_head 0))) is a b h) goes

pub rest_less : (told told' : Meaning → Type 0) (k : ℕ) (f g : Front) (sent n count : ℕ) (last : Bool) (bytes : List ℕ) → f.stage ≡ stage.Empty sent last → bytes ≡ drop sent (response_head 0 ++ take n []) → g ≡ record f { stage = stage.Empty (sent + count) last }
    → Goes told told' k (SendsBelow (take count bytes)) → Goes told told' k (Turns f g)
rest_less told told' k f g sent n count last bytes at laid is goes =
    goes_weaker told told' k (SendsBelow (take count bytes)) (Turns f g) (λ a b h. sends_less f g sent count last bytes at (no_content_laid sent n bytes laid) is a b h) goes
