-- What a hub over another one tells that was received are bytes, where what the hub below tells are. Nothing here has to be believed.
use Rattle.std.specs.Prelude.{◌≡◌, ℕ, Bool, true, false, List, [], ◌∷◌, ◌++◌, length, take, Option}
use Rattle.std.proofs.Common.{sym, subst, ap, arith, refl, append_assoc}
use Rattle.std.proofs.lemmas.List.{take-append-drop}
use Rattle.std.specs.Int.{w32, to_be_bytes}
use Rattle.framed_transport.specs.Frames.{framed}
use Rattle.gate_base.specs.Bytes.{AreBytes}
use Rattle.gate_hub.specs.Meaning.{Link, Told, Meaning, link_of}
use Rattle.gate_hub.specs.declared.hub.Side.{Side}
use Rattle.gate_hub.specs.declared.hub.Side.TheVariants as side
use Rattle.httparse.specs.Grammar.{print_request}
use Rattle.http_front.specs.Posts.{mark}
use Rattle.http_front.specs.declared.slots.Slot.{Slot}
use Rattle.http_front.specs.declared.stage.Stage.{Stage}
use Rattle.http_front.specs.declared.stage.Stage.TheVariants as stage
use Rattle.http_front.specs.Fronts.{Exchange, Reading, Now, IsOver, AtEnd, TooEarly, Marked, Last, requests, frames, StandsAt}
use Rattle.http_front.specs.Slots.{Open}
use Rattle.http_front.specs.Serving.{Wraps}
use Rattle.http_front.specs.Telling.{open_slots, TellsSession, TellsOver}

bytes_join : (xs ys : List ℕ) → AreBytes xs → AreBytes ys → AreBytes (xs ++ ys)
bytes_join [] ys a b = b
bytes_join (x ∷ xs) ys a b = (a.0, bytes_join xs ys a.1 b)

bytes_parts : (xs ys : List ℕ) → AreBytes (xs ++ ys) → AreBytes xs × AreBytes ys
bytes_parts [] ys a = (tt, a)
bytes_parts (x ∷ xs) ys a = let p = bytes_parts xs ys a.1 in ((a.0, p.0), p.1)

bytes_front : (n : ℕ) (xs : List ℕ) → AreBytes xs → AreBytes (take n xs)
bytes_front n xs a = (bytes_parts (take n xs) _ (subst AreBytes (sym (take-append-drop n xs)) a)).0

frame_bytes : (content : List ℕ) → AreBytes content → AreBytes (framed content)
unfolding framed
frame_bytes content are = bytes_join (to_be_bytes w32 (length content)) content (omega arith, (omega arith, (omega arith, (omega arith, tt)))) are

mark_bytes : AreBytes mark
mark_bytes = (omega arith, (omega arith, (omega arith, (omega arith, tt))))

-- the frames of bodies that were received
frames_bytes : (done : List Exchange) (more : List ℕ) → AreBytes (requests done ++ more) → AreBytes (frames done) × AreBytes more
frames_bytes [] more are = (tt, are)
frames_bytes (e ∷ done) more are =
    let p = bytes_parts (print_request e.post.head ++ e.post.body) (requests done ++ more) (subst AreBytes (append_assoc (print_request e.post.head ++ e.post.body) (requests done) more) are) in
    let q = frames_bytes done more p.1 in
    (bytes_join (framed e.post.body) (frames done) (frame_bytes e.post.body (bytes_parts (print_request e.post.head) e.post.body p.0).1) q.0, q.1)

-- what was handed out since
over_bytes : (r : Reading) (input : List ℕ) (ended : Bool) (now : Now) → AreBytes (now.dropped ++ input) → IsOver r input ended now → AreBytes now.given
over_bytes r input ended now are (AtEnd e none is) = subst AreBytes (sym (ap (λ (n : Now). n.given) is)) tt
over_bytes r input ended now are (TooEarly dropped e rest some is) = subst AreBytes (sym (ap (λ (n : Now). n.given) is)) (omega arith, tt)
over_bytes r input ended now are (Marked bad is) = subst AreBytes (sym (ap (λ (n : Now). n.given) is)) mark_bytes
over_bytes r input ended now are (Last e x last is) =
    let post = subst AreBytes (ap (λ (n : Now). n.dropped) is) (bytes_parts now.dropped input are).0 in
    subst AreBytes (sym (ap (λ (n : Now). n.given) is)) (frame_bytes e.post.body (bytes_parts (print_request e.post.head) e.post.body post).1)

now_bytes : (r : Reading) (s : Stage) (input : List ℕ) (ended : Bool) (now : Now) → AreBytes (now.dropped ++ input) → StandsAt r s input ended now → AreBytes now.given
now_bytes r stage.Head input ended now are h = subst AreBytes (sym (ap (λ (n : Now). n.given) h)) tt
now_bytes r (stage.Body size given last) input ended now are h =
    subst AreBytes (sym (ap (λ (n : Now). n.given) h.3)) (bytes_front given (framed (take size input)) (frame_bytes (take size input) (bytes_front size input (bytes_parts now.dropped input are).1)))
now_bytes r (stage.Answer bytes have last) input ended now are h =
    subst AreBytes (sym (ap (λ (n : Now). n.given) h.2)) (frame_bytes h.0.body (bytes_parts (print_request h.0.head) h.0.body (subst AreBytes (ap (λ (n : Now). n.dropped) h.2) (bytes_parts now.dropped input are).0)).1)
now_bytes r (stage.Response size sent last) input ended now are h =
    subst AreBytes (sym (ap (λ (n : Now). n.given) h.2)) (frame_bytes h.0.body (bytes_parts (print_request h.0.head) h.0.body (subst AreBytes (ap (λ (n : Now). n.dropped) h.2) (bytes_parts now.dropped input are).0)).1)
now_bytes r (stage.Content left last) input ended now are h =
    subst AreBytes (sym (ap (λ (n : Now). n.given) h.4)) (frame_bytes h.0.body (bytes_parts (print_request h.0.head) h.0.body (subst AreBytes (ap (λ (n : Now). n.dropped) h.4) (bytes_parts now.dropped input are).0)).1)
now_bytes r (stage.Empty sent last) input ended now are h =
    subst AreBytes (sym (ap (λ (n : Now). n.given) h.4)) (frame_bytes h.0.post.body (bytes_parts (print_request h.0.post.head) h.0.post.body (subst AreBytes (ap (λ (n : Now). n.dropped) h.4) (bytes_parts now.dropped input are).0)).1)
now_bytes r stage.Missing input ended now are h =
    subst AreBytes (sym (ap (λ (n : Now). n.given) h.3)) (frame_bytes h.0.body (bytes_parts (print_request h.0.head) h.0.body (subst AreBytes (ap (λ (n : Now). n.dropped) h.3) (bytes_parts now.dropped input are).0)).1)
now_bytes r (stage.Mark given) input ended now are h = subst AreBytes (sym (ap (λ (n : Now). n.given) h.1)) (bytes_front given mark mark_bytes)
now_bytes r stage.Early input ended now are h = subst AreBytes (sym (ap (λ (n : Now). n.given) h.4)) tt
now_bytes r stage.Over input ended now are h = over_bytes r input ended now are h

given_bytes : (r : Reading) (slot : Slot) (inner outer : Link) → AreBytes inner.received → Wraps r slot inner outer → AreBytes outer.received
given_bytes r slot inner outer are h =
    let x = h.fits in
    let q = frames_bytes x.done (x.now.dropped ++ slot.front.input) (subst AreBytes x.received are) in
    subst AreBytes (sym x.given) (bytes_join (frames x.done) x.now.given q.0 (now_bytes r slot.front.stage slot.front.input inner.ended x.now q.1 x.stands))

pub bytes_over : (told : Meaning → Type 0) (r : Reading) (slots : Option Open) (stopped : Bool) → ((n : Meaning) → told n → (k : ℕ) (x : Side) → AreBytes (link_of (n.session k) x).received)
    → (m : Meaning) → TellsOver told r slots stopped m → (k : ℕ) (x : Side) → AreBytes (link_of (m.session k) x).received
bytes_over told r slots stopped below m tells k x = by (tells.0.session k).announced refl
  where
    by_side : (x : Side) → AreBytes (link_of (tells.0.session k) x).received → TellsSession r (open_slots slots) k (tells.0.session k) (m.session k) → AreBytes (link_of (m.session k) x).received
    by_side side.Client are t = given_bytes r t.slot (tells.0.session k).client (m.session k).client are t.client
    by_side side.Upstream are t = subst AreBytes (sym t.upstream.received) are

    by : (b : Bool) → (tells.0.session k).announced ≡ b → AreBytes (link_of (m.session k) x).received
    by true e = by_side x (below tells.0 tells.1 k x) (tells.2.announced k e)
    by false e = subst (λ (t : Told). AreBytes (link_of t x).received) (sym (tells.2.unknown k e)) (below tells.0 tells.1 k x)
