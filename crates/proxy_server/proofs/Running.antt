-- What the calls of a turn add up to.
use Rattle.std.proofs.Common.{◌≡◌, ◌≢◌, ℕ, zero, suc, ◌+◌, ◌-◌, ◌<◌, ◌≤◌, ◌⊎◌, ◌||◌, min, nat_eq, ◌==◌, inl, inr, List, [], ◌∷◌, ◌++◌, length, take, nat_lt, Option, None, Some, is_some, Result, Err, Bool, true, false, true≢false, if◌then◌else◌, arith, ap, sym, ◌∙◌, subst, refl, append_assoc, length-append, length-take-le}
use Rattle.std.proofs.lemmas.List.{append-nil, take_all}
use Rattle.std.proofs.lemmas.Bool.Decides.{nat_tests}
use Rattle.std.specs.Int.{from_be_bytes, w32}
use Rattle.std.specs.Prelude.{ℤ}
use Rattle.gate_hub.specs.Meaning.{Told, Link, HubCall, Read, Wrote, Meaning, link_of, IsOpen}
use Rattle.gate_hub.specs.Hubs.{Counts, Later, Leads, Changes, AtSide, LinkReads, LinkWrites}
use Rattle.gate_hub.specs.declared.hub.Side.{Side}
use Rattle.gate_hub.specs.declared.hub.Side.TheVariants as side
use Rattle.gate_hub.specs.declared.hub.LinkGot.{LinkGot}
use Rattle.gate_hub.specs.declared.hub.LinkGot.TheVariants as got
use Rattle.gate_hub.specs.declared.hub.LinkPut.{LinkPut}
use Rattle.gate_hub.specs.declared.hub.LinkPut.TheVariants as put
use Rattle.framed_transport.specs.Front.{Part, Whole, Large, front, is_part}
use Rattle.session_core.specs.Rules.{Rules}
use Rattle.session_core.specs.Standing.{Standing, History}
use Rattle.session_core.specs.Notes.{Note}
use Rattle.session_core.specs.Telling.{FitsTold}
use Rattle.session_core.specs.Ends.{IsAtRest}
use Rattle.session_core.specs.Session.{Seen, due_to, room_of, and_sent, and_ended}
use Rattle.session_core.specs.Steps.{is_none}
use Rattle.proxy_server.specs.Calling.{piece_length, IsPiece, ArePieces, Fails, EndsFailing, Wanted, ToWrite, ToRead}
use Rattle.session_core.proofs.Endings.{is_none_tests}
use Rattle.proxy_server.specs.Matching.{history_of, and_received, Matches, IsSame}
use Rattle.proxy_server.specs.Turning.{Begins, wanted, most_behind, wanted_write, wanted_read, room_in, or_else, other, write_waits, read_waits, with_write, with_read, IsMarked, link_amount, amount, Grows, AllGrow, NoneFailed, Runs, Breaks, Goes, HasFailed, CallDoes, IsQuiet, IsSettled, ReadsNoMore, HasEnded, IsNotReady, HoldsFrame, held_of_side, no_waits}
use Rattle.proxy_server.specs.declared.waiting.Waits.{Waits}

-- ---- the session

-- a session with the same judge, limit, number of calls and rooms
pub matches_at : (J : Type 0) (rules : J → Rules) (a b : Seen J) (notes : List Note) (h : History) → IsSame J a b → FitsTold (rules a.judge) a.limit a.max_calls h notes b.standing → IsAtRest (rules a.judge) a.limit a.max_calls b.standing b.outcome → Matches J rules b notes h
matches_at J rules a b notes h same fits rest = record {
  fits = subst (λ (j : J). FitsTold (rules j) b.limit b.max_calls h notes b.standing) (sym same.judge)
      (subst (λ (n : ℕ). FitsTold (rules a.judge) n b.max_calls h notes b.standing) (sym same.limit)
      (subst (λ (n : ℕ). FitsTold (rules a.judge) a.limit n h notes b.standing) (sym same.max_calls) fits));
  rest = subst (λ (j : J). IsAtRest (rules j) b.limit b.max_calls b.standing b.outcome) (sym same.judge)
      (subst (λ (n : ℕ). IsAtRest (rules a.judge) n b.max_calls b.standing b.outcome) (sym same.limit)
      (subst (λ (n : ℕ). IsAtRest (rules a.judge) a.limit n b.standing b.outcome) (sym same.max_calls) rest));
}

pub all_taken : (n : ℕ) (bytes : List ℕ) → n ≡ length bytes → take n bytes ≡ bytes
all_taken n bytes is = take_all n bytes (omega (arith, is))

pub same_on : (J : Type 0) (a b c : Seen J) → IsSame J a b → IsSame J b c → IsSame J a c
same_on J a b c p q = record { judge = q.judge ∙ p.judge; limit = q.limit ∙ p.limit; max_calls = q.max_calls ∙ p.max_calls; rooms = q.rooms ∙ p.rooms }

-- ---- from the hub's clause to the turn's words

pub goes_by : (told told' : Meaning → Type 0) (matches matches' : History → Type 0) (k : ℕ) (call : HubCall) (Step : Told → Told → Type 0) (Step' : List HubCall → Told → Told → Type 0) → IsPiece k call → Leads told told' (IsOpen k) (Changes k call Step) → ((s t : Told) → matches (history_of s) → Step s t → Step' (call ∷ []) s t × matches' (history_of t)) → Goes told told' matches matches' k Step'
goes_by told told' matches matches' k call Step Step' is leads by = λ m tells open_at fit.
    let led = leads m tells open_at in
    let n = led.0 in
    let does = by (m.session k) (n.session k) fit led.2.session in (
      n,
      led.1,
      does.1,
      record {
        made = call ∷ [];
        calls = led.2.calls;
        pieces = (is, tt);
        session = does.0;
        others = led.2.others;
        started = led.2.started;
        last_event = led.2.last_event;
        events = led.2.events;
      },
    )

pieces_on : (k : ℕ) (made more : List HubCall) → ArePieces k made → ArePieces k more → ArePieces k (made ++ more)
pieces_on k [] more p q = q
pieces_on k (call ∷ made) more p q = (p.0, pieces_on k made more p.1 q)

-- one after the other
pub goes_on : (told told' told'' : Meaning → Type 0) (matches matches' matches'' : History → Type 0) (k : ℕ) (P Q Both : List HubCall → Told → Told → Type 0) → ((made : List HubCall) (s t : Told) → P made s t → (t.announced ≡ s.announced) × (t.closed ≡ s.closed)) → ((made more : List HubCall) (s t u : Told) → P made s t → Q more t u → matches'' (history_of u) → Both (made ++ more) s u) → Goes told told' matches matches' k P → Goes told' told'' matches' matches'' k Q → Goes told told'' matches matches'' k Both
goes_on told told' told'' matches matches' matches'' k P Q Both same both p q = λ m tells open_at fit.
    let first = p m tells open_at fit in
    let n = first.0 in
    let a = first.3 in
    let kept = same a.made (m.session k) (n.session k) a.session in
    let second = q n first.1 (kept.0 ∙ open_at.0, kept.1 ∙ open_at.1) first.2 in
    let b = second.3 in (
      second.0,
      second.1,
      second.2,
      record {
        made = a.made ++ b.made;
        calls = b.calls ∙ (ap (λ xs. xs ++ b.made) a.calls ∙ append_assoc m.calls a.made b.made);
        pieces = pieces_on k a.made b.made a.pieces b.pieces;
        session = both a.made b.made (m.session k) (n.session k) (second.0.session k) a.session b.session second.2;
        others = λ j off. b.others j off ∙ a.others j off;
        started = b.started ∙ a.started;
        last_event = b.last_event ∙ a.last_event;
        events = b.events ∙ a.events;
      },
    )

-- nothing was done
pub goes_nowhere : (told : Meaning → Type 0) (matches : History → Type 0) (k : ℕ) (P : List HubCall → Told → Told → Type 0) → ((s : Told) → P [] s s) → Goes told told matches matches k P
goes_nowhere told matches k P stays = λ m tells open_at fit. (
  m,
  tells,
  fit,
  record { made = []; calls = sym (append-nil m.calls); pieces = tt; session = stays (m.session k); others = λ j off. refl; started = refl; last_event = refl; events = refl },
)

pub goes_weaker : (told told' : Meaning → Type 0) (matches matches' : History → Type 0) (k : ℕ) (P Q : List HubCall → Told → Told → Type 0) → ((made : List HubCall) (s t : Told) → P made s t → Q made s t) → Goes told told' matches matches' k P → Goes told told' matches matches' k Q
goes_weaker told told' matches matches' k P Q by p = λ m tells open_at fit.
    let first = p m tells open_at fit in
    let a = first.3 in (
      first.0,
      first.1,
      first.2,
      record { made = a.made; calls = a.calls; pieces = a.pieces; session = by a.made (m.session k) (first.0.session k) a.session; others = a.others; started = a.started; last_event = a.last_event; events = a.events },
    )

-- ---- what is wanted first

pub begins_on : (k : ℕ) (a b : Option Wanted) (made more : List HubCall) → Begins k a made → Begins k b more → Begins k (or_else a b) (made ++ more)
begins_on k None b made more p q = subst (λ (xs : List HubCall). Begins k b (xs ++ more)) (sym p) q
begins_on k (Some (ToWrite x n)) b made more p q = (p.0, p.1 ++ more, ap (λ (xs : List HubCall). xs ++ more) p.2)
begins_on k (Some (ToRead x n)) b made more p q = (p.0, p.1 ++ more, ap (λ (xs : List HubCall). xs ++ more) p.2)

pub or_same : (a x y : Option Wanted) → (a ≡ None → x ≡ y) → or_else a x ≡ or_else a y
or_same None x y e = e refl
or_same (Some w) x y e = refl

pub or_none : (a b : Option Wanted) → or_else a b ≡ None → (a ≡ None) × (b ≡ None)
or_none None b e = (refl, e)
or_none (Some w) b e = absurd (cc)

-- what is wanted first is wanted still where the rest is what it was
pub or_again : (a : Option Wanted) → or_else a a ≡ a
or_again None = refl
or_again (Some w) = refl

pub or_last : (a : Option Wanted) → or_else a None ≡ a
or_last None = refl
or_last (Some w) = refl

ends_in_one : (early : List HubCall) (call : HubCall) → [] ≡ early ++ call ∷ [] → ⊥
ends_in_one [] call e = cc
ends_in_one (x ∷ early) call e = cc

-- a call that failed was made, so it was wanted
pub fails_wider : (k : ℕ) (a b : Option Wanted) (x : Side) (made : List HubCall) → Begins k a made → EndsFailing k x made → Begins k (or_else a b) made
fails_wider k None b x made p last = absurd (ends_in_one last.early last.call (sym p ∙ last.calls_are))
fails_wider k (Some w) b x made p last = p

pub fails_behind : (k : ℕ) (x : Side) (made more : List HubCall) → EndsFailing k x more → EndsFailing k x (made ++ more)
fails_behind k x made more last = record { early = made ++ last.early; call = last.call; calls_are = ap (λ xs. made ++ xs) last.calls_are ∙ sym (append_assoc made last.early (last.call ∷ [])); fails = last.fails }

-- ---- what moves

grows_not : (a : Link) → Grows a a
grows_not a = record { received = ([], sym (append-nil a.received)); sent = ([], sym (append-nil a.sent)); ended = λ e. e }

grows_on : (a b c : Link) → Grows a b → Grows b c → Grows a c
grows_on a b c p q = record {
  received = (p.received.0 ++ q.received.0, q.received.1 ∙ (ap (λ xs. xs ++ q.received.0) p.received.1 ∙ append_assoc a.received p.received.0 q.received.0));
  sent = (p.sent.0 ++ q.sent.0, q.sent.1 ∙ (ap (λ xs. xs ++ q.sent.0) p.sent.1 ∙ append_assoc a.sent p.sent.0 q.sent.0));
  ended = λ e. q.ended (p.ended e);
}

all_grow_on : (r s t : Told) → AllGrow r s → AllGrow s t → AllGrow r t
all_grow_on r s t p q = record {
  announced = q.announced ∙ p.announced;
  closed = q.closed ∙ p.closed;
  sides = λ x. grows_on (link_of r x) (link_of s x) (link_of t x) (p.sides x) (q.sides x);
}

none_failed_on : (r s t : Told) → NoneFailed r s → NoneFailed s t → NoneFailed r t
none_failed_on r s t p q = record { reads = λ x e. p.reads x (q.reads x e); writes = λ x e. p.writes x (q.writes x e) }

pub runs_not : (k : ℕ) (w : Waits) (s : Told) → Runs k None 0 w w [] s s
runs_not k w s = record {
  begins = refl;
  grows = record { announced = refl; closed = refl; sides = λ x. grows_not (link_of s x) };
  none_failed = record { reads = λ x e. e; writes = λ x e. e };
  amount_is = omega arith;
  marked = λ m. m;
}

pub runs_on : (k : ℕ) (a b : Option Wanted) (n m : ℕ) (u v w : Waits) (made more : List HubCall) (r s t : Told) → Runs k a n u v made r s → Runs k b m v w more s t → Runs k (or_else a b) (n + m) u w (made ++ more) r t
runs_on k a b n m u v w made more r s t p q = record {
  begins = begins_on k a b made more p.begins q.begins;
  grows = all_grow_on r s t p.grows q.grows;
  none_failed = none_failed_on r s t p.none_failed q.none_failed;
  amount_is = omega (arith, p.amount_is, q.amount_is);
  marked = λ marked. q.marked (p.marked marked);
}

pub breaks_on : (k : ℕ) (a b : Option Wanted) (n : ℕ) (u v : Waits) (x : Side) (made more : List HubCall) (r s t : Told) → Runs k a n u v made r s → Breaks k b x more s t → Breaks k (or_else a b) x (made ++ more) r t
breaks_on k a b n u v x made more r s t p q = record {
  begins = begins_on k a b made more p.begins q.begins;
  last = fails_behind k x made more q.last;
  grows = all_grow_on r s t p.grows q.grows;
  failed = q.failed;
  others = λ y off f. had_failed y (q.others y off f);
}
  where
    had_failed : (y : Side) → HasFailed y s → HasFailed y r
    had_failed y (inl f) = inl (p.none_failed.reads y f)
    had_failed y (inr f) = inr (p.none_failed.writes y f)

-- one side has changed, by a call that did not fail
record LinkRuns (moved : ℕ) (a b : Link) : Type 0 where
  grows : Grows a b
  amount_is : link_amount a + moved ≤ link_amount b
  reads : b.last_read ≡ Some got.Failed → a.last_read ≡ Some got.Failed
  writes : b.last_write ≡ Some put.Failed → a.last_write ≡ Some put.Failed

abbrev with_link : Side → Link → Told → Told
with_link side.Client link t = record t { client = link }
with_link side.Upstream link t = record t { upstream = link }

at_side : (x : Side) (Step : Link → Link → Type 0) (s t : Told) → AtSide x Step s t → ((link : Link) × Step (link_of s x) link × (t ≡ with_link x link s))
at_side side.Client Step s t does = does
at_side side.Upstream Step s t does = does

-- what the marks are to say of the side
record Marks (x : Side) (v w : Waits) (a b : Link) : Type 0 where
  writes : (write_waits v x ≡ true → a.last_write ≡ Some put.NotReady) → write_waits w x ≡ true → b.last_write ≡ Some put.NotReady
  reads : (read_waits v x ≡ true → a.last_read ≡ Some got.NotReady) → read_waits w x ≡ true → b.last_read ≡ Some got.NotReady

record Others (x : Side) (v w : Waits) : Type 0 where
  writes : write_waits w (other x) ≡ true → write_waits v (other x) ≡ true
  reads : read_waits w (other x) ≡ true → read_waits v (other x) ≡ true

one_grows : (x : Side) (s : Told) (link : Link) → Grows (link_of s x) link → AllGrow s (with_link x link s)
one_grows side.Client s link grows = record { announced = refl; closed = refl; sides = elim [ side.Client ↦ grows | side.Upstream ↦ grows_not s.upstream ] }
one_grows side.Upstream s link grows = record { announced = refl; closed = refl; sides = elim [ side.Client ↦ grows_not s.client | side.Upstream ↦ grows ] }

runs_in : (k : ℕ) (first : Option Wanted) (made : List HubCall) (x : Side) (n : ℕ) (v w : Waits) (s : Told) (link : Link) → Begins k first made → LinkRuns n (link_of s x) link → Marks x v w (link_of s x) link → Others x v w → Runs k first n v w made s (with_link x link s)
runs_in k first made side.Client n v w s link begins runs marks others = record {
  begins = begins;
  grows = one_grows side.Client s link runs.grows;
  none_failed = record {
    reads = elim [ side.Client ↦ runs.reads | side.Upstream ↦ (λ e. e) ];
    writes = elim [ side.Client ↦ runs.writes | side.Upstream ↦ (λ e. e) ];
  };
  amount_is = omega (arith, runs.amount_is);
  marked = λ m. record {
    writes = elim [ side.Client ↦ marks.writes (m.writes side.Client) | side.Upstream ↦ (λ e. m.writes side.Upstream (others.writes e)) ];
    reads = elim [ side.Client ↦ marks.reads (m.reads side.Client) | side.Upstream ↦ (λ e. m.reads side.Upstream (others.reads e)) ];
  };
}
runs_in k first made side.Upstream n v w s link begins runs marks others = record {
  begins = begins;
  grows = one_grows side.Upstream s link runs.grows;
  none_failed = record {
    reads = elim [ side.Client ↦ (λ e. e) | side.Upstream ↦ runs.reads ];
    writes = elim [ side.Client ↦ (λ e. e) | side.Upstream ↦ runs.writes ];
  };
  amount_is = omega (arith, runs.amount_is);
  marked = λ m. record {
    writes = elim [ side.Client ↦ (λ e. m.writes side.Client (others.writes e)) | side.Upstream ↦ marks.writes (m.writes side.Upstream) ];
    reads = elim [ side.Client ↦ (λ e. m.reads side.Client (others.reads e)) | side.Upstream ↦ marks.reads (m.reads side.Upstream) ];
  };
}

same_others : (x : Side) (w : Waits) → Others x w w
same_others x w = record { writes = λ e. e; reads = λ e. e }

no_flag : (X : Type 0) (b : Bool) → b ≡ false → b ≡ true → X
no_flag X b off on = absurd (true≢false (sym on ∙ off))

abbrev is_failed_put : Option LinkPut → Bool
is_failed_put None = false
is_failed_put (Some (put.Took n)) = false
is_failed_put (Some put.NotReady) = false
is_failed_put (Some put.Failed) = true

abbrev is_failed_got : Option LinkGot → Bool
is_failed_got None = false
is_failed_got (Some (got.Bytes n)) = false
is_failed_got (Some got.NotReady) = false
is_failed_got (Some got.End) = false
is_failed_got (Some got.Failed) = true

no_failed_put : (X : Type 0) (p : Option LinkPut) → is_failed_put p ≡ false → p ≡ Some put.Failed → X
no_failed_put X p off is = absurd (true≢false (ap is_failed_put (sym is) ∙ off))

no_failed_got : (X : Type 0) (p : Option LinkGot) → is_failed_got p ≡ false → p ≡ Some got.Failed → X
no_failed_got X p off is = absurd (true≢false (ap is_failed_got (sym is) ∙ off))

-- ---- what is told of the session after a call

asked_history : (x : Side) (s : Told) (read : Option LinkGot) → history_of (with_link x (record (link_of s x) { last_read = read }) s) ≡ history_of s
asked_history side.Client s read = refl
asked_history side.Upstream s read = refl

told_history : (x : Side) (s : Told) (write : Option LinkPut) → history_of (with_link x (record (link_of s x) { last_write = write }) s) ≡ history_of s
told_history side.Client s write = refl
told_history side.Upstream s write = refl

sent_history : (x : Side) (s : Told) (bytes : List ℕ) (write : Option LinkPut) → history_of (with_link x (record (link_of s x) { sent = (link_of s x).sent ++ bytes; last_write = write }) s) ≡ and_sent x (history_of s) bytes
sent_history side.Client s bytes write = refl
sent_history side.Upstream s bytes write = refl

received_history : (x : Side) (s : Told) (bytes : List ℕ) (read : Option LinkGot) → history_of (with_link x (record (link_of s x) { received = (link_of s x).received ++ bytes; last_read = read }) s) ≡ and_received x (history_of s) bytes
received_history side.Client s bytes read = refl
received_history side.Upstream s bytes read = refl

ended_history : (x : Side) (s : Told) (read : Option LinkGot) → history_of (with_link x (record (link_of s x) { ended = true; last_read = read }) s) ≡ and_ended x (history_of s)
ended_history side.Client s read = refl
ended_history side.Upstream s read = refl

-- ---- each call of a turn

pub took : (k : ℕ) (first : Option Wanted) (call : HubCall) (x : Side) (from : List ℕ) (n : ℕ) (w : Waits) (matches matches' : History → Type 0) (s t : Told) → Begins k first (call ∷ []) → 0 < n → n ≤ length from → write_waits w x ≡ false → ((h : History) → matches h → matches' (and_sent x h (take n from))) → matches (history_of s) → AtSide x (LinkWrites from (put.Took n)) s t → Runs k first 1 w w (call ∷ []) s t × matches' (history_of t)
took k first call x from n w matches matches' s t begins some within free by fit does =
    let at = at_side x (LinkWrites from (put.Took n)) s t does in
    let a = link_of s x in
    let after : Link = record a { sent = a.sent ++ take n from; last_write = Some (put.Took n) } in
    let e : t ≡ with_link x after s = at.2 ∙ ap (λ l. with_link x l s) at.1 in
    subst (λ (u : Told). Runs k first 1 w w (call ∷ []) s u × matches' (history_of u)) (sym e) (
      runs_in k first (call ∷ []) x 1 w w s after begins (record { grows = record { received = ([], sym (append-nil a.received)); sent = (take n from, refl); ended = λ e. e }; amount_is = omega (arith, length-append a.sent (take n from), length-take-le n from within, some); reads = λ e. e; writes = no_failed_put _ _ refl }) (record { writes = λ _ on. no_flag _ _ free on; reads = λ m. m }) (same_others x w),
      subst matches' (sym (sent_history x s (take n from) (Some (put.Took n)))) (by (history_of s) fit),
    )

others_write : (x : Side) (w : Waits) → Others x w (with_write x w)
others_write side.Client w = record { writes = λ e. e; reads = λ e. e }
others_write side.Upstream w = record { writes = λ e. e; reads = λ e. e }

others_read : (x : Side) (w : Waits) → Others x w (with_read x w)
others_read side.Client w = record { writes = λ e. e; reads = λ e. e }
others_read side.Upstream w = record { writes = λ e. e; reads = λ e. e }

reads_as_before : (x : Side) (w : Waits) → read_waits (with_write x w) x ≡ read_waits w x
reads_as_before side.Client w = refl
reads_as_before side.Upstream w = refl

writes_as_before : (x : Side) (w : Waits) → write_waits (with_read x w) x ≡ write_waits w x
writes_as_before side.Client w = refl
writes_as_before side.Upstream w = refl

asks_nothing : (a : Link) (read : Option LinkGot) → is_failed_got read ≡ false → LinkRuns 0 a (record a { last_read = read })
asks_nothing a read off = record {
  grows = record { received = ([], sym (append-nil a.received)); sent = ([], sym (append-nil a.sent)); ended = λ e. e };
  amount_is = omega arith;
  reads = no_failed_got _ _ off;
  writes = λ e. e;
}

tells_nothing : (a : Link) (write : Option LinkPut) → is_failed_put write ≡ false → LinkRuns 0 a (record a { last_write = write })
tells_nothing a write off = record {
  grows = record { received = ([], sym (append-nil a.received)); sent = ([], sym (append-nil a.sent)); ended = λ e. e };
  amount_is = omega arith;
  reads = λ e. e;
  writes = no_failed_put _ _ off;
}

pub write_waited : (k : ℕ) (first : Option Wanted) (call : HubCall) (x : Side) (from : List ℕ) (v w : Waits) (matches : History → Type 0) (s t : Told) → Begins k first (call ∷ []) → w ≡ with_write x v → matches (history_of s) → AtSide x (LinkWrites from put.NotReady) s t → Runs k first 0 v w (call ∷ []) s t × matches (history_of t)
write_waited k first call x from v w matches s t begins marks fit does =
    let at = at_side x (LinkWrites from put.NotReady) s t does in
    let a = link_of s x in
    let after : Link = record a { last_write = Some put.NotReady } in
    let e : t ≡ with_link x after s = at.2 ∙ ap (λ l. with_link x l s) at.1 in
    subst (λ (z : Waits). Runs k first 0 v z (call ∷ []) s t × matches (history_of t)) (sym marks)
    (subst (λ (u : Told). Runs k first 0 v (with_write x v) (call ∷ []) s u × matches (history_of u)) (sym e) (
      runs_in k first (call ∷ []) x 0 v (with_write x v) s after begins (tells_nothing a (Some put.NotReady) refl) (record { writes = λ _ _. refl; reads = λ m on. m (sym (reads_as_before x v) ∙ on) }) (others_write x v),
      subst matches (sym (told_history x s (Some put.NotReady))) fit,
    ))

pub read_waited : (k : ℕ) (first : Option Wanted) (call : HubCall) (x : Side) (into : List ℕ) (v w : Waits) (matches : History → Type 0) (s t : Told) → Begins k first (call ∷ []) → w ≡ with_read x v → matches (history_of s) → AtSide x (LinkReads into got.NotReady) s t → Runs k first 0 v w (call ∷ []) s t × matches (history_of t)
read_waited k first call x into v w matches s t begins marks fit does =
    let at = at_side x (LinkReads into got.NotReady) s t does in
    let a = link_of s x in
    let after : Link = record a { last_read = Some got.NotReady } in
    let e : t ≡ with_link x after s = at.2 ∙ ap (λ l. with_link x l s) at.1.1 in
    subst (λ (z : Waits). Runs k first 0 v z (call ∷ []) s t × matches (history_of t)) (sym marks)
    (subst (λ (u : Told). Runs k first 0 v (with_read x v) (call ∷ []) s u × matches (history_of u)) (sym e) (
      runs_in k first (call ∷ []) x 0 v (with_read x v) s after begins (asks_nothing a (Some got.NotReady) refl) (record { writes = λ m on. m (sym (writes_as_before x v) ∙ on); reads = λ _ _. refl }) (others_read x v),
      subst matches (sym (asked_history x s (Some got.NotReady))) fit,
    ))

pub got_bytes : (k : ℕ) (first : Option Wanted) (call : HubCall) (x : Side) (into : List ℕ) (n : ℕ) (w : Waits) (matches matches' : History → Type 0) (s t : Told) → Begins k first (call ∷ []) → 0 < n → n ≤ length into → read_waits w x ≡ false → ((h : History) → matches h → matches' (and_received x h (take n into))) → matches (history_of s) → AtSide x (LinkReads into (got.Bytes n)) s t → Runs k first 1 w w (call ∷ []) s t × matches' (history_of t)
got_bytes k first call x into n w matches matches' s t begins some within free by fit does =
    let at = at_side x (LinkReads into (got.Bytes n)) s t does in
    let a = link_of s x in
    let after : Link = record a { received = a.received ++ take n into; last_read = Some (got.Bytes n) } in
    let e : t ≡ with_link x after s = at.2 ∙ ap (λ l. with_link x l s) at.1.1 in
    subst (λ (u : Told). Runs k first 1 w w (call ∷ []) s u × matches' (history_of u)) (sym e) (
      runs_in k first (call ∷ []) x 1 w w s after begins (record { grows = record { received = (take n into, refl); sent = ([], sym (append-nil a.sent)); ended = λ e. e }; amount_is = omega (arith, length-append a.received (take n into), length-take-le n into within, some); reads = no_failed_got _ _ refl; writes = λ e. e }) (record { writes = λ m. m; reads = λ _ on. no_flag _ _ free on }) (same_others x w),
      subst matches' (sym (received_history x s (take n into) (Some (got.Bytes n)))) (by (history_of s) fit),
    )

pub got_end : (k : ℕ) (first : Option Wanted) (call : HubCall) (x : Side) (into : List ℕ) (w : Waits) (matches matches' : History → Type 0) (s t : Told) → Begins k first (call ∷ []) → (link_of s x).ended ≡ false → read_waits w x ≡ false → ((h : History) → matches h → matches' (and_ended x h)) → matches (history_of s) → AtSide x (LinkReads into got.End) s t → Runs k first 1 w w (call ∷ []) s t × matches' (history_of t)
got_end k first call x into w matches matches' s t begins going free by fit does =
    let at = at_side x (LinkReads into got.End) s t does in
    let a = link_of s x in
    let after : Link = record a { ended = true; last_read = Some got.End } in
    let e : t ≡ with_link x after s = at.2 ∙ ap (λ l. with_link x l s) at.1 in
    subst (λ (u : Told). Runs k first 1 w w (call ∷ []) s u × matches' (history_of u)) (sym e) (
      runs_in k first (call ∷ []) x 1 w w s after begins (record { grows = record { received = ([], sym (append-nil a.received)); sent = ([], sym (append-nil a.sent)); ended = λ _. refl }; amount_is = omega (arith, ap {B = ℕ} (λ (b : Bool). if b then 1 else 0) going); reads = no_failed_got _ _ refl; writes = λ e. e }) (record { writes = λ m. m; reads = λ _ on. no_flag _ _ free on }) (same_others x w),
      subst matches' (sym (ended_history x s (Some got.End))) (by (history_of s) fit),
    )

failed_write : (x : Side) (s : Told) (a : Link) → HasFailed x (with_link x (record a { last_write = Some put.Failed }) s)
failed_write side.Client s a = inr refl
failed_write side.Upstream s a = inr refl

failed_read : (x : Side) (s : Told) (a : Link) → HasFailed x (with_link x (record a { last_read = Some got.Failed }) s)
failed_read side.Client s a = inl refl
failed_read side.Upstream s a = inl refl

others_kept : (x : Side) (s : Told) (l : Link) (y : Side) → y ≢ x → HasFailed y (with_link x l s) → HasFailed y s
others_kept side.Client s l side.Client other f = absurd (other refl)
others_kept side.Client s l side.Upstream other f = f
others_kept side.Upstream s l side.Client other f = f
others_kept side.Upstream s l side.Upstream other f = absurd (other refl)

pub write_failed : (k : ℕ) (first : Option Wanted) (call : HubCall) (x : Side) (from : List ℕ) (matches : History → Type 0) (s t : Told) → Begins k first (call ∷ []) → Fails k x call → matches (history_of s) → AtSide x (LinkWrites from put.Failed) s t → Breaks k first x (call ∷ []) s t × matches (history_of t)
write_failed k first call x from matches s t begins fails fit does =
    let at = at_side x (LinkWrites from put.Failed) s t does in
    let a = link_of s x in
    let after : Link = record a { last_write = Some put.Failed } in
    let e : t ≡ with_link x after s = at.2 ∙ ap (λ l. with_link x l s) at.1 in
    subst (λ (u : Told). Breaks k first x (call ∷ []) s u × matches (history_of u)) (sym e) (
      record { begins = begins; last = record { early = []; call = call; calls_are = refl; fails = fails }; grows = one_grows x s after (record { received = ([], sym (append-nil a.received)); sent = ([], sym (append-nil a.sent)); ended = λ e. e }); failed = failed_write x s a; others = others_kept x s after },
      subst matches (sym (told_history x s (Some put.Failed))) fit,
    )

pub read_failed : (k : ℕ) (first : Option Wanted) (call : HubCall) (x : Side) (into : List ℕ) (matches : History → Type 0) (s t : Told) → Begins k first (call ∷ []) → Fails k x call → matches (history_of s) → AtSide x (LinkReads into got.Failed) s t → Breaks k first x (call ∷ []) s t × matches (history_of t)
read_failed k first call x into matches s t begins fails fit does =
    let at = at_side x (LinkReads into got.Failed) s t does in
    let a = link_of s x in
    let after : Link = record a { last_read = Some got.Failed } in
    let e : t ≡ with_link x after s = at.2 ∙ ap (λ l. with_link x l s) at.1.1 in
    subst (λ (u : Told). Breaks k first x (call ∷ []) s u × matches (history_of u)) (sym e) (
      record { begins = begins; last = record { early = []; call = call; calls_are = refl; fails = fails }; grows = one_grows x s after (record { received = ([], sym (append-nil a.received)); sent = ([], sym (append-nil a.sent)); ended = λ e. e }); failed = failed_read x s a; others = others_kept x s after },
      subst matches (sym (asked_history x s (Some got.Failed))) fit,
    )

-- a side that the session has room for has not ended
off_by : (ended over : Bool) (room : ℕ) → 0 < (if ended || over then 0 else room) → ended ≡ false
off_by true over room some = absurd (omega (arith, some))
off_by false over room some = refl

pub not_ended : (x : Side) (J : Type 0) (rules : J → Rules) (session : Seen J) (notes : List Note) (s : Told) → Matches J rules session notes (history_of s) → 0 < room_of session.limit session.standing (is_some session.outcome) x → (link_of s x).ended ≡ false
not_ended side.Client J rules session notes s m some = sym m.fits.fits.client_ended ∙ off_by session.standing.client_ended (is_some session.outcome) _ some
not_ended side.Upstream J rules session notes s m some = sym m.fits.fits.upstream_ended ∙ off_by session.standing.upstream_ended (is_some session.outcome) _ some

pub take_of_front : (n m : ℕ) (xs : List ℕ) → n ≤ m → take n (take m xs) ≡ take n xs
take_of_front zero m xs within = refl
take_of_front (suc n) zero xs within = absurd (omega (arith, within))
take_of_front (suc n) (suc m) [] within = refl
take_of_front (suc n) (suc m) (x ∷ xs) within = ap (λ ys. x ∷ ys) (take_of_front n m xs (omega (arith, within)))

-- ---- one call behind another

pub then_runs : (told told' told'' : Meaning → Type 0) (matches matches' matches'' : History → Type 0) (k : ℕ) (a b : Option Wanted) (n m : ℕ) (u v w : Waits) → Goes told told' matches matches' k (Runs k a n u v) → Goes told' told'' matches' matches'' k (Runs k b m v w) → Goes told told'' matches matches'' k (Runs k (or_else a b) (n + m) u w)
then_runs told told' told'' matches matches' matches'' k a b n m u v w p q = goes_on told told' told'' matches matches' matches'' k (Runs k a n u v) (Runs k b m v w) (Runs k (or_else a b) (n + m) u w) (λ made s t r. (r.grows.announced, r.grows.closed)) (λ made more r s t x y _. runs_on k a b n m u v w made more r s t x y) p q

pub then_breaks : (told told' told'' : Meaning → Type 0) (matches matches' matches'' : History → Type 0) (k : ℕ) (a b : Option Wanted) (n : ℕ) (u v : Waits) (x : Side) → Goes told told' matches matches' k (Runs k a n u v) → Goes told' told'' matches' matches'' k (Breaks k b x) → Goes told told'' matches matches'' k (Breaks k (or_else a b) x)
then_breaks told told' told'' matches matches' matches'' k a b n u v x p q = goes_on told told' told'' matches matches' matches'' k (Runs k a n u v) (Breaks k b x) (Breaks k (or_else a b) x) (λ made s t r. (r.grows.announced, r.grows.closed)) (λ made more r s t y z _. breaks_on k a b n u v x made more r s t y z) p q

-- what failed was wanted, whatever would have been wanted behind it
pub breaks_wider : (told told' : Meaning → Type 0) (matches matches' : History → Type 0) (k : ℕ) (a b : Option Wanted) (x : Side) → Goes told told' matches matches' k (Breaks k a x) → Goes told told' matches matches' k (Breaks k (or_else a b) x)
breaks_wider told told' matches matches' k a b x p = goes_weaker told told' matches matches' k (Breaks k a x) (Breaks k (or_else a b) x) (λ made s t r. record { begins = fails_wider k a b x made r.begins r.last; last = r.last; grows = r.grows; failed = r.failed; others = r.others }) p

-- ---- a settled session

unmarked : (s : Told) → IsMarked no_waits s
unmarked s = record {
  writes = elim [ side.Client ↦ (λ on. absurd (true≢false (sym on))) | side.Upstream ↦ (λ on. absurd (true≢false (sym on))) ];
  reads = elim [ side.Client ↦ (λ on. absurd (true≢false (sym on))) | side.Upstream ↦ (λ on. absurd (true≢false (sym on))) ];
}

full_by : (limit n : ℕ) (bytes : List ℕ) (z : ℤ) (frame rest : List ℕ) → limit + 4 ≤ length bytes → (a : Bool) → nat_lt (length bytes) 4 ≡ a → (b : Bool) → nat_lt limit n ≡ b → (d : Bool) → nat_lt (length bytes - 4) n ≡ d → is_part (if a then Part else if b then Large z else if d then Part else Whole frame rest) ≡ false
full_by limit n bytes z frame rest full true p b q d r = (let few : length bytes < 4 = grind (arith, nat_tests, p) in absurd (omega (arith, full, few)))
full_by limit n bytes z frame rest full false p true q d r = refl
full_by limit n bytes z frame rest full false p false q true r = (let few : length bytes - 4 < n = grind (arith, nat_tests, r) in let fits : n ≤ limit = grind (arith, nat_tests, q) in absurd (omega (arith, full, few, fits)))
full_by limit n bytes z frame rest full false p false q false r = refl

-- a buffer that is full holds a frame
full_front : (limit : ℕ) (bytes : List ℕ) → limit + 4 ≤ length bytes → is_part (front limit bytes) ≡ false
unfolding front
full_front limit bytes full = full_by limit (from_be_bytes w32 (take 4 bytes)) bytes _ _ _ full (nat_lt (length bytes) 4) refl (nat_lt limit (from_be_bytes w32 (take 4 bytes))) refl (nat_lt (length bytes - 4) (from_be_bytes w32 (take 4 bytes))) refl

no_room : (limit : ℕ) (held : List ℕ) (ended over : Bool) (link : Link) → over ≡ false → ended ≡ link.ended → (if ended || over then 0 else limit + 4 - length held) ≡ 0 → ReadsNoMore limit held link
no_room limit held true over link off is none = HasEnded (sym is)
no_room limit held false true link off is none = absurd (true≢false off)
no_room limit held false false link off is none = HoldsFrame (full_front limit held (omega (arith, none)))

reads_no_more : (x : Side) (J : Type 0) (rules : J → Rules) (session : Seen J) (notes : List Note) (t : Told) → session.outcome ≡ None → Matches J rules session notes (history_of t) → (room_of session.limit session.standing (is_some session.outcome) x ≡ 0) ⊎ ((link_of t x).last_read ≡ Some got.NotReady) → ReadsNoMore session.limit (held_of_side x session.standing) (link_of t x)
reads_no_more x J rules session notes t going m (inr waits) = IsNotReady waits
reads_no_more side.Client J rules session notes t going m (inl none) = no_room session.limit session.standing.client session.standing.client_ended (is_some session.outcome) t.client (ap is_some going) m.fits.fits.client_ended none
reads_no_more side.Upstream J rules session notes t going m (inl none) = no_room session.limit session.standing.upstream session.standing.upstream_ended (is_some session.outcome) t.upstream (ap is_some going) m.fits.fits.upstream_ended none

or_by : {A B C : Type 0} → A ⊎ B → (B → C) → A ⊎ C
or_by (inl a) f = inl a
or_by (inr b) f = inr (f b)

pub settles : (J : Type 0) (rules : J → Rules) (session : Seen J) (notes : List Note) (k : ℕ) (first : Option Wanted) (n : ℕ) (w : Waits) (made : List HubCall) (s t : Told) → session.outcome ≡ None → IsQuiet session.limit session.standing session.outcome w → Matches J rules session notes (history_of t) → Runs k first n no_waits w made s t → AllGrow s t × NoneFailed s t × IsSettled J rules session t
settles J rules session notes k first n w made s t going quiet m p =
    let marked = p.marked (unmarked s) in (
      p.grows,
      p.none_failed,
      record {
        going = going;
        still = m.rest.still;
        writes = λ x. or_by (quiet x).0 (marked.writes x);
        reads = λ x. reads_no_more x J rules session notes t going m (or_by (quiet x).1 (marked.reads x));
      },
    )

pub moved_enough : (k : ℕ) (first : Option Wanted) (n : ℕ) (w : Waits) (made : List HubCall) (s t : Told) → 16 ≤ n → Runs k first n no_waits w made s t → AllGrow s t × NoneFailed s t × (amount s + 16 ≤ amount t)
moved_enough k first n w made s t enough p = (p.grows, p.none_failed, omega (arith, p.amount_is, enough))

pub later_on : (a b c : Counts) → Later a b → Later b c → Later a c
later_on a b c p q = record {
  faults = omega (arith, p.faults, q.faults);
  links = λ k s. omega (arith, p.links k s, q.links k s);
  waits = λ k s. omega (arith, p.waits k s, q.waits k s);
}

pub later_not : (a : Counts) → Later a a
later_not a = record { faults = omega arith; links = λ k s. omega arith; waits = λ k s. omega arith }

-- ---- when a call is wanted

pub write_is_wanted : (x : Side) (w : Waits) (s : Standing) (n : ℕ) → is_none (due_to x s) ≡ false → write_waits w x ≡ false → n ≡ min (length (due_to x s)) piece_length → wanted_write x w s ≡ Some (ToWrite x n)
write_is_wanted x w s n some free is =
    ap (λ b. if b || write_waits w x then None else Some (ToWrite x (min (length (due_to x s)) piece_length))) some
    ∙ (ap (λ b. if b then None else Some (ToWrite x (min (length (due_to x s)) piece_length))) free ∙ ap (λ m. Some (ToWrite x m)) (sym is))

pub write_is_left : (x : Side) (w : Waits) (s : Standing) → (is_none (due_to x s) ≡ true) ⊎ (write_waits w x ≡ true) → wanted_write x w s ≡ None
write_is_left x w s (inl none) = ap (λ b. if b || write_waits w x then None else Some (ToWrite x (min (length (due_to x s)) piece_length))) none
write_is_left x w s (inr waits) = by (is_none (due_to x s)) (write_waits w x) waits
  where
    by : (a b : Bool) → b ≡ true → (if a || b then None else Some (ToWrite x (min (length (due_to x s)) piece_length))) ≡ None
    by true b on = refl
    by false b on = ap (λ c. if c then None else Some (ToWrite x (min (length (due_to x s)) piece_length))) on

pub read_is_wanted : {J : Type 0} → (most : ℕ) (x : Side) (w : Waits) (s : Seen J) (n : ℕ) → 0 < most → 0 < n → read_waits w x ≡ false → n ≡ min (room_in s x) most → wanted_read most x w s ≡ Some (ToRead x n)
read_is_wanted most x w s n some one free is =
    let room : 0 < room_in s x = omega (arith, some, one, is) in
    let test : nat_eq (room_in s x) 0 ≡ false = grind (arith, nat_tests, room) in
    ap (λ b. if b || read_waits w x then None else Some (ToRead x (min (room_in s x) most))) test
    ∙ (ap (λ b. if b then None else Some (ToRead x (min (room_in s x) most))) free ∙ ap (λ m. Some (ToRead x m)) (sym is))

pub read_is_left : {J : Type 0} → (most : ℕ) (x : Side) (w : Waits) (s : Seen J) → (room_in s x ≡ 0) ⊎ (read_waits w x ≡ true) → wanted_read most x w s ≡ None
read_is_left most x w s (inl none) = ap (λ r. if nat_eq r 0 || read_waits w x then None else Some (ToRead x (min r most))) none
read_is_left most x w s (inr waits) = by (nat_eq (room_in s x) 0) (read_waits w x) waits
  where
    by : (a b : Bool) → b ≡ true → (if a || b then None else Some (ToRead x (min (room_in s x) most))) ≡ None
    by true b on = refl
    by false b on = ap (λ c. if c then None else Some (ToRead x (min (room_in s x) most))) on

-- a call that was left out has done nothing
pub leaves_out : (told : Meaning → Type 0) (matches : History → Type 0) (k : ℕ) (first : Option Wanted) (w : Waits) → first ≡ None → Goes told told matches matches k (Runs k first 0 w w)
leaves_out told matches k first w none = subst (λ (f : Option Wanted). Goes told told matches matches k (Runs k f 0 w w)) (sym none) (goes_nowhere told matches k (Runs k None 0 w w) (runs_not k w))

-- a call that was made begins with what is wanted
pub writes_first : (k : ℕ) (x : Side) (n : ℕ) (answer : LinkPut) (first : Option Wanted) → first ≡ Some (ToWrite x n) → Begins k first (Wrote k x n answer ∷ [])
writes_first k x n answer first is = subst (λ (f : Option Wanted). Begins k f (Wrote k x n answer ∷ [])) (sym is) (answer, [], refl)

pub reads_first : (k : ℕ) (x : Side) (n : ℕ) (answer : LinkGot) (first : Option Wanted) → first ≡ Some (ToRead x n) → Begins k first (Read k x n answer ∷ [])
reads_first k x n answer first is = subst (λ (f : Option Wanted). Begins k f (Read k x n answer ∷ [])) (sym is) (answer, [], refl)

pub write_wants : (x : Side) (w : Waits) (s : Standing) (due : List ℕ) (count : ℕ) → due ≡ due_to x s → (length due == 0) ≡ false → write_waits w x ≡ false → count ≡ min (length due) 4096 → (wanted_write x w s ≡ Some (ToWrite x (length (take count due)))) × (length (take count due) ≤ piece_length)
write_wants x w s due count same some free is =
    let long : length (take count due) ≡ count = length-take-le count due (omega (arith, is)) in
    let least : length (take count due) ≡ min (length (due_to x s)) piece_length = long ∙ (is ∙ ap (λ xs. min (length xs) 4096) same) in
    (write_is_wanted x w s (length (take count due)) (sym (ap is_none same) ∙ (is_none_tests due ∙ some)) free least, omega (arith, long, is))

pub write_left_out : (x : Side) (w : Waits) (s : Standing) (due : List ℕ) → due ≡ due_to x s → ((length due == 0) ≡ true) ⊎ (write_waits w x ≡ true) → wanted_write x w s ≡ None
write_left_out x w s due same (inl none) = write_is_left x w s (inl (sym (ap is_none same) ∙ (is_none_tests due ∙ none)))
write_left_out x w s due same (inr waits) = write_is_left x w s (inr waits)

pub read_wants : {J : Type 0} → (x : Side) (w : Waits) (s : Seen J) (into : List ℕ) (room n : ℕ) → room ≡ room_in s x → n ≡ min room (length into) → n ≢ 0 → read_waits w x ≡ false → length into ≤ piece_length → (wanted_read (length into) x w s ≡ Some (ToRead x (length (take n into)))) × (length (take n into) ≤ piece_length)
read_wants x w s into room n same is some free few =
    let long : length (take n into) ≡ n = length-take-le n into (omega (arith, is)) in
    let one : 0 < length (take n into) = omega (arith, long, some) in
    (read_is_wanted (length into) x w s (length (take n into)) (omega (arith, one, long, is)) one free (long ∙ (is ∙ ap (λ r. min r (length into)) same)), omega (arith, long, is, few))

pub read_left_out : {J : Type 0} → (x : Side) (w : Waits) (s : Seen J) (into : List ℕ) (room n : ℕ) → room ≡ room_in s x → n ≡ min room (length into) → 0 < length into → (n ≡ 0) ⊎ (read_waits w x ≡ true) → wanted_read (length into) x w s ≡ None
read_left_out x w s into room n same is some (inl none) = read_is_left (length into) x w s (inl (omega (arith, same, is, some, none)))
read_left_out x w s into room n same is some (inr waits) = read_is_left (length into) x w s (inr waits)

-- ---- what is wanted first in a round, whose later calls see what the earlier ones left

chain2 : (a b' b r : Option Wanted) → (a ≡ None → b' ≡ b) → or_else (or_else a b') r ≡ or_else a (or_else b r)
chain2 None b' b r e = ap (λ y. or_else y r) (e refl)
chain2 (Some w) b' b r e = refl

chain3 : (a b' b c' c d : Option Wanted) → (a ≡ None → b' ≡ b) → (a ≡ None → b' ≡ None → c' ≡ c) → or_else (or_else a (or_else b' c')) d ≡ or_else a (or_else b (or_else c d))
chain3 None None b c' c d e f = ap (λ y. or_else y d) (f refl refl) ∙ ap (λ y. or_else y (or_else c d)) (e refl)
chain3 None (Some v) b c' c d e f = ap (λ y. or_else y (or_else c d)) (e refl)
chain3 (Some w) b' b c' c d e f = refl

chain4 : (a b' b c' c d' d : Option Wanted) → (a ≡ None → b' ≡ b) → (a ≡ None → b' ≡ None → c' ≡ c) → (a ≡ None → b' ≡ None → c' ≡ None → d' ≡ d) → or_else a (or_else b' (or_else c' d')) ≡ or_else a (or_else b (or_else c d))
chain4 None None b None c d' d e f h = h refl refl refl ∙ (ap (λ y. or_else y d) (f refl refl) ∙ ap (λ y. or_else y (or_else c d)) (e refl))
chain4 None None b (Some v) c d' d e f h = ap (λ y. or_else y d) (f refl refl) ∙ ap (λ y. or_else y (or_else c d)) (e refl)
chain4 None (Some v) b c' c d' d e f h = ap (λ y. or_else y (or_else c d)) (e refl)
chain4 (Some w) b' b c' c d' d e f h = refl

-- where nothing was wanted, nothing has changed
abbrev pub Idle : {J : Type 0} → Option Wanted → Seen J → Seen J → Waits → Waits → Type 0
Idle first s t v w = first ≡ None → (t ≡ s) × (w ≡ v)

-- the four calls of a round: the session and the marks before each, and the room of each read
pub record Round {J : Type 0} (s0 s1 s2 s3 : Seen J) (w0 w1 w2 w3 : Waits) (n2 n3 : ℕ) : Type 0 where
  pub one : Idle (wanted_write side.Client w0 s0.standing) s0 s1 w0 w1
  pub two : Idle (wanted_write side.Upstream w1 s1.standing) s1 s2 w1 w2
  pub three : Idle (wanted_read n2 side.Upstream w2 s2) s2 s3 w2 w3
  pub reads : n2 ≡ most_behind s2.standing.to_client
  pub reads_last : n3 ≡ most_behind s3.standing.to_upstream

second_alike : {J : Type 0} → (s0 s1 : Seen J) (w0 w1 : Waits) → Idle (wanted_write side.Client w0 s0.standing) s0 s1 w0 w1 → wanted_write side.Client w0 s0.standing ≡ None → wanted_write side.Upstream w1 s1.standing ≡ wanted_write side.Upstream w0 s0.standing
second_alike {J} s0 s1 w0 w1 one none =
    let i = one none in
    ap (λ w. wanted_write side.Upstream w s1.standing) i.1 ∙ ap (λ (s : Seen J). wanted_write side.Upstream w0 s.standing) i.0

third_alike : {J : Type 0} → (s0 s1 s2 : Seen J) (w0 w1 w2 : Waits) (n : ℕ) → Idle (wanted_write side.Client w0 s0.standing) s0 s1 w0 w1 → Idle (wanted_write side.Upstream w1 s1.standing) s1 s2 w1 w2 → n ≡ most_behind s2.standing.to_client → wanted_write side.Client w0 s0.standing ≡ None → wanted_write side.Upstream w1 s1.standing ≡ None → wanted_read n side.Upstream w2 s2 ≡ wanted_read (most_behind s0.standing.to_client) side.Upstream w0 s0
third_alike {J} s0 s1 s2 w0 w1 w2 n one two is a b =
    let i = one a in
    let j = two b in
    ap (λ m. wanted_read m side.Upstream w2 s2) is ∙ (ap (λ w. wanted_read (most_behind s2.standing.to_client) side.Upstream w s2) (j.1 ∙ i.1) ∙ ap (λ (s : Seen J). wanted_read (most_behind s.standing.to_client) side.Upstream w0 s) (j.0 ∙ i.0))

fourth_alike : {J : Type 0} → (s0 s1 s2 s3 : Seen J) (w0 w1 w2 w3 : Waits) (n2 n3 : ℕ) → Round s0 s1 s2 s3 w0 w1 w2 w3 n2 n3 → wanted_write side.Client w0 s0.standing ≡ None → wanted_write side.Upstream w1 s1.standing ≡ None → wanted_read n2 side.Upstream w2 s2 ≡ None → wanted_read n3 side.Client w3 s3 ≡ wanted_read (most_behind s0.standing.to_upstream) side.Client w0 s0
fourth_alike {J} s0 s1 s2 s3 w0 w1 w2 w3 n2 n3 r a b d =
    let i = r.one a in
    let j = r.two b in
    let l = r.three d in
    ap (λ m. wanted_read m side.Client w3 s3) r.reads_last ∙ (ap (λ w. wanted_read (most_behind s3.standing.to_upstream) side.Client w s3) (l.1 ∙ (j.1 ∙ i.1)) ∙ ap (λ (s : Seen J). wanted_read (most_behind s.standing.to_upstream) side.Client w0 s) (l.0 ∙ (j.0 ∙ i.0)))

pub wants_two : {J : Type 0} → (s0 s1 : Seen J) (w0 w1 : Waits) → Idle (wanted_write side.Client w0 s0.standing) s0 s1 w0 w1 → or_else (or_else (wanted_write side.Client w0 s0.standing) (wanted_write side.Upstream w1 s1.standing)) (or_else (wanted_read (most_behind s0.standing.to_client) side.Upstream w0 s0) (wanted_read (most_behind s0.standing.to_upstream) side.Client w0 s0)) ≡ wanted w0 s0
wants_two s0 s1 w0 w1 one = chain2 _ _ _ _ (second_alike s0 s1 w0 w1 one)

pub wants_three : {J : Type 0} → (s0 s1 s2 : Seen J) (w0 w1 w2 : Waits) (n : ℕ) → Idle (wanted_write side.Client w0 s0.standing) s0 s1 w0 w1 → Idle (wanted_write side.Upstream w1 s1.standing) s1 s2 w1 w2 → n ≡ most_behind s2.standing.to_client → or_else (or_else (wanted_write side.Client w0 s0.standing) (or_else (wanted_write side.Upstream w1 s1.standing) (wanted_read n side.Upstream w2 s2))) (wanted_read (most_behind s0.standing.to_upstream) side.Client w0 s0) ≡ wanted w0 s0
wants_three s0 s1 s2 w0 w1 w2 n one two is = chain3 _ _ _ _ _ _ (second_alike s0 s1 w0 w1 one) (third_alike s0 s1 s2 w0 w1 w2 n one two is)

pub wants_four : {J : Type 0} → (s0 s1 s2 s3 : Seen J) (w0 w1 w2 w3 : Waits) (n2 n3 : ℕ) → Round s0 s1 s2 s3 w0 w1 w2 w3 n2 n3 → or_else (wanted_write side.Client w0 s0.standing) (or_else (wanted_write side.Upstream w1 s1.standing) (or_else (wanted_read n2 side.Upstream w2 s2) (wanted_read n3 side.Client w3 s3))) ≡ wanted w0 s0
wants_four s0 s1 s2 s3 w0 w1 w2 w3 n2 n3 r = chain4 _ _ _ _ _ _ _ (second_alike s0 s1 w0 w1 r.one) (third_alike s0 s1 s2 w0 w1 w2 n2 r.one r.two r.reads) (fourth_alike s0 s1 s2 s3 w0 w1 w2 w3 n2 n3 r)

pub idle_one : {J : Type 0} → (s0 s1 : Seen J) (w0 w1 : Waits) → Idle (wanted_write side.Client w0 s0.standing) s0 s1 w0 w1 → Idle (wanted w0 s0) s0 s1 w0 w1
idle_one s0 s1 w0 w1 one none = one (or_none _ _ none).0

pub idle_two : {J : Type 0} → (s0 s1 s2 : Seen J) (w0 w1 w2 : Waits) → Idle (wanted_write side.Client w0 s0.standing) s0 s1 w0 w1 → Idle (wanted_write side.Upstream w1 s1.standing) s1 s2 w1 w2 → Idle (wanted w0 s0) s0 s2 w0 w2
idle_two s0 s1 s2 w0 w1 w2 one two none =
    let a = or_none _ _ none in
    let i = one a.0 in
    let j = two (second_alike s0 s1 w0 w1 one a.0 ∙ (or_none _ _ a.1).0) in
    (j.0 ∙ i.0, j.1 ∙ i.1)

pub idle_three : {J : Type 0} → (s0 s1 s2 s3 : Seen J) (w0 w1 w2 w3 : Waits) (n : ℕ) → Idle (wanted_write side.Client w0 s0.standing) s0 s1 w0 w1 → Idle (wanted_write side.Upstream w1 s1.standing) s1 s2 w1 w2 → n ≡ most_behind s2.standing.to_client → Idle (wanted_read n side.Upstream w2 s2) s2 s3 w2 w3 → Idle (wanted w0 s0) s0 s3 w0 w3
idle_three s0 s1 s2 s3 w0 w1 w2 w3 n one two is three none =
    let a = or_none _ _ none in
    let b = or_none _ _ a.1 in
    let i = one a.0 in
    let second = second_alike s0 s1 w0 w1 one a.0 ∙ b.0 in
    let j = two second in
    let l = three (third_alike s0 s1 s2 w0 w1 w2 n one two is a.0 second ∙ (or_none _ _ b.1).0) in
    (l.0 ∙ (j.0 ∙ i.0), l.1 ∙ (j.1 ∙ i.1))

pub idle_four : {J : Type 0} → (s0 s1 s2 s3 s4 : Seen J) (w0 w1 w2 w3 w4 : Waits) (n2 n3 : ℕ) → Round s0 s1 s2 s3 w0 w1 w2 w3 n2 n3 → Idle (wanted_read n3 side.Client w3 s3) s3 s4 w3 w4 → Idle (wanted w0 s0) s0 s4 w0 w4
idle_four s0 s1 s2 s3 s4 w0 w1 w2 w3 w4 n2 n3 r four none =
    let a = or_none _ _ none in
    let b = or_none _ _ a.1 in
    let d = or_none _ _ b.1 in
    let i = r.one a.0 in
    let second = second_alike s0 s1 w0 w1 r.one a.0 ∙ b.0 in
    let j = r.two second in
    let third = third_alike s0 s1 s2 w0 w1 w2 n2 r.one r.two r.reads a.0 second ∙ d.0 in
    let l = r.three third in
    let o = four (fourth_alike s0 s1 s2 s3 w0 w1 w2 w3 n2 n3 r a.0 second third ∙ d.1) in
    (o.0 ∙ (l.0 ∙ (j.0 ∙ i.0)), o.1 ∙ (l.1 ∙ (j.1 ∙ i.1)))

most_by : (b : Bool) → ((if b then 4096 else 3072) ≤ 4096) × (0 < (if b then 4096 else 3072))
most_by true = (omega arith, omega arith)
most_by false = (omega arith, omega arith)

pub most_within : (due : List ℕ) → (most_behind due ≤ piece_length) × (0 < most_behind due)
most_within due = most_by (is_none due)

pub most_length : (into due : List ℕ) (most : ℕ) → length into ≡ piece_length → most ≡ most_behind due → length (take most into) ≡ most_behind due
most_length into due most is e = length-take-le most into (omega (arith, is, e, (most_within due).0)) ∙ e

-- at what is wanted in all
pub runs_at : (told told' : Meaning → Type 0) (matches matches' : History → Type 0) (k : ℕ) (a b : Option Wanted) (n : ℕ) (v w : Waits) → a ≡ b → Goes told told' matches matches' k (Runs k a n v w) → Goes told told' matches matches' k (Runs k b n v w)
runs_at told told' matches matches' k a b n v w e p = subst (λ (f : Option Wanted). Goes told told' matches matches' k (Runs k f n v w)) e p

pub breaks_at : (told told' : Meaning → Type 0) (matches matches' : History → Type 0) (k : ℕ) (a r b : Option Wanted) (v w : Waits) (x : Side) (result : Result ℕ Side) → result ≡ Err x → or_else a r ≡ b → Goes told told' matches matches' k (Breaks k a x) → Goes told told' matches matches' k (CallDoes k b result v w)
breaks_at told told' matches matches' k a r b v w x result is e p =
    subst (λ (o : Result ℕ Side). Goes told told' matches matches' k (CallDoes k b o v w)) (sym is)
    (subst (λ (f : Option Wanted). Goes told told' matches matches' k (Breaks k f x)) e (breaks_wider told told' matches matches' k a r x p))

-- what is wanted of the whole turn, where the first round is not over or its first call was made
pub want_on : (first next want : Option Wanted) → (first ≡ None → next ≡ want) → (first ≡ None) ⊎ (first ≡ want) → or_else first next ≡ want
want_on None next want e from = e refl
want_on (Some w) next want e (inl none) = absurd (cc)
want_on (Some w) next want e (inr is) = is
