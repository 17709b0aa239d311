-- What a port tells once it has read, written, handed out or taken in.
use Rattle.std.proofs.Common.{◌≡◌, ◌≢◌, ℕ, ◌<◌, ◌⊎◌, inl, inr, List, ◌++◌, length, take, Bool, true, false, true≢false, ◌||◌, if◌then◌else◌, Option, None, Some, IsSome, refl, sym, ap, ◌∙◌, subst, arith, append_assoc}
use Rattle.std.specs.Coded.{le_prop}
use Rattle.gate_io.specs.Buffer.{Buffer}
use Rattle.gate_hub.specs.Meaning.{Link}
use Rattle.gate_hub.specs.Hubs.{LinkReads, LinkWrites}
use Rattle.gate_hub.specs.declared.hub.LinkGot.{LinkGot}
use Rattle.gate_hub.specs.declared.hub.LinkGot.TheVariants as got
use Rattle.gate_hub.specs.declared.hub.LinkPut.{LinkPut}
use Rattle.gate_hub.specs.declared.hub.LinkPut.TheVariants as put
use Rattle.mio_edge.specs.Wire.{Wire, Moves, Stays, heard}
use Rattle.mio_edge.specs.Moving.{TakesIn, Joins, PortTellsBy, PortTells, HearsBy, PortHears, IsOver, Finds, HasFailed, IsCalm, may_have, after_news, then_sending, begins_receiving, begins_sending, is_news, noted}
use Rattle.mio_edge.specs.declared.network.Readiness.{Readiness}
use Rattle.mio_edge.specs.declared.port.Port.{Port}
use Rattle.mio_edge.specs.declared.port.Receiving.{Receiving}
use Rattle.mio_edge.specs.declared.port.Receiving.TheVariants as receiving
use Rattle.mio_edge.specs.declared.port.Sending.{Sending}
use Rattle.mio_edge.specs.declared.port.Sending.TheVariants as sending

-- ports whose parts are the same, but for the proofs that their buffers have room
pub port_same : {S : Type 0} (a b : Port S) → b.stream ≡ a.stream → b.receiving ≡ a.receiving → b.sending ≡ a.sending → b.incoming ≡ a.incoming → b.outgoing ≡ a.outgoing → b ≡ a
port_same {S} a b stream receiving sending incoming outgoing =
    ap (λ (x : Option S). record b { stream = x }) stream
    ∙ (ap (λ (x : Receiving). record b { stream = a.stream; receiving = x }) receiving
    ∙ (ap (λ (x : Sending). record b { stream = a.stream; receiving = a.receiving; sending = x }) sending
    ∙ (subst (λ (x : Buffer). (room : 0 < x.room) → record b { stream = a.stream; receiving = a.receiving; sending = a.sending; incoming = x; room_in = room } ≡ record b { stream = a.stream; receiving = a.receiving; sending = a.sending; incoming = a.incoming; room_in = a.room_in }) (sym incoming)
    (λ room. ap (λ (r : 0 < a.incoming.room). record b { stream = a.stream; receiving = a.receiving; sending = a.sending; incoming = a.incoming; room_in = r }) (le_prop room a.room_in)) b.room_in
    ∙ subst (λ (x : Buffer). (room : 0 < x.room) → record a { outgoing = x; room_out = room } ≡ a) (sym outgoing) (λ room. ap (λ (r : 0 < a.outgoing.room). record a { room_out = r }) (le_prop room a.room_out)) b.room_out)))

-- only what is held of what came in has changed
pub only_incoming : {S : Type 0} (a b : Port S) → b.stream ≡ a.stream → b.receiving ≡ a.receiving → b.sending ≡ a.sending → b.outgoing ≡ a.outgoing → b ≡ record a { incoming = b.incoming; room_in = b.room_in }
only_incoming a b stream receiving sending outgoing = port_same (record a { incoming = b.incoming; room_in = b.room_in }) b stream receiving sending refl outgoing

-- only what is held of what was written has changed
pub only_outgoing : {S : Type 0} (a b : Port S) → b.stream ≡ a.stream → b.receiving ≡ a.receiving → b.sending ≡ a.sending → b.incoming ≡ a.incoming → b ≡ record a { outgoing = b.outgoing; room_out = b.room_out }
only_outgoing a b stream receiving sending incoming = port_same (record a { outgoing = b.outgoing; room_out = b.room_out }) b stream receiving sending incoming refl

flag : (b : Bool) → (b ≡ true → ⊥) → b ≡ false
flag true never = absurd (never refl)
flag false never = refl

there : {S : Type 0} (o : Option S) (s : S) → o ≡ Some s → IsSome o
there {S} o s is = subst (λ (x : Option S). IsSome x) (sym is) refl

none_there : (S : Type 0) → IsSome {T = S} None → ⊥
none_there S e = absurd (cc)

-- a link has not ended while the end of its port's stream was not read
pub not_ended : {S : Type 0} (tells : S → Wire → Type 0) (port : Port S) (link : Link) → PortTells tells port link → (IsOver port → ⊥) → link.ended ≡ false
not_ended {S} tells port link told never = by port.stream refl told
  where
    by : (o : Option S) → port.stream ≡ o → PortTellsBy tells o port link → link.ended ≡ false
    by None is untouched = untouched.ended
    by (Some s) is (wire, says, joins) = flag link.ended (λ e. never (there port.stream s is, joins.ended e))

-- what is held came before the end
held_open : {S : Type 0} (tells : S → Wire → Type 0) (port : Port S) (link : Link) → PortTells tells port link → 0 < length port.incoming.bytes → IsOver port → ⊥
held_open {S} tells port link told some over = by port.stream told
  where
    by : (o : Option S) → PortTellsBy tells o port link → ⊥
    by None untouched = absurd (omega (arith, some, ap length untouched.incoming))
    by (Some s) (wire, says, joins) = absurd (omega (arith, some, ap length (joins.over over.1).1))

-- the answer of a read is kept
abbrev answered : Link → LinkGot → Link
answered link answer = record link { last_read = Some answer }

no_bytes_failed : (n : ℕ) → Some (got.Bytes n) ≡ Some got.Failed → ⊥
no_bytes_failed n e = absurd (cc)

no_took_failed : (n : ℕ) → Some (put.Took n) ≡ Some put.Failed → ⊥
no_took_failed n e = absurd (cc)

-- the first of the bytes that are held are handed out
pub hands_out : {S : Type 0} (tells : S → Wire → Type 0) (a b : Port S) (into : List ℕ) (n : ℕ) → 0 < length a.incoming.bytes → take n into ++ b.incoming.bytes ≡ a.incoming.bytes → b ≡ record a { incoming = b.incoming; room_in = b.room_in } → Moves (PortTells tells a) (PortTells tells b) (LinkReads into (got.Bytes n))
hands_out {S} tells a b into n some is same link told =
    let next : Link = record link { received = link.received ++ take n into; last_read = Some (got.Bytes n) } in
    (next, subst (λ (p : Port S). PortTells tells p next) (sym same) (by a.stream told), (not_ended tells a link told (held_open tells a link told some), refl))
  where
    next : Link
    next = record link { received = link.received ++ take n into; last_read = Some (got.Bytes n) }

    by : (o : Option S) → PortTellsBy tells o a link → PortTellsBy tells o (record a { incoming = b.incoming; room_in = b.room_in }) next
    by None untouched = absurd (omega (arith, some, ap length untouched.incoming))
    by (Some s) (wire, says, joins) = (
      wire,
      says,
      record {
        received = joins.received ∙ (ap (λ xs. link.received ++ xs) (sym is) ∙ sym (append_assoc link.received (take n into) b.incoming.bytes));
        sent = joins.sent;
        ended = joins.ended;
        over = λ e. absurd (omega (arith, some, ap length (joins.over e).1));
        unread = joins.unread;
        unsent = joins.unsent;
        failed_read = λ e. absurd (no_bytes_failed n e);
        failed_write = joins.failed_write;
        idle = joins.idle;
        blocked = joins.blocked;
        begun = joins.begun;
        shut = joins.shut;
      },
    )

-- a port that failed has a stream that failed
stream_failed : {S : Type 0} (a : Port S) (link : Link) (s : S) (wire : Wire) → a.stream ≡ Some s → Joins wire a link → HasFailed a → wire.failed ≡ true
stream_failed {S} a link s wire is joins (inl none) = absurd (no_stream (sym none ∙ is))
  where
    no_stream : None ≡ Some s → ⊥
    no_stream e = absurd (cc)
stream_failed a link s wire is joins (inr lost) = joins.unread lost

-- a link of which a read answered something else tells as before
keeps_link : {S : Type 0} (tells : S → Wire → Type 0) (a : Port S) (link : Link) (answer : LinkGot) → (answer ≡ got.Failed → HasFailed a) → PortTells tells a link → PortTells tells a (answered link answer)
keeps_link {S} tells a link answer blame told = by a.stream refl told
  where
    un_some : Some answer ≡ Some got.Failed → answer ≡ got.Failed
    un_some e = cc

    by : (o : Option S) → a.stream ≡ o → PortTellsBy tells o a link → PortTellsBy tells o a (answered link answer)
    by None is untouched = record { received = untouched.received; sent = untouched.sent; ended = untouched.ended; incoming = untouched.incoming; outgoing = untouched.outgoing }
    by (Some s) is (wire, says, joins) = (
      wire,
      says,
      record {
        received = joins.received;
        sent = joins.sent;
        ended = joins.ended;
        over = joins.over;
        unread = joins.unread;
        unsent = joins.unsent;
        failed_read = λ e. stream_failed a link s wire is joins (blame (un_some e));
        failed_write = joins.failed_write;
        idle = joins.idle;
        blocked = joins.blocked;
        begun = joins.begun;
        shut = joins.shut;
      },
    )

pub reads_nothing : {S : Type 0} (tells : S → Wire → Type 0) (a : Port S) (into : List ℕ) → (IsOver a → ⊥) → Moves (PortTells tells a) (PortTells tells a) (LinkReads into got.NotReady)
reads_nothing tells a into never link told = (answered link got.NotReady, keeps_link tells a link got.NotReady (λ e. absurd (cc)) told, (not_ended tells a link told never, refl))

pub reads_failed : {S : Type 0} (tells : S → Wire → Type 0) (a : Port S) (into : List ℕ) → (IsOver a → ⊥) → HasFailed a → Moves (PortTells tells a) (PortTells tells a) (LinkReads into got.Failed)
reads_failed tells a into never failed link told = (answered link got.Failed, keeps_link tells a link got.Failed (λ e. failed) told, (not_ended tells a link told never, refl))

pub reads_end : {S : Type 0} (tells : S → Wire → Type 0) (a : Port S) (into : List ℕ) → IsOver a → Moves (PortTells tells a) (PortTells tells a) (LinkReads into got.End)
reads_end {S} tells a into over link told = (next, by a.stream refl told, refl)
  where
    next : Link
    next = record link { ended = true; last_read = Some got.End }

    no_end_failed : Some got.End ≡ Some got.Failed → ⊥
    no_end_failed e = absurd (cc)

    by : (o : Option S) → a.stream ≡ o → PortTellsBy tells o a link → PortTellsBy tells o a next
    by None is untouched = absurd (none_there S (subst (λ (x : Option S). IsSome x) is over.0))
    by (Some s) is (wire, says, joins) = (
      wire,
      says,
      record {
        received = joins.received;
        sent = joins.sent;
        ended = λ e. over.1;
        over = joins.over;
        unread = joins.unread;
        unsent = joins.unsent;
        failed_read = λ e. absurd (no_end_failed e);
        failed_write = joins.failed_write;
        idle = joins.idle;
        blocked = joins.blocked;
        begun = joins.begun;
        shut = joins.shut;
      },
    )

-- a read answers what it found
pub reads_found : {S : Type 0} (tells : S → Wire → Type 0) (a : Port S) (into : List ℕ) (answer : LinkGot) → ((n : ℕ) → answer ≢ got.Bytes n) → Finds answer a → Moves (PortTells tells a) (PortTells tells a) (LinkReads into answer)
reads_found tells a into (got.Bytes n) never finds = absurd (never n refl)
reads_found tells a into got.NotReady never finds = reads_nothing tells a into finds.0
reads_found tells a into got.End never finds = reads_end tells a into finds
reads_found tells a into got.Failed never finds = reads_failed tells a into finds.0 finds.1

pub then_moves : {A : Type 0} (x y z : A → Type 0) (Step : A → A → Type 0) → Stays x y → Moves y z Step → Moves x z Step
then_moves x y z Step stays moves a told = moves a (stays a told)

-- ---- what is taken in

pub takes_in : {S : Type 0} (tells : S → Wire → Type 0) (a b : Port S) (from : List ℕ) (answer : LinkPut) → IsSome a.stream → TakesIn answer from a.outgoing b.outgoing → b ≡ record a { outgoing = b.outgoing; room_out = b.room_out } → Moves (PortTells tells a) (PortTells tells b) (LinkWrites from answer)
takes_in {S} tells a b from answer some takes same link told = by answer takes
  where
    took : (n : ℕ) → Link
    took n = record link { sent = link.sent ++ take n from; last_write = Some (put.Took n) }

    waits : Link
    waits = record link { last_write = Some put.NotReady }

    no_wait_failed : Some put.NotReady ≡ Some put.Failed → ⊥
    no_wait_failed e = absurd (cc)

    sends : (n : ℕ) → b.outgoing ≡ record (a.outgoing) { bytes = a.outgoing.bytes ++ take n from } → (o : Option S) → IsSome o → PortTellsBy tells o a link → PortTellsBy tells o (record a { outgoing = b.outgoing; room_out = b.room_out }) (took n)
    sends n is None some untouched = absurd (none_there S some)
    sends n is (Some s) some (wire, says, joins) = (
      wire,
      says,
      record {
        received = joins.received;
        sent = ap (λ xs. xs ++ take n from) joins.sent ∙ (append_assoc wire.sent a.outgoing.bytes (take n from) ∙ ap (λ (x : Buffer). wire.sent ++ x.bytes) (sym is));
        ended = joins.ended;
        over = joins.over;
        unread = joins.unread;
        unsent = joins.unsent;
        failed_read = joins.failed_read;
        failed_write = λ e. absurd (no_took_failed n e);
        idle = joins.idle;
        blocked = joins.blocked;
        begun = joins.begun;
        shut = joins.shut;
      },
    )

    keeps : b.outgoing ≡ a.outgoing → (o : Option S) → PortTellsBy tells o a link → PortTellsBy tells o (record a { outgoing = b.outgoing; room_out = b.room_out }) waits
    keeps is None untouched = record { received = untouched.received; sent = untouched.sent; ended = untouched.ended; incoming = untouched.incoming; outgoing = ap (λ (x : Buffer). x.bytes) is ∙ untouched.outgoing }
    keeps is (Some s) (wire, says, joins) = (
      wire,
      says,
      record {
        received = joins.received;
        sent = joins.sent ∙ ap (λ (x : Buffer). wire.sent ++ x.bytes) (sym is);
        ended = joins.ended;
        over = joins.over;
        unread = joins.unread;
        unsent = joins.unsent;
        failed_read = joins.failed_read;
        failed_write = λ e. absurd (no_wait_failed e);
        idle = joins.idle;
        blocked = joins.blocked;
        begun = joins.begun;
        shut = joins.shut;
      },
    )

    back : (l : Link) → PortTells tells (record a { outgoing = b.outgoing; room_out = b.room_out }) l → PortTells tells b l
    back l = subst (λ (p : Port S). PortTells tells p l) (sym same)

    by : (r : LinkPut) → TakesIn r from a.outgoing b.outgoing → (l : Link) × PortTells tells b l × LinkWrites from r link l
    by (put.Took n) is = (took n, back (took n) (sends n is a.stream some told), refl)
    by put.NotReady is = (waits, back waits (keeps is a.stream told), refl)
    by put.Failed is = absurd is

-- a link of which a write answered something else tells as before
keeps_sent : {S : Type 0} (tells : S → Wire → Type 0) (a : Port S) (link : Link) (answer : LinkPut) → (answer ≡ put.Failed → (a.stream ≡ None) ⊎ (a.sending ≡ sending.Lost)) → PortTells tells a link → PortTells tells a (record link { last_write = Some answer })
keeps_sent {S} tells a link answer blame told = by a.stream refl told
  where
    un_some : Some answer ≡ Some put.Failed → answer ≡ put.Failed
    un_some e = cc

    failed : (s : S) (wire : Wire) → a.stream ≡ Some s → Joins wire a link → (a.stream ≡ None) ⊎ (a.sending ≡ sending.Lost) → wire.failed ≡ true
    failed s wire is joins (inl none) = absurd (no_stream (sym none ∙ is))
      where
        no_stream : None ≡ Some s → ⊥
        no_stream e = absurd (cc)
    failed s wire is joins (inr lost) = joins.unsent lost

    by : (o : Option S) → a.stream ≡ o → PortTellsBy tells o a link → PortTellsBy tells o a (record link { last_write = Some answer })
    by None is untouched = record { received = untouched.received; sent = untouched.sent; ended = untouched.ended; incoming = untouched.incoming; outgoing = untouched.outgoing }
    by (Some s) is (wire, says, joins) = (
      wire,
      says,
      record {
        received = joins.received;
        sent = joins.sent;
        ended = joins.ended;
        over = joins.over;
        unread = joins.unread;
        unsent = joins.unsent;
        failed_read = joins.failed_read;
        failed_write = λ e. failed s wire is joins (blame (un_some e));
        idle = joins.idle;
        blocked = joins.blocked;
        begun = joins.begun;
        shut = joins.shut;
      },
    )

-- a write that fails takes nothing
pub writes_failed : {S : Type 0} (tells : S → Wire → Type 0) (a : Port S) (from : List ℕ) → (a.stream ≡ None) ⊎ (a.sending ≡ sending.Lost) → Moves (PortTells tells a) (PortTells tells a) (LinkWrites from put.Failed)
writes_failed tells a from failed link told = (record link { last_write = Some put.Failed }, keeps_sent tells a link put.Failed (λ e. failed) told, refl)

-- nor does one that waits
pub writes_wait : {S : Type 0} (tells : S → Wire → Type 0) (a : Port S) (from : List ℕ) → Moves (PortTells tells a) (PortTells tells a) (LinkWrites from put.NotReady)
writes_wait tells a from link told = (record link { last_write = Some put.NotReady }, keeps_sent tells a link put.NotReady (λ e. absurd (cc)) told, refl)

-- ---- what is reported

or_both : (a b : Bool) → a ≡ false → b ≡ false → (a || b) ≡ false
or_both true b e f = absurd (cc)
or_both false true e f = absurd (cc)
or_both false false e f = refl

or_right : (a b : Bool) → b ≡ true → (a || b) ≡ true
or_right true b e = refl
or_right false true e = refl
or_right false false e = absurd (cc)

or_none : (a b : Bool) → (a || b) ≡ false → (a ≡ false) × (b ≡ false)
or_none true b e = absurd (cc)
or_none false true e = absurd (cc)
or_none false false e = (refl, refl)

-- what is known after a report was so before
idle_before : (news : Readiness) (r : Receiving) → after_news news r ≡ receiving.Idle → (r ≡ receiving.Idle) × (news.is_readable ≡ false)
idle_before news receiving.Idle e = by (news.is_closing || news.has_failed) news.is_readable e
  where
    by : (t u : Bool) → (if t then receiving.Closing else (if u then receiving.Ready else receiving.Idle)) ≡ receiving.Idle → (receiving.Idle ≡ receiving.Idle) × (u ≡ false)
    by true u e = absurd (cc)
    by false true e = absurd (cc)
    by false false e = (refl, refl)
idle_before news receiving.Ready e = by (news.is_closing || news.has_failed) e
  where
    by : (t : Bool) → (if t then receiving.Closing else receiving.Ready) ≡ receiving.Idle → (receiving.Ready ≡ receiving.Idle) × (news.is_readable ≡ false)
    by true e = absurd (cc)
    by false e = absurd (cc)
idle_before news receiving.Closing e = absurd (cc)
idle_before news receiving.Ended e = absurd (cc)
idle_before news receiving.Lost e = absurd (cc)

-- an end or a failure comes of no report
same_after : (news : Readiness) (r x : Receiving) → may_have x ≡ false → x ≢ receiving.Idle → after_news news r ≡ x → r ≡ x
same_after news receiving.Idle x not busy e = by (news.is_closing || news.has_failed) news.is_readable e
  where
    by : (t u : Bool) → (if t then receiving.Closing else (if u then receiving.Ready else receiving.Idle)) ≡ x → receiving.Idle ≡ x
    by true u e = absurd (true≢false (ap may_have e ∙ not))
    by false true e = absurd (true≢false (ap may_have e ∙ not))
    by false false e = absurd (busy (sym e))
same_after news receiving.Ready x not busy e = by (news.is_closing || news.has_failed) e
  where
    by : (t : Bool) → (if t then receiving.Closing else receiving.Ready) ≡ x → receiving.Ready ≡ x
    by true e = absurd (true≢false (ap may_have e ∙ not))
    by false e = e
same_after news receiving.Closing x not busy e = e
same_after news receiving.Ended x not busy e = e
same_after news receiving.Lost x not busy e = e

ended_after : (news : Readiness) (r : Receiving) → r ≡ receiving.Ended → after_news news r ≡ receiving.Ended
ended_after news r e = subst (λ (x : Receiving). after_news news x ≡ receiving.Ended) (sym e) refl

blocked_before : (news : Readiness) (s : Sending) → then_sending news s ≡ sending.Blocked → (s ≡ sending.Blocked) × (news.is_writable ≡ false)
blocked_before news sending.Deferred e = absurd (cc)
blocked_before news sending.Blocked e = by news.is_writable news.has_failed e
  where
    by : (t u : Bool) → (if t || u then sending.Ready else sending.Blocked) ≡ sending.Blocked → (sending.Blocked ≡ sending.Blocked) × (t ≡ false)
    by true u e = absurd (cc)
    by false true e = absurd (cc)
    by false false e = (refl, refl)
blocked_before news sending.Ready e = absurd (cc)
blocked_before news sending.Shut e = absurd (cc)
blocked_before news sending.Lost e = absurd (cc)

lost_before : (news : Readiness) (s : Sending) → then_sending news s ≡ sending.Lost → s ≡ sending.Lost
lost_before news sending.Deferred e = absurd (cc)
lost_before news sending.Blocked e = by (news.is_writable || news.has_failed) e
  where
    by : (t : Bool) → (if t then sending.Ready else sending.Blocked) ≡ sending.Lost → sending.Blocked ≡ sending.Lost
    by true e = absurd (cc)
    by false e = absurd (cc)
lost_before news sending.Ready e = absurd (cc)
lost_before news sending.Shut e = absurd (cc)
lost_before news sending.Lost e = refl

deferred_before : (news : Readiness) (s : Sending) → then_sending news s ≡ sending.Deferred → s ≡ sending.Deferred
deferred_before news sending.Deferred e = refl
deferred_before news sending.Blocked e = by (news.is_writable || news.has_failed) e
  where
    by : (t : Bool) → (if t then sending.Ready else sending.Blocked) ≡ sending.Deferred → sending.Blocked ≡ sending.Deferred
    by true e = absurd (cc)
    by false e = absurd (cc)
deferred_before news sending.Ready e = absurd (cc)
deferred_before news sending.Shut e = absurd (cc)
deferred_before news sending.Lost e = absurd (cc)

shut_before : (news : Readiness) (s : Sending) → then_sending news s ≡ sending.Shut → s ≡ sending.Shut
shut_before news sending.Deferred e = absurd (cc)
shut_before news sending.Blocked e = by (news.is_writable || news.has_failed) e
  where
    by : (t : Bool) → (if t then sending.Ready else sending.Blocked) ≡ sending.Shut → sending.Blocked ≡ sending.Shut
    by true e = absurd (cc)
    by false e = absurd (cc)
shut_before news sending.Ready e = absurd (cc)
shut_before news sending.Shut e = refl
shut_before news sending.Lost e = absurd (cc)

pub hears_news : {S : Type 0} (tells : S → Wire → Type 0) → ((s : S) (wire : Wire) (r w : Bool) → tells s wire → tells s (heard r w wire)) → (news : Readiness) (a : Port S) (link : Link) → PortTells tells a link → PortHears tells news (noted news a) link
hears_news {S} tells hears news a link told = by a.stream told
  where
    by : (o : Option S) → PortTellsBy tells o a link → HearsBy tells o news.is_readable news.is_writable (noted news a) link
    by None untouched = record { received = untouched.received; sent = untouched.sent; ended = untouched.ended; incoming = untouched.incoming; outgoing = untouched.outgoing }
    by (Some s) (wire, says, joins) = (
      heard news.is_readable news.is_writable wire,
      hears s wire news.is_readable news.is_writable says,
      record {
        received = joins.received;
        sent = joins.sent;
        ended = λ e. ended_after news a.receiving (joins.ended e);
        over = λ e. joins.over (same_after news a.receiving receiving.Ended refl (λ i. absurd (cc)) e);
        unread = λ e. joins.unread (same_after news a.receiving receiving.Lost refl (λ i. absurd (cc)) e);
        unsent = λ e. joins.unsent (lost_before news a.sending e);
        failed_read = joins.failed_read;
        failed_write = joins.failed_write;
        idle = λ e. let before = idle_before news a.receiving e in or_both wire.readable news.is_readable (joins.idle before.0) before.1;
        blocked = λ e. let before = blocked_before news a.sending e in or_both wire.writable news.is_writable (joins.blocked before.0) before.1;
        begun = λ e. joins.begun (deferred_before news a.sending e);
        shut = λ e. joins.shut (shut_before news a.sending e);
      },
      (λ r. or_right wire.readable news.is_readable r),
      (λ w. or_right wire.writable news.is_writable w),
    )

-- what a port that heard tells, it tells
pub hears_told : {S : Type 0} (tells : S → Wire → Type 0) (news : Readiness) (a : Port S) (link : Link) → PortHears tells news a link → PortTells tells a link
hears_told {S} tells news a link told = by a.stream told
  where
    by : (o : Option S) → HearsBy tells o news.is_readable news.is_writable a link → PortTellsBy tells o a link
    by None untouched = untouched
    by (Some s) (wire, says, joins, r, w) = (wire, says, joins)

can_before : (news : Readiness) (r : Receiving) → begins_receiving news r ≡ false → may_have (after_news news r) ≡ true → may_have r ≡ true
can_before news receiving.Idle none can = by news.is_readable (news.is_closing || news.has_failed) none can
  where
    by : (t u : Bool) → (t || u) ≡ false → may_have (if u then receiving.Closing else (if t then receiving.Ready else receiving.Idle)) ≡ true → may_have receiving.Idle ≡ true
    by true u none can = absurd (cc)
    by false true none can = absurd (cc)
    by false false none can = can
can_before news receiving.Ready none can = refl
can_before news receiving.Closing none can = refl
can_before news receiving.Ended none can = can
can_before news receiving.Lost none can = can

ready_before : (news : Readiness) (s : Sending) → begins_sending news s ≡ false → then_sending news s ≡ sending.Ready → s ≡ sending.Ready
ready_before news sending.Deferred none is = is
ready_before news sending.Blocked none is = by (news.is_writable || news.has_failed) none is
  where
    by : (t : Bool) → t ≡ false → (if t then sending.Ready else sending.Blocked) ≡ sending.Ready → sending.Blocked ≡ sending.Ready
    by true none is = absurd (cc)
    by false none is = is
ready_before news sending.Ready none is = refl
ready_before news sending.Shut none is = is
ready_before news sending.Lost none is = is

-- a report that is no news changes nothing that can be done
pub calm_news : {S : Type 0} (news : Readiness) (a : Port S) → is_news news a ≡ false → IsCalm a (noted news a)
calm_news news a none =
    let rest = (or_none news.has_failed (begins_receiving news a.receiving || begins_sending news a.sending) none).1 in
    let both = or_none (begins_receiving news a.receiving) (begins_sending news a.sending) rest in record {
      reads = λ can. (can.0, can.1, can_before news a.receiving both.0 can.2);
      writes = λ can. (can.0, can.1, ready_before news a.sending both.1 can.2);
      sends = λ can. (can.0, can.1, ready_before news a.sending both.1 can.2);
    }
