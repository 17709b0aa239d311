-- What a server has carried whose clients send POSTs, from its clause.
use Rattle.std.proofs.Common.{◌≡◌, ℕ, ◌<◌, ◌^◌, List, Option, None, Some, Bool, false, true≢false, inl, inr, refl, sym, ◌∙◌, subst}
use Rattle.gate_hub.specs.Meaning.{Link, Meaning}
use Rattle.gate_hub.specs.Hubs.{Counts}
use Rattle.http_front.specs.Fronts.{Reading}
use Rattle.http_front.specs.Moving.{carried}
use Rattle.http_front.specs.Posts.{Post}
use Rattle.http_front.specs.Slots.{Open}
use Rattle.http_front.specs.Telling.{Tells, TellsOver}
use Rattle.http_front.specs.Telling as http
use Rattle.http_front.specs.Laws as posts
use Rattle.http_laws.specs.Served.{IsServed, AreClientsServed}
use Rattle.stream_messages.specs.declared.lanes.Wrapping.{Wrapping}
use Rattle.stream_messages.specs.declared.scan.Wire.{Wire}
use Rattle.stream_messages.specs.Lanes.{PassesOn}
use Rattle.stream_messages.specs.Laws as lanes
use Rattle.stream_messages.specs.Messages.{Framed, Strips}
use Rattle.unframed_laws.specs.Wrapped.{SideIs}
use Rattle.session_laws.proofs.Serving.{ReceivesBytes}
use Rattle.gate_words.specs.Peers.{has_client}
use Rattle.gate_words.specs.Serving.{has_client_and_http}
use Rattle.gate_words.specs.declared.peers.Front.{Front}
use Rattle.gate_words.specs.declared.peers.Front.TheVariants.{Http}
use Rattle.gate_words.specs.declared.peers.Sides.{Sides}
use Rattle.gate_words.specs.declared.peers.Sides.TheVariants as sides
use Rattle.gate_words.specs.declared.serving.Serving.{Serving}
use Rattle.gate_start.specs.Streams.{Streams}
use Rattle.gate_serve.specs.Peers.{wrapping_by, unframed_tells, unframed_counts, ServesBySides}
use Rattle.gate_serve.specs.Posts.{Posting, posting, posting_tells, posting_counts, reading_by}
use Rattle.gate_serve.specs.Serving.{served_from}
use Rattle.run_laws.specs.Undisturbed.{IsUntouched}
use Rattle.gate_start.specs.declared.start.Start.{Start}
use Rattle.gate_start.specs.declared.status.Ending.{Ending}
use Rattle.run_laws.proofs.Posting.{tells_before}
use Rattle.stream_laws.specs.Posts.{upstream_wire, CarriesPosts}
use Rattle.stream_laws.specs.Sessions.{CarriesMessages, CarriesMessagesOver}
use Rattle.stream_laws.proofs.Sessions as sessions
use Rattle.stream_laws.proofs.Sessions.{IsLaw}
use Rattle.stream_laws.proofs.Unframed.{AreFramed, carried_over}

-- the law of what is told of clients that send POSTs
abbrev pub ClientsAreServed : Type 0
ClientsAreServed = (r : Reading) (slots : Option Open) (stopped : Bool) (inner outer : Meaning) → Tells r slots stopped inner outer → AreClientsServed r inner outer

-- ---- sides that are passed through

-- clients with frames, and upstreams whose messages this grammar ends, if one does
abbrev pub upstream_only : Option Wire → Serving → Wrapping
upstream_only wire s = record { client = None; upstream = wire; limit = s.limit }

-- a server over frames is one over sides that are passed through
pub as_passed : (told told' : Meaning → Type 0) (s : Serving) (start : Start) (a b : Streams) → CarriesMessages told told' s start a b → CarriesMessagesOver (upstream_only None s) told told' s start a b
as_passed told told' s start a b (inl c) =
    inl (record {
      result = c.result;
      held = c.held;
      said = c.said;
      lines = c.lines;
      writes = c.writes;
      answers = c.answers;
      sessions = λ m is before.
          let then = c.sessions m is before in
          let same : (x : Link) → PassesOn x x = λ x. record { received = refl; sent = refl; ended = refl } in (
            then.0,
            then.1,
            (then.0, λ k announced. record { client = same (then.0.session k).client; upstream = same (then.0.session k).upstream; course = then.2 k announced }),
          );
    })
as_passed told told' s start a b (inr n) =
    inr (record { keeps = λ m is before. (let then = n.keeps m is before.unstarted in (then.0, then.1, subst (λ x. IsUntouched x) (sym then.2) before)); written = n.written })

-- clients that send POSTs have no messages without frames
upstream_alone : (x : Sides) (s : Serving) → has_client x ≡ false → wrapping_by x s ≡ upstream_only (upstream_wire (Some x) s) s
upstream_alone sides.Client s e = absurd (true≢false e)
upstream_alone sides.Upstream s e = refl
upstream_alone sides.Both s e = absurd (true≢false e)

no_client : (x : Sides) (f : Front) → f ≡ Http → has_client_and_http (Some x) f ≡ false → has_client x ≡ false
no_client sides.Client f is e = absurd (true≢false (subst (λ (g : Front). has_client_and_http (Some sides.Client) g ≡ false) is e))
no_client sides.Upstream f is e = refl
no_client sides.Both f is e = absurd (true≢false (subst (λ (g : Front). has_client_and_http (Some sides.Both) g ≡ false) is e))

-- ---- over the hub below

-- a side over one that is passed through
side_below : (wire : Option Wire) (limit : ℕ) (inner mid outer : Link) → http.PassesOn inner mid → SideIs wire limit mid outer → SideIs wire limit inner outer
side_below None limit inner mid outer p s = record { received = s.received ∙ p.received; sent = s.sent ∙ p.sent; ended = s.ended ∙ p.ended }
side_below (Some wire) limit inner mid outer p s =
    record {
      front = (s.front.0, s.front.1, below s.front.0 s.front.2, s.front.3);
      not_ready = λ e. below outer.received (s.not_ready e);
      at_end = λ e. below outer.received (s.at_end e);
      stripped = subst (λ bytes. Strips outer.sent bytes) p.sent s.stripped;
    }
  where
    below : (frames : List ℕ) → Framed wire limit mid.received mid.ended frames → Framed wire limit inner.received inner.ended frames
    below frames h = subst (λ ended. Framed wire limit inner.received ended frames) p.ended (subst (λ bytes. Framed wire limit bytes mid.ended frames) p.received h)

-- a client that is passed through is served as it is
served_below : (r : Reading) (link : Link) (mid outer : Link) (all : List Post) → PassesOn mid outer → IsServed r (carried link mid.received mid.sent) all → IsServed r (carried link outer.received outer.sent) all
served_below r link mid outer all p h =
    subst (λ bytes. IsServed r (carried link outer.received bytes) all) (sym p.sent) (subst (λ bytes. IsServed r (carried link bytes mid.sent) all) (sym p.received) h)

-- where the hub that reads POSTs still tells of no session, neither does the hub below
untouched_below : (r : Reading) (slots : Option Open) (stopped : Bool) (inner outer : Meaning) → Tells r slots stopped inner outer → IsUntouched outer → IsUntouched inner
untouched_below r slots stopped inner outer tells before = record {
  unstarted = (sym tells.started ∙ before.unstarted.0, tells.asked before.unstarted.1);
  none = λ k a. before.none k ((tells.announced k a).announced ∙ a);
}

module _ {H : Type 0} (tells : H → Meaning → Type 0) (counts : H → Counts) (clients : ClientsAreServed) (s : Serving) (start : Start) (h : H) (p : Posting H) (is : p.rules ≡ reading_by s start) (a b : Streams) (ending : Ending) where
  abbrev r : Reading
  r = reading_by s start

  abbrev told : Meaning → Type 0
  told = posting_tells tells (posting r h)

  told_so : (outer : Meaning) → posting_tells tells p outer → TellsOver (tells p.inner) r p.slots p.stopped outer
  told_so outer known = subst (λ x. TellsOver (tells p.inner) x p.slots p.stopped outer) is known

  through : CarriesMessagesOver (upstream_only (upstream_wire s.unframed s) s) told (posting_tells tells p) s start a b → CarriesPosts (tells h) (tells p.inner) s start a b
  through (inl c) =
      inl (record {
        result = c.result;
        held = c.held;
        said = c.said;
        lines = c.lines;
        writes = c.writes;
        answers = c.answers;
        sessions = λ m known before.
            let then = c.sessions m (m, known, tells_before r m before) before in
            let over = told_so then.0 then.1 in (
              over.0,
              over.1,
              (
                then.2.0,
                λ k announced.
                    let told_of = over.2.announced k announced in
                    let carries = then.2.1 k (told_of.announced ∙ announced) in
                    record {
                      client = λ all tail cut. served_below r (over.0.session k).client (then.0.session k).client (then.2.0.session k).client all carries.client (clients r p.slots p.stopped over.0 then.0 over.2 k announced all tail cut);
                      upstream = side_below (upstream_wire s.unframed s) s.limit (over.0.session k).upstream (then.0.session k).upstream (then.2.0.session k).upstream told_of.upstream carries.upstream;
                      course = carries.course;
                    },
              ),
            );
      })
  through (inr n) =
      inr (record {
        keeps = λ m known before. (
            let then = n.keeps m (m, known, tells_before r m before) before in
            let over = told_so then.0 then.1 in
            (over.0, over.1, untouched_below r p.slots p.stopped over.0 then.0 over.2 then.2));
        written = n.written;
      })

  -- what is told there was received consists of bytes
  module _ (some : 0 < s.limit) (small : s.limit < 2 ^ 31) (framed : AreFramed) (law : IsLaw s start) (bytes : (n : Meaning) → tells p.inner n → ReceivesBytes n) where
    of_posts : (n : Meaning) → posting_tells tells p n → ReceivesBytes n
    of_posts n known = posts.bytes_over (tells p.inner) p.rules p.slots p.stopped bytes n known

    by_own_sides : (found : Option Sides) → s.front ≡ Http → has_client_and_http found s.front ≡ false → ServesBySides found (posting_tells tells) (posting_counts counts) s start (posting r h) p a b ending
        → CarriesMessagesOver (upstream_only (upstream_wire found s) s) told (posting_tells tells p) s start a b
    by_own_sides None is_http once serves =
        as_passed told (posting_tells tells p) s start a b
        (sessions.carried (posting_tells tells) (posting_counts counts) s start (posting r h) p a b ending (λ mid. law _ (served_from (posting_tells tells p) (posting_counts counts p) b) of_posts) serves)
    by_own_sides (Some x) is_http once serves =
        let u = serves.0 in
        let w = wrapping_by x s in
        let below : (n : Meaning) → posting_tells tells u.inner n → ReceivesBytes n = subst (λ q. (n : Meaning) → posting_tells tells q n → ReceivesBytes n) (sym serves.1) of_posts in
        let over = carried_over (posting_tells tells) (posting_counts counts) w some small framed s start (posting r h) u serves.2 below a b ending
        (λ mid. law _ (served_from (unframed_tells (posting_tells tells) u) (unframed_counts (posting_counts counts) u) b) (λ n known. lanes.bytes_over (posting_tells tells u.inner) u.wrapping u.slots below n known))
        serves.3 in
        subst (λ v. CarriesMessagesOver v told (posting_tells tells p) s start a b) (upstream_alone x s (no_client x s.front is_http once))
        (subst (λ q. CarriesMessagesOver w told (posting_tells tells q) s start a b) serves.1 over)

    pub carried_posts : s.front ≡ Http → has_client_and_http s.unframed s.front ≡ false → ServesBySides s.unframed (posting_tells tells) (posting_counts counts) s start (posting r h) p a b ending
        → CarriesPosts (tells h) (tells p.inner) s start a b
    carried_posts is_http once serves = through (by_own_sides s.unframed is_http once serves)
