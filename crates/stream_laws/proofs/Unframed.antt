-- What a server has carried whose sides have no frames, from its clause.
use Rattle.std.proofs.Common.{◌≡◌, ℕ, ◌<◌, ◌^◌, inl, inr, Option, sym, ◌∙◌, subst}
use Rattle.gate_base.specs.Bytes.{AreBytes}
use Rattle.gate_hub.specs.Meaning.{Meaning, link_of}
use Rattle.gate_hub.specs.Hubs.{Counts, NotStarted}
use Rattle.gate_hub.specs.declared.hub.Side.{Side}
use Rattle.gate_hub.specs.declared.hub.Side.TheVariants as side
use Rattle.stream_messages.specs.declared.lanes.Wrapping.{Wrapping}
use Rattle.stream_messages.specs.declared.slots.Slots.{Slots}
use Rattle.stream_messages.specs.Telling.{Tells, TellsOver}
use Rattle.unframed_laws.specs.Wrapped.{IsLimited, AreSidesTold}
use Rattle.proxy_server.specs.Serving.{KeepsFrom}
use Rattle.gate_words.specs.declared.serving.Serving.{Serving}
use Rattle.gate_start.specs.Streams.{Streams}
use Rattle.gate_serve.specs.Peers.{Unframed, unframed, unframed_tells, unframed_counts}
use Rattle.gate_serve.specs.Serving.{ServesAll, Began, NotBegun, Unfound, NoMemory, served_from}
use Rattle.run_laws.specs.Undisturbed.{IsUntouched}
use Rattle.gate_start.specs.declared.start.Start.{Start}
use Rattle.gate_start.specs.declared.status.Ending.{Ending}
use Rattle.run_laws.proofs.Wrapped.{tells_before}
use Rattle.stream_laws.specs.Sessions.{CarriesMessagesOver}
use Rattle.stream_laws.proofs.Sessions.{IsServer, fresh}

-- the law of what is told of a side that is wrapped
abbrev pub AreFramed : Type 0
AreFramed = (w : Wrapping) (slots : Option Slots) (below told : Meaning) → IsLimited w → Tells w slots below told → AreSidesTold w below told

-- where the wrapping hub still tells of no session, neither does the hub below
untouched_below : (w : Wrapping) (slots : Option Slots) (inner outer : Meaning) → Tells w slots inner outer → IsUntouched outer → IsUntouched inner
untouched_below w slots inner outer tells before = record {
  unstarted = (sym tells.started ∙ before.unstarted.0, sym tells.last_event ∙ before.unstarted.1);
  none = λ k a. before.none k ((tells.announced k a).wraps.announced ∙ a);
}

module _ {H : Type 0} (tells : H → Meaning → Type 0) (counts : H → Counts) (w : Wrapping) (some : 0 < w.limit) (small : w.limit < 2 ^ 31) (framed : AreFramed) (s : Serving) (start : Start)
    (h : H) (u : Unframed H) (wrapped : u.wrapping ≡ w) (bytes : (n : Meaning) → tells u.inner n → (k : ℕ) (x : Side) → AreBytes (link_of (n.session k) x).received) (a b : Streams) (ending : Ending) where
  outside_tells : (m : Meaning) → tells h m → IsUntouched m → unframed_tells tells (unframed w h) m
  outside_tells m told before = (m, told, tells_before w m before.unstarted before.none)

  told_so : (outer : Meaning) → unframed_tells tells u outer → TellsOver (tells u.inner) w u.slots outer
  told_so outer told = subst (λ v. TellsOver (tells u.inner) v u.slots outer) wrapped told

  stays : KeepsFrom (unframed_tells tells (unframed w h)) (unframed_tells tells u) NotStarted (λ m n. n ≡ m) → KeepsFrom (tells h) (tells u.inner) IsUntouched (λ m n. IsUntouched n)
  stays keeps m told before =
      let then = keeps m (outside_tells m told before) before.unstarted in
      let over = told_so then.0 then.1 in
      (over.0, over.1, untouched_below w u.slots over.0 then.0 over.2 (subst (λ n. IsUntouched n) (sym then.2) before))

  pub carried_over : ((mid : Unframed H) → IsServer s start (served_from (unframed_tells tells mid) (unframed_counts counts mid) a) (served_from (unframed_tells tells u) (unframed_counts counts u) b))
      → ServesAll (unframed_tells tells) (unframed_counts counts) s start (unframed w h) u a b ending → CarriesMessagesOver w (tells h) (tells u.inner) s start a b
  carried_over law (Began mid result left later leads serves ends) =
      let all = law mid result serves in
      inl (record {
        result = result;
        held = all.held;
        said = all.said;
        lines = all.lines;
        writes = all.writes;
        answers = all.answers;
        sessions = λ m told before.
            let begun = leads m (outside_tells m told before) before.unstarted in
            let then = all.sessions begun.0 begun.1 (fresh s m begun.0 before begun.2) in
            let over = told_so then.0 then.1 in (
              over.0,
              over.1,
              (
                then.0,
                λ k announced. record {
                  client = framed w u.slots over.0 then.0 (some, small) over.2 k side.Client (bytes over.0 over.1 k side.Client) announced;
                  upstream = framed w u.slots over.0 then.0 (some, small) over.2 k side.Upstream (bytes over.0 over.1 k side.Upstream) announced;
                  course = then.2 k ((over.2.announced k announced).wraps.announced ∙ announced);
                },
              ),
            );
      })
  carried_over law (NotBegun leads rose says) = inr (record { keeps = stays leads; written = says.written })
  carried_over law (Unfound at leads rose says) = inr (record { keeps = stays leads; written = says.written })
  carried_over law (NoMemory leads says) = inr (record { keeps = stays leads; written = says.written })
