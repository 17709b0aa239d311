-- The course of each session of a server.
use Rattle.std.proofs.Common.{◌≡◌, ℕ, ◌<◌, ◌^◌, ◌⊎◌, inl, inr, List, [], Some, None, refl, sym, subst}
use Rattle.gate_base.specs.Bytes.{AreBytes}
use Rattle.gate_hub.specs.Meaning.{Told, Meaning, link_of}
use Rattle.gate_hub.specs.declared.hub.Side.{Side}
use Rattle.gate_hub.specs.declared.hub.Side.TheVariants as side
use Rattle.gate_hub.specs.declared.hub.LinkPut.TheVariants as put
use Rattle.gate_hub.specs.declared.hub.Served.{Served}
use Rattle.session_core.specs.Fits.{Fits}
use Rattle.session_core.specs.Ends.{IsAtRest}
use Rattle.session_core.specs.Session.{Seen}
use Rattle.session_core.specs.declared.outcome.Outcome.{Outcome}
use Rattle.session_core.proofs.Greatest.{StandsAtFront}
use Rattle.session_judge.specs.Setting.{Setting}
use Rattle.session_judge.specs.Rules.{rules_of}
use Rattle.proxy_server.specs.Matching.{history_of}
use Rattle.session_core.specs.Notes.{Note}
use Rattle.proxy_server.specs.Saying.{Closing, closings, heard_in}
use Rattle.proxy_server.specs.Serving.{Entry, IsHeld, IsOutcome, NotOpened, LinkFailed, OfItself, IsAmong, IsOpenOne, IsEndedOne, Stands, no_more}
use Rattle.proxy_server.specs.Steps.{Outside, Serves, IsLeft, LinesEnd, MayBeUnsettled}
use Rattle.proxy_server.specs.Turning.{IsSettled}
use Rattle.session_laws.specs.Serving.{sessions_of, IsWritable, Course, HasCourse, CarriesAll}
use Rattle.session_laws.specs.Serving as course
use Rattle.session_laws.proofs.Existing.{IsSplit}
use Rattle.session_laws.proofs.Carrying.{Both, both, carried}
use Rattle.session_laws.proofs.Standing.{completed}
use Rattle.session_laws.proofs.Over.{ended}

-- what was received of each session consists of bytes
abbrev pub ReceivesBytes : Meaning → Type 0
ReceivesBytes m = (k : ℕ) (x : Side) → AreBytes (link_of (m.session k) x).received

by_either : (due : List ℕ) (t : Told) (x : Side) → IsWritable t → (due ≡ []) ⊎ ((link_of t x).last_write ≡ Some put.NotReady) → due ≡ []
by_either due t x writable (inl e) = e
by_either due t x writable (inr e) = absurd (writable x e)

module _ (s : Setting) (limit max_calls sessions events : ℕ) (law : StandsAtFront) (split : IsSplit) (small : limit < 2 ^ 31) (some : 0 < max_calls) where
  all : (m : Meaning) (k : ℕ) → ReceivesBytes m → Both s limit law small (history_of (m.session k))
  all m k bytes = both s limit law small split (history_of (m.session k)) (bytes k side.Client) (bytes k side.Upstream)

  -- ---- a session that is open

  session_fits : (session : Seen Setting) (notes : List Note) (t : Told) → IsHeld Setting rules_of (sessions_of s limit max_calls sessions events) session notes t → Fits (rules_of s) limit max_calls (history_of t) session.standing
  session_fits session notes t is =
      subst (λ n. Fits (rules_of s) limit n (history_of t) session.standing) is.calls
      (subst (λ n. Fits (rules_of s) n session.max_calls (history_of t) session.standing) is.limited
      (subst (λ rules. Fits rules session.limit session.max_calls (history_of t) session.standing) is.judged is.matches.fits.fits))

  session_rests : (session : Seen Setting) (notes : List Note) (t : Told) → IsHeld Setting rules_of (sessions_of s limit max_calls sessions events) session notes t → session.outcome ≡ None → IsAtRest (rules_of s) limit max_calls session.standing None
  session_rests session notes t is going =
      subst (λ o. IsAtRest (rules_of s) limit max_calls session.standing o) going
      (subst (λ n. IsAtRest (rules_of s) limit n session.standing session.outcome) is.calls
      (subst (λ n. IsAtRest (rules_of s) n session.max_calls session.standing session.outcome) is.limited
      (subst (λ rules. IsAtRest rules session.limit session.max_calls session.standing session.outcome) is.judged is.matches.rest)))

  left_open : (result : Served) (lines : LinesEnd) (m : Meaning) (k : ℕ) (session : Seen Setting) (notes : List Note) → ReceivesBytes m → IsHeld Setting rules_of (sessions_of s limit max_calls sessions events) session notes (m.session k)
      → ((MayBeUnsettled result lines → ⊥) → IsSettled Setting rules_of session (m.session k)) → Course s limit max_calls result lines (m.session k) None
  left_open result lines m k session notes bytes is settled =
      let t = m.session k in
      let fits = session_fits session notes t is in
      course.LeftOpen (carried s limit law small max_calls (history_of t) session.standing (all m k bytes) fits)
      (λ whole writable.
      let rests = settled whole in
      completed s limit max_calls law small (history_of t) (all m k bytes) session.standing some fits (session_rests session notes t is rests.going)
      (by_either session.standing.to_client t side.Client writable (rests.writes side.Client)) (by_either session.standing.to_upstream t side.Upstream writable (rests.writes side.Upstream)))

  -- ---- a session that has ended

  by_outcome : (result : Served) (lines : LinesEnd) (m : Meaning) (k : ℕ) (o : Outcome) (notes : List Note) → ReceivesBytes m → IsOutcome (sessions_of s limit max_calls sessions events) o notes (m.session k) → Course s limit max_calls result lines (m.session k) (Some o)
  by_outcome result lines m k o notes bytes (NotOpened why unheard none unfailed) = course.NotOpened o why none
  by_outcome result lines m k o notes bytes (LinkFailed x st e failed others fits) =
      subst (λ p. Course s limit max_calls result lines (m.session k) (Some p)) (sym e)
      (course.Broken x failed (carried s limit law small max_calls (history_of (m.session k)) st (all m k bytes) fits.fits))
  by_outcome result lines m k o notes bytes (OfItself st is unfailed fits) =
      course.CameToAnEnd o (carried s limit law small max_calls (history_of (m.session k)) st (all m k bytes) fits.fits)
      (ended s limit max_calls law small (history_of (m.session k)) (all m k bytes) (bytes k side.Client) (bytes k side.Upstream) st fits.fits o some is)

  -- ---- all of them

  by_place : (result : Served) (lines : LinesEnd) (held : List (Entry Setting)) (past : List Closing) (heard : ℕ → List Note) (busy gone : ℕ) (m : Meaning) (k : ℕ) → ReceivesBytes m
      → Stands Setting rules_of (sessions_of s limit max_calls sessions events) no_more held past heard busy gone m → IsLeft Setting rules_of (sessions_of s limit max_calls sessions events) result lines held m
      → IsAmong Setting k held past → HasCourse s limit max_calls result lines held past m k
  by_place result lines held past heard busy gone m k bytes stands left (IsOpenOne i e at is) =
      (None, (i, e, at, is), subst (λ n. Course s limit max_calls result lines (m.session n) None) is (left_open result lines m e.number e.session (heard e.number) bytes (stands.each i e at) (λ whole. left.settled whole i e at)))
  by_place result lines held past heard busy gone m k bytes stands left (IsEndedOne i c at is) =
      (Some c.1, (i, c, at, is, refl), subst (λ n. Course s limit max_calls result lines (m.session n) (Some c.1)) is (by_outcome result lines m c.0 c.1 (heard c.0) bytes (stands.ended i c at).why))

  is_covered : (result : Served) (lines : LinesEnd) (held : List (Entry Setting)) (past : List Closing) (heard : ℕ → List Note) (busy gone : ℕ) (m : Meaning) (k : ℕ) → ReceivesBytes m
      → Stands Setting rules_of (sessions_of s limit max_calls sessions events) no_more held past heard busy gone m → IsLeft Setting rules_of (sessions_of s limit max_calls sessions events) result lines held m
      → no_more k ⊎ IsAmong Setting k held past → HasCourse s limit max_calls result lines held past m k
  is_covered result lines held past heard busy gone m k bytes stands left (inl none) = absurd none
  is_covered result lines held past heard busy gone m k bytes stands left (inr among) = by_place result lines held past heard busy gone m k bytes stands left among

  pub carries_all : (text : ℕ → Note → List ℕ) (a b : Outside) (result : Served) → ((n : Meaning) → b.told n → ReceivesBytes n)
      → Serves Setting rules_of (sessions_of s limit max_calls sessions events) text a b result → CarriesAll s limit max_calls text a b result
  carries_all text a b result bytes x = record {
    held = x.held;
    said = x.said;
    lines = x.lines;
    writes = x.writes;
    answers = x.answers;
    sessions = λ m is fresh.
        let n = x.keeps m is fresh in
        (n.0, n.1, (λ k announced. is_covered result x.lines x.held (closings x.said) (heard_in x.said) x.busy _ n.0 k (bytes n.0 n.1) n.2.stands n.2.left (n.2.stands.covers k announced)));
  }
