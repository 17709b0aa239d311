-- The closed sessions of a table once one of them has changed, has come or was let go.
use Rattle.std.proofs.Common.{◌≡◌, ◌≢◌, ℕ, ◌⊎◌, inl, inr, List, false, true, true≢false, refl, Option, None, Some, sym, ap, ◌∙◌, subst}
use Rattle.std.specs.List.{slice_get}
use Rattle.slab.specs.Slab.{Slab, get, with_value}
use Rattle.mio_edge.specs.Wire.{Wire}
use Rattle.mio_edge.specs.Moving.{then_sending, is_news, noted}
use Rattle.mio_edge.specs.Sessions.{EachPort, AtEach, PortsAre, Flushes, IsUnsentAt}
use Rattle.mio_edge.specs.Closing.{AreFlushed, HoldsFlushed, OthersStay, PutsAt, TellsItsEnd}
use Rattle.mio_edge.specs.Connecting.{EachPortAt}
use Rattle.mio_edge.specs.Stepping.{HasStepped, IsStepped, AreStepped, OthersStepped, OthersSteppedIfAny, HoldsOpen}
use Rattle.mio_edge.specs.declared.network.Readiness.{Readiness}
use Rattle.mio_edge.specs.declared.port.Port.{Port}
use Rattle.mio_edge.specs.declared.session.Session.{Session}
use Rattle.mio_edge.proofs.Sessions.{decide}
use Rattle.mio_edge.proofs.Entries.{some_same}
use Rattle.mio_edge.proofs.Turns.{put}
use Rattle.mio_edge.proofs.Ports.{calm_news}
use Rattle.mio_edge.proofs.Places.{no_none}

-- ---- the ports of a session

-- what holds of each port holds of each that has moved so
pub each_moved : {S : Type 0} (P : Port S → Type 0) (R : Port S → Port S → Type 0) → ((x y : Port S) → R x y → P x → P y) → (a b : List (Port S)) → PortsAre R a b → EachPort P a → EachPort P b
each_moved {S} P R moves a b each holds p y is = by (slice_get a p) (slice_get b p) (each p) (holds p) is
  where
    by : (o o' : Option (Port S)) → AtEach R o o' → ((x : Port S) → o ≡ Some x → P x) → o' ≡ Some y → P y
    by None None e before now = absurd (no_port now)
      where
        no_port : None ≡ Some y → ⊥
        no_port e = absurd (cc)
    by None (Some z) e before now = absurd e
    by (Some x) None e before now = absurd e
    by (Some x) (Some z) e before now = subst (λ (q : Port S). P q) (un_some now) (moves x z e (before x refl))
      where
        un_some : Some z ≡ Some y → z ≡ y
        un_some e = cc

-- nothing is to be sent, so nothing was
pub sent_stepped : {S : Type 0} (tells : S → Wire → Type 0) (a b : List (Port S)) → PortsAre (Flushes tells) a b → EachPort HasStepped a → EachPort HasStepped b
sent_stepped {S} tells a b each = each_moved (λ port. HasStepped port) (Flushes tells) (λ x y flushes stepped. subst (λ (q : Port S). HasStepped q) (sym (flushes.still stepped.flushed)) stepped) a b each

-- a report that is no news calls for no step
pub noted_stepped : {S : Type 0} (news : Readiness) (a : Port S) → is_news news a ≡ false → HasStepped a → HasStepped (noted news a)
noted_stepped {S} news a none stepped = record { flushed = λ unsent. stepped.flushed ((calm_news news a none).sends unsent); told = by stepped.told }
  where
    by : TellsItsEnd a → TellsItsEnd (noted news a)
    by (inl held) = inl held
    by (inr (inl shut)) = inr (inl (ap (then_sending news) shut))
    by (inr (inr (inl none))) = inr (inr (inl none))
    by (inr (inr (inr lost))) = inr (inr (inr (ap (then_sending news) lost)))

pub ends_stepped : {S : Type 0} (ports : List (Port S)) → AreFlushed ports → EachPort (λ port. TellsItsEnd port) ports → EachPort HasStepped ports
ends_stepped {S} ports flushed told p port is = record { flushed = λ unsent. flushed p (subst (λ (o : Option (Port S)). IsUnsentAt o) (sym is) unsent); told = told p port is }

-- ---- the sessions of a table

module _ {S : Type 0} where
  -- one has changed, and is in line or has gone on if it was
  pub stepped_put : (slab : Slab (Session S)) (place : ℕ) (a b : Session S) → get slab place ≡ Some a → (IsStepped a → IsStepped b) → AreStepped slab → AreStepped (with_value slab place b)
  stepped_put slab place a b was keeps stepped q s is = by (decide q place)
    where
      by : (q ≡ place) ⊎ (q ≢ place) → IsStepped s
      by (inl e) = subst (λ (x : Session S). IsStepped x) (some_same (get (with_value slab place b) q) b s (ap (get (with_value slab place b)) e ∙ (put slab place a b was).changed) is) (keeps (stepped place a was))
      by (inr off) = stepped q s (sym ((put slab place a b was).others q off) ∙ is)

  pub others_stepped : (slab : Slab (Session S)) (place : ℕ) (a b : Session S) → get slab place ≡ Some a → AreStepped slab → OthersStepped place (with_value slab place b)
  others_stepped slab place a b was stepped q s off is = stepped q s (sym ((put slab place a b was).others q off) ∙ is)

  -- one that is open has no end to go on with
  pub open_stepped : (a : Session S) → a.is_open ≡ true → IsStepped a
  open_stepped a is_open shut = absurd (true≢false (sym is_open ∙ shut))

  -- what the session at one place is calls for no step
  all_stepped : (place : ℕ) (sessions : Slab (Session S)) → OthersStepped place sessions → ((s : Session S) → get sessions place ≡ Some s → IsStepped s) → AreStepped sessions
  all_stepped place sessions others here q s is = by (decide q place)
    where
      by : (q ≡ place) ⊎ (q ≢ place) → IsStepped s
      by (inl e) = here s (ap (get sessions) (sym e) ∙ is)
      by (inr off) = others q s off is

  pub stepped_further : (place : ℕ) (a b : Slab (Session S)) → OthersStepped place a → OthersStay place a b → OthersStepped place b
  stepped_further place a b others stays q s off is = others q s off (sym (stays.at q off) ∙ is)

  pub any_stepped : (place : ℕ) (a : Slab (Session S)) → AreStepped a → OthersStepped place a
  any_stepped place a stepped q s off is = stepped q s is

  -- it was let go
  pub free_stepped : (place : ℕ) (a b : Slab (Session S)) → OthersStepped place a → OthersStay place a b → get b place ≡ None → AreStepped b
  free_stepped place a b others stays free = all_stepped place b (stepped_further place a b others stays) (λ s is. absurd (no_none (get b place) s is free))

  -- it is open
  pub opened_stepped : (place : ℕ) (a b : Slab (Session S)) → OthersStepped place a → OthersStay place a b → HoldsOpen b place → AreStepped b
  opened_stepped place a b others stays is_open = all_stepped place b (stepped_further place a b others stays) (λ s is. open_stepped s (is_open s is))

  -- it has gone on
  pub wound_stepped : (place : ℕ) (a b : Slab (Session S)) → OthersStepped place a → OthersStay place a b → HoldsFlushed b place → EachPortAt (λ port. TellsItsEnd port) b place → AreStepped b
  wound_stepped place a b others stays flushed told = all_stepped place b (stepped_further place a b others stays) (λ s is shut. inr (ends_stepped s.ports.items (flushed s is) (told s is)))

  -- one was put somewhere, if it was put anywhere
  pub puts_stepped : (place : Option ℕ) (a b : Slab (Session S)) → AreStepped a → PutsAt place a b → OthersSteppedIfAny place b
  puts_stepped None a b stepped puts = λ q s is. stepped q s (sym (puts q) ∙ is)
  puts_stepped (Some place) a b stepped puts = λ q s off is. stepped q s (sym (puts.1.at q off) ∙ is)

  -- it stands in the same queues
  pub still_stepped : (a b : Session S) → b.is_open ≡ a.is_open → b.is_queued ≡ a.is_queued → (EachPort HasStepped a.ports.items → EachPort HasStepped b.ports.items) → IsStepped a → IsStepped b
  still_stepped a b is_open is_queued ports stepped shut = by (stepped (sym is_open ∙ shut))
    where
      by : (a.is_queued ≡ true) ⊎ EachPort HasStepped a.ports.items → (b.is_queued ≡ true) ⊎ EachPort HasStepped b.ports.items
      by (inl queued) = inl (is_queued ∙ queued)
      by (inr each) = inr (ports each)
