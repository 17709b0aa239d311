-- A session with its two sides, over the one below.
use Rattle.std.specs.Prelude.{◌≡◌, ◌≢◌, ℕ}
use Rattle.gate_hub.specs.Meaning.{Link, Told, Meaning, IsOpen}
use Rattle.gate_hub.specs.Hubs.{AtSide}
use Rattle.gate_hub.specs.declared.hub.Side.{Side}
use Rattle.stream_messages.specs.declared.lanes.Lanes.{Lanes}
use Rattle.stream_messages.specs.declared.lanes.Wrapping.{Wrapping}
use Rattle.stream_messages.specs.Lanes.{WrapsSide}

-- the session that is told, over the one below
pub record WrapsSession (w : Wrapping) (lanes : Lanes) (inner outer : Told) : Type 0 where
  pub client : WrapsSide w.client w.limit lanes.client inner.client outer.client
  pub upstream : WrapsSide w.upstream w.limit lanes.upstream inner.upstream outer.upstream
  pub announced : outer.announced ≡ inner.announced
  pub closed : outer.closed ≡ inner.closed

-- of all that is told below, session k alone has changed
pub record SessionGoes (k : ℕ) (a b : Meaning) : Type 0 where
  pub others : (j : ℕ) → j ≢ k → b.session j ≡ a.session j
  pub started : b.started ≡ a.started
  pub last_event : b.last_event ≡ a.last_event
  pub events : b.events ≡ a.events

-- a call on a side of session k, whose sides stood and stand so
abbrev pub LanesGo : (Meaning → Type 0) → (Meaning → Type 0) → Lanes → Lanes → ℕ → Side → (Link → Link → Type 0) → Type 0
LanesGo old new lanes lanes' k side Step =
    (w : Wrapping) (a : Meaning) (t : Told) → old a → IsOpen k a → WrapsSession w lanes (a.session k) t
    → (b : Meaning) × new b × SessionGoes k a b × ((t' : Told) × AtSide side Step t t' × WrapsSession w lanes' (b.session k) t')
