-- How much of its budget a server has spent.
use Rattle.std.specs.Prelude.{◌≡◌, ℕ, zero, suc, ◌+◌, ◌*◌, ◌-◌, ◌^◌, ◌≤◌, min, if◌then◌else◌}
use Rattle.gate_fan.specs.Meaning.{Told, Meaning}
use Rattle.route_server.specs.Turning.{amount, long_turn}

-- how much was received and sent over a session that was announced, with its ends
abbrev pub moved_of : ℕ → Told → ℕ
moved_of targets t = if t.announced then amount targets t else 0

-- the same over all sessions below a number
abbrev pub moved_below : ℕ → ℕ → Meaning → ℕ
moved_below targets zero m = 0
moved_below targets (suc k) m = moved_below targets k m + moved_of targets (m.session k)

-- the count has risen by so much, or stands at its greatest
abbrev pub RoseBy : ℕ → ℕ → ℕ → Type 0
RoseBy more before now = (min (before + more) (2 ^ 64 - 1) ≤ now) × (now ≤ before + more)

-- since the meaning `begun` so much was spent: one for each answer that named a session, opened or ready, and one for each
-- long turn, over which bytes and ends moved that are 16 or more together
pub record HasSpent (begun : Meaning) (targets spent : ℕ) (m : Meaning) : Type 0 where
  pub named : ℕ
  pub long : ℕ
  pub bound : ℕ
  pub sum : named + long ≡ spent
  pub events : RoseBy named begun.events m.events
  pub moved : long_turn * long ≤ moved_below targets bound m
