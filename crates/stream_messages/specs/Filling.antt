-- Reads of a hub whose bytes are appended to those that came before.
use Rattle.std.specs.Prelude.{◌≡◌, ℕ, ◌<◌, ◌≤◌, List, ◌++◌, length, take}
use Rattle.gate_io.specs.Buffer.{Buffer}
use Rattle.gate_hub.specs.Meaning.{Meaning, IsOpen}
use Rattle.gate_hub.specs.Hubs.{Leads, ReadLeads}
use Rattle.gate_hub.specs.declared.hub.Side.{Side}
use Rattle.gate_hub.specs.declared.hub.LinkGot.{LinkGot}
use Rattle.gate_hub.specs.declared.hub.LinkGot.TheVariants as got
use Rattle.stream_messages.specs.Framing.{FramerState}

-- a read of a side of session k into some slice, and what was done with that
abbrev pub ReadsInto : (Meaning → Type 0) → (Meaning → Type 0) → ℕ → Side → LinkGot → (List ℕ → Type 0) → Type 0
ReadsInto old new k side answer Done = (into : List ℕ) × Done into × Leads old new (IsOpen k) (ReadLeads k side (length into) into answer)

-- how many bytes came
abbrev pub count_of : LinkGot → ℕ
count_of (got.Bytes n) = n
count_of got.NotReady = 0
count_of got.End = 0
count_of got.Failed = 0

-- the bytes that came stand behind the others
abbrev pub Appends : Buffer → Buffer → LinkGot → List ℕ → Type 0
Appends a b (got.Bytes n) into = (0 < n) × (n ≤ length into) × (b ≡ record a { bytes = a.bytes ++ take n into })
Appends a b got.NotReady into = b ≡ a
Appends a b got.End into = b ≡ a
Appends a b got.Failed into = b ≡ a

abbrev pub TakesIn : FramerState → FramerState → LinkGot → List ℕ → Type 0
TakesIn a b (got.Bytes n) into = (0 < n) × (n ≤ length into) × (b ≡ record a { fresh = a.fresh ++ take n into })
TakesIn a b got.NotReady into = b ≡ a
TakesIn a b got.End into = b ≡ a
TakesIn a b got.Failed into = b ≡ a
