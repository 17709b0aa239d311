-- What is found in the bytes of a stream that are held.
use Rattle.std.specs.Prelude.{◌≡◌, ℕ, ◌<◌, ◌≤◌, List, [], length, take, drop}
use Rattle.stream_messages.specs.declared.scan.Wire.{Wire}
use Rattle.stream_messages.specs.declared.search.Search.{Search}
use Rattle.stream_messages.specs.declared.search.Front.{Front}
use Rattle.stream_messages.specs.declared.search.Front.TheVariants as front
use Rattle.stream_messages.specs.Fronts.{whole, bad}
use Rattle.stream_messages.specs.Feeding.{HasRead}
use Rattle.stream_messages.specs.Messages.{rest, over, IsFirst, IsTail}

-- the scan has read the first of these bytes, as many as were counted
pub record Searches (s : Search) (held : List ℕ) : Type 0 where
  pub wire_is : s.scan.wire ≡ s.wire
  pub limit_is : s.scan.limit ≡ s.limit
  pub within : s.scanned ≤ length held
  pub read : HasRead s.scan (take s.scanned held)

-- what the bytes begin with, and behind what the search goes on
abbrev pub BeginsWith : Wire → ℕ → List ℕ → Front → Search → Type 0
BeginsWith wire limit held front.Open new = IsTail wire limit held (rest held) × Searches new held
BeginsWith wire limit held (front.Message n) new = (0 < n) × (n ≤ length held) × IsFirst wire limit whole (take n held) × Searches new (drop n held)
BeginsWith wire limit held (front.Refused n) new = (0 < n) × (n ≤ length held) × IsFirst wire limit bad (take n held) × Searches new (drop n held)
BeginsWith wire limit held front.Over new = IsTail wire limit held over × Searches new []

pub record Finds (old : Search) (held : List ℕ) (found : Front) (new : Search) : Type 0 where
  pub begins : BeginsWith old.wire old.limit held found new
  pub wire_is : new.wire ≡ old.wire
  pub limit_is : new.limit ≡ old.limit
