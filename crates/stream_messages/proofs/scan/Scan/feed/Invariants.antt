use Rattle.std.proofs.Common.{◌≡◌, ◌-◌, ℕ, List, ◌++◌, length, take}
use Rattle.stream_messages.specs.Feeding.{HasRead}
use Rattle.stream_messages.proofs.scan.Scan.feed.Given as goal

abbrev pub invariant-loop-at : goal.invariant-loop-at
invariant-loop-at l = (front : List ℕ) → HasRead l.fn.self front → HasRead l.self (front ++ take l.at l.piece) × (l.self.wire ≡ l.fn.self.wire) × (l.self.limit ≡ l.fn.self.limit)

abbrev pub decreases-loop-at : goal.decreases-loop-at
decreases-loop-at l = length l.piece - l.at
