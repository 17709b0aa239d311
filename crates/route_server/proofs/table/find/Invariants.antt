use Rattle.std.proofs.Common.{◌≡◌, ℕ, ◌-◌, ◌<◌, ◌≤◌, length, Some}
use Rattle.std.specs.List.{slice_get}
use Rattle.route_server.specs.Serving.{Entry, IsRising}
use Rattle.route_server.proofs.table.find.Given as goal

-- a number that is looked for stands neither below nor above
abbrev pub invariant-loop-low : goal.invariant-loop-low
invariant-loop-low l = record {
  order : l.low ≤ l.high;
  within : l.high ≤ length l.held;
  below : IsRising l.held → (i : ℕ) (e : Entry) → i < l.low → slice_get l.held i ≡ Some e → e.number < l.number;
  above : IsRising l.held → (i : ℕ) (e : Entry) → l.high ≤ i → slice_get l.held i ≡ Some e → l.number < e.number;
}

abbrev pub decreases-loop-low : goal.decreases-loop-low
decreases-loop-low l = l.high - l.low
