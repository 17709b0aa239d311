use Rattle.std.proofs.Common.{◌-◌, ◌≤◌, length, drop}
use Rattle.http_front.specs.Posts.{IsCut}
use Rattle.http_front.proofs.laws.a_stream_is_cut.Given as goal

abbrev pub invariant-posts : goal.invariant-posts
invariant-posts l = record {
  within : l.at ≤ length l.bytes;
  on : IsCut l.limit (drop l.at l.bytes) → IsCut l.limit l.bytes;
}

abbrev pub decreases-posts : goal.decreases-posts
decreases-posts l = length l.bytes - l.at
