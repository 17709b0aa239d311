use Rattle.std.proofs.Common.{◌≡◌, ◌<◌, ◌^◌, length}
use Rattle.peer_addresses.specs.Places.{place}
use Rattle.peer_addresses.specs.Names.{last_label}
use Rattle.peer_addresses.proofs.name.last_label.Given as goal

-- what is left has the same last label
abbrev pub invariant-labels : goal.invariant-labels
invariant-labels l = record {
  same : last_label l.label ≡ last_label l.fn.word;
  found : l.at ≡ place 46 l.label;
  fits : length l.label < 2 ^ 64;
}

abbrev pub decreases-labels : goal.decreases-labels
decreases-labels l = length l.label
