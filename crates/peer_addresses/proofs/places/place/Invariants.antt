use Rattle.std.proofs.Common.{◌≡◌, ◌+◌, drop}
use Rattle.peer_addresses.specs.Places.{place}
use Rattle.peer_addresses.proofs.places.place.Given as goal

abbrev pub invariant-loop-i : goal.invariant-loop-i
invariant-loop-i l = l.i + place l.mark (drop l.i l.word) ≡ place l.mark l.word
