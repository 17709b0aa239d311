use Rattle.std.proofs.Common.{◌≡◌, drop}
use Rattle.http_front.specs.Looking.{looked}
use Rattle.http_front.proofs.look.look_on.Given as goal

abbrev pub invariant-bytes : goal.invariant-bytes
invariant-bytes l = looked l.look (drop l.byte-index l.bytes) ≡ looked l.initial.look l.bytes
