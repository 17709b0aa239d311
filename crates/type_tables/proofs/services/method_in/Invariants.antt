use Rattle.std.proofs.Common.{◌≡◌, ◌-◌, length}
use Rattle.type_tables.specs.Services.{found_up, method_in}
use Rattle.type_tables.proofs.services.method_in.Given as goal

abbrev pub invariant-bases : goal.invariant-bases
invariant-bases l = found_up (length l.services - l.counter) l.services l.name l.asked ≡ method_in l.services l.fn.service l.name
