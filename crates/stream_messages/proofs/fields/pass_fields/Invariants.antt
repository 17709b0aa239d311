use Rattle.std.proofs.Common.{◌-◌, ◌≤◌, length}
use Rattle.stream_messages.specs.declared.scan.Wire.TheVariants as wires
use Rattle.stream_messages.specs.Fields.{Spans}
use Rattle.stream_messages.proofs.fields.pass_fields.Given as goal

abbrev pub invariant-fields : goal.invariant-fields
invariant-fields l = record {
  within : l.at ≤ length l.bytes;
  spans : Spans wires.Binary l.bytes l.fn.nest l.at l.nest;
}

abbrev pub decreases-fields : goal.decreases-fields
decreases-fields l = length l.bytes - l.at
