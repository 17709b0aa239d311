use Rattle.std.proofs.Common.{◌≡◌, ◌≤◌, ◌-◌, [], drop, length}
use Rattle.std.specs.List.{fold}
use Rattle.idl_files.specs.Names.{ended_from, last_from, kept_with}
use Rattle.idl_files.proofs.segments.Segments.keep_ended.Given as goal

abbrev pub invariant-segments : goal.invariant-segments
invariant-segments l = record {
  within : l.from ≤ length l.name;
  kept : fold kept_with l.self (ended_from [] (drop l.from l.name)) ≡ fold kept_with l.fn.self (ended_from [] l.name);
  last : last_from [] (drop l.from l.name) ≡ last_from [] l.name;
}

abbrev pub decreases-segments : goal.decreases-segments
decreases-segments l = length l.name - l.from
