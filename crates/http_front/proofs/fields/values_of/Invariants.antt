use Rattle.std.proofs.Common.{drop, map}
use Rattle.httparse.specs.Spans.{header_bytes}
use Rattle.http_front.specs.Heads.{values}
use Rattle.http_front.proofs.Naming.{AndFound}
use Rattle.http_front.proofs.fields.values_of.Given as goal

abbrev pub invariant-fields : goal.invariant-fields
invariant-fields l = AndFound l.found (values l.name (map (header_bytes l.bytes) (drop l.field-index l.fields))) (values l.name (map (header_bytes l.bytes) l.fields))
