use Rattle.std.proofs.Common.{◌≡◌, drop, map}
use Rattle.std.specs.List.{list_any}
use Rattle.httparse.specs.Spans.{header_bytes}
use Rattle.http_front.specs.Heads.{has_option, values}
use Rattle.http_front.proofs.fields.tells.Given as goal

abbrev pub invariant-fields : goal.invariant-fields
invariant-fields l = list_any (has_option l.option) (values l.name (map (header_bytes l.bytes) (drop l.field-index l.fields))) ≡ list_any (has_option l.option) (values l.name (map (header_bytes l.bytes) l.fields))
