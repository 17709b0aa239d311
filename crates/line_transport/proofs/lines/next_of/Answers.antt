use Rattle.std.proofs.Common.{◌+◌, drop, arith, sym, ◌∙◌}
use Rattle.line_transport.proofs.Cutting.{too_long, no_line, whole_line}
use Rattle.line_transport.proofs.lines.next_of.Goals as goal

pub returns-then-length-limit : goal.returns-then-length-limit
returns-then-length-limit c = record { exact = too_long c.args.limit c.args.held.now (omega (arith, c.if-length-limit.true, c.length_from-length.ensures.value)) }

pub returns-then-length-held : goal.returns-then-length-held
returns-then-length-held c = record {
  exact = no_line c.args.limit c.args.held.now (sym c.if-length-held.true ∙ c.length_from-length.ensures.value) (omega (arith, c.if-length-held.true, c.if-length-limit.false));
}

pub returns : goal.returns
returns c = record {
  exact = (
    drop (c.length_from-length.result + 1) c.args.held.now,
    whole_line c.args.limit c.length_from-length.result c.args.held.now c.length_from-length.ensures.value (omega (arith, c.if-length-limit.false)) (omega (arith, c.if-length-held.false, c.length_from-length.ensures.within)),
  );
}
