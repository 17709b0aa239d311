use Rattle.std.proofs.Common.{◌≡◌, [], length}
use Rattle.line_transport.specs.Cuts.{Spans}
use Rattle.line_transport.specs.declared.transport.Transport.TheVariants.{Lines}
use Rattle.line_transport.proofs.lines.LineBuf.pass_over.Given as goal

-- what was let go so far are blank lines
abbrev pub invariant-lines : goal.invariant-lines
invariant-lines l = record {
  limit : l.self.limit ≡ l.fn.self.limit;
  spans : Spans Lines l.fn.self.limit l.fn.self.held [] l.self.held;
}

abbrev pub decreases-lines : goal.decreases-lines
decreases-lines l = length l.self.held
