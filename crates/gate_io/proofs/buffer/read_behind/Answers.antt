use Rattle.std.proofs.Common.{◌≡◌, ℕ, ◌+◌, ◌≤◌, List, length, take, Option, arith, rules}
use Rattle.std.proofs.lemmas.List.{length-take-le}
use borrow.Rule.Slice.PartMut.{put_mid}
use Rattle.gate_io.specs.declared.byte_streams.Got.{Got}
use Rattle.gate_io.specs.declared.byte_streams.Got.TheVariants.{Bytes, End, Failed}
use Rattle.gate_io.specs.Reading.{Reads, FillsCells}
use Rattle.gate_io.proofs.Windows.{kept, pushed_first, same_length}
use Rattle.gate_io.proofs.buffer.read_behind.Goals as goal

filled : (start len most k : ℕ) (old new : Option (List ℕ)) (cells into : List ℕ) (got : Got) → start + len + k ≤ length cells → k ≤ most → length into ≡ k → Reads old new into got → FillsCells start len old new cells (put_mid (start + len) k cells into) most got
filled start len most k old new cells into (Bytes n) within at_most is r = (
  r.0,
  omega (arith, r.1, is),
  omega (arith, r.1, is, same_length cells into (start + len) k within is),
  (take n into, length-take-le n into r.1, pushed_first cells into start len k n (omega arith) r.1, r.2),
)
filled start len most k old new cells into End within at_most is r = (r.0, r.1, kept cells into start len k (omega arith))
filled start len most k old new cells into Failed within at_most is r = (r, kept cells into start len k (omega arith))

pub returns-clause-bytes : goal.returns-clause-bytes
returns-clause-bytes g c =
    filled c.args.start c.args.len c.args.most _ (g.I.Source.left c.args.input.now) (g.I.Source.left c.read.new.self) c.args.cells.now c.read.new.into c.read.result (grind arith) (grind arith) (search rules) c.read.ensures.bytes
