use Rattle.idl_consts.specs.Meant.{meant_at}
use Rattle.idl_consts.proofs.Trailing.{halted_on}
use Rattle.idl_consts.specs.Views.{files_of}
use Rattle.idl_consts.proofs.follow.unwind.Goals as goal

pub keep-requires-in-Some-clause-row : goal.keep-requires-in-Some-clause-row
keep-requires-in-Some-clause-row c =
    let d = files_of c.args.view.now in
    let name = c.args.name in
    let trail = c.frames.trail in
    let halted = c.frames.invariant.halted in
    (halted_on d name.constant (meant_at d name.ty) c.args.row trail.outer.items c.pop.new.self.items c.in-Some.frame trail.top.constant (meant_at d trail.top.ty)
    c.in-Some.ensures.items halted.0 halted.1).1

pub frames-preserved : goal.frames-preserved
frames-preserved c =
    let d = files_of c.args.view.now in
    let name = c.args.name in
    let trail = c.frames.trail in
    let halted = c.frames.invariant.halted in
    record {
      halted = halted_on d name.constant (meant_at d name.ty) c.args.row trail.outer.items c.pop.new.self.items c.in-Some.frame trail.top.constant (meant_at d trail.top.ty)
          c.in-Some.ensures.items halted.0 halted.1;
      known = c.keep-in-Some.ensures;
    }
