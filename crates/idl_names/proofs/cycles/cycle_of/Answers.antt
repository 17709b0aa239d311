use Rattle.std.proofs.Common.{◌∙◌, sym}
use Rattle.idl_names.proofs.Spots.{among_has}
use Rattle.idl_names.proofs.cycles.cycle_of.Goals as goal

pub returns-then-contains : goal.returns-then-contains
returns-then-contains c = c.requires.absent c.args.spot (among_has c.args.spot c.args.marks.now.absent (sym c.contains.ensures ∙ c.if-contains.true))

pub returns-then-contains-2 : goal.returns-then-contains-2
returns-then-contains-2 c = c.requires.ahead c.args.spot (among_has c.args.spot c.args.marks.now.ahead (sym c.contains-2.ensures ∙ c.if-contains-2.true))

pub returns-then-contains-3 : goal.returns-then-contains-3
returns-then-contains-3 c = c.requires.on c.args.spot (among_has c.args.spot c.args.marks.now.on (sym c.contains-3.ensures ∙ c.if-contains-3.true))
