use Rattle.std.proofs.Common.{arith, rules, SFits, w32}
use Rattle.std.proofs.lemmas.Int.{to_z-of_z}
use Rattle.protocol_traits.specs.Heads.{Header}
use Rattle.compact_protocol.specs.Forms.{front_stands, head_read}
use Rattle.compact_protocol.proofs.read_forms.CompactReadFormRead.front.Goals as goal
use Rattle.std.proofs.lemmas.Grind.{common_steps}

pub returns-clause-reads : goal.returns-clause-reads
returns-clause-reads c =
    let front = c.in_ok-mtype in
    let name = c.in_ok-name in
    let read = head_read c.args.frame.now (front.mtype, front.seq) front.at name.name.now name.behind front.ensures.found name.ensures in
    let header : Header = record { name = name.name.now; mtype = front.mtype; seq = front.seq } in
    let fits : SFits w32 front.seq = search rules in
    rw (to_z-of_z w32 front.seq fits) (read.0, read.1, (front_stands c.args.frame.now header read.0 name.behind read.1 read.2).0)

pub returns-clause-sized : goal.returns-clause-sized
returns-clause-sized c =
    let front = c.in_ok-mtype in
    let name = c.in_ok-name in
    let read = head_read c.args.frame.now (front.mtype, front.seq) front.at name.name.now name.behind front.ensures.found name.ensures in
    let header : Header = record { name = name.name.now; mtype = front.mtype; seq = front.seq } in
    let stood = front_stands c.args.frame.now header read.0 name.behind read.1 read.2 in
    omega (arith, stood.1, stood.2, c.requires)

pub returns-clause-place : goal.returns-clause-place
returns-clause-place c =
    let front = c.in_ok-mtype in
    let name = c.in_ok-name in
    let read = head_read c.args.frame.now (front.mtype, front.seq) front.at name.name.now name.behind front.ensures.found name.ensures in
    let header : Header = record { name = name.name.now; mtype = front.mtype; seq = front.seq } in
    let stood = front_stands c.args.frame.now header read.0 name.behind read.1 read.2 in
    (stood.1, stood.2)

pub returns-in_err-name-clause-place : goal.returns-in_err-name-clause-place
returns-in_err-name-clause-place c = grind (arith, common_steps)

pub returns-in_err-name-clause-sized : goal.returns-in_err-name-clause-sized
returns-in_err-name-clause-sized c = grind (arith, common_steps)

pub returns-in_err-mtype-clause-reads : goal.returns-in_err-mtype-clause-reads
returns-in_err-mtype-clause-reads c = grind (arith, common_steps)

pub returns-in_err-name-clause-reads : goal.returns-in_err-name-clause-reads
returns-in_err-name-clause-reads c = grind (arith, common_steps)

pub returns-in_err-mtype-clause-sized : goal.returns-in_err-mtype-clause-sized
returns-in_err-mtype-clause-sized c = grind (arith, common_steps)

pub returns-in_err-mtype-clause-place : goal.returns-in_err-mtype-clause-place
returns-in_err-mtype-clause-place c = grind (arith, common_steps)
