use Rattle.std.proofs.Common.{arith, sym}
use Rattle.protocol_traits.specs.Heads.{header_of}
use Rattle.binary_protocol.specs.Forms.{front_read, front_stands}
use Rattle.binary_protocol.proofs.read_forms.BinaryReadFormRead.front.Goals as goal

pub returns-clause-reads : goal.returns-clause-reads
returns-clause-reads c =
    let header = header_of c.in_ok-head.head in
    let read = front_read c.args.frame.now header c.in_ok-head.taken (sym c.in_ok-head.ensures) in
    (read.0, read.1, (front_stands c.args.frame.now header read.0 c.in_ok-head.taken read.1 read.2).0)

pub returns-clause-sized : goal.returns-clause-sized
returns-clause-sized c =
    let header = header_of c.in_ok-head.head in
    let read = front_read c.args.frame.now header c.in_ok-head.taken (sym c.in_ok-head.ensures) in
    let stood = front_stands c.args.frame.now header read.0 c.in_ok-head.taken read.1 read.2 in
    omega (arith, stood.1, stood.2, c.requires)

pub returns-clause-place : goal.returns-clause-place
returns-clause-place c =
    let header = header_of c.in_ok-head.head in
    let read = front_read c.args.frame.now header c.in_ok-head.taken (sym c.in_ok-head.ensures) in
    let stood = front_stands c.args.frame.now header read.0 c.in_ok-head.taken read.1 read.2 in
    (stood.1, stood.2)
