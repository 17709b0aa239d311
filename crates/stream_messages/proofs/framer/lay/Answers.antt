use Rattle.stream_messages.proofs.Due.{laid}
use Rattle.stream_messages.proofs.framer.lay.Goals as goal

pub returns : goal.returns
returns c = rw (c.copy_from_slice.ensures.after, c.copy_from_slice-2.ensures.after) (laid c.args.head.now c.args.body.now c.args.into.now _ c.requires)
