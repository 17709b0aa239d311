use Rattle.gate_memory.proofs.Bytes.{all_bytes}
use Rattle.gate_memory.proofs.streams.copied.Goals as goal

pub returns-clause-bytes : goal.returns-clause-bytes
returns-clause-bytes c = all_bytes c.args.bytes.now c.type_inv.bytes
