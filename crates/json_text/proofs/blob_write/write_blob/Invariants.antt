use Rattle.std.proofs.Common.{◌≡◌, ◌-◌, ◌≤◌, length}
use Rattle.json_text.proofs.BlobPieces.{Writing}
use Rattle.json_text.proofs.blob_write.write_blob.Given as goal

abbrev pub invariant-pieces : goal.invariant-pieces
invariant-pieces l = Writing l.out.bytes l.fn.out.bytes l.bytes l.from × (l.from ≤ length l.bytes) × (l.out.room ≡ l.fn.out.room) × (length l.buffer ≡ 1024)

abbrev pub decreases-pieces : goal.decreases-pieces
decreases-pieces l = length l.bytes - l.from
