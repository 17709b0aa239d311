-- How far the item goes that a fault of each reason stands in, and how far a part goes.
use Rattle.std.specs.Prelude.{ℕ, zero, suc, List, [], ◌∷◌, nat_lt, if◌then◌else◌}
use Rattle.protocol_traits.specs.declared.fault.Reason.{Reason}
use Rattle.protocol_traits.specs.declared.fault.Reason.TheVariants as reasons
use Rattle.compact_laws.specs.Called.{Part, varint_part, size_part, level_part}

-- How far a varint goes that begins these bytes: through its first byte below 128, the last one, or over so many bytes at most.
abbrev pub varint_end : ℕ → List ℕ → ℕ
varint_end zero bytes = 0
varint_end (suc most) [] = 0
varint_end (suc most) (b ∷ bytes) = if nat_lt b 128 then 1 else suc (varint_end most bytes)

-- The number of bytes of the item at fault, which begins these bytes: a version, a type, a kind, a bool and a field's byte are one
-- each; a size is a varint of at most five bytes, and a bad varint goes on for at most ten. The other faults stand in no item.
abbrev pub extent : Reason → List ℕ → ℕ
extent reasons.BadVersion bytes = 1
extent reasons.BadType bytes = 1
extent reasons.BadKind bytes = 1
extent reasons.BadBool bytes = 1
extent reasons.BadId bytes = 1
extent reasons.BadSize bytes = varint_end 5 bytes
extent reasons.BadVarint bytes = varint_end 10 bytes
extent other bytes = 0

-- The number of bytes of a part that begins these bytes: a varint goes through its last byte, over so many bytes at most; a size is one of
-- at most five; a level has no bytes of its own; each other part is one byte.
abbrev pub part_end : Part → List ℕ → ℕ
part_end (varint_part most width) bytes = varint_end most bytes
part_end size_part bytes = varint_end 5 bytes
part_end level_part bytes = 0
part_end part bytes = 1
