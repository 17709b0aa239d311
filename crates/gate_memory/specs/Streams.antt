-- What the source and the sink in memory do, exactly.
use Rattle.std.specs.Prelude.{◌≡◌, ℕ, ◌==◌, List, ◌++◌, length, take, drop, min, Bool, true, false, if◌then◌else◌}
use Rattle.std.specs.List.{list_any}
use Rattle.gate_base.specs.Causes.{one_more}
use Rattle.gate_io.specs.declared.byte_streams.Got.{Got}
use Rattle.gate_io.specs.declared.byte_streams.Got.TheVariants as got
use Rattle.gate_io.specs.declared.byte_streams.Put.{Put}
use Rattle.gate_io.specs.declared.byte_streams.Put.TheVariants as put

pub record SourceState : Type 0 where
  pub left : List ℕ
  pub chunk : ℕ
  pub calls : ℕ
  pub fail : List ℕ
  pub faults : ℕ

pub record SinkState : Type 0 where
  pub bytes : List ℕ
  pub chunk : ℕ
  pub calls : ℕ
  pub fail : List ℕ
  pub faults : ℕ
  pub refused : ℕ

-- this call is one of those that fail
abbrev pub is_told_to_fail : List ℕ → ℕ → Bool
is_told_to_fail fail call = list_any (λ y. y == call) fail

abbrev pub MemoryReads : SourceState → SourceState → List ℕ → Got → Type 0
MemoryReads old new into (got.Bytes n) =
    (is_told_to_fail old.fail old.calls ≡ false)
    × (n ≡ min (min (length old.left) old.chunk) (length into))
    × (new ≡ record old { left = drop n old.left; calls = one_more old.calls })
MemoryReads old new into got.End =
    (is_told_to_fail old.fail old.calls ≡ false) × (new ≡ record old { calls = one_more old.calls })
MemoryReads old new into got.Failed =
    (is_told_to_fail old.fail old.calls ≡ true) × (new ≡ record old { calls = one_more old.calls; faults = one_more old.faults })

abbrev pub MemoryWrites : SinkState → SinkState → List ℕ → Put → Type 0
MemoryWrites old new from (put.Took n) =
    (is_told_to_fail old.fail old.calls ≡ false)
    × (n ≡ min (length from) old.chunk)
    × (new ≡ record old { bytes = old.bytes ++ take n from; calls = one_more old.calls })
MemoryWrites old new from put.Failed =
    (new ≡ record old { calls = one_more old.calls; faults = one_more old.faults; refused = new.refused })
    × (new.refused ≡ (if is_told_to_fail old.fail old.calls then old.refused else one_more old.refused))
