-- The input, the output and the report of a command.
use Rattle.std.specs.Prelude.{ℕ, List, Option}

-- the three streams: what is left of the input, what was written and reported, where they tell it, and their faults
pub record Streams : Type 0 where
  pub left : Option (List ℕ)
  pub written : Option (List ℕ)
  pub reported : Option (List ℕ)
  pub input_faults : ℕ
  pub output_faults : ℕ
  pub report_faults : ℕ

abbrev pub streams : Option (List ℕ) → Option (List ℕ) → Option (List ℕ) → ℕ → ℕ → ℕ → Streams
streams left written reported input_faults output_faults report_faults =
    record { left = left; written = written; reported = reported; input_faults = input_faults; output_faults = output_faults; report_faults = report_faults }
