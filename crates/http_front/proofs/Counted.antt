-- The counts of the front.
use Rattle.std.proofs.Common.{ℕ, ◌+◌, ◌-◌, ◌^◌, ◌≤◌, arith}
use Rattle.gate_base.specs.Causes.{Rose, one_more}
use Rattle.gate_hub.specs.Hubs.{Counts, Later}
use Rattle.gate_hub.specs.declared.hub.Side.{Side}
use Rattle.gate_hub.specs.declared.hub.Side.TheVariants as side
use Rattle.http_front.specs.Counting.{held_back, with_own}

pub later_both : (a b : Counts) (s s' w w' : ℕ) → Later a b → s ≤ s' → w ≤ w' → Later (with_own a s w) (with_own b s' w')
later_both a b s s' w w' later strays waits = record {
  faults = later.faults;
  links = λ k x. omega (arith, later.links k x, strays);
  waits = λ k x. by x (later.waits k x);
}
  where
    by : {k : ℕ} (x : Side) → a.waits k x ≤ b.waits k x → a.waits k x + held_back w x ≤ b.waits k x + held_back w' x
    by side.Client le = omega (arith, le, waits)
    by side.Upstream le = omega (arith, le)

-- what rose below has risen
pub rose_below : (a b s s' : ℕ) → Rose a b → s ≤ s' → Rose (a + s) (b + s')
rose_below a b s s' rose le = omega (arith, rose, le)

-- and what was counted besides has risen
pub rose_own : (a b s : ℕ) → a ≤ b → Rose (a + s) (b + one_more s)
rose_own a b s le = omega (arith, le)

pub more : (s : ℕ) → s ≤ 2 ^ 64 - 1 → s ≤ one_more s
more s fits = omega (arith, fits)

pub later_same : (a : Counts) → Later a a
later_same a = record { faults = omega arith; links = λ k x. omega arith; waits = λ k x. omega arith }

pub later_on : (a b d : Counts) → Later a b → Later b d → Later a d
later_on a b d p q = record {
  faults = omega (arith, p.faults, q.faults);
  links = λ k x. omega (arith, p.links k x, q.links k x);
  waits = λ k x. omega (arith, p.waits k x, q.waits k x);
}

-- what rose after it could only have grown has risen
pub rose_later : (a b d : ℕ) → a ≤ b → Rose b d → Rose a d
rose_later a b d le rose = omega (arith, le, rose)
