use Rattle.std.proofs.Common.{◌≡◌, ◌+◌, arith}
use Rattle.std.specs.Prelude.{slice_index}
use Rattle.json_text.proofs.PlainInts.{int_run_ends, digits_made}
use Rattle.json_text.proofs.places.plain_digits.Goals.{else-bytes-at-eq48-via-then-bytes-at-eq48+else-end-at-2, else-bytes-at-eq48-via-else-bytes-at-eq48}
use Rattle.json_text.proofs.places.plain_digits.Goals as goal

pub returns-clause-run : goal.returns-clause-run
returns-clause-run c =
    let bound = c.in_ok-value.ensures.bound in
    int_run_ends c.args.bytes.now c.args.at c.in_ok-value.«end» c.in_ok-value.ensures.run bound.0 (omega (arith, bound.1)) c.if-bytes-end-eq45.false

pub returns-clause-value : goal.returns-clause-value
returns-clause-value c =
    let bound = c.in_ok-value.ensures.bound in
    let zero : slice_index c.args.bytes.now c.args.at ≡ 48 → c.in_ok-value.«end» ≡ c.args.at + 1 =
    elim c.else-bytes-at-eq48.branch [ else-bytes-at-eq48-via-then-bytes-at-eq48+else-end-at-2 w ↦ (λ e. w.if-end-at-2.false) | else-bytes-at-eq48-via-else-bytes-at-eq48 w ↦ (λ e. absurd (w.if-bytes-at-eq48.false e)) ] in
    digits_made c.args.bytes.now c.args.at c.in_ok-value.«end» c.in_ok-value.value (omega (arith, bound.0)) bound.1 zero c.in_ok-value.ensures.value
