-- A body is read to its end, whatever the bound.
use Rattle.std.proofs.Common.{◌≡◌, ℕ, zero, suc, ◌+◌, ◌<◌, ◌≤◌, Bool, true, false, Option, Some, None, Ok, Err, refl, ap, subst, arith, List, ◌++◌, length, append_assoc, length-append}
use Rattle.std.specs.Prelude.{if◌then◌else◌, ◌==◌, IfOk, is_some}
use Rattle.std.proofs.lemmas.Bool.{ne_eqb}
use Rattle.protocol_traits.specs.declared.fault.Fault.{Fault}
use Rattle.protocol_traits.specs.declared.fault.Bar.{Bar}
use Rattle.protocol_traits.specs.declared.proto.Hint.{Hint}
use Rattle.thrift_value.specs.Items.{Item, field, stop, bool_value, i8_value, i16_value, i32_value, i64_value, double_value, text, number_text, unknown_text, struct_begin, empty_map, map_begin, set_begin, list_begin, end, uuid_value}
use Rattle.protocol_traits.specs.Steps.{Step}
use Rattle.protocol_traits.specs.Room.{weight}
use Rattle.translate_verdicts.specs.declared.verdict.Cause.{Cause}
use Rattle.translate_verdicts.specs.Positions.{Positions}
use Rattle.translate_verdicts.specs.Body.{Going, Ended, Source, TargetRules, moved, next, within, whole, tried, goes_out, first_cause}

-- each item weighs something
pub weight_some : (item : Item) → 0 < weight item
weight_some (field id kind) = omega arith
weight_some stop = omega arith
weight_some (bool_value b) = omega arith
weight_some (i8_value n) = omega arith
weight_some (i16_value n) = omega arith
weight_some (i32_value n) = omega arith
weight_some (i64_value n) = omega arith
weight_some (double_value bytes) = omega arith
weight_some (text bytes) = omega arith
weight_some (number_text bytes) = omega arith
weight_some (unknown_text bytes) = omega arith
weight_some struct_begin = omega arith
weight_some empty_map = omega arith
weight_some (map_begin key value size) = omega arith
weight_some (set_begin kind size) = omega arith
weight_some (list_begin kind size) = omega arith
weight_some end = omega arith
weight_some (uuid_value bytes) = omega arith

module _ {S P T : Type 0} (source : Source S) (positions : Positions P) (target : TargetRules T)
    (pays : (s : S) (hint : Hint) → IfOk (source.reads s hint) (λ x. weight x.0 + source.ahead x.1 ≤ source.ahead s)) where
  next_same : (f h : Going S P T → Ended S P T) (g : Going S P T) (step : Step S Item) (limit : ℕ)
      → ((g' : Going S P T) → source.ahead g'.reader < limit → f g' ≡ h g')
      → IfOk step (λ x. weight x.0 + source.ahead x.1 ≤ limit)
      → next source positions target f g step ≡ next source positions target h g step
  next_same f h g (Ok x) limit same paid = same (moved source positions target g x) (omega (arith, weight_some x.0))
  next_same f h g (Err fault) limit same paid = refl

  within_enough : (n m : ℕ) (g : Going S P T) → source.ahead g.reader < n → source.ahead g.reader < m → within source positions target n g ≡ within source positions target m g
  unfolding within
  within_enough zero m g hn hm = absurd (omega arith)
  within_enough (suc n) zero g hn hm = absurd (omega arith)
  within_enough (suc n) (suc m) g hn hm =
      ap (λ (r : Ended S P T). if g.depth == 0 then Ok g else r)
      (next_same (within source positions target n) (within source positions target m) g _ (source.ahead g.reader)
      (λ g' less. within_enough n m g' (omega arith) (omega arith))
      (pays g.reader (positions.hint g.walk)))

  pub whole_step : (g : Going S P T) (item : Item) (new : S) → 0 < g.depth → source.reads g.reader (positions.hint g.walk) ≡ Ok (item, new)
      → whole source positions target g ≡ whole source positions target (moved source positions target g (item, new))
  unfolding whole within
  whole_step g item new some e =
      let deep : (g.depth == 0) ≡ false = ne_eqb g.depth 0 (λ none. omega arith) in
      let paid : weight item + source.ahead new ≤ source.ahead g.reader = subst (λ (r : Step S Item). IfOk r (λ x. weight x.0 + source.ahead x.1 ≤ source.ahead g.reader)) e (pays g.reader (positions.hint g.walk)) in
      rw (deep, e) (within_enough (source.ahead g.reader) (suc (source.ahead new)) (moved source positions target g (item, new)) (omega (arith, weight_some item, paid)) (omega arith))

  pub whole_fault : (g : Going S P T) (f : Fault) → 0 < g.depth → source.reads g.reader (positions.hint g.walk) ≡ Err f → whole source positions target g ≡ Err f
  unfolding whole within
  whole_fault g f some e =
      let deep : (g.depth == 0) ≡ false = ne_eqb g.depth 0 (λ none. omega arith) in
      rw (deep, e) refl

  pub whole_end : (g : Going S P T) → g.depth ≡ 0 → whole source positions target g ≡ Ok g
  unfolding whole within
  whole_end g e = rw e refl

-- what is written fits, and the rest fits behind it
pub fits_after : (out : Bool) (bytes plain : List ℕ) (w before behind room : ℕ) → length plain ≤ w → w + behind ≤ before → length bytes + before ≤ room
    → length (if out then bytes ++ plain else bytes) + behind ≤ room
fits_after true bytes plain w before behind room light paid fits = omega (arith, length-append bytes plain)
fits_after false bytes plain w before behind room light paid fits = omega arith

pub grows : (out : Bool) (old bytes added plain : List ℕ) → bytes ≡ old ++ added → (if out then bytes ++ plain else bytes) ≡ old ++ (if out then added ++ plain else added)
grows true old bytes added plain h = rw h (append_assoc old added plain)
grows false old bytes added plain h = h

-- as long as nothing is barred the writer is as deep as the reader
pub keeps_deep : {T : Type 0} (depth : T → ℕ) (cause : Option Cause) (found : Option Bar) (place : ℕ) (writer new : T) (before after : ℕ)
    → (is_some cause ≡ false → depth writer ≡ before)
    → (depth writer ≡ before → depth new ≡ after)
    → is_some (first_cause cause (tried (is_some cause) found) place) ≡ false
    → depth (if goes_out (is_some cause) found then new else writer) ≡ after
keeps_deep depth (Some cause) found place writer new before after same follows free = absurd (cc)
keeps_deep depth None (Some bar) place writer new before after same follows free = absurd (cc)
keeps_deep depth None None place writer new before after same follows free = follows (same refl)
