-- A fault stands before the frame's end, so more bytes tell nothing of it.
use Rattle.std.proofs.Common.{◌≡◌, ℕ, ◌+◌, ◌<◌, ◌^◌, List, ◌++◌, length, take, refl, ap, ◌∙◌, sym, subst, arith, length-append, length-take}
use Rattle.protocol_traits.specs.declared.fault.Fault.{Fault}
use Rattle.protocol_traits.specs.declared.fault.Reason.{Reason}
use Rattle.protocol_traits.specs.declared.fault.Reason.TheVariants as reasons
use Rattle.type_walk.specs.Positions.{start}
use Rattle.json_laws.specs.Stated.{Known, IsRefused, IsBad, FirstTells}
use Rattle.json_laws.specs.Faults.{TrailsAt, PartStands, StandsAt}
use Rattle.json_laws.proofs.Marks.{begins_some}
use Rattle.json_laws.proofs.Staying.{refused_stays}
use Rattle.json_laws.proofs.FirstBad.{first_told}
use Rattle.json_laws.proofs.Standing.{fault_stands}

module _ (k : Known) (bytes : List ℕ) (f : Fault) where
  part_before : PartStands k bytes f → f.place < length bytes
  part_before p = omega (arith, p.place, p.within, ap length p.is, length-append p.front p.left)

  trail_before : TrailsAt k bytes f.place → f.place < length bytes
  trail_before t = omega (arith, t.place_is, begins_some t.left t.begins, ap length t.is, length-append t.front t.left)

  by_reason : (r : Reason) → f.reason ≡ r → (f.reason ≡ reasons.Truncated → ⊥) → (f.reason ≡ reasons.TooDeep → ⊥) → StandsAt r k bytes f → f.place < length bytes
  by_reason reasons.Truncated e other shallow s = absurd (other e)
  by_reason reasons.TooDeep e other shallow s = absurd (shallow e)
  by_reason reasons.Trailing e other shallow s = trail_before s
  by_reason reasons.BadKind e other shallow s = part_before s.0
  by_reason reasons.BadBool e other shallow s = part_before s.0
  by_reason reasons.BadSize e other shallow s = part_before s.0
  by_reason reasons.BadVersion e other shallow s = part_before s.0
  by_reason reasons.BadType e other shallow s = part_before s.0
  by_reason reasons.BadVarint e other shallow s = part_before s.0
  by_reason reasons.BadId e other shallow s = part_before s.0
  by_reason reasons.BadNumber e other shallow s = part_before s.0
  by_reason reasons.BadString e other shallow s = part_before s.0
  by_reason reasons.BadBase64 e other shallow s = part_before s.0
  by_reason reasons.BadToken e other shallow s = part_before s.0

  stands_before : length bytes < 2 ^ 31 → IsBad k bytes f → (f.reason ≡ reasons.TooDeep → ⊥) → f.place < length bytes
  stands_before small bad shallow = by_reason f.reason refl bad.1 shallow (fault_stands k bytes f small bad.0)

pub stays_same : (k : Known) (bytes more : List ℕ) (f : Fault) → length bytes < 2 ^ 31 → IsBad k bytes f → (f.reason ≡ reasons.TooDeep → ⊥) → IsRefused k (bytes ++ more) f
stays_same k bytes more f small bad shallow =
    let s = refused_stays more (start k.declared k.body) bytes f bad.0 bad.1 in
    let same : s.0 ≡ f = s.2.1 (stands_before k bytes f small bad shallow) in
    subst (IsRefused k (bytes ++ more)) same s.1

pub first_tells : (k : Known) (bytes : List ℕ) (f : Fault) → length bytes < 2 ^ 31 → IsBad k bytes f → (f.reason ≡ reasons.TooDeep → ⊥) → FirstTells k bytes f
first_tells k bytes f small bad shallow =
    let t = first_told k bytes f small bad.0 shallow bad.1 in
    let n = t.0 in
    let first = t.1 in
    let g = t.2 in
    let front = take (n + 1) bytes in
    let long : length front ≡ n + 1 = omega (arith, first.within, length-take (n + 1) bytes) in
    let reason : f.reason ≡ g.reason = (t.4).0 in
    let bad_too : IsBad k front g = (t.3, λ e. bad.1 (reason ∙ e)) in
    let before = stands_before k front g (omega (arith, small, first.within, long)) bad_too (λ e. shallow (reason ∙ e)) in
    let same : f ≡ g = (t.4).1 (omega (arith, before, long)) in
    record { place = n; first = first; refused = subst (IsRefused k front) (sym same) t.3; before = omega (arith, before, long, ap (λ (x : Fault). x.place) same) }
