-- The fault that stands in a frame, whatever its reason.
use Rattle.std.proofs.Common.{◌≡◌, ℕ, ◌<◌, ◌^◌, List, length, refl, ◌∙◌, sym}
use Rattle.protocol_traits.specs.declared.fault.Fault.{Fault}
use Rattle.protocol_traits.specs.declared.fault.Reason.{Reason}
use Rattle.protocol_traits.specs.declared.fault.Reason.TheVariants as reasons
use Rattle.type_walk.specs.Positions.{start}
use Rattle.json_laws.specs.Stated.{Known, IsRefused, IsViable}
use Rattle.json_laws.specs.Faults.{IsOfPart, PartStands, StandsAt, FaultStands}
use Rattle.json_laws.proofs.Either.{refused_spells_none}
use Rattle.json_laws.proofs.Staying.{front_is_cut}
use Rattle.json_laws.proofs.Cut.{cut_at_end}
use Rattle.json_laws.proofs.Viable.{cut_viable, part_stands}
use Rattle.json_laws.proofs.Trailing.{trails}
use Rattle.json_laws.proofs.Depth.{deep_stands}
use Rattle.json_laws.proofs.FirstBad.{bad_not_viable}

module _ (k : Known) (bytes : List ℕ) (f : Fault) (small : length bytes < 2 ^ 31) (refused : IsRefused k bytes f) where
  of_part : (f.reason ≡ reasons.Truncated → ⊥) → IsOfPart f → PartStands k bytes f × (IsViable k bytes → ⊥)
  of_part other part = (part_stands k bytes f small refused other part, bad_not_viable k bytes f (refused, other) part.0)

  by_reason : (r : Reason) → f.reason ≡ r → StandsAt r k bytes f
  by_reason reasons.Truncated e = ((cut_at_end (start k.declared k.body) bytes f refused e, cut_viable k.declared k.body bytes f small refused e), λ m shallow spelled. refused_spells_none k.declared k.body m bytes f refused spelled shallow)
  by_reason reasons.Trailing e = trails k bytes f small e refused
  by_reason reasons.TooDeep e = (deep_stands k bytes f small e refused, λ b. (let wrong = sym e ∙ front_is_cut k bytes f b refused in absurd (cc)))
  by_reason reasons.BadKind e = of_part (λ t. (let wrong = sym e ∙ t in absurd (cc))) (λ t. (let wrong = sym e ∙ t in absurd (cc)), λ t. (let wrong = sym e ∙ t in absurd (cc)))
  by_reason reasons.BadBool e = of_part (λ t. (let wrong = sym e ∙ t in absurd (cc))) (λ t. (let wrong = sym e ∙ t in absurd (cc)), λ t. (let wrong = sym e ∙ t in absurd (cc)))
  by_reason reasons.BadSize e = of_part (λ t. (let wrong = sym e ∙ t in absurd (cc))) (λ t. (let wrong = sym e ∙ t in absurd (cc)), λ t. (let wrong = sym e ∙ t in absurd (cc)))
  by_reason reasons.BadVersion e = of_part (λ t. (let wrong = sym e ∙ t in absurd (cc))) (λ t. (let wrong = sym e ∙ t in absurd (cc)), λ t. (let wrong = sym e ∙ t in absurd (cc)))
  by_reason reasons.BadType e = of_part (λ t. (let wrong = sym e ∙ t in absurd (cc))) (λ t. (let wrong = sym e ∙ t in absurd (cc)), λ t. (let wrong = sym e ∙ t in absurd (cc)))
  by_reason reasons.BadVarint e = of_part (λ t. (let wrong = sym e ∙ t in absurd (cc))) (λ t. (let wrong = sym e ∙ t in absurd (cc)), λ t. (let wrong = sym e ∙ t in absurd (cc)))
  by_reason reasons.BadId e = of_part (λ t. (let wrong = sym e ∙ t in absurd (cc))) (λ t. (let wrong = sym e ∙ t in absurd (cc)), λ t. (let wrong = sym e ∙ t in absurd (cc)))
  by_reason reasons.BadNumber e = of_part (λ t. (let wrong = sym e ∙ t in absurd (cc))) (λ t. (let wrong = sym e ∙ t in absurd (cc)), λ t. (let wrong = sym e ∙ t in absurd (cc)))
  by_reason reasons.BadString e = of_part (λ t. (let wrong = sym e ∙ t in absurd (cc))) (λ t. (let wrong = sym e ∙ t in absurd (cc)), λ t. (let wrong = sym e ∙ t in absurd (cc)))
  by_reason reasons.BadBase64 e = of_part (λ t. (let wrong = sym e ∙ t in absurd (cc))) (λ t. (let wrong = sym e ∙ t in absurd (cc)), λ t. (let wrong = sym e ∙ t in absurd (cc)))
  by_reason reasons.BadToken e = of_part (λ t. (let wrong = sym e ∙ t in absurd (cc))) (λ t. (let wrong = sym e ∙ t in absurd (cc)), λ t. (let wrong = sym e ∙ t in absurd (cc)))

  pub fault_stands : FaultStands k bytes f
  fault_stands = by_reason f.reason refl
