-- A frame of JSON has one fault.
use Rattle.std.proofs.Common.{◌≡◌, ℕ, List, ap, ◌∙◌, sym, subst, inl, inr}
use Rattle.protocol_traits.specs.declared.fault.Fault.{Fault}
use Rattle.protocol_traits.specs.Heads.{Header}
use Rattle.type_tables.specs.Declarations.{Declarations}
use Rattle.translate_verdicts.specs.declared.route.Route.{Route}
use Rattle.json_laws.specs.Stated.{Known, IsRefused}
use Rattle.json_laws.specs.Firsts.{FirstFault}
use Rattle.json_laws.proofs.Either.{same_blame}
use Rattle.json_laws.proofs.Sound.{same_step}
use Rattle.json_laws.proofs.Fronting.{header_stands}
use Rattle.json_laws.proofs.FirstFaults.{first_refused, one_first}
use Rattle.verdict_laws.specs.Spellings.{known_by}
use Rattle.verdict_laws.specs.Verdicts.{IsKnownOf, JsonFault}

module _ (d : Declarations) (route : Route) (frame : List ℕ) (f g : Fault) (k l : Known) (known : IsKnownOf d route frame k) (other : IsKnownOf d route frame l) (first : FirstFault k frame f) (second : FirstFault l frame g) where
  by_refused : IsRefused k frame f → IsRefused l frame g → f ≡ g
  by_refused (inl e) (inl h) = same_blame {X = Header} f g (sym e ∙ h)
  by_refused (inl e) (inr (header, items, from, last, head, body, refuses)) = let wrong = sym e ∙ head in absurd (cc)
  by_refused (inr (header, items, from, last, head, body, refuses)) (inl h) = let wrong = sym h ∙ head in absurd (cc)
  by_refused (inr (header, items, from, last, head, body, refuses)) (inr (h, xs, s, t, head_too, more, refuses_too)) =
      let one = same_step header h from s (sym head ∙ head_too) in
      let x = header_stands frame header from head in
      let y = header_stands frame h s head_too in
      let same : k ≡ l = known header x.0 x.1 x.2 x.3 ∙ ap (known_by d route) one.0 ∙ sym (other h y.0 y.1 y.2 y.3) in
      one_first k frame f g first (subst (λ n. FirstFault n frame g) (sym same) second)

pub one_json_fault : (d : Declarations) (route : Route) (frame : List ℕ) (f g : Fault) → JsonFault d route frame f → JsonFault d route frame g → f ≡ g
one_json_fault d route frame f g (k, known, stands, first) (l, other, stands_too, second) =
    by_refused d route frame f g k l known other first second (first_refused k frame f first) (first_refused l frame g second)
