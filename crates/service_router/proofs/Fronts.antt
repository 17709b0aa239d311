-- What a target was sent is a front of what all frames of the client give.
use Rattle.std.proofs.Common.{◌≡◌, ℕ, zero, suc, ◌<◌, ◌^◌, inl, inr, List, [], ◌∷◌, ◌++◌, append_assoc, refl, sym, ◌∙◌, ap}
use Rattle.session_core.specs.Stands.{IsAllOfClient, IsFrontOf}
use Rattle.session_core.proofs.Greatest.{StandsAtFront, Compared, compared}
use Rattle.service_router.specs.Rules.{RouteRules}
use Rattle.service_router.specs.Standing.{Standing, History, due_to}
use Rattle.service_router.specs.Fits.{Fits, onward_to}
use Rattle.service_router.proofs.Walks.{sent_by}

onward_further : (rules : RouteRules) (u : ℕ) (xs more : List (List ℕ)) → onward_to rules u (xs ++ more) ≡ onward_to rules u xs ++ onward_to rules u more
onward_further rules u [] more = refl
onward_further rules u (x ∷ xs) more = ap (λ t. sent_by rules u x ++ t) (onward_further rules u xs more) ∙ sym (append_assoc (sent_by rules u x) (onward_to rules u xs) (onward_to rules u more))

-- all frames go on from those that were taken
pub goes_on : (rules : RouteRules) (limit max_calls : ℕ) (h : History) (s : Standing) (f : Fits rules limit max_calls h s) (zs : List (List ℕ)) (all : IsAllOfClient rules.judging limit (h.received zero) zs) → Compared limit zs f.xs all.rest → (more : List (List ℕ)) × (zs ≡ f.xs ++ more)
goes_on rules limit max_calls h s f zs all (inl (more, e)) = (more, e)
goes_on rules limit max_calls h s f zs all (inr (x, more, behind, e, w)) =
    let halts = all.last x behind w in
    absurd (f.lawful.passes zs more x halts.0 e halts.1)

pub target_front : StandsAtFront → (rules : RouteRules) (limit max_calls u : ℕ) (h : History) (s : Standing) (zs : List (List ℕ)) → limit < 2 ^ 31 → Fits rules limit max_calls h s → IsAllOfClient rules.judging limit (h.received zero) zs → IsFrontOf (h.sent (suc u)) (onward_to rules u zs)
target_front law rules limit max_calls u h s zs small f all =
    let more = goes_on rules limit max_calls h s f zs all (compared limit (h.received zero) zs f.xs all.rest s.client.held law small all.taken (f.came zero)) in (
      due_to (suc u) s ++ onward_to rules u more.0,
      ap (onward_to rules u) more.1 ∙ (onward_further rules u f.xs more.0 ∙ (ap (λ t. t ++ onward_to rules u more.0) (sym (f.went (suc u))) ∙ append_assoc (h.sent (suc u)) (due_to (suc u) s) (onward_to rules u more.0))),
    )
