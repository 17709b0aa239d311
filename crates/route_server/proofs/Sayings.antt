-- What is said of sessions, with more behind it.
use Rattle.std.proofs.Common.{◌≡◌, ◌≢◌, ℕ, ◌==◌, ◌⊎◌, inl, inr, List, [], ◌∷◌, ◌++◌, Bool, true, false, nat_eq, if◌then◌else◌, arith, ap, sym, ◌∙◌, subst, refl, append_assoc, Some}
use Rattle.std.proofs.lemmas.List.{append-nil}
use Rattle.std.proofs.lemmas.Grind.{flat_map-append}
use Rattle.std.proofs.lemmas.Bool.Decides.{nat_tests}
use Rattle.std.specs.List.{slice_get}
use Rattle.session_core.specs.Notes.{Note}
use Rattle.service_router.specs.declared.outcome.RouteOutcome.{RouteOutcome}
use Rattle.refusal_teller.specs.Refused.{refusal_lines}
use Rattle.route_server.specs.Saying.{Closing, Said, Refused, Ended, closings, heard_if, heard_in, InOrder, refusals, AreOf, said_line, said_lines, closing_line, closing_lines}

pub closings_on : (xs ys : List Said) → closings (xs ++ ys) ≡ closings xs ++ closings ys
closings_on [] ys = refl
closings_on (Refused k note ∷ xs) ys = closings_on xs ys
closings_on (Ended k o ∷ xs) ys = ap (λ cs. (k, o) ∷ cs) (closings_on xs ys)

pub refusals_close_none : (k : ℕ) (notes : List Note) → closings (refusals k notes) ≡ []
refusals_close_none k [] = refl
refusals_close_none k (note ∷ notes) = refusals_close_none k notes

pub closings_kept : (past : List Said) (k : ℕ) (notes : List Note) → closings (past ++ refusals k notes) ≡ closings past
closings_kept past k notes = closings_on past (refusals k notes) ∙ (ap (λ cs. closings past ++ cs) (refusals_close_none k notes) ∙ append-nil (closings past))

pub closings_more : (past : List Said) (k : ℕ) (o : RouteOutcome) → closings (past ++ Ended k o ∷ []) ≡ closings past ++ (k, o) ∷ []
closings_more past k o = closings_on past (Ended k o ∷ [])

heard_if_on : (b : Bool) (note : Note) (xs ys : List Note) → (if b then note ∷ (xs ++ ys) else xs ++ ys) ≡ (if b then note ∷ xs else xs) ++ ys
heard_if_on true note xs ys = refl
heard_if_on false note xs ys = refl

pub heard_on : (xs ys : List Said) (k : ℕ) → heard_in (xs ++ ys) k ≡ heard_in xs k ++ heard_in ys k
heard_on [] ys k = refl
heard_on (Refused j note ∷ xs) ys k = ap (λ ns. heard_if j k note ns) (heard_on xs ys k) ∙ heard_if_on (nat_eq j k) note (heard_in xs k) (heard_in ys k)
heard_on (Ended j o ∷ xs) ys k = heard_on xs ys k

same_test : (k : ℕ) → nat_eq k k ≡ true
same_test k = grind (arith, nat_tests)

other_test : (j k : ℕ) → j ≢ k → nat_eq j k ≡ false
other_test j k other = by (nat_eq j k) refl
  where
    by : (b : Bool) → nat_eq j k ≡ b → nat_eq j k ≡ false
    by true is = absurd (other (grind (arith, nat_tests, is)))
    by false is = is

heard_own : (k : ℕ) (notes : List Note) → heard_in (refusals k notes) k ≡ notes
heard_own k [] = refl
heard_own k (note ∷ notes) =
    ap (λ b. if b then note ∷ heard_in (refusals k notes) k else heard_in (refusals k notes) k) (same_test k) ∙ ap (λ ns. note ∷ ns) (heard_own k notes)

heard_others : (j k : ℕ) (notes : List Note) → j ≢ k → heard_in (refusals k notes) j ≡ []
heard_others j k [] other = refl
heard_others j k (note ∷ notes) other =
    ap (λ b. if b then note ∷ heard_in (refusals k notes) j else heard_in (refusals k notes) j) (other_test k j (λ is. other (sym is))) ∙ heard_others j k notes other

pub heard_more : (past : List Said) (k : ℕ) (notes : List Note) → heard_in (past ++ refusals k notes) k ≡ heard_in past k ++ notes
heard_more past k notes = heard_on past (refusals k notes) k ∙ ap (λ ns. heard_in past k ++ ns) (heard_own k notes)

pub heard_same : (past : List Said) (j k : ℕ) (notes : List Note) → j ≢ k → heard_in (past ++ refusals k notes) j ≡ heard_in past j
heard_same past j k notes other = heard_on past (refusals k notes) j ∙ (ap (λ ns. heard_in past j ++ ns) (heard_others j k notes other) ∙ append-nil (heard_in past j))

pub heard_ended : (past : List Said) (j k : ℕ) (o : RouteOutcome) → heard_in (past ++ Ended k o ∷ []) j ≡ heard_in past j
heard_ended past j k o = heard_on past (Ended k o ∷ []) j ∙ append-nil (heard_in past j)

-- ---- in order

-- more is said of a session that has not ended
pub in_order_more : (past : List Said) (k : ℕ) (notes : List Note) → ((i : ℕ) (c : Closing) → slice_get (closings past) i ≡ Some c → c.0 ≢ k) → InOrder past → InOrder (past ++ refusals k notes)
in_order_more [] k [] free o = tt
in_order_more [] k (note ∷ notes) free o = in_order_more [] k notes free o
in_order_more (Refused j note ∷ past) k notes free o = in_order_more past k notes free o
in_order_more (Ended j e ∷ past) k notes free o =
    (heard_same past j k notes (free 0 (j, e) refl) ∙ o.0, in_order_more past k notes (λ i c got. free (Rattle.std.proofs.Common.suc i) c got) o.1)

pub in_order_ended : (past : List Said) (k : ℕ) (o : RouteOutcome) → InOrder past → InOrder (past ++ Ended k o ∷ [])
in_order_ended [] k o p = (refl, tt)
in_order_ended (Refused j note ∷ past) k o p = in_order_ended past k o p
in_order_ended (Ended j e ∷ past) k o p = (heard_ended past j k o ∙ p.0, in_order_ended past k o p.1)

-- ---- of one session

pub are_of_refusals : (k : ℕ) (notes : List Note) → AreOf k (refusals k notes)
are_of_refusals k [] = tt
are_of_refusals k (note ∷ notes) = (refl, are_of_refusals k notes)

pub are_of_on : (k : ℕ) (xs ys : List Said) → AreOf k xs → AreOf k ys → AreOf k (xs ++ ys)
are_of_on k [] ys p q = q
are_of_on k (Refused j note ∷ xs) ys p q = (p.0, are_of_on k xs ys p.1 q)
are_of_on k (Ended j o ∷ xs) ys p q = (p.0, are_of_on k xs ys p.1 q)

-- ---- the lines

pub lines_on : (text : ℕ → Note → List ℕ) (xs ys : List Said) → said_lines text (xs ++ ys) ≡ said_lines text xs ++ said_lines text ys
lines_on text xs ys = flat_map-append (said_line text) xs ys

pub refused_lines : (text : ℕ → Note → List ℕ) (k : ℕ) (notes : List Note) → said_lines text (refusals k notes) ≡ refusal_lines text k notes
refused_lines text k [] = refl
refused_lines text k (note ∷ notes) = ap (λ xs. text k note ++ xs) (refused_lines text k notes)

-- where no refused frame has a line, the lines are those of the sessions that have ended
pub untold_lines : (said : List Said) → said_lines (λ k note. []) said ≡ closing_lines (closings said)
untold_lines [] = refl
untold_lines (Refused k note ∷ said) = untold_lines said
untold_lines (Ended k o ∷ said) = ap (λ xs. closing_line (k, o) ++ xs) (untold_lines said)
