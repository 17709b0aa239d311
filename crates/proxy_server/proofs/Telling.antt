-- What the calls of a turn add up to, with what is told of refused frames on the way.
use Rattle.std.proofs.Common.{◌≡◌, ℕ, ◌+◌, List, [], ◌++◌, Option, Result, Err, sym, subst, append_assoc}
use Rattle.std.proofs.lemmas.List.{append-nil}
use Rattle.gate_hub.specs.Meaning.{Told, HubCall, Meaning}
use Rattle.gate_hub.specs.declared.hub.Side.{Side}
use Rattle.session_core.specs.Rules.{Rules}
use Rattle.session_core.specs.Notes.{Note}
use Rattle.session_core.specs.Standing.{History}
use Rattle.session_core.specs.Telling.{FitsAndTells}
use Rattle.session_core.specs.Ends.{IsAtRest}
use Rattle.session_core.specs.Session.{Seen}
use Rattle.proxy_server.specs.Calling.{Wanted}
use Rattle.proxy_server.specs.Matching.{history_of, MatchesOn, IsSame}
use Rattle.proxy_server.specs.Turning.{TurnDoes, Goes, GoesTelling, Runs, Breaks, CallDoes, or_else}
use Rattle.proxy_server.specs.declared.waiting.Waits.{Waits}
use Rattle.proxy_server.specs.declared.turn_end.Turn.{Turn}
use Rattle.proxy_server.proofs.Running as run

-- a session that fits goes on to match
pub matches_on : (J : Type 0) (rules : J → Rules) (a b : Seen J) (tells : List Note → Type 0) (on : History → History) → IsSame J a b → FitsAndTells rules a b tells on → IsAtRest (rules a.judge) a.limit a.max_calls b.standing b.outcome → MatchesOn rules a b tells on
matches_on J rules a b tells on same fits rest = (fits.0, fits.1, λ past h m. run.matches_at J rules a b (past ++ fits.0) (on h) same (fits.2 h past m.fits) rest)

-- nothing was told
pub quietly : (tells : List Note → Type 0) (told told' : Meaning → Type 0) (matches matches' : List Note → History → Type 0) (k : ℕ) (P : List HubCall → Told → Told → Type 0) → tells [] → ((past : List Note) → Goes told told' (matches past) (matches' past) k P) → GoesTelling tells told told' matches matches' k P
quietly tells told told' matches matches' k P none by = ([], none, λ past. subst (λ (ns : List Note). Goes told told' (matches past) (matches' ns) k P) (sym (append-nil past)) (by past))

pub goes_weaker : (tells : List Note → Type 0) (told told' : Meaning → Type 0) (matches matches' : List Note → History → Type 0) (k : ℕ) (P Q : List HubCall → Told → Told → Type 0) → ((made : List HubCall) (s t : Told) → P made s t → Q made s t) → GoesTelling tells told told' matches matches' k P → GoesTelling tells told told' matches matches' k Q
goes_weaker tells told told' matches matches' k P Q by p = (p.0, p.1, λ past. run.goes_weaker told told' (matches past) (matches' (past ++ p.0)) k P Q by (p.2 past))

-- one after the other
pub goes_on : {N : Type 0} (says : N → N → List Note → Type 0) → ((x y z : N) (xs ys : List Note) → says x y xs → says y z ys → says x z (xs ++ ys)) → (x y z : N) (told told' told'' : Meaning → Type 0) (matches matches' matches'' : List Note → History → Type 0) (k : ℕ) (P Q Both : List HubCall → Told → Told → Type 0) → ((made : List HubCall) (s t : Told) → P made s t → (t.announced ≡ s.announced) × (t.closed ≡ s.closed)) → ((notes : List Note) (made more : List HubCall) (s t u : Told) → P made s t → Q more t u → matches'' notes (history_of u) → Both (made ++ more) s u) → GoesTelling (says x y) told told' matches matches' k P → GoesTelling (says y z) told' told'' matches' matches'' k Q → GoesTelling (says x z) told told'' matches matches'' k Both
goes_on says follows x y z told told' told'' matches matches' matches'' k P Q Both same both p q = (
  p.0 ++ q.0,
  follows x y z p.0 q.0 p.1 q.1,
  λ past.
      subst (λ (ns : List Note). Goes told told'' (matches past) (matches'' ns) k Both) (append_assoc past p.0 q.0)
      (run.goes_on told told' told'' (matches past) (matches' (past ++ p.0)) (matches'' ((past ++ p.0) ++ q.0)) k P Q Both same (both ((past ++ p.0) ++ q.0)) (p.2 past) (q.2 (past ++ p.0))),
)

pub then_runs : {N : Type 0} (says : N → N → List Note → Type 0) → ((x y z : N) (xs ys : List Note) → says x y xs → says y z ys → says x z (xs ++ ys)) → (x y z : N) (told told' told'' : Meaning → Type 0) (matches matches' matches'' : List Note → History → Type 0) (k : ℕ) (a b : Option Wanted) (n m : ℕ) (u v w : Waits) → GoesTelling (says x y) told told' matches matches' k (Runs k a n u v) → GoesTelling (says y z) told' told'' matches' matches'' k (Runs k b m v w) → GoesTelling (says x z) told told'' matches matches'' k (Runs k (or_else a b) (n + m) u w)
then_runs says follows x y z told told' told'' matches matches' matches'' k a b n m u v w p q = goes_on says follows x y z told told' told'' matches matches' matches'' k (Runs k a n u v) (Runs k b m v w) (Runs k (or_else a b) (n + m) u w) (λ made s t r. (r.grows.announced, r.grows.closed)) (λ notes made more r s t x y _. run.runs_on k a b n m u v w made more r s t x y) p q

pub then_breaks : {N : Type 0} (says : N → N → List Note → Type 0) → ((x y z : N) (xs ys : List Note) → says x y xs → says y z ys → says x z (xs ++ ys)) → (x y z : N) (told told' told'' : Meaning → Type 0) (matches matches' matches'' : List Note → History → Type 0) (k : ℕ) (a b : Option Wanted) (n : ℕ) (u v : Waits) (side : Side) → GoesTelling (says x y) told told' matches matches' k (Runs k a n u v) → GoesTelling (says y z) told' told'' matches' matches'' k (Breaks k b side) → GoesTelling (says x z) told told'' matches matches'' k (Breaks k (or_else a b) side)
then_breaks says follows x y z told told' told'' matches matches' matches'' k a b n u v side p q = goes_on says follows x y z told told' told'' matches matches' matches'' k (Runs k a n u v) (Breaks k b side) (Breaks k (or_else a b) side) (λ made s t r. (r.grows.announced, r.grows.closed)) (λ notes made more r s t y z _. run.breaks_on k a b n u v side made more r s t y z) p q

-- at what is wanted in all
pub runs_at : (tells : List Note → Type 0) (told told' : Meaning → Type 0) (matches matches' : List Note → History → Type 0) (k : ℕ) (a b : Option Wanted) (n : ℕ) (v w : Waits) → a ≡ b → GoesTelling tells told told' matches matches' k (Runs k a n v w) → GoesTelling tells told told' matches matches' k (Runs k b n v w)
runs_at tells told told' matches matches' k a b n v w e p = (p.0, p.1, λ past. run.runs_at told told' (matches past) (matches' (past ++ p.0)) k a b n v w e (p.2 past))

pub breaks_at : (tells : List Note → Type 0) (told told' : Meaning → Type 0) (matches matches' : List Note → History → Type 0) (k : ℕ) (a r b : Option Wanted) (v w : Waits) (side : Side) (result : Result ℕ Side) → result ≡ Err side → or_else a r ≡ b → GoesTelling tells told told' matches matches' k (Breaks k a side) → GoesTelling tells told told' matches matches' k (CallDoes k b result v w)
breaks_at tells told told' matches matches' k a r b v w side result is e p = (p.0, p.1, λ past. run.breaks_at told told' (matches past) (matches' (past ++ p.0)) k a r b v w side result is e (p.2 past))

-- by how the turn ended
pub turn_is : (J : Type 0) (rules : J → Rules) (tells : List Note → Type 0) (told told' : Meaning → Type 0) (matches matches' : List Note → History → Type 0) (k : ℕ) (session : Seen J) (r t : Turn) → r ≡ t → GoesTelling tells told told' matches matches' k (TurnDoes J rules k session r) → GoesTelling tells told told' matches matches' k (TurnDoes J rules k session t)
turn_is J rules tells told told' matches matches' k session r t is p = subst (λ x. GoesTelling tells told told' matches matches' k (TurnDoes J rules k session x)) is p
