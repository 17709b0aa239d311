-- A frame of the client is taken, or waits.
use Rattle.std.proofs.Common.{◌≡◌, ℕ, ◌+◌, ◌==◌, ◌<◌, ◌≤◌, List, [], ◌∷◌, ◌++◌, length, length-append, map, arith, refl, sym, ◌∙◌, ap, subst, Bool, true, false, ◌&&◌, Some, None}
use Rattle.std.specs.List.{All}
use Rattle.std.proofs.lemmas.Bool.Decides.{nat_tests}
use Rattle.std.proofs.lemmas.List.Elements.{All-append, All-nil, All-cons}
use Rattle.gate_io.specs.Buffer.{Buffer}
use Rattle.framed_transport.specs.Frames.{IsCut}
use Rattle.framed_transport.specs.Front.{Whole, front}
use Rattle.session_core.specs.Fits.{told}
use Rattle.session_core.specs.Notes.{call_notes}
use Rattle.session_core.specs.Steps.{is_none}
use Rattle.session_core.specs.Working.{IsFound}
use Rattle.session_core.specs.declared.judge.Call.{Call}
use Rattle.session_core.specs.declared.judge.ClientJudged.{ClientJudged}
use Rattle.session_core.specs.declared.state.Waiting.{Waiting}
use Rattle.service_router.specs.declared.call.OpenCall.{OpenCall}
use Rattle.service_router.specs.declared.state.State.{State}
use Rattle.service_router.specs.Rules.{RouteRules}
use Rattle.service_router.specs.Routing.{Routing}
use Rattle.service_router.specs.Judging.{rules_of}
use Rattle.service_router.specs.Standing.{Standing}
use Rattle.service_router.specs.Inboxes.{without_frame}
use Rattle.service_router.specs.Fits.{led}
use Rattle.service_router.specs.Steps.{call_of}
use Rattle.service_router.specs.Working.{Works, Keeps, Asks, TakesBy, asked_once}
use Rattle.service_router.proofs.Keeping.{ready_client, ready_to_upstream, ready_to_client, ready_calling, ready_knowing, room_behind}

-- ---- it is taken

pub asks_in : (rules : RouteRules) (limit max_calls : ℕ) (s t : Standing) (frame rest : List ℕ) (v : ClientJudged) → s.to_upstream ≡ [] → length s.calls < max_calls → front limit s.client.held ≡ Whole frame rest → IsCut limit s.client.held frame rest → rules.judging.judged frame ≡ v → TakesBy v (rules.target frame) (rules.judging.output frame) (rules.judging.answer frame) rest s t → Asks rules limit max_calls s t (call_notes v (told (s.client.taken + 1)) frame)
asks_in rules limit max_calls s t frame rest v none few whole cut j takes = record {
  frame = frame;
  rest = rest;
  none = none;
  few = few;
  whole = whole;
  cut = cut;
  takes = subst (λ (w : ClientJudged). TakesBy w (rules.target frame) (rules.judging.output frame) (rules.judging.answer frame) rest s t) (sym j) takes;
  noted = ap (λ w. call_notes w (told (s.client.taken + 1)) frame) (sym j);
}

-- what stands once it is let go
pub stands_behind : (s t : Standing) (held rest out bytes : List ℕ) (toward target : ℕ) (calls more : List OpenCall) → t ≡ record s { client = asked_once s.client held; to_upstream = out; toward = toward; calls = calls } → held ≡ rest → out ≡ bytes → toward ≡ target → calls ≡ more → t ≡ record s { client = asked_once s.client rest; to_upstream = bytes; toward = target; calls = more }
stands_behind s t held rest out bytes toward target calls more e a b d f =
    e
    ∙ (ap (λ (x : List ℕ). let r : Standing = record s { client = asked_once s.client x; to_upstream = out; toward = toward; calls = calls } in r) a
    ∙ (ap (λ (x : List ℕ). let r : Standing = record s { client = asked_once s.client rest; to_upstream = x; toward = toward; calls = calls } in r) b
    ∙ (ap (λ (x : ℕ). let r : Standing = record s { client = asked_once s.client rest; to_upstream = bytes; toward = x; calls = calls } in r) d
    ∙ ap (λ (x : List OpenCall). let r : Standing = record s { client = asked_once s.client rest; to_upstream = bytes; toward = target; calls = x } in r) f)))

pub answered_behind : (s t : Standing) (held rest out bytes : List ℕ) → t ≡ record s { client = asked_once s.client held; to_client = out } → held ≡ rest → out ≡ bytes → t ≡ record s { client = asked_once s.client rest; to_client = bytes }
answered_behind s t held rest out bytes e a b =
    e
    ∙ (ap (λ (x : List ℕ). let r : Standing = record s { client = asked_once s.client x; to_client = out } in r) a
    ∙ ap (λ (x : List ℕ). let r : Standing = record s { client = asked_once s.client rest; to_client = x } in r) b)

pub led_to : (calls : List OpenCall) (call : Call) (toward target : ℕ) (all : List OpenCall) → all ≡ calls ++ (record { call = call; target = toward }) ∷ [] → toward ≡ target → all ≡ calls ++ led target call ∷ []
led_to calls call toward target all e same = e ∙ ap (λ u. calls ++ led u call ∷ []) same

-- ---- what is kept

pub keeps_opened : (r : Routing) (s t : State) (out : Buffer) (target : ℕ) (call : Call) → out.room ≡ s.to_upstream.room → length out.bytes ≤ out.room → length s.calls.items < s.calls.capacity → target < length r.targets → t.calls.items ≡ s.calls.items ++ (record { call = call; target = target }) ∷ [] → t.calls.capacity ≡ s.calls.capacity → t ≡ record s { to_upstream = out; client = without_frame s.client; toward = target; calls = t.calls; known = None } → Works r s → Keeps r s t
keeps_opened r s t out target call room fits few led_where items capacity e w =
    let limit = s.client.limit in
    let n = s.calls.capacity in
    let m = length s.ports.items in
    let first : State = record s { to_upstream = out; toward = target } in
    let second : State = record first { client = without_frame s.client } in
    let third : State = record second { calls = t.calls } in
    let more : OpenCall = record { call = call; target = target } in
    let known_one : target < m = omega (arith, led_where, w.targets) in
    let all : All (λ (c : OpenCall). c.target < m) (s.calls.items ++ more ∷ []) =
    All-append (λ (c : OpenCall). c.target < m) s.calls.items (more ∷ []) w.ready.known_targets (All-cons (λ (c : OpenCall). c.target < m) more [] known_one (All-nil (λ (c : OpenCall). c.target < m))) in
    subst (λ (x : State). Keeps r s x) (sym e)
    (record {
      ready = ready_knowing limit n m third None
          (ready_calling limit n m second t.calls capacity (omega (arith, ap length items, length-append s.calls.items (more ∷ []), few)) (subst (λ (cs : List OpenCall). All (λ (c : OpenCall). c.target < m) cs) (sym items) all)
          (ready_client limit n m first (without_frame s.client) (room_behind limit s.client w.ready.client) (ready_to_upstream limit n m target s out room fits w.ready)));
      known = tt;
    })

pub keeps_counted : (r : Routing) (s t : State) (out : Buffer) (toward : ℕ) → out.room ≡ s.to_upstream.room → length out.bytes ≤ out.room → t ≡ record s { to_upstream = out; toward = toward; client = without_frame s.client; known = None } → Works r s → Keeps r s t
keeps_counted r s t out toward room fits e w =
    let limit = s.client.limit in
    let n = s.calls.capacity in
    let m = length s.ports.items in
    let first : State = record s { to_upstream = out; toward = toward } in
    let second : State = record first { client = without_frame s.client } in
    subst (λ (x : State). Keeps r s x) (sym e)
    (record {
      ready = ready_knowing limit n m second None (ready_client limit n m first (without_frame s.client) (room_behind limit s.client w.ready.client) (ready_to_upstream limit n m toward s out room fits w.ready));
      known = tt;
    })

pub keeps_told : (r : Routing) (s t : State) (out : Buffer) → out.room ≡ s.to_client.room → length out.bytes ≤ out.room → t ≡ record s { to_client = out; client = without_frame s.client; known = None } → Works r s → Keeps r s t
keeps_told r s t out room fits e w =
    let limit = s.client.limit in
    let n = s.calls.capacity in
    let m = length s.ports.items in
    let first : State = record s { to_client = out } in
    let second : State = record first { client = without_frame s.client } in
    subst (λ (x : State). Keeps r s x) (sym e)
    (record {
      ready = ready_knowing limit n m second None (ready_client limit n m first (without_frame s.client) (room_behind limit s.client w.ready.client) (ready_to_client limit n m s out room fits w.ready));
      known = tt;
    })

-- a verdict was stored
pub works_waiting : (r : Routing) (s : State) (out : Buffer) (found : Waiting) → out.room ≡ s.to_upstream.room → length out.bytes ≤ out.room → IsFound (rules_of r).judging s.client.limit s.client.held found → Works r s → Works r (record s { to_upstream = out; known = Some found })
works_waiting r s out found room fits is w =
    let limit = s.client.limit in
    let n = s.calls.capacity in
    let m = length s.ports.items in
    record {
      ready = ready_knowing limit n m (record s { to_upstream = out }) (Some found) (ready_to_upstream limit n m s.toward s out room fits w.ready);
      fits = w.fits;
      targets = w.targets;
      known = is;
    }

-- ---- it waits for its turn

pub turn_calls : (r : Bool) (calls : List OpenCall) (b : Bool) → r ≡ false → r ≡ (length calls == 0) → (is_none (map call_of calls) && b) ≡ false
turn_calls r [] b off is = absurd (grind (arith, nat_tests))
turn_calls r (c ∷ cs) b off is = refl

pub turn_due : (a r : Bool) (xs ys : List ℕ) → r ≡ false → r ≡ (length xs == 0) → xs ≡ ys → (a && is_none ys) ≡ false
turn_due a r [] ys off is same = absurd (grind (arith, nat_tests))
turn_due true r (x ∷ xs) ys off is same = ap is_none (sym same)
turn_due false r (x ∷ xs) ys off is same = refl
