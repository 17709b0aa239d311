-- What each step keeps of a router in the program.
use Rattle.std.proofs.Common.{◌≡◌, ℕ, zero, suc, ◌+◌, ◌-◌, ◌==◌, ◌<◌, ◌≤◌, List, [], ◌++◌, length, length-append, append_assoc, take, drop, min, arith, refl, sym, ◌∙◌, ap, subst, Bool, true, false, if◌then◌else◌, Option}
use Rattle.std.specs.List.{All}
use Rattle.std.specs.Vec.{with_item}
use Rattle.std.proofs.lemmas.List.{append-nil, length-take-le, length-drop}
use Rattle.gate_io.specs.Buffer.{Buffer}
use Rattle.circular_buffer.specs.Buffer.{Buffer as Ring}
use Rattle.session_core.proofs.Lengths.{behind_within}
use Rattle.session_core.proofs.Moves.{StandsAtFront, fed_by}
use Rattle.session_core.specs.declared.state.Waiting.{Waiting}
use Rattle.service_router.specs.declared.call.OpenCall.{OpenCall}
use Rattle.service_router.specs.declared.outcome.RouteOutcome.{RouteOutcome}
use Rattle.service_router.specs.declared.state.State.{State}
use Rattle.service_router.specs.Rules.{RouteRules}
use Rattle.service_router.specs.Routing.{Routing}
use Rattle.service_router.specs.Judging.{rules_of}
use Rattle.service_router.specs.Standing.{Standing, History, Inbox, with_inbox, due_to, and_received, and_sent, and_ended}
use Rattle.service_router.specs.Inboxes.{HasRoom, fed, ended, without_frame}
use Rattle.session_core.specs.Notes.{Note}
use Rattle.service_router.specs.Telling.{FitsTold}
use Rattle.service_router.specs.Ends.{IsAtRest}
use Rattle.service_router.specs.Working.{standing, inbox_in, with_inbox_in, let_go_in, IsReady, IsSound, Knows, Works, Keeps, FitsTelling, FitsOn, IsSettledBy}
use Rattle.service_router.proofs.Ports.{set_length, all_set, all_at}
use Rattle.service_router.proofs.Feeding.{fed_on, ended_on, sent_on, let_go}

-- ---- the room of a port

pub room_behind : (limit : ℕ) (inbox : Inbox) → HasRoom limit inbox → HasRoom limit (without_frame inbox)
room_behind limit inbox r = record { limit_is = r.limit_is; within = omega (arith, behind_within inbox.limit inbox.held, r.within) }

room_fed : (limit : ℕ) (inbox : Inbox) (bytes : List ℕ) (count : ℕ) → count ≡ min (length bytes) (inbox.limit + 4 - length inbox.held) → HasRoom limit inbox → HasRoom limit (fed inbox (take count bytes))
room_fed limit inbox bytes count is r =
    let within : count ≤ length bytes = omega (arith, is) in
    record {
      limit_is = r.limit_is;
      within = omega (arith, is, r.limit_is, r.within, length-append inbox.held (take count bytes), length-take-le count bytes within);
    }

room_ended : (limit : ℕ) (inbox : Inbox) → HasRoom limit inbox → HasRoom limit (ended inbox)
room_ended limit inbox r = record { limit_is = r.limit_is; within = r.within }

-- ---- the rooms of a state

pub ready_client : (limit max_calls targets : ℕ) (s : State) (inbox : Inbox) → HasRoom limit inbox → IsReady limit max_calls targets s → IsReady limit max_calls targets (record s { client = inbox })
ready_client limit max_calls targets s inbox room r = record {
  client = room;
  ports = r.ports;
  small = r.small;
  count = r.count;
  some_targets = r.some_targets;
  few_targets = r.few_targets;
  to_client_room = r.to_client_room;
  to_client_within = r.to_client_within;
  to_upstream_room = r.to_upstream_room;
  to_upstream_within = r.to_upstream_within;
  capacity = r.capacity;
  some = r.some;
  few = r.few;
  calls_within = r.calls_within;
  known_targets = r.known_targets;
}

pub ready_target : (limit max_calls targets u : ℕ) (s : State) (inbox : Inbox) → HasRoom limit inbox → IsReady limit max_calls targets s → IsReady limit max_calls targets (record s { ports = with_item s.ports u inbox })
ready_target limit max_calls targets u s inbox room r = record {
  client = r.client;
  ports = all_set (HasRoom limit) s.ports.items u inbox room r.ports;
  small = r.small;
  count = set_length s.ports.items u inbox ∙ r.count;
  some_targets = r.some_targets;
  few_targets = r.few_targets;
  to_client_room = r.to_client_room;
  to_client_within = r.to_client_within;
  to_upstream_room = r.to_upstream_room;
  to_upstream_within = r.to_upstream_within;
  capacity = r.capacity;
  some = r.some;
  few = r.few;
  calls_within = r.calls_within;
  known_targets = r.known_targets;
}

pub ready_with : (port limit max_calls targets : ℕ) (s : State) (inbox : Inbox) → HasRoom limit inbox → IsReady limit max_calls targets s → IsReady limit max_calls targets (with_inbox_in port inbox s)
ready_with zero limit max_calls targets s inbox room r = ready_client limit max_calls targets s inbox room r
ready_with (suc u) limit max_calls targets s inbox room r = ready_target limit max_calls targets u s inbox room r

pub room_at : (port limit max_calls targets : ℕ) (s : State) → port ≤ length s.ports.items → IsReady limit max_calls targets s → HasRoom limit (inbox_in port s)
room_at zero limit max_calls targets s within r = r.client
room_at (suc u) limit max_calls targets s within r = all_at (HasRoom limit) s.ports.items u _ (omega (arith, within)) r.ports

-- what is due to the client
pub ready_to_client : (limit max_calls targets : ℕ) (s : State) (out : Buffer) → out.room ≡ s.to_client.room → length out.bytes ≤ out.room → IsReady limit max_calls targets s → IsReady limit max_calls targets (record s { to_client = out })
ready_to_client limit max_calls targets s out same within r = record {
  client = r.client;
  ports = r.ports;
  small = r.small;
  count = r.count;
  some_targets = r.some_targets;
  few_targets = r.few_targets;
  to_client_room = same ∙ r.to_client_room;
  to_client_within = within;
  to_upstream_room = r.to_upstream_room;
  to_upstream_within = r.to_upstream_within;
  capacity = r.capacity;
  some = r.some;
  few = r.few;
  calls_within = r.calls_within;
  known_targets = r.known_targets;
}

-- what is due to a target
pub ready_to_upstream : (limit max_calls targets toward : ℕ) (s : State) (out : Buffer) → out.room ≡ s.to_upstream.room → length out.bytes ≤ out.room → IsReady limit max_calls targets s → IsReady limit max_calls targets (record s { to_upstream = out; toward = toward })
ready_to_upstream limit max_calls targets toward s out same within r = record {
  client = r.client;
  ports = r.ports;
  small = r.small;
  count = r.count;
  some_targets = r.some_targets;
  few_targets = r.few_targets;
  to_client_room = r.to_client_room;
  to_client_within = r.to_client_within;
  to_upstream_room = same ∙ r.to_upstream_room;
  to_upstream_within = within;
  capacity = r.capacity;
  some = r.some;
  few = r.few;
  calls_within = r.calls_within;
  known_targets = r.known_targets;
}

pub ready_calling : (limit max_calls targets : ℕ) (s : State) (calls : Ring OpenCall) → calls.capacity ≡ s.calls.capacity → length calls.items ≤ max_calls → All (λ (c : OpenCall). c.target < targets) calls.items → IsReady limit max_calls targets s → IsReady limit max_calls targets (record s { calls = calls })
ready_calling limit max_calls targets s calls same within known r = record {
  client = r.client;
  ports = r.ports;
  small = r.small;
  count = r.count;
  some_targets = r.some_targets;
  few_targets = r.few_targets;
  to_client_room = r.to_client_room;
  to_client_within = r.to_client_within;
  to_upstream_room = r.to_upstream_room;
  to_upstream_within = r.to_upstream_within;
  capacity = same ∙ r.capacity;
  some = r.some;
  few = r.few;
  calls_within = within;
  known_targets = known;
}

-- what is known and the outcome take no room
pub ready_knowing : (limit max_calls targets : ℕ) (s : State) (known : Option Waiting) → IsReady limit max_calls targets s → IsReady limit max_calls targets (record s { known = known })
ready_knowing limit max_calls targets s known r = record {
  client = r.client;
  ports = r.ports;
  small = r.small;
  count = r.count;
  some_targets = r.some_targets;
  few_targets = r.few_targets;
  to_client_room = r.to_client_room;
  to_client_within = r.to_client_within;
  to_upstream_room = r.to_upstream_room;
  to_upstream_within = r.to_upstream_within;
  capacity = r.capacity;
  some = r.some;
  few = r.few;
  calls_within = r.calls_within;
  known_targets = r.known_targets;
}

pub ready_ending : (limit max_calls targets : ℕ) (s : State) (outcome : Option RouteOutcome) → IsReady limit max_calls targets s → IsReady limit max_calls targets (record s { outcome = outcome })
ready_ending limit max_calls targets s outcome r = record {
  client = r.client;
  ports = r.ports;
  small = r.small;
  count = r.count;
  some_targets = r.some_targets;
  few_targets = r.few_targets;
  to_client_room = r.to_client_room;
  to_client_within = r.to_client_within;
  to_upstream_room = r.to_upstream_room;
  to_upstream_within = r.to_upstream_within;
  capacity = r.capacity;
  some = r.some;
  few = r.few;
  calls_within = r.calls_within;
  known_targets = r.known_targets;
}

-- nothing is left of what was written
pub cut_within : (out : Buffer) → out.bytes ≡ [] → length out.bytes ≤ out.room
cut_within out none = omega (arith, ap length none)

left_within : (out : Buffer) (n : ℕ) → length out.bytes ≤ out.room → length (drop n out.bytes) ≤ out.room
left_within out n within = omega (arith, within, length-drop n out.bytes)

pub ready_left : (port n limit max_calls targets : ℕ) (s : State) → IsReady limit max_calls targets s → IsReady limit max_calls targets (let_go_in port n s)
ready_left zero n limit max_calls targets s r = ready_to_client limit max_calls targets s _ refl (left_within s.to_client n r.to_client_within) r
ready_left (suc u) n limit max_calls targets s r = by (s.toward == u)
  where
    by : (b : Bool) → IsReady limit max_calls targets (if b then record s { to_upstream = record (s.to_upstream) { bytes = drop n s.to_upstream.bytes } } else s)
    by true = ready_to_upstream limit max_calls targets s.toward s _ refl (left_within s.to_upstream n r.to_upstream_within) r
    by false = r

-- ---- and what comes of one step after another

pub ready_at : (limit k max_calls m targets n : ℕ) (s : State) → k ≡ limit → m ≡ max_calls → n ≡ targets → IsReady k m n s → IsReady limit max_calls targets s
ready_at limit k max_calls m targets n s a b d h =
    subst (λ (i : ℕ). IsReady i max_calls targets s) a (subst (λ (i : ℕ). IsReady k i targets s) b (subst (λ (i : ℕ). IsReady k m i s) d h))

pub sound_of : (limit max_calls targets : ℕ) (s : State) → IsReady limit max_calls targets s → IsSound s
sound_of limit max_calls targets s r = ready_at s.client.limit limit s.calls.capacity max_calls (length s.ports.items) targets s (sym r.client.limit_is) (sym r.capacity) (sym r.count) r

pub works_on : (r : Routing) (a b : State) → Works r a → Keeps r a b → Works r b
works_on r a b w k = record {
  ready = sound_of a.client.limit a.calls.capacity (length a.ports.items) b k.ready;
  fits = omega (arith, k.ready.client.limit_is, w.fits);
  targets = k.ready.count ∙ w.targets;
  known = k.known;
}

pub keeps_still : (r : Routing) (s : State) → Works r s → Keeps r s s
keeps_still r s w = record { ready = w.ready; known = w.known }

pub keeps_on : (r : Routing) (a b c : State) → Keeps r a b → Keeps r b c → Keeps r a c
keeps_on r a b c k l = record {
  ready = ready_at a.client.limit b.client.limit a.calls.capacity b.calls.capacity (length a.ports.items) (length b.ports.items) c k.ready.client.limit_is k.ready.capacity k.ready.count l.ready;
  known = l.known;
}

pub settled_on : (r : Routing) (a b c : State) → Keeps r a b → IsSettledBy r b c → IsSettledBy r a c
settled_on r a b c k h =
    subst (λ (n : ℕ). IsAtRest (rules_of r) n a.calls.capacity (standing c) c.outcome) k.ready.client.limit_is
    (subst (λ (n : ℕ). IsAtRest (rules_of r) b.client.limit n (standing c) c.outcome) k.ready.capacity h)

pub fits_through : (r : Routing) (a b c : State) (added : List Note) → Keeps r a b → FitsTelling r b c added (λ h. h) → (h : History) (past : List Note) → FitsTold (rules_of r) a.client.limit a.calls.capacity h past (standing b) → FitsTold (rules_of r) a.client.limit a.calls.capacity h (past ++ added) (standing c)
fits_through r a b c added k go =
    subst (λ (n : ℕ). (h : History) (past : List Note) → FitsTold (rules_of r) n a.calls.capacity h past (standing b) → FitsTold (rules_of r) n a.calls.capacity h (past ++ added) (standing c)) k.ready.client.limit_is
    (subst (λ (n : ℕ). (h : History) (past : List Note) → FitsTold (rules_of r) b.client.limit n h past (standing b) → FitsTold (rules_of r) b.client.limit n h (past ++ added) (standing c)) k.ready.capacity go)

-- by a judge that is the same
pub works_at : (r q : Routing) (s : State) → q ≡ r → Works r s → Works q s
works_at r q s same w = subst (λ (x : Routing). Works x s) (sym same) w

pub keeps_by : (r q : Routing) (a b : State) → q ≡ r → Keeps q a b → Keeps r a b
keeps_by r q a b same kept = subst (λ (x : Routing). Keeps x a b) same kept

pub settled_by : (r q : Routing) (a b : State) → q ≡ r → IsSettledBy q a b → IsSettledBy r a b
settled_by r q a b same settled = subst (λ (x : Routing). IsSettledBy x a b) same settled

pub fits_by : (r q : Routing) (a b : State) (tells : List Note → Type 0) → q ≡ r → FitsOn q a b tells (λ h. h) → FitsOn r a b tells (λ h. h)
fits_by r q a b tells same fits = subst (λ (x : Routing). FitsOn x a b tells (λ h. h)) same fits

pub stood_still : (rules : RouteRules) (limit max_calls : ℕ) (h : History) (past : List Note) (s t : Standing) → t ≡ s → FitsTold rules limit max_calls h past s → FitsTold rules limit max_calls h past t
stood_still rules limit max_calls h past s t same f = subst (λ (x : Standing). FitsTold rules limit max_calls h past x) (sym same) f

-- nothing was told
pub none_told : (rules : RouteRules) (limit max_calls : ℕ) (h : History) (past : List Note) (s : Standing) → FitsTold rules limit max_calls h past s → FitsTold rules limit max_calls h (past ++ []) s
none_told rules limit max_calls h past s f = subst (λ (n : List Note). FitsTold rules limit max_calls h n s) (sym (append-nil past)) f

-- this was told, and then that
pub told_then : (rules : RouteRules) (limit max_calls : ℕ) (h : History) (past xs ys : List Note) (s : Standing) → FitsTold rules limit max_calls h ((past ++ xs) ++ ys) s → FitsTold rules limit max_calls h (past ++ (xs ++ ys)) s
told_then rules limit max_calls h past xs ys s f = subst (λ (n : List Note). FitsTold rules limit max_calls h n s) (append_assoc past xs ys) f

-- ---- at a port

pub keeps_fed : (port : ℕ) (r : Routing) (s mid : State) (bytes : List ℕ) (count : ℕ) → StandsAtFront → port ≤ length s.ports.items → count ≡ min (length bytes) ((inbox_in port s).limit + 4 - length (inbox_in port s).held) → mid ≡ with_inbox_in port (fed (inbox_in port s) (take count bytes)) s → Works r s → Keeps r s mid
keeps_fed port r s mid bytes count law within is e w =
    subst (λ (t : State). Keeps r s t) (sym e)
    (record {
      ready = ready_with port s.client.limit s.calls.capacity (length s.ports.items) s _ (room_fed s.client.limit (inbox_in port s) bytes count is (room_at port s.client.limit s.calls.capacity (length s.ports.items) s within w.ready)) w.ready;
      known = by port;
    })
  where
    by : (p : ℕ) → Knows (rules_of r) (with_inbox_in p (fed (inbox_in p s) (take count bytes)) s)
    by zero = fed_by s.known (rules_of r).judging s.client.limit s.client.held (take count bytes) law (omega (arith, w.ready.small)) w.known
    by (suc u) = w.known

pub keeps_ended : (port : ℕ) (r : Routing) (s mid : State) → port ≤ length s.ports.items → mid ≡ with_inbox_in port (ended (inbox_in port s)) s → Works r s → Keeps r s mid
keeps_ended port r s mid within e w =
    subst (λ (t : State). Keeps r s t) (sym e)
    (record {
      ready = ready_with port s.client.limit s.calls.capacity (length s.ports.items) s _ (room_ended s.client.limit (inbox_in port s) (room_at port s.client.limit s.calls.capacity (length s.ports.items) s within w.ready)) w.ready;
      known = by port;
    })
  where
    by : (p : ℕ) → Knows (rules_of r) (with_inbox_in p (ended (inbox_in p s)) s)
    by zero = w.known
    by (suc u) = w.known

pub keeps_left : (port : ℕ) (r : Routing) (s mid : State) (n : ℕ) → mid ≡ let_go_in port n s → Works r s → Keeps r s mid
keeps_left port r s mid n e w =
    subst (λ (t : State). Keeps r s t) (sym e)
    (record { ready = ready_left port n s.client.limit s.calls.capacity (length s.ports.items) s w.ready; known = by port })
  where
    at : (u : ℕ) (b : Bool) → Knows (rules_of r) (if b then record s { to_upstream = record (s.to_upstream) { bytes = drop n s.to_upstream.bytes } } else s)
    at u true = w.known
    at u false = w.known

    by : (p : ℕ) → Knows (rules_of r) (let_go_in p n s)
    by zero = w.known
    by (suc u) = at u (s.toward == u)

-- ---- what came and went

stands_with : (port : ℕ) (inbox : Inbox) (s : State) → standing (with_inbox_in port inbox s) ≡ with_inbox port inbox (standing s)
stands_with zero inbox s = refl
stands_with (suc u) inbox s = refl

pub stands_left : (port n : ℕ) (s : State) → standing (let_go_in port n s) ≡ let_go port n (standing s)
stands_left zero n s = refl
stands_left (suc u) n s = by (s.toward == u)
  where
    by : (b : Bool) → standing (if b then record s { to_upstream = record (s.to_upstream) { bytes = drop n s.to_upstream.bytes } } else s) ≡ (if b then record (standing s) { to_upstream = drop n s.to_upstream.bytes } else standing s)
    by true = refl
    by false = refl

pub fits_fed : (port : ℕ) (r : Routing) (limit max_calls : ℕ) (s mid : State) (piece : List ℕ) (h : History) (past : List Note) → port ≤ length s.ports.items → mid ≡ with_inbox_in port (fed (inbox_in port s) piece) s → FitsTold (rules_of r) limit max_calls h past (standing s) → FitsTold (rules_of r) limit max_calls (and_received port h piece) past (standing mid)
fits_fed port r limit max_calls s mid piece h past within e f =
    subst (λ (t : Standing). FitsTold (rules_of r) limit max_calls (and_received port h piece) past t) (sym (ap standing e ∙ stands_with port _ s))
    (fed_on (rules_of r) limit max_calls h past (standing s) port piece within f)

pub fits_ended : (port : ℕ) (r : Routing) (limit max_calls : ℕ) (s mid : State) (h : History) (past : List Note) → port ≤ length s.ports.items → mid ≡ with_inbox_in port (ended (inbox_in port s)) s → FitsTold (rules_of r) limit max_calls h past (standing s) → FitsTold (rules_of r) limit max_calls (and_ended port h) past (standing mid)
fits_ended port r limit max_calls s mid h past within e f =
    subst (λ (t : Standing). FitsTold (rules_of r) limit max_calls (and_ended port h) past t) (sym (ap standing e ∙ stands_with port _ s))
    (ended_on (rules_of r) limit max_calls h past (standing s) port within f)

pub fits_sent : (port : ℕ) (r : Routing) (limit max_calls : ℕ) (s mid : State) (n : ℕ) (h : History) (past : List Note) → mid ≡ let_go_in port n s → FitsTold (rules_of r) limit max_calls h past (standing s) → FitsTold (rules_of r) limit max_calls (and_sent port h (take n (due_to port (standing s)))) past (standing mid)
fits_sent port r limit max_calls s mid n h past e f =
    subst (λ (t : Standing). FitsTold (rules_of r) limit max_calls (and_sent port h (take n (due_to port (standing s)))) past t) (sym (ap standing e ∙ stands_left port n s))
    (sent_on (rules_of r) limit max_calls h past (standing s) port n f)
