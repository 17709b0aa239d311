-- How much a router holds.
use Rattle.std.proofs.Common.{◌≡◌, ℕ, zero, suc, ◌+◌, ◌*◌, ◌<◌, ◌≤◌, List, [], ◌∷◌, length, map, take, arith, refl, sym, ◌∙◌, ap, Option, Some, None}
use Rattle.std.specs.Prelude.{get_or, replicate}
use Rattle.std.specs.List.{All}
use Rattle.std.proofs.Math.Nat.{mul-add, add-mul}
use Rattle.std.proofs.lemmas.Nat.{mul-le}
use Rattle.std.proofs.lemmas.List.Elements.{All-head, All-tail}
use Rattle.service_router.specs.declared.outcome.RouteOutcome.{RouteOutcome}
use Rattle.service_router.specs.declared.state.State.{State}
use Rattle.service_router.specs.Routing.{Routing}
use Rattle.service_router.specs.Standing.{Inbox}
use Rattle.service_router.specs.Inboxes.{HasRoom}
use Rattle.service_router.specs.Ends.{held_of_all, bytes_held, most_held}
use Rattle.session_core.specs.Rooms.{due_room}
use Rattle.service_router.specs.Router.{Rooms, Seen, IsSame, rooms_for}
use Rattle.service_router.specs.Working.{standing, rooms_in, IsReady, IsSound, Works, Keeps}
use Rattle.std.proofs.lemmas.List.{take_all}
use Rattle.service_router.proofs.Ports.{all_at}
use Rattle.service_router.proofs.Keeping.{sound_of}

one_more : (n x : ℕ) → suc n * x ≡ x + n * x
one_more n x = omega (arith, add-mul 1 n x)

pub held_all : (limit : ℕ) (us : List Inbox) → All (HasRoom limit) us → held_of_all us ≤ length us * (limit + 4)
held_all limit [] rooms = omega arith
held_all limit (u ∷ us) rooms =
    let first = All-head (HasRoom limit) u us rooms in
    omega (arith, first.within, held_all limit us (All-tail (HasRoom limit) u us rooms), one_more (length us) (limit + 4))

-- the room for a target covers what is held of it, and that of one what is due and held besides
room_grows : (n limit : ℕ) → 0 < n → n * (limit + 4) + (24 * limit + 508) ≤ n * (25 * limit + 512)
room_grows n limit some =
    let split : n * ((limit + 4) + (24 * limit + 508)) ≡ n * (limit + 4) + n * (24 * limit + 508) = mul-add n (limit + 4) (24 * limit + 508) in
    let whole : (limit + 4) + (24 * limit + 508) ≡ 25 * limit + 512 = omega arith in
    let least : 1 * (24 * limit + 508) ≤ n * (24 * limit + 508) = mul-le 1 (24 * limit + 508) n (24 * limit + 508) (omega (arith, some)) (omega arith) in
    omega (arith, split, ap (λ m. n * m) whole, least)

pub holds_within : (limit max_calls targets : ℕ) (s : State) (o : Option RouteOutcome) → IsReady limit max_calls targets s → bytes_held limit (standing s) o ≤ most_held limit max_calls (length s.ports.items)
holds_within limit max_calls targets s (Some o) r = omega arith
holds_within limit max_calls targets s None r =
    let n = length s.ports.items in
    let held = held_all limit s.ports.items r.ports in
    let grows = room_grows n limit (omega (arith, r.count, r.some_targets)) in
    let more : (n + 1) * (25 * limit + 512) ≡ n * (25 * limit + 512) + 1 * (25 * limit + 512) = add-mul n 1 (25 * limit + 512) in
    omega (arith, held, grows, more, r.client.within, r.to_client_within, r.to_client_room, r.to_upstream_within, r.to_upstream_room, r.calls_within)

pub sound_holds : (s : State) (o : Option RouteOutcome) → IsSound s → bytes_held s.client.limit (standing s) o ≤ most_held s.client.limit s.calls.capacity (length s.ports.items)
sound_holds s o r = holds_within s.client.limit s.calls.capacity (length s.ports.items) s o r

pub kept_holds : (r : Routing) (old new : State) (o : Option RouteOutcome) → Keeps r old new → bytes_held new.client.limit (standing new) o ≤ most_held new.client.limit new.calls.capacity (length new.ports.items)
kept_holds r old new o k = sound_holds new o (sound_of old.client.limit old.calls.capacity (length old.ports.items) new k.ready)

-- ---- the targets one after another

pub held_next : (us : List Inbox) (n : ℕ) (u : Inbox) → n < length us → u ≡ get_or us n u → held_of_all (take (n + 1) us) ≡ held_of_all (take n us) + length u.held
held_next [] n u h e = absurd (omega (arith, h))
held_next (x ∷ us) zero u h e = omega (arith, ap (λ (i : Inbox). length i.held) e)
held_next (x ∷ us) (suc n) u h e =
    let place : suc n + 1 ≡ suc (n + 1) = omega arith in
    omega (arith, ap (λ m. held_of_all (take m (x ∷ us))) place, held_next us n u (omega (arith, h)) e)

pub held_front : (limit n : ℕ) (us : List Inbox) → All (HasRoom limit) us → n ≤ length us → held_of_all (take n us) ≤ n * (limit + 4)
held_front limit zero us rooms h = omega arith
held_front limit (suc n) [] rooms h = absurd (omega (arith, h))
held_front limit (suc n) (x ∷ us) rooms h =
    let first = All-head (HasRoom limit) x us rooms in
    omega (arith, first.within, held_front limit n us (All-tail (HasRoom limit) x us rooms) (omega (arith, h)), one_more n (limit + 4))

-- the sum fits its type
pub held_fits : (limit n : ℕ) (us : List Inbox) (held more : ℕ) → All (HasRoom limit) us → n < length us → length us ≤ 16 → held ≡ held_of_all (take n us) → more ≤ limit + 4 → held + more ≤ 17 * (limit + 4)
held_fits limit n us held more rooms h few is fits =
    let least : n * (limit + 4) ≤ 16 * (limit + 4) = mul-le n (limit + 4) 16 (limit + 4) (omega (arith, h, few)) (omega arith) in
    omega (arith, is, held_front limit n us rooms (omega (arith, h)), least, fits)

-- ---- the rooms stay

limits_are : (limit : ℕ) (us : List Inbox) → All (HasRoom limit) us → map (λ (inbox : Inbox). inbox.limit + 4) us ≡ replicate (length us) (limit + 4)
limits_are limit [] rooms = refl
limits_are limit (u ∷ us) rooms =
    ap (λ n. (n + 4) ∷ map (λ (inbox : Inbox). inbox.limit + 4) us) (All-head (HasRoom limit) u us rooms).limit_is ∙ ap (λ ns. (limit + 4) ∷ ns) (limits_are limit us (All-tail (HasRoom limit) u us rooms))

pub rooms_are : (limit max_calls targets : ℕ) (s : State) → IsReady limit max_calls targets s → rooms_in s ≡ rooms_for limit max_calls targets
rooms_are limit max_calls targets s r =
    let client : s.client.limit + 4 ≡ limit + 4 = ap (λ n. n + 4) r.client.limit_is in
    let upstreams : map (λ (inbox : Inbox). inbox.limit + 4) s.ports.items ≡ replicate targets (limit + 4) = limits_are limit s.ports.items r.ports ∙ ap (λ n. replicate n (limit + 4)) r.count in
    ap (λ n. let x : Rooms = record (rooms_in s) { client = n } in x) client
    ∙ (ap (λ us. let x : Rooms = record (rooms_in s) { client = limit + 4; upstreams = us } in x) upstreams
    ∙ (ap (λ n. let x : Rooms = record (rooms_in s) { client = limit + 4; upstreams = replicate targets (limit + 4); to_client = n } in x) r.to_client_room
    ∙ (ap (λ n. let x : Rooms = record (rooms_in s) { client = limit + 4; upstreams = replicate targets (limit + 4); to_client = due_room limit; to_upstream = n } in x) r.to_upstream_room
    ∙ ap (λ n. let x : Rooms = record { client = limit + 4; upstreams = replicate targets (limit + 4); to_client = due_room limit; to_upstream = due_room limit; calls = n } in x) r.capacity)))

-- the router as its callers see it
abbrev pub seen : Routing → State → Seen
seen r s = record { routing = r; limit = s.client.limit; max_calls = s.calls.capacity; rooms = rooms_in s; standing = standing s; outcome = s.outcome }

pub same_kept : (r q : Routing) (old new : State) → q ≡ r → Works r old → Keeps r old new → IsSame (seen r old) (seen q new)
same_kept r q old new same w k = record {
  routing = same;
  limit = k.ready.client.limit_is;
  max_calls = k.ready.capacity;
  rooms = rooms_are old.client.limit old.calls.capacity (length old.ports.items) new k.ready ∙ sym (rooms_are old.client.limit old.calls.capacity (length old.ports.items) old w.ready);
  targets = k.ready.count;
}

-- what was read at a place has the limit of all
pub room_read : (limit : ℕ) (us : List Inbox) (n : ℕ) (u : Inbox) → All (HasRoom limit) us → n < length us → u ≡ get_or us n u → u.limit ≡ limit
room_read limit us n u rooms within is = ap (λ (i : Inbox). i.limit) is ∙ (all_at (HasRoom limit) us n u within rooms).limit_is

pub taken_all : (us : List Inbox) (n : ℕ) → length us ≤ n → held_of_all (take n us) ≡ held_of_all us
taken_all us n h = ap held_of_all (take_all n us h)
