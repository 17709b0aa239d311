-- What a session keeps while bytes come and go.
use Rattle.std.proofs.Common.{◌≡◌, ℕ, ◌+◌, ◌-◌, ◌≤◌, List, [], ◌++◌, length, length-append, take, min, arith, refl, sym, ◌∙◌, ap, subst, append_assoc, Option, Some}
use Rattle.std.proofs.lemmas.List.{length-take-le, length-drop, append-nil}
use Rattle.session_core.specs.Rules.{Rules}
use Rattle.session_core.specs.Standing.{Standing, History}
use Rattle.session_core.specs.Notes.{Note}
use Rattle.session_core.specs.Telling.{FitsTold}
use Rattle.session_core.specs.Session.{and_came, and_sent, and_ended}
use Rattle.session_core.specs.Halves.{HasRooms, fed, let_go, ended, without_frame}
use Rattle.session_core.specs.Working.{standing, limit_of, half_of, with_half, IsReady, Works, Keeps, IsSettled, IsSettledBy, FitsOn, Goes}
use Rattle.session_core.specs.declared.half.Half.{Half}
use Rattle.session_core.specs.declared.judge.Call.{Call}
use Rattle.session_core.specs.declared.outcome.Outcome.{Outcome}
use Rattle.session_core.specs.declared.outcome.Halt.{Halt}
use Rattle.session_core.specs.declared.state.Waiting.{Waiting}
use Rattle.session_core.specs.declared.state.Standstill.{Standstill}
use Rattle.gate_io.specs.Buffer.{Buffer}
use Rattle.circular_buffer.specs.Buffer.{Buffer as Ring}
use Rattle.session_core.specs.declared.state.State.{State}
use Rattle.gate_hub.specs.declared.hub.Side.{Side}
use Rattle.gate_hub.specs.declared.hub.Side.TheVariants as side
use Rattle.session_core.proofs.Lengths.{behind_within}
use Rattle.session_core.proofs.Moves.{StandsAtFront, fed_by}
use Rattle.session_core.proofs.Courses.{told_like}
use Rattle.session_core.proofs.Feeding.{fed_client, fed_upstream, sent_client, sent_upstream, ended_client, ended_upstream}

-- ---- the rooms of a half

pub rooms_behind : (limit : ℕ) (half left : Half) → left ≡ without_frame half → HasRooms limit half → HasRooms limit left
rooms_behind limit half left e r =
    subst (λ (h : Half). HasRooms limit h) (sym e)
    (record {
      limit_is = r.limit_is;
      due_room_is = r.due_room_is;
      held_within = omega (arith, behind_within half.held.limit half.held.held, r.held_within);
      due_within = r.due_within;
    })

rooms_fed : (limit : ℕ) (half : Half) (bytes : List ℕ) (count : ℕ) → count ≡ min (length bytes) (half.held.limit + 4 - length half.held.held) → HasRooms limit half → HasRooms limit (fed half (take count bytes))
rooms_fed limit half bytes count is r =
    let within : count ≤ length bytes = omega (arith, is) in
    record {
      limit_is = r.limit_is;
      due_room_is = r.due_room_is;
      held_within = omega (arith, is, r.limit_is, r.held_within, length-append half.held.held (take count bytes), length-take-le count bytes within);
      due_within = r.due_within;
    }

rooms_left : (limit : ℕ) (half : Half) (n : ℕ) → HasRooms limit half → HasRooms limit (let_go half n)
rooms_left limit half n r = record {
  limit_is = r.limit_is;
  due_room_is = r.due_room_is;
  held_within = r.held_within;
  due_within = omega (arith, r.due_within, length-drop n half.due.bytes);
}

rooms_ended : (limit : ℕ) (half : Half) → HasRooms limit half → HasRooms limit (ended half)
rooms_ended limit half r = record { limit_is = r.limit_is; due_room_is = r.due_room_is; held_within = r.held_within; due_within = r.due_within }

-- ---- the rooms of a state

ready_with : (x : Side) (limit max_calls : ℕ) (s : State) (half : Half) → HasRooms limit half → IsReady limit max_calls s → IsReady limit max_calls (with_half x s half)
ready_with side.Client limit max_calls s half rooms r = record {
  client = rooms;
  upstream = r.upstream;
  small = r.small;
  capacity = r.capacity;
  some = r.some;
  few = r.few;
  calls_within = r.calls_within;
}
ready_with side.Upstream limit max_calls s half rooms r = record {
  client = r.client;
  upstream = rooms;
  small = r.small;
  capacity = r.capacity;
  some = r.some;
  few = r.few;
  calls_within = r.calls_within;
}

half_rooms : (x : Side) (limit max_calls : ℕ) (s : State) → IsReady limit max_calls s → HasRooms limit (half_of x s)
half_rooms side.Client limit max_calls s r = r.client
half_rooms side.Upstream limit max_calls s r = r.upstream

pub limit_by : (x : Side) (limit max_calls : ℕ) (s : State) → IsReady limit max_calls s → (half_of x s).held.limit ≡ limit
limit_by x limit max_calls s r = (half_rooms x limit max_calls s r).limit_is

rooms_written : (limit : ℕ) (half : Half) (out : Buffer) → out.room ≡ half.due.room → length out.bytes ≤ out.room → HasRooms limit half → HasRooms limit (record half { due = out })
rooms_written limit half out same within r = record { limit_is = r.limit_is; due_room_is = same ∙ r.due_room_is; held_within = r.held_within; due_within = within }

-- once something was written to what is due to a side
pub ready_written : (x : Side) (limit max_calls : ℕ) (s : State) (out : Buffer) → out.room ≡ (half_of x s).due.room → length out.bytes ≤ out.room → IsReady limit max_calls s → IsReady limit max_calls (with_half x s (record (half_of x s) { due = out }))
ready_written x limit max_calls s out same within r = ready_with x limit max_calls s _ (rooms_written limit (half_of x s) out same within (half_rooms x limit max_calls s r)) r

-- nothing is left of what was written
pub cut_within : (out : Buffer) → out.bytes ≡ [] → length out.bytes ≤ out.room
cut_within out none = omega (arith, ap length none)

pub ready_calling : (limit max_calls : ℕ) (s : State) (calls : Ring Call) → calls.capacity ≡ s.calls.capacity → length calls.items ≤ max_calls → IsReady limit max_calls s → IsReady limit max_calls (record s { calls = calls })
ready_calling limit max_calls s calls same within r = record {
  client = r.client;
  upstream = r.upstream;
  small = r.small;
  capacity = same ∙ r.capacity;
  some = r.some;
  few = r.few;
  calls_within = within;
}

-- what is known, why a side halts and the outcome take no room
pub ready_knowing : (limit max_calls : ℕ) (s : State) (known : Option Waiting) → IsReady limit max_calls s → IsReady limit max_calls (record s { known = known })
ready_knowing limit max_calls s known r = record { client = r.client; upstream = r.upstream; small = r.small; capacity = r.capacity; some = r.some; few = r.few; calls_within = r.calls_within }

pub ready_ending : (limit max_calls : ℕ) (s : State) (outcome : Option Outcome) → IsReady limit max_calls s → IsReady limit max_calls (record s { outcome = outcome })
ready_ending limit max_calls s outcome r = record { client = r.client; upstream = r.upstream; small = r.small; capacity = r.capacity; some = r.some; few = r.few; calls_within = r.calls_within }

pub ready_halting : (limit max_calls : ℕ) (s : State) (halt : Halt) → IsReady limit max_calls s → IsReady limit max_calls (record s { halt = halt })
ready_halting limit max_calls s halt r = record { client = r.client; upstream = r.upstream; small = r.small; capacity = r.capacity; some = r.some; few = r.few; calls_within = r.calls_within }

-- ---- a step keeps

pub keeps_fed : (x : Side) (rules : Rules) (longest : ℕ) (s mid : State) (bytes : List ℕ) (count : ℕ) → StandsAtFront → count ≡ min (length bytes) ((half_of x s).held.limit + 4 - length (half_of x s).held.held) → mid ≡ with_half x s (fed (half_of x s) (take count bytes)) → Works rules longest s → Keeps rules s mid
keeps_fed x rules longest s mid bytes count law is e w = subst (λ (t : State). Keeps rules s t) (sym e) (by x is)
  where
    by : (y : Side) → count ≡ min (length bytes) ((half_of y s).held.limit + 4 - length (half_of y s).held.held) → Keeps rules s (with_half y s (fed (half_of y s) (take count bytes)))
    by side.Client at = record {
      ready = ready_with side.Client (limit_of s) s.calls.capacity s _ (rooms_fed (limit_of s) s.client bytes count at w.ready.client) w.ready;
      known = fed_by s.known rules (limit_of s) s.client.held.held (take count bytes) law (omega (arith, w.ready.small)) w.known;
    }
    by side.Upstream at = record {
      ready = ready_with side.Upstream (limit_of s) s.calls.capacity s _ (rooms_fed (limit_of s) s.upstream bytes count at w.ready.upstream) w.ready;
      known = w.known;
    }

pub keeps_left : (x : Side) (rules : Rules) (longest : ℕ) (s mid : State) (n : ℕ) → mid ≡ with_half x s (let_go (half_of x s) n) → Works rules longest s → Keeps rules s mid
keeps_left x rules longest s mid n e w = subst (λ (t : State). Keeps rules s t) (sym e) (by x)
  where
    by : (y : Side) → Keeps rules s (with_half y s (let_go (half_of y s) n))
    by side.Client = record {
      ready = ready_with side.Client (limit_of s) s.calls.capacity s _ (rooms_left (limit_of s) s.client n w.ready.client) w.ready;
      known = w.known;
    }
    by side.Upstream = record {
      ready = ready_with side.Upstream (limit_of s) s.calls.capacity s _ (rooms_left (limit_of s) s.upstream n w.ready.upstream) w.ready;
      known = w.known;
    }

pub keeps_ended : (x : Side) (rules : Rules) (longest : ℕ) (s mid : State) → mid ≡ with_half x s (ended (half_of x s)) → Works rules longest s → Keeps rules s mid
keeps_ended x rules longest s mid e w = subst (λ (t : State). Keeps rules s t) (sym e) (by x)
  where
    by : (y : Side) → Keeps rules s (with_half y s (ended (half_of y s)))
    by side.Client = record {
      ready = ready_with side.Client (limit_of s) s.calls.capacity s _ (rooms_ended (limit_of s) s.client w.ready.client) w.ready;
      known = w.known;
    }
    by side.Upstream = record {
      ready = ready_with side.Upstream (limit_of s) s.calls.capacity s _ (rooms_ended (limit_of s) s.upstream w.ready.upstream) w.ready;
      known = w.known;
    }

-- ---- and what comes of one step after another

pub ready_at : (limit k max_calls m : ℕ) (s : State) → k ≡ limit → m ≡ max_calls → IsReady k m s → IsReady limit max_calls s
ready_at limit k max_calls m s a b h = subst (λ (n : ℕ). IsReady n max_calls s) a (subst (λ (n : ℕ). IsReady k n s) b h)

pub sound_of : (limit max_calls : ℕ) (s : State) → IsReady limit max_calls s → IsReady (limit_of s) s.calls.capacity s
sound_of limit max_calls s r = ready_at (limit_of s) limit s.calls.capacity max_calls s (sym r.client.limit_is) (sym r.capacity) r

pub works_on : (rules : Rules) (longest : ℕ) (a b : State) → Works rules longest a → Keeps rules a b → Works rules longest b
works_on rules longest a b w k = record {
  ready = sound_of (limit_of a) a.calls.capacity b k.ready;
  fits = omega (arith, k.ready.client.limit_is, w.fits);
  known = k.known;
}

pub keeps_still : (rules : Rules) (longest : ℕ) (s : State) → Works rules longest s → Keeps rules s s
keeps_still rules longest s w = record { ready = w.ready; known = w.known }

pub keeps_halting : (rules : Rules) (longest : ℕ) (s : State) (halt : Halt) → Works rules longest s → Keeps rules s (record s { halt = halt })
keeps_halting rules longest s halt w = record { ready = ready_halting (limit_of s) s.calls.capacity s halt w.ready; known = w.known }

-- where nothing changed but why a side halts
pub keeps_looking : (rules : Rules) (longest : ℕ) (s t : State) → t ≡ record s { halt = t.halt } → Works rules longest s → Keeps rules s t
keeps_looking rules longest s t same w = subst (λ (u : State). Keeps rules s u) (sym same) (keeps_halting rules longest s t.halt w)

pub keeps_on : (rules : Rules) (a b c : State) → Keeps rules a b → Keeps rules b c → Keeps rules a c
keeps_on rules a b c k l = record {
  ready = ready_at (limit_of a) (limit_of b) a.calls.capacity b.calls.capacity c k.ready.client.limit_is k.ready.capacity l.ready;
  known = l.known;
}

pub settled_on : (rules : Rules) (a b c : State) → Keeps rules a b → IsSettledBy rules b c → IsSettledBy rules a c
settled_on rules a b c k h =
    subst (λ (n : ℕ). IsSettled rules n a.calls.capacity c) k.ready.client.limit_is
    (subst (λ (n : ℕ). IsSettled rules (limit_of b) n c) k.ready.capacity h)

-- the same over what stands, by its limit and its number of calls
abbrev pub FitsThrough : Rules → ℕ → ℕ → Standing → Standing → (List Note → Type 0) → Type 0
FitsThrough rules limit max_calls s t tells =
    (added : List Note) × tells added ×
    ((h : History) (past : List Note) → FitsTold rules limit max_calls h past s → FitsTold rules limit max_calls h (past ++ added) t)

pub fits_through : (rules : Rules) (a b c : State) (tells : List Note → Type 0) → Keeps rules a b → FitsOn rules b c tells (λ h. h) → FitsThrough rules (limit_of a) a.calls.capacity (standing b) (standing c) tells
fits_through rules a b c tells k go =
    subst (λ (n : ℕ). FitsThrough rules n a.calls.capacity (standing b) (standing c) tells) k.ready.client.limit_is
    (subst (λ (n : ℕ). FitsThrough rules (limit_of b) n (standing b) (standing c) tells) k.ready.capacity go)

-- nothing was told
pub fits_quietly : (rules : Rules) (a b : State) (tells : List Note → Type 0) (on : History → History) → tells [] → ((h : History) (past : List Note) → FitsTold rules (limit_of a) a.calls.capacity h past (standing a) → FitsTold rules (limit_of a) a.calls.capacity (on h) past (standing b)) → FitsOn rules a b tells on
fits_quietly rules a b tells on none by =
    ([], none, λ h past f. subst (λ (ns : List Note). FitsTold rules (limit_of a) a.calls.capacity (on h) ns (standing b)) (sym (append-nil past)) (by h past f))

-- some was told, and then some more
pub fits_then : (rules : Rules) (a b c : State) (first second both : List Note → Type 0) (on : History → History) → ((xs ys : List Note) → first xs → second ys → both (xs ++ ys)) → FitsOn rules a b first on → FitsThrough rules (limit_of a) a.calls.capacity (standing b) (standing c) second → FitsOn rules a c both on
fits_then rules a b c first second both on follows p q = (
  p.0 ++ q.0,
  follows p.0 q.0 p.1 q.1,
  λ h past f.
      subst (λ (ns : List Note). FitsTold rules (limit_of a) a.calls.capacity (on h) ns (standing c)) (append_assoc past p.0 q.0) (q.2 (on h) (past ++ p.0) (p.2 h past f)),
)

-- where nothing more can be taken nothing is told
pub stood : (rules : Rules) (limit max_calls : ℕ) (s t : Standing) (notes : List Note) (why : Standstill) (tells : List Note → Type 0) → Goes rules limit max_calls s t notes (Some why) → tells notes → FitsThrough rules limit max_calls s t tells
stood rules limit max_calls s t notes why tells goes told_are = (
  notes,
  told_are,
  λ h past f.
      subst (λ (u : Standing). FitsTold rules limit max_calls h (past ++ notes) u) (sym goes.0)
      (subst (λ (ns : List Note). FitsTold rules limit max_calls h ns s) (sym (ap (λ ns. past ++ ns) goes.2 ∙ append-nil past)) f),
)

-- ---- what came and went

pub fits_fed : (x : Side) (rules : Rules) (limit max_calls : ℕ) (s mid : State) (piece : List ℕ) (h : History) (past : List Note) → mid ≡ with_half x s (fed (half_of x s) piece) → FitsTold rules limit max_calls h past (standing s) → FitsTold rules limit max_calls (and_came x h piece) past (standing mid)
fits_fed x rules limit max_calls s mid piece h past e f = subst (λ (t : State). FitsTold rules limit max_calls (and_came x h piece) past (standing t)) (sym e) (by x)
  where
    by : (y : Side) → FitsTold rules limit max_calls (and_came y h piece) past (standing (with_half y s (fed (half_of y s) piece)))
    by side.Client = told_like rules limit max_calls h _ past (standing s) _ f (fed_client rules limit max_calls h (standing s) piece f.fits) refl refl refl
    by side.Upstream = told_like rules limit max_calls h _ past (standing s) _ f (fed_upstream rules limit max_calls h (standing s) piece f.fits) refl refl refl

pub fits_sent : (x : Side) (rules : Rules) (limit max_calls : ℕ) (s mid : State) (n : ℕ) (h : History) (past : List Note) → mid ≡ with_half x s (let_go (half_of x s) n) → FitsTold rules limit max_calls h past (standing s) → FitsTold rules limit max_calls (and_sent x h (take n (half_of x s).due.bytes)) past (standing mid)
fits_sent x rules limit max_calls s mid n h past e f = subst (λ (t : State). FitsTold rules limit max_calls (and_sent x h (take n (half_of x s).due.bytes)) past (standing t)) (sym e) (by x)
  where
    by : (y : Side) → FitsTold rules limit max_calls (and_sent y h (take n (half_of y s).due.bytes)) past (standing (with_half y s (let_go (half_of y s) n)))
    by side.Client = told_like rules limit max_calls h _ past (standing s) _ f (sent_client rules limit max_calls h (standing s) n f.fits) refl refl refl
    by side.Upstream = told_like rules limit max_calls h _ past (standing s) _ f (sent_upstream rules limit max_calls h (standing s) n f.fits) refl refl refl

pub fits_ended : (x : Side) (rules : Rules) (limit max_calls : ℕ) (s mid : State) (h : History) (past : List Note) → mid ≡ with_half x s (ended (half_of x s)) → FitsTold rules limit max_calls h past (standing s) → FitsTold rules limit max_calls (and_ended x h) past (standing mid)
fits_ended x rules limit max_calls s mid h past e f = subst (λ (t : State). FitsTold rules limit max_calls (and_ended x h) past (standing t)) (sym e) (by x)
  where
    by : (y : Side) → FitsTold rules limit max_calls (and_ended y h) past (standing (with_half y s (ended (half_of y s))))
    by side.Client = told_like rules limit max_calls h _ past (standing s) _ f (ended_client rules limit max_calls h (standing s) f.fits) refl refl refl
    by side.Upstream = told_like rules limit max_calls h _ past (standing s) _ f (ended_upstream rules limit max_calls h (standing s) f.fits) refl refl refl

-- pieces that came one after another
pub came_on : (x : Side) (h : History) (a b : List ℕ) → and_came x (and_came x h a) b ≡ and_came x h (a ++ b)
came_on side.Client h a b = ap (λ (xs : List ℕ). let r : History = record h { from_client = xs } in r) (append_assoc h.from_client a b)
came_on side.Upstream h a b = ap (λ (xs : List ℕ). let r : History = record h { from_upstream = xs } in r) (append_assoc h.from_upstream a b)

pub came_none : (x : Side) (h : History) → and_came x h [] ≡ h
came_none side.Client h = ap (λ (xs : List ℕ). let r : History = record h { from_client = xs } in r) (append-nil h.from_client)
came_none side.Upstream h = ap (λ (xs : List ℕ). let r : History = record h { from_upstream = xs } in r) (append-nil h.from_upstream)

-- by a judge that is the same
pub works_at : (J : Type 0) (rules : J → Rules) (longest : J → ℕ) (j k : J) (s : State) → k ≡ j → Works (rules j) (longest j) s → Works (rules k) (longest k) s
works_at J rules longest j k s same w = subst (λ (x : J). Works (rules x) (longest x) s) (sym same) w

pub keeps_by : (J : Type 0) (rules : J → Rules) (j k : J) (a b : State) → k ≡ j → Keeps (rules k) a b → Keeps (rules j) a b
keeps_by J rules j k a b same kept = subst (λ (x : J). Keeps (rules x) a b) same kept

pub settled_by : (J : Type 0) (rules : J → Rules) (j k : J) (a b : State) → k ≡ j → IsSettledBy (rules k) a b → IsSettledBy (rules j) a b
settled_by J rules j k a b same settled = subst (λ (x : J). IsSettledBy (rules x) a b) same settled

pub fits_by : (J : Type 0) (rules : J → Rules) (j k : J) (a b : State) (tells : List Note → Type 0) → k ≡ j → FitsOn (rules k) a b tells (λ h. h) → FitsOn (rules j) a b tells (λ h. h)
fits_by J rules j k a b tells same fits = subst (λ (x : J). FitsOn (rules x) a b tells (λ h. h)) same fits
