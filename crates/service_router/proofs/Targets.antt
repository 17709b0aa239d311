-- What an index into the targets reads and writes.
use Rattle.std.proofs.Common.{◌≡◌, ℕ, zero, suc, ◌+◌, ◌-◌, ◌<◌, ◌≤◌, List, [], ◌∷◌, length, drop, arith, refl, sym, ◌∙◌, ap, subst, Option}
use Rattle.std.specs.Prelude.{get_or, slice_set}
use Rattle.std.specs.List.{All}
use Rattle.std.specs.Vec.{with_item}
use Rattle.std.proofs.lemmas.List.{length-drop}
use Rattle.std.proofs.lemmas.List.Elements.{All-head}
use Rattle.gate_io.specs.Buffer.{Buffer}
use Rattle.framed_transport.specs.Frames.{IsCut, framed}
use Rattle.framed_transport.specs.Front.{Front, Whole, front, behind}
use Rattle.translate_verdicts.specs.declared.verdict.Cause.{Cause}
use Rattle.session_core.specs.Notes.{reply_notes, reply_notes_by}
use Rattle.session_core.specs.Rules.{Rules}
use Rattle.session_core.specs.Fits.{told}
use Rattle.session_core.specs.declared.judge.UpstreamJudged.TheVariants as upstream
use Rattle.session_core.proofs.Moves.{behind_whole}
use Rattle.service_router.specs.declared.call.OpenCall.{OpenCall}
use Rattle.service_router.specs.declared.state.State.{State}
use Rattle.service_router.specs.Routing.{Routing}
use Rattle.service_router.specs.Standing.{Standing, Inbox, silent}
use Rattle.service_router.specs.Inboxes.{without_frame}
use Rattle.service_router.specs.Working.{standing, inbox_in, with_inbox_in, without_call, IsReady, Works, Keeps, Answers}
use Rattle.service_router.proofs.Ports.{read_at, all_behind}
use Rattle.service_router.proofs.Keeping.{room_at, room_behind, ready_to_client, ready_target, ready_calling}

-- the port of a target that was changed
pub at_target : (port : ℕ) (s : State) (before after : Inbox) (change : Inbox → Inbox) → 0 < port → port ≤ length s.ports.items → before ≡ get_or s.ports.items (port - 1) before → after ≡ change before → record s { ports = with_item s.ports (port - 1) after } ≡ with_inbox_in port (change (inbox_in port s)) s
at_target zero s before after change some within is e = absurd (omega (arith, some))
at_target (suc u) s before after change some within is e =
    let place : suc u - 1 ≡ u = omega arith in
    let there : before ≡ get_or s.ports.items u (silent 0) = read_at s.ports.items u before (silent 0) (omega (arith, within)) (subst (λ (n : ℕ). before ≡ get_or s.ports.items n before) place is) in
    ap (λ (n : ℕ). let t : State = record s { ports = with_item s.ports n after } in t) place
    ∙ ap (λ (b : Inbox). let t : State = record s { ports = with_item s.ports u b } in t) (e ∙ ap change there)

-- ---- the target of the oldest call

pub target_known : (limit max_calls targets : ℕ) (s : State) (first : OpenCall) → IsReady limit max_calls targets s → s.calls.items ≡ first ∷ drop 1 s.calls.items → first.target < length s.ports.items
target_known limit max_calls targets s first r e =
    let all : All (λ (c : OpenCall). c.target < targets) (first ∷ drop 1 s.calls.items) = subst (λ (cs : List OpenCall). All (λ (c : OpenCall). c.target < targets) cs) e r.known_targets in
    let within : first.target < targets = All-head (λ (c : OpenCall). c.target < targets) first (drop 1 s.calls.items) all in
    omega (arith, within, r.count)

-- what was read at its place
pub target_read : (s : State) (first : OpenCall) (inbox : Inbox) → first.target < length s.ports.items → inbox ≡ get_or s.ports.items first.target inbox → inbox ≡ inbox_in (suc first.target) s
target_read s first inbox within is = read_at s.ports.items first.target inbox (silent 0) within is

pub target_limit : (limit max_calls targets : ℕ) (s : State) (first : OpenCall) (inbox : Inbox) → IsReady limit max_calls targets s → first.target < length s.ports.items → inbox ≡ inbox_in (suc first.target) s → inbox.limit ≡ limit
target_limit limit max_calls targets s first inbox r within is = ap (λ (i : Inbox). i.limit) is ∙ (room_at (suc first.target) limit max_calls targets s (omega (arith, within)) r).limit_is

-- its front frame, by the limit of all
pub target_front : (limit : ℕ) (s : State) (first : OpenCall) (inbox : Inbox) (f : Front) → inbox ≡ inbox_in (suc first.target) s → inbox.limit ≡ limit → front inbox.limit inbox.held ≡ f → front limit (inbox_in (suc first.target) s).held ≡ f
target_front limit s first inbox f is same e = ap (λ (i : Inbox). front limit i.held) (sym is) ∙ (ap (λ n. front n inbox.held) (sym same) ∙ e)

pub target_cut : (limit : ℕ) (s : State) (first : OpenCall) (inbox : Inbox) (frame rest : List ℕ) → inbox ≡ inbox_in (suc first.target) s → inbox.limit ≡ limit → IsCut inbox.limit inbox.held frame rest → IsCut limit (inbox_in (suc first.target) s).held frame rest
target_cut limit s first inbox frame rest is same cut =
    subst (λ (i : Inbox). IsCut limit i.held frame rest) is (subst (λ (n : ℕ). IsCut n inbox.held frame rest) same cut)

-- ---- once it has answered

-- the state behind its frame, with what is due to the client
abbrev pub answered_in : State → Buffer → ℕ → State
answered_in s out u = without_call u (record s { to_client = out })

pub keeps_answered : (r : Routing) (s t : State) (out : Buffer) (u : ℕ) → out.room ≡ s.to_client.room → length out.bytes ≤ out.room → u < length s.ports.items → t ≡ answered_in s out u → Works r s → Keeps r s t
keeps_answered r s t out u room fits within e w =
    let limit = s.client.limit in
    let n = s.calls.capacity in
    let m = length s.ports.items in
    let mid : State = record s { to_client = out } in
    let written = ready_to_client limit n m s out room fits w.ready in
    let there = room_at (suc u) limit n m s (omega (arith, within)) w.ready in
    let taken = ready_target limit n m u mid (without_frame (inbox_in (suc u) s)) (room_behind limit (inbox_in (suc u) s) there) written in
    subst (λ (x : State). Keeps r s x) (sym e)
    (record {
      ready = ready_calling limit n m (record mid { ports = with_item s.ports u (without_frame (inbox_in (suc u) s)) }) _ refl (omega (arith, length-drop 1 s.calls.items, w.ready.calls_within)) (all_behind (λ (c : OpenCall). c.target < m) 1 s.calls.items w.ready.known_targets) taken;
      known = w.known;
    })

pub answers_in : (rules : Rules) (limit : ℕ) (s t : State) (first : OpenCall) (inbox : Inbox) (frame rest : List ℕ) (out : Buffer) (refused : Option Cause) → s.calls.items ≡ first ∷ drop 1 s.calls.items → first.target < length s.ports.items → inbox ≡ inbox_in (suc first.target) s → inbox.limit ≡ limit → s.to_client.bytes ≡ [] → front inbox.limit inbox.held ≡ Whole frame rest → IsCut inbox.limit inbox.held frame rest → rules.replied first.call frame ≡ upstream.Answers refused → out.bytes ≡ framed (rules.reply first.call frame) → t ≡ answered_in s out first.target → Answers rules limit (standing s) (standing t) (reply_notes_by (suc first.target) refused (told (inbox.taken + 1)) frame)
answers_in rules limit s t first inbox frame rest out refused opened within is same none whole cut judged written e =
    let there = inbox_in (suc first.target) s in
    let left : behind there.held (front there.limit there.held) ≡ rest = subst (λ (i : Inbox). behind i.held (front i.limit i.held) ≡ rest) is (behind_whole inbox.limit inbox.held frame rest whole) in
    record {
      call = first;
      calls = drop 1 s.calls.items;
      frame = frame;
      rest = rest;
      opened = opened;
      known = within;
      none = none;
      whole = target_front limit s first inbox (Whole frame rest) is same whole;
      cut = target_cut limit s first inbox frame rest is same cut;
      refused = refused;
      answers = judged;
      noted = ap (λ (i : Inbox). reply_notes_by (suc first.target) refused (told (i.taken + 1)) frame) is ∙ ap (λ v. reply_notes (suc first.target) v (told (there.taken + 1)) frame) (sym judged);
      after = ap standing e
          ∙ (ap (λ (b : List ℕ). let x : Standing = record (standing s) { to_client = b; calls = drop 1 s.calls.items; upstreams = slice_set s.ports.items first.target (without_frame there) } in x) written
          ∙ ap (λ (b : List ℕ). let x : Standing = record (standing s) { to_client = framed (rules.reply first.call frame); calls = drop 1 s.calls.items; upstreams = slice_set s.ports.items first.target (record there { held = b; taken = told (there.taken + 1) }) } in x) left);
    }
