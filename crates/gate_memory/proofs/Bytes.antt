-- What the hub in memory holds stays bytes.
use Rattle.std.proofs.Common.{◌≡◌, ℕ, zero, suc, ◌+◌, List, [], ◌∷◌, ◌++◌, take, drop, Bool, true, false, Option, None, Some, IfSome, ap, sym, subst, inl, inr, option_map, if◌then◌else◌, slice_index_or, Fits, w8}
use Rattle.std.specs.List.{slice_get}
use Rattle.std.proofs.Math.ListN.{set}
use Rattle.std.proofs.lemmas.List.{drop-drop}
use Rattle.gate_base.specs.Bytes.{AreBytes}
use Rattle.gate_hub.specs.declared.hub.Side.{Side}
use Rattle.gate_hub.specs.declared.hub.Side.TheVariants as side
use Rattle.gate_hub.specs.declared.hub.HubNext.{HubNext}
use Rattle.gate_hub.specs.declared.hub.HubNext.TheVariants as event
use Rattle.gate_hub.specs.declared.hub.LinkGot.{LinkGot}
use Rattle.gate_hub.specs.declared.hub.LinkGot.TheVariants as got
use Rattle.gate_hub.specs.declared.hub.LinkPut.{LinkPut}
use Rattle.gate_hub.specs.declared.hub.LinkPut.TheVariants as put
use Rattle.gate_memory.specs.Link.{LinkState, AreLinkBytes, ReadsLink, WritesLink, arrives, finishes, gets_room, will_break}
use Rattle.gate_memory.specs.Hub.{HubState, AreSessionBytes, AreSessionsBytes, IsStepBytes, AreStepsBytes, AreHubBytes, AtMemSide, AnswersStep, StepsBy, step_of, ready, changed_session, changed_or_none, new_mem_session, is_open_at}
use Rattle.gate_memory.specs.declared.hub.MemSession.{MemSession}
use Rattle.gate_memory.specs.declared.hub.Stepped.{Stepped}
use Rattle.gate_memory.specs.declared.hub.Stepped.TheVariants as stepped
use Rattle.gate_memory.specs.declared.steps.HubStep.{HubStep}
use Rattle.gate_memory.specs.declared.steps.HubStep.TheVariants as step

-- a slice whose elements have the width of a byte
pub all_bytes : (xs : List ℕ) → ((i : ℕ) → Fits w8 (slice_index_or xs i 0)) → AreBytes xs
all_bytes [] fits = tt
all_bytes (x ∷ xs) fits = ((fits 0).fits, all_bytes xs (λ i. fits (suc i)))

bytes_both : (xs ys : List ℕ) → AreBytes xs → AreBytes ys → AreBytes (xs ++ ys)
bytes_both [] ys p q = q
bytes_both (x ∷ xs) ys p q = (p.0, bytes_both xs ys p.1 q)

bytes_take : (n : ℕ) (xs : List ℕ) → AreBytes xs → AreBytes (take n xs)
bytes_take zero xs p = tt
bytes_take (suc n) [] p = tt
bytes_take (suc n) (x ∷ xs) p = (p.0, bytes_take n xs p.1)

bytes_drop : (n : ℕ) (xs : List ℕ) → AreBytes xs → AreBytes (drop n xs)
bytes_drop zero xs p = p
bytes_drop (suc n) [] p = tt
bytes_drop (suc n) (x ∷ xs) p = bytes_drop n xs p.1

-- a link of which one list each was kept or stands in for another
same_bytes : (a b : LinkState) → b.told.received ≡ a.told.received → b.ahead ≡ a.ahead → AreLinkBytes a → AreLinkBytes b
same_bytes a b received ahead p = (subst AreBytes (sym received) p.0, subst AreBytes (sym ahead) p.1)

pub read_bytes : (chunk : ℕ) (into : List ℕ) (answer : LinkGot) (a b : LinkState) → ReadsLink chunk into answer a b → AreLinkBytes a → AreLinkBytes b
read_bytes chunk into (got.Bytes n) a b (told, exact) p = (
  subst AreBytes (sym (ap (λ l. l.received) told.1)) (bytes_both a.told.received (take n into) p.0 (subst AreBytes (sym exact.2) (bytes_take n a.ahead p.1))),
  subst AreBytes (sym (ap (λ l. l.ahead) exact.3)) (bytes_drop n a.ahead p.1),
)
read_bytes chunk into got.NotReady a b (told, exact) p = same_bytes a b (ap (λ l. l.received) told.1) (ap (λ l. l.ahead) exact.3) p
read_bytes chunk into got.End a b (told, exact) p = same_bytes a b (ap (λ l. l.received) told) (ap (λ l. l.ahead) exact.1) p
read_bytes chunk into got.Failed a b (told, exact) p = same_bytes a b (ap (λ l. l.received) told.1) (ap (λ l. l.ahead) exact.1) p

pub write_bytes : (chunk : ℕ) (from : List ℕ) (answer : LinkPut) (refused refused' : ℕ) (a b : LinkState) → WritesLink chunk from answer refused refused' a b → AreLinkBytes a → AreLinkBytes b
write_bytes chunk from (put.Took n) refused refused' a b (told, exact) p = same_bytes a b (ap (λ l. l.received) told) (ap (λ l. l.ahead) exact.3) p
write_bytes chunk from put.NotReady refused refused' a b (told, exact) p = same_bytes a b (ap (λ l. l.received) told) (ap (λ l. l.ahead) exact.3) p
write_bytes chunk from put.Failed refused refused' a b (told, inl exact) p = same_bytes a b (ap (λ l. l.received) told) (ap (λ l. l.ahead) exact.2) p
write_bytes chunk from put.Failed refused refused' a b (told, inr exact) p = same_bytes a b (ap (λ l. l.received) told) (ap (λ l. l.ahead) exact.3) p

pub side_bytes : (Step : LinkState → LinkState → Type 0) (at : Side) (s s' : MemSession) → ((a b : LinkState) → Step a b → AreLinkBytes a → AreLinkBytes b) → AtMemSide at Step s s' → AreSessionBytes s → AreSessionBytes s'
side_bytes Step side.Client s s' keeps (link, step, now) p = subst AreSessionBytes (sym now) (keeps s.client link step p.0, p.1)
side_bytes Step side.Upstream s s' keeps (link, step, now) p = subst AreSessionBytes (sym now) (p.0, keeps s.upstream link step p.1)

pub get_bytes : (xs : List MemSession) (k : ℕ) → AreSessionsBytes xs → IfSome (slice_get xs k) AreSessionBytes
get_bytes [] k all = tt
get_bytes (x ∷ xs) zero all = all.0
get_bytes (x ∷ xs) (suc k) all = get_bytes xs k all.1

pub set_bytes : (xs : List MemSession) (k : ℕ) (s : MemSession) → AreSessionBytes s → AreSessionsBytes xs → AreSessionsBytes (set xs k s)
set_bytes [] k s p all = tt
set_bytes (x ∷ xs) zero s p all = (p, all.1)
set_bytes (x ∷ xs) (suc k) s p all = (all.0, set_bytes xs k s p all.1)

opened_bytes : (xs : List MemSession) → AreSessionsBytes xs → AreSessionsBytes (xs ++ new_mem_session ∷ [])
opened_bytes [] all = (((tt, tt), (tt, tt)), tt)
opened_bytes (x ∷ xs) all = (all.0, opened_bytes xs all.1)

-- one session was changed, and nothing of the steps
pub one_bytes : (k : ℕ) (s s' : MemSession) (a b : HubState) → slice_get a.sessions k ≡ Some s → b.sessions ≡ set a.sessions k s' → b.steps ≡ a.steps → (AreSessionBytes s → AreSessionBytes s') → AreHubBytes a → AreHubBytes b
one_bytes k s s' a b was now steps keeps p =
    let before : AreSessionBytes s = subst (λ (o : Option MemSession). IfSome o AreSessionBytes) was (get_bytes a.sessions k p.sessions) in
    record { steps = subst AreStepsBytes (sym steps) p.steps; sessions = subst AreSessionsBytes (sym now) (set_bytes a.sessions k s' (keeps before) p.sessions) }

-- ---- the steps of the outside

-- a change leaves bytes where it is made
abbrev pub KeepsBytes : (LinkState → Option LinkState) → Type 0
KeepsBytes change = (link : LinkState) → AreLinkBytes link → IfSome (change link) AreLinkBytes

pub arrive_bytes : (bytes : List ℕ) → AreBytes bytes → KeepsBytes (arrives bytes)
arrive_bytes bytes are link p = by link.finished
  where
    by : (t : Bool) → IfSome (if t then None else Some (record link { ahead = link.ahead ++ bytes })) AreLinkBytes
    by true = tt
    by false = (p.0, bytes_both link.ahead bytes p.1 are)

session_bytes : (o : Option LinkState) (f : LinkState → MemSession) → IfSome o AreLinkBytes → ((link : LinkState) → AreLinkBytes link → AreSessionBytes (f link)) → IfSome (option_map f o) AreSessionBytes
session_bytes None f p keeps = tt
session_bytes (Some link) f p keeps = keeps link p

changed_bytes : (at : Side) (change : LinkState → Option LinkState) (s : MemSession) → KeepsBytes change → AreSessionBytes s → IfSome (changed_session at change s) AreSessionBytes
changed_bytes side.Client change s keeps p = session_bytes (change s.client) _ (keeps s.client p.0) (λ link q. (q, p.1))
changed_bytes side.Upstream change s keeps p = session_bytes (change s.upstream) _ (keeps s.upstream p.1) (λ link q. (p.0, q))

-- what a step brings
abbrev BringsBytes : Option (HubNext × List MemSession) → Type 0
BringsBytes brings = IfSome brings (λ brought. AreSessionsBytes brought.1)

ready_bytes : (k : ℕ) (at : Side) (change : LinkState → Option LinkState) (sessions : List MemSession) → KeepsBytes change → AreSessionsBytes sessions → BringsBytes (ready k at change sessions)
ready_bytes k at change sessions keeps all = by (is_open_at sessions k)
  where
    put : (o : Option MemSession) → IfSome o AreSessionBytes → BringsBytes (option_map (λ s. (event.Ready k, set sessions k s)) o)
    put None p = tt
    put (Some s) p = set_bytes sessions k s p all

    found : (o : Option MemSession) → IfSome o AreSessionBytes → IfSome (changed_or_none at change o) AreSessionBytes
    found None p = tt
    found (Some s) p = changed_bytes at change s keeps p

    by : (t : Bool) → BringsBytes (if t then option_map (λ s. (event.Ready k, set sessions k s)) (changed_or_none at change (slice_get sessions k)) else None)
    by true = put (changed_or_none at change (slice_get sessions k)) (found (slice_get sessions k) (get_bytes sessions k all))
    by false = tt

step_bytes : (first : HubStep) (sessions : List MemSession) → IsStepBytes first → AreSessionsBytes sessions → BringsBytes (step_of first sessions)
unfolding step_of
step_bytes step.Connect sessions is all = opened_bytes sessions all
step_bytes (step.Arrive k at bytes) sessions is all = ready_bytes k at (arrives bytes) sessions (arrive_bytes bytes is) all
step_bytes (step.Finish k at) sessions is all = ready_bytes k at finishes sessions (λ link p. p) all
step_bytes (step.Room k at n) sessions is all = ready_bytes k at (gets_room n) sessions (λ link p. p) all
step_bytes (step.Break k at) sessions is all = ready_bytes k at will_break sessions (λ link p. p) all
step_bytes step.BreakNext sessions is all = all

-- a step that brings an event, and one that is passed over
pub event_bytes : (a b : HubState) (answer : HubNext) → StepsBy a b (stepped.Event answer) → AreHubBytes a → AreHubBytes b
event_bytes a b answer (first, rest, cut, (brought, brings, answers)) p =
    let all : AreStepsBytes (first ∷ rest) = subst AreStepsBytes cut p.steps in
    let brings_bytes : AreSessionsBytes brought.1 = subst BringsBytes brings (step_bytes first a.sessions all.0 p.sessions) in
    by answers brings_bytes all.1
  where
    by : AnswersStep first brought rest a b answer → AreSessionsBytes brought.1 → AreStepsBytes rest → AreHubBytes b
    by (inl (is, now)) sessions steps = subst AreHubBytes (sym now) (record { steps = steps; sessions = sessions })
    by (inr (needs, is, now)) sessions steps = subst AreHubBytes (sym now) (record { steps = steps; sessions = p.sessions })

pub over_bytes : (a b : HubState) → StepsBy a b stepped.Over → AreHubBytes a → AreHubBytes b
over_bytes a b (first, rest, cut, none, now) p =
    let all : AreStepsBytes (first ∷ rest) = subst AreStepsBytes cut p.steps in
    subst AreHubBytes (sym now) (record { steps = all.1; sessions = p.sessions })

-- a step that failed brings nothing
tail_steps : (steps : List HubStep) → AreStepsBytes steps → AreStepsBytes (drop 1 steps)
tail_steps [] p = tt
tail_steps (x ∷ steps) p = p.1

pub failed_bytes : (inside h b : HubState) (steps : List HubStep) (place n : ℕ) → b ≡ record h { last_event = Some event.Failed; faults = n } → h.sessions ≡ inside.sessions → h.steps ≡ drop (place + 1) steps → inside.steps ≡ drop place steps → AreHubBytes inside → AreHubBytes b
failed_bytes inside h b steps place n after sessions left were p =
    subst AreHubBytes (sym after)
    (record { steps = subst AreStepsBytes (sym left) (subst AreStepsBytes (drop-drop 1 place steps) (tail_steps (drop place steps) (subst AreStepsBytes were p.steps))); sessions = subst AreSessionsBytes (sym sessions) p.sessions })

-- by what was proved of the table
pub by_bytes : (inside a b : HubState) (answer : HubNext) (result : Stepped) → inside ≡ a → result ≡ stepped.Event answer → StepsBy a b result → AreHubBytes inside → AreHubBytes b
by_bytes inside a b answer result view is by p = event_bytes a b answer (subst (λ (r : Stepped). StepsBy a b r) is by) (subst AreHubBytes view p)
