-- A router that fits takes bytes, has bytes sent and meets an end at a port.
use Rattle.std.proofs.Common.{◌≡◌, ℕ, zero, suc, ◌==◌, ◌≤◌, List, [], ◌++◌, length, append_assoc, take, drop, refl, sym, ◌∙◌, ap, subst, Bool, true, false, if◌then◌else◌}
use Rattle.std.specs.List.{flat_map}
use Rattle.std.proofs.lemmas.List.{take-append-drop, append-nil}
use Rattle.framed_transport.specs.Frames.{framed}
use Rattle.session_core.specs.Stands.{IsTaken}
use Rattle.session_core.specs.Fits.{told}
use Rattle.service_router.specs.Rules.{RouteRules}
use Rattle.service_router.specs.Standing.{Standing, History, Inbox, inbox_of, with_inbox, due_to, but_at, and_received, and_sent, and_ended}
use Rattle.service_router.specs.Inboxes.{fed, ended}
use Rattle.session_core.specs.Notes.{Note}
use Rattle.service_router.specs.Fits.{frames_of, written_to}
use Rattle.service_router.specs.Telling.{FitsTold}
use Rattle.service_router.proofs.Ports.{same_port, same_again, first_differs, later_differs, both_later, set_of, same_due}

-- what holds at one port that was changed, and at the others as before
each_port : (P : ℕ → Inbox → Type 0) (port other : ℕ) (inbox : Inbox) (s : Standing) → port ≤ length s.upstreams → ((other == port) ≡ true → P other inbox) → ((other == port) ≡ false → P other (inbox_of other s)) → P other (inbox_of other (with_inbox port inbox s))
each_port P port other inbox s h there elsewhere = subst (λ (i : Inbox). P other i) (sym (set_of port other inbox s h)) (by (other == port) refl)
  where
    by : (b : Bool) → (other == port) ≡ b → P other (if b then inbox else inbox_of other s)
    by true e = there e
    by false e = elsewhere e

same_calls : (port : ℕ) (inbox : Inbox) (s : Standing) → (with_inbox port inbox s).calls ≡ s.calls
same_calls zero inbox s = refl
same_calls (suc u) inbox s = refl

taken_fed : (limit : ℕ) (bytes : List ℕ) (xs : List (List ℕ)) (rest more : List ℕ) → IsTaken limit bytes xs rest → IsTaken limit (bytes ++ more) xs (rest ++ more)
taken_fed limit bytes xs rest more t = record { each = t.each; whole = ap (λ b. b ++ more) t.whole ∙ append_assoc (flat_map framed xs) rest more }

-- ---- bytes came

pub fed_on : (rules : RouteRules) (limit max_calls : ℕ) (h : History) (past : List Note) (s : Standing) (port : ℕ) (piece : List ℕ) → port ≤ length s.upstreams → FitsTold rules limit max_calls h past s → FitsTold rules limit max_calls (and_received port h piece) past (with_inbox port (fed (inbox_of port s) piece) s)
fed_on rules limit max_calls h past s port piece within t =
    let f = t.fits in
    let inbox = fed (inbox_of port s) piece in
    let bytes = h.received port ++ piece in
    record {
      fits = record {
        xs = f.xs;
        ys = f.ys;
        lawful = f.lawful;
        came = λ other. each_port (λ o i. IsTaken limit (but_at port bytes h.received o) (frames_of rules f.xs f.ys o) i.held) port other inbox s within
            (λ same.
            subst (λ (b : Bool). IsTaken limit (if b then bytes else h.received other) (frames_of rules f.xs f.ys other) inbox.held) (sym same)
            (subst (λ o. IsTaken limit bytes (frames_of rules f.xs f.ys o) inbox.held) (sym (same_port other port same))
            (taken_fed limit (h.received port) (frames_of rules f.xs f.ys port) (inbox_of port s).held piece (f.came port))))
            (λ differs. subst (λ (b : Bool). IsTaken limit (if b then bytes else h.received other) (frames_of rules f.xs f.ys other) (inbox_of other s).held) (sym differs) (f.came other));
        went = λ other. ap (λ (b : List ℕ). h.sent other ++ b) (same_due port other inbox s) ∙ f.went other;
        calls = same_calls port inbox s ∙ f.calls;
        counted = λ other. each_port (λ o i. i.taken ≡ told (length (frames_of rules f.xs f.ys o))) port other inbox s within
            (λ same. subst (λ o. inbox.taken ≡ told (length (frames_of rules f.xs f.ys o))) (sym (same_port other port same)) (f.counted port))
            (λ differs. f.counted other);
        ended = λ other. each_port (λ o i. i.ended ≡ h.ended o) port other inbox s within
            (λ same. subst (λ o. inbox.ended ≡ h.ended o) (sym (same_port other port same)) (f.ended port))
            (λ differs. f.ended other);
      };
      course = t.course;
      asked = t.asked;
      answered = t.answered;
      calls = t.calls;
      notes_are = t.notes_are;
    }

-- ---- a port ended

pub ended_on : (rules : RouteRules) (limit max_calls : ℕ) (h : History) (past : List Note) (s : Standing) (port : ℕ) → port ≤ length s.upstreams → FitsTold rules limit max_calls h past s → FitsTold rules limit max_calls (and_ended port h) past (with_inbox port (ended (inbox_of port s)) s)
ended_on rules limit max_calls h past s port within t =
    let f = t.fits in
    let inbox = ended (inbox_of port s) in
    record {
      fits = record {
        xs = f.xs;
        ys = f.ys;
        lawful = f.lawful;
        came = λ other. each_port (λ o i. IsTaken limit (h.received o) (frames_of rules f.xs f.ys o) i.held) port other inbox s within
            (λ same. subst (λ o. IsTaken limit (h.received o) (frames_of rules f.xs f.ys o) inbox.held) (sym (same_port other port same)) (f.came port))
            (λ differs. f.came other);
        went = λ other. ap (λ (b : List ℕ). h.sent other ++ b) (same_due port other inbox s) ∙ f.went other;
        calls = same_calls port inbox s ∙ f.calls;
        counted = λ other. each_port (λ o i. i.taken ≡ told (length (frames_of rules f.xs f.ys o))) port other inbox s within
            (λ same. subst (λ o. inbox.taken ≡ told (length (frames_of rules f.xs f.ys o))) (sym (same_port other port same)) (f.counted port))
            (λ differs. f.counted other);
        ended = λ other. each_port (λ o i. i.ended ≡ but_at port true h.ended o) port other inbox s within
            (λ same. sym (ap (λ (b : Bool). if b then true else h.ended other) same))
            (λ differs. f.ended other ∙ sym (ap (λ (b : Bool). if b then true else h.ended other) differs));
      };
      course = t.course;
      asked = t.asked;
      answered = t.answered;
      calls = t.calls;
      notes_are = t.notes_are;
    }

-- ---- bytes were sent

-- so many of the bytes that were due to a port are gone
abbrev pub let_go : ℕ → ℕ → Standing → Standing
let_go zero n s = record s { to_client = drop n s.to_client }
let_go (suc u) n s = if s.toward == u then record s { to_upstream = drop n s.to_upstream } else s

left_calls : (port n : ℕ) (s : Standing) → (let_go port n s).calls ≡ s.calls
left_calls zero n s = refl
left_calls (suc u) n s = by (s.toward == u)
  where
    by : (b : Bool) → (if b then record s { to_upstream = drop n s.to_upstream } else s).calls ≡ s.calls
    by true = refl
    by false = refl

left_inbox : (port other n : ℕ) (s : Standing) → inbox_of other (let_go port n s) ≡ inbox_of other s
left_inbox zero zero n s = refl
left_inbox zero (suc v) n s = refl
left_inbox (suc u) other n s = by other (s.toward == u)
  where
    by : (o : ℕ) (b : Bool) → inbox_of o (if b then record s { to_upstream = drop n s.to_upstream } else s) ≡ inbox_of o s
    by zero true = refl
    by (suc v) true = refl
    by o false = refl

drop_none : (n : ℕ) → drop {A = ℕ} n [] ≡ []
drop_none zero = refl
drop_none (suc n) = refl

left_due : (port other n : ℕ) (s : Standing) → due_to other (let_go port n s) ≡ (if other == port then drop n (due_to port s) else due_to other s)
left_due zero zero n s = sym (ap (λ (b : Bool). if b then drop n s.to_client else s.to_client) (same_again 0))
left_due zero (suc v) n s = sym (ap (λ (b : Bool). if b then drop n s.to_client else due_to (suc v) s) (later_differs v))
left_due (suc u) zero n s = by (s.toward == u) ∙ sym (ap (λ (b : Bool). if b then drop n (due_to (suc u) s) else s.to_client) (first_differs u))
  where
    by : (b : Bool) → due_to zero (if b then record s { to_upstream = drop n s.to_upstream } else s) ≡ s.to_client
    by true = refl
    by false = refl
left_due (suc u) (suc v) n s = by (s.toward == u) (v == u) (s.toward == v) refl refl refl ∙ ap (λ (b : Bool). if b then drop n (due_to (suc u) s) else due_to (suc v) s) (both_later v u)
  where
    by : (a b d : Bool) → (s.toward == u) ≡ a → (v == u) ≡ b → (s.toward == v) ≡ d → due_to (suc v) (if a then record s { to_upstream = drop n s.to_upstream } else s) ≡ (if b then drop n (if a then s.to_upstream else []) else (if s.toward == v then s.to_upstream else []))
    by true true d e f g = ap (λ (x : Bool). if x then drop n s.to_upstream else []) (subst (λ w. (s.toward == w) ≡ true) (sym (same_port v u f)) e)
    by true false true e f g = absurd (let w : v ≡ u = sym (same_port s.toward v g) ∙ same_port s.toward u e in let x : (v == u) ≡ true = subst (λ k. (v == k) ≡ true) w (same_again v) in cc)
    by true false false e f g = ap (λ (x : Bool). if x then drop n s.to_upstream else []) g ∙ sym (ap (λ (x : Bool). if x then s.to_upstream else []) g)
    by false true d e f g = ap (λ (x : Bool). if x then s.to_upstream else []) (subst (λ w. (s.toward == w) ≡ false) (sym (same_port v u f)) e) ∙ sym (drop_none n)
    by false false d e f g = refl

moved : (before due : List ℕ) (n : ℕ) → (before ++ take n due) ++ drop n due ≡ before ++ due
moved before due n = append_assoc before (take n due) (drop n due) ∙ ap (λ b. before ++ b) (take-append-drop n due)

pub sent_on : (rules : RouteRules) (limit max_calls : ℕ) (h : History) (past : List Note) (s : Standing) (port n : ℕ) → FitsTold rules limit max_calls h past s → FitsTold rules limit max_calls (and_sent port h (take n (due_to port s))) past (let_go port n s)
sent_on rules limit max_calls h past s port n t =
    let f = t.fits in
    let bytes = h.sent port ++ take n (due_to port s) in
    record {
      fits = record {
        xs = f.xs;
        ys = f.ys;
        lawful = f.lawful;
        came = λ other. subst (λ (i : Inbox). IsTaken limit (h.received other) (frames_of rules f.xs f.ys other) i.held) (sym (left_inbox port other n s)) (f.came other);
        went = λ other. ap (λ (b : List ℕ). but_at port bytes h.sent other ++ b) (left_due port other n s) ∙ by other (other == port) refl;
        calls = left_calls port n s ∙ f.calls;
        counted = λ other. ap (λ (i : Inbox). i.taken) (left_inbox port other n s) ∙ f.counted other;
        ended = λ other. ap (λ (i : Inbox). i.ended) (left_inbox port other n s) ∙ f.ended other;
      };
      course = t.course;
      asked = t.asked;
      answered = t.answered;
      calls = t.calls;
      notes_are = t.notes_are;
    }
  where
    by : (other : ℕ) (b : Bool) → (other == port) ≡ b → (if b then h.sent port ++ take n (due_to port s) else h.sent other) ++ (if b then drop n (due_to port s) else due_to other s) ≡ written_to rules t.fits.xs t.fits.ys other
    by other true same = subst (λ o. (h.sent port ++ take n (due_to port s)) ++ drop n (due_to port s) ≡ written_to rules t.fits.xs t.fits.ys o) (sym (same_port other port same)) (moved (h.sent port) (due_to port s) n ∙ t.fits.went port)
    by other false differs = t.fits.went other

-- ---- the same history

-- a history that is the same at each port
pub fits_as : (rules : RouteRules) (limit max_calls : ℕ) (h k : History) (past : List Note) (s : Standing) → ((port : ℕ) → k.received port ≡ h.received port) → ((port : ℕ) → k.sent port ≡ h.sent port) → ((port : ℕ) → k.ended port ≡ h.ended port) → FitsTold rules limit max_calls h past s → FitsTold rules limit max_calls k past s
fits_as rules limit max_calls h k past s received sent ends t =
    let f = t.fits in
    record {
      fits = record {
        xs = f.xs;
        ys = f.ys;
        lawful = f.lawful;
        came = λ port. subst (λ (b : List ℕ). IsTaken limit b (frames_of rules f.xs f.ys port) (inbox_of port s).held) (sym (received port)) (f.came port);
        went = λ port. ap (λ (b : List ℕ). b ++ due_to port s) (sent port) ∙ f.went port;
        calls = f.calls;
        counted = f.counted;
        ended = λ port. f.ended port ∙ sym (ends port);
      };
      course = t.course;
      asked = t.asked;
      answered = t.answered;
      calls = t.calls;
      notes_are = t.notes_are;
    }

none_more : (port other : ℕ) (f : ℕ → List ℕ) → but_at port (f port ++ []) f other ≡ f other
none_more port other f = by (other == port) refl
  where
    by : (t : Bool) → (other == port) ≡ t → (if t then f port ++ [] else f other) ≡ f other
    by true same = append-nil (f port) ∙ ap f (sym (same_port other port same))
    by false differs = refl

pub fits_none : (rules : RouteRules) (limit max_calls port : ℕ) (h : History) (past : List Note) (s : Standing) → FitsTold rules limit max_calls h past s → FitsTold rules limit max_calls (and_received port h []) past s
fits_none rules limit max_calls port h past s f = fits_as rules limit max_calls h (and_received port h []) past s (λ other. none_more port other h.received) (λ other. refl) (λ other. refl) f

-- pieces that came one after another
one_more : (port other : ℕ) (a b : List ℕ) (f : ℕ → List ℕ) → but_at port (f port ++ (a ++ b)) f other ≡ but_at port (but_at port (f port ++ a) f port ++ b) (but_at port (f port ++ a) f) other
one_more port other a b f = by (other == port) refl
  where
    by : (t : Bool) → (other == port) ≡ t → (if t then f port ++ (a ++ b) else f other) ≡ (if t then but_at port (f port ++ a) f port ++ b else (if t then f port ++ a else f other))
    by true same = sym (append_assoc (f port) a b) ∙ sym (ap (λ (x : Bool). (if x then f port ++ a else f port) ++ b) (same_again port))
    by false differs = refl

pub fits_pieces : (rules : RouteRules) (limit max_calls port : ℕ) (h : History) (past : List Note) (a b : List ℕ) (s : Standing) → FitsTold rules limit max_calls (and_received port (and_received port h a) b) past s → FitsTold rules limit max_calls (and_received port h (a ++ b)) past s
fits_pieces rules limit max_calls port h past a b s f = fits_as rules limit max_calls (and_received port (and_received port h a) b) (and_received port h (a ++ b)) past s (λ other. one_more port other a b h.received) (λ other. refl) (λ other. refl) f
