-- A read of a client, from the response that waits to what is handed out.
use Rattle.std.proofs.Common.{◌≡◌, ℕ, ◌+◌, ◌-◌, Bool, true, false, List, [], ◌++◌, length, take, drop, not, ◌||◌, refl, sym, ap, ◌∙◌, subst, append-nil, arith}
use Rattle.std.proofs.lemmas.List.{take_all, length-drop}
use Rattle.std.proofs.Math.Seq.{take-add}
use Rattle.gate_hub.specs.Meaning.{Meaning, IsOpen, Wrote}
use Rattle.gate_hub.specs.Hubs.{Leads, WriteLeads, LinkWrites}
use Rattle.gate_hub.specs.declared.hub.Side.TheVariants as side
use Rattle.gate_hub.specs.declared.hub.LinkGot.{LinkGot}
use Rattle.gate_hub.specs.declared.hub.LinkGot.TheVariants as got
use Rattle.gate_hub.specs.declared.hub.LinkPut.TheVariants as put
use Rattle.http_front.specs.declared.stage.Stage.{Stage}
use Rattle.http_front.specs.declared.stage.Stage.TheVariants as stage
use Rattle.http_front.specs.Fronts.{Front, Reading, Fits, holds_back, is_empty, is_asking, is_answered}
use Rattle.http_front.specs.Moving.{Goes, SendsBelow, carried, Keeps, EndsFront, HandsOut, Turns, TurnsGiven, ReadsMore, Waits}
use Rattle.http_front.proofs.Clients.{goes_none, goes_weaker, goes_then, goes_call}
use Rattle.http_front.proofs.Turning.{write_sends, not_ready_sends, failed_sends, sends_then, sends_none}

-- ---- writes until enough was sent

pub sent_first : (told : Meaning → Type 0) (k : ℕ) (bytes : List ℕ) → Goes told told k (SendsBelow (take 0 bytes))
sent_first told k bytes = goes_none told k (SendsBelow []) sends_none

pub sent_more : (told mid told' : Meaning → Type 0) (k : ℕ) (bytes : List ℕ) (sent count : ℕ) → Goes told mid k (SendsBelow (take sent bytes)) → Leads mid told' (IsOpen k) (WriteLeads k side.Client (take (length bytes - sent) (drop sent bytes)) (put.Took count)) → Goes told told' k (SendsBelow (take (sent + count) bytes))
sent_more told mid told' k bytes sent count goes leads =
    let from = take (length bytes - sent) (drop sent bytes) in
    goes_then told mid told' k (SendsBelow (take sent bytes)) (SendsBelow (take count from)) (SendsBelow (take (sent + count) bytes)) (sends_then (take sent bytes) (take count from) (take (sent + count) bytes) (take-add sent count bytes ∙ ap (λ (l : List ℕ). take sent bytes ++ take count l) (sym all))) goes
    (goes_call mid told' k (Wrote k side.Client (length from) (put.Took count)) (LinkWrites from (put.Took count)) (SendsBelow (take count from)) (write_sends from count) leads)
  where
    all : take (length bytes - sent) (drop sent bytes) ≡ drop sent bytes
    all = take_all (length bytes - sent) (drop sent bytes) (omega (arith, length-drop sent bytes))

pub sent_not_ready : (told mid told' : Meaning → Type 0) (k : ℕ) (bytes from : List ℕ) (sent : ℕ) → Goes told mid k (SendsBelow (take sent bytes)) → Leads mid told' (IsOpen k) (WriteLeads k side.Client from put.NotReady) → Goes told told' k (SendsBelow (take sent bytes))
sent_not_ready told mid told' k bytes from sent goes leads =
    goes_then told mid told' k (SendsBelow (take sent bytes)) (SendsBelow []) (SendsBelow (take sent bytes)) (sends_then (take sent bytes) [] (take sent bytes) (sym (append-nil (take sent bytes)))) goes
    (goes_call mid told' k (Wrote k side.Client (length from) put.NotReady) (LinkWrites from put.NotReady) (SendsBelow []) (not_ready_sends from) leads)

pub sent_failed : (told mid told' : Meaning → Type 0) (k : ℕ) (bytes from : List ℕ) (sent : ℕ) → Goes told mid k (SendsBelow (take sent bytes)) → Leads mid told' (IsOpen k) (WriteLeads k side.Client from put.Failed) → Goes told told' k (SendsBelow (take sent bytes))
sent_failed told mid told' k bytes from sent goes leads =
    goes_then told mid told' k (SendsBelow (take sent bytes)) (SendsBelow []) (SendsBelow (take sent bytes)) (sends_then (take sent bytes) [] (take sent bytes) (sym (append-nil (take sent bytes)))) goes
    (goes_call mid told' k (Wrote k side.Client (length from) put.Failed) (LinkWrites from put.Failed) (SendsBelow []) (failed_sends from) leads)

-- ---- reads until a request is whole

pub turns_none : (told : Meaning → Type 0) (k : ℕ) (f g : Front) → g ≡ f → Goes told told k (Turns f g)
turns_none told k f g same = subst (λ (g : Front). Goes told told k (Turns f g)) (sym same) (goes_none told k (Turns f f) (λ l r gave wrote x. x))

pub turns_kept : (told told' : Meaning → Type 0) (k : ℕ) (f g h : Front) → Goes told told' k (Turns f g) → Keeps g h → Goes told told' k (Turns f h)
turns_kept told told' k f g h goes kept = goes_weaker told told' k (Turns f g) (Turns f h) (λ l m t r gave wrote x. kept r (carried m gave wrote) (t r gave wrote x)) goes

pub turns_read : (told mid told' : Meaning → Type 0) (k : ℕ) (f g h : Front) (answer : LinkGot) → Goes told mid k (Turns f g) → Goes mid told' k (ReadsMore answer g h) → Goes told told' k (Turns f h)
turns_read told mid told' k f g h answer goes reads = goes_then told mid told' k (Turns f g) (ReadsMore answer g h) (Turns f h) (λ l m n t s r gave wrote x. s.turns r gave wrote (t r gave wrote x)) goes reads

pub turns_ended : (told mid told' : Meaning → Type 0) (k : ℕ) (f g h i : Front) → Goes told mid k (Turns f g) → Goes mid told' k (ReadsMore got.End g h) → EndsFront h i → Goes told told' k (Turns f i)
turns_ended told mid told' k f g h i goes reads ends =
    goes_then told mid told' k (Turns f g) (ReadsMore got.End g h) (Turns f i) (λ l m n t s r gave wrote x. ends r (carried n gave wrote) (s.turns r gave wrote (t r gave wrote x)) (s.ended refl)) goes reads

-- ---- handing out

pub turns_both : (told mid told' : Meaning → Type 0) (k : ℕ) (f g h : Front) → Goes told mid k (Turns f g) → Goes mid told' k (Turns g h) → Goes told told' k (Turns f h)
turns_both told mid told' k f g h one two = goes_then told mid told' k (Turns f g) (Turns g h) (Turns f h) (λ l m n t s r gave wrote x. s r gave wrote (t r gave wrote x)) one two

pub given_none : (told told' : Meaning → Type 0) (k : ℕ) (r : Reading) (f g : Front) → Goes told told' k (Turns f g) → Goes told told' k (TurnsGiven r [] f g)
given_none told told' k r f g goes =
    goes_weaker told told' k (Turns f g) (TurnsGiven r [] f g) (λ l m t gave wrote x. subst (λ (bytes : List ℕ). Fits r g (carried m bytes wrote)) (sym (append-nil gave)) (t r gave wrote x)) goes

pub given_two : (told mid told' : Meaning → Type 0) (k : ℕ) (r : Reading) (f g h : Front) → Goes told mid k (Turns f g) → Goes mid told' k (Turns g h) → Goes told told' k (TurnsGiven r [] f h)
given_two told mid told' k r f g h one two = given_none told told' k r f h (turns_both told mid told' k f g h one two)

pub given_after : (told mid told' : Meaning → Type 0) (k : ℕ) (r : Reading) (bytes : List ℕ) (f g h i : Front) → Goes told mid k (Turns f g) → Goes mid told' k (Turns g h) → HandsOut r bytes h i → Goes told told' k (TurnsGiven r bytes f i)
given_after told mid told' k r bytes f g h i one two hands =
    goes_weaker told told' k (Turns f h) (TurnsGiven r bytes f i) (λ l m t gave wrote x. hands (carried m gave wrote) (t r gave wrote x)) (turns_both told mid told' k f g h one two)

pub given_over : (told : Meaning → Type 0) (k : ℕ) (r : Reading) (f g : Front) → g ≡ f → Goes told told k (TurnsGiven r [] f g)
given_over told k r f g same = given_none told told k r f g (turns_none told k f g same)

-- ---- stages

pub empty_waits : (s : Stage) (input : List ℕ) → is_empty s ≡ true → Waits s input
empty_waits stage.Head input e = absurd (cc)
empty_waits (stage.Body size given last) input e = absurd (cc)
empty_waits (stage.Answer bytes have last) input e = tt
empty_waits (stage.Response size sent last) input e = tt
empty_waits (stage.Content left last) input e = tt
empty_waits (stage.Empty sent last) input e = tt
empty_waits stage.Missing input e = tt
empty_waits (stage.Mark given) input e = absurd (cc)
empty_waits stage.Early input e = absurd (cc)
empty_waits stage.Over input e = absurd (cc)

pub held_waits : (s : Stage) (input : List ℕ) → holds_back s ≡ true → Waits s input
held_waits stage.Head input e = absurd (cc)
held_waits (stage.Body size given last) input e = absurd (cc)
held_waits (stage.Answer bytes have last) input e = tt
held_waits (stage.Response size sent last) input e = tt
held_waits (stage.Content left last) input e = tt
held_waits (stage.Empty sent last) input e = tt
held_waits stage.Missing input e = tt
held_waits (stage.Mark given) input e = absurd (cc)
held_waits stage.Early input e = absurd (cc)
held_waits stage.Over input e = absurd (cc)

pub unanswered_waits : (s : Stage) (input : List ℕ) → is_answered s ≡ false → Waits s input
unanswered_waits stage.Head input e = absurd (cc)
unanswered_waits (stage.Body size given last) input e = absurd (cc)
unanswered_waits (stage.Answer bytes have last) input e = tt
unanswered_waits (stage.Response size sent last) input e = tt
unanswered_waits (stage.Content left last) input e = tt
unanswered_waits (stage.Empty sent last) input e = tt
unanswered_waits stage.Missing input e = tt
unanswered_waits (stage.Mark given) input e = absurd (cc)
unanswered_waits stage.Early input e = absurd (cc)
unanswered_waits stage.Over input e = absurd (cc)

pub asks : (s : Stage) → holds_back s ≡ false → is_empty s ≡ false → is_asking s ≡ true
asks s held empty = ap (λ (b : Bool). not (b || is_empty s)) held ∙ ap (λ (b : Bool). not b) empty
