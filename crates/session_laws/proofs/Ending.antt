-- Why a session ended.
use Rattle.std.proofs.Common.{◌≡◌, ℕ, ◌+◌, ◌<◌, List, [], ◌∷◌, length, Bool, true, false, ◌&&◌, nat_lt, if◌then◌else◌, Option, None, Some, refl, ap, ◌∙◌, sym, subst, arith}
use Rattle.std.proofs.lemmas.Bool.Decides.{nat_tests}
use Rattle.framed_transport.specs.Frames.{framed}
use Rattle.framed_transport.specs.Front.{Front, Part, Whole, Large, front, is_part}
use Rattle.session_core.specs.Rules.{Rules}
use Rattle.session_core.specs.Standing.{Standing}
use Rattle.session_core.specs.Fits.{told}
use Rattle.session_core.specs.Steps as steps
use Rattle.session_core.specs.Steps.{Move, is_none, outcome_of, by_both, by_client, at_end, of_upstream, of_client, upstream_by, upstream_front, upstream_move, by_reply, client_front, by_judged}
use Rattle.session_core.specs.declared.judge.Call.{Call}
use Rattle.session_core.specs.declared.judge.ClientJudged.{ClientJudged}
use Rattle.session_core.specs.declared.judge.ClientJudged.TheVariants as client
use Rattle.session_core.specs.declared.judge.UpstreamJudged.{UpstreamJudged}
use Rattle.session_core.specs.declared.judge.UpstreamJudged.TheVariants as upstream
use Rattle.session_core.specs.declared.outcome.Halt.{Halt}
use Rattle.session_core.specs.declared.outcome.Halt.TheVariants as halt
use Rattle.session_core.specs.declared.outcome.Outcome.{Outcome}
use Rattle.session_core.specs.declared.outcome.Outcome.TheVariants as outcome
use Rattle.session_laws.specs.Carrying.{Halted, ByFrame, ByLength, WithinAFrame}

-- ---- what an outcome says of a session

abbrev pub ClientHaltsBy : Rules → List ℕ → Halt → Type 0
ClientHaltsBy rules frame x = rules.judged frame ≡ client.Halts x

abbrev pub UpstreamHaltsBy : Rules → Call → List ℕ → Halt → Type 0
UpstreamHaltsBy rules call frame x = rules.replied call frame ≡ upstream.Halts x

-- by the session's rules
pub data WhyBy (rules : Rules) (limit : ℕ) (s : Standing) : Outcome → Type 0 where
  ClientBy : (x : Halt) → s.calls ≡ [] → Halted (ClientHaltsBy rules) limit s.client s.client_ended x → WhyBy rules limit s (outcome.ClientFault (told (s.taken + 1)) x)
  UpstreamBy : (call : Call) (calls : List Call) (x : Halt) → s.calls ≡ call ∷ calls → Halted (UpstreamHaltsBy rules call) limit s.upstream s.upstream_ended x → WhyBy rules limit s (outcome.UpstreamFault (told (s.answered + 1)) x)
  GoneBy : (call : Call) (calls : List Call) → s.calls ≡ call ∷ calls → s.upstream_ended ≡ true → s.upstream ≡ [] → WhyBy rules limit s (outcome.UpstreamEnded (length s.calls))
  CleanBy : s.calls ≡ [] → s.client_ended ≡ true → s.client ≡ [] → is_part (front limit s.upstream) ≡ true → WhyBy rules limit s outcome.Clean
  MoreBy : s.calls ≡ [] → s.client_ended ≡ true → s.client ≡ [] → is_part (front limit s.upstream) ≡ false → WhyBy rules limit s (outcome.Unsolicited (told (s.answered + 1)) s.answered)

some_is : (a b : Outcome) → Some a ≡ Some b → a ≡ b
some_is a b e = cc

halt_is : (a b : Halt) → steps.Halts a ≡ steps.Halts b → a ≡ b
halt_is a b e = cc

-- nothing is due
record IsDone (s : Standing) (m : Option Outcome) (o : Outcome) : Type 0 where
  client : s.to_client ≡ []
  upstream : s.to_upstream ≡ []
  is : m ≡ Some o

done_by : (s : Standing) (a b : List ℕ) (m : Option Outcome) (o : Outcome) → s.to_client ≡ a → s.to_upstream ≡ b → (if is_none a && is_none b then m else None) ≡ Some o → IsDone s m o
done_by s [] [] m o c u e = record { client = c; upstream = u; is = e }
done_by s [] (x ∷ b) m o c u e = absurd (cc)
done_by s (x ∷ a) b m o c u e = absurd (cc)

done_of : (rules : Rules) (limit max_calls : ℕ) (s : Standing) (o : Outcome) → outcome_of rules limit max_calls s ≡ Some o → IsDone s (by_both limit s (of_upstream rules limit s) (of_client rules limit max_calls s)) o
unfolding outcome_of
done_of rules limit max_calls s o e = done_by s s.to_client s.to_upstream _ o refl refl e

-- ---- the upstream halts

reply_halts : (v : UpstreamJudged) (s : Standing) (calls : List Call) (reply rest : List ℕ) (x : Halt) → by_reply v s calls reply rest ≡ steps.Halts x → v ≡ upstream.Halts x
reply_halts (upstream.Halts y) s calls reply rest x e = ap upstream.Halts (halt_is y x e)
reply_halts (upstream.Answers refused) s calls reply rest x e = absurd (cc)

part_halts : (ended : Bool) (x : Halt) → (if ended then steps.Halts halt.Inside else steps.Waits) ≡ steps.Halts x → (ended ≡ true) × (halt.Inside ≡ x)
part_halts true x e = (refl, halt_is halt.Inside x e)
part_halts false x e = absurd (cc)

upstream_front_halts : (rules : Rules) (limit : ℕ) (s : Standing) (call : Call) (calls : List Call) (f : Front) (x : Halt) → (s.upstream_ended ≡ true → s.upstream ≡ [] → ⊥) → front limit s.upstream ≡ f → upstream_front rules s call calls f ≡ steps.Halts x
    → Halted (UpstreamHaltsBy rules call) limit s.upstream s.upstream_ended x
upstream_front_halts rules limit s call calls Part x some e m =
    let p = part_halts s.upstream_ended x m in
    subst (Halted (UpstreamHaltsBy rules call) limit s.upstream s.upstream_ended) p.1 (WithinAFrame p.0 (some p.0) (ap is_part e))
upstream_front_halts rules limit s call calls (Large n) x some e m = subst (Halted (UpstreamHaltsBy rules call) limit s.upstream s.upstream_ended) (halt_is (halt.TooLarge n) x m) (ByLength n e)
upstream_front_halts rules limit s call calls (Whole frame rest) x some e m = ByFrame frame rest x e (reply_halts (rules.replied call frame) s calls (rules.reply call frame) rest x m)

-- a call is open, and the move is that of the upstream's front
record IsOpen (rules : Rules) (limit : ℕ) (s : Standing) (x : Halt) : Type 0 where
  call : Call
  calls : List Call
  are : s.calls ≡ call ∷ calls
  move : upstream_front rules s call calls (front limit s.upstream) ≡ steps.Halts x

open_by : (rules : Rules) (limit : ℕ) (s : Standing) (calls : List Call) (x : Halt) → s.to_client ≡ [] → s.calls ≡ calls → upstream_by rules limit s calls ≡ steps.Halts x → IsOpen rules limit s x
open_by rules limit s [] x none c e = absurd (cc)
open_by rules limit s (call ∷ calls) x none c e = record {
  call = call;
  calls = calls;
  are = c;
  move = sym (ap (λ b. upstream_move (is_none b) (is_part (front limit s.upstream)) s.upstream_ended (upstream_front rules s call calls (front limit s.upstream))) none) ∙ e;
}

is_open : (rules : Rules) (limit : ℕ) (s : Standing) (x : Halt) → s.to_client ≡ [] → of_upstream rules limit s ≡ steps.Halts x → IsOpen rules limit s x
unfolding of_upstream
is_open rules limit s x none e = open_by rules limit s s.calls x none refl e

gone_or_not : (rules : Rules) (limit : ℕ) (s : Standing) (x : Halt) (o : Outcome) (ended : Bool) (rest : List ℕ) → s.upstream_ended ≡ ended → s.upstream ≡ rest → IsOpen rules limit s x
    → (if ended && is_none rest then outcome.UpstreamEnded (length s.calls) else outcome.UpstreamFault (told (s.answered + 1)) x) ≡ o → WhyBy rules limit s o
gone_or_not rules limit s x o true [] e r c is = subst (WhyBy rules limit s) is (GoneBy c.call c.calls c.are e r)
gone_or_not rules limit s x o true (b ∷ rest) e r c is =
    subst (WhyBy rules limit s) is (UpstreamBy c.call c.calls x c.are (upstream_front_halts rules limit s c.call c.calls (front limit s.upstream) x (λ t none. let wrong = sym r ∙ none in absurd (cc)) refl c.move))
gone_or_not rules limit s x o false rest e r c is =
    subst (WhyBy rules limit s) is (UpstreamBy c.call c.calls x c.are (upstream_front_halts rules limit s c.call c.calls (front limit s.upstream) x (λ t none. let wrong : false ≡ true = sym e ∙ t in absurd (cc)) refl c.move))

-- ---- the client does

client_halts_by : (v : ClientJudged) (s : Standing) (output answer rest : List ℕ) (x : Halt) → s.calls ≡ [] → s.to_client ≡ [] → by_judged v s output answer rest ≡ steps.Halts x → v ≡ client.Halts x
client_halts_by (client.Halts y) s output answer rest x c d e = ap client.Halts (halt_is y x e)
client_halts_by (client.Opens call) s output answer rest x c d e = absurd (cc)
client_halts_by client.Goes s output answer rest x c d e = absurd (cc)
client_halts_by (client.Refused cause) s output answer rest x c d e =
    let taken = steps.Takes (record s { client = rest; to_client = framed answer; taken = told (s.taken + 1) }) in
    let is : by_judged (client.Refused cause) s output answer rest ≡ taken = ap (λ t. if is_none t && is_none s.to_client then taken else steps.Waits) c ∙ ap (λ t. if is_none t then taken else steps.Waits) d in
    let wrong : taken ≡ steps.Halts x = sym is ∙ e in absurd (cc)
client_halts_by (client.Dropped cause) s output answer rest x c d e = absurd (cc)

client_waits_by : (v : ClientJudged) (s : Standing) (output answer rest : List ℕ) → s.calls ≡ [] → s.to_client ≡ [] → by_judged v s output answer rest ≡ steps.Waits → ⊥
client_waits_by (client.Halts y) s output answer rest c d e = cc
client_waits_by (client.Opens call) s output answer rest c d e = cc
client_waits_by client.Goes s output answer rest c d e = cc
client_waits_by (client.Refused cause) s output answer rest c d e =
    let taken = steps.Takes (record s { client = rest; to_client = framed answer; taken = told (s.taken + 1) }) in
    let is : by_judged (client.Refused cause) s output answer rest ≡ taken = ap (λ t. if is_none t && is_none s.to_client then taken else steps.Waits) c ∙ ap (λ t. if is_none t then taken else steps.Waits) d in
    let wrong : taken ≡ steps.Waits = sym is ∙ e in absurd (cc)
client_waits_by (client.Dropped cause) s output answer rest c d e = cc

client_front_halts : (rules : Rules) (limit : ℕ) (s : Standing) (f : Front) (x : Halt) → s.calls ≡ [] → s.to_client ≡ [] → front limit s.client ≡ f → client_front rules s f ≡ steps.Halts x → Halted (ClientHaltsBy rules) limit s.client s.client_ended x
client_front_halts rules limit s Part x c d e m = absurd (cc)
client_front_halts rules limit s (Large n) x c d e m = subst (Halted (ClientHaltsBy rules) limit s.client s.client_ended) (halt_is (halt.TooLarge n) x m) (ByLength n e)
client_front_halts rules limit s (Whole frame rest) x c d e m = ByFrame frame rest x e (client_halts_by (rules.judged frame) s (rules.output frame) (rules.answer frame) rest x c d m)

client_front_waits : (rules : Rules) (limit : ℕ) (s : Standing) (f : Front) → s.calls ≡ [] → s.to_client ≡ [] → front limit s.client ≡ f → client_front rules s f ≡ steps.Waits → is_part (front limit s.client) ≡ true
client_front_waits rules limit s Part c d e m = ap is_part e
client_front_waits rules limit s (Large n) c d e m = absurd (cc)
client_front_waits rules limit s (Whole frame rest) c d e m = absurd (client_waits_by (rules.judged frame) s (rules.output frame) (rules.answer frame) rest c d m)

-- with no call open and nothing due the client's frame is looked at
looks : (rules : Rules) (limit max_calls : ℕ) (s : Standing) → 0 < max_calls → s.calls ≡ [] → s.to_upstream ≡ [] → of_client rules limit max_calls s ≡ client_front rules s (front limit s.client)
unfolding of_client
looks rules limit max_calls s some c u =
    let few : nat_lt (length s.calls) max_calls ≡ true = grind (arith, nat_tests, ap length c) in
    ap (λ t. if is_none t && nat_lt (length s.calls) max_calls then client_front rules s (front limit s.client) else steps.Waits) u
    ∙ ap (λ t. if t then client_front rules s (front limit s.client) else steps.Waits) few

end_is : (rules : Rules) (limit : ℕ) (s : Standing) (o : Outcome) (part : Bool) → s.calls ≡ [] → s.client_ended ≡ true → s.client ≡ [] → is_part (front limit s.upstream) ≡ part
    → (if part then outcome.Clean else outcome.Unsolicited (told (s.answered + 1)) s.answered) ≡ o → WhyBy rules limit s o
end_is rules limit s o true c e none p is = subst (WhyBy rules limit s) is (CleanBy c e none p)
end_is rules limit s o false c e none p is = subst (WhyBy rules limit s) is (MoreBy c e none p)

ended_is : (rules : Rules) (limit : ℕ) (s : Standing) (o : Outcome) (ended : Bool) (rest : List ℕ) → s.calls ≡ [] → s.client_ended ≡ ended → s.client ≡ rest → is_part (front limit s.client) ≡ true
    → (if ended then Some (if is_none rest then at_end limit s else outcome.ClientFault (told (s.taken + 1)) halt.Inside) else None) ≡ Some o → WhyBy rules limit s o
ended_is rules limit s o true [] c e r p is = end_is rules limit s o (is_part (front limit s.upstream)) c e r refl (some_is _ _ is)
ended_is rules limit s o true (b ∷ rest) c e r p is =
    subst (WhyBy rules limit s) (some_is _ _ is) (ClientBy halt.Inside c (WithinAFrame e (λ none. let wrong = sym r ∙ none in absurd (cc)) p))
ended_is rules limit s o false rest c e r p is = absurd (cc)

client_is_why : (rules : Rules) (limit : ℕ) (s : Standing) (o : Outcome) (m : Move) → s.calls ≡ [] → s.to_client ≡ [] → client_front rules s (front limit s.client) ≡ m → by_client limit s m ≡ Some o → WhyBy rules limit s o
client_is_why rules limit s o (steps.Halts x) c d e is = subst (WhyBy rules limit s) (some_is _ _ is) (ClientBy x c (client_front_halts rules limit s (front limit s.client) x c d refl e))
client_is_why rules limit s o (steps.Takes t) c d e is = absurd (cc)
client_is_why rules limit s o steps.Waits c d e is = ended_is rules limit s o s.client_ended s.client c refl refl (client_front_waits rules limit s (front limit s.client) c d refl e) is

-- ---- both

by_calls : (rules : Rules) (limit max_calls : ℕ) (s : Standing) (o : Outcome) (calls : List Call) → 0 < max_calls → s.calls ≡ calls → s.to_client ≡ [] → s.to_upstream ≡ []
    → (if is_none calls then by_client limit s (of_client rules limit max_calls s) else None) ≡ Some o → WhyBy rules limit s o
by_calls rules limit max_calls s o [] some c d u is = client_is_why rules limit s o (client_front rules s (front limit s.client)) c d refl (sym (ap (by_client limit s) (looks rules limit max_calls s some c u)) ∙ is)
by_calls rules limit max_calls s o (call ∷ calls) some c d u is = absurd (cc)

why_by_move : (rules : Rules) (limit max_calls : ℕ) (s : Standing) (o : Outcome) (m : Move) → 0 < max_calls → s.to_client ≡ [] → s.to_upstream ≡ [] → of_upstream rules limit s ≡ m → by_both limit s m (of_client rules limit max_calls s) ≡ Some o → WhyBy rules limit s o
why_by_move rules limit max_calls s o (steps.Halts x) some d u e is = gone_or_not rules limit s x o s.upstream_ended s.upstream refl refl (is_open rules limit s x d e) (some_is _ _ is)
why_by_move rules limit max_calls s o steps.Waits some d u e is = by_calls rules limit max_calls s o s.calls some refl d u is
why_by_move rules limit max_calls s o (steps.Takes t) some d u e is = by_calls rules limit max_calls s o s.calls some refl d u is

-- all that was due was sent, and this is why the session has its outcome
pub record IsOver (rules : Rules) (limit : ℕ) (s : Standing) (o : Outcome) : Type 0 where
  pub client : s.to_client ≡ []
  pub upstream : s.to_upstream ≡ []
  pub why : WhyBy rules limit s o

pub over_by : (rules : Rules) (limit max_calls : ℕ) (s : Standing) (o : Outcome) → 0 < max_calls → outcome_of rules limit max_calls s ≡ Some o → IsOver rules limit s o
over_by rules limit max_calls s o some e =
    let d = done_of rules limit max_calls s o e in
    record { client = d.client; upstream = d.upstream; why = why_by_move rules limit max_calls s o (of_upstream rules limit s) some d.client d.upstream refl d.is }
