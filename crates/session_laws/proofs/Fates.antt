-- What the session's judge makes of a frame of the client, by what the frame says.
use Rattle.std.proofs.Common.{◌≡◌, ℕ, ◌<◌, ◌^◌, List, [], ◌∷◌, ◌++◌, length, Bool, true, false, refl, ap, ◌∙◌, sym, subst}
use Rattle.std.specs.Prelude.{if◌then◌else◌}
use Rattle.thrift_value.specs.declared.kind.MessageType.{MessageType}
use Rattle.thrift_value.specs.declared.kind.MessageType.TheVariants as types
use Rattle.thrift_value.specs.Trees.{Message}
use Rattle.protocol_traits.specs.declared.fault.Fault.{Fault}
use Rattle.protocol_traits.specs.declared.proto.Proto.{Proto}
use Rattle.protocol_traits.specs.declared.proto.Proto.TheVariants as protocols
use Rattle.protocol_traits.specs.Heads.{Header}
use Rattle.type_tables.specs.Declarations.{Declarations}
use Rattle.translate_verdicts.specs.declared.route.Route.{Route}
use Rattle.translate_verdicts.specs.declared.verdict.Cause.{Cause}
use Rattle.translate_verdicts.specs.declared.verdict.Cause.TheVariants.{Grammar, Barred}
use Rattle.translate_verdicts.specs.declared.verdict.Verdict.TheVariants.{Passed, Refused, Unread}
use Rattle.translate_verdicts.specs.Routes.{info_of}
use Rattle.translate_verdicts.specs.Judged.{Judged, judged}
use Rattle.protocol_pairs.specs.Pairs as pairs
use Rattle.protocol_pairs.specs.Pairs.{answered}
use Rattle.session_core.specs.declared.judge.ClientJudged.{ClientJudged}
use Rattle.session_core.specs.declared.judge.ClientJudged.TheVariants as client
use Rattle.session_core.specs.declared.outcome.Halt.{Halt}
use Rattle.session_core.specs.declared.outcome.Halt.TheVariants as halt
use Rattle.session_judge.specs.Setting.{Setting}
use Rattle.session_judge.specs.Client.{is_answered, call_of, passed_on, refused, of_client, answer_by}
use Rattle.session_judge.specs.Client as judging
use Rattle.session_judge.specs.Rules.{asked, rules_of}
use Rattle.gate_base.specs.Bytes.{AreBytes}
use Rattle.binary_laws.specs.Reads.{header_of_message}
use Rattle.verdict_laws.specs.Verdicts.{IsVerdict, IsPlain}
use Rattle.verdict_laws.specs.Verdicts.IsVerdict.{Passes, IsBarred, IsFaulty, IsUnread}
use Rattle.json_protocol.specs.Grammar.{mark}
use Rattle.json_laws.specs.Fronts.{head_tokens}
use Rattle.json_laws.proofs.Marks.{laid_apart}
use Rattle.verdict_laws.specs.Rounds.{plain_in}
use Rattle.verdict_laws.specs.Spellings.{SpellsBy, IsShort}
use Rattle.verdict_laws.proofs.Faulted.{binary_told, compact_told, json_told}
use Rattle.verdict_laws.proofs.Round.{held_round}
use Rattle.session_laws.specs.Saying.{PlaceBy, BeginsWith, Passage, Spells, SpellsHead, FaultBy, IsShallow, SpellsPlainly, Said, GoesOn, Says, failure_of}
use Rattle.session_laws.specs.Saying as saying
use Rattle.session_laws.specs.Exchange.{asking, method_of, way_by, way_of, done, Waits, Tells, Ends, passed, done_for_message, done_for_refused, passed_by}
use Rattle.session_laws.specs.Exchange as exchange
use Rattle.session_laws.proofs.Answering.{answer_spells}

-- ---- any frame

-- a frame says something, and this is the verdict on it
pub data IsSaidBy (p : Passage) (answer : Cause → List ℕ) (frame : List ℕ) (j : Judged) : Type 0 where
  ByMessage : (m : Message) (out : List ℕ) → Says p frame (GoesOn m out) → j ≡ judged (Passed (info_of p.declarations p.route (header_of_message m))) out → IsSaidBy p answer frame j
  ByCause : (h : Header) (cause : Cause) → Says p frame (saying.IsRefused h cause (answer cause)) → j ≡ judged (Refused (info_of p.declarations p.route h) cause) [] → IsSaidBy p answer frame j
  ByFault : (f : Fault) → Says p frame (saying.IsUnread f) → j ≡ judged (Unread f) [] → IsSaidBy p answer frame j

is_plain : (to : Proto) (d : Declarations) (route : Route) (m : Message) (bytes : List ℕ) → IsPlain to d route m bytes → bytes ≡ plain_in to d route m
is_plain protocols.Binary d route m bytes e = e
is_plain protocols.Compact d route m bytes e = e
is_plain protocols.Json d route m bytes e = e

-- a frame that spells a message begins with its header
headed : (d : Declarations) (route : Route) (from : Proto) (m : Message) (frame : List ℕ) → SpellsBy d route from m frame → BeginsWith from (header_of_message m) frame
headed d route protocols.Binary m frame (small, fits, (header, body, head, members, laid)) = (header, body, laid, (small, fits, head))
headed d route protocols.Compact m frame (header, body, head, members, laid) = (header, body, laid, head)
headed d route protocols.Json m frame (name, seq, inner, text, int, fits, are, members, laid) =
    let x = laid_apart (head_tokens m.mtype name seq []) (mark 123 ∷ (inner ++ (mark 125 ∷ mark 93 ∷ []))) frame laid in
    (x.0, x.1, x.2, (name, seq, text, int, fits, x.3))

-- a frame of less than 2^31 bytes is short in every protocol
pub short_in : (protocol : Proto) (frame : List ℕ) → length frame < 2 ^ 31 → IsShort protocol frame
short_in protocols.Binary frame small = tt
short_in protocols.Compact frame small = tt
short_in protocols.Json frame small = small

pub verdict_is : (p : Passage) (frame : List ℕ) → AreBytes frame → IsShort p.from frame
    → IsVerdict (SpellsHead p.from) (Spells p p.from) (FaultBy p p.from) (PlaceBy p p.from) p.declarations p.route p.to frame (pairs.judged p.declarations p.route p.from p.to frame)
verdict_is p frame are short = by_protocol p.from short
  where
    by_protocol : (protocol : Proto) → IsShort protocol frame
        → IsVerdict (SpellsHead protocol) (Spells p protocol) (FaultBy p protocol) (PlaceBy p protocol) p.declarations p.route p.to frame (pairs.judged p.declarations p.route protocol p.to frame)
    by_protocol protocols.Binary short = binary_told p.declarations p.route p.to frame are
    by_protocol protocols.Compact short = compact_told p.declarations p.route p.to frame are
    by_protocol protocols.Json short = json_told p.declarations p.route p.to frame short

pub said_by : (p : Passage) (frame : List ℕ) → AreBytes frame → IsShort p.from frame → IsSaidBy p (answered p.from p.teller frame) frame (pairs.judged p.declarations p.route p.from p.to frame)
said_by p frame are short = by_verdict (verdict_is p frame are short)
  where
    by_verdict : IsVerdict (SpellsHead p.from) (Spells p p.from) (FaultBy p p.from) (PlaceBy p p.from) p.declarations p.route p.to frame (pairs.judged p.declarations p.route p.from p.to frame)
        → IsSaidBy p (answered p.from p.teller frame) frame (pairs.judged p.declarations p.route p.from p.to frame)
    by_verdict (Passes m out spells deep holds plain e) =
        let is = is_plain p.to p.declarations p.route m out plain in
        let over = (held_round p.declarations p.route p.from p.to m frame spells deep are short holds).spells in
        ByMessage m out (spells, deep, holds, (subst (λ b. SpellsBy p.declarations p.route p.to m b) (sym is) over, is)) e
    by_verdict (IsBarred m spot place bar spells deep first at e) =
        let begins = headed p.declarations p.route p.from m frame spells in
        ByCause (header_of_message m) (Barred place bar)
        (begins, record { message = m; spot = spot; spells = spells; shallow = deep; first = first; stands = at }, answer_spells p.route p.from p.teller frame (header_of_message m) (Barred place bar) begins short) e
    by_verdict (IsFaulty header front rest f laid head stands e) =
        ByCause header (Grammar f) ((front, rest, laid, head), stands, answer_spells p.route p.from p.teller frame header (Grammar f) (front, rest, laid, head) short) e
    by_verdict (IsUnread f none stands e) = ByFault f ((λ header begins. none header begins.0 begins.1 begins.2 begins.3), stands) e

-- ---- a frame of the client

-- the rules of the session agree with what is done for what the frame says
pub data IsFate (s : Setting) (x : List ℕ) (a : Said) : Type 0 where
  Opens : (h : Header) (out : List ℕ) → (rules_of s).judged x ≡ client.Opens (call_of (method_of s h)) → (rules_of s).output x ≡ out → done s a ≡ Waits h → passed s a ≡ out ∷ [] → IsFate s x a
  Goes : (out : List ℕ) → (rules_of s).judged x ≡ client.Goes → (rules_of s).output x ≡ out → done s a ≡ exchange.Passes → passed s a ≡ out ∷ [] → IsFate s x a
  IsAnswered : (cause : Cause) (answer : List ℕ) → (rules_of s).judged x ≡ client.Refused cause → (rules_of s).answer x ≡ answer → done s a ≡ Tells answer → passed s a ≡ [] → IsFate s x a
  IsDropped : (cause : Cause) → (rules_of s).judged x ≡ client.Dropped cause → done s a ≡ exchange.Passes → passed s a ≡ [] → IsFate s x a
  Halts : (h : Halt) → (rules_of s).judged x ≡ client.Halts h → done s a ≡ Ends h → passed s a ≡ [] → IsFate s x a

module _ (s : Setting) (x : List ℕ) where
  abbrev output_by : ClientJudged → List ℕ → Type 0
  output_by v out = ((rules_of s).judged x ≡ v) × ((rules_of s).output x ≡ judging.onward v out)

  message_fate : (m : Message) (out : List ℕ) (mtype : MessageType) (answers : Bool) → m.mtype ≡ mtype → is_answered (method_of s (header_of_message m)) ≡ answers
      → output_by (passed_on (method_of s (header_of_message m)) m.mtype) out → IsFate s x (GoesOn m out)
  message_fate m out types.Call true e b o =
      let h = header_of_message m in
      let v : passed_on (method_of s h) m.mtype ≡ client.Opens (call_of (method_of s h)) = ap (passed_on (method_of s h)) e ∙ ap (λ t. if t then client.Opens (call_of (method_of s h)) else client.Goes) b in
      let way : way_of s h ≡ exchange.Answered = ap (way_by (method_of s h)) e ∙ ap (λ t. if t then exchange.Answered else exchange.Unanswered) b in
      Opens h out (o.0 ∙ v) (o.1 ∙ ap (λ w. judging.onward w out) v) (ap (λ w. done_for_message w h) way) (ap (λ w. passed_by w out) way)
  message_fate m out types.Call false e b o =
      let h = header_of_message m in
      let v : passed_on (method_of s h) m.mtype ≡ client.Goes = ap (passed_on (method_of s h)) e ∙ ap (λ t. if t then client.Opens (call_of (method_of s h)) else client.Goes) b in
      let way : way_of s h ≡ exchange.Unanswered = ap (way_by (method_of s h)) e ∙ ap (λ t. if t then exchange.Answered else exchange.Unanswered) b in
      Goes out (o.0 ∙ v) (o.1 ∙ ap (λ w. judging.onward w out) v) (ap (λ w. done_for_message w h) way) (ap (λ w. passed_by w out) way)
  message_fate m out types.Oneway b e f o =
      let h = header_of_message m in
      let v : passed_on (method_of s h) m.mtype ≡ client.Goes = ap (passed_on (method_of s h)) e in
      let way : way_of s h ≡ exchange.Unanswered = ap (way_by (method_of s h)) e in
      Goes out (o.0 ∙ v) (o.1 ∙ ap (λ w. judging.onward w out) v) (ap (λ w. done_for_message w h) way) (ap (λ w. passed_by w out) way)
  message_fate m out types.Reply b e f o =
      let h = header_of_message m in
      let v : passed_on (method_of s h) m.mtype ≡ client.Halts halt.WrongWay = ap (passed_on (method_of s h)) e in
      let way : way_of s h ≡ exchange.Backwards = ap (way_by (method_of s h)) e in
      Halts halt.WrongWay (o.0 ∙ v) (ap (λ w. done_for_message w h) way) (ap (λ w. passed_by w out) way)
  message_fate m out types.Exception b e f o =
      let h = header_of_message m in
      let v : passed_on (method_of s h) m.mtype ≡ client.Halts halt.WrongWay = ap (passed_on (method_of s h)) e in
      let way : way_of s h ≡ exchange.Backwards = ap (way_by (method_of s h)) e in
      Halts halt.WrongWay (o.0 ∙ v) (ap (λ w. done_for_message w h) way) (ap (λ w. passed_by w out) way)

  refused_fate : (h : Header) (cause : Cause) (mtype : MessageType) (answers : Bool) → h.mtype ≡ mtype → is_answered (method_of s h) ≡ answers
      → (rules_of s).judged x ≡ refused (method_of s h) cause h.mtype → (rules_of s).answer x ≡ answer_by (answered s.client s.client x) (refused (method_of s h) cause h.mtype)
      → IsFate s x (saying.IsRefused h cause (answered s.client s.client x cause))
  refused_fate h cause types.Call true e b j k =
      let v : refused (method_of s h) cause h.mtype ≡ client.Refused cause = ap (refused (method_of s h) cause) e ∙ ap (λ t. if t then client.Refused cause else client.Dropped cause) b in
      let way : way_of s h ≡ exchange.Answered = ap (way_by (method_of s h)) e ∙ ap (λ t. if t then exchange.Answered else exchange.Unanswered) b in
      IsAnswered cause (answered s.client s.client x cause) (j ∙ v) (k ∙ ap (answer_by (answered s.client s.client x)) v) (ap (λ w. done_for_refused w (answered s.client s.client x cause)) way) refl
  refused_fate h cause types.Call false e b j k =
      let v : refused (method_of s h) cause h.mtype ≡ client.Dropped cause = ap (refused (method_of s h) cause) e ∙ ap (λ t. if t then client.Refused cause else client.Dropped cause) b in
      let way : way_of s h ≡ exchange.Unanswered = ap (way_by (method_of s h)) e ∙ ap (λ t. if t then exchange.Answered else exchange.Unanswered) b in
      IsDropped cause (j ∙ v) (ap (λ w. done_for_refused w (answered s.client s.client x cause)) way) refl
  refused_fate h cause types.Oneway b e f j k =
      IsDropped cause (j ∙ ap (refused (method_of s h) cause) e) (ap (λ w. done_for_refused w (answered s.client s.client x cause)) (ap (way_by (method_of s h)) e)) refl
  refused_fate h cause types.Reply b e f j k =
      Halts halt.WrongWay (j ∙ ap (refused (method_of s h) cause) e) (ap (λ w. done_for_refused w (answered s.client s.client x cause)) (ap (way_by (method_of s h)) e)) refl
  refused_fate h cause types.Exception b e f j k =
      Halts halt.WrongWay (j ∙ ap (refused (method_of s h) cause) e) (ap (λ w. done_for_refused w (answered s.client s.client x cause)) (ap (way_by (method_of s h)) e)) refl

  -- each frame of the client says something, and the judge agrees
  pub fate : AreBytes x → length x < 2 ^ 31 → (a : Said) × Says (asking s) x a × IsFate s x a
  unfolding info_of
  fate are small = by_said (said_by (asking s) x are (short_in s.client x small))
    where
      by_said : IsSaidBy (asking s) (answered s.client s.client x) x (asked s x) → (a : Said) × Says (asking s) x a × IsFate s x a
      by_said (ByMessage m out says e) = (
        GoesOn m out,
        says,
        message_fate m out m.mtype (is_answered (method_of s (header_of_message m))) refl refl
            (ap (λ j. of_client j.verdict) e, ap (λ j. judging.onward (of_client j.verdict) j.bytes) e),
      )
      by_said (ByCause h cause says e) = (
        saying.IsRefused h cause (answered s.client s.client x cause),
        says,
        refused_fate h cause h.mtype (is_answered (method_of s h)) refl refl
            (ap (λ j. of_client j.verdict) e) (ap (λ j. answer_by (answered s.client s.client x) (of_client j.verdict)) e),
      )
      by_said (ByFault f says e) = (saying.IsUnread f, says, Halts (halt.Unread f) (ap (λ j. of_client j.verdict) e) refl refl)
