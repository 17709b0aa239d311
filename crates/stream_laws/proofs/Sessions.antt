-- What a server has carried, from its clause.
use Rattle.std.proofs.Common.{◌≡◌, ℕ, inl, inr, Option, refl, sym, subst}
use Rattle.gate_hub.specs.Meaning.{Meaning}
use Rattle.gate_hub.specs.Hubs.{Counts, StartLeads}
use Rattle.gate_hub.specs.declared.hub.Began.TheVariants as began
use Rattle.gate_hub.specs.declared.hub.Served.{Served}
use Rattle.session_judge.specs.Setting.{Setting}
use Rattle.session_judge.specs.Rules.{rules_of}
use Rattle.proxy_server.specs.Serving.{IsFresh}
use Rattle.proxy_server.specs.Steps.{Outside, Serves}
use Rattle.gate_words.specs.declared.options.Declared.{Declared}
use Rattle.gate_words.specs.declared.peers.Sides.{Sides}
use Rattle.gate_words.specs.declared.serving.Serving.{Serving}
use Rattle.gate_start.specs.Streams.{Streams}
use Rattle.gate_words.specs.declared.peers.Front.{Front}
use Rattle.gate_serve.specs.Posts.{ServesByFront}
use Rattle.gate_serve.specs.Peers.{ServesBySides}
use Rattle.gate_serve.specs.Serving.{ServesAll, Began, NotBegun, Unfound, NoMemory, started_by, setting_by, settings, telling_by, served_from}
use Rattle.refusal_lines.specs.Told.{told_text}
use Rattle.run_laws.specs.Undisturbed.{IsUntouched}
use Rattle.gate_start.specs.declared.start.NoStart.{NoStart}
use Rattle.gate_start.specs.declared.start.Start.{Start}
use Rattle.gate_start.specs.declared.status.Ending.{Ending}
use Rattle.gate_start.specs.Starting.{Holds, Starting, Goes, Stops}
use Rattle.session_laws.specs.Serving.{CarriesAll}
use Rattle.session_laws.proofs.Serving.{ReceivesBytes}
use Rattle.stream_laws.specs.Sessions.{CarriesMessages}

pub fresh : (s : Serving) (m n : Meaning) → IsUntouched m → StartLeads (started_by s) began.Done m n → IsFresh n
fresh s m n before e = subst (λ (x : Meaning). IsFresh x) (sym e) (record { started = refl; unasked = before.unstarted.1; none = before.none })

-- the law of a server of these sessions
abbrev pub IsServer : Serving → Start → Outside → Outside → Type 0
IsServer s start a b = (result : Served) → Serves Setting rules_of (settings s start) (told_text (telling_by s)) a b result → CarriesAll (setting_by s start) s.limit s.calls (told_text (telling_by s)) a b result

-- the same of any two moments, where what is told was received consists of bytes
abbrev pub IsLaw : Serving → Start → Type 1
IsLaw s start = (a b : Outside) → ((n : Meaning) → b.told n → ReceivesBytes n) → IsServer s start a b

module _ {H : Type 0} (tells : H → Meaning → Type 0) (counts : H → Counts) (s : Serving) (start : Start) (h h' : H) (a b : Streams) (ending : Ending) where
  pub carried : ((mid : H) → IsServer s start (served_from (tells mid) (counts mid) a) (served_from (tells h') (counts h') b)) → ServesAll tells counts s start h h' a b ending → CarriesMessages (tells h) (tells h') s start a b
  carried law (Began mid result left later leads serves ends) =
      let all = law mid result serves in
      inl (record {
        result = result;
        held = all.held;
        said = all.said;
        lines = all.lines;
        writes = all.writes;
        answers = all.answers;
        sessions = λ m told before.
            let begun = leads m told before.unstarted in
            all.sessions begun.0 begun.1 (fresh s m begun.0 before begun.2);
      })
  carried law (NotBegun leads rose says) = inr (record { keeps = leads; written = says.written })
  carried law (Unfound at leads rose says) = inr (record { keeps = leads; written = says.written })
  carried law (NoMemory leads says) = inr (record { keeps = leads; written = says.written })

-- the same of what a command did that started
pub then : (told : Option Holds) (words : Declared) (before now : ℕ) (P Q : Start → Type 0) (Else : NoStart → Type 0) → ((start : Start) → P start → Q start)
    → Starting told words before now P Else → Starting told words before now Q Else
then told words before now P Q Else on (Goes start known cause p) = Goes start known cause (on start p)
then told words before now P Q Else on (Stops stop known cause halts) = Stops stop known cause halts

-- what a server does by its words, where this is its front
pub of_front : {H : Type 0} (tells : H → Meaning → Type 0) (counts : H → Counts) (s : Serving) (start : Start) (h h' : H) (a b : Streams) (ending : Ending) (found : Front) → s.front ≡ found
    → ServesByFront s.front tells counts s start h h' a b ending → ServesByFront found tells counts s start h h' a b ending
of_front tells counts s start h h' a b ending found is serves = subst (λ (o : Front). ServesByFront o tells counts s start h h' a b ending) is serves

-- what a server does by its words, where these are its sides without frames
pub of_sides : {H : Type 0} (tells : H → Meaning → Type 0) (counts : H → Counts) (s : Serving) (start : Start) (h h' : H) (a b : Streams) (ending : Ending) (found : Option Sides) → s.unframed ≡ found
    → ServesBySides s.unframed tells counts s start h h' a b ending → ServesBySides found tells counts s start h h' a b ending
of_sides tells counts s start h h' a b ending found is serves = subst (λ (o : Option Sides). ServesBySides o tells counts s start h h' a b ending) is serves
