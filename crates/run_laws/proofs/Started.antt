-- A command starts where its IDL is good and knows its service.
use Rattle.std.proofs.Common.{◌≡◌, ℕ, ◌⊎◌, inl, inr, List, Option, None, Some, Ok, Err, refl, sym, ◌∙◌, ap, subst}
use Rattle.gate_base.specs.Causes.{Rose}
use Rattle.type_tables.specs.declared.declared.ServiceId.{ServiceId}
use Rattle.type_tables.specs.Declarations.{Declarations}
use Rattle.gate_fan.specs.declared.fan.Fan.{Ghosts as Fan}
use Rattle.gate_hub.specs.declared.hub.Hub.{Ghosts as Hub}
use Rattle.gate_words.specs.declared.command.Command.TheVariants.{Check}
use Rattle.gate_words.specs.declared.options.Declared.{Declared}
use Rattle.gate_idl.specs.Opening.{IsOpened, Opened}
use Rattle.gate_idl.specs.declared.refusal.Refusal.{Refusal}
use Rattle.std.specs.Io.KnownBytes.{Appends}
use Rattle.gate_start.specs.Streams.{Streams}
use Rattle.gate_start.specs.Outside.{Outside}
use Rattle.gate_start.specs.Starting.{Holds, IsRead, IsDeclared, IsService, IsNoService, IsStart, Starting, Goes, Stops, HasCause, Halts}
use Rattle.gate_start.specs.Writing.{Tells}
use Rattle.gate_start.specs.declared.start.Start.{Start}
use Rattle.gate_start.specs.declared.start.NoStart.{NoStart}
use Rattle.gate_start.specs.declared.start.NoStart.TheVariants as stops
use Rattle.gate_start.specs.declared.status.Ending.{Ending}
use Rattle.gate_start.specs.declared.status.Ending.TheVariants as endings
use Rattle.gate_streams.specs.Checking.{Checks, Good, Bad, declared_text}
use Rattle.gate_streams.specs.Outcome.{WriteFailed, Streamed}
use Rattle.gate_run.specs.Running.{Obeys}
use Rattle.run_laws.specs.Routed.{RouterRun, IsRoutingOf, RoutesFrom, HasRoutedFrom}
use Rattle.run_laws.specs.Undisturbed.{CanCheck, HasChecked, CanStart, StreamRun, IsStreamRun, HasGoneThrough, ServerRun, IsRunOf, RunsFrom, HasServedFrom}

same_ok : (d e : Declarations) (a b : Opened) → a ≡ Ok d → b ≡ Ok e → a ≡ b → d ≡ e
same_ok d e a b p q same = cc

not_ok : (d : Declarations) (r : Refusal) (a b : Opened) → a ≡ Ok d → b ≡ Err r → a ≡ b → ⊥
not_ok d r a b p q same = cc

same_found : (a b : Option ServiceId) (x y : ServiceId) → a ≡ Some x → b ≡ Some y → a ≡ b → x ≡ y
same_found a b x y e f g = cc

same_service : (name : Option (List ℕ)) (d : Declarations) (a b : Option ServiceId) → IsService name d a → IsService name d b → a ≡ b
same_service None d a b p q = p ∙ sym q
same_service (Some name) d a b p q = p.2 ∙ (ap Some (same_found _ _ p.0 q.0 p.1 q.1 refl) ∙ sym q.2)

no_service : (name : Option (List ℕ)) (d : Declarations) (a : Option ServiceId) → IsService name d a → IsNoService name d → ⊥
no_service None d a p q = q
no_service (Some name) d a p q = (let wrong : Some p.0 ≡ None = sym p.1 ∙ q in cc)

line_written : (a b : Streams) (line : List ℕ) (ending : Ending) → ((ending ≡ endings.Done) × Appends a.written b.written line) ⊎ ((ending ≡ endings.WriteFault) × Rose a.output_faults b.output_faults) → (WriteFailed a b → ⊥) → (ending ≡ endings.Done) × Appends a.written b.written line
line_written a b line ending (inl done) no_write = done
line_written a b line ending (inr failed) no_write = absurd (no_write (inl failed.1))

abbrev start_of : Declarations → Option ServiceId → Start
start_of d service = record { schema = d; service = service }

same_start : (s t : Start) → s.schema ≡ t.schema → s.service ≡ t.service → s ≡ t
same_start s t p q = ap (λ (d : Declarations). start_of d s.service) p ∙ ap (λ (service : Option ServiceId). start_of t.schema service) q

or_else : {A B C : Type 0} → (B → C) → A ⊎ B → A ⊎ C
or_else f (inl a) = inl a
or_else f (inr b) = inr (f b)

-- given that files give one answer
module _ (opened_once : (holds : Holds) (root : List ℕ) (a b : Opened) → IsOpened holds root a → IsOpened holds root b → a ≡ b) where
  same_opened : (holds : Holds) (name : List ℕ) (d e : Declarations) → IsOpened holds name (Ok d) → IsOpened holds name (Ok e) → d ≡ e
  same_opened holds name d e p q = same_ok d e (Ok d) (Ok e) refl refl (opened_once holds name (Ok d) (Ok e) p q)

  not_refused : (holds : Holds) (name : List ℕ) (d : Declarations) (r : Refusal) → IsOpened holds name (Ok d) → IsOpened holds name (Err r) → ⊥
  not_refused holds name d r p q = not_ok d r (Ok d) (Err r) refl refl (opened_once holds name (Ok d) (Err r) p q)

  same_declared : (holds : Holds) (idl : Option (List ℕ)) (d e : Declarations) → IsDeclared holds idl (Ok d) → IsDeclared holds idl (Ok e) → d ≡ e
  same_declared holds None d e p q = p ∙ sym q
  same_declared holds (Some name) d e p q = same_opened holds name d e p q

  not_declared : (holds : Holds) (idl : Option (List ℕ)) (d : Declarations) (r : Refusal) → IsDeclared holds idl (Ok d) → IsDeclared holds idl (Err (stops.Refused r)) → ⊥
  not_declared holds None d r p q = q
  not_declared holds (Some name) d r p q = not_refused holds name d r p q

  -- a command whose words give a start stops for want of memory alone
  stops_not : (holds : Holds) (words : Declared) (s : Start) (stop : NoStart) (before now : ℕ) → IsStart holds words (Ok s) → IsStart holds words (Err stop) → HasCause {X = Start} (Err stop) before now → (Rose before now → ⊥) → stop ≡ stops.OutOfMemory
  stops_not holds words s (stops.Refused r) before now good bad cause no_fault = absurd (not_declared holds words.idl s.schema r good.0 bad)
  stops_not holds words s stops.UnknownService before now good bad cause no_fault =
      absurd (no_service words.service s.schema s.service good.1 (subst (λ (d : Declarations). IsNoService words.service d) (same_declared holds words.idl bad.0 s.schema bad.1 good.0) bad.2))
  stops_not holds words s stops.FileFault before now good bad cause no_fault = absurd (no_fault cause)
  stops_not holds words s stops.OutOfMemory before now good bad cause no_fault = refl

  -- a command whose words give this start starts from it, or wants memory
  starts : (holds : Holds) (words : Declared) (s : Start) (told : Option Holds) (before now : ℕ) (Then : Start → Type 0) (Else : NoStart → Type 0) → told ≡ Some holds → IsStart holds words (Ok s) → Starting told words before now Then Else
      → (Rose before now → ⊥) → Then s ⊎ Else stops.OutOfMemory
  starts holds words s told before now Then Else known good (Goes t is cause did) no_fault =
      let own = is holds (inl known) in
      let schema : t.schema ≡ s.schema = same_declared holds words.idl t.schema s.schema own.0 good.0 in
      let here = subst (λ (d : Declarations). IsService words.service d t.service) schema own.1 in
      let service : t.service ≡ s.service = same_service words.service s.schema t.service s.service here good.1 in
      inl (subst Then (same_start t s schema service) did)
  starts holds words s told before now Then Else known good (Stops stop is cause other) no_fault =
      inr (subst Else (stops_not holds words s stop before now good (is holds (inl known)) cause no_fault) other)

  pub stream_starts : (x : StreamRun) (start : Start) → IsStreamRun x → CanStart x.declared start x.before x.behind → HasGoneThrough start x
  stream_starts x start runs can =
      or_else (λ other. other.is)
      (starts can.holds x.declared start x.before.holds x.before.file_faults x.behind.file_faults (λ s. Streamed (x.task s) x.before.streams x.behind.streams x.ending)
      (λ stop. Halts stop x.before.streams x.behind.streams x.ending) can.told can.is runs can.files)

  pub server_starts : {H : Type 0} (hubs : Hub H) (x : ServerRun H) (start : Start) → IsRunOf hubs x → CanStart x.declared start x.before x.behind → HasServedFrom hubs start x
  server_starts hubs x start runs can =
      or_else (λ other. other.0.is)
      (starts can.holds x.declared start x.before.holds x.before.file_faults x.behind.file_faults (λ s. RunsFrom hubs s x)
      (λ stop. Halts stop x.before.streams x.behind.streams x.ending × (x.hub_behind ≡ x.hub)) can.told can.is runs can.files)

  pub router_starts : {M : Type 0} (fans : Fan M) (x : RouterRun M) (start : Start) → IsRoutingOf fans x → CanStart x.declared start x.before x.behind → HasRoutedFrom fans start x
  router_starts fans x start runs can =
      or_else (λ other. other.0.is)
      (starts can.holds x.declared start x.before.holds x.before.file_faults x.behind.file_faults (λ s. RoutesFrom fans s x)
      (λ stop. Halts stop x.before.streams x.behind.streams x.ending × (x.fan_behind ≡ x.fan)) can.told can.is runs can.files)

  -- ---- the check

  read_not : (holds : Holds) (file : List ℕ) (d : Declarations) (stop : NoStart) (before now : ℕ) (a b : Streams) (ending : Ending) → IsOpened holds file (Ok d) → IsRead holds file (Err stop) → HasCause {X = Declarations} (Err stop) before now → (Rose before now → ⊥) → Halts stop a b ending → ending ≡ endings.OutOfMemory
  read_not holds file d (stops.Refused r) before now a b ending good bad cause no_fault halts = absurd (not_refused holds file d r good bad)
  read_not holds file d stops.UnknownService before now a b ending good bad cause no_fault halts = absurd bad
  read_not holds file d stops.FileFault before now a b ending good bad cause no_fault halts = absurd (no_fault cause)
  read_not holds file d stops.OutOfMemory before now a b ending good bad cause no_fault halts = halts.is

  checked : (holds : Holds) (file : List ℕ) (d : Declarations) (told : Option Holds) (before now : ℕ) (a b : Streams) (ending : Ending) → told ≡ Some holds → IsOpened holds file (Ok d) → Checks told file before now a b ending
      → (Rose before now → ⊥) → (WriteFailed a b → ⊥) → ((ending ≡ endings.Done) × Appends a.written b.written (declared_text d)) ⊎ (ending ≡ endings.OutOfMemory)
  checked holds file d told before now a b ending known good (Good e is cause tells) no_fault no_write =
      let same : e ≡ d = same_opened holds file e d (is holds known) good in
      inl (line_written a b (declared_text d) ending (subst (λ (x : Declarations). Tells (declared_text x) a b ending) same tells).ends no_write)
  checked holds file d told before now a b ending known good (Bad stop is cause halts) no_fault no_write =
      inr (read_not holds file d stop before now a b ending good (is holds known) cause no_fault halts)

  pub idl_checked : (file : List ℕ) (d : Declarations) (x y : Outside) (ending : Ending) → Obeys (Check file) x y ending → CanCheck file d x y → HasChecked d x y ending
  idl_checked file d x y ending checks can =
      checked can.holds file d x.holds x.file_faults y.file_faults x.streams y.streams ending can.told can.is checks can.files can.writes
