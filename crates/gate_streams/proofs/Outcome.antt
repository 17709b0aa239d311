-- From the moments of a conversion to what the whole conversion did.
use Rattle.std.proofs.Common.{◌≡◌, ℕ, ◌+◌, ◌≤◌, ◌⊎◌, inl, inr, List, [], ◌++◌, length, take, arith, refl, sym, ◌∙◌, ap, subst, Option, Bool, true, false, ◌||◌, Result, Ok, Err}
use Rattle.std.specs.Prelude.{⊤, IfErr}
use Rattle.std.specs.Io.KnownBytes.{Appends}
use Rattle.std.proofs.lemmas.List.{take_all, append-nil}
use Rattle.gate_base.specs.Causes.{Rose}
use Rattle.line_transport.specs.Cuts.{Spans, Cuts, CutsAll}
use Rattle.line_transport.specs.Front.{front, is_whole}
use Rattle.line_transport.specs.declared.transport.Transport.{Transport}
use Rattle.line_transport.proofs.Spanning.{spans_none, nothing_part}
use Rattle.gate_io.specs.Fronts.{AppendsFront}
use Rattle.gate_io.proofs.Streams.{appends_on, appends_none, consumes_none}
use Rattle.gate_start.specs.Endings.{last_line}
use Rattle.gate_start.specs.Streams.{Streams, streams as streams_of}
use Rattle.gate_start.specs.declared.status.Ending.{Ending}
use Rattle.gate_start.specs.declared.status.Ending.TheVariants as endings
use Rattle.gate_start.proofs.Rising.{rose_earlier}
use Rattle.gate_streams.specs.Terms.{Terms}
use Rattle.gate_streams.specs.Handling.{outputs, lines, any_refused}
use Rattle.gate_streams.specs.Progress.{Moment, Goes, GoesToEnd, Breaks, CutsOff, HasRisen, IsStreamLine}
use Rattle.gate_streams.specs.Working.{Closes, Ends, EndsInRest, IsWaiting}
use Rattle.gate_streams.specs.Outcome.{Covers, IsLastLine, CoversAll, IsTooLargeOrAtEnd, EndsWithinAFrame, StopsWith, BreaksOff, Streamed, beginning}
use Rattle.gate_streams.specs.declared.stream.Broken.{Broken}
use Rattle.gate_streams.specs.declared.stream.Broken.TheVariants as streams
use Rattle.gate_streams.specs.declared.stream.TheConstants.{MOST_BYTES}

-- where nothing is held, less than a frame is
pub nothing_waits : (k : Terms) (bytes : List ℕ) → bytes ≡ [] → IsWaiting k bytes
nothing_waits k bytes none = rw none (record { part = nothing_part k.input k.limit; room = omega arith })

abbrev at : Moment → ℕ → ℕ → ℕ → Streams
at m i o e = streams_of m.left m.written m.reported i o e

covers : (k : Terms) (a b : Moment) (i o e i' o' e' : ℕ) (reported : Option (List ℕ)) (line : List ℕ) → a.frames ≡ 0 → (goes : Goes k a b) → Appends b.reported reported line → Covers k (at a i o e) (streams_of b.left b.written reported i' o' e') goes.read goes.frames line
covers k a b i o e i' o' e' reported line first goes last = record {
  consumed = goes.consumed;
  written = subst (λ (n : ℕ). Appends a.written b.written (outputs k n goes.frames)) first goes.written;
  reported = subst (λ (n : ℕ). Appends a.reported reported (lines k n goes.frames ++ line)) first (appends_on a.reported b.reported reported (lines k a.frames goes.frames) line goes.reported last);
}

no_frame_in_part : (k : Terms) (bytes : List ℕ) → IsWaiting k bytes → is_whole (front k.input k.limit bytes) ≡ false
no_frame_in_part k bytes w = ap is_whole w.part

-- how what was read is cut
cuts_of : (k : Terms) (a b : Moment) → a.held ≡ [] → (goes : Goes k a b) → is_whole (front k.input k.limit b.held) ≡ false → Cuts k.input k.limit goes.read goes.frames b.held
cuts_of k a b none goes no_frame =
    record { spans = subst (λ (l : List ℕ). Spans k.input k.limit l goes.frames b.held) (ap (λ t. t ++ goes.read) none) goes.split; no_more = no_frame }

-- at the end of the input all of it is cut
pub covers_all : (k : Terms) (a b : Moment) (i o e i' o' e' : ℕ) (refused : Bool) → a.held ≡ [] → a.frames ≡ 0 → a.refused ≡ false → GoesToEnd k a b → b.refused ≡ refused → CoversAll k (at a i o e) (at b i' o' e') refused
covers_all k a b i o e i' o' e' refused none first unrefused goes is = (
  goes.read,
  goes.frames,
  record {
    consumed = goes.consumed;
    written = subst (λ (n : ℕ). Appends a.written b.written (outputs k n goes.frames)) first goes.written;
    reported = subst (λ (n : ℕ). Appends a.reported b.reported (lines k n goes.frames ++ [])) first (subst (λ (l : List ℕ). Appends a.reported b.reported l) (sym (append-nil (lines k a.frames goes.frames))) goes.reported);
  },
  subst (λ (l : List ℕ). CutsAll k.input k.limit l goes.frames) (ap (λ t. t ++ goes.read) none) goes.cuts,
  sym (ap (λ t. t || any_refused k goes.frames) unrefused) ∙ (sym goes.refused ∙ is),
  goes.at_end,
)

no_frame_in_rest : (t : Transport) (limit frames : ℕ) (rest line : List ℕ) → IsStreamLine t limit frames rest line → is_whole (front t limit rest) ≡ false
unfolding IsStreamLine
no_frame_in_rest t limit frames rest line (inl over) = ap is_whole over.1
no_frame_in_rest t limit frames rest line (inr partial) = ap is_whole partial.1

-- the rest is no frame
pub covers_rest : (k : Terms) (a b : Moment) (i o e i' o' e' : ℕ) → a.held ≡ [] → a.frames ≡ 0 → EndsInRest k a b → EndsWithinAFrame k (at a i o e) (at b i' o' e')
covers_rest k a b i o e i' o' e' none first end =
    let made = covers k a end.mid i o e i' o' e' b.reported end.line first end.goes end.reported in
    let count : end.mid.frames ≡ length end.goes.frames = omega (arith, end.goes.counted, first) in (
      end.goes.read,
      end.goes.frames,
      end.mid.held,
      end.line,
      subst (λ (w : Option (List ℕ)). Covers k (at a i o e) (streams_of b.left w b.reported i' o' e') end.goes.read end.goes.frames end.line) (sym end.written)
          (subst (λ (l : Option (List ℕ)). Covers k (at a i o e) (streams_of l end.mid.written b.reported i' o' e') end.goes.read end.goes.frames end.line) (sym end.left) made),
      cuts_of k a end.mid none end.goes (no_frame_in_rest k.input k.limit end.mid.frames end.mid.held end.line end.line_is),
      subst (λ (n : ℕ). IsStreamLine k.input k.limit n end.mid.held end.line) count end.line_is,
      subst (λ (l : Option (List ℕ)). IsTooLargeOrAtEnd k.input k.limit end.mid.held l) (sym end.left) end.at_end,
    )

-- the last line, or a front of it
as_last_line : (r r' : Option (List ℕ)) (text : List ℕ) (before mid now : ℕ) → before ≤ mid → AppendsFront r r' text → Appends r r' text ⊎ Rose mid now → (line : List ℕ) × Appends r r' line × IsLastLine text line before now
as_last_line r r' text before mid now h front (inl all) = (text, all, record { front = (length text, omega arith, sym (take_all (length text) text (omega arith))); whole = inl refl })
as_last_line r r' text before mid now h front (inr rose) = (take front.0 text, front.2, record { front = (front.0, front.1, refl); whole = inr (rose_earlier before mid now h rose) })

-- what was read is handled, and the last line, or a front of it, was written
pub stops_with : (k : Terms) (a b : Moment) (i o e i' o' mid e' : ℕ) (reported : Option (List ℕ)) (text : List ℕ) (Many : ℕ → Type 0) → a.held ≡ [] → a.frames ≡ 0 → a.taken ≡ 0 → Goes k a b → IsWaiting k b.held → e ≤ mid → AppendsFront b.reported reported text → Appends b.reported reported text ⊎ Rose mid e' → Many b.taken → StopsWith k (at a i o e) (streams_of b.left b.written reported i' o' e') text Many
stops_with k a b i o e i' o' mid e' reported text Many none first untaken goes waits later front whole many =
    let last = as_last_line b.reported reported text e mid e' later front whole in
    let taken : b.taken ≡ length goes.read = omega (arith, goes.taken, untaken) in
    (goes.read, goes.frames, b.held, last.0, covers k a b i o e i' o' e' reported last.0 first goes last.1, cuts_of k a b none goes (no_frame_in_part k b.held waits), last.2, subst Many taken many)

-- before anything was read
pub stops_at_once : (k : Terms) (left written r r' : Option (List ℕ)) (i o e e' : ℕ) (text : List ℕ) → AppendsFront r r' text → Appends r r' text ⊎ Rose e e' → StopsWith k (streams_of left written r i o e) (streams_of left written r' i o e') text (λ n. n ≡ 0)
stops_at_once k left written r r' i o e e' text front whole =
    let last = as_last_line r r' text e e e' (omega arith) front whole in (
      [],
      [],
      [],
      last.0,
      record {
        consumed = consumes_none left;
        written = appends_none written;
        reported = last.1;
      },
      record { spans = spans_none k.input k.limit []; no_more = no_frame_in_part k [] (nothing_waits k [] refl) },
      last.2,
      refl,
    )

pub cut_from : (broken : Broken) (k : Terms) (a b c d : Moment) (frames : List (List ℕ)) (last : List ℕ) → a.frames ≡ c.frames → a.written ≡ c.written → a.reported ≡ c.reported → b.written ≡ d.written → b.reported ≡ d.reported → CutsOff broken k a b frames last → CutsOff broken k c d frames last
cut_from streams.Output k a b c d frames last first w r w' r' p = (
  record {
    done = p.0.done;
    others = p.0.others;
    is = p.0.is;
    count = p.0.count;
    within = subst (λ (n : ℕ). p.0.count ≤ length (outputs k (n + length p.0.done) p.0.others)) first p.0.within;
    written = subst (λ (n : ℕ). Appends c.written d.written (outputs k n p.0.done ++ take p.0.count (outputs k (n + length p.0.done) p.0.others))) first
        (subst (λ (x : Option (List ℕ)). Appends x d.written (outputs k a.frames p.0.done ++ take p.0.count (outputs k (a.frames + length p.0.done) p.0.others))) w
        (subst (λ (x : Option (List ℕ)). Appends a.written x (outputs k a.frames p.0.done ++ take p.0.count (outputs k (a.frames + length p.0.done) p.0.others))) w' p.0.written));
    reported = subst (λ (n : ℕ). Appends c.reported d.reported (lines k n p.0.done)) first
        (subst (λ (x : Option (List ℕ)). Appends x d.reported (lines k a.frames p.0.done)) r (subst (λ (x : Option (List ℕ)). Appends a.reported x (lines k a.frames p.0.done)) r' p.0.reported));
  },
  p.1,
)
cut_from streams.Report k a b c d frames last first w r w' r' p = record {
  written = subst (λ (n : ℕ). Appends c.written d.written (outputs k n frames)) first
      (subst (λ (x : Option (List ℕ)). Appends x d.written (outputs k a.frames frames)) w (subst (λ (x : Option (List ℕ)). Appends a.written x (outputs k a.frames frames)) w' p.written));
  reported = subst (λ (n : ℕ). AppendsFront c.reported d.reported (lines k n frames ++ last)) first
      (subst (λ (x : Option (List ℕ)). AppendsFront x d.reported (lines k a.frames frames ++ last)) r (subst (λ (x : Option (List ℕ)). AppendsFront a.reported x (lines k a.frames frames ++ last)) r' p.reported));
}

pub breaks_off : (broken : Broken) (k : Terms) (a b : Moment) (i o e i' o' e' : ℕ) → a.held ≡ [] → a.frames ≡ 0 → Breaks broken k a b → BreaksOff broken k (at a i o e) (at b i' o' e')
breaks_off broken k a b i o e i' o' e' none first p = record {
  read = p.read;
  frames = p.frames;
  more = p.more;
  last = p.last;
  closing = p.closing;
  consumed = p.consumed;
  split = subst (λ (l : List ℕ). Spans k.input k.limit l p.frames p.more) (ap (λ t. t ++ (p.read ++ p.closing)) none) p.split;
  closing_is = p.closing_is;
  cut = cut_from broken k a b (beginning a.left a.written a.reported) (beginning b.left b.written b.reported) p.frames p.last first refl refl refl refl p.cut;
  last_is = subst (λ (n : ℕ). (p.last ≡ []) ⊎ IsStreamLine k.input k.limit (n + length p.frames) p.more p.last) first p.last_is;
}

-- ---- by its ending

pub closes_none : (ending : Ending) (w : Option (List ℕ)) (before now : ℕ) → (ending ≡ endings.ReadFault → ⊥) → (ending ≡ endings.BudgetSpent → ⊥) → Closes ending w w before now
closes_none endings.ReadFault w before now no_read no_budget = absurd (no_read refl)
closes_none endings.BudgetSpent w before now no_read no_budget = absurd (no_budget refl)
closes_none endings.Done w before now no_read no_budget = refl
closes_none endings.Refused w before now no_read no_budget = refl
closes_none endings.StreamFault w before now no_read no_budget = refl
closes_none endings.Usage w before now no_read no_budget = refl
closes_none endings.WriteFault w before now no_read no_budget = refl
closes_none endings.FileFault w before now no_read no_budget = refl
closes_none endings.HubFault w before now no_read no_budget = refl
closes_none endings.OutOfMemory w before now no_read no_budget = refl

-- a stream that was gone through to its end, to a rest that is no frame, to a fault of the input or as far as the budget goes
pub by_ending : (ending : Ending) (k : Terms) (a b : Moment) (i o e i' o' mid e' : ℕ) (reported : Option (List ℕ)) → a.held ≡ [] → a.frames ≡ 0 → a.refused ≡ false → a.taken ≡ 0 → e ≤ mid →
    (ending ≡ endings.ReadFault → Rose i i') → Ends k a b (Ok ending) → Closes ending b.reported reported mid e' → Streamed k (at a i o e) (streams_of b.left b.written reported i' o' e') ending
by_ending endings.Done k a b i o e i' o' mid e' reported none first passed untaken later read h c =
    subst (λ (r : Option (List ℕ)). CoversAll k (at a i o e) (streams_of b.left b.written r i' o' e') false) (sym c) (covers_all k a b i o e i' o' e' false none first passed h.0 h.1)
by_ending endings.Refused k a b i o e i' o' mid e' reported none first passed untaken later read h c =
    subst (λ (r : Option (List ℕ)). CoversAll k (at a i o e) (streams_of b.left b.written r i' o' e') true) (sym c) (covers_all k a b i o e i' o' e' true none first passed h.0 h.1)
by_ending endings.StreamFault k a b i o e i' o' mid e' reported none first passed untaken later read h c =
    subst (λ (r : Option (List ℕ)). EndsWithinAFrame k (at a i o e) (streams_of b.left b.written r i' o' e')) (sym c) (covers_rest k a b i o e i' o' e' none first h)
by_ending endings.ReadFault k a b i o e i' o' mid e' reported none first passed untaken later read h c =
    (read refl, stops_with k a b i o e i' o' mid e' reported (last_line endings.ReadFault) (λ _. ⊤) none first untaken h.0 h.1 later c.0 c.1 tt)
by_ending endings.BudgetSpent k a b i o e i' o' mid e' reported none first passed untaken later read h c =
    stops_with k a b i o e i' o' mid e' reported (last_line endings.BudgetSpent) (λ n. n ≡ MOST_BYTES) none first untaken h.0 h.1 later c.0 c.1 h.2
by_ending endings.Usage k a b i o e i' o' mid e' reported none first passed untaken later read h c = absurd h
by_ending endings.WriteFault k a b i o e i' o' mid e' reported none first passed untaken later read h c = absurd h
by_ending endings.FileFault k a b i o e i' o' mid e' reported none first passed untaken later read h c = absurd h
by_ending endings.HubFault k a b i o e i' o' mid e' reported none first passed untaken later read h c = absurd h
by_ending endings.OutOfMemory k a b i o e i' o' mid e' reported none first passed untaken later read h c = absurd h

-- a fault of the report that came after this moment
pub risen_later : (r : Result Ending Broken) (o o' e mid e' : ℕ) → e ≤ mid → IfErr r (λ broken. HasRisen broken o o' mid e') → IfErr r (λ broken. HasRisen broken o o' e e')
risen_later (Ok ending) o o' e mid e' later h = tt
risen_later (Err streams.Output) o o' e mid e' later h = h
risen_later (Err streams.Report) o o' e mid e' later h = rose_earlier e mid e' later h

pub both_risen : (r : Result Ending Broken) (o mid_o o' e mid e' : ℕ) → o ≤ mid_o → e ≤ mid → IfErr r (λ broken. HasRisen broken mid_o o' mid e') → IfErr r (λ broken. HasRisen broken o o' e e')
both_risen (Ok ending) o mid_o o' e mid e' earlier later h = tt
both_risen (Err streams.Output) o mid_o o' e mid e' earlier later h = rose_earlier o mid_o o' earlier h
both_risen (Err streams.Report) o mid_o o' e mid e' earlier later h = rose_earlier e mid e' later h
