-- How the work ends at the end of the input.
use Rattle.std.proofs.Common.{◌≡◌, ℕ, ◌^◌, ◌<◌, inr, List, [], ◌++◌, length, refl, sym, ◌∙◌, ap, subst, Option, Some, Result, Ok, Err, Bool, true, false}
use Rattle.std.specs.Io.KnownBytes.{Consumes, IsAtEnd}
use Rattle.std.proofs.lemmas.List.{append-nil}
use Rattle.line_transport.specs.Cuts.{Spans, CutsAll, at_end}
use Rattle.line_transport.specs.Front.{front, Part, Exceeds}
use Rattle.line_transport.specs.declared.transport.Excess.{Excess}
use Rattle.line_transport.specs.declared.transport.Transport.{Transport}
use Rattle.line_transport.specs.declared.transport.Transport.TheVariants.{Frames, Lines}
use Rattle.line_transport.proofs.Spanning.{tail_is, cut_whole, lines_end, nothing_over}
use Rattle.gate_start.specs.declared.status.Ending.{Ending}
use Rattle.gate_start.specs.declared.status.Ending.TheVariants as endings
use Rattle.gate_streams.specs.Lines.{left_text}
use Rattle.gate_streams.specs.Progress.{Moment, Goes, GoesToEnd, Breaks, BreaksBefore}
use Rattle.gate_streams.specs.Terms.{Terms}
use Rattle.gate_streams.specs.Working.{IsWaiting, Concludes, Ends}
use Rattle.gate_streams.specs.declared.stream.Broken.{Broken}
use Rattle.gate_streams.specs.declared.stream.Broken.TheVariants as streams
use Rattle.gate_streams.proofs.Outcome.{cut_from}
use Rattle.gate_streams.proofs.Progress.{same_consumes, goes_and_breaks, broken_line, left_line, rest_left}

-- the bytes that are held, with what stands for the last LF
abbrev pub closed : Terms → Moment → Option (List ℕ) → Moment
closed k m left = record m { held = at_end k.input m.held; left = left }

abbrev pub leaving : Moment → Option (List ℕ) → Moment
leaving m left = record m { left = left }

-- nothing is read where nothing is left
none_read : (read : List ℕ) → Consumes (Some []) (Some []) read → read ≡ []
none_read read c = sym (c ∙ append-nil read)

-- how what was held is cut
held_cut : (k : Terms) (m c : Moment) (g : Goes k (closed k m (Some [])) (leaving c (Some []))) → Spans k.input k.limit (at_end k.input m.held) g.frames c.held
held_cut k m c g = subst (λ (l : List ℕ). Spans k.input k.limit l g.frames c.held) (ap (λ r. at_end k.input m.held ++ r) (none_read g.read g.consumed) ∙ append-nil (at_end k.input m.held)) g.split

all_handled : (k : Terms) (m c : Moment) → Goes k (closed k m (Some [])) (leaving c (Some [])) → c.held ≡ [] → c.left ≡ m.left → IsAtEnd m.left → GoesToEnd k m c
all_handled k m c g none left at_end_is = record {
  read = [];
  frames = g.frames;
  consumed = same_consumes m.left c.left left;
  cuts = subst (λ (l : List ℕ). CutsAll k.input k.limit l g.frames) (sym (append-nil m.held)) (cut_whole k.input k.limit m.held c.held g.frames (held_cut k m c g) none);
  written = g.written;
  reported = g.reported;
  refused = g.refused;
  at_end = subst IsAtEnd (sym left) at_end_is;
}

-- of frames nothing more is held at the end
framed_goes : (k : Terms) (m c : Moment) (t : Transport) → k.input ≡ t → t ≡ Frames → Goes k (closed k m m.left) c → Goes k m c
framed_goes k m c Lines e wrong g = absurd (cc)
framed_goes k m c Frames e framed g = record {
  read = g.read;
  frames = g.frames;
  consumed = g.consumed;
  split = subst (λ (t : Transport). Spans k.input k.limit (at_end t m.held ++ g.read) g.frames c.held) e g.split;
  written = g.written;
  reported = g.reported;
  counted = g.counted;
  taken = g.taken;
  refused = g.refused;
}

is_frames : (t : Transport) → (t ≡ Lines → ⊥) → t ≡ Frames
is_frames Frames h = refl
is_frames Lines h = absurd (h refl)

none_left : (t : Transport) (limit : ℕ) (held rest : List ℕ) (xs : List (List ℕ)) → Spans t limit (at_end t held) xs rest → front t limit rest ≡ Part → t ≡ Lines → rest ≡ []
none_left Frames limit held rest xs s part e = absurd (cc)
none_left Lines limit held rest xs s part e = lines_end limit held rest xs s part

module _ (k : Terms) (m c b : Moment) (at_once : Goes k (closed k m (Some [])) (leaving c (Some []))) (goes : Goes k (closed k m m.left) c) (waits : IsWaiting k c.held) (left : c.left ≡ m.left) (over : IsAtEnd m.left) where
  framed : (c.held ≡ [] → ⊥) → k.input ≡ Frames
  framed some = is_frames k.input (λ e. some (none_left k.input k.limit m.held c.held at_once.frames (held_cut k m c at_once) waits.part e))

  done : (refused : Bool) → b ≡ c → c.held ≡ [] → c.refused ≡ refused → GoesToEnd k m b × (b.refused ≡ refused)
  done refused same none is = subst (λ (x : Moment). GoesToEnd k m x × (x.refused ≡ refused)) (sym same) (all_handled k m c at_once none left over, is)

  -- what was held is handled, and the work has ended so
  pub finished : (r : Result Ending Broken) → Concludes c b r → Ends k m b r
  finished (Ok endings.Done) h = done false h.0 h.1 h.2
  finished (Ok endings.Refused) h = done true h.0 h.1 h.2
  finished (Ok endings.StreamFault) h =
      let is = framed h.0 in
      rest_left k m b c (left_text c.frames (length c.held)) (framed_goes k m c k.input refl is goes) (left_line k.input k.limit c.frames c.held is waits.part h.0) h.2 h.3 h.1 is (subst IsAtEnd (sym left) over)
  finished (Ok endings.ReadFault) h = absurd h
  finished (Ok endings.WriteFault) h = absurd h
  finished (Ok endings.BudgetSpent) h = absurd h
  finished (Ok endings.OutOfMemory) h = absurd h
  finished (Ok endings.Usage) h = absurd h
  finished (Ok endings.FileFault) h = absurd h
  finished (Ok endings.HubFault) h = absurd h
  finished (Err streams.Output) h = absurd h
  finished (Err streams.Report) h =
      let is = framed h.0 in
      goes_and_breaks streams.Report k m c b (framed_goes k m c k.input refl is goes) (broken_line k c b (left_text c.frames (length c.held)) (left_line k.input k.limit c.frames c.held is waits.part h.0) h.1 h.2 h.3)

-- a stream failed meanwhile
pub finish_broke : (broken : Broken) (k : Terms) (m c : Moment) → BreaksBefore broken k (closed k m (Some [])) (leaving c (Some [])) → c.left ≡ m.left → IsAtEnd m.left → Breaks broken k m c
finish_broke broken k m c h left over =
    let q = h.0 in
    let none : q.read ++ q.closing ≡ [] = ap (λ l. l ++ q.closing) (none_read q.read q.consumed) ∙ h.1 in
    record {
      read = [];
      frames = q.frames;
      more = q.more;
      last = q.last;
      closing = at_end k.input [];
      consumed = same_consumes m.left c.left left;
      split = subst (λ (l : List ℕ). Spans k.input k.limit l q.frames q.more) (ap (λ l. at_end k.input m.held ++ l) none ∙ (append-nil (at_end k.input m.held) ∙ sym (tail_is k.input m.held))) q.split;
      closing_is = inr (refl, subst IsAtEnd (sym left) over);
      cut = cut_from broken k (closed k m (Some [])) (leaving c (Some [])) m c q.frames q.last refl refl refl refl refl q.cut;
      last_is = q.last_is;
    }

-- nothing is too large at the end of the input
pub none_exceeds : (k : Terms) (m c : Moment) (e : Excess) → k.limit < 2 ^ 31 → IsWaiting k m.held → Goes k (closed k m (Some [])) (leaving c (Some [])) → front k.input k.limit c.held ≡ Exceeds e → ⊥
none_exceeds k m c e small waits g over = nothing_over k.input k.limit m.held c.held g.frames e small waits.part (held_cut k m c g) over
