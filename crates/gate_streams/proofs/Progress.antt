-- From moment to moment.
use Rattle.std.proofs.Common.{◌≡◌, ℕ, suc, ◌+◌, ◌≤◌, ◌⊎◌, inl, inr, List, [], ◌∷◌, ◌++◌, length, take, arith, refl, sym, ◌∙◌, ap, subst, Option, None, Some, Result, Ok, Err, Bool, true, false, ◌||◌, not, append_assoc, length-append, add-zero}
use Rattle.std.specs.Io.KnownBytes.{Appends, Consumes, Keeps, IsAtEnd, append_known}
use Rattle.std.proofs.lemmas.List.{append-nil, append_cancel_left}
use Rattle.std.proofs.Math.Seq.{take-append-add}
use Rattle.line_transport.specs.Cuts.{Spans, CutsAll, at_end}
use Rattle.line_transport.specs.Front.{front, Part, Exceeds}
use Rattle.line_transport.specs.declared.transport.Excess.{Excess}
use Rattle.line_transport.specs.declared.transport.Transport.{Transport}
use Rattle.line_transport.specs.declared.transport.Transport.TheVariants.{Frames}
use Rattle.line_transport.proofs.Spanning.{spans_none, spans_on, spans_fewer, cut_all_on}
use Rattle.gate_io.specs.Fronts.{AppendsFront, Flushed}
use Rattle.gate_io.proofs.Streams.{appends_on, appends_none, consumes_on, consumes_none, then_front, front_of_more, keeps_consumes, some_wait, front_of_gathered, all_written, one_waits, gathered, flushed_none}
use Rattle.gate_start.specs.declared.status.Ending.{Ending}
use Rattle.gate_start.specs.declared.status.Ending.TheVariants as endings
use Rattle.gate_streams.specs.Terms.{Terms}
use Rattle.gate_streams.specs.Lines.{excess_text, left_text}
use Rattle.gate_streams.specs.Working.{EndsInRest, Ends, Waits, WritesBoth, Stays, Empties}
use Rattle.gate_streams.specs.declared.stream.Broken.{Broken}
use Rattle.gate_streams.specs.declared.stream.Broken.TheVariants as streams
use Rattle.gate_streams.specs.Handling.{passes, output_of, outputs, line_of, lines, any_refused}
use Rattle.gate_streams.specs.Progress.{Moment, Goes, GoesToEnd, Breaks, BreaksBefore, CutsOff, IsStreamLine}

pub lines_on : (k : Terms) (before : ℕ) (xs ys : List (List ℕ)) → lines k before (xs ++ ys) ≡ lines k before xs ++ lines k (before + length xs) ys
lines_on k before [] ys = ap (λ n. lines k n ys) (sym (add-zero before))
lines_on k before (x ∷ xs) ys =
    let e : (before + 1) + length xs ≡ before + suc (length xs) = omega arith in
    ap (λ t. line_of k (before + 1) x ++ t) (lines_on k (before + 1) xs ys ∙ ap (λ n. lines k (before + 1) xs ++ lines k n ys) e) ∙ sym (append_assoc (line_of k (before + 1) x) (lines k (before + 1) xs) (lines k (before + suc (length xs)) ys))

pub outputs_on : (k : Terms) (before : ℕ) (xs ys : List (List ℕ)) → outputs k before (xs ++ ys) ≡ outputs k before xs ++ outputs k (before + length xs) ys
outputs_on k before [] ys = ap (λ n. outputs k n ys) (sym (add-zero before))
outputs_on k before (x ∷ xs) ys =
    let e : (before + 1) + length xs ≡ before + suc (length xs) = omega arith in
    ap (λ t. output_of k (before + 1) x ++ t) (outputs_on k (before + 1) xs ys ∙ ap (λ n. outputs k (before + 1) xs ++ outputs k n ys) e) ∙ sym (append_assoc (output_of k (before + 1) x) (outputs k (before + 1) xs) (outputs k (before + suc (length xs)) ys))

-- what is written of some frames and then of more, and what follows
more_written : (k : Terms) (n m : ℕ) (a b c : Option (List ℕ)) (xs ys : List (List ℕ)) (rest : List ℕ) → m ≡ n + length xs → Appends a b (outputs k n xs) → Appends b c (outputs k m ys ++ rest) → Appends a c (outputs k n (xs ++ ys) ++ rest)
more_written k n m a b c xs ys rest e p q =
    let all : outputs k n xs ++ (outputs k m ys ++ rest) ≡ outputs k n (xs ++ ys) ++ rest =
    sym (append_assoc (outputs k n xs) (outputs k m ys) rest) ∙ ap (λ t. t ++ rest) (ap (λ i. outputs k n xs ++ outputs k i ys) e ∙ sym (outputs_on k n xs ys)) in
    subst (λ (t : List ℕ). Appends a c t) all (appends_on a b c (outputs k n xs) (outputs k m ys ++ rest) p q)

or_assoc : (a b c : Bool) → (a || b || c) ≡ (a || (b || c))
or_assoc true b c = refl
or_assoc false b c = refl

pub any_refused_on : (k : Terms) (xs ys : List (List ℕ)) → any_refused k (xs ++ ys) ≡ (any_refused k xs || any_refused k ys)
any_refused_on k [] ys = refl
any_refused_on k (x ∷ xs) ys = ap (λ b. not (passes k x) || b) (any_refused_on k xs ys) ∙ sym (or_assoc (not (passes k x)) (any_refused k xs) (any_refused k ys))

or_false : (a : Bool) → a ≡ (a || false)
or_false true = refl
or_false false = refl

-- two cuttings, one after the other
split_on : (t : Transport) (limit : ℕ) (held read mid read' rest : List ℕ) (xs ys : List (List ℕ)) → Spans t limit (held ++ read) xs mid → Spans t limit (mid ++ read') ys rest → Spans t limit (held ++ (read ++ read')) (xs ++ ys) rest
split_on t limit held read mid read' rest xs ys p q =
    subst (λ (l : List ℕ). Spans t limit l (xs ++ ys) rest) (append_assoc held read read') (spans_on t limit (held ++ read) mid (mid ++ read') read' rest xs ys p refl q)

-- nothing was read
split_none : (t : Transport) (limit : ℕ) (held : List ℕ) (rest : List ℕ) (xs : List (List ℕ)) → Spans t limit held xs rest → Spans t limit (held ++ []) xs rest
split_none t limit held rest xs s = subst (λ (l : List ℕ). Spans t limit l xs rest) (sym (append-nil held)) s

pub goes_nowhere : (k : Terms) (a : Moment) → Goes k a a
goes_nowhere k a = record {
  read = [];
  frames = [];
  consumed = consumes_none a.left;
  split = split_none k.input k.limit a.held a.held [] (spans_none k.input k.limit a.held);
  written = appends_none a.written;
  reported = appends_none a.reported;
  counted = omega arith;
  taken = omega arith;
  refused = or_false a.refused;
}

pub goes_on : (k : Terms) (a b c : Moment) → Goes k a b → Goes k b c → Goes k a c
goes_on k a b c p q = record {
  read = p.read ++ q.read;
  frames = p.frames ++ q.frames;
  consumed = consumes_on a.left b.left c.left p.read q.read p.consumed q.consumed;
  split = split_on k.input k.limit a.held p.read b.held q.read c.held p.frames q.frames p.split q.split;
  written = rw (outputs_on k a.frames p.frames q.frames, ← p.counted) (appends_on a.written b.written c.written (outputs k a.frames p.frames) (outputs k b.frames q.frames) p.written q.written);
  reported = rw (lines_on k a.frames p.frames q.frames, ← p.counted) (appends_on a.reported b.reported c.reported (lines k a.frames p.frames) (lines k b.frames q.frames) p.reported q.reported);
  counted = omega (arith, p.counted, q.counted, length-append p.frames q.frames);
  taken = omega (arith, p.taken, q.taken, length-append p.read q.read);
  refused = q.refused ∙ (ap (λ t. t || any_refused k q.frames) p.refused ∙ (or_assoc a.refused (any_refused k p.frames) (any_refused k q.frames) ∙ ap (λ t. a.refused || t) (sym (any_refused_on k p.frames q.frames))));
}

-- some frames more before those that were handled when a stream failed
cut_on : (broken : Broken) (k : Terms) (a b c : Moment) (frames : List (List ℕ)) (last : List ℕ) (p : Goes k a b) → CutsOff broken k b c frames last → CutsOff broken k a c (p.frames ++ frames) last
cut_on streams.Output k a b c frames last p q =
    let place : b.frames + length q.0.done ≡ a.frames + length (p.frames ++ q.0.done) = omega (arith, p.counted, length-append p.frames q.0.done) in (
      record {
        done = p.frames ++ q.0.done;
        others = q.0.others;
        is = ap (λ t. p.frames ++ t) q.0.is ∙ sym (append_assoc p.frames q.0.done q.0.others);
        count = q.0.count;
        within = subst (λ (n : ℕ). q.0.count ≤ length (outputs k n q.0.others)) place q.0.within;
        written = more_written k a.frames b.frames a.written b.written c.written p.frames q.0.done _ p.counted p.written
            (subst (λ (n : ℕ). Appends b.written c.written (outputs k b.frames q.0.done ++ take q.0.count (outputs k n q.0.others))) place q.0.written);
        reported = rw (lines_on k a.frames p.frames q.0.done, ← p.counted) (appends_on a.reported b.reported c.reported (lines k a.frames p.frames) (lines k b.frames q.0.done) p.reported q.0.reported);
      },
      q.1,
    )
cut_on streams.Report k a b c frames last p q = record {
  written = rw (outputs_on k a.frames p.frames frames, ← p.counted) (appends_on a.written b.written c.written (outputs k a.frames p.frames) (outputs k b.frames frames) p.written q.written);
  reported = rw (lines_on k a.frames p.frames frames, ← p.counted, append_assoc) (then_front a.reported b.reported c.reported (lines k a.frames p.frames) (lines k b.frames frames ++ last) p.reported q.reported);
}

pub goes_and_breaks : (broken : Broken) (k : Terms) (a b c : Moment) → Goes k a b → Breaks broken k b c → Breaks broken k a c
goes_and_breaks broken k a b c p q = record {
  read = p.read ++ q.read;
  frames = p.frames ++ q.frames;
  more = q.more;
  last = q.last;
  closing = q.closing;
  consumed = consumes_on a.left b.left c.left p.read q.read p.consumed q.consumed;
  split = subst (λ (l : List ℕ). Spans k.input k.limit (a.held ++ l) (p.frames ++ q.frames) q.more) (sym (append_assoc p.read q.read q.closing)) (split_on k.input k.limit a.held p.read b.held (q.read ++ q.closing) q.more p.frames q.frames p.split q.split);
  closing_is = q.closing_is;
  cut = cut_on broken k a b c q.frames q.last p q.cut;
  last_is = subst (λ (n : ℕ). (q.last ≡ []) ⊎ IsStreamLine k.input k.limit n q.more q.last) (omega (arith, p.counted, length-append p.frames q.frames)) q.last_is;
}

-- ---- one step

same_appends : (a b : Option (List ℕ)) → b ≡ a → Appends a b []
same_appends a b e = subst (λ (x : Option (List ℕ)). Appends a x []) (sym e) (appends_none a)

pub same_consumes : (a b : Option (List ℕ)) → b ≡ a → Consumes a b []
same_consumes a b e = subst (λ (x : Option (List ℕ)). Consumes a x []) (sym e) (consumes_none a)

-- bytes were read and are held
pub fed : (k : Terms) (a b : Moment) (piece : List ℕ) → Consumes a.left b.left piece → b.held ≡ a.held ++ piece → b.taken ≡ a.taken + length piece → b.written ≡ a.written → b.reported ≡ a.reported → b.frames ≡ a.frames → b.refused ≡ a.refused → Goes k a b
fed k a b piece consumed held taken written reported frames refused = record {
  read = piece;
  frames = [];
  consumed = consumed;
  split = subst (λ (l : List ℕ). Spans k.input k.limit l [] b.held) held (spans_none k.input k.limit b.held);
  written = same_appends a.written b.written written;
  reported = same_appends a.reported b.reported reported;
  counted = omega (arith, frames);
  taken = taken;
  refused = refused ∙ or_false a.refused;
}

-- nothing but the source's state changed
pub waited : (k : Terms) (a b : Moment) → Keeps a.left b.left → b.held ≡ a.held → b.taken ≡ a.taken → b.written ≡ a.written → b.reported ≡ a.reported → b.frames ≡ a.frames → b.refused ≡ a.refused → Goes k a b
waited k a b kept held taken written reported frames refused =
    fed k a b [] (keeps_consumes a.left b.left kept) (held ∙ sym (append-nil a.held)) (omega (arith, taken)) written reported frames refused

-- the frame at the front was handled and let go
handled_one : (k : Terms) (a b : Moment) (frame : List ℕ) → Spans k.input k.limit a.held (frame ∷ []) b.held → b.left ≡ a.left → Appends a.written b.written (output_of k (a.frames + 1) frame) → Appends a.reported b.reported (line_of k (a.frames + 1) frame) → b.frames ≡ a.frames + 1 → b.taken ≡ a.taken → b.refused ≡ (a.refused || not (passes k frame)) → Goes k a b
handled_one k a b frame split left written reported frames taken refused = record {
  read = [];
  frames = frame ∷ [];
  consumed = same_consumes a.left b.left left;
  split = split_none k.input k.limit a.held b.held (frame ∷ []) split;
  written = subst (λ (xs : List ℕ). Appends a.written b.written xs) (sym (append-nil (output_of k (a.frames + 1) frame))) written;
  reported = subst (λ (xs : List ℕ). Appends a.reported b.reported xs) (sym (append-nil (line_of k (a.frames + 1) frame))) reported;
  counted = frames;
  taken = omega (arith, taken);
  refused = refused ∙ ap (λ t. a.refused || t) (or_false (not (passes k frame)));
}

-- what is passed over at the front was let go
passed_over : (k : Terms) (a b : Moment) → Spans k.input k.limit a.held [] b.held → b.left ≡ a.left → b.written ≡ a.written → b.reported ≡ a.reported → b.frames ≡ a.frames → b.taken ≡ a.taken → b.refused ≡ a.refused → Goes k a b
passed_over k a b split left written reported frames taken refused = record {
  read = [];
  frames = [];
  consumed = same_consumes a.left b.left left;
  split = split_none k.input k.limit a.held b.held [] split;
  written = same_appends a.written b.written written;
  reported = same_appends a.reported b.reported reported;
  counted = omega (arith, frames);
  taken = omega (arith, taken);
  refused = refused ∙ or_false a.refused;
}

-- of the line of the rest a front was written
pub broken_line : (k : Terms) (a b : Moment) (line : List ℕ) → IsStreamLine k.input k.limit a.frames a.held line → b.left ≡ a.left → b.written ≡ a.written → AppendsFront a.reported b.reported line → Breaks streams.Report k a b
broken_line k a b line is left written reported = record {
  read = [];
  frames = [];
  more = a.held;
  last = line;
  closing = [];
  consumed = same_consumes a.left b.left left;
  split = split_none k.input k.limit a.held a.held [] (spans_none k.input k.limit a.held);
  closing_is = inl refl;
  cut = record { written = same_appends a.written b.written written; reported = reported };
  last_is = inr (subst (λ (n : ℕ). IsStreamLine k.input k.limit n a.held line) (sym (add-zero a.frames)) is);
}

-- ---- the line of the rest

pub left_line : (t : Transport) (limit frames : ℕ) (held : List ℕ) → t ≡ Frames → front t limit held ≡ Part → (held ≡ [] → ⊥) → IsStreamLine t limit frames held (left_text frames (length held))
unfolding IsStreamLine
left_line t limit frames held e part some = inr (e, part, some, refl)

pub excess_line : (t : Transport) (limit frames : ℕ) (held line : List ℕ) (e : Excess) → front t limit held ≡ Exceeds e → line ≡ excess_text limit (frames + 1) e → IsStreamLine t limit frames held line
unfolding IsStreamLine
excess_line t limit frames held line e over text = inl (e, over, text)

pub rest_left : (k : Terms) (a b mid : Moment) (line : List ℕ) → Goes k a mid → IsStreamLine k.input k.limit mid.frames mid.held line → b.written ≡ mid.written → Appends mid.reported b.reported line → b.left ≡ mid.left → k.input ≡ Frames → IsAtEnd mid.left → EndsInRest k a b
rest_left k a b mid line goes is written reported left framed at_end =
    record { mid = mid; line = line; goes = goes; line_is = is; written = written; reported = reported; left = left; at_end = inr (framed, at_end) }

pub rest_over : (k : Terms) (a b mid : Moment) (line : List ℕ) → Goes k a mid → IsStreamLine k.input k.limit mid.frames mid.held line → b.written ≡ mid.written → Appends mid.reported b.reported line → b.left ≡ mid.left → (e : Excess) → front k.input k.limit mid.held ≡ Exceeds e → EndsInRest k a b
rest_over k a b mid line goes is written reported left e over =
    record { mid = mid; line = line; goes = goes; line_is = is; written = written; reported = reported; left = left; at_end = inl (e, over) }

-- ---- how the work ends

-- up to a moment, and from there to the end of the input
goes_to_end : (k : Terms) (a b c : Moment) → Goes k a b → GoesToEnd k b c → GoesToEnd k a c
goes_to_end k a b c p q = record {
  read = p.read ++ q.read;
  frames = p.frames ++ q.frames;
  consumed = consumes_on a.left b.left c.left p.read q.read p.consumed q.consumed;
  cuts = subst (λ (l : List ℕ). CutsAll k.input k.limit l (p.frames ++ q.frames)) (append_assoc a.held p.read q.read) (cut_all_on k.input k.limit (a.held ++ p.read) b.held q.read p.frames q.frames p.split q.cuts);
  written = rw (outputs_on k a.frames p.frames q.frames, ← p.counted) (appends_on a.written b.written c.written (outputs k a.frames p.frames) (outputs k b.frames q.frames) p.written q.written);
  reported = rw (lines_on k a.frames p.frames q.frames, ← p.counted) (appends_on a.reported b.reported c.reported (lines k a.frames p.frames) (lines k b.frames q.frames) p.reported q.reported);
  refused = q.refused ∙ (ap (λ t. t || any_refused k q.frames) p.refused ∙ (or_assoc a.refused (any_refused k p.frames) (any_refused k q.frames) ∙ ap (λ t. a.refused || t) (sym (any_refused_on k p.frames q.frames))));
  at_end = q.at_end;
}

pub ends_on : (k : Terms) (a b c : Moment) (end : Result Ending Broken) → Goes k a b → Ends k b c end → Ends k a c end
ends_on k a b c (Ok endings.Done) p q = (goes_to_end k a b c p q.0, q.1)
ends_on k a b c (Ok endings.Refused) p q = (goes_to_end k a b c p q.0, q.1)
ends_on k a b c (Ok endings.StreamFault) p q =
    record { mid = q.mid; line = q.line; goes = goes_on k a b q.mid p q.goes; line_is = q.line_is; written = q.written; reported = q.reported; left = q.left; at_end = q.at_end }
ends_on k a b c (Ok endings.ReadFault) p q = (goes_on k a b c p q.0, q.1)
ends_on k a b c (Ok endings.BudgetSpent) p q = (goes_on k a b c p q.0, q.1, q.2)
ends_on k a b c (Ok endings.Usage) p q = q
ends_on k a b c (Ok endings.WriteFault) p q = q
ends_on k a b c (Ok endings.FileFault) p q = q
ends_on k a b c (Ok endings.HubFault) p q = q
ends_on k a b c (Ok endings.OutOfMemory) p q = q
ends_on k a b c (Err broken) p q = goes_and_breaks broken k a b c p q

-- ---- what is gathered before it is written

rewritten : (k : Terms) (a b c : Moment) → Goes k a b → c.left ≡ b.left → c.held ≡ b.held → c.frames ≡ b.frames → c.taken ≡ b.taken → c.refused ≡ b.refused → ((xs : List ℕ) → Appends a.written b.written xs → Appends a.written c.written xs) → ((xs : List ℕ) → Appends a.reported b.reported xs → Appends a.reported c.reported xs) → Goes k a c
rewritten k a b c g left held frames taken refused f r = record {
  read = g.read;
  frames = g.frames;
  consumed = subst (λ (l : Option (List ℕ)). Consumes a.left l g.read) (sym left) g.consumed;
  split = subst (λ (l : List ℕ). Spans k.input k.limit (a.held ++ g.read) g.frames l) (sym held) g.split;
  written = f (outputs k a.frames g.frames) g.written;
  reported = r (lines k a.frames g.frames) g.reported;
  counted = frames ∙ g.counted;
  taken = taken ∙ g.taken;
  refused = refused ∙ g.refused;
}

-- at first nothing waits
pub waits_nowhere : (k : Terms) (a : Moment) (out waiting : List ℕ) → out ≡ [] → waiting ≡ [] → Waits k a a out waiting
unfolding rewritten goes_nowhere
waits_nowhere k a out waiting none none_too = record {
  goes = rewritten k a a (record a { written = append_known a.written out; reported = append_known a.reported waiting }) (goes_nowhere k a) refl refl refl refl refl
      (λ xs h. some_wait a.written a.written out xs none h) (λ xs h. some_wait a.reported a.reported waiting xs none_too h);
  done = [];
  others = [];
  is = refl;
  some = [];
  written = appends_none a.written;
  reported = appends_none a.reported;
}

same_known : (a w w' : Option (List ℕ)) (p p' xs : List ℕ) → w' ≡ w → p' ≡ p → Appends a (append_known w p) xs → Appends a (append_known w' p') xs
same_known a w w' p p' xs e f h =
    subst (λ (v : Option (List ℕ)). Appends a (append_known v p') xs) (sym e) (subst (λ (q : List ℕ). Appends a (append_known w q) xs) (sym f) h)

appends_same : (a w w' : Option (List ℕ)) (xs : List ℕ) → w' ≡ w → Appends a w xs → Appends a w' xs
appends_same a w w' xs e h = subst (λ (v : Option (List ℕ)). Appends a v xs) (sym e) h

-- what waited still waits
pub waits_still : (k : Terms) (a b c : Moment) (out out' waiting waiting' : List ℕ) → Waits k a b out waiting → c.left ≡ b.left → c.held ≡ b.held → c.frames ≡ b.frames → c.taken ≡ b.taken → c.refused ≡ b.refused → Stays out out' waiting waiting' b.written c.written b.reported c.reported → Waits k a c out' waiting'
unfolding rewritten
waits_still k a b c out out' waiting waiting' w left held frames taken refused s = record {
  goes = rewritten k a (record b { written = append_known b.written out; reported = append_known b.reported waiting }) (record c { written = append_known c.written out'; reported = append_known c.reported waiting' }) w.goes left held frames taken refused
      (λ xs h. same_known a.written b.written c.written out out' xs s.written_stays s.page_stays h) (λ xs h. same_known a.reported b.reported c.reported waiting waiting' xs s.reported_stays s.waiting_stays h);
  done = w.done;
  others = w.others;
  is = w.is;
  some = w.some;
  written = appends_same a.written b.written c.written (outputs k a.frames w.done ++ w.some) s.written_stays w.written;
  reported = appends_same a.reported b.reported c.reported (lines k a.frames w.done) s.reported_stays w.reported;
}

-- all that waited was written
pub waits_done : (k : Terms) (a b c : Moment) (out waiting : List ℕ) → Waits k a b out waiting → c.left ≡ b.left → c.held ≡ b.held → c.frames ≡ b.frames → c.taken ≡ b.taken → c.refused ≡ b.refused → Appends b.written c.written out → Appends b.reported c.reported waiting → Goes k a c
waits_done k a b c out waiting w left held frames taken refused f r =
    rewritten k a (record b { written = append_known b.written out; reported = append_known b.reported waiting }) c w.goes left held frames taken refused
    (λ xs h. all_written a.written b.written c.written out xs h f) (λ xs h. all_written a.reported b.reported c.reported waiting xs h r)

-- then nothing waits
pub waits_empty : (k : Terms) (a b c : Moment) (out out' waiting waiting' : List ℕ) → Waits k a b out waiting → c.left ≡ b.left → c.held ≡ b.held → c.frames ≡ b.frames → c.taken ≡ b.taken → c.refused ≡ b.refused → Empties out out' waiting waiting' b.written c.written b.reported c.reported → Waits k a c out' waiting'
unfolding rewritten waits_done
waits_empty k a b c out out' waiting waiting' w left held frames taken refused e =
    let g = waits_done k a b c out waiting w left held frames taken refused e.page_written e.all_reported in
    record {
      goes = rewritten k a c (record c { written = append_known c.written out'; reported = append_known c.reported waiting' }) g refl refl refl refl refl
          (λ xs h. some_wait a.written c.written out' xs e.page_empty h) (λ xs h. some_wait a.reported c.reported waiting' xs e.waiting_empty h);
      done = g.frames;
      others = [];
      is = sym (append-nil g.frames);
      some = [];
      written = subst (λ (xs : List ℕ). Appends a.written c.written xs) (sym (append-nil (outputs k a.frames g.frames))) g.written;
      reported = g.reported;
    }

-- there is room for one frame more
pub waits_roomy : (k : Terms) (a b c : Moment) (out out' waiting waiting' : List ℕ) → Waits k a b out waiting → c.left ≡ b.left → c.held ≡ b.held → c.frames ≡ b.frames → c.taken ≡ b.taken → c.refused ≡ b.refused →
    Stays out out' waiting waiting' b.written c.written b.reported c.reported ⊎ Empties out out' waiting waiting' b.written c.written b.reported c.reported → Waits k a c out' waiting'
waits_roomy k a b c out out' waiting waiting' w left held frames taken refused (inl s) = waits_still k a b c out out' waiting waiting' w left held frames taken refused s
waits_roomy k a b c out out' waiting waiting' w left held frames taken refused (inr e) = waits_empty k a b c out out' waiting waiting' w left held frames taken refused e

-- nothing stands for an LF
split_closed : (t : Transport) (limit : ℕ) (held read rest : List ℕ) (xs : List (List ℕ)) → Spans t limit (held ++ read) xs rest → Spans t limit (held ++ (read ++ [])) xs rest
split_closed t limit held read rest xs s = subst (λ (l : List ℕ). Spans t limit (held ++ l) xs rest) (sym (append-nil read)) s

-- what was sent behind some bytes, and a front of what waited
behind_gathered : (a w w' : Option (List ℕ)) (p before some others : List ℕ) → Appends a w (before ++ some) → Appends a (append_known w p) (before ++ others) → AppendsFront w w' p →
    (count : ℕ) × (count ≤ length others) × Appends a w' (before ++ take count others)
behind_gathered None w w' p before some others s h f = (0, omega arith, tt)
behind_gathered (Some a) None w' p before some others s h f = absurd s
behind_gathered (Some a) (Some x) w' p before some others s h f =
    let all : (before ++ some) ++ p ≡ before ++ others = append_cancel_left a ((before ++ some) ++ p) (before ++ others) (sym (append_assoc a (before ++ some) p) ∙ (ap (λ t. t ++ p) (sym s) ∙ h)) in
    let is : some ++ p ≡ others = append_cancel_left before (some ++ p) others (sym (append_assoc before some p) ∙ all) in
    let sent : Appends (Some a) w' (before ++ (some ++ take f.0 p)) = subst (λ (xs : List ℕ). Appends (Some a) w' xs) (append_assoc before some (take f.0 p)) (appends_on (Some a) (Some x) w' (before ++ some) (take f.0 p) s f.2) in
    let front : some ++ take f.0 p ≡ take (length some + f.0) others = sym (take-append-add some p f.0) ∙ ap (take (length some + f.0)) is in (
      length some + f.0,
      omega (arith, f.1, ap length is, length-append some p),
      subst (λ (xs : List ℕ). Appends (Some a) w' (before ++ xs)) front sent,
    )

-- the output failed, and a front of what waited for it was written
pub output_broken : (k : Terms) (a b c : Moment) (out waiting : List ℕ) → Waits k a b out waiting → c.left ≡ b.left → AppendsFront b.written c.written out → c.reported ≡ b.reported → BreaksBefore streams.Output k a c
output_broken k a b c out waiting w left f r =
    let parted : outputs k a.frames w.goes.frames ≡ outputs k a.frames w.done ++ outputs k (a.frames + length w.done) w.others = ap (outputs k a.frames) w.is ∙ outputs_on k a.frames w.done w.others in
    let sent = behind_gathered a.written b.written c.written out (outputs k a.frames w.done) w.some (outputs k (a.frames + length w.done) w.others) w.written
    (subst (λ (xs : List ℕ). Appends a.written (append_known b.written out) xs) parted w.goes.written) f in (
      record {
        read = w.goes.read;
        frames = w.goes.frames;
        more = b.held;
        last = [];
        closing = [];
        consumed = subst (λ (l : Option (List ℕ)). Consumes a.left l w.goes.read) (sym left) w.goes.consumed;
        split = split_closed k.input k.limit a.held w.goes.read b.held w.goes.frames w.goes.split;
        closing_is = inl refl;
        cut = (
          record {
            done = w.done;
            others = w.others;
            is = w.is;
            count = sent.0;
            within = sent.1;
            written = sent.2;
            reported = appends_same a.reported b.reported c.reported (lines k a.frames w.done) r w.reported;
          },
          refl,
        );
        last_is = inl refl;
      },
      refl,
    )

-- the report failed, and a front of the lines that waited was written
pub report_broken : (k : Terms) (a b c : Moment) (out waiting : List ℕ) → Waits k a b out waiting → c.left ≡ b.left → Appends b.written c.written out → AppendsFront b.reported c.reported waiting → BreaksBefore streams.Report k a c
report_broken k a b c out waiting w left f r = (
  record {
    read = w.goes.read;
    frames = w.goes.frames;
    more = b.held;
    last = [];
    closing = [];
    consumed = subst (λ (l : Option (List ℕ)). Consumes a.left l w.goes.read) (sym left) w.goes.consumed;
    split = split_closed k.input k.limit a.held w.goes.read b.held w.goes.frames w.goes.split;
    closing_is = inl refl;
    cut = record {
      written = all_written a.written b.written c.written out (outputs k a.frames w.goes.frames) w.goes.written f;
      reported = front_of_more a.reported c.reported (lines k a.frames w.goes.frames) [] (front_of_gathered a.reported b.reported c.reported waiting (lines k a.frames w.done) (lines k a.frames w.goes.frames) w.reported w.goes.reported r);
    };
    last_is = inl refl;
  },
  refl,
)

-- a stream failed while what waited was written
pub waits_broken : (broken : Broken) (k : Terms) (a b c : Moment) (out waiting : List ℕ) → Waits k a b out waiting → c.left ≡ b.left → WritesBoth (Err broken) out waiting b.written c.written b.reported c.reported → BreaksBefore broken k a c
waits_broken streams.Output k a b c out waiting w left h = output_broken k a b c out waiting w left h.0 h.1
waits_broken streams.Report k a b c out waiting w left h = report_broken k a b c out waiting w left h.0 h.1

-- what is written of one frame more waits behind what waited, of which a front may have been written
pub waits_one : (k : Terms) (a b c : Moment) (out waiting out' waiting' frame rest : List ℕ) → Waits k a b out waiting → Spans k.input k.limit b.held (frame ∷ []) rest → c.held ≡ rest → c.left ≡ b.left → Flushed b.written (out ++ output_of k (b.frames + 1) frame) c.written out' → c.reported ≡ b.reported → c.frames ≡ b.frames + 1 → c.taken ≡ b.taken → c.refused ≡ (b.refused || not (passes k frame)) → waiting' ≡ waiting ++ line_of k (b.frames + 1) frame → Waits k a c out' waiting'
unfolding goes_on handled_one
waits_one k a b c out waiting out' waiting' frame rest w cut held left written reported frames taken refused m = record {
  goes = goes_on k a (record b { written = append_known b.written out; reported = append_known b.reported waiting }) (record c { written = append_known c.written out'; reported = append_known c.reported waiting' }) w.goes
      (handled_one k (record b { written = append_known b.written out; reported = append_known b.reported waiting }) (record c { written = append_known c.written out'; reported = append_known c.reported waiting' }) frame (subst (λ (l : List ℕ). Spans k.input k.limit b.held (frame ∷ []) l) (sym held) cut) left
      (gathered b.written c.written out out' (output_of k (b.frames + 1) frame) written) (one_waits b.reported c.reported waiting waiting' (line_of k (b.frames + 1) frame) reported m) frames taken refused);
  done = w.done;
  others = w.others ++ frame ∷ [];
  is = ap (λ t. t ++ frame ∷ []) w.is ∙ append_assoc w.done w.others (frame ∷ []);
  some = w.some ++ written.0;
  written = subst (λ (xs : List ℕ). Appends a.written c.written xs) (append_assoc (outputs k a.frames w.done) w.some written.0) (appends_on a.written b.written c.written (outputs k a.frames w.done ++ w.some) written.0 w.written written.1);
  reported = appends_same a.reported b.reported c.reported (lines k a.frames w.done) reported w.reported;
}

-- the output failed, and a front of what waited and of what is written of one frame more was written
pub one_broken : (k : Terms) (a b c : Moment) (out waiting frame rest : List ℕ) → Waits k a b out waiting → Spans k.input k.limit b.held (frame ∷ []) rest → c.left ≡ b.left → c.reported ≡ b.reported → AppendsFront b.written c.written (out ++ output_of k (b.frames + 1) frame) → BreaksBefore streams.Output k a c
one_broken k a b c out waiting frame rest w cut left reported front =
    let d = record b { held = rest; frames = b.frames + 1; refused = b.refused || not (passes k frame) } in
    output_broken k a d c (out ++ output_of k (b.frames + 1) frame) (waiting ++ line_of k (b.frames + 1) frame)
    (waits_one k a b d out waiting (out ++ output_of k (b.frames + 1) frame) (waiting ++ line_of k (b.frames + 1) frame) frame rest w cut refl refl (flushed_none b.written (out ++ output_of k (b.frames + 1) frame)) refl refl refl refl refl)
    left front reported

-- what is passed over at the front was let go
pub waits_over : (k : Terms) (a b c : Moment) (out waiting : List ℕ) → Waits k a b out waiting → Spans k.input k.limit b.held [] c.held → c.left ≡ b.left → c.written ≡ b.written → c.reported ≡ b.reported → c.frames ≡ b.frames → c.taken ≡ b.taken → c.refused ≡ b.refused → Waits k a c out waiting
unfolding goes_on passed_over
waits_over k a b c out waiting w over left written reported frames taken refused = record {
  goes = goes_on k a (record b { written = append_known b.written out; reported = append_known b.reported waiting }) (record c { written = append_known c.written out; reported = append_known c.reported waiting }) w.goes
      (passed_over k (record b { written = append_known b.written out; reported = append_known b.reported waiting }) (record c { written = append_known c.written out; reported = append_known c.reported waiting }) over left
      (ap (λ (v : Option (List ℕ)). append_known v out) written) (ap (λ (v : Option (List ℕ)). append_known v waiting) reported) frames taken refused);
  done = w.done;
  others = w.others ++ [];
  is = ap (λ t. t ++ []) w.is ∙ append_assoc w.done w.others [];
  some = w.some;
  written = appends_same a.written b.written c.written (outputs k a.frames w.done ++ w.some) written w.written;
  reported = appends_same a.reported b.reported c.reported (lines k a.frames w.done) reported w.reported;
}

-- the counts stay below the bytes that were taken
pub stays_counted : (k : Terms) (a b : Moment) → Goes k a b → a.frames + length a.held ≤ a.taken → b.frames + length b.held ≤ b.taken
stays_counted k a b g counted =
    omega (arith, counted, g.counted, g.taken, spans_fewer k.input k.limit (a.held ++ g.read) g.frames b.held g.split, length-append a.held g.read)
