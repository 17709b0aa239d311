-- A text that is told in pieces.
use Rattle.std.proofs.Common.{◌≡◌, ℕ, ◌≤◌, List, [], ◌++◌, take, drop, Bool, true, false, arith, refl, sym, ◌∙◌, ap, subst, append_assoc}
use Rattle.std.proofs.lemmas.List.{append-nil, take-append-drop}
use Rattle.std.specs.Io.KnownBytes.{Appends}
use Rattle.gate_base.specs.Causes.{Rose}
use Rattle.gate_io.specs.Fronts.{AppendsFront}
use Rattle.message_show.specs.Pieces.{Waiting, Output, Told, Tells}
use Rattle.gate_io.proofs.Streams.{appends_on, appends_none}

-- with more bytes waiting
abbrev pub behind : Waiting → List ℕ → Waiting
behind line piece = record line { bytes = line.bytes ++ piece }

abbrev pub empty : Bool → Waiting
empty broken = record { bytes = []; broken = broken }

pub told_none : (from : Output) → Told from from (empty false) []
told_none from = record { sent = []; rest = []; whole = refl; written = appends_none from.written; waits = λ free. refl; later = omega arith; cause = λ broken. absurd (cc) }

pub told_behind : (from now : Output) (line : Waiting) (text piece : List ℕ) → Told from now line text → Told from now (behind line piece) (text ++ piece)
told_behind from now line text piece h = record {
  sent = h.sent;
  rest = h.rest ++ piece;
  whole = ap (λ xs. xs ++ piece) h.whole ∙ append_assoc h.sent h.rest piece;
  written = h.written;
  waits = λ free. ap (λ xs. xs ++ piece) (h.waits free);
  later = h.later;
  cause = h.cause;
}

pub tells_behind : (now : Output) (line : Waiting) (piece : List ℕ) → Tells now line now (behind line piece) piece
tells_behind now line piece from text h = told_behind from now line text piece h

-- once a write has failed a piece is told by doing nothing
pub tells_broken : (now : Output) (line : Waiting) (piece : List ℕ) → line.broken ≡ true → Tells now line now line piece
tells_broken now line piece broken from text h = record {
  sent = h.sent;
  rest = h.rest ++ piece;
  whole = ap (λ xs. xs ++ piece) h.whole ∙ append_assoc h.sent h.rest piece;
  written = h.written;
  waits = λ free. absurd (cc);
  later = h.later;
  cause = h.cause;
}

pub tells_none : (now : Output) (line : Waiting) → Tells now line now line []
tells_none now line from text h = subst (Told from now line) (sym (append-nil text)) h

pub tells_then : (a b c : Output) (l m n : Waiting) (p q : List ℕ) → Tells a l b m p → Tells b m c n q → Tells a l c n (p ++ q)
tells_then a b c l m n p q f g from text h = subst (Told from c n) (append_assoc text p q) (g from (text ++ p) (f from text h))

-- all that waited was written
pub told_all : (from a b : Output) (line : Waiting) (text : List ℕ) → line.broken ≡ false → Appends a.written b.written line.bytes → a.faults ≤ b.faults
    → Told from a line text → Told from b (empty false) text
told_all from a b line text free all later h = record {
  sent = h.sent ++ line.bytes;
  rest = [];
  whole = h.whole ∙ (ap (λ xs. h.sent ++ xs) (h.waits free) ∙ sym (append-nil (h.sent ++ line.bytes)));
  written = appends_on from.written a.written b.written h.sent line.bytes h.written all;
  waits = λ free. refl;
  later = omega (arith, h.later);
  cause = λ broken. absurd (cc);
}

rose_from : (before a b : ℕ) → before ≤ a → Rose a b → Rose before b
rose_from before a b later rose = grind arith

-- a front of what waited was written, and then a write failed
pub told_front : (from a b : Output) (line : Waiting) (bytes text : List ℕ) → line.broken ≡ false → AppendsFront a.written b.written line.bytes → a.faults ≤ b.faults → Rose a.faults b.faults
    → Told from a line text → Told from b (record { bytes = bytes; broken = true }) text
told_front from a b line bytes text free front later rose h = record {
  sent = h.sent ++ take front.0 line.bytes;
  rest = drop front.0 line.bytes;
  whole = h.whole ∙ (ap (λ xs. h.sent ++ xs) (h.waits free ∙ sym (take-append-drop front.0 line.bytes)) ∙ sym (append_assoc h.sent (take front.0 line.bytes) (drop front.0 line.bytes)));
  written = appends_on from.written a.written b.written h.sent (take front.0 line.bytes) h.written front.2;
  waits = λ free. absurd (cc);
  later = omega (arith, h.later);
  cause = λ broken. rose_from from.faults a.faults b.faults h.later rose;
}

-- once a write has failed nothing is written
pub told_over : (from now : Output) (line : Waiting) (bytes text : List ℕ) → line.broken ≡ true → Told from now line text → Told from now (record { bytes = bytes; broken = true }) text
told_over from now line bytes text broken h = record {
  sent = h.sent;
  rest = h.rest;
  whole = h.whole;
  written = h.written;
  waits = λ free. absurd (cc);
  later = h.later;
  cause = λ over. h.cause broken;
}

-- a piece was written behind all others
pub told_passed : (from a b : Output) (line : Waiting) (text piece : List ℕ) → line.broken ≡ false → line.bytes ≡ [] → Appends a.written b.written piece → a.faults ≤ b.faults
    → Told from a line text → Told from b line (text ++ piece)
told_passed from a b line text piece free none all later h =
    let rest : h.rest ≡ [] = h.waits free ∙ none in
    record {
      sent = h.sent ++ piece;
      rest = [];
      whole = ap (λ xs. xs ++ piece) (h.whole ∙ (ap (λ xs. h.sent ++ xs) rest ∙ append-nil h.sent)) ∙ sym (append-nil (h.sent ++ piece));
      written = appends_on from.written a.written b.written h.sent piece h.written all;
      waits = λ free. sym none;
      later = omega (arith, h.later);
      cause = λ broken. absurd (cc);
    }

-- and of this piece only a front
pub told_broke : (from a b : Output) (line : Waiting) (bytes text piece : List ℕ) → line.broken ≡ false → line.bytes ≡ [] → AppendsFront a.written b.written piece → a.faults ≤ b.faults → Rose a.faults b.faults
    → Told from a line text → Told from b (record { bytes = bytes; broken = true }) (text ++ piece)
told_broke from a b line bytes text piece free none front later rose h =
    let all : piece ≡ line.bytes ++ piece = ap (λ xs. xs ++ piece) (sym none) in
    told_front from a b (behind line piece) bytes (text ++ piece) free (subst (AppendsFront a.written b.written) all front) later rose (told_behind from a line text piece h)

-- a piece was appended behind what was told
pub tells_more : (a b : Output) (l m n : Waiting) (p q : List ℕ) → Tells a l b m p → n ≡ behind m q → Tells a l b n (p ++ q)
tells_more a b l m n p q f is = rw is (tells_then a b b l m (behind m q) p q f (tells_behind b m q))

-- the same text
pub tells_same : (a b : Output) (l m : Waiting) (p q : List ℕ) → p ≡ q → Tells a l b m p → Tells a l b m q
tells_same a b l m p q same f = subst (Tells a l b m) same f

-- nothing more waits
pub same_line : (line : Waiting) → line ≡ record line { bytes = line.bytes ++ [] }
same_line line = ap (λ (bytes : List ℕ). record line { bytes = bytes }) (sym (append-nil line.bytes))
