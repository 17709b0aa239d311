-- A text laid into cells, run by run.
use Rattle.std.proofs.Common.{◌≡◌, ℕ, ◌+◌, ◌-◌, ◌<◌, ◌≤◌, List, [], ◌∷◌, ◌++◌, length, take, drop, sym, ap, subst, ◌∙◌, arith, length-append, length-take, length-drop}
use Rattle.std.specs.Prelude.{slice_index}
use Rattle.std.specs.List.{prefix_len}
use Rattle.json_text.specs.Text.{is_plain}
use Rattle.json_text.specs.Plain.{byte_spelling, pieces_spelling, text_spelling}
use Rattle.json_text.proofs.Spellings.{Spelling, starts, total, after_run, after_byte, finishes, run_to, byte_at, nothing_left}

-- so much of the text stands in the cells up to a place
pub record Laid (old : List ℕ) (into : ℕ) (cells : List ℕ) (to : ℕ) (text : List ℕ) (from : ℕ) : Type 0 where
  pub spelled : Spelling (take to cells) (take into old) text from
  pub within : from ≤ length text
  pub place : to ≤ length cells

pub room : (old cells text : List ℕ) (into to from : ℕ) → into ≤ length old → Laid old into cells to text from → to + (length (pieces_spelling (drop from text)) + 1) ≡ into + length (text_spelling text)
room old cells text into to from h l = omega (arith, total (take to cells) (take into old) text from l.spelled, length-take to cells, length-take into old, l.place)

pub begun : (old cells text : List ℕ) (into to : ℕ) → take to cells ≡ take into old ++ 34 ∷ [] → to ≤ length cells → Laid old into cells to text 0
begun old cells text into to is place = record { spelled = subst (λ out. Spelling out (take into old) text 0) (sym is) (starts (take into old) text); within = omega arith; place = place }

pub run_long : (text : List ℕ) (from stop : ℕ) → stop ≡ from + prefix_len is_plain (drop from text) → stop ≤ length text → length (pieces_spelling (drop from text)) ≡ stop - from + length (pieces_spelling (drop stop text))
run_long text from stop is within =
    ap length (run_to text from stop is) ∙ omega (arith, length-append (take (stop - from) (drop from text)) (pieces_spelling (drop stop text)), length-take (stop - from) (drop from text), length-drop from text)

pub byte_long : (text : List ℕ) (stop : ℕ) → stop < length text → length (pieces_spelling (drop stop text)) ≡ length (byte_spelling (slice_index text stop)) + length (pieces_spelling (drop (stop + 1) text))
byte_long text stop there = ap length (byte_at text stop there) ∙ length-append (byte_spelling (slice_index text stop)) (pieces_spelling (drop (stop + 1) text))

pub run_laid : (old cells new text : List ℕ) (into to from stop result : ℕ) → Laid old into cells to text from → stop ≡ from + prefix_len is_plain (drop from text) → stop ≤ length text
    → take result new ≡ take to cells ++ take (stop - from) (drop from text) → result ≤ length new → Laid old into new result text stop
run_laid old cells new text into to from stop result l is within laid place = record {
  spelled = subst (λ out. Spelling out (take into old) text stop) (sym laid) (after_run (take to cells) (take into old) text from stop is l.spelled);
  within = within;
  place = place;
}

pub byte_laid : (old cells new text : List ℕ) (into to stop result : ℕ) → Laid old into cells to text stop → stop < length text → take result new ≡ take to cells ++ byte_spelling (slice_index text stop) → result ≤ length new
    → Laid old into new result text (stop + 1)
byte_laid old cells new text into to stop result l there laid place = record {
  spelled = subst (λ out. Spelling out (take into old) text (stop + 1)) (sym laid) (after_byte (take to cells) (take into old) text stop there l.spelled);
  within = omega arith;
  place = place;
}

pub text_laid : (old cells new text : List ℕ) (into to stop result : ℕ) → Laid old into cells to text stop → length text ≤ stop → take result new ≡ take to cells ++ 34 ∷ [] → take result new ≡ take into old ++ text_spelling text
text_laid old cells new text into to stop result l past laid = laid ∙ finishes (take to cells) (take into old) text stop past l.spelled

pub nothing_long : (text : List ℕ) (stop : ℕ) → length text ≤ stop → length (pieces_spelling (drop stop text)) ≡ 0
nothing_long text stop past = ap length (nothing_left text stop past)
