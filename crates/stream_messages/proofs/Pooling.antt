-- A loop that gathers contents: one more piece of a frame.
use Rattle.std.proofs.Common.{◌≡◌, ℕ, ◌+◌, ◌≤◌, List, [], ◌++◌, length, take, drop, refl, sym, ap, ◌∙◌, arith, append-nil, take-add}
use Rattle.std.proofs.lemmas.List.{length-take-le, length-drop}
use borrow.Rule.Slice.PartMut.{put_mid}
use Rattle.stream_messages.specs.Stripping.{StripperState, behind_bytes, contents, IsBehindLength, IsBehindContent}
use Rattle.stream_messages.proofs.Stripping.{behind_join, contents_join}
use Rattle.stream_messages.proofs.Finding.{front_written}

pub record Gathers (s : StripperState) (from into : List ℕ) (behind : StripperState) (taken filled : ℕ) : Type 0 where
  pub within : taken ≤ length from
  pub fits : filled ≤ length into
  pub behind_is : behind ≡ behind_bytes s (take taken from)
  pub are : take filled into ≡ contents s (take taken from)

pub begins : (s b : StripperState) (from into : List ℕ) → b ≡ s → Gathers s from into b 0 0
begins s b from into is = record { within = omega arith; fits = omega arith; behind_is = is; are = refl }

pub gathers_on : (s b next t : StripperState) (from into into' : List ℕ) (taken filled head count : ℕ) → Gathers s from into b taken filled → IsBehindLength b (take head (drop taken from)) next → IsBehindContent next count t
    → (taken + head) + count ≤ length from → filled + count ≤ length into' → take (filled + count) into' ≡ take filled into ++ take count (drop (taken + head) from) → Gathers s from into' t ((taken + head) + count) (filled + count)
gathers_on s b next t from into into' taken filled head count g len content within fits written = record {
  within = within;
  fits = fits;
  behind_is =
      (content (take count (drop (taken + head) from)) size).0
      ∙ (ap (λ (u : StripperState). behind_bytes u (take count (drop (taken + head) from))) (len.0 ∙ (ap (λ (u : StripperState). behind_bytes u (take head (drop taken from))) g.behind_is ∙ sym (behind_join (take taken from) (take head (drop taken from)) s)))
      ∙ (sym (behind_join (take taken from ++ (take head (drop taken from))) (take count (drop (taken + head) from)) s) ∙ ap (λ l. behind_bytes s l) (sym whole)));
  are =
      written
      ∙ (ap (λ l. l ++ (take count (drop (taken + head) from))) (g.are ∙ (sym (append-nil (contents s (take taken from))) ∙ (ap (λ l. contents s (take taken from) ++ l) (sym at_length) ∙ sym (contents_join (take taken from) (take head (drop taken from)) s))))
      ∙ (ap (λ l. contents s (take taken from ++ (take head (drop taken from))) ++ l) (sym at_content) ∙ (sym (contents_join (take taken from ++ (take head (drop taken from))) (take count (drop (taken + head) from)) s) ∙ ap (λ l. contents s l) (sym whole))));
}
  where
    size : length (take count (drop (taken + head) from)) ≡ count
    size = length-take-le count (drop (taken + head) from) (omega (arith, within, length-drop (taken + head) from))

    whole : take ((taken + head) + count) from ≡ (take taken from ++ (take head (drop taken from))) ++ (take count (drop (taken + head) from))
    whole = take-add (taken + head) count from ∙ ap (λ l. l ++ (take count (drop (taken + head) from))) (take-add taken head from)

    at_length : contents (behind_bytes s (take taken from)) (take head (drop taken from)) ≡ []
    at_length = ap (λ (u : StripperState). contents u (take head (drop taken from))) (sym g.behind_is) ∙ len.1

    next_is : next ≡ behind_bytes s (take taken from ++ (take head (drop taken from)))
    next_is = len.0 ∙ (ap (λ (u : StripperState). behind_bytes u (take head (drop taken from))) g.behind_is ∙ sym (behind_join (take taken from) (take head (drop taken from)) s))

    at_content : contents (behind_bytes s (take taken from ++ (take head (drop taken from)))) (take count (drop (taken + head) from)) ≡ (take count (drop (taken + head) from))
    at_content = ap (λ (u : StripperState). contents u (take count (drop (taken + head) from))) (sym next_is) ∙ (content (take count (drop (taken + head) from)) size).1

-- what was copied behind what was gathered
pub copied_on : (into new from : List ℕ) (filled count k at : ℕ) → new ≡ take count (drop at from) → filled ≤ length into → count ≤ length (drop at from) → take (filled + count) (put_mid filled k into new) ≡ take filled into ++ take count (drop at from)
copied_on into new from filled count k at is within some = front_written into new (drop at from) filled count k is within some
