-- What a scan of held bytes has found.
use Rattle.std.proofs.Common.{◌≡◌, ℕ, ◌+◌, ◌-◌, ◌<◌, ◌≤◌, List, ◌++◌, length, take, drop, refl, sym, ap, ◌∙◌, subst, arith}
use Rattle.std.specs.Prelude.{nat_le, Bool, true, false}
use Rattle.std.proofs.lemmas.Bool.Decides.{nat_tests}
use Rattle.std.proofs.lemmas.List.{take-append-drop, length-take-le, length-drop, take-take, take_all}
use Rattle.stream_messages.specs.declared.search.Search.{Search}
use Rattle.stream_messages.specs.Scanning.{Scanning}
use Rattle.stream_messages.specs.Fronts.{Found, cut, IsFront}
use Rattle.stream_messages.specs.Feeding.{HasRead, EndsAt}
use Rattle.stream_messages.specs.Messages.{rest, over, IsFirst, IsTail}
use Rattle.stream_messages.specs.Searching.{Searches}

module _ (s : Search) (held : List ℕ) (searches : Searches s held) where
  whole_held : take s.scanned held ++ drop s.scanned held ≡ held
  whole_held = take-append-drop s.scanned held

  size : length (take s.scanned held) ≡ s.scanned
  size = length-take-le s.scanned held searches.within

  pub whole_piece : take (length held - s.scanned) (drop s.scanned held) ≡ drop s.scanned held
  whole_piece = take_all (length held - s.scanned) (drop s.scanned held) (omega (arith, length-drop s.scanned held))

  pub ends_within : (found : Found) (n : ℕ) → EndsAt s.scan (take s.scanned held) (drop s.scanned held) found n → s.scanned + n ≤ length held
  ends_within found n e = omega (arith, e.within, length-drop s.scanned held, searches.within)

  -- each shorter front begins a message
  begins_before : (found : Found) (n : ℕ) → EndsAt s.scan (take s.scanned held) (drop s.scanned held) found n → (k : ℕ) → k < s.scanned + n → IsFront s.wire cut (take k held)
  begins_before found n e k less =
      subst (λ w. IsFront w cut (take k held)) searches.wire_is
      (subst (λ l. IsFront s.scan.wire cut (take k l)) whole_held (e.begins k (omega (arith, less, size))))

  found_here : (found : Found) (n : ℕ) → EndsAt s.scan (take s.scanned held) (drop s.scanned held) found n → IsFront s.wire found (take (s.scanned + n) held)
  found_here found n e =
      subst (λ w. IsFront w found (take (s.scanned + n) held)) searches.wire_is
      (subst (λ l. IsFront s.scan.wire found (take (s.scanned + n) l)) whole_held
      (subst (λ k. IsFront s.scan.wire found (take (k + n) (take s.scanned held ++ drop s.scanned held))) size e.is))

  pub found_first : (found : Found) (n : ℕ) → EndsAt s.scan (take s.scanned held) (drop s.scanned held) found n → IsFirst s.wire s.limit found (take (s.scanned + n) held)
  found_first found n e =
      let count : length (take (s.scanned + n) held) ≡ s.scanned + n = length-take-le (s.scanned + n) held (ends_within found n e) in
      record {
        within = omega (arith, count, size, e.limit, searches.limit_is);
        is = found_here found n e;
        begins = λ k less.
            let under : k < s.scanned + n = omega (arith, less, count) in
            let le : k ≤ s.scanned + n = omega (arith, under) in
            subst (λ l. IsFront s.wire cut l) (sym (take-take k (s.scanned + n) held le)) (begins_before found n e k under);
      }

  pub found_over : (n : ℕ) → EndsAt s.scan (take s.scanned held) (drop s.scanned held) cut n → length (take s.scanned held) + n ≡ s.scan.limit → IsTail s.wire s.limit held over
  found_over n e full =
      let at : s.scanned + n ≡ s.limit = omega (arith, full, size, searches.limit_is) in
      (omega (arith, ends_within cut n e, at), λ k less. by at k less (nat_le s.limit k) refl)
    where
      by : s.scanned + n ≡ s.limit → (k : ℕ) → k < s.limit + 1 → (b : Bool) → nat_le s.limit k ≡ b → IsFront s.wire cut (take k held)
      by at k less true p =
          let is : s.scanned + n ≡ k = let le : s.limit ≤ k = grind (arith, nat_tests) in omega (arith, at, less, le) in
          subst (λ i. IsFront s.wire cut (take i held)) is (found_here cut n e)
      by at k less false p =
          let under : k < s.scanned + n = let lt : k < s.limit = grind (arith, nat_tests) in omega (arith, at, lt) in
          begins_before cut n e k under

  pub found_open : (new : Scanning) → HasRead new (take s.scanned held ++ drop s.scanned held) → new.wire ≡ s.scan.wire → new.limit ≡ s.scan.limit → IsTail s.wire s.limit held (rest held)
  found_open new read w l =
      let read_all : HasRead new held = subst (λ z. HasRead new z) whole_held read in (
        refl,
        omega (arith, read_all.room, l, searches.limit_is),
        λ k less. subst (λ x. IsFront x cut (take k held)) (w ∙ searches.wire_is) (read_all.begins k (omega (arith, less))),
      )

  pub read_on : (new : Scanning) (after : Search) → after.scan ≡ new → after.wire ≡ s.wire → after.limit ≡ s.limit → after.scanned ≡ length held
      → HasRead new (take s.scanned held ++ drop s.scanned held) → new.wire ≡ s.scan.wire → new.limit ≡ s.scan.limit → Searches after held
  read_on new after is wire limit count read w l = record {
    wire_is = ap (λ (z : Scanning). z.wire) is ∙ (w ∙ (searches.wire_is ∙ sym wire));
    limit_is = ap (λ (z : Scanning). z.limit) is ∙ (l ∙ (searches.limit_is ∙ sym limit));
    within = omega (arith, count);
    read = subst (λ (z : Scanning). HasRead z (take after.scanned held)) (sym is)
        (subst (λ z. HasRead new z) (whole_held ∙ sym (take_all after.scanned held (omega (arith, count)))) read);
  }
