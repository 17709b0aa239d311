-- Each stream is cut into messages and a tail: as a scan goes through it.
use Rattle.std.proofs.Common.{◌≡◌, ◌⊎◌, inl, inr, ℕ, zero, suc, ◌+◌, ◌^◌, ◌<◌, ◌≤◌, Bool, true, false, List, [], ◌∷◌, ◌++◌, length, take, refl, sym, ap, ◌∙◌, subst, arith, length-append, append_assoc}
use Rattle.std.specs.Prelude.{nat_le}
use Rattle.std.proofs.lemmas.Bool.Decides.{nat_tests}
use Rattle.std.proofs.lemmas.List.{take_at, take-append-le, append-nil}
use Rattle.gate_base.specs.Bytes.{AreBytes}
use Rattle.stream_messages.specs.declared.scan.Wire.{Wire}
use Rattle.stream_messages.specs.declared.scan.Taken.{Taken}
use Rattle.stream_messages.specs.declared.scan.Taken.TheVariants as took
use Rattle.stream_messages.specs.Scanning.{Scanning, begins, takes}
use Rattle.stream_messages.specs.Fronts.{Found, whole, cut, bad, IsFront}
use Rattle.stream_messages.specs.Feeding.{HasRead, TakesOne}
use Rattle.stream_messages.specs.Messages.{Tail, rest, refused, over, BeginsUpTo, IsFirst, IsTail, Messages}
use Rattle.stream_messages.proofs.Taking.{takes_law, begun}

-- what comes first: a tail, or a message
abbrev First : Wire → ℕ → List ℕ → Type 0
First wire limit stream =
    ((tail : Tail) × IsTail wire limit stream tail)
    ⊎ ((message : List ℕ) × (behind : List ℕ) × (stream ≡ message ++ behind) × (0 < length message) × IsFirst wire limit whole message)

bytes_behind : (front behind : List ℕ) → AreBytes (front ++ behind) → AreBytes behind
bytes_behind [] behind h = h
bytes_behind (x ∷ front) behind h = bytes_behind front behind h.1

module _ (s : Scanning) (front : List ℕ) (b : ℕ) (more : List ℕ) (read : HasRead s front) where
  longer : length (front ++ b ∷ []) ≡ length front + 1
  longer = length-append front (b ∷ [])

  laid : front ++ b ∷ more ≡ (front ++ b ∷ []) ++ more
  laid = sym (append_assoc front (b ∷ []) more)

  shorter : (tail : List ℕ) → BeginsUpTo s.wire (length front + 1) (front ++ tail)
  shorter tail k less = let le : k ≤ length front = omega arith in subst (λ l. IsFront s.wire cut l) (sym (take-append-le k front tail le)) (read.begins k le)

  first_is : (found : Found) → IsFront s.wire found (front ++ b ∷ []) → IsFirst s.wire s.limit found (front ++ b ∷ [])
  first_is found h = record { within = omega (arith, longer, read.room); is = h; begins = subst (λ n. BeginsUpTo s.wire n (front ++ b ∷ [])) (sym longer) (shorter (b ∷ [])) }

  over_is : IsFront s.wire cut (front ++ b ∷ []) → length front + 1 ≡ s.limit → IsTail s.wire s.limit (front ++ b ∷ more) over
  over_is h e = (omega (arith, length-append front (b ∷ more)), λ k less. by_test (nat_le k (length front)) k less refl)
    where
      by_test : (t : Bool) (k : ℕ) → k < s.limit + 1 → nat_le k (length front) ≡ t → IsFront s.wire cut (take k (front ++ b ∷ more))
      by_test true k less p = shorter (b ∷ more) k (grind (arith, nat_tests))
      by_test false k less p =
          let n : length (front ++ b ∷ []) ≡ k = let far : length front < k = grind (arith, nat_tests) in omega (arith, longer) in
          subst (λ l. IsFront s.wire cut l) (sym (ap (λ l. take k l) laid ∙ take_at (front ++ b ∷ []) more k n)) h

  by_taken : ((new : Scanning) → HasRead new (front ++ b ∷ []) → new.wire ≡ s.wire → new.limit ≡ s.limit → First s.wire s.limit ((front ++ b ∷ []) ++ more))
      → (t : Taken) (new : Scanning) → TakesOne s front b t new → First s.wire s.limit (front ++ b ∷ more)
  by_taken on took.More new h = subst (λ l. First s.wire s.limit l) (sym laid) (on new h.0 h.1 h.2)
  by_taken on took.Whole new h = inr (front ++ b ∷ [], more, laid, omega (arith, longer), first_is whole h)
  by_taken on took.Bad new h = inl (refused (front ++ b ∷ []), (more, laid, first_is bad h))
  by_taken on took.Over new h = inl (over, over_is h.0 h.1)

scan_on : (wire : Wire) (limit : ℕ) (bytes front : List ℕ) (s : Scanning) → HasRead s front → s.wire ≡ wire → s.limit ≡ limit → AreBytes bytes → First wire limit (front ++ bytes)
scan_on wire limit [] front s read w l are =
    inl (
      rest (front ++ []),
      (
        refl,
        subst (λ z. length z < limit) (sym (append-nil front)) (omega (arith, read.room, l)),
        subst (λ z. BeginsUpTo wire (length z + 1) z) (sym (append-nil front)) (λ k less. subst (λ x. IsFront x cut (take k front)) w (read.begins k (omega arith))),
      ),
    )
scan_on wire limit (b ∷ more) front s read w l are =
    subst (λ x. First x limit (front ++ b ∷ more)) w (subst (λ n. First s.wire n (front ++ b ∷ more)) l
    (by_taken s front b more read
    (λ new h v k. scan_on s.wire s.limit more (front ++ b ∷ []) new h v k are.1)
    (takes b s).0 (takes b s).1 (takes_law s front b are.0 read)))

pub each_cut : (wire : Wire) (limit : ℕ) → 0 < limit → limit < 2 ^ 64 → (fuel : ℕ) (bytes : List ℕ) → length bytes ≤ fuel → AreBytes bytes → (messages : List (List ℕ)) × (tail : Tail) × Messages wire limit bytes messages tail
each_cut wire limit some fits zero bytes h are = by_first (scan_on wire limit bytes [] (begins wire limit) (begun wire limit some fits) refl refl are)
  where
    by_first : First wire limit bytes → (messages : List (List ℕ)) × (tail : Tail) × Messages wire limit bytes messages tail
    by_first (inl (tail, k)) = ([], tail, k)
    by_first (inr (message, behind, e, n, first)) = absurd (omega (arith, ap length e, length-append message behind, n, h))
each_cut wire limit some fits (suc fuel) bytes h are = by_first (each_cut wire limit some fits fuel) (scan_on wire limit bytes [] (begins wire limit) (begun wire limit some fits) refl refl are)
  where
    by_first : ((bytes : List ℕ) → length bytes ≤ fuel → AreBytes bytes → (messages : List (List ℕ)) × (tail : Tail) × Messages wire limit bytes messages tail)
        → First wire limit bytes → (messages : List (List ℕ)) × (tail : Tail) × Messages wire limit bytes messages tail
    by_first on (inl (tail, k)) = ([], tail, k)
    by_first on (inr (message, behind, e, n, first)) =
        let m = on behind (omega (arith, ap length e, length-append message behind, n, h)) (bytes_behind message behind (subst AreBytes e are)) in
        (message ∷ m.0, m.1, (behind, e, first, m.2))
