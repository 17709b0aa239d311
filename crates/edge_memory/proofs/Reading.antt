-- A stream from which bytes were read.
use Rattle.std.proofs.Common.{◌≡◌, ℕ, zero, suc, ◌+◌, List, [], ◌∷◌, ◌++◌, take, drop, slice_index_or, Fits, w8, sym, ap, ◌∙◌, subst}
use Rattle.gate_base.specs.Bytes.{AreBytes}
use Rattle.gate_hub.specs.declared.hub.LinkGot.TheVariants as got
use Rattle.mio_edge.specs.Wire.{Wire, WireReads, more_after}
use Rattle.edge_memory.specs.Streams.{StreamState, TellsStream}

-- a slice whose elements have the width of a byte
pub all_bytes : (xs : List ℕ) → ((i : ℕ) → Fits w8 (slice_index_or xs i 0)) → AreBytes xs
all_bytes [] fits = tt
all_bytes (x ∷ xs) fits = ((fits 0).fits, all_bytes xs (λ i. fits (suc i)))

bytes_both : (xs ys : List ℕ) → AreBytes xs → AreBytes ys → AreBytes (xs ++ ys)
bytes_both [] ys p q = q
bytes_both (x ∷ xs) ys p q = (p.0, bytes_both xs ys p.1 q)

bytes_take : (n : ℕ) (xs : List ℕ) → AreBytes xs → AreBytes (take n xs)
bytes_take zero xs p = tt
bytes_take (suc n) [] p = tt
bytes_take (suc n) (x ∷ xs) p = (p.0, bytes_take n xs p.1)

bytes_drop : (n : ℕ) (xs : List ℕ) → AreBytes xs → AreBytes (drop n xs)
bytes_drop zero xs p = p
bytes_drop (suc n) [] p = tt
bytes_drop (suc n) (x ∷ xs) p = bytes_drop n xs p.1

bytes_parts : (n : ℕ) (xs : List ℕ) → AreBytes (take n xs) → AreBytes (drop n xs) → AreBytes xs
bytes_parts zero xs p q = q
bytes_parts (suc n) [] p q = tt
bytes_parts (suc n) (x ∷ xs) p q = (p.0, bytes_parts n xs p.1 q)

pub read_on : (a b : StreamState) (bytes into : List ℕ) (place n room : ℕ) → a.wire.received ≡ take place bytes → a.ahead ≡ drop place bytes
    → b.wire ≡ record (a.wire) { received = take (place + n) bytes } → b.ahead ≡ drop (place + n) bytes → take (place + n) bytes ≡ take place bytes ++ take n into
    → (wire : Wire) → TellsStream a wire → (wire' : Wire) × TellsStream b wire' × WireReads room into (got.Bytes n) wire wire'
read_on a b bytes into place n room received ahead now rest grown wire told =
    let all : AreBytes bytes = bytes_parts place bytes (subst AreBytes received told.1) (subst AreBytes ahead told.2) in (
      record wire { received = take (place + n) bytes; readable = more_after wire.readable n room },
      (ap (λ (w : Wire). record w { received = take (place + n) bytes }) told.0 ∙ sym now, subst AreBytes (sym (ap (λ (w : Wire). w.received) now)) (bytes_take (place + n) bytes all), subst AreBytes (sym rest) (bytes_drop (place + n) bytes all)),
      ap (λ (t : List ℕ). record wire { received = t; readable = more_after wire.readable n room }) (grown ∙ ap (λ (t : List ℕ). t ++ take n into) (sym received ∙ sym (ap (λ (w : Wire). w.received) told.0))),
    )
