-- What a framer holds once the search has found something, and while it hands out.
use Rattle.std.proofs.Common.{◌≡◌, ℕ, ◌+◌, ◌-◌, ◌≤◌, List, ◌++◌, length, take, drop, sym, ap, ◌∙◌, subst, arith, length-append}
use Rattle.std.specs.Int.{w32, to_be_bytes}
use Rattle.std.proofs.lemmas.List.{length-take-le, length-drop, take-append-le, take-take}
use Rattle.std.proofs.Math.Seq.{take-append-add}
use borrow.Rule.Slice.PartMut.{put_mid, post_of}
use Rattle.stream_messages.specs.declared.scan.Wire.{Wire}
use Rattle.stream_messages.specs.declared.framer.Due.{Due}
use Rattle.stream_messages.specs.declared.framer.Behind.{Behind}
use Rattle.stream_messages.specs.Fronts.{Found}
use Rattle.stream_messages.specs.Messages.{Tail, IsFirst, IsTail}
use Rattle.stream_messages.specs.Framing.{FramerState, due_bytes}

abbrev pub view_of : Wire → ℕ → Due → List ℕ → Behind → FramerState
view_of wire limit due held behind = record { wire = wire; limit = limit; due = due_bytes due held; fresh = drop due.left held; behind = behind }

pub same_view : (a b : Wire) (l m : ℕ) (due : Due) (held : List ℕ) (behind : Behind) → a ≡ b → l ≡ m → view_of a l due held behind ≡ view_of b m due held behind
same_view a b l m due held behind e f = ap (λ w. view_of w l due held behind) e ∙ ap (λ k. view_of b k due held behind) f

abbrev pub message_due : ℕ → Due
message_due n = record { head = to_be_bytes w32 n; head_left = 4; left = n }

pub message_view : (now : FramerState) (a : Wire) (l : ℕ) (due : Due) (held : List ℕ) (behind : Behind) (n : ℕ) → a ≡ now.wire → l ≡ now.limit → due ≡ message_due n → held ≡ now.fresh
    → view_of a l due held behind ≡ record { wire = now.wire; limit = now.limit; due = to_be_bytes w32 n ++ take n now.fresh; fresh = drop n now.fresh; behind = behind }
message_view now a l due held behind n e f d h =
    ap (λ w. view_of w l due held behind) e ∙ (ap (λ k. view_of now.wire k due held behind) f ∙ (ap (λ (x : Due). view_of now.wire now.limit x held behind) d ∙ ap (λ (x : List ℕ). view_of now.wire now.limit (message_due n) x behind) h))

pub first_in : (a b : Wire) (l m : ℕ) (found : Found) (n : ℕ) (held fresh : List ℕ) → a ≡ b → l ≡ m → held ≡ fresh → IsFirst a l found (take n held) → IsFirst b m found (take n fresh)
first_in a b l m found n held fresh e f h first =
    subst (λ w. IsFirst w m found (take n fresh)) e (subst (λ k. IsFirst a k found (take n fresh)) f (subst (λ x. IsFirst a l found (take n x)) h first))

pub tail_in : (a b : Wire) (l m : ℕ) (held fresh : List ℕ) (tail : Tail) → a ≡ b → l ≡ m → held ≡ fresh → IsTail a l held tail → IsTail b m fresh tail
tail_in a b l m held fresh tail e f h t = subst (λ w. IsTail w m fresh tail) e (subst (λ k. IsTail a k fresh tail) f (subst (λ x. IsTail a l x tail) h t))

-- what was laid was due
pub laid_due : (due : Due) (held : List ℕ) (h n : ℕ) (into head body : List ℕ) → take (length head + length body) into ≡ head ++ body → head ≡ take h (drop (4 - due.head_left) due.head) → body ≡ take n held
    → length (take h (drop (4 - due.head_left) due.head)) ≡ h → length (take n held) ≡ n → take (h + n) (due_bytes due held) ≡ take h (drop (4 - due.head_left) due.head) ++ take n held → take (h + n) into ≡ take (h + n) (due_bytes due held)
laid_due due held h n into head body laid p q size size' first =
    let a : length head + length body ≡ h + n = omega (arith, ap (λ (l : List ℕ). length l) p, ap (λ (l : List ℕ). length l) q, size, size') in
    ap (λ k. take k into) (sym a) ∙ (laid ∙ (ap (λ l. l ++ body) p ∙ (ap (λ l. take h (drop (4 - due.head_left) due.head) ++ l) q ∙ sym first)))

-- a piece that was written into the rest of a slice
pub put_front : (into piece : List ℕ) (count k n : ℕ) → count ≤ length into → n ≤ length piece → take (count + n) (put_mid count k into piece) ≡ take count into ++ take n piece
put_front into piece count k n within some =
    let size : length (take count into) ≡ count = length-take-le count into within in
    ap (λ i. take (i + n) (put_mid count k into piece)) (sym size)
    ∙ (take-append-add (take count into) (piece ++ post_of count k into) n
    ∙ ap (λ l. take count into ++ l) (take-append-le n piece (post_of count k into) some))

pub put_size : (into piece : List ℕ) (count k n : ℕ) → count ≤ length into → n ≤ length piece → count + n ≤ length (put_mid count k into piece)
put_size into piece count k n within some =
    omega (arith, length-append (take count into) (piece ++ post_of count k into), length-append piece (post_of count k into), length-take-le count into within, some)

-- a front of other bytes was written behind the first of some
pub front_written : (head new from : List ℕ) (known count k : ℕ) → new ≡ take count from → known ≤ length head → count ≤ length from → take (known + count) (put_mid known k head new) ≡ take known head ++ take count from
front_written head new from known count k is within some =
    ap (λ l. take (known + count) (put_mid known k head l)) is
    ∙ (put_front head (take count from) known k count within (omega (arith, length-take-le count from some))
    ∙ ap (λ l. take known head ++ l) (take-take count count from (omega arith)))

pub written_size : (head new from : List ℕ) (known count k : ℕ) → new ≡ take count from → k ≡ count → known + count ≤ length head → count ≤ length from → length (put_mid known k head new) ≡ length head
written_size head new from known count k is same within some =
    omega (
      arith,
      length-append (take known head) (new ++ post_of known k head),
      length-append new (post_of known k head),
      length-take-le known head (omega (arith, within)),
      ap (λ (l : List ℕ). length l) is,
      length-take-le count from some,
      length-drop k (drop known head),
      length-drop known head,
      same,
    )
