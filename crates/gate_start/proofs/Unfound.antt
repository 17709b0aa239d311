-- Texts that are written one behind the other, and what is said of a name that nobody knows.
use Rattle.std.proofs.Common.{◌≡◌, ℕ, ◌+◌, ◌≤◌, ◌⊎◌, inl, inr, List, ◌++◌, length, take, arith, refl, ◌∙◌, ap, subst, Option, None, Some, append_assoc, length-append}
use Rattle.std.proofs.lemmas.List.{take-append-le}
use Rattle.std.proofs.Math.Seq.{take-append-add}
use Rattle.std.specs.Io.KnownBytes.{Appends}
use Rattle.gate_base.specs.Causes.{Rose}
use Rattle.gate_io.specs.Fronts.{AppendsFront}
use Rattle.gate_start.specs.Streams.{streams}
use Rattle.gate_start.specs.Starting.{SaysUnfound, unfound_lines}
use Rattle.gate_start.specs.declared.status.Ending.{Ending}
use Rattle.gate_start.specs.declared.status.Ending.TheVariants as endings
use Rattle.gate_start.proofs.Rising.{rose_earlier}

-- both were written
pub both : (a b c : Option (List ℕ)) (xs ys : List ℕ) → Appends a b xs → Appends b c ys → Appends a c (xs ++ ys)
both None b c xs ys p q = tt
both (Some x) None c xs ys p q = absurd p
both (Some x) (Some y) None xs ys p q = absurd q
both (Some x) (Some y) (Some z) xs ys p q = q ∙ (ap (λ t. t ++ ys) p ∙ append_assoc x xs ys)

-- the first was written, and a front of the second
pub then_front : (a b c : Option (List ℕ)) (xs ys : List ℕ) → Appends a b xs → AppendsFront b c ys → AppendsFront a c (xs ++ ys)
then_front a b c xs ys p q =
    (length xs + q.0, omega (arith, q.1, length-append xs ys), rw (take-append-add xs ys q.0) (both a b c xs (take q.0 ys) p q.2))

-- a front of the first was written
pub front_of_both : (a b : Option (List ℕ)) (xs ys : List ℕ) → AppendsFront a b xs → AppendsFront a b (xs ++ ys)
front_of_both a b xs ys p = (p.0, omega (arith, p.1, length-append xs ys), rw (take-append-le p.0 xs ys p.1) p.2)

-- the first was written, and the second unless that failed
pub whole_both : (a b c : Option (List ℕ)) (xs ys : List ℕ) (before mid now : ℕ) → before ≤ mid → Appends a b xs → Appends b c ys ⊎ Rose mid now → Appends a c (xs ++ ys) ⊎ Rose before now
whole_both a b c xs ys before mid now later p (inl q) = inl (both a b c xs ys p q)
whole_both a b c xs ys before mid now later p (inr r) = inr (rose_earlier before mid now later r)

-- what was said of a name was said of the same name as the words have it
pub says_as : (name other : List ℕ) (left written r r' : Option (List ℕ)) (input output e e' : ℕ) (ending : Ending) → name ≡ other → AppendsFront r r' (unfound_lines name) → Appends r r' (unfound_lines name) ⊎ Rose e e' → ending ≡ endings.HubFault
    → SaysUnfound other (streams left written r input output e) (streams left written r' input output e') ending
says_as name other left written r r' input output e e' ending same front whole is =
    subst (λ (n : List ℕ). SaysUnfound n (streams left written r input output e) (streams left written r' input output e') ending) same (record {
      left = refl;
      written = refl;
      front = front;
      whole = whole;
      is = is;
    })
