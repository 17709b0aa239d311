-- A link that was read.
use Rattle.std.proofs.Common.{◌≡◌, ℕ, ◌+◌, List, ◌++◌, take, Some, false, ap, sym, ◌∙◌, subst}
use Rattle.gate_hub.specs.Meaning.{Link}
use Rattle.gate_hub.specs.Hubs.{LinkReads}
use Rattle.gate_hub.specs.declared.hub.LinkGot.{LinkGot}
use Rattle.gate_hub.specs.declared.hub.LinkGot.TheVariants as got

pub read_told : (into bytes : List ℕ) (place n : ℕ) (result : LinkGot) (a b : Link) → result ≡ got.Bytes n → b ≡ record a { received = take (place + n) bytes; last_read = Some (got.Bytes n) } → a.ended ≡ false → a.received ≡ take place bytes → take (place + n) bytes ≡ take place bytes ++ take n into → LinkReads into result a b
read_told into bytes place n result a b is now unended was grown =
    subst (λ (r : LinkGot). LinkReads into r a b) (sym is)
    (unended, now ∙ ap (λ (t : List ℕ). record a { received = t; last_read = Some (got.Bytes n) }) (grown ∙ ap (λ (t : List ℕ). t ++ take n into) (sym was)))
