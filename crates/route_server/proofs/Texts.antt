-- A text that is put together piece by piece.
use Rattle.std.proofs.Common.{◌≡◌, ℕ, List, ◌++◌, ap, ◌∙◌, append_assoc}
use Rattle.gate_io.specs.Buffer.{Buffer}

pub behind : (a b c : Buffer) (xs ys : List ℕ) → b ≡ record a { bytes = a.bytes ++ xs } → c ≡ record b { bytes = b.bytes ++ ys } → c ≡ record a { bytes = a.bytes ++ (xs ++ ys) }
behind a b c xs ys p q = q ∙ (ap (λ (k : Buffer). record k { bytes = k.bytes ++ ys }) p ∙ ap (λ (zs : List ℕ). record a { bytes = zs }) (append_assoc a.bytes xs ys))
