-- UTF-8 as a test.
use Rattle.std.proofs.Common.{◌≡◌, ℕ, List, Bool, true, false, refl}
use Rattle.std.specs.Str.{IsUtf8, is_utf8}
use Rattle.std.proofs.lemmas.Str.{IsUtf8-from_is_utf8}

no_other : (b : Bool) (P : Type 0) → (b ≡ true → P) → (P → ⊥) → false ≡ b
no_other false P f refused = refl
no_other true P f refused = absurd (refused (f refl))

-- a text that is refused is none
pub no_text : (bytes : List ℕ) → (IsUtf8 bytes → ⊥) → false ≡ is_utf8 bytes
no_text bytes refused = no_other (is_utf8 bytes) (IsUtf8 bytes) (IsUtf8-from_is_utf8 bytes) refused
