-- JSON can hold the text of each cause.
use Rattle.std.proofs.Common.{◌≡◌, ℕ, zero, suc, ◌<◌, List, [], ◌∷◌, Bool, false, nat_lt, arith, true, refl}
use Rattle.std.specs.Prelude.{◌&&◌, slice_index}
use Rattle.std.proofs.lemmas.Bool.Decides.{nat_tests}
use Rattle.std.specs.Str.{is_utf8}
use Rattle.std.proofs.lemmas.Str.{is_utf8-from_IsUtf8, IsUtf8-from_ascii, IsUtf8-nil}
use Rattle.protocol_traits.specs.declared.fault.Reason.{Reason}
use Rattle.protocol_traits.specs.declared.fault.Reason.TheVariants as reasons
use Rattle.protocol_traits.specs.declared.fault.Bar.{Bar}
use Rattle.protocol_traits.specs.declared.fault.Bar.TheVariants as bars
use Rattle.translate_verdicts.specs.declared.verdict.Cause.{Cause}
use Rattle.translate_verdicts.specs.declared.verdict.Cause.TheVariants.{Grammar, Barred, NoRoute}
use Rattle.translate_verdicts.specs.Texts.{reason_text, bar_text, no_route_text, cause_text}

small : List ℕ → Bool
small [] = true
small (x ∷ xs) = nat_lt x 128 && small xs

both : (a b : Bool) → (a && b) ≡ true → (a ≡ true) × (b ≡ true)
both true b e = (refl, e)
both false b e = absurd (cc)

each_small : (bytes : List ℕ) → small bytes ≡ true → (i : ℕ) → slice_index bytes i < 128
unfolding small
each_small [] e i = grind (arith, nat_tests)
each_small (x ∷ xs) e zero = let front = (both (nat_lt x 128) (small xs) e).0 in grind (arith, nat_tests, front)
each_small (x ∷ xs) e (suc i) = each_small xs (both (nat_lt x 128) (small xs) e).1 i

ascii : (bytes : List ℕ) → small bytes ≡ true → is_utf8 bytes ≡ true
ascii bytes e = is_utf8-from_IsUtf8 bytes (IsUtf8-from_ascii bytes (each_small bytes e))

utf8_reason : (reason : Reason) → is_utf8 (reason_text reason) ≡ true
unfolding small reason_text
utf8_reason reasons.Truncated = ascii _ refl
utf8_reason reasons.Trailing = ascii _ refl
utf8_reason reasons.TooDeep = ascii _ refl
utf8_reason reasons.BadKind = ascii _ refl
utf8_reason reasons.BadBool = ascii _ refl
utf8_reason reasons.BadSize = ascii _ refl
utf8_reason reasons.BadVersion = ascii _ refl
utf8_reason reasons.BadType = ascii _ refl
utf8_reason reasons.BadVarint = ascii _ refl
utf8_reason reasons.BadId = ascii _ refl
utf8_reason reasons.BadNumber = ascii _ refl
utf8_reason reasons.BadString = ascii _ refl
utf8_reason reasons.BadBase64 = ascii _ refl
utf8_reason reasons.BadToken = ascii _ refl

utf8_bar : (bar : Bar) → is_utf8 (bar_text bar) ≡ true
unfolding small bar_text
utf8_bar bars.Double = ascii _ refl
utf8_bar bars.UnknownString = ascii _ refl
utf8_bar bars.NotUtf8 = ascii _ refl
utf8_bar bars.Uuid = ascii _ refl

utf8_no_route : is_utf8 no_route_text ≡ true
unfolding small no_route_text
utf8_no_route = ascii _ refl

pub utf8_cause : (cause : Cause) → is_utf8 (cause_text cause) ≡ true
utf8_cause (Grammar fault) = utf8_reason fault.reason
utf8_cause (Barred place bar) = utf8_bar bar
utf8_cause NoRoute = utf8_no_route

pub utf8_none : is_utf8 [] ≡ true
utf8_none = is_utf8-from_IsUtf8 [] IsUtf8-nil
