-- The text of each breach, as reports print it.
use Rattle.std.specs.Prelude.{ℕ, List, codes}
use Rattle.conform_check.specs.declared.breach.Breach.{Breach}
use Rattle.conform_check.specs.declared.breach.Breach.TheVariants as breaches

unfoldable pub breach_text : Breach → List ℕ
breach_text breaches.UnknownMethod = codes "M1 unknown method"
breach_text breaches.UnknownField = codes "M2 unknown field"
breach_text breaches.WrongKind = codes "M3 wrong kind"
breach_text breaches.Repeated = codes "M4 repeated field"
breach_text breaches.Missing = codes "M5 missing field"
breach_text breaches.Union = codes "M6 union"
breach_text breaches.NotMember = codes "M7 not a member"
breach_text breaches.NotText = codes "M8 not UTF-8"
