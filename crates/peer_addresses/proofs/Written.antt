-- The segments of a word are those of the address that it writes.
use Rattle.std.proofs.Common.{◌≡◌, ℕ, List, [], ◌∷◌, ◌==◌, length, append-nil, Bool, true, false, true≢false, if◌then◌else◌, Option, None, Some, refl, sym, ap, ◌∙◌, subst, arith}
use Rattle.std.proofs.lemmas.Bool.Decides.{nat_tests}
use Rattle.std.specs.declared.net.ipv6_addr.Ipv6Addr.{Ipv6Addr}
use Rattle.std.specs.Net.Grammar.{IsColonHex, IsIpv6Text}
use Rattle.std.specs.Net.Reader.{Read, read_ipv6, whole_value}
use Rattle.std.proofs.NetLemmas.Ipv6.{read_ipv6_complete, read_ipv6_sound, EndsGroups-nil}
use Rattle.peer_addresses.specs.Segments.{segments_of}

pub read_whole : (word segments : List ℕ) → IsColonHex word segments → segments_of word ≡ Some segments
unfolding segments_of
read_whole word segments h = ap (λ (r : Read (List ℕ)). whole_value r) (rw append-nil at (read_ipv6_complete word segments [] h EndsGroups-nil))

pub written : (word segments : List ℕ) → segments_of word ≡ Some segments → IsColonHex word segments
unfolding segments_of
written word segments e = by (read_ipv6 word) refl e
  where
    same : (found : List ℕ) → Some found ≡ Some segments → found ≡ segments
    same found e = cc

    more : (found : List ℕ) (b : Bool) → b ≡ false → (if b then Some found else None) ≡ Some segments → ⊥
    more found true off e = true≢false off
    more found false off e = cc

    by : (r : Read (List ℕ)) → read_ipv6 word ≡ r → whole_value r ≡ Some segments → IsColonHex word segments
    by None is e = absurd (cc)
    by (Some (found, [])) is e =
        let front = read_ipv6_sound word found [] is in
        let whole : word ≡ front.0 = front.1 ∙ append-nil front.0 in
        subst (λ (xs : List ℕ). IsColonHex xs segments) (sym whole) (subst (λ (s : List ℕ). IsColonHex front.0 s) (same found e) front.2)
    by (Some (found, c ∷ cs)) is e = absurd (more found (length (c ∷ cs) == 0) (grind (arith, nat_tests)) e)

pub nothing_written : (word : List ℕ) → ((a : Ipv6Addr) → IsIpv6Text word a → ⊥) → None ≡ segments_of word
nothing_written word none = by (segments_of word) refl
  where
    by : (o : Option (List ℕ)) → segments_of word ≡ o → None ≡ o
    by None is = refl
    by (Some segments) is = absurd (none (record { segments = segments }) (written word segments is))
