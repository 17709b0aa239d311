-- What the bytes end inside is completed to a whole of its form.
use Rattle.std.proofs.Common.{◌≡◌, ℕ, ℤ, zero, suc, ◌+◌, ◌-◌, ◌*◌, ◌/◌, ◌%◌, ◌<◌, ◌≤◌, ◌^◌, Bool, true, false, cond, List, [], ◌∷◌, ◌++◌, length, take, drop, Option, Some, None, Ok, Err, refl, ap, ◌∙◌, sym, subst, arith, ◌⊎◌, inl, inr, length-append, append_assoc}
use Rattle.std.specs.Prelude.{nat_lt, nat_le, ◌==◌, Result, slice_index}
use Rattle.std.proofs.lemmas.Bool.Decides.{nat_tests}
use Rattle.std.proofs.lemmas.Nat.{pow_pos}
use Rattle.std.proofs.lemmas.List.{append-nil}
use Rattle.varint_zigzag.specs.declared.fault.VarFault.{VarFault}
use Rattle.varint_zigzag.specs.declared.fault.VarFault.TheVariants.{Short, Bad}
use Rattle.varint_zigzag.specs.Varint.{IsVarint, Spells, varint_at, below}
use Rattle.varint_zigzag.specs.Zigzag.{unfolded}
use Rattle.varint_zigzag.proofs.Groups.{more_form, both_fit}
use Rattle.thrift_value.specs.declared.kind.Kind.{Kind}
use Rattle.thrift_value.specs.declared.kind.Kind.TheVariants as kinds
use Rattle.thrift_value.specs.Items.{empty_map, map_begin}
use Rattle.protocol_traits.specs.declared.fault.Fault.{Fault}
use Rattle.protocol_traits.specs.declared.fault.Reason.TheVariants as reasons
use Rattle.compact_protocol.specs.Codes.{kind_of}
use Rattle.compact_protocol.specs.Scan.{Scan, fault, shifted, ◌>>=◌, varint_of, varint16_at, varint32_at, varint64_at, id_at, size_at, string_at, elements_of, elements_at, both_kinds, kinds_at, map_at}
use Rattle.compact_protocol.specs.Grammar.{IsSmall, IsSize, IsString, IsElementsHeader, IsPairsHeader}
use Rattle.gate_base.specs.Bytes.{AreBytes}
use Rattle.binary_laws.proofs.Inverse.{is_read}
use Rattle.binary_laws.proofs.Closing.{bytes_join}
use Rattle.binary_laws.proofs.Cutting.{same_fault, never_read, other_reason, cut_place, shorter, zeros, zeros_small, zeros_long}
use Rattle.compact_laws.proofs.Inverse.{Front, behind_front, small_of, size_read, kind_is}

-- some bytes behind these make them a whole of this form
pub record Filled (Spelled : List ℕ → Type 0) (bytes : List ℕ) : Type 0 where
  pub more : List ℕ
  pub are : AreBytes more
  pub spells : Spelled (bytes ++ more)

pub filled_as : (P Q : List ℕ → Type 0) (bytes : List ℕ) → Filled P bytes → ((l : List ℕ) → P l → Q l) → Filled Q bytes
filled_as P Q bytes f g = record { more = f.more; are = f.are; spells = g (bytes ++ f.more) f.spells }

pub nil_small : 0 < 256
nil_small = omega arith

pub not_kind : reasons.BadKind ≡ reasons.Truncated → ⊥
not_kind e = absurd (cc)

not_size : reasons.BadSize ≡ reasons.Truncated → ⊥
not_size e = absurd (cc)

-- ---- how scans are put together

pub then_fault : {X Y : Type 0} → (scan : Scan X) (go : X × ℕ → Scan Y) (f : Fault) → (scan >>= go) ≡ Err f → (scan ≡ Err f) ⊎ ((x : X × ℕ) × (scan ≡ Ok x) × (go x ≡ Err f))
then_fault {X} {Y} (Ok x) go f e = inr (x, refl, e)
then_fault {X} {Y} (Err g) go f e = inl (ap (λ k. Err k) (same_fault {X = Y} g f e))

-- where nothing behind is a fault
pub first_fault : {X Y : Type 0} → (scan : Scan X) (go : X × ℕ → Y × ℕ) (f : Fault) → (scan >>= λ x. Ok (go x)) ≡ Err f → scan ≡ Err f
first_fault {X} {Y} (Ok x) go f e = absurd (never_read {X = Y} (go x) f e)
first_fault {X} {Y} (Err g) go f e = ap (λ k. Err k) (same_fault {X = Y} g f e)

pub shift_fault : {X : Type 0} → (n : ℕ) (scan : Scan X) (f : Fault) → shifted n scan ≡ Err f → (g : Fault) × (scan ≡ Err g) × (f.place ≡ n + g.place) × (g.reason ≡ f.reason)
shift_fault {X} n (Ok x) f e = absurd (never_read (x.0, n + x.1) f e)
shift_fault {X} n (Err g) f e =
    let same = same_fault {X = X} (record { place = n + g.place; reason = g.reason }) f e in (g, refl, sym (ap (λ (b : Fault). b.place) same), ap (λ (b : Fault). b.reason) same)

-- ---- numbers

-- a number that a byte 0 ends
record Ended (most width : ℕ) (bytes : List ℕ) : Type 0 where
  n : ℕ
  form : IsVarint (bytes ++ 0 ∷ []) n
  less : length bytes < most
  fits : n < 2 ^ width
  small : n < 128 ^ length bytes

abbrev pub of_var : VarFault → Result (ℕ × ℕ) VarFault
of_var v = Err v

pub bad_apart : of_var Bad ≡ Err Short → ⊥
bad_apart e = absurd (cc)

pub read_apart : (x : ℕ × ℕ) → Ok x ≡ of_var Short → ⊥
read_apart x e = absurd (cc)

pub behind_short : (low : ℕ) (found : Result (ℕ × ℕ) VarFault) → below low found ≡ Err Short → found ≡ Err Short
behind_short low (Ok x) e = absurd (read_apart _ e)
behind_short low (Err Short) e = refl
behind_short low (Err Bad) e = absurd (bad_apart e)

ended : (most width : ℕ) (bytes : List ℕ) → AreBytes bytes → varint_at most width bytes ≡ Err Short → Ended most width bytes
ended zero width bytes are e = absurd (bad_apart e)
ended (suc most) width [] are e = record { n = 0; form = (omega arith, refl); less = omega arith; fits = pow_pos width; small = omega arith }
ended (suc most) width (b ∷ bs) are e = by_tests (nat_le (2 ^ width) (b % 128)) (nat_lt b 128) refl refl e (λ h. ended most (width - 7) bs are.1 h)
  where
    by_tests : (p q : Bool) → nat_le (2 ^ width) (b % 128) ≡ p → nat_lt b 128 ≡ q → cond p (Err Bad) (cond q (Ok (b, 1)) (below (b % 128) (varint_at most (width - 7) bs))) ≡ of_var Short
        → (varint_at most (width - 7) bs ≡ Err Short → Ended most (width - 7) bs) → Ended (suc most) width (b ∷ bs)
    by_tests true q s t h go = absurd (bad_apart h)
    by_tests false true s t h go = absurd (read_apart _ h)
    by_tests false false s t h go =
        let i = go (behind_short (b % 128) (varint_at most (width - 7) bs) h) in
        let n = b % 128 + 128 * i.n in
        let large : 128 ≤ b = grind (arith, nat_tests, t) in
        let low : b % 128 < 2 ^ width = grind (arith, nat_tests, s) in
        let few = i.small in
        let less = i.less in
        let wide : 128 ^ suc (length bs) ≡ 128 * 128 ^ length bs = omega arith in
        let under : n < 128 ^ suc (length bs) = omega (arith, wide, few) in
        record {
          n = n;
          form = more_form b (bs ++ 0 ∷ []) n i.n large are.0 (omega (arith, are.0, large)) i.form;
          less = omega arith;
          fits = both_fit width (b % 128) i.n (omega arith) low i.fits;
          small = under;
        }

-- where a varint is cut, it is short
found_cut : (size : ℕ) (found : Result (ℕ × ℕ) VarFault) (f : Fault) → varint_of size found ≡ Err f → f.reason ≡ reasons.Truncated → (f.place ≡ size) × (found ≡ Err Short)
found_cut size (Ok x) f e t = absurd (never_read x f e)
found_cut size (Err Short) f e t = (sym (ap (λ (g : Fault). g.place) (same_fault {X = ℕ} (record { place = size; reason = reasons.Truncated }) f e)), refl)
found_cut size (Err Bad) f e t = absurd (other_reason {X = ℕ} 0 reasons.BadVarint f not_varint e t)
  where
    not_varint : reasons.BadVarint ≡ reasons.Truncated → ⊥
    not_varint e = absurd (cc)

record Number (most width : ℕ) (bytes : List ℕ) : Type 0 where
  n : ℕ
  filled : Filled (λ l. Spells most width l n) bytes
  least : filled.more ≡ 0 ∷ []
  small : n < 128 ^ length bytes
  less : length bytes < most

number_of : (most width : ℕ) (bytes : List ℕ) → Ended most width bytes → Number most width bytes
number_of most width bytes e =
    let less = e.less in
    record { n = e.n; filled = record { more = 0 ∷ []; are = (nil_small, tt); spells = record { form = e.form; within = omega (arith, length-append bytes (0 ∷ []), less); fits = e.fits } }; least = refl; small = e.small; less = less }

varint16_cut : (bytes : List ℕ) → AreBytes bytes → (f : Fault) → varint16_at bytes ≡ Err f → f.reason ≡ reasons.Truncated → (f.place ≡ length bytes) × Number 5 16 bytes
unfolding varint16_at
varint16_cut bytes are f e t = let c = found_cut (length bytes) (varint_at 5 16 bytes) f e t in (c.0, number_of 5 16 bytes (ended 5 16 bytes are c.1))

pub varint32_cut : (bytes : List ℕ) → AreBytes bytes → (f : Fault) → varint32_at bytes ≡ Err f → f.reason ≡ reasons.Truncated → (f.place ≡ length bytes) × ((n : ℕ) × Filled (λ l. Spells 5 32 l n) bytes)
unfolding varint32_at
varint32_cut bytes are f e t = let c = found_cut (length bytes) (varint_at 5 32 bytes) f e t in let n = number_of 5 32 bytes (ended 5 32 bytes are c.1) in (c.0, (n.n, n.filled))

pub varint64_cut : (bytes : List ℕ) → AreBytes bytes → (f : Fault) → varint64_at bytes ≡ Err f → f.reason ≡ reasons.Truncated → (f.place ≡ length bytes) × ((n : ℕ) × Filled (λ l. Spells 10 64 l n) bytes)
unfolding varint64_at
varint64_cut bytes are f e t = let c = found_cut (length bytes) (varint_at 10 64 bytes) f e t in let n = number_of 10 64 bytes (ended 10 64 bytes are c.1) in (c.0, (n.n, n.filled))

pub id_cut : (bytes : List ℕ) → AreBytes bytes → (f : Fault) → id_at bytes ≡ Err f → f.reason ≡ reasons.Truncated → (f.place ≡ length bytes) × ((z : ℤ) × Filled (IsSmall z) bytes)
unfolding id_at
id_cut bytes are f e t =
    let c = varint16_cut bytes are f (first_fault (varint16_at bytes) (λ n. (unfolded n.0, n.1)) f e) t in
    let n = c.1 in
    (c.0, (unfolded n.n, filled_as (λ l. Spells 5 16 l n.n) (IsSmall (unfolded n.n)) bytes n.filled (small_of n.n)))

few_groups : (k : ℕ) → k < 5 → 128 ^ k < 2 ^ 31
few_groups zero h = omega arith
few_groups (suc zero) h = omega arith
few_groups (suc (suc zero)) h = omega arith
few_groups (suc (suc (suc zero))) h = omega arith
few_groups (suc (suc (suc (suc zero)))) h = omega arith
few_groups (suc (suc (suc (suc (suc k))))) h = absurd (omega arith)

size_short : (bytes : List ℕ) → AreBytes bytes → (f : Fault) → varint32_at bytes ≡ Err f → f.reason ≡ reasons.Truncated → (f.place ≡ length bytes) × ((n : ℕ) × Filled (IsSize n) bytes)
unfolding varint32_at
size_short bytes are f e t =
    let c = found_cut (length bytes) (varint_at 5 32 bytes) f e t in
    let n = number_of 5 32 bytes (ended 5 32 bytes are c.1) in
    let few = few_groups (length bytes) n.less in
    let small = n.small in
    let less : n.n < 2 ^ 31 = omega (arith, few, small) in
    (c.0, (n.n, filled_as (λ l. Spells 5 32 l n.n) (IsSize n.n) bytes n.filled (λ l s. (less, s))))

pub size_cut : (bytes : List ℕ) → AreBytes bytes → (f : Fault) → size_at bytes ≡ Err f → f.reason ≡ reasons.Truncated → (f.place ≡ length bytes) × ((n : ℕ) × Filled (IsSize n) bytes)
unfolding size_at
size_cut bytes are f e t = by_number (then_fault (varint32_at bytes) (λ n. cond (nat_lt n.0 2147483648) (Ok n) (fault 0 reasons.BadSize)) f e)
  where
    by_size : (b : Bool) (x : ℕ × ℕ) → cond b (is_read x) (fault 0 reasons.BadSize) ≡ Err f → ⊥
    by_size true x h = never_read x f h
    by_size false x h = other_reason {X = ℕ} 0 reasons.BadSize f not_size h t

    by_number : (varint32_at bytes ≡ Err f) ⊎ ((x : ℕ × ℕ) × (varint32_at bytes ≡ Ok x) × (cond (nat_lt x.0 2147483648) (is_read x) (fault 0 reasons.BadSize) ≡ Err f)) → (f.place ≡ length bytes) × ((n : ℕ) × Filled (IsSize n) bytes)
    by_number (inl h) = size_short bytes are f h t
    by_number (inr (x, was, h)) = absurd (by_size (nat_lt x.0 2147483648) x h)

-- ---- strings

-- so many zeros behind the size
size_then : (bytes : List ℕ) (n : ℕ) → Filled (IsSize n) bytes → Filled (IsString (zeros n)) bytes
size_then bytes n s =
    let long = zeros_long n in
    record {
      more = s.more ++ zeros n;
      are = bytes_join s.more (zeros n) s.are (zeros_small n);
      spells = (bytes ++ s.more, subst (λ m. IsSize m (bytes ++ s.more)) (sym long) s.spells, sym (append_assoc bytes s.more (zeros n)));
    }

name_then : (bytes : List ℕ) (n k : ℕ) → Front (IsSize n) bytes k → length bytes < k + n → (name : List ℕ) × Filled (IsString name) bytes
name_then bytes n k z less =
    let fill = (k + n) - length bytes in
    let more = zeros fill in
    let name = z.rest ++ more in
    let whole : length bytes ≡ length z.front + length z.rest = ap length z.laid ∙ length-append z.front z.rest in
    let long : length name ≡ n = omega (arith, length-append z.rest more, zeros_long fill, whole, z.size, less) in
    (name, record { more = more; are = zeros_small fill; spells = (z.front, subst (λ m. IsSize m z.front) (sym long) z.spells, ap (λ l. l ++ more) z.laid ∙ append_assoc z.front z.rest more) })

pub string_cut : (bytes : List ℕ) → AreBytes bytes → (f : Fault) → string_at bytes ≡ Err f → f.reason ≡ reasons.Truncated → (f.place ≡ length bytes) × ((name : List ℕ) × Filled (IsString name) bytes)
unfolding string_at
string_cut bytes are f e t = by_size (then_fault (size_at bytes) (λ size. cond (nat_lt (length bytes) (size.1 + size.0)) (fault (length bytes) reasons.Truncated) (Ok (take size.0 (drop size.1 bytes), size.1 + size.0))) f e)
  where
    by_length : (x : ℕ × ℕ) → size_at bytes ≡ Ok x → (b : Bool) → nat_lt (length bytes) (x.1 + x.0) ≡ b → cond b (fault (length bytes) reasons.Truncated) (is_read (take x.0 (drop x.1 bytes), x.1 + x.0)) ≡ Err f
        → (f.place ≡ length bytes) × ((name : List ℕ) × Filled (IsString name) bytes)
    by_length x was true s h = (cut_place {X = List ℕ} bytes f h, name_then bytes x.0 x.1 (size_read bytes are x.0 x.1 was) (shorter (length bytes) (x.1 + x.0) s))
    by_length x was false s h = absurd (never_read (take x.0 (drop x.1 bytes), x.1 + x.0) f h)

    by_size : (size_at bytes ≡ Err f) ⊎ ((x : ℕ × ℕ) × (size_at bytes ≡ Ok x) × (cond (nat_lt (length bytes) (x.1 + x.0)) (fault (length bytes) reasons.Truncated) (is_read (take x.0 (drop x.1 bytes), x.1 + x.0)) ≡ Err f)) → (f.place ≡ length bytes) × ((name : List ℕ) × Filled (IsString name) bytes)
    by_size (inl h) = let c = size_cut bytes are f h t in (c.0, (zeros c.1.0, size_then bytes c.1.0 c.1.1))
    by_size (inr (x, was, h)) = by_length x was (nat_lt (length bytes) (x.1 + x.0)) refl h

-- ---- the headers of containers

abbrev Counted : List ℕ → Fault → Type 0
Counted bytes f = (f.place ≡ length bytes) × ((k : Kind) × (n : ℕ) × Filled (IsElementsHeader k n) bytes)

long_elements : (x : ℕ) (rest : List ℕ) (k : Kind) (f : Fault) → AreBytes (x ∷ rest) → kind_of (x % 16) ≡ Some k → nat_lt (x / 16) 15 ≡ false → shifted 1 (size_at rest) ≡ Err f → f.reason ≡ reasons.Truncated → Counted (x ∷ rest) f
long_elements x rest k f are kind many e t =
    let g = shift_fault 1 (size_at rest) f e in
    let c = size_cut rest are.1 g.0 g.1 (g.3 ∙ t) in
    let n = c.1.0 in
    let s = c.1.1 in
    let full : 15 ≤ x / 16 = grind (arith, nat_tests, many) in
    let whole : x ≡ 240 + x % 16 = omega (arith, are.0, full) in
    let place = g.2 in
    (omega (arith, place, c.0), (k, n, record { more = s.more; are = s.are; spells = (x % 16, kind_is (x % 16) k kind, inr (rest ++ s.more, s.spells, ap (λ y. y ∷ (rest ++ s.more)) whole)) }))

elements_more : (x : ℕ) (rest : List ℕ) (found : Option Kind) (f : Fault) → AreBytes (x ∷ rest) → kind_of (x % 16) ≡ found → elements_of (x ∷ rest) found ≡ Err f → f.reason ≡ reasons.Truncated → Counted (x ∷ rest) f
elements_more x rest None f are kind e t = absurd (other_reason {X = Kind × ℕ} 0 reasons.BadKind f not_kind e t)
elements_more x rest (Some k) f are kind e t = by_size (nat_lt (x / 16) 15) refl e
  where
    by_size : (b : Bool) → nat_lt (x / 16) 15 ≡ b → cond b (is_read {X = Kind × ℕ} ((k, x / 16), 1)) (shifted 1 (size_at rest) >>= λ size. Ok ((k, size.0), size.1)) ≡ Err f → Counted (x ∷ rest) f
    by_size true p h = absurd (never_read {X = Kind × ℕ} ((k, x / 16), 1) f h)
    by_size false p h = long_elements x rest k f are kind p (first_fault (shifted 1 (size_at rest)) (λ size. ((k, size.0), size.1)) f h) t

elements_first : (l : List ℕ) (f : Fault) → AreBytes l → (b : Bool) → nat_lt (length l) 1 ≡ b → cond b (fault 0 reasons.Truncated) (elements_of l (kind_of (slice_index l 0 % 16))) ≡ Err f → f.reason ≡ reasons.Truncated → Counted l f
elements_first [] f are true p e t = (cut_place {X = Kind × ℕ} [] f e, (kinds.I8, 0, record { more = 3 ∷ []; are = (omega arith, tt); spells = (3, refl, inl (omega arith, refl)) }))
elements_first [] f are false p e t = absurd (grind (arith, nat_tests, p))
elements_first (x ∷ rest) f are true p e t = absurd (grind (arith, nat_tests, p))
elements_first (x ∷ rest) f are false p e t = elements_more x rest (kind_of (x % 16)) f are refl e t

pub elements_cut : (bytes : List ℕ) → AreBytes bytes → (f : Fault) → elements_at bytes ≡ Err f → f.reason ≡ reasons.Truncated → Counted bytes f
unfolding elements_at
elements_cut bytes are f e t = elements_first bytes f are (nat_lt (length bytes) 1) refl e t

-- two kinds that aren't there
kinds_none : (l : List ℕ) (f : Fault) → kinds_at l ≡ Err f → f.reason ≡ reasons.Truncated → (f.place ≡ 0) × (l ≡ [])
unfolding kinds_at
kinds_none l f e t = by_first l (nat_lt (length l) 1) refl e
  where
    by_kinds : (a b : Option Kind) → both_kinds a b ≡ Err f → ⊥
    by_kinds None b h = other_reason {X = Kind × Kind} 0 reasons.BadKind f not_kind h t
    by_kinds (Some a) None h = other_reason {X = Kind × Kind} 0 reasons.BadKind f not_kind h t
    by_kinds (Some a) (Some b) h = never_read {X = Kind × Kind} ((a, b), 1) f h

    by_first : (l : List ℕ) (b : Bool) → nat_lt (length l) 1 ≡ b → cond b (fault 0 reasons.Truncated) (both_kinds (kind_of (slice_index l 0 / 16)) (kind_of (slice_index l 0 % 16))) ≡ Err f → (f.place ≡ 0) × (l ≡ [])
    by_first [] b p h = (by_empty b p h, refl)
      where
        by_empty : (b : Bool) → nat_lt 0 1 ≡ b → cond b (fault 0 reasons.Truncated) (both_kinds (kind_of 0) (kind_of 0)) ≡ Err f → f.place ≡ 0
        by_empty true p h = cut_place {X = Kind × Kind} [] f h
        by_empty false p h = absurd (grind (arith, nat_tests, p))
    by_first (x ∷ l) true p h = absurd (grind (arith, nat_tests, p))
    by_first (x ∷ l) false p h = absurd (by_kinds (kind_of (x / 16)) (kind_of (x % 16)) h)

-- a map with no pairs, or with some
abbrev pub MapFilled : List ℕ → Type 0
MapFilled bytes = Filled (IsSize 0) bytes ⊎ ((key : Kind) × (value : Kind) × (n : ℕ) × (1 ≤ n) × Filled (IsPairsHeader key value n) bytes)

pairs_then : (bytes more : List ℕ) (n : ℕ) → AreBytes more → IsSize n (bytes ++ more) → Filled (IsPairsHeader kinds.I8 kinds.I8 n) bytes
pairs_then bytes more n are s = record {
  more = more ++ 51 ∷ [];
  are = bytes_join more (51 ∷ []) are (omega arith, tt);
  spells = (bytes ++ more, s, (3, 3, refl, refl, sym (append_assoc bytes more (51 ∷ []))));
}

size_map : (bytes : List ℕ) (n : ℕ) → Filled (IsSize n) bytes → MapFilled bytes
size_map bytes zero s = inl s
size_map bytes (suc n) s = inr (kinds.I8, kinds.I8, suc n, omega arith, pairs_then bytes s.more (suc n) s.are s.spells)

some_map : (bytes : List ℕ) (n k : ℕ) (f : Fault) → Front (IsSize n) bytes k → (n == 0) ≡ false → shifted k (kinds_at (drop k bytes)) ≡ Err f → f.reason ≡ reasons.Truncated → (f.place ≡ length bytes) × MapFilled bytes
some_map bytes n k f z some e t =
    let g = shift_fault k (kinds_at (drop k bytes)) f e in
    let c = kinds_none (drop k bytes) g.0 g.1 (g.3 ∙ t) in
    let none : z.rest ≡ [] = sym (behind_front (IsSize n) bytes k z) ∙ c.1 in
    let all : bytes ++ [] ≡ z.front = ap (λ l. l ++ []) z.laid ∙ append_assoc z.front z.rest [] ∙ ap (λ l. z.front ++ (l ++ [])) none ∙ append-nil z.front in
    let place = g.2 in
    let least : 1 ≤ n = grind (arith, nat_tests, some) in
    (omega (arith, place, c.0, z.size, ap length z.laid, length-append z.front z.rest, ap length none), inr (kinds.I8, kinds.I8, n, least, pairs_then bytes [] n tt (subst (IsSize n) (sym all) z.spells)))

-- the fault behind a size
abbrev IsBehindSize : List ℕ → Fault → ℕ × ℕ → Bool → Type 0
IsBehindSize bytes f x b = cond b (is_read (empty_map, x.1)) (shifted x.1 (kinds_at (drop x.1 bytes)) >>= λ y. Ok (map_begin y.0.0 y.0.1 x.0, y.1)) ≡ Err f

pub map_cut : (bytes : List ℕ) → AreBytes bytes → (f : Fault) → map_at bytes ≡ Err f → f.reason ≡ reasons.Truncated → (f.place ≡ length bytes) × MapFilled bytes
unfolding map_at
map_cut bytes are f e t = by_size (then_fault (size_at bytes) _ f e)
  where
    by_none : (x : ℕ × ℕ) → size_at bytes ≡ Ok x → (b : Bool) → (x.0 == 0) ≡ b → IsBehindSize bytes f x b → (f.place ≡ length bytes) × MapFilled bytes
    by_none x was true p h = absurd (never_read (empty_map, x.1) f h)
    by_none x was false p h = some_map bytes x.0 x.1 f (size_read bytes are x.0 x.1 was) p (first_fault (shifted x.1 (kinds_at (drop x.1 bytes))) (λ y. (map_begin y.0.0 y.0.1 x.0, y.1)) f h) t

    by_size : (size_at bytes ≡ Err f) ⊎ ((x : ℕ × ℕ) × (size_at bytes ≡ Ok x) × IsBehindSize bytes f x (x.0 == 0)) → (f.place ≡ length bytes) × MapFilled bytes
    by_size (inl h) = let c = size_cut bytes are f h t in (c.0, size_map bytes c.1.0 c.1.1)
    by_size (inr (x, was, h)) = by_none x was (x.0 == 0) refl h
