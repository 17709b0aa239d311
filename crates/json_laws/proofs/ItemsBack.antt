-- What the scan of an item has read are the tokens of one item.
use Rattle.std.proofs.Common.{◌≡◌, ℕ, ℤ, zero, suc, pos, negsuc, ◌+◌, ◌-◌, ◌*◌, ◌/◌, ◌%◌, ◌<◌, ◌≤◌, ◌^◌, ◌≤ℤ◌, Bool, true, false, cond, List, [], ◌∷◌, ◌++◌, length, drop, ap, ◌∙◌, sym, subst, arith, ◌⊎◌, inl, inr}
use Rattle.std.specs.Prelude.{nat_lt, int_lt, ◌==◌, FitsSigned}
use Rattle.std.specs.Int.{w16}
use Rattle.std.specs.Fmt.{decimal}
use Rattle.std.proofs.lemmas.Bool.Decides.{nat_tests}
use Rattle.thrift_value.specs.declared.kind.Kind.{Kind}
use Rattle.thrift_value.specs.Items.{Item, field, stop, empty_map, end}
use Rattle.protocol_traits.specs.declared.fault.Reason.TheVariants as reasons
use Rattle.json_text.specs.Grammar.{AreDigits, IsCounting, value_from, value_of, negated, SpellsInt}
use Rattle.json_text_laws.proofs.Integers.{grows, counting_some}
use Rattle.json_text_laws.proofs.Parts.{append_more}
use Rattle.std.proofs.lemmas.List.{append-nil, drop-drop}
use Rattle.std.proofs.lemmas.Fmt.{decimal_step, decimal_digit}
use Rattle.json_text_laws.specs.Judged.{IsRange}
use Rattle.json_protocol.specs.Scan.{Scan, gap, further, mark_at}
use Rattle.json_protocol.specs.Words.{kind_at, quoted_int_in, int_in}
use Rattle.json_protocol.specs.Values.{i16_low, field_at, first_at, next_at, size_of, size_in, sequence_at, map_head_at, no_pairs_at, end_at}
use Rattle.json_protocol.specs.Writing.{quoted, flag}
use Rattle.json_protocol.specs.Grammar.{Tokens, mark, IsNamed, name_token, comma}
use Rattle.json_laws.proofs.Marks.{Lies}
use Rattle.json_laws.proofs.Inverse.{is_read, is_fault, same_read, no_fault, bound, either, past_fault, no_other, Token, token_lies, Carries, gap_back, further_back, behind, mark_back, mark_behind, Names, kind_back}
use Rattle.json_laws.proofs.WordsBack.{IsInt, IsQuoted, quoted_back, int_back}

-- ---- ranges

pub range_flag : IsRange (pos 0) (pos 1)
range_flag = record { least = grind (arith, nat_tests); most = grind (arith, nat_tests); one = grind (arith, nat_tests); none = grind (arith, nat_tests); some = grind (arith, nat_tests) }

pub range_8 : IsRange (negsuc 127) (pos 127)
range_8 = record { least = grind (arith, nat_tests); most = grind (arith, nat_tests); one = grind (arith, nat_tests); none = grind (arith, nat_tests); some = grind (arith, nat_tests) }

pub range_16 : IsRange i16_low (pos 32767)
range_16 = record { least = grind (arith, nat_tests); most = grind (arith, nat_tests); one = grind (arith, nat_tests); none = grind (arith, nat_tests); some = grind (arith, nat_tests) }

pub range_32 : IsRange (negsuc 2147483647) (pos 2147483647)
range_32 = record { least = grind (arith, nat_tests); most = grind (arith, nat_tests); one = grind (arith, nat_tests); none = grind (arith, nat_tests); some = grind (arith, nat_tests) }

pub range_64 : IsRange (negsuc 9223372036854775807) (pos 9223372036854775807)
range_64 = record { least = grind (arith, nat_tests); most = grind (arith, nat_tests); one = grind (arith, nat_tests); none = grind (arith, nat_tests); some = grind (arith, nat_tests) }

pub range_size : IsRange (pos 0) (pos 2147483647)
range_size = record { least = grind (arith, nat_tests); most = grind (arith, nat_tests); one = grind (arith, nat_tests); none = grind (arith, nat_tests); some = grind (arith, nat_tests) }

-- ---- fields

-- the tokens of a field up to the kind's name
pub record FieldTokens (id : ℤ) (kind : Kind) (bytes : List ℕ) (taken : ℕ) : Type 0 where
  pub digits : List ℕ
  pub spells : SpellsInt id digits
  pub fits : FitsSigned w16 id
  pub named : IsNamed kind
  pub lies : (tail : List ℕ) (more : Tokens) → Lies tail more (drop taken bytes) → Lies tail (quoted digits ∷ mark 58 ∷ mark 123 ∷ name_token kind ∷ more) bytes

-- the item is a field, with its tokens
abbrev pub IsField : Item → List ℕ → ℕ → Type 0
IsField item bytes taken = (id : ℤ) × (kind : Kind) × (item ≡ field id kind) × FieldTokens id kind bytes taken

pub fits_16 : (z : ℤ) → i16_low ≤ℤ z → z ≤ℤ pos 32767 → FitsSigned w16 z
fits_16 z a b = record { sfits = grind (arith, nat_tests) }

pub field_back : (bytes : List ℕ) (item : Item) (taken : ℕ) → field_at bytes ≡ is_read (item, taken) → IsField item bytes taken
unfolding field_at
field_back bytes item taken e =
    let a = bound (quoted_int_in reasons.BadId i16_low (pos 32767) bytes) _ (item, taken) e in
    let b = bound (further a.0.1 (mark_at 58) bytes) _ (item, taken) a.2 in
    let c = bound (further b.0.1 (mark_at 123) bytes) _ (item, taken) b.2 in
    let k = bound (further c.0.1 kind_at bytes) _ (item, taken) c.2 in
    let same = same_read (field a.0.0 k.0.0) item k.0.1 taken k.2 in
    let t = quoted_back reasons.BadId i16_low (pos 32767) a.0.0 bytes a.0.1 range_16 a.1 in
    let colon = mark_behind 58 a.0.1 bytes b.0.0 b.0.1 b.1 in
    let brace = mark_behind 123 b.0.1 bytes c.0.0 c.0.1 c.1 in
    let name = behind kind_at c.0.1 bytes k.0.0 k.0.1 (Names k.0.0) (λ d n h. kind_back d k.0.0 n h) k.1 in
    let word = t.is.1 in (
      a.0.0,
      k.0.0,
      sym same.0,
      record {
        digits = t.is.0;
        spells = word.spells;
        fits = fits_16 a.0.0 word.least word.most;
        named = name.is.1;
        lies = (λ tail more lies.
            let last = name.carries tail more (subst (λ n. Lies tail more (drop n bytes)) (sym same.1) lies) in
            let here = subst (λ n. Lies tail (n ∷ more) (drop c.0.1 bytes)) name.is.0 last in
            let all = token_lies tail bytes a.0.1 (IsQuoted (IsInt i16_low (pos 32767) a.0.0)) t (mark 58 ∷ mark 123 ∷ name_token k.0.0 ∷ more) (colon tail (mark 123 ∷ name_token k.0.0 ∷ more) (brace tail (name_token k.0.0 ∷ more) here)) in
            subst (λ q. Lies tail (q ∷ mark 58 ∷ mark 123 ∷ name_token k.0.0 ∷ more) bytes) t.is.2 all);
      },
    )

-- a mark right there
pub mark_first : (m : ℕ) (bytes : List ℕ) (x : Unit {0}) (taken : ℕ) → mark_at m bytes ≡ is_read (x, taken) → (tail : List ℕ) (more : Tokens) → Lies tail more (drop taken bytes) → Lies tail (mark m ∷ more) bytes
mark_first m bytes x taken e tail more lies =
    let t = mark_back m bytes x taken e in
    subst (λ k. Lies tail (k ∷ more) bytes) t.is (token_lies tail bytes taken (λ k. k ≡ mark m) t more lies)

-- a stop, or a field with the marks before it
pub record FieldRead (first : Bool) (item : Item) (bytes : List ℕ) (taken : ℕ) : Type 0 where
  pub id : ℤ
  pub kind : Kind
  pub is : item ≡ field id kind
  pub digits : List ℕ
  pub spells : SpellsInt id digits
  pub fits : FitsSigned w16 id
  pub named : IsNamed kind
  pub lies : (tail : List ℕ) (more : Tokens) → Lies tail more (drop taken bytes) → Lies tail (comma first ++ (quoted digits ∷ mark 58 ∷ mark 123 ∷ name_token kind ∷ more)) bytes

pub record StopRead (item : Item) (bytes : List ℕ) (taken : ℕ) : Type 0 where
  pub is : item ≡ stop
  pub lies : (tail : List ℕ) (more : Tokens) → Lies tail more (drop taken bytes) → Lies tail (mark 125 ∷ more) bytes

same_byte : (x y : ℕ) → (x == y) ≡ true → x ≡ y
same_byte x y e = grind (arith, nat_tests)

stop_read : (item : Item) (x : ℕ) (b : List ℕ) (taken : ℕ) → (x == 125) ≡ true → is_read (stop, 1) ≡ is_read (item, taken) → StopRead item (x ∷ b) taken
stop_read item x b taken t e =
    let same = same_read stop item 1 taken e in
    let brace = same_byte x 125 t in
    record { is = sym same.0; lies = (λ tail more lies. ([], b, ap (λ k. k ∷ b) brace, tt, subst (λ n. Lies tail more (drop n (x ∷ b))) (sym same.1) lies)) }

pub first_back : (bytes : List ℕ) (item : Item) (taken : ℕ) → first_at bytes ≡ is_read (item, taken) → StopRead item bytes taken ⊎ FieldRead true item bytes taken
unfolding first_at
first_back [] item taken e = absurd (no_fault (record { place = 0; reason = reasons.Truncated }) (item, taken) e)
first_back (x ∷ b) item taken e =
    let p = past_fault (nat_lt (length (x ∷ b)) 1) _ _ (item, taken) e in
    by_stop (either (x == 125) _ _ (item, taken) p.1)
  where
    third : Scan Item
    third = cond (x == 34) (field_at (x ∷ b)) (is_fault (record { place = 0; reason = reasons.BadToken }))

    by_stop : (((x == 125) ≡ true) × (is_read (stop, 1) ≡ is_read (item, taken))) ⊎ (((x == 125) ≡ false) × (third ≡ is_read (item, taken))) → StopRead item (x ∷ b) taken ⊎ FieldRead true item (x ∷ b) taken
    by_stop (inl h) = inl (stop_read item x b taken h.0 h.1)
    by_stop (inr h) =
        let q = no_other (x == 34) _ (field_at (x ∷ b)) (item, taken) h.1 in
        let f = field_back (x ∷ b) item taken q.1 in
        inr (record { id = f.0; kind = f.1; is = f.2; digits = f.3.digits; spells = f.3.spells; fits = f.3.fits; named = f.3.named; lies = f.3.lies })

pub next_back : (bytes : List ℕ) (item : Item) (taken : ℕ) → next_at bytes ≡ is_read (item, taken) → StopRead item bytes taken ⊎ FieldRead false item bytes taken
unfolding next_at
next_back [] item taken e = absurd (no_fault (record { place = 0; reason = reasons.Truncated }) (item, taken) e)
next_back (x ∷ b) item taken e =
    let p = past_fault (nat_lt (length (x ∷ b)) 1) _ _ (item, taken) e in
    by_stop (either (x == 125) _ _ (item, taken) p.1)
  where
    third : Scan Item
    third = cond (x == 44) (further 1 field_at (x ∷ b)) (is_fault (record { place = 0; reason = reasons.BadToken }))

    by_stop : (((x == 125) ≡ true) × (is_read (stop, 1) ≡ is_read (item, taken))) ⊎ (((x == 125) ≡ false) × (third ≡ is_read (item, taken))) → StopRead item (x ∷ b) taken ⊎ FieldRead false item (x ∷ b) taken
    by_stop (inl h) = inl (stop_read item x b taken h.0 h.1)
    by_stop (inr h) =
        let q = no_other (x == 44) _ (further 1 field_at (x ∷ b)) (item, taken) h.1 in
        let r = further_back field_at 1 (x ∷ b) item taken q.1 in
        let at = 1 + gap (drop 1 (x ∷ b)) in
        let f = field_back (drop at (x ∷ b)) item r.0 r.1 in
        let here = same_byte x 44 q.0 in
        inr (record {
          id = f.0;
          kind = f.1;
          is = f.2;
          digits = f.3.digits;
          spells = f.3.spells;
          fits = f.3.fits;
          named = f.3.named;
          lies = (λ tail more lies.
              let inner = f.3.lies tail more (subst (Lies tail more) (ap (λ n. drop n (x ∷ b)) (sym r.2) ∙ sym (drop-drop r.0 at (x ∷ b))) lies) in
              ([], b, ap (λ k. k ∷ b) here, tt, gap_back tail 1 (x ∷ b) (quoted f.3.digits) (mark 58 ∷ mark 123 ∷ name_token f.1 ∷ more) inner));
        })

pub end_back : (bytes : List ℕ) (item : Item) (taken : ℕ) → end_at bytes ≡ is_read (item, taken) → (item ≡ end) × ((tail : List ℕ) (more : Tokens) → Lies tail more (drop taken bytes) → Lies tail (mark 93 ∷ more) bytes)
unfolding end_at
end_back bytes item taken e =
    let a = bound (mark_at 93 bytes) _ (item, taken) e in
    let same = same_read end item a.0.1 taken a.2 in
    (sym same.0, λ tail more lies. mark_first 93 bytes a.0.0 a.0.1 a.1 tail more (subst (λ n. Lies tail more (drop n bytes)) (sym same.1) lies))

-- ---- sizes: the one decimal spelling of each

after_digits : (n : ℕ) (xs : List ℕ) → 0 < n → AreDigits xs → value_from n xs < 2 ^ 64 → decimal (value_from n xs) ≡ decimal n ++ xs
after_digits n [] some d small = sym (append-nil (decimal n))
after_digits n (x ∷ xs) some d small =
    let m : ℕ = n * 10 + (x - 48) in
    let low = d.0.0 in
    let high = d.0.1 in
    let front : m / 10 ≡ n = omega arith in
    let last : 48 + m % 10 ≡ x = omega arith in
    after_digits m xs (omega arith) d.1 small
    ∙ ap (λ l. l ++ xs) (decimal_step m (omega arith) (omega (arith, grows m xs)) ∙ ap (λ k. decimal k ++ ((48 + m % 10) ∷ [])) front ∙ ap (λ k. decimal n ++ (k ∷ [])) last)
    ∙ append_more (decimal n) (x ∷ []) xs

canonical : (xs : List ℕ) → IsCounting xs → value_of xs < 2 ^ 64 → xs ≡ decimal (value_of xs)
canonical [] h small = absurd h
canonical (x ∷ xs) h small =
    let low = h.0 in
    let high = h.1 in
    let m : ℕ = 0 * 10 + (x - 48) in
    let first : 48 + m ≡ x = omega arith in
    sym (after_digits m xs (omega arith) h.2 small ∙ ap (λ l. l ++ xs) (decimal_digit m (omega arith) ∙ ap (λ k. k ∷ []) first))

pos_same : (m n : ℕ) → pos m ≡ pos n → m ≡ n
pos_same m n e = cc

no_negated : (n v : ℕ) → 1 ≤ v → pos n ≡ negated v → ⊥
no_negated n zero some e = omega arith
no_negated n (suc v) some e = absurd (cc)

pub decimal_of : (n : ℕ) (digits : List ℕ) → SpellsInt (pos n) digits → n < 2 ^ 31 → digits ≡ decimal n
decimal_of n digits (inl e) small = e.0 ∙ sym (ap decimal (pos_same n 0 e.1) ∙ decimal_digit 0 (omega arith))
decimal_of n digits (inr (inl e)) small = let same = pos_same n (value_of digits) e.1 in canonical digits e.0 (omega (arith, same)) ∙ ap decimal (sym same)
decimal_of n digits (inr (inr (xs, is, counting, value))) small = absurd (no_negated n (value_of xs) (counting_some xs counting) value)

-- the one digit of a bool
pub flag_digits : (z : ℤ) (digits : List ℕ) → IsInt (pos 0) (pos 1) z digits → digits ≡ flag (int_lt (pos 0) z)
flag_digits (pos zero) digits i = decimal_of 0 digits i.spells (omega arith) ∙ decimal_digit 0 (omega arith)
flag_digits (pos (suc zero)) digits i = decimal_of 1 digits i.spells (omega arith) ∙ decimal_digit 1 (omega arith)
flag_digits (pos (suc (suc n))) digits i = let most = i.most in absurd (grind (arith, nat_tests))
flag_digits (negsuc n) digits i = let least = i.least in absurd (grind (arith, nat_tests))

-- a size's one token
abbrev pub IsSizeToken : ℕ → List ℕ → Type 0
IsSizeToken n token = (token ≡ decimal n) × (n < 2 ^ 31)

size_token : (z : ℤ) (digits : List ℕ) → IsInt (pos 0) (pos 2147483647) z digits → IsSizeToken (size_of z) digits
size_token (pos n) digits i = let most = i.most in let small : n < 2 ^ 31 = grind (arith, nat_tests) in (decimal_of n digits i.spells small, small)
size_token (negsuc n) digits i = let least = i.least in absurd (grind (arith, nat_tests))

size_back : (bytes : List ℕ) (n taken : ℕ) → size_in bytes ≡ is_read (n, taken) → Token bytes taken (IsSizeToken n)
size_back bytes n taken e =
    let a = bound (int_in reasons.BadSize (pos 0) (pos 2147483647) bytes) _ (n, taken) e in
    let same = same_read (size_of a.0.0) n a.0.1 taken a.2 in
    let t = int_back reasons.BadSize (pos 0) (pos 2147483647) a.0.0 bytes a.0.1 range_size a.1 in
    record { token = t.token; rest = t.rest; laid = t.laid; long = sym same.1 ∙ t.long; is = subst (λ k. IsSizeToken k t.token) same.0 (size_token a.0.0 t.token t.is) }

pub kind_behind : (n : ℕ) (bytes : List ℕ) (kind : Kind) (past : ℕ) → further n kind_at bytes ≡ is_read (kind, past) → IsNamed kind × Carries n (name_token kind ∷ []) bytes past
kind_behind n bytes kind past e =
    let b = behind kind_at n bytes kind past (Names kind) (λ d m h. kind_back d kind m h) e in
    (b.is.1, λ tail more lies. subst (λ t. Lies tail (t ∷ more) (drop n bytes)) b.is.0 (b.carries tail more lies))

size_behind : (n : ℕ) (bytes : List ℕ) (size past : ℕ) → further n size_in bytes ≡ is_read (size, past) → (size < 2 ^ 31) × Carries n (decimal size ∷ []) bytes past
size_behind n bytes size past e =
    let b = behind size_in n bytes size past (IsSizeToken size) (λ d m h. size_back d size m h) e in
    (b.is.1, λ tail more lies. subst (λ t. Lies tail (t ∷ more) (drop n bytes)) b.is.0 (b.carries tail more lies))

-- ---- lists, sets and maps

pub record SequenceRead (kind : Kind) (size : ℕ) (bytes : List ℕ) (taken : ℕ) : Type 0 where
  pub named : IsNamed kind
  pub small : size < 2 ^ 31
  pub rest : List ℕ
  pub stands : bytes ≡ mark 91 ++ rest
  pub lies : (tail : List ℕ) (more : Tokens) → Lies tail more (drop taken bytes) → Lies tail (mark 91 ∷ name_token kind ∷ mark 44 ∷ decimal size ∷ more) bytes

pub sequence_back : (bytes : List ℕ) (x : Kind × ℕ) (taken : ℕ) → sequence_at bytes ≡ is_read (x, taken) → SequenceRead x.0 x.1 bytes taken
unfolding sequence_at
sequence_back bytes x taken e =
    let a = bound (mark_at 91 bytes) _ (x, taken) e in
    let b = bound (further a.0.1 kind_at bytes) _ (x, taken) a.2 in
    let c = bound (further b.0.1 (mark_at 44) bytes) _ (x, taken) b.2 in
    let s = bound (further c.0.1 size_in bytes) _ (x, taken) c.2 in
    let same = same_read (b.0.0, s.0.0) x s.0.1 taken s.2 in
    let name = kind_behind a.0.1 bytes b.0.0 b.0.1 b.1 in
    let size = size_behind c.0.1 bytes s.0.0 s.0.1 s.1 in
    let bracket = mark_back 91 bytes a.0.0 a.0.1 a.1 in
    let read : SequenceRead b.0.0 s.0.0 bytes s.0.1 =
    record {
      named = name.0;
      small = size.0;
      rest = bracket.rest;
      stands = bracket.laid ∙ ap (λ t. t ++ bracket.rest) bracket.is;
      lies = (λ tail more lies.
          mark_first 91 bytes a.0.0 a.0.1 a.1 tail (name_token b.0.0 ∷ mark 44 ∷ decimal s.0.0 ∷ more)
          (name.1 tail (mark 44 ∷ decimal s.0.0 ∷ more) (mark_behind 44 b.0.1 bytes c.0.0 c.0.1 c.1 tail (decimal s.0.0 ∷ more) (size.1 tail more lies))));
    } in
    subst (λ y. SequenceRead y.0 y.1 bytes taken) same.0 (subst (SequenceRead b.0.0 s.0.0 bytes) same.1 read)

pub record MapHeadRead (k v : Kind) (size : ℕ) (bytes : List ℕ) (taken : ℕ) : Type 0 where
  pub named : IsNamed k
  pub other : IsNamed v
  pub small : size < 2 ^ 31
  pub rest : List ℕ
  pub stands : bytes ≡ mark 91 ++ rest
  pub lies : (tail : List ℕ) (more : Tokens) → Lies tail more (drop taken bytes) → Lies tail (mark 91 ∷ name_token k ∷ mark 44 ∷ name_token v ∷ mark 44 ∷ decimal size ∷ more) bytes

pub map_head_back : (bytes : List ℕ) (x : (Kind × Kind) × ℕ) (taken : ℕ) → map_head_at bytes ≡ is_read (x, taken) → MapHeadRead x.0.0 x.0.1 x.1 bytes taken
unfolding map_head_at
map_head_back bytes x taken e =
    let a = bound (mark_at 91 bytes) _ (x, taken) e in
    let b = bound (further a.0.1 kind_at bytes) _ (x, taken) a.2 in
    let c = bound (further b.0.1 (mark_at 44) bytes) _ (x, taken) b.2 in
    let f = bound (further c.0.1 kind_at bytes) _ (x, taken) c.2 in
    let g = bound (further f.0.1 (mark_at 44) bytes) _ (x, taken) f.2 in
    let s = bound (further g.0.1 size_in bytes) _ (x, taken) g.2 in
    let same = same_read ((b.0.0, f.0.0), s.0.0) x s.0.1 taken s.2 in
    let name = kind_behind a.0.1 bytes b.0.0 b.0.1 b.1 in
    let second = kind_behind c.0.1 bytes f.0.0 f.0.1 f.1 in
    let size = size_behind g.0.1 bytes s.0.0 s.0.1 s.1 in
    let bracket = mark_back 91 bytes a.0.0 a.0.1 a.1 in
    let read : MapHeadRead b.0.0 f.0.0 s.0.0 bytes s.0.1 =
    record {
      named = name.0;
      other = second.0;
      small = size.0;
      rest = bracket.rest;
      stands = bracket.laid ∙ ap (λ t. t ++ bracket.rest) bracket.is;
      lies = (λ tail more lies.
          let last = mark_behind 44 f.0.1 bytes g.0.0 g.0.1 g.1 tail (decimal s.0.0 ∷ more) (size.1 tail more lies) in
          let mid = mark_behind 44 b.0.1 bytes c.0.0 c.0.1 c.1 tail (name_token f.0.0 ∷ mark 44 ∷ decimal s.0.0 ∷ more) (second.1 tail (mark 44 ∷ decimal s.0.0 ∷ more) last) in
          mark_first 91 bytes a.0.0 a.0.1 a.1 tail (name_token b.0.0 ∷ mark 44 ∷ name_token f.0.0 ∷ mark 44 ∷ decimal s.0.0 ∷ more) (name.1 tail (mark 44 ∷ name_token f.0.0 ∷ mark 44 ∷ decimal s.0.0 ∷ more) mid));
    } in
    subst (λ y. MapHeadRead y.0.0 y.0.1 y.1 bytes taken) same.0 (subst (MapHeadRead b.0.0 f.0.0 s.0.0 bytes) same.1 read)

-- behind the size of a map without pairs
pub no_pairs_back : (at : ℕ) (bytes : List ℕ) (item : Item) (taken : ℕ) → no_pairs_at at bytes ≡ is_read (item, taken)
    → (item ≡ empty_map) × ((tail : List ℕ) (more : Tokens) → Lies tail more (drop taken bytes) → Lies tail (mark 44 ∷ mark 123 ∷ mark 125 ∷ mark 93 ∷ more) (drop at bytes))
unfolding no_pairs_at
no_pairs_back at bytes item taken e =
    let a = bound (further at (mark_at 44) bytes) _ (item, taken) e in
    let b = bound (further a.0.1 (mark_at 123) bytes) _ (item, taken) a.2 in
    let c = bound (further b.0.1 (mark_at 125) bytes) _ (item, taken) b.2 in
    let f = bound (further c.0.1 (mark_at 93) bytes) _ (item, taken) c.2 in
    let same = same_read empty_map item f.0.1 taken f.2 in (
      sym same.0,
      λ tail more lies.
          let last = mark_behind 93 c.0.1 bytes f.0.0 f.0.1 f.1 tail more (subst (λ n. Lies tail more (drop n bytes)) (sym same.1) lies) in
          mark_behind 44 at bytes a.0.0 a.0.1 a.1 tail (mark 123 ∷ mark 125 ∷ mark 93 ∷ more)
          (mark_behind 123 a.0.1 bytes b.0.0 b.0.1 b.1 tail (mark 125 ∷ mark 93 ∷ more) (mark_behind 125 b.0.1 bytes c.0.0 c.0.1 c.1 tail (mark 93 ∷ more) last)),
    )
