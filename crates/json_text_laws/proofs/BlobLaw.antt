-- What the scan of base64 tells.
use Rattle.std.proofs.Common.{◌≡◌, ℕ, zero, suc, ◌+◌, ◌-◌, ◌*◌, ◌/◌, ◌%◌, ◌<◌, ◌≤◌, Bool, true, false, cond, List, [], ◌∷◌, ◌++◌, length, take, drop, replicate, Option, Some, None, refl, sym, ap, ◌∙◌, subst, arith, ◌⊎◌, inl, inr, length-append}
use Rattle.std.specs.Prelude.{slice_index, nat_lt, nat_le, ◌==◌, ◌||◌}
use Rattle.std.specs.List.{prefix_len}
use Rattle.std.proofs.lemmas.List.{append-nil, length-replicate}
use Rattle.std.proofs.lemmas.Bool.Decides.{nat_tests}
use Rattle.base64.specs.Rfc4648.{encode_symbols, unpadded_len}
use Rattle.base64.proofs.RoundTrip.{length-encode_symbols}
use Rattle.json_text.specs.declared.scanned.Scan.{Scan}
use Rattle.json_text.specs.declared.scanned.Scan.TheVariants.{Whole, Short, Bad}
use Rattle.json_text.specs.Blob.{is_symbol, is_padding, decoded, is_padded, pads_on, closed_by, open_by, blob_of, symbols_in, blob_at}
use Rattle.json_text.specs.Grammar.{alphabet, IsPadding, SpellsBlob}
use Rattle.json_text_laws.specs.Judged.{NoneGood, Judges, GoodBlob}
use Rattle.json_text_laws.proofs.Choices.{cond_true, cond_false}
use Rattle.json_text_laws.proofs.Parts.{All, Apart, cut_len, drop_front, take_front, at_seam, append_more, parted, all_append}
use Rattle.json_text_laws.proofs.Base64.{encoded_decodes, decoded_encodes, decoded_bytes, encoded_symbols, groups}

-- what stands behind the opening quote: symbols, signs of padding, and the rest
pub record Shape (symbols padding rest : List ℕ) : Type 0 where
  pub are : All is_symbol symbols
  pub pads : All is_padding padding
  pub over : Apart is_padding rest
  pub done : Apart is_symbol (padding ++ rest)

-- what the scan tells of that shape
abbrev pub tell : List ℕ → ℕ → List ℕ → Scan (List ℕ)
tell symbols padding [] = open_by (length symbols) padding (decoded symbols)
tell symbols padding (x ∷ rest) = cond (x == 34) (closed_by (length symbols) padding (decoded symbols)) (Bad 0)

content : List ℕ → List ℕ → List ℕ → List ℕ
content symbols padding rest = symbols ++ (padding ++ rest)

long : (symbols padding rest : List ℕ) → length (symbols ++ (padding ++ rest)) ≡ length symbols + length padding + length rest
long symbols padding rest = omega (arith, length-append symbols (padding ++ rest), length-append padding rest)

at_rest : (symbols padding : List ℕ) (x : ℕ) (rest : List ℕ) → slice_index (symbols ++ (padding ++ (x ∷ rest))) (length symbols + length padding) ≡ x
at_rest symbols padding x rest =
    ap (λ l. slice_index l (length symbols + length padding)) (sym (append_more symbols padding (x ∷ rest)))
    ∙ ap (slice_index ((symbols ++ padding) ++ (x ∷ rest))) (sym (length-append symbols padding)) ∙ at_seam (symbols ++ padding) x rest

of_shape : (symbols padding rest : List ℕ) → blob_of (symbols ++ (padding ++ rest)) (length symbols) (length padding) ≡ tell symbols (length padding) rest
of_shape symbols padding [] =
    let all = symbols ++ (padding ++ []) in
    let ends : nat_le (length all) (length symbols + length padding) ≡ true = let l = long symbols padding [] in grind (arith, nat_tests) in
    cond_true (nat_le (length all) (length symbols + length padding)) (open_by (length symbols) (length padding) (decoded (take (length symbols) all))) (cond (slice_index all (length symbols + length padding) == 34) (closed_by (length symbols) (length padding) (decoded (take (length symbols) all))) (Bad 0)) ends
    ∙ ap (λ s. open_by (length symbols) (length padding) (decoded s)) (take_front symbols (padding ++ []))
of_shape symbols padding (x ∷ rest) =
    let all = symbols ++ (padding ++ (x ∷ rest)) in
    let more : nat_le (length all) (length symbols + length padding) ≡ false = let l = long symbols padding (x ∷ rest) in grind (arith, nat_tests) in
    cond_false (nat_le (length all) (length symbols + length padding)) (open_by (length symbols) (length padding) (decoded (take (length symbols) all))) (cond (slice_index all (length symbols + length padding) == 34) (closed_by (length symbols) (length padding) (decoded (take (length symbols) all))) (Bad 0)) more
    ∙ ap (λ s. cond (slice_index all (length symbols + length padding) == 34) (closed_by (length symbols) (length padding) (decoded s)) (Bad 0)) (take_front symbols (padding ++ (x ∷ rest)))
    ∙ ap (λ y. cond (y == 34) (closed_by (length symbols) (length padding) (decoded symbols)) (Bad 0)) (at_rest symbols padding x rest)

behind_quote : (all : List ℕ) → blob_at (34 ∷ all) ≡ blob_of all (symbols_in all) (prefix_len is_padding (drop (symbols_in all) all))
unfolding blob_at
behind_quote all =
    let some : nat_lt (length (34 ∷ all)) 1 ≡ false = grind (arith, nat_tests) in
    cond_false (nat_lt (length (34 ∷ all)) 1) Short (blob_of all (symbols_in all) (prefix_len is_padding (drop (symbols_in all) all))) some

pub at_shape : (symbols padding rest : List ℕ) → Shape symbols padding rest → blob_at (34 ∷ (symbols ++ (padding ++ rest))) ≡ tell symbols (length padding) rest
at_shape symbols padding rest shape =
    let all = symbols ++ (padding ++ rest) in
    let s : symbols_in all ≡ length symbols = cut_len is_symbol symbols (padding ++ rest) shape.are shape.done in
    let d : drop (symbols_in all) all ≡ padding ++ rest = ap (λ n. drop n all) s ∙ drop_front symbols (padding ++ rest) in
    let p : prefix_len is_padding (drop (symbols_in all) all) ≡ length padding = ap (prefix_len is_padding) d ∙ cut_len is_padding padding rest shape.pads shape.over in
    behind_quote all ∙ ap (λ n. blob_of all n (prefix_len is_padding (drop (symbols_in all) all))) s ∙ ap (blob_of all (length symbols)) p ∙ of_shape symbols padding rest

-- each content has a shape
pub record Shaped (all : List ℕ) : Type 0 where
  pub symbols : List ℕ
  pub padding : List ℕ
  pub rest : List ℕ
  pub joined : all ≡ symbols ++ (padding ++ rest)
  pub shape : Shape symbols padding rest

pub shaped : (all : List ℕ) → Shaped all
shaped all =
    let s = parted is_symbol all in
    let p = parted is_padding s.rest in
    record {
      symbols = s.front;
      padding = p.front;
      rest = p.rest;
      joined = s.joined ∙ ap (λ r. s.front ++ r) p.joined;
      shape = record { are = s.all; pads = p.all; over = p.apart; done = subst (Apart is_symbol) p.joined s.apart };
    }

-- ---- what is spelled is read

padding_all : (k : ℕ) → All is_padding (replicate k 61)
padding_all zero = tt
padding_all (suc k) = (refl, padding_all k)

padding_apart : (k : ℕ) (rest : List ℕ) → Apart is_symbol (replicate k 61 ++ 34 ∷ rest)
padding_apart zero rest = refl
padding_apart (suc k) rest = refl

padded : (n s k : ℕ) → s ≡ unpadded_len n → IsPadding s k → is_padded s k ≡ true
padded n s k e (inl none) = grind (arith, nat_tests)
padded n s k e (inr h) = let few = h.0 in let whole = h.1 in let least : k < 3 = omega arith in grind (arith, nat_tests)

spelled_read : (b front rest : List ℕ) → SpellsBlob b front → blob_at (front ++ rest) ≡ Whole b (length front)
spelled_read b front rest (k, are, pads, is) =
    let s = encode_symbols alphabet b in
    let p = replicate k 61 in
    let good : Shape s p (34 ∷ rest) = record { are = encoded_symbols b are; pads = padding_all k; over = refl; done = padding_apart k rest } in
    let laid : front ++ rest ≡ 34 ∷ (s ++ (p ++ 34 ∷ rest)) = ap (λ f. f ++ rest) is ∙ ap (λ r. 34 ∷ r) (append_more s (p ++ 34 ∷ []) rest ∙ ap (λ r. s ++ r) (append_more p (34 ∷ []) rest)) in
    let kk : length p ≡ k = length-replicate k 61 in
    let size : length front ≡ length s + k + 2 = ap length is ∙ omega (arith, long s p (34 ∷ []), kk) in
    let test = padded (length b) (length s) k (length-encode_symbols alphabet b) pads in
    ap blob_at laid ∙ at_shape s p (34 ∷ rest) good ∙ ap (λ n. closed_by (length s) n (decoded s)) kk ∙ ap (closed_by (length s) k) (encoded_decodes b are)
    ∙ cond_true (is_padded (length s) k) (Whole b (length s + k + 2)) (Bad 0) test ∙ ap (Whole b) (sym size)

pub good_read : (bytes b : List ℕ) (n : ℕ) → GoodBlob bytes b n → blob_at bytes ≡ Whole b n
good_read bytes b n (front, rest, is, long_is, spells) = ap blob_at is ∙ spelled_read b front rest spells ∙ ap (Whole b) (sym long_is)

-- ---- what is read is spelled

open_never : (s k : ℕ) (found : Option (List ℕ)) (b : List ℕ) (n : ℕ) → open_by s k found ≡ Whole b n → ⊥
open_never s k None b n e = by_b (k == 0) e
  where
    by_b : (t : Bool) → cond {A = Scan (List ℕ)} t Short (Bad 0) ≡ Whole b n → ⊥
    by_b true h = absurd (cc)
    by_b false h = absurd (cc)
open_never s k (Some c) b n e = by_b ((k == 0) || pads_on s k) e
  where
    by_b : (t : Bool) → cond {A = Scan (List ℕ)} t Short (Bad 0) ≡ Whole b n → ⊥
    by_b true h = absurd (cc)
    by_b false h = absurd (cc)

pub record Closes (s k : ℕ) (found : Option (List ℕ)) (b : List ℕ) (n : ℕ) : Type 0 where
  pub is : found ≡ Some b
  pub ends : n ≡ s + k + 2
  pub test : is_padded s k ≡ true

closes : (s k : ℕ) (found : Option (List ℕ)) (b : List ℕ) (n : ℕ) → closed_by s k found ≡ Whole b n → Closes s k found b n
closes s k None b n e = absurd (cc)
closes s k (Some c) b n e = by_b (is_padded s k) refl e
  where
    by_b : (t : Bool) → is_padded s k ≡ t → cond {A = Scan (List ℕ)} t (Whole c (s + k + 2)) (Bad 0) ≡ Whole b n → Closes s k (Some c) b n
    by_b true g h = record { is = (let same : c ≡ b = cc in ap Some same); ends = (let same : s + k + 2 ≡ n = cc in sym same); test = g }
    by_b false g h = absurd (cc)

padding_is : (xs : List ℕ) → All is_padding xs → xs ≡ replicate (length xs) 61
padding_is [] h = refl
padding_is (x ∷ xs) h = let first : x ≡ 61 = (let t = h.0 in grind (arith, nat_tests)) in ap (λ y. y ∷ xs) first ∙ ap (λ r. 61 ∷ r) (padding_is xs h.1)

padding_of : (s k : ℕ) → is_padded s k ≡ true → IsPadding s k
padding_of s k e = by_b (k == 0) refl
  where
    by_b : (t : Bool) → (k == 0) ≡ t → IsPadding s k
    by_b true g = inl (grind (arith, nat_tests))
    by_b false g = inr (grind (arith, nat_tests), grind (arith, nat_tests))

spelled_by : (symbols padding rest b : List ℕ) (n : ℕ) → Shape symbols padding (34 ∷ rest) → Closes (length symbols) (length padding) (decoded symbols) b n → GoodBlob (34 ∷ (symbols ++ (padding ++ 34 ∷ rest))) b n
spelled_by symbols padding rest b n shape c =
    let front = 34 ∷ (symbols ++ (padding ++ 34 ∷ [])) in
    let same = decoded_encodes symbols b shape.are c.is in
    let laid : (symbols ++ (padding ++ 34 ∷ [])) ++ rest ≡ symbols ++ (padding ++ 34 ∷ rest) = append_more symbols (padding ++ 34 ∷ []) rest ∙ ap (λ r. symbols ++ r) (append_more padding (34 ∷ []) rest) in (
      front,
      rest,
      ap (λ r. 34 ∷ r) (sym laid),
      omega (arith, c.ends, long symbols padding (34 ∷ [])),
      (
        length padding,
        decoded_bytes symbols b shape.are c.is,
        subst (λ s. IsPadding (length s) (length padding)) same (padding_of (length symbols) (length padding) c.test),
        ap (λ s. 34 ∷ (s ++ (padding ++ 34 ∷ []))) same ∙ ap (λ p. 34 ∷ (encode_symbols alphabet b ++ (p ++ 34 ∷ []))) (padding_is padding shape.pads),
      ),
    )

pub whole_by : (symbols padding rest b : List ℕ) (n : ℕ) → Shape symbols padding rest → tell symbols (length padding) rest ≡ Whole b n → GoodBlob (34 ∷ (symbols ++ (padding ++ rest))) b n
whole_by symbols padding [] b n shape e = absurd (open_never (length symbols) (length padding) (decoded symbols) b n e)
whole_by symbols padding (x ∷ rest) b n shape e = by_b (x == 34) refl e
  where
    by_b : (t : Bool) → (x == 34) ≡ t → cond t (closed_by (length symbols) (length padding) (decoded symbols)) (Bad 0) ≡ Whole b n → GoodBlob (34 ∷ (symbols ++ (padding ++ (x ∷ rest)))) b n
    by_b true g h =
        let quote : x ≡ 34 = grind (arith, nat_tests) in
        subst (λ y. GoodBlob (34 ∷ (symbols ++ (padding ++ (y ∷ rest)))) b n) (sym quote)
        (spelled_by symbols padding rest b n (subst (λ y. Shape symbols padding (y ∷ rest)) quote shape) (closes (length symbols) (length padding) (decoded symbols) b n h))
    by_b false g h = absurd (cc)

no_quote : (x : ℕ) (all : List ℕ) → (x == 34) ≡ false → blob_at (x ∷ all) ≡ Bad 0
unfolding blob_at
no_quote x all e =
    let some : nat_lt (length (x ∷ all)) 1 ≡ false = grind (arith, nat_tests) in
    let inner = blob_of all (symbols_in all) (prefix_len is_padding (drop (symbols_in all) all)) in
    cond_false (nat_lt (length (x ∷ all)) 1) Short (cond (x == 34) inner (Bad 0)) some ∙ cond_false (x == 34) inner (Bad 0) e

nothing_there : blob_at [] ≡ Short
unfolding blob_at
nothing_there = refl

-- the shape behind a quote, as bytes
record Quoted (bytes : List ℕ) : Type 0 where
  symbols : List ℕ
  padding : List ℕ
  rest : List ℕ
  shape : Shape symbols padding rest
  laid : bytes ≡ 34 ∷ (symbols ++ (padding ++ rest))

quoted : (x : ℕ) (all : List ℕ) → (x == 34) ≡ true → Quoted (x ∷ all)
quoted x all e =
    let s = shaped all in
    let quote : x ≡ 34 = grind (arith, nat_tests) in
    record { symbols = s.symbols; padding = s.padding; rest = s.rest; shape = s.shape; laid = ap (λ y. y ∷ all) quote ∙ ap (λ r. 34 ∷ r) s.joined }

told : (bytes : List ℕ) (q : Quoted bytes) → blob_at bytes ≡ tell q.symbols (length q.padding) q.rest
told bytes q = ap blob_at q.laid ∙ at_shape q.symbols q.padding q.rest q.shape

pub whole_good : (bytes b : List ℕ) (n : ℕ) → blob_at bytes ≡ Whole b n → GoodBlob bytes b n
whole_good [] b n e = let wrong : Short ≡ Whole b n = sym nothing_there ∙ e in absurd (cc)
whole_good (x ∷ all) b n e = by_b (x == 34) refl
  where
    by_b : (t : Bool) → (x == 34) ≡ t → GoodBlob (x ∷ all) b n
    by_b true g = let q = quoted x all g in subst (λ l. GoodBlob l b n) (sym q.laid) (whole_by q.symbols q.padding q.rest b n q.shape (sym (told (x ∷ all) q) ∙ e))
    by_b false g = let wrong : Bad 0 ≡ Whole b n = sym (no_quote x all g) ∙ e in absurd (cc)

-- ---- what is bad stays so

pads_no_more : (s k m : ℕ) → pads_on s k ≡ false → 1 ≤ k → k ≤ m → (pads_on s m ≡ false) × (is_padded s m ≡ false)
pads_no_more s k m e some more = (grind (arith, nat_tests), grind (arith, nat_tests))

pad_no_symbol : (x : ℕ) → is_padding x ≡ true → is_symbol x ≡ false
pad_no_symbol x e = grind (arith, nat_tests)

-- behind that much padding nothing is good
abbrev Lost : ℕ → Option (List ℕ) → ℕ → Type 0
Lost s None k = Unit {0}
Lost s (Some b) k = pads_on s k ≡ false

open_bad : (s k q : ℕ) (found : Option (List ℕ)) → open_by s k found ≡ Bad q → (1 ≤ k) × (q ≡ 0) × Lost s found k
open_bad s k q None e = by_b (k == 0) refl e
  where
    by_b : (t : Bool) → (k == 0) ≡ t → cond {A = Scan (List ℕ)} t Short (Bad 0) ≡ Bad q → (1 ≤ k) × (q ≡ 0) × Unit {0}
    by_b true g h = absurd (cc)
    by_b false g h = (grind (arith, nat_tests), (let same : 0 ≡ q = cc in sym same), tt)
open_bad s k q (Some b) e = by_b ((k == 0) || pads_on s k) refl e
  where
    by_b : (t : Bool) → ((k == 0) || pads_on s k) ≡ t → cond {A = Scan (List ℕ)} t Short (Bad 0) ≡ Bad q → (1 ≤ k) × (q ≡ 0) × (pads_on s k ≡ false)
    by_b true g h = absurd (cc)
    by_b false g h = (grind (arith, nat_tests), (let same : 0 ≡ q = cc in sym same), or_false (k == 0) (pads_on s k) g)
      where
        or_false : (a b : Bool) → (a || b) ≡ false → b ≡ false
        or_false true b r = absurd (cc)
        or_false false b r = r

closed_bad : (s k q : ℕ) (found : Option (List ℕ)) (x : ℕ) → cond (x == 34) (closed_by s k found) (Bad 0) ≡ Bad q → q ≡ 0
closed_bad s k q None x e = by_b (x == 34) e
  where
    by_b : (t : Bool) → cond {A = Scan (List ℕ)} t (Bad 0) (Bad 0) ≡ Bad q → q ≡ 0
    by_b true h = let same : 0 ≡ q = cc in sym same
    by_b false h = let same : 0 ≡ q = cc in sym same
closed_bad s k q (Some b) x e = by_b (x == 34) (is_padded s k) e
  where
    by_b : (t u : Bool) → cond {A = Scan (List ℕ)} t (cond u (Whole b (s + k + 2)) (Bad 0)) (Bad 0) ≡ Bad q → q ≡ 0
    by_b true true h = absurd (cc)
    by_b true false h = let same : 0 ≡ q = cc in sym same
    by_b false u h = let same : 0 ≡ q = cc in sym same

lost_tell : (s m k : ℕ) (found : Option (List ℕ)) (x : ℕ) → Lost s found k → 1 ≤ k → k ≤ m → (open_by s m found ≡ Bad 0) × (cond (x == 34) (closed_by s m found) (Bad 0) ≡ Bad 0)
lost_tell s m k None x lost some more = (cond_false (m == 0) Short (Bad 0) (grind (arith, nat_tests)), either (x == 34))
  where
    either : (t : Bool) → cond {A = Scan (List ℕ)} t (Bad 0) (Bad 0) ≡ Bad 0
    either true = refl
    either false = refl
lost_tell s m k (Some b) x lost some more =
    let gone = pads_no_more s k m lost some more in
    let open_no : ((m == 0) || pads_on s m) ≡ false = (let g = gone.0 in both_no (m == 0) (pads_on s m) (grind (arith, nat_tests)) g) in
    (cond_false ((m == 0) || pads_on s m) Short (Bad 0) open_no, either (x == 34) (cond_false (is_padded s m) (Whole b (s + m + 2)) (Bad 0) gone.1))
  where
    both_no : (a c : Bool) → a ≡ false → c ≡ false → (a || c) ≡ false
    both_no a c p q = cc

    either : (t : Bool) → cond (is_padded s m) (Whole b (s + m + 2)) (Bad 0) ≡ Bad 0 → cond t (cond (is_padded s m) (Whole b (s + m + 2)) (Bad 0)) (Bad 0) ≡ Bad 0
    either true h = h
    either false h = refl

more_pads : (p : ℕ) (padding rest : List ℕ) → All is_padding (p ∷ padding) → Apart is_symbol ((p ∷ padding) ++ rest)
more_pads p padding rest h = pad_no_symbol p h.0

lost_goes_on : (symbols : List ℕ) (p : ℕ) (padding more : List ℕ) → Shape symbols (p ∷ padding) [] → Lost (length symbols) (decoded symbols) (length (p ∷ padding))
    → blob_at (34 ∷ (symbols ++ ((p ∷ padding) ++ more))) ≡ Bad 0
lost_goes_on symbols p padding more shape lost =
    let m = parted is_padding more in
    let all = (p ∷ padding) ++ m.front in
    let good : Shape symbols all m.rest = record { are = shape.are; pads = all_append is_padding (p ∷ padding) m.front shape.pads m.all; over = m.apart; done = pad_no_symbol p shape.pads.0 } in
    let laid : (p ∷ padding) ++ more ≡ all ++ m.rest = ap (λ r. (p ∷ padding) ++ r) m.joined ∙ sym (append_more (p ∷ padding) m.front m.rest) in
    let longer : length (p ∷ padding) ≤ length all = omega (arith, length-append (p ∷ padding) m.front) in
    ap (λ r. blob_at (34 ∷ (symbols ++ r))) laid ∙ at_shape symbols all m.rest good ∙ ends m.rest (length all) longer
  where
    ends : (rest : List ℕ) (n : ℕ) → length (p ∷ padding) ≤ n → tell symbols n rest ≡ Bad 0
    ends [] n h = (lost_tell (length symbols) n (length (p ∷ padding)) (decoded symbols) 0 lost (omega arith) h).0
    ends (x ∷ rest) n h = (lost_tell (length symbols) n (length (p ∷ padding)) (decoded symbols) x lost (omega arith) h).1

bad_goes_on : (symbols padding rest more : List ℕ) (q : ℕ) → Shape symbols padding rest → tell symbols (length padding) rest ≡ Bad q → (q ≡ 0) × (blob_at (34 ∷ (symbols ++ (padding ++ (rest ++ more)))) ≡ Bad 0)
bad_goes_on symbols padding (x ∷ rest) more q shape e =
    let zero_is = closed_bad (length symbols) (length padding) q (decoded symbols) x e in
    (zero_is, at_shape symbols padding ((x ∷ rest) ++ more) (record { are = shape.are; pads = shape.pads; over = shape.over; done = first_apart padding shape.done }) ∙ e ∙ ap Bad zero_is)
  where
    first_apart : (p : List ℕ) → Apart is_symbol (p ++ (x ∷ rest)) → Apart is_symbol (p ++ ((x ∷ rest) ++ more))
    first_apart [] h = h
    first_apart (y ∷ p) h = h
bad_goes_on symbols [] [] more q shape e = let wrong = (open_bad (length symbols) 0 q (decoded symbols) e).0 in absurd (omega arith)
bad_goes_on symbols (p ∷ padding) [] more q shape e =
    let bad = open_bad (length symbols) (length (p ∷ padding)) q (decoded symbols) e in
    (bad.1, lost_goes_on symbols p padding more shape bad.2)

both_bad : (q : ℕ) (scan : Scan (List ℕ)) → scan ≡ Bad 0 → scan ≡ Bad q → q ≡ 0
both_bad q scan e f = cc

pub bad_stays : (bytes more : List ℕ) (q : ℕ) → blob_at bytes ≡ Bad q → (q ≡ 0) × (blob_at (bytes ++ more) ≡ Bad 0)
bad_stays [] more q e = let wrong : Short ≡ Bad q = sym nothing_there ∙ e in absurd (cc)
bad_stays (x ∷ all) more q e = by_b (x == 34) refl
  where
    by_b : (t : Bool) → (x == 34) ≡ t → (q ≡ 0) × (blob_at ((x ∷ all) ++ more) ≡ Bad 0)
    by_b true g =
        let k = quoted x all g in
        let on = bad_goes_on k.symbols k.padding k.rest more q k.shape (sym (told (x ∷ all) k) ∙ e) in
        (on.0, ap (λ l. blob_at (l ++ more)) k.laid ∙ ap (λ r. blob_at (34 ∷ r)) (append_more k.symbols (k.padding ++ k.rest) more ∙ ap (λ r. k.symbols ++ r) (append_more k.padding k.rest more)) ∙ on.1)
    by_b false g = (both_bad q (blob_at (x ∷ all)) (no_quote x all g) e, no_quote x (all ++ more) g)

-- ---- what is short can be made good

-- the bytes go on to a good string, by a few bytes
abbrev pub Grows : List ℕ → Type 0
Grows bytes = (more : List ℕ) × (b : List ℕ) × (n : ℕ) × (blob_at (bytes ++ more) ≡ Whole b n) × (length more ≤ 5)

closed_good : (symbols padding b : List ℕ) → All is_symbol symbols → All is_padding padding → Apart is_symbol (padding ++ 34 ∷ []) → decoded symbols ≡ Some b → is_padded (length symbols) (length padding) ≡ true
    → blob_at (34 ∷ (symbols ++ (padding ++ 34 ∷ []))) ≡ Whole b (length symbols + length padding + 2)
closed_good symbols padding b are pads done found test =
    at_shape symbols padding (34 ∷ []) (record { are = are; pads = pads; over = refl; done = done }) ∙ ap (closed_by (length symbols) (length padding)) found
    ∙ cond_true (is_padded (length symbols) (length padding)) (Whole b (length symbols + length padding + 2)) (Bad 0) test

empty_good : Grows []
unfolding encode_symbols
empty_good = (34 ∷ 34 ∷ [], [], 2, closed_good [] [] [] tt tt refl (encoded_decodes [] tt) refl, omega arith)

closed_never_short : (s k : ℕ) (found : Option (List ℕ)) (x : ℕ) → cond (x == 34) (closed_by s k found) (Bad 0) ≡ Short → ⊥
closed_never_short s k None x e = by_b (x == 34) e
  where
    by_b : (t : Bool) → cond {A = Scan (List ℕ)} t (Bad 0) (Bad 0) ≡ Short → ⊥
    by_b true h = absurd (cc)
    by_b false h = absurd (cc)
closed_never_short s k (Some b) x e = by_b (x == 34) (is_padded s k) e
  where
    by_b : (t u : Bool) → cond {A = Scan (List ℕ)} t (cond u (Whole b (s + k + 2)) (Bad 0)) (Bad 0) ≡ Short → ⊥
    by_b true true h = absurd (cc)
    by_b true false h = absurd (cc)
    by_b false u h = absurd (cc)

-- how an open string can go on: it decodes, and its padding is none or begins; or it does not decode and has none
abbrev Open : ℕ → ℕ → Option (List ℕ) → Type 0
Open s k None = k ≡ 0
Open s k (Some b) = (k ≡ 0) ⊎ ((2 ≤ s % 4) × (s % 4 + k ≤ 4))

open_short : (s k : ℕ) (found : Option (List ℕ)) → open_by s k found ≡ Short → Open s k found
open_short s k None e = by_b (k == 0) refl e
  where
    by_b : (t : Bool) → (k == 0) ≡ t → cond {A = Scan (List ℕ)} t Short (Bad 0) ≡ Short → k ≡ 0
    by_b true g h = grind (arith, nat_tests)
    by_b false g h = absurd (cc)
open_short s k (Some b) e = by_b (k == 0) (pads_on s k) refl refl e
  where
    by_b : (t u : Bool) → (k == 0) ≡ t → pads_on s k ≡ u → cond {A = Scan (List ℕ)} (t || u) Short (Bad 0) ≡ Short → (k ≡ 0) ⊎ ((2 ≤ s % 4) × (s % 4 + k ≤ 4))
    by_b true u g p h = inl (grind (arith, nat_tests))
    by_b false true g p h = inr (grind (arith, nat_tests), grind (arith, nat_tests))
    by_b false false g p h = absurd (cc)

none_of : (xs : List ℕ) → length xs ≡ 0 → xs ≡ []
none_of [] e = refl
none_of (x ∷ xs) e = absurd (omega arith)

pads_done : (p : ℕ) (padding rest : List ℕ) → is_padding p ≡ true → Apart is_symbol ((p ∷ padding) ++ rest)
pads_done p padding rest e = pad_no_symbol p e

done_of : (padding : List ℕ) → All is_padding padding → Apart is_symbol (padding ++ 34 ∷ [])
done_of [] h = refl
done_of (p ∷ padding) h = pad_no_symbol p h.0

-- the padding that is still to come
with_padding : (symbols padding b : List ℕ) → All is_symbol symbols → All is_padding padding → decoded symbols ≡ Some b → (length padding ≡ 0) ⊎ ((2 ≤ length symbols % 4) × (length symbols % 4 + length padding ≤ 4))
    → (extra : ℕ) × (is_padded (length symbols) (length padding + extra) ≡ true) × (extra ≤ 4)
with_padding symbols padding b are pads found (inl none) = (0, (let e : length padding + 0 ≡ 0 = omega arith in ap (is_padded (length symbols)) e), omega arith)
with_padding symbols padding b are pads found (inr h) =
    let s = length symbols in
    let k = length padding in
    let low = h.0 in
    let high = h.1 in
    (4 - s % 4 - k, (let n = k + (4 - s % 4 - k) in let e : n ≡ 4 - s % 4 = omega arith in ap (is_padded s) e ∙ last_padding s low), omega arith)
  where
    last_padding : (s : ℕ) → 2 ≤ s % 4 → is_padded s (4 - s % 4) ≡ true
    last_padding s low = let few : 4 - s % 4 < 3 = omega arith in let whole : (s + (4 - s % 4)) % 4 ≡ 0 = omega arith in grind (arith, nat_tests)

decoded_grows : (symbols padding b : List ℕ) → All is_symbol symbols → All is_padding padding → decoded symbols ≡ Some b → (extra : ℕ) × (is_padded (length symbols) (length padding + extra) ≡ true) × (extra ≤ 4)
    → Grows (34 ∷ (symbols ++ (padding ++ [])))
decoded_grows symbols padding b are pads found (extra, test, few) =
    let all = padding ++ replicate extra 61 in
    let size : length all ≡ length padding + extra = omega (arith, length-append padding (replicate extra 61), length-replicate {A = ℕ} extra 61) in
    let pads_all = all_append is_padding padding (replicate extra 61) pads (padding_all extra) in
    let laid : (symbols ++ (padding ++ [])) ++ (replicate extra 61 ++ 34 ∷ []) ≡ symbols ++ (all ++ 34 ∷ []) =
    append_more symbols (padding ++ []) (replicate extra 61 ++ 34 ∷ []) ∙ ap (λ r. symbols ++ r) (ap (λ p. p ++ (replicate extra 61 ++ 34 ∷ [])) (append-nil padding) ∙ sym (append_more padding (replicate extra 61) (34 ∷ []))) in (
      replicate extra 61 ++ 34 ∷ [],
      b,
      length symbols + length all + 2,
      ap (λ r. blob_at (34 ∷ r)) laid ∙ closed_good symbols all b are pads_all (done_of all pads_all) found (ap (is_padded (length symbols)) size ∙ test),
      omega (arith, few, length-append {A = ℕ} (replicate extra 61) (34 ∷ []), length-replicate {A = ℕ} extra 61),
    )

letters : (k : ℕ) → All is_symbol (replicate k 65)
letters zero = tt
letters (suc k) = (refl, letters k)

whole_groups : (n : ℕ) → n + (4 - n % 4) ≡ 4 * ((n + (4 - n % 4)) / 4)
whole_groups n = omega arith

filled : (symbols : List ℕ) → All is_symbol symbols → Grows (34 ∷ (symbols ++ ([] ++ [])))
filled symbols are =
    let k = 4 - length symbols % 4 in
    let all = symbols ++ replicate k 65 in
    let size : length all ≡ length symbols + k = omega (arith, length-append symbols (replicate k 65), length-replicate {A = ℕ} k 65) in
    let every = all_append is_symbol symbols (replicate k 65) are (letters k) in
    let e = groups ((length symbols + k) / 4) all (size ∙ whole_groups (length symbols)) every in
    let found : decoded all ≡ Some e.bytes = ap decoded (sym e.same) ∙ encoded_decodes e.bytes e.are in
    let laid : (symbols ++ []) ++ (replicate k 65 ++ 34 ∷ []) ≡ all ++ 34 ∷ [] = ap (λ r. r ++ (replicate k 65 ++ 34 ∷ [])) (append-nil symbols) ∙ sym (append_more symbols (replicate k 65) (34 ∷ [])) in
    let few : k ≤ 4 = omega arith in
    (replicate k 65 ++ 34 ∷ [], e.bytes, length all + 0 + 2, ap (λ r. blob_at (34 ∷ r)) laid ∙ closed_good all [] e.bytes every tt refl found refl, omega (arith, few, length-append {A = ℕ} (replicate k 65) (34 ∷ []), length-replicate {A = ℕ} k 65))

open_grows : (symbols padding : List ℕ) (found : Option (List ℕ)) → decoded symbols ≡ found → Shape symbols padding [] → Open (length symbols) (length padding) found → Grows (34 ∷ (symbols ++ (padding ++ [])))
open_grows symbols padding None e shape none = subst (λ p. Grows (34 ∷ (symbols ++ (p ++ [])))) (sym (none_of padding none)) (filled symbols shape.are)
open_grows symbols padding (Some b) e shape way = decoded_grows symbols padding b shape.are shape.pads e (with_padding symbols padding b shape.are shape.pads e way)

short_by : (symbols padding rest : List ℕ) → Shape symbols padding rest → tell symbols (length padding) rest ≡ Short → Grows (34 ∷ (symbols ++ (padding ++ rest)))
short_by symbols padding [] shape e = open_grows symbols padding (decoded symbols) refl shape (open_short (length symbols) (length padding) (decoded symbols) e)
short_by symbols padding (x ∷ rest) shape e = absurd (closed_never_short (length symbols) (length padding) (decoded symbols) x e)

pub short_grows : (bytes : List ℕ) → blob_at bytes ≡ Short → Grows bytes
short_grows [] e = empty_good
short_grows (x ∷ all) e = by_b (x == 34) refl
  where
    by_b : (t : Bool) → (x == 34) ≡ t → Grows (x ∷ all)
    by_b true g = let q = quoted x all g in subst Grows (sym q.laid) (short_by q.symbols q.padding q.rest q.shape (sym (told (x ∷ all) q) ∙ e))
    by_b false g = let wrong : Short ≡ Bad 0 = sym e ∙ no_quote x all g in absurd (cc)

-- ---- what the scan tells

not_short : (bytes : List ℕ) → blob_at bytes ≡ Short → NoneGood GoodBlob bytes
not_short bytes e b n good = let wrong : Short ≡ Whole b n = sym e ∙ good_read bytes b n good in absurd (cc)

not_bad : (bytes : List ℕ) → blob_at bytes ≡ Bad 0 → NoneGood GoodBlob bytes
not_bad bytes e b n good = let wrong : Bad 0 ≡ Whole b n = sym e ∙ good_read bytes b n good in absurd (cc)

judged : (bytes : List ℕ) (scan : Scan (List ℕ)) → blob_at bytes ≡ scan → Judges GoodBlob bytes scan
judged bytes (Whole b n) e = whole_good bytes b n e
judged bytes Short e = let g = short_grows bytes e in (not_short bytes e, (g.0, g.1, g.2, whole_good (bytes ++ g.0) g.1 g.2 g.3))
judged bytes (Bad q) e = ((bad_stays bytes [] q e).0, λ more. not_bad (bytes ++ more) (bad_stays bytes more q e).1)

pub blob_judged : (bytes : List ℕ) → Judges GoodBlob bytes (blob_at bytes)
blob_judged bytes = judged bytes (blob_at bytes) refl
