-- What a scan of a word has read is one word of the grammar.
use Rattle.std.proofs.Common.{◌≡◌, ℕ, ℤ, zero, suc, ◌+◌, ◌<◌, ◌≤◌, ◌≤ℤ◌, Bool, true, false, cond, List, [], ◌∷◌, ◌++◌, length, take, drop, Ok, Err, refl, ap, ◌∙◌, sym, subst, arith, ◌⊎◌, inl, inr, length-append}
use Rattle.std.specs.Prelude.{slice_index, nat_lt, nat_le, ◌==◌, ◌&&◌}
use Rattle.std.specs.List.{prefix_len}
use Rattle.std.proofs.lemmas.Bool.Decides.{nat_tests}
use Rattle.std.proofs.lemmas.List.{take-append-drop}
use Rattle.protocol_traits.specs.declared.fault.Reason.{Reason}
use Rattle.protocol_traits.specs.declared.fault.Reason.TheVariants as reasons
use Rattle.json_text.specs.declared.scanned.Scan.{Scan as Text}
use Rattle.json_text.specs.declared.scanned.Scan.TheVariants.{Whole, Short, Bad}
use Rattle.json_text.specs.Scan.{moved}
use Rattle.json_text.specs.Int.{int_run, int_at}
use Rattle.json_text.specs.Number.{number_run, number_at}
use Rattle.json_text.specs.Text.{text_at}
use Rattle.json_text.specs.Blob.{blob_at}
use Rattle.json_text.specs.Grammar.{SpellsInt, IsNumber, SpellsText, SpellsBlob}
use Rattle.json_text_laws.specs.Judged.{Judges, GoodInt, GoodNumber}
use Rattle.json_text_laws.specs.Judged.{IsRange}
use Rattle.json_text_laws.proofs.IntLaw.{int_judged}
use Rattle.json_text_laws.proofs.NumberLaw.{number_judged}
use Rattle.json_text_laws.proofs.TextLaw.{text_judged}
use Rattle.json_text_laws.proofs.BlobLaw.{whole_good}
use Rattle.json_text_laws.proofs.Parts.{take_front, append_more}
use Rattle.json_protocol.specs.Scan.{Scan, item, byte_fits, word_end}
use Rattle.json_protocol.specs.Words.{begins_three, int_in, closed, quoted_int_in, whole_in, infinity_fits, spelled, number_in, quoted_number_in, double_in, text_in, blob_in}
use Rattle.json_protocol.specs.Writing.{quoted, number}
use Rattle.json_protocol.specs.Grammar.{IsDoubleToken}
use Rattle.json_laws.proofs.Inverse.{is_read, same_read, no_fault, either, past_fault, no_other, Token, Prefix}

-- ---- words of json_text

abbrev is_whole : {X : Type 0} → X → ℕ → Text X
is_whole x n = Whole x n

pub item_back : {X : Type 0} → (reason : Reason) (bytes : List ℕ) (scan : Text X) (x : X) (n : ℕ) → item reason bytes (moved 0 scan) ≡ is_read (x, n) → scan ≡ Whole x n
item_back {X} reason bytes (Whole y m) x n e = let same = same_read y x (0 + m) n e in let long : m ≡ n = omega (arith, same.1) in ap (λ z. is_whole z m) same.0 ∙ ap (is_whole x) long
item_back reason bytes Short x n e = absurd (no_fault _ (x, n) e)
item_back reason bytes (Bad place) x n e = absurd (no_fault _ (x, n) e)

-- an integer of this range
pub record IsInt (low high z : ℤ) (digits : List ℕ) : Type 0 where
  pub spells : SpellsInt z digits
  pub least : low ≤ℤ z
  pub most : z ≤ℤ high

good_int : (low high z : ℤ) (bytes : List ℕ) (n : ℕ) → GoodInt low high bytes z n → Token bytes n (IsInt low high z)
good_int low high z bytes n good = record {
  token = int_run bytes;
  rest = drop (prefix_len _ bytes) bytes;
  laid = sym (take-append-drop (prefix_len _ bytes) bytes);
  long = good.0;
  is = record { spells = good.1; least = good.2; most = good.3 };
}

pub int_whole : (low high z : ℤ) (bytes : List ℕ) (n : ℕ) → IsRange low high → int_at low high bytes ≡ Whole z n → Token bytes n (IsInt low high z)
int_whole low high z bytes n range e = good_int low high z bytes n (subst (Judges (GoodInt low high) bytes) e (int_judged low high range bytes))

pub int_back : (reason : Reason) (low high z : ℤ) (bytes : List ℕ) (n : ℕ) → IsRange low high → int_in reason low high bytes ≡ is_read (z, n) → Token bytes n (IsInt low high z)
unfolding int_in
int_back reason low high z bytes n range e = int_whole low high z bytes n range (item_back reason bytes (int_at low high bytes) z n e)

-- ---- words between two quotes

pub record Closes {X : Type 0} (all : List ℕ) (scan : Text X) (x : X) (taken : ℕ) : Type 0 where
  pub size : ℕ
  pub scanned : scan ≡ Whole x size
  pub long : taken ≡ size + 2
  pub within : size < length all
  pub quote : slice_index all size ≡ 34

closed_back : {X : Type 0} → (reason : Reason) (all : List ℕ) (scan : Text X) (x : X) (taken : ℕ) → closed reason (34 ∷ all) (moved 1 scan) ≡ is_read (x, taken) → Closes all scan x taken
closed_back {X} reason all (Whole y m) x taken e =
    let p = past_fault (nat_le (length (34 ∷ all)) (1 + m)) _ _ (x, taken) e in
    let q = no_other (slice_index (34 ∷ all) (1 + m) == 34) _ (is_read (y, 1 + m + 1)) (x, taken) p.1 in
    let same = same_read y x (1 + m + 1) taken q.1 in
    let step : 1 + m ≡ suc m = omega arith in
    let there : slice_index (34 ∷ all) (1 + m) ≡ 34 = (let t = q.0 in grind (arith, nat_tests)) in
    let over = p.0 in
    record {
      size = m;
      scanned = ap (λ z. is_whole z m) same.0;
      long = sym same.1 ∙ omega arith;
      within = grind (arith, nat_tests);
      quote = ap (slice_index (34 ∷ all)) (sym step) ∙ there;
    }
closed_back reason all Short x taken e = absurd (no_fault _ (x, taken) e)
closed_back reason all (Bad place) x taken e = absurd (no_fault _ (x, taken) e)

pub first_there : (word rest : List ℕ) (n : ℕ) → n ≡ length word → n < length (word ++ rest) → slice_index (word ++ rest) n ≡ 34 → (left : List ℕ) × (rest ≡ 34 ∷ left)
first_there [] [] n e w q = absurd (omega arith)
first_there [] (x ∷ rest) n e w q = (rest, ap (λ k. k ∷ rest) (ap (λ i. slice_index (x ∷ rest) i) (sym e) ∙ q))
first_there (y ∷ word) rest zero e w q = absurd (omega arith)
first_there (y ∷ word) rest (suc n) e w q = first_there word rest n (omega arith) (omega arith) q

abbrev pub IsQuoted : (List ℕ → Type 0) → List ℕ → Type 0
IsQuoted Is token = (word : List ℕ) × Is word × (token ≡ quoted word)

in_quotes : {X : Type 0} → (all : List ℕ) (scan : Text X) (x : X) (taken : ℕ) (Is : List ℕ → Type 0) (c : Closes all scan x taken) → Token all c.size Is → Token (34 ∷ all) taken (IsQuoted Is)
in_quotes all scan x taken Is c t =
    let within : c.size < length (t.token ++ t.rest) = omega (arith, c.within, ap length t.laid) in
    let l = first_there t.token t.rest c.size t.long within (ap (λ b. slice_index b c.size) (sym t.laid) ∙ c.quote) in
    record {
      token = quoted t.token;
      rest = l.0;
      laid = ap (λ b. 34 ∷ b) (t.laid ∙ ap (λ r. t.token ++ r) l.1 ∙ sym (append_more t.token (34 ∷ []) l.0));
      long = omega (arith, c.long, t.long, length-append t.token (34 ∷ []));
      is = (t.token, t.is, refl);
    }

quote_first : (x : ℕ) → (x == 34) ≡ true → x ≡ 34
quote_first x e = grind (arith, nat_tests)

pub quoted_back : (reason : Reason) (low high z : ℤ) (bytes : List ℕ) (n : ℕ) → IsRange low high → quoted_int_in reason low high bytes ≡ is_read (z, n) → Token bytes n (IsQuoted (IsInt low high z))
unfolding quoted_int_in
quoted_back reason low high z [] n range e = absurd (no_fault (record { place = 0; reason = reasons.Truncated }) (z, n) e)
quoted_back reason low high z (x ∷ all) n range e =
    let p = past_fault (nat_lt (length (x ∷ all)) 1) _ _ (z, n) e in
    let q = no_other (x == 34) _ _ (z, n) p.1 in
    let is = quote_first x q.0 in
    let c = closed_back reason all (int_at low high all) z n (subst (λ y. closed reason (y ∷ all) (moved 1 (int_at low high all)) ≡ is_read (z, n)) is q.1) in
    subst (λ y. Token (y ∷ all) n (IsQuoted (IsInt low high z))) (sym is) (in_quotes all (int_at low high all) z n (IsInt low high z) c (int_whole low high z all c.size range c.scanned))

abbrev pub IsWhole : Bool → ℤ → ℤ → ℤ → List ℕ → Type 0
IsWhole key low high z token = (digits : List ℕ) × IsInt low high z digits × (token ≡ number key digits)

pub whole_back : (key : Bool) (reason : Reason) (low high z : ℤ) (bytes : List ℕ) (n : ℕ) → IsRange low high → whole_in key reason low high bytes ≡ is_read (z, n) → Token bytes n (IsWhole key low high z)
whole_back true reason low high z bytes n range e = let t = quoted_back reason low high z bytes n range e in record { token = t.token; rest = t.rest; laid = t.laid; long = t.long; is = t.is }
whole_back false reason low high z bytes n range e = let t = int_back reason low high z bytes n range e in record { token = t.token; rest = t.rest; laid = t.laid; long = t.long; is = (t.token, t.is, refl) }

-- ---- strings

pub text_back : (bytes meant : List ℕ) (n : ℕ) → text_in bytes ≡ is_read (meant, n) → Token bytes n (SpellsText meant)
unfolding text_in
text_back bytes meant n e =
    let g = ((text_judged bytes).0 meant n).0 (item_back reasons.BadString bytes (text_at bytes) meant n e) in
    record { token = g.0; rest = g.1; laid = g.2; long = g.3; is = g.4 }

pub blob_back : (bytes meant : List ℕ) (n : ℕ) → blob_in bytes ≡ is_read (meant, n) → Token bytes n (SpellsBlob meant)
unfolding blob_in
blob_back bytes meant n e =
    let g = whole_good bytes meant n (item_back reasons.BadBase64 bytes (blob_at bytes) meant n e) in
    record { token = g.0; rest = g.1; laid = g.2; long = g.3; is = g.4 }

-- ---- numbers

-- a number, whose value is its length
abbrev pub IsLong : ℕ → List ℕ → Type 0
IsLong n digits = IsNumber digits × (n ≡ length digits)

good_number : (bytes : List ℕ) (x n : ℕ) → GoodNumber bytes x n → Token bytes n (IsLong x)
good_number bytes x n good = record {
  token = number_run bytes;
  rest = drop (prefix_len _ bytes) bytes;
  laid = sym (take-append-drop (prefix_len _ bytes) bytes);
  long = good.1 ∙ good.0;
  is = (good.2, good.0);
}

pub number_whole : (bytes : List ℕ) (x n : ℕ) → number_at bytes ≡ Whole x n → Token bytes n (IsLong x)
number_whole bytes x n e = good_number bytes x n (subst (Judges GoodNumber bytes) e (number_judged bytes))

number_back : (bytes : List ℕ) (x n : ℕ) → number_in bytes ≡ is_read (x, n) → Token bytes n (IsLong x)
unfolding number_in
number_back bytes x n e = number_whole bytes x n (item_back reasons.BadNumber bytes (number_at bytes) x n e)

quoted_number_back : (bytes : List ℕ) (x n : ℕ) → quoted_number_in bytes ≡ is_read (x, n) → Token bytes n (IsQuoted (IsLong x))
unfolding quoted_number_in
quoted_number_back [] x n e = absurd (no_fault (record { place = 0; reason = reasons.Truncated }) (x, n) e)
quoted_number_back (y ∷ all) x n e =
    let p = past_fault (nat_lt (length (y ∷ all)) 1) _ _ (x, n) e in
    let q = no_other (y == 34) _ _ (x, n) p.1 in
    let is = quote_first y q.0 in
    let c = closed_back reasons.BadNumber all (number_at all) x n (subst (λ k. closed reasons.BadNumber (k ∷ all) (moved 1 (number_at all)) ≡ is_read (x, n)) is q.1) in
    subst (λ k. Token (k ∷ all) n (IsQuoted (IsLong x))) (sym is) (in_quotes all (number_at all) x n (IsLong x) c (number_whole all x c.size c.scanned))

abbrev pub IsDouble : Bool → List ℕ → List ℕ → Type 0
IsDouble key digits token = IsDoubleToken key digits (token ∷ [])

pub spelled_back : (from : ℕ) (bytes : List ℕ) (scan : Scan ℕ) (digits : List ℕ) (n : ℕ) → spelled from bytes scan ≡ is_read (digits, n) → (x : ℕ) × (scan ≡ is_read (x, n)) × (take x (drop from bytes) ≡ digits)
spelled_back from bytes (Ok x) digits n e = let same = same_read (take x.0 (drop from bytes)) digits x.1 n e in (x.0, ap (λ k. is_read (x.0, k)) same.1, same.0)
spelled_back from bytes (Err f) digits n e = absurd (no_fault f (digits, n) e)

plain_number : (bytes digits : List ℕ) (n : ℕ) → spelled 0 bytes (number_in bytes) ≡ is_read (digits, n) → Token bytes n (IsDouble false digits)
plain_number bytes digits n e =
    let s = spelled_back 0 bytes (number_in bytes) digits n e in
    let t = number_back bytes s.0 n s.1 in
    let same : t.token ≡ digits = sym (take_front t.token t.rest) ∙ ap (λ k. take k (t.token ++ t.rest)) (sym t.is.1) ∙ ap (take s.0) (sym t.laid) ∙ s.2 in
    record { token = t.token; rest = t.rest; laid = t.laid; long = t.long; is = inl (subst IsNumber same t.is.0, ap (λ k. k ∷ []) same) }

quoted_number : (bytes digits : List ℕ) (n : ℕ) → spelled 1 bytes (quoted_number_in bytes) ≡ is_read (digits, n) → Token bytes n (IsDouble true digits)
quoted_number bytes digits n e =
    let s = spelled_back 1 bytes (quoted_number_in bytes) digits n e in
    let t = quoted_number_back bytes s.0 n s.1 in
    let word = t.is.0 in
    let behind : drop 1 bytes ≡ word ++ (34 ∷ t.rest) = ap (drop 1) t.laid ∙ ap (λ k. drop 1 (k ++ t.rest)) t.is.2 ∙ append_more word (34 ∷ []) t.rest in
    let same : word ≡ digits = sym (take_front word (34 ∷ t.rest)) ∙ ap (λ k. take k (word ++ (34 ∷ t.rest))) (sym t.is.1.1) ∙ ap (take s.0) (sym behind) ∙ s.2 in
    record { token = t.token; rest = t.rest; laid = t.laid; long = t.long; is = inl (subst IsNumber same t.is.1.0, ap (λ k. k ∷ []) (t.is.2 ∙ ap (λ w. quoted w) same)) }

-- ---- the three words

-- one letter after another
pub letter : (x y : ℕ) (bytes letters : List ℕ) → x ≡ y → Prefix bytes letters → Prefix (x ∷ bytes) (y ∷ letters)
letter x y bytes letters e p = record { rest = p.rest; laid = ap (λ k. k ∷ bytes) e ∙ ap (λ b. y ∷ b) p.laid }

pub no_letters : (bytes : List ℕ) → Prefix bytes []
no_letters bytes = record { rest = bytes; laid = refl }

abbrev pub nan : List ℕ
nan = 78 ∷ 97 ∷ 78 ∷ []

abbrev pub infinity : List ℕ
infinity = 73 ∷ 110 ∷ 102 ∷ 105 ∷ 110 ∷ 105 ∷ 116 ∷ 121 ∷ []

-- one byte fits where it is there
fits_next : (x m : ℕ) (bytes : List ℕ) (at : ℕ) → byte_fits (x ∷ bytes) (suc at) m ≡ byte_fits bytes at m
fits_next x m bytes at = grind (arith, nat_tests)

pub fits_first : (x m : ℕ) (bytes : List ℕ) → byte_fits (x ∷ bytes) 0 m ≡ true → x ≡ m
fits_first x m bytes e = grind (arith, nat_tests)

-- each of these letters fits from this place on
abbrev pub Fits : List ℕ → ℕ → List ℕ → Type 0
Fits bytes at [] = Unit {0}
Fits bytes at (m ∷ letters) = (byte_fits bytes at m ≡ true) × Fits bytes (suc at) letters

pub fits_on : (x : ℕ) (bytes : List ℕ) (at : ℕ) (letters : List ℕ) → Fits (x ∷ bytes) (suc at) letters → Fits bytes at letters
fits_on x bytes at [] h = tt
fits_on x bytes at (m ∷ letters) h = (sym (fits_next x m bytes at) ∙ h.0, fits_on x bytes (suc at) letters h.1)

fitting : (bytes letters : List ℕ) → length letters ≤ length bytes → Fits bytes 0 letters → Prefix bytes letters
fitting bytes [] long h = no_letters bytes
fitting [] (m ∷ letters) long h = absurd (omega arith)
fitting (x ∷ bytes) (m ∷ letters) long h = letter x m bytes letters (fits_first x m bytes h.0) (fitting bytes letters (omega arith) (fits_on x bytes 0 letters h.1))

pub both_hold : (a b : Bool) → (a && b) ≡ true → (a ≡ true) × (b ≡ true)
both_hold true true e = (refl, refl)
both_hold true false e = absurd (cc)
both_hold false b e = absurd (cc)

-- nine tests in a row
abbrev Nine : (a b c d e f g h i : Bool) → Type 0
Nine a b c d e f g h i = (a ≡ true) × (b ≡ true) × (c ≡ true) × (d ≡ true) × (e ≡ true) × (f ≡ true) × (g ≡ true) × (h ≡ true) × (i ≡ true)

nine_hold : (a b c d e f g h i : Bool) → (a && b && c && d && e && f && g && h && i) ≡ true → Nine a b c d e f g h i
nine_hold true true true true true true true true true p = (refl, refl, refl, refl, refl, refl, refl, refl, refl)
nine_hold false b c d e f g h i p = absurd (cc)
nine_hold a false c d e f g h i p = absurd (cc)
nine_hold a b false d e f g h i p = absurd (cc)
nine_hold a b c false e f g h i p = absurd (cc)
nine_hold a b c d false f g h i p = absurd (cc)
nine_hold a b c d e false g h i p = absurd (cc)
nine_hold a b c d e f false h i p = absurd (cc)
nine_hold a b c d e f g false i p = absurd (cc)
nine_hold a b c d e f g h false p = absurd (cc)

pub infinity_there : (bytes : List ℕ) (at : ℕ) → infinity_fits bytes at ≡ true → Fits bytes at (infinity ++ 34 ∷ [])
unfolding infinity_fits
infinity_there bytes at e =
    let n = nine_hold (byte_fits bytes at 73) (byte_fits bytes (at + 1) 110) (byte_fits bytes (at + 2) 102) (byte_fits bytes (at + 3) 105) (byte_fits bytes (at + 4) 110) (byte_fits bytes (at + 5) 105) (byte_fits bytes (at + 6) 116) (byte_fits bytes (at + 7) 121) (byte_fits bytes (at + 8) 34) e in
    (n.0, (there 110 1 (omega arith) n.1, (there 102 2 (omega arith) n.2, (there 105 3 (omega arith) n.3, (there 110 4 (omega arith) n.4, (there 105 5 (omega arith) n.5, (there 116 6 (omega arith) n.6, (there 121 7 (omega arith) n.7, (there 34 8 (omega arith) n.8, tt)))))))))
  where
    there : (m k : ℕ) {later : ℕ} → at + k ≡ later → byte_fits bytes (at + k) m ≡ true → byte_fits bytes later m ≡ true
    there m k same h = subst (λ i. byte_fits bytes i m ≡ true) same h

ended_by : (bytes : List ℕ) (size x y taken : ℕ) → word_end bytes size x ≡ is_read (y, taken) → (size ≤ length bytes) × (x ≡ y) × (size ≡ taken)
ended_by bytes size x y taken e =
    let p = past_fault (nat_lt (length bytes) size) _ (is_read (x, size)) (y, taken) e in
    let same = same_read x y size taken p.1 in
    (let t = p.0 in grind (arith, nat_tests), same.0, same.1)

-- a word in its quotes
word_token : (key : Bool) (bytes word digits : List ℕ) (size n : ℕ) → size ≡ length (quoted word) → ((d : List ℕ) → d ≡ word → IsDouble key d (quoted word)) → Fits bytes 0 (quoted word)
    → spelled 1 bytes (word_end bytes size (length word)) ≡ is_read (digits, n) → Token bytes n (IsDouble key digits)
word_token key bytes word digits size n is double fits e =
    let s = spelled_back 1 bytes (word_end bytes size (length word)) digits n e in
    let w = ended_by bytes size (length word) s.0 n s.1 in
    let p = fitting bytes (quoted word) (omega (arith, is, w.0)) fits in
    let behind : drop 1 bytes ≡ word ++ (34 ∷ p.rest) = ap (drop 1) p.laid ∙ append_more word (34 ∷ []) p.rest in
    let same : word ≡ digits = sym (take_front word (34 ∷ p.rest)) ∙ ap (take (length word)) (sym behind) ∙ ap (λ k. take k (drop 1 bytes)) w.1 ∙ s.2 in
    record { token = quoted word; rest = p.rest; laid = p.laid; long = sym w.2 ∙ is; is = double digits (sym same) }

pub nan_double : (key : Bool) (d : List ℕ) → d ≡ nan → IsDouble key d (quoted nan)
nan_double key d e = inr (inl e, ap (λ w. quoted w ∷ []) (sym e))

pub above_double : (key : Bool) (d : List ℕ) → d ≡ infinity → IsDouble key d (quoted infinity)
above_double key d e = inr (inr (inl e), ap (λ w. quoted w ∷ []) (sym e))

pub below_double : (key : Bool) (d : List ℕ) → d ≡ 45 ∷ infinity → IsDouble key d (quoted (45 ∷ infinity))
below_double key d e = inr (inr (inr e), ap (λ w. quoted w ∷ []) (sym e))

pub five_hold : (a b c d e : Bool) → (a && b && c && d && e) ≡ true → (a ≡ true) × (b ≡ true) × (c ≡ true) × (d ≡ true) × (e ≡ true)
five_hold true true true true true p = (refl, refl, refl, refl, refl)
five_hold false b c d e p = absurd (cc)
five_hold a false c d e p = absurd (cc)
five_hold a b false d e p = absurd (cc)
five_hold a b c false e p = absurd (cc)
five_hold a b c d false p = absurd (cc)

pub three_hold : (a b c : Bool) → (a && b && c) ≡ true → (a ≡ true) × (b ≡ true) × (c ≡ true)
three_hold true true true p = (refl, refl, refl)
three_hold false b c p = absurd (cc)
three_hold a false c p = absurd (cc)
three_hold a b false p = absurd (cc)

pub double_back : (key : Bool) (bytes digits : List ℕ) (n : ℕ) → double_in key bytes ≡ is_read (digits, n) → Token bytes n (IsDouble key digits)
unfolding double_in
double_back key bytes digits n e = by_nan (either (begins_three bytes 78 97 78) _ _ (digits, n) e)
  where
    numbers : Scan (List ℕ)
    numbers = cond key (spelled 1 bytes (quoted_number_in bytes)) (spelled 0 bytes (number_in bytes))

    below : Scan (List ℕ)
    below = cond (byte_fits bytes 0 34 && byte_fits bytes 1 45 && infinity_fits bytes 2) (spelled 1 bytes (word_end bytes 11 9)) numbers

    above : Scan (List ℕ)
    above = cond (byte_fits bytes 0 34 && infinity_fits bytes 1) (spelled 1 bytes (word_end bytes 10 8)) below

    by_key : (k : Bool) → cond k (spelled 1 bytes (quoted_number_in bytes)) (spelled 0 bytes (number_in bytes)) ≡ is_read (digits, n) → Token bytes n (IsDouble k digits)
    by_key true h = quoted_number bytes digits n h
    by_key false h = plain_number bytes digits n h

    by_below : (((byte_fits bytes 0 34 && byte_fits bytes 1 45 && infinity_fits bytes 2) ≡ true) × (spelled 1 bytes (word_end bytes 11 9) ≡ is_read (digits, n)))
        ⊎ (((byte_fits bytes 0 34 && byte_fits bytes 1 45 && infinity_fits bytes 2) ≡ false) × (numbers ≡ is_read (digits, n))) → Token bytes n (IsDouble key digits)
    by_below (inl h) =
        let t = three_hold (byte_fits bytes 0 34) (byte_fits bytes 1 45) (infinity_fits bytes 2) h.0 in
        word_token key bytes (45 ∷ infinity) digits 11 n refl (below_double key) (t.0, (t.1, infinity_there bytes 2 t.2)) h.1
    by_below (inr h) = by_key key h.1

    by_above : (((byte_fits bytes 0 34 && infinity_fits bytes 1) ≡ true) × (spelled 1 bytes (word_end bytes 10 8) ≡ is_read (digits, n)))
        ⊎ (((byte_fits bytes 0 34 && infinity_fits bytes 1) ≡ false) × (below ≡ is_read (digits, n))) → Token bytes n (IsDouble key digits)
    by_above (inl h) =
        let t = both_hold (byte_fits bytes 0 34) (infinity_fits bytes 1) h.0 in
        word_token key bytes infinity digits 10 n refl (above_double key) (t.0, infinity_there bytes 1 t.1) h.1
    by_above (inr h) = by_below (either (byte_fits bytes 0 34 && byte_fits bytes 1 45 && infinity_fits bytes 2) _ _ (digits, n) h.1)

    by_nan : ((begins_three bytes 78 97 78 ≡ true) × (spelled 1 bytes (word_end bytes 5 3) ≡ is_read (digits, n))) ⊎ ((begins_three bytes 78 97 78 ≡ false) × (above ≡ is_read (digits, n))) → Token bytes n (IsDouble key digits)
    by_nan (inl h) =
        let f = five_hold (byte_fits bytes 0 34) (byte_fits bytes 1 78) (byte_fits bytes 2 97) (byte_fits bytes 3 78) (byte_fits bytes 4 34) h.0 in
        word_token key bytes nan digits 5 n refl (nan_double key) (f.0, (f.1, (f.2, (f.3, (f.4, tt))))) h.1
    by_nan (inr h) = by_above (either (byte_fits bytes 0 34 && infinity_fits bytes 1) _ _ (digits, n) h.1)
