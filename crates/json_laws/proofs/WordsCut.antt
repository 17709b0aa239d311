-- A word that a fault strikes: the bytes end inside it, and it can be completed, or none begins there.
use Rattle.std.proofs.Common.{◌≡◌, ℕ, ℤ, pos, negsuc, ◌+◌, ◌<◌, ◌≤◌, Bool, true, false, cond, List, [], ◌∷◌, ◌++◌, length, drop, Ok, Err, refl, ap, ◌∙◌, sym, subst, arith, ◌⊎◌, inl, inr, length-append}
use Rattle.std.specs.Prelude.{int_lt, nat_lt, nat_le, slice_index, ◌==◌, ◌&&◌}
use Rattle.std.proofs.lemmas.List.{append-nil}
use Rattle.std.proofs.lemmas.Bool.Decides.{nat_tests}
use Rattle.thrift_value.specs.declared.kind.Kind.{Kind}
use Rattle.thrift_value.specs.declared.kind.Kind.TheVariants as kinds
use Rattle.protocol_traits.specs.declared.fault.Fault.{Fault}
use Rattle.protocol_traits.specs.declared.fault.Reason.{Reason}
use Rattle.protocol_traits.specs.declared.fault.Reason.TheVariants as reasons
use Rattle.json_text.specs.declared.scanned.Scan.{Scan as Text}
use Rattle.json_text.specs.declared.scanned.Scan.TheVariants.{Whole, Short, Bad}
use Rattle.json_text.specs.Scan.{moved}
use Rattle.json_text.specs.Int.{int_at}
use Rattle.json_text.specs.Number.{number_at}
use Rattle.json_text.specs.Text.{text_at}
use Rattle.json_text.specs.Blob.{blob_at}
use Rattle.json_text.specs.Grammar.{IsNumber, SpellsText, SpellsBlob}
use Rattle.json_text_laws.specs.Judged.{Judges, GoodInt, GoodNumber, GoodBlob, IsRange}
use Rattle.json_text_laws.proofs.IntLaw.{int_judged}
use Rattle.json_text_laws.proofs.NumberLaw.{number_judged}
use Rattle.json_text_laws.proofs.TextLaw.{text_judged}
use Rattle.json_text_laws.proofs.BlobLaw.{blob_judged}
use Rattle.json_text_laws.proofs.Choices.{either_way}
use Rattle.json_text.specs.Number.{is_number_byte}
use Rattle.json_text_laws.proofs.Parts.{Apart, append_more}
use Rattle.json_text_laws.proofs.Completed.{int_nothing, int_short, number_nothing, number_goes, text_inside, text_goes, blob_nothing, no_blob, blob_goes}
use Rattle.json_protocol.specs.Scan.{Scan, fault, item, byte_fits, word_end}
use Rattle.json_protocol.specs.Words.{begins_two, begins_three, kind_at, wide_kind_at, large_kind_at, int_in, closed, quoted_int_in, whole_in, infinity_fits, spelled, number_in, quoted_number_in, double_in, text_in, blob_in}
use Rattle.json_protocol.specs.Writing.{quoted, number}
use Rattle.json_protocol.specs.Grammar.{IsNamed, name_token}
use Rattle.json_laws.proofs.Inverse.{is_read, is_fault, Token, Names}
use Rattle.json_laws.proofs.WordsBack.{IsInt, int_whole, IsQuoted, IsLong, number_whole, IsDouble, nan, infinity, Fits, fits_first, fits_on, both_hold, three_hold, five_hold, infinity_there, nan_double, above_double, below_double}
use Rattle.json_laws.proofs.Words.{kind_read, IsIn, int_read, int_apart, quoted_read}
use Rattle.json_laws.specs.Faults.{IsSort, IsInside, IsUnlike, NoneStands, EndsNumber}
use Rattle.json_laws.proofs.Completing.{Goes, Struck, no_read, same_fault, bad_here, cut_here, either_fault, StrikesOne}

-- ---- words of json_text

-- a scan is short, or bad at a place
pub item_fault : {X : Type 0} → (reason : Reason) (bytes : List ℕ) (scan : Text X) (f : Fault) → item reason bytes (moved 0 scan) ≡ is_fault f
    → ((scan ≡ Short) × (fault {X = X} (length bytes) reasons.Truncated ≡ is_fault f)) ⊎ ((place : ℕ) × (scan ≡ Bad place) × (fault {X = X} (0 + place) reason ≡ is_fault f))
item_fault reason bytes (Whole x n) f e = absurd (no_read _ f e)
item_fault reason bytes Short f e = inl (refl, e)
item_fault reason bytes (Bad place) f e = inr (place, refl, e)

-- a token of the words that the bytes begin, or one that was called for
abbrev pub Strike : Fault → List ℕ → (List ℕ → Type 0) → Type 0
Strike f bytes Is = (token : List ℕ) × Is token × Struck f bytes bytes token

goes_strike : {X : Type 0} → (place : ℕ) (f : Fault) (bytes : List ℕ) (Is : List ℕ → Type 0) → Goes Is bytes → fault {X = X} place reasons.Truncated ≡ is_fault f → Strike f bytes Is
goes_strike {X} place f bytes Is (more, is) e = (bytes ++ more, is, cut_here {X = X} place f bytes more (bytes ++ more) refl e)

-- what is told right there
abbrev pub Plain : Reason → Type 0
Plain reason = (left : List ℕ) → IsInside reason left 0

-- where the scan is at fault none stands that it reads
abbrev pub Fresh : {X : Type 0} → Reason → (List ℕ → Scan X) → (List ℕ → Type 0) → Type 0
Fresh reason scan Is = (bytes : List ℕ) (f : Fault) → scan bytes ≡ is_fault f → (token : List ℕ) → Is token → IsUnlike reason bytes token

-- what a reason's tokens are, that stand right there
pub record Sorts (reason : Reason) (Is : List ℕ → Type 0) : Type 0 where
  pub plain : Plain reason
  pub sort : (token : List ℕ) → Is token → IsSort reason token

bad_strike : {X : Type 0} → (reason : Reason) (f : Fault) (bytes : List ℕ) (Is : List ℕ → Type 0) → Sorts reason Is → ((token : List ℕ) → Is token → IsUnlike reason bytes token) → Goes Is [] → 1 ≤ length bytes → fault {X = X} 0 reason ≡ is_fault f → Strike f bytes Is
bad_strike {X} reason f bytes Is sorts fresh (token, is) some e = (token, is, bad_here {X = X} reason f bytes token (sorts.plain bytes, fresh token is) (sorts.sort token is) some e)

-- an integer of this range
abbrev pub SomeInt : ℤ → ℤ → List ℕ → Type 0
SomeInt low high digits = (z : ℤ) × IsInt low high z digits

pub least_int : (low high : ℤ) → IsRange low high → Goes (SomeInt low high) []
least_int low high range = by_low (either_way (int_lt (pos 0) low))
  where
    by_low : (int_lt (pos 0) low ≡ true) ⊎ (int_lt (pos 0) low ≡ false) → Goes (SomeInt low high) []
    by_low (inl e) =
        let o = range.one in let s = range.some in
        (49 ∷ [], (pos 1, record { spells = inr (inl ((omega arith, omega arith, tt), refl)); least = o; most = grind (arith, nat_tests) }))
    by_low (inr e) = (48 ∷ [], (pos 0, record { spells = inl (refl, refl); least = grind (arith, nat_tests); most = range.none }))

below_int : (low high : ℤ) → IsRange low high → int_lt low (pos 0) ≡ true → Goes (SomeInt low high) (45 ∷ [])
below_int low high range e =
    let n = range.none in
    (49 ∷ [], (negsuc 0, record { spells = inr (inr (49 ∷ [], refl, (omega arith, omega arith, tt), refl)); least = grind (arith, nat_tests); most = grind (arith, nat_tests) }))

int_goes : (low high : ℤ) (bytes : List ℕ) → IsRange low high → int_at low high bytes ≡ Short → Goes (SomeInt low high) bytes
int_goes low high bytes range e = by_short (int_short low high bytes e)
  where
    by_short : (bytes ≡ []) ⊎ ((bytes ≡ 45 ∷ []) × (int_lt low (pos 0) ≡ true)) → Goes (SomeInt low high) bytes
    by_short (inl none) = subst (Goes (SomeInt low high)) (sym none) (least_int low high range)
    by_short (inr h) = subst (Goes (SomeInt low high)) (sym h.0) (below_int low high range h.1)

-- something stands where a scan is bad, and it is bad there
int_bad : (low high : ℤ) (bytes : List ℕ) (place : ℕ) → IsRange low high → int_at low high bytes ≡ Bad place → (place ≡ 0) × (1 ≤ length bytes)
int_bad low high bytes place range e = ((subst (Judges (GoodInt low high) bytes) e (int_judged low high range bytes)).0, of_bytes bytes e)
  where
    of_bytes : (b : List ℕ) → int_at low high b ≡ Bad place → 1 ≤ length b
    of_bytes [] h = let wrong : Short ≡ Bad place = sym (int_nothing low high) ∙ h in absurd (cc)
    of_bytes (x ∷ b) h = omega arith

pub int_cut : (reason : Reason) (low high : ℤ) → IsRange low high → Sorts reason (SomeInt low high) → Fresh reason (int_in reason low high) (SomeInt low high) → StrikesOne (int_in reason low high) (SomeInt low high)
unfolding int_in
int_cut reason low high range sorts fresh bytes f e = by_item (item_fault reason bytes (int_at low high bytes) f e)
  where
    by_item : ((int_at low high bytes ≡ Short) × (fault {X = ℤ} (length bytes) reasons.Truncated ≡ is_fault f)) ⊎ ((place : ℕ) × (int_at low high bytes ≡ Bad place) × (fault {X = ℤ} (0 + place) reason ≡ is_fault f)) → Strike f bytes (SomeInt low high)
    by_item (inl h) = goes_strike {X = ℤ} (length bytes) f bytes (SomeInt low high) (int_goes low high bytes range h.0) h.1
    by_item (inr (place, h, same)) =
        let b = int_bad low high bytes place range h in
        bad_strike {X = ℤ} reason f bytes (SomeInt low high) sorts (fresh bytes f e) (least_int low high range) b.1 (subst (λ n. fault {X = ℤ} (0 + n) reason ≡ is_fault f) b.0 same)

-- where a scan for an integer of this range is at fault, none stands and ends
apart_of : (rest : List ℕ) → EndsNumber rest → Apart is_number_byte rest
apart_of [] ends = tt
apart_of (x ∷ rest) ends = ends

pub int_absent : (reason : Reason) (low high z : ℤ) (bytes : List ℕ) (f : Fault) (digits rest : List ℕ) → int_in reason low high bytes ≡ is_fault f → IsIn low high z digits → EndsNumber rest → bytes ≡ digits ++ rest → ⊥
int_absent reason low high z bytes f digits rest e i ends stands =
    no_read (z, length digits) f (sym (ap (int_in reason low high) stands ∙ int_read reason low high z digits rest i (int_apart rest (apart_of rest ends))) ∙ e)

pub quoted_absent : (reason : Reason) (low high z : ℤ) (bytes : List ℕ) (f : Fault) (digits rest : List ℕ) → quoted_int_in reason low high bytes ≡ is_fault f → IsIn low high z digits → bytes ≡ quoted digits ++ rest → ⊥
quoted_absent reason low high z bytes f digits rest e i stands =
    no_read (z, length (quoted digits)) f (sym (ap (quoted_int_in reason low high) stands ∙ quoted_read reason low high z digits rest i) ∙ e)

pub whole_absent : (key : Bool) (reason : Reason) (low high z : ℤ) (bytes : List ℕ) (f : Fault) (digits rest : List ℕ) → whole_in key reason low high bytes ≡ is_fault f → IsIn low high z digits → EndsNumber rest → bytes ≡ number key digits ++ rest → ⊥
whole_absent true reason low high z bytes f digits rest e i ends stands = quoted_absent reason low high z bytes f digits rest e i stands
whole_absent false reason low high z bytes f digits rest e i ends stands = int_absent reason low high z bytes f digits rest e i ends stands

-- a range without a minus: one token may be chosen
pub int_one : (reason : Reason) (low high : ℤ) (token : List ℕ) → IsRange low high → int_lt low (pos 0) ≡ false → Plain reason → IsSort reason token → Fresh reason (int_in reason low high) (λ t. t ≡ token) → StrikesOne (int_in reason low high) (λ t. t ≡ token)
unfolding int_in
int_one reason low high token range more plain sort fresh bytes f e = by_item (item_fault reason bytes (int_at low high bytes) f e)
  where
    by_short : (bytes ≡ []) ⊎ ((bytes ≡ 45 ∷ []) × (int_lt low (pos 0) ≡ true)) → fault {X = ℤ} (length bytes) reasons.Truncated ≡ is_fault f → Strike f bytes (λ t. t ≡ token)
    by_short (inl none) same = (token, refl, cut_here {X = ℤ} (length bytes) f bytes token token (ap (λ b. b ++ token) none) same)
    by_short (inr h) same = let wrong : true ≡ false = sym h.1 ∙ more in absurd (cc)

    by_item : ((int_at low high bytes ≡ Short) × (fault {X = ℤ} (length bytes) reasons.Truncated ≡ is_fault f)) ⊎ ((place : ℕ) × (int_at low high bytes ≡ Bad place) × (fault {X = ℤ} (0 + place) reason ≡ is_fault f)) → Strike f bytes (λ t. t ≡ token)
    by_item (inl h) = by_short (int_short low high bytes h.0) h.1
    by_item (inr (place, h, same)) =
        let b = int_bad low high bytes place range h in
        (token, refl, bad_here {X = ℤ} reason f bytes token (plain bytes, fresh bytes f e token refl) sort b.1 (subst (λ n. fault {X = ℤ} (0 + n) reason ≡ is_fault f) b.0 same))

-- ---- words between two quotes

quoted_goes : (Is : List ℕ → Type 0) (bytes more : List ℕ) → Is (bytes ++ more) → Goes (IsQuoted Is) (34 ∷ bytes)
quoted_goes Is bytes more is = (more ++ 34 ∷ [], (bytes ++ more, is, ap (λ l. 34 ∷ l) (sym (append_more bytes more (34 ∷ [])))))

-- behind a word that ends with the bytes, the quote follows
ended : (Is : List ℕ → Type 0) (all : List ℕ) (n : ℕ) → Token all n Is → length all ≤ n → Goes (IsQuoted Is) (34 ∷ all)
ended Is all n t most =
    let none = no_rest t.rest (omega (arith, most, t.long, ap length t.laid, length-append t.token t.rest)) in
    let same : t.token ≡ all ++ [] = sym (append-nil t.token) ∙ ap (λ r. t.token ++ r) (sym none) ∙ sym t.laid ∙ sym (append-nil all) in
    quoted_goes Is all [] (subst Is same t.is)
  where
    no_rest : (rest : List ℕ) → length rest ≡ 0 → rest ≡ []
    no_rest [] e = refl
    no_rest (x ∷ rest) e = absurd (omega arith)

quote_first : (x : ℕ) → (x == 34) ≡ true → x ≡ 34
quote_first x e = grind (arith, nat_tests)

-- the tokens of a word between two quotes
module _ (X : Type 0) (Is : List ℕ → Type 0) (reason : Reason) (sorts : Sorts reason (IsQuoted Is)) (least : Goes Is []) where
  least_quoted : Goes (IsQuoted Is) []
  least_quoted = (34 ∷ (least.0 ++ 34 ∷ []), (least.0, least.1, refl))

  closed_strike : (all : List ℕ) (scan : Text X) (f : Fault) → ((token : List ℕ) → IsQuoted Is token → IsUnlike reason (34 ∷ all) token) → ((x : X) (n : ℕ) → scan ≡ Whole x n → Token all n Is) → (scan ≡ Short → Goes Is all) → closed reason (34 ∷ all) (moved 1 scan) ≡ is_fault f → Strike f (34 ∷ all) (IsQuoted Is)
  closed_strike all (Whole x n) f fresh whole short e = by_end (either_fault (nat_le (length (34 ∷ all)) (1 + n)) _ _ f e)
    where
      by_quote : (((slice_index (34 ∷ all) (1 + n) == 34) ≡ true) × (is_read (x, 1 + n + 1) ≡ is_fault f)) ⊎ (((slice_index (34 ∷ all) (1 + n) == 34) ≡ false) × (fault {X = X} 0 reason ≡ is_fault f)) → Strike f (34 ∷ all) (IsQuoted Is)
      by_quote (inl h) = absurd (no_read (x, 1 + n + 1) f h.1)
      by_quote (inr h) = bad_strike {X = X} reason f (34 ∷ all) (IsQuoted Is) sorts fresh least_quoted (omega arith) h.1

      by_end : ((nat_le (length (34 ∷ all)) (1 + n) ≡ true) × (fault {X = X} (length (34 ∷ all)) reasons.Truncated ≡ is_fault f))
          ⊎ ((nat_le (length (34 ∷ all)) (1 + n) ≡ false) × (cond (slice_index (34 ∷ all) (1 + n) == 34) (is_read (x, 1 + n + 1)) (fault {X = X} 0 reason) ≡ is_fault f)) → Strike f (34 ∷ all) (IsQuoted Is)
      by_end (inl h) = let past = h.0 in goes_strike {X = X} (length (34 ∷ all)) f (34 ∷ all) (IsQuoted Is) (ended Is all n (whole x n refl) (grind (arith, nat_tests))) h.1
      by_end (inr h) = by_quote (either_fault (slice_index (34 ∷ all) (1 + n) == 34) (is_read (x, 1 + n + 1)) (fault 0 reason) f h.1)
  closed_strike all Short f fresh whole short e = let g = short refl in goes_strike {X = X} (length (34 ∷ all)) f (34 ∷ all) (IsQuoted Is) (quoted_goes Is all g.0 g.1) e
  closed_strike all (Bad place) f fresh whole short e = bad_strike {X = X} reason f (34 ∷ all) (IsQuoted Is) sorts fresh least_quoted (omega arith) e

  -- what stands behind a quote, by a scan
  in_quotes : (scan : List ℕ → Text X) (bytes : List ℕ) (f : Fault) → ((token : List ℕ) → IsQuoted Is token → IsUnlike reason bytes token) → ((all : List ℕ) (x : X) (n : ℕ) → scan all ≡ Whole x n → Token all n Is) → ((all : List ℕ) → scan all ≡ Short → Goes Is all)
      → cond (nat_lt (length bytes) 1) (fault 0 reasons.Truncated) (cond (slice_index bytes 0 == 34) (closed reason bytes (moved 1 (scan (drop 1 bytes)))) (fault 0 reason)) ≡ is_fault f → Strike f bytes (IsQuoted Is)
  in_quotes scan [] f fresh whole short e = goes_strike {X = X} 0 f [] (IsQuoted Is) least_quoted e
  in_quotes scan (x ∷ all) f fresh whole short e = by_some (either_fault (nat_lt (length (x ∷ all)) 1) _ _ f e)
    where
      by_quote : (((x == 34) ≡ true) × (closed reason (x ∷ all) (moved 1 (scan all)) ≡ is_fault f)) ⊎ (((x == 34) ≡ false) × (fault {X = X} 0 reason ≡ is_fault f)) → Strike f (x ∷ all) (IsQuoted Is)
      by_quote (inl h) =
          let is = quote_first x h.0 in
          subst (λ y. Strike f (y ∷ all) (IsQuoted Is)) (sym is) (closed_strike all (scan all) f (subst (λ y. (token : List ℕ) → IsQuoted Is token → IsUnlike reason (y ∷ all) token) is fresh) (whole all) (short all) (subst (λ y. closed reason (y ∷ all) (moved 1 (scan all)) ≡ is_fault f) is h.1))
      by_quote (inr h) = bad_strike {X = X} reason f (x ∷ all) (IsQuoted Is) sorts fresh least_quoted (omega arith) h.1

      by_some : ((nat_lt (length (x ∷ all)) 1 ≡ true) × (fault {X = X} 0 reasons.Truncated ≡ is_fault f))
          ⊎ ((nat_lt (length (x ∷ all)) 1 ≡ false) × (cond (x == 34) (closed reason (x ∷ all) (moved 1 (scan all))) (fault {X = X} 0 reason) ≡ is_fault f)) → Strike f (x ∷ all) (IsQuoted Is)
      by_some (inl h) = absurd (let none = h.0 in grind (arith, nat_tests))
      by_some (inr h) = by_quote (either_fault (x == 34) (closed reason (x ∷ all) (moved 1 (scan all))) (fault 0 reason) f h.1)

pub quoted_cut : (reason : Reason) (low high : ℤ) → IsRange low high → Sorts reason (IsQuoted (SomeInt low high)) → Fresh reason (quoted_int_in reason low high) (IsQuoted (SomeInt low high)) → StrikesOne (quoted_int_in reason low high) (IsQuoted (SomeInt low high))
unfolding quoted_int_in
quoted_cut reason low high range sorts fresh bytes f e =
    in_quotes ℤ (SomeInt low high) reason sorts (least_int low high range) (int_at low high) bytes f (fresh bytes f e) (λ all z n h. some_token z all n (int_whole low high z all n range h)) (λ all h. int_goes low high all range h) e
  where
    some_token : (z : ℤ) (all : List ℕ) (n : ℕ) → Token all n (IsInt low high z) → Token all n (SomeInt low high)
    some_token z all n k = record { token = k.token; rest = k.rest; laid = k.laid; long = k.long; is = (z, k.is) }

-- in quotes where it is a key
abbrev pub SomeWhole : Bool → ℤ → ℤ → List ℕ → Type 0
SomeWhole key low high token = (digits : List ℕ) × (z : ℤ) × IsInt low high z digits × (token ≡ number key digits)

pub whole_cut : (key : Bool) (reason : Reason) (low high : ℤ) → IsRange low high → Sorts reason (SomeWhole key low high) → Fresh reason (whole_in key reason low high) (SomeWhole key low high) → StrikesOne (whole_in key reason low high) (SomeWhole key low high)
whole_cut true reason low high range sorts fresh bytes f e = of_quoted (quoted_cut reason low high range quoted_sorts (λ b g h token is. fresh b g h token (to_whole token is)) bytes f e)
  where
    to_whole : (token : List ℕ) → IsQuoted (SomeInt low high) token → SomeWhole true low high token
    to_whole token (word, (z, is), same) = (word, z, is, same)

    quoted_sorts : Sorts reason (IsQuoted (SomeInt low high))
    quoted_sorts = record { plain = sorts.plain; sort = (λ token is. sorts.sort token (to_whole token is)) }

    of_quoted : Strike f bytes (IsQuoted (SomeInt low high)) → Strike f bytes (SomeWhole true low high)
    of_quoted (token, is, s) = (token, to_whole token is, s)
whole_cut false reason low high range sorts fresh bytes f e = of_int (int_cut reason low high range int_sorts (λ b g h token is. fresh b g h token (to_whole token is)) bytes f e)
  where
    to_whole : (token : List ℕ) → SomeInt low high token → SomeWhole false low high token
    to_whole token (z, is) = (token, z, is, refl)

    int_sorts : Sorts reason (SomeInt low high)
    int_sorts = record { plain = sorts.plain; sort = (λ token is. sorts.sort token (to_whole token is)) }

    of_int : Strike f bytes (SomeInt low high) → Strike f bytes (SomeWhole false low high)
    of_int (token, is, s) = (token, to_whole token is, s)

-- ---- letters that fit as far as there are bytes

letters_go : (bytes letters : List ℕ) → length bytes ≤ length letters → Fits bytes 0 letters → bytes ++ drop (length bytes) letters ≡ letters
letters_go [] letters l h = refl
letters_go (x ∷ bytes) [] l h = absurd (omega arith)
letters_go (x ∷ bytes) (m ∷ letters) l h =
    ap (λ k. k ∷ (bytes ++ drop (length bytes) letters)) (fits_first x m bytes h.0) ∙ ap (λ r. m ∷ r) (letters_go bytes letters (omega arith) (fits_on x bytes 0 letters h.1))

-- a word of so many bytes that is cut is shorter
shorter : {X : Type 0} → (bytes : List ℕ) (size : ℕ) (x : X) (f : Fault) → word_end bytes size x ≡ is_fault f → (length bytes < size) × (fault {X = X} (length bytes) reasons.Truncated ≡ is_fault f)
shorter {X} bytes size x f e = by_test (either_fault (nat_lt (length bytes) size) (fault (length bytes) reasons.Truncated) (is_read (x, size)) f e)
  where
    by_test : ((nat_lt (length bytes) size ≡ true) × (fault {X = X} (length bytes) reasons.Truncated ≡ is_fault f)) ⊎ ((nat_lt (length bytes) size ≡ false) × (is_read (x, size) ≡ is_fault f)) → (length bytes < size) × (fault {X = X} (length bytes) reasons.Truncated ≡ is_fault f)
    by_test (inl h) = let t = h.0 in (grind (arith, nat_tests), h.1)
    by_test (inr h) = absurd (no_read (x, size) f h.1)

-- ---- kinds

-- the name of a kind that has one
abbrev pub SomeName : List ℕ → Type 0
SomeName token = (kind : Kind) × Names kind token

named_goes : (bytes : List ℕ) (own : Kind) (letters : List ℕ) → name_token own ≡ letters → IsNamed own → length bytes < length letters → Fits bytes 0 letters → Goes SomeName bytes
named_goes bytes own letters name named l h = (drop (length bytes) letters, (own, (letters_go bytes letters (omega arith) h ∙ sym name, named)))

four_hold : (a b c d : Bool) → (a && b && c && d) ≡ true → (a ≡ true) × (b ≡ true) × (c ≡ true) × (d ≡ true)
four_hold true true true true p = (refl, refl, refl, refl)
four_hold false b c d p = absurd (cc)
four_hold a false c d p = absurd (cc)
four_hold a b false d p = absurd (cc)
four_hold a b c false p = absurd (cc)

three_fit : (bytes : List ℕ) (a b c : ℕ) → begins_three bytes a b c ≡ true → Fits bytes 0 (34 ∷ a ∷ b ∷ c ∷ 34 ∷ [])
three_fit bytes a b c e =
    let f = five_hold (byte_fits bytes 0 34) (byte_fits bytes 1 a) (byte_fits bytes 2 b) (byte_fits bytes 3 c) (byte_fits bytes 4 34) e in
    (f.0, (f.1, (f.2, (f.3, (f.4, tt)))))

cut_three : (bytes : List ℕ) (a b c : ℕ) (own : Kind) (next : Scan Kind) (f : Fault) → name_token own ≡ 34 ∷ a ∷ b ∷ c ∷ 34 ∷ [] → IsNamed own → (next ≡ is_fault f → Strike f bytes SomeName)
    → cond (begins_three bytes a b c) (word_end bytes 5 own) next ≡ is_fault f → Strike f bytes SomeName
cut_three bytes a b c own next f name named go e = by_test (either_fault (begins_three bytes a b c) (word_end bytes 5 own) next f e)
  where
    by_test : ((begins_three bytes a b c ≡ true) × (word_end bytes 5 own ≡ is_fault f)) ⊎ ((begins_three bytes a b c ≡ false) × (next ≡ is_fault f)) → Strike f bytes SomeName
    by_test (inl h) = let l = shorter bytes 5 own f h.1 in goes_strike {X = Kind} (length bytes) f bytes SomeName (named_goes bytes own (34 ∷ a ∷ b ∷ c ∷ 34 ∷ []) name named l.0 (three_fit bytes a b c h.0)) l.1
    by_test (inr h) = go h.1

cut_two : (bytes : List ℕ) (a b : ℕ) (own : Kind) (next : Scan Kind) (f : Fault) → name_token own ≡ 34 ∷ a ∷ b ∷ 34 ∷ [] → IsNamed own → (next ≡ is_fault f → Strike f bytes SomeName)
    → cond (begins_two bytes a b) (word_end bytes 4 own) next ≡ is_fault f → Strike f bytes SomeName
cut_two bytes a b own next f name named go e = by_test (either_fault (begins_two bytes a b) (word_end bytes 4 own) next f e)
  where
    by_test : ((begins_two bytes a b ≡ true) × (word_end bytes 4 own ≡ is_fault f)) ⊎ ((begins_two bytes a b ≡ false) × (next ≡ is_fault f)) → Strike f bytes SomeName
    by_test (inl h) =
        let l = shorter bytes 4 own f h.1 in
        let k = four_hold (byte_fits bytes 0 34) (byte_fits bytes 1 a) (byte_fits bytes 2 b) (byte_fits bytes 3 34) h.0 in
        goes_strike {X = Kind} (length bytes) f bytes SomeName (named_goes bytes own (34 ∷ a ∷ b ∷ 34 ∷ []) name named l.0 (k.0, (k.1, (k.2, (k.3, tt))))) l.1
    by_test (inr h) = go h.1

-- no kind's name stands where none is read
abbrev NoName : List ℕ → Type 0
NoName bytes = NoneStands (IsSort reasons.BadKind) bytes

no_name : (bytes : List ℕ) (f : Fault) → kind_at bytes ≡ is_fault f → NoName bytes
no_name bytes f e token rest (kind, named, is) stands =
    let read = ap kind_at (stands ∙ ap (λ t. t ++ rest) is) ∙ kind_read kind rest named in
    no_read (kind, length (name_token kind)) f (sym read ∙ e)

name_bad : (bytes : List ℕ) (f : Fault) → 1 ≤ length bytes → NoName bytes → fault {X = Kind} 0 reasons.BadKind ≡ is_fault f → Strike f bytes SomeName
name_bad bytes f some none e =
    let token = name_token kinds.I8 in
    (token, (kinds.I8, (refl, refl)), bad_here {X = Kind} reasons.BadKind f bytes token (refl, none) (kinds.I8, refl, refl) some e)

large_cut : (bytes : List ℕ) (f : Fault) → 1 ≤ length bytes → NoName bytes → large_kind_at bytes ≡ is_fault f → Strike f bytes SomeName
unfolding large_kind_at
large_cut bytes f some none e =
    cut_three bytes 115 116 114 kinds.Str _ f refl refl
    (cut_three bytes 114 101 99 kinds.Struct _ f refl refl
    (cut_three bytes 109 97 112 kinds.Map _ f refl refl
    (cut_three bytes 115 101 116 kinds.Set _ f refl refl
    (cut_three bytes 108 115 116 kinds.List _ f refl refl (λ h. name_bad bytes f some none h))))) e

wide_cut : (bytes : List ℕ) (f : Fault) → 1 ≤ length bytes → NoName bytes → wide_kind_at bytes ≡ is_fault f → Strike f bytes SomeName
unfolding wide_kind_at
wide_cut bytes f some none e =
    cut_three bytes 105 49 54 kinds.I16 _ f refl refl
    (cut_three bytes 105 51 50 kinds.I32 _ f refl refl
    (cut_three bytes 105 54 52 kinds.I64 _ f refl refl
    (cut_three bytes 100 98 108 kinds.Double _ f refl refl (λ h. large_cut bytes f some none h)))) e

no_bytes : (f : Fault) → kind_at [] ≡ is_fault f → fault {X = Kind} 0 reasons.Truncated ≡ is_fault f
unfolding kind_at
no_bytes f e = e

pub kind_cut : StrikesOne kind_at SomeName
unfolding kind_at
kind_cut [] f e = (name_token kinds.I8, (kinds.I8, (refl, refl)), cut_here {X = Kind} 0 f [] (name_token kinds.I8) (name_token kinds.I8) refl (no_bytes f e))
kind_cut (x ∷ bytes) f e = cut_two (x ∷ bytes) 116 102 kinds.Bool _ f refl refl (cut_two (x ∷ bytes) 105 56 kinds.I8 _ f refl refl (λ h. wide_cut (x ∷ bytes) f (omega arith) (no_name (x ∷ bytes) f e) h)) e

-- ---- numbers

-- a number, or one of the three words, in quotes where it is called for
abbrev pub SomeDouble : Bool → List ℕ → Type 0
SomeDouble key token = (digits : List ℕ) × IsDouble key digits token

spelled_fault : (from : ℕ) (bytes : List ℕ) (scan : Scan ℕ) (f : Fault) → spelled from bytes scan ≡ is_fault f → scan ≡ is_fault f
spelled_fault from bytes (Ok x) f e = absurd (no_read _ f e)
spelled_fault from bytes (Err g) f e = ap (λ h. is_fault h) (blame_of g f e)
  where
    blame_of : (g h : Fault) → is_fault {X = List ℕ} g ≡ is_fault h → g ≡ h
    blame_of g h same = cc

word_strike : (key : Bool) (bytes word : List ℕ) (size x : ℕ) (f : Fault) → size ≡ length (quoted word) → IsDouble key word (quoted word) → Fits bytes 0 (quoted word) → spelled 1 bytes (word_end bytes size x) ≡ is_fault f → Strike f bytes (SomeDouble key)
word_strike key bytes word size x f is double fits e =
    let l = shorter bytes size x f (spelled_fault 1 bytes (word_end bytes size x) f e) in
    let whole = letters_go bytes (quoted word) (omega (arith, l.0, is)) fits in
    goes_strike {X = ℕ} (length bytes) f bytes (SomeDouble key) (drop (length bytes) (quoted word), (word, subst (IsDouble key word) (sym whole) double)) l.1

zero_number : IsNumber (48 ∷ [])
zero_number = ([], 48 ∷ [], [], [], refl, inl refl, inl refl, inl refl, inl refl)

sorts_double : (key : Bool) (token : List ℕ) → SomeDouble key token → IsSort reasons.BadNumber token
sorts_double key token (digits, is) = inr (key, digits, is)

number_bad : (bytes : List ℕ) (place : ℕ) → number_at bytes ≡ Bad place → (place ≡ 0) × (1 ≤ length bytes)
number_bad bytes place e = ((subst (Judges GoodNumber bytes) e (number_judged bytes)).0, of_bytes bytes e)
  where
    of_bytes : (b : List ℕ) → number_at b ≡ Bad place → 1 ≤ length b
    of_bytes [] h = let wrong : Short ≡ Bad place = sym number_nothing ∙ h in absurd (cc)
    of_bytes (x ∷ b) h = omega arith

plain_strike : (bytes : List ℕ) (f : Fault) → number_in bytes ≡ is_fault f → Strike f bytes (SomeDouble false)
unfolding number_in
plain_strike bytes f e = by_item (item_fault reasons.BadNumber bytes (number_at bytes) f e)
  where
    sorts : Sorts reasons.BadNumber (SomeDouble false)
    sorts = record { plain = (λ left. refl); sort = sorts_double false }

    by_item : ((number_at bytes ≡ Short) × (fault {X = ℕ} (length bytes) reasons.Truncated ≡ is_fault f)) ⊎ ((place : ℕ) × (number_at bytes ≡ Bad place) × (fault {X = ℕ} (0 + place) reasons.BadNumber ≡ is_fault f)) → Strike f bytes (SomeDouble false)
    by_item (inl h) = goes_strike {X = ℕ} (length bytes) f bytes (SomeDouble false) (48 ∷ [], (bytes ++ 48 ∷ [], inl (number_goes bytes h.0, refl))) h.1
    by_item (inr (place, h, same)) =
        let b = number_bad bytes place h in
        bad_strike {X = ℕ} reasons.BadNumber f bytes (SomeDouble false) sorts (λ token is. tt) (48 ∷ [], (48 ∷ [], inl (zero_number, refl))) b.1 (subst (λ n. fault {X = ℕ} (0 + n) reasons.BadNumber ≡ is_fault f) b.0 same)

quoted_number_strike : (bytes : List ℕ) (f : Fault) → quoted_number_in bytes ≡ is_fault f → Strike f bytes (SomeDouble true)
unfolding quoted_number_in
quoted_number_strike bytes f e = of_quoted (in_quotes ℕ IsNumber reasons.BadNumber sorts (48 ∷ [], zero_number) number_at bytes f (λ token is. tt) (λ all x n h. some_token x all n (number_whole all x n h)) (λ all h. (48 ∷ [], number_goes all h)) e)
  where
    to_double : (token : List ℕ) → IsQuoted IsNumber token → SomeDouble true token
    to_double token (word, is, same) = (word, inl (is, ap (λ k. k ∷ []) same))

    sorts : Sorts reasons.BadNumber (IsQuoted IsNumber)
    sorts = record { plain = (λ left. refl); sort = (λ token is. sorts_double true token (to_double token is)) }

    some_token : (x : ℕ) (all : List ℕ) (n : ℕ) → Token all n (IsLong x) → Token all n IsNumber
    some_token x all n k = record { token = k.token; rest = k.rest; laid = k.laid; long = k.long; is = k.is.0 }

    of_quoted : Strike f bytes (IsQuoted IsNumber) → Strike f bytes (SomeDouble true)
    of_quoted (token, is, s) = (token, to_double token is, s)

pub double_cut : (key : Bool) → StrikesOne (double_in key) (SomeDouble key)
unfolding double_in
double_cut key bytes f e = by_nan (either_fault (begins_three bytes 78 97 78) _ _ f e)
  where
    numbers : Scan (List ℕ)
    numbers = cond key (spelled 1 bytes (quoted_number_in bytes)) (spelled 0 bytes (number_in bytes))

    below : Scan (List ℕ)
    below = cond (byte_fits bytes 0 34 && byte_fits bytes 1 45 && infinity_fits bytes 2) (spelled 1 bytes (word_end bytes 11 9)) numbers

    above : Scan (List ℕ)
    above = cond (byte_fits bytes 0 34 && infinity_fits bytes 1) (spelled 1 bytes (word_end bytes 10 8)) below

    by_key : (k : Bool) → cond k (spelled 1 bytes (quoted_number_in bytes)) (spelled 0 bytes (number_in bytes)) ≡ is_fault f → Strike f bytes (SomeDouble k)
    by_key true h = quoted_number_strike bytes f (spelled_fault 1 bytes (quoted_number_in bytes) f h)
    by_key false h = plain_strike bytes f (spelled_fault 0 bytes (number_in bytes) f h)

    by_below : (((byte_fits bytes 0 34 && byte_fits bytes 1 45 && infinity_fits bytes 2) ≡ true) × (spelled 1 bytes (word_end bytes 11 9) ≡ is_fault f))
        ⊎ (((byte_fits bytes 0 34 && byte_fits bytes 1 45 && infinity_fits bytes 2) ≡ false) × (numbers ≡ is_fault f)) → Strike f bytes (SomeDouble key)
    by_below (inl h) =
        let k = three_hold (byte_fits bytes 0 34) (byte_fits bytes 1 45) (infinity_fits bytes 2) h.0 in
        word_strike key bytes (45 ∷ infinity) 11 9 f refl (below_double key (45 ∷ infinity) refl) (k.0, (k.1, infinity_there bytes 2 k.2)) h.1
    by_below (inr h) = by_key key h.1

    by_above : (((byte_fits bytes 0 34 && infinity_fits bytes 1) ≡ true) × (spelled 1 bytes (word_end bytes 10 8) ≡ is_fault f))
        ⊎ (((byte_fits bytes 0 34 && infinity_fits bytes 1) ≡ false) × (below ≡ is_fault f)) → Strike f bytes (SomeDouble key)
    by_above (inl h) =
        let k = both_hold (byte_fits bytes 0 34) (infinity_fits bytes 1) h.0 in
        word_strike key bytes infinity 10 8 f refl (above_double key infinity refl) (k.0, infinity_there bytes 1 k.1) h.1
    by_above (inr h) = by_below (either_fault (byte_fits bytes 0 34 && byte_fits bytes 1 45 && infinity_fits bytes 2) _ _ f h.1)

    by_nan : ((begins_three bytes 78 97 78 ≡ true) × (spelled 1 bytes (word_end bytes 5 3) ≡ is_fault f)) ⊎ ((begins_three bytes 78 97 78 ≡ false) × (above ≡ is_fault f)) → Strike f bytes (SomeDouble key)
    by_nan (inl h) = word_strike key bytes nan 5 3 f refl (nan_double key nan refl) (three_fit bytes 78 97 78 h.0) h.1
    by_nan (inr h) = by_above (either_fault (byte_fits bytes 0 34 && infinity_fits bytes 1) _ _ f h.1)

-- ---- strings

-- a string with few bytes, or any
pub record StringStrike (f : Fault) (bytes : List ℕ) (Spells : List ℕ → List ℕ → Type 0) : Type 0 where
  pub token : List ℕ
  pub meant : List ℕ
  pub spells : Spells meant token
  pub struck : Struck f bytes bytes token
  pub long : length meant ≤ length bytes + 10

no_text : SpellsText [] (34 ∷ 34 ∷ [])
no_text = ([], tt, refl, refl)

pub text_cut : (bytes : List ℕ) (f : Fault) → text_in bytes ≡ is_fault f → StringStrike f bytes SpellsText
unfolding text_in
text_cut bytes f e = by_item (item_fault reasons.BadString bytes (text_at bytes) f e)
  where
    no_text_there : (place : ℕ) → text_at bytes ≡ Bad place → NoneStands (IsSort reasons.BadString) bytes
    no_text_there place h token rest (meant, spells) is =
        let whole = ((text_judged bytes).0 meant (length token)).1 (token, rest, is, refl, spells) in
        let wrong = sym whole ∙ h in absurd (cc)

    by_item : ((text_at bytes ≡ Short) × (fault {X = List ℕ} (length bytes) reasons.Truncated ≡ is_fault f)) ⊎ ((place : ℕ) × (text_at bytes ≡ Bad place) × (fault {X = List ℕ} (0 + place) reasons.BadString ≡ is_fault f)) → StringStrike f bytes SpellsText
    by_item (inl h) =
        let g = text_goes bytes h.0 in
        let few = g.few in
        let long = g.long in
        record { token = bytes ++ g.more; meant = g.meant; spells = g.spells; struck = cut_here {X = List ℕ} (length bytes) f bytes g.more (bytes ++ g.more) refl h.1; long = omega (arith, few, long, length-append bytes g.more) }
    by_item (inr (place, h, same)) =
        let stands = ((text_judged bytes).2 place).0 h in
        let is = same_fault {X = List ℕ} (record { place = 0 + place; reason = reasons.BadString }) f same in
        let none : 0 + place ≡ place = omega arith in
        let bad : Struck (record { place = 0 + place; reason = reasons.BadString }) bytes bytes (34 ∷ 34 ∷ []) =
        inr (record { sort = ([], no_text); inside = place; stands = stands; unlike = no_text_there place h; there = ap (λ n. drop n bytes) none; some = text_inside bytes place h }) in
        record { token = 34 ∷ 34 ∷ []; meant = []; spells = no_text; struck = subst (λ g. Struck g bytes bytes (34 ∷ 34 ∷ [])) is bad; long = omega arith }

pub blob_cut : (bytes : List ℕ) (f : Fault) → blob_in bytes ≡ is_fault f → StringStrike f bytes SpellsBlob
unfolding blob_in
blob_cut bytes f e = by_item (item_fault reasons.BadBase64 bytes (blob_at bytes) f e)
  where
    no_blob_there : ((more meant : List ℕ) (n : ℕ) → GoodBlob (bytes ++ more) meant n → ⊥) → NoneStands (IsSort reasons.BadBase64) bytes
    no_blob_there bad token rest (meant, spells) is = bad [] meant (length token) (subst (λ b. GoodBlob b meant (length token)) (sym (append-nil bytes)) (token, rest, is, refl, spells))

    of_bytes : (b : List ℕ) (place : ℕ) → blob_at b ≡ Bad place → 1 ≤ length b
    of_bytes [] place h = let wrong : Short ≡ Bad place = sym blob_nothing ∙ h in absurd (cc)
    of_bytes (x ∷ b) place h = omega arith

    by_item : ((blob_at bytes ≡ Short) × (fault {X = List ℕ} (length bytes) reasons.Truncated ≡ is_fault f)) ⊎ ((place : ℕ) × (blob_at bytes ≡ Bad place) × (fault {X = List ℕ} (0 + place) reasons.BadBase64 ≡ is_fault f)) → StringStrike f bytes SpellsBlob
    by_item (inl h) =
        let g = blob_goes bytes h.0 in
        let few = g.few in
        let long = g.long in
        record { token = bytes ++ g.more; meant = g.meant; spells = g.spells; struck = cut_here {X = List ℕ} (length bytes) f bytes g.more (bytes ++ g.more) refl h.1; long = omega (arith, few, long, length-append bytes g.more) }
    by_item (inr (place, h, same)) =
        let judged = subst (Judges GoodBlob bytes) h (blob_judged bytes) in
        let none = judged.0 in
        record {
          token = 34 ∷ 34 ∷ [];
          meant = [];
          spells = no_blob;
          struck = bad_here {X = List ℕ} reasons.BadBase64 f bytes (34 ∷ 34 ∷ []) (refl, no_blob_there judged.1) ([], no_blob) (of_bytes bytes place h) (subst (λ n. fault {X = List ℕ} (0 + n) reasons.BadBase64 ≡ is_fault f) none same);
          long = omega arith;
        }
