-- The words of TJSON, with more bytes behind those that were given.
use Rattle.std.proofs.Common.{◌≡◌, ℕ, ℤ, zero, suc, ◌+◌, ◌<◌, ◌≤◌, Bool, true, false, cond, List, [], ◌∷◌, ◌++◌, length, take, drop, Ok, Err, refl, ap, ◌∙◌, sym, subst, arith, ◌⊎◌, inl, inr, length-drop, length-take}
use Rattle.std.specs.Prelude.{slice_index, nat_lt, nat_le, ◌==◌, ◌&&◌, Option, Some, None}
use Rattle.std.specs.List.{prefix_len}
use Rattle.std.proofs.lemmas.Bool.Decides.{nat_tests}
use Rattle.thrift_value.specs.declared.kind.Kind.TheVariants as kinds
use Rattle.thrift_value.specs.Items.{text, unknown_text}
use Rattle.protocol_traits.specs.declared.proto.Hint.{Hint}
use Rattle.protocol_traits.specs.declared.proto.Hint.TheVariants as hints
use Rattle.protocol_traits.specs.declared.fault.Reason.{Reason}
use Rattle.protocol_traits.specs.declared.fault.Reason.TheVariants as reasons
use Rattle.json_text.specs.Scan.{moved}
use Rattle.json_text.specs.declared.scanned.Scan.{Scan as Text}
use Rattle.json_text.specs.declared.scanned.Scan.TheVariants.{Whole, Short, Bad}
use Rattle.json_text.specs.Int.{is_int_byte, within, run_scan, int_run, int_at, integer, can_grow}
use Rattle.json_text.specs.Number.{is_number_byte, number_run, number_at}
use Rattle.json_text.specs.Text.{text_at}
use Rattle.json_text.specs.Blob.{blob_at}
use Rattle.json_text.specs.Grammar.{IsNumber}
use Rattle.json_text_laws.specs.Judged.{Judges, GoodInt, GoodNumber, GoodBlob}
use Rattle.json_text_laws.specs.Judged.{IsRange}
use Rattle.json_text_laws.proofs.IntLaw.{int_judged}
use Rattle.json_text_laws.proofs.NumberLaw.{number_judged}
use Rattle.json_text_laws.proofs.BlobLaw.{good_read, whole_good, blob_judged}
use Rattle.json_text_laws.proofs.Read.{text_good, text_read}
use Rattle.json_text_laws.proofs.Refused.{text_refuses, drop_more}
use Rattle.json_text_laws.proofs.Ends.{front_index}
use Rattle.json_text_laws.proofs.Parts.{append_more}
use Rattle.json_protocol.specs.Scan.{Scan, fault, item, mark_at, byte_fits, word_end}
use Rattle.json_protocol.specs.Words.{closed, begins_two, begins_three, infinity_fits, large_kind_at, wide_kind_at, kind_at, int_in, quoted_int_in, whole_in, spelled, number_in, quoted_number_in, double_in, text_in, blob_in, string_in}
use Rattle.json_laws.proofs.Words.{judged_whole}
use Rattle.json_laws.proofs.Keeping.{Stays, IsStable, weaker, same_fault, same_read, by_same, wants_one, mapped, run_same, TextStays, item_stays, closed_stays, judged_bad, byte_kept, both_kept, word_stays, word_or, word_cut, two_kept, three_kept, infinity_kept}

-- ---- marks and kinds

first_same : (bytes more : List ℕ) (byte : ℕ) → 0 < length bytes → (slice_index (bytes ++ more) 0 == byte) ≡ (slice_index bytes 0 == byte)
first_same bytes more byte some = ap (λ k. k == byte) (front_index bytes more 0 some)

pub mark_stable : (mark : ℕ) → IsStable true (mark_at mark)
unfolding mark_at
mark_stable mark bytes more = wants_one true bytes more _ _ (λ some. by_same true (length bytes) _ _ _ _ _ _ (first_same bytes more mark some) (same_read true (length bytes) (tt, 1)) (same_fault true (length bytes) 0 reasons.BadToken))

large_stable : IsStable true large_kind_at
unfolding large_kind_at
large_stable bytes more =
    word_or true (λ b. begins_three b 115 116 114) bytes more 5 kinds.Str (λ s. s) (λ s. s) _ _ (three_kept bytes more 5 115 116 114 (omega arith)) (word_stays true bytes more 5 kinds.Str) (word_cut true bytes 5 kinds.Str)
    (word_or true (λ b. begins_three b 114 101 99) bytes more 5 kinds.Struct (λ s. s) (λ s. s) _ _ (three_kept bytes more 5 114 101 99 (omega arith)) (word_stays true bytes more 5 kinds.Struct) (word_cut true bytes 5 kinds.Struct)
    (word_or true (λ b. begins_three b 109 97 112) bytes more 5 kinds.Map (λ s. s) (λ s. s) _ _ (three_kept bytes more 5 109 97 112 (omega arith)) (word_stays true bytes more 5 kinds.Map) (word_cut true bytes 5 kinds.Map)
    (word_or true (λ b. begins_three b 115 101 116) bytes more 5 kinds.Set (λ s. s) (λ s. s) _ _ (three_kept bytes more 5 115 101 116 (omega arith)) (word_stays true bytes more 5 kinds.Set) (word_cut true bytes 5 kinds.Set)
    (word_or true (λ b. begins_three b 108 115 116) bytes more 5 kinds.List (λ s. s) (λ s. s) _ _ (three_kept bytes more 5 108 115 116 (omega arith)) (word_stays true bytes more 5 kinds.List) (word_cut true bytes 5 kinds.List)
    (same_fault true (length bytes) 0 reasons.BadKind)))))

wide_stable : IsStable true wide_kind_at
unfolding wide_kind_at
wide_stable bytes more =
    word_or true (λ b. begins_three b 105 49 54) bytes more 5 kinds.I16 (λ s. s) (λ s. s) _ _ (three_kept bytes more 5 105 49 54 (omega arith)) (word_stays true bytes more 5 kinds.I16) (word_cut true bytes 5 kinds.I16)
    (word_or true (λ b. begins_three b 105 51 50) bytes more 5 kinds.I32 (λ s. s) (λ s. s) _ _ (three_kept bytes more 5 105 51 50 (omega arith)) (word_stays true bytes more 5 kinds.I32) (word_cut true bytes 5 kinds.I32)
    (word_or true (λ b. begins_three b 105 54 52) bytes more 5 kinds.I64 (λ s. s) (λ s. s) _ _ (three_kept bytes more 5 105 54 52 (omega arith)) (word_stays true bytes more 5 kinds.I64) (word_cut true bytes 5 kinds.I64)
    (word_or true (λ b. begins_three b 100 98 108) bytes more 5 kinds.Double (λ s. s) (λ s. s) _ _ (three_kept bytes more 5 100 98 108 (omega arith)) (word_stays true bytes more 5 kinds.Double) (word_cut true bytes 5 kinds.Double)
    (large_stable bytes more))))

pub kind_stable : IsStable true kind_at
unfolding kind_at
kind_stable bytes more =
    word_or true (λ b. begins_two b 116 102) bytes more 4 kinds.Bool (λ s. s) (λ s. s) _ _ (two_kept bytes more 4 116 102 (omega arith)) (word_stays true bytes more 4 kinds.Bool) (word_cut true bytes 4 kinds.Bool)
    (word_or true (λ b. begins_two b 105 56) bytes more 4 kinds.I8 (λ s. s) (λ s. s) _ _ (two_kept bytes more 4 105 56 (omega arith)) (word_stays true bytes more 4 kinds.I8) (word_cut true bytes 4 kinds.I8)
    (wide_stable bytes more))

-- ---- integers

take_front_of : (n : ℕ) (bytes more : List ℕ) → n ≤ length bytes → take n (bytes ++ more) ≡ take n bytes
take_front_of zero bytes more h = refl
take_front_of (suc n) [] more h = absurd (omega arith)
take_front_of (suc n) (x ∷ bytes) more h = ap (λ l. x ∷ l) (take_front_of n bytes more (omega arith))

-- a run that ends before the bytes do
front_same : (p : ℕ → Bool) (bytes more : List ℕ) → length (take (prefix_len p bytes) bytes) < length bytes → take (prefix_len p (bytes ++ more)) (bytes ++ more) ≡ take (prefix_len p bytes) bytes
front_same p bytes more h =
    let less : prefix_len p bytes < length bytes = omega (arith, length-take (prefix_len p bytes) bytes, h) in
    ap (λ n. take n (bytes ++ more)) (run_same p bytes more less) ∙ take_front_of (prefix_len p bytes) bytes more (omega (arith, less))

no_whole : {X : Type 0} → (b : Bool) (x : X) (n : ℕ) → cond b Short (Bad 0) ≡ Whole x n → ⊥
no_whole true x n e = absurd (cc)
no_whole false x n e = absurd (cc)

whole_again : (low z : ℤ) (run bytes longer : List ℕ) (n : ℕ) (found : Option ℤ) → run_scan low run bytes found ≡ Whole z n → run_scan low run longer found ≡ Whole z n
whole_again low z run bytes longer n (Some v) e = e
whole_again low z run bytes longer n None e = absurd (no_whole ((length run == length bytes) && can_grow low run) z n e)

int_again : (low high : ℤ) (range : IsRange low high) (bytes more : List ℕ) (z : ℤ) (n : ℕ) → n < length bytes → int_at low high bytes ≡ Whole z n → int_at low high (bytes ++ more) ≡ Whole z n
unfolding int_at
int_again low high range bytes more z n less e =
    let good = subst (Judges (GoodInt low high) bytes) e (int_judged low high range bytes) in
    let run : int_run (bytes ++ more) ≡ int_run bytes = front_same is_int_byte bytes more (omega (arith, good.0, less)) in
    ap (λ r. run_scan low r (bytes ++ more) (within low high (integer r))) run ∙ whole_again low z (int_run bytes) bytes (bytes ++ more) n (within low high (integer (int_run bytes))) e

unsure : (n size : ℕ) → (false ≡ true) ⊎ (n < size) → n < size
unsure n size (inl e) = absurd (cc)
unsure n size (inr h) = h

int_text : (low high : ℤ) → IsRange low high → (bytes more : List ℕ) → TextStays false (length bytes) (int_at low high bytes) (int_at low high (bytes ++ more))
int_text low high range bytes more = of_scan (int_at low high bytes) refl
  where
    of_scan : (scan : Text ℤ) → int_at low high bytes ≡ scan → TextStays false (length bytes) scan (int_at low high (bytes ++ more))
    of_scan (Whole z n) e = λ h. int_again low high range bytes more z n (unsure n (length bytes) h) e
    of_scan Short e = tt
    of_scan (Bad q) e = judged_bad (GoodInt low high) bytes more (int_at low high bytes) (int_at low high (bytes ++ more)) q (int_judged low high range bytes) (int_judged low high range (bytes ++ more)) e

pub int_stable : (reason : Reason) (low high : ℤ) → IsRange low high → IsStable false (int_in reason low high)
unfolding int_in
int_stable reason low high range bytes more = item_stays false reason bytes more (int_at low high bytes) (int_at low high (bytes ++ more)) (int_text low high range bytes more)

-- behind a quote
inside : {X : Type 0} → (scan : List ℕ → Text X) (bytes more : List ℕ) → 0 < length bytes → ((b m : List ℕ) → TextStays false (length b) (scan b) (scan (b ++ m))) → TextStays false (length (drop 1 bytes)) (scan (drop 1 bytes)) (scan (drop 1 (bytes ++ more)))
inside {X} scan bytes more some h = subst (λ l. TextStays false (length (drop 1 bytes)) (scan (drop 1 bytes)) (scan l)) (sym (drop_more 1 bytes more (omega (arith, some)))) (h (drop 1 bytes) more)

pub quoted_stable : (reason : Reason) (low high : ℤ) → IsRange low high → IsStable true (quoted_int_in reason low high)
unfolding quoted_int_in
quoted_stable reason low high range bytes more =
    wants_one true bytes more _ _ (λ some. by_same true (length bytes) _ _ _ _ _ _ (first_same bytes more 34 some)
    (closed_stays reason bytes more (int_at low high (drop 1 bytes)) (int_at low high (drop 1 (bytes ++ more))) some (inside (int_at low high) bytes more some (int_text low high range))) (same_fault true (length bytes) 0 reason))

pub whole_stable : (key : Bool) (reason : Reason) (low high : ℤ) → IsRange low high → IsStable false (whole_in key reason low high)
whole_stable true reason low high range bytes more = weaker (length bytes) _ _ (quoted_stable reason low high range bytes more)
whole_stable false reason low high range bytes more = int_stable reason low high range bytes more

-- ---- numbers

number_again : (bytes more : List ℕ) (x n : ℕ) → n < length bytes → number_at bytes ≡ Whole x n → number_at (bytes ++ more) ≡ Whole x n
number_again bytes more x n less e =
    let good = subst (Judges GoodNumber bytes) e (number_judged bytes) in
    let run : number_run (bytes ++ more) ≡ number_run bytes = front_same is_number_byte bytes more (omega (arith, good.0, good.1, less)) in
    let again : GoodNumber (bytes ++ more) x x = (good.0 ∙ ap length (sym run), refl, subst IsNumber (sym run) good.2) in
    judged_whole (bytes ++ more) x (number_at (bytes ++ more)) again (number_judged (bytes ++ more)) ∙ ap (Whole x) (sym good.1)

number_text : (bytes more : List ℕ) → TextStays false (length bytes) (number_at bytes) (number_at (bytes ++ more))
number_text bytes more = of_scan (number_at bytes) refl
  where
    of_scan : (scan : Text ℕ) → number_at bytes ≡ scan → TextStays false (length bytes) scan (number_at (bytes ++ more))
    of_scan (Whole x n) e = λ h. number_again bytes more x n (unsure n (length bytes) h) e
    of_scan Short e = tt
    of_scan (Bad q) e = judged_bad GoodNumber bytes more (number_at bytes) (number_at (bytes ++ more)) q (number_judged bytes) (number_judged (bytes ++ more)) e

number_stable : IsStable false number_in
unfolding number_in
number_stable bytes more = item_stays false reasons.BadNumber bytes more (number_at bytes) (number_at (bytes ++ more)) (number_text bytes more)

quoted_number_stable : IsStable true quoted_number_in
unfolding quoted_number_in
quoted_number_stable bytes more =
    wants_one true bytes more _ _ (λ some. by_same true (length bytes) _ _ _ _ _ _ (first_same bytes more 34 some)
    (closed_stays reasons.BadNumber bytes more (number_at (drop 1 bytes)) (number_at (drop 1 (bytes ++ more))) some (inside number_at bytes more some number_text)) (same_fault true (length bytes) 0 reasons.BadNumber))

-- the bytes that the number takes lie in front of all
number_short : (bytes : List ℕ) (x n : ℕ) → number_at bytes ≡ Whole x n → x ≤ length bytes
number_short bytes x n e =
    let good = subst (Judges GoodNumber bytes) e (number_judged bytes) in
    omega (arith, good.0, length-take (prefix_len is_number_byte bytes) bytes)

abbrev Takes : ℕ → ℕ → Scan ℕ → Type 0
Takes from size (Ok x) = from + x.0 ≤ size
Takes from size (Err f) = Unit {0}

number_takes : (bytes : List ℕ) → Takes 0 (length bytes) (number_in bytes)
unfolding number_in
number_takes bytes = of_scan (number_at bytes) refl
  where
    of_scan : (scan : Text ℕ) → number_at bytes ≡ scan → Takes 0 (length bytes) (item reasons.BadNumber bytes (moved 0 scan))
    of_scan (Whole x n) e = omega (arith, number_short bytes x n e)
    of_scan Short e = tt
    of_scan (Bad q) e = tt

quoted_takes : (bytes : List ℕ) → Takes 1 (length bytes) (quoted_number_in bytes)
unfolding quoted_number_in
quoted_takes bytes = by_first (nat_lt (length bytes) 1) (slice_index bytes 0 == 34) refl
  where
    by_closed : (b c : Bool) (x n : ℕ) (place at : ℕ) → 1 + x ≤ length bytes → Takes 1 (length bytes) (cond b (fault place reasons.Truncated) (cond c (Ok (x, n)) (fault at reasons.BadNumber)))
    by_closed true c x n place at h = tt
    by_closed false true x n place at h = h
    by_closed false false x n place at h = tt

    of_scan : 0 < length bytes → (scan : Text ℕ) → number_at (drop 1 bytes) ≡ scan → Takes 1 (length bytes) (closed reasons.BadNumber bytes (moved 1 scan))
    of_scan some (Whole x n) e = by_closed (nat_le (length bytes) (1 + n)) (slice_index bytes (1 + n) == 34) x (1 + n + 1) (length bytes) 0 (omega (arith, number_short (drop 1 bytes) x n e, length-drop 1 bytes, some))
    of_scan some Short e = tt
    of_scan some (Bad q) e = tt

    by_first : (b c : Bool) → nat_lt (length bytes) 1 ≡ b → Takes 1 (length bytes) (cond b (fault 0 reasons.Truncated) (cond c (closed reasons.BadNumber bytes (moved 1 (number_at (drop 1 bytes)))) (fault 0 reasons.BadNumber)))
    by_first true c e = tt
    by_first false true e = of_scan (grind (arith, nat_tests)) (number_at (drop 1 bytes)) refl
    by_first false false e = tt

spelled_stays : (sure : Bool) (from : ℕ) (bytes more : List ℕ) (scan longer : Scan ℕ) → Takes from (length bytes) scan → Stays sure (length bytes) scan longer → Stays sure (length bytes) (spelled from bytes scan) (spelled from (bytes ++ more) longer)
spelled_stays sure from bytes more (Ok x) longer most h =
    let front : take x.0 (drop from (bytes ++ more)) ≡ take x.0 (drop from bytes) =
    ap (take x.0) (drop_more from bytes more (omega (arith, most))) ∙ take_front_of x.0 (drop from bytes) more (omega (arith, most, length-drop from bytes)) in
    λ p. ap (spelled from (bytes ++ more)) (h p) ∙ ap (λ l. Ok (l, x.1)) front
spelled_stays sure from bytes more (Err f) longer most (inl cut) = inl cut
spelled_stays sure from bytes more (Err f) longer most (inr (g, e, r, p)) = inr (g, ap (spelled from (bytes ++ more)) e, r, p)

-- one of the words in quotes
named_stays : (bytes more : List ℕ) (size taken : ℕ) → 1 + taken ≤ size → size ≤ length bytes → Stays false (length bytes) (spelled 1 bytes (word_end bytes size taken)) (spelled 1 (bytes ++ more) (word_end (bytes ++ more) size taken))
named_stays bytes more size taken fits most =
    let not : nat_lt (length bytes) size ≡ false = grind (arith, nat_tests) in
    spelled_stays false 1 bytes more (word_end bytes size taken) (word_end (bytes ++ more) size taken) (by_b (nat_lt (length bytes) size)) (word_stays false bytes more size taken most)
  where
    by_b : (b : Bool) → Takes 1 (length bytes) (cond b (fault (length bytes) reasons.Truncated) (Ok (taken, size)))
    by_b true = tt
    by_b false = omega (arith, fits, most)

named_cut : (bytes : List ℕ) (size taken : ℕ) → nat_lt (length bytes) size ≡ true → (longer : Scan (List ℕ)) → Stays false (length bytes) (spelled 1 bytes (word_end bytes size taken)) longer
named_cut bytes size taken e longer = subst (λ b. Stays false (length bytes) (spelled 1 bytes (cond b (fault (length bytes) reasons.Truncated) (Ok (taken, size)))) longer) (sym e) (inl refl)

last_stays : (key : Bool) (bytes more : List ℕ) → Stays false (length bytes) (cond key (spelled 1 bytes (quoted_number_in bytes)) (spelled 0 bytes (number_in bytes))) (cond key (spelled 1 (bytes ++ more) (quoted_number_in (bytes ++ more))) (spelled 0 (bytes ++ more) (number_in (bytes ++ more))))
last_stays true bytes more = spelled_stays false 1 bytes more (quoted_number_in bytes) (quoted_number_in (bytes ++ more)) (quoted_takes bytes) (weaker (length bytes) _ _ (quoted_number_stable bytes more))
last_stays false bytes more = spelled_stays false 0 bytes more (number_in bytes) (number_in (bytes ++ more)) (number_takes bytes) (number_stable bytes more)

pub double_stable : (key : Bool) → IsStable false (double_in key)
unfolding double_in
double_stable key bytes more =
    word_or false (λ b. begins_three b 78 97 78) bytes more 5 3 (spelled 1 bytes) (spelled 1 (bytes ++ more)) _ _ (three_kept bytes more 5 78 97 78 (omega arith)) (named_stays bytes more 5 3 (omega arith)) (named_cut bytes 5 3)
    (word_or false (λ b. byte_fits b 0 34 && infinity_fits b 1) bytes more 10 8 (spelled 1 bytes) (spelled 1 (bytes ++ more)) _ _
    (both_kept (λ b. byte_fits b 0 34) (λ b. infinity_fits b 1) bytes more 10 (byte_kept bytes more 10 0 34 (omega arith)) (infinity_kept bytes more 10 1 (omega arith))) (named_stays bytes more 10 8 (omega arith)) (named_cut bytes 10 8)
    (word_or false (λ b. byte_fits b 0 34 && byte_fits b 1 45 && infinity_fits b 2) bytes more 11 9 (spelled 1 bytes) (spelled 1 (bytes ++ more)) _ _
    (both_kept (λ b. byte_fits b 0 34 && byte_fits b 1 45) (λ b. infinity_fits b 2) bytes more 11 (both_kept (λ b. byte_fits b 0 34) (λ b. byte_fits b 1 45) bytes more 11 (byte_kept bytes more 11 0 34 (omega arith)) (byte_kept bytes more 11 1 45 (omega arith)))
    (infinity_kept bytes more 11 2 (omega arith))) (named_stays bytes more 11 9 (omega arith)) (named_cut bytes 11 9) (last_stays key bytes more)))

-- ---- strings

pub text_stable : IsStable true text_in
unfolding text_in
text_stable bytes more = item_stays true reasons.BadString bytes more (text_at bytes) (text_at (bytes ++ more)) (of_scan (text_at bytes) refl)
  where
    of_scan : (scan : Text (List ℕ)) → text_at bytes ≡ scan → TextStays true (length bytes) scan (text_at (bytes ++ more))
    of_scan (Whole m n) e = let g = text_good bytes m n e in λ _. text_read (bytes ++ more) m n (g.0, g.1 ++ more, ap (λ b. b ++ more) g.2 ∙ append_more g.0 g.1 more, g.3, g.4)
    of_scan Short e = tt
    of_scan (Bad q) e = text_refuses bytes more q e

pub blob_stable : IsStable true blob_in
unfolding blob_in
blob_stable bytes more = item_stays true reasons.BadBase64 bytes more (blob_at bytes) (blob_at (bytes ++ more)) (of_scan (blob_at bytes) refl)
  where
    of_scan : (scan : Text (List ℕ)) → blob_at bytes ≡ scan → TextStays true (length bytes) scan (blob_at (bytes ++ more))
    of_scan (Whole m n) e = let g = whole_good bytes m n e in λ _. good_read (bytes ++ more) m n (g.0, g.1 ++ more, ap (λ b. b ++ more) g.2 ∙ append_more g.0 g.1 more, g.3, g.4)
    of_scan Short e = tt
    of_scan (Bad q) e = judged_bad GoodBlob bytes more (blob_at bytes) (blob_at (bytes ++ more)) q (blob_judged bytes) (blob_judged (bytes ++ more)) e

pub string_stable : (hint : Hint) → IsStable true (string_in hint)
unfolding string_in
string_stable hints.Text bytes more = mapped true (length bytes) (text_in bytes) (text_in (bytes ++ more)) text (text_stable bytes more)
string_stable hints.Blob bytes more = mapped true (length bytes) (blob_in bytes) (blob_in (bytes ++ more)) text (blob_stable bytes more)
string_stable hints.Unknown bytes more = mapped true (length bytes) (text_in bytes) (text_in (bytes ++ more)) unknown_text (text_stable bytes more)
