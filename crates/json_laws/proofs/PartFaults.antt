-- What a part's scan tells where it reads none: the bytes end inside one, or none begins there.
use Rattle.std.proofs.Common.{◌≡◌, ℕ, ℤ, suc, ◌+◌, ◌≤◌, Bool, true, false, cond, List, [], ◌∷◌, ◌++◌, length, drop, Ok, Err, refl, ap, ◌∙◌, sym, subst, arith, ◌⊎◌, inl, inr}
use Rattle.std.specs.Prelude.{nat_lt, nat_le, slice_index, ◌==◌, ◌&&◌}
use Rattle.std.proofs.lemmas.List.{append-nil}
use Rattle.thrift_value.specs.declared.kind.Kind.TheVariants as kinds
use Rattle.protocol_traits.specs.declared.fault.Fault.{Fault}
use Rattle.protocol_traits.specs.declared.fault.Reason.{Reason}
use Rattle.protocol_traits.specs.declared.fault.Reason.TheVariants as reasons
use Rattle.json_text.specs.declared.scanned.Scan.{Scan as Text}
use Rattle.json_text.specs.declared.scanned.Scan.TheVariants as texts
use Rattle.json_text.specs.Scan.{moved}
use Rattle.json_text.specs.Int.{int_at}
use Rattle.json_text.specs.Number.{number_at}
use Rattle.json_text.specs.Text.{text_at}
use Rattle.json_text.specs.Blob.{blob_at}
use Rattle.json_text_laws.specs.Judged.{Judges, GoodInt, GoodNumber, GoodBlob, IsRange}
use Rattle.json_text_laws.specs.Strings.{IsFault}
use Rattle.json_text_laws.proofs.IntLaw.{int_judged}
use Rattle.json_text_laws.proofs.NumberLaw.{number_judged}
use Rattle.json_text_laws.proofs.TextLaw.{text_judged}
use Rattle.json_text_laws.proofs.BlobLaw.{blob_judged}
use Rattle.json_protocol.specs.Scan.{Scan, fault, item, mark_at, byte_fits, word_end}
use Rattle.json_protocol.specs.Words.{begins_two, begins_three, kind_at, wide_kind_at, large_kind_at, int_in, closed, quoted_int_in, whole_in, infinity_fits, spelled, number_in, quoted_number_in, double_in, text_in, blob_in}
use Rattle.json_protocol.specs.Writing.{number}
use Rattle.json_protocol.specs.Grammar.{mark}
use Rattle.json_laws.specs.Faults.{IsSort}
use Rattle.json_laws.specs.Plans.{Whole, version_number, type_number, id_number, size_number, flag_number, number_8, number_16, number_32, number_64, least, greatest, whole_reason, Part, mark_part, whole_part, kind_part, double_part, text_part, blob_part, first_part, deep_part, nameless_part, end_part, Value, reason_of, IsThere}
use Rattle.json_laws.specs.Firsts.{NoneBegins, SomeBegins}
use Rattle.json_laws.proofs.Inverse.{is_read, is_fault}
use Rattle.json_laws.proofs.Keeping.{Stays, Blamed}
use Rattle.json_laws.proofs.KeepingWords.{mark_stable, kind_stable, whole_stable, double_stable, text_stable, blob_stable}
use Rattle.json_laws.proofs.Cut.{Cuts, mark_cuts, kind_cuts, whole_cuts, double_cuts, text_cuts, blob_cuts}
use Rattle.json_laws.proofs.Completing.{Struck, no_read, same_fault, mark_struck}
use Rattle.json_laws.proofs.WordsCut.{item_fault, Strike, Sorts, SomeWhole, whole_cut, SomeName, kind_cut, SomeDouble, double_cut, text_cut, blob_cut}
use Rattle.json_laws.proofs.PartScans.{first_scan, end_of, scan_of, range_of, IsProper, stands_read}

-- ---- the reason

-- a fault that is told right there has this reason
abbrev Only : {X : Type 0} → Reason → Scan X → Type 0
Only r (Ok x) = Unit {0}
Only r (Err f) = (f.reason ≡ reasons.Truncated) ⊎ ((f.reason ≡ r) × (f.place ≡ 0))

by_cond : {X : Type 0} → (r : Reason) (b : Bool) (x y : Scan X) → Only r x → Only r y → Only r (cond b x y)
by_cond r true x y p q = p
by_cond r false x y p q = q

word_only : {X : Type 0} → (r : Reason) (bytes : List ℕ) (size : ℕ) (x : X) → Only r (word_end bytes size x)
word_only r bytes size x = by_cond r (nat_lt (length bytes) size) _ _ (inl refl) tt

item_only : {X : Type 0} → (r : Reason) (bytes : List ℕ) (scan : Text X) → ((q : ℕ) → scan ≡ texts.Bad q → q ≡ 0) → Only r (item r bytes (moved 0 scan))
item_only r bytes (texts.Whole x n) h = tt
item_only r bytes texts.Short h = inl refl
item_only r bytes (texts.Bad q) h = let none = h q refl in inr (refl, omega (arith, none))

closed_only : {X : Type 0} → (r : Reason) (bytes : List ℕ) (scan : Text X) → Only r (closed r bytes (moved 1 scan))
closed_only r bytes (texts.Whole x n) = by_cond r (nat_le (length bytes) (1 + n)) _ _ (inl refl) (by_cond r (slice_index bytes (1 + n) == 34) _ _ tt (inr (refl, refl)))
closed_only r bytes texts.Short = inl refl
closed_only r bytes (texts.Bad q) = inr (refl, refl)

mark_only : (m : ℕ) (bytes : List ℕ) → Only reasons.BadToken (mark_at m bytes)
unfolding mark_at
mark_only m bytes = by_cond reasons.BadToken (nat_lt (length bytes) 1) _ _ (inl refl) (by_cond reasons.BadToken (slice_index bytes 0 == m) _ _ tt (inr (refl, refl)))

int_only : (r : Reason) (low high : ℤ) → IsRange low high → (bytes : List ℕ) → Only r (int_in r low high bytes)
unfolding int_in
int_only r low high range bytes = item_only r bytes (int_at low high bytes) (λ q e. (subst (Judges (GoodInt low high) bytes) e (int_judged low high range bytes)).0)

quoted_only : (r : Reason) (low high : ℤ) (bytes : List ℕ) → Only r (quoted_int_in r low high bytes)
unfolding quoted_int_in
quoted_only r low high bytes = by_cond r (nat_lt (length bytes) 1) _ _ (inl refl) (by_cond r (slice_index bytes 0 == 34) _ _ (closed_only r bytes (int_at low high (drop 1 bytes))) (inr (refl, refl)))

whole_only : (key : Bool) (r : Reason) (low high : ℤ) → IsRange low high → (bytes : List ℕ) → Only r (whole_in key r low high bytes)
whole_only true r low high range bytes = quoted_only r low high bytes
whole_only false r low high range bytes = int_only r low high range bytes

kind_only : (bytes : List ℕ) → Only reasons.BadKind (kind_at bytes)
unfolding kind_at wide_kind_at large_kind_at
kind_only bytes =
    let r = reasons.BadKind in
    by_cond r (begins_two bytes 116 102) _ _ (word_only r bytes 4 kinds.Bool)
    (by_cond r (begins_two bytes 105 56) _ _ (word_only r bytes 4 kinds.I8)
    (by_cond r (begins_three bytes 105 49 54) _ _ (word_only r bytes 5 kinds.I16)
    (by_cond r (begins_three bytes 105 51 50) _ _ (word_only r bytes 5 kinds.I32)
    (by_cond r (begins_three bytes 105 54 52) _ _ (word_only r bytes 5 kinds.I64)
    (by_cond r (begins_three bytes 100 98 108) _ _ (word_only r bytes 5 kinds.Double)
    (by_cond r (begins_three bytes 115 116 114) _ _ (word_only r bytes 5 kinds.Str)
    (by_cond r (begins_three bytes 114 101 99) _ _ (word_only r bytes 5 kinds.Struct)
    (by_cond r (begins_three bytes 109 97 112) _ _ (word_only r bytes 5 kinds.Map)
    (by_cond r (begins_three bytes 115 101 116) _ _ (word_only r bytes 5 kinds.Set)
    (by_cond r (begins_three bytes 108 115 116) _ _ (word_only r bytes 5 kinds.List) (inr (refl, refl))))))))))))

spelled_only : (r : Reason) (from : ℕ) (bytes : List ℕ) (scan : Scan ℕ) → Only r scan → Only r (spelled from bytes scan)
spelled_only r from bytes (Ok x) h = tt
spelled_only r from bytes (Err f) h = h

number_only : (bytes : List ℕ) → Only reasons.BadNumber (number_in bytes)
unfolding number_in
number_only bytes = item_only reasons.BadNumber bytes (number_at bytes) (λ q e. (subst (Judges GoodNumber bytes) e (number_judged bytes)).0)

quoted_number_only : (bytes : List ℕ) → Only reasons.BadNumber (quoted_number_in bytes)
unfolding quoted_number_in
quoted_number_only bytes =
    let r = reasons.BadNumber in
    by_cond r (nat_lt (length bytes) 1) _ _ (inl refl) (by_cond r (slice_index bytes 0 == 34) _ _ (closed_only r bytes (number_at (drop 1 bytes))) (inr (refl, refl)))

double_only : (key : Bool) (bytes : List ℕ) → Only reasons.BadNumber (double_in key bytes)
unfolding double_in
double_only key bytes =
    let r = reasons.BadNumber in
    by_cond r (begins_three bytes 78 97 78) _ _ (spelled_only r 1 bytes _ (word_only r bytes 5 3))
    (by_cond r (byte_fits bytes 0 34 && infinity_fits bytes 1) _ _ (spelled_only r 1 bytes _ (word_only r bytes 10 8))
    (by_cond r (byte_fits bytes 0 34 && byte_fits bytes 1 45 && infinity_fits bytes 2) _ _ (spelled_only r 1 bytes _ (word_only r bytes 11 9))
    (by_cond r key _ _ (spelled_only r 1 bytes _ (quoted_number_only bytes)) (spelled_only r 0 bytes _ (number_only bytes)))))

blob_only : (bytes : List ℕ) → Only reasons.BadBase64 (blob_in bytes)
unfolding blob_in
blob_only bytes = item_only reasons.BadBase64 bytes (blob_at bytes) (λ q e. (subst (Judges GoodBlob bytes) e (blob_judged bytes)).0)

first_only : (byte : ℕ) (bytes : List ℕ) → Only reasons.BadToken (first_scan byte bytes)
first_only byte [] = inl refl
first_only byte (x ∷ rest) = by_cond reasons.BadToken (x == 125) _ _ tt (by_cond reasons.BadToken (x == byte) _ _ tt (inr (refl, refl)))

end_only : (bytes : List ℕ) → Only reasons.Trailing (end_of bytes)
end_only [] = tt
end_only (x ∷ rest) = inr (refl, refl)

-- cut short, or the part's fault
abbrev Blame : Part → List ℕ → Fault → Type 0
Blame part bytes f = (f.reason ≡ reasons.Truncated) ⊎ ((f.reason ≡ reason_of part) × IsThere part bytes f.place)

blame_of : {X : Type 0} → (r : Reason) (scan : Scan X) (f : Fault) → Only r scan → scan ≡ is_fault f → (f.reason ≡ reasons.Truncated) ⊎ ((f.reason ≡ r) × (f.place ≡ 0))
blame_of r scan f h e = subst (Only r) e h

text_blame : (bytes : List ℕ) (f : Fault) → text_in bytes ≡ is_fault f → Blame text_part bytes f
unfolding text_in
text_blame bytes f e = by_item (item_fault reasons.BadString bytes (text_at bytes) f e)
  where
    by_item : ((text_at bytes ≡ texts.Short) × (fault {X = List ℕ} (length bytes) reasons.Truncated ≡ is_fault f)) ⊎ ((place : ℕ) × (text_at bytes ≡ texts.Bad place) × (fault {X = List ℕ} (0 + place) reasons.BadString ≡ is_fault f)) → Blame text_part bytes f
    by_item (inl h) = inl (sym (ap (λ (x : Fault). x.reason) (same_fault {X = List ℕ} (record { place = length bytes; reason = reasons.Truncated }) f h.1)))
    by_item (inr (place, h, e)) =
        let same = same_fault {X = List ℕ} (record { place = 0 + place; reason = reasons.BadString }) f e in
        let at : place ≡ f.place = omega (arith, ap (λ (x : Fault). x.place) same) in
        inr (sym (ap (λ (x : Fault). x.reason) same), subst (IsFault bytes) at (((text_judged bytes).2 place).0 h))

blame : (part : Part) (bytes : List ℕ) (f : Fault) → scan_of part bytes ≡ is_fault f → Blame part bytes f
blame (mark_part m) bytes f e = blame_of reasons.BadToken (mark_at m bytes) f (mark_only m bytes) e
blame (whole_part key w) bytes f e = blame_of (whole_reason w) (whole_in key (whole_reason w) (least w) (greatest w) bytes) f (whole_only key (whole_reason w) (least w) (greatest w) (range_of w) bytes) e
blame kind_part bytes f e = blame_of reasons.BadKind (kind_at bytes) f (kind_only bytes) e
blame (double_part key) bytes f e = blame_of reasons.BadNumber (double_in key bytes) f (double_only key bytes) e
blame text_part bytes f e = text_blame bytes f e
blame blob_part bytes f e = blame_of reasons.BadBase64 (blob_in bytes) f (blob_only bytes) e
blame (first_part byte) bytes f e = blame_of reasons.BadToken (first_scan byte bytes) f (first_only byte bytes) e
blame deep_part bytes f e = blame_of {X = Unit {0}} reasons.TooDeep (fault 0 reasons.TooDeep) f (inr (refl, refl)) e
blame nameless_part bytes f e = blame_of {X = Unit {0}} reasons.BadKind (fault 0 reasons.BadKind) f (inr (refl, refl)) e
blame end_part bytes f e = blame_of reasons.Trailing (end_of bytes) f (end_only bytes) e

whole_other : (w : Whole) → whole_reason w ≡ reasons.Truncated → ⊥
whole_other version_number e = absurd (cc)
whole_other type_number e = absurd (cc)
whole_other id_number e = absurd (cc)
whole_other size_number e = absurd (cc)
whole_other flag_number e = absurd (cc)
whole_other number_8 e = absurd (cc)
whole_other number_16 e = absurd (cc)
whole_other number_32 e = absurd (cc)
whole_other number_64 e = absurd (cc)

pub other : (part : Part) → reason_of part ≡ reasons.Truncated → ⊥
other (mark_part m) e = absurd (cc)
other (whole_part key w) e = whole_other w e
other kind_part e = absurd (cc)
other (double_part key) e = absurd (cc)
other text_part e = absurd (cc)
other blob_part e = absurd (cc)
other (first_part byte) e = absurd (cc)
other deep_part e = absurd (cc)
other nameless_part e = absurd (cc)
other end_part e = absurd (cc)

-- ---- how far

-- what is read lies in the bytes, and what is cut short is told at their end
pub cuts : (part : Part) (bytes : List ℕ) → Cuts (length bytes) (scan_of part bytes)
cuts (mark_part m) bytes = mark_cuts m bytes
cuts (whole_part key w) bytes = whole_cuts key (whole_reason w) (least w) (greatest w) (whole_other w) (range_of w) bytes
cuts kind_part bytes = kind_cuts bytes
cuts (double_part key) bytes = double_cuts key bytes
cuts text_part bytes = text_cuts bytes
cuts blob_part bytes = blob_cuts bytes
cuts (first_part byte) [] = λ t. refl
cuts (first_part byte) (x ∷ rest) = by_brace (x == 125) (x == byte)
  where
    by_brace : (b c : Bool) → Cuts (suc (length rest)) (cond b (is_read (true, 1)) (cond c (is_read (false, 0)) (fault 0 reasons.BadToken)))
    by_brace true c = omega arith
    by_brace false true = omega arith
    by_brace false false = λ t. absurd (cc)
cuts deep_part bytes = λ t. absurd (cc)
cuts nameless_part bytes = λ t. absurd (cc)
cuts end_part [] = omega arith
cuts end_part (x ∷ rest) = λ t. absurd (cc)

pub within : (part : Part) (bytes : List ℕ) (x : Value part) (n : ℕ) → scan_of part bytes ≡ is_read (x, n) → n ≤ length bytes
within part bytes x n e = subst (Cuts (length bytes)) e (cuts part bytes)

at_end : (part : Part) (bytes : List ℕ) (f : Fault) → scan_of part bytes ≡ is_fault f → f.reason ≡ reasons.Truncated → f.place ≡ length bytes
at_end part bytes f e = subst (Cuts (length bytes)) e (cuts part bytes)

-- ---- what is cut short begins a part

-- a fault of a sort is not cut
no_sort : (reason : Reason) (token : List ℕ) → reason ≡ reasons.Truncated → IsSort reason token → ⊥
no_sort reason token t s = absurd (subst (λ r. IsSort r token) t s)

completed : (f : Fault) (bytes token : List ℕ) → f.reason ≡ reasons.Truncated → Struck f bytes bytes token → (more : List ℕ) × (bytes ++ more ≡ token ++ [])
completed f bytes token t (inl (cut, (more, is))) = (more, is ∙ sym (append-nil token))
completed f bytes token t (inr b) = absurd (no_sort f.reason token t b.sort)

-- the same integer for another reason
other_item : (r q : Reason) (bytes : List ℕ) (scan : Text ℤ) (f : Fault) → (r ≡ reasons.Truncated → ⊥) → item r bytes (moved 0 scan) ≡ is_fault f → f.reason ≡ reasons.Truncated → item q bytes (moved 0 scan) ≡ is_fault f
other_item r q bytes (texts.Whole x n) f h e t = absurd (no_read _ f e)
other_item r q bytes texts.Short f h e t = e
other_item r q bytes (texts.Bad place) f h e t = absurd (h (ap (λ (x : Fault). x.reason) (same_fault {X = ℤ} (record { place = 0 + place; reason = r }) f e) ∙ t))

bad_cut : (r : Reason) (f : Fault) → (r ≡ reasons.Truncated → ⊥) → fault {X = ℤ} 0 r ≡ is_fault f → f.reason ≡ reasons.Truncated → ⊥
bad_cut r f h e t = h (ap (λ (x : Fault). x.reason) (same_fault {X = ℤ} (record { place = 0; reason = r }) f e) ∙ t)

other_cond : (r q : Reason) (f : Fault) (b c : Bool) (bytes : List ℕ) (scan : Text ℤ) → (r ≡ reasons.Truncated → ⊥) → f.reason ≡ reasons.Truncated
    → cond b (fault 0 reasons.Truncated) (cond c (closed r bytes (moved 1 scan)) (fault 0 r)) ≡ is_fault f → cond b (fault 0 reasons.Truncated) (cond c (closed q bytes (moved 1 scan)) (fault 0 q)) ≡ is_fault f
other_cond r q f true c bytes scan h t e = e
other_cond r q f false false bytes scan h t e = absurd (bad_cut r f h e t)
other_cond r q f false true bytes (texts.Whole x n) h t e = by_end (nat_le (length bytes) (1 + n)) (slice_index bytes (1 + n) == 34) e
  where
    by_end : (b c : Bool) → cond b (fault (length bytes) reasons.Truncated) (cond c (is_read (x, 1 + n + 1)) (fault 0 r)) ≡ is_fault f → cond b (fault (length bytes) reasons.Truncated) (cond c (is_read (x, 1 + n + 1)) (fault 0 q)) ≡ is_fault f
    by_end true c g = g
    by_end false true g = absurd (no_read _ f g)
    by_end false false g = absurd (bad_cut r f h g t)
other_cond r q f false true bytes texts.Short h t e = e
other_cond r q f false true bytes (texts.Bad place) h t e = absurd (bad_cut r f h e t)

other_whole : (key : Bool) (r q : Reason) (low high : ℤ) (bytes : List ℕ) (f : Fault) → (r ≡ reasons.Truncated → ⊥) → whole_in key r low high bytes ≡ is_fault f → f.reason ≡ reasons.Truncated → whole_in key q low high bytes ≡ is_fault f
unfolding int_in quoted_int_in
other_whole true r q low high bytes f h e t = other_cond r q f (nat_lt (length bytes) 1) (slice_index bytes 0 == 34) bytes (int_at low high (drop 1 bytes)) h t e
other_whole false r q low high bytes f h e t = other_item r q bytes (int_at low high bytes) f h e t

sorts : (key : Bool) (low high : ℤ) → Sorts reasons.BadNumber (SomeWhole key low high)
sorts key low high = record { plain = (λ left. refl); sort = (λ token is. inl (key, is.1, is.0, is.2.spells, is.3)) }

whole_some : (key : Bool) (w : Whole) (bytes : List ℕ) (f : Fault) → whole_in key (whole_reason w) (least w) (greatest w) bytes ≡ is_fault f → f.reason ≡ reasons.Truncated → SomeBegins (whole_part key w) bytes
whole_some key w bytes f e t =
    of_strike (whole_cut key reasons.BadNumber (least w) (greatest w) (range_of w) (sorts key (least w) (greatest w)) (λ b g h token is. tt) bytes f (other_whole key (whole_reason w) reasons.BadNumber (least w) (greatest w) bytes f (whole_other w) e t))
  where
    of_strike : Strike f bytes (SomeWhole key (least w) (greatest w)) → SomeBegins (whole_part key w) bytes
    of_strike (token, (digits, z, i, same), struck) =
        let c = completed f bytes token t struck in
        (c.0, z, length (number key digits), (digits, [], c.1 ∙ ap (λ k. k ++ []) same, i.spells, i.least, i.most, (λ _. tt), refl))

kind_some : (bytes : List ℕ) (f : Fault) → kind_at bytes ≡ is_fault f → f.reason ≡ reasons.Truncated → SomeBegins kind_part bytes
kind_some bytes f e t = of_strike (kind_cut bytes f e)
  where
    of_strike : Strike f bytes SomeName → SomeBegins kind_part bytes
    of_strike (token, (kind, (same, named)), struck) = let c = completed f bytes token t struck in (c.0, kind, _, ([], c.1 ∙ ap (λ k. k ++ []) same, named, refl))

double_some : (key : Bool) (bytes : List ℕ) (f : Fault) → double_in key bytes ≡ is_fault f → f.reason ≡ reasons.Truncated → SomeBegins (double_part key) bytes
double_some key bytes f e t = of_strike (double_cut key bytes f e)
  where
    of_strike : Strike f bytes (SomeDouble key) → SomeBegins (double_part key) bytes
    of_strike (token, (digits, is), struck) = let c = completed f bytes token t struck in (c.0, digits, length token, (token, [], c.1, is, (λ _. tt), refl))

some_begins : (part : Part) (bytes : List ℕ) (f : Fault) → scan_of part bytes ≡ is_fault f → f.reason ≡ reasons.Truncated → SomeBegins part bytes
some_begins (mark_part m) bytes f e t = let c = completed f bytes (mark m) t (mark_struck m bytes f e) in (c.0, tt, 1, ([], c.1, refl))
some_begins (whole_part key w) bytes f e t = whole_some key w bytes f e t
some_begins kind_part bytes f e t = kind_some bytes f e t
some_begins (double_part key) bytes f e t = double_some key bytes f e t
some_begins text_part bytes f e t =
    let s = text_cut bytes f e in
    let c = completed f bytes s.token t s.struck in
    (c.0, s.meant, length s.token, (s.token, [], c.1, refl, s.spells))
some_begins blob_part bytes f e t =
    let s = blob_cut bytes f e in
    let c = completed f bytes s.token t s.struck in
    (c.0, s.meant, length s.token, (s.token, [], c.1, refl, s.spells))
some_begins (first_part byte) [] f e t = (125 ∷ [], true, 1, inl ([], refl, refl, refl))
some_begins (first_part byte) (x ∷ rest) f e t = absurd (first_never (x == 125) (x == byte) e)
  where
    first_never : (b c : Bool) → cond b (is_read (true, 1)) (cond c (is_read (false, 0)) (fault 0 reasons.BadToken)) ≡ is_fault f → ⊥
    first_never true c g = no_read _ f g
    first_never false true g = no_read _ f g
    first_never false false g = let same = ap (λ (x : Fault). x.reason) (same_fault {X = Bool} (record { place = 0; reason = reasons.BadToken }) f g) ∙ t in absurd (cc)
some_begins deep_part bytes f e t = let same = ap (λ (x : Fault). x.reason) (same_fault {X = Unit {0}} (record { place = 0; reason = reasons.TooDeep }) f e) ∙ t in absurd (cc)
some_begins nameless_part bytes f e t = let same = ap (λ (x : Fault). x.reason) (same_fault {X = Unit {0}} (record { place = 0; reason = reasons.BadKind }) f e) ∙ t in absurd (cc)
some_begins end_part [] f e t = absurd (no_read _ f e)
some_begins end_part (x ∷ rest) f e t = let same = ap (λ (x : Fault). x.reason) (same_fault {X = Unit {0}} (record { place = 0; reason = reasons.Trailing }) f e) ∙ t in absurd (cc)

-- ---- where none begins

blamed_by : {X : Type 0} → (sure : Bool) (size : ℕ) (scan longer : Scan X) (f : Fault) → scan ≡ is_fault f → Stays sure size scan longer → Blamed size f longer
blamed_by sure size scan longer f e h = subst (λ s. Stays sure size s longer) e h

always : {X : Type 0} → (size : ℕ) (f : Fault) (longer : Scan X) → longer ≡ Err f → Blamed size f longer
always size f longer e = inr (f, e, refl, λ _. refl)

blamed : (part : Part) (bytes more : List ℕ) (f : Fault) → scan_of part bytes ≡ is_fault f → Blamed (length bytes) f (scan_of part (bytes ++ more))
blamed (mark_part m) bytes more f e = blamed_by true (length bytes) (mark_at m bytes) (mark_at m (bytes ++ more)) f e (mark_stable m bytes more)
blamed (whole_part key w) bytes more f e =
    let r = whole_reason w in
    blamed_by false (length bytes) (whole_in key r (least w) (greatest w) bytes) (whole_in key r (least w) (greatest w) (bytes ++ more)) f e (whole_stable key r (least w) (greatest w) (range_of w) bytes more)
blamed kind_part bytes more f e = blamed_by true (length bytes) (kind_at bytes) (kind_at (bytes ++ more)) f e (kind_stable bytes more)
blamed (double_part key) bytes more f e = blamed_by false (length bytes) (double_in key bytes) (double_in key (bytes ++ more)) f e (double_stable key bytes more)
blamed text_part bytes more f e = blamed_by true (length bytes) (text_in bytes) (text_in (bytes ++ more)) f e (text_stable bytes more)
blamed blob_part bytes more f e = blamed_by true (length bytes) (blob_in bytes) (blob_in (bytes ++ more)) f e (blob_stable bytes more)
blamed (first_part byte) [] more f e = inl (sym (ap (λ (x : Fault). x.reason) (same_fault {X = Bool} (record { place = 0; reason = reasons.Truncated }) f e)))
blamed (first_part byte) (x ∷ rest) more f e = always (suc (length rest)) f (first_scan byte (x ∷ (rest ++ more))) e
blamed deep_part bytes more f e = always (length bytes) f _ e
blamed nameless_part bytes more f e = always (length bytes) f _ e
blamed end_part [] more f e = absurd (no_read _ f e)
blamed end_part (x ∷ rest) more f e = always (suc (length rest)) f (end_of (x ∷ (rest ++ more))) e

none_begins : (part : Part) (bytes : List ℕ) (f : Fault) → IsProper part → scan_of part bytes ≡ is_fault f → (f.reason ≡ reasons.Truncated → ⊥) → NoneBegins part bytes
none_begins part bytes f proper e h more x n stands = by_blame (blamed part bytes more f e)
  where
    by_blame : Blamed (length bytes) f (scan_of part (bytes ++ more)) → ⊥
    by_blame (inl t) = h t
    by_blame (inr (g, longer, r, p)) = no_read (x, n) g (sym (stands_read part (bytes ++ more) x n proper stands) ∙ longer)

-- ---- what is told

abbrev pub Told : Part → List ℕ → Fault → Type 0
Told part bytes f =
    ((f.reason ≡ reasons.Truncated) × (f.place ≡ length bytes) × SomeBegins part bytes) ⊎ ((f.reason ≡ reason_of part) × IsThere part bytes f.place × NoneBegins part bytes)

pub told : (part : Part) (bytes : List ℕ) (f : Fault) → IsProper part → scan_of part bytes ≡ is_fault f → Told part bytes f
told part bytes f proper e = by_blame (blame part bytes f e)
  where
    by_blame : Blame part bytes f → Told part bytes f
    by_blame (inl t) = inl (t, at_end part bytes f e t, some_begins part bytes f e t)
    by_blame (inr b) = inr (b.0, b.1, none_begins part bytes f proper e (λ t. other part (sym b.0 ∙ t)))

-- a fault stands at one place of a part
pub one_place : (part : Part) (bytes : List ℕ) (i j : ℕ) → IsThere part bytes i → IsThere part bytes j → i ≡ j
one_place text_part bytes i j a b = let p = ((text_judged bytes).2 i).1 a in let q = ((text_judged bytes).2 j).1 b in (let same = sym p ∙ q in cc)
one_place (mark_part m) bytes i j a b = a ∙ sym b
one_place (whole_part key w) bytes i j a b = a ∙ sym b
one_place kind_part bytes i j a b = a ∙ sym b
one_place (double_part key) bytes i j a b = a ∙ sym b
one_place blob_part bytes i j a b = a ∙ sym b
one_place (first_part byte) bytes i j a b = a ∙ sym b
one_place deep_part bytes i j a b = a ∙ sym b
one_place nameless_part bytes i j a b = a ∙ sym b
one_place end_part bytes i j a b = a ∙ sym b
