-- A word that the bytes end inside is made whole by a few bytes, and they end it.
use Rattle.std.proofs.Common.{◌≡◌, ℕ, ℤ, zero, suc, pos, ◌+◌, ◌≤◌, ◌<◌, Bool, true, false, cond, List, [], ◌∷◌, ◌++◌, length, drop, Option, Some, None, refl, sym, ap, ◌∙◌, subst, arith, ◌⊎◌, inl, inr, length-append, length-drop}
use Rattle.std.specs.Prelude.{int_lt, not, nat_lt, slice_index, ◌==◌, ◌&&◌}
use Rattle.std.proofs.lemmas.List.{append-nil}
use Rattle.std.proofs.lemmas.Bool.Decides.{nat_tests}
use Rattle.base64.specs.Rfc4648.{encode_symbols}
use Rattle.json_text.specs.declared.scanned.Scan.{Scan}
use Rattle.json_text.specs.declared.scanned.Scan.TheVariants.{Whole, Short, Bad}
use Rattle.json_text.specs.declared.number.Form.{Form}
use Rattle.json_text.specs.declared.number.Form.TheVariants.{Number, Front, Other}
use Rattle.json_text.specs.Int.{is_int_byte, magnitude, integer, within, can_grow, run_scan, int_run, int_at}
use Rattle.json_text.specs.Number.{is_number_byte, unsigned_in, number_in, number_run, form_scan, number_at}
use Rattle.json_text.specs.Text.{text_at}
use Rattle.json_text.specs.Blob.{blob_at}
use Rattle.json_text.specs.Laws.{StringFits, text_fits}
use Rattle.json_text.specs.Lengths.{BlobFits, blob_fits}
use Rattle.json_text.specs.Grammar.{Piece, piece_spelled, IsPiece, ArePieces, all_spelled, all_meant, IsNumber, SpellsText, SpellsBlob}
use Rattle.json_text_laws.specs.Judged.{NoneGood, GoodText, GoodBlob}
use Rattle.json_text_laws.specs.Strings.{character_size, piece_size, begins_high, IsFault}
use Rattle.json_text_laws.proofs.Fronts.{Full, Stops, full_or_stops}
use Rattle.json_text_laws.proofs.Parts.{append_more}
use Rattle.json_text_laws.proofs.Numbers.{number_part}
use Rattle.json_text_laws.proofs.NumberLaw.{number_sound}
use Rattle.json_text_laws.proofs.Read.{no_text, text_read}
use Rattle.json_text_laws.proofs.Refused.{text_refuses}
use Rattle.json_text_laws.proofs.Sizes.{piece_sized}
use Rattle.json_text_laws.proofs.TextLaw.{text_judged}
use Rattle.json_text_laws.proofs.BlobLaw.{whole_good, good_read, short_grows}

-- ---- two ways to part the same bytes

pub front_in : (a b c d : List ℕ) → a ++ b ≡ c ++ d → length a ≤ length c → a ++ drop (length a) c ≡ c
front_in [] b c d e l = refl
front_in (x ∷ a) b [] d e l = absurd (omega arith)
front_in (x ∷ a) b (y ∷ c) d e l =
    let first : x ≡ y = cc in
    let rest : a ++ b ≡ c ++ d = cc in
    ap (λ k. k ∷ (a ++ drop (length a) c)) first ∙ ap (λ r. y ∷ r) (front_in a b c d rest (omega arith))

pub rest_in : (a b c d : List ℕ) → a ++ b ≡ c ++ d → length c ≤ length a → (a ≡ c ++ drop (length c) a) × (drop (length c) a ++ b ≡ d)
rest_in a b [] d e l = (refl, e)
rest_in [] b (y ∷ c) d e l = absurd (omega arith)
rest_in (x ∷ a) b (y ∷ c) d e l =
    let first : x ≡ y = cc in
    let rest : a ++ b ≡ c ++ d = cc in
    let r = rest_in a b c d rest (omega arith) in
    (ap (λ k. k ∷ a) first ∙ ap (λ r. y ∷ r) r.0, r.1)

by_order : (m n : ℕ) → (m ≤ n) ⊎ (n < m)
by_order zero n = inl (omega arith)
by_order (suc m) zero = inr (omega arith)
by_order (suc m) (suc n) = later (by_order m n)
  where
    later : (m ≤ n) ⊎ (n < m) → (suc m ≤ suc n) ⊎ (suc n < suc m)
    later (inl h) = inl (omega arith)
    later (inr h) = inr (omega arith)

-- ---- integers

-- an integer that is cut has no digit
pub int_short : (low high : ℤ) (bytes : List ℕ) → int_at low high bytes ≡ Short → (bytes ≡ []) ⊎ ((bytes ≡ 45 ∷ []) × (int_lt low (pos 0) ≡ true))
unfolding int_at
int_short low high bytes e = of_found (within low high (integer (int_run bytes))) e
  where
    of_bytes : (b : List ℕ) → can_grow low b ≡ true → (b ≡ []) ⊎ ((b ≡ 45 ∷ []) × (int_lt low (pos 0) ≡ true))
    of_bytes [] g = inl refl
    of_bytes (x ∷ []) g = let is : x ≡ 45 = grind (arith, nat_tests) in inr (ap (λ k. k ∷ []) is, grind (arith, nat_tests))
    of_bytes (x ∷ y ∷ b) g = absurd (grind (arith, nat_tests))

    both : (a b : Bool) → cond {A = Scan ℤ} (a && b) Short (Bad 0) ≡ Short → (a ≡ true) × (b ≡ true)
    both true true h = (refl, refl)
    both true false h = absurd (cc)
    both false b h = absurd (cc)

    of_run : Full is_int_byte bytes ⊎ Stops is_int_byte bytes → ((length (int_run bytes) == length bytes) ≡ true) × (can_grow low (int_run bytes) ≡ true) → (bytes ≡ []) ⊎ ((bytes ≡ 45 ∷ []) × (int_lt low (pos 0) ≡ true))
    of_run (inl full) t = of_bytes bytes (ap (can_grow low) (sym full.whole) ∙ t.1)
    of_run (inr stops) t = let less = stops.shorter in let same = t.0 in absurd (grind (arith, nat_tests))

    of_found : (found : Option ℤ) → run_scan low (int_run bytes) bytes found ≡ Short → (bytes ≡ []) ⊎ ((bytes ≡ 45 ∷ []) × (int_lt low (pos 0) ≡ true))
    of_found (Some v) h = absurd (cc)
    of_found None h = of_run (full_or_stops is_int_byte bytes) (both (length (int_run bytes) == length bytes) (can_grow low (int_run bytes)) h)

-- ---- numbers

-- a number that is cut is one with a zero behind
pub number_goes : (bytes : List ℕ) → number_at bytes ≡ Short → IsNumber (bytes ++ 48 ∷ [])
unfolding number_at
number_goes bytes e = of_form (number_in (number_run bytes)) refl e
  where
    ends : Bool
    ends = length (number_run bytes) == length bytes

    at_end : (b : Bool) → cond {A = Scan ℕ} b Short (Bad 0) ≡ Short → b ≡ true
    at_end true h = refl
    at_end false h = absurd (cc)

    of_run : Full is_number_byte bytes ⊎ Stops is_number_byte bytes → number_in (number_run bytes) ≡ Front → ends ≡ true → IsNumber (bytes ++ 48 ∷ [])
    of_run (inl full) front h = number_sound (bytes ++ 48 ∷ []) (number_part.extends bytes (ap number_in (sym full.whole) ∙ front))
    of_run (inr stops) front h = let less = stops.shorter in absurd (grind (arith, nat_tests))

    of_form : (form : Form) → number_in (number_run bytes) ≡ form → form_scan form (length (number_run bytes)) ends ≡ Short → IsNumber (bytes ++ 48 ∷ [])
    of_form Number h s = absurd (cc)
    of_form Front h s = of_run (full_or_stops is_number_byte bytes) h (at_end ends s)
    of_form Other h s = absurd (cc)

-- ---- strings

cond_most : (n : ℕ) (b : Bool) (x y : ℕ) → x ≤ n → y ≤ n → cond b x y ≤ n
cond_most n true x y p q = p
cond_most n false x y p q = q

size_most : (bytes : List ℕ) → piece_size bytes ≤ 12
unfolding piece_size
size_most bytes =
    let x = slice_index bytes 0 in
    cond_most 12 (not (x == 92)) (character_size x) _ (character_most x)
    (cond_most 12 (not (slice_index bytes 1 == 117)) 2 _ (omega arith) (cond_most 12 (begins_high (drop 2 bytes)) 12 6 (omega arith) (omega arith)))
  where
    character_most : (x : ℕ) → character_size x ≤ 12
    character_most x =
        cond_most 12 (nat_lt x 0xC2) 1 _ (omega arith) (cond_most 12 (nat_lt x 0xE0) 2 _ (omega arith) (cond_most 12 (nat_lt x 0xF0) 3 _ (omega arith) (cond_most 12 (nat_lt x 0xF5) 4 1 (omega arith) (omega arith))))

piece_most : (p : Piece) → IsPiece p → length (piece_spelled p) ≤ 12
piece_most p is = omega (arith, piece_sized p [] is, size_most (piece_spelled p ++ []))

-- pieces that the bytes end inside, and how they end
record Covered (bytes : List ℕ) : Type 0 where
  ps : List Piece
  are : ArePieces ps
  more : List ℕ
  laid : bytes ++ more ≡ all_spelled ps
  few : length more ≤ 11

covered : (ps : List Piece) (bytes more tail : List ℕ) → ArePieces ps → bytes ++ more ≡ all_spelled ps ++ tail → length bytes ≤ length (all_spelled ps) → Covered bytes
covered ps [] more tail are e l = record { ps = []; are = tt; more = []; laid = refl; few = omega arith }
covered [] (x ∷ bytes) more tail are e l = absurd (omega arith)
covered (p ∷ ps) (x ∷ b) more tail are e l =
    let apart : (x ∷ b) ++ more ≡ piece_spelled p ++ (all_spelled ps ++ tail) = e ∙ append_more (piece_spelled p) (all_spelled ps) tail in
    by_piece apart (λ b same less. covered ps b more tail are.1 same less) (by_order (length (x ∷ b)) (length (piece_spelled p)))
  where
    by_piece : (x ∷ b) ++ more ≡ piece_spelled p ++ (all_spelled ps ++ tail) → ((c : List ℕ) → c ++ more ≡ all_spelled ps ++ tail → length c ≤ length (all_spelled ps) → Covered c) → (length (x ∷ b) ≤ length (piece_spelled p)) ⊎ (length (piece_spelled p) < length (x ∷ b)) → Covered (x ∷ b)
    by_piece apart go (inl h) = record {
      ps = p ∷ [];
      are = (are.0, tt);
      more = drop (length (x ∷ b)) (piece_spelled p);
      laid = front_in (x ∷ b) more (piece_spelled p) (all_spelled ps ++ tail) apart h ∙ sym (append-nil (piece_spelled p));
      few = omega (arith, piece_most p are.0, length-drop (length (x ∷ b)) (piece_spelled p));
    }
    by_piece apart go (inr h) =
        let r = rest_in (x ∷ b) more (piece_spelled p) (all_spelled ps ++ tail) apart (omega arith) in
        let left = drop (length (piece_spelled p)) (x ∷ b) in
        let less : length left ≤ length (all_spelled ps) = omega (arith, l, length-drop (length (piece_spelled p)) (x ∷ b), length-append (piece_spelled p) (all_spelled ps)) in
        let c = go left r.1 less in
        record {
          ps = p ∷ c.ps;
          are = (are.0, c.are);
          more = c.more;
          laid = ap (λ b. b ++ c.more) r.0 ∙ append_more (piece_spelled p) left c.more ∙ ap (λ b. piece_spelled p ++ b) c.laid;
          few = c.few;
        }

-- a string that is cut is one with these few bytes behind
pub record TextGoes (bytes : List ℕ) : Type 0 where
  pub more : List ℕ
  pub meant : List ℕ
  pub spells : SpellsText meant (bytes ++ more)
  pub few : length more ≤ 12
  pub long : length meant + 2 ≤ length (bytes ++ more)

meant_long : (meant token : List ℕ) → SpellsText meant token → length meant + 2 ≤ length token
meant_long meant token spells =
    let good : GoodText token meant (length token) = (token, [], sym (append-nil token), refl, spells) in
    (subst (StringFits (length token)) (text_read token meant (length token) good) (text_fits token)).0

of_covered : (bytes : List ℕ) → Covered bytes → TextGoes (34 ∷ bytes)
of_covered bytes c =
    let whole : (34 ∷ bytes) ++ (c.more ++ 34 ∷ []) ≡ 34 ∷ (all_spelled c.ps ++ 34 ∷ []) = ap (λ r. 34 ∷ r) (sym (append_more bytes c.more (34 ∷ [])) ∙ ap (λ r. r ++ 34 ∷ []) c.laid) in
    let spells : SpellsText (all_meant c.ps) ((34 ∷ bytes) ++ (c.more ++ 34 ∷ [])) = (c.ps, c.are, refl, whole) in
    record { more = c.more ++ 34 ∷ []; meant = all_meant c.ps; spells = spells; few = omega (arith, c.few, length-append c.more (34 ∷ [])); long = meant_long (all_meant c.ps) ((34 ∷ bytes) ++ (c.more ++ 34 ∷ [])) spells }

-- what stands there is a quote
first_there : (left others tail : List ℕ) → 1 ≤ length left → left ++ others ≡ 34 ∷ tail → (r : List ℕ) × (left ≡ 34 ∷ r)
first_there [] others tail some e = absurd (omega arith)
first_there (y ∷ left) others tail some e = let same : y ≡ 34 = cc in (left, ap (λ k. k ∷ left) same)

pub text_goes : (bytes : List ℕ) → text_at bytes ≡ Short → TextGoes bytes
text_goes [] e = record { more = 34 ∷ 34 ∷ []; meant = []; spells = ([], tt, refl, refl); few = omega arith; long = omega arith }
text_goes (x ∷ bytes) e =
    let j = (text_judged (x ∷ bytes)).1.0 e in
    of_some j.0 j.1.0 j.1.1 j.1.2 j.1.3
  where
    of_some : NoneGood GoodText (x ∷ bytes) → (more meant : List ℕ) (after : ℕ) → GoodText ((x ∷ bytes) ++ more) meant after → TextGoes (x ∷ bytes)
    of_some none more meant after (front, rest, is, size, (ps, are, means, spelled)) =
        let all : x ∷ (bytes ++ more) ≡ 34 ∷ (all_spelled ps ++ (34 ∷ rest)) = is ∙ ap (λ f. f ++ rest) spelled ∙ ap (λ r. 34 ∷ r) (append_more (all_spelled ps) (34 ∷ []) rest) in
        let first : x ≡ 34 = cc in
        let apart : bytes ++ more ≡ all_spelled ps ++ (34 ∷ rest) = cc in
        by_long first apart (by_order (length bytes) (length (all_spelled ps)))
      where
        by_long : x ≡ 34 → bytes ++ more ≡ all_spelled ps ++ (34 ∷ rest) → (length bytes ≤ length (all_spelled ps)) ⊎ (length (all_spelled ps) < length bytes) → TextGoes (x ∷ bytes)
        by_long first apart (inl h) = subst (λ y. TextGoes (y ∷ bytes)) (sym first) (of_covered bytes (covered ps bytes more (34 ∷ rest) are apart h))
        by_long first apart (inr h) =
            let r = rest_in bytes more (all_spelled ps) (34 ∷ rest) apart (omega arith) in
            let q = first_there (drop (length (all_spelled ps)) bytes) more rest (omega (arith, h, length-drop (length (all_spelled ps)) bytes)) r.1 in
            let laid : x ∷ bytes ≡ (34 ∷ (all_spelled ps ++ 34 ∷ [])) ++ q.0 =
            ap (λ y. y ∷ bytes) first ∙ ap (λ b. 34 ∷ b) (r.0 ∙ ap (λ b. all_spelled ps ++ b) q.1 ∙ sym (append_more (all_spelled ps) (34 ∷ []) q.0)) in
            absurd (none (all_meant ps) (length (34 ∷ (all_spelled ps ++ 34 ∷ []))) (34 ∷ (all_spelled ps ++ 34 ∷ []), q.0, laid, refl, (ps, are, refl, refl)))

-- ---- base64

pub record BlobGoes (bytes : List ℕ) : Type 0 where
  pub more : List ℕ
  pub meant : List ℕ
  pub spells : SpellsBlob meant (bytes ++ more)
  pub few : length more ≤ 5
  pub long : length meant ≤ length (bytes ++ more)

decoded_most : (meant token : List ℕ) → SpellsBlob meant token → length meant ≤ length token
decoded_most meant token spells =
    let good : GoodBlob token meant (length token) = (token, [], sym (append-nil token), refl, spells) in
    (subst (BlobFits (length token)) (good_read token meant (length token) good) (blob_fits token)).0

pub blob_goes : (bytes : List ℕ) → blob_at bytes ≡ Short → BlobGoes bytes
blob_goes bytes e =
    let g = short_grows bytes e in
    let good = whole_good (bytes ++ g.0) g.1 g.2 g.3 in
    of_front g.0 g.1 good.0 good.1 g.4 good.2 good.4 (by_order (length bytes) (length good.0))
  where
    of_front : (more meant front rest : List ℕ) → length more ≤ 5 → bytes ++ more ≡ front ++ rest → SpellsBlob meant front → (length bytes ≤ length front) ⊎ (length front < length bytes) → BlobGoes bytes
    of_front more meant front rest few is spells (inl h) =
        let whole = front_in bytes more front rest is h in
        let spelled : SpellsBlob meant (bytes ++ drop (length bytes) front) = subst (SpellsBlob meant) (sym whole) spells in
        record {
          more = drop (length bytes) front;
          meant = meant;
          spells = spelled;
          few = omega (arith, few, ap length is, length-append bytes more, length-append front rest, length-drop (length bytes) front);
          long = decoded_most meant (bytes ++ drop (length bytes) front) spelled;
        }
    of_front more meant front rest few is spells (inr h) =
        let r = rest_in bytes more front rest is (omega arith) in
        let good : GoodBlob bytes meant (length front) = (front, drop (length front) bytes, r.0, refl, spells) in
        let wrong : Short ≡ Whole meant (length front) = sym e ∙ good_read bytes meant (length front) good in
        absurd (cc)

-- ---- where nothing stands, no scan is bad

pub int_nothing : (low high : ℤ) → int_at low high [] ≡ Short
unfolding int_at integer magnitude
int_nothing low high = refl

pub number_nothing : number_at [] ≡ Short
unfolding number_at number_in unsigned_in
number_nothing = refl

pub blob_nothing : blob_at [] ≡ Short
unfolding blob_at
blob_nothing = refl

-- a string is bad before its end
pub text_inside : (bytes : List ℕ) (place : ℕ) → text_at bytes ≡ Bad place → 1 ≤ length (drop place bytes)
text_inside bytes place e = of_fault (((text_judged bytes).2 place).0 e)
  where
    of_bytes : (b : List ℕ) → text_at b ≡ Bad place → 1 ≤ length b
    of_bytes [] h = let wrong : Short ≡ Bad place = sym no_text ∙ h in absurd (cc)
    of_bytes (x ∷ b) h = omega arith

    -- behind whole pieces stands something
    by_rest : (ps : List Piece) (rest : List ℕ) → ArePieces ps → bytes ≡ 34 ∷ (all_spelled ps ++ rest) → place ≡ 1 + length (all_spelled ps) → 1 ≤ length (drop place bytes)
    by_rest ps [] are is at =
        let more : List ℕ = 34 ∷ [] in
        let whole : bytes ++ more ≡ 34 ∷ (all_spelled ps ++ more) = ap (λ b. b ++ more) is ∙ ap (λ r. 34 ∷ r) (ap (λ r. r ++ more) (append-nil (all_spelled ps))) in
        let good : GoodText (bytes ++ more) (all_meant ps) (length (bytes ++ more)) = (bytes ++ more, [], sym (append-nil (bytes ++ more)), refl, (ps, are, refl, whole)) in
        let wrong : Bad place ≡ Whole (all_meant ps) (length (bytes ++ more)) = sym (text_refuses bytes more place e) ∙ text_read (bytes ++ more) (all_meant ps) (length (bytes ++ more)) good in
        absurd (cc)
    by_rest ps (x ∷ rest) are is at =
        omega (arith, length-drop place bytes, ap length is, length-append (all_spelled ps) (x ∷ rest), at)

    of_fault : IsFault bytes place → 1 ≤ length (drop place bytes)
    of_fault (inl (none, n)) = let some = of_bytes bytes e in omega (arith, some, none, length-drop place bytes)
    of_fault (inr ((ps, rest, are, is, at), n)) = by_rest ps rest are is at

-- no bytes
pub no_blob : SpellsBlob [] (34 ∷ 34 ∷ [])
unfolding encode_symbols
no_blob = (0, tt, inl refl, refl)
