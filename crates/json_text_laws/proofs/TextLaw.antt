-- What the scan of a string tells is so, each exactly where.
use Rattle.std.proofs.Common.{◌≡◌, ℕ, zero, suc, ◌+◌, ◌≤◌, true, false, List, [], ◌∷◌, ◌++◌, length, take, drop, refl, sym, ap, ◌∙◌, subst, arith, ◌⊎◌, inl, inr, length-take}
use Rattle.std.specs.Prelude.{nat_lt, ◌==◌}
use Rattle.std.proofs.lemmas.List.{take-append-drop, append-nil, take_all}
use Rattle.std.proofs.Math.Seq.{take-append-add}
use Rattle.std.proofs.lemmas.Bool.Decides.{nat_tests}
use Rattle.json_text.specs.declared.scanned.Scan.{Scan}
use Rattle.json_text.specs.declared.scanned.Scan.TheVariants.{Whole, Short, Bad}
use Rattle.json_text.specs.Scan.{moved}
use Rattle.json_text.specs.Text.{behind, pieces_at, text_at}
use Rattle.json_text.specs.Grammar.{Piece, IsPiece, piece_spelled, piece_meant, ArePieces, all_spelled, all_meant}
use Rattle.json_text_laws.proofs.Choices.{cond_false, either_way}
use Rattle.json_text_laws.proofs.Parts.{append_more, take_front, drop_front}
use Rattle.json_text_laws.proofs.Strings.{quote_on, piece_on, all_on}
use Rattle.json_text_laws.proofs.Read.{Ends, was, is_eq, are_append, spelled_append, pieces_invert, no_text, some_text, unmoved, of_ends, text_good, text_read}
use Rattle.json_text_laws.proofs.Refused.{pieces_refuse, was_bad, text_refuses, none_good}
use Rattle.json_text_laws.proofs.Open.{Open}
use Rattle.json_text_laws.proofs.Sizes.{sized_quote, piece_sized, cut_sized, piece_some}
use Rattle.json_text_laws.proofs.Places.{Fronted, Stand, fronted}
use Rattle.json_text_laws.specs.Judged.{NoneGood, GoodText}
use Rattle.json_text_laws.specs.Strings.{piece_size, NoneBegins, SomeBegins, IsFault, JudgesText}

-- ---- continuations

-- pieces and a closing quote
record Goes (bytes : List ℕ) : Type 0 where
  more : List ℕ
  ps : List Piece
  tail : List ℕ
  are : ArePieces ps
  laid : bytes ++ more ≡ all_spelled ps ++ 34 ∷ tail

goes_some : (bytes : List ℕ) → Goes bytes → SomeBegins (34 ∷ bytes)
goes_some bytes g =
    let ends : Ends (bytes ++ g.more) (all_meant g.ps) (length (all_spelled g.ps) + 1) = record { ps = g.ps; rest = g.tail; are = g.are; spells = g.laid; means = refl; long = refl } in
    (g.more, all_meant g.ps, 1 + (length (all_spelled g.ps) + 1), of_ends (bytes ++ g.more) (all_meant g.ps) (1 + (length (all_spelled g.ps) + 1)) (length (all_spelled g.ps) + 1) ends refl)

-- behind whole pieces
goes_behind : (ps : List Piece) (bytes : List ℕ) → ArePieces ps → Goes bytes → Goes (all_spelled ps ++ bytes)
goes_behind ps bytes are g = record {
  more = g.more;
  ps = ps ++ g.ps;
  tail = g.tail;
  are = are_append ps g.ps are g.are;
  laid =
      append_more (all_spelled ps) bytes g.more ∙ ap (λ r. all_spelled ps ++ r) g.laid ∙ sym (append_more (all_spelled ps) (all_spelled g.ps) (34 ∷ g.tail))
      ∙ ap (λ l. l ++ 34 ∷ g.tail) (sym (spelled_append ps g.ps));
}

one_spelled : (p : Piece) → all_spelled (p ∷ []) ≡ piece_spelled p
one_spelled p = append-nil (piece_spelled p)

open_goes : (bytes : List ℕ) → Open bytes → Goes bytes
open_goes bytes (inl e) = record { more = 34 ∷ []; ps = []; tail = []; are = tt; laid = ap (λ l. l ++ 34 ∷ []) e }
open_goes bytes (inr (more, p, is, laid)) = record {
  more = more ++ 34 ∷ [];
  ps = p ∷ [];
  tail = [];
  are = (is, tt);
  laid = sym (append_more bytes more (34 ∷ [])) ∙ ap (λ l. l ++ 34 ∷ []) (laid ∙ sym (one_spelled p));
}

quoted : (rest : List ℕ) → text_at (34 ∷ rest) ≡ moved 1 (pieces_at rest)
quoted rest = some_text 34 rest

-- what the scan tells behind the quote is what it tells behind the pieces
past : (ps : List Piece) (rest : List ℕ) → ArePieces ps → text_at (34 ∷ (all_spelled ps ++ rest)) ≡ moved 1 (behind (all_meant ps) (length (all_spelled ps)) (pieces_at rest))
past ps rest are = quoted (all_spelled ps ++ rest) ∙ ap (moved 1) (all_on ps rest are)

-- ---- Short

short_goes : (bytes : List ℕ) (rest : List ℕ) (ps : List Piece) → ArePieces ps → bytes ≡ all_spelled ps ++ rest → text_at (34 ∷ bytes) ≡ Short → Stand rest → Goes rest
short_goes bytes rest ps are laid e (inl (more, is)) =
    let wrong = sym (ap (λ l. text_at (34 ∷ l)) laid ∙ past ps rest are ∙ ap (λ l. moved 1 (behind (all_meant ps) (length (all_spelled ps)) l)) (ap pieces_at is ∙ quote_on more)) ∙ e in absurd (cc)
short_goes bytes rest ps are laid e (inr (inl (is_open, s))) = open_goes rest is_open
short_goes bytes rest ps are laid e (inr (inr b)) =
    let wrong = sym (ap (λ l. text_at (34 ∷ l)) laid ∙ past ps rest are ∙ ap (λ l. moved 1 (behind (all_meant ps) (length (all_spelled ps)) l)) b) ∙ e in absurd (cc)

short_some : (bytes : List ℕ) → text_at bytes ≡ Short → SomeBegins bytes
short_some [] e = let g = goes_some [] (open_goes [] (inl refl)) in (34 ∷ g.0, g.1, g.2, g.3)
short_some (x ∷ bytes) e = by_quote (either_way (x == 34))
  where
    by_quote : ((x == 34) ≡ true) ⊎ ((x == 34) ≡ false) → SomeBegins (x ∷ bytes)
    by_quote (inl h) =
        let is = is_eq x 34 h in
        let f = fronted bytes in
        subst (λ y. SomeBegins (y ∷ bytes)) (sym is) (goes_some bytes
        (subst Goes (sym f.laid) (goes_behind f.ps f.rest f.are (short_goes bytes f.rest f.ps f.are f.laid (ap (λ y. text_at (y ∷ bytes)) (sym is) ∙ e) f.stands))))
    by_quote (inr h) = let wrong : Bad 0 ≡ Short = sym (some_text x bytes ∙ cond_false (x == 34) (moved 1 (pieces_at bytes)) (Bad 0) h) ∙ e in absurd (cc)

none_of_short : (bytes : List ℕ) → text_at bytes ≡ Short → NoneGood GoodText bytes
none_of_short bytes e m n good = let wrong : Short ≡ Whole m n = sym e ∙ text_read bytes m n good in absurd (cc)

short_of : (bytes : List ℕ) (scan : Scan (List ℕ)) → text_at bytes ≡ scan → NoneGood GoodText bytes → SomeBegins bytes → scan ≡ Short
short_of bytes (Whole m n) e none some = absurd (none m n (text_good bytes m n e))
short_of bytes Short e none some = refl
short_of bytes (Bad q) e none (more, m, n, good) = absurd (none_good (bytes ++ more) q (text_refuses bytes more q e) m n good)

-- ---- Bad

stays_bad : (bytes : List ℕ) (q : ℕ) → text_at bytes ≡ Bad q → NoneBegins bytes
stays_bad bytes q e more = none_good (bytes ++ more) q (text_refuses bytes more q e)

begins_so : (rest more tail : List ℕ) (x n : ℕ) → 1 ≤ n → n ≤ length rest → take n rest ++ more ≡ x ∷ tail → (r : List ℕ) × (rest ≡ x ∷ r)
begins_so rest more tail x zero p q e = absurd (omega arith)
begins_so [] more tail x (suc n) p q e = absurd (omega arith)
begins_so (y ∷ r) more tail x (suc n) p q e = let same : y ≡ x = cc in (r, ap (λ z. z ∷ r) same)

-- where nothing good begins, none does with as many bytes as the first ones call for
module _ (rest : List ℕ) (bad : pieces_at rest ≡ Bad 0) where
  abbrev n : ℕ
  n = piece_size rest

  cut : take n rest ++ drop n rest ≡ rest
  cut = take-append-drop n rest

  -- all of it is looked at
  all_there : (more m : List ℕ) (k : ℕ) → length rest ≤ n → pieces_at (take n rest ++ more) ≡ Whole m k → ⊥
  all_there more m k h e = let wrong : Bad 0 ≡ Whole m k = sym (ap (λ l. pieces_at (l ++ more)) (take_all n rest h) ∙ pieces_refuse rest more 0 bad) ∙ e in absurd (cc)

  -- it would be this piece
  no_piece : (p : Piece) (more tail : List ℕ) → IsPiece p → n ≤ length rest → take n rest ++ more ≡ piece_spelled p ++ tail → ⊥
  no_piece p more tail is h laid =
      let size : length (piece_spelled p) ≡ n = sym (piece_sized p tail is) ∙ ap piece_size (sym laid) ∙ cut_sized rest more h in
      let long : length (take n rest) ≡ n = omega (arith, length-take n rest, h) in
      let same : take n rest ≡ piece_spelled p =
      sym (take_front (take n rest) more) ∙ ap (λ j. take j (take n rest ++ more)) long ∙ ap (take n) laid ∙ ap (λ j. take j (piece_spelled p ++ tail)) (sym size) ∙ take_front (piece_spelled p) tail in
      let whole : rest ≡ piece_spelled p ++ drop n rest = sym cut ∙ ap (λ l. l ++ drop n rest) same in
      let w = was_bad (piece_meant p) (length (piece_spelled p)) (pieces_at (drop n rest)) 0 (sym (piece_on p (drop n rest) is) ∙ ap pieces_at (sym whole) ∙ bad) in
      omega (arith, w.2, size, piece_some rest)

  no_quote : (more tail : List ℕ) → n ≤ length rest → take n rest ++ more ≡ 34 ∷ tail → ⊥
  no_quote more tail h laid =
      let first = begins_so rest more tail 34 n (piece_some rest) h laid in
      let wrong : Bad 0 ≡ Whole [] 1 = sym bad ∙ ap pieces_at first.1 ∙ quote_on first.0 in
      absurd (cc)

  by_first : (ps : List Piece) (more tail : List ℕ) → ArePieces ps → n ≤ length rest → take n rest ++ more ≡ all_spelled ps ++ 34 ∷ tail → ⊥
  by_first [] more tail are h laid = no_quote more tail h laid
  by_first (p ∷ ps) more tail are h laid = no_piece p more (all_spelled ps ++ 34 ∷ tail) are.0 h (laid ∙ append_more (piece_spelled p) (all_spelled ps) (34 ∷ tail))

  none_goes : (more m : List ℕ) (k : ℕ) → pieces_at (take n rest ++ more) ≡ Whole m k → ⊥
  none_goes more m k e = by_size (either_way (nat_lt (length rest) n))
    where
      by_size : (nat_lt (length rest) n ≡ true) ⊎ (nat_lt (length rest) n ≡ false) → ⊥
      by_size (inl h) = all_there more m k (grind (arith, nat_tests)) e
      by_size (inr h) = let ends = pieces_invert (take n rest ++ more) m k e in by_first ends.ps more ends.rest ends.are (grind (arith, nat_tests)) ends.spells

-- the bytes behind the quote and the pieces
taken : (ps : List Piece) (rest : List ℕ) (n : ℕ) → take ((1 + length (all_spelled ps)) + n) (34 ∷ (all_spelled ps ++ rest)) ≡ 34 ∷ (all_spelled ps ++ take n rest)
taken ps rest n =
    let e : (1 + length (all_spelled ps)) + n ≡ suc (length (all_spelled ps) + n) = omega arith in
    ap (λ j. take j (34 ∷ (all_spelled ps ++ rest))) e ∙ ap (λ l. 34 ∷ l) (take-append-add (all_spelled ps) rest n)

dropped : (ps : List Piece) (rest : List ℕ) → drop (1 + length (all_spelled ps)) (34 ∷ (all_spelled ps ++ rest)) ≡ rest
dropped ps rest = let e : 1 + length (all_spelled ps) ≡ suc (length (all_spelled ps)) = omega arith in ap (λ j. drop j (34 ∷ (all_spelled ps ++ rest))) e ∙ drop_front (all_spelled ps) rest

none_behind : (ps : List Piece) (rest more m : List ℕ) (k : ℕ) → ArePieces ps → pieces_at rest ≡ Bad 0 → GoodText ((34 ∷ (all_spelled ps ++ take (piece_size rest) rest)) ++ more) m k → ⊥
none_behind ps rest more m k are bad good =
    let w = take (piece_size rest) rest in
    let e = sym (past ps (w ++ more) are) ∙ ap (λ l. text_at (34 ∷ l)) (sym (append_more (all_spelled ps) w more)) ∙ text_read ((34 ∷ (all_spelled ps ++ w)) ++ more) m k good in
    let u = unmoved (behind (all_meant ps) (length (all_spelled ps)) (pieces_at (w ++ more))) m k e in
    let v = was (all_meant ps) (length (all_spelled ps)) (pieces_at (w ++ more)) m u.0 u.1 in
    none_goes rest bad more v.text v.after v.scanned

fault_behind : (ps : List Piece) (bytes rest : List ℕ) (q : ℕ) → ArePieces ps → bytes ≡ all_spelled ps ++ rest → pieces_at rest ≡ Bad 0 → q ≡ 1 + length (all_spelled ps) → IsFault (34 ∷ bytes) q
fault_behind ps bytes rest q are laid bad is =
    subst (λ l. IsFault (34 ∷ l) q) (sym laid) (subst (IsFault (34 ∷ (all_spelled ps ++ rest))) (sym is) (inr (
      (ps, rest, are, refl, refl),
      (λ more m k good.
          let laid = ap (λ r. take ((1 + length (all_spelled ps)) + piece_size r) (34 ∷ (all_spelled ps ++ rest))) (dropped ps rest) ∙ taken ps rest (piece_size rest) in
          none_behind ps rest more m k are bad (subst (λ l. GoodText (l ++ more) m k) laid good)),
    )))

bad_fault : (bytes : List ℕ) (q : ℕ) → text_at bytes ≡ Bad q → IsFault bytes q
bad_fault [] q e = let wrong : Short ≡ Bad q = sym no_text ∙ e in absurd (cc)
bad_fault (x ∷ bytes) q e = by_quote (either_way (x == 34))
  where
    by_stand : (f : Fronted bytes) → text_at (34 ∷ bytes) ≡ Bad q → Stand f.rest → IsFault (34 ∷ bytes) q
    by_stand f h (inl (more, is)) =
        let wrong = sym (ap (λ l. text_at (34 ∷ l)) f.laid ∙ past f.ps f.rest f.are ∙ ap (λ l. moved 1 (behind (all_meant f.ps) (length (all_spelled f.ps)) l)) (ap pieces_at is ∙ quote_on more)) ∙ h in absurd (cc)
    by_stand f h (inr (inl s)) =
        let wrong = sym (ap (λ l. text_at (34 ∷ l)) f.laid ∙ past f.ps f.rest f.are ∙ ap (λ l. moved 1 (behind (all_meant f.ps) (length (all_spelled f.ps)) l)) s.1) ∙ h in absurd (cc)
    by_stand f h (inr (inr b)) =
        let told : Bad (1 + (length (all_spelled f.ps) + 0)) ≡ Bad q = sym (ap (λ l. text_at (34 ∷ l)) f.laid ∙ past f.ps f.rest f.are ∙ ap (λ l. moved 1 (behind (all_meant f.ps) (length (all_spelled f.ps)) l)) b) ∙ h in
        let place : 1 + (length (all_spelled f.ps) + 0) ≡ q = cc in
        fault_behind f.ps bytes f.rest q f.are f.laid b (omega (arith, place))

    by_quote : ((x == 34) ≡ true) ⊎ ((x == 34) ≡ false) → IsFault (x ∷ bytes) q
    by_quote (inl h) = let is = is_eq x 34 h in let f = fronted bytes in subst (λ y. IsFault (y ∷ bytes) q) (sym is) (by_stand f (ap (λ y. text_at (y ∷ bytes)) (sym is) ∙ e) f.stands)
    by_quote (inr h) =
        let told : Bad 0 ≡ Bad q = sym (some_text x bytes ∙ cond_false (x == 34) (moved 1 (pieces_at bytes)) (Bad 0) h) ∙ e in
        let place : 0 ≡ q = cc in
        inl (sym place, stays_bad (x ∷ []) 0 (some_text x [] ∙ cond_false (x == 34) (moved 1 (pieces_at [])) (Bad 0) h))

-- ---- and a fault is told

opening : (bytes : List ℕ) → NoneBegins (take 1 bytes) → text_at bytes ≡ Bad 0
opening [] none = let g = short_some [] no_text in absurd (none g.0 g.1 g.2 g.3)
opening (x ∷ bytes) none = by_quote (either_way (x == 34))
  where
    by_quote : ((x == 34) ≡ true) ⊎ ((x == 34) ≡ false) → text_at (x ∷ bytes) ≡ Bad 0
    by_quote (inl h) = let g = goes_some [] (open_goes [] (inl refl)) in absurd (none g.0 g.1 g.2 (subst (λ y. GoodText ((y ∷ []) ++ g.0) g.1 g.2) (sym (is_eq x 34 h)) g.3))
    by_quote (inr h) = some_text x bytes ∙ cond_false (x == 34) (moved 1 (pieces_at bytes)) (Bad 0) h

-- of what goes on, the front goes on
front_goes : (rest : List ℕ) (k : ℕ) → Goes rest → Goes (take k rest)
front_goes rest k g = record {
  more = drop k rest ++ g.more;
  ps = g.ps;
  tail = g.tail;
  are = g.are;
  laid = sym (append_more (take k rest) (drop k rest) g.more) ∙ ap (λ l. l ++ g.more) (take-append-drop k rest) ∙ g.laid;
}

piece_goes : (p : Piece) (rest tail : List ℕ) → IsPiece p → rest ≡ piece_spelled p ++ tail → Goes (take (piece_size rest) rest)
piece_goes p rest tail is laid =
    let cut = ap (λ l. take (piece_size l) l) laid ∙ ap (λ j. take j (piece_spelled p ++ tail)) (piece_sized p tail is) ∙ take_front (piece_spelled p) tail in
    record { more = 34 ∷ []; ps = p ∷ []; tail = []; are = (is, tt); laid = ap (λ l. l ++ 34 ∷ []) (cut ∙ sym (one_spelled p)) }

quote_goes : (rest tail : List ℕ) → rest ≡ 34 ∷ tail → Goes (take (piece_size rest) rest)
quote_goes rest tail laid =
    let cut = ap (λ l. take (piece_size l) l) laid ∙ ap (λ j. take j (34 ∷ tail)) (sized_quote tail) in
    record { more = []; ps = []; tail = []; are = tt; laid = append-nil (take (piece_size rest) rest) ∙ cut }

stand_bad : (rest : List ℕ) → (Goes (take (piece_size rest) rest) → ⊥) → Stand rest → pieces_at rest ≡ Bad 0
stand_bad rest none (inl (more, is)) = absurd (none (quote_goes rest more is))
stand_bad rest none (inr (inl (is_open, s))) = absurd (none (front_goes rest (piece_size rest) (open_goes rest is_open)))
stand_bad rest none (inr (inr b)) = b

by_pieces : (rest : List ℕ) → (Goes (take (piece_size rest) rest) → ⊥) → (ps : List Piece) (r : List ℕ) → ArePieces ps → rest ≡ all_spelled ps ++ r → Stand r → pieces_at rest ≡ Bad 0
by_pieces rest none [] r are laid s = stand_bad rest none (subst Stand (sym laid) s)
by_pieces rest none (p ∷ ps) r are laid s = absurd (none (piece_goes p rest (all_spelled ps ++ r) are.0 (laid ∙ append_more (piece_spelled p) (all_spelled ps) r)))

fault_bad : (bytes : List ℕ) (q : ℕ) → IsFault bytes q → text_at bytes ≡ Bad q
fault_bad bytes q (inl (is, none)) = opening bytes none ∙ ap Bad (sym is)
fault_bad bytes q (inr ((ps, rest, are, laid, is), none)) =
    let front = all_spelled ps in
    let cut = ap (λ l. take (q + piece_size (drop q l)) l) laid ∙ ap (λ j. take (j + piece_size (drop j (34 ∷ (front ++ rest)))) (34 ∷ (front ++ rest))) is
    ∙ ap (λ r. take ((1 + length front) + piece_size r) (34 ∷ (front ++ rest))) (dropped ps rest) ∙ taken ps rest (piece_size rest) in
    let no_goes : Goes (take (piece_size rest) rest) → ⊥ = λ g. let s = goes_some (front ++ take (piece_size rest) rest) (goes_behind ps (take (piece_size rest) rest) are g) in none s.0 s.1 s.2 (subst (λ l. GoodText (l ++ s.0) s.1 s.2) (sym cut) s.3) in
    let f = fronted rest in
    let b = by_pieces rest no_goes f.ps f.rest f.are f.laid f.stands in
    let place : 1 + (length front + 0) ≡ q = omega (arith, is) in
    ap text_at laid ∙ past ps rest are ∙ ap (λ l. moved 1 (behind (all_meant ps) (length front) l)) b ∙ ap Bad place

-- ---- the law

pub text_judged : (bytes : List ℕ) → JudgesText bytes (text_at bytes)
text_judged bytes = (
  (λ m n. (text_good bytes m n, text_read bytes m n)),
  ((λ e. (none_of_short bytes e, short_some bytes e)), (λ h. short_of bytes (text_at bytes) refl h.0 h.1)),
  (λ q. (bad_fault bytes q, fault_bad bytes q)),
)
