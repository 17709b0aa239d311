-- One of two parts, by the kind of the first token.
use Rattle.std.proofs.Common.{◌≡◌, ◌∙◌, ap, sym, refl, ℕ, suc, ◌≤◌, List, [], ◌∷◌, ◌++◌, length, take, Bool, true, false, ◌||◌, Option, None, Option, Ok, Err, ◌⊎◌, inl, inr}
use Rattle.idl_parser.specs.declared.fault.Fault.{Fault}
use Rattle.idl_parser.specs.Lexemes.{Scan, lexeme_of}
use Rattle.idl_parser.specs.Seen.{Seen}
use Rattle.grammar_laws.proofs.TokenKinds.{Kind, among, among_left, among_right, either_way, free, free_is, kind, or_neither}
use Rattle.grammar_laws.proofs.Lists.{Same, same_lexeme}
use Rattle.grammar_laws.proofs.Reading.{Begun, FaultAt, IsStart, Part, Reads, judged}

abbrev pub chosen : {X : Type 0} → Bool → Scan X → Scan X → Scan X
chosen true x y = x
chosen false x y = y

abbrev pub choice : {X : Type 0} → List Kind → Part X → Part X → Part X
choice ks p q xs = chosen (among ks (kind (lexeme_of xs))) (p xs) (q xs)

-- this bars what the first bars, what the second bars, and where the second may be missing what the first begins with
abbrev pub either_barred : Bool → List Kind → (Kind → Bool) → (Kind → Bool) → Kind → Bool
either_barred true ks bp bq k = among ks k || (bp k || bq k)
either_barred false ks bp bq k = bp k || bq k

abbrev pub Either : {X : Type 0} → (X → List Seen → Type 0) → (X → List Seen → Type 0) → X → List Seen → Type 0
Either D E x tokens = D x tokens ⊎ E x tokens

chosen_true : {X : Type 0} (b : Bool) (x y : Scan X) → b ≡ true → chosen b x y ≡ x
chosen_true true x y e = refl
chosen_true false x y e = absurd (cc)

chosen_false : {X : Type 0} (b : Bool) (x y : Scan X) → b ≡ false → chosen b x y ≡ y
chosen_false true x y e = absurd (cc)
chosen_false false x y e = refl

module _ {X : Type 0} (edge : ℕ) (D E : X → List Seen → Type 0) (deep : X → Option ℕ) (p q : Part X) (nq : Bool) (ks fq : List Kind) (bp bq : Kind → Bool) where
  takes : (xs : List Seen) → among ks (kind (lexeme_of xs)) ≡ true → choice ks p q xs ≡ p xs
  takes xs e = chosen_true (among ks (kind (lexeme_of xs))) (p xs) (q xs) e

  leaves : (xs : List Seen) → among ks (kind (lexeme_of xs)) ≡ false → choice ks p q xs ≡ q xs
  leaves xs e = chosen_false (among ks (kind (lexeme_of xs))) (p xs) (q xs) e

  alike_kind : (n : ℕ) (xs ys : List Seen) (b : Bool) → Same (suc n) xs ys → among ks (kind (lexeme_of xs)) ≡ b → among ks (kind (lexeme_of ys)) ≡ b
  alike_kind n xs ys b alike e = ap (λ l. among ks (kind l)) (sym (same_lexeme n xs ys alike)) ∙ e

  barred_each : (null : Bool) (k : Kind) → either_barred null ks bp bq k ≡ false → ((bp k ≡ false) × (bq k ≡ false)) × (null ≡ true → among ks k ≡ false)
  barred_each true k e = let both = or_neither (among ks k) (bp k || bq k) e in (or_neither (bp k) (bq k) both.1, λ h. both.0)
  barred_each false k e = (or_neither (bp k) (bq k) e, λ h. absurd (cc))

  left_front : (front rest : List Seen) → IsStart false ks front → among ks (kind (lexeme_of (front ++ rest))) ≡ true
  left_front [] rest s = absurd (cc)
  left_front (t ∷ front) rest s = s

  right_front : (front rest : List Seen) → free fq (among ks) ≡ true → IsStart nq fq front → (nq ≡ true → among ks (kind (lexeme_of rest)) ≡ false) → among ks (kind (lexeme_of (front ++ rest))) ≡ false
  right_front [] rest apart s none = none s
  right_front (t ∷ front) rest apart s none = free_is fq (among ks) (kind t.lexeme) apart s

  either_start : (front : List Seen) → IsStart false ks front ⊎ IsStart nq fq front → IsStart nq (ks ++ fq) front
  either_start [] (inl s) = absurd (cc)
  either_start [] (inr s) = s
  either_start (t ∷ front) (inl s) = among_left ks fq (kind t.lexeme) s
  either_start (t ∷ front) (inr s) = among_right ks fq (kind t.lexeme) s

  pub choice_reads : free fq (among ks) ≡ true → Reads edge D deep p false ks bp → Reads edge E deep q nq fq bq →
      Reads edge (Either D E) deep (choice ks p q) nq (ks ++ fq) (either_barred nq ks bp bq)
  choice_reads apart r s = record { sound = λ xs x n e. sound xs x n (either_way (among ks (kind (lexeme_of xs)))) e; whole = whole; stays = λ xs ys x n e alike. stays xs ys x n (either_way (among ks (kind (lexeme_of xs)))) e alike; faults = λ xs f e. lost xs f (either_way (among ks (kind (lexeme_of xs)))) e; starts = starts }
    where
      sound : (xs : List Seen) (x : X) (n : ℕ) → (among ks (kind (lexeme_of xs)) ≡ true) ⊎ (among ks (kind (lexeme_of xs)) ≡ false) → choice ks p q xs ≡ Ok (x, n) →
          (n ≤ length xs) × Either D E x (take n xs) × (deep x ≡ None)
      sound xs x n (inl t) e = let read = r.sound xs x n (sym (takes xs t) ∙ e) in (read.0, inl read.1, read.2)
      sound xs x n (inr t) e = let read = s.sound xs x n (sym (leaves xs t) ∙ e) in (read.0, inr read.1, read.2)

      whole : (x : X) (front rest : List Seen) → Either D E x front → either_barred nq ks bp bq (kind (lexeme_of rest)) ≡ false → choice ks p q (front ++ rest) ≡ judged (deep x) x (length front)
      whole x front rest (inl d) e =
          let bars = barred_each nq (kind (lexeme_of rest)) e in
          takes (front ++ rest) (left_front front rest (r.starts x front d)) ∙ r.whole x front rest d bars.0.0
      whole x front rest (inr d) e =
          let bars = barred_each nq (kind (lexeme_of rest)) e in
          leaves (front ++ rest) (right_front front rest apart (s.starts x front d) bars.1) ∙ s.whole x front rest d bars.0.1

      stays : (xs ys : List Seen) (x : X) (n : ℕ) → (among ks (kind (lexeme_of xs)) ≡ true) ⊎ (among ks (kind (lexeme_of xs)) ≡ false) → choice ks p q xs ≡ Ok (x, n) → Same (suc n) xs ys →
          choice ks p q ys ≡ Ok (x, n)
      stays xs ys x n (inl t) e alike = takes ys (alike_kind n xs ys true alike t) ∙ r.stays xs ys x n (sym (takes xs t) ∙ e) alike
      stays xs ys x n (inr t) e alike = leaves ys (alike_kind n xs ys false alike t) ∙ s.stays xs ys x n (sym (leaves xs t) ∙ e) alike

      left_begun : (w : Bool) (front : List Seen) → Begun edge D deep w front → Begun edge (Either D E) deep w front
      left_begun w front b = record { value = b.value; rest = b.rest; derives = inl b.derives; fits = b.fits }

      right_begun : (w : Bool) (front : List Seen) → Begun edge E deep w front → Begun edge (Either D E) deep w front
      right_begun w front b = record { value = b.value; rest = b.rest; derives = inr b.derives; fits = b.fits }

      left_lost : (xs : List Seen) (n : ℕ) → (n ≡ 0) ⊎ Begun edge D deep true (take n xs) → (n ≡ 0) ⊎ Begun edge (Either D E) deep true (take n xs)
      left_lost xs n (inl none) = inl none
      left_lost xs n (inr b) = inr (left_begun true (take n xs) b)

      right_lost : (xs : List Seen) (n : ℕ) → (n ≡ 0) ⊎ Begun edge E deep true (take n xs) → (n ≡ 0) ⊎ Begun edge (Either D E) deep true (take n xs)
      right_lost xs n (inl none) = inl none
      right_lost xs n (inr b) = inr (right_begun true (take n xs) b)

      lost : (xs : List Seen) (f : Fault) → (among ks (kind (lexeme_of xs)) ≡ true) ⊎ (among ks (kind (lexeme_of xs)) ≡ false) → choice ks p q xs ≡ Err f → FaultAt edge (Either D E) deep (choice ks p q) xs f
      lost xs f (inl t) e =
          let at = r.faults xs f (sym (takes xs t) ∙ e) in
          record {
            place = at.place;
            within = at.within;
            told = at.told;
            stays = λ ys alike. takes ys (alike_kind at.place xs ys true alike t) ∙ at.stays ys alike;
            begins = left_lost xs at.place at.begins;
            opens = λ deepest nested. let o = at.opens deepest nested in (o.0, left_begun false (take (suc at.place) xs) o.1);
          }
      lost xs f (inr t) e =
          let at = s.faults xs f (sym (leaves xs t) ∙ e) in
          record {
            place = at.place;
            within = at.within;
            told = at.told;
            stays = λ ys alike. leaves ys (alike_kind at.place xs ys false alike t) ∙ at.stays ys alike;
            begins = right_lost xs at.place at.begins;
            opens = λ deepest nested. let o = at.opens deepest nested in (o.0, right_begun false (take (suc at.place) xs) o.1);
          }

      starts : (x : X) (front : List Seen) → Either D E x front → IsStart nq (ks ++ fq) front
      starts x front (inl d) = either_start front (inl (r.starts x front d))
      starts x front (inr d) = either_start front (inr (s.starts x front d))
