-- Two parts, one behind the other.
use Rattle.std.proofs.Common.{◌≡◌, ◌∙◌, ap, sym, subst, refl, ℕ, suc, ◌+◌, ◌≤◌, List, [], ◌∷◌, ◌++◌, length, take, drop, Bool, true, false, ◌&&◌, Option, Some, None, Ok, Err, ◌⊎◌, inl, inr, arith, length-append, length-drop}
use Rattle.idl_parser.specs.declared.fault.Fault.{Fault}
use Rattle.idl_parser.specs.declared.fault.Fault.TheVariants as faults
use Rattle.idl_parser.specs.Lexemes.{Scan, lexeme_of, offset_of}
use Rattle.idl_parser.specs.Seen.{Seen}
use Rattle.grammar_laws.specs.Depth.{first_of}
use Rattle.grammar_laws.proofs.TokenKinds.{Kind, among_left, among_right, both_barred, free, free_is, if_so, kind, or_neither}
use Rattle.grammar_laws.proofs.Lists.{Same, append_more, drop_both, drop_front, same_behind, same_less, take_both}
use Rattle.grammar_laws.proofs.Reading.{Begun, FaultAt, IsStart, Part, Reads, begun, err_is, fits_both, fits_none, none_both, judged, ok_count, ok_same, ok_value}

module _ {X Y : Type 0} where
  abbrev pub step_end : X × ℕ → Scan Y → Scan (X × Y)
  step_end x (Ok y) = Ok ((x.0, y.0), x.1 + y.1)
  step_end x (Err f) = Err f

  abbrev pub step_by : Part Y → List Seen → Scan X → Scan (X × Y)
  step_by q xs (Ok x) = step_end x (q (drop x.1 xs))
  step_by q xs (Err f) = Err f

  abbrev pub step : Part X → Part Y → Part (X × Y)
  step p q xs = step_by q xs (p xs)

  pub record Both (D : X → List Seen → Type 0) (E : Y → List Seen → Type 0) (t : X × Y) (tokens : List Seen) : Type 0 where
    pub front : List Seen
    pub back : List Seen
    pub left : D t.0 front
    pub right : E t.1 back
    pub joined : tokens ≡ front ++ back

  -- how two went
  pub record Went (p : Part X) (q : Part Y) (xs : List Seen) (t : X × Y) (n : ℕ) : Type 0 where
    pub first : ℕ
    pub second : ℕ
    pub left : p xs ≡ Ok (t.0, first)
    pub right : q (drop first xs) ≡ Ok (t.1, second)
    pub count : n ≡ first + second

  went_end : (p : Part X) (q : Part Y) (xs : List Seen) (t : X × Y) (n : ℕ) (x : X × ℕ) (r : Scan Y) → p xs ≡ Ok x → q (drop x.1 xs) ≡ r → step_end x r ≡ Ok (t, n) → Went p q xs t n
  went_end p q xs t n x (Ok y) e f h =
      let both : (x.0, y.0) ≡ t = ok_value (x.0, y.0) t (x.1 + y.1) n h in
      record {
        first = x.1;
        second = y.1;
        left = e ∙ ok_same x.0 t.0 x.1 x.1 (ap (λ (s : X × Y). s.0) both) refl;
        right = f ∙ ok_same y.0 t.1 y.1 y.1 (ap (λ (s : X × Y). s.1) both) refl;
        count = sym (ok_count (x.0, y.0) t (x.1 + y.1) n h);
      }
  went_end p q xs t n x (Err g) e f h = absurd (cc)

  went_by : (p : Part X) (q : Part Y) (xs : List Seen) (t : X × Y) (n : ℕ) (r : Scan X) → p xs ≡ r → step_by q xs r ≡ Ok (t, n) → Went p q xs t n
  went_by p q xs t n (Ok x) e h = went_end p q xs t n x (q (drop x.1 xs)) e refl h
  went_by p q xs t n (Err f) e h = absurd (cc)

  pub went : (p : Part X) (q : Part Y) (xs : List Seen) (t : X × Y) (n : ℕ) → step p q xs ≡ Ok (t, n) → Went p q xs t n
  went p q xs t n h = went_by p q xs t n (p xs) refl h

  -- how it broke off: at the first, or at the second
  pub record Second (p : Part X) (q : Part Y) (xs : List Seen) (f : Fault) : Type 0 where
    pub value : X
    pub first : ℕ
    pub left : p xs ≡ Ok (value, first)
    pub right : q (drop first xs) ≡ Err f

  broke_end : (p : Part X) (q : Part Y) (xs : List Seen) (f : Fault) (x : X × ℕ) (r : Scan Y) → p xs ≡ Ok x → q (drop x.1 xs) ≡ r → step_end x r ≡ Err f → (p xs ≡ Err f) ⊎ Second p q xs f
  broke_end p q xs f x (Ok y) e g h = absurd (cc)
  broke_end p q xs f x (Err k) e g h =
      let same : k ≡ f = err_is {X = X × Y} k f h in
      inr (record { value = x.0; first = x.1; left = e; right = g ∙ ap (λ (w : Fault). let r : Scan Y = Err w in r) same })

  broke_by : (p : Part X) (q : Part Y) (xs : List Seen) (f : Fault) (r : Scan X) → p xs ≡ r → step_by q xs r ≡ Err f → (p xs ≡ Err f) ⊎ Second p q xs f
  broke_by p q xs f (Ok x) e h = broke_end p q xs f x (q (drop x.1 xs)) e refl h
  broke_by p q xs f (Err k) e h =
      let same : k ≡ f = err_is {X = X × Y} k f h in
      inl (e ∙ ap (λ (w : Fault). let r : Scan X = Err w in r) same)

  pub broke : (p : Part X) (q : Part Y) (xs : List Seen) (f : Fault) → step p q xs ≡ Err f → (p xs ≡ Err f) ⊎ Second p q xs f
  broke p q xs f h = broke_by p q xs f (p xs) refl h

  pub step_ok : (p : Part X) (q : Part Y) (xs : List Seen) (x : X) (y : Y) (a b : ℕ) → p xs ≡ Ok (x, a) → q (drop a xs) ≡ Ok (y, b) → step p q xs ≡ Ok ((x, y), a + b)
  step_ok p q xs x y a b e f = ap (step_by q xs) e ∙ ap (step_end (x, a)) f

  pub step_err : (p : Part X) (q : Part Y) (xs : List Seen) (x : X) (a : ℕ) (f : Fault) → p xs ≡ Ok (x, a) → q (drop a xs) ≡ Err f → step p q xs ≡ Err f
  step_err p q xs x a f e g = ap (step_by q xs) e ∙ ap (step_end (x, a)) g

  pub step_judged : (p : Part X) (q : Part Y) (xs : List Seen) (x : X) (y : Y) (a b : ℕ) (o u : Option ℕ) → p xs ≡ judged o x a → q (drop a xs) ≡ judged u y b →
      step p q xs ≡ judged (first_of o u) (x, y) (a + b)
  step_judged p q xs x y a b None None e f = step_ok p q xs x y a b e f
  step_judged p q xs x y a b None (Some at) e f = step_err p q xs x a (faults.Nested at) e f
  step_judged p q xs x y a b (Some at) u e f = ap (step_by q xs) e

  module _ (edge : ℕ) (D : X → List Seen → Type 0) (E : Y → List Seen → Type 0) (dp : X → Option ℕ) (dq : Y → Option ℕ) (p : Part X) (q : Part Y) (np nq : Bool) (fp fq : List Kind) (bp bq : Kind → Bool) where
    -- what may stand behind the second, or behind the first where the second is missing, is not barred behind the first
    barred_left : (null : Bool) (k : Kind) → both_barred null bp bq k ≡ false → (bq k ≡ false) × (null ≡ true → bp k ≡ false)
    barred_left true k e = let both = or_neither (bq k) (bp k) e in (both.0, λ h. both.1)
    barred_left false k e = (e, λ h. absurd (cc))

    seam : (back rest : List Seen) → free fq bp ≡ true → IsStart nq fq back → (nq ≡ true → bp (kind (lexeme_of rest)) ≡ false) → bp (kind (lexeme_of (back ++ rest))) ≡ false
    seam [] rest free s none = none s
    seam (t ∷ back) rest free s none = free_is fq bp (kind t.lexeme) free s

    both_start : (null : Bool) (front back : List Seen) → IsStart null fp front → IsStart nq fq back → IsStart (null && nq) (fp ++ if_so null fq) (front ++ back)
    both_start true [] [] s t = t
    both_start true [] (b ∷ back) s t = among_right fp fq (kind b.lexeme) t
    both_start false [] back s t = absurd (cc)
    both_start null (f ∷ front) back s t = among_left fp (if_so null fq) (kind f.lexeme) s

    pub step_reads : free fq bp ≡ true → (some : (y : Y) × (tokens : List Seen) × E y tokens) → dq some.0 ≡ None → Reads edge D dp p np fp bp → Reads edge E dq q nq fq bq →
        Reads edge (Both D E) (λ t. first_of (dp t.0) (dq t.1)) (step p q) (np && nq) (fp ++ if_so np fq) (both_barred nq bp bq)
    step_reads apart some flat r s = record { sound = sound; whole = whole; stays = stays; faults = lost; starts = starts }
      where
        sound : (xs : List Seen) (t : X × Y) (n : ℕ) → step p q xs ≡ Ok (t, n) → (n ≤ length xs) × Both D E t (take n xs) × (first_of (dp t.0) (dq t.1) ≡ None)
        sound xs t n e =
            let w = went p q xs t n e in
            let one = r.sound xs t.0 w.first w.left in
            let two = s.sound (drop w.first xs) t.1 w.second w.right in
            let count : n ≡ w.first + w.second = w.count in (
              omega (arith, one.0, two.0, count, length-drop w.first xs),
              record { front = take w.first xs; back = take w.second (drop w.first xs); left = one.1; right = two.1; joined = ap (λ (k : ℕ). take k xs) count ∙ take_both w.first w.second xs },
              none_both (dp t.0) (dq t.1) one.2 two.2,
            )

        whole : (t : X × Y) (front rest : List Seen) → Both D E t front → both_barred nq bp bq (kind (lexeme_of rest)) ≡ false →
            step p q (front ++ rest) ≡ judged (first_of (dp t.0) (dq t.1)) t (length front)
        whole t front rest b e =
            let bars = barred_left nq (kind (lexeme_of rest)) e in
            let one = r.whole t.0 b.front (b.back ++ rest) b.left (seam b.back rest apart (s.starts t.1 b.back b.right) bars.1) in
            let two = s.whole t.1 b.back rest b.right bars.0 in
            let behind : q (drop (length b.front) (b.front ++ (b.back ++ rest))) ≡ judged (dq t.1) t.1 (length b.back) = ap q (drop_front b.front (b.back ++ rest)) ∙ two in
            let size : length b.front + length b.back ≡ length front = sym (ap length b.joined ∙ length-append b.front b.back) in
            ap (λ (u : List Seen). step p q (u ++ rest)) b.joined ∙ ap (step p q) (append_more b.front b.back rest)
            ∙ step_judged p q (b.front ++ (b.back ++ rest)) t.0 t.1 (length b.front) (length b.back) (dp t.0) (dq t.1) one behind
            ∙ ap (λ (k : ℕ). judged (first_of (dp t.0) (dq t.1)) t k) size

        stays : (xs ys : List Seen) (t : X × Y) (n : ℕ) → step p q xs ≡ Ok (t, n) → Same (suc n) xs ys → step p q ys ≡ Ok (t, n)
        stays xs ys t n e alike =
            let w = went p q xs t n e in
            let count : n ≡ w.first + w.second = w.count in
            let one = r.stays xs ys t.0 w.first w.left (same_less (suc w.first) (suc n) xs ys (omega (arith, count)) alike) in
            let two = s.stays (drop w.first xs) (drop w.first ys) t.1 w.second w.right (same_behind w.first (suc w.second) (suc n) xs ys (omega (arith, count)) alike) in
            step_ok p q ys t.0 t.1 w.first w.second one two ∙ ok_same t t (w.first + w.second) n refl (sym count)

        -- the first begins it, and some second ends it
        first_begun : (w : Bool) (front : List Seen) → Begun edge D dp w front → Begun edge (Both D E) (λ t. first_of (dp t.0) (dq t.1)) w front
        first_begun w front b = record {
          value = (b.value, some.0);
          rest = b.rest ++ some.1;
          derives = record { front = front ++ b.rest; back = some.1; left = b.derives; right = some.2; joined = sym (append_more front b.rest some.1) };
          fits = fits_both w (dp b.value) (dq some.0) b.fits (fits_none w (dq some.0) flat);
        }

        first_lost : (xs : List Seen) (n : ℕ) → (n ≡ 0) ⊎ Begun edge D dp true (take n xs) → (n ≡ 0) ⊎ Begun edge (Both D E) (λ t. first_of (dp t.0) (dq t.1)) true (take n xs)
        first_lost xs n (inl none) = inl none
        first_lost xs n (inr b) = inr (first_begun true (take n xs) b)

        -- behind a first, the second begins
        second_begun : (w : Bool) (xs : List Seen) (x : X) (a n : ℕ) → D x (take a xs) → dp x ≡ None → Begun edge E dq w (take n (drop a xs)) → Begun edge (Both D E) (λ t. first_of (dp t.0) (dq t.1)) w (take (a + n) xs)
        second_begun w xs x a n d none b = record {
          value = (x, b.value);
          rest = b.rest;
          derives = record {
            front = take a xs;
            back = take n (drop a xs) ++ b.rest;
            left = d;
            right = b.derives;
            joined = ap (λ (u : List Seen). u ++ b.rest) (take_both a n xs) ∙ append_more (take a xs) (take n (drop a xs)) b.rest;
          };
          fits = fits_both w (dp x) (dq b.value) (fits_none w (dp x) none) b.fits;
        }

        second_lost : (xs : List Seen) (x : X) (a n : ℕ) → D x (take a xs) → dp x ≡ None → (n ≡ 0) ⊎ Begun edge E dq true (take n (drop a xs)) →
            Begun edge (Both D E) (λ t. first_of (dp t.0) (dq t.1)) true (take (a + n) xs)
        second_lost xs x a n d flat_x (inl none) =
            let whole : a ≡ a + n = omega (arith, none) in
            subst (λ (k : ℕ). Begun edge (Both D E) (λ t. first_of (dp t.0) (dq t.1)) true (take k xs)) whole (first_begun true (take a xs) (begun edge D dp true x (take a xs) d flat_x))
        second_lost xs x a n d flat_x (inr b) = second_begun true xs x a n d flat_x b

        second_opens : (xs : List Seen) (x : X) (a n : ℕ) → a ≤ length xs → D x (take a xs) → dp x ≡ None → (suc n ≤ length (drop a xs)) × Begun edge E dq false (take (suc n) (drop a xs)) →
            (suc (a + n) ≤ length xs) × Begun edge (Both D E) (λ t. first_of (dp t.0) (dq t.1)) false (take (suc (a + n)) xs)
        second_opens xs x a n within d flat_x o =
            let same : a + suc n ≡ suc (a + n) = omega arith in
            (omega (arith, within, o.0, length-drop a xs), subst (λ (k : ℕ). Begun edge (Both D E) (λ t. first_of (dp t.0) (dq t.1)) false (take k xs)) same (second_begun false xs x a (suc n) d flat_x o.1))

        by : (xs : List Seen) (f : Fault) → (p xs ≡ Err f) ⊎ Second p q xs f → FaultAt edge (Both D E) (λ t. first_of (dp t.0) (dq t.1)) (step p q) xs f
        by xs f (inl e) =
            let at = r.faults xs f e in
            record {
              place = at.place;
              within = at.within;
              told = at.told;
              stays = λ ys alike. ap (step_by q ys) (at.stays ys alike);
              begins = first_lost xs at.place at.begins;
              opens = λ deepest nested. let o = at.opens deepest nested in (o.0, first_begun false (take (suc at.place) xs) o.1);
            }
        by xs f (inr b) =
            let one = r.sound xs b.value b.first b.left in
            let at = s.faults (drop b.first xs) f b.right in
            record {
              place = b.first + at.place;
              within = omega (arith, one.0, at.within, length-drop b.first xs);
              told = at.told ∙ ap (offset_of edge) (drop_both b.first at.place xs);
              stays = λ ys alike. step_err p q ys b.value b.first f (r.stays xs ys b.value b.first b.left (same_less (suc b.first) (suc (b.first + at.place)) xs ys (omega arith) alike))
                  (at.stays (drop b.first ys) (same_behind b.first (suc at.place) (suc (b.first + at.place)) xs ys (omega arith) alike));
              begins = inr (second_lost xs b.value b.first at.place one.1 one.2 at.begins);
              opens = λ deepest nested. second_opens xs b.value b.first at.place one.0 one.1 one.2 (at.opens deepest nested);
            }

        lost : (xs : List Seen) (f : Fault) → step p q xs ≡ Err f → FaultAt edge (Both D E) (λ t. first_of (dp t.0) (dq t.1)) (step p q) xs f
        lost xs f e = by xs f (broke p q xs f e)

        starts : (t : X × Y) (front : List Seen) → Both D E t front → IsStart (np && nq) (fp ++ if_so np fq) front
        starts t front b = subst (IsStart (np && nq) (fp ++ if_so np fq)) (sym b.joined) (both_start np b.front b.back (r.starts t.0 b.front b.left) (s.starts t.1 b.back b.right))
