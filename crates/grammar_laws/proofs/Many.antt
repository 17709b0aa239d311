-- Things one after another, as long as one may begin.
use Rattle.std.proofs.Common.{◌≡◌, ◌∙◌, ap, sym, subst, refl, ℕ, zero, suc, ◌+◌, ◌-◌, ◌<◌, ◌≤◌, List, [], ◌∷◌, ◌++◌, length, take, drop, Bool, true, false, Option, Some, None, Ok, Err, ◌⊎◌, inl, inr, arith, append_assoc, length-append, length-drop}
use Rattle.std.proofs.lemmas.List.{append-nil}
use Rattle.idl_parser.specs.declared.fault.Fault.{Fault}
use Rattle.idl_parser.specs.declared.fault.Fault.TheVariants as faults
use Rattle.idl_parser.specs.Lexemes.{Scan, lexeme_of, offset_of}
use Rattle.idl_parser.specs.Run.{joined, run}
use Rattle.idl_parser.specs.Seen.{Seen}
use Rattle.grammar_laws.specs.Depth.{first_of}
use Rattle.grammar_laws.proofs.TokenKinds.{Kind, among, either_way, free, free_is, kind}
use Rattle.grammar_laws.proofs.Lists.{Same, append_more, append_none, drop_both, drop_front, same_behind, same_less, take_both}
use Rattle.grammar_laws.proofs.Reading.{Begun, FaultAt, IsStart, Part, Reads, begun, err_is, fits_as, fits_both, fits_none, none_both, judged, ok_count, ok_same, ok_value}

module _ {Y : Type 0} where
  joined_nothing : (scan : Scan (List Y)) → joined [] 0 scan ≡ scan
  joined_nothing (Ok x) =
      let same : 0 + x.1 ≡ x.1 = omega arith in
      ap (λ (n : ℕ). let r : Scan (List Y) = Ok (x.0, n) in r) same
  joined_nothing (Err fault) = refl

  joined_twice : (xs ys : List Y) (n m : ℕ) (scan : Scan (List Y)) → joined xs n (joined ys m scan) ≡ joined (xs ++ ys) (n + m) scan
  joined_twice xs ys n m (Ok x) =
      let same : n + (m + x.1) ≡ n + m + x.1 = omega arith in
      ap (λ (k : ℕ). let r : Scan (List Y) = Ok (xs ++ (ys ++ x.0), k) in r) same
      ∙ ap (λ (zs : List Y). let r : Scan (List Y) = Ok (zs, n + m + x.1) in r) (sym (append_assoc xs ys x.0))
  joined_twice xs ys n m (Err fault) = refl

  -- one after another, each read by the relation of one
  pub data Many (D : List Y → List Seen → Type 0) : List Y → List Seen → Type 0 where
    no_more : (ys : List Y) (tokens : List Seen) → ys ≡ [] → tokens ≡ [] → Many D ys tokens
    one_more : (y ys all : List Y) (front back tokens : List Seen) → D y front → Many D ys back → all ≡ y ++ ys → tokens ≡ front ++ back → Many D all tokens

module _ {Y : Type 0} (edge : ℕ) (more : List Seen → Bool) (one : Part (List Y)) where
  skipped : (tokens : List Seen) (skip : ℕ) → skip ≤ length tokens → run more one edge tokens skip ≡ joined [] skip (run more one edge (drop skip tokens) 0)
  unfolding run
  skipped [] zero h = sym (joined_nothing (run more one edge [] 0))
  skipped [] (suc skip) h = absurd (omega arith)
  skipped (t ∷ ts) zero h = sym (joined_nothing (run more one edge (t ∷ ts) 0))
  skipped (t ∷ ts) (suc skip) h =
      let one_more : 1 + skip ≡ suc skip = omega arith in
      ap (joined [] 1) (skipped ts skip (omega arith)) ∙ joined_twice [] [] 1 skip (run more one edge (drop skip ts) 0)
      ∙ ap (λ (n : ℕ). joined [] n (run more one edge (drop skip ts) 0)) one_more

  stepped : (tokens : List Seen) (ys : List Y) (n : ℕ) → more tokens ≡ true → one tokens ≡ Ok (ys, n) → 0 < n → n ≤ length tokens →
      run more one edge tokens 0 ≡ joined ys n (run more one edge (drop n tokens) 0)
  unfolding run
  stepped [] ys n s e l h = absurd (omega arith)
  stepped (t ∷ ts) ys zero s e l h = absurd (omega arith)
  stepped (t ∷ ts) ys (suc n) s e l h =
      let less : suc n - 1 ≡ n = omega arith in
      let whole : 1 + n ≡ suc n = omega arith in
      rw (s, e) (ap (λ (k : ℕ). joined ys 1 (run more one edge ts k)) less ∙ ap (joined ys 1) (skipped ts n (omega arith))
      ∙ joined_twice ys [] 1 n (run more one edge (drop n ts) 0)
      ∙ ap (λ (zs : List Y). joined zs (1 + n) (run more one edge (drop n ts) 0)) (append-nil ys)
      ∙ ap (λ (k : ℕ). joined ys k (run more one edge (drop n ts) 0)) whole)

  failed : (tokens : List Seen) (fault : Fault) → more tokens ≡ true → one tokens ≡ Err fault → run more one edge tokens 0 ≡ Err fault
  unfolding run
  failed [] fault s e = rw (s, e) refl
  failed (t ∷ ts) fault s e = rw (s, e) refl

  ended : (tokens : List Seen) → more tokens ≡ false → run more one edge tokens 0 ≡ Ok ([], 0)
  unfolding run
  ended [] s = rw s refl
  ended (t ∷ ts) s = rw s refl

  abbrev pub all_of : Part (List Y)
  all_of tokens = run more one edge tokens 0

  joined_judged : (o u : Option ℕ) (y ys : List Y) (a b : ℕ) (xs : List Seen) → more xs ≡ true → 0 < a → a ≤ length xs → one xs ≡ judged o y a → all_of (drop a xs) ≡ judged u ys b →
      all_of xs ≡ judged (first_of o u) (y ++ ys) (a + b)
  joined_judged None None y ys a b xs m some within e f = stepped xs y a m e some within ∙ ap (joined y a) f
  joined_judged None (Some at) y ys a b xs m some within e f = stepped xs y a m e some within ∙ ap (joined y a) f
  joined_judged (Some at) u y ys a b xs m some within e f = failed xs (faults.Nested at) m e

  -- how it went where one may begin
  record Taken (xs : List Seen) (ys : List Y) (n : ℕ) : Type 0 where
    first : List Y
    others : List Y
    size : ℕ
    left : ℕ
    one_is : one xs ≡ Ok (first, size)
    rest_is : all_of (drop size xs) ≡ Ok (others, left)
    values : ys ≡ first ++ others
    count : n ≡ size + left

  module _ (D : List Y → List Seen → Type 0) (deep : List Y → Option ℕ) (firsts : List Kind) (bar : Kind → Bool) (r : Reads edge D deep one false firsts bar)
      (goes : (s : Seen) (rest : List Seen) → among firsts (kind s.lexeme) ≡ true → more (s ∷ rest) ≡ true)
      (alike_more : (n : ℕ) (xs ys : List Seen) → Same (suc n) xs ys → more xs ≡ more ys)
      (none_deep : deep [] ≡ None) (both_deep : (y ys : List Y) (tokens : List Seen) → D y tokens → deep (y ++ ys) ≡ first_of (deep y) (deep ys)) where
    not_empty : (n : ℕ) (y : List Y) (xs : List Seen) → D y (take n xs) → 0 < n
    not_empty zero y xs d = absurd (no (r.starts y [] d))
      where
        no : IsStart false firsts [] → ⊥
        no e = cc
    not_empty (suc n) y xs d = omega arith

    taken_end : (xs : List Seen) (ys : List Y) (n : ℕ) (y : List Y × ℕ) (rest : Scan (List Y)) → one xs ≡ Ok y → all_of (drop y.1 xs) ≡ rest → joined y.0 y.1 rest ≡ Ok (ys, n) → Taken xs ys n
    taken_end xs ys n y (Ok z) e f h = record {
      first = y.0;
      others = z.0;
      size = y.1;
      left = z.1;
      one_is = e;
      rest_is = f;
      values = sym (ok_value (y.0 ++ z.0) ys (y.1 + z.1) n h);
      count = sym (ok_count (y.0 ++ z.0) ys (y.1 + z.1) n h);
    }
    taken_end xs ys n y (Err g) e f h = absurd (cc)

    taken_by : (xs : List Seen) (ys : List Y) (n : ℕ) (o : Scan (List Y)) → more xs ≡ true → one xs ≡ o → all_of xs ≡ Ok (ys, n) → Taken xs ys n
    taken_by xs ys n (Ok y) m e h =
        let read = r.sound xs y.0 y.1 e in
        taken_end xs ys n y (all_of (drop y.1 xs)) e refl (sym (stepped xs y.0 y.1 m e (not_empty y.1 y.0 xs read.1) read.0) ∙ h)
    taken_by xs ys n (Err g) m e h = absurd (no (sym (failed xs g m e) ∙ h))
      where
        no : (let q : Scan (List Y) = Err g in q) ≡ Ok (ys, n) → ⊥
        no e = cc

    taken : (xs : List Seen) (ys : List Y) (n : ℕ) → more xs ≡ true → all_of xs ≡ Ok (ys, n) → Taken xs ys n
    taken xs ys n m h = taken_by xs ys n (one xs) m refl h

    -- ---- what is read is derived

    none_read : (xs : List Seen) (ys : List Y) (n : ℕ) → more xs ≡ false → all_of xs ≡ Ok (ys, n) → (ys ≡ []) × (n ≡ 0)
    none_read xs ys n m h =
        let e : (let q : Scan (List Y) = Ok ([], 0) in q) ≡ Ok (ys, n) = sym (ended xs m) ∙ h in
        (sym (ok_value [] ys 0 n e), sym (ok_count [] ys 0 n e))

    sound : (k : ℕ) (xs : List Seen) (ys : List Y) (n : ℕ) → length xs < k → (more xs ≡ true) ⊎ (more xs ≡ false) → all_of xs ≡ Ok (ys, n) → (n ≤ length xs) × Many D ys (take n xs) × (deep ys ≡ None)
    sound zero xs ys n less m h = absurd (omega arith)
    sound (suc k) xs ys n less (inr m) h =
        let none = none_read xs ys n m h in
        let count : n ≡ 0 = none.1 in
        (omega (arith, count), no_more ys (take n xs) none.0 (ap (λ (j : ℕ). take j xs) count), ap deep none.0 ∙ none_deep)
    sound (suc k) xs ys n less (inl m) h =
        let t = taken xs ys n m h in
        let read = r.sound xs t.first t.size t.one_is in
        let some = not_empty t.size t.first xs read.1 in
        let size = length-drop t.size xs in
        let rest = sound k (drop t.size xs) t.others t.left (omega (arith, less, some, size, read.0)) (either_way (more (drop t.size xs))) t.rest_is in
        let count : n ≡ t.size + t.left = t.count in (
          omega (arith, read.0, rest.0, count, size),
          one_more t.first t.others ys (take t.size xs) (take t.left (drop t.size xs)) (take n xs) read.1 rest.1 t.values (ap (λ (j : ℕ). take j xs) count ∙ take_both t.size t.left xs),
          ap deep t.values ∙ both_deep t.first t.others (take t.size xs) read.1 ∙ none_both (deep t.first) (deep t.others) read.2 rest.2,
        )

    -- ---- what is derived is read

    starts_free : (y : List Y) (front rest : List Seen) → free firsts bar ≡ true → D y front → bar (kind (lexeme_of (front ++ rest))) ≡ false
    starts_free y [] rest apart d = absurd (no (r.starts y [] d))
      where
        no : IsStart false firsts [] → ⊥
        no e = cc
    starts_free y (s ∷ front) rest apart d = free_is firsts bar (kind s.lexeme) apart (r.starts y (s ∷ front) d)

    starts_more : (y : List Y) (front rest : List Seen) → D y front → more (front ++ rest) ≡ true
    starts_more y [] rest d = absurd (no (r.starts y [] d))
      where
        no : IsStart false firsts [] → ⊥
        no e = cc
    starts_more y (s ∷ front) rest d = goes s (front ++ rest) (r.starts y (s ∷ front) d)

    some_tokens : (y : List Y) (front : List Seen) → D y front → 0 < length front
    some_tokens y [] d = absurd (no (r.starts y [] d))
      where
        no : IsStart false firsts [] → ⊥
        no e = cc
    some_tokens y (s ∷ front) d = omega arith

    many_free : (ys : List Y) (tokens rest : List Seen) → free firsts bar ≡ true → bar (kind (lexeme_of rest)) ≡ false → Many D ys tokens → bar (kind (lexeme_of (tokens ++ rest))) ≡ false
    many_free _ _ rest apart b (no_more ys tokens e none) = subst (λ (u : List Seen). bar (kind (lexeme_of (u ++ rest))) ≡ false) (sym none) b
    many_free _ _ rest apart b (one_more y ys all front back tokens d m e split) =
        subst (λ (u : List Seen). bar (kind (lexeme_of u)) ≡ false) (sym (ap (λ (u : List Seen). u ++ rest) split ∙ append_more front back rest)) (starts_free y front (back ++ rest) apart d)

    pub many_whole : (ys : List Y) (tokens rest : List Seen) → free firsts bar ≡ true → bar (kind (lexeme_of rest)) ≡ false → more rest ≡ false → Many D ys tokens →
        all_of (tokens ++ rest) ≡ judged (deep ys) ys (length tokens)
    many_whole _ _ rest apart b m (no_more ys tokens e none) =
        ap (λ (u : List Seen). all_of (u ++ rest)) none ∙ ended rest m
        ∙ sym (ap (λ (u : List Seen). judged (deep ys) ys (length u)) none ∙ ap (λ (v : List Y). judged (deep v) v 0) e ∙ ap (λ (o : Option ℕ). let v : List Y = [] in judged o v 0) none_deep)
    many_whole _ _ rest apart b m (one_more y ys all front back tokens d mm e split) =
        let whole : tokens ++ rest ≡ front ++ (back ++ rest) = ap (λ (u : List Seen). u ++ rest) split ∙ append_more front back rest in
        let read = r.whole y front (back ++ rest) d (many_free ys back rest apart b mm) in
        let inner = many_whole ys back rest apart b m mm in
        let behind = ap all_of (drop_front front (back ++ rest)) ∙ inner in
        let size : length front + length back ≡ length tokens = sym (ap length split ∙ length-append front back) in
        ap all_of whole
        ∙ joined_judged (deep y) (deep ys) y ys (length front) (length back) (front ++ (back ++ rest)) (starts_more y front (back ++ rest) d) (some_tokens y front d)
        (omega (arith, length-append front (back ++ rest))) read behind
        ∙ ap (λ (o : Option ℕ). judged o (y ++ ys) (length front + length back)) (sym (both_deep y ys front d))
        ∙ ap (λ (v : List Y). judged (deep v) v (length front + length back)) (sym e)
        ∙ ap (λ (k : ℕ). judged (deep all) all k) size

    -- ---- no more than one token behind it is looked at

    stays : (k : ℕ) (xs zs : List Seen) (ys : List Y) (n : ℕ) → length xs < k → (more xs ≡ true) ⊎ (more xs ≡ false) → all_of xs ≡ Ok (ys, n) → Same (suc n) xs zs → all_of zs ≡ Ok (ys, n)
    stays zero xs zs ys n less m h alike = absurd (omega arith)
    stays (suc k) xs zs ys n less (inr m) h alike = ended zs (sym (alike_more n xs zs alike) ∙ m) ∙ sym (ended xs m) ∙ h
    stays (suc k) xs zs ys n less (inl m) h alike =
        let t = taken xs ys n m h in
        let read = r.sound xs t.first t.size t.one_is in
        let some = not_empty t.size t.first xs read.1 in
        let size = length-drop t.size xs in
        let count : n ≡ t.size + t.left = t.count in
        let first = r.stays xs zs t.first t.size t.one_is (same_less (suc t.size) (suc n) xs zs (omega (arith, count)) alike) in
        let there = r.sound zs t.first t.size first in
        let rest = stays k (drop t.size xs) (drop t.size zs) t.others t.left (omega (arith, less, some, size, read.0)) (either_way (more (drop t.size xs))) t.rest_is
        (same_behind t.size (suc t.left) (suc n) xs zs (omega (arith, count)) alike) in
        stepped zs t.first t.size (sym (alike_more n xs zs alike) ∙ m) first some there.0 ∙ ap (joined t.first t.size) rest
        ∙ ok_same (t.first ++ t.others) ys (t.size + t.left) n (sym t.values) (sym count)

    -- ---- faults

    one_begun : (w : Bool) (front : List Seen) → Begun edge D deep w front → Begun edge (Many D) deep w front
    one_begun w front b = record {
      value = b.value;
      rest = b.rest;
      derives = one_more b.value [] b.value (front ++ b.rest) [] (front ++ b.rest) b.derives (no_more [] [] refl refl) (sym (append-nil b.value)) (sym (append_none (front ++ b.rest)));
      fits = b.fits;
    }

    first_lost : (xs : List Seen) (n : ℕ) → (n ≡ 0) ⊎ Begun edge D deep true (take n xs) → (n ≡ 0) ⊎ Begun edge (Many D) deep true (take n xs)
    first_lost xs n (inl none) = inl none
    first_lost xs n (inr b) = inr (one_begun true (take n xs) b)

    -- behind one, more begin
    later_begun : (w : Bool) (xs : List Seen) (y : List Y) (a n : ℕ) → D y (take a xs) → deep y ≡ None → Begun edge (Many D) deep w (take n (drop a xs)) → Begun edge (Many D) deep w (take (a + n) xs)
    later_begun w xs y a n d none b = record {
      value = y ++ b.value;
      rest = b.rest;
      derives = one_more y b.value (y ++ b.value) (take a xs) (take n (drop a xs) ++ b.rest) (take (a + n) xs ++ b.rest) d b.derives refl
          (ap (λ (u : List Seen). u ++ b.rest) (take_both a n xs) ∙ append_more (take a xs) (take n (drop a xs)) b.rest);
      fits = fits_as w (first_of (deep y) (deep b.value)) (deep (y ++ b.value)) (both_deep y b.value (take a xs) d) (fits_both w (deep y) (deep b.value) (fits_none w (deep y) none) b.fits);
    }

    later_lost : (xs : List Seen) (y : List Y) (a n : ℕ) → D y (take a xs) → deep y ≡ None → (n ≡ 0) ⊎ Begun edge (Many D) deep true (take n (drop a xs)) → Begun edge (Many D) deep true (take (a + n) xs)
    later_lost xs y a n d flat (inl none) =
        let same : a ≡ a + n = omega (arith, none) in
        subst (λ (k : ℕ). Begun edge (Many D) deep true (take k xs)) same (one_begun true (take a xs) (begun edge D deep true y (take a xs) d flat))
    later_lost xs y a n d flat (inr b) = later_begun true xs y a n d flat b

    later_opens : (xs : List Seen) (y : List Y) (a n : ℕ) → a ≤ length xs → D y (take a xs) → deep y ≡ None → (suc n ≤ length (drop a xs)) × Begun edge (Many D) deep false (take (suc n) (drop a xs)) →
        (suc (a + n) ≤ length xs) × Begun edge (Many D) deep false (take (suc (a + n)) xs)
    later_opens xs y a n within d flat o =
        let same : a + suc n ≡ suc (a + n) = omega arith in
        (omega (arith, within, o.0, length-drop a xs), subst (λ (k : ℕ). Begun edge (Many D) deep false (take k xs)) same (later_begun false xs y a (suc n) d flat o.1))

    joined_err : (y : List Y) (a : ℕ) (o : Scan (List Y)) (f : Fault) → joined y a o ≡ Err f → o ≡ Err f
    joined_err y a (Ok z) f e = absurd (cc)
    joined_err y a (Err g) f e = ap (λ (w : Fault). let q : Scan (List Y) = Err w in q) (err_is {X = List Y} g f e)

    -- it breaks off at the first, or later
    lost_by : (xs : List Seen) (f : Fault) → more xs ≡ true → (o : Scan (List Y)) → one xs ≡ o → all_of xs ≡ Err f →
        ((n : ℕ) → 0 < n → n ≤ length xs → (g : Fault) → all_of (drop n xs) ≡ Err g → FaultAt edge (Many D) deep all_of (drop n xs) g) → FaultAt edge (Many D) deep all_of xs f
    lost_by xs f m (Ok y) e h later =
        let read = r.sound xs y.0 y.1 e in
        let some = not_empty y.1 y.0 xs read.1 in
        let behind : all_of (drop y.1 xs) ≡ Err f = joined_err y.0 y.1 (all_of (drop y.1 xs)) f (sym (stepped xs y.0 y.1 m e some read.0) ∙ h) in
        let at = later y.1 some read.0 f behind in
        record {
          place = y.1 + at.place;
          within = omega (arith, read.0, at.within, length-drop y.1 xs);
          told = at.told ∙ ap (offset_of edge) (drop_both y.1 at.place xs);
          stays = λ zs alike.
              let first = r.stays xs zs y.0 y.1 e (same_less (suc y.1) (suc (y.1 + at.place)) xs zs (omega arith) alike) in
              let there = r.sound zs y.0 y.1 first in
              stepped zs y.0 y.1 (sym (alike_more (y.1 + at.place) xs zs alike) ∙ m) first some there.0
              ∙ ap (joined y.0 y.1) (at.stays (drop y.1 zs) (same_behind y.1 (suc at.place) (suc (y.1 + at.place)) xs zs (omega arith) alike));
          begins = inr (later_lost xs y.0 y.1 at.place read.1 read.2 at.begins);
          opens = λ deepest nested. later_opens xs y.0 y.1 at.place read.0 read.1 read.2 (at.opens deepest nested);
        }
    lost_by xs f m (Err g) e h later =
        let same : g ≡ f = err_is {X = List Y} g f (sym (failed xs g m e) ∙ h) in
        let at = r.faults xs f (e ∙ ap (λ (w : Fault). let q : Scan (List Y) = Err w in q) same) in
        record {
          place = at.place;
          within = at.within;
          told = at.told;
          stays = λ zs alike. failed zs f (sym (alike_more at.place xs zs alike) ∙ m) (at.stays zs alike);
          begins = first_lost xs at.place at.begins;
          opens = λ deepest nested. let o = at.opens deepest nested in (o.0, one_begun false (take (suc at.place) xs) o.1);
        }

    lost : (k : ℕ) (xs : List Seen) (f : Fault) → length xs < k → (more xs ≡ true) ⊎ (more xs ≡ false) → all_of xs ≡ Err f → FaultAt edge (Many D) deep all_of xs f
    lost zero xs f less m h = absurd (omega arith)
    lost (suc k) xs f less (inr m) h = absurd (no (sym (ended xs m) ∙ h))
      where
        no : (let q : Scan (List Y) = Ok ([], 0) in q) ≡ Err f → ⊥
        no e = cc
    lost (suc k) xs f less (inl m) h =
        lost_by xs f m (one xs) refl h
        (λ n some within g e. lost k (drop n xs) g (omega (arith, less, some, within, length-drop n xs)) (either_way (more (drop n xs))) e)

    many_start : (ys : List Y) (tokens : List Seen) → Many D ys tokens → IsStart true firsts tokens
    many_start _ _ (no_more ys tokens e none) = subst (IsStart true firsts) (sym none) refl
    many_start _ _ (one_more y ys all front back tokens d m e split) = subst (IsStart true firsts) (sym split) (by front (r.starts y front d))
      where
        by : (front : List Seen) → IsStart false firsts front → IsStart true firsts (front ++ back)
        by [] s = absurd (cc)
        by (t ∷ front) s = s

    pub many_reads : (stop : Kind → Bool) → free firsts bar ≡ true → ((rest : List Seen) → stop (kind (lexeme_of rest)) ≡ false → (more rest ≡ false) × (bar (kind (lexeme_of rest)) ≡ false)) →
        Reads edge (Many D) deep all_of true firsts stop
    many_reads stop apart stops = record {
      sound = λ xs ys n h. sound (suc (length xs)) xs ys n (omega arith) (either_way (more xs)) h;
      whole = λ ys front rest m e. let free_here = stops rest e in many_whole ys front rest apart free_here.1 free_here.0 m;
      stays = λ xs zs ys n h alike. stays (suc (length xs)) xs zs ys n (omega arith) (either_way (more xs)) h alike;
      faults = λ xs f h. lost (suc (length xs)) xs f (omega arith) (either_way (more xs)) h;
      starts = many_start;
    }

    -- ---- it goes on as long as one may begin

    ends : (k : ℕ) (xs : List Seen) (ys : List Y) (n : ℕ) → length xs < k → (more xs ≡ true) ⊎ (more xs ≡ false) → all_of xs ≡ Ok (ys, n) → more (drop n xs) ≡ false
    ends zero xs ys n less m h = absurd (omega arith)
    ends (suc k) xs ys n less (inr m) h = subst (λ (j : ℕ). more (drop j xs) ≡ false) (sym (none_read xs ys n m h).1) m
    ends (suc k) xs ys n less (inl m) h =
        let t = taken xs ys n m h in
        let read = r.sound xs t.first t.size t.one_is in
        let some = not_empty t.size t.first xs read.1 in
        let rest = ends k (drop t.size xs) t.others t.left (omega (arith, less, some, length-drop t.size xs, read.0)) (either_way (more (drop t.size xs))) t.rest_is in
        subst (λ (j : ℕ). more (drop j xs) ≡ false) (sym t.count) (subst (λ (zs : List Seen). more zs ≡ false) (drop_both t.size t.left xs) rest)

    pub many_ends : (xs : List Seen) (ys : List Y) (n : ℕ) → all_of xs ≡ Ok (ys, n) → more (drop n xs) ≡ false
    many_ends xs ys n h = ends (suc (length xs)) xs ys n (omega arith) (either_way (more xs)) h
