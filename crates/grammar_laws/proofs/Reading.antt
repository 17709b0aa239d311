-- What a scan has to do with the relation that it reads: what it reads is derived, what is derived is read as far as levels are left, it looks at
-- no more than one token behind what it read, and before a fault stands what begins something.
use Rattle.std.proofs.Common.{◌≡◌, ◌∙◌, ap, sym, subst, refl, ℕ, suc, ◌+◌, ◌≤◌, List, [], ◌∷◌, ◌++◌, length, take, drop, Bool, true, false, Option, Some, None, Ok, Err, ◌⊎◌, inl, inr, arith}
use Rattle.idl_parser.specs.declared.fault.Fault.{Fault}
use Rattle.idl_parser.specs.declared.fault.Fault.TheVariants as faults
use Rattle.idl_parser.specs.Lexemes.{Scan, lexeme_of, offset_of}
use Rattle.idl_parser.specs.Seen.{Seen}
use Rattle.grammar_laws.specs.Depth.{first_of}
use Rattle.grammar_laws.proofs.TokenKinds.{Kind, among, kind, nothing_barred}
use Rattle.grammar_laws.proofs.Lists.{Same, append_none, same_lexeme, same_offset}

abbrev pub place_of : Fault → ℕ
place_of (faults.Syntax at) = at
place_of (faults.Nested at) = at

abbrev pub Part : Type 0 → Type 0
Part X = List Seen → Scan X

-- what it is read as: a fault where a level is missing
abbrev pub judged : {X : Type 0} → Option ℕ → X → ℕ → Scan X
judged None x n = Ok (x, n)
judged (Some at) x n = Err (faults.Nested at)

abbrev pub moved : {X Z : Type 0} → ℕ → (X → Z) → Scan X → Scan Z
moved n g (Ok x) = Ok (g x.0, n + x.1)
moved n g (Err f) = Err f

abbrev pub IsStart : Bool → List Kind → List Seen → Type 0
IsStart null firsts [] = null ≡ true
IsStart null firsts (s ∷ rest) = among firsts (kind s.lexeme) ≡ true

module _ {X : Type 0} where
  pub ok_is : (a b : X × ℕ) → (let r : Scan X = Ok a in r) ≡ Ok b → a ≡ b
  ok_is a b e = cc

  pub ok_value : (x y : X) (m n : ℕ) → (let r : Scan X = Ok (x, m) in r) ≡ Ok (y, n) → x ≡ y
  ok_value x y m n e = ap (λ (p : X × ℕ). p.0) (ok_is (x, m) (y, n) e)

  pub ok_count : (x y : X) (m n : ℕ) → (let r : Scan X = Ok (x, m) in r) ≡ Ok (y, n) → m ≡ n
  ok_count x y m n e = ap (λ (p : X × ℕ). p.1) (ok_is (x, m) (y, n) e)

  pub err_is : (f g : Fault) → (let r : Scan X = Err f in r) ≡ Err g → f ≡ g
  err_is f g e = cc

  pub ok_same : (x y : X) (m n : ℕ) → x ≡ y → m ≡ n → (let r : Scan X = Ok (x, m) in r) ≡ Ok (y, n)
  ok_same x y m n e f = ap (λ (z : X). let r : Scan X = Ok (z, m) in r) e ∙ ap (λ (k : ℕ). let r : Scan X = Ok (y, k) in r) f

-- the levels are enough, where that is asked for
abbrev pub Fits : Bool → Option ℕ → Type 0
Fits true o = o ≡ None
Fits false o = Unit {0}

pub fits_none : (w : Bool) (o : Option ℕ) → o ≡ None → Fits w o
fits_none true o e = e
fits_none false o e = tt

pub fits_as : (w : Bool) (o u : Option ℕ) → u ≡ o → Fits w o → Fits w u
fits_as w o u e f = subst (Fits w) (sym e) f

pub none_both : (o u : Option ℕ) → o ≡ None → u ≡ None → first_of o u ≡ None
none_both o u e f = ap (λ (x : Option ℕ). first_of x u) e ∙ f

pub fits_both : (w : Bool) (o u : Option ℕ) → Fits w o → Fits w u → Fits w (first_of o u)
fits_both true o u e f = none_both o u e f
fits_both false o u e f = tt

module _ {X : Type 0} (edge : ℕ) (D : X → List Seen → Type 0) (deep : X → Option ℕ) where
  -- these tokens begin something, for which the levels are enough where that is asked for
  pub record Begun (asked : Bool) (front : List Seen) : Type 0 where
    pub value : X
    pub rest : List Seen
    pub derives : D value (front ++ rest)
    pub fits : Fits asked (deep value)

  pub record FaultAt (p : Part X) (xs : List Seen) (f : Fault) : Type 0 where
    pub place : ℕ
    pub within : place ≤ length xs
    pub told : place_of f ≡ offset_of edge (drop place xs)
    pub stays : (ys : List Seen) → Same (suc place) xs ys → p ys ≡ Err f
    pub begins : (place ≡ 0) ⊎ Begun true (take place xs)
    -- what opens a level too many stands there
    pub opens : (at : ℕ) → f ≡ faults.Nested at → (suc place ≤ length xs) × Begun false (take (suc place) xs)

  pub record Reads (p : Part X) (null : Bool) (firsts : List Kind) (bar : Kind → Bool) : Type 0 where
    pub sound : (xs : List Seen) (x : X) (n : ℕ) → p xs ≡ Ok (x, n) → (n ≤ length xs) × D x (take n xs) × (deep x ≡ None)
    pub whole : (x : X) (front rest : List Seen) → D x front → bar (kind (lexeme_of rest)) ≡ false → p (front ++ rest) ≡ judged (deep x) x (length front)
    pub stays : (xs ys : List Seen) (x : X) (n : ℕ) → p xs ≡ Ok (x, n) → Same (suc n) xs ys → p ys ≡ Ok (x, n)
    pub faults : (xs : List Seen) (f : Fault) → p xs ≡ Err f → FaultAt p xs f
    pub starts : (x : X) (front : List Seen) → D x front → IsStart null firsts front

  -- what is derived from a whole begins with it
  pub begun : (w : Bool) (x : X) (front : List Seen) → D x front → Fits w (deep x) → Begun w front
  begun w x front d f = record { value = x; rest = []; derives = subst (D x) (sym (append_none front)) d; fits = f }

  pub at_first : (p : Part X) (xs : List Seen) (f : Fault) → place_of f ≡ offset_of edge xs → ((ys : List Seen) → Same 1 xs ys → p ys ≡ Err f) →
      ((at : ℕ) → f ≡ faults.Nested at → (1 ≤ length xs) × Begun false (take 1 xs)) → FaultAt p xs f
  at_first p xs f told stays opens = record { place = 0; within = omega arith; told = told; stays = stays; begins = inl refl; opens = opens }

-- ---- nothing

abbrev pub IsNone : {X : Type 0} → X → X → List Seen → Type 0
IsNone x y tokens = (y ≡ x) × (tokens ≡ [])

pub none_reads : {X : Type 0} (edge : ℕ) (x : X) (deep : X → Option ℕ) → deep x ≡ None → Reads edge (IsNone x) deep (λ xs. Ok (x, 0)) true [] nothing_barred
none_reads {X} edge x deep shallow = record { sound = sound; whole = whole; stays = λ xs ys y n e same. e; faults = λ xs f e. absurd (cc); starts = starts }
  where
    sound : (xs : List Seen) (y : X) (n : ℕ) → (let r : Scan X = Ok (x, 0) in r) ≡ Ok (y, n) → (n ≤ length xs) × IsNone x y (take n xs) × (deep y ≡ None)
    sound xs y n e =
        let none : 0 ≡ n = ok_count x y 0 n e in
        (omega arith, (sym (ok_value x y 0 n e), ap (λ (k : ℕ). take k xs) (sym none)), ap deep (sym (ok_value x y 0 n e)) ∙ shallow)

    whole : (y : X) (front rest : List Seen) → IsNone x y front → nothing_barred (kind (lexeme_of rest)) ≡ false → (let r : Scan X = Ok (x, 0) in r) ≡ judged (deep y) y (length front)
    whole y front rest d free =
        sym (ap (λ (t : List Seen). judged (deep y) y (length t)) d.1 ∙ ap (λ (z : X). judged (deep z) z 0) d.0 ∙ ap (λ (o : Option ℕ). judged o x 0) shallow)

    starts : (y : X) (front : List Seen) → IsNone x y front → IsStart true [] front
    starts y front d = subst (IsStart true []) (sym d.1) refl

-- ---- a fault

no_nested : (a b : ℕ) (f : Fault) → faults.Syntax a ≡ f → f ≡ faults.Nested b → ⊥
no_nested a b f e g = cc

abbrev pub Never : {X : Type 0} → X → List Seen → Type 0
Never x tokens = ⊥

pub fails : {X : Type 0} (edge : ℕ) (deep : X → Option ℕ) → Reads {X = X} edge Never deep (λ xs. Err (faults.Syntax (offset_of edge xs))) false [] nothing_barred
fails {X} edge deep = record { sound = λ xs x n e. absurd (cc); whole = λ x front rest d free. absurd d; stays = λ xs ys x n e same. absurd (cc); faults = lost; starts = λ x front d. absurd d }
  where
    lost : (xs : List Seen) (f : Fault) → (let r : Scan X = Err (faults.Syntax (offset_of edge xs)) in r) ≡ Err f → FaultAt {X = X} edge Never deep (λ ys. Err (faults.Syntax (offset_of edge ys))) xs f
    lost xs f e =
        let is : faults.Syntax (offset_of edge xs) ≡ f = err_is (faults.Syntax (offset_of edge xs)) f e in
        at_first edge Never deep (λ ys. Err (faults.Syntax (offset_of edge ys))) xs f (sym (ap place_of is))
        (λ ys same. ap (λ (n : ℕ). let r : Scan X = Err (faults.Syntax n) in r) (sym (same_offset edge 0 xs ys same)) ∙ e) (λ at nested. absurd (no_nested (offset_of edge xs) at f is nested))

-- no level is left for what begins so
abbrev pub nested_by : {X : Type 0} → Bool → ℕ → Scan X
nested_by true at = Err (faults.Nested at)
nested_by false at = Err (faults.Syntax at)

abbrev pub too_deep : {X : Type 0} → ℕ → List Kind → Part X
too_deep edge ks xs = nested_by (among ks (kind (lexeme_of xs))) (offset_of edge xs)

module _ {X : Type 0} (edge : ℕ) (D : X → List Seen → Type 0) (deep : X → Option ℕ) (ks : List Kind) (bar : Kind → Bool) (ends : among ks (kind (lexeme_of [])) ≡ false)
    (starts : (x : X) (front : List Seen) → D x front → IsStart false ks front) (deeper : (x : X) (front rest : List Seen) → D x front → deep x ≡ Some (offset_of edge (front ++ rest)))
    (opens : (s : Seen) → among ks (kind s.lexeme) ≡ true → Begun edge D deep false (s ∷ [])) where
  starts_among : (x : X) (front rest : List Seen) → D x front → among ks (kind (lexeme_of (front ++ rest))) ≡ true
  starts_among x [] rest d = absurd (no (starts x [] d))
    where
      no : IsStart false ks [] → ⊥
      no e = cc
  starts_among x (s ∷ front) rest d = starts x (s ∷ front) d

  never_read : (b : Bool) (at : ℕ) (x : X) (n : ℕ) → nested_by b at ≡ Ok (x, n) → ⊥
  never_read true at x n e = cc
  never_read false at x n e = cc

  told_there : (b : Bool) (at : ℕ) (f : Fault) → nested_by {X = X} b at ≡ Err f → place_of f ≡ at
  told_there true at f e = sym (ap place_of (err_is {X = X} (faults.Nested at) f e))
  told_there false at f e = sym (ap place_of (err_is {X = X} (faults.Syntax at) f e))

  only_there : (b : Bool) (at deepest : ℕ) (f : Fault) → nested_by {X = X} b at ≡ Err f → f ≡ faults.Nested deepest → b ≡ true
  only_there true at deepest f e g = refl
  only_there false at deepest f e g = absurd (no_nested at deepest f (err_is {X = X} (faults.Syntax at) f e) g)

  nest_same : (xs ys : List Seen) → Same 1 xs ys → too_deep {X = X} edge ks xs ≡ too_deep edge ks ys
  nest_same xs ys same =
      ap (λ l. nested_by {X = X} (among ks (kind l)) (offset_of edge xs)) (same_lexeme 0 xs ys same)
      ∙ ap (λ (n : ℕ). nested_by {X = X} (among ks (kind (lexeme_of ys))) n) (same_offset edge 0 xs ys same)

  opened : (xs : List Seen) → among ks (kind (lexeme_of xs)) ≡ true → (1 ≤ length xs) × Begun edge D deep false (take 1 xs)
  opened [] e = absurd (no (sym ends ∙ e))
    where
      no : false ≡ true → ⊥
      no p = cc
  opened (s ∷ xs) e = (omega arith, opens s e)

  pub nests : Reads edge D deep (too_deep edge ks) false ks bar
  nests = record {
    sound = λ xs x n e. absurd (never_read (among ks (kind (lexeme_of xs))) (offset_of edge xs) x n e);
    whole = λ x front rest d free. ap (λ (b : Bool). nested_by {X = X} b (offset_of edge (front ++ rest))) (starts_among x front rest d)
        ∙ sym (ap (λ (o : Option ℕ). judged o x (length front)) (deeper x front rest d));
    stays = λ xs ys x n e same. absurd (never_read (among ks (kind (lexeme_of xs))) (offset_of edge xs) x n e);
    faults = λ xs f e. at_first edge D deep (too_deep edge ks) xs f (told_there (among ks (kind (lexeme_of xs))) (offset_of edge xs) f e) (λ ys same. sym (nest_same xs ys same) ∙ e)
        (λ at nested. opened xs (only_there (among ks (kind (lexeme_of xs))) (offset_of edge xs) at f e nested));
    starts = starts;
  }

-- ---- one token

abbrev pub token_by : Bool → Seen → Scan Seen
token_by true s = Ok (s, 1)
token_by false s = Err (faults.Syntax s.at)

abbrev pub token : ℕ → (Seen → Bool) → Part Seen
token edge t [] = Err (faults.Syntax edge)
token edge t (s ∷ rest) = token_by (t s) s

abbrev pub IsToken : (Seen → Bool) → Seen → List Seen → Type 0
IsToken t s tokens = (t s ≡ true) × (tokens ≡ s ∷ [])

abbrev pub shallow : {X : Type 0} → X → Option ℕ
shallow x = None

token_ok : (b : Bool) (s x : Seen) (n : ℕ) → token_by b s ≡ Ok (x, n) → (b ≡ true) × ((s ≡ x) × (1 ≡ n))
token_ok true s x n e = (refl, (ok_value s x 1 n e, ok_count s x 1 n e))
token_ok false s x n e = absurd (cc)

token_err : (b : Bool) (s : Seen) (f : Fault) → token_by b s ≡ Err f → s.at ≡ place_of f
token_err true s f e = absurd (cc)
token_err false s f e = ap place_of (err_is {X = Seen} (faults.Syntax s.at) f e)

module _ (edge : ℕ) (t : Seen → Bool) where
  token_sound : (xs : List Seen) (x : Seen) (n : ℕ) → token edge t xs ≡ Ok (x, n) → (n ≤ length xs) × IsToken t x (take n xs) × (shallow x ≡ None)
  token_sound [] x n e = absurd (cc)
  token_sound (s ∷ xs) x n e =
      let is = token_ok (t s) s x n e in
      let one : 1 ≡ n = is.1.1 in
      let there : t x ≡ true = subst (λ (y : Seen). t y ≡ true) is.1.0 is.0 in
      let cut : take n (s ∷ xs) ≡ x ∷ [] = ap (λ (k : ℕ). take k (s ∷ xs)) (sym one) ∙ ap (λ (y : Seen). y ∷ []) is.1.0 in
      (omega arith, (there, cut), refl)

  token_whole : (x : Seen) (front rest : List Seen) → IsToken t x front → nothing_barred (kind (lexeme_of rest)) ≡ false → token edge t (front ++ rest) ≡ judged None x (length front)
  token_whole x front rest d free =
      ap (λ (u : List Seen). token edge t (u ++ rest)) d.1 ∙ ap (λ (b : Bool). token_by b x) d.0 ∙ ap (λ (u : List Seen). judged None x (length u)) (sym d.1)

  token_same : (n : ℕ) (xs ys : List Seen) → Same (suc n) xs ys → token edge t xs ≡ token edge t ys
  token_same n [] [] s = refl
  token_same n [] (y ∷ ys) s = absurd s
  token_same n (x ∷ xs) [] s = absurd s
  token_same n (x ∷ xs) (y ∷ ys) s = ap (λ (u : Seen). token_by (t u) u) s.0

  token_place : (xs : List Seen) (f : Fault) → token edge t xs ≡ Err f → place_of f ≡ offset_of edge xs
  token_place [] f e = sym (ap place_of (err_is {X = Seen} (faults.Syntax edge) f e))
  token_place (s ∷ xs) f e = sym (token_err (t s) s f e)

  token_flat : (xs : List Seen) (f : Fault) (at : ℕ) → token edge t xs ≡ Err f → f ≡ faults.Nested at → ⊥
  token_flat [] f at e nested = no_nested edge at f (err_is {X = Seen} (faults.Syntax edge) f e) nested
  token_flat (s ∷ xs) f at e nested = by (t s) e
    where
      by : (b : Bool) → token_by b s ≡ Err f → ⊥
      by true g = cc
      by false g = no_nested s.at at f (err_is {X = Seen} (faults.Syntax s.at) f g) nested

  pub token_reads : (firsts : List Kind) → ((s : Seen) → t s ≡ true → among firsts (kind s.lexeme) ≡ true) → Reads edge (IsToken t) shallow (token edge t) false firsts nothing_barred
  token_reads firsts begins = record {
    sound = token_sound;
    whole = token_whole;
    stays = λ xs ys x n e same. sym (token_same n xs ys same) ∙ e;
    faults = λ xs f e. at_first edge (IsToken t) shallow (token edge t) xs f (token_place xs f e) (λ ys same. sym (token_same 0 xs ys same) ∙ e) (λ at nested. absurd (token_flat xs f at e nested));
    starts = λ x front d. subst (IsStart false firsts) (sym d.1) (begins x d.0);
  }

-- ---- the same, seen otherwise

moved_whole : {X Z : Type 0} (g : X → Z) (o : Option ℕ) (x : X) (n : ℕ) → moved 0 g (judged o x n) ≡ judged o (g x) n
moved_whole g None x n = let none : 0 + n ≡ n = omega arith in ok_same (g x) (g x) (0 + n) n refl none
moved_whole g (Some at) x n = refl

pub record WasOk {X Z : Type 0} (g : X → Z) (r : Scan X) (z : Z) (n : ℕ) : Type 0 where
  pub value : X
  pub is : r ≡ Ok (value, n)
  pub seen : z ≡ g value

was_ok : {X Z : Type 0} (g : X → Z) (r : Scan X) (z : Z) (n : ℕ) → moved 0 g r ≡ Ok (z, n) → WasOk g r z n
was_ok {X} g (Ok x) z n e =
    let count : 0 + x.1 ≡ n = ok_count (g x.0) z (0 + x.1) n e in
    let plain : x.1 ≡ n = omega (arith, count) in
    record { value = x.0; is = ok_same x.0 x.0 x.1 n refl plain; seen = sym (ok_value (g x.0) z (0 + x.1) n e) }
was_ok g (Err f) z n e = absurd (cc)

was_err : {X Z : Type 0} (g : X → Z) (r : Scan X) (f : Fault) → moved 0 g r ≡ Err f → r ≡ Err f
was_err g (Ok x) f e = absurd (cc)
was_err {X} {Z} g (Err h) f e = ap (λ (k : Fault). let r : Scan X = Err k in r) (err_is {X = Z} h f e)

-- it is seen by a view
pub record Viewed {X Z : Type 0} (g : X → Z) (D : X → List Seen → Type 0) (z : Z) (tokens : List Seen) : Type 0 where
  pub value : X
  pub seen : z ≡ g value
  pub derives : D value tokens

pub as_reads : {X Z : Type 0} (edge : ℕ) (D : X → List Seen → Type 0) (E : Z → List Seen → Type 0) (deep : X → Option ℕ) (deeper : Z → Option ℕ) (p : Part X) (q : Part Z) (g : X → Z)
    (null : Bool) (firsts : List Kind) (bar : Kind → Bool) → ((xs : List Seen) → q xs ≡ moved 0 g (p xs)) →
    ((x : X) (tokens : List Seen) → D x tokens → E (g x) tokens) → ((z : Z) (tokens : List Seen) → E z tokens → Viewed g D z tokens) →
    ((x : X) (tokens : List Seen) → D x tokens → deeper (g x) ≡ deep x) →
    Reads edge D deep p null firsts bar → Reads edge E deeper q null firsts bar
as_reads {X} {Z} edge D E deep deeper p q g null firsts bar same to from depth r = record { sound = sound; whole = whole; stays = stays; faults = lost; starts = starts }
  where
    sound : (xs : List Seen) (z : Z) (n : ℕ) → q xs ≡ Ok (z, n) → (n ≤ length xs) × E z (take n xs) × (deeper z ≡ None)
    sound xs z n e =
        let was = was_ok g (p xs) z n (sym (same xs) ∙ e) in
        let read = r.sound xs was.value n was.is in
        (read.0, subst (λ (w : Z). E w (take n xs)) (sym was.seen) (to was.value (take n xs) read.1), ap deeper was.seen ∙ depth was.value (take n xs) read.1 ∙ read.2)

    whole : (z : Z) (front rest : List Seen) → E z front → bar (kind (lexeme_of rest)) ≡ false → q (front ++ rest) ≡ judged (deeper z) z (length front)
    whole z front rest e free =
        let v = from z front e in
        same (front ++ rest) ∙ ap (moved 0 g) (r.whole v.value front rest v.derives free) ∙ moved_whole g (deep v.value) v.value (length front)
        ∙ ap (λ (o : Option ℕ). judged o (g v.value) (length front)) (sym (depth v.value front v.derives))
        ∙ ap (λ (w : Z). judged (deeper w) w (length front)) (sym v.seen)

    again : (ys : List Seen) (x : X) (n : ℕ) → p ys ≡ Ok (x, n) → q ys ≡ Ok (g x, n)
    again ys x n e = let none : 0 + n ≡ n = omega arith in same ys ∙ ap (moved 0 g) e ∙ ok_same (g x) (g x) (0 + n) n refl none

    stays : (xs ys : List Seen) (z : Z) (n : ℕ) → q xs ≡ Ok (z, n) → Same (suc n) xs ys → q ys ≡ Ok (z, n)
    stays xs ys z n e alike =
        let was = was_ok g (p xs) z n (sym (same xs) ∙ e) in
        again ys was.value n (r.stays xs ys was.value n was.is alike) ∙ ok_same (g was.value) z n n (sym was.seen) refl

    seen_begun : (w : Bool) (front : List Seen) → Begun edge D deep w front → Begun edge E deeper w front
    seen_begun w front b = record {
      value = g b.value;
      rest = b.rest;
      derives = to b.value (front ++ b.rest) b.derives;
      fits = fits_as w (deep b.value) (deeper (g b.value)) (depth b.value (front ++ b.rest) b.derives) b.fits;
    }

    begun_so : (xs : List Seen) (n : ℕ) → (n ≡ 0) ⊎ Begun edge D deep true (take n xs) → (n ≡ 0) ⊎ Begun edge E deeper true (take n xs)
    begun_so xs n (inl none) = inl none
    begun_so xs n (inr b) = inr (seen_begun true (take n xs) b)

    lost : (xs : List Seen) (f : Fault) → q xs ≡ Err f → FaultAt edge E deeper q xs f
    lost xs f e =
        let at = r.faults xs f (was_err g (p xs) f (sym (same xs) ∙ e)) in
        record {
          place = at.place;
          within = at.within;
          told = at.told;
          stays = λ ys alike. same ys ∙ ap (moved 0 g) (at.stays ys alike);
          begins = begun_so xs at.place at.begins;
          opens = λ deepest nested. let o = at.opens deepest nested in (o.0, seen_begun false (take (suc at.place) xs) o.1);
        }

    starts : (z : Z) (front : List Seen) → E z front → IsStart null firsts front
    starts z front e = let v = from z front e in r.starts v.value front v.derives

moved_none : {X : Type 0} (r : Scan X) → moved 0 (λ x. x) r ≡ r
moved_none (Ok x) = let none : 0 + x.1 ≡ x.1 = omega arith in ok_same x.0 x.0 (0 + x.1) x.1 refl none
moved_none (Err f) = refl

pub same_reads : {X : Type 0} (edge : ℕ) (D E : X → List Seen → Type 0) (deep : X → Option ℕ) (p q : Part X) (null : Bool) (firsts : List Kind) (bar : Kind → Bool) →
    ((xs : List Seen) → q xs ≡ p xs) → ((x : X) (tokens : List Seen) → D x tokens → E x tokens) → ((x : X) (tokens : List Seen) → E x tokens → D x tokens) →
    Reads edge D deep p null firsts bar → Reads edge E deep q null firsts bar
same_reads edge D E deep p q null firsts bar same to from r =
    as_reads edge D E deep deep p q (λ x. x) null firsts bar (λ xs. same xs ∙ sym (moved_none (p xs))) to
    (λ z tokens e. record { value = z; seen = refl; derives = from z tokens e }) (λ x tokens d. refl) r

-- what is read, by a view
pub view_reads : {X Z : Type 0} (edge : ℕ) (D : X → List Seen → Type 0) (deep : X → Option ℕ) (deeper : Z → Option ℕ) (p : Part X) (g : X → Z) (null : Bool) (firsts : List Kind) (bar : Kind → Bool) →
    ((x : X) (tokens : List Seen) → D x tokens → deeper (g x) ≡ deep x) → Reads edge D deep p null firsts bar → Reads edge (Viewed g D) deeper (λ xs. moved 0 g (p xs)) null firsts bar
view_reads edge D deep deeper p g null firsts bar depth r =
    as_reads edge D (Viewed g D) deep deeper p (λ xs. moved 0 g (p xs)) g null firsts bar (λ xs. refl) (λ x tokens d. record { value = x; seen = refl; derives = d })
    (λ z tokens v. v) depth r
