-- Things one after another: a loop over them.
use Rattle.std.proofs.Common.{◌≡◌, ℕ, zero, suc, ◌+◌, ◌-◌, ◌<◌, ◌≤◌, List, [], ◌∷◌, ◌++◌, length, drop, refl, ap, sym, ◌∙◌, arith, subst, Ok, Err, append_assoc, length-drop, true, false, Bool}
use Rattle.std.proofs.lemmas.Grind.{common_steps}
use Rattle.std.proofs.lemmas.List.{append-nil}
use Rattle.idl_parser.specs.declared.fault.Fault.{Fault}
use Rattle.idl_parser.specs.declared.fault.Stop.{Stop}
use Rattle.idl_parser.specs.declared.fault.Stop.TheVariants as stops
use Rattle.idl_parser.specs.Lexemes.{Scan, Gives, rest_of}
use Rattle.idl_parser.specs.Run.{joined, run}
use Rattle.idl_parser.specs.Seen.{Seen, Input}

module _ {Y : Type 0} where
  joined_nothing : (scan : Scan (List Y)) → joined [] 0 scan ≡ scan
  joined_nothing (Ok x) =
      let same : 0 + x.1 ≡ x.1 = omega arith in
      ap (λ (n : ℕ). let r : Scan (List Y) = Ok (x.0, n) in r) same
  joined_nothing (Err fault) = refl

  joined_twice : (xs ys : List Y) (n m : ℕ) (scan : Scan (List Y)) → joined xs n (joined ys m scan) ≡ joined (xs ++ ys) (n + m) scan
  joined_twice xs ys n m (Ok x) =
      let same : n + (m + x.1) ≡ n + m + x.1 = omega arith in
      ap (λ (k : ℕ). let r : Scan (List Y) = Ok (xs ++ (ys ++ x.0), k) in r) same
      ∙ ap (λ (zs : List Y). let r : Scan (List Y) = Ok (zs, n + m + x.1) in r) (sym (append_assoc xs ys x.0))
  joined_twice xs ys n m (Err fault) = refl

module _ {Y : Type 0} (more : List Seen → Bool) (one : List Seen → Scan (List Y)) (edge : ℕ) where
  skipped : (tokens : List Seen) (skip : ℕ) → skip ≤ length tokens → run more one edge tokens skip ≡ joined [] skip (run more one edge (drop skip tokens) 0)
  unfolding run
  skipped [] zero h = sym (joined_nothing (run more one edge [] 0))
  skipped [] (suc skip) h = absurd (omega arith)
  skipped (t ∷ ts) zero h =
      let all : drop 0 (t ∷ ts) ≡ t ∷ ts = grind (arith, common_steps) in
      sym (joined_nothing (run more one edge (t ∷ ts) 0)) ∙ ap (λ (xs : List Seen). joined [] 0 (run more one edge xs 0)) (sym all)
  skipped (t ∷ ts) (suc skip) h =
      let one_more : 1 + skip ≡ suc skip = omega arith in
      ap (joined [] 1) (skipped ts skip (omega arith)) ∙ joined_twice [] [] 1 skip (run more one edge (drop skip ts) 0)
      ∙ ap (λ (n : ℕ). joined [] n (run more one edge (drop skip ts) 0)) one_more

  stepped : (tokens : List Seen) (ys : List Y) (n : ℕ) → more tokens ≡ true → one tokens ≡ Ok (ys, n) → 0 < n → n ≤ length tokens →
      run more one edge tokens 0 ≡ joined ys n (run more one edge (drop n tokens) 0)
  unfolding run
  stepped [] ys n s e l h = absurd (omega arith)
  stepped (t ∷ ts) ys zero s e l h = absurd (omega arith)
  stepped (t ∷ ts) ys (suc n) s e l h =
      let less : suc n - 1 ≡ n = omega arith in
      let whole : 1 + n ≡ suc n = omega arith in
      rw (s, e) (ap (λ (k : ℕ). joined ys 1 (run more one edge ts k)) less ∙ ap (joined ys 1) (skipped ts n (omega arith))
      ∙ joined_twice ys [] 1 n (run more one edge (drop n ts) 0)
      ∙ ap (λ (zs : List Y). joined zs (1 + n) (run more one edge (drop n ts) 0)) (append-nil ys)
      ∙ ap (λ (k : ℕ). joined ys k (run more one edge (drop n ts) 0)) whole)

  failed : (tokens : List Seen) (fault : Fault) → more tokens ≡ true → one tokens ≡ Err fault → run more one edge tokens 0 ≡ Err fault
  unfolding run
  failed [] fault s e = rw (s, e) refl
  failed (t ∷ ts) fault s e = rw (s, e) refl

  ended : (tokens : List Seen) → more tokens ≡ false → run more one edge tokens 0 ≡ Ok ([], 0)
  unfolding run
  ended [] s = rw s refl
  ended (t ∷ ts) s = rw s refl

-- a loop that has read `front` of n tokens, and sees the rest
module _ {Y : Type 0} (more : ℕ → List Seen → Bool) (one : ℕ → List Seen → Scan (List Y)) (input rest : Input) (n : ℕ) (is : rest ≡ rest_of n input) (front : List Y) where
  left : ℕ → Scan (List Y)
  left k = joined front k (run (more input.edge) (one input.edge) input.edge (drop k input.list) 0)

  same_test : more rest.edge rest.list ≡ more input.edge (drop n input.list)
  same_test = ap (λ (t : Input). more t.edge t.list) is

  same_one : one rest.edge rest.list ≡ one input.edge (drop n input.list)
  same_one = ap (λ (t : Input). one t.edge t.list) is

  pub goes : (now ys : List Y) (used : ℕ) (whole : Scan (List Y)) → more rest.edge rest.list ≡ true → one rest.edge rest.list ≡ Ok (ys, used) → 0 < used → used ≤ length rest.list →
      now ≡ front ++ ys → joined front n (run (more input.edge) (one input.edge) input.edge (drop n input.list) 0) ≡ whole →
      joined now (n + used) (run (more input.edge) (one input.edge) input.edge (drop (n + used) input.list) 0) ≡ whole
  goes now ys used whole s e l h t i =
      let list = input.list in
      let m = more input.edge in
      let o = one input.edge in
      let behind : drop used (drop n list) ≡ drop (n + used) list = grind (arith, common_steps) in
      let fits = subst (λ (xs : Input). used ≤ length xs.list) is h in
      ap (λ (zs : List Y). joined zs (n + used) (run m o input.edge (drop (n + used) list) 0)) t
      ∙ ap (λ (ts : List Seen). joined (front ++ ys) (n + used) (run m o input.edge ts 0)) (sym behind)
      ∙ sym (joined_twice front ys n used (run m o input.edge (drop used (drop n list)) 0))
      ∙ ap (joined front n) (sym (stepped m o input.edge (drop n list) ys used (sym same_test ∙ s) (sym same_one ∙ e) l fits))
      ∙ i

  -- the loop is left by the fault of the one
  pub breaks : (fault : Fault) (whole : Scan (List Y)) → more rest.edge rest.list ≡ true → one rest.edge rest.list ≡ Err fault →
      joined front n (run (more input.edge) (one input.edge) input.edge (drop n input.list) 0) ≡ whole → whole ≡ Err fault
  breaks fault whole s e i = sym i ∙ ap (joined front n) (failed (more input.edge) (one input.edge) input.edge (drop n input.list) fault (sym same_test ∙ s) (sym same_one ∙ e))

  -- the loop is left by what stopped the one
  pub gives_up : {X Z : Type 0} (view : X → List Y) (other : Z → List Y) (stop : Stop) (whole : Scan (List Y)) → more rest.edge rest.list ≡ true →
      Gives view (Err stop) (one rest.edge rest.list) → joined front n (run (more input.edge) (one input.edge) input.edge (drop n input.list) 0) ≡ whole → Gives other (Err stop) whole
  gives_up view other (stops.Fault fault) whole s e i = breaks fault whole s e i
  gives_up view other stops.OutOfMemory whole s e i = tt

  pub ends : (whole : Scan (List Y)) → more rest.edge rest.list ≡ false → joined front n (run (more input.edge) (one input.edge) input.edge (drop n input.list) 0) ≡ whole → whole ≡ Ok (front, n)
  ends whole s i =
      let same : n + 0 ≡ n = omega arith in
      sym i ∙ ap (joined front n) (ended (more input.edge) (one input.edge) input.edge (drop n input.list) (sym same_test ∙ s))
      ∙ ap (λ (zs : List Y). let r : Scan (List Y) = Ok (zs, n + 0) in r) (append-nil front)
      ∙ ap (λ (k : ℕ). let r : Scan (List Y) = Ok (front, k) in r) same

-- a thing behind n tokens ends within those that there are
pub ends_within : (input rest : Input) (n used : ℕ) → rest ≡ rest_of n input → n ≤ length input.list → used ≤ length rest.list → n + used ≤ length input.list
ends_within input rest n used is h u =
    let fits : used ≤ length (drop n input.list) = subst (λ (t : Input). used ≤ length t.list) is u in
    omega (arith, length-drop n input.list)
