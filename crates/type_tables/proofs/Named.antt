-- Look-ups in a map whose keys are bytes.
use Rattle.std.proofs.Common.{◌≡◌, ℕ, zero, suc, ◌+◌, List, [], ◌∷◌, ◌++◌, length, refl, ap, ◌∙◌, arith, Bool, true, false, cond, Option, Some, None, position, nat_eq, nat_lt, Vec, Global, not}
use Rattle.std.specs.Prelude.{option_map, slice_get}
use Rattle.indexmap.specs.IndexMap.{insert_entry}
use Rattle.std.specs.Cmp.Lexicographic.{pointwise}
use Rattle.std.specs.List.{position_or_len}
use Rattle.std.specs.Map.{lookup, keys_of}
use Rattle.std.proofs.lemmas.Bool.Decides.{nat_tests}
use Rattle.type_tables.specs.Fields.{later}
use Rattle.type_tables.specs.Names.{named, value_of, name_place}

ltb-suc : (n m : ℕ) → nat_lt n m ≡ true → nat_lt (1 + n) (suc m) ≡ true
ltb-suc n m e = grind (arith, nat_tests)

ltb-suc_not : (n m : ℕ) → nat_lt n m ≡ false → nat_lt (1 + n) (suc m) ≡ false
ltb-suc_not n m e = grind (arith, nat_tests)

zero_below : (m : ℕ) → nat_lt 0 (suc m) ≡ true
zero_below m = grind (arith, nat_tests)

none_by : (t : Bool) (o : Option ℕ) → cond t (Some 0) (later o) ≡ None → (t ≡ false) × (o ≡ None)
none_by true o h = (cc, cc)
none_by false None h = (refl, refl)
none_by false (Some m) h = (refl, cc)

position_behind : (t : Bool) (n m : ℕ) → cond (nat_lt (cond (not t) (1 + n) 0) (suc m)) (Some (cond (not t) (1 + n) 0)) None ≡ cond t (Some 0) (later (cond (nat_lt n m) (Some n) None))
position_behind true n m = rw (zero_below m) refl
position_behind false n m = by (nat_lt n m) refl
  where
    by : (u : Bool) → nat_lt n m ≡ u → cond (nat_lt (1 + n) (suc m)) (Some (1 + n)) None ≡ later (cond u (Some n) None)
    by true e = rw (ltb-suc n m e) refl
    by false e = rw (ltb-suc_not n m e) refl

module _ {X : Type 0} where
  pub found : (name : List ℕ) (es : List (Vec ℕ Global × X)) → lookup (λ k. pointwise nat_eq name k.items) es ≡ value_of name (named es)
  found name [] = refl
  found name (e ∷ es) = ap (λ (rest : Option X). cond (pointwise nat_eq name e.0.items) (Some e.1) rest) (found name es)

  pub placed : (name : List ℕ) (es : List (Vec ℕ Global × X)) → position (λ k. pointwise nat_eq name k.items) (keys_of es) ≡ name_place name (named es)
  placed name [] = refl
  placed name (e ∷ es) =
      position_behind (pointwise nat_eq name e.0.items) (position_or_len (λ k. pointwise nat_eq name k.items) (keys_of es)) (length (keys_of es))
      ∙ ap (λ (rest : Option ℕ). cond (pointwise nat_eq name e.0.items) (Some 0) (later rest)) (placed name es)

  -- a new name goes last
  pub appended : (es : List (Vec ℕ Global × X)) (key : Vec ℕ Global) (value : X) → name_place key.items (named es) ≡ None →
      insert_entry (λ x y. pointwise nat_eq x.items y.items) es key value ≡ es ++ (key, value) ∷ []
  appended [] key value n = refl
  appended (e ∷ es) key value n =
      let parts = none_by (pointwise nat_eq key.items e.0.items) (name_place key.items (named es)) n in
      rw parts.0 (ap (λ (rest : List (Vec ℕ Global × X)). e ∷ rest) (appended es key value parts.1))

  pub named_push : (es : List (Vec ℕ Global × X)) (key : Vec ℕ Global) (value : X) → named (es ++ (key, value) ∷ []) ≡ named es ++ (key.items, value) ∷ []
  named_push [] key value = refl
  named_push (e ∷ es) key value = ap (λ (rest : List (List ℕ × X)). (e.0.items, e.1) ∷ rest) (named_push es key value)

  -- a new name in the table is one more at the end
  pub pushed : (es new : List (Vec ℕ Global × X)) (old : List (List ℕ × X)) (name : List ℕ) (key : Vec ℕ Global) (value : X) → named es ≡ old → key.items ≡ name →
      name_place name old ≡ None → new ≡ insert_entry (λ x y. pointwise nat_eq x.items y.items) es key value → named new ≡ old ++ (name, value) ∷ []
  pushed es new old name key value v k n e =
      let fresh : name_place key.items (named es) ≡ None = ap (λ (m : List ℕ). name_place m (named es)) k ∙ ap (name_place name) v ∙ n in
      ap named (e ∙ appended es key value fresh) ∙ named_push es key value ∙ ap (λ (xs : List (List ℕ × X)). xs ++ (key.items, value) ∷ []) v ∙ ap (λ (m : List ℕ). old ++ (m, value) ∷ []) k

  pub named_length : (es : List (Vec ℕ Global × X)) → length (named es) ≡ length es
  named_length [] = refl
  named_length (e ∷ es) = ap (λ (n : ℕ). suc n) (named_length es)

  pub named_get : (es : List (Vec ℕ Global × X)) (k : ℕ) → option_map (λ (e : List ℕ × X). e.1) (slice_get (named es) k) ≡ option_map (λ (e : Vec ℕ Global × X). e.1) (slice_get es k)
  named_get [] k = refl
  named_get (e ∷ es) zero = refl
  named_get (e ∷ es) (suc k) = named_get es k
