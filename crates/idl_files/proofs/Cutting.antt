-- A name cut at its slashes.
use Rattle.std.proofs.Common.{◌≡◌, ℕ, zero, suc, ◌+◌, ◌-◌, ◌<◌, ◌≤◌, ◌==◌, List, [], ◌∷◌, ◌++◌, length, take, drop, slice_get, Option, Some, None, Bool, true, false, cond, not, position, nat_lt, refl, ap, sym, ◌∙◌, arith, append_assoc}
use Rattle.std.specs.List.{position_or_len, fold}
use Rattle.std.proofs.lemmas.Grind.{common_steps}
use Rattle.std.proofs.lemmas.Bool.Decides.{nat_tests}
use Rattle.std.proofs.lemmas.List.{append-nil, drop-drop, length-drop}
use Rattle.idl_files.specs.Listing.{later}
use Rattle.idl_files.specs.Names.{ended_from, last_from, ends_plain, is_plain, kept_with}

-- the place of the first slash
abbrev pub slash_at : List ℕ → Option ℕ
slash_at [] = None
slash_at (b ∷ bs) = cond (b == 47) (Some 0) (later (slash_at bs))

ltb-suc : (n m : ℕ) → nat_lt n m ≡ true → nat_lt (1 + n) (suc m) ≡ true
ltb-suc n m e = grind (arith, nat_tests)

ltb-suc_not : (n m : ℕ) → nat_lt n m ≡ false → nat_lt (1 + n) (suc m) ≡ false
ltb-suc_not n m e = grind (arith, nat_tests)

zero_below : (m : ℕ) → nat_lt 0 (suc m) ≡ true
zero_below m = grind (arith, nat_tests)

pub position_behind : (t : Bool) (n m : ℕ) → cond (nat_lt (cond (not t) (1 + n) 0) (suc m)) (Some (cond (not t) (1 + n) 0)) None ≡ cond t (Some 0) (later (cond (nat_lt n m) (Some n) None))
position_behind true n m = rw (zero_below m) refl
position_behind false n m = by (nat_lt n m) refl
  where
    by : (u : Bool) → nat_lt n m ≡ u → cond (nat_lt (1 + n) (suc m)) (Some (1 + n)) None ≡ later (cond u (Some n) None)
    by true e = rw (ltb-suc n m e) refl
    by false e = rw (ltb-suc_not n m e) refl

pub slash_is : (bs : List ℕ) → position (λ b. b == 47) bs ≡ slash_at bs
slash_is [] = refl
slash_is (b ∷ bs) =
    position_behind (b == 47) (position_or_len (λ b. b == 47) bs) (length bs)
    ∙ ap (λ (rest : Option ℕ). cond (b == 47) (Some 0) (later rest)) (slash_is bs)

-- what a slash at this place cuts off
pub record Cut (begun bs : List ℕ) (k : ℕ) : Type 0 where
  pub ended : ended_from begun bs ≡ (begun ++ take k bs) ∷ ended_from [] (drop (suc k) bs)
  pub last : last_from begun bs ≡ last_from [] (drop (suc k) bs)
  pub within : k < length bs

later_some : (o : Option ℕ) (k : ℕ) → later o ≡ Some k → (j : ℕ) × (o ≡ Some j) × (k ≡ 1 + j)
later_some None k e = cc
later_some (Some j) k e = (j, refl, cc)

pub cut : (begun bs : List ℕ) (k : ℕ) → slash_at bs ≡ Some k → Cut begun bs k
cut begun [] k e = cc
cut begun (b ∷ bs) k e = by (b == 47) (λ j s. cut (begun ++ b ∷ []) bs j s) e refl
  where
    by : (t : Bool) → ((j : ℕ) → slash_at bs ≡ Some j → Cut (begun ++ b ∷ []) bs j) → cond t (Some 0) (later (slash_at bs)) ≡ Some k → (b == 47) ≡ t → Cut begun (b ∷ bs) k
    by true ih s t = front k (cc)
      where
        front : (k : ℕ) → 0 ≡ k → Cut begun (b ∷ bs) k
        front zero z = record { ended = rw t (ap (λ (xs : List ℕ). xs ∷ ended_from [] bs) (sym (append-nil begun))); last = rw t refl; within = omega arith }
        front (suc k) z = absurd (omega arith)
    by false ih s t = behind_one k (later_some (slash_at bs) k s)
      where
        behind_one : (k : ℕ) → (j : ℕ) × (slash_at bs ≡ Some j) × (k ≡ 1 + j) → Cut begun (b ∷ bs) k
        behind_one zero h = absurd (let e : zero ≡ 1 + h.0 = h.2 in omega arith)
        behind_one (suc k) h =
            let e : slash_at bs ≡ Some k = h.1 ∙ ap Some (omega (arith, h.2)) in
            let c = ih k e in
            record {
              ended = rw t (c.ended ∙ ap (λ (xs : List ℕ). xs ∷ ended_from [] (drop (suc k) bs)) (append_assoc begun (b ∷ []) (take k bs)));
              last = rw t c.last;
              within = omega (arith, c.within);
            }

-- no slash is left
pub record Uncut (begun bs : List ℕ) : Type 0 where
  pub ended : ended_from begun bs ≡ []
  pub last : last_from begun bs ≡ begun ++ bs

later_none : (o : Option ℕ) → later o ≡ None → o ≡ None
later_none None e = refl
later_none (Some j) e = cc

pub uncut : (begun bs : List ℕ) → slash_at bs ≡ None → Uncut begun bs
uncut begun [] e = record { ended = refl; last = sym (append-nil begun) }
uncut begun (b ∷ bs) e = by (b == 47) (λ s. uncut (begun ++ b ∷ []) bs s) e refl
  where
    by : (t : Bool) → (slash_at bs ≡ None → Uncut (begun ++ b ∷ []) bs) → cond t (Some 0) (later (slash_at bs)) ≡ None → (b == 47) ≡ t → Uncut begun (b ∷ bs)
    by true ih s t = cc
    by false ih s t =
        let u = ih (later_none (slash_at bs) s) in
        record { ended = rw t u.ended; last = rw t (u.last ∙ append_assoc begun (b ∷ []) bs) }

pub last_plain : (xs : List (List ℕ)) (x : List ℕ) → slice_get xs (length xs - 1) ≡ Some x → ends_plain xs ≡ is_plain x
last_plain [] x e = cc
last_plain (s ∷ []) x e = let same : s ≡ x = cc in ap is_plain same
last_plain (s ∷ t ∷ rest) x e =
    let n : suc (suc (length rest)) - 1 ≡ suc (suc (length rest) - 1) = omega arith in
    last_plain (t ∷ rest) x (sym (ap (slice_get (s ∷ t ∷ rest)) n) ∙ e)

whole_rest : (name : List ℕ) (from : ℕ) → take (length name - from) (drop from name) ≡ drop from name
whole_rest name from = grind (arith, common_steps)

pub cut_at : (name : List ℕ) (from len : ℕ) → Some len ≡ position (λ b. b == 47) (take (length name - from) (drop from name)) → Cut [] (drop from name) len
cut_at name from len e = cut [] (drop from name) len (sym (slash_is (drop from name)) ∙ sym (e ∙ ap (position (λ b. b == 47)) (whole_rest name from)))

pub cut_within : (name : List ℕ) (from len : ℕ) → from ≤ length name → Some len ≡ position (λ b. b == 47) (take (length name - from) (drop from name)) → from + len < length name
cut_within name from len w e = let c = cut_at name from len e in omega (arith, c.within, length-drop from name)

behind_slash : (name : List ℕ) (from len : ℕ) → drop (suc len) (drop from name) ≡ drop (from + (len + 1)) name
behind_slash name from len =
    let n : from + suc len ≡ from + (len + 1) = omega arith in
    drop-drop (suc len) from name ∙ ap (λ (k : ℕ). drop k name) n

-- so many bytes from there on, as a slice has them
slice_is : (name : List ℕ) (from len : ℕ) → take (from + len - from) (drop from name) ≡ take len (drop from name)
slice_is name from len = let n : from + len - from ≡ len = omega arith in ap (λ (k : ℕ). take k (drop from name)) n

pub kept_on : (kept new : List (List ℕ)) (name : List ℕ) (from len : ℕ) (whole : List (List ℕ)) → Some len ≡ position (λ b. b == 47) (take (length name - from) (drop from name)) →
    new ≡ kept_with kept (take (from + len - from) (drop from name)) → fold kept_with kept (ended_from [] (drop from name)) ≡ whole → fold kept_with new (ended_from [] (drop (from + (len + 1)) name)) ≡ whole
kept_on kept new name from len whole e n i =
    let c = cut_at name from len e in
    ap (λ (k : List (List ℕ)). fold kept_with k (ended_from [] (drop (from + (len + 1)) name))) (n ∙ ap (kept_with kept) (slice_is name from len))
    ∙ ap (λ (xs : List ℕ). fold kept_with (kept_with kept (take len (drop from name))) (ended_from [] xs)) (sym (behind_slash name from len))
    ∙ ap (fold kept_with kept) (sym c.ended)
    ∙ i

pub last_on : (name : List ℕ) (from len : ℕ) (whole : List ℕ) → Some len ≡ position (λ b. b == 47) (take (length name - from) (drop from name)) → last_from [] (drop from name) ≡ whole → last_from [] (drop (from + (len + 1)) name) ≡ whole
last_on name from len whole e i =
    let c = cut_at name from len e in
    ap (last_from []) (sym (behind_slash name from len)) ∙ sym c.last ∙ i

uncut_at : (name : List ℕ) (from : ℕ) → None ≡ position (λ b. b == 47) (take (length name - from) (drop from name)) → Uncut [] (drop from name)
uncut_at name from e = uncut [] (drop from name) (sym (slash_is (drop from name)) ∙ sym (e ∙ ap (position (λ b. b == 47)) (whole_rest name from)))

pub last_left : (name : List ℕ) (from : ℕ) (whole : List ℕ) → None ≡ position (λ b. b == 47) (take (length name - from) (drop from name)) → last_from [] (drop from name) ≡ whole → drop from name ≡ whole
last_left name from whole e i = let u = uncut_at name from e in sym u.last ∙ i

pub kept_all : (kept : List (List ℕ)) (name : List ℕ) (from : ℕ) (whole : List (List ℕ)) → None ≡ position (λ b. b == 47) (take (length name - from) (drop from name)) →
    fold kept_with kept (ended_from [] (drop from name)) ≡ whole → kept ≡ whole
kept_all kept name from whole e i = let u = uncut_at name from e in sym (ap (fold kept_with kept) u.ended) ∙ i
