-- The first byte that no message allows, and the fault that it tells.
use Rattle.std.proofs.Common.{◌≡◌, ℕ, zero, suc, ◌+◌, ◌<◌, ◌≤◌, ◌^◌, List, [], ◌∷◌, ◌++◌, length, take, drop, refl, ap, ◌∙◌, sym, subst, arith, ◌⊎◌, inl, inr, length-append, length-take}
use Rattle.std.proofs.lemmas.List.{append-nil, take-append-drop, take_all}
use Rattle.thrift_value.specs.Items.{Item}
use Rattle.thrift_value.specs.Trees.{items_of_members}
use Rattle.protocol_traits.specs.Heads.{Header}
use Rattle.binary_laws.specs.Reads.{header_of_message}
use Rattle.protocol_traits.specs.declared.fault.Fault.{Fault}
use Rattle.protocol_traits.specs.declared.fault.Reason.{Reason}
use Rattle.protocol_traits.specs.declared.fault.Reason.TheVariants as reasons
use Rattle.type_walk.specs.Positions.{start}
use Rattle.json_text_laws.proofs.Parts.{append_more}
use Rattle.json_laws.specs.Stated.{Known, JsonSpells, IsRead, IsRefused, IsBad, IsSame, IsViable, IsFirstBad}
use Rattle.json_laws.proofs.Either.{read_or_refused, one_fault, never_both}
use Rattle.json_laws.proofs.Sound.{read_spelled}
use Rattle.json_laws.proofs.Staying.{refused_stays, cut_or_bad}
use Rattle.json_laws.proofs.Deep.{spelled_goes}
use Rattle.json_laws.proofs.Viable.{cut_viable, nothing_begins}

abbrev IsCut : Fault → Type 0
IsCut f = f.reason ≡ reasons.Truncated

abbrev IsDeep : Fault → Type 0
IsDeep f = f.reason ≡ reasons.TooDeep

-- what is refused, other than as truncated or too deep, begins no message
pub bad_not_viable : (k : Known) (bytes : List ℕ) (f : Fault) → IsBad k bytes f → (IsDeep f → ⊥) → IsViable k bytes → ⊥
bad_not_viable k bytes f (refused, other) shallow (more, m, spelled) =
    let at = start k.declared k.body in
    let r = refused_stays more at bytes f refused other in
    by_side r.0 r.1 r.2.0 (spelled_goes k.declared k.body m (bytes ++ more) spelled)
  where
    by_side : (g : Fault) → IsRefused k (bytes ++ more) g → g.reason ≡ f.reason → IsRead k (bytes ++ more) (header_of_message m) (items_of_members m.body) ⊎ ((h : Fault) × IsRefused k (bytes ++ more) h × IsDeep h) → ⊥
    by_side g refused_too same (inl read) = never_both (start k.declared k.body) (bytes ++ more) (header_of_message m) (items_of_members m.body) g read refused_too
    by_side g refused_too same (inr (h, deep, is)) = shallow (sym same ∙ ap (λ (x : Fault). x.reason) (one_fault (start k.declared k.body) (bytes ++ more) g h refused_too deep) ∙ is)

deep_or_not : (f : Fault) (r : Reason) → f.reason ≡ r → IsDeep f ⊎ (IsDeep f → ⊥)
deep_or_not f reasons.TooDeep e = inl e
deep_or_not f reasons.Truncated e = inr (λ t. let wrong = sym e ∙ t in absurd (cc))
deep_or_not f reasons.Trailing e = inr (λ t. let wrong = sym e ∙ t in absurd (cc))
deep_or_not f reasons.BadKind e = inr (λ t. let wrong = sym e ∙ t in absurd (cc))
deep_or_not f reasons.BadBool e = inr (λ t. let wrong = sym e ∙ t in absurd (cc))
deep_or_not f reasons.BadSize e = inr (λ t. let wrong = sym e ∙ t in absurd (cc))
deep_or_not f reasons.BadVersion e = inr (λ t. let wrong = sym e ∙ t in absurd (cc))
deep_or_not f reasons.BadType e = inr (λ t. let wrong = sym e ∙ t in absurd (cc))
deep_or_not f reasons.BadVarint e = inr (λ t. let wrong = sym e ∙ t in absurd (cc))
deep_or_not f reasons.BadId e = inr (λ t. let wrong = sym e ∙ t in absurd (cc))
deep_or_not f reasons.BadNumber e = inr (λ t. let wrong = sym e ∙ t in absurd (cc))
deep_or_not f reasons.BadString e = inr (λ t. let wrong = sym e ∙ t in absurd (cc))
deep_or_not f reasons.BadBase64 e = inr (λ t. let wrong = sym e ∙ t in absurd (cc))
deep_or_not f reasons.BadToken e = inr (λ t. let wrong = sym e ∙ t in absurd (cc))

-- ---- fronts of a frame

-- what begins a longer front begins a message
shorter_viable : (k : Known) (front more : List ℕ) → IsViable k (front ++ more) → IsViable k front
shorter_viable k front more (rest, m, spelled) = (more ++ rest, m, subst (JsonSpells k m) (append_more front more rest) spelled)

module _ (k : Known) (bytes : List ℕ) (f : Fault) (room : length bytes < 2 ^ 31) (refused : IsRefused k bytes f) (shallow : IsDeep f → ⊥) where
  -- a front that is refused and does not begin a message tells the fault
  abbrev Told : List ℕ → Type 0
  Told front = (g : Fault) × IsRefused k front g × IsSame (length front) g f

  front_told : (front rest : List ℕ) → bytes ≡ front ++ rest → IsViable k front ⊎ ((IsViable k front → ⊥) × Told front)
  front_told front rest is = by_reading (read_or_refused (start k.declared k.body) front)
    where
      less : length front < 2 ^ 31
      less = omega (arith, room, ap length is, length-append front rest)

      bad : (g : Fault) → IsRefused k front g → (IsCut g → ⊥) → IsViable k front ⊎ ((IsViable k front → ⊥) × Told front)
      bad g r other =
          let s = refused_stays rest (start k.declared k.body) front g r other in
          let same : s.0 ≡ f = one_fault (start k.declared k.body) bytes s.0 f (subst (λ b. IsRefused k b s.0) (sym is) s.1) refused in
          let told : IsSame (length front) g f = subst (IsSame (length front) g) same s.2 in
          inr (bad_not_viable k front g (r, other) (λ deep. shallow (told.0 ∙ deep)), (g, r, told))

      by_reason : (g : Fault) → IsRefused k front g → (IsCut g) ⊎ (IsCut g → ⊥) → IsViable k front ⊎ ((IsViable k front → ⊥) × Told front)
      by_reason g r (inl t) = inl (cut_viable k.declared k.body front g less r t)
      by_reason g r (inr other) = bad g r other

      by_reading : ((h : Header) × (items : List Item) × IsRead k front h items) ⊎ ((g : Fault) × IsRefused k front g) → IsViable k front ⊎ ((IsViable k front → ⊥) × Told front)
      by_reading (inl (h, items, read)) =
          let s = read_spelled k.declared k.body front h items less read in
          inl ([], s.0, subst (JsonSpells k s.0) (sym (append-nil front)) s.4)
      by_reading (inr (g, r)) = by_reason g r (cut_or_bad g g.reason refl)

  part : (n : ℕ) → IsViable k (take n bytes) ⊎ ((IsViable k (take n bytes) → ⊥) × Told (take n bytes))
  part n = front_told (take n bytes) (drop n bytes) (sym (take-append-drop n bytes))

  -- the first byte that no message allows, and what is told of the front through it
  abbrev pub FirstTold : Type 0
  FirstTold = (n : ℕ) × IsFirstBad k bytes n × (g : Fault) × IsRefused k (take (n + 1) bytes) g × IsSame (n + 1) g f

  told_by : (n : ℕ) → n < length bytes → Told (take (n + 1) bytes) → (g : Fault) × IsRefused k (take (n + 1) bytes) g × IsSame (n + 1) g f
  told_by n within (g, r, same) = let long : length (take (n + 1) bytes) ≡ n + 1 = omega (arith, within, length-take (n + 1) bytes) in (g, r, subst (λ j. IsSame j g f) long same)

  look : (n : ℕ) → n ≤ length bytes → (IsViable k (take n bytes) → ⊥) → Told (take n bytes) → FirstTold
  look zero most none told = absurd (none (nothing_begins k.declared k.body))
  look (suc n) most none told = by_part (λ h nothing tells. look n h nothing tells) (part n)
    where
      one : suc n ≡ n + 1
      one = omega arith

      by_part : (n ≤ length bytes → (IsViable k (take n bytes) → ⊥) → Told (take n bytes) → FirstTold) → IsViable k (take n bytes) ⊎ ((IsViable k (take n bytes) → ⊥) × Told (take n bytes)) → FirstTold
      by_part go (inl v) =
          let t = told_by n (omega (arith, most)) (subst (λ j. Told (take j bytes)) one told) in
          (n, record { within = omega (arith, most); before = v; behind = subst (λ j. IsViable k (take j bytes) → ⊥) one none }, t.0, t.1, t.2)
      by_part go (inr (nothing, tells)) = go (omega (arith, most)) nothing tells

  pub first_told : (IsCut f → ⊥) → FirstTold
  first_told other =
      let all : take (length bytes) bytes ≡ bytes = take_all (length bytes) bytes (omega arith) in
      look (length bytes) (omega arith) (subst (λ b. IsViable k b → ⊥) (sym all) (bad_not_viable k bytes f (refused, other) shallow)) (subst Told (sym all) (f, refused, (refl, λ h. refl)))

-- ---- there is one

take_more : (m n : ℕ) (bytes : List ℕ) → m ≤ n → take n bytes ≡ take m bytes ++ drop m (take n bytes)
take_more zero n bytes h = refl
take_more (suc m) zero bytes h = absurd (omega arith)
take_more (suc m) (suc n) [] h = refl
take_more (suc m) (suc n) (x ∷ bytes) h = ap (λ l. x ∷ l) (take_more m n bytes (omega arith))

no_earlier : (k : Known) (bytes : List ℕ) (m n : ℕ) → IsFirstBad k bytes m → IsFirstBad k bytes n → m < n → ⊥
no_earlier k bytes m n a b less = a.behind (shorter_viable k (take (m + 1) bytes) (drop (m + 1) (take n bytes)) (subst (IsViable k) (take_more (m + 1) n bytes (omega (arith, less))) b.before))

by_order : (m n : ℕ) → (m < n) ⊎ ((m ≡ n) ⊎ (n < m))
by_order zero zero = inr (inl refl)
by_order zero (suc n) = inl (omega arith)
by_order (suc m) zero = inr (inr (omega arith))
by_order (suc m) (suc n) = later (by_order m n)
  where
    later : (m < n) ⊎ ((m ≡ n) ⊎ (n < m)) → (suc m < suc n) ⊎ ((suc m ≡ suc n) ⊎ (suc n < suc m))
    later (inl h) = inl (omega arith)
    later (inr (inl h)) = inr (inl (ap suc h))
    later (inr (inr h)) = inr (inr (omega arith))

pub first_is_one : (k : Known) (bytes : List ℕ) (m n : ℕ) → IsFirstBad k bytes m → IsFirstBad k bytes n → m ≡ n
first_is_one k bytes m n a b = of_order (by_order m n)
  where
    of_order : (m < n) ⊎ ((m ≡ n) ⊎ (n < m)) → m ≡ n
    of_order (inl h) = absurd (no_earlier k bytes m n a b h)
    of_order (inr (inl h)) = h
    of_order (inr (inr h)) = absurd (no_earlier k bytes n m b a h)
