-- What is found through names that were followed.
use Rattle.std.proofs.Common.{◌≡◌, ◌∙◌, refl, ap, sym, subst, arith, ℕ, zero, suc, ◌+◌, List, inl, inr, Option, Some, None}
use Rattle.idl_names.specs.declared.documents.Spot.{Spot}
use Rattle.idl_names.specs.Files.{FileTree}
use Rattle.idl_consts.specs.Course.{Course, ends, fails, stands}
use Rattle.idl_consts.specs.Following.{Fault, Found, open_still, found, stood, along, through, constant_course, IsFree}
use Rattle.idl_consts.specs.Meant.{Meant}
use Rattle.idl_consts.specs.Trails.{IsPassed}

-- what is found is found by more names, too
abbrev Grows : (Spot → Meant → Found) → (Spot → Meant → Found) → Type 0
Grows f g = (spot : Spot) (m : Meant) (x : Option Fault) → f spot m ≡ found x → g spot m ≡ found x

stood_grows : (at : ℕ) (a b : Found) (la lb : Found) → ((x : Option Fault) → a ≡ found x → b ≡ found x) → ((x : Option Fault) → la ≡ found x → lb ≡ found x)
    → (x : Option Fault) → stood at a la ≡ found x → stood at b lb ≡ found x
stood_grows at open_still b la lb same later x e = absurd (cc)
stood_grows at (found None) b la lb same later x e = rw (same None refl) (later x e)
stood_grows at (found (Some fault)) b la lb same later x e = rw (same (Some fault) refl) e

along_grows : (f g : Spot → Meant → Found) → Grows f g → (c : Course) (x : Option Fault) → along f c ≡ found x → along g c ≡ found x
along_grows f g more ends x e = e
along_grows f g more (fails at row) x e = e
along_grows f g more (stands at spot m rest) x e =
    stood_grows at (f spot m) (g spot m) (along f rest) (along g rest) (more spot m) (along_grows f g more rest) x e

one_more : (d : List FileTree) (n : ℕ) → Grows (through d n) (through d (suc n))
one_more d zero spot m x e = absurd (cc)
one_more d (suc n) spot m x e = along_grows (through d n) (through d (suc n)) (one_more d n) (constant_course d spot m) x e

many_more : (d : List FileTree) (k n : ℕ) → Grows (through d n) (through d (k + n))
many_more d zero n spot m x e = let same : n ≡ 0 + n = omega arith in subst (λ (j : ℕ). through d j spot m ≡ found x) same e
many_more d (suc k) n spot m x e =
    let same : suc (k + n) ≡ suc k + n = omega arith in
    subst (λ (j : ℕ). through d j spot m ≡ found x) same (one_more d (k + n) spot m x (many_more d k n spot m x e))

more_after : (d : List FileTree) (n k : ℕ) → Grows (through d n) (through d (n + k))
more_after d n k spot m x e = let same : k + n ≡ n + k = omega arith in subst (λ (j : ℕ). through d j spot m ≡ found x) same (many_more d k n spot m x e)

-- what is found of what is left is found of the whole
pub passed_found : (d : List FileTree) (c left : Course) (n : ℕ) (x : Option Fault) → IsPassed d c left → along (through d n) left ≡ found x
    → (k : ℕ) × (along (through d k) c ≡ found x)
passed_found d ends left n x p e = (n, ap (along (through d n)) (sym p) ∙ e)
passed_found d (fails at row) left n x p e = (n, ap (along (through d n)) (sym p) ∙ e)
passed_found d (stands at spot m rest) left n x (inl p) e = (n, ap (along (through d n)) (sym p) ∙ e)
passed_found d (stands at spot m rest) left n x (inr p) e =
    let later = passed_found d rest left n x p.1 e in
    let k = p.0.0 in
    let free = more_after d k later.0 spot m None p.0.1 in
    let after = along_grows (through d later.0) (through d (k + later.0)) (many_more d k later.0) rest x later.1 in
    (k + later.0, ap (λ (f : Found). stood at f (along (through d (k + later.0)) rest)) free ∙ after)

found_same : (x y : Option Fault) → found x ≡ found y → x ≡ y
found_same x y e = cc

stood_open : (at : ℕ) (a later : Found) → ((x : Option Fault) → a ≡ found x → x ≡ None) → later ≡ open_still → stood at a later ≡ open_still
stood_open at open_still later only e = refl
stood_open at (found None) later only e = e
stood_open at (found (Some fault)) later only e = let none : Some fault ≡ None = only (Some fault) refl in absurd (cc)

-- what is found through a name is one thing, however many names are followed
pub found_once : (d : List FileTree) (spot : Spot) (m : Meant) (n k : ℕ) (x y : Option Fault) → through d n spot m ≡ found x → through d k spot m ≡ found y → x ≡ y
found_once d spot m n k x y e f = found_same x y (sym (many_more d k n spot m x e) ∙ more_after d k n spot m y f)

-- what is found through a free name is nothing
free_only : (d : List FileTree) (spot : Spot) (m : Meant) (n : ℕ) → IsFree d spot m → (x : Option Fault) → through d n spot m ≡ found x → x ≡ None
free_only d spot m n free x e =
    found_same x None (sym (many_more d free.0 n spot m x e) ∙ more_after d free.0 n spot m None free.1)

pub passed_open : (d : List FileTree) (c left : Course) (n : ℕ) → IsPassed d c left → along (through d n) left ≡ open_still → along (through d n) c ≡ open_still
passed_open d ends left n p e = ap (along (through d n)) (sym p) ∙ e
passed_open d (fails at row) left n p e = ap (along (through d n)) (sym p) ∙ e
passed_open d (stands at spot m rest) left n (inl p) e = ap (along (through d n)) (sym p) ∙ e
passed_open d (stands at spot m rest) left n (inr p) e =
    stood_open at (through d n spot m) (along (through d n) rest) (free_only d spot m n p.0) (passed_open d rest left n p.1 e)

pub passed_all : (d : List FileTree) (c : Course) → IsPassed d c c
passed_all d ends = refl
passed_all d (fails at row) = refl
passed_all d (stands at spot m rest) = inl refl

rest_same : (at bt : ℕ) (s t : Spot) (m n : Meant) (c e : Course) → stands at s m c ≡ stands bt t n e → (s ≡ t) × (m ≡ n) × (c ≡ e)
rest_same at bt s t m n c e same = (cc, cc, cc)

-- one name more is passed
pub passed_on : (d : List FileTree) (c rest : Course) (at : ℕ) (spot : Spot) (m : Meant) → IsPassed d c (stands at spot m rest) → IsFree d spot m → IsPassed d c rest
passed_on d ends rest at spot m p free = absurd (cc)
passed_on d (fails bt row) rest at spot m p free = absurd (cc)
passed_on d (stands bt t n more) rest at spot m (inl p) free =
    let same = rest_same at bt spot t m n rest more p in
    let first = subst (λ (y : Meant). IsFree d t y) same.1 (subst (λ (x : Spot). IsFree d x m) same.0 free) in
    inr (first, subst (IsPassed d more) (sym same.2) (passed_all d more))
passed_on d (stands bt t n more) rest at spot m (inr p) free = inr (p.0, passed_on d more rest at spot m p.1 free)
