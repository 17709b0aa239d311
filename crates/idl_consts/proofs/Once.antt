-- At most one fault is told.
use Rattle.std.proofs.Common.{◌≡◌, ◌∙◌, ap, sym, subst, ℕ, suc, List, [], ◌∷◌, inl, inr, Option, Some, None}
use Rattle.idl_names.specs.declared.documents.Spot.{Spot}
use Rattle.idl_names.specs.Files.{FileTree}
use Rattle.idl_consts.specs.declared.row.ConstRow.{ConstRow}
use Rattle.idl_consts.specs.Course.{Course, ends, fails, stands, course}
use Rattle.idl_consts.specs.Following.{Fault, IsFree, IsRefused, IsEndless, IsWrong, IsFirst}
use Rattle.idl_consts.specs.Meant.{Meant, type_of}
use Rattle.idl_consts.specs.Told.{Asked, Told, IsLeast, IsTold, told_by, lesser, all_values}
use Rattle.idl_consts.proofs.Followed.{found_once}

free_not_wrong : (d : List FileTree) (s : Spot) (m : Meant) (row : ConstRow) → IsFree d s m → IsWrong d s m row → ⊥
free_not_wrong d s m row free (inl r) = let same = found_once d s m free.0 r.0 None (Some (r.1, row)) free.1 r.2 in absurd (cc)
free_not_wrong d s m row free (inr r) = let never = r.1 free.0 in let done = free.1 in absurd (cc)

refused_not_endless : (d : List FileTree) (s : Spot) (m : Meant) (row : ConstRow) → IsRefused d s m row → IsEndless d s m → ⊥
refused_not_endless d s m row r e = let never = e r.0 in let done = r.2 in absurd (cc)

some_same : (x y : Fault) → Some x ≡ Some y → x ≡ y
some_same x y e = cc

same_row : (x y : Fault) → Some x ≡ Some y → x.1 ≡ y.1
same_row x y e = ap (λ (fault : Fault). fault.1) (some_same x y e)

wrong_once : (d : List FileTree) (s : Spot) (m : Meant) (r q : ConstRow) → IsWrong d s m r → IsWrong d s m q → r ≡ q
wrong_once d s m r q (inl a) (inl b) = same_row (a.1, r) (b.1, q) (found_once d s m a.0 b.0 (Some (a.1, r)) (Some (b.1, q)) a.2 b.2)
wrong_once d s m r q (inl a) (inr b) = absurd (refused_not_endless d s m r a b.1)
wrong_once d s m r q (inr a) (inl b) = absurd (refused_not_endless d s m q b a.1)
wrong_once d s m r q (inr a) (inr b) = a.0 ∙ sym b.0

pub first_once : (d : List FileTree) (c : Course) (a b : Option Fault) → IsFirst d c a → IsFirst d c b → a ≡ b
first_once d ends a b x y = x ∙ sym y
first_once d (fails at row) a b x y = x ∙ sym y
first_once d (stands at s m rest) a b (inl x) (inl y) = first_once d rest a b x.1 y.1
first_once d (stands at s m rest) a b (inl x) (inr y) = absurd (free_not_wrong d s m y.0 x.0 y.1)
first_once d (stands at s m rest) a b (inr x) (inl y) = absurd (free_not_wrong d s m x.0 y.0 x.1)
first_once d (stands at s m rest) a b (inr x) (inr y) =
    x.2 ∙ ap (λ (row : ConstRow). let told : Option Fault = Some (at, row) in told) (wrong_once d s m x.0 y.0 x.1 y.1) ∙ sym y.2

least_once : (d : List FileTree) (file : ℕ) (vs : List Asked) (before a b : Option Fault) → IsLeast d file before vs a → IsLeast d file before vs b → a ≡ b
least_once d file [] before a b x y = x ∙ sym y
least_once d file (v ∷ vs) before a b x y =
    let same = first_once d (course d file (type_of d file v.0) v.1) y.0 x.0 y.1 x.1 in
    least_once d file vs (lesser before x.0) a b x.2 (subst (λ (o : Option Fault). IsLeast d file (lesser before o) vs b) same y.2)

by_once : (name : List ℕ) (least : Option Fault) (later : Option Told → Type 0) (a b : Option Told) → ((p q : Option Told) → later p → later q → p ≡ q)
    → told_by name least later a → told_by name least later b → a ≡ b
by_once name None later a b once x y = once a b x y
by_once name (Some fault) later a b once x y = x ∙ sym y

pub told_once : (d : List FileTree) (file : ℕ) (fs : List FileTree) (a b : Option Told) → IsTold d file fs a → IsTold d file fs b → a ≡ b
told_once d file [] a b x y = x ∙ sym y
told_once d file (f ∷ fs) a b x y =
    let same = least_once d file (all_values f.document.definitions) None y.0 x.0 y.1 x.1 in
    by_once f.name x.0 (IsTold d (suc file) fs) a b (λ p q. told_once d (suc file) fs p q) x.2
    (subst (λ (o : Option Fault). told_by f.name o (IsTold d (suc file) fs) b) same y.2)
