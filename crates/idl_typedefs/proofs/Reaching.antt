-- Names followed one after another.
use Rattle.std.proofs.Common.{◌≡◌, ◌∙◌, ℕ, zero, suc, ◌+◌, ◌-◌, ◌<◌, List, Option, Some, None, ap, sym, subst, refl, arith}
use Rattle.std.specs.Prelude.{option_and_then, IfSome}
use Rattle.idl_names.specs.declared.documents.Spot.{Spot}
use Rattle.idl_names.specs.Files.{FileTree}
use Rattle.idl_typedefs.specs.declared.typedefs.AliasLink.{AliasLink}
use Rattle.idl_typedefs.specs.AliasLinks.{next, reached, IsAliasLink}

-- what leads to one, and on from there
pub reached_on : (files : List FileTree) (m n : ℕ) (a b : Spot) (c : Option Spot) → reached files m a ≡ Some b → reached files n b ≡ c → reached files (m + n) a ≡ c
reached_on files zero n a b c first second =
    let same : a ≡ b = cc in
    let e : n ≡ 0 + n = omega arith in
    subst (λ (k : ℕ). reached files k a ≡ c) e (subst (λ (s : Spot). reached files n s ≡ c) (sym same) second)
reached_on files (suc m) n a b c first second = by (λ mid. reached_on files m n mid b c) (next files a) refl
  where
    e : suc (m + n) ≡ suc m + n
    e = omega arith

    by : ((mid : Spot) → reached files m mid ≡ Some b → reached files n b ≡ c → reached files (m + n) mid ≡ c) → (o : Option Spot) → next files a ≡ o → reached files (suc m + n) a ≡ c
    by further None is = let none : None ≡ Some b = ap (λ (s : Option Spot). option_and_then (reached files m) s) (sym is) ∙ first in absurd (cc)
    by further (Some mid) is =
        let inner : reached files m mid ≡ Some b = ap (λ (s : Option Spot). option_and_then (reached files m) s) (sym is) ∙ first in
        subst (λ (k : ℕ). reached files k a ≡ c) e
        (ap (λ (s : Option Spot). option_and_then (reached files (m + n)) s) is ∙ further mid inner second)

pub reached_one : (files : List FileTree) (m : ℕ) (a b c : Spot) → reached files m a ≡ Some b → next files b ≡ Some c → reached files (m + 1) a ≡ Some c
reached_one files m a b c first is = reached_on files m 1 a b (Some c) first (ap (λ (s : Option Spot). option_and_then (reached files 0) s) is)

-- a link that is kept for a definition
pub from_link : (files : List FileTree) (spot : Spot) (link : AliasLink) (r : Option AliasLink) → IsAliasLink files link → IfSome r (λ o. o ≡ link) → IfSome r (λ o. o.first ≡ spot)
    → IfSome r (λ o. reached files o.steps spot ≡ Some o.last)
from_link files spot link None is same first = tt
from_link files spot link (Some o) is same first =
    subst (λ (s : Spot). reached files o.steps s ≡ Some o.last) first (subst (λ (h : AliasLink). IsAliasLink files h) (sym same) is)

-- names and then a link
pub joined_link : (files : List FileTree) (m : ℕ) (a at : Spot) (link : AliasLink) (r : Option AliasLink) → reached files m a ≡ Some at → reached files link.steps at ≡ Some link.last
    → IfSome r (λ w. w.first ≡ a) → IfSome r (λ w. w.last ≡ link.last) → IfSome r (λ w. w.steps ≡ m + link.steps) → IfSome r (IsAliasLink files)
joined_link files m a at link None before behind first last steps = tt
joined_link files m a at link (Some w) before behind first last steps =
    let whole = reached_on files m link.steps a at (Some link.last) before behind in
    let from = subst (λ (s : Spot). reached files (m + link.steps) s ≡ Some link.last) (sym first) whole in
    subst (λ (n : ℕ). reached files n w.first ≡ Some link.last) (sym steps) from ∙ ap (λ (s : Spot). let found : Option Spot = Some s in found) (sym last)

-- a link without its first name
pub shorter_link : (files : List FileTree) (n : ℕ) (a b : Spot) (c : Option Spot) → 0 < n → reached files n a ≡ c → next files a ≡ Some b → reached files (n - 1) b ≡ c
shorter_link files zero a b c some e is = absurd (omega arith)
shorter_link files (suc n) a b c some e is =
    let less : suc n - 1 ≡ n = omega arith in
    subst (λ (k : ℕ). reached files k b ≡ c) (sym less) (sym (ap (λ (s : Option Spot). option_and_then (reached files n) s) is) ∙ e)
