-- Typedefs, one step at a time.
use Rattle.std.proofs.Common.{◌≡◌, ℕ, zero, suc, ◌-◌, ◌<◌, List, refl, ap, sym, ◌∙◌, arith, Result, Ok, Err}
use Rattle.std.specs.Prelude.{IfOk}
use Rattle.idl_document.specs.declared.document.TypeForm.{TypeForm}
use Rattle.idl_document.specs.declared.document.TypeForm.TheVariants as forms
use Rattle.idl_document.specs.Trees.{TypeTree, named_at, form_tree}
use Rattle.type_tables.specs.declared.declared.Ty.{Ty}
use Rattle.type_tables.specs.declared.declared.Ty.TheVariants as types
use Rattle.idl_names.specs.Files.{FileTree}
use Rattle.idl_schema.specs.Types.{Target, found, further, ty_by, target, target_of, followed, plain_ty, ty_resolution}
use Rattle.idl_schema.specs.declared.types.Resolution.{Resolution}

module _ (files : List FileTree) (left file base at : ℕ) (form : TypeForm) (whole : Ty) (i : followed left files file base (form_tree at form) ≡ whole) where
  one_less : (m : ℕ) → suc m - 1 ≡ m
  one_less m = omega arith

  -- a name with no step left
  pub none_left : (word : List ℕ) → form ≡ forms.Named word → left ≡ 0 → types.Unknown ≡ whole
  none_left word e z =
      sym (ap (λ (n : ℕ). followed n files file base (form_tree at form)) z ∙ ap (λ (f : TypeForm). followed 0 files file base (form_tree at f)) e) ∙ i

  stepped : (n : ℕ) (word : List ℕ) → left ≡ n → form ≡ forms.Named word → followed n files file base (named_at at word) ≡ whole
  stepped n word l e = sym (ap (λ (m : ℕ). followed m files file base (form_tree at form)) l ∙ ap (λ (f : TypeForm). followed n files file base (form_tree at f)) e) ∙ i

  -- what a name means is the whole
  pub name_whole : (word : List ℕ) → form ≡ forms.Named word → 0 < left → ty_by (target files file word) (followed (left - 1) files) ≡ whole
  name_whole word e some = by left refl
    where
      by : (n : ℕ) → left ≡ n → ty_by (target files file word) (followed (left - 1) files) ≡ whole
      by zero z = absurd (omega arith)
      by (suc m) l =
          ap (λ (n : ℕ). ty_by (target files file word) (followed (n - 1) files)) l ∙ ap (λ (n : ℕ). ty_by (target files file word) (followed n files)) (one_less m)
          ∙ stepped (suc m) word l e

  -- a name that means a type
  pub found_here : (word : List ℕ) (ty : Ty) (a : Resolution) → form ≡ forms.Named word → 0 < left → found ty ≡ target_of a.meant
      → ty_resolution files a ≡ ty_by (target files file word) (followed (left - 1) files) → ty ≡ whole
  found_here word ty a e some t h = ap (λ (t : Target). ty_by t (followed a.left files)) t ∙ h ∙ name_whole word e some

  -- a name that leads on
  pub goes_on : (word : List ℕ) (f b : ℕ) (t : TypeTree) (a : Resolution) → form ≡ forms.Named word → 0 < left → further f b t ≡ target_of a.meant
      → ty_resolution files a ≡ ty_by (target files file word) (followed (left - 1) files) → followed a.left files f b t ≡ whole
  goes_on word f b t a e some d h = ap (λ (t : Target). ty_by t (followed a.left files)) d ∙ h ∙ name_whole word e some

plain_by : (files : List FileTree) (n file base at : ℕ) (form : TypeForm) → ((word : List ℕ) → form ≡ forms.Named word → ⊥) → plain_ty base (form_tree at form) ≡ followed n files file base (form_tree at form)
plain_by files zero file base at form other = refl
plain_by files (suc n) file base at (forms.Base word) other = refl
plain_by files (suc n) file base at (forms.Named word) other = absurd (other word refl)
plain_by files (suc n) file base at (forms.Map' p key_at key q value_at value) other = refl
plain_by files (suc n) file base at (forms.Set' p element_at element) other = refl
plain_by files (suc n) file base at (forms.List' p element_at element) other = refl

-- what is no name
pub plain_here : (files : List FileTree) (n file base at : ℕ) (form : TypeForm) (whole : Ty) → followed n files file base (form_tree at form) ≡ whole →
    ((word : List ℕ) → form ≡ forms.Named word → ⊥) → plain_ty base (form_tree at form) ≡ whole
plain_here files n file base at form whole i other = plain_by files n file base at form other ∙ i

pub plain_result : {E : Type 0} {a b : Ty} (r : Result Ty E) → a ≡ b → IfOk r (λ t. t ≡ a) → IfOk r (λ t. t ≡ b)
plain_result (Ok t) e h = h ∙ e
plain_result (Err x) e h = h
