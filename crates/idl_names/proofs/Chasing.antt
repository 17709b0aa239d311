-- Steps along typedefs.
use Rattle.std.proofs.Common.{◌≡◌, ℕ, zero, suc, ◌+◌, ◌-◌, ◌<◌, ◌≤◌, List, refl, ap, sym, ◌∙◌, arith, add-one, Some, None}
use Rattle.idl_document.specs.Trees.{TypeTree}
use Rattle.idl_names.specs.declared.targets.Step.{Step}
use Rattle.idl_names.specs.Files.{FileTree}
use Rattle.idl_names.specs.Targets.{TargetTree, StepTree, ends, follows, type_step, chased, chased_by, definition_count, target_of}
use Rattle.idl_names.specs.Told.{step_tree}

module _ (files : List FileTree) where
  pub target_is : (count file : ℕ) (ty : TypeTree) → count ≡ definition_count files → chased files (count + 1) file ty ≡ target_of files file ty
  unfolding target_of
  target_is count file ty e = ap (λ (n : ℕ). chased files (n + 1) file ty) e ∙ ap (λ (n : ℕ). chased files n file ty) (add-one (definition_count files))

  module _ (left file : ℕ) (ty : TypeTree) (more : 0 < left) where
    pub chased_lost : None ≡ type_step files file ty → chased files left file ty ≡ None
    unfolding chased
    chased_lost e = by left more
      where
        by : (n : ℕ) → 0 < n → chased files n file ty ≡ None
        by zero h = absurd (omega arith)
        by (suc n) h = ap (chased_by (chased files n)) (sym e)

    pub chased_ends : (step : Step) (target : TargetTree) → step_tree step ≡ ends target → Some (step_tree step) ≡ type_step files file ty → chased files left file ty ≡ Some target
    unfolding chased
    chased_ends step target s e = by left more
      where
        by : (n : ℕ) → 0 < n → chased files n file ty ≡ Some target
        by zero h = absurd (omega arith)
        by (suc n) h = ap (chased_by (chased files n)) (sym e) ∙ ap (λ (t : StepTree). chased_by (chased files n) (Some t)) s

    pub chased_follows : (step : Step) (other : ℕ) (aliased : TypeTree) → step_tree step ≡ follows other aliased → Some (step_tree step) ≡ type_step files file ty →
        chased files (left - 1) other aliased ≡ chased files left file ty
    unfolding chased
    chased_follows step other aliased s e = by left more
      where
        by : (n : ℕ) → 0 < n → chased files (n - 1) other aliased ≡ chased files n file ty
        by zero h = absurd (omega arith)
        by (suc n) h =
            let less : suc n - 1 ≡ n = omega arith in
            ap (λ (k : ℕ). chased files k other aliased) less ∙ sym (ap (chased_by (chased files n)) (sym e) ∙ ap (λ (t : StepTree). chased_by (chased files n) (Some t)) s)

  pub chased_out : (left file : ℕ) (ty : TypeTree) → left ≤ 0 → chased files left file ty ≡ None
  unfolding chased
  chased_out zero file ty h = refl
  chased_out (suc n) file ty h = absurd (omega arith)
