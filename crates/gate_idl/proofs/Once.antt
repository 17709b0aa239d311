-- Files give one answer.
use Rattle.std.proofs.Common.{◌≡◌, ℕ, List, Option, Some, None, Ok, Err, ap, sym, subst}
use Rattle.idl_names.specs.Files.{FileTree}
use Rattle.idl_rules.specs.declared.row.IdlFault.{IdlFault}
use Rattle.idl_files.specs.Walk.{walked}
use Rattle.idl_resolve.specs.Refused.{IsFirst}
use Rattle.idl_schema.specs.Schema.{declarations_of}
use Rattle.idl_consts.specs.declared.row.ConstFault.{ConstFault}
use Rattle.idl_consts.specs.Told.{Told, IsTold}
use Rattle.gate_idl.specs.declared.refusal.Refusal.{Refusal}
use Rattle.gate_idl.specs.declared.refusal.ErrorCode.TheVariants as rows
use Rattle.gate_idl.specs.Opening.{IsOpened, Opened, Unloaded, Unlawful, Unfit, Good, misfit, refused}
use Rattle.gate_idl.proofs.Alike.{first_once}

same_files : (holds : List ℕ → Option (List ℕ)) (root : List ℕ) (a b : List FileTree) → walked holds root ≡ Ok a → walked holds root ≡ Ok b → b ≡ a
same_files holds root a b e f = cc

not_both : (holds : List ℕ → Option (List ℕ)) (root : List ℕ) (a : IdlFault) (b : List FileTree) → walked holds root ≡ Err a → walked holds root ≡ Ok b → ⊥
not_both holds root a b e f = cc

same_fault : (holds : List ℕ → Option (List ℕ)) (root : List ℕ) (a b : IdlFault) → walked holds root ≡ Err a → walked holds root ≡ Err b → a ≡ b
same_fault holds root a b e f = cc

abbrev stopped : Refusal → Opened
stopped refusal = Err refusal

refused_alike : (a b : IdlFault) → a ≡ b → stopped (refused a) ≡ stopped (refused b)
refused_alike a b e = ap (λ (f : IdlFault). stopped (refused f)) e

some_fault : (a b : IdlFault) → Some a ≡ Some b → a ≡ b
some_fault a b e = cc

no_fault : (a : IdlFault) → Some a ≡ None → ⊥
no_fault a e = cc

abbrev told : ConstFault → Told
told f = (f.file, (f.offset, f.row))

abbrev told_of : ConstFault → Option Told
told_of f = Some (told f)

abbrev misfit_of : Told → Refusal
misfit_of t = record { file = t.0; offset = (t.1).0; row = rows.Value (t.1).1 }

misfit_alike : (a b : ConstFault) → told_of a ≡ told_of b → stopped (misfit a) ≡ stopped (misfit b)
misfit_alike a b e = let same : told a ≡ told b = cc in ap (λ (t : Told). stopped (misfit_of t)) same

no_misfit : (a : ConstFault) → told_of a ≡ None → ⊥
no_misfit a e = cc

-- given that of the values of all files one fault is told, or none
module _ (told_once : (d : List FileTree) (a b : Option Told) → IsTold d 0 d a → IsTold d 0 d b → a ≡ b) (holds : List ℕ → Option (List ℕ)) (root : List ℕ) where
  first_same : (a b : List FileTree) (f g : Option IdlFault) → walked holds root ≡ Ok a → walked holds root ≡ Ok b → IsFirst a f → IsFirst b g → f ≡ g
  first_same a b f g e h x y = first_once a f g x (subst (λ (files : List FileTree). IsFirst files g) (same_files holds root a b e h) y)

  told_same : (a b : List FileTree) (f g : Option Told) → walked holds root ≡ Ok a → walked holds root ≡ Ok b → IsTold a 0 a f → IsTold b 0 b g → f ≡ g
  told_same a b f g e h x y = told_once a f g x (subst (λ (files : List FileTree). IsTold files 0 files g) (same_files holds root a b e h) y)

  pub opened_once : (a b : Opened) → IsOpened holds root a → IsOpened holds root b → a ≡ b
  opened_once a b (Unloaded f e) (Unloaded g h) = refused_alike f g (same_fault holds root f g e h)
  opened_once a b (Unloaded f e) (Unlawful files g h x) = absurd (not_both holds root f files e h)
  opened_once a b (Unloaded f e) (Unfit files g h x y) = absurd (not_both holds root f files e h)
  opened_once a b (Unloaded f e) (Good files h x y) = absurd (not_both holds root f files e h)
  opened_once a b (Unlawful files f e x) (Unloaded g h) = absurd (not_both holds root g files h e)
  opened_once a b (Unlawful files f e x) (Unlawful others g h y) = refused_alike f g (some_fault f g (first_same files others (Some f) (Some g) e h x y))
  opened_once a b (Unlawful files f e x) (Unfit others g h y z) = absurd (no_fault f (first_same files others (Some f) None e h x y))
  opened_once a b (Unlawful files f e x) (Good others h y z) = absurd (no_fault f (first_same files others (Some f) None e h x y))
  opened_once a b (Unfit files f e x u) (Unloaded g h) = absurd (not_both holds root g files h e)
  opened_once a b (Unfit files f e x u) (Unlawful others g h y) = absurd (no_fault g (first_same others files (Some g) None h e y x))
  opened_once a b (Unfit files f e x u) (Unfit others g h y v) = misfit_alike f g (told_same files others (told_of f) (told_of g) e h u v)
  opened_once a b (Unfit files f e x u) (Good others h y v) = absurd (no_misfit f (told_same files others (told_of f) None e h u v))
  opened_once a b (Good files e x u) (Unloaded g h) = absurd (not_both holds root g files h e)
  opened_once a b (Good files e x u) (Unlawful others g h y) = absurd (no_fault g (first_same others files (Some g) None h e y x))
  opened_once a b (Good files e x u) (Unfit others g h y v) = absurd (no_misfit g (told_same others files (told_of g) None h e v u))
  opened_once a b (Good files e x u) (Good others h y v) = ap (λ (fs : List FileTree). let d : Opened = Ok (declarations_of fs) in d) (sym (same_files holds root files others e h))
