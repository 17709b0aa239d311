-- Files asked one by one.
use Rattle.std.proofs.Common.{◌≡◌, ℕ, zero, suc, ◌+◌, ◌<◌, ◌≤◌, List, [], ◌∷◌, ◌++◌, length, drop, get_or, Option, Some, None, ap, sym, ◌∙◌, refl, arith, subst}
use Rattle.idl_names.specs.declared.cycles.Cycle.{Cycle}
use Rattle.idl_names.specs.declared.documents.FileDoc.{FileDoc}
use Rattle.idl_names.specs.Cycles.{TellsCycles}
use Rattle.idl_names.specs.Files.{FileTree, file_tree, file_trees}
use Rattle.idl_rules.specs.declared.row.IdlFault.{IdlFault}
use Rattle.idl_rules.specs.Leasts.{least_on, lesser_none}
use Rattle.idl_rules.specs.Order.{Refusal, lesser, least_of}
use Rattle.idl_resolve.specs.Refused.{file_refusals, first_by, first_from, first_refusal, IsFirst}

-- the least of two lists that were noted one after the other
pub noted_both : (rules names : List Refusal) (found one two new : Option Refusal) → found ≡ two → two ≡ lesser one (least_of names) → one ≡ lesser new (least_of rules) → new ≡ None → found ≡ least_of (rules ++ names)
noted_both rules names found one two new f t o n =
    f ∙ t ∙ ap (λ (x : Option Refusal). lesser x (least_of names)) (o ∙ ap (λ (x : Option Refusal). lesser x (least_of rules)) n)
    ∙ least_on None rules names
    ∙ lesser_none (least_of (rules ++ names))

next_file : (docs : List FileDoc) (k : ℕ) (f : FileDoc) → k < length docs → f ≡ get_or docs k f → drop k (file_trees docs) ≡ file_tree f ∷ drop (suc k) (file_trees docs)
next_file [] k f h e = absurd (omega arith)
next_file (d ∷ ds) zero f h e = ap (λ (x : FileDoc). file_tree x ∷ file_trees ds) (sym e)
next_file (d ∷ ds) (suc k) f h e = next_file ds k f (omega arith) e

module _ (told : List (List Cycle)) (docs : List FileDoc) (k : ℕ) (f : FileDoc) (within : k < length docs) (is : f ≡ get_or docs k f) (whole : Option IdlFault) where
  here : (o : Option Refusal) → least_of (file_refusals (file_trees docs) told k (file_tree f)) ≡ o → first_from (file_trees docs) told k (drop k (file_trees docs)) ≡ whole →
      first_by f.name o (first_from (file_trees docs) told (suc k) (drop (suc k) (file_trees docs))) ≡ whole
  here o e i =
      ap (λ (x : Option Refusal). first_by f.name x (first_from (file_trees docs) told (suc k) (drop (suc k) (file_trees docs)))) (sym e)
      ∙ ap (first_from (file_trees docs) told k) (sym (next_file docs k f within is))
      ∙ i

  -- a file that is not refused is passed over
  pub passed : None ≡ least_of (file_refusals (file_trees docs) told k (file_tree f)) → first_from (file_trees docs) told k (drop k (file_trees docs)) ≡ whole →
      first_from (file_trees docs) told (k + 1) (drop (k + 1) (file_trees docs)) ≡ whole
  passed e i =
      let more : k + 1 ≡ suc k = omega arith in
      ap (λ (n : ℕ). first_from (file_trees docs) told n (drop n (file_trees docs))) more ∙ here None (sym e) i

  -- and one that is refused is told
  pub refused : (r : Refusal) (name : List ℕ) → Some r ≡ least_of (file_refusals (file_trees docs) told k (file_tree f)) → name ≡ f.name → first_from (file_trees docs) told k (drop k (file_trees docs)) ≡ whole →
      Some (record { file = name; offset = r.0; row = r.1 }) ≡ whole
  refused r name e n i = ap (λ (m : List ℕ). let o : Option IdlFault = Some (record { file = m; offset = r.0; row = r.1 }) in o) n ∙ here (Some r) (sym e) i

drop_all : (trees : List FileTree) (k : ℕ) → length trees ≤ k → drop k trees ≡ []
drop_all [] zero h = refl
drop_all [] (suc k) h = refl
drop_all (t ∷ ts) zero h = absurd (omega arith)
drop_all (t ∷ ts) (suc k) h = drop_all ts k (omega arith)

trees_length : (docs : List FileDoc) → length (file_trees docs) ≡ length docs
trees_length [] = refl
trees_length (d ∷ ds) = ap suc (trees_length ds)

-- no file is left
pub ended : (told : List (List Cycle)) (docs : List FileDoc) (k : ℕ) (whole : Option IdlFault) → length docs ≤ k → first_from (file_trees docs) told k (drop k (file_trees docs)) ≡ whole → None ≡ whole
ended told docs k whole h i = sym (ap (first_from (file_trees docs) told k) (drop_all (file_trees docs) k (omega (arith, trees_length docs)))) ∙ i

-- what is found of the same files, where it is told how they stand to cycles
pub first : (docs files : List FileDoc) (told : List (List Cycle)) (found is : Option IdlFault) → files ≡ docs → TellsCycles (file_trees files) told → found ≡ first_refusal (file_trees files) told → found ≡ is → IsFirst (file_trees docs) is
first docs files told found is e t f i = subst (λ (fs : List FileDoc). IsFirst (file_trees fs) is) e (told, (t, sym f ∙ i))
