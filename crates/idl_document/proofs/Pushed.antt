-- One more value, or pair, has its items at the end.
use Rattle.std.proofs.Common.{◌≡◌, List, [], ◌∷◌, ◌++◌, ap, ◌∙◌, sym, append_assoc}
use Rattle.std.proofs.lemmas.List.{append-nil}
use Rattle.idl_document.specs.Item.{ValueItem}
use Rattle.idl_document.specs.declared.value.Pair.{Pair}
use Rattle.idl_document.specs.declared.value.ValueExpr.{ValueExpr}
use Rattle.idl_document.specs.Items.{items_of_value, items_of_values, items_of_pair, items_of_pairs}

pub items-pushed : (vs : List ValueExpr) (v : ValueExpr) → items_of_values (vs ++ v ∷ []) ≡ items_of_values vs ++ items_of_value v
items-pushed [] v = append-nil (items_of_value v)
items-pushed (w ∷ ws) v = ap (λ (xs : List ValueItem). items_of_value w ++ xs) (items-pushed ws v) ∙ sym (append_assoc (items_of_value w) (items_of_values ws) (items_of_value v))

pub pairs-pushed : (ps : List Pair) (p : Pair) → items_of_pairs (ps ++ p ∷ []) ≡ items_of_pairs ps ++ items_of_pair p
pairs-pushed [] p = append-nil (items_of_pair p)
pairs-pushed (q ∷ qs) p = ap (λ (xs : List ValueItem). items_of_pair q ++ xs) (pairs-pushed qs p) ∙ sym (append_assoc (items_of_pair q) (items_of_pairs qs) (items_of_pair p))
