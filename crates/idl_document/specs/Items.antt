-- The items that values are seen as.
use Rattle.std.specs.Prelude.{ℕ, List, [], ◌∷◌, ◌++◌}
use Rattle.idl_document.specs.Item.{ValueItem, whole, double, literal, named, list_begin, list_end, map_begin, map_end}
use Rattle.idl_document.specs.declared.value.Pair.{Pair}
use Rattle.idl_document.specs.declared.value.ValueExpr.{ValueExpr}
use Rattle.idl_document.specs.declared.value.ValueForm.{ValueForm}
use Rattle.idl_document.specs.declared.value.ValueForm.TheVariants as forms

-- a list is seen as the items of its elements already
abbrev pub items_of_form : ℕ → ValueForm → List ValueItem
items_of_form at (forms.Int z) = whole at z ∷ []
items_of_form at (forms.Double text) = double at text ∷ []
items_of_form at (forms.Literal text) = literal at text ∷ []
items_of_form at (forms.Named text) = named at text ∷ []
items_of_form at (forms.List items) = list_begin at ∷ (items ++ list_end ∷ [])
items_of_form at (forms.Map items) = map_begin at ∷ (items ++ map_end ∷ [])

abbrev pub items_of_value : ValueExpr → List ValueItem
items_of_value v = items_of_form v.at v.form

abbrev pub items_of_values : List ValueExpr → List ValueItem
items_of_values [] = []
items_of_values (v ∷ vs) = items_of_value v ++ items_of_values vs

abbrev pub items_of_pair : Pair → List ValueItem
items_of_pair p = items_of_value p.key ++ items_of_value p.value

abbrev pub items_of_pairs : List Pair → List ValueItem
items_of_pairs [] = []
items_of_pairs (p ∷ ps) = items_of_pair p ++ items_of_pairs ps
