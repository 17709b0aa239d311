-- Each value has fewer items than what holds it.
use Rattle.std.proofs.Common.{ℕ, ◌≤◌, List, [], ◌∷◌, length, arith, length-append}
use Rattle.idl_document.specs.Item.{ValueItem}
use Rattle.idl_document.specs.declared.value.Pair.{Pair}
use Rattle.idl_document.specs.declared.value.ValueExpr.{ValueExpr}
use Rattle.idl_document.specs.declared.value.ValueForm.{ValueForm}
use Rattle.idl_document.specs.declared.value.ValueForm.TheVariants as forms
use Rattle.idl_document.specs.declared.value.PairList.TheInside as pairs
use Rattle.idl_document.specs.declared.value.PairList.TheDeep.{deep-Pair, deep-PairList, deep-ValueExpr, deep-ValueForm, deep-ValueList}
use Rattle.idl_document.specs.declared.value.ValueList.TheInside as values
use Rattle.idl_document.specs.Items.{items_of_form, items_of_value, items_of_values, items_of_pair, items_of_pairs}
use denote.Param.Weighed.{most}

form_falls : (at : ℕ) (f : ValueForm) → deep-ValueForm f ≤ length (items_of_form at f)
form_falls at (forms.Int z) = omega arith
form_falls at (forms.Double t) = omega arith
form_falls at (forms.Literal t) = omega arith
form_falls at (forms.Named t) = omega arith
form_falls at (forms.List vs) = omega (arith, length-append {A = ValueItem})
form_falls at (forms.Map ps) = omega (arith, length-append {A = ValueItem})

each_falls : (vs : List ValueExpr) → most deep-ValueExpr vs ≤ length (items_of_values vs)
each_falls [] = omega arith
each_falls (v ∷ vs) = omega (arith, form_falls v.at v.form, each_falls vs, length-append (items_of_value v) (items_of_values vs))

pair_falls : (p : Pair) → deep-Pair p ≤ length (items_of_pair p)
pair_falls p = omega (arith, form_falls p.key.at p.key.form, form_falls p.value.at p.value.form, length-append (items_of_value p.key) (items_of_value p.value))

each_pair_falls : (ps : List Pair) → most deep-Pair ps ≤ length (items_of_pairs ps)
each_pair_falls [] = omega arith
each_pair_falls (p ∷ ps) = omega (arith, pair_falls p, each_pair_falls ps, length-append (items_of_pair p) (items_of_pairs ps))

pub values_fall : (a : values.Inside) → deep-ValueList a ≤ length (items_of_values a.list.items)
values_fall a = omega (arith, each_falls a.list.items)

pub pairs_fall : (a : pairs.Inside) → deep-PairList a ≤ length (items_of_pairs a.list.items)
pairs_fall a = omega (arith, each_pair_falls a.list.items)
