-- What a body's events still have to tell, while structs and containers are open.
use Rattle.std.specs.Prelude.{◌≡◌, ⊤, Option, Some, None, List, [], ◌∷◌, ◌++◌, map}
use Rattle.thrift_value.specs.declared.kind.Kind.{Kind}
use Rattle.value_trees.specs.declared.events.Rest.{Rest}
use Rattle.value_trees.specs.declared.events.Rest.TheVariants as rests
use Rattle.value_trees.specs.declared.events.Telling.{Telling}
use Rattle.value_trees.specs.declared.events.Next.{Next}
use Rattle.value_trees.specs.declared.events.Next.TheVariants as nexts
use Rattle.thrift_value.specs.Items.{Item, item_of}
use Rattle.thrift_value.specs.Trees.{items_of, items_of_members, items_of_trees, items_of_pairs, IsValue, AreMembers, AreAll, ArePairs}
use Rattle.value_trees.specs.Views.{tree_of, trees_of, members_of, pairs_of}

-- the items of what is left of one struct or container, its end included
abbrev pub items_left : Rest → List Item
items_left (rests.Fields fields) = items_of_members (members_of fields.now)
items_left (rests.Elements values) = items_of_trees (trees_of values.now)
items_left (rests.Pairs pairs) = items_of_pairs (pairs_of pairs.now)
items_left (rests.Paired value pairs) = items_of (tree_of value.now) ++ items_of_pairs (pairs_of pairs.now)

abbrev pub left_in : Option Rest → List Item
left_in None = []
left_in (Some r) = items_left r

-- the innermost stands last
abbrev pub all_left : List Rest → List Item
all_left [] = []
all_left (r ∷ rs) = all_left rs ++ items_left r

-- the items that were told and are left to tell now are those that were told, these, and those that were left
abbrev pub TellsMore : Telling → Telling → List Item → Type 0
TellsMore old new items =
    map item_of new.told.items ++ all_left new.waiting.items ≡ map item_of old.told.items ++ (items ++ all_left old.waiting.items)

-- what is left is made of values
abbrev pub IsRest : Rest → Type 0
IsRest (rests.Fields fields) = AreMembers (members_of fields.now)
IsRest (rests.Elements values) = (kind : Kind) × AreAll kind (trees_of values.now)
IsRest (rests.Pairs pairs) = (key : Kind) × (value : Kind) × ArePairs key value (pairs_of pairs.now)
IsRest (rests.Paired value pairs) = IsValue (tree_of value.now) × ((key : Kind) × (valued : Kind) × ArePairs key valued (pairs_of pairs.now))

abbrev pub AreRests : List Rest → Type 0
AreRests [] = ⊤
AreRests (r ∷ rs) = IsRest r × AreRests rs

-- what comes first, and what is left after it
abbrev pub items_of_next : Next → List Item
items_of_next (nexts.Ends e) = item_of e ∷ []
items_of_next (nexts.Field head value rest) = item_of head ∷ (items_of (tree_of value.now) ++ items_left rest)
items_of_next (nexts.Value value rest) = items_of (tree_of value.now) ++ items_left rest

abbrev pub IsNext : Next → Type 0
IsNext (nexts.Ends e) = ⊤
IsNext (nexts.Field head value rest) = IsValue (tree_of value.now) × IsRest rest
IsNext (nexts.Value value rest) = IsValue (tree_of value.now) × IsRest rest
