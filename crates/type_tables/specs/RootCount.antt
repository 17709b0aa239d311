-- How many services the root file declares.
use Rattle.std.specs.Prelude.{◌≡◌, ℕ, List, [], ◌∷◌, if◌then◌else◌}
use Rattle.type_tables.specs.declared.declared.ServiceId.{ServiceId}
use Rattle.type_tables.specs.declared.roots.Root.{Root}
use Rattle.type_tables.specs.declared.roots.Root.TheVariants as roots
use Rattle.type_tables.specs.Roots.{dotless, rooted}

abbrev pub root_of : List ServiceId → Root
root_of [] = roots.None
root_of (s ∷ []) = roots.One s
root_of (s ∷ t ∷ more) = roots.Several

abbrev pub one_more : Root → ServiceId → Root
one_more roots.None s = roots.One s
one_more (roots.One t) s = roots.Several
one_more roots.Several s = roots.Several

abbrev pub root_with : Root → List ℕ → ServiceId → Root
root_with root name s = if dotless name then one_more root s else root

abbrev pub IsRoot : Root → List (List ℕ × ServiceId) → Type 0
IsRoot root names = root ≡ root_of (rooted names)
