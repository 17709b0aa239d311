-- Typedefs that are written as nothing but a name, and what they lead to.
use Rattle.std.specs.Prelude.{◌≡◌, ℕ, zero, suc, ◌+◌, List, Option, Some, None, option_and_then, slice_get}
use Rattle.std.proofs.Props.{props}
use Rattle.idl_document.specs.Trees.{DefinitionTree, typedef_of, TypeTree, named_at}
use Rattle.idl_rules.specs.declared.scopes.Scope.TheVariants as scopes
use Rattle.idl_names.specs.declared.documents.Spot.{Spot}
use Rattle.idl_names.specs.Files.{FileTree}
use Rattle.idl_names.specs.Meaning.{meaning}
use Rattle.idl_names.specs.Targets.{definition_at}
use Rattle.idl_typedefs.specs.declared.typedefs.AliasLink.{AliasLink}
use Rattle.idl_typedefs.specs.declared.typedefs.ResolvedAlias.{ResolvedAlias}
use Rattle.idl_typedefs.specs.declared.typedefs.Typedefs.{Typedefs}

-- a type that is nothing but a name
abbrev pub alias_of : TypeTree → Option (List ℕ)
alias_of (named_at at word) = Some word
alias_of ty = None

abbrev pub alias_in : Option DefinitionTree → Option (List ℕ)
alias_in (Some (typedef_of name ty)) = alias_of ty
alias_in definition = None

-- what this name means in the file of the typedef
unfoldable pub next : List FileTree → Spot → Option Spot
next files spot = option_and_then (meaning files spot.file scopes.Types) (alias_in (definition_at files spot))

-- where so many names lead, one from the other
abbrev pub reached : List FileTree → ℕ → Spot → Option Spot
reached files zero spot = Some spot
reached files (suc steps) spot = option_and_then (reached files steps) (next files spot)

abbrev pub IsAliasLink : List FileTree → AliasLink → Type 0
IsAliasLink files link = reached files link.steps link.first ≡ Some link.last

-- all links of a list are so
abbrev pub AreAliasLinks : List FileTree → List (Option AliasLink) → Type 0
AreAliasLinks files links = (place : ℕ) (link : AliasLink) → slice_get links place ≡ Some (Some link) → IsAliasLink files link

abbrev pub Follows : List FileTree → Typedefs → Type 0
Follows files typedefs = AreAliasLinks files typedefs.links.items

-- over so many of the names that may be followed
abbrev pub ResolvesTo : List FileTree → Spot → ℕ → ResolvedAlias → Type 0
ResolvesTo files spot left l = (steps : ℕ) × (reached files steps spot ≡ Some l.spot) × (steps + l.left ≡ left)

pub Follows-prop : (files : List FileTree) (typedefs : Typedefs) → IsProp (Follows files typedefs)
Follows-prop files typedefs = hlevel props
