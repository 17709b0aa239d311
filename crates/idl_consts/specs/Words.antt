-- Types by the words that they are written in.
use Rattle.std.specs.Prelude.{◌≡◌}
use Rattle.idl_document.specs.declared.document.BaseWord.{BaseWord}
use Rattle.idl_document.specs.Trees.{TypeTree, base_at, named_at, map_at, set_at, list_at, type_tree}
use Rattle.idl_consts.specs.declared.types.TypeRef.{TypeRef}

-- a type without the places of its words
abbrev pub words_of : TypeTree → TypeTree
words_of (base_at at word) = base_at 0 word
words_of (named_at at name) = named_at 0 name
words_of (map_at at key value) = map_at 0 (words_of key) (words_of value)
words_of (set_at at element) = set_at 0 (words_of element)
words_of (list_at at element) = list_at 0 (words_of element)

-- both are one word of the language
abbrev pub AreOneWord : TypeTree → TypeTree → Type 0
AreOneWord a b = (word : BaseWord) × (words_of a ≡ base_at 0 word) × (words_of b ≡ base_at 0 word)

-- types of one file, in the same words, from which as many typedefs may be followed
abbrev pub IsSameRef : TypeRef → TypeRef → Type 0
IsSameRef a b = (a.file ≡ b.file) × (a.left ≡ b.left) × (words_of (type_tree a.ty.now) ≡ words_of (type_tree b.ty.now))
