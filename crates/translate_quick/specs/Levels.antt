-- Lists and maps whose elements, keys and values are no levels.
use Rattle.std.specs.Prelude.{◌<◌, ℕ, List, Option, IfSome}
use Rattle.thrift_value.specs.declared.kind.Kind.{Kind}
use Rattle.protocol_traits.specs.declared.forms.Container.{Container}
use Rattle.protocol_traits.specs.declared.forms.Pairs.{Pairs}
use Rattle.protocol_traits.specs.declared.forms.Stand.{Stand}
use Rattle.protocol_traits.specs.declared.nest.TheConstants.{DEPTH}
use Rattle.protocol_traits.specs.declared.traits.ReadRules.{Ghosts as ReadRules}
use Rattle.protocol_traits.specs.declared.traits.WireWrite.{Ghosts as WriteRules}
use Rattle.protocol_traits.specs.Forms.{StepsInto, container_kind, elements_item}
use Rattle.type_tables.specs.declared.declared.Ty.{Ty}
use Rattle.type_tables.specs.Declarations.{Declarations}
use Rattle.type_walk.specs.declared.levels.Level.{Level}
use Rattle.translate_verdicts.specs.Body.{source_in, target_in}
use Rattle.translate_known.specs.declared.reach.Reach.{Reach}
use Rattle.translate_known.specs.Quick.{TakesPairs, TakesValue, Turns}

-- what announces a list or set of this kind and size was read, to this place
abbrev pub FoundList : {S : Type 0} → ReadRules S → List ℕ → ℕ → Stand → Container → Kind → ℕ → ℕ → Type 0
FoundList reads frame at stand container kind size behind = StepsInto reads.reads reads.stands_at frame at stand (container_kind container) (elements_item container kind size) behind

module _ {S T : Type 0} (reads : ReadRules S) (writes : WriteRules T) where
  -- a container was taken whose elements are no levels and no strings: whatever is declared, and inside each number of levels that may be open
  abbrev pub TookLeafLevel : List ℕ → ℕ → Stand → Kind → List ℕ → ℕ → List ℕ → Option Reach → Type 0
  TookLeafLevel frame at stand kind old to new taken = IfSome taken (λ x. (d : Declarations) (ty : Ty) (depth : ℕ) → depth < DEPTH
      → TakesValue (source_in reads) (target_in writes) reads.stands_at writes.stands_at d ty depth frame at stand kind old to new x.read x.written)

  -- a list or set of strings was taken, of which this is known: inside each number of levels that may be open
  abbrev pub TookTextList : (Ty → Type 0) → Declarations → List ℕ → ℕ → Stand → Kind → List ℕ → ℕ → List ℕ → Option Reach → Type 0
  TookTextList means d frame at stand kind old to new taken = IfSome taken (λ x. (ty : Ty) (depth : ℕ) → means ty → depth < DEPTH
      → TakesValue (source_in reads) (target_in writes) reads.stands_at writes.stands_at d ty depth frame at stand kind old to new x.read x.written)

  -- the pairs of a map were taken to its end: whatever is declared, and in however many levels
  abbrev pub TookLeafPairs : List ℕ → Pairs → List ℕ → ℕ → List ℕ → Option Reach → Type 0
  TookLeafPairs frame pairs old to new taken = IfSome taken (λ x. (d : Declarations) (level : Level) (depth : ℕ) → Turns level
      → TakesPairs (source_in reads) (target_in writes) reads.stands_at writes.stands_at d level depth frame pairs.behind pairs.key pairs.value pairs.size old to new x.read x.written)
