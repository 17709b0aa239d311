use Rattle.std.proofs.Common.{◌≡◌, ◌+◌, length, refl}
use Rattle.std.proofs.lemmas.Result.{on_ok_weaker}
use Rattle.idl_document.specs.Trees.{type_tree}
use Rattle.idl_schema.specs.Adding.{with_types}
use Rattle.idl_schema.specs.Indexes.{files_of}
use Rattle.idl_schema.specs.Numbers.{parts}
use Rattle.idl_schema.specs.Types.{ty_in, part_types}
use Rattle.idl_schema.proofs.Growing.{map_added}
use Rattle.idl_schema.proofs.parts.+parts.Goals as goal

pub add_pair-returns : goal.add_pair-returns
add_pair-returns t c =
    let ty = ty_in (files_of c.args.index.now) c.args.file in
    let key = type_tree c.args.key.now in
    let value = type_tree c.args.value.now in
    let base = c.in_ok-base.base in
    let first : c.add_parts.new.builder ≡ with_types c.add_part-2.new.builder (part_types ty (length c.add_part-2.new.builder.types) key) = c.in_ok-add_parts.ensures in
    on_ok_weaker c.add_parts-2.result
    (λ last. map_added ty c.args.builder.now c.add_part.new.builder c.add_part-2.new.builder c.add_parts.new.builder c.add_parts-2.new.builder key value
    base (base + 2) (base + 2 + parts key) (parts key) c.in_ok-found.found.0 c.in_ok-found.found.1
    c.in_ok-base.ensures refl refl refl c.in_ok-found.ensures.0 c.in_ok-found.ensures.1
    c.in_ok-add_part.ensures c.in_ok-add_part-2.ensures first last)
    c.add_parts-2.ensures
