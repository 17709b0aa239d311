-- The verdict on a frame for one that serves a single service: only the header that is written differs.
use Rattle.std.specs.Prelude.{ℕ, List, Option}
use Rattle.protocol_traits.specs.declared.proto.Proto.{Proto}
use Rattle.protocol_traits.specs.declared.proto.Proto.TheVariants as protocols
use Rattle.type_tables.specs.Declarations.{Declarations}
use Rattle.translate_verdicts.specs.declared.route.Route.{Route}
use Rattle.translate_verdicts.specs.Positions.{typed}
use Rattle.translate_verdicts.specs.Routes.{start_of, info_of}
use Rattle.translate_verdicts.specs.Body.{Source}
use Rattle.translate_verdicts.specs.Judged.{Judged}
use Rattle.translate_methods.specs.Methods.{judge_method, name_in}
use Rattle.protocol_pairs.specs.Pairs.{binary_source, compact_source, json_source, binary_target, compact_target, json_target}

module _ {S : Type 0} (source : Source S) where
  -- the verdict on a frame of this source for a protocol
  abbrev pub method_judged_to : Declarations → Route → Proto → List ℕ → Judged
  method_judged_to d route protocols.Binary frame = judge_method source typed (start_of d route) (info_of d route) binary_target frame
  method_judged_to d route protocols.Compact frame = judge_method source typed (start_of d route) (info_of d route) compact_target frame
  method_judged_to d route protocols.Json frame = judge_method source typed (start_of d route) (info_of d route) json_target frame

  abbrev pub named_as : List ℕ → Option (List ℕ)
  named_as frame = name_in (source.reads_head (source.begun frame))

-- the verdict on a frame of one protocol for another, and the bytes that are written, with the method's name alone in their header
unfoldable pub method_judged : Declarations → Route → Proto → Proto → List ℕ → Judged
method_judged d route protocols.Binary to frame = method_judged_to binary_source d route to frame
method_judged d route protocols.Compact to frame = method_judged_to compact_source d route to frame
method_judged d route protocols.Json to frame = method_judged_to json_source d route to frame

-- the name in a frame's header, where that is whole
unfoldable pub name_of : Proto → List ℕ → Option (List ℕ)
name_of protocols.Binary frame = named_as binary_source frame
name_of protocols.Compact frame = named_as compact_source frame
name_of protocols.Json frame = named_as json_source frame
