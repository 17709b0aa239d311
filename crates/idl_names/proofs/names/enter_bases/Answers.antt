use Rattle.std.proofs.Common.{◌∙◌, ap}
use Rattle.std.specs.Option.{option_copied}
use Rattle.idl_names.specs.Paths.{base_name}
use Rattle.idl_names.proofs.First.{tells_more}
use Rattle.idl_names.proofs.names.enter_bases.Goals as goal

pub loop-place-preserved : goal.loop-place-preserved
loop-place-preserved c =
    tells_more (λ path. base_name path.text) c.args.includes.now c.loop-place.places c.note.new.self c.index-includes-place.result (option_copied c.base_name.result) c.loop-place.place
    c.loop-place-test.true c.index-includes-place.is (c.base_name.ensures ∙ ap base_name c.as_slice.ensures) c.loop-place.invariant c.in_ok-note.ensures
