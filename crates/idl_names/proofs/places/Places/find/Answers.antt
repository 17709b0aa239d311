use Rattle.std.proofs.Common.{◌∙◌, ap}
use Rattle.idl_names.specs.Places.{place_of}
use Rattle.idl_names.proofs.Named.{found}
use Rattle.idl_names.proofs.places.Places.find.Goals as goal

pub returns : goal.returns
returns c = c.copied.ensures ∙ c.get.ensures.value ∙ found c.args.name.now c.self.inside.entries.entries ∙ ap (place_of c.args.name.now) c.self.view_is
