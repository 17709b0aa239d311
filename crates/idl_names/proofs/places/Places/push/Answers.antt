use Rattle.idl_names.proofs.Named.{pushed}
use Rattle.idl_names.proofs.places.Places.push.Goals as goal

pub returns : goal.returns
returns c =
    pushed c.self.inside.entries.entries c.insert.new.self.entries c.args.self.now c.args.name.now c.in_ok-key.key c.args.place c.self.view_is c.in_ok-key.ensures.items c.requires c.in_ok-insert.ensures.entries
