use Rattle.std.proofs.Common.{◌∙◌, arith}
use Rattle.idl_schema.specs.Indexes.{files_of}
use Rattle.idl_schema.proofs.Resolving.{resolved}
use Rattle.idl_schema.proofs.index.SchemaIndex.resolved.Goals as goal

pub returns : goal.returns
returns c =
    let files = files_of c.args.self.now in
    let lands = c.resolve_chain-resolved_alias.ensures files c.args.self.now.follows in
    record {
      meant = c.resolution_at.ensures.meant ∙ resolved files c.args.left c.args.spot c.resolve_chain-resolved_alias.result lands;
      fewer = omega (arith, c.resolution_at.ensures.left, lands.2);
    }
