use Rattle.std.proofs.Common.{◌≡◌, None, false, length, rules, sym}
use Rattle.std.specs.Prelude.{nat_lt}
use Rattle.multiplex_names.proofs.Unnamed.{nothing_meant}
use Rattle.multiplex_names.proofs.looking.find.Goals as goal

pub returns-then-not-names_services-clause-value : goal.returns-then-not-names_services-clause-value
returns-then-not-names_services-clause-value c =
    let unset : c.args.default ≡ None = search rules in
    let unnamed : nat_lt 0 (length c.args.schema.now.names) ≡ false = search rules in
    sym (nothing_meant c.args.schema.now c.args.default c.args.name.now unset unnamed)
