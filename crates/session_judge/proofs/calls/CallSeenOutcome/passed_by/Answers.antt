use Rattle.std.proofs.Common.{None, refl}
use Rattle.std.proofs.lemmas.Option.{none-some}
use Rattle.protocol_traits.specs.Heads.{Header, header_of}
use Rattle.type_tables.specs.Declarations.{Declarations}
use Rattle.translate_verdicts.specs.Routes.{info_of, method_by}
use Rattle.session_judge.proofs.calls.CallSeenOutcome.passed_by.Goals as goal

pub returns-in_default-clause-taken : goal.returns-in_default-clause-taken
returns-in_default-clause-taken c none =
    let told = rw none at c.other_seen.ensures None in
    none-some _ told

pub returns-in_default-clause-passes : goal.returns-in_default-clause-passes
unfolding info_of
returns-in_default-clause-passes c old new j passed =
    let d : Declarations = c.args.schema.now in
    let header : Header = header_of c.args.head.now in
    rw (c.other_seen.ensures (method_by d c.args.route header)) (info_of d c.args.route header, passed, refl)
