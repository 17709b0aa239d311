use Rattle.std.proofs.Common.{w16}
use Rattle.std.proofs.lemmas.Int.{to_z-of_z}
use Rattle.thrift_value.specs.declared.kind.Kind.TheVariants as kinds
use Rattle.translate_verdicts.specs.Body.{source_in, target_in}
use Rattle.translate_known.proofs.Levels.{takes_flag}
use Rattle.kept_messages.proofs.Keeping.{takes_leaf_field}
use Rattle.kept_messages.proofs.leaves.keep_leaf_field.Goals as goal

pub returns-in_ok-keep_flag-in-Bool-clause-keeps : goal.returns-in_ok-keep_flag-in-Bool-clause-keeps
returns-in_ok-keep_flag-in-Bool-clause-keeps g c d ty depth =
    let lead = rw c.in-Bool.is at c.requires.lead in
    let flag = rw (to_z-of_z w16 c.args.last c.ranges.last, to_z-of_z w16 c.args.id c.ranges.id) at c.in_ok-keep_flag-in-Bool.ensures.keeps in
    rw c.in-Bool.is (takes_flag (source_in g.R.ReadRules) (target_in g.W.WireWrite) g.R.ReadRules.stands_at g.W.WireWrite.stands_at c.args.frame.now g.R.ReadRules.pays g.met.W.FormWrite.goes_on
    d ty depth c.args.at c.args.behind c.in_ok-keep_flag-in-Bool.field-0 c.args.opening c.args.last c.args.id flag.0 c.args.frame.now c.args.frame.now c.args.at c.in_ok-keep_flag-in-Bool.field-0
    (λ up steps. flag.1 c.args.id c.args.last up steps) (flag.2 lead.0))

pub returns-in_ok-keep_i8-in-I8-clause-keeps : goal.returns-in_ok-keep_i8-in-I8-clause-keeps
returns-in_ok-keep_i8-in-I8-clause-keeps g c d ty depth =
    let lead = rw c.in-I8.is at c.requires.lead in
    rw c.in-I8.is (takes_leaf_field (source_in g.R.ReadRules) (target_in g.W.WireWrite) g.R.ReadRules.stands_at g.W.WireWrite.stands_at c.args.frame.now g.R.ReadRules.pays g.met.W.FormWrite.goes_on
    kinds.I8 d ty depth c.args.at c.args.behind c.in_ok-keep_i8-in-I8.field-0 c.args.opening c.args.last c.args.id lead.1 c.in_ok-keep_i8-in-I8.ensures.keeps)

pub returns-in_ok-keep_i16-in-I16-clause-keeps : goal.returns-in_ok-keep_i16-in-I16-clause-keeps
returns-in_ok-keep_i16-in-I16-clause-keeps g c d ty depth =
    let lead = rw c.in-I16.is at c.requires.lead in
    rw c.in-I16.is (takes_leaf_field (source_in g.R.ReadRules) (target_in g.W.WireWrite) g.R.ReadRules.stands_at g.W.WireWrite.stands_at c.args.frame.now g.R.ReadRules.pays g.met.W.FormWrite.goes_on
    kinds.I16 d ty depth c.args.at c.args.behind c.in_ok-keep_i16-in-I16.field-0 c.args.opening c.args.last c.args.id lead.1 c.in_ok-keep_i16-in-I16.ensures.keeps)

pub returns-in_ok-keep_i32-in-I32-clause-keeps : goal.returns-in_ok-keep_i32-in-I32-clause-keeps
returns-in_ok-keep_i32-in-I32-clause-keeps g c d ty depth =
    let lead = rw c.in-I32.is at c.requires.lead in
    rw c.in-I32.is (takes_leaf_field (source_in g.R.ReadRules) (target_in g.W.WireWrite) g.R.ReadRules.stands_at g.W.WireWrite.stands_at c.args.frame.now g.R.ReadRules.pays g.met.W.FormWrite.goes_on
    kinds.I32 d ty depth c.args.at c.args.behind c.in_ok-keep_i32-in-I32.field-0 c.args.opening c.args.last c.args.id lead.1 c.in_ok-keep_i32-in-I32.ensures.keeps)

pub returns-in_ok-keep_i64-in-I64-clause-keeps : goal.returns-in_ok-keep_i64-in-I64-clause-keeps
returns-in_ok-keep_i64-in-I64-clause-keeps g c d ty depth =
    let lead = rw c.in-I64.is at c.requires.lead in
    rw c.in-I64.is (takes_leaf_field (source_in g.R.ReadRules) (target_in g.W.WireWrite) g.R.ReadRules.stands_at g.W.WireWrite.stands_at c.args.frame.now g.R.ReadRules.pays g.met.W.FormWrite.goes_on
    kinds.I64 d ty depth c.args.at c.args.behind c.in_ok-keep_i64-in-I64.field-0 c.args.opening c.args.last c.args.id lead.1 c.in_ok-keep_i64-in-I64.ensures.keeps)

pub returns-in_ok-keep_double-in-Double-clause-keeps : goal.returns-in_ok-keep_double-in-Double-clause-keeps
returns-in_ok-keep_double-in-Double-clause-keeps g c d ty depth =
    let lead = rw c.in-Double.is at c.requires.lead in
    rw c.in-Double.is (takes_leaf_field (source_in g.R.ReadRules) (target_in g.W.WireWrite) g.R.ReadRules.stands_at g.W.WireWrite.stands_at c.args.frame.now g.R.ReadRules.pays g.met.W.FormWrite.goes_on
    kinds.Double d ty depth c.args.at c.args.behind c.in_ok-keep_double-in-Double.field-0 c.args.opening c.args.last c.args.id lead.1 c.in_ok-keep_double-in-Double.ensures.keeps)

pub returns-in_ok-keep_text-in-Str-clause-keeps : goal.returns-in_ok-keep_text-in-Str-clause-keeps
returns-in_ok-keep_text-in-Str-clause-keeps g c d ty depth =
    let lead = rw c.in-Str.is at c.requires.lead in
    rw c.in-Str.is (takes_leaf_field (source_in g.R.ReadRules) (target_in g.W.WireWrite) g.R.ReadRules.stands_at g.W.WireWrite.stands_at c.args.frame.now g.R.ReadRules.pays g.met.W.FormWrite.goes_on
    kinds.Str d ty depth c.args.at c.args.behind c.in_ok-keep_text-in-Str.field-0 c.args.opening c.args.last c.args.id lead.1 c.in_ok-keep_text-in-Str.ensures.keeps)

pub returns-in_ok-keep_uuid-in-Uuid-clause-keeps : goal.returns-in_ok-keep_uuid-in-Uuid-clause-keeps
returns-in_ok-keep_uuid-in-Uuid-clause-keeps g c d ty depth =
    let lead = rw c.in-Uuid.is at c.requires.lead in
    rw c.in-Uuid.is (takes_leaf_field (source_in g.R.ReadRules) (target_in g.W.WireWrite) g.R.ReadRules.stands_at g.W.WireWrite.stands_at c.args.frame.now g.R.ReadRules.pays g.met.W.FormWrite.goes_on
    kinds.Uuid d ty depth c.args.at c.args.behind c.in_ok-keep_uuid-in-Uuid.field-0 c.args.opening c.args.last c.args.id lead.1 c.in_ok-keep_uuid-in-Uuid.ensures.keeps)
