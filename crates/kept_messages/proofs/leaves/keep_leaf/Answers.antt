use Rattle.kept_messages.proofs.leaves.keep_leaf.Goals as goal

pub returns-in_ok-keep_bool-in-Bool-clause-keeps : goal.returns-in_ok-keep_bool-in-Bool-clause-keeps
returns-in_ok-keep_bool-in-Bool-clause-keeps g c = rw c.in-Bool.is c.in_ok-keep_bool-in-Bool.ensures.keeps

pub returns-in_ok-keep_i8-in-I8-clause-keeps : goal.returns-in_ok-keep_i8-in-I8-clause-keeps
returns-in_ok-keep_i8-in-I8-clause-keeps g c = rw c.in-I8.is c.in_ok-keep_i8-in-I8.ensures.keeps

pub returns-in_ok-keep_i16-in-I16-clause-keeps : goal.returns-in_ok-keep_i16-in-I16-clause-keeps
returns-in_ok-keep_i16-in-I16-clause-keeps g c = rw c.in-I16.is c.in_ok-keep_i16-in-I16.ensures.keeps

pub returns-in_ok-keep_i32-in-I32-clause-keeps : goal.returns-in_ok-keep_i32-in-I32-clause-keeps
returns-in_ok-keep_i32-in-I32-clause-keeps g c = rw c.in-I32.is c.in_ok-keep_i32-in-I32.ensures.keeps

pub returns-in_ok-keep_i64-in-I64-clause-keeps : goal.returns-in_ok-keep_i64-in-I64-clause-keeps
returns-in_ok-keep_i64-in-I64-clause-keeps g c = rw c.in-I64.is c.in_ok-keep_i64-in-I64.ensures.keeps

pub returns-in_ok-keep_double-in-Double-clause-keeps : goal.returns-in_ok-keep_double-in-Double-clause-keeps
returns-in_ok-keep_double-in-Double-clause-keeps g c = rw c.in-Double.is c.in_ok-keep_double-in-Double.ensures.keeps

pub returns-in_ok-keep_text-in-Str-clause-keeps : goal.returns-in_ok-keep_text-in-Str-clause-keeps
returns-in_ok-keep_text-in-Str-clause-keeps g c = rw c.in-Str.is c.in_ok-keep_text-in-Str.ensures.keeps

pub returns-in_ok-keep_uuid-in-Uuid-clause-keeps : goal.returns-in_ok-keep_uuid-in-Uuid-clause-keeps
returns-in_ok-keep_uuid-in-Uuid-clause-keeps g c = rw c.in-Uuid.is c.in_ok-keep_uuid-in-Uuid.ensures.keeps
