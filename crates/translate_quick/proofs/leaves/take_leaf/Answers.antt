use Rattle.translate_quick.proofs.leaves.take_leaf.Goals as goal

pub returns-in-Bool-clause-takes : goal.returns-in-Bool-clause-takes
returns-in-Bool-clause-takes g c = rw c.in-Bool.is c.take.ensures.takes

pub returns-in-I8-clause-takes : goal.returns-in-I8-clause-takes
returns-in-I8-clause-takes g c = rw c.in-I8.is c.take-in-I8.ensures.takes

pub returns-in-I16-clause-takes : goal.returns-in-I16-clause-takes
returns-in-I16-clause-takes g c = rw c.in-I16.is c.take-in-I16.ensures.takes

pub returns-in-I32-clause-takes : goal.returns-in-I32-clause-takes
returns-in-I32-clause-takes g c = rw c.in-I32.is c.take-in-I32.ensures.takes

pub returns-in-I64-clause-takes : goal.returns-in-I64-clause-takes
returns-in-I64-clause-takes g c = rw c.in-I64.is c.take-in-I64.ensures.takes

pub returns-in-Double-clause-takes : goal.returns-in-Double-clause-takes
returns-in-Double-clause-takes g c = rw c.in-Double.is c.take-in-Double.ensures.takes

pub returns-in-Uuid-clause-takes : goal.returns-in-Uuid-clause-takes
returns-in-Uuid-clause-takes g c = rw c.in-Uuid.is c.take-in-Uuid.ensures.takes
