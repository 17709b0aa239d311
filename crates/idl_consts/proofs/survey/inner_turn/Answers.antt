use Rattle.idl_consts.proofs.survey.inner_turn.Goals as goal

pub returns-in-Keys : goal.returns-in-Keys
returns-in-Keys c = λ up. rw c.in-Keys.is (c.value_turn-in-Keys.ensures up)

pub returns-in-Values : goal.returns-in-Values
returns-in-Values c = λ up. rw c.in-Values.is (c.value_turn-in-Values.ensures up)

pub returns-in-FieldValue : goal.returns-in-FieldValue
returns-in-FieldValue c = λ up. rw c.in-FieldValue.is (c.value_turn-in-FieldValue.ensures up)
