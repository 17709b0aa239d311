use Rattle.kept_messages.proofs.body.renewed.Goals as goal

pub returns-then-renew_no_pairs-clause-spells : goal.returns-then-renew_no_pairs-clause-spells
returns-then-renew_no_pairs-clause-spells g c = c.renew_no_pairs.ensures.spells c.if-renew_no_pairs.true
