use Rattle.json_protocol.specs.ReadForms.{end_read, ends_past}
use Rattle.json_protocol.proofs.read_forms.JsonReadFormRead.end.Goals as goal

pub returns-clause-within : goal.returns-clause-within
returns-clause-within c = ends_past c.args.container c.args.frame.now c.args.at c.in_ok-behind.behind c.in_ok-behind.ensures

pub returns-clause-steps : goal.returns-clause-steps
returns-clause-steps c = end_read c.args.container c.args.frame.now c.args.at c.in_ok-behind.behind c.in_ok-behind.ensures
