use Rattle.std.proofs.Common.{arith}
use Rattle.idl_parser.proofs.Views.{rest_seen, room_of, seen_length}
use Rattle.idl_parser.proofs.tokens.Tokens.rest.Goals as goal
use Rattle.std.proofs.lemmas.Grind.{common_steps}

pub returns-clause-value : goal.returns-clause-value
returns-clause-value c = rest_seen c.self.inside.text.now c.self.inside.list.now c.args.n c.args.self.now c.self.view_is

pub returns-clause-room : goal.returns-clause-room
returns-clause-room c = room_of c.args.self.now _ c.args.n c.requires (rest_seen c.self.inside.text.now c.self.inside.list.now c.args.n c.args.self.now c.self.view_is)

pub returns-clause-small : goal.returns-clause-small
returns-clause-small c = omega (arith, c.self.told.1, seen_length c.self.inside.text.now c.self.inside.list.now c.args.self.now c.self.view_is)

pub slice_bounds-result-count : goal.slice_bounds-result-count
slice_bounds-result-count c = grind (arith, common_steps)

pub offset_bounds-self-inside-n : goal.offset_bounds-self-inside-n
offset_bounds-self-inside-n c = grind (arith, common_steps)

pub invariant_of-result : goal.invariant_of-result
invariant_of-result c = grind (arith, common_steps)

pub slice_bounds-result-start : goal.slice_bounds-result-start
slice_bounds-result-start c = grind (arith, common_steps)
