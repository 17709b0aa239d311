use Rattle.std.proofs.Common.{◌∙◌, ap, sym, Bool}
use Rattle.idl_rules.specs.Doubles.{when}
use Rattle.idl_rules.specs.Leasts.{least_one, none_lesser}
use Rattle.idl_rules.specs.Order.{lesser, least_of}
use Rattle.idl_rules.proofs.least.Least.note_when.Goals as goal

pub returns-then-refused : goal.returns-then-refused
returns-then-refused c =
    c.note.ensures ∙ ap (lesser c.args.self.now) (sym (least_one (c.args.at, c.args.row)))
    ∙ ap (λ (b : Bool). lesser c.args.self.now (least_of (when b c.args.at c.args.row))) (sym c.if-refused.true)

pub returns-else-refused : goal.returns-else-refused
returns-else-refused c =
    sym (none_lesser c.args.self.now) ∙ ap (λ (b : Bool). lesser c.args.self.now (least_of (when b c.args.at c.args.row))) (sym c.if-refused.false)
