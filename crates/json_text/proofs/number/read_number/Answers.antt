use Rattle.std.proofs.Common.{refl}
use Rattle.json_text.proofs.Numbers.{number_to}
use Rattle.json_text.proofs.number.read_number.Goals as goal

pub returns-clause-exact : goal.returns-clause-exact
returns-clause-exact c =
    let stop = c.number_end-end.result in
    let to = number_to c.args.bytes.now c.args.at stop c.requires c.number_end-end.ensures.value c.number_end-end.ensures.bound in
    rw (c.told.ensures.value, c.number_in-form.ensures, to) refl
