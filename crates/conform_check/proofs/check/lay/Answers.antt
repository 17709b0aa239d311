use Rattle.std.proofs.Common.{◌++◌, [], Some, sym, ap, ◌∙◌}
use Rattle.conform_check.specs.Inside.{outer}
use Rattle.conform_check.specs.Checking.{broken, last_steps}
use Rattle.conform_check.proofs.Shelves.{path_more}
use Rattle.conform_check.proofs.check.lay.Goals as goal

pub returns-clause-path : goal.returns-clause-path
returns-clause-path c =
    let up = outer c.args.trail.now.levels in
    let last = last_steps c.args.found.last in
    ap (λ p. Some (broken c.args.found.breach p)) (c.push_last.ensures.path ∙ ap (λ p. p ++ last) c.lay_path.ensures.path ∙ sym (path_more up [] last))
