use Rattle.std.proofs.Common.{sym, subst}
use Rattle.conform_check.specs.declared.breach.Checked.TheVariants as checked
use Rattle.conform_check.specs.Checking.{IsChecked}
use Rattle.conform_check.proofs.Frames.{told_broken, told_meets, told_refused, told_unread}
use Rattle.conform_check.proofs.check.settle.Goals as goal

pub returns-in-Broken-clause-settled : goal.returns-in-Broken-clause-settled
returns-in-Broken-clause-settled c finding found = told_broken c.in-Broken.breach c.args.path.now.items finding (rw c.in-Broken.is at found)

pub returns-in-Meets-clause-settled : goal.returns-in-Meets-clause-settled
returns-in-Meets-clause-settled c finding found =
    subst (λ p. IsChecked checked.Meets p finding) (sym c.clear.ensures.items) (told_meets c.args.path.now.items finding (rw c.in-Meets.is at found))

pub returns-in-Refused-clause-settled : goal.returns-in-Refused-clause-settled
returns-in-Refused-clause-settled c finding found =
    subst (λ p. IsChecked (checked.Refused c.in-Refused.fault) p finding) (sym c.clear-in-Refused.ensures.items) (told_refused c.in-Refused.fault c.args.path.now.items finding (rw c.in-Refused.is at found))

pub returns-in-Unread-clause-settled : goal.returns-in-Unread-clause-settled
returns-in-Unread-clause-settled c finding found =
    subst (λ p. IsChecked (checked.Unread c.in-Unread.fault) p finding) (sym c.clear-in-Unread.ensures.items) (told_unread c.in-Unread.fault c.args.path.now.items finding (rw c.in-Unread.is at found))
