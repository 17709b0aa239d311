use Rattle.std.proofs.Common.{◌∙◌, ap, sym, subst, List, ℕ}
use Rattle.type_tables.specs.declared.roots.Root.{Root}
use Rattle.type_tables.specs.Names.{value_of}
use Rattle.type_tables.specs.RootCount.{root_with, IsRoot}
use Rattle.type_tables.proofs.Rooted.{absent, root_pushed}
use Rattle.type_tables.proofs.roots.ServiceNames.push.Goals as goal

pub push-requires : goal.push-requires
push-requires c = absent c.args.name c.self.inside.table (ap (value_of c.args.name) c.self.view_is ∙ c.requires)

pub invariant_of-self-2 : goal.invariant_of-self-2
invariant_of-self-2 c =
    let counted = c.root_with-root.ensures ∙ ap (λ (n : List ℕ). root_with c.self.inside.root n c.args.service) c.as_slice.ensures in
    subst (λ (r : Root). IsRoot r c.push.new.self) (sym counted)
    (root_pushed c.self.inside.table c.push.new.self c.args.name c.args.service c.self.inside.root c.self.invariant c.in_ok-push.ensures.ok)
