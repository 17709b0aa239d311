use Rattle.std.proofs.Common.{◌∷◌, ◌++◌, [], List, ℕ, length, length-append, arith, ap, sym, ◌∙◌, refl, subst}
use Rattle.idl_document.specs.Trees.{document_tree}
use Rattle.idl_names.specs.Files.{file_trees}
use Rattle.idl_files.specs.Answers.{Gives}
use Rattle.idl_files.specs.Listing.{fresh}
use Rattle.idl_files.specs.Walk.{loaded, Walked}
use Rattle.idl_files.proofs.Walking.{refuses, full, read_ok, read_err, included_more, below_push, counted, definitions_length, extends_twice, longer, trees_length, opened_extends, opened_grows}
use Rattle.idl_files.proofs.walk.+walk.Goals as goal

pub include_all-loop-mention-preserved : goal.include_all-loop-mention-preserved
include_all-loop-mention-preserved g t c =
    let i = c.loop-mention.invariant in
    record {
      same = c.in-Ok.ensures.same ∙ i.same;
      later = omega (arith, c.in-Ok.ensures.later, i.later);
      steady = c.in-Ok.ensures.cause ∙ i.steady;
      exact = λ holds e. included_more (loaded holds c.args.levels) c.args.file.now c.args.mentions.now c.loop-mention.mention-index c.mention-item.result (omega arith) c.mention-item.is
          (file_trees c.loop-mention.list) (file_trees c.include.new.list) c.loop-mention.places c.push.new.self c.in-Ok.place _ (c.in-Ok.ensures.exact holds (i.same ∙ e)) c.in_ok-push-in-Ok.ensures.ok (i.exact holds e);
      extends = extends_twice (file_trees c.args.list.now) (file_trees c.loop-mention.list) (file_trees c.include.new.list) i.extends c.in-Ok.ensures.extends;
      count = omega (arith, ap length c.in_ok-push-in-Ok.ensures.ok, length-append c.loop-mention.places (c.in-Ok.place ∷ []), i.count);
      below = below_push (length (file_trees c.loop-mention.list)) (length (file_trees c.include.new.list)) c.loop-mention.places c.push.new.self c.in-Ok.place c.in_ok-push-in-Ok.ensures.ok
          (longer (file_trees c.loop-mention.list) (file_trees c.include.new.list) c.in-Ok.ensures.extends) i.below
          (omega (arith, c.in-Ok.ensures.below, trees_length c.include.new.list));
    }

pub load-returns-then-is_full-clause-exact : goal.load-returns-then-is_full-clause-exact
load-returns-then-is_full-clause-exact g t c = λ holds e.
    refuses (λ (u : Unit {0}). file_trees c.args.list.now) c.refused.result _ _ c.refused.ensures (full holds c.args.levels (file_trees c.args.list.now) c.args.file.now c.args.at c.args.name.now (sym c.is_full.ensures.full ∙ c.if-is_full.true))

pub load-returns-in-Ok-clause-exact : goal.load-returns-in-Ok-clause-exact
load-returns-in-Ok-clause-exact g t c = λ holds e.
    let read = read_ok holds c.args.levels (file_trees c.args.list.now) c.args.file.now c.args.at c.args.name.now (document_tree c.in-Ok.document) _ (sym c.is_full.ensures.full ∙ c.if-is_full.false) (c.in-Ok.ensures.exact holds e) refl in
    subst (λ (w : Walked). Gives (λ (u : Unit {0}). file_trees c.open.new.list) c.open.result w) (sym read) (c.open.ensures.exact holds (c.in-Ok.ensures.same ∙ e))

pub load-returns-in-Err-clause-exact : goal.load-returns-in-Err-clause-exact
load-returns-in-Err-clause-exact g t c = λ holds e.
    read_err holds document_tree (λ (u : Unit {0}). file_trees c.args.list.now) c.args.levels (file_trees c.args.list.now) c.args.file.now c.args.at c.args.name.now c.in-Err.error (sym c.is_full.ensures.full ∙ c.if-is_full.false) (c.in-Err.ensures.exact holds e)

pub open-returns-clause-extends : goal.open-returns-clause-extends
open-returns-clause-extends g t c =
    let all = c.in_ok-includes.ensures.all in
    opened_extends (file_trees c.args.list.now) (file_trees c.push.new.self) (file_trees c.include_all.new.list) (file_trees c.set_includes.new.self) c.args.name.now (document_tree c.args.document) c.len-place.result c.in_ok-includes.includes
    (c.in_ok-push.ensures.ok ∙ ap (λ (name : List ℕ). file_trees c.args.list.now ++ fresh name (document_tree c.args.document) ∷ []) c.in_ok-new.ensures) c.in_ok-includes.ensures.extends c.set_includes.ensures
    (c.len-place.ensures.len ∙ sym (trees_length c.args.list.now))
    (counted c.args.name.now c.args.document.includes c.as_slice.result.now c.in_ok-mentions.mentions.items c.deref.result.now c.in_ok-includes.includes all.0 c.deref.ensures.value c.in_ok-mentions.ensures c.as_slice.ensures) all.1
    (omega (arith, c.requires.few, definitions_length c.args.document.definitions))

pub open-returns-clause-grows : goal.open-returns-clause-grows
open-returns-clause-grows g t c =
    let h = opened_grows (file_trees c.args.list.now) (file_trees c.push.new.self) (file_trees c.include_all.new.list) (file_trees c.set_includes.new.self) c.args.name.now (document_tree c.args.document) c.len-place.result c.in_ok-includes.includes
    (c.in_ok-push.ensures.ok ∙ ap (λ (name : List ℕ). file_trees c.args.list.now ++ fresh name (document_tree c.args.document) ∷ []) c.in_ok-new.ensures) c.in_ok-includes.ensures.extends c.set_includes.ensures
    (c.len-place.ensures.len ∙ sym (trees_length c.args.list.now)) in
    omega (arith, h, trees_length c.args.list.now, trees_length c.set_includes.new.self)
