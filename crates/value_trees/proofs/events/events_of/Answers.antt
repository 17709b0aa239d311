use Rattle.std.proofs.Common.{subst}
use Rattle.value_trees.specs.Telling.{AreRests}
use Rattle.value_trees.proofs.Told.{rests-popped, left-falls, told-kept}
use Rattle.value_trees.proofs.events.events_of.Goals as goal

pub tell-requires-clause-rest : goal.tell-requires-clause-rest
tell-requires-clause-rest c = (rests-popped _ _ (subst AreRests c.in-Some.ensures.items c.loop-rest.invariant.rests)).1

pub tell-requires-clause-rests : goal.tell-requires-clause-rests
tell-requires-clause-rests c = (rests-popped _ _ (subst AreRests c.in-Some.ensures.items c.loop-rest.invariant.rests)).0

pub loop-rest-smaller : goal.loop-rest-smaller
loop-rest-smaller c = left-falls c.tell.new.self.told.items c.loop-rest.telling.told.items c.tell.new.self.waiting.items _ _ _ c.in-Some.ensures.items c.in_ok-tell.ensures.told c.in_ok-tell.ensures.more

pub loop-rest-preserved : goal.loop-rest-preserved
loop-rest-preserved c = record {
  whole = told-kept c.tell.new.self.told.items c.loop-rest.telling.told.items c.tell.new.self.waiting.items _ _ _ _ c.in-Some.ensures.items c.in_ok-tell.ensures.told c.loop-rest.invariant.whole;
  rests = c.in_ok-tell.ensures.rests;
}
