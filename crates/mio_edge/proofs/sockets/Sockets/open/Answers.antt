use Rattle.std.proofs.Common.{true≢false, refl, sym, ◌∙◌, subst, arith, ap, length, ◌≡◌, ◌++◌, Ok}
use Rattle.mio_edge.specs.Tables.{TableTells, empty_world}
use Rattle.mio_edge.proofs.Advancing.{failed_begins, failed_unfound, not_answered}
use Rattle.mio_edge.proofs.Numbered.{all_below}
use Rattle.mio_edge.specs.Numbered.{AreBelow}
use Rattle.gate_hub.specs.declared.hub.Began.TheVariants as began
use Rattle.std.specs.Vec.{vec_len}
use Rattle.mio_edge.specs.Targets.{LeadTo}
use Rattle.mio_edge.proofs.Leading.{leads_many}
use Rattle.mio_edge.specs.Stepping.{AreStepped}
use Rattle.mio_edge.proofs.sockets.Sockets.open.Goals as goal
use Rattle.std.proofs.lemmas.Grind.{common_steps}

pub returns-clause-begins : goal.returns-clause-begins
returns-clause-begins g c = λ done world told. (
  empty_world,
  record {
    is_telling = told.is_telling;
    at_once = told.at_once;
    sessions = (c.new.ensures.connecting ∙ told.at_once, subst (λ table. TableTells g.W.Stream.Stream.tells table empty_world) (sym c.new.ensures.table) c.in_ok-table.ensures.empty);
    below = λ k some. absurd (true≢false (sym some));
    stepped = subst (λ table. AreStepped table.sessions) (sym c.new.ensures.table) (λ place session is. absurd (omega (arith, c.in_ok-table.ensures.below place session is)));
  },
  refl,
)

pub invariant_of-self : goal.invariant_of-self
invariant_of-self g c =
    let next = c.args.self.now.serving.announced in
    record { numbered = all_below next c.new.result (subst (λ table. AreBelow next table.sessions) (sym c.new.ensures.table) (λ place session is. absurd (omega (arith, c.in_ok-table.ensures.below place session is)))) }

pub returns-clause-leads : goal.returns-clause-leads
returns-clause-leads g c = λ done.
    let is : c.in_ok-found.found ≡ began.Done = c.in-Done.is in
    let adds = c.in_ok-found.ensures.finds (ap (λ found. Ok found) is) in
    let all : c.find_targets.new.targets.items ≡ adds.0 = adds.1 ∙ ap (λ xs. xs ++ adds.0) c.in_ok-targets.ensures.items in
    let lead = subst (λ xs. LeadTo g.W.Network.names c.args.upstreams.now xs) (sym all) adds.2 in
    let many = leads_many g.W.Network.names c.args.upstreams.now c.find_targets.new.targets.items lead in
    let long : vec_len c.find_targets.new.targets ≡ length c.find_targets.new.targets.items = omega (arith, c.find_targets.new.targets.ok.0) in
    let settings = ap (λ table. table.settings.width) c.new.ensures.table ∙ c.in_ok-table.ensures.width in
    record {
      targets = subst (λ targets. LeadTo g.W.Network.names c.args.upstreams.now targets.items) (sym c.new.ensures.targets) lead;
      width = λ few. omega (arith, few, many, long, settings, c.saturating_add-width.ensures, c.len.ensures);
    }

pub returns-clause-listens : goal.returns-clause-listens
returns-clause-listens g c = λ done.
    let is : c.without_place-began.result ≡ began.Done = c.in-Done-began.is in
    (c.in-Some.address, c.in-Some.ensures.address, c.listen.ensures (c.without_place-began.ensures.done is))

pub returns-in_default : goal.returns-in_default
returns-in_default g c =
    let off = not_answered (Ok began.Failed) began.Failed began.Done refl failed_begins in record {
      begins = λ is. absurd (off is);
      keeps = λ other world told. told;
      announced = refl;
      accept = refl;
      faults = refl;
      place = λ at is. absurd (not_answered (Ok began.Failed) began.Failed (began.NotFound at) refl (failed_unfound at) is);
      leads = λ is. absurd (off is);
      listens = λ is. absurd (off is);
    }

pub returns-in_default-found : goal.returns-in_default-found
returns-in_default-found g c =
    let found = c.in_ok-found.found in
    let off = not_answered (Ok found) found began.Done refl c.in_default-found.not-Done in record {
      begins = λ is. absurd (off is);
      keeps = λ other world told. record { is_telling = told.is_telling; at_once = told.at_once; sessions = told.sessions; below = told.below; stepped = told.stepped };
      announced = refl;
      accept = refl;
      faults = refl;
      place = c.in_ok-found.ensures.place;
      leads = λ is. absurd (off is);
      listens = λ is. absurd (off is);
    }

pub returns-in_default-began : goal.returns-in_default-began
returns-in_default-began g c =
    let answer = c.without_place-began.result in
    let off = not_answered (Ok answer) answer began.Done refl c.in_default-began.not-Done in record {
      begins = λ is. absurd (off is);
      keeps = λ other world told. record { is_telling = told.is_telling; at_once = told.at_once; sessions = told.sessions; below = told.below; stepped = told.stepped };
      announced = refl;
      accept = refl;
      faults = refl;
      place = λ at is. absurd (not_answered (Ok answer) answer (began.NotFound at) refl (c.without_place-began.ensures.none at) is);
      leads = λ is. absurd (off is);
      listens = λ is. absurd (off is);
    }

pub returns-clause-keeps : goal.returns-clause-keeps
returns-clause-keeps g c = grind (arith, common_steps)

pub returns-clause-place : goal.returns-clause-place
returns-clause-place g c = grind (arith, common_steps)
