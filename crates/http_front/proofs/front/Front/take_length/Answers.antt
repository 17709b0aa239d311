use Rattle.std.proofs.Common.{rules, ◌≡◌, ◌+◌, ◌<◌, ℕ, length, get_or, sym, ap, ◌∙◌, subst, arith}
use Rattle.http_front.specs.Fronts.{Front, IsWithin}
use Rattle.http_front.specs.declared.stage.Stage.{Stage}
use Rattle.http_front.proofs.Turning.{writes_length, within_length}
use Rattle.http_front.proofs.front.Front.take_length.Goals as goal

pub invariant_of-self : goal.invariant_of-self
invariant_of-self c =
    let sound = c.self.invariant.1 in
    let long : length c.with_more-so_far.result ≡ 4 = search rules in (
      c.self.invariant.0,
      record {
        limit = sound.limit;
        stage = subst (λ (s : Stage). IsWithin c.self.inside.limit s) (sym c.behind_length-self-inside.ensures) (within_length c.self.inside.limit c.with_more-so_far.result (c.args.have + c.min-more.result) c.args.last long);
        seen = sound.seen;
        short = sound.short;
        look = sound.look;
      },
    )

pub returns-clause-writes : goal.returns-clause-writes
returns-clause-writes c =
    let now = c.args.self.now in
    let bytes = c.with_more-so_far.result in
    let long : length bytes ≡ 4 = search rules in
    let small : (i : ℕ) → get_or bytes i 0 < 256 = search rules in
    writes_length now _ c.args.so_far bytes c.args.from.now c.args.have c.min-more.result c.args.last c.requires.at (omega (arith, c.requires.bounds, c.min-more.ensures)) long small c.with_more-so_far.ensures
    (ap (λ (f : Front). record f { stage = c.behind_length-self-inside.result }) c.self.view_is ∙ ap (λ (s : Stage). record now { stage = s }) c.behind_length-self-inside.ensures)
