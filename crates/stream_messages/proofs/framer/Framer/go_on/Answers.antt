use Rattle.std.proofs.Common.{◌∙◌, ap, sym, subst}
use Rattle.stream_messages.specs.Framing.{FramerState, Stands}
use Rattle.stream_messages.proofs.Framing.{mark_behind}
use Rattle.stream_messages.proofs.framer.Framer.go_on.Goals.{in-Messages, in-Mark, in-Nothing}
use Rattle.stream_messages.proofs.framer.Framer.go_on.Goals as goal

pub returns-clause-stands : goal.returns-clause-stands
returns-clause-stands c = λ wire limit received given ended stands.
    elim c.match-self.branch [
      | in-Messages w ↦ subst (λ (s : FramerState). Stands wire limit s received ended given) (sym w.self-is) (w.find.ensures.stands wire limit received given ended stands)
      | in-Mark w ↦
          subst (λ (s : FramerState). Stands wire limit s received ended given) (sym w.self-is)
          (mark_behind wire limit c.args.self.now w.give_mark.new.self received given ended c.requires (sym (ap (λ (s : FramerState). s.behind) c.self.view_is) ∙ w.in-Mark.is) w.give_mark.ensures stands)
      | in-Nothing w ↦ subst (λ (s : FramerState). Stands wire limit s received ended given) (sym w.self-is) stands
    ]
