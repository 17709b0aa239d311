use Rattle.std.proofs.Common.{rules, ◌≡◌, List, ℕ, ◌++◌, length, take, arith, ap, ◌∙◌, sym, subst}
use Rattle.std.proofs.lemmas.Grind.{common_steps}
use Rattle.gate_io.specs.Tails.{written_over}
use Rattle.gate_hub.specs.Meaning.{IsOpen}
use Rattle.gate_hub.specs.Hubs.{Leads, ReadLeads}
use Rattle.stream_messages.proofs.Due.{filled}
use Rattle.stream_messages.proofs.framer.fill.Goals as goal

pub returns-clause-read : goal.returns-clause-read
returns-clause-read g c =
    let before = c.tail.result.now in
    let into = c.read-got.new.into in
    let same : length into ≡ length before = search rules in (
      into,
      filled c.args.bytes.now c.cut.new.self before into c.read-got.result same c.read-got.ensures.within
          (c.cut.ensures
          ∙ ap (λ (l : List ℕ). record { bytes = l; room = c.args.bytes.now.room }) (ap (λ k. take k (c.args.bytes.now.bytes ++ written_over before into)) (omega (arith, c.count_of.ensures, ap (λ (l : List ℕ). length l) c.bytes-held.ensures.bytes)))),
      subst (λ size. Leads (g.H.Hub.tells c.args.hub.now) (g.H.Hub.tells c.read-got.new.self) (IsOpen c.args.k) (ReadLeads c.args.k c.args.side size into c.read-got.result)) (sym same) c.read-got.ensures.leads,
    )

pub cut-requires : goal.cut-requires
cut-requires g c = grind (arith, common_steps)

pub returns-clause-within : goal.returns-clause-within
returns-clause-within g c = grind (arith, common_steps)
