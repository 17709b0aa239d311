use Rattle.std.proofs.Common.{◌≡◌, ◌+◌, ◌≤◌, true, [], ℕ, length, arith, refl, sym, ◌∙◌, subst}
use Rattle.std.proofs.lemmas.Grind.{common_steps}
use Rattle.framed_transport.specs.Held.{Held}
use Rattle.line_transport.specs.Cuts.{Spans}
use Rattle.line_transport.specs.Front.{behind, line_front, is_blank_front}
use Rattle.line_transport.specs.declared.transport.Transport.TheVariants.{Lines}
use Rattle.line_transport.proofs.Spanning.{spans_more, blank_gone}
use Rattle.line_transport.proofs.lines.LineBuf.pass_over.Goals as goal

record Step (a b : Held) : Type 0 where
  limit : b.limit ≡ a.limit
  spans : Spans Lines a.limit a.held [] b.held
  fewer : length b.held + 1 ≤ length a.held

-- a blank line was let go
step : (a mid b : Held) → mid ≡ a → is_blank_front (line_front a.limit a.held) ≡ true → b ≡ record mid { held = behind mid.held (line_front mid.limit mid.held) } → Step a b
step a mid b same blank e =
    let is : b ≡ record a { held = behind a.held (line_front a.limit a.held) } = subst (λ (m : Held). b ≡ record m { held = behind m.held (line_front m.limit m.held) }) same e in
    let gone = blank_gone a.limit a.held blank in
    subst (λ (x : Held). Step a x) (sym is) (record { limit = refl; spans = gone.0; fewer = gone.1 })

pub lines-smaller : goal.lines-smaller
lines-smaller c = (let s = step c.lines.self c.finds_blank.new.self c.drop_line.new.self c.finds_blank.ensures.same (sym c.finds_blank.ensures.found ∙ c.lines-test.true) c.drop_line.ensures in omega (arith, s.fewer))

pub lines-preserved : goal.lines-preserved
lines-preserved c =
    let s = step c.lines.self c.finds_blank.new.self c.drop_line.new.self c.finds_blank.ensures.same (sym c.finds_blank.ensures.found ∙ c.lines-test.true) c.drop_line.ensures in
    record {
      limit = s.limit ∙ c.lines.invariant.limit;
      spans = spans_more c.args.self.now.limit c.args.self.now.held c.lines.self.held c.drop_line.new.self.held c.lines.invariant.spans
          (subst (λ (n : ℕ). Spans Lines n c.lines.self.held [] c.drop_line.new.self.held) c.lines.invariant.limit s.spans);
    }

pub returns : goal.returns
returns c = grind (arith, common_steps)
