use Rattle.std.proofs.Common.{◌≡◌, ◌≤◌, [], ◌∷◌, ◌++◌, List, ℕ, ap, ◌∙◌, sym, subst}
use Rattle.gate_io.specs.Buffer.{Buffer}
use Rattle.framed_transport.specs.Held.{Held}
use Rattle.line_transport.specs.Lines.{ended, line_length}
use Rattle.line_transport.proofs.Searching.{searched_on}
use Rattle.line_transport.proofs.lines.LineBuf.end.Goals as goal

pub invariant_of-self : goal.invariant_of-self
invariant_of-self c = (
  ap (λ (b : Buffer). b.room) c.push_byte.ensures ∙ c.self.invariant.0,
  c.self.invariant.1,
  subst (λ (l : List ℕ). c.self.inside.searched ≤ line_length l) (sym (ap (λ (b : Buffer). b.bytes) c.push_byte.ensures))
      (searched_on c.self.inside.searched c.self.inside.bytes.bytes (10 ∷ []) c.self.invariant.2),
)

pub returns : goal.returns
unfolding ended
returns c =
    let held : c.self.inside.bytes.bytes ≡ c.args.self.now.held = ap (λ (h : Held). h.held) c.self.view_is in
    let limit : c.self.inside.limit ≡ c.args.self.now.limit = ap (λ (h : Held). h.limit) c.self.view_is in
    let now : c.push_byte.new.self.bytes ≡ c.self.inside.bytes.bytes ++ 10 ∷ [] = ap (λ (b : Buffer). b.bytes) c.push_byte.ensures in
    cc (now, held, limit)
