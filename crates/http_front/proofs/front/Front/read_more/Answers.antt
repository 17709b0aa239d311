use Rattle.std.proofs.Common.{rules, ◌≡◌, ◌+◌, ◌++◌, ℕ, List, length, take, refl, ap, ◌∙◌, arith}
use Rattle.std.proofs.lemmas.Grind.{common_steps}
use Rattle.gate_io.specs.Tails.{written_over}
use Rattle.gate_io.proofs.Tails.{cut_tail}
use Rattle.gate_io.specs.Buffer.{Buffer}
use Rattle.http_front.specs.Fronts.{Front}
use Rattle.http_front.proofs.Held.{held_more}
use Rattle.gate_hub.specs.Meaning.{Read}
use Rattle.gate_hub.specs.Hubs.{LinkReads}
use Rattle.gate_hub.specs.declared.hub.Side.TheVariants as side
use Rattle.gate_hub.specs.declared.hub.LinkGot.TheVariants as got
use Rattle.http_front.proofs.Clients.{goes_call}
use Rattle.http_front.proofs.Turning.{reads_more}
use Rattle.http_front.proofs.front.Front.read_more.Goals as goal

pub returns-in-Bytes-clause-within : goal.returns-in-Bytes-clause-within
returns-in-Bytes-clause-within g c =
    let long : length c.read-got.new.into ≡ length c.tail.result.now = search rules in
    let held : c.cut.new.self.bytes ≡ c.self.inside.input.bytes ++ take c.in-Bytes.more c.read-got.new.into =
    ap (λ (b : Buffer). b.bytes) c.cut.ensures
    ∙ (ap (λ (n : ℕ). take (n + c.in-Bytes.more) (c.self.inside.input.bytes ++ written_over c.tail.result.now c.read-got.new.into)) (ap (λ (xs : List ℕ). length xs) c.bytes-held.ensures.bytes)
    ∙ cut_tail c.self.inside.input.bytes c.tail.result.now c.read-got.new.into (take c.in-Bytes.more c.read-got.new.into) c.in-Bytes.more long refl) in
    let is = held_more c.args.self.now _ c.self.inside.input.bytes c.cut.new.self.bytes c.read-got.new.into c.in-Bytes.more c.in-Bytes.ensures.within.1 held
    (ap (λ (f : Front). f.input) c.self.view_is) (ap (λ (f : Front). record f { input = c.cut.new.self.bytes }) c.self.view_is) in
    (c.in-Bytes.ensures.within.0, omega (arith, c.in-Bytes.ensures.within.1, long, c.tail.ensures.size), (take c.in-Bytes.more c.read-got.new.into, is.0, is.1))

pub returns-in-Bytes-clause-goes : goal.returns-in-Bytes-clause-goes
returns-in-Bytes-clause-goes g c =
    let long : length c.read-got.new.into ≡ length c.tail.result.now = search rules in
    let held : c.cut.new.self.bytes ≡ c.self.inside.input.bytes ++ take c.in-Bytes.more c.read-got.new.into =
    ap (λ (b : Buffer). b.bytes) c.cut.ensures
    ∙ (ap (λ (n : ℕ). take (n + c.in-Bytes.more) (c.self.inside.input.bytes ++ written_over c.tail.result.now c.read-got.new.into)) (ap (λ (xs : List ℕ). length xs) c.bytes-held.ensures.bytes)
    ∙ cut_tail c.self.inside.input.bytes c.tail.result.now c.read-got.new.into (take c.in-Bytes.more c.read-got.new.into) c.in-Bytes.more long refl) in
    let is = held_more c.args.self.now _ c.self.inside.input.bytes c.cut.new.self.bytes c.read-got.new.into c.in-Bytes.more c.in-Bytes.ensures.within.1 held
    (ap (λ (f : Front). f.input) c.self.view_is) (ap (λ (f : Front). record f { input = c.cut.new.self.bytes }) c.self.view_is) in
    goes_call (g.H.Hub.tells c.args.inner.now) (g.H.Hub.tells c.read-got.new.self) c.args.k (Read c.args.k side.Client (length c.tail.result.now) (got.Bytes c.in-Bytes.more)) (LinkReads c.read-got.new.into (got.Bytes c.in-Bytes.more)) _
    (reads_more (got.Bytes c.in-Bytes.more) c.args.self.now _ c.read-got.new.into (omega (arith, c.requires.some, c.requires.few)) is.1) c.in-Bytes.ensures.leads

pub invariant_of-self : goal.invariant_of-self
invariant_of-self g c = grind (arith, common_steps)

pub returns-in-NotReady : goal.returns-in-NotReady
returns-in-NotReady g c = grind (arith, common_steps)

pub cut-requires : goal.cut-requires
cut-requires g c = grind (arith, common_steps)

pub cut-requires-in-NotReady : goal.cut-requires-in-NotReady
cut-requires-in-NotReady g c = grind (arith, common_steps)

pub invariant_of-self-in-NotReady : goal.invariant_of-self-in-NotReady
invariant_of-self-in-NotReady g c = grind (arith, common_steps)
