use Rattle.std.proofs.Common.{ℕ, List, length, take, ap, sym, ◌∙◌, arith}
use Rattle.http_front.specs.Heads.{head_limit}
use Rattle.http_front.specs.Looking.{looked}
use Rattle.http_front.specs.declared.look.Look.TheVariants as look
use Rattle.http_front.proofs.Looks.{look_end}
use Rattle.http_front.proofs.Heads.{take_min}
use Rattle.http_front.proofs.front.Front.head.Goals as goal

pub find_head-requires-clause-look : goal.find_head-requires-clause-look
find_head-requires-clause-look c =
    let sound = c.self.invariant.1 in
    look_end c.bytes-bytes.result.now c.self.inside.seen c.min-end.result c.self.inside.look c.look_on-self-inside.result
    (sound.look ∙ ap (λ (xs : List ℕ). looked look.Before (take c.self.inside.seen xs)) (sym c.bytes-bytes.ensures.bytes)) c.look_on-self-inside.ensures
    (omega (arith, sound.seen, sound.short, c.min-end.ensures, ap (λ (xs : List ℕ). length xs) c.bytes-bytes.ensures.bytes))
    ∙ ap (λ (xs : List ℕ). looked look.Before xs) (take_min c.bytes-bytes.result.now head_limit c.min-end.result c.min-end.ensures)

pub invariant_of-self : goal.invariant_of-self
invariant_of-self c =
    let sound = c.self.invariant.1 in (
      c.self.invariant.0,
      record {
        limit = sound.limit;
        stage = sound.stage;
        seen = omega (arith, c.min-end.ensures, ap (λ (xs : List ℕ). length xs) c.bytes-bytes.ensures.bytes);
        short = omega (arith, c.min-end.ensures);
        look = look_end c.bytes-bytes.result.now c.self.inside.seen c.min-end.result c.self.inside.look c.look_on-self-inside.result
            (sound.look ∙ ap (λ (xs : List ℕ). looked look.Before (take c.self.inside.seen xs)) (sym c.bytes-bytes.ensures.bytes)) c.look_on-self-inside.ensures
            (omega (arith, sound.seen, sound.short, c.min-end.ensures, ap (λ (xs : List ℕ). length xs) c.bytes-bytes.ensures.bytes))
            ∙ ap (λ (xs : List ℕ). looked look.Before (take c.min-end.result xs)) c.bytes-bytes.ensures.bytes;
      },
    )
