use Rattle.std.proofs.Common.{◌≡◌, ◌∙◌, ◌-◌, arith, rules, length-drop, length, take, drop, ℕ}
use Rattle.std.proofs.lemmas.List.{length-take-le}
use Rattle.std.proofs.lemmas.Str.{utf8_valid_len-IsUtf8}
use Rattle.std.proofs.lemmas.Grind.{common_steps}
use Rattle.json_text.proofs.text.judge_run.Goals as goal

pub returns-in-Ok : goal.returns-in-Ok
returns-in-Ok c =
    let run = take (c.args.stop - c.args.from) (drop c.args.from c.args.bytes.now) in
    let long : length run ≡ c.args.stop - c.args.from = length-take-le (c.args.stop - c.args.from) (drop c.args.from c.args.bytes.now) (omega (arith, length-drop {A = ℕ})) in
    utf8_valid_len-IsUtf8 run c.in-Ok.ensures.cases.1 ∙ long

pub returns-then-is_utf8 : goal.returns-then-is_utf8
returns-then-is_utf8 c =
    let run = take (c.args.stop - c.args.from) (drop c.args.from c.args.bytes.now) in
    let long : length run ≡ c.args.stop - c.args.from = length-take-le (c.args.stop - c.args.from) (drop c.args.from c.args.bytes.now) (omega (arith, length-drop {A = ℕ})) in
    utf8_valid_len-IsUtf8 run (c.is_utf8.ensures.0 (search rules)) ∙ long

pub returns-in-Err : goal.returns-in-Err
returns-in-Err c = grind (arith, common_steps)

pub returns-in-Err-2 : goal.returns-in-Err-2
returns-in-Err-2 c = grind (arith, common_steps)
