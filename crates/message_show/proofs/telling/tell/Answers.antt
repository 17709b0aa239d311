use Rattle.std.proofs.Common.{◌≡◌, ℕ, List, [], ◌∷◌, ◌++◌, Ok, refl, ap, sym, subst, ◌∙◌}
use Rattle.std.proofs.lemmas.List.{append-nil}
use Rattle.protocol_traits.specs.Heads.{header_of}
use Rattle.protocol_traits.specs.Steps.{step_ok, step_err}
use Rattle.type_walk.specs.Positions.{Position, start}
use Rattle.translate_verdicts.specs.Body.{source_in}
use Rattle.translate_verdicts.specs.Routes.{start_of}
use Rattle.translate_verdicts.specs.declared.route.Route.TheVariants.{ByName}
use Rattle.message_show.specs.Line.{head_text, line_end}
use Rattle.message_show.specs.Pieces.{Told, output}
use Rattle.message_show.specs.Shown.{after_body, body_from, IsChecked}
use Rattle.message_show.proofs.Frames.{shown_ok, shown_err}
use Rattle.message_show.proofs.Told.{tells_behind}
use Rattle.message_show.proofs.Ends.{line_told, line_of_text}
use Rattle.message_show.proofs.telling.tell.Goals as goal

ended : (bytes : List ℕ) → (bytes ++ []) ++ (10 ∷ []) ≡ bytes ++ line_end
unfolding line_end
ended bytes = rw (append-nil bytes) refl

pub returns-in-Err-clause-found : goal.returns-in-Err-clause-found
returns-in-Err-clause-found g c =
    let source = source_in g.R.ReadRules in
    let first = start_of c.args.schema.now (ByName c.args.service) in
    let e = rw c.over-reader.ensures at (step_err (g.R.ReadRules.reads_head c.over-reader.result) c.in-Err.fault c.in-Err.ensures.answer) in
    rw (shown_err source first c.args.frame.now c.in-Err.fault e) refl

pub returns-in-Err-clause-told : goal.returns-in-Err-clause-told
returns-in-Err-clause-told g c from text is h =
    let source = source_in g.R.ReadRules in
    let first = start_of c.args.schema.now (ByName c.args.service) in
    let e = rw c.over-reader.ensures at (step_err (g.R.ReadRules.reads_head c.over-reader.result) c.in-Err.fault c.in-Err.ensures.answer) in
    absurd (cc (is, shown_err source first c.args.frame.now c.in-Err.fault e))

pub returns-clause-found : goal.returns-clause-found
unfolding start_of
returns-clause-found g c =
    let source = source_in g.R.ReadRules in
    let first = start_of c.args.schema.now (ByName c.args.service) in
    let new = c.head.follows.lender-at-none in
    let header = header_of c.in-Ok.head in
    let e = rw c.over-reader.ensures at (step_ok (g.R.ReadRules.reads_head c.over-reader.result) header new c.in-Ok.ensures.answer c.head.follows.holds-at-none) in
    let begins : start c.args.schema.now c.body_struct-body.result ≡ first header = ap (start c.args.schema.now) c.body_struct-body.ensures.value in
    rw (shown_ok source first c.args.frame.now header new e)
    (subst (λ (p : Position). IsChecked c.tell_body-line.result.1 (after_body source (body_from source new p (head_text header)))) begins (c.tell_body-line.ensures.found (head_text header)))

pub returns-clause-told : goal.returns-clause-told
unfolding start_of
returns-clause-told g c from text is h =
    let source = source_in g.R.ReadRules in
    let first = start_of c.args.schema.now (ByName c.args.service) in
    let new = c.head.follows.lender-at-none in
    let header = header_of c.in-Ok.head in
    let e = rw c.over-reader.ensures at (step_ok (g.R.ReadRules.reads_head c.over-reader.result) header new c.in-Ok.ensures.answer c.head.follows.holds-at-none) in
    let begins : start c.args.schema.now c.body_struct-body.result ≡ first header = ap (start c.args.schema.now) c.body_struct-body.ensures.value in
    let sink = g.O.Sink in
    let now = output (sink.written c.make_room.new.out) (sink.faults c.make_room.new.out) in
    let line = c.push.result in
    let told = line_told source first c.args.frame.now header new from now line e (rw is tt)
    (λ end whole.
    let body = c.tell_body-line.ensures.told from (head_text header) end (subst (λ (p : Position). body_from source new p (head_text header) ≡ Ok end) (sym begins) whole) (c.tell_head.ensures from [] h) in
    let roomy = c.make_room.ensures.told from end.bytes body in
    let closed = tells_behind now c.make_room.result (10 ∷ []) from (end.bytes ++ []) roomy in
    let pushed : Told from now line ((end.bytes ++ []) ++ (10 ∷ [])) = rw c.push.ensures closed in
    subst (Told from now line) (ended end.bytes) pushed) in
    subst (Told from now line) (line_of_text told.0 text (sym told.1 ∙ is)) told.2
