use Rattle.std.proofs.Common.{ap, sym, ◌∙◌, ◌+◌, ◌/◌, List, length}
use Rattle.std.specs.Prelude.{slice_get}
use Rattle.idl_consts.specs.declared.follow.Frame.{Frame}
use Rattle.idl_consts.specs.Meant.{meant_at}
use Rattle.idl_consts.proofs.Halves.{outer_is_half, top_is_half}
use Rattle.idl_consts.proofs.Trailing.{among_at, among_last}
use Rattle.idl_consts.proofs.follow.comes_again.Goals as goal

pub returns-in-Some-clause-among : goal.returns-in-Some-clause-among
returns-in-Some-clause-among c = λ yes d.
    let trail = c.args.trail.now in
    let half = (c.len.result + 1) / 2 in
    among_at d c.args.name.constant (meant_at d c.args.name.ty) trail.outer.items trail.top.constant (meant_at d trail.top.ty) half c.in-Some.frame.now
    (ap (λ (fs : List Frame). slice_get fs half) (sym c.as_slice.ensures.value) ∙ sym c.in-Some.ensures) (c.is_of.ensures.constant yes) (c.is_of.ensures.ty yes d)

pub returns-in-None-clause-among : goal.returns-in-None-clause-among
returns-in-None-clause-among c = λ yes d.
    let trail = c.args.trail.now in
    among_last d c.args.name.constant (meant_at d c.args.name.ty) trail.outer.items trail.top.constant (meant_at d trail.top.ty)
    (c.is_of-in-None.ensures.constant yes) (c.is_of-in-None.ensures.ty yes d)

pub returns-in-Some-clause-half : goal.returns-in-Some-clause-half
returns-in-Some-clause-half c = λ halfway.
    let trail = c.args.trail.now in
    let half = (c.len.result + 1) / 2 in
    c.is_of.ensures.same (outer_is_half c.args.name trail c.len.result c.in-Some.frame.now (c.len.ensures ∙ sym c.as_slice.ensures.len ∙ ap length c.as_slice.ensures.value)
    (ap (λ (fs : List Frame). slice_get fs half) (sym c.as_slice.ensures.value) ∙ sym c.in-Some.ensures) halfway)

pub returns-in-None-clause-half : goal.returns-in-None-clause-half
returns-in-None-clause-half c = λ halfway.
    let trail = c.args.trail.now in
    let half = (c.len.result + 1) / 2 in
    c.is_of-in-None.ensures.same (top_is_half c.args.name trail c.len.result (c.len.ensures ∙ sym c.as_slice.ensures.len ∙ ap length c.as_slice.ensures.value)
    (ap (λ (fs : List Frame). slice_get fs half) (sym c.as_slice.ensures.value) ∙ sym c.in-None.ensures) halfway)
