use Rattle.std.proofs.Common.{◌∙◌, ap, sym, refl}
use Rattle.idl_consts.specs.Meant.{Meant, mapping, sequence, meant_at, meant_by}
use Rattle.idl_consts.proofs.same.same_shape.Goals as goal

pub returns-then-same_ref : goal.returns-then-same_ref
returns-then-same_ref c = λ yes d.
    let m = c.in-Map-Map in
    ap (meant_by d) m.is-0 ∙ ap (λ (x : Meant). mapping x (meant_at d m.value)) (c.if-same_ref.ensures.meant refl d)
    ∙ ap (λ (y : Meant). mapping (meant_at d m.other_key) y) (c.same_ref-then-same_ref.ensures.meant yes d) ∙ sym (ap (meant_by d) m.is-1)

pub returns-in-Sequence-Sequence : goal.returns-in-Sequence-Sequence
returns-in-Sequence-Sequence c = λ yes d.
    ap (meant_by d) c.in-Sequence-Sequence.is-0 ∙ ap sequence (c.same_ref-in-Sequence-Sequence.ensures.meant yes d) ∙ sym (ap (meant_by d) c.in-Sequence-Sequence.is-1)
