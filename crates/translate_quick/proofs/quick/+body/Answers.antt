use Rattle.std.proofs.Common.{◌≡◌, ◌+◌, ◌-◌, ◌<◌, ℕ, ℤ, pos, List, ◌∷◌, Some, arith, refl, rules, subst, sym, ◌∙◌, ◌⊎◌, inl, inr, SFits, to_z, w16}
use Rattle.std.proofs.lemmas.Int.{to_z-of_z}
use Rattle.thrift_value.specs.declared.kind.Kind.TheVariants as kinds
use Rattle.thrift_value.specs.Items.{empty_map, end, map_begin, stop, struct_begin}
use Rattle.protocol_traits.specs.declared.forms.Lead.{Lead}
use Rattle.protocol_traits.specs.declared.forms.Lead.TheVariants as leads
use Rattle.protocol_traits.specs.declared.forms.Opening.TheVariants as openings
use Rattle.protocol_traits.specs.declared.nest.Slot.{Slot}
use Rattle.protocol_traits.specs.declared.nest.Slot.TheVariants as slots
use Rattle.protocol_traits.specs.Forms.{container_kind, elements_item}
use Rattle.type_walk.specs.Positions.{Position, called_for, field_type, hint_of, in_map, in_struct, mark_of, passed, standing}
use Rattle.translate_verdicts.specs.Body.{source_in, target_in}
use Rattle.translate_known.specs.declared.reach.Reach.{Reach}
use Rattle.translate_known.specs.Quick.{Spot, Takes, called, in_elements, reached, spot, turned}
use Rattle.translate_known.proofs.Taking.{calls_some, takes_item, takes_none, takes_then}
use Rattle.translate_known.proofs.Levels.{elements_after, elements_done, elements_nest, elements_opening, elements_weight, flat_elements, if_some, key_opening, pairs_some, takes_field, takes_level, turns_map}
use Rattle.translate_quick.proofs.quick.+body.Goals as goal

-- these leads tell a field
struct_is_good : leads.Struct ≡ leads.Bad → ⊥
struct_is_good bad = absurd (cc)

map_is_good : leads.Map ≡ leads.Bad → ⊥
map_is_good bad = absurd (cc)

list_is_good : (lead : Lead) → (lead ≡ leads.Set) ⊎ (lead ≡ leads.List) → lead ≡ leads.Bad → ⊥
list_is_good lead (inl set) bad = let same : leads.Set ≡ leads.Bad = sym set ∙ bad in absurd (cc)
list_is_good lead (inr list) bad = let same : leads.List ≡ leads.Bad = sym list ∙ bad in absurd (cc)

pub take_fields-fields-init : goal.take_fields-fields-init
take_fields-fields-init g t c =
    let source = source_in g.R.ReadRules in
    let target = target_in g.W.WireWrite in
    let d = c.args.schema.now in
    record {
      place = (omega arith, omega arith);
      kept = refl;
      grows = omega arith;
      takes = λ ty up outer means deep. takes_none source target g.R.ReadRules.stands_at g.W.WireWrite.stands_at c.args.frame.now (spot c.args.from c.args.opening (slots.Fields (pos 0) ∷ up) (standing d (in_struct ty ∷ outer))) c.args.cells.now c.args.into.now;
    }

pub take_fields-returns-in-Stop-clause-takes : goal.take_fields-returns-in-Stop-clause-takes
take_fields-returns-in-Stop-clause-takes g t c ty means up outer deep =
    let source = source_in g.R.ReadRules in
    let target = target_in g.W.WireWrite in
    let d = c.args.schema.now in
    let inv = c.fields.invariant in
    let last : ℤ = to_z w16 c.fields.last-bits in
    let nest : List Slot = slots.Fields last ∷ up in
    let p : Position = standing d (in_struct ty ∷ outer) in
    let steps = rw c.in-Stop.is at c.in_ok-lead.ensures.steps in
    takes_then source target g.R.ReadRules.stands_at g.W.WireWrite.stands_at c.args.frame.now
    (spot c.args.from c.args.opening (slots.Fields (pos 0) ∷ up) p) (spot c.fields.at c.fields.opening nest p) (spot c.in_ok-lead.behind openings.Old up (standing d outer))
    c.args.cells.now c.fields.cells c.stop-written.new.cells c.args.into.now c.fields.to c.stop-written.result
    (inv.takes ty up outer means deep)
    (takes_item source target g.R.ReadRules.stands_at g.W.WireWrite.stands_at c.args.frame.now g.R.ReadRules.pays g.met.W.FormWrite.goes_on
    c.fields.at c.in_ok-lead.behind c.fields.opening nest p stop c.fields.cells c.stop-written.new.cells c.fields.to c.stop-written.result (omega arith)
    (steps up (hint_of p) (λ bad. absurd (cc))) (c.stop-written.ensures.spells last up (mark_of p stop) deep))

pub take_fields-fields-preserved-in-Set : goal.take_fields-fields-preserved-in-Set
take_fields-fields-preserved-in-Set g t c =
    let source = source_in g.R.ReadRules in
    let target = target_in g.W.WireWrite in
    let d = c.args.schema.now in
    let inv = c.fields.invariant in
    let last : ℤ = to_z w16 c.fields.last-bits in
    let id_fits : SFits w16 c.in_ok-lead.id = search rules in
    let steps = c.in_ok-lead.ensures.steps in
    let taken = rw (to_z-of_z w16 c.in_ok-lead.id id_fits) at c.in_ok-reach-in-Set.ensures.takes in
    record {
      place = (omega (arith, inv.place, c.in_ok-reach-in-Set.ensures.past), omega (arith, c.in_ok-reach-in-Set.ensures.past));
      kept = c.in_ok-reach-in-Set.ensures.kept ∙ inv.kept;
      grows = omega (arith, inv.grows, c.in_ok-reach-in-Set.ensures.grows);
      takes = λ ty up outer means deep.
          let p : Position = standing d (in_struct ty ∷ outer) in
          rw (to_z-of_z w16 c.in_ok-lead.id id_fits) (takes_then source target g.R.ReadRules.stands_at g.W.WireWrite.stands_at c.args.frame.now
          (spot c.args.from c.args.opening (slots.Fields (pos 0) ∷ up) p) (spot c.fields.at c.fields.opening (slots.Fields last ∷ up) p) (spot c.in_ok-reach-in-Set.reach.read openings.Old (slots.Fields c.in_ok-lead.id ∷ up) p)
          c.args.cells.now c.fields.cells c.take_list_field.new.cells c.args.into.now c.fields.to c.in_ok-reach-in-Set.reach.written
          (inv.takes ty up outer means deep) (taken ty means up outer deep (λ hint. steps up hint (list_is_good c.in_ok-lead.lead c.in-Set.is))));
    }

pub take_fields-fields-preserved : goal.take_fields-fields-preserved
take_fields-fields-preserved g t c =
    let source = source_in g.R.ReadRules in
    let target = target_in g.W.WireWrite in
    let d = c.args.schema.now in
    let inv = c.fields.invariant in
    let last : ℤ = to_z w16 c.fields.last-bits in
    let id_fits : SFits w16 c.in_ok-lead.id = search rules in
    let steps = c.in_ok-lead.ensures.steps in
    let taken = rw (to_z-of_z w16 c.in_ok-lead.id id_fits) at c.in_ok-reach-in_default.ensures.takes in
    record {
      place = (omega (arith, inv.place, c.in_ok-reach-in_default.ensures.past), omega (arith, c.in_ok-reach-in_default.ensures.past));
      kept = c.in_ok-reach-in_default.ensures.kept ∙ inv.kept;
      grows = omega (arith, inv.grows, c.in_ok-reach-in_default.ensures.grows);
      takes = λ ty up outer means deep.
          let p : Position = standing d (in_struct ty ∷ outer) in
          rw (to_z-of_z w16 c.in_ok-lead.id id_fits) (takes_then source target g.R.ReadRules.stands_at g.W.WireWrite.stands_at c.args.frame.now
          (spot c.args.from c.args.opening (slots.Fields (pos 0) ∷ up) p) (spot c.fields.at c.fields.opening (slots.Fields last ∷ up) p) (spot c.in_ok-reach-in_default.reach.read openings.Old (slots.Fields c.in_ok-lead.id ∷ up) p)
          c.args.cells.now c.fields.cells c.take_plain_field.new.cells c.args.into.now c.fields.to c.in_ok-reach-in_default.reach.written
          (inv.takes ty up outer means deep) (taken ty c.args.depth means up outer deep (λ hint. steps up hint c.in_default.not-Bad)));
    }

pub take_fields-fields-preserved-in-Struct : goal.take_fields-fields-preserved-in-Struct
take_fields-fields-preserved-in-Struct g t c =
    let source = source_in g.R.ReadRules in
    let target = target_in g.W.WireWrite in
    let d = c.args.schema.now in
    let inv = c.fields.invariant in
    let last : ℤ = to_z w16 c.fields.last-bits in
    let id_fits : SFits w16 c.in_ok-lead.id = search rules in
    let steps = rw c.in-Struct.is at c.in_ok-lead.ensures.steps in
    let taken = rw (to_z-of_z w16 c.in_ok-lead.id id_fits) at c.in_ok-reach-in-Struct.ensures.takes in
    record {
      place = (omega (arith, inv.place, c.in_ok-reach-in-Struct.ensures.past), omega (arith, c.in_ok-reach-in-Struct.ensures.past));
      kept = c.in_ok-reach-in-Struct.ensures.kept ∙ inv.kept;
      grows = omega (arith, inv.grows, c.in_ok-reach-in-Struct.ensures.grows);
      takes = λ ty up outer means deep.
          let p : Position = standing d (in_struct ty ∷ outer) in
          rw (to_z-of_z w16 c.in_ok-lead.id id_fits) (takes_then source target g.R.ReadRules.stands_at g.W.WireWrite.stands_at c.args.frame.now
          (spot c.args.from c.args.opening (slots.Fields (pos 0) ∷ up) p) (spot c.fields.at c.fields.opening (slots.Fields last ∷ up) p) (spot c.in_ok-reach-in-Struct.reach.read openings.Old (slots.Fields c.in_ok-lead.id ∷ up) p)
          c.args.cells.now c.fields.cells c.take_struct_field.new.cells c.args.into.now c.fields.to c.in_ok-reach-in-Struct.reach.written
          (inv.takes ty up outer means deep) (taken ty means up outer deep (λ hint. steps up hint struct_is_good)));
    }

pub take_fields-fields-preserved-in-Map : goal.take_fields-fields-preserved-in-Map
take_fields-fields-preserved-in-Map g t c =
    let source = source_in g.R.ReadRules in
    let target = target_in g.W.WireWrite in
    let d = c.args.schema.now in
    let inv = c.fields.invariant in
    let last : ℤ = to_z w16 c.fields.last-bits in
    let id_fits : SFits w16 c.in_ok-lead.id = search rules in
    let steps = rw c.in-Map.is at c.in_ok-lead.ensures.steps in
    let taken = rw (to_z-of_z w16 c.in_ok-lead.id id_fits) at c.in_ok-reach-in-Map.ensures.takes in
    record {
      place = (omega (arith, inv.place, c.in_ok-reach-in-Map.ensures.past), omega (arith, c.in_ok-reach-in-Map.ensures.past));
      kept = c.in_ok-reach-in-Map.ensures.kept ∙ inv.kept;
      grows = omega (arith, inv.grows, c.in_ok-reach-in-Map.ensures.grows);
      takes = λ ty up outer means deep.
          let p : Position = standing d (in_struct ty ∷ outer) in
          rw (to_z-of_z w16 c.in_ok-lead.id id_fits) (takes_then source target g.R.ReadRules.stands_at g.W.WireWrite.stands_at c.args.frame.now
          (spot c.args.from c.args.opening (slots.Fields (pos 0) ∷ up) p) (spot c.fields.at c.fields.opening (slots.Fields last ∷ up) p) (spot c.in_ok-reach-in-Map.reach.read openings.Old (slots.Fields c.in_ok-lead.id ∷ up) p)
          c.args.cells.now c.fields.cells c.take_map_field.new.cells c.args.into.now c.fields.to c.in_ok-reach-in-Map.reach.written
          (inv.takes ty up outer means deep) (taken ty means up outer deep (λ hint. steps up hint map_is_good)));
    }

pub take_struct_field-returns-clause-takes : goal.take_struct_field-returns-clause-takes
take_struct_field-returns-clause-takes g t c =
    let source = source_in g.R.ReadRules in
    let target = target_in g.W.WireWrite in
    let d = c.args.schema.now in
    let spells = rw (to_z-of_z w16 c.args.last c.ranges.last, to_z-of_z w16 c.args.id c.ranges.id) at c.field-value.ensures.spells in
    let next = rw (to_z-of_z w16 c.args.id c.ranges.id) at c.field-next.ensures.means in
    if_some _ _ c.take_struct.result (λ (x : Reach) whole ty means.
    takes_field source target g.R.ReadRules.stands_at g.W.WireWrite.stands_at c.args.frame.now g.R.ReadRules.pays g.met.W.FormWrite.goes_on
    d ty c.args.depth c.args.at c.args.behind x.read c.args.opening c.args.last c.args.id kinds.Struct c.args.cells.now c.field-value.new.cells c.take_struct.new.cells c.args.to c.field-value.result x.written
    spells (whole (field_type d (Some (in_struct ty)) c.args.id kinds.Struct) (next ty means))) c.take_struct.ensures.takes

pub take_map_field-returns-clause-takes : goal.take_map_field-returns-clause-takes
take_map_field-returns-clause-takes g t c ty means =
    let source = source_in g.R.ReadRules in
    let target = target_in g.W.WireWrite in
    let d = c.args.schema.now in
    let spells = rw (to_z-of_z w16 c.args.last c.ranges.last, to_z-of_z w16 c.args.id c.ranges.id) at c.field-value.ensures.spells in
    let next = rw (to_z-of_z w16 c.args.id c.ranges.id) at c.field-next.ensures.means in
    takes_field source target g.R.ReadRules.stands_at g.W.WireWrite.stands_at c.args.frame.now g.R.ReadRules.pays g.met.W.FormWrite.goes_on
    d ty c.args.depth c.args.at c.args.behind c.in_ok-read.read c.args.opening c.args.last c.args.id kinds.Map c.args.cells.now c.field-value.new.cells c.take_map.new.cells c.args.to c.field-value.result c.take_map.new.to
    spells (c.in_ok-read.ensures.takes (field_type d (Some (in_struct ty)) c.args.id kinds.Map) (next ty means))

pub take_list_field-returns-clause-takes : goal.take_list_field-returns-clause-takes
take_list_field-returns-clause-takes g t c =
    let source = source_in g.R.ReadRules in
    let target = target_in g.W.WireWrite in
    let d = c.args.schema.now in
    let container = c.in_ok-container.container in
    let spells = rw (to_z-of_z w16 c.args.last c.ranges.last, to_z-of_z w16 c.args.id c.ranges.id, c.container_kind-kind.ensures.kind) at c.field-value.ensures.spells in
    let next = rw (to_z-of_z w16 c.args.id c.ranges.id, c.container_kind-kind.ensures.kind) at c.field-next.ensures.means in
    if_some _ _ c.take_list.result (λ (x : Reach) whole ty means. rw (c.in_ok-container.ensures.item c.args.id) (
    takes_field source target g.R.ReadRules.stands_at g.W.WireWrite.stands_at c.args.frame.now g.R.ReadRules.pays g.met.W.FormWrite.goes_on
    d ty c.args.depth c.args.at c.args.behind x.read c.args.opening c.args.last c.args.id (container_kind container) c.args.cells.now c.field-value.new.cells c.take_list.new.cells c.args.to c.field-value.result x.written
    spells (whole (field_type d (Some (in_struct ty)) c.args.id (container_kind container)) (next ty means)))) c.take_list.ensures.takes

pub take_level-returns-in_ok-container-in_default-clause-takes : goal.take_level-returns-in_ok-container-in_default-clause-takes
take_level-returns-in_ok-container-in_default-clause-takes g t c = rw c.in_ok-container-in_default.ensures.kind c.take_list.ensures.takes

pub take_value-returns-in-Str-clause-takes : goal.take_value-returns-in-Str-clause-takes
take_value-returns-in-Str-clause-takes g t c =
    rw c.in-Str.is (if_some _ _ c.take_short_text.result (λ (x : Reach) whole ty means.
    whole c.args.schema.now ty c.args.depth (λ hinted. c.hint.ensures ty means (c.requires.informed.0 hinted)) (λ hinted. c.hint.ensures ty means (c.requires.informed.1 hinted))) c.take_short_text.ensures.takes)

pub take_value-returns-in_default : goal.take_value-returns-in_default
take_value-returns-in_default g t c =
    record {
      kept = c.take_leaf.ensures.kept;
      past = c.take_leaf.ensures.past;
      grows = c.take_leaf.ensures.grows;
      takes = if_some _ _ c.take_leaf.result (λ (x : Reach) whole ty means. whole c.args.schema.now ty c.args.depth) c.take_leaf.ensures.takes;
    }

pub take_struct-returns-clause-takes : goal.take_struct-returns-clause-takes
take_struct-returns-clause-takes g t c ty means =
    let source = source_in g.R.ReadRules in
    let target = target_in g.W.WireWrite in
    let d = c.args.schema.now in
    takes_level source target g.R.ReadRules.stands_at g.W.WireWrite.stands_at c.args.frame.now g.R.ReadRules.pays g.met.W.FormWrite.goes_on
    d ty c.args.depth c.args.at c.in_ok-inside.inside c.in_ok-read.read c.args.stand kinds.Struct struct_begin (slots.Fields (pos 0)) (in_struct ty) c.args.cells.now c.struct_begin-written.new.cells c.take_fields.new.cells
    c.args.to c.struct_begin-written.result c.take_fields.new.into refl (λ nest. refl) (λ outer. refl) (omega arith)
    c.in_ok-inside.ensures.steps c.struct_begin-written.ensures.spells (λ up outer deep. c.in_ok-read.ensures.takes ty means up outer deep)

pub take_list-take_leaf_list-requires-clause-found : goal.take_list-take_leaf_list-requires-clause-found
take_list-take_leaf_list-requires-clause-found g t c = rw c.in-I32.is at c.in_ok-kind.ensures.steps

pub take_list-take_text_list-requires-clause-found : goal.take_list-take_text_list-requires-clause-found
take_list-take_text_list-requires-clause-found g t c = rw c.in-Str.is at c.in_ok-kind.ensures.steps

pub take_list-returns-in_ok-take_leaf_list-in-I32-clause-takes : goal.take_list-returns-in_ok-take_leaf_list-in-I32-clause-takes
take_list-returns-in_ok-take_leaf_list-in-I32-clause-takes g t c ty means = c.in_ok-take_leaf_list-in-I32.ensures.takes c.args.schema.now ty c.args.depth (omega arith)

pub take_list-returns-in_ok-take_text_list-in-Str-clause-takes : goal.take_list-returns-in_ok-take_text_list-in-Str-clause-takes
take_list-returns-in_ok-take_text_list-in-Str-clause-takes g t c ty means = c.in_ok-take_text_list-in-Str.ensures.takes ty c.args.depth means (omega arith)

pub take_other_list-take_elements-requires : goal.take_other_list-take_elements-requires
take_other_list-take_elements-requires g t c =
    let light = elements_weight c.args.container c.args.kind c.args.size in
    λ κs lives. (
      omega arith,
      (
        lives.0,
        (
          lives.1.0,
          (
            lives.1.1,
            (
              c.element-element.ensures.sound,
              (
                c.requires.informed,
                (
                  c.requires.size,
                  (
                    omega (arith, c.requires.place),
                    (omega (arith, light, c.requires.room, c.requires.place, c.in_ok-written.ensures.kept, c.in_ok-written.ensures.short), (c.requires.no_map, omega arith)),
                  ),
                ),
              ),
            ),
          ),
        ),
      ),
    )

pub take_other_list-returns-clause-takes : goal.take_other_list-returns-clause-takes
take_other_list-returns-clause-takes g t c =
    let source = source_in g.R.ReadRules in
    let target = target_in g.W.WireWrite in
    let d = c.args.schema.now in
    let kind = c.args.kind in
    let size = c.args.size in
    let container = c.args.container in
    if_some _ _ c.take_elements.result (λ (x : Reach) whole ty means.
    takes_level source target g.R.ReadRules.stands_at g.W.WireWrite.stands_at c.args.frame.now g.R.ReadRules.pays g.met.W.FormWrite.goes_on
    d ty c.args.depth c.args.at c.args.behind x.read c.args.stand (container_kind container) (elements_item container kind size) (slots.Elements kind size) (in_elements d container ty kind)
    c.args.cells.now c.elements.new.cells c.take_elements.new.cells c.args.to c.in_ok-written.written x.written
    (elements_opening container kind size) (elements_nest container kind size) (elements_after d ty container kind size) (omega arith)
    c.requires.found c.in_ok-written.ensures.spells
    (λ up outer deep. whole (in_elements d container ty kind) (flat_elements d container ty kind) (c.element-element.ensures.means ty means) openings.New up outer deep)) c.take_elements.ensures.takes

pub take_levels-elements-init : goal.take_levels-elements-init
take_levels-elements-init g t c =
    let source = source_in g.R.ReadRules in
    let target = target_in g.W.WireWrite in
    let d = c.args.schema.now in
    record {
      place = (omega arith, omega arith);
      kept = refl;
      grows = omega arith;
      takes = λ level opening up outer flat means deep.
          let p : Position = standing d (level ∷ outer) in
          let here : Spot = spot c.args.from opening (slots.Elements c.args.kind c.args.size ∷ up) p in
          let all : c.args.size ≡ c.args.size - 0 = omega arith in (
            opening,
            subst (λ (left : ℕ). Takes source target g.R.ReadRules.stands_at g.W.WireWrite.stands_at c.args.frame.now here (spot c.args.from opening (slots.Elements c.args.kind left ∷ up) p) c.args.cells.now c.args.into c.args.cells.now c.args.into) all
                (takes_none source target g.R.ReadRules.stands_at g.W.WireWrite.stands_at c.args.frame.now here c.args.cells.now c.args.into),
          );
    }

pub take_levels-elements-preserved : goal.take_levels-elements-preserved
take_levels-elements-preserved g t c =
    let source = source_in g.R.ReadRules in
    let target = target_in g.W.WireWrite in
    let d = c.args.schema.now in
    let inv = c.elements.invariant in
    record {
      place = (omega (arith, inv.place, c.in_ok-reach.ensures.past), omega (arith, c.in_ok-reach.ensures.past));
      kept = c.in_ok-reach.ensures.kept ∙ inv.kept;
      grows = omega (arith, inv.grows, c.in_ok-reach.ensures.grows);
      takes = λ level opening up outer flat means deep.
          let before = inv.takes level opening up outer flat means deep in
          let p : Position = standing d (level ∷ outer) in
          let left : ℕ = c.args.size - c.elements.i in
          let less : left - 1 ≡ c.args.size - (c.elements.i + 1) = omega arith in
          let read = c.in_ok-reach.reach.read in
          let done : Spot = spot read openings.Old (slots.Elements c.args.kind (c.args.size - (c.elements.i + 1)) ∷ up) p in
          let here : Spot = spot c.elements.at before.0 (slots.Elements c.args.kind left ∷ up) p in
          let same : spot read openings.Old (slots.Elements c.args.kind (left - 1) ∷ up) (standing d (passed (level ∷ outer))) ≡ done = rw (flat outer, less) refl in (
            openings.Old,
            takes_then source target g.R.ReadRules.stands_at g.W.WireWrite.stands_at c.args.frame.now
                (spot c.args.from opening (slots.Elements c.args.kind c.args.size ∷ up) p) here done
                c.args.cells.now c.elements.cells c.take_inner.new.cells c.args.into c.elements.to c.in_ok-reach.reach.written before.1
                (subst (λ (b : Spot). Takes source target g.R.ReadRules.stands_at g.W.WireWrite.stands_at c.args.frame.now here b c.elements.cells c.elements.to c.take_inner.new.cells c.in_ok-reach.reach.written) same
                (c.in_ok-reach.ensures.takes (called_for (Some level)) means before.0 (slots.Elements c.args.kind left ∷ up) (level ∷ outer) (refl, omega arith) (omega (arith, deep)))),
          );
    }

pub take_levels-returns-clause-takes : goal.take_levels-returns-clause-takes
take_levels-returns-clause-takes g t c level flat means opening up outer deep =
    let source = source_in g.R.ReadRules in
    let target = target_in g.W.WireWrite in
    let d = c.args.schema.now in
    let before = c.elements.invariant.takes level opening up outer flat means deep in
    let p : Position = standing d (level ∷ outer) in
    let none : c.args.size - c.elements.i ≡ 0 = omega arith in
    let first : Spot = spot c.args.from opening (slots.Elements c.args.kind c.args.size ∷ up) p in (
      before.0,
      subst (λ (left : ℕ). Takes source target g.R.ReadRules.stands_at g.W.WireWrite.stands_at c.args.frame.now first (spot c.elements.at before.0 (slots.Elements c.args.kind left ∷ up) p) c.args.cells.now c.args.into c.elements.cells c.elements.to) none before.1,
    )

pub take_run-returns-in-Bool-clause-takes : goal.take_run-returns-in-Bool-clause-takes
take_run-returns-in-Bool-clause-takes g t c =
    rw c.in-Bool.is (if_some _ _ c.take_rare_leaves.result (λ (x : Reach) whole level flat means. whole c.args.schema.now level c.args.depth flat) c.take_rare_leaves.ensures.takes)

pub take_run-returns-in-I8-clause-takes : goal.take_run-returns-in-I8-clause-takes
take_run-returns-in-I8-clause-takes g t c =
    rw c.in-I8.is (if_some _ _ c.take_rare_leaves-in-I8.result (λ (x : Reach) whole level flat means. whole c.args.schema.now level c.args.depth flat) c.take_rare_leaves-in-I8.ensures.takes)

pub take_run-returns-in-I16-clause-takes : goal.take_run-returns-in-I16-clause-takes
take_run-returns-in-I16-clause-takes g t c =
    rw c.in-I16.is (if_some _ _ c.take_rare_leaves-in-I16.result (λ (x : Reach) whole level flat means. whole c.args.schema.now level c.args.depth flat) c.take_rare_leaves-in-I16.ensures.takes)

pub take_run-returns-in-I64-clause-takes : goal.take_run-returns-in-I64-clause-takes
take_run-returns-in-I64-clause-takes g t c =
    rw c.in-I64.is (if_some _ _ c.take_rare_leaves-in-I64.result (λ (x : Reach) whole level flat means. whole c.args.schema.now level c.args.depth flat) c.take_rare_leaves-in-I64.ensures.takes)

pub take_run-returns-in-Double-clause-takes : goal.take_run-returns-in-Double-clause-takes
take_run-returns-in-Double-clause-takes g t c =
    rw c.in-Double.is (if_some _ _ c.take_rare_leaves-in-Double.result (λ (x : Reach) whole level flat means. whole c.args.schema.now level c.args.depth flat) c.take_rare_leaves-in-Double.ensures.takes)

pub take_run-returns-in-Uuid-clause-takes : goal.take_run-returns-in-Uuid-clause-takes
take_run-returns-in-Uuid-clause-takes g t c =
    rw c.in-Uuid.is (if_some _ _ c.take_rare_leaves-in-Uuid.result (λ (x : Reach) whole level flat means. whole c.args.schema.now level c.args.depth flat) c.take_rare_leaves-in-Uuid.ensures.takes)

pub take_elements-returns-clause-takes : goal.take_elements-returns-clause-takes
take_elements-returns-clause-takes g t c level flat means opening up outer deep =
    let source = source_in g.R.ReadRules in
    let target = target_in g.W.WireWrite in
    let d = c.args.schema.now in
    let run = c.in_ok-reach.reach in
    let before = c.in_ok-reach.ensures.takes level flat means opening up outer deep in
    let p : Position = standing d (level ∷ outer) in
    let first : Spot = spot c.args.from opening (slots.Elements c.args.kind c.args.size ∷ up) p in
    let nest : List Slot = slots.Elements c.args.kind 0 ∷ up in
    let done = elements_done c.args.container c.args.kind up c.requires.no_map in
    takes_then source target g.R.ReadRules.stands_at g.W.WireWrite.stands_at c.args.frame.now
    first (spot run.read before.0 nest p) (spot c.in_ok-read.read openings.Old up (standing d outer))
    c.args.cells.now c.take_run.new.cells c.end-written.new.cells c.args.into run.written c.end-written.result
    before.1
    (takes_item source target g.R.ReadRules.stands_at g.W.WireWrite.stands_at c.args.frame.now g.R.ReadRules.pays g.met.W.FormWrite.goes_on
    run.read c.in_ok-read.read before.0 nest p end c.take_run.new.cells c.end-written.new.cells run.written c.end-written.result (omega arith)
    (c.in_ok-read.ensures.steps before.0 nest (hint_of p) done) (c.end-written.ensures.spells before.0 nest (mark_of p end) done))

pub take_map-returns-then-pairs-eq0-clause-takes : goal.take_map-returns-then-pairs-eq0-clause-takes
take_map-returns-then-pairs-eq0-clause-takes g t c ty means opening nest outer calls deep =
    let source = source_in g.R.ReadRules in
    let target = target_in g.W.WireWrite in
    let d = c.args.schema.now in
    let p : Position = called d outer ty in
    let pairs = c.in_ok-pairs.pairs in
    let steps = rw c.if-pairs-eq0.true at c.in_ok-pairs.ensures.steps in
    takes_item source target g.R.ReadRules.stands_at g.W.WireWrite.stands_at c.args.frame.now g.R.ReadRules.pays g.met.W.FormWrite.goes_on
    c.args.at pairs.behind opening nest p empty_map c.args.cells.now c.no_pairs-written.new.cells c.args.to.now c.no_pairs-written.result (calls_some c.args.stand kinds.Map opening nest calls)
    (steps opening nest (hint_of p) calls (omega (arith, deep)))
    (c.no_pairs-written.ensures.spells opening nest (mark_of p empty_map) (λ marked. c.in_ok-mark.ensures ty means marked) calls)

pub take_map-returns-in-Bool-clause-takes : goal.take_map-returns-in-Bool-clause-takes
take_map-returns-in-Bool-clause-takes g t c =
    if_some _ _ (reached c.take_text_map.result c.take_text_map.new.to) (λ (x : Reach) whole ty means. whole c.args.schema.now ty c.args.depth (omega arith)) c.take_text_map.ensures.takes

pub take_map-returns-in-I32-clause-takes : goal.take_map-returns-in-I32-clause-takes
take_map-returns-in-I32-clause-takes g t c =
    if_some _ _ (reached c.call_text_map.result c.call_text_map.new.to) (λ (x : Reach) whole ty means. whole c.args.schema.now ty c.args.depth (omega arith)) c.call_text_map.ensures.takes

pub take_map-returns-in-I64-clause-takes : goal.take_map-returns-in-I64-clause-takes
take_map-returns-in-I64-clause-takes g t c =
    if_some _ _ (reached c.call_text_map-in-I64.result c.call_text_map-in-I64.new.to) (λ (x : Reach) whole ty means. whole c.args.schema.now ty c.args.depth (omega arith)) c.call_text_map-in-I64.ensures.takes

pub take_map-returns-clause-takes : goal.take_map-returns-clause-takes
take_map-returns-clause-takes g t c ty means =
    let source = source_in g.R.ReadRules in
    let target = target_in g.W.WireWrite in
    let d = c.args.schema.now in
    let pairs = c.in_ok-pairs.pairs in
    let some : 0 < pairs.size = omega arith in
    let steps = rw (pairs_some pairs.key pairs.value pairs.size some) at c.in_ok-pairs.ensures.steps in
    let reach = c.in_ok-reach.reach in
    takes_level source target g.R.ReadRules.stands_at g.W.WireWrite.stands_at c.args.frame.now g.R.ReadRules.pays g.met.W.FormWrite.goes_on
    d ty c.args.depth c.args.at pairs.behind reach.read c.args.stand kinds.Map (map_begin pairs.key pairs.value pairs.size) (slots.Keys pairs.key pairs.value pairs.size) (in_map d ty pairs.key pairs.value)
    c.args.cells.now c.pairs-2.new.cells c.take_pairs.new.cells c.args.to.now c.in_ok-written.written reach.written
    refl (λ nest. refl) (λ outer. refl) (omega arith) steps c.in_ok-written.ensures.spells
    (λ up outer deep. c.in_ok-reach.ensures.takes (in_map d ty pairs.key pairs.value) (turns_map d ty pairs.key pairs.value) (c.key-key.ensures.means ty means) (c.value-value.ensures.means ty means) up outer deep)

pub take_pairs-pairs-init : goal.take_pairs-pairs-init
take_pairs-pairs-init g t c =
    let source = source_in g.R.ReadRules in
    let target = target_in g.W.WireWrite in
    let d = c.args.schema.now in
    record {
      place = (omega arith, omega arith);
      kept = refl;
      grows = omega arith;
      key = λ left up some. (refl, some, refl);
      takes = λ level up outer turns key value deep.
          let p : Position = standing d (level ∷ outer) in
          let here : Spot = spot c.args.pairs.behind openings.New (slots.Keys c.args.pairs.key c.args.pairs.value c.args.pairs.size ∷ up) p in
          let all : c.args.pairs.size ≡ c.args.pairs.size - 0 = omega arith in
          subst (λ (left : ℕ). Takes source target g.R.ReadRules.stands_at g.W.WireWrite.stands_at c.args.frame.now here (spot c.args.pairs.behind openings.New (slots.Keys c.args.pairs.key c.args.pairs.value left ∷ up) p) c.args.cells.now c.args.into c.args.cells.now c.args.into) all
          (takes_none source target g.R.ReadRules.stands_at g.W.WireWrite.stands_at c.args.frame.now here c.args.cells.now c.args.into);
    }

pub take_pairs-pairs-preserved : goal.take_pairs-pairs-preserved
take_pairs-pairs-preserved g t c =
    let source = source_in g.R.ReadRules in
    let target = target_in g.W.WireWrite in
    let d = c.args.schema.now in
    let inv = c.pairs.invariant in
    record {
      place = (omega (arith, inv.place, c.in_ok-before.ensures.past, c.in_ok-behind.ensures.past), omega (arith, c.in_ok-behind.ensures.past));
      kept = c.in_ok-behind.ensures.kept ∙ c.in_ok-before.ensures.kept ∙ inv.kept;
      grows = omega (arith, inv.grows, c.in_ok-before.ensures.grows, c.in_ok-behind.ensures.grows);
      key = λ left up some. (refl, some, refl);
      takes = λ level up outer turns key value deep.
          let p : Position = standing d (level ∷ outer) in
          let left : ℕ = c.args.pairs.size - c.pairs.i in
          let more : 0 < left = omega arith in
          let less : left - 1 ≡ c.args.pairs.size - (c.pairs.i + 1) = omega arith in
          let first : Spot = spot c.args.pairs.behind openings.New (slots.Keys c.args.pairs.key c.args.pairs.value c.args.pairs.size ∷ up) p in
          let here : Spot = spot c.pairs.at (key_opening c.pairs.stand) (slots.Keys c.args.pairs.key c.args.pairs.value left ∷ up) p in
          let turn : Spot = spot c.in_ok-before.before.read openings.Old (slots.Values c.args.pairs.key c.args.pairs.value left ∷ up) (standing d (turned level ∷ outer)) in
          let done : Spot = spot c.in_ok-behind.behind.read openings.Old (slots.Keys c.args.pairs.key c.args.pairs.value (c.args.pairs.size - (c.pairs.i + 1)) ∷ up) p in
          let turned_so : spot c.in_ok-before.before.read openings.Old (slots.Values c.args.pairs.key c.args.pairs.value left ∷ up) (standing d (passed (level ∷ outer))) ≡ turn = rw (turns outer).0 refl in
          let back : spot c.in_ok-behind.behind.read openings.Old (slots.Keys c.args.pairs.key c.args.pairs.value (left - 1) ∷ up) (standing d (passed (turned level ∷ outer))) ≡ done = rw ((turns outer).1, less) refl in
          takes_then source target g.R.ReadRules.stands_at g.W.WireWrite.stands_at c.args.frame.now first here done
          c.args.cells.now c.pairs.cells c.take_value-in-pairs.new.cells c.args.into c.pairs.to c.in_ok-behind.behind.written (inv.takes level up outer turns key value deep)
          (takes_then source target g.R.ReadRules.stands_at g.W.WireWrite.stands_at c.args.frame.now here turn done
          c.pairs.cells c.take_value.new.cells c.take_value-in-pairs.new.cells c.pairs.to c.in_ok-before.before.written c.in_ok-behind.behind.written
          (subst (λ (b : Spot). Takes source target g.R.ReadRules.stands_at g.W.WireWrite.stands_at c.args.frame.now here b c.pairs.cells c.pairs.to c.take_value.new.cells c.in_ok-before.before.written) turned_so
          (c.in_ok-before.ensures.takes (called_for (Some level)) key (key_opening c.pairs.stand) (slots.Keys c.args.pairs.key c.args.pairs.value left ∷ up) (level ∷ outer) (inv.key left up more) (omega (arith, deep))))
          (subst (λ (b : Spot). Takes source target g.R.ReadRules.stands_at g.W.WireWrite.stands_at c.args.frame.now turn b c.take_value.new.cells c.in_ok-before.before.written c.take_value-in-pairs.new.cells c.in_ok-behind.behind.written) back
          (c.in_ok-behind.ensures.takes (called_for (Some (turned level))) value openings.Old (slots.Values c.args.pairs.key c.args.pairs.value left ∷ up) (turned level ∷ outer) refl (omega (arith, deep)))));
    }

pub take_pairs-returns-clause-takes : goal.take_pairs-returns-clause-takes
take_pairs-returns-clause-takes g t c level turns key value up outer deep =
    let source = source_in g.R.ReadRules in
    let target = target_in g.W.WireWrite in
    let d = c.args.schema.now in
    let inv = c.pairs.invariant in
    let p : Position = standing d (level ∷ outer) in
    let none : c.args.pairs.size - c.pairs.i ≡ 0 = omega arith in
    let first : Spot = spot c.args.pairs.behind openings.New (slots.Keys c.args.pairs.key c.args.pairs.value c.args.pairs.size ∷ up) p in
    let opening = key_opening c.pairs.stand in
    let nest : List Slot = slots.Keys c.args.pairs.key c.args.pairs.value 0 ∷ up in
    takes_then source target g.R.ReadRules.stands_at g.W.WireWrite.stands_at c.args.frame.now
    first (spot c.pairs.at opening nest p) (spot c.in_ok-read.read openings.Old up (standing d outer))
    c.args.cells.now c.pairs.cells c.end-written.new.cells c.args.into c.pairs.to c.end-written.result
    (subst (λ (left : ℕ). Takes source target g.R.ReadRules.stands_at g.W.WireWrite.stands_at c.args.frame.now first (spot c.pairs.at opening (slots.Keys c.args.pairs.key c.args.pairs.value left ∷ up) p) c.args.cells.now c.args.into c.pairs.cells c.pairs.to) none (inv.takes level up outer turns key value deep))
    (takes_item source target g.R.ReadRules.stands_at g.W.WireWrite.stands_at c.args.frame.now g.R.ReadRules.pays g.met.W.FormWrite.goes_on
    c.pairs.at c.in_ok-read.read opening nest p end c.pairs.cells c.end-written.new.cells c.pairs.to c.end-written.result (omega arith)
    (c.in_ok-read.ensures.steps opening nest (hint_of p) refl) (c.end-written.ensures.spells opening nest (mark_of p end) refl))
