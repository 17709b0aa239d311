use Rattle.std.proofs.Common.{◌≡◌, ◌+◌, ◌-◌, ◌<◌, ℕ, ℤ, pos, List, ◌∷◌, Some, arith, refl, rules, subst, sym, ◌∙◌, SFits, to_z, w16}
use Rattle.std.proofs.lemmas.Int.{to_z-of_z}
use Rattle.thrift_value.specs.declared.kind.Kind.TheVariants as kinds
use Rattle.thrift_value.specs.Items.{empty_map, end, field, map_begin, stop, struct_begin}
use Rattle.protocol_traits.specs.declared.forms.Opening.TheVariants as openings
use Rattle.protocol_traits.specs.declared.nest.Slot.{Slot}
use Rattle.protocol_traits.specs.declared.nest.Slot.TheVariants as slots
use Rattle.protocol_traits.specs.Follow.{spent}
use Rattle.protocol_traits.specs.Forms.{container_kind, elements_item}
use Rattle.type_walk.specs.Positions.{Position, called_for, field_type, hint_of, in_map, in_struct, mark_of, passed, standing}
use Rattle.translate_verdicts.specs.Body.{source_in, target_in}
use Rattle.kept_messages.specs.Kept.{Mirrors}
use Rattle.translate_known.specs.Quick.{Spot, Takes, TakesValue, called, in_elements, spot, turned}
use Rattle.translate_known.proofs.Taking.{calls_some, takes_item, takes_none, takes_then}
use Rattle.translate_known.proofs.Levels.{elements_after, elements_done, elements_nest, elements_opening, flat_elements, if_some, key_opening, pairs_some, takes_field, takes_level, turns_map}
use Rattle.kept_messages.proofs.Keeping.{lead_spells, takes_leaf}
use Rattle.kept_messages.proofs.Mirroring.{if_both, mirrors_on, spells_mirrored, takes_mirrored}
use Rattle.kept_messages.proofs.body.+body.Goals as goal

pub walk_fields-fields-init : goal.walk_fields-fields-init
walk_fields-fields-init g t c =
    let source = source_in g.R.ReadRules in
    let target = target_in g.W.WireWrite in
    let d = c.args.schema.now in
    record {
      place = (omega arith, omega arith);
      mirrors = c.requires.mirrors;
      takes = λ ty up outer means deep. takes_none source target g.R.ReadRules.stands_at g.W.WireWrite.stands_at c.args.frame.now (spot c.args.from c.args.opening (slots.Fields (pos 0) ∷ up) (standing d (in_struct ty ∷ outer))) c.args.cells.now c.args.from;
    }

pub walk_fields-returns-in-Stop-clause-mirrors : goal.walk_fields-returns-in-Stop-clause-mirrors
walk_fields-returns-in-Stop-clause-mirrors g t c kept =
    let past = (rw c.in-Stop.is at c.in-Some.ensures.past) (λ bad. absurd (cc)) in
    mirrors_on c.fields.cells c.args.frame.now c.fields.at c.in-Some.behind (omega (arith, past)) c.fields.invariant.mirrors

pub walk_fields-returns-in-Stop-clause-keeps : goal.walk_fields-returns-in-Stop-clause-keeps
walk_fields-returns-in-Stop-clause-keeps g t c kept ty means up outer deep =
    let source = source_in g.R.ReadRules in
    let target = target_in g.W.WireWrite in
    let d = c.args.schema.now in
    let inv = c.fields.invariant in
    let last : ℤ = to_z w16 c.fields.last-bits in
    let nest : List Slot = slots.Fields last ∷ up in
    let p : Position = standing d (in_struct ty ∷ outer) in
    let past = (rw c.in-Stop.is at c.in-Some.ensures.past) (λ bad. absurd (cc)) in
    let keeps = rw c.in-Stop.is at c.in-Some.ensures.keeps in
    takes_then source target g.R.ReadRules.stands_at g.W.WireWrite.stands_at c.args.frame.now
    (spot c.args.from c.args.opening (slots.Fields (pos 0) ∷ up) p) (spot c.fields.at c.fields.opening nest p) (spot c.in-Some.behind openings.Old up (standing d outer))
    c.args.cells.now c.fields.cells c.fields.cells c.args.from c.fields.at c.in-Some.behind
    (inv.takes ty up outer means deep)
    (takes_item source target g.R.ReadRules.stands_at g.W.WireWrite.stands_at c.args.frame.now g.R.ReadRules.pays g.met.W.FormWrite.goes_on
    c.fields.at c.in-Some.behind c.fields.opening nest p stop c.fields.cells c.fields.cells c.fields.at c.in-Some.behind (omega arith)
    (keeps.0 up (hint_of p) (λ bad. absurd (cc)))
    (spells_mirrored target.bar target.plain g.W.WireWrite.stands_at c.args.frame.now c.fields.cells c.fields.at c.in-Some.behind c.fields.opening nest (mark_of p stop) stop (omega (arith, past)) inv.mirrors
    (keeps.1 c.args.depth last up (mark_of p stop) deep)))

pub walk_fields-fields-preserved : goal.walk_fields-fields-preserved
walk_fields-fields-preserved g t c =
    let source = source_in g.R.ReadRules in
    let target = target_in g.W.WireWrite in
    let d = c.args.schema.now in
    let inv = c.fields.invariant in
    let last : ℤ = to_z w16 c.fields.last-bits in
    let id_fits : SFits w16 c.in-Some.id = search rules in
    let keeps = c.in-Some.ensures.keeps in
    let taken = rw (to_z-of_z w16 c.in-Some.id id_fits) at c.in-Some-keep_field.ensures.keeps in
    record {
      place = (omega (arith, inv.place, c.in-Some-keep_field.ensures.past), omega (arith, c.in-Some-keep_field.ensures.past));
      mirrors = c.in-Some-keep_field.ensures.mirrors;
      takes = λ ty up outer means deep.
          let p : Position = standing d (in_struct ty ∷ outer) in
          rw (to_z-of_z w16 c.in-Some.id id_fits) (takes_then source target g.R.ReadRules.stands_at g.W.WireWrite.stands_at c.args.frame.now
          (spot c.args.from c.args.opening (slots.Fields (pos 0) ∷ up) p) (spot c.fields.at c.fields.opening (slots.Fields last ∷ up) p) (spot c.in-Some-keep_field.next openings.Old (slots.Fields c.in-Some.id ∷ up) p)
          c.args.cells.now c.fields.cells c.keep_field.new.cells c.args.from c.fields.at c.in-Some-keep_field.next
          (inv.takes ty up outer means deep) (taken ty means up outer deep (λ hint. keeps.0 up hint c.in_default-lead-2.not-Bad)));
    }

pub walk_fields-keep_field-requires : goal.walk_fields-keep_field-requires
walk_fields-keep_field-requires g t c =
    let id_fits : SFits w16 c.in-Some.id = search rules in
    let past = c.in-Some.ensures.past c.in_default-lead-2.not-Bad in
    λ κs lives. (omega arith, (lives.0, (lives.1.0, (lives.1.1, (c.requires.known, (past, (rw (to_z-of_z w16 c.in-Some.id id_fits) c.in-Some.ensures.keeps, (c.fields.invariant.mirrors, c.requires.shallow))))))))

pub keep_field-keep_level_field-requires : goal.keep_field-keep_level_field-requires
keep_field-keep_level_field-requires g t c =
    λ κs lives. (omega arith, (lives.0, (lives.1.0, (lives.1.1, (c.requires.known, (c.requires.place, (rw (to_z-of_z w16 c.args.last c.ranges.last, to_z-of_z w16 c.args.id c.ranges.id) c.requires.lead, (c.requires.mirrors, c.requires.shallow))))))))

pub keep_field-returns-in_ok-keep_level_field-in-Struct-clause-keeps : goal.keep_field-returns-in_ok-keep_level_field-in-Struct-clause-keeps
keep_field-returns-in_ok-keep_level_field-in-Struct-clause-keeps g t c ty means =
    let keeps = rw (to_z-of_z w16 c.args.last c.ranges.last, to_z-of_z w16 c.args.id c.ranges.id) at c.in_ok-keep_level_field-in-Struct.ensures.keeps in
    keeps ty means

pub keep_field-returns-in_ok-keep_leaf_field-in_default : goal.keep_field-returns-in_ok-keep_leaf_field-in_default
keep_field-returns-in_ok-keep_leaf_field-in_default g t c =
    let source = source_in g.R.ReadRules in
    let target = target_in g.W.WireWrite in
    let d = c.args.schema.now in
    let read = c.in_ok-keep_leaf_field-in_default.field-0 in
    let past = c.in_ok-keep_leaf_field-in_default.ensures.past in
    let keeps = rw (to_z-of_z w16 c.args.last c.ranges.last, to_z-of_z w16 c.args.id c.ranges.id) at c.in_ok-keep_leaf_field-in_default.ensures.keeps in
    record {
      past = past;
      mirrors = mirrors_on c.args.cells.now c.args.frame.now c.args.at read (omega (arith, past)) c.requires.mirrors;
      keeps = λ ty means up outer deep lead.
          let p : Position = standing d (in_struct ty ∷ outer) in
          takes_mirrored source target g.R.ReadRules.stands_at g.W.WireWrite.stands_at c.args.frame.now c.args.cells.now
          (spot c.args.at c.args.opening (slots.Fields c.args.last ∷ up) p) (spot read openings.Old (slots.Fields c.args.id ∷ up) p) c.args.at read (omega (arith, past)) c.requires.mirrors
          (keeps d ty c.args.depth up outer deep lead);
    }

pub keep_level_field-keep_struct-requires : goal.keep_level_field-keep_struct-requires
keep_level_field-keep_struct-requires g t c =
    λ κs lives. (omega arith, (lives.0, (lives.1.0, (lives.1.1, (c.field-next.ensures.sound, (omega (arith, c.requires.place), ((mirrors_on c.args.cells.now c.args.frame.now c.args.at c.args.behind (omega (arith, c.requires.place)) c.requires.mirrors), c.requires.shallow)))))))

pub keep_level_field-keep_map-requires : goal.keep_level_field-keep_map-requires
keep_level_field-keep_map-requires g t c =
    λ κs lives. (omega arith, (lives.0, (lives.1.0, (lives.1.1, (c.field-next-in-Map.ensures.sound, (omega (arith, c.requires.place), ((mirrors_on c.args.cells.now c.args.frame.now c.args.at c.args.behind (omega (arith, c.requires.place)) c.requires.mirrors), c.requires.shallow)))))))

pub keep_level_field-keep_list-requires : goal.keep_level_field-keep_list-requires
keep_level_field-keep_list-requires g t c =
    λ κs lives. (omega arith, (lives.0, (lives.1.0, (lives.1.1, (c.field-next-in_default.ensures.sound, (omega (arith, c.requires.place), ((mirrors_on c.args.cells.now c.args.frame.now c.args.at c.args.behind (omega (arith, c.requires.place)) c.requires.mirrors), (c.requires.shallow, c.in_ok-container-in_default.ensures.no_map))))))))

pub keep_level_field-returns-in_ok-keep_struct-in-Struct-clause-keeps : goal.keep_level_field-returns-in_ok-keep_struct-in-Struct-clause-keeps
keep_level_field-returns-in_ok-keep_struct-in-Struct-clause-keeps g t c ty means =
    let source = source_in g.R.ReadRules in
    let target = target_in g.W.WireWrite in
    let d = c.args.schema.now in
    let read = c.in_ok-keep_struct-in-Struct.field-0 in
    let lead = rw c.in-Struct.is at c.requires.lead in
    let next = rw (to_z-of_z w16 c.args.id c.ranges.id) at c.field-next.ensures.means in
    rw c.in-Struct.is (takes_field source target g.R.ReadRules.stands_at g.W.WireWrite.stands_at c.args.frame.now g.R.ReadRules.pays g.met.W.FormWrite.goes_on
    d ty c.args.depth c.args.at c.args.behind read c.args.opening c.args.last c.args.id kinds.Struct c.args.cells.now c.args.cells.now c.keep_struct.new.cells c.args.at c.args.behind read
    (λ up mark. spells_mirrored target.bar target.plain g.W.WireWrite.stands_at c.args.frame.now c.args.cells.now c.args.at c.args.behind c.args.opening (slots.Fields c.args.last ∷ up) mark (field c.args.id kinds.Struct) (omega (arith, c.requires.place)) c.requires.mirrors (lead.1 up mark))
    (c.in_ok-keep_struct-in-Struct.ensures.keeps (field_type d (Some (in_struct ty)) c.args.id kinds.Struct) (next ty means)))

pub keep_level_field-returns-in_ok-keep_map-in-Map-clause-keeps : goal.keep_level_field-returns-in_ok-keep_map-in-Map-clause-keeps
keep_level_field-returns-in_ok-keep_map-in-Map-clause-keeps g t c ty means =
    let source = source_in g.R.ReadRules in
    let target = target_in g.W.WireWrite in
    let d = c.args.schema.now in
    let read = c.in_ok-keep_map-in-Map.field-0 in
    let lead = rw c.in-Map.is at c.requires.lead in
    let next = rw (to_z-of_z w16 c.args.id c.ranges.id) at c.field-next-in-Map.ensures.means in
    rw c.in-Map.is (takes_field source target g.R.ReadRules.stands_at g.W.WireWrite.stands_at c.args.frame.now g.R.ReadRules.pays g.met.W.FormWrite.goes_on
    d ty c.args.depth c.args.at c.args.behind read c.args.opening c.args.last c.args.id kinds.Map c.args.cells.now c.args.cells.now c.keep_map.new.cells c.args.at c.args.behind read
    (λ up mark. spells_mirrored target.bar target.plain g.W.WireWrite.stands_at c.args.frame.now c.args.cells.now c.args.at c.args.behind c.args.opening (slots.Fields c.args.last ∷ up) mark (field c.args.id kinds.Map) (omega (arith, c.requires.place)) c.requires.mirrors (lead.1 up mark))
    (c.in_ok-keep_map-in-Map.ensures.keeps (field_type d (Some (in_struct ty)) c.args.id kinds.Map) (next ty means)))

pub keep_level_field-returns-in_ok-keep_list-in_default : goal.keep_level_field-returns-in_ok-keep_list-in_default
keep_level_field-returns-in_ok-keep_list-in_default g t c =
    let source = source_in g.R.ReadRules in
    let target = target_in g.W.WireWrite in
    let d = c.args.schema.now in
    let read = c.in_ok-keep_list-in_default.field-0 in
    let container = c.in_ok-container-in_default.container in
    let item = c.in_ok-container-in_default.ensures.item c.args.id in
    let next = rw (to_z-of_z w16 c.args.id c.ranges.id, c.container_kind.ensures.kind) at c.field-next-in_default.ensures.means in
    let spells = lead_spells g.R.ReadRules.reads g.R.ReadRules.stands_at target.bar target.plain g.W.WireWrite.stands_at c.args.frame.now c.args.at c.args.opening c.args.last c.args.id c.args.behind c.args.lead container item c.requires.lead.1 in
    record {
      past = (omega (arith, c.requires.place, c.in_ok-keep_list-in_default.ensures.past), omega (arith, c.in_ok-keep_list-in_default.ensures.past));
      mirrors = c.in_ok-keep_list-in_default.ensures.mirrors;
      keeps = λ ty means. rw item (takes_field source target g.R.ReadRules.stands_at g.W.WireWrite.stands_at c.args.frame.now g.R.ReadRules.pays g.met.W.FormWrite.goes_on
          d ty c.args.depth c.args.at c.args.behind read c.args.opening c.args.last c.args.id (container_kind container) c.args.cells.now c.args.cells.now c.keep_list.new.cells c.args.at c.args.behind read
          (λ up mark. spells_mirrored target.bar target.plain g.W.WireWrite.stands_at c.args.frame.now c.args.cells.now c.args.at c.args.behind c.args.opening (slots.Fields c.args.last ∷ up) mark (field c.args.id (container_kind container)) (omega (arith, c.requires.place)) c.requires.mirrors (spells up mark))
          (c.in_ok-keep_list-in_default.ensures.keeps (field_type d (Some (in_struct ty)) c.args.id (container_kind container)) (next ty means)));
    }

pub keep_struct-keep_fields-requires : goal.keep_struct-keep_fields-requires
keep_struct-keep_fields-requires g t c =
    λ κs lives. (omega arith, (lives.0, (lives.1.0, (lives.1.1, (c.requires.known, (omega (arith, c.in_ok-inside.ensures.within), ((mirrors_on c.args.cells.now c.args.frame.now c.args.at c.in_ok-inside.inside (omega (arith, c.in_ok-inside.ensures.within)) c.requires.mirrors), omega arith)))))))

pub keep_struct-returns-clause-keeps : goal.keep_struct-returns-clause-keeps
keep_struct-returns-clause-keeps g t c =
    let source = source_in g.R.ReadRules in
    let target = target_in g.W.WireWrite in
    let d = c.args.schema.now in
    let inside = c.in_ok-inside.inside in
    let keeps = c.in_ok-inside.ensures.keeps in
    if_some _ _ c.keep_fields.result (λ (x : ℕ) whole ty means.
    takes_level source target g.R.ReadRules.stands_at g.W.WireWrite.stands_at c.args.frame.now g.R.ReadRules.pays g.met.W.FormWrite.goes_on
    d ty c.args.depth c.args.at inside x c.args.stand kinds.Struct struct_begin (slots.Fields (pos 0)) (in_struct ty) c.args.cells.now c.args.cells.now c.keep_fields.new.cells
    c.args.at inside x refl (λ nest. refl) (λ outer. refl) (omega arith) keeps.0
    (λ opening nest mark calls. spells_mirrored target.bar target.plain g.W.WireWrite.stands_at c.args.frame.now c.args.cells.now c.args.at inside opening nest mark struct_begin (omega (arith, c.in_ok-inside.ensures.within)) c.requires.mirrors (keeps.1 opening nest mark calls))
    (λ up outer deep. whole ty means up outer deep)) c.keep_fields.ensures.keeps

pub keep_list-keep_elements-requires-2 : goal.keep_list-keep_elements-requires-2
keep_list-keep_elements-requires-2 g t c =
    λ κs lives. (omega arith, (lives.0, (lives.1.0, (lives.1.1, (c.element-element.ensures.sound, (omega (arith, c.in_ok-kind.ensures.past), ((mirrors_on c.args.cells.now c.args.frame.now c.args.at c.in_ok-kind.inside (omega (arith, c.in_ok-kind.ensures.past)) c.requires.mirrors), (omega arith, c.requires.no_map))))))))

pub keep_list-returns-clause-keeps : goal.keep_list-returns-clause-keeps
keep_list-returns-clause-keeps g t c =
    let source = source_in g.R.ReadRules in
    let target = target_in g.W.WireWrite in
    let d = c.args.schema.now in
    let kind = c.in_ok-kind.kind in
    let size = c.in_ok-kind.size in
    let inside = c.in_ok-kind.inside in
    let container = c.args.container in
    let keeps = c.in_ok-kind.ensures.keeps in
    if_some _ _ c.keep_elements-2.result (λ (x : ℕ) whole ty means.
    takes_level source target g.R.ReadRules.stands_at g.W.WireWrite.stands_at c.args.frame.now g.R.ReadRules.pays g.met.W.FormWrite.goes_on
    d ty c.args.depth c.args.at inside x c.args.stand (container_kind container) (elements_item container kind size) (slots.Elements kind size) (in_elements d container ty kind)
    c.args.cells.now c.args.cells.now c.keep_elements-2.new.cells c.args.at inside x
    (elements_opening container kind size) (elements_nest container kind size) (elements_after d ty container kind size) (omega arith) keeps.0
    (λ opening nest mark calls. spells_mirrored target.bar target.plain g.W.WireWrite.stands_at c.args.frame.now c.args.cells.now c.args.at inside opening nest mark (elements_item container kind size) (omega (arith, c.in_ok-kind.ensures.past)) c.requires.mirrors (keeps.1 opening nest mark calls))
    (λ up outer deep. whole (in_elements d container ty kind) (flat_elements d container ty kind) (c.element-element.ensures.means ty means) openings.New up outer deep)) c.keep_elements-2.ensures.keeps

pub keep_elements-returns-clause-mirrors : goal.keep_elements-returns-clause-mirrors
keep_elements-returns-clause-mirrors g t c =
    if_some _ _ c.keep_end.result (λ (x : ℕ) within. mirrors_on c.keep_run.new.cells c.args.frame.now c.in_ok-behind.behind x within.0 c.in_ok-behind.ensures.mirrors) c.keep_end.ensures.within

pub keep_elements-returns-clause-keeps : goal.keep_elements-returns-clause-keeps
keep_elements-returns-clause-keeps g t c =
    let source = source_in g.R.ReadRules in
    let target = target_in g.W.WireWrite in
    let d = c.args.schema.now in
    let container = c.args.container in
    let behind = c.in_ok-behind.behind in
    if_both _ _ _ c.keep_end.result (λ (x : ℕ) within keeps level flat means opening up outer deep.
    let p : Position = standing d (level ∷ outer) in
    let run = c.in_ok-behind.ensures.keeps level flat means opening up outer deep in
    let nest : List Slot = slots.Elements c.args.kind 0 ∷ up in
    let done = elements_done container c.args.kind up c.requires.no_map in
    takes_then source target g.R.ReadRules.stands_at g.W.WireWrite.stands_at c.args.frame.now
    (spot c.args.at opening (slots.Elements c.args.kind c.args.size ∷ up) p) (spot behind run.0 nest p) (spot x openings.Old up (standing d outer))
    c.args.cells.now c.keep_run.new.cells c.keep_run.new.cells c.args.at behind x run.1
    (takes_item source target g.R.ReadRules.stands_at g.W.WireWrite.stands_at c.args.frame.now g.R.ReadRules.pays g.met.W.FormWrite.goes_on
    behind x run.0 nest p end c.keep_run.new.cells c.keep_run.new.cells behind x (omega arith) (keeps.0 run.0 nest (hint_of p) done)
    (spells_mirrored target.bar target.plain g.W.WireWrite.stands_at c.args.frame.now c.keep_run.new.cells behind x run.0 nest (mark_of p end) end within.0 c.in_ok-behind.ensures.mirrors (keeps.1 run.0 nest (mark_of p end) done)))) c.keep_end.ensures.within c.keep_end.ensures.keeps

pub keep_run-returns-in_default : goal.keep_run-returns-in_default
keep_run-returns-in_default g t c =
    let source = source_in g.R.ReadRules in
    let target = target_in g.W.WireWrite in
    let d = c.args.schema.now in
    record {
      place = c.keep_leaf_run.ensures.place;
      mirrors = if_some _ _ c.keep_leaf_run.result (λ (x : ℕ) place. mirrors_on c.args.cells.now c.args.frame.now c.args.at x place.0 c.requires.mirrors) c.keep_leaf_run.ensures.place;
      keeps = if_both _ _ _ c.keep_leaf_run.result (λ (x : ℕ) place whole level flat means opening up outer deep.
          let run = whole d level c.args.depth flat opening up outer deep in
          let p : Position = standing d (level ∷ outer) in (
            run.0,
            takes_mirrored source target g.R.ReadRules.stands_at g.W.WireWrite.stands_at c.args.frame.now c.args.cells.now
                (spot c.args.at opening (slots.Elements c.args.kind c.args.size ∷ up) p) (spot x run.0 (slots.Elements c.args.kind 0 ∷ up) p) c.args.at x place.0 c.requires.mirrors run.1,
          )) c.keep_leaf_run.ensures.place c.keep_leaf_run.ensures.keeps;
    }

pub keep_value-returns-in_default : goal.keep_value-returns-in_default
keep_value-returns-in_default g t c =
    let source = source_in g.R.ReadRules in
    let target = target_in g.W.WireWrite in
    let d = c.args.schema.now in
    record {
      past = c.keep_leaf.ensures.past;
      mirrors = if_some _ _ c.keep_leaf.result (λ (x : ℕ) past. mirrors_on c.args.cells.now c.args.frame.now c.args.at x (omega (arith, past)) c.requires.mirrors) c.keep_leaf.ensures.past;
      keeps = if_both _ _ _ c.keep_leaf.result (λ (x : ℕ) past keeps ty means opening nest outer calls deep.
          takes_mirrored source target g.R.ReadRules.stands_at g.W.WireWrite.stands_at c.args.frame.now c.args.cells.now
          (spot c.args.at opening nest (called d outer ty)) (spot x openings.Old (spent nest) (standing d (passed outer))) c.args.at x (omega (arith, past)) c.requires.mirrors
          (takes_leaf source target g.R.ReadRules.stands_at g.W.WireWrite.stands_at c.args.frame.now g.R.ReadRules.pays g.met.W.FormWrite.goes_on
          c.args.kind d ty c.args.depth c.args.at x c.args.stand keeps opening nest outer calls deep)) c.keep_leaf.ensures.past c.keep_leaf.ensures.keeps;
    }

pub keep_map-returns-then-pairs-eq0-clause-mirrors : goal.keep_map-returns-then-pairs-eq0-clause-mirrors
keep_map-returns-then-pairs-eq0-clause-mirrors g t c =
    let behind = c.in_ok-pairs.pairs.behind in
    let on = mirrors_on c.args.cells.now c.args.frame.now c.args.at behind (omega (arith, c.in_ok-pairs.ensures.past)) c.requires.mirrors in
    if_some _ _ c.renewed.result (λ (x : ℕ) is. subst (λ (n : ℕ). Mirrors c.renewed.new.cells n c.args.frame.now) (sym is) (c.renewed.ensures.kept ∙ on.0, c.renewed.ensures.rest ∙ on.1)) c.renewed.ensures.place

pub keep_map-returns-then-pairs-eq0-clause-keeps : goal.keep_map-returns-then-pairs-eq0-clause-keeps
keep_map-returns-then-pairs-eq0-clause-keeps g t c =
    let source = source_in g.R.ReadRules in
    let target = target_in g.W.WireWrite in
    let d = c.args.schema.now in
    let behind = c.in_ok-pairs.pairs.behind in
    let keeps = rw c.if-pairs-eq0.true at c.in_ok-pairs.ensures.keeps in
    if_both _ _ _ c.renewed.result (λ (x : ℕ) is spells ty means.
    subst (λ (n : ℕ). TakesValue source target g.R.ReadRules.stands_at g.W.WireWrite.stands_at d ty c.args.depth c.args.frame.now c.args.at c.args.stand kinds.Map c.args.cells.now c.args.at c.renewed.new.cells n n) (sym is)
    (λ opening nest outer calls deep.
    let p : Position = called d outer ty in
    takes_item source target g.R.ReadRules.stands_at g.W.WireWrite.stands_at c.args.frame.now g.R.ReadRules.pays g.met.W.FormWrite.goes_on
    c.args.at behind opening nest p empty_map c.args.cells.now c.renewed.new.cells c.args.at behind (calls_some c.args.stand kinds.Map opening nest calls)
    (keeps.0 opening nest (hint_of p) calls (omega (arith, deep)))
    (spells opening nest (mark_of p empty_map) (λ marked. c.in_ok-mark.ensures ty means marked) calls))) c.renewed.ensures.place c.renewed.ensures.spells

pub keep_map-keep_pairs-requires-2 : goal.keep_map-keep_pairs-requires-2
keep_map-keep_pairs-requires-2 g t c =
    λ κs lives. (omega arith, (lives.0, (lives.1.0, (lives.1.1, (c.key-key.ensures.sound, (c.value-value.ensures.sound, (omega (arith, c.in_ok-pairs.ensures.past), ((mirrors_on c.args.cells.now c.args.frame.now c.args.at c.in_ok-pairs.pairs.behind (omega (arith, c.in_ok-pairs.ensures.past)) c.requires.mirrors), omega arith))))))))

pub keep_map-returns-clause-keeps : goal.keep_map-returns-clause-keeps
keep_map-returns-clause-keeps g t c =
    let source = source_in g.R.ReadRules in
    let target = target_in g.W.WireWrite in
    let d = c.args.schema.now in
    let pairs = c.in_ok-pairs.pairs in
    let some : 0 < pairs.size = omega arith in
    let keeps = rw (pairs_some pairs.key pairs.value pairs.size some) at c.in_ok-pairs.ensures.keeps in
    let item = map_begin pairs.key pairs.value pairs.size in
    if_some _ _ c.keep_pairs-2.result (λ (x : ℕ) whole ty means.
    takes_level source target g.R.ReadRules.stands_at g.W.WireWrite.stands_at c.args.frame.now g.R.ReadRules.pays g.met.W.FormWrite.goes_on
    d ty c.args.depth c.args.at pairs.behind x c.args.stand kinds.Map item (slots.Keys pairs.key pairs.value pairs.size) (in_map d ty pairs.key pairs.value)
    c.args.cells.now c.args.cells.now c.keep_pairs-2.new.cells c.args.at pairs.behind x refl (λ nest. refl) (λ outer. refl) (omega arith) keeps.0
    (λ opening nest mark calls. spells_mirrored target.bar target.plain g.W.WireWrite.stands_at c.args.frame.now c.args.cells.now c.args.at pairs.behind opening nest mark item (omega (arith, c.in_ok-pairs.ensures.past)) c.requires.mirrors (keeps.1 some opening nest mark calls))
    (λ up outer deep. whole (in_map d ty pairs.key pairs.value) (turns_map d ty pairs.key pairs.value) (c.key-key.ensures.means ty means) (c.value-value.ensures.means ty means) up outer deep)) c.keep_pairs-2.ensures.keeps

pub keep_levels-elements-init : goal.keep_levels-elements-init
keep_levels-elements-init g t c =
    let source = source_in g.R.ReadRules in
    let target = target_in g.W.WireWrite in
    let d = c.args.schema.now in
    record {
      place = (omega arith, omega arith);
      mirrors = c.requires.mirrors;
      takes = λ level opening up outer flat means deep.
          let p : Position = standing d (level ∷ outer) in
          let here : Spot = spot c.args.from opening (slots.Elements c.args.kind c.args.size ∷ up) p in
          let all : c.args.size ≡ c.args.size - 0 = omega arith in (
            opening,
            subst (λ (left : ℕ). Takes source target g.R.ReadRules.stands_at g.W.WireWrite.stands_at c.args.frame.now here (spot c.args.from opening (slots.Elements c.args.kind left ∷ up) p) c.args.cells.now c.args.from c.args.cells.now c.args.from) all
                (takes_none source target g.R.ReadRules.stands_at g.W.WireWrite.stands_at c.args.frame.now here c.args.cells.now c.args.from),
          );
    }

pub keep_levels-elements-preserved : goal.keep_levels-elements-preserved
keep_levels-elements-preserved g t c =
    let source = source_in g.R.ReadRules in
    let target = target_in g.W.WireWrite in
    let d = c.args.schema.now in
    let inv = c.elements.invariant in
    record {
      place = (omega (arith, inv.place, c.in_ok-at.ensures.past), omega (arith, c.in_ok-at.ensures.past));
      mirrors = c.in_ok-at.ensures.mirrors;
      takes = λ level opening up outer flat means deep.
          let before = inv.takes level opening up outer flat means deep in
          let p : Position = standing d (level ∷ outer) in
          let left : ℕ = c.args.size - c.elements.i in
          let less : left - 1 ≡ c.args.size - (c.elements.i + 1) = omega arith in
          let read = c.in_ok-at.at in
          let done : Spot = spot read openings.Old (slots.Elements c.args.kind (c.args.size - (c.elements.i + 1)) ∷ up) p in
          let here : Spot = spot c.elements.at before.0 (slots.Elements c.args.kind left ∷ up) p in
          let same : spot read openings.Old (slots.Elements c.args.kind (left - 1) ∷ up) (standing d (passed (level ∷ outer))) ≡ done = rw (flat outer, less) refl in (
            openings.Old,
            takes_then source target g.R.ReadRules.stands_at g.W.WireWrite.stands_at c.args.frame.now
                (spot c.args.from opening (slots.Elements c.args.kind c.args.size ∷ up) p) here done
                c.args.cells.now c.elements.cells c.keep_inner.new.cells c.args.from c.elements.at read before.1
                (subst (λ (b : Spot). Takes source target g.R.ReadRules.stands_at g.W.WireWrite.stands_at c.args.frame.now here b c.elements.cells c.elements.at c.keep_inner.new.cells read) same
                (c.in_ok-at.ensures.keeps (called_for (Some level)) means before.0 (slots.Elements c.args.kind left ∷ up) (level ∷ outer) (refl, omega arith) (omega (arith, deep)))),
          );
    }

pub keep_levels-returns-clause-keeps : goal.keep_levels-returns-clause-keeps
keep_levels-returns-clause-keeps g t c level flat means opening up outer deep =
    let source = source_in g.R.ReadRules in
    let target = target_in g.W.WireWrite in
    let d = c.args.schema.now in
    let before = c.elements.invariant.takes level opening up outer flat means deep in
    let p : Position = standing d (level ∷ outer) in
    let none : c.args.size - c.elements.i ≡ 0 = omega arith in
    let first : Spot = spot c.args.from opening (slots.Elements c.args.kind c.args.size ∷ up) p in (
      before.0,
      subst (λ (left : ℕ). Takes source target g.R.ReadRules.stands_at g.W.WireWrite.stands_at c.args.frame.now first (spot c.elements.at before.0 (slots.Elements c.args.kind left ∷ up) p) c.args.cells.now c.args.from c.elements.cells c.elements.at) none before.1,
    )

pub keep_pairs-returns-then-are_leaf_pairs-clause-mirrors : goal.keep_pairs-returns-then-are_leaf_pairs-clause-mirrors
keep_pairs-returns-then-are_leaf_pairs-clause-mirrors g t c =
    let kept = c.in_ok-keep_leaf_pairs in
    mirrors_on c.args.cells.now c.args.frame.now c.args.pairs.behind kept.field-0 (omega (arith, kept.ensures.place)) c.requires.mirrors

pub keep_pairs-returns-then-are_leaf_pairs-clause-keeps : goal.keep_pairs-returns-then-are_leaf_pairs-clause-keeps
keep_pairs-returns-then-are_leaf_pairs-clause-keeps g t c level turns key value up outer deep =
    let d = c.args.schema.now in
    let pairs = c.args.pairs in
    let kept = c.in_ok-keep_leaf_pairs in
    let first : Spot = spot pairs.behind openings.New (slots.Keys pairs.key pairs.value pairs.size ∷ up) (standing d (level ∷ outer)) in
    takes_mirrored (source_in g.R.ReadRules) (target_in g.W.WireWrite) g.R.ReadRules.stands_at g.W.WireWrite.stands_at c.args.frame.now c.args.cells.now
    first (spot kept.field-0 openings.Old up (standing d outer)) pairs.behind kept.field-0 (omega (arith, kept.ensures.place)) c.requires.mirrors
    (kept.ensures.keeps d level c.args.depth turns up outer deep)

pub call_pairs-pairs-init : goal.call_pairs-pairs-init
call_pairs-pairs-init g t c =
    let source = source_in g.R.ReadRules in
    let target = target_in g.W.WireWrite in
    let d = c.args.schema.now in
    record {
      place = (omega arith, omega arith);
      mirrors = c.requires.mirrors;
      key = λ left up some. (refl, some, refl);
      takes = λ level up outer turns key value deep.
          let p : Position = standing d (level ∷ outer) in
          let here : Spot = spot c.args.pairs.behind openings.New (slots.Keys c.args.pairs.key c.args.pairs.value c.args.pairs.size ∷ up) p in
          let all : c.args.pairs.size ≡ c.args.pairs.size - 0 = omega arith in
          subst (λ (left : ℕ). Takes source target g.R.ReadRules.stands_at g.W.WireWrite.stands_at c.args.frame.now here (spot c.args.pairs.behind openings.New (slots.Keys c.args.pairs.key c.args.pairs.value left ∷ up) p) c.args.cells.now c.args.pairs.behind c.args.cells.now c.args.pairs.behind) all
          (takes_none source target g.R.ReadRules.stands_at g.W.WireWrite.stands_at c.args.frame.now here c.args.cells.now c.args.pairs.behind);
    }

pub call_pairs-pairs-preserved : goal.call_pairs-pairs-preserved
call_pairs-pairs-preserved g t c =
    let source = source_in g.R.ReadRules in
    let target = target_in g.W.WireWrite in
    let d = c.args.schema.now in
    let inv = c.pairs.invariant in
    let mid = c.in_ok-turn.turn in
    let read = c.in_ok-at.at in
    record {
      place = (omega (arith, inv.place, c.in_ok-turn.ensures.past, c.in_ok-at.ensures.past), omega (arith, c.in_ok-at.ensures.past));
      mirrors = c.in_ok-at.ensures.mirrors;
      key = λ left up some. (refl, some, refl);
      takes = λ level up outer turns key value deep.
          let p : Position = standing d (level ∷ outer) in
          let left : ℕ = c.args.pairs.size - c.pairs.i in
          let more : 0 < left = omega arith in
          let less : left - 1 ≡ c.args.pairs.size - (c.pairs.i + 1) = omega arith in
          let first : Spot = spot c.args.pairs.behind openings.New (slots.Keys c.args.pairs.key c.args.pairs.value c.args.pairs.size ∷ up) p in
          let here : Spot = spot c.pairs.at (key_opening c.pairs.stand) (slots.Keys c.args.pairs.key c.args.pairs.value left ∷ up) p in
          let turn : Spot = spot mid openings.Old (slots.Values c.args.pairs.key c.args.pairs.value left ∷ up) (standing d (turned level ∷ outer)) in
          let done : Spot = spot read openings.Old (slots.Keys c.args.pairs.key c.args.pairs.value (c.args.pairs.size - (c.pairs.i + 1)) ∷ up) p in
          let turned_so : spot mid openings.Old (slots.Values c.args.pairs.key c.args.pairs.value left ∷ up) (standing d (passed (level ∷ outer))) ≡ turn = rw (turns outer).0 refl in
          let back : spot read openings.Old (slots.Keys c.args.pairs.key c.args.pairs.value (left - 1) ∷ up) (standing d (passed (turned level ∷ outer))) ≡ done = rw ((turns outer).1, less) refl in
          takes_then source target g.R.ReadRules.stands_at g.W.WireWrite.stands_at c.args.frame.now first here done
          c.args.cells.now c.pairs.cells c.keep_value-in-pairs.new.cells c.args.pairs.behind c.pairs.at read (inv.takes level up outer turns key value deep)
          (takes_then source target g.R.ReadRules.stands_at g.W.WireWrite.stands_at c.args.frame.now here turn done
          c.pairs.cells c.keep_value.new.cells c.keep_value-in-pairs.new.cells c.pairs.at mid read
          (subst (λ (b : Spot). Takes source target g.R.ReadRules.stands_at g.W.WireWrite.stands_at c.args.frame.now here b c.pairs.cells c.pairs.at c.keep_value.new.cells mid) turned_so
          (c.in_ok-turn.ensures.keeps (called_for (Some level)) key (key_opening c.pairs.stand) (slots.Keys c.args.pairs.key c.args.pairs.value left ∷ up) (level ∷ outer) (inv.key left up more) (omega (arith, deep))))
          (subst (λ (b : Spot). Takes source target g.R.ReadRules.stands_at g.W.WireWrite.stands_at c.args.frame.now turn b c.keep_value.new.cells mid c.keep_value-in-pairs.new.cells read) back
          (c.in_ok-at.ensures.keeps (called_for (Some (turned level))) value openings.Old (slots.Values c.args.pairs.key c.args.pairs.value left ∷ up) (turned level ∷ outer) refl (omega (arith, deep)))));
    }

pub call_pairs-returns-clause-mirrors : goal.call_pairs-returns-clause-mirrors
call_pairs-returns-clause-mirrors g t c =
    if_some _ _ c.keep_end.result (λ (x : ℕ) within. mirrors_on c.pairs.cells c.args.frame.now c.pairs.at x within.0 c.pairs.invariant.mirrors) c.keep_end.ensures.within

pub call_pairs-returns-clause-keeps : goal.call_pairs-returns-clause-keeps
call_pairs-returns-clause-keeps g t c =
    let source = source_in g.R.ReadRules in
    let target = target_in g.W.WireWrite in
    let d = c.args.schema.now in
    let inv = c.pairs.invariant in
    let none : c.args.pairs.size - c.pairs.i ≡ 0 = omega arith in
    if_both _ _ _ c.keep_end.result (λ (x : ℕ) within keeps level turns key value up outer deep.
    let p : Position = standing d (level ∷ outer) in
    let first : Spot = spot c.args.pairs.behind openings.New (slots.Keys c.args.pairs.key c.args.pairs.value c.args.pairs.size ∷ up) p in
    let opening = key_opening c.pairs.stand in
    let nest : List Slot = slots.Keys c.args.pairs.key c.args.pairs.value 0 ∷ up in
    takes_then source target g.R.ReadRules.stands_at g.W.WireWrite.stands_at c.args.frame.now
    first (spot c.pairs.at opening nest p) (spot x openings.Old up (standing d outer))
    c.args.cells.now c.pairs.cells c.pairs.cells c.args.pairs.behind c.pairs.at x
    (subst (λ (left : ℕ). Takes source target g.R.ReadRules.stands_at g.W.WireWrite.stands_at c.args.frame.now first (spot c.pairs.at opening (slots.Keys c.args.pairs.key c.args.pairs.value left ∷ up) p) c.args.cells.now c.args.pairs.behind c.pairs.cells c.pairs.at) none (inv.takes level up outer turns key value deep))
    (takes_item source target g.R.ReadRules.stands_at g.W.WireWrite.stands_at c.args.frame.now g.R.ReadRules.pays g.met.W.FormWrite.goes_on
    c.pairs.at x opening nest p end c.pairs.cells c.pairs.cells c.pairs.at x (omega arith) (keeps.0 opening nest (hint_of p) refl)
    (spells_mirrored target.bar target.plain g.W.WireWrite.stands_at c.args.frame.now c.pairs.cells c.pairs.at x opening nest (mark_of p end) end within.0 inv.mirrors (keeps.1 opening nest (mark_of p end) refl)))) c.keep_end.ensures.within c.keep_end.ensures.keeps
