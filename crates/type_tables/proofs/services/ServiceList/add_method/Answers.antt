use Rattle.std.proofs.Common.{◌≡◌, ◌<◌, ◌∙◌, ap, sym, subst, rules, List, [], ◌∷◌, ◌++◌, ℕ, refl, length}
use Rattle.type_tables.specs.declared.services.ServiceDecl.{ServiceDecl}
use Rattle.type_tables.specs.Names.{name_place}
use Rattle.type_tables.specs.Services.{ServiceLists}
use Rattle.type_tables.proofs.Methods.{methods_are, kept, added}
use Rattle.type_tables.proofs.services.ServiceList.add_method.Goals as goal

pub returns-in-Some : goal.returns-in-Some
returns-in-Some c =
    let ts = c.self.inside.list.items in
    let d = c.index_mut.result.now in
    let below = subst (λ (s : ServiceLists). c.args.service.0 < length s.list) (sym c.self.view_is) c.requires in
    let place = ap (λ (n : List ℕ). name_place n d.methods) (sym c.as_slice.ensures) ∙ sym c.place.ensures ∙ c.in-Some.is in
    let old = c.args.self.now in (
      ap (name_place c.args.name) (sym (methods_are old ts c.self.inside.names c.args.service.0 d below c.index_mut.ensures.value c.self.view_is)) ∙ place,
      kept old ts c.self.inside.names c.args.service.0 d below c.index_mut.ensures.value c.self.view_is,
    )

pub returns-then-is_err : goal.returns-then-is_err
returns-then-is_err c =
    let ts = c.self.inside.list.items in
    let d = c.index_mut.result.now in
    let below = subst (λ (s : ServiceLists). c.args.service.0 < length s.list) (sym c.self.view_is) c.requires in
    let place = ap (λ (n : List ℕ). name_place n d.methods) (sym c.as_slice.ensures) ∙ sym c.place.ensures ∙ c.in_default.is in
    let same : c.push.new.self ≡ d.methods = search rules in
    let old = c.args.self.now in (
      ap (name_place c.args.name) (sym (methods_are old ts c.self.inside.names c.args.service.0 d below c.index_mut.ensures.value c.self.view_is)) ∙ place,
      rw same (kept old ts c.self.inside.names c.args.service.0 d below c.index_mut.ensures.value c.self.view_is),
    )

pub returns : goal.returns
returns c =
    let ts = c.self.inside.list.items in
    let d = c.index_mut.result.now in
    let x : ServiceDecl = record { base = d.base; methods = c.push.new.self } in
    let below = subst (λ (s : ServiceLists). c.args.service.0 < length s.list) (sym c.self.view_is) c.requires in
    let place = ap (λ (n : List ℕ). name_place n d.methods) (sym c.as_slice.ensures) ∙ sym c.place.ensures ∙ c.in_default.is in
    let more : c.push.new.self ≡ d.methods ++ (c.args.name, c.args.method) ∷ [] = search rules in
    let old = c.args.self.now in (
      ap (name_place c.args.name) (sym (methods_are old ts c.self.inside.names c.args.service.0 d below c.index_mut.ensures.value c.self.view_is)) ∙ place,
      added old ts c.self.inside.names c.args.service.0 d below c.index_mut.ensures.value c.self.view_is x c.args.name c.args.method refl more,
    )
