use Rattle.std.proofs.Common.{arith, ◌<◌, sym, subst, List, [], ◌∷◌, ◌++◌, length, refl}
use Rattle.std.specs.Prelude.{slice_set}
use Rattle.type_tables.specs.Adding.{Adds}
use Rattle.type_tables.specs.Declarations.{Declarations, with_field}
use Rattle.type_tables.specs.Fields.{place_of}
use Rattle.type_tables.specs.Structs.{fields_of, structs_with}
use Rattle.type_tables.specs.declared.tables.StructDecl.{StructDecl}
use Rattle.type_tables.proofs.Adding.{field_added, lifted}
use Rattle.type_tables.proofs.tables.Tables.add_field.Goals as goal
use Rattle.std.proofs.lemmas.Grind.{elements}

pub returns : goal.returns
returns c =
    let inside = c.self.inside in
    let ts = inside.structs.items in
    let s = c.args.s.0 in
    let field = c.args.field in
    let d = c.index_mut.result.now in
    let x : StructDecl = record { form = d.form; fields = c.push.new.self } in
    let below = subst (λ (all : Declarations). s < length all.structs) (sym c.self.view_is) c.requires.known in
    let added = field_added ts s d x field below c.index_mut.ensures.value refl c.push.result c.push.ensures in
    let whole = λ (structs : List StructDecl). let all : Declarations = record {
      types = inside.types.items;
      enums = inside.enums.items;
      structs = structs;
      services = inside.services.list;
      names = inside.services.names;
      files = inside.files;
    } in all in
    let now = whole (slice_set ts s x) in
    let all = lifted whole (place_of field.id (fields_of ts s)) ts (slice_set ts s x) (λ (u : Unit {0}). structs_with ts s (fields_of ts s ++ field ∷ [])) (λ u. with_field (whole ts) s field) c.push.result (λ u. refl) added in
    subst (λ (old : Declarations). Adds (place_of field.id (fields_of old.structs s)) old now (λ (u : Unit {0}). with_field old s field) c.push.result) c.self.view_is all

pub push-requires : goal.push-requires
push-requires c = grind (arith, elements)
