use Rattle.std.proofs.Common.{◌∙◌, ap, sym}
use Rattle.std.specs.Prelude.{option_map, slice_get}
use Rattle.type_tables.proofs.Named.{named_get}
use Rattle.type_tables.proofs.names.NameTable.at.Goals as goal

pub returns-in-Some : goal.returns-in-Some
returns-in-Some g c =
    let es = c.self.inside.entries.entries in
    let e = ap (λ r. option_map (λ p. (p.0.now, p.1.now)) r) (sym c.in-Some.is) ∙ c.get_index.ensures.entry in
    ap (λ r. option_map (λ p. p.1) r) e ∙ sym (named_get es c.args.place) ∙ ap (λ l. option_map (λ p. p.1) (slice_get l c.args.place)) c.self.view_is

pub returns-in-None : goal.returns-in-None
returns-in-None g c =
    let es = c.self.inside.entries.entries in
    let e = ap (λ r. option_map (λ p. (p.0.now, p.1.now)) r) (sym c.in-None.is) ∙ c.get_index.ensures.entry in
    ap (λ r. option_map (λ p. p.1) r) e ∙ sym (named_get es c.args.place) ∙ ap (λ l. option_map (λ p. p.1) (slice_get l c.args.place)) c.self.view_is
