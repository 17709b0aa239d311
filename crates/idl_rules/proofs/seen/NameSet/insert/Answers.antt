use Rattle.std.proofs.Common.{◌≡◌, ◌∙◌, ap, sym, Bool, not, nat_eq, refl, true, false, cond}
use Rattle.std.specs.Cmp.Lexicographic.{pointwise}
use Rattle.std.specs.Prelude.{◌||◌}
use Rattle.std.specs.List.{list_any}
use Rattle.idl_rules.specs.Doubles.{is_among}
use Rattle.idl_rules.proofs.Sets.{seen_through, text_same}
use Rattle.idl_rules.proofs.seen.NameSet.insert.Goals as goal

twice : (b : Bool) → not (not b) ≡ b
twice true = refl
twice false = refl

either : (a b : Bool) → cond a true b ≡ a || b
either true b = refl
either false b = refl

pub returns-clause-told : goal.returns-clause-told
returns-clause-told c =
    let name = c.args.name.now in
    let keys = c.self.inside.names.keys in
    ap not c.in_ok-new.ensures.added ∙ twice (list_any (λ k. pointwise nat_eq name k.now) keys) ∙ seen_through (λ k. k.now) name keys ∙ ap (is_among name) c.self.view_is

pub returns-clause-kept : goal.returns-clause-kept
returns-clause-kept c name =
    let word = record c.args.name { now = name } in
    let before = c.self.inside.names.keys in
    sym (seen_through (λ k. k.now) name c.insert_full.new.self.keys)
    ∙ c.in_ok-new.ensures.updates.0 word
    ∙ either (pointwise nat_eq c.args.name.now name) (list_any (λ k. pointwise nat_eq name k.now) before)
    ∙ ap (λ b. b || list_any (λ k. pointwise nat_eq name k.now) before) (text_same c.args.name.now name)
    ∙ ap (λ b. pointwise nat_eq name c.args.name.now || b) (seen_through (λ k. k.now) name before ∙ ap (is_among name) c.self.view_is)
