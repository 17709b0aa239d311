-- A frame that is checked, from any reader.
use Rattle.std.proofs.Common.{◌≡◌, ℕ, ◌<◌, List, [], ◌∷◌, Option, None, Ok, Err, refl, ap, ◌∙◌, sym}
use Rattle.thrift_value.specs.Items.{Item}
use Rattle.type_tables.specs.declared.declared.ServiceId.{ServiceId}
use Rattle.type_tables.specs.declared.declared.StructId.{StructId}
use Rattle.type_tables.specs.Declarations.{Declarations}
use Rattle.protocol_traits.specs.declared.fault.Fault.{Fault}
use Rattle.protocol_traits.specs.Heads.{Header}
use Rattle.type_walk.specs.Positions.{Position, hint_of, after, start}
use Rattle.translate_verdicts.specs.declared.route.Route.TheVariants.{ByName}
use Rattle.translate_core.specs.Answers.{TakesAll, marked, spelled}
use Rattle.translate_verdicts.specs.Body.{Source, going, whole}
use Rattle.translate_verdicts.specs.Positions.{typed}
use Rattle.translate_verdicts.specs.Routes.{body_of}
use Rattle.translate_verdicts.proofs.Whole.{whole_end}
use Rattle.conform_check.specs.Checking.{Checking, Refused, Unread, after_head, begun, check_target, checked_by, found}
use Rattle.verdict_laws.specs.Following.{behind, Follows}
use Rattle.verdict_laws.proofs.Bodies.{IsNested, writers, whole_follows, whole_faults, whole_ends}
use Rattle.conform_laws.proofs.Running.{run}

-- what a target that writes nothing writes
nothing_written : (b c : Checking) (p : Position) (items : List Item) → spelled (check_target b).plain (check_target b).after c (marked p items) ≡ []
nothing_written b c p [] = refl
nothing_written b c p (item ∷ items) = nothing_written b ((check_target b).after c item (typed.mark p item)) (after p item) items

run_by : (b c : Checking) (p : Position) (items : List Item) → writers (check_target b) c (marked p items) ≡ run c items
run_by b c p [] = refl
run_by b c p (item ∷ items) = run_by b ((check_target b).after c item (typed.mark p item)) (after p item) items

none_barred : (b : Checking) (p : Position) (items : List Item) → TakesAll (check_target b).bar (marked p items)
none_barred b p [] = tt
none_barred b p (item ∷ items) = (refl, none_barred b (after p item) items)

module _ {S : Type 0} (source : Source S) (level : S → ℕ) (nested : IsNested source level) (d : Declarations) (service : Option ServiceId) (frame : List ℕ) where
  checked_head : (header : Header) (first : S) → source.reads_head (source.begun frame) ≡ Ok (header, first) → checked_by source d service frame ≡ after_head source d service (Ok (header, first))
  unfolding checked_by
  checked_head header first e = rw e refl

  pub checked_unread : (f : Fault) → source.reads_head (source.begun frame) ≡ Err f → checked_by source d service frame ≡ Unread f
  unfolding checked_by
  checked_unread f e = rw e refl

  abbrev pub body : Header → Option StructId
  body header = body_of d (ByName service) header

  module _ (header : Header) (first last : S) (items : List Item) (headed : source.reads_head (source.begun frame) ≡ Ok (header, first)) (open_body : level first ≡ 1)
      (follows : Follows source first (start d (body header)) items last) where
    abbrev c : Checking
    c = begun d (body header)

    abbrev p : Position
    p = start d (body header)

    -- the frame is read to its end
    pub checked_whole : level last ≡ 0 → source.reads_end last ≡ Ok (tt, last) → checked_by source d service frame ≡ found (run c items).first
    checked_whole none ends =
        let target = check_target c in
        let at_last = going last (behind p items) (run c items) 0 None [] in
        let is : whole source typed target (going first p c 1 None []) ≡ Ok at_last =
        ap (λ n. whole source typed target (going first p c n None [])) (sym open_body)
        ∙ whole_follows source target level nested items first last p c [] follows (none_barred c p items)
        ∙ ap (λ n. whole source typed target (going last (behind p items) (writers target c (marked p items)) n None (spelled target.plain target.after c (marked p items)))) none
        ∙ ap (λ w. whole source typed target (going last (behind p items) w 0 None (spelled target.plain target.after c (marked p items)))) (run_by c c p items)
        ∙ ap (λ b. whole source typed target (going last (behind p items) (run c items) 0 None b)) (nothing_written c c p items)
        ∙ whole_end source typed target nested.pays at_last refl in
        checked_head header first headed ∙ rw (is, ends) refl

    -- a fault stands where an item is called for
    pub checked_faulty : (f : Fault) → 0 < level last → source.reads last (hint_of (behind p items)) ≡ Err f → checked_by source d service frame ≡ Refused f
    checked_faulty f some e =
        let target = check_target c in
        let is : whole source typed target (going first p c 1 None []) ≡ Err f = whole_faults source target level nested items last (going first p c 1 None []) f follows (sym open_body) some e in
        checked_head header first headed ∙ rw is refl

    -- a fault stands behind the body
    pub checked_trailing : (f : Fault) → level last ≡ 0 → source.reads_end last ≡ Err f → checked_by source d service frame ≡ Refused f
    checked_trailing f none e =
        let target = check_target c in
        let r = whole_ends source target level nested items last (going first p c 1 None []) follows (sym open_body) none in
        let ends : source.reads_end r.0.reader ≡ Err f = ap source.reads_end r.2 ∙ e in
        checked_head header first headed ∙ rw (r.1, ends) refl
