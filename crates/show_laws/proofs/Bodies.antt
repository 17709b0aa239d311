-- A frame that is shown, from any reader.
use Rattle.std.proofs.Common.{◌≡◌, ℕ, ◌<◌, List, [], ◌∷◌, ◌++◌, None, Ok, Err, refl, ap, ◌∙◌, sym}
use Rattle.thrift_value.specs.Items.{Item}
use Rattle.protocol_traits.specs.declared.fault.Fault.{Fault}
use Rattle.protocol_traits.specs.Heads.{Header}
use Rattle.type_walk.specs.Positions.{Position, hint_of, after}
use Rattle.translate_core.specs.Answers.{TakesAll, marked, spelled}
use Rattle.translate_verdicts.specs.Body.{Source, going, whole}
use Rattle.translate_verdicts.specs.Positions.{typed}
use Rattle.translate_verdicts.proofs.Whole.{whole_end}
use Rattle.message_show.specs.Line.{begun, head_text, line_end}
use Rattle.message_show.specs.Shown.{Place, Line, Refused, Unread, place, line_target, shown_by, after_head}
use Rattle.verdict_laws.specs.Following.{behind, Follows}
use Rattle.verdict_laws.proofs.Bodies.{IsNested, writers, whole_follows, whole_faults, whole_ends}

module _ {S : Type 0} (source : Source S) (level : S → ℕ) (nested : IsNested source level) (start : Header → Position) (frame : List ℕ) where
  shown_head : (header : Header) (first : S) → source.reads_head (source.begun frame) ≡ Ok (header, first) → shown_by source start frame ≡ after_head source start (Ok (header, first))
  unfolding shown_by
  shown_head header first e = rw e refl

  pub shown_unread : (f : Fault) → source.reads_head (source.begun frame) ≡ Err f → shown_by source start frame ≡ Unread f
  unfolding shown_by
  shown_unread f e = rw e refl

  none_barred : (p : Position) (q : Place) (items : List Item) → TakesAll (line_target q).bar (marked p items)
  none_barred p q [] = tt
  none_barred p q (item ∷ items) = (refl, none_barred (after p item) q items)

  module _ (header : Header) (first last : S) (items : List Item) (headed : source.reads_head (source.begun frame) ≡ Ok (header, first)) (body : level first ≡ 1) (follows : Follows source first (start header) items last) where
    abbrev p : Position
    p = start header

    abbrev q : Place
    q = place p begun

    abbrev text : List ℕ
    text = head_text header ++ spelled (line_target q).plain (line_target q).after q (marked p items)

    -- the frame is read to its end
    pub shown_whole : level last ≡ 0 → source.reads_end last ≡ Ok (tt, last) → shown_by source start frame ≡ Line (text ++ line_end)
    shown_whole none ends =
        let target = line_target q in
        let at_last = going last (behind p items) (writers target q (marked p items)) 0 None text in
        let is : whole source typed target (going first p q 1 None (head_text header)) ≡ Ok at_last =
        ap (λ d. whole source typed target (going first p q d None (head_text header))) (sym body)
        ∙ whole_follows source target level nested items first last p q (head_text header) follows (none_barred p q items)
        ∙ ap (λ d. whole source typed target (going last (behind p items) (writers target q (marked p items)) d None text)) none
        ∙ whole_end source typed target nested.pays at_last refl in
        shown_head header first headed ∙ rw (is, ends) refl

    -- a fault stands where an item is called for
    pub shown_faulty : (f : Fault) → 0 < level last → source.reads last (hint_of (behind p items)) ≡ Err f → shown_by source start frame ≡ Refused f
    shown_faulty f some e =
        let target = line_target q in
        let is : whole source typed target (going first p q 1 None (head_text header)) ≡ Err f = whole_faults source target level nested items last (going first p q 1 None (head_text header)) f follows (sym body) some e in
        shown_head header first headed ∙ rw is refl

    -- a fault stands behind the body
    pub shown_trailing : (f : Fault) → level last ≡ 0 → source.reads_end last ≡ Err f → shown_by source start frame ≡ Refused f
    shown_trailing f none e =
        let target = line_target q in
        let r = whole_ends source target level nested items last (going first p q 1 None (head_text header)) follows (sym body) none in
        let ends : source.reads_end r.0.reader ≡ Err f = ap source.reads_end r.2 ∙ e in
        shown_head header first headed ∙ rw (r.1, ends) refl
