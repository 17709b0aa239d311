-- The verdict on a frame of Binary.
use Rattle.std.proofs.Common.{◌≡◌, ◌^◌, ◌∙◌, append_assoc, Option, Some, ℕ, Bool, true, false, ◌+◌, ◌<◌, ◌≤◌, List, [], ◌∷◌, ◌++◌, length, None, Ok, Err, refl, ap, sym, subst, arith, ◌⊎◌, inl, inr}
use Rattle.std.specs.Prelude.{IfOk}
use Rattle.thrift_value.specs.Items.{Item}
use Rattle.thrift_value.specs.Trees.{Message, items_of_members, depth_of_members}
use Rattle.protocol_traits.specs.declared.fault.Bar.{Bar}
use Rattle.protocol_traits.specs.declared.fault.Fault.{Fault}
use Rattle.protocol_traits.specs.declared.nest.Slot.{Slot}
use Rattle.protocol_traits.specs.declared.proto.Proto.{Proto}
use Rattle.protocol_traits.specs.declared.proto.Proto.TheVariants as protocols
use Rattle.protocol_traits.specs.Heads.{Header}
use Rattle.protocol_traits.specs.Stack.{first_of}
use Rattle.type_tables.specs.Declarations.{Declarations}
use Rattle.type_walk.specs.Positions.{Position, mark_of, after}
use Rattle.translate_verdicts.specs.declared.route.Route.{Route}
use Rattle.translate_verdicts.specs.declared.verdict.Verdict.TheVariants.{Passed}
use Rattle.translate_verdicts.specs.Positions.{typed}
use Rattle.translate_verdicts.specs.Routes.{start_of, info_of}
use Rattle.translate_verdicts.specs.Body.{TargetRules}
use Rattle.translate_verdicts.specs.Judged.{judge, judged}
use Rattle.translate_core.specs.Answers.{TakesAll, marked}
use Rattle.translate_verdicts.proofs.Judging.{judge_err}
use Rattle.protocol_pairs.specs.Pairs.{binary_source, json_target, binary_target, compact_target}
use Rattle.protocol_pairs.specs.Pairs as pairs
use Rattle.binary_protocol.specs.Grammar.{BinarySpells}
use Rattle.binary_protocol.specs.Reading.{State, begun, reads, reads_head, reads_end}
use Rattle.binary_protocol.specs.Laws.{reads_pays, reads_nests, reads_none, reads_head_pays, begins}
use Rattle.gate_base.specs.Bytes.{AreBytes}
use Rattle.binary_laws.specs.Reads.{Reads, IsRead, header_of_message}
use Rattle.binary_laws.specs.Refused.{Refuses, IsRefused}
use Rattle.binary_protocol.specs.Codes.{code_of_type}
use Rattle.binary_protocol.specs.Grammar.{SpellsStrictHeader, SpellsOldHeader, string, number}
use Rattle.binary_protocol.specs.Heads.{name_place}
use Rattle.binary_protocol.specs.Reading.{scan_at, rest, body_open}
use Rattle.binary_laws.proofs.Inverse.{bytes_front}
use Rattle.binary_laws.proofs.Headed.{head_read}
use Rattle.binary_laws.proofs.Sound.{moved_read, begun_read}
use Rattle.binary_laws.proofs.Spelled.{At}
use Rattle.binary_laws.proofs.Pinned.{reads_wide}
use Rattle.verdict_laws.specs.Following.{Follows, behind}
use Rattle.verdict_laws.specs.Spellings.{plain_of}
use Rattle.verdict_laws.specs.Bars.{the_name, behind_items, name_bar_in, bar_in, OfName, OfItem, BinaryPlace}
use Rattle.verdict_laws.specs.Verdicts.{IsPlain}
use Rattle.verdict_laws.proofs.Barred.{FirstBarred, AllTaken, StopsAt, first_barred, takes_as}
use Rattle.verdict_laws.proofs.Readings.{IsReadVerdict}
use Rattle.verdict_laws.proofs.Readings.IsReadVerdict.{ReadPasses, ReadBarred, ReadFaulty, ReadUnread}
use Rattle.verdict_laws.proofs.Bodies.{IsNested, follows_apart, judged_name, judged_item, judged_whole, judged_faulty, judged_trailing}
use Rattle.verdict_laws.proofs.Firm.{members_firm}
use Rattle.binary_laws.proofs.Either.{read_or_refused}
use Rattle.binary_laws.proofs.Sound.{read_spelled}
use Rattle.binary_laws.proofs.Spelled.{spelled_read}
use Rattle.binary_protocol.specs.Reading.{ahead}
use Rattle.protocol_traits.specs.Room.{weight, head_weight, IsSized}
use Rattle.protocol_traits.specs.declared.proto.Mark.{Mark}
use Rattle.std.specs.Int.{w32}
use Rattle.verdict_laws.proofs.Ranges.{binary_message}
use Rattle.verdict_laws.proofs.Sizes.{members_sized, short}
use Rattle.protocol_traits.specs.Steps.{Step}
use Rattle.std.proofs.lemmas.Bool.Decides.{nat_tests}
use Rattle.std.specs.Prelude.{nat_le, slice_index, ◌==◌, if◌then◌else◌, ◌*◌, FitsSigned}
use Rattle.translate_verdicts.specs.Judged.{Judged}

pub some_levels : (nest : List Slot) → (nest ≡ [] → ⊥) → 0 < length nest
some_levels [] some = absurd (some refl)
some_levels (slot ∷ up) some = omega arith

abbrev pub levels : State → ℕ
levels s = length s.nest

all_ok : {X : Type 0} {P : Type 0} → (r : Step X Item) → P → IfOk r (λ x. P)
all_ok (Ok x) p = p
all_ok (Err f) p = tt

open_read : (s : State) → IfOk (reads s) (λ x. 0 < length s.nest)
open_read s = by_nest s.nest refl
  where
    by_nest : (nest : List Slot) → s.nest ≡ nest → IfOk (reads s) (λ x. 0 < length s.nest)
    by_nest [] e = subst (λ r. IfOk r (λ x. 0 < length s.nest)) (sym (reads_none s (ap first_of e))) tt
    by_nest (slot ∷ up) e = let some : 0 < length s.nest = subst (λ n. 0 < n) (sym (ap length e)) (omega arith) in all_ok (reads s) some

pub nested : IsNested binary_source levels
nested = record { pays = (λ s hint. reads_pays s); open_level = (λ s hint. open_read s); nests = (λ s hint. reads_nests s) }

pub follows : (items : List Item) (s last : State) (p : Position) → Reads s items last → Follows binary_source s p items last
follows [] s last p e = e
follows (item ∷ items) s last p (next, e, more) = (next, e, follows items next last (after p item) more)

ended : (b : Bool) (x : Step State (Unit {0})) (f : Fault) (r : Unit {0} × State) → (if b then x else Err f) ≡ Ok r → b ≡ true
ended true x f r e = refl
ended false x f r e = absurd (cc)

pub end_closed : (s last : State) → reads_end s ≡ Ok (tt, last) → length s.nest ≡ 0
unfolding reads_end
end_closed s last e = let z = ended (length s.nest == 0) _ _ (tt, last) e in grind (arith, nat_tests)

pub body_level : (frame : List ℕ) (header : Header) (first : State) → reads_head (begun frame) ≡ Ok (header, first) → length first.nest ≡ 1
body_level frame header first e = (subst (λ r. IfOk r (λ x. (head_weight (length x.0.name) + ahead x.1 ≤ ahead (begun frame)) × (length x.1.nest ≡ 1))) e (reads_head_pays (begun frame))).1

module _ (d : Declarations) (route : Route) (to : Proto) (frame : List ℕ) {T : Type 0} (target : TargetRules T) where
  abbrev verdict : Judged
  verdict = judge binary_source typed (start_of d route) (info_of d route) target frame

  -- a frame that spells a message passes with its plain spelling, where the target holds it
  pub binary_passes : (m : Message) → BinarySpells m frame → depth_of_members m.body < 256 → target.name_bar m.name ≡ None
      → TakesAll target.bar (marked (start_of d route (header_of_message m)) (items_of_members m.body)) → verdict ≡ judged (Passed (info_of d route (header_of_message m))) (plain_of target d route m)
  binary_passes m spells deep free taken =
      let r = spelled_read m frame spells deep in
      let p = start_of d route (header_of_message m) in
      judged_whole binary_source target levels nested (start_of d route) (info_of d route) frame (header_of_message m) r.0 r.1 (items_of_members m.body) r.2 (body_level frame (header_of_message m) r.0 r.2)
      (follows (items_of_members m.body) r.0 r.1 p r.3) free taken (end_closed r.1 r.1 r.4) r.4

  -- and that is so long at most
  pub binary_short : ((w : T) (item : Item) (mark : Mark) → IsSized item → length (target.plain w item mark) ≤ weight item) → ((h : Header) → FitsSigned w32 h.seq → length (target.plain_head h) ≤ head_weight (length h.name))
      → (m : Message) → BinarySpells m frame → depth_of_members m.body < 256 → length (plain_of target d route m) ≤ 24 * length frame + 256
  binary_short light light_head m spells deep =
      let r = spelled_read m frame spells deep in
      let p = start_of d route (header_of_message m) in
      let is = binary_message m frame spells in
      let sized = members_sized m.body is.body (members_firm m.body spells.2.1 spells.2.3) in
      let head = (subst (λ x. IfOk x (λ y. (head_weight (length y.0.name) + ahead y.1 ≤ ahead (begun frame)) × (length y.1.nest ≡ 1))) r.2 (reads_head_pays (begun frame))).0 in
      let begin = begins frame in
      short target light binary_source levels nested (header_of_message m) (items_of_members m.body) r.0 r.1 p (length frame) (follows (items_of_members m.body) r.0 r.1 p r.3) sized (light_head (header_of_message m) is.seq) (omega (arith, head, begin))

-- ---- the verdict, whatever is barred

-- how a frame's header and its items are read, and where they stand
abbrev place_of : State → ℕ
place_of s = s.value

value_is : (s next : State) (item : Item) → reads s ≡ Ok (item, next) → next.value ≡ s.place
unfolding reads
value_is s next item e = let m = moved_read s (scan_at (first_of s.nest) (length s.nest) (rest s)) item next e in ap (λ (x : State). x.value) m.2

reads_back : (items : List Item) (s last : State) (p : Position) → Follows binary_source s p items last → Reads s items last
reads_back [] s last p e = e
reads_back (item ∷ items) s last p (next, e, more) = (next, e, reads_back items next last (after p item) more)

name_place_is : (frame : List ℕ) → AreBytes frame → (m : Message) (first : State) → reads_head (begun frame) ≡ Ok (header_of_message m, first) → BinaryPlace m frame the_name first.value
name_place_is frame are m first e =
    let r = begun_read frame (header_of_message m) first e in
    let x = head_read frame are (header_of_message m) r.0 r.1 in
    by_form x.small x.header x.body x.laid (ap (λ (s : State). s.value) r.2) (x.spells m.body)
  where
    by_form : length m.name < 2 ^ 31 → (header body : List ℕ) → frame ≡ header ++ body → first.value ≡ 0 + name_place frame → SpellsStrictHeader m header ⊎ SpellsOldHeader m header → BinaryPlace m frame the_name first.value
    by_form small header body laid value (inl (unused, byte, is)) =
        let four : name_place frame ≡ 4 = ap name_place (laid ∙ ap (λ l. l ++ body) is) in
        (header, body, laid, inl ((unused, byte, is), omega (arith, value, four)))
    by_form small header body laid value (inr is) =
        let tail = code_of_type m.mtype ∷ number w32 m.seq in
        let all = string m.name ++ (tail ++ body) in
        let whole : frame ≡ all = laid ∙ (ap (λ l. l ++ body) is ∙ append_assoc (string m.name) tail body) in
        let low : nat_le 128 (slice_index all 0) ≡ false = grind (arith, nat_tests, small) in
        let none : name_place frame ≡ 0 = ap name_place whole ∙ ap (λ b. if b then 4 else 0) low in
        (header, body, laid, inr (is, omega (arith, value, none)))

item_place_is : (frame : List ℕ) → AreBytes frame → (m : Message) (first mid next : State) (before : List Item) (item : Item) → reads_head (begun frame) ≡ Ok (header_of_message m, first) → Reads first before mid → reads mid ≡ Ok (item, next)
    → BinaryPlace m frame (behind_items before) next.value
item_place_is frame are m first mid next before item headed body step =
    let r = begun_read frame (header_of_message m) first headed in
    let x = head_read frame are (header_of_message m) r.0 r.1 in
    let at : At first body_open x.body = subst (λ s. At s body_open x.body) (sym r.2) (record { front = x.header; open_levels = refl; laid = x.laid; place = omega (arith, x.long) }) in
    let body_are = (bytes_front x.header x.body (subst AreBytes x.laid are)).1 in
    let wide = reads_wide before first mid body_open x.body at body_are (omega arith) body in
    let start : first.place ≡ length x.header = ap (λ (s : State). s.place) r.2 ∙ omega (arith, x.long) in
    (x.header, x.body, x.laid, x.spells m.body, omega (arith, value_is mid next item step, wide, start))

module _ (d : Declarations) (route : Route) (to : Proto) (frame : List ℕ) (are : AreBytes frame) {T : Type 0} (target : TargetRules T)
    (name_is : (name : List ℕ) → target.name_bar name ≡ name_bar_in to name) (bar_is : (item : Item) (mark : Mark) → target.bar item mark ≡ bar_in to item mark)
    (plain : (m : Message) → IsPlain to d route m (plain_of target d route m)) where
  abbrev verdict_on : Judged
  verdict_on = judge binary_source typed (start_of d route) (info_of d route) target frame

  abbrev Is : Type 0
  Is = IsReadVerdict binary_source BinarySpells IsRefused BinaryPlace d route to frame verdict_on

  module _ (m : Message) (spells : BinarySpells m frame) (deep : depth_of_members m.body < 256) (first last : State) (headed : reads_head (begun frame) ≡ Ok (header_of_message m, first))
      (body : Reads first (items_of_members m.body) last) (ends : reads_end last ≡ Ok (tt, last)) where
    abbrev p : Position
    p = start_of d route (header_of_message m)

    all_follow : Follows binary_source first p (items_of_members m.body) last
    all_follow = follows (items_of_members m.body) first last p body

    passes_whole : name_bar_in to m.name ≡ None → TakesAll (bar_in to) (marked p (items_of_members m.body)) → Is
    passes_whole free taken =
        ReadPasses m (plain_of target d route m) spells deep (free, taken) (plain m)
        (judged_whole binary_source target levels nested (start_of d route) (info_of d route) frame (header_of_message m) first last (items_of_members m.body) headed (body_level frame (header_of_message m) first headed) all_follow
        (name_is m.name ∙ free) (takes_as (bar_in to) target.bar bar_is (items_of_members m.body) p taken) (end_closed last last ends) ends)

    name_barred : (bar : Bar) → name_bar_in to m.name ≡ Some bar → Is
    name_barred bar e =
        ReadBarred m the_name first.value bar spells deep (OfName bar e) (name_place_is frame are m first headed)
        (judged_name binary_source target levels nested (start_of d route) (info_of d route) frame (header_of_message m) first last (items_of_members m.body) headed (body_level frame (header_of_message m) first headed) all_follow
        bar (name_is m.name ∙ e) (end_closed last last ends) ends)

    item_barred : (before rest : List Item) (item : Item) (bar : Bar) → name_bar_in to m.name ≡ None → items_of_members m.body ≡ before ++ item ∷ rest → TakesAll (bar_in to) (marked p before)
        → bar_in to item (mark_of (behind p before) item) ≡ Some bar → Is
    item_barred before rest item bar free laid taken e =
        let cut = follows_apart binary_source target levels nested before (item ∷ rest) first last p (subst (λ l. Follows binary_source first p l last) laid all_follow) in
        let mid = cut.0 in
        let next = cut.2.0 in
        ReadBarred m (behind_items before) next.value bar spells deep (OfItem before rest item bar free laid taken e)
        (item_place_is frame are m first mid next before item headed (reads_back before first mid p cut.1) cut.2.1)
        (judged_item binary_source target levels nested (start_of d route) (info_of d route) frame (header_of_message m) first last (items_of_members m.body) headed (body_level frame (header_of_message m) first headed) all_follow
        before rest item bar mid next (name_is m.name ∙ free) cut.1 cut.2.1 cut.2.2 (takes_as (bar_in to) target.bar bar_is before p taken) (bar_is item (mark_of (behind p before) item) ∙ e) (end_closed last last ends) ends)

    by_item : name_bar_in to m.name ≡ None → FirstBarred (bar_in to) p (items_of_members m.body) → Is
    by_item free (AllTaken taken) = passes_whole free taken
    by_item free (StopsAt before rest item bar laid taken e) = item_barred before rest item bar free laid taken e

    by_name : (found : Option Bar) → name_bar_in to m.name ≡ found → Is
    by_name None e = by_item e (first_barred (bar_in to) (items_of_members m.body) p)
    by_name (Some bar) e = name_barred bar e

  read_is : (header : Header) (items : List Item) → IsRead frame header items → Is
  read_is header items (first, last, headed, reads, ends) =
      let m = read_spelled frame header items are (first, last, headed, reads, ends) in
      by_name m.0 m.4 m.3 first last (subst (λ h. reads_head (begun frame) ≡ Ok (h, first)) m.1 headed) (subst (λ xs. Reads first xs last) m.2 reads) ends (name_bar_in to m.0.name) refl

  refused_is : (f : Fault) → IsRefused frame f → IsReadVerdict binary_source BinarySpells IsRefused BinaryPlace d route to frame verdict_on
  refused_is f (inl e) = ReadUnread f e (inl e) (judge_err binary_source typed (start_of d route) (info_of d route) target frame f e)
  refused_is f (inr (header, items, first, last, headed, reads, refuses)) = by_end refuses
    where
      whole_refused : IsRefused frame f
      whole_refused = inr (header, items, first, last, headed, reads, refuses)

      by_end : Refuses last f → IsReadVerdict binary_source BinarySpells IsRefused BinaryPlace d route to frame verdict_on
      by_end (inl (some, e)) =
          ReadFaulty header first f headed whole_refused (judged_faulty binary_source target levels nested (start_of d route) (info_of d route) frame header first last items headed (body_level frame header first headed)
          (follows items first last (start_of d route header) reads) f (some_levels last.nest some) e)
      by_end (inr (none, e)) =
          ReadFaulty header first f headed whole_refused (judged_trailing binary_source target levels nested (start_of d route) (info_of d route) frame header first last items headed (body_level frame header first headed)
          (follows items first last (start_of d route header) reads) f (ap length none) e)

  pub binary_verdict : IsReadVerdict binary_source BinarySpells IsRefused BinaryPlace d route to frame verdict_on
  binary_verdict = by_outcome (read_or_refused frame)
    where
      by_outcome : ((header : Header) × (items : List Item) × IsRead frame header items) ⊎ ((f : Fault) × IsRefused frame f) → IsReadVerdict binary_source BinarySpells IsRefused BinaryPlace d route to frame verdict_on
      by_outcome (inl (header, items, read)) = read_is header items read
      by_outcome (inr (f, refused)) = refused_is f refused

pub binary_judged : (d : Declarations) (route : Route) (to : Proto) (frame : List ℕ) → AreBytes frame → IsReadVerdict binary_source BinarySpells IsRefused BinaryPlace d route to frame (pairs.judged d route protocols.Binary to frame)
unfolding pairs.judged
binary_judged d route protocols.Binary frame are = binary_verdict d route protocols.Binary frame are binary_target (λ name. refl) (λ item mark. refl) (λ m. refl)
binary_judged d route protocols.Compact frame are = binary_verdict d route protocols.Compact frame are compact_target (λ name. refl) (λ item mark. refl) (λ m. refl)
binary_judged d route protocols.Json frame are = binary_verdict d route protocols.Json frame are json_target (λ name. refl) (λ item mark. refl) (λ m. refl)
