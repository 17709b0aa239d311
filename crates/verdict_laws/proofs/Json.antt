-- The verdict on a frame of JSON.
use Rattle.std.proofs.Common.{◌≡◌, ◌^◌, ◌∙◌, Option, Some, ℕ, ◌+◌, ◌<◌, ◌≤◌, List, [], ◌∷◌, ◌++◌, length, None, Ok, Err, refl, ap, sym, subst, arith, ◌⊎◌, inl, inr}
use Rattle.std.specs.Int.{w32}
use Rattle.std.specs.Prelude.{IfOk, ◌*◌, FitsSigned}
use Rattle.thrift_value.specs.Items.{Item, field, stop, bool_value, i8_value, i16_value, i32_value, i64_value, double_value, text, number_text, unknown_text, struct_begin, empty_map, map_begin, set_begin, list_begin, end, uuid_value}
use Rattle.thrift_value.specs.Trees.{Message, AreMembers, items_of_members, depth_of_members}
use Rattle.protocol_traits.specs.declared.fault.Bar.{Bar}
use Rattle.protocol_traits.specs.declared.fault.Fault.{Fault}
use Rattle.protocol_traits.specs.declared.nest.Slot.{Slot}
use Rattle.protocol_traits.specs.declared.proto.Hint.{Hint}
use Rattle.protocol_traits.specs.declared.proto.Mark.{Mark}
use Rattle.protocol_traits.specs.declared.proto.Proto.{Proto}
use Rattle.protocol_traits.specs.declared.proto.Proto.TheVariants as protocols
use Rattle.protocol_traits.specs.Heads.{Header}
use Rattle.protocol_traits.specs.Room.{weight, head_weight, IsSized}
use Rattle.protocol_traits.specs.Stack.{first_of}
use Rattle.protocol_traits.specs.Steps.{Step}
use Rattle.type_tables.specs.Declarations.{Declarations}
use Rattle.type_walk.specs.Positions.{Position, hint_of, mark_of, after, start}
use Rattle.translate_verdicts.specs.declared.route.Route.{Route}
use Rattle.translate_verdicts.specs.declared.verdict.Verdict.TheVariants.{Passed}
use Rattle.translate_verdicts.specs.Positions.{typed}
use Rattle.translate_verdicts.specs.Routes.{body_of, start_of, info_of}
use Rattle.translate_verdicts.specs.Body.{TargetRules}
use Rattle.translate_verdicts.specs.Judged.{Judged, judge, judged}
use Rattle.translate_core.specs.Answers.{TakesAll, marked}
use Rattle.translate_verdicts.proofs.Judging.{judge_err}
use Rattle.protocol_pairs.specs.Pairs.{json_source, binary_target, compact_target, json_target}
use Rattle.protocol_pairs.specs.Pairs as pairs
use Rattle.json_protocol.specs.Laws.{reads_pays, reads_nests, reads_none, reads_head_pays, begins}
use Rattle.json_protocol.specs.Reading.{State, ahead, begun, reads}
use Rattle.json_protocol.specs.Head.{reads_head, reads_end}
use Rattle.binary_laws.specs.Reads.{header_of_message}
use Rattle.json_laws.specs.Fronts.{IsOfValue, ValueStands}
use Rattle.json_laws.specs.Reads.{Reads, IsRead}
use Rattle.json_laws.specs.Refused.{Refuses, IsRefused}
use Rattle.json_laws.specs.Refused as refusing
use Rattle.json_laws.specs.Stated.{Known, JsonSpells}
use Rattle.json_laws.proofs.Either.{read_or_refused}
use Rattle.json_laws.proofs.Fronting.{header_again, name_stands, value_stands}
use Rattle.json_laws.proofs.Standing.{fault_stands}
use Rattle.json_laws.proofs.FirstFaults.{refused_first}
use Rattle.json_laws.proofs.Sound.{same_step, read_spelled}
use Rattle.json_laws.proofs.Spelled.{spelled_read}
use Rattle.verdict_laws.specs.Bars.{the_name, behind_items, name_bar_in, bar_in, OfName, OfItem, JsonPlace}
use Rattle.verdict_laws.specs.Following.{Follows, behind}
use Rattle.verdict_laws.specs.Spellings.{known_by, SpellsBy, plain_of}
use Rattle.verdict_laws.specs.Verdicts.{IsPlain, IsKnownOf, JsonFault}
use Rattle.verdict_laws.proofs.Barred.{FirstBarred, AllTaken, StopsAt, first_barred, takes_as}
use Rattle.verdict_laws.proofs.Binary.{some_levels}
use Rattle.verdict_laws.proofs.Bodies.{IsNested, follows_apart, judged_name, judged_item, judged_whole, judged_faulty, judged_trailing}
use Rattle.verdict_laws.proofs.Firm.{AreFirm}
use Rattle.verdict_laws.proofs.Sizes.{members_sized, short}
use Rattle.verdict_laws.proofs.Readings.{IsReadVerdict}
use Rattle.verdict_laws.proofs.Readings.IsReadVerdict.{ReadPasses, ReadBarred, ReadFaulty, ReadUnread}

-- ---- the reader

abbrev pub levels : State → ℕ
levels s = length s.nest

all_ok : {X : Type 0} {P : Type 0} → (r : Step X Item) → P → IfOk r (λ x. P)
all_ok (Ok x) p = p
all_ok (Err f) p = tt

open_read : (s : State) (hint : Hint) → IfOk (reads s hint) (λ x. 0 < length s.nest)
open_read s hint = by_nest s.nest refl
  where
    by_nest : (nest : List Slot) → s.nest ≡ nest → IfOk (reads s hint) (λ x. 0 < length s.nest)
    by_nest [] e = subst (λ r. IfOk r (λ x. 0 < length s.nest)) (sym (reads_none s hint (ap first_of e))) tt
    by_nest (slot ∷ up) e = let some : 0 < length s.nest = subst (λ n. 0 < n) (sym (ap length e)) (omega arith) in all_ok (reads s hint) some

pub nested : IsNested json_source levels
nested = record { pays = reads_pays; open_level = open_read; nests = reads_nests }

pub follows : (items : List Item) (s last : State) (p : Position) → Reads p s items last → Follows json_source s p items last
follows [] s last p e = e
follows (item ∷ items) s last p (next, e, more) = (next, e, follows items next last (after p item) more)

reads_back : (items : List Item) (s last : State) (p : Position) → Follows json_source s p items last → Reads p s items last
reads_back [] s last p e = e
reads_back (item ∷ items) s last p (next, e, more) = (next, e, reads_back items next last (after p item) more)

pub body_level : (frame : List ℕ) (header : Header) (first : State) → reads_head (begun frame) ≡ Ok (header, first) → length first.nest ≡ 1
body_level frame header first e = (subst (λ r. IfOk r (λ x. (head_weight (length x.0.name) + ahead x.1 ≤ ahead (begun frame)) × (length x.1.nest ≡ 1))) e (reads_head_pays (begun frame))).1

-- ---- positions

pub start_same : (d : Declarations) (route : Route) (h : Header) → start_of d route h ≡ start d (body_of d route h)
unfolding start_of
start_same d route h = refl

pub behind_same : (p : Position) (items : List Item) → refusing.behind p items ≡ behind p items
behind_same p [] = refl
behind_same p (item ∷ items) = behind_same (after p item) items

-- the body's items, from the position that its header names
pub body_follows : (d : Declarations) (route : Route) (h : Header) (items : List Item) (first last : State) → Reads (start d (body_of d route h)) first items last → Follows json_source first (start_of d route h) items last
body_follows d route h items first last reads = follows items first last (start_of d route h) (subst (λ p. Reads p first items last) (sym (start_same d route h)) reads)

-- ---- headers

pub same_header : (frame : List ℕ) (h k : Header) (x y : State) → reads_head (begun frame) ≡ Ok (h, x) → reads_head (begun frame) ≡ Ok (k, y) → (h ≡ k) × (x ≡ y)
same_header frame h k x y e f = same_step h k x y (sym e ∙ f)

-- what is known of a body whose header is read
pub known_of : (d : Declarations) (route : Route) (frame : List ℕ) (h : Header) (first : State) → reads_head (begun frame) ≡ Ok (h, first) → IsKnownOf d route frame (known_by d route h)
known_of d route frame h first e header front rest laid spells =
    let again = header_again frame front rest header laid spells in
    ap (known_by d route) (same_header frame h header first again.0 e again.1).0

pub none_known : (d : Declarations) (route : Route) (frame : List ℕ) (f : Fault) → reads_head (begun frame) ≡ Err f → IsKnownOf d route frame (record { declared = d; body = None })
none_known d route frame f e header front rest laid spells =
    let again = header_again frame front rest header laid spells in
    let wrong = sym e ∙ again.1 in
    absurd (cc)

-- ---- what the reader finds

-- a frame is read whole; or it is refused behind its header; or it has no whole header
pub data Outcome (d : Declarations) (route : Route) (frame : List ℕ) : Type 0 where
  IsWhole : (header : Header) (items : List Item) (first last : State) → reads_head (begun frame) ≡ Ok (header, first) → Reads (start d (body_of d route header)) first items last → last.nest ≡ [] → reads_end last ≡ Ok (tt, last)
      → Outcome d route frame
  IsCut : (f : Fault) (header : Header) (items : List Item) (first last : State) → reads_head (begun frame) ≡ Ok (header, first) → Reads (start d (body_of d route header)) first items last
      → Refuses (refusing.behind (start d (body_of d route header)) items) last f → Outcome d route frame
  IsHeadless : (f : Fault) → reads_head (begun frame) ≡ Err f → Outcome d route frame

pub outcome : (d : Declarations) (route : Route) (frame : List ℕ) → Outcome d route frame
outcome d route frame = by_head (reads_head (begun frame)) refl
  where
    by_reading : (h : Header) (first : State) → reads_head (begun frame) ≡ Ok (h, first)
        → ((header : Header) × (items : List Item) × IsRead (start d (body_of d route h)) frame header items) ⊎ ((f : Fault) × IsRefused (start d (body_of d route h)) frame f) → Outcome d route frame
    by_reading h first e (inl (header, items, (begin, last, headed, reads, none, ends))) =
        let same = same_header frame header h begin first headed e in
        IsWhole header items begin last headed (subst (λ k. Reads (start d (body_of d route k)) begin items last) (sym same.0) reads) none ends
    by_reading h first e (inr (f, inl refused)) = let wrong = sym e ∙ refused in absurd (cc)
    by_reading h first e (inr (f, inr (header, items, begin, last, headed, reads, refuses))) =
        let same = same_header frame header h begin first headed e in
        IsCut f header items begin last headed (subst (λ k. Reads (start d (body_of d route k)) begin items last) (sym same.0) reads)
        (subst (λ k. Refuses (refusing.behind (start d (body_of d route k)) items) last f) (sym same.0) refuses)

    by_head : (step : Step State Header) → reads_head (begun frame) ≡ step → Outcome d route frame
    by_head (Ok x) e = by_reading x.0 x.1 e (read_or_refused (start d (body_of d route x.0)) frame)
    by_head (Err f) e = IsHeadless f e

-- the message of a frame that is read
pub message_read : (d : Declarations) (route : Route) (frame : List ℕ) (header : Header) (items : List Item) → length frame < 2 ^ 31 → IsRead (start d (body_of d route header)) frame header items
    → (m : Message) × (header ≡ header_of_message m) × (items ≡ items_of_members m.body) × (depth_of_members m.body < 256) × SpellsBy d route protocols.Json m frame
message_read d route frame header items small read =
    let m = read_spelled d (body_of d route header) frame header items small read in
    (m.0, m.1, m.2, m.3, subst (λ k. JsonSpells (known_by d route k) m.0 frame) m.1 m.4)

-- the fault of one that is refused
fault_of : (d : Declarations) (route : Route) (frame : List ℕ) (f : Fault) (k : Known) → length frame < 2 ^ 31 → IsKnownOf d route frame k → IsRefused (start k.declared k.body) frame f → JsonFault d route frame f
fault_of d route frame f k small known refused = (k, known, fault_stands k frame f small refused, refused_first k frame f refused)

pub fault_behind : (d : Declarations) (route : Route) (frame : List ℕ) (f : Fault) (header : Header) (items : List Item) (first last : State) → length frame < 2 ^ 31 → reads_head (begun frame) ≡ Ok (header, first)
    → Reads (start d (body_of d route header)) first items last → Refuses (refusing.behind (start d (body_of d route header)) items) last f → JsonFault d route frame f
fault_behind d route frame f header items first last small headed reads refuses =
    fault_of d route frame f (known_by d route header) small (known_of d route frame header first headed) (inr (header, items, first, last, headed, reads, refuses))

pub fault_before : (d : Declarations) (route : Route) (frame : List ℕ) (f : Fault) → length frame < 2 ^ 31 → reads_head (begun frame) ≡ Err f → JsonFault d route frame f
fault_before d route frame f small e = fault_of d route frame f (record { declared = d; body = None }) small (none_known d route frame f e) (inl e)

-- where an item is called for, by the walk that starts at the header
pub called_there : (d : Declarations) (route : Route) (header : Header) (items : List Item) (last : State) (step : Step State Item) → reads last (hint_of (refusing.behind (start d (body_of d route header)) items)) ≡ step
    → reads last (hint_of (behind (start_of d route header) items)) ≡ step
called_there d route header items last step e =
    ap (λ x. reads last (hint_of x)) (ap (λ x. behind x items) (start_same d route header) ∙ sym (behind_same (start d (body_of d route header)) items)) ∙ e

-- ---- what is barred is a value

free_field : (to : Proto) (item : Item) (mark : Mark) (bar : Bar) → bar_in to item mark ≡ None → bar_in to item mark ≡ Some bar → ⊥
free_field to item mark bar free e = let wrong = sym free ∙ e in absurd (cc)

-- fields and ends are held by every protocol
held_stop : (to : Proto) (mark : Mark) → bar_in to stop mark ≡ None
held_stop protocols.Binary mark = refl
held_stop protocols.Compact mark = refl
held_stop protocols.Json mark = refl

held_end : (to : Proto) (mark : Mark) → bar_in to end mark ≡ None
held_end protocols.Binary mark = refl
held_end protocols.Compact mark = refl
held_end protocols.Json mark = refl

barred_value : (to : Proto) (item : Item) (mark : Mark) (bar : Bar) → bar_in to item mark ≡ Some bar → IsOfValue item
barred_value to stop mark bar e = free_field to stop mark bar (held_stop to mark) e
barred_value to end mark bar e = free_field to end mark bar (held_end to mark) e
barred_value protocols.Binary (field id kind) mark bar e = absurd (cc)
barred_value protocols.Compact (field id kind) mark bar e = absurd (cc)
barred_value protocols.Json (field id kind) mark bar e = absurd (cc)
barred_value to (bool_value b) mark bar e = tt
barred_value to (i8_value n) mark bar e = tt
barred_value to (i16_value n) mark bar e = tt
barred_value to (i32_value n) mark bar e = tt
barred_value to (i64_value n) mark bar e = tt
barred_value to (double_value bytes) mark bar e = tt
barred_value to (text bytes) mark bar e = tt
barred_value to (number_text bytes) mark bar e = tt
barred_value to (unknown_text bytes) mark bar e = tt
barred_value to struct_begin mark bar e = tt
barred_value to empty_map mark bar e = tt
barred_value to (map_begin key value size) mark bar e = tt
barred_value to (set_begin kind size) mark bar e = tt
barred_value to (list_begin kind size) mark bar e = tt
barred_value to (uuid_value bytes) mark bar e = tt

-- ---- a message that passes

module _ (d : Declarations) (route : Route) (frame : List ℕ) {T : Type 0} (target : TargetRules T) where
  -- a frame that spells a message passes with its plain spelling, where the target holds it
  pub json_passes : (m : Message) → SpellsBy d route protocols.Json m frame → depth_of_members m.body < 256 → target.name_bar m.name ≡ None
      → TakesAll target.bar (marked (start_of d route (header_of_message m)) (items_of_members m.body))
      → judge json_source typed (start_of d route) (info_of d route) target frame ≡ judged (Passed (info_of d route (header_of_message m))) (plain_of target d route m)
  json_passes m spells deep free taken =
      let h = header_of_message m in
      let r = spelled_read d (body_of d route h) m frame spells deep in
      judged_whole json_source target levels nested (start_of d route) (info_of d route) frame h r.0 r.1 (items_of_members m.body) r.2 (body_level frame h r.0 r.2)
      (body_follows d route h (items_of_members m.body) r.0 r.1 r.3) free taken (ap length r.4) r.5

  -- and that is so long at most
  pub json_short : ((w : T) (item : Item) (mark : Mark) → IsSized item → length (target.plain w item mark) ≤ weight item) → ((h : Header) → FitsSigned w32 h.seq → length (target.plain_head h) ≤ head_weight (length h.name))
      → (m : Message) → SpellsBy d route protocols.Json m frame → depth_of_members m.body < 256 → AreMembers m.body → AreFirm (items_of_members m.body) → FitsSigned w32 m.seq → length (plain_of target d route m) ≤ 24 * length frame + 256
  json_short light light_head m spells deep are firm fits =
      let h = header_of_message m in
      let r = spelled_read d (body_of d route h) m frame spells deep in
      let sized = members_sized m.body are firm in
      let head = (subst (λ x. IfOk x (λ y. (head_weight (length y.0.name) + ahead y.1 ≤ ahead (begun frame)) × (length y.1.nest ≡ 1))) r.2 (reads_head_pays (begun frame))).0 in
      let begin = begins frame in
      short target light json_source levels nested h (items_of_members m.body) r.0 r.1 (start_of d route h) (length frame) (body_follows d route h (items_of_members m.body) r.0 r.1 r.3) sized (light_head h fits) (omega (arith, head, begin))

-- ---- the verdict, whatever is barred

module _ (d : Declarations) (route : Route) (to : Proto) (frame : List ℕ) (small : length frame < 2 ^ 31) {T : Type 0} (target : TargetRules T)
    (name_is : (name : List ℕ) → target.name_bar name ≡ name_bar_in to name) (bar_is : (item : Item) (mark : Mark) → target.bar item mark ≡ bar_in to item mark)
    (plain : (m : Message) → IsPlain to d route m (plain_of target d route m)) where
  abbrev verdict_on : Judged
  verdict_on = judge json_source typed (start_of d route) (info_of d route) target frame

  abbrev Is : Type 0
  Is = IsReadVerdict json_source (SpellsBy d route protocols.Json) (JsonFault d route) (JsonPlace d route) d route to frame verdict_on

  module _ (m : Message) (spells : SpellsBy d route protocols.Json m frame) (deep : depth_of_members m.body < 256) (first last : State) (headed : reads_head (begun frame) ≡ Ok (header_of_message m, first))
      (body : Reads (start d (body_of d route (header_of_message m))) first (items_of_members m.body) last) (none : last.nest ≡ []) (ends : reads_end last ≡ Ok (tt, last)) where
    abbrev h : Header
    h = header_of_message m

    abbrev p : Position
    p = start_of d route h

    all_follow : Follows json_source first p (items_of_members m.body) last
    all_follow = body_follows d route h (items_of_members m.body) first last body

    passes_whole : name_bar_in to m.name ≡ None → TakesAll (bar_in to) (marked p (items_of_members m.body)) → Is
    passes_whole free taken =
        ReadPasses m (plain_of target d route m) spells deep (free, taken) (plain m)
        (judged_whole json_source target levels nested (start_of d route) (info_of d route) frame h first last (items_of_members m.body) headed (body_level frame h first headed) all_follow
        (name_is m.name ∙ free) (takes_as (bar_in to) target.bar bar_is (items_of_members m.body) p taken) (ap length none) ends)

    name_barred : (bar : Bar) → name_bar_in to m.name ≡ Some bar → Is
    name_barred bar e =
        ReadBarred m the_name first.value bar spells deep (OfName bar e) (name_stands frame h first headed)
        (judged_name json_source target levels nested (start_of d route) (info_of d route) frame h first last (items_of_members m.body) headed (body_level frame h first headed) all_follow
        bar (name_is m.name ∙ e) (ap length none) ends)

    item_barred : (before rest : List Item) (item : Item) (bar : Bar) → name_bar_in to m.name ≡ None → items_of_members m.body ≡ before ++ item ∷ rest → TakesAll (bar_in to) (marked p before)
        → bar_in to item (mark_of (behind p before) item) ≡ Some bar → Is
    item_barred before rest item bar free laid taken e =
        let cut = follows_apart json_source target levels nested before (item ∷ rest) first last p (subst (λ l. Follows json_source first p l last) laid all_follow) in
        let mid = cut.0 in
        let next = cut.2.0 in
        let q = start d (body_of d route h) in
        let same = start_same d route h in
        let there : reads mid (hint_of (refusing.behind q before)) ≡ Ok (item, next) = ap (λ x. reads mid (hint_of x)) (behind_same q before ∙ ap (λ x. behind x before) (sym same)) ∙ cut.2.1 in
        let begins = subst (λ x. Reads x first before mid) same (reads_back before first mid p cut.1) in
        let stands = value_stands d (body_of d route h) frame h first mid next before item small headed begins there (barred_value to item (mark_of (behind p before) item) bar e) in
        ReadBarred m (behind_items before) next.value bar spells deep (OfItem before rest item bar free laid taken e) (subst (λ x. ValueStands x h before frame next.value) (sym same) stands)
        (judged_item json_source target levels nested (start_of d route) (info_of d route) frame h first last (items_of_members m.body) headed (body_level frame h first headed) all_follow
        before rest item bar mid next (name_is m.name ∙ free) cut.1 cut.2.1 cut.2.2 (takes_as (bar_in to) target.bar bar_is before p taken) (bar_is item (mark_of (behind p before) item) ∙ e) (ap length none) ends)

    by_item : name_bar_in to m.name ≡ None → FirstBarred (bar_in to) p (items_of_members m.body) → Is
    by_item free (AllTaken taken) = passes_whole free taken
    by_item free (StopsAt before rest item bar laid taken e) = item_barred before rest item bar free laid taken e

    by_name : (found : Option Bar) → name_bar_in to m.name ≡ found → Is
    by_name None e = by_item e (first_barred (bar_in to) (items_of_members m.body) p)
    by_name (Some bar) e = name_barred bar e

  pub json_verdict : Is
  json_verdict = by_outcome (outcome d route frame)
    where
      by_refusal : (f : Fault) (header : Header) (items : List Item) (first last : State) → reads_head (begun frame) ≡ Ok (header, first) → Reads (start d (body_of d route header)) first items last → JsonFault d route frame f
          → Refuses (refusing.behind (start d (body_of d route header)) items) last f → Is
      by_refusal f header items first last headed reads fault (inl (some, e)) =
          ReadFaulty header first f headed fault (judged_faulty json_source target levels nested (start_of d route) (info_of d route) frame header first last items headed (body_level frame header first headed)
          (body_follows d route header items first last reads) f (some_levels last.nest some) (called_there d route header items last _ e))
      by_refusal f header items first last headed reads fault (inr (none, e)) =
          ReadFaulty header first f headed fault (judged_trailing json_source target levels nested (start_of d route) (info_of d route) frame header first last items headed (body_level frame header first headed)
          (body_follows d route header items first last reads) f (ap length none) e)

      by_outcome : Outcome d route frame → Is
      by_outcome (IsWhole header items first last headed reads none ends) =
          let m = message_read d route frame header items small (first, last, headed, reads, none, ends) in
          let body = subst (λ k. Reads (start d (body_of d route k)) first (items_of_members m.0.body) last) m.1 (subst (λ xs. Reads (start d (body_of d route header)) first xs last) m.2 reads) in
          by_name m.0 m.4 m.3 first last (subst (λ k. reads_head (begun frame) ≡ Ok (k, first)) m.1 headed) body none ends (name_bar_in to m.0.name) refl
      by_outcome (IsCut f header items first last headed reads refuses) =
          by_refusal f header items first last headed reads (fault_behind d route frame f header items first last small headed reads refuses) refuses
      by_outcome (IsHeadless f e) = ReadUnread f e (fault_before d route frame f small e) (judge_err json_source typed (start_of d route) (info_of d route) target frame f e)

pub json_judged : (d : Declarations) (route : Route) (to : Proto) (frame : List ℕ) → length frame < 2 ^ 31
    → IsReadVerdict json_source (SpellsBy d route protocols.Json) (JsonFault d route) (JsonPlace d route) d route to frame (pairs.judged d route protocols.Json to frame)
unfolding pairs.judged
json_judged d route protocols.Binary frame small = json_verdict d route protocols.Binary frame small binary_target (λ name. refl) (λ item mark. refl) (λ m. refl)
json_judged d route protocols.Compact frame small = json_verdict d route protocols.Compact frame small compact_target (λ name. refl) (λ item mark. refl) (λ m. refl)
json_judged d route protocols.Json frame small = json_verdict d route protocols.Json frame small json_target (λ name. refl) (λ item mark. refl) (λ m. refl)
