-- Messages that a protocol holds, and what JSON holds.
use Rattle.std.proofs.Common.{◌≡◌, ℕ, ◌<◌, ◌^◌, Bool, true, List, [], ◌∷◌, ◌++◌, length, None, Some, refl, ap, ◌∙◌, sym, subst, inl, inr}
use Rattle.std.specs.Prelude.{◌||◌, if◌then◌else◌}
use Rattle.thrift_value.specs.Items.{Item, field, stop, bool_value, i8_value, i16_value, i32_value, i64_value, double_value, text, number_text, unknown_text, struct_begin, empty_map, map_begin, set_begin, list_begin, end, uuid_value}
use Rattle.thrift_value.specs.Trees.{Message, items_of_members, depth_of_members}
use Rattle.protocol_traits.specs.declared.fault.Bar.TheVariants as bars
use Rattle.protocol_traits.specs.declared.nest.Slot.{Slot}
use Rattle.protocol_traits.specs.declared.proto.Hint.{Hint}
use Rattle.protocol_traits.specs.declared.proto.Hint.TheVariants as hints
use Rattle.protocol_traits.specs.declared.proto.Mark.{Mark}
use Rattle.protocol_traits.specs.declared.proto.Proto.{Proto}
use Rattle.protocol_traits.specs.declared.proto.Proto.TheVariants as protocols
use Rattle.protocol_traits.specs.Follow.{after as levels_after}
use Rattle.type_tables.specs.Declarations.{Declarations}
use Rattle.type_walk.specs.Positions.{Position, mark_of, after, hint_of, start}
use Rattle.translate_verdicts.specs.declared.route.Route.{Route}
use Rattle.translate_verdicts.specs.Routes.{body_of, start_of}
use Rattle.translate_core.specs.Answers.{TakesAll, marked, spelled}
use Rattle.protocol_pairs.specs.Pairs.{json_target}
use Rattle.json_protocol.specs.declared.opening.Opening.{Opening}
use Rattle.json_protocol.specs.Laws.{head_sized}
use Rattle.json_protocol.specs.Reading.{opening_after}
use Rattle.json_protocol.specs.Writing as json
use Rattle.json_protocol.specs.Writing.{Writer, is_uuid, kind_bar, string_bar}
use Rattle.json_protocol.specs.Grammar.{Tokens, IsStringToken}
use Rattle.binary_laws.specs.Reads.{header_of_message}
use Rattle.binary_laws.specs.Written.{IsMessage}
use Rattle.json_laws.specs.Fronts.{SpellsValue, SpellsItem, Leads}
use Rattle.json_laws.specs.Written.{HaveBytes, AreTaken, put}
use Rattle.json_laws.proofs.Fronting.{items_stand}
use Rattle.json_laws.proofs.Putting.{mark_hint}
use Rattle.json_laws.proofs.Sound.{begun_back}
use Rattle.json_laws.proofs.Spelled.{spelled_read}
use Rattle.json_laws.proofs.Strings.{text_utf8, members_bytes}
use Rattle.json_laws.proofs.Written.{written_spells}
use Rattle.json_laws.specs.Positions.{declared_of}
use Rattle.verdict_laws.specs.Bars.{bar_in, HoldsAll}
use Rattle.verdict_laws.specs.Spellings.{SpellsBy, known_by, plain_of}
use Rattle.verdict_laws.proofs.Firm.{IsFirm, AreFirm}
use Rattle.verdict_laws.proofs.Json.{start_same}

-- ---- what is held has no loose text

item_firm : (to : Proto) (item : Item) (mark : Mark) → bar_in to item mark ≡ None → IsFirm item
item_firm protocols.Binary (number_text bytes) mark e = absurd (cc)
item_firm protocols.Compact (number_text bytes) mark e = absurd (cc)
item_firm protocols.Json (number_text bytes) mark e = absurd (cc)
item_firm protocols.Binary (unknown_text bytes) mark e = absurd (cc)
item_firm protocols.Compact (unknown_text bytes) mark e = absurd (cc)
item_firm protocols.Json (unknown_text bytes) mark e = absurd (cc)
item_firm to (field id kind) mark e = tt
item_firm to stop mark e = tt
item_firm to (bool_value b) mark e = tt
item_firm to (i8_value n) mark e = tt
item_firm to (i16_value n) mark e = tt
item_firm to (i32_value n) mark e = tt
item_firm to (i64_value n) mark e = tt
item_firm to (double_value bytes) mark e = tt
item_firm to (text bytes) mark e = tt
item_firm to struct_begin mark e = tt
item_firm to empty_map mark e = tt
item_firm to (map_begin key value size) mark e = tt
item_firm to (set_begin kind size) mark e = tt
item_firm to (list_begin kind size) mark e = tt
item_firm to end mark e = tt
item_firm to (uuid_value bytes) mark e = tt

pub held_firm : (to : Proto) (items : List Item) (p : Position) → TakesAll (bar_in to) (marked p items) → AreFirm items
held_firm to [] p t = tt
held_firm to (item ∷ items) p t = (item_firm to item (mark_of p item) t.0, held_firm to items (after p item) t.1)

-- ---- the plain spelling in JSON spells its message

json_taken : (items : List Item) (p : Position) → TakesAll (bar_in protocols.Json) (marked p items) → AreTaken p items
json_taken [] p t = tt
json_taken (item ∷ items) p t = (t.0, json_taken items (after p item) t.1)

json_put : (w : Writer) (p : Position) (items : List Item) → spelled json_target.plain json_target.after w (marked p items) ≡ put p w items
json_put w p [] = refl
json_put w p (item ∷ items) = ap (λ l. json.plain w item (mark_of p item) ++ l) (json_put (json.after w item (mark_of p item)) (after p item) items)

pub json_plain : (d : Declarations) (route : Route) (m : Message) → IsMessage m → HaveBytes (items_of_members m.body) → HoldsAll protocols.Json d route m → SpellsBy d route protocols.Json m (plain_of json_target d route m)
json_plain d route m is strings holds =
    let h = header_of_message m in
    let items = items_of_members m.body in
    let same = start_same d route h in
    written_spells (known_by d route h) m (plain_of json_target d route m) is (record {
      name = holds.0;
      taken = subst (λ p. AreTaken p items) same (json_taken items (start_of d route h) holds.1);
      strings = strings;
      bytes_are = ap (λ l. json.plain_head h ++ l) (json_put json.begun (start_of d route h) items ∙ ap (λ p. put p json.begun items) same);
    })

-- ---- what JSON spells

pub json_message : (d : Declarations) (route : Route) (m : Message) (frame : List ℕ) → SpellsBy d route protocols.Json m frame → depth_of_members m.body < 256 → length frame < 2 ^ 31 → IsMessage m
json_message d route m frame (name, seq, inner, called, int, fits, are, members, laid) deep small =
    let h = header_of_message m in
    let r = spelled_read d (body_of d route h) m frame (name, seq, inner, called, int, fits, are, members, laid) deep in
    let b = begun_back frame h r.0 r.2 in
    record { name = head_sized frame h b.0 b.1 (sym b.2) small; seq = fits; body = are }

pub json_strings : (d : Declarations) (route : Route) (m : Message) (frame : List ℕ) → SpellsBy d route protocols.Json m frame → HaveBytes (items_of_members m.body)
json_strings d route m frame (name, seq, inner, called, int, fits, are, members, laid) = members_bytes (declared_of d) m.body true _ inner members

-- ---- JSON holds what it spells with no loose text

string_taken : (hint : Hint) (bytes : List ℕ) (tokens : Tokens) → IsStringToken hint bytes tokens → string_bar bytes hint ≡ None
string_taken hints.Text bytes tokens (token, spells, is) = ap (λ b. if b then None else Some bars.NotUtf8) (text_utf8 bytes token spells)
string_taken hints.Blob bytes tokens s = refl
string_taken hints.Unknown bytes tokens s = absurd s

value_taken : (key : Bool) (hint : Hint) (item : Item) (own : Tokens) (mark : Mark) → mark.hint ≡ hint → IsFirm item → SpellsValue key hint item own → json.bar item mark ≡ None
value_taken key hint (field id kind) own mark is f s = absurd s
value_taken key hint stop own mark is f s = absurd s
value_taken key hint (bool_value b) own mark is f s = refl
value_taken key hint (i8_value n) own mark is f s = refl
value_taken key hint (i16_value n) own mark is f s = refl
value_taken key hint (i32_value n) own mark is f s = refl
value_taken key hint (i64_value n) own mark is f s = refl
value_taken key hint (double_value bytes) own mark is f s = absurd s
value_taken key hint (text bytes) own mark is f s = ap (string_bar bytes) is ∙ string_taken hint bytes own s
value_taken key hint (number_text bytes) own mark is f s = absurd f
value_taken key hint (unknown_text bytes) own mark is f s = absurd f
value_taken key hint struct_begin own mark is f s = refl
value_taken key hint empty_map own mark is f s = refl
value_taken key hint (map_begin k v size) own mark is f (named, other, laid) = ap (λ b. kind_bar (b || is_uuid v)) named ∙ ap kind_bar other
value_taken key hint (set_begin kind size) own mark is f (named, laid) = ap kind_bar named
value_taken key hint (list_begin kind size) own mark is f (named, laid) = ap kind_bar named
value_taken key hint end own mark is f s = absurd s
value_taken key hint (uuid_value bytes) own mark is f s = absurd s

item_taken : (hint : Hint) (opening : Opening) (nest : List Slot) (item : Item) (own : Tokens) (mark : Mark) → mark.hint ≡ hint → IsFirm item → SpellsItem hint opening nest item own → json.bar item mark ≡ None
item_taken hint opening nest item own mark is f (inl (id, kind, digits, e, int, named, laid)) = ap (λ i. json.bar i mark) e
item_taken hint opening nest item own mark is f (inr (inl (e, s))) = ap (λ i. json.bar i mark) e
item_taken hint opening nest item own mark is f (inr (inr (inl (e, s)))) = ap (λ i. json.bar i mark) e
item_taken hint opening nest item own mark is f (inr (inr (inr (value, s, laid)))) = value_taken _ hint item value mark is f s

leads_taken : (items : List Item) (p : Position) (nest : List Slot) (opening : Opening) (tokens : Tokens) → Leads p nest opening items tokens → AreFirm items → TakesAll (bar_in protocols.Json) (marked p items)
leads_taken [] p nest opening tokens l f = tt
leads_taken (item ∷ items) p nest opening tokens (own, rest, one, more, laid) f =
    (item_taken (hint_of p) opening nest item own (mark_of p item) (mark_hint p.schema p.next) f.0 one, leads_taken items (after p item) (levels_after item nest) (opening_after item) rest more f.1)

pub json_held : (d : Declarations) (route : Route) (m : Message) (frame : List ℕ) → SpellsBy d route protocols.Json m frame → depth_of_members m.body < 256 → length frame < 2 ^ 31 → AreFirm (items_of_members m.body) → HoldsAll protocols.Json d route m
json_held d route m frame (name, seq, inner, called, int, fits, are, members, laid) deep small firm =
    let h = header_of_message m in
    let items = items_of_members m.body in
    let body = body_of d route h in
    let s = items_stand d body frame h items small (spelled_read d body m frame (name, seq, inner, called, int, fits, are, members, laid) deep) in (
      ap (λ b. if b then None else Some bars.NotUtf8) (text_utf8 m.name name called),
      subst (λ p. TakesAll (bar_in protocols.Json) (marked p items)) (sym (start_same d route h)) (leads_taken items (start d body) _ _ s.tokens s.leads firm),
    )
