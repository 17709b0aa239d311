-- The answer to a refused message spells an exception.
use Rattle.std.proofs.Common.{◌≡◌, ℕ, ℤ, ◌+◌, ◌<◌, ◌≤◌, ◌^◌, Bool, true, false, List, [], ◌++◌, length, drop, Option, None, Some, Ok, refl, ap, ◌∙◌, sym, subst, arith}
use Rattle.std.specs.Prelude.{FitsSigned, is_some, if◌then◌else◌}
use Rattle.std.specs.Int.{w32}
use Rattle.std.specs.List.{position}
use Rattle.std.specs.Str.{is_utf8}
use Rattle.std.proofs.Common.{rules}
use Rattle.std.proofs.lemmas.List.{length-drop}
use Rattle.thrift_value.specs.declared.kind.MessageType.{MessageType}
use Rattle.thrift_value.specs.declared.kind.MessageType.TheVariants as types
use Rattle.thrift_value.specs.Items.{Item}
use Rattle.thrift_value.specs.Trees.{no_members, items_of_members}
use Rattle.protocol_traits.specs.declared.fault.Reason.{Reason}
use Rattle.protocol_traits.specs.declared.fault.Reason.TheVariants as reasons
use Rattle.protocol_traits.specs.declared.fault.Bar.{Bar}
use Rattle.protocol_traits.specs.declared.fault.Bar.TheVariants as bars
use Rattle.protocol_traits.specs.declared.proto.Mark.{Mark}
use Rattle.protocol_traits.specs.declared.proto.Proto.{Proto}
use Rattle.protocol_traits.specs.declared.proto.Proto.TheVariants as protocols
use Rattle.protocol_traits.specs.Heads.{Header}
use Rattle.type_tables.specs.Known.{built_in}
use Rattle.type_walk.specs.Positions.{start}
use Rattle.multiplex_names.specs.Names.{split_of, parted, is_colon, find_in}
use Rattle.translate_verdicts.specs.declared.route.Route.{Route}
use Rattle.translate_verdicts.specs.declared.route.Route.TheVariants.{ByName, Answer}
use Rattle.translate_verdicts.specs.declared.verdict.Cause.{Cause}
use Rattle.translate_verdicts.specs.declared.verdict.Cause.TheVariants.{Grammar, Barred, NoRoute}
use Rattle.translate_core.specs.Answers.{answer_of, failure_items, marked, method_name, spellable, spelled, TakesAll}
use Rattle.translate_verdicts.specs.Body.{Source}
use Rattle.translate_verdicts.specs.Routes.{body_by, result_of, start_of}
use Rattle.translate_verdicts.specs.Texts.{reason_text, bar_text, no_route_text, cause_text, failure_type}
use Rattle.translate_core.proofs.Answered.{answer_ok}
use Rattle.protocol_pairs.specs.Pairs.{binary_source, compact_source, json_source, binary_target, compact_target, json_target, answered, answered_to}
use Rattle.binary_protocol.specs.Heads.{head_at}
use Rattle.binary_protocol.specs.Reading as binary_reading
use Rattle.compact_protocol.specs.Scan.{front_at, string_at}
use Rattle.compact_protocol.specs.Reading as compact_reading
use Rattle.json_text.specs.Plain.{text_spelling}
use Rattle.json_protocol.specs.Head as json_heads
use Rattle.json_protocol.specs.Laws.{head_sized}
use Rattle.json_protocol.specs.Reading as json_reading
use Rattle.json_protocol.specs.Writing.{name_bar}
use Rattle.binary_laws.specs.Reads.{header_of_message}
use Rattle.binary_laws.specs.Written.{IsMessage}
use Rattle.binary_laws.proofs.Heading as binary_heading
use Rattle.binary_laws.proofs.Headed.{message_of}
use Rattle.binary_laws.proofs.Spelled as binary_spelled
use Rattle.compact_laws.proofs.Heading as compact_heading
use Rattle.compact_laws.proofs.Spelled as compact_spelled
use Rattle.json_laws.specs.Written.{HaveBytes}
use Rattle.json_laws.proofs.Fronting.{header_again}
use Rattle.json_laws.proofs.PlainWords.{text_spells}
use Rattle.json_laws.proofs.Sound.{begun_back}
use Rattle.json_laws.proofs.Strings.{text_bytes}
use Rattle.protocol_pairs.proofs.Spelled.{utf8_none, utf8_cause}
use Rattle.verdict_laws.specs.Bars.{bar_in, HoldsAll}
use Rattle.verdict_laws.specs.Spellings.{SpellsBy, IsShort, plain_of}
use Rattle.verdict_laws.specs.Rounds.{plain_in}
use Rattle.verdict_laws.proofs.Firm.{AreFirm}
use Rattle.verdict_laws.proofs.Round.{plain_spells, held_plainly}
use Rattle.session_laws.specs.Saying.{BeginsWith, told_name, failure_of, failure_body}

-- ---- the exception is a message

short_reason : (reason : Reason) → length (reason_text reason) < 2 ^ 31
unfolding reason_text
short_reason reasons.Truncated = omega arith
short_reason reasons.Trailing = omega arith
short_reason reasons.TooDeep = omega arith
short_reason reasons.BadKind = omega arith
short_reason reasons.BadBool = omega arith
short_reason reasons.BadSize = omega arith
short_reason reasons.BadVersion = omega arith
short_reason reasons.BadType = omega arith
short_reason reasons.BadVarint = omega arith
short_reason reasons.BadId = omega arith
short_reason reasons.BadNumber = omega arith
short_reason reasons.BadString = omega arith
short_reason reasons.BadBase64 = omega arith
short_reason reasons.BadToken = omega arith

short_bar : (bar : Bar) → length (bar_text bar) < 2 ^ 31
unfolding bar_text
short_bar bars.Double = omega arith
short_bar bars.UnknownString = omega arith
short_bar bars.NotUtf8 = omega arith
short_bar bars.Uuid = omega arith

short_no_route : length no_route_text < 2 ^ 31
unfolding no_route_text
short_no_route = omega arith

short_cause : (cause : Cause) → length (cause_text cause) < 2 ^ 31
short_cause (Grammar fault) = short_reason fault.reason
short_cause (Barred place bar) = short_bar bar
short_cause NoRoute = short_no_route

fits_type : (cause : Cause) → FitsSigned w32 (failure_type cause)
fits_type (Grammar fault) = search rules
fits_type (Barred place bar) = search rules
fits_type NoRoute = search rules

no_longer : (name : List ℕ) (at : Option ℕ) → length (parted name at).1 ≤ length name
no_longer name None = omega arith
no_longer name (Some at) = omega (arith, length-drop (at + 1) name)

behind_colon : (name : List ℕ) → length (split_of name).1 ≤ length name
unfolding split_of
behind_colon name = no_longer name (position is_colon name)

short_method : (mtype : MessageType) (name : List ℕ) → length name < 2 ^ 31 → length (method_name mtype name) < 2 ^ 31
short_method types.Call name small = omega (arith, small, behind_colon name)
short_method types.Oneway name small = omega (arith, small, behind_colon name)
short_method types.Reply name small = small
short_method types.Exception name small = small

abbrev Fits : Header → Type 0
Fits h = (length h.name < 2 ^ 31) × FitsSigned w32 h.seq

-- JSON has the empty name for one that is no text
short_told : (teller : Proto) (name : List ℕ) → length name < 2 ^ 31 → length (told_name teller name) < 2 ^ 31
short_told protocols.Binary name small = small
short_told protocols.Compact name small = small
short_told protocols.Json name small = by_test (is_utf8 name)
  where
    by_test : (b : Bool) → length (if b then name else []) < 2 ^ 31
    by_test true = small
    by_test false = omega arith

failure_is : (teller : Proto) (h : Header) (cause : Cause) → Fits h → IsMessage (failure_of teller h cause)
failure_is teller h cause fits = record {
  name = short_told teller (method_name h.mtype h.name) (short_method h.mtype h.name fits.0);
  seq = fits.1;
  body = (search rules, short_cause cause, (search rules, fits_type cause, tt));
}

firm : (text : List ℕ) (kind : ℤ) → AreFirm (items_of_members (failure_body text kind))
firm text kind = (tt, (tt, (tt, (tt, (tt, tt)))))

-- ---- what is built in holds it

-- the body of the exception is the built-in struct, whatever the route
failure_start : (route : Route) (h : Header) (text : List ℕ) (kind : ℤ) → h.mtype ≡ types.Exception → failure_items text kind ≡ marked (start_of built_in route h) (items_of_members (failure_body text kind))
unfolding start_of
failure_start (ByName service) h text kind e = ap (λ t. marked (start built_in (body_by (find_in built_in service h.name) (result_of (find_in built_in service h.name)) t)) (items_of_members (failure_body text kind))) (sym e)
failure_start (Answer reply) h text kind e = ap (λ t. marked (start built_in (body_by (find_in built_in None h.name) reply t)) (items_of_members (failure_body text kind))) (sym e)

-- JSON holds each of the items
takes_failure : (text : List ℕ) (kind : ℤ) → is_utf8 text ≡ true → TakesAll (bar_in protocols.Json) (failure_items text kind)
takes_failure text kind valid = (refl, (ap (λ b. if b then None else Some bars.NotUtf8) valid, (refl, (refl, (refl, tt)))))

holds_name : (name : List ℕ) → name_bar (told_name protocols.Json name) ≡ None
holds_name name = by_test (is_utf8 name) refl
  where
    by_test : (b : Bool) → is_utf8 name ≡ b → (if is_utf8 (if b then name else []) then None else Some bars.NotUtf8) ≡ None
    by_test true e = ap (λ b. if b then None else Some bars.NotUtf8) e
    by_test false e = ap (λ b. if b then None else Some bars.NotUtf8) utf8_none

holds_failure : (route : Route) (h : Header) (cause : Cause) → HoldsAll protocols.Json built_in route (failure_of protocols.Json h cause)
holds_failure route h cause =
    let m = failure_of protocols.Json h cause in (
      holds_name (method_name h.mtype h.name),
      subst (TakesAll (bar_in protocols.Json)) (failure_start route (header_of_message m) (cause_text cause) (failure_type cause) refl) (takes_failure (cause_text cause) (failure_type cause) (utf8_cause cause)),
    )

have_bytes : (cause : Cause) → HaveBytes (items_of_members (failure_body (cause_text cause) (failure_type cause)))
have_bytes cause = (tt, (text_bytes (cause_text cause) (text_spelling (cause_text cause)) (text_spells (cause_text cause) (utf8_cause cause)), (tt, (tt, (tt, tt)))))

holds : (route : Route) (teller : Proto) (h : Header) (cause : Cause) → HoldsAll teller built_in route (failure_of teller h cause)
holds route protocols.Binary h cause = held_plainly built_in route protocols.Binary (failure_of protocols.Binary h cause) (λ e. absurd (cc)) (firm (cause_text cause) (failure_type cause))
holds route protocols.Compact h cause = held_plainly built_in route protocols.Compact (failure_of protocols.Compact h cause) (λ e. absurd (cc)) (firm (cause_text cause) (failure_type cause))
holds route protocols.Json h cause = holds_failure route h cause

told_spells : (route : Route) (to : Proto) (header : Header) (cause : Cause) → Fits header → SpellsBy built_in route to (failure_of to header cause) (plain_in to built_in route (failure_of to header cause))
told_spells route to header cause fits =
    plain_spells built_in route to (failure_of to header cause) (failure_is to header cause fits) (firm (cause_text cause) (failure_type cause)) (λ e. have_bytes cause) (holds route to header cause)

-- ---- the header that a frame begins with is read

binary_head : (frame : List ℕ) (header : Header) → BeginsWith protocols.Binary header frame → (first : binary_reading.State) × (binary_reading.reads_head (binary_reading.begun frame) ≡ Ok (header, first))
binary_head frame header (front, rest, laid, (small, fits, spells)) =
    (_, binary_spelled.head_is frame header (length front) (ap head_at laid ∙ binary_heading.head_again (message_of header no_members) small fits rest front spells))

compact_head : (frame : List ℕ) (header : Header) → BeginsWith protocols.Compact header frame → (first : compact_reading.State) × (compact_reading.reads_head (compact_reading.begun frame) ≡ Ok (header, first))
compact_head frame header (front, rest, laid, spells) =
    let m = message_of header no_members in
    let h = compact_heading.head_again m front rest spells in
    (_, compact_spelled.head_is frame m.name (m.mtype, m.seq) h.at h.long (ap front_at laid ∙ h.front) (ap (λ l. string_at (drop h.at l)) laid ∙ h.name))

json_head : (frame : List ℕ) (header : Header) → BeginsWith protocols.Json header frame → (first : json_reading.State) × (json_heads.reads_head (json_reading.begun frame) ≡ Ok (header, first))
json_head frame header (front, rest, laid, spells) = header_again frame front rest header laid spells

fits_head : (from : Proto) (frame : List ℕ) (header : Header) → BeginsWith from header frame → IsShort from frame → Fits header
fits_head protocols.Binary frame header (front, rest, laid, (small, fits, spells)) short = (small, fits)
fits_head protocols.Compact frame header (front, rest, laid, (fits, (number, name, spells, (size, (small, sized), text), is))) short = (small, fits)
fits_head protocols.Json frame header (front, rest, laid, (name, seq, text, int, fits, tokens)) short =
    let read = header_again frame front rest header laid (name, seq, text, int, fits, tokens) in
    let b = begun_back frame header read.0 read.1 in
    (head_sized frame header b.0 b.1 (sym b.2) short, fits)

-- ---- the answer

-- the name that an answer has in JSON
spelled_name : (name : List ℕ) → spellable name_bar name ≡ told_name protocols.Json name
spelled_name name = by_test (is_utf8 name)
  where
    by_test : (b : Bool) → (if is_some (if b then None else Some bars.NotUtf8) then [] else name) ≡ (if b then name else [])
    by_test true = refl
    by_test false = refl

module _ {S : Type 0} (source : Source S) (route : Route) (frame : List ℕ) (header : Header) (cause : Cause) (headed : (first : S) × (source.reads_head (source.begun frame) ≡ Ok (header, first))) where
  to_binary : answer_of source binary_target frame cause ≡ plain_of binary_target built_in route (failure_of protocols.Binary header cause)
  to_binary = answer_ok source binary_target frame cause header headed.0 headed.1

  to_compact : answer_of source compact_target frame cause ≡ plain_of compact_target built_in route (failure_of protocols.Compact header cause)
  to_compact = answer_ok source compact_target frame cause header headed.0 headed.1

  abbrev json_answer : List ℕ → List (Item × Mark) → List ℕ
  json_answer name items = json_target.plain_head (record { name = name; mtype = types.Exception; seq = header.seq }) ++ spelled json_target.plain json_target.after json_target.begun items

  to_json : answer_of source json_target frame cause ≡ plain_of json_target built_in route (failure_of protocols.Json header cause)
  to_json =
      let m = failure_of protocols.Json header cause in
      answer_ok source json_target frame cause header headed.0 headed.1
      ∙ ap (λ name. json_answer name (failure_items (cause_text cause) (failure_type cause))) (spelled_name (method_name header.mtype header.name))
      ∙ ap (json_answer (told_name protocols.Json (method_name header.mtype header.name))) (failure_start route (header_of_message m) (cause_text cause) (failure_type cause) refl)

  to_each : (to : Proto) → answered_to source to frame cause ≡ plain_in to built_in route (failure_of to header cause)
  to_each protocols.Binary = to_binary
  to_each protocols.Compact = to_compact
  to_each protocols.Json = to_json

plainly : (route : Route) (to : Proto) (frame : List ℕ) (from : Proto) (header : Header) (cause : Cause) → BeginsWith from header frame → answered from to frame cause ≡ plain_in to built_in route (failure_of to header cause)
unfolding answered
plainly route to frame protocols.Binary header cause begins = to_each binary_source route frame header cause (binary_head frame header begins) to
plainly route to frame protocols.Compact header cause begins = to_each compact_source route frame header cause (compact_head frame header begins) to
plainly route to frame protocols.Json header cause begins = to_each json_source route frame header cause (json_head frame header begins) to

-- the answer to a frame that begins with a whole header spells the exception plainly
pub answer_spells : (route : Route) (from to : Proto) (frame : List ℕ) (header : Header) (cause : Cause) → BeginsWith from header frame → IsShort from frame
    → SpellsBy built_in route to (failure_of to header cause) (answered from to frame cause) × (answered from to frame cause ≡ plain_in to built_in route (failure_of to header cause))
answer_spells route from to frame header cause begins short =
    let plain = plainly route to frame from header cause begins in
    (subst (λ b. SpellsBy built_in route to (failure_of to header cause) b) (sym plain) (told_spells route to header cause (fits_head from frame header begins short)), plain)
