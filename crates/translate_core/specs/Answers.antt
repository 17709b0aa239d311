-- The answer to a message that is refused: an Exception message whose body is a TApplicationException (Thrift remote
-- procedure call specification, "Response struct").
use Rattle.std.specs.Prelude.{◌≡◌, ℕ, ℤ, pos, List, [], ◌∷◌, ◌++◌, Option, Some, None, is_some, Ok, Err, if◌then◌else◌}
use Rattle.thrift_value.specs.declared.kind.Kind.TheVariants as kinds
use Rattle.thrift_value.specs.declared.kind.MessageType.{MessageType}
use Rattle.thrift_value.specs.declared.kind.MessageType.TheVariants as types
use Rattle.thrift_value.specs.Items.{Item, field, stop, text, i32_value}
use Rattle.protocol_traits.specs.declared.fault.Bar.{Bar}
use Rattle.protocol_traits.specs.declared.proto.Hint.{Hint}
use Rattle.protocol_traits.specs.declared.proto.Hint.TheVariants as hints
use Rattle.protocol_traits.specs.declared.proto.Mark.{Mark}
use Rattle.protocol_traits.specs.Heads.{Header}
use Rattle.protocol_traits.specs.Steps.{Step}
use Rattle.type_walk.specs.Positions.{Position, mark_of, after, start}
use Rattle.multiplex_names.specs.Names.{split_of}
use Rattle.protocol_traits.specs.declared.traits.ReadRules.{Ghosts as ReadRules}
use Rattle.protocol_traits.specs.declared.traits.WireWrite.{Ghosts as WriteRules}
use Rattle.type_tables.specs.Declarations.{Declarations}
use Rattle.translate_verdicts.specs.declared.verdict.Cause.{Cause}
use Rattle.translate_verdicts.specs.Routes.{failure}
use Rattle.translate_verdicts.specs.Body.{Source, TargetRules, source_in, target_in}
use Rattle.translate_verdicts.specs.Texts.{cause_text, failure_type}

abbrev pub mark : Hint → Mark
mark hint = record { hint = hint; key = kinds.I8; value = kinds.I8 }

-- The body, each item with what its position is known to be: field 1, the string `message`, and field 2, the i32
-- `type`.
abbrev pub failure_items : List ℕ → ℤ → List (Item × Mark)
failure_items message kind =
    (field (pos 1) kinds.Str, mark hints.Unknown) ∷ (text message, mark hints.Text)
    ∷ (field (pos 2) kinds.I32, mark hints.Unknown) ∷ (i32_value kind, mark hints.Unknown)
    ∷ (stop, mark hints.Unknown) ∷ []

-- the same items, each with what an IDL declares of its position
abbrev pub marked : Position → List Item → List (Item × Mark)
marked position [] = []
marked position (item ∷ items) = (item, mark_of position item) ∷ marked (after position item) items

abbrev pub plain_items : List ℕ → ℤ → List Item
plain_items message kind = field (pos 1) kinds.Str ∷ text message ∷ field (pos 2) kinds.I32 ∷ i32_value kind ∷ stop ∷ []

-- what is known of the items of an answer is what these declarations tell of a TApplicationException
abbrev pub DeclaresAnswers : Declarations → Type 0
DeclaresAnswers d = (message : List ℕ) (kind : ℤ) → failure_items message kind ≡ marked (start d (Some failure)) (plain_items message kind)

-- a writer can spell each of these items
abbrev pub TakesAll : (Item → Mark → Option Bar) → List (Item × Mark) → Type 0
TakesAll bar [] = Unit {0}
TakesAll bar (x ∷ xs) = (bar x.0 x.1 ≡ None) × TakesAll bar xs

-- the method's name: a call has its service's name before it
abbrev pub method_name : MessageType → List ℕ → List ℕ
method_name types.Call name = (split_of name).1
method_name types.Oneway name = (split_of name).1
method_name types.Reply name = name
method_name types.Exception name = name

module _ {T : Type 0} (plain : T → Item → Mark → List ℕ) (after : T → Item → Mark → T) where
  -- items one after another
  abbrev pub spelled : T → List (Item × Mark) → List ℕ
  spelled writer [] = []
  spelled writer (x ∷ xs) = plain writer x.0 x.1 ++ spelled (after writer x.0 x.1) xs

-- the empty name stands for one that can't be spelled
abbrev pub spellable : (List ℕ → Option Bar) → List ℕ → List ℕ
spellable name_bar name = if is_some (name_bar name) then [] else name

-- the header of the answer to a message with this header
abbrev pub answer_header : (List ℕ → Option Bar) → Header → Header
answer_header name_bar h = record { name = spellable name_bar (method_name h.mtype h.name); mtype = types.Exception; seq = h.seq }

module _ {S T : Type 0} (source : Source S) (target : TargetRules T) where
  abbrev pub answer_to : List ℕ → ℤ → Step S Header → List ℕ
  answer_to message kind (Ok x) = target.plain_head (answer_header target.name_bar x.0) ++ spelled target.plain target.after target.begun (failure_items message kind)
  answer_to message kind (Err f) = []

  -- what answers a frame for this cause, or nothing where its header isn't whole
  unfoldable pub answer_of : List ℕ → Cause → List ℕ
  answer_of frame cause = answer_to (cause_text cause) (failure_type cause) (source.reads_head (source.begun frame))

-- the same, by the rules of any reader and any writer
abbrev pub answer_in : {S T : Type 0} → ReadRules S → WriteRules T → List ℕ → Cause → List ℕ
answer_in reads writes frame cause = answer_of (source_in reads) (target_in writes) frame cause
