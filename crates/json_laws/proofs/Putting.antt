-- What is put of items, as tokens with no whitespace between them.
use Rattle.std.proofs.Common.{◌≡◌, ℕ, ℤ, suc, Bool, true, false, List, [], ◌∷◌, ◌++◌, length, Some, None, refl, ap, ◌∙◌, sym, subst, arith, append_assoc}
use Rattle.std.specs.Prelude.{◌==◌, ◌||◌, if◌then◌else◌}
use Rattle.std.specs.Fmt.{decimal, signed_decimal}
use Rattle.std.specs.Str.{is_utf8}
use Rattle.std.proofs.lemmas.Bool.Decides.{nat_tests}
use Rattle.std.proofs.lemmas.Fmt.{decimal_digit}
use Rattle.std.proofs.lemmas.List.{append-nil}
use Rattle.thrift_value.specs.declared.kind.Kind.{Kind}
use Rattle.thrift_value.specs.declared.kind.Kind.TheVariants as kinds
use Rattle.thrift_value.specs.Items.{Item}
use Rattle.protocol_traits.specs.declared.fault.Bar.{Bar}
use Rattle.protocol_traits.specs.declared.nest.Slot.{Slot}
use Rattle.protocol_traits.specs.declared.nest.Slot.TheVariants as slots
use Rattle.protocol_traits.specs.declared.proto.Hint.{Hint}
use Rattle.protocol_traits.specs.declared.proto.Hint.TheVariants as hints
use Rattle.protocol_traits.specs.Stack.{first_of}
use Rattle.protocol_traits.specs.Follow.{spent, after}
use Rattle.type_tables.specs.declared.declared.Ty.{Ty}
use Rattle.type_tables.specs.declared.declared.Ty.TheVariants as types
use Rattle.type_tables.specs.Declarations.{Declarations}
use Rattle.type_walk.specs.declared.levels.Level.{Level}
use Rattle.type_walk.specs.Positions.{Position, hint_at, mark_at, mark_of, standing}
use Rattle.type_walk.specs.Positions.{after as position_after}
use Rattle.json_text.specs.Grammar.{AreBytes}
use Rattle.json_protocol.specs.declared.opening.Opening.{Opening}
use Rattle.json_protocol.specs.declared.opening.Opening.TheVariants as openings
use Rattle.json_protocol.specs.Reading.{opening_after}
use Rattle.json_protocol.specs.Writing.{Writer, string_bar, is_uuid, kind_bar, kind_name, quoted, field_lead, stop_lead, value_lead, string_spelling, field_spelling, stop_spelling, sequence_spelling, kinds_spelling, plain}
use Rattle.json_protocol.specs.Grammar.{Tokens, mark, comma, name_token, map_tokens, sequence_tokens, IsNamed, IsStringToken}
use Rattle.binary_laws.proofs.Walking.{CallsFor}
use Rattle.json_laws.specs.Written.{put, AreTaken, HaveBytes}
use Rattle.json_laws.proofs.PlainWords.{text_spells, blob_spells}
use Rattle.json_laws.specs.Fronts.{leading, field_leading, is_first}

-- ---- tokens one behind another

abbrev pub flat : Tokens → List ℕ
flat [] = []
flat (token ∷ tokens) = token ++ flat tokens

pub flat_both : (a b : Tokens) → flat (a ++ b) ≡ flat a ++ flat b
flat_both [] b = refl
flat_both (token ∷ a) b = ap (λ l. token ++ l) (flat_both a b) ∙ sym (append_assoc token (flat a) (flat b))

pub lead_is : (opening : Opening) (nest : List Slot) (tokens : Tokens) → flat (leading opening nest tokens) ≡ value_lead opening (first_of nest) ++ flat tokens
lead_is opening [] tokens = refl
lead_is opening (slots.Fields last ∷ up) tokens = refl
lead_is opening (slots.Value kind id ∷ up) tokens = refl
lead_is opening (slots.Elements kind left ∷ up) tokens = refl
lead_is openings.Old (slots.Keys key value left ∷ up) tokens = refl
lead_is openings.New (slots.Keys key value left ∷ up) tokens = refl
lead_is openings.Body (slots.Keys key value left ∷ up) tokens = refl
lead_is opening (slots.Values key value left ∷ up) tokens = refl

pub lead_more : (opening : Opening) (nest : List Slot) (a b : Tokens) → leading opening nest a ++ b ≡ leading opening nest (a ++ b)
lead_more opening [] a b = refl
lead_more opening (slots.Fields last ∷ up) a b = refl
lead_more opening (slots.Value kind id ∷ up) a b = refl
lead_more opening (slots.Elements kind left ∷ up) a b = refl
lead_more openings.Old (slots.Keys key value left ∷ up) a b = refl
lead_more openings.New (slots.Keys key value left ∷ up) a b = refl
lead_more openings.Body (slots.Keys key value left ∷ up) a b = refl
lead_more opening (slots.Values key value left ∷ up) a b = refl

pub field_more : (opening : Opening) (a b : Tokens) → field_leading opening a ++ b ≡ field_leading opening (a ++ b)
field_more openings.Body a b = refl
field_more openings.New a b = refl
field_more openings.Old a b = refl

-- ---- fields and stops

-- the last stop closes the message too
abbrev pub closing : List Slot → Tokens
closing [] = mark 93 ∷ []
closing (slot ∷ up) = []

-- inside a value a stop closes none
pub none_closed : (nest : List Slot) (kind : Kind) → CallsFor nest kind → closing (spent nest) ≡ []
none_closed [] kind c = absurd c
none_closed (slots.Fields last ∷ up) kind c = absurd c
none_closed (slots.Value k id ∷ up) kind c = refl
none_closed (slots.Elements k left ∷ up) kind c = refl
none_closed (slots.Keys key value left ∷ up) kind c = refl
none_closed (slots.Values key value left ∷ up) kind c = refl

stop_is : (up : List Slot) → stop_spelling (suc (length up)) ≡ flat (mark 125 ∷ closing up)
stop_is [] = refl
stop_is (slot ∷ up) = let deep : (suc (suc (length up)) == 1) ≡ false = grind (arith, nat_tests) in rw deep refl

pub stop_put : (opening : Opening) (last : ℤ) (up : List Slot) → stop_lead opening (Some (slots.Fields last)) ++ stop_spelling (suc (length up)) ≡ flat (field_leading opening (mark 125 ∷ closing up))
stop_put openings.Body last up = ap (λ l. 123 ∷ l) (stop_is up)
stop_put openings.New last up = stop_is up
stop_put openings.Old last up = ap (λ l. 125 ∷ l) (stop_is up)

abbrev pub field_tokens : ℤ → Kind → Tokens
field_tokens id kind = quoted (signed_decimal id) ∷ mark 58 ∷ mark 123 ∷ name_token kind ∷ []

field_is : (id : ℤ) (kind : Kind) → field_spelling id kind ≡ flat (field_tokens id kind)
field_is id kind = ap (λ l. quoted (signed_decimal id) ++ (58 ∷ 123 ∷ l)) (sym (append-nil (name_token kind)))

pub field_put : (opening : Opening) (last id : ℤ) (kind : Kind) → field_lead opening (Some (slots.Fields last)) ++ field_spelling id kind ≡ flat (field_leading opening (comma (is_first opening) ++ field_tokens id kind))
field_put openings.Body last id kind = ap (λ l. 123 ∷ l) (field_is id kind)
field_put openings.New last id kind = field_is id kind
field_put openings.Old last id kind = ap (λ l. 125 ∷ 44 ∷ l) (field_is id kind)

-- ---- containers

pub sequence_put : (kind : Kind) (n : ℕ) → sequence_spelling kind n ≡ flat (sequence_tokens kind n)
sequence_put kind n = ap (λ l. 91 ∷ (name_token kind ++ (44 ∷ l))) (sym (append-nil (decimal n)))

-- a bracket, two kinds and a size
abbrev pub map_front : Kind → Kind → ℕ → Tokens
map_front key value size = mark 91 ∷ name_token key ∷ mark 44 ∷ name_token value ∷ mark 44 ∷ decimal size ∷ []

kinds_more : (a b more : List ℕ) → (((91 ∷ a) ++ (44 ∷ b)) ++ (44 ∷ [])) ++ more ≡ 91 ∷ (a ++ (44 ∷ (b ++ (44 ∷ more))))
kinds_more a b more = append_assoc ((91 ∷ a) ++ (44 ∷ b)) (44 ∷ []) more ∙ append_assoc (91 ∷ a) (44 ∷ b) (44 ∷ more)

pub map_put : (key value : Kind) (n : ℕ) → kinds_spelling key value ++ decimal n ≡ flat (map_front key value n)
map_put key value n = kinds_more (name_token key) (name_token value) (decimal n) ∙ ap (λ l. 91 ∷ (name_token key ++ (44 ∷ (name_token value ++ (44 ∷ l))))) (sym (append-nil (decimal n)))

-- a kind that has a name, with the name that stands for this one
pub record Named (kind : Kind) : Type 0 where
  pub by : Kind
  pub named : IsNamed by
  pub is : kind_name kind ≡ kind_name by

pub named_by : (kind : Kind) → Named kind
named_by kinds.Bool = record { by = kinds.Bool; named = refl; is = refl }
named_by kinds.I8 = record { by = kinds.I8; named = refl; is = refl }
named_by kinds.I16 = record { by = kinds.I16; named = refl; is = refl }
named_by kinds.I32 = record { by = kinds.I32; named = refl; is = refl }
named_by kinds.I64 = record { by = kinds.I64; named = refl; is = refl }
named_by kinds.Double = record { by = kinds.Double; named = refl; is = refl }
named_by kinds.Str = record { by = kinds.Str; named = refl; is = refl }
named_by kinds.Struct = record { by = kinds.Struct; named = refl; is = refl }
named_by kinds.Map = record { by = kinds.Map; named = refl; is = refl }
named_by kinds.Set = record { by = kinds.Set; named = refl; is = refl }
named_by kinds.List = record { by = kinds.List; named = refl; is = refl }
named_by kinds.Uuid = record { by = kinds.I8; named = refl; is = refl }

abbrev pub none_tokens : Kind → Kind → Tokens
none_tokens key value = map_tokens key value 0 ++ (mark 125 ∷ mark 93 ∷ [])

none_is : (key value : Kind) → kinds_spelling key value ++ 48 ∷ 44 ∷ 123 ∷ 125 ∷ 93 ∷ [] ≡ flat (none_tokens key value)
none_is key value =
    kinds_more (name_token key) (name_token value) (48 ∷ 44 ∷ 123 ∷ 125 ∷ 93 ∷ [])
    ∙ ap (λ l. 91 ∷ (name_token key ++ (44 ∷ (name_token value ++ (44 ∷ (l ++ (44 ∷ 123 ∷ 125 ∷ 93 ∷ []))))))) (sym (decimal_digit 0 (omega arith)))

pub none_put : (key value : Kind) (k : Named key) (v : Named value) → kinds_spelling key value ++ 48 ∷ 44 ∷ 123 ∷ 125 ∷ 93 ∷ [] ≡ flat (none_tokens k.by v.by)
none_put key value k v =
    ap (λ name. (91 ∷ quoted name ++ 44 ∷ quoted (kind_name value) ++ 44 ∷ []) ++ 48 ∷ 44 ∷ 123 ∷ 125 ∷ 93 ∷ []) k.is
    ∙ ap (λ name. (91 ∷ quoted (kind_name k.by) ++ 44 ∷ quoted name ++ 44 ∷ []) ++ 48 ∷ 44 ∷ 123 ∷ 125 ∷ 93 ∷ []) v.is ∙ none_is k.by v.by

-- ---- what no bar refuses

pub no_bar : (b : Bar) → Some b ≡ None → ⊥
no_bar b e = absurd (cc)

unbarred : (b : Bool) → kind_bar b ≡ None → b ≡ false
unbarred true e = absurd (cc)
unbarred false e = refl

neither : (a b : Bool) → (a || b) ≡ false → (a ≡ false) × (b ≡ false)
neither true b e = absurd (cc)
neither false true e = absurd (cc)
neither false false e = (refl, refl)

pub named : (kind : Kind) → kind_bar (is_uuid kind) ≡ None → IsNamed kind
named kind e = unbarred (is_uuid kind) e

pub both_named : (key value : Kind) → kind_bar (is_uuid key || is_uuid value) ≡ None → IsNamed key × IsNamed value
both_named key value e = neither (is_uuid key) (is_uuid value) (unbarred (is_uuid key || is_uuid value) e)

pub mark_hint : (d : Declarations) (ty : Ty) → (mark_at d ty).hint ≡ hint_at ty
mark_hint d types.Unknown = refl
mark_hint d types.Bool = refl
mark_hint d types.I8 = refl
mark_hint d types.I16 = refl
mark_hint d types.I32 = refl
mark_hint d types.I64 = refl
mark_hint d types.Double = refl
mark_hint d types.Text = refl
mark_hint d types.Blob = refl
mark_hint d (types.Enum e) = refl
mark_hint d (types.Struct s) = refl
mark_hint d (types.Map key value) = refl
mark_hint d (types.Set element) = refl
mark_hint d (types.List element) = refl
mark_hint d types.Uuid = refl

valid : (b : Bool) (bar : Bar) → (if b then None else Some bar) ≡ None → b ≡ true
valid true bar e = refl
valid false bar e = absurd (cc)

pub name_valid : (name : List ℕ) (bar : Bar) → (if is_utf8 name then None else Some bar) ≡ None → is_utf8 name ≡ true
name_valid name bar e = valid (is_utf8 name) bar e

pub string_put : (hint : Hint) (bytes : List ℕ) → string_bar bytes hint ≡ None → AreBytes bytes → IsStringToken hint bytes (string_spelling bytes hint ∷ [])
string_put hints.Text bytes e are = (_, text_spells bytes (valid (is_utf8 bytes) _ e), refl)
string_put hints.Blob bytes e are = (_, blob_spells bytes are, refl)
string_put hints.Unknown bytes e are = absurd (no_bar _ e)

-- ---- items in front of others

abbrev pub writer : List Slot → Opening → Writer
writer nest opening = record { nest = nest; opening = opening }

-- what is put of these items, with others behind them: tokens that spell what they should, and then what is put of the others
pub record Puts (p : Position) (nest : List Slot) (opening : Opening) (items rest : List Item) (last : Position) (up : List Slot) (Spelled : Tokens → Type 0) : Type 0 where
  pub tokens : Tokens
  pub spells : Spelled tokens
  pub is : put p (writer nest opening) (items ++ rest) ≡ flat tokens ++ put last (writer up openings.Old) rest
  pub taken : AreTaken last rest

pub turned : (d : Declarations) (p q : Position) (l m : List Level) (a b nest : List Slot) (opening : Opening) (items rest : List Item) (C : Tokens → Type 0) → p ≡ q → l ≡ m → a ≡ b → Puts p nest opening items rest (standing d l) a C
    → Puts q nest opening items rest (standing d m) b C
turned d p q l m a b nest opening items rest C e f g w =
    subst (λ x. Puts x nest opening items rest (standing d m) b C) e
    (subst (λ x. Puts p nest opening items rest (standing d x) b C) f
    (subst (λ x. Puts p nest opening items rest (standing d l) x C) g w))

-- no item
pub nothing_put : (p q : Position) (nest up : List Slot) (opening : Opening) (rest : List Item) → p ≡ q → nest ≡ up → opening ≡ openings.Old → AreTaken p rest → Puts p nest opening [] rest q up (λ tokens. tokens ≡ [])
nothing_put p q nest up opening rest e f g taken = record {
  tokens = [];
  spells = refl;
  is = ap (λ x. put x (writer nest opening) rest) e ∙ ap (λ n. put q (writer n opening) rest) f ∙ ap (λ o. put q (writer up o) rest) g;
  taken = subst (λ x. AreTaken x rest) e taken;
}

-- an item in front
pub behind : (p : Position) (nest : List Slot) (opening : Opening) (item : Item) (items rest : List Item) (last : Position) (up : List Slot) (front : Tokens) (B C : Tokens → Type 0)
    → plain (writer nest opening) item (mark_of p item) ≡ flat front → Puts (position_after p item) (after item nest) (opening_after item) items rest last up B → ((x : Tokens) → B x → C (front ++ x))
    → Puts p nest opening (item ∷ items) rest last up C
behind p nest opening item items rest last up front B C e q join =
    let later = put last (writer up openings.Old) rest in
    record {
      tokens = front ++ q.tokens;
      spells = join q.tokens q.spells;
      is = ap (λ l. l ++ put (position_after p item) (writer (after item nest) (opening_after item)) (items ++ rest)) e ∙ ap (λ l. flat front ++ l) q.is ∙ sym (append_assoc (flat front) (flat q.tokens) later)
          ∙ ap (λ l. l ++ later) (sym (flat_both front q.tokens));
      taken = q.taken;
    }

-- one thing behind another
pub both : (p : Position) (nest : List Slot) (opening : Opening) (a b rest : List Item) (mid : Position) (between : List Slot) (last : Position) (up : List Slot) (A B C : Tokens → Type 0)
    → (f : Puts p nest opening a (b ++ rest) mid between A) → (AreTaken mid (b ++ rest) → Puts mid between openings.Old b rest last up B) → ((x y : Tokens) → A x → B y → C (x ++ y))
    → Puts p nest opening (a ++ b) rest last up C
both p nest opening a b rest mid between last up A B C f go join =
    let q = go f.taken in
    let later = put last (writer up openings.Old) rest in
    record {
      tokens = f.tokens ++ q.tokens;
      spells = join f.tokens q.tokens f.spells q.spells;
      is = ap (put p (writer nest opening)) (list_assoc a b rest) ∙ f.is ∙ ap (λ l. flat f.tokens ++ l) q.is ∙ sym (append_assoc (flat f.tokens) (flat q.tokens) later) ∙ ap (λ l. l ++ later) (sym (flat_both f.tokens q.tokens));
      taken = q.taken;
    }
  where
    list_assoc : (a b c : List Item) → (a ++ b) ++ c ≡ a ++ (b ++ c)
    list_assoc [] b c = refl
    list_assoc (x ∷ a) b c = ap (λ l. x ∷ l) (list_assoc a b c)

pub bytes_front : (a b : List Item) → HaveBytes (a ++ b) → HaveBytes a
bytes_front [] b h = tt
bytes_front (x ∷ a) b h = (h.0, bytes_front a b h.1)

pub bytes_back : (a b : List Item) → HaveBytes (a ++ b) → HaveBytes b
bytes_back [] b h = h
bytes_back (x ∷ a) b h = bytes_back a b h.1
