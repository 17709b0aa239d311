-- The plain spelling of a message spells it.
use Rattle.std.proofs.Common.{◌≡◌, List, [], ◌∷◌, ◌++◌, refl, ap}
use Rattle.thrift_value.specs.Items.{Item}
use Rattle.thrift_value.specs.Trees.{Message, items_of_members}
use Rattle.protocol_traits.specs.declared.proto.Mark.{Mark}
use Rattle.type_tables.specs.Declarations.{Declarations}
use Rattle.type_walk.specs.Positions.{Position, after}
use Rattle.translate_verdicts.specs.declared.route.Route.{Route}
use Rattle.translate_verdicts.specs.Routes.{start_of}
use Rattle.translate_core.specs.Answers.{TakesAll, marked, spelled}
use Rattle.protocol_pairs.specs.Pairs.{binary_target, compact_target}
use Rattle.binary_protocol.specs.declared.writer.BinaryWrite.{BinaryWrite}
use Rattle.binary_protocol.specs.Grammar.{BinarySpells}
use Rattle.binary_protocol.specs.Plain as binary
use Rattle.compact_protocol.specs.Grammar.{CompactSpells}
use Rattle.compact_protocol.specs.Plain as compact
use Rattle.binary_laws.specs.Reads.{header_of_message}
use Rattle.binary_laws.specs.Written.{IsMessage, items_in, put, AreTaken}
use Rattle.binary_laws.proofs.Written.{written_spells}
use Rattle.compact_laws.specs.Written as compact_written
use Rattle.compact_laws.proofs.Written as compact_proofs
use Rattle.verdict_laws.specs.Spellings.{plain_of}
use Rattle.verdict_laws.proofs.Firm.{AreFirm, binary_takes_all, compact_takes_all}

items_again : (p : Position) (items : List Item) → items_in (marked p items) ≡ items
items_again p [] = refl
items_again p (item ∷ items) = ap (λ l. item ∷ l) (items_again (after p item) items)

all_taken : (xs : List (Item × Mark)) → TakesAll binary.bar xs → AreTaken xs
all_taken [] t = tt
all_taken (x ∷ xs) t = (t.0, all_taken xs t.1)

put_again : (w : BinaryWrite) (xs : List (Item × Mark)) → spelled binary_target.plain binary_target.after w xs ≡ put xs
put_again w [] = refl
put_again w (x ∷ xs) = ap (λ l. binary.plain x.0 x.1 ++ l) (put_again (binary_target.after w x.0 x.1) xs)

pub binary_plain : (d : Declarations) (route : Route) (m : Message) → IsMessage m → AreFirm (items_of_members m.body) → BinarySpells m (plain_of binary_target d route m)
binary_plain d route m is firm =
    let xs = marked (start_of d route (header_of_message m)) (items_of_members m.body) in
    written_spells m (plain_of binary_target d route m) is (record {
      marked = xs;
      items = items_again (start_of d route (header_of_message m)) (items_of_members m.body);
      taken = all_taken xs (binary_takes_all (items_of_members m.body) (start_of d route (header_of_message m)) firm);
      bytes_are = ap (λ l. binary.plain_head (header_of_message m) ++ l) (put_again binary_target.begun xs);
    })

compact_taken : (p : Position) (items : List Item) → TakesAll (λ item mark. compact.bar item) (marked p items) → compact_written.AreTaken items
compact_taken p [] t = tt
compact_taken p (item ∷ items) t = (t.0, compact_taken (after p item) items t.1)

compact_put : (w : compact.Writer) (p : Position) (items : List Item) → spelled compact_target.plain compact_target.after w (marked p items) ≡ compact_written.put w items
compact_put w p [] = refl
compact_put w p (item ∷ items) = ap (λ l. compact.spelling w item ++ l) (compact_put (compact.follows w item) (after p item) items)

pub compact_plain : (d : Declarations) (route : Route) (m : Message) → IsMessage m → AreFirm (items_of_members m.body) → CompactSpells m (plain_of compact_target d route m)
compact_plain d route m is firm =
    let p = start_of d route (header_of_message m) in
    compact_proofs.written_spells m (plain_of compact_target d route m) is (record {
      taken = compact_taken p (items_of_members m.body) (compact_takes_all (items_of_members m.body) p firm);
      bytes_are = ap (λ l. compact.head_spelling (header_of_message m) ++ l) (compact_put compact.begun p (items_of_members m.body));
    })
