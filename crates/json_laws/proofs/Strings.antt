-- The strings of a message that is spelled: texts are UTF-8, and each consists of bytes.
use Rattle.std.proofs.Common.{◌≡◌, ℕ, ◌+◌, ◌-◌, ◌*◌, ◌<◌, ◌≤◌, Bool, true, false, List, [], ◌∷◌, ◌++◌, refl, sym, subst, arith, ◌⊎◌, inl, inr}
use Rattle.std.specs.Prelude.{nat_lt}
use Rattle.std.specs.Char.{IsScalar, encode_utf8}
use Rattle.std.specs.Str.{IsUtf8, is_utf8}
use Rattle.std.proofs.lemmas.Bool.Decides.{nat_tests}
use Rattle.std.proofs.lemmas.Str.{IsUtf8-append, IsUtf8-encode, IsUtf8-nil, is_utf8-from_IsUtf8}
use Rattle.thrift_value.specs.declared.kind.Kind.{Kind}
use Rattle.thrift_value.specs.Items.{Item}
use Rattle.thrift_value.specs.Trees.{Tree, truth, whole_8, whole_16, whole_32, whole_64, double, characters, loose_number, loose_text, structure, mapping_of_none, mapping, collection, sequence, unique_id, Members, no_members, one_member, Trees, no_trees, one_tree, Pairs, no_pairs, one_pair, items_of, items_of_members, items_of_trees, items_of_pairs}
use Rattle.protocol_traits.specs.declared.proto.Hint.{Hint}
use Rattle.protocol_traits.specs.declared.proto.Hint.TheVariants as hints
use Rattle.json_text.specs.Grammar.{Piece, plain, short, unit, pair, IsShort, IsHex, IsUnit, IsPiece, ArePieces, piece_meant, all_meant, AreBytes, SpellsText}
use Rattle.json_text_laws.proofs.Choices.{either_way}
use Rattle.json_text_laws.proofs.Open.{two_spelled, three_spelled, four_spelled}
use Rattle.json_text_laws.proofs.Read.{small_first}
use Rattle.json_protocol.specs.Grammar.{Declared, Tokens, IsStringToken, Spells, SpellsMembers, SpellsTrees, SpellsPairs}
use Rattle.json_laws.specs.Written.{HaveBytes}

-- ---- characters

scalar_of : (c : ℕ) → c < 0x110000 → (c < 0xd800) ⊎ (0xe000 ≤ c) → IsScalar c
scalar_of c most (inl h) = grind (arith, nat_tests)
scalar_of c most (inr h) = grind (arith, nat_tests)

scalar_most : (c : ℕ) → IsScalar c → c < 0x110000
scalar_most c h = grind (arith, nat_tests)

hex_most : (x n : ℕ) → IsHex x n → n < 16
hex_most x n (inl (a, b, e)) = omega (arith, a, b, e)
hex_most x n (inr (inl (a, b, e))) = omega (arith, a, b, e)
hex_most x n (inr (inr (a, b, e))) = omega (arith, a, b, e)

unit_most : (digits : List ℕ) (code : ℕ) → IsUnit digits code → code < 65536
unit_most digits code (a, b, c, d, m, n, o, p, is, ha, hb, hc, hd, e) = omega (arith, e, hex_most a m ha, hex_most b n hb, hex_most c o hc, hex_most d p hd)

short_most : (letter c : ℕ) → IsShort letter c → c < 128
short_most letter c (inl (same, inl e)) = omega (arith, same, e)
short_most letter c (inl (same, inr (inl e))) = omega (arith, same, e)
short_most letter c (inl (same, inr (inr e))) = omega (arith, same, e)
short_most letter c (inr (inl (a, e))) = omega (arith, e)
short_most letter c (inr (inr (inl (a, e)))) = omega (arith, e)
short_most letter c (inr (inr (inr (inl (a, e))))) = omega (arith, e)
short_most letter c (inr (inr (inr (inr (inl (a, e)))))) = omega (arith, e)
short_most letter c (inr (inr (inr (inr (inr (a, e)))))) = omega (arith, e)

-- a piece means one character
piece_char : (p : Piece) → IsPiece p → (c : ℕ) × IsScalar c × (piece_meant p ≡ encode_utf8 c)
piece_char (plain c) (scalar, low, not_quote, not_slash) = (c, scalar, refl)
piece_char (short letter c) h = let most = short_most letter c h in (c, scalar_of c (omega (arith, most)) (inl (omega (arith, most))), refl)
piece_char (unit digits code) (is, alone) = let most = unit_most digits code is in (code, scalar_of code (omega (arith, most)) alone, refl)
piece_char (pair first high second low) (one, a, b, two, c, d) =
    (0x10000 + (high - 0xd800) * 1024 + (low - 0xdc00), scalar_of (0x10000 + (high - 0xd800) * 1024 + (low - 0xdc00)) (omega (arith, a, b, c, d)) (inr (omega arith)), refl)

-- ---- texts

meant_utf8 : (ps : List Piece) → ArePieces ps → IsUtf8 (all_meant ps)
meant_utf8 [] are = IsUtf8-nil
meant_utf8 (p ∷ ps) are = let c = piece_char p are.0 in IsUtf8-append (piece_meant p) (all_meant ps) (subst IsUtf8 (sym c.2) (IsUtf8-encode c.0 c.1)) (meant_utf8 ps are.1)

pub text_utf8 : (meant token : List ℕ) → SpellsText meant token → is_utf8 meant ≡ true
text_utf8 meant token (ps, are, means, is) = is_utf8-from_IsUtf8 meant (subst IsUtf8 (sym means) (meant_utf8 ps are))

bytes_both : (a b : List ℕ) → AreBytes a → AreBytes b → AreBytes (a ++ b)
bytes_both [] b h k = k
bytes_both (x ∷ a) b h k = (h.0, bytes_both a b h.1 k)

encoded_bytes : (c : ℕ) → c < 0x110000 → AreBytes (encode_utf8 c)
encoded_bytes c most = by_test (either_way (nat_lt c 128)) (either_way (nat_lt c 2048)) (either_way (nat_lt c 65536))
  where
    by_test : (nat_lt c 128 ≡ true) ⊎ (nat_lt c 128 ≡ false) → (nat_lt c 2048 ≡ true) ⊎ (nat_lt c 2048 ≡ false) → (nat_lt c 65536 ≡ true) ⊎ (nat_lt c 65536 ≡ false) → AreBytes (encode_utf8 c)
    by_test (inl e) f g = let high : c < 128 = grind (arith, nat_tests) in subst AreBytes (sym (small_first c high)) (omega (arith, high), tt)
    by_test (inr e) (inl f) g =
        let low : 128 ≤ c = grind (arith, nat_tests) in
        let high : c < 2048 = grind (arith, nat_tests) in
        subst AreBytes (sym (two_spelled c low high)) (omega (arith, high), (omega arith, tt))
    by_test (inr e) (inr f) (inl g) =
        let low : 2048 ≤ c = grind (arith, nat_tests) in
        let high : c < 65536 = grind (arith, nat_tests) in
        subst AreBytes (sym (three_spelled c low high)) (omega (arith, high), (omega arith, (omega arith, tt)))
    by_test (inr e) (inr f) (inr g) =
        let low : 65536 ≤ c = grind (arith, nat_tests) in
        subst AreBytes (sym (four_spelled c low)) (omega (arith, most), (omega arith, (omega arith, (omega arith, tt))))

meant_bytes : (ps : List Piece) → ArePieces ps → AreBytes (all_meant ps)
meant_bytes [] are = tt
meant_bytes (p ∷ ps) are =
    let c = piece_char p are.0 in
    bytes_both (piece_meant p) (all_meant ps) (subst AreBytes (sym c.2) (encoded_bytes c.0 (scalar_most c.0 c.1))) (meant_bytes ps are.1)

pub text_bytes : (meant token : List ℕ) → SpellsText meant token → AreBytes meant
text_bytes meant token (ps, are, means, is) = subst AreBytes (sym means) (meant_bytes ps are)

string_bytes : (hint : Hint) (bytes : List ℕ) (tokens : Tokens) → IsStringToken hint bytes tokens → AreBytes bytes
string_bytes hints.Text bytes tokens (token, spells, is) = text_bytes bytes token spells
string_bytes hints.Blob bytes tokens (token, (padding, are, pads, laid), is) = are
string_bytes hints.Unknown bytes tokens h = absurd h

-- ---- all strings of a message

pub both_have : (a b : List Item) → HaveBytes a → HaveBytes b → HaveBytes (a ++ b)
both_have [] b h k = k
both_have (x ∷ a) b h k = (h.0, both_have a b h.1 k)

module _ (declared : Declared) where
  mutual
    value_bytes : (t : Tree) (key : Bool) (at : declared.Position) (tokens : Tokens) → Spells declared key at t tokens → HaveBytes (items_of t)
    value_bytes (truth b) key at tokens s = (tt, tt)
    value_bytes (whole_8 n) key at tokens s = (tt, tt)
    value_bytes (whole_16 n) key at tokens s = (tt, tt)
    value_bytes (whole_32 n) key at tokens s = (tt, tt)
    value_bytes (whole_64 n) key at tokens s = (tt, tt)
    value_bytes (double bytes) key at tokens s = absurd s
    value_bytes (characters bytes) key at tokens s = (string_bytes (declared.hint at) bytes tokens s, tt)
    value_bytes (loose_number bytes) key at tokens s = (tt, tt)
    value_bytes (loose_text bytes) key at tokens s = (tt, tt)
    value_bytes (structure ms) key at tokens (inner, spells, is) = (tt, members_bytes ms true at inner spells)
    value_bytes mapping_of_none key at tokens s = (tt, tt)
    value_bytes (mapping k v ps) key at tokens (inner, named, other, spells, is) = (tt, pairs_bytes ps true at k v inner spells)
    value_bytes (collection kind ts) key at tokens (inner, named, spells, is) = (tt, trees_bytes ts at kind inner spells)
    value_bytes (sequence kind ts) key at tokens (inner, named, spells, is) = (tt, trees_bytes ts at kind inner spells)
    value_bytes (unique_id bytes) key at tokens s = absurd s

    pub members_bytes : (ms : Members) (first : Bool) (at : declared.Position) (tokens : Tokens) → SpellsMembers declared first at ms tokens → HaveBytes (items_of_members ms)
    members_bytes no_members first at tokens s = (tt, tt)
    members_bytes (one_member id t ms) first at tokens (digits, value, rest, int, named, one, more, is) =
        (tt, both_have (items_of t) (items_of_members ms) (value_bytes t false _ value one) (members_bytes ms false at rest more))

    trees_bytes : (ts : Trees) (at : declared.Position) (kind : Kind) (tokens : Tokens) → SpellsTrees declared at kind ts tokens → HaveBytes (items_of_trees ts)
    trees_bytes no_trees at kind tokens s = (tt, tt)
    trees_bytes (one_tree t ts) at kind tokens (value, rest, one, more, is) = both_have (items_of t) (items_of_trees ts) (value_bytes t false _ value one) (trees_bytes ts at kind rest more)

    pairs_bytes : (ps : Pairs) (first : Bool) (at : declared.Position) (key value : Kind) (tokens : Tokens) → SpellsPairs declared first at key value ps tokens → HaveBytes (items_of_pairs ps)
    pairs_bytes no_pairs first at key value tokens s = (tt, tt)
    pairs_bytes (one_pair k v ps) first at key value tokens (left, right, rest, one, two, more, is) =
        both_have (items_of k) (items_of v ++ items_of_pairs ps) (value_bytes k true _ left one) (both_have (items_of v) (items_of_pairs ps) (value_bytes v false _ right two) (pairs_bytes ps false at key value rest more))
