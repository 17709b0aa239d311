-- The laws: what is read is cut, what is cut is read, in one way, and the fault that is told is the first that stands there.
use Rattle.std.proofs.Common.{◌≡◌, ◌↔◌, ℕ, ◌+◌, ◌≤◌, List, [], length, Result, Ok, Err, refl, sym, ap, ◌∙◌, subst, arith, append-nil, ◌⊎◌, inl, inr}
use Rattle.idl_lexer.specs.Grammar.{Lexes}
use Rattle.idl_lexer.specs.Tokens.{Read, joined, tokens_from, tokens_of, Gives}
use Rattle.idl_lexer.specs.declared.token.Token.{Token}
use Rattle.idl_lexer.specs.declared.token.LexError.{LexError}
use Rattle.idl_lexer.specs.declared.token.LexError.TheVariants as errors
use Rattle.idl_lexer.specs.declared.token.LexFault.{LexFault}
use Rattle.std.specs.Global.{Vec}
use Rattle.lexis_laws.specs.Cutting.{Cuts}
use Rattle.lexis_laws.specs.Cutting as cuttings
use Rattle.lexis_laws.specs.Faults.{IsFaultOf, IsLexed}
use Rattle.lexis_laws.proofs.Reading.{Told, read_told}
use Rattle.lexis_laws.proofs.Cut.{read_of_cut, fault_read}
use Rattle.lexis_laws.proofs.Agree.{lexes_cut, cut_lexes}

from_start : (n : ℕ) → 0 + n ≡ n
from_start n = omega arith

pub cut_of_read : (text : List ℕ) (tokens : List Token) → tokens_of text ≡ Ok tokens → Cuts 0 text tokens (length text) []
cut_of_read text tokens e = subst (λ p. Cuts 0 text tokens p []) (from_start (length text)) (subst (Told 0 text) e (read_told text 0))

nothing_more : (tokens : List Token) (at : ℕ) → joined tokens (tokens_from [] 0 at) ≡ Ok tokens
unfolding tokens_from
nothing_more tokens at = ap Ok (append-nil tokens)

pub read_of_whole : (text : List ℕ) (tokens : List Token) (place : ℕ) → Cuts 0 text tokens place [] → tokens_of text ≡ Ok tokens
read_of_whole text tokens place c = read_of_cut 0 place text [] tokens c ∙ nothing_more tokens place

pub lexes_of_read : (text : List ℕ) (tokens : List Token) → tokens_of text ≡ Ok tokens → Lexes 0 text tokens
lexes_of_read text tokens e = cut_lexes 0 (length text) text [] tokens refl (cut_of_read text tokens e)

pub read_of_lexes : (text : List ℕ) (tokens : List Token) → Lexes 0 text tokens → tokens_of text ≡ Ok tokens
read_of_lexes text tokens l = read_of_whole text tokens (0 + length text) (lexes_cut 0 text tokens l)

same_tokens : (read : Read) (xs ys : List Token) → read ≡ Ok xs → read ≡ Ok ys → xs ≡ ys
same_tokens read xs ys e f = let both : Ok xs ≡ Ok ys = sym e ∙ f in cc

pub one_cutting : (text : List ℕ) (xs ys : List Token) → Lexes 0 text xs → Lexes 0 text ys → xs ≡ ys
one_cutting text xs ys l m = same_tokens (tokens_of text) xs ys (read_of_lexes text xs l) (read_of_lexes text ys m)

pub fault_of_read : (text : List ℕ) (fault : LexFault) → tokens_of text ≡ Err fault → IsFaultOf text fault
fault_of_read text fault e = by_told (subst (Told 0 text) e (read_told text 0))
  where
    by_told : Told 0 text (Err fault) → IsFaultOf text fault
    by_told (tokens, rest, cut, why) = record { tokens = tokens; rest = rest; cut = cut; fails = why }

pub read_of_fault : (text : List ℕ) (fault : LexFault) → IsFaultOf text fault → tokens_of text ≡ Err fault
read_of_fault text fault f =
    read_of_cut 0 fault.offset text f.rest f.tokens f.cut ∙ ap (joined f.tokens) (fault_read fault.reason f.rest fault.offset f.fails)

pub cut_or_fault : (text : List ℕ) → ((tokens : List Token) × Lexes 0 text tokens) ⊎ ((fault : LexFault) × IsFaultOf text fault)
cut_or_fault text = by_read (tokens_of text) refl
  where
    by_read : (read : Read) → tokens_of text ≡ read → ((tokens : List Token) × Lexes 0 text tokens) ⊎ ((fault : LexFault) × IsFaultOf text fault)
    by_read (Ok tokens) e = inl (tokens, lexes_of_read text tokens e)
    by_read (Err fault) e = inr (fault, fault_of_read text fault e)

never_both_read : (read : Read) (tokens : List Token) (fault : LexFault) → read ≡ Ok tokens → read ≡ Err fault → ⊥
never_both_read read tokens fault e f = let both : Ok tokens ≡ Err fault = sym e ∙ f in absurd (cc)

pub never_both : (text : List ℕ) (tokens : List Token) (fault : LexFault) → Lexes 0 text tokens → IsFaultOf text fault → ⊥
never_both text tokens fault l f = never_both_read (tokens_of text) tokens fault (read_of_lexes text tokens l) (read_of_fault text fault f)

same_faults : (read : Read) (f g : LexFault) → read ≡ Err f → read ≡ Err g → f ≡ g
same_faults read f g e h = let both : Err f ≡ Err g = sym e ∙ h in cc

pub one_fault : (text : List ℕ) (f g : LexFault) → IsFaultOf text f → IsFaultOf text g → f ≡ g
one_fault text f g i j = same_faults (tokens_of text) f g (read_of_fault text f i) (read_of_fault text g j)

pub up_to_the_end : (text : List ℕ) (tokens : List Token) → Lexes 0 text tokens ↔ Cuts 0 text tokens (length text) []
up_to_the_end text tokens =
    ((λ l. cut_of_read text tokens (read_of_lexes text tokens l)), (λ c. cut_lexes 0 (length text) text [] tokens refl c))

pub lexed : (text : List ℕ) (result : Result (Vec Token) LexError) → Gives result (tokens_of text) → IsLexed text result
lexed text (Ok tokens) e = lexes_of_read text tokens.items e
lexed text (Err (errors.Fault fault)) e = fault_of_read text fault e
lexed text (Err errors.OutOfMemory) e = tt

joined_fault : (tokens : List Token) (read : Read) (fault : LexFault) → joined tokens read ≡ Err fault → read ≡ Err fault
joined_fault tokens (Ok more) fault e = absurd (cc)
joined_fault tokens (Err other) fault e = e

goes_forward : (at place : ℕ) (text behind : List ℕ) (tokens : List Token) → Cuts at text tokens place behind → at ≤ place
goes_forward at place text behind tokens (cuttings.here a rest) = omega arith
goes_forward at place text behind tokens (cuttings.gap a p bytes rest b ts gap c) = let more = goes_forward (a + length bytes) p rest b ts c in omega (arith, more)
goes_forward at place text behind tokens (cuttings.token a p form bytes rest b ts s fits c) = let more = goes_forward (a + length bytes) p rest b ts c in omega (arith, more)

pub not_beyond : (text behind : List ℕ) (tokens : List Token) (place : ℕ) (fault : LexFault) → Cuts 0 text tokens place behind → IsFaultOf text fault → place ≤ fault.offset
not_beyond text behind tokens place fault c f =
    let read = joined_fault tokens (tokens_from behind 0 place) fault (sym (read_of_cut 0 place text behind tokens c) ∙ read_of_fault text fault f) in
    let told = subst (Told place behind) read (read_told behind place) in
    goes_forward place fault.offset behind told.1 told.0 told.2
