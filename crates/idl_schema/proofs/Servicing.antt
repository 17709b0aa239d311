-- The methods of one service.
use Rattle.std.proofs.Common.{◌≡◌, ℕ, zero, suc, ◌<◌, List, [], ◌∷◌, ◌++◌, length, append_assoc, append-nil, refl, ap, ◌∙◌, arith}
use Rattle.type_tables.specs.declared.declared.MethodInfo.{MethodInfo}
use Rattle.type_tables.specs.declared.services.ServiceDecl.{ServiceDecl}
use Rattle.type_tables.specs.Declarations.{Declarations, with_method}
use Rattle.type_tables.specs.Services.{services_with, methods_of}
use Rattle.idl_schema.specs.Adding.{with_methods}

abbrev pub Methods : Type 0
Methods = List (List ℕ × MethodInfo)

replaced : (ts : List ServiceDecl) (s : ℕ) (ms ns : Methods) → services_with (services_with ts s ms) s ns ≡ services_with ts s ns
replaced [] s ms ns = refl
replaced (t ∷ ts) zero ms ns = refl
replaced (t ∷ ts) (suc s) ms ns = ap (λ (rest : List ServiceDecl). t ∷ rest) (replaced ts s ms ns)

pub methods_are : (ts : List ServiceDecl) (s : ℕ) (ms : Methods) → s < length ts → methods_of (services_with ts s ms) s ≡ ms
methods_are [] s ms h = absurd (omega arith)
methods_are (t ∷ ts) zero ms h = refl
methods_are (t ∷ ts) (suc s) ms h = methods_are ts s ms (omega arith)

kept : (ts : List ServiceDecl) (s : ℕ) → services_with ts s (methods_of ts s) ≡ ts
kept [] s = refl
kept (t ∷ ts) zero = refl
kept (t ∷ ts) (suc s) = ap (λ (rest : List ServiceDecl). t ∷ rest) (kept ts s)

pub as_many : (ts : List ServiceDecl) (s : ℕ) (ms : Methods) → length (services_with ts s ms) ≡ length ts
as_many [] s ms = refl
as_many (t ∷ ts) zero ms = refl
as_many (t ∷ ts) (suc s) ms = ap (λ (n : ℕ). suc n) (as_many ts s ms)

-- a method more, and those behind it
pub methods_on : (b c : Declarations) (s : ℕ) (name : List ℕ) (m : MethodInfo) (rest : Methods) (whole : Declarations) → s < length b.services → c ≡ with_method b s name m →
    with_methods b s ((name, m) ∷ rest) ≡ whole → with_methods c s rest ≡ whole
methods_on b c s name m rest whole h e i =
    let ms = methods_of b.services s in
    let all = services_with b.services s (ms ++ (name, m) ∷ []) in
    ap (λ (d : Declarations). with_methods d s rest) e
    ∙ ap (λ (l : Methods). let r : Declarations = record b { services = services_with all s (l ++ rest) } in r) (methods_are b.services s (ms ++ (name, m) ∷ []) h)
    ∙ ap (λ (l : List ServiceDecl). let r : Declarations = record b { services = l } in r) (replaced b.services s (ms ++ (name, m) ∷ []) ((ms ++ (name, m) ∷ []) ++ rest))
    ∙ ap (λ (l : Methods). let r : Declarations = record b { services = services_with b.services s l } in r) (append_assoc ms ((name, m) ∷ []) rest) ∙ i

pub methods_end : (b : Declarations) (s : ℕ) → with_methods b s [] ≡ b
methods_end b s =
    ap (λ (l : Methods). let r : Declarations = record b { services = services_with b.services s l } in r) (append-nil (methods_of b.services s))
    ∙ ap (λ (l : List ServiceDecl). let r : Declarations = record b { services = l } in r) (kept b.services s)

-- the last service
pub last_methods : (ts : List ServiceDecl) (t : ServiceDecl) (ms : Methods) → t.methods ≡ [] →
    services_with (ts ++ t ∷ []) (length ts) (methods_of (ts ++ t ∷ []) (length ts) ++ ms) ≡ ts ++ record { base = t.base; methods = ms } ∷ []
last_methods [] t ms e = ap (λ (l : Methods). let r : ServiceDecl = record { base = t.base; methods = l ++ ms } in r ∷ []) e
last_methods (u ∷ us) t ms e = ap (λ (rest : List ServiceDecl). u ∷ rest) (last_methods us t ms e)

-- it has no methods yet
pub none_yet : (ts : List ServiceDecl) (t : ServiceDecl) (s : ℕ) → s ≡ length ts → t.methods ≡ [] → methods_of (ts ++ t ∷ []) s ≡ []
none_yet [] t zero e h = h
none_yet [] t (suc s) e h = absurd (omega (arith, e))
none_yet (u ∷ us) t zero e h = absurd (omega (arith, e))
none_yet (u ∷ us) t (suc s) e h = none_yet us t s (omega (arith, e)) h
