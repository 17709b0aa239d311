-- The numbers of a server's words lie in their ranges.
use Rattle.std.proofs.Common.{◌≡◌, ℕ, ◌<◌, ◌≤◌, ◌^◌, List, [], ◌∷◌, Bool, true, false, ◌&&◌, ◌||◌, not, Option, None, Some, refl, subst, arith}
use Rattle.std.specs.Prelude.{IfSome, is_some, is_none, nat_lt, if◌then◌else◌, codes}
use Rattle.std.proofs.lemmas.Bool.Decides.{nat_tests}
use Rattle.protocol_traits.specs.declared.proto.Proto.{Proto}
use Rattle.peer_addresses.specs.Addresses.{can_listen_at, can_connect_to}
use Rattle.gate_words.specs.Commands.{command, check_of, convert_of, convert_between, converted, show_of, show_from, shown, conform_of, conform_from, conformed, drill_of, drill_as, help_of}
use Rattle.decimal_words.specs.Numbers.{number_of, within}
use Rattle.gate_words.specs.Options.{no_options, is_for_one_upstream, set_limit, limit_of, set_sessions, set_accept, set_events, set_calls, set_threads, set_unframed, set_front, set_lines, names_refusals, with_server_option, with_peers, with_option, and_then, options_of, is_server_alone}
use Rattle.gate_words.specs.Protos.{proto_of}
use Rattle.gate_words.specs.Routing.{route_of, route_between, route_at, route_to, routed}
use Rattle.gate_words.specs.Targets.{targets_of}
use Rattle.gate_fan.specs.declared.fan.Target.{Target}
use Rattle.decimal_words.specs.Same.{is}
use Rattle.gate_words.specs.Same.{is_empty, or_else}
use Rattle.gate_words.specs.Serving.{serve_of, serve_between, serve_at, served, serving_of, has_enough_sessions, can_serve, wraps_twice}
use Rattle.gate_words.specs.Lines.{can_convert, can_show}
use Rattle.gate_words.specs.declared.command.Command.TheVariants as commands
use Rattle.gate_words.specs.declared.lines.LineSides.{LineSides}
use Rattle.gate_words.specs.declared.options.Declared.{Declared}
use Rattle.gate_words.specs.declared.options.Options.{Options}
use Rattle.gate_words.specs.declared.peers.Sides.{Sides}
use Rattle.gate_words.specs.declared.peers.Front.{Front}
use Rattle.gate_words.specs.declared.routing.Routing.{Routing}
use Rattle.gate_words.specs.declared.serving.Serving.{Serving}

by_test : {X : Type 0} (P : Type 0) (b : Bool) (x y : Option X) (v : X) → (x ≡ Some v → P) → (y ≡ Some v → P) → (if b then x else y) ≡ Some v → P
by_test P true x y v f g e = f e
by_test P false x y v f g e = g e

by_true : {X : Type 0} (P : Type 0) (b : Bool) (x y : Option X) (v : X) → (b ≡ true → x ≡ Some v → P) → (y ≡ Some v → P) → (if b then x else y) ≡ Some v → P
by_true P true x y v f g e = f refl e
by_true P false x y v f g e = g e

second_of_three : (a b c : Bool) → (not a && (not b && c)) ≡ true → b ≡ false
second_of_three a false c e = refl
second_of_three true true c e = absurd (cc)
second_of_three false true c e = absurd (cc)

third_of_four : (w a b c : Bool) → (w && (not a && (not b && c))) ≡ true → b ≡ false
third_of_four false a b c e = absurd (cc)
third_of_four true a b c e = second_of_three a b c e

none_is : {X : Type 0} {P : Type 0} (v : X) → None ≡ Some v → P
none_is v e = absurd (cc)

within_is : (low high : ℕ) (o : Option ℕ) (n : ℕ) → within low high o ≡ Some n → (low ≤ n) × (n ≤ high)
within_is low high None n e = absurd (cc)
within_is low high (Some k) n e = by_tests (nat_lt k low) (nat_lt high k) refl refl e
  where
    by_tests : (a b : Bool) → nat_lt k low ≡ a → nat_lt high k ≡ b → (if a then None else if b then None else Some k) ≡ Some n → (low ≤ n) × (n ≤ high)
    by_tests true b p q f = absurd (cc)
    by_tests false true p q f = absurd (cc)
    by_tests false false p q f = let same : k ≡ n = cc in subst (λ z. (low ≤ z) × (z ≤ high)) same (grind (arith, nat_tests), grind (arith, nat_tests))

-- ---- options

abbrev IsLimit : ℕ → Type 0
IsLimit n = (0 < n) × (n < 2 ^ 31)

-- the limit and the number of calls, where they are given
abbrev IsBounded : Options → Type 0
IsBounded o = IfSome o.limit IsLimit × IfSome o.calls (λ n. 0 < n)

some_same : (a b : Options) → Some a ≡ Some b → IsBounded a → IsBounded b
some_same a b e p = let same : a ≡ b = cc in subst IsBounded same p

limited : (o new : Options) (found : Option ℕ) → ((n : ℕ) → found ≡ Some n → IsLimit n) → set_limit o found ≡ Some new → IsBounded o → IsBounded new
limited o new None small e p = absurd (cc)
limited o new (Some n) small e p = some_same (record o { limit = Some n }) new e (small n refl, p.1)

numbered : (o new : Options) (found : Option ℕ) → set_sessions o found ≡ Some new → IsBounded o → IsBounded new
numbered o new None e p = absurd (cc)
numbered o new (Some n) e p = some_same (record o { sessions = Some n }) new e p

accepted : (o new : Options) (found : Option ℕ) → set_accept o found ≡ Some new → IsBounded o → IsBounded new
accepted o new None e p = absurd (cc)
accepted o new (Some n) e p = some_same (record o { accept = Some n }) new e p

spent : (o new : Options) (found : Option ℕ) → set_events o found ≡ Some new → IsBounded o → IsBounded new
spent o new None e p = absurd (cc)
spent o new (Some n) e p = some_same (record o { events = Some n }) new e p

called : (o new : Options) (found : Option ℕ) → ((n : ℕ) → found ≡ Some n → 0 < n) → set_calls o found ≡ Some new → IsBounded o → IsBounded new
called o new None some e p = absurd (cc)
called o new (Some n) some e p = some_same (record o { calls = Some n }) new e (p.0, some n refl)

threaded : (o new : Options) (found : Option ℕ) → set_threads o found ≡ Some new → IsBounded o → IsBounded new
threaded o new None e p = absurd (cc)
threaded o new (Some n) e p = some_same (record o { threads = Some n }) new e p

wrapped : (o new : Options) (found : Option Sides) → set_unframed o found ≡ Some new → IsBounded o → IsBounded new
wrapped o new None e p = absurd (cc)
wrapped o new (Some sides) e p = some_same (record o { unframed = Some sides }) new e p

fronted : (o new : Options) (found : Option Front) → set_front o found ≡ Some new → IsBounded o → IsBounded new
fronted o new None e p = absurd (cc)
fronted o new (Some front) e p = some_same (record o { front = Some front }) new e p

lined : (o new : Options) (found : Option LineSides) → set_lines o found ≡ Some new → IsBounded o → IsBounded new
lined o new None e p = absurd (cc)
lined o new (Some lines) e p = some_same (record o { lines = Some lines }) new e p

one_option : (o new : Options) (name value : List ℕ) → with_option o name value ≡ Some new → IsBounded o → IsBounded new
unfolding with_option with_server_option with_peers limit_of
one_option o new name value e p =
    by_test (IsBounded new) (is name (codes "--idl")) _ _ new
    (by_test (IsBounded new) _ None _ new (none_is new) (λ f. some_same (record o { idl = Some value }) new f p))
    (by_test (IsBounded new) (is name (codes "--service")) _ _ new
    (by_test (IsBounded new) _ None _ new (none_is new) (λ f. some_same (record o { service = Some value }) new f p))
    (by_test (IsBounded new) (is name (codes "--limit")) _ _ new
    (by_test (IsBounded new) (is_some o.limit) None _ new (none_is new) (λ f. limited o new (limit_of value) (λ n g. (omega (arith, (within_is _ _ (number_of value) n g).0), omega (arith, (within_is _ _ (number_of value) n g).1))) f p))
    (by_test (IsBounded new) (is name (codes "--lines")) _ _ new
    (by_test (IsBounded new) (is_some o.lines) None _ new (none_is new) (λ f. lined o new _ f p))
    (by_test (IsBounded new) (is name (codes "--sessions")) _ _ new
    (by_test (IsBounded new) (is_some o.sessions) None _ new (none_is new) (λ f. numbered o new _ f p))
    (by_test (IsBounded new) (is name (codes "--accept")) _ _ new
    (by_test (IsBounded new) (is_some o.accept) None _ new (none_is new) (λ f. accepted o new _ f p))
    (by_test (IsBounded new) (is name (codes "--events")) _ _ new
    (by_test (IsBounded new) (is_some o.events) None _ new (none_is new) (λ f. spent o new _ f p))
    (by_test (IsBounded new) (is name (codes "--calls")) _ _ new
    (by_test (IsBounded new) (is_some o.calls) None _ new (none_is new) (λ f. called o new _ (λ n g. omega (arith, (within_is _ _ (number_of value) n g).0)) f p))
    (by_test (IsBounded new) (is name (codes "--threads")) _ _ new
    (by_test (IsBounded new) (is_some o.threads) None _ new (none_is new) (λ f. threaded o new _ f p))
    (by_test (IsBounded new) (is name (codes "--tell")) _ _ new
    (by_test (IsBounded new) (o.tells_refusals || not (names_refusals value)) None _ new (none_is new) (λ f. some_same (record o { tells_refusals = true }) new f p))
    (by_test (IsBounded new) (is name (codes "--unframed")) _ _ new
    (by_test (IsBounded new) (is_some o.unframed) None _ new (none_is new) (λ f. wrapped o new _ f p))
    (by_test (IsBounded new) (is name (codes "--front")) _ None new
    (by_test (IsBounded new) (is_some o.front) None _ new (none_is new) (λ f. fronted o new _ f p))
    (none_is new)))))))))))) e

all_options : (words : List (List ℕ)) (o new : Options) → options_of o words ≡ Some new → IsBounded o → IsBounded new
all_options [] o new e p = some_same o new e p
all_options (name ∷ []) o new e p = absurd (cc)
all_options (name ∷ value ∷ rest) o new e p = by_one (with_option o name value) refl e (λ more f g. all_options rest more new g (one_option o more name value f p))
  where
    by_one : (found : Option Options) → with_option o name value ≡ found → and_then found (λ more. options_of more rest) ≡ Some new
        → ((more : Options) → with_option o name value ≡ Some more → options_of more rest ≡ Some new → IsBounded new) → IsBounded new
    by_one None f g go = absurd (cc)
    by_one (Some more) f g go = go more f g

-- ---- the command

-- its limit, its number of calls, and that its clients send no POSTs where their messages have no frames
abbrev pub IsSmall : Serving → Type 0
IsSmall s = IsLimit s.limit × (0 < s.calls) × (wraps_twice s ≡ false)

or_bounded : (P : ℕ → Type 0) (default : ℕ) (o : Option ℕ) → P default → IfSome o P → P (or_else default o)
or_bounded P default None d p = d
or_bounded P default (Some n) d p = p

serving_is : (a b : Serving) (x y : Declared) → Some (commands.Serve a x) ≡ Some (commands.Serve b y) → a ≡ b
serving_is a b x y e = cc

served_small : (client upstream : Proto) (listen target : List ℕ) (found : Option Options) (s : Serving) (d : Declared) → IfSome found IsBounded
    → served (record { client = client; upstream = upstream; listen = listen; target = target }) found ≡ Some (commands.Serve s d) → IsSmall s
served_small client upstream listen target None s d p e = absurd (cc)
served_small client upstream listen target (Some o) s d p e =
    let it = serving_of (record { client = client; upstream = upstream; listen = listen; target = target }) o in
    by_test (IsSmall s) (is_some o.lines) None _ (commands.Serve s d) (none_is (commands.Serve s d))
    (by_true (IsSmall s) (has_enough_sessions it && can_serve it) _ None (commands.Serve s d)
    (λ can f. subst IsSmall (serving_is it s _ d f)
    (or_bounded IsLimit _ o.limit (omega arith, omega arith) p.0, or_bounded (λ n. 0 < n) _ o.calls (omega arith) p.1, third_of_four _ _ _ _ can))
    (none_is (commands.Serve s d))) e

bounded_options : (words : List (List ℕ)) (found : Option Options) → options_of no_options words ≡ found → IfSome found IsBounded
bounded_options words None e = tt
bounded_options words (Some o) e = all_options words no_options o e (tt, tt)

at_small : (client upstream : Proto) (words : List (List ℕ)) (s : Serving) (d : Declared) → serve_at client upstream words ≡ Some (commands.Serve s d) → IsSmall s
at_small client upstream [] s d e = absurd (cc)
at_small client upstream (listen ∷ []) s d e = absurd (cc)
at_small client upstream (listen ∷ target ∷ rest) s d e =
    by_test (IsSmall s) (can_listen_at listen && can_connect_to target) _ None (commands.Serve s d)
    (λ f. served_small client upstream listen target (options_of no_options rest) s d (bounded_options rest (options_of no_options rest) refl) f) (none_is (commands.Serve s d)) e

between_small : (client upstream : Option Proto) (words : List (List ℕ)) (s : Serving) (d : Declared) → serve_between client upstream words ≡ Some (commands.Serve s d) → IsSmall s
between_small (Some client) (Some upstream) words s d e = at_small client upstream words s d e
between_small None upstream words s d e = absurd (cc)
between_small (Some client) None words s d e = absurd (cc)

serve_small : (words : List (List ℕ)) (s : Serving) (d : Declared) → serve_of words ≡ Some (commands.Serve s d) → IsSmall s
serve_small [] s d e = absurd (cc)
serve_small (client ∷ []) s d e = absurd (cc)
serve_small (client ∷ upstream ∷ rest) s d e = between_small (proto_of client) (proto_of upstream) rest s d e

-- the other commands are no servers
module _ (s : Serving) (d : Declared) where
  not_checked : (words : List (List ℕ)) → check_of words ≡ Some (commands.Serve s d) → IsSmall s
  not_checked [] e = absurd (cc)
  not_checked (file ∷ []) e = by_test (IsSmall s) (is_empty file) None _ (commands.Serve s d) (none_is (commands.Serve s d)) (λ f. absurd (cc)) e
  not_checked (file ∷ more ∷ rest) e = absurd (cc)

  not_converted : (from to : Option Proto) (words : List (List ℕ)) → convert_between from to words ≡ Some (commands.Serve s d) → IsSmall s
  not_converted (Some from) (Some to) words e = by_options (options_of no_options words) e
    where
      by_options : (found : Option Options) → converted from to found ≡ Some (commands.Serve s d) → IsSmall s
      by_options None f = absurd (cc)
      by_options (Some o) f = by_test (IsSmall s) (is_server_alone o || not (can_convert from to o.lines)) None _ (commands.Serve s d) (none_is (commands.Serve s d)) (λ g. absurd (cc)) f
  not_converted None to words e = absurd (cc)
  not_converted (Some from) None words e = absurd (cc)

  no_conversion : (words : List (List ℕ)) → convert_of words ≡ Some (commands.Serve s d) → IsSmall s
  no_conversion [] e = absurd (cc)
  no_conversion (from ∷ []) e = absurd (cc)
  no_conversion (from ∷ to ∷ rest) e = not_converted (proto_of from) (proto_of to) rest e

  not_shown : (from : Option Proto) (words : List (List ℕ)) → show_from from words ≡ Some (commands.Serve s d) → IsSmall s
  not_shown None words e = absurd (cc)
  not_shown (Some from) words e = by_options (options_of no_options words) e
    where
      by_options : (found : Option Options) → shown from found ≡ Some (commands.Serve s d) → IsSmall s
      by_options None f = absurd (cc)
      by_options (Some o) f = by_test (IsSmall s) (is_server_alone o || not (can_show from o.lines)) None _ (commands.Serve s d) (none_is (commands.Serve s d)) (λ g. absurd (cc)) f

  no_showing : (words : List (List ℕ)) → show_of words ≡ Some (commands.Serve s d) → IsSmall s
  no_showing [] e = absurd (cc)
  no_showing (from ∷ rest) e = not_shown (proto_of from) rest e

  not_conformed : (from : Option Proto) (words : List (List ℕ)) → conform_from from words ≡ Some (commands.Serve s d) → IsSmall s
  not_conformed None words e = absurd (cc)
  not_conformed (Some from) words e = by_options (options_of no_options words) e
    where
      by_options : (found : Option Options) → conformed from found ≡ Some (commands.Serve s d) → IsSmall s
      by_options None f = absurd (cc)
      by_options (Some o) f = by_test (IsSmall s) (is_server_alone o || is_some o.lines || is_none o.idl) None _ (commands.Serve s d) (none_is (commands.Serve s d)) (λ g. absurd (cc)) f

  no_conforming : (words : List (List ℕ)) → conform_of words ≡ Some (commands.Serve s d) → IsSmall s
  no_conforming [] e = absurd (cc)
  no_conforming (from ∷ rest) e = not_conformed (proto_of from) rest e

  no_route : (fits : Bool) (r : Routing) (declared : Declared) → (if fits then Some (commands.Route r declared) else None) ≡ Some (commands.Serve s d) → IsSmall s
  no_route true r declared e = absurd (cc)
  no_route false r declared e = absurd (cc)

  not_routed : (client upstream : Proto) (listen : List ℕ) (targets : Option (List Target)) (words : List (List ℕ)) → route_to client upstream listen targets words ≡ Some (commands.Serve s d) → IsSmall s
  not_routed client upstream listen None words e = absurd (cc)
  not_routed client upstream listen (Some targets) words e = by_options (options_of no_options words) e
    where
      by_options : (found : Option Options) → routed (record { client = client; upstream = upstream; listen = listen; targets = targets }) found ≡ Some (commands.Serve s d) → IsSmall s
      by_options None f = absurd (cc)
      by_options (Some o) f =
          by_test (IsSmall s) (is_for_one_upstream o) None _ (commands.Serve s d) (none_is (commands.Serve s d)) (no_route _ _ _) f

  not_routed_at : (client upstream : Proto) (words : List (List ℕ)) → route_at client upstream words ≡ Some (commands.Serve s d) → IsSmall s
  not_routed_at client upstream [] e = absurd (cc)
  not_routed_at client upstream (listen ∷ []) e = absurd (cc)
  not_routed_at client upstream (listen ∷ targets ∷ rest) e =
      by_test (IsSmall s) (can_listen_at listen) _ None (commands.Serve s d) (not_routed client upstream listen (targets_of targets) rest) (none_is (commands.Serve s d)) e

  not_routed_between : (client upstream : Option Proto) (words : List (List ℕ)) → route_between client upstream words ≡ Some (commands.Serve s d) → IsSmall s
  not_routed_between (Some client) (Some upstream) words e = not_routed_at client upstream words e
  not_routed_between None upstream words e = absurd (cc)
  not_routed_between (Some client) None words e = absurd (cc)

  no_routing : (words : List (List ℕ)) → route_of words ≡ Some (commands.Serve s d) → IsSmall s
  no_routing [] e = absurd (cc)
  no_routing (client ∷ []) e = absurd (cc)
  no_routing (client ∷ upstream ∷ rest) e = not_routed_between (proto_of client) (proto_of upstream) rest e

  not_drilled : (seed count : Option ℕ) → drill_as seed count ≡ Some (commands.Serve s d) → IsSmall s
  not_drilled (Some seed) (Some count) e = absurd (cc)
  not_drilled None count e = absurd (cc)
  not_drilled (Some seed) None e = absurd (cc)

  no_drill : (words : List (List ℕ)) → drill_of words ≡ Some (commands.Serve s d) → IsSmall s
  no_drill [] e = absurd (cc)
  no_drill (seed ∷ []) e = absurd (cc)
  no_drill (seed ∷ count ∷ []) e = not_drilled (number_of seed) _ e
  no_drill (seed ∷ count ∷ more ∷ rest) e = absurd (cc)

  no_help : (words : List (List ℕ)) → help_of words ≡ Some (commands.Serve s d) → IsSmall s
  no_help [] e = absurd (cc)
  no_help (more ∷ rest) e = absurd (cc)

  -- a server's limit is at least 1 and below 2 ^ 31, and a call may be open
  pub small_server : (words : List (List ℕ)) → command words ≡ Some (commands.Serve s d) → IsSmall s
  unfolding command
  small_server [] e = absurd (cc)
  small_server (name ∷ rest) e =
      let it = commands.Serve s d in
      by_test (IsSmall s) (is name (codes "check")) _ _ it (not_checked rest)
      (by_test (IsSmall s) (is name (codes "convert")) _ _ it (no_conversion rest)
      (by_test (IsSmall s) (is name (codes "serve")) _ _ it (serve_small rest s d)
      (by_test (IsSmall s) (is name (codes "route")) _ _ it (no_routing rest)
      (by_test (IsSmall s) (is name (codes "show")) _ _ it (no_showing rest)
      (by_test (IsSmall s) (is name (codes "conform")) _ _ it (no_conforming rest)
      (by_test (IsSmall s) (is name (codes "drill")) _ _ it (no_drill rest)
      (by_test (IsSmall s) (is name (codes "help")) _ None it (no_help rest) (none_is it)))))))) e
