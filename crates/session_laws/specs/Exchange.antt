-- What becomes of the frames of both sides of a session, by what they say.
use Rattle.std.specs.Prelude.{◌≡◌, ⊤, ℕ, List, [], ◌∷◌, ◌++◌, Bool, true, false, Option, if◌then◌else◌}
use Rattle.std.specs.List.{flat_map}
use Rattle.thrift_value.specs.declared.kind.MessageType.{MessageType}
use Rattle.thrift_value.specs.declared.kind.MessageType.TheVariants as types
use Rattle.protocol_traits.specs.Heads.{Header}
use Rattle.type_tables.specs.declared.declared.MethodInfo.{MethodInfo}
use Rattle.multiplex_names.specs.Names.{find_in}
use Rattle.translate_verdicts.specs.declared.route.Route.TheVariants.{ByName, Answer}
use Rattle.translate_verdicts.specs.Routes.{result_of}
use Rattle.session_core.specs.declared.outcome.Halt.{Halt}
use Rattle.session_core.specs.declared.outcome.Halt.TheVariants as halt
use Rattle.session_judge.specs.Setting.{Setting}
use Rattle.session_judge.specs.Client.{is_answered}
use Rattle.session_judge.specs.Upstream.{expected}
use Rattle.binary_laws.specs.Reads.{header_of_message}
use Rattle.session_laws.specs.Saying.{Passage, Said, GoesOn, IsRefused, IsUnread}

-- ---- the client

-- a message of the client has the body of the method that its name means
abbrev pub asking : Setting → Passage
asking s = record { declarations = s.declarations; route = ByName s.service; from = s.client; to = s.upstream; teller = s.client }

-- the method that a header's name means
abbrev pub method_of : Setting → Header → Option MethodInfo
method_of s h = find_in s.declarations s.service h.name

-- a call is answered, unless its method is known and declared oneway; a oneway message isn't; a reply and an exception are no messages
-- of a client
pub data Way : Type 0 where
  Answered : Way
  Unanswered : Way
  Backwards : Way

abbrev pub way_by : Option MethodInfo → MessageType → Way
way_by method types.Call = if is_answered method then Answered else Unanswered
way_by method types.Oneway = Unanswered
way_by method types.Reply = Backwards
way_by method types.Exception = Backwards

abbrev pub way_of : Setting → Header → Way
way_of s h = way_by (method_of s h) h.mtype

-- what is done for a frame of the client: a call waits for its reply; nothing comes back; a refused call is answered; it ends the client
pub data Done : Type 0 where
  Waits : Header → Done
  Passes : Done
  Tells : List ℕ → Done
  Ends : Halt → Done

abbrev pub done_for_message : Way → Header → Done
done_for_message Answered h = Waits h
done_for_message Unanswered h = Passes
done_for_message Backwards h = Ends halt.WrongWay

abbrev pub done_for_refused : Way → List ℕ → Done
done_for_refused Answered answer = Tells answer
done_for_refused Unanswered answer = Passes
done_for_refused Backwards answer = Ends halt.WrongWay

abbrev pub done : Setting → Said → Done
done s (GoesOn m out) = done_for_message (way_of s (header_of_message m)) (header_of_message m)
done s (IsRefused h cause answer) = done_for_refused (way_of s h) answer
done s (IsUnread f) = Ends (halt.Unread f)

-- the call that is open behind it
abbrev pub opened : Done → List Header
opened (Waits h) = h ∷ []
opened Passes = []
opened (Tells answer) = []
opened (Ends h) = []

-- the calls that these frames of the client open, in order
abbrev pub calls : Setting → List Said → List Header
calls s [] = []
calls s (a ∷ said) = opened (done s a) ++ calls s said

-- what goes to the upstream for a frame of the client: the message, unless it is none of a client
abbrev pub passed_by : Way → List ℕ → List (List ℕ)
passed_by Answered out = out ∷ []
passed_by Unanswered out = out ∷ []
passed_by Backwards out = []

abbrev pub passed : Setting → Said → List (List ℕ)
passed s (GoesOn m out) = passed_by (way_of s (header_of_message m)) out
passed s (IsRefused h cause answer) = []
passed s (IsUnread f) = []

-- the messages that go to the upstream, in order
abbrev pub onward : Setting → List Said → List (List ℕ)
onward s said = flat_map (passed s) said

-- ---- the upstream

-- the reply to a call has the struct that its method returns as its body
abbrev pub replying : Setting → Header → Passage
replying s call = record {
  declarations = s.declarations;
  route = Answer (expected s.declarations (result_of (method_of s call)));
  from = s.upstream;
  to = s.client;
  teller = s.client;
}

-- a reply and an exception answer a call; a call is no message of an upstream
abbrev pub is_reply : MessageType → Bool
is_reply types.Call = false
is_reply types.Oneway = false
is_reply types.Reply = true
is_reply types.Exception = true

-- what goes to the client for a frame of the upstream: the reply, or the exception that tells that it is refused
abbrev pub returned : Said → List ℕ
returned (GoesOn m out) = if is_reply m.mtype then out else []
returned (IsRefused h cause answer) = if is_reply h.mtype then answer else []
returned (IsUnread f) = []

-- the frame of the upstream ends it, for this reason
abbrev pub EndsUpstream : Said → Halt → Type 0
EndsUpstream (GoesOn m out) h = (is_reply m.mtype ≡ false) × (h ≡ halt.WrongWay)
EndsUpstream (IsRefused header cause answer) h = (is_reply header.mtype ≡ false) × (h ≡ halt.WrongWay)
EndsUpstream (IsUnread f) h = h ≡ halt.Unread f

-- what goes to the client, with what follows, where these frames of the upstream are left
abbrev pub back_for : Done → (List Said → List (List ℕ)) → List Said → List (List ℕ)
back_for (Waits h) next [] = []
back_for (Waits h) next (r ∷ rs) = returned r ∷ next rs
back_for Passes next rs = next rs
back_for (Tells answer) next rs = answer ∷ next rs
back_for (Ends h) next rs = next rs

-- the replies and answers that go to the client: each in the place of its call, up to the first call that has no reply yet
abbrev pub back : Setting → List Said → List Said → List (List ℕ)
back s [] rs = []
back s (a ∷ said) rs = back_for (done s a) (λ qs. back s said qs) rs

-- ---- lists of frames

-- what the frames of the client say, one by one
abbrev pub AllSay : (List ℕ → Said → Type 0) → List (List ℕ) → List Said → Type 0
AllSay Each [] [] = ⊤
AllSay Each (x ∷ xs) (a ∷ said) = Each x a × AllSay Each xs said
AllSay Each [] (a ∷ said) = ⊥
AllSay Each (x ∷ xs) [] = ⊥

-- what the frames of the upstream say, each for the call in its place
abbrev pub AllReply : (Header → List ℕ → Said → Type 0) → List Header → List (List ℕ) → List Said → Type 0
AllReply Each hs [] [] = ⊤
AllReply Each (h ∷ hs) (y ∷ ys) (r ∷ rs) = Each h y r × AllReply Each hs ys rs
AllReply Each hs [] (r ∷ rs) = ⊥
AllReply Each hs (y ∷ ys) [] = ⊥
AllReply Each [] (y ∷ ys) (r ∷ rs) = ⊥
