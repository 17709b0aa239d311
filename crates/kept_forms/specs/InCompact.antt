-- What of a frame the Compact protocol's reader reads and its writer would lay as it stands.
use Rattle.std.specs.Prelude.{ℕ, ℤ, List, Option}
use Rattle.thrift_value.specs.declared.kind.Kind.{Kind}
use Rattle.thrift_value.specs.Items.{Item}
use Rattle.protocol_traits.specs.declared.forms.Container.{Container}
use Rattle.protocol_traits.specs.declared.forms.Lead.{Lead}
use Rattle.protocol_traits.specs.declared.forms.Opening.{Opening}
use Rattle.protocol_traits.specs.declared.forms.Pairs.{Pairs}
use Rattle.protocol_traits.specs.declared.forms.Stand.{Stand}
use Rattle.protocol_traits.specs.declared.proto.Mark.{Mark}
use Rattle.protocol_traits.specs.declared.fault.Bar.{Bar}
use Rattle.compact_protocol.specs.Forms.{next_read, stands_at as reader_at}
use Rattle.compact_protocol.specs.Plain.{Writer, bar, spelling, follows}
use Rattle.compact_protocol.specs.WriteForms.{stands_at as writer_at}
use Rattle.kept_forms.specs.Keeping.{KeepsLead as Lead_kept, KeepsFlag as Flag_kept, KeepsValue as Value_kept, KeepsRun as Run_kept, KeepsStruct as Struct_kept, KeepsElements as Elements_kept, KeepsPairs as Pairs_kept, KeepsEnd as End_kept}

abbrev pub own_bar : Item → Mark → Option Bar
own_bar item mark = bar item

abbrev pub own_plain : Writer → Item → Mark → List ℕ
own_plain w item mark = spelling w item

abbrev pub own_after : Writer → Item → Mark → Writer
own_after w item mark = follows w item

abbrev pub KeepsLead : List ℕ → ℕ → Opening → ℤ → Lead → ℤ → ℕ → Type 0
KeepsLead = Lead_kept next_read reader_at own_bar own_plain writer_at

abbrev pub KeepsFlag : List ℕ → ℕ → Opening → ℤ → ℤ → ℕ → ℕ → Type 0
KeepsFlag = Flag_kept next_read reader_at own_bar own_plain writer_at own_after

abbrev pub KeepsValue : List ℕ → ℕ → Stand → Kind → ℕ → Type 0
KeepsValue = Value_kept next_read reader_at own_bar own_plain writer_at

abbrev pub KeepsRun : List ℕ → ℕ → Kind → ℕ → ℕ → Type 0
KeepsRun = Run_kept next_read reader_at own_bar own_plain writer_at

abbrev pub KeepsStruct : List ℕ → ℕ → Stand → ℕ → Type 0
KeepsStruct = Struct_kept next_read reader_at own_bar own_plain writer_at

abbrev pub KeepsElements : List ℕ → ℕ → Stand → Container → Kind → ℕ → ℕ → Type 0
KeepsElements = Elements_kept next_read reader_at own_bar own_plain writer_at

abbrev pub KeepsPairs : List ℕ → ℕ → Stand → Pairs → Type 0
KeepsPairs = Pairs_kept next_read reader_at own_bar own_plain writer_at

abbrev pub KeepsEnd : List ℕ → ℕ → Container → ℕ → Type 0
KeepsEnd = End_kept next_read reader_at own_bar own_plain writer_at
