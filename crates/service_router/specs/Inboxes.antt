-- What changes of what is held of a port.
use Rattle.std.specs.Prelude.{◌≡◌, ℕ, ◌+◌, ◌≤◌, List, ◌++◌, length, true}
use Rattle.framed_transport.specs.Front.{front, behind}
use Rattle.session_core.specs.Fits.{told}
use Rattle.service_router.specs.Standing.{Inbox}

-- these bytes more came of it
abbrev pub fed : Inbox → List ℕ → Inbox
fed inbox bytes = record inbox { held = inbox.held ++ bytes }

-- it sends nothing more
abbrev pub ended : Inbox → Inbox
ended inbox = record inbox { ended = true }

-- its front frame was taken
abbrev pub without_frame : Inbox → Inbox
without_frame inbox = record inbox { held = behind inbox.held (front inbox.limit inbox.held); taken = told (inbox.taken + 1) }

-- it has room for frames of the limit, and what is held of it does not pass its room
pub record HasRoom (limit : ℕ) (inbox : Inbox) : Type 0 where
  pub limit_is : inbox.limit ≡ limit
  pub within : length inbox.held ≤ limit + 4
