-- What is handed out of the calling number.
use Rattle.std.specs.Prelude.{◌≡◌, true, false, cond, List, ℕ, ◌+◌, ◌≤◌, length, Option, Some, None}
use Rattle.sip.specs.declared.CallingAt.{CallingAt}
use Rattle.sip.specs.Readings.{no_calling, calling_at}
use Rattle.gateway.specs.declared.CallingAt.{CallingAt as Place}
use Rattle.gateway.specs.declared.CallingAt.TheVariants.{Trunk, Message}

-- the three numbers of it
abbrev pub at_of : Option Place → CallingAt
at_of None = no_calling
at_of (Some (Trunk p)) = record { from_trunk = true; start = p.start; len = p.len }
at_of (Some (Message p)) = record { from_trunk = false; start = p.start; len = p.len }

-- where it stands, as the page has it; and that it lies within the trunk number or the message, of which it is a part
pub record Calling (m trunk : List ℕ) (c : Option Place) : Type 0 where
  pub stands : at_of c ≡ calling_at m trunk
  pub within : (at_of c).start + (at_of c).len ≤ length (cond (at_of c).from_trunk trunk m)
