-- The three numbers of the part.
use mathlib.Core.Path.{◌≡◌, ap, ◌∙◌}
use mathlib.Core.List.{List}
use Prim.Native.Nat.{ℕ}
use Rattle.std.proofs.Common.{Option, Some}
use Rattle.octets.specs.Classes.{bit}
use Rattle.sip.specs.declared.CallingAt.{CallingAt as Numbers}
use Rattle.gateway.specs.declared.CallingAt.{CallingAt}
use Rattle.gateway.specs.Callers.{Calling, at_of}
use Rattle.mishkolar.specs.Numbers.{Calls}
use Rattle.mishkolar.proofs.mishkolar_calling_number.Goals as goal

calls : (m t : List ℕ) (x : Option CallingAt) → Calling m t x → {n : Numbers} → at_of x ≡ n → Calls m t n.len n.start (bit n.from_trunk)
calls m t x c e =
    let n : Calls m t (at_of x).len (at_of x).start (bit (at_of x).from_trunk)
    = record {
      same_len = ap (λ (y : Numbers). y.len) c.stands;
      same_start = ap (λ (y : Numbers). y.start) c.stands;
      same_flag = ap (λ (y : Numbers). bit y.from_trunk) c.stands;
      within = rw (← c.stands) c.within;
    } in
    rw e at n

pub returns-in-None : goal.returns-in-None
returns-in-None c = calls _ _ _ c.calling_at.ensures (ap at_of c.in-None.is)

pub returns-in-Some-Trunk : goal.returns-in-Some-Trunk
returns-in-Some-Trunk c = calls _ _ _ c.calling_at.ensures (ap at_of (c.in-Some-Trunk.is ∙ ap Some c.in-Some-Trunk.field-0-is))

pub returns-in-Some-Message : goal.returns-in-Some-Message
returns-in-Some-Message c = calls _ _ _ c.calling_at.ensures (ap at_of (c.in-Some-Message.is ∙ ap Some c.in-Some-Message.field-0-is))
