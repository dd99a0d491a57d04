-- The start line as it goes out: its length, and that it is the start line of what was read.
use mathlib.Core.Path.{◌≡◌, sym}
use mathlib.Core.List.{List, ◌++◌}
use Prim.Native.Nat.{ℕ, ◌+◌, ◌-◌, ◌≤◌}
use native.Mathlib.Omega.{arith}
use lib.ListN.{length, take, drop, length-append, length-drop}
use lib.Seq.{length-take-le}
use Rattle.octets.specs.Classes.{text}
use Rattle.sip.specs.Lines.{Start, request, response, start_size, Header}
use Rattle.sip.specs.Refusals.{lines, read}
use Rattle.sip.specs.Output.{start_line, before_version}
use Rattle.sip.proofs.Spans.{line_sent}
use Rattle.gateway.specs.Sent.{sent_start}

pub start_length : (m : List ℕ) (before line : ℕ) → before + 7 ≤ line → line ≤ length m → length (sent_start m before line) ≡ line
unfolding sent_start text
start_length m before line h l =
    let back : List ℕ = take (line - before - 7) (drop (before + 7) m) in
    let b : length back ≡ line - before - 7
    = length-take-le (line - before - 7) (drop (before + 7) m) (rw (length-drop (before + 7) m) (omega arith)) in
    omega (arith, b, length-append (take before m) (text "SIP/2.0" ++ back), length-take-le before m (omega arith))

pub version_within : (l : Start) → before_version l + 7 ≤ start_size l
version_within (request l) = omega arith
version_within (response l) = omega arith

pub start_sent : (m : List ℕ) (l : Start) (h : Header) → lines m ≡ read l h → sent_start m (before_version l) (start_size l) ≡ start_line l
unfolding sent_start
start_sent m l h e = sym (line_sent m l h e)
