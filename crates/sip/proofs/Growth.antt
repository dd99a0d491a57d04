-- "The output is always fewer than 1,024 bytes longer than the message."
use mathlib.Core.Path.{◌≡◌, refl}
use mathlib.Core.List.{List}
use Prim.Native.Nat.{ℕ, ◌+◌, ◌<◌}
use native.Mathlib.Omega.{arith}
use lib.ListN.{length, length-append}
use Rattle.octets.specs.Classes.{text}
use Rattle.sip.specs.Lines.{Start, request, response, start_size}
use Rattle.sip.specs.Refusals.{refusal, Lines, lines, unread, read, Entry, body_of, refused, accepted, message_column, kept_of, judgement}
use Rattle.sip.specs.Output.{start_line, field_lines, output}
use Rattle.sip.specs.Promises.{Growth}
use Rattle.sip.proofs.Tests.{never}
use Rattle.sip.proofs.Lengths.{body_le}
use Rattle.sip.proofs.Sizes.{read_inv}
use Rattle.sip.proofs.Accepted.{judged_inv}
use Rattle.sip.proofs.Sent.{lines_bound}

start_length : (l : Start) → length (start_line l) ≡ start_size l
unfolding start_line text
start_length (request l) = simp length-append (omega arith)
start_length (response l) = simp length-append (omega arith)

pub growth : Growth
unfolding judgement output
growth m r masked e = go (lines m) refl
  where
    go : (x : Lines) → lines m ≡ x → length (output masked r) < length m + 1024
    go (unread n) p = let z : refused (refusal n 0 0 0) ≡ accepted r = rw p at e in never (cc)
    go (read l h) p =
        let es : List Entry = kept_of l h.fields in
        let body : List ℕ = body_of es h.rest in
        let a = judged_inv l es h.rest r (rw p at e) in
        let i = read_inv m l h p in
        let lines_fit = lines_bound masked (length body) h.rest (message_column l h.fields) h.fields a.unrepeated i.few in
        rw (a.made, length-append (start_line l), length-append (field_lines masked (length body) es))
        (omega (arith, start_length l, lines_fit, body_le es h.rest, i.fits))
