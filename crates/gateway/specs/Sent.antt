-- What goes out of a message of which judging told this.
use Rattle.std.specs.Prelude.{◌≡◌, Bool, not, ◌&&◌, List, ◌++◌, ℕ, ◌+◌, ◌-◌, eqb, take, drop}
use Rattle.octets.specs.Classes.{text}
use Rattle.sip.specs.Lines.{crlf}
use Rattle.sip.specs.Output.{field_lines}
use Rattle.judgement.specs.declared.Judged.{Judged}
use Rattle.judgement.specs.Entries.{entries_from}
use Rattle.judgement.specs.Sets.{has}

-- the set of the fields that go out: those kept, but P-Asserted-Identity where the caller is masked
pub record Goes (masked : Bool) (kept sent : ℕ) : Type 0 where
  pub member : (n : ℕ) → has sent n ≡ (has kept n && not (masked && eqb n 15))

-- the start line, of which these many bytes stand before the version: those, the version in capitals, the bytes after it
unfoldable pub sent_start : List ℕ → ℕ → ℕ → List ℕ
sent_start m before line = take before m ++ (text "SIP/2.0" ++ take (line - before - 7) (drop (before + 7) m))

-- the start line, the lines of the kept fields, the empty line, the body
unfoldable pub sent_message : List ℕ → List ℕ → Judged → Bool → List ℕ
sent_message m slots j masked =
    sent_start m j.before j.line
    ++ (field_lines masked j.body (entries_from j.kept m slots j.count 0) ++ (crlf ++ take j.body (drop j.rest m)))
