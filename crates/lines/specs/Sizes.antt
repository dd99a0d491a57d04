-- What the readers inside this crate answer: how many bytes stand at the front of a text, 0 where nothing good stands there; where a
-- value ends; and its part without gaps at both ends.
use Rattle.std.specs.Prelude.{cond, ◌&&◌, List, ℕ, ◌+◌, length, take, drop}
use Rattle.std.proofs.Math.Option.{Option, none, some}
use Rattle.octets.specs.Classes.{within, is_blank, is_visible, is_gap}
use Rattle.octets.specs.Scans.{run, starts}
use Rattle.sip.specs.Lines.{is_version, value_size, trim}
use Rattle.sip.specs.Readings.{no_span}
use Rattle.sip.specs.Values.{is_empty}
use Rattle.sip.specs.declared.Span.{Span}

-- the Request-URI, where its length is good and the SIP version follows it
unfoldable pub uri_size : List ℕ → ℕ
uri_size s =
    let u = run is_visible s in
    cond (within 1 256 u && is_version (take 10 (drop u s))) u 0

-- spaces or tabs, and the colon after them
unfoldable pub colon_size : List ℕ → ℕ
colon_size s =
    let g = run is_blank s in
    cond (starts 58 (drop g s)) (g + 1) 0

abbrev pub end_at : ℕ → ℕ → Option ℕ → ℕ
end_at past at none = past
end_at past at (some n) = at + n

-- where the value ends that stands at a place; the length of the text where its shape is bad
unfoldable pub value_end : List ℕ → ℕ → ℕ
value_end s at = end_at (length s) at (value_size 0 (drop at s))

-- "from its first byte that is no space, tab or line break to its last"
unfoldable pub value_part : List ℕ → Span
value_part s =
    let v = trim is_gap s in
    cond (is_empty v) no_span (record { start = run is_gap s; len = length v })
