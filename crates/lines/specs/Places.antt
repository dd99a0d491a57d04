-- What the line readers answer: the lengths of the pages' lines as places in a text.
use Rattle.std.specs.Prelude.{Option, None, Some, Bool, cond, ◌&&◌, List, ℕ, ◌+◌, ltb, length, take, drop}
use Rattle.std.proofs.Math.Option.{Option as Maybe, none, some}
use Rattle.octets.specs.Classes.{is_break, is_token}
use Rattle.octets.specs.Scans.{run, any}
use Rattle.sip.specs.Lines.{Start, request, response, start, Shape, shape}
use Rattle.sip.specs.Profile.{number_of}
use Rattle.lines.specs.Sizes.{colon_size}
use Rattle.lines.specs.declared.StartLine.{StartLine}
use Rattle.lines.specs.declared.StartLine.TheVariants.{Request, Status}
use Rattle.lines.specs.declared.FieldAt.{FieldAt}
use Rattle.lines.specs.declared.named.Named.{Named}

abbrev pub start_places : Maybe Start → Option StartLine
start_places none = None
start_places (some (request l)) = Some (Request (length l.method) (length l.uri))
start_places (some (response l)) = Some (Status (length l.phrase))

-- the start line at the front of a text
unfoldable pub start_at : List ℕ → Option StartLine
start_at s = start_places (start s)

-- a line break stands in the n bytes at the front
abbrev pub breaks : ℕ → List ℕ → Bool
breaks n s = any is_break (take n s)

abbrev pub field_places : List ℕ → ℕ → Maybe Shape → Option FieldAt
field_places s at none = None
field_places s at (some f) =
    let value = at + f.name + f.gap + 1 in
    Some (record { name = at + f.name; value = value; end = value + f.value; folded = breaks f.value (drop value s) })

-- the field at a place of a text
unfoldable pub field_at : List ℕ → ℕ → Option FieldAt
field_at s at = field_places s at (shape (drop at s))

-- the name at a place with its colon, by its number and where the value starts; none where one of them is missing
unfoldable pub named_at : List ℕ → ℕ → Option Named
named_at s at =
    let name = run is_token (drop at s) in
    let colon = colon_size (drop (at + name) s) in
    let found : Named = record { number = number_of (take name (drop at s)); value = at + name + colon } in
    cond (ltb 0 name && ltb 0 colon) (Some found) None
