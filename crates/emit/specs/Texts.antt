-- A text that is put together piece by piece, of at most n bytes: none once a piece had no room.
use Rattle.std.specs.Prelude.{Option, Some, None, cond, List, ◌++◌, ℕ, ◌-◌, leb, length}

-- s after the text, where n bytes have room for it
unfoldable pub pushed : ℕ → Option (List ℕ) → List ℕ → Option (List ℕ)
pushed n None s = None
pushed n (Some t) s = cond (leb (length s) (n - length t)) (Some (t ++ s)) None
