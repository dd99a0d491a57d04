-- The octets that a value holds.
use Rattle.std.specs.Prelude.{List, ℕ, take}
use Rattle.isup.specs.declared.bytes.ShortBytes.{ShortBytes}

abbrev pub held : {N : ℕ} → ShortBytes N → List ℕ
held b = take b.len b.bytes
