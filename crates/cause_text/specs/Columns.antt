-- A column as the code writes it, place by place.
use Rattle.std.specs.Prelude.{cond, ℕ, eqb}
use Rattle.emit.specs.Digits.{last}

-- the last digit of what stands before a place, a blank where nothing does
abbrev pub leading : ℕ → ℕ
leading n = cond (eqb n 0) 32 (last n)
