-- What stands at the front of a text: the readings that all others are made of.
use Rattle.std.specs.Prelude.{Bool, true, false, cond, ◌&&◌, ◌||◌, List, [], ◌∷◌, ℕ, zero, suc, ◌+◌, ◌-◌, ◌*◌, leb, eqb, take, drop}
use Rattle.octets.specs.Classes.{within, is_digit, is_hex}
use Rattle.octets.specs.declared.NumberAt.{NumberAt}

-- ---- runs

-- how many of the leading bytes are of the class
unfoldable pub run : (ℕ → Bool) → List ℕ → ℕ
run p [] = zero
run p (b ∷ s) = let r = suc (run p s) in cond (p b) r zero

-- every byte is of the class
unfoldable pub all : (ℕ → Bool) → List ℕ → Bool
all p [] = true
all p (b ∷ s) = p b && all p s

-- some byte is of the class
unfoldable pub any : (ℕ → Bool) → List ℕ → Bool
any p [] = false
any p (b ∷ s) = p b || any p s

-- the first byte is b
unfoldable pub starts : ℕ → List ℕ → Bool
starts b [] = false
starts b (c ∷ s) = eqb c b

-- "`%` and two hex digits" stand at the front
unfoldable pub escape : List ℕ → Bool
unfolding is_hex
escape [] = false
escape (p ∷ []) = false
escape (p ∷ h ∷ []) = false
escape (p ∷ h ∷ l ∷ s) = eqb p 37 && (is_hex h && is_hex l)

-- how many of the leading bytes are of the class or in an escape; the first k belong to an escape that began before them
unfoldable pub run_escaped : (ℕ → Bool) → ℕ → List ℕ → ℕ
unfolding escape
run_escaped p k [] = zero
run_escaped p (suc k) (b ∷ s) = suc (run_escaped p k s)
run_escaped p zero (b ∷ s) =
    let one = suc (run_escaped p zero s) in
    let three = suc (run_escaped p 2 s) in
    cond (p b) one (cond (escape (b ∷ s)) three zero)

-- ---- quoted string: "closes at the first `"` that no backslash escapes"

-- a size with one byte more, where there is one
abbrev pub more : ℕ → ℕ
more zero = zero
more (suc n) = suc (suc n)

-- the bytes up to and with the closing quote; 0 where none closes. `escaped`: a backslash stands before s
unfoldable pub closes : Bool → List ℕ → ℕ
closes escaped [] = zero
closes true (b ∷ s) = more (closes false s)
closes false (b ∷ s) =
    let after = more (closes true s) in
    let next = more (closes false s) in
    cond (eqb b 34) 1 (cond (eqb b 92) after next)

-- the size of the quoted string at the front, with both quotes; 0 where none stands there
unfoldable pub quoted : List ℕ → ℕ
unfolding starts closes
quoted s = let n = more (closes false (drop 1 s)) in cond (starts 34 s) n 0

-- ---- numbers

-- the number that the digits write, read after n
unfoldable pub decimal : ℕ → List ℕ → ℕ
decimal n [] = n
decimal n (b ∷ s) = decimal (n * 10 + (b - 48)) s

abbrev pub no_number : NumberAt
no_number = record { size = 0; value = 0 }

-- the run of digits at the front, with its number: 1 to `most` digits, at most `bound`; size 0 where no such number stands there
unfoldable pub number : ℕ → ℕ → List ℕ → NumberAt
unfolding run decimal is_digit
number most bound s =
    let n = run is_digit s in
    let v = decimal 0 (take n s) in
    cond (within 1 most n && leb v bound) (record { size = n; value = v }) no_number

-- ---- comparison

-- a letter in its small form; any other byte as it is
unfoldable pub lower : ℕ → ℕ
lower b = cond (within 65 90 b) (b + 32) b

-- the same bytes
unfoldable pub same : List ℕ → List ℕ → Bool
same [] [] = true
same [] (y ∷ ys) = false
same (x ∷ xs) [] = false
same (x ∷ xs) (y ∷ ys) = let r = same xs ys in cond (eqb x y) r false

-- the same bytes in any letter case
unfoldable pub same_text : List ℕ → List ℕ → Bool
unfolding lower
same_text [] [] = true
same_text [] (y ∷ ys) = false
same_text (x ∷ xs) [] = false
same_text (x ∷ xs) (y ∷ ys) = let r = same_text xs ys in cond (eqb (lower x) (lower y)) r false
