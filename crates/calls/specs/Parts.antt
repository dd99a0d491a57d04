-- Places compared part by part. A part is a length and the text behind it, as far as it goes into 65 bytes; the second has the rest of a long
-- Call-ID. What stands behind the texts is in no part.
use Rattle.std.specs.Prelude.{Bool, true, cond, ◌&&◌, List, ◌++◌, map, ℕ, zero, suc, ◌+◌, ◌-◌, min, ltb, take, drop, get_or, replicate}
use Rattle.octets.specs.Scans.{same}
use Rattle.sip.specs.Calls.{first_where}
use Rattle.calls.specs.declared.full.Part.{Part}
use Rattle.calls.specs.declared.full.Part.TheVariants.{CallId, Rest, Tag}

-- the parts in their order
abbrev pub number_of : Part → ℕ
number_of CallId = 0
number_of Rest = 1
number_of Tag = 2

-- where a part starts in its place
unfoldable pub start_of : ℕ → ℕ
start_of i = cond (ltb i 1) 0 (cond (ltb i 2) 65 129)

-- how many bytes it has
unfoldable pub size_of : ℕ → List ℕ → ℕ
size_of i c = cond (ltb i 1) (1 + min (get_or c 0 0) 64) (cond (ltb i 2) (min (get_or c 0 0 - 64) 64) (1 + min (get_or c 129 0) 64))

unfoldable pub part_of : ℕ → List ℕ → List ℕ
part_of i c = take (size_of i c) (drop (start_of i) c)

-- two places agree in the first parts
unfoldable pub agree : ℕ → List ℕ → List ℕ → Bool
agree zero c d = true
agree (suc i) c d = agree i c d && same (part_of i c) (part_of i d)

-- how many places stand before the first that agrees with one
unfoldable pub first_like : ℕ → List (List ℕ) → List ℕ → ℕ
first_like i cs c = first_where (λ d. agree i d c) cs

unfoldable pub firsts_of : ℕ → List (List ℕ) → List ℕ
firsts_of i cs = map (first_like i cs) cs

-- the 65 bytes from 65 - n on keep the first n bytes of a part
unfoldable pub keeping : List ℕ
keeping = replicate 65 255 ++ replicate 65 0
