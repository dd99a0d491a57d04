-- The sip user of an address, or its tel text after the colon, lies within the address.
use mathlib.Core.Path.{◌≡◌, refl}
use mathlib.Core.Bool.{Bool, true, false, cond}
use mathlib.Core.List.{List}
use Prim.Native.Nat.{ℕ, ◌+◌, ◌-◌, ◌≤◌, ◌<◌}
use native.Mathlib.Omega.{arith}
use lib.Dec.{eqb}
use lib.ListN.{take, drop}
use borrow.Author.Tests.{eqb-false}
use Rattle.octets.specs.Classes.{text, within, bit, is_digit, is_user}
use Rattle.octets.specs.Scans.{run, starts, run_escaped, same_text}
use Rattle.sip.specs.declared.UriAt.{UriAt}
use Rattle.sip.specs.declared.AddressAt.{AddressAt}
use Rattle.sip.specs.Values.{no_uri, host_port, sip_from, sip, tel, uri, display, no_address, bracketed, bare, address, person_size}

-- ---- a URI

-- where there is one, the user lies before the tail, which the URI ends with
abbrev pub Sized : UriAt → Type 0
Sized u = 0 < u.size → (4 + u.user ≤ u.tail) × (u.tail ≤ u.size)

without_uri : Sized no_uri
without_uri h = absurd (omega arith)

either : (t : Bool) (a b : UriAt) → Sized a → Sized b → Sized (cond t a b)
either true a b x y = x
either false a b x y = y

from_sized : (n u : ℕ) (s : List ℕ) → 4 + u ≤ n → Sized (sip_from n u s)
unfolding sip_from
from_sized n u s l = either (eqb (host_port s) 0) no_uri _ without_uri (λ h. (omega arith, omega arith))

sip_sized : (s : List ℕ) → Sized (sip s)
unfolding sip
sip_sized s =
    let u : ℕ = run_escaped is_user 0 s in
    let f : Sized (sip_from (u + 5) u (drop (u + 1) s)) = from_sized (u + 5) u (drop (u + 1) s) (omega arith) in
    either (starts 64 (drop u s)) _ (sip_from 4 0 s) (either (within 1 64 u) _ no_uri f without_uri) (from_sized 4 0 s (omega arith))

tel_sized : (s : List ℕ) → Sized (tel s)
unfolding tel
tel_sized s = either (within 1 15 (run is_digit (drop (bit (starts 43 s)) s))) _ no_uri (λ h. (omega arith, omega arith)) without_uri

pub uri_sized : (s : List ℕ) → Sized (uri s)
unfolding uri
uri_sized s =
    either (same_text (text "sip:") (take 4 s)) (sip (drop 4 s)) _ (sip_sized (drop 4 s))
    (either (same_text (text "tel:") (take 4 s)) (tel (drop 4 s)) no_uri (tel_sized (drop 4 s)) without_uri)

pub person_le : (u : UriAt) → 4 + u.user ≤ u.tail → u.tail ≤ u.size → 4 + person_size u ≤ u.size
person_le u a b = go u.tel
  where
    go : (t : Bool) → 4 + cond t (u.size - 4) u.user ≤ u.size
    go true = omega arith
    go false = omega arith

-- ---- an address

abbrev Within : AddressAt → Type 0
Within a = 0 < a.size → a.at + 4 + person_size a.uri ≤ a.size

some_bytes : (n : ℕ) → eqb n 0 ≡ false → 0 < n
some_bytes n e = omega (arith, eqb-false n 0 e)

bracketed_within : (d : ℕ) (s : List ℕ) → Within (bracketed d s)
unfolding bracketed
bracketed_within d s = go (eqb (uri s).size 0) (starts 62 (drop (uri s).size s)) refl
  where
    go : (t u : Bool) → eqb (uri s).size 0 ≡ t
        → Within (cond t no_address (cond u (record { size = d + (uri s).size + 2; at = d + 1; uri = uri s }) no_address))
    go true u e h = absurd (omega arith)
    go false false e h = absurd (omega arith)
    go false true e h = let (x, y) = uri_sized s (some_bytes (uri s).size e) in omega (arith, person_le (uri s) x y)

bare_within : (u : UriAt) → Sized u → Within (cond (eqb u.size 0) no_address (record { size = u.tail; at = 0; uri = bare u }))
bare_within u w = go (eqb u.size 0) refl
  where
    go : (t : Bool) → eqb u.size 0 ≡ t → Within (cond t no_address (record { size = u.tail; at = 0; uri = bare u }))
    go true e h = absurd (omega arith)
    go false e h = let (x, y) = w (some_bytes u.size e) in omega (arith, person_le (bare u) x (omega arith))

pub address_within : (v : List ℕ) → 0 < (address v).size → (address v).at + 4 + person_size (address v).uri ≤ (address v).size
unfolding address
address_within v = go (starts 60 (drop (display v) v))
  where
    last : AddressAt
    last = cond (eqb (uri v).size 0) no_address (record { size = (uri v).tail; at = 0; uri = bare (uri v) })

    go : (t : Bool) → Within (cond t (bracketed (display v) (drop (display v + 1) v)) last)
    go true = bracketed_within (display v) (drop (display v + 1) v)
    go false = bare_within (uri v) (uri_sized v)
