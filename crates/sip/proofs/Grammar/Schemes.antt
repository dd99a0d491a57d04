-- What stands after `sip:` and after `tel:` is read exactly as the grammar derives it.
use mathlib.Core.Path.{◌≡◌, refl, ◌∙◌, sym, ap}
use mathlib.Core.Bool.{Bool, true, false, cond}
use mathlib.Core.List.{List, [], ◌∷◌, ◌++◌, append_assoc}
use Prim.Native.Nat.{ℕ, suc, ◌+◌, ◌≤◌}
use native.Mathlib.Omega.{arith}
use lib.Dec.{eqb}
use lib.ListN.{length, drop, length-append}
use lib.Seq.{drop-append_seam, drop-append-add}
use borrow.Author.Tests.{ne_eqb}
use Rattle.octets.specs.Classes.{within, is_digit, text, bit, is_user, is_host}
use Rattle.octets.specs.Scans.{run, all, starts, run_escaped}
use Rattle.sip.specs.declared.UriAt.{UriAt}
use Rattle.sip.specs.Values.{no_uri, host_port, tail, sip_from, sip, tel}
use Rattle.sip.specs.Grammar.{Each, Long, AnyCase, BytesOrEscapes, Userinfo, no_user, user_at, Host, Port, no_port, port_of, Tail}
use Rattle.sip.specs.Grammar.{TelNumber, digits_alone, plus_digits, UriParts, sip_parts, tel_parts}
use Rattle.sip.proofs.Tests.{never, all_first, byte_start}
use Rattle.sip.proofs.Grammar.Bytes.{Ends, RunView, all_of, long_of, ran, run_of, run_view, some_no, within_long}
use Rattle.sip.proofs.Grammar.Escapes.{EscapedEnds, EscapedView, escaped_of, escaped_stop, escaped_view, went}
use Rattle.sip.proofs.Grammar.Hosts.{HostPortView, NoAt, Past, TailView, escape_not, host_port_here, host_port_of, host_port_view}
use Rattle.sip.proofs.Grammar.Hosts.{lands, no_at_before, no_host_port, not_at, tail_here, tail_view}

-- ---- after `sip:`

-- a URI without its tail
pub data Front : List ℕ → UriParts → Type 0 where
  sip_front : {k a u h q d : List ℕ} → AnyCase (text "sip:") k → Userinfo a u → Host h → Port q d → Front (k ++ (a ++ (h ++ q))) (sip_parts u h d [])
  tel_front : {k n : List ℕ} → AnyCase (text "tel:") k → TelNumber n → Front (k ++ n) (tel_parts n [])

data FromView (n u : ℕ) : List ℕ → UriAt → Type 0 where
  from_here : {h q d t : List ℕ} → Host h → Port q d → Tail t → (r : List ℕ)
      → FromView n u (h ++ (q ++ (t ++ r))) (record { size = n + (length h + length q) + length t; tel = false; user = u; tail = n + (length h + length q) })
  no_from : {s : List ℕ} → FromView n u s no_uri

from_view : (n u : ℕ) (s : List ℕ) → FromView n u s (sip_from n u s)
unfolding sip_from
from_view n u s = go s (host_port s) (host_port_view s)
  where
    then : {h q d : List ℕ} → Host h → Port q d → (r : List ℕ) (k : ℕ) → TailView r k
        → FromView n u (h ++ (q ++ r)) (record { size = n + (length h + length q) + k; tel = false; user = u; tail = n + (length h + length q) })
    then e p _ _ (tail_here t r) = from_here e p t r

    go : (s : List ℕ) (h : ℕ) → HostPortView s h
        → FromView n u s (cond (eqb h 0) no_uri (record { size = n + h + tail (drop h s); tel = false; user = u; tail = n + h }))
    go _ _ (host_port_here {h} {q} e p r) =
        let seam : drop (length h + length q) (h ++ (q ++ r)) ≡ r = drop-append-add h (q ++ r) (length q) ∙ drop-append_seam q r in
        let l : eqb (length h + length q) 0 ≡ false = some_no (length h + length q) (omega (arith, e.long.least)) in
        rw (l, seam) (then e p r (tail r) (tail_view r))
    go s _ no_host_port = no_from

from_of : (n u : ℕ) {h q d : List ℕ} → Host h → Port q d → (w : List ℕ) → Past w
    → sip_from n u (h ++ (q ++ w)) ≡ record { size = n + (length h + length q) + tail w; tel = false; user = u; tail = n + (length h + length q) }
unfolding sip_from
from_of n u {h} {q} e p w f =
    let seam : drop (length h + length q) (h ++ (q ++ w)) ≡ w = drop-append-add h (q ++ w) (length q) ∙ drop-append_seam q w in
    let l : eqb (length h + length q) 0 ≡ false = some_no (length h + length q) (omega (arith, e.long.least)) in
    rw (host_port_of e p w f, l, seam)

pub data SipView : List ℕ → UriAt → Type 0 where
  sip_here : {a u h q d t : List ℕ} → Userinfo a u → Host h → Port q d → Tail t → (r : List ℕ)
      → SipView (a ++ (h ++ (q ++ (t ++ r)))) (record {
        size = 4 + length a + (length h + length q) + length t;
        tel = false;
        user = length u;
        tail = 4 + length a + (length h + length q);
      })
  no_sip : {s : List ℕ} → SipView s no_uri

pub sip_view : (s : List ℕ) → SipView s (sip s)
unfolding sip
sip_view s = go s (run_escaped is_user 0 s) (escaped_view is_user s)
  where
    plain : (s : List ℕ) (p : UriAt) → FromView 4 0 s p → SipView s p
    plain _ _ (from_here e p t r) = sip_here no_user e p t r
    plain _ _ no_from = no_sip

    after : (x : List ℕ) → BytesOrEscapes is_user x → Long 1 64 x → (s : List ℕ) (p : UriAt) → FromView (length x + 5) (length x) s p → SipView (x ++ (64 ∷ s)) p
    after x d l _ _ (from_here {h} {q} {t = t} e p b r) =
        let k : 4 + length (x ++ (64 ∷ [])) ≡ length x + 5 = rw (length-append x (64 ∷ [])) (omega arith) in
        rw (append_assoc x (64 ∷ []) (h ++ (q ++ (t ++ r))), k) at (sip_here (user_at d l) e p b r)
    after x d l _ _ no_from = no_sip

    at : (x r : List ℕ) → BytesOrEscapes is_user x
        → SipView (x ++ r) (cond (starts 64 r) (cond (within 1 64 (length x)) (sip_from (length x + 5) (length x) (drop 1 r)) no_uri) (sip_from 4 0 (x ++ r)))
    at x r d = choose (starts 64 r) refl (within 1 64 (length x)) refl
      where
        choose : (t : Bool) → starts 64 r ≡ t → (w : Bool) → within 1 64 (length x) ≡ w
            → SipView (x ++ r) (cond t (cond w (sip_from (length x + 5) (length x) (drop 1 r)) no_uri) (sip_from 4 0 (x ++ r)))
        choose true e true q =
            let l : Long 1 64 x = long_of 1 64 x q in
            rw (byte_start 64 r e) (after x d l (drop 1 r) _ (from_view (length x + 5) (length x) (drop 1 r)))
        choose true e false q = no_sip
        choose false e w q = plain (x ++ r) _ (from_view 4 0 (x ++ r))

    go : (s : List ℕ) (u : ℕ) → EscapedView is_user s u
        → SipView s (cond (starts 64 (drop u s)) (cond (within 1 64 u) (sip_from (u + 5) u (drop (u + 1) s)) no_uri) (sip_from 4 0 s))
    go _ _ (went {x} {r} d f) = rw (drop-append_seam x r, drop-append-add x r 1) (at x r d)

-- what follows a URI without its tail: nothing that continues it, and no `@`
pub record Clear (w : List ℕ) : Type 0 where
  pub past : Past w
  pub no_at : NoAt w

pub sip_of : {a u h q d : List ℕ} → Userinfo a u → Host h → Port q d → (w : List ℕ) → Clear w
    → sip (a ++ (h ++ (q ++ w))) ≡ record {
      size = 4 + length a + (length h + length q) + tail w;
      tel = false;
      user = length u;
      tail = 4 + length a + (length h + length q);
    }
unfolding sip is_user is_host starts
sip_of {h = h} {q} no_user e p w c =
    let n : NoAt (h ++ (q ++ w)) = no_at_before is_host refl h (q ++ w) (all_of e.bytes) (port_no_at p) in
    rw (lands 0 (h ++ (q ++ w)) tt n) (from_of 4 0 e p w c.past)
  where
    port_no_at : {q d : List ℕ} → Port q d → NoAt (q ++ w)
    port_no_at no_port = c.no_at
    port_no_at (port_of {d} g n l m) = not_at {b = 58} (λ z. omega arith) (no_at_before is_digit refl d w (all_of g) c.no_at)
sip_of {h = h} {q} (user_at {u} d l) e p w c =
    let s : List ℕ = h ++ (q ++ w) in
    let f : EscapedEnds is_user (64 ∷ s) = escaped_stop is_user refl (escape_not 64 s refl) in
    let k : length u + 5 ≡ 4 + length (u ++ (64 ∷ [])) = rw (length-append u (64 ∷ [])) (omega arith) in
    rw (
      append_assoc u (64 ∷ []) s,
      escaped_of is_user refl d f,
      drop-append_seam u (64 ∷ s),
      drop-append-add u (64 ∷ s) 1,
      within_long l,
      ← k,
    ) (from_of (length u + 5) (length u) e p w c.past)

-- ---- after `tel:`

pub data TelView : List ℕ → UriAt → Type 0 where
  tel_here : {n t : List ℕ} → TelNumber n → Tail t → (r : List ℕ)
      → TelView (n ++ (t ++ r)) (record { size = 4 + length n + length t; tel = true; user = 0; tail = 4 + length n })
  no_tel : {s : List ℕ} → TelView s no_uri

abbrev tel_from : ℕ → List ℕ → UriAt
tel_from p s =
    cond (within 1 15 (run is_digit (drop p s)))
    (record {
      size = 4 + p + run is_digit (drop p s) + tail (drop (p + run is_digit (drop p s)) s);
      tel = true;
      user = 0;
      tail = 4 + p + run is_digit (drop p s);
    }) no_uri

tel_from_lem : (y s : List ℕ) → ((x : List ℕ) → Each is_digit x → Long 1 15 x → TelNumber (y ++ x)) → TelView (y ++ s) (tel_from (length y) (y ++ s))
tel_from_lem y s mk = rw (drop-append_seam y s) (go s (run is_digit s) (run_view is_digit s))
  where
    then : {n : List ℕ} → TelNumber n → (r : List ℕ) (k : ℕ) → TailView r k
        → TelView (n ++ r) (record { size = 4 + length n + k; tel = true; user = 0; tail = 4 + length n })
    then d _ _ (tail_here t r) = tel_here d t r

    go : (s : List ℕ) (n : ℕ) → RunView is_digit s n
        → TelView (y ++ s) (cond (within 1 15 n) (record { size = 4 + length y + n + tail (drop (length y + n) (y ++ s)); tel = true; user = 0; tail = 4 + length y + n }) no_uri)
    go _ _ (ran {x} {r} e f) = at (within 1 15 (length x)) refl
      where
        at : (t : Bool) → within 1 15 (length x) ≡ t
            → TelView (y ++ (x ++ r)) (cond t (record {
              size = 4 + length y + length x + tail (drop (length y + length x) (y ++ (x ++ r)));
              tel = true;
              user = 0;
              tail = 4 + length y + length x;
            }) no_uri)
        at true q =
            let l : Long 1 15 x = long_of 1 15 x q in
            let seam : drop (length y + length x) (y ++ (x ++ r)) ≡ r = drop-append-add y (x ++ r) (length x) ∙ drop-append_seam x r in
            let k : 4 + length y + length x ≡ 4 + length (y ++ x) = rw (length-append y x) (omega arith) in
            rw (seam, k, ← append_assoc y x r) (then (mk x e l) r (tail r) (tail_view r))
        at false q = no_tel

pub tel_view : (s : List ℕ) → TelView s (tel s)
unfolding tel
tel_view s = go (starts 43 s) refl
  where
    go : (t : Bool) → starts 43 s ≡ t → TelView s (tel_from (bit t) s)
    go true e = rw (byte_start 43 s e) (tel_from_lem (43 ∷ []) (drop 1 s) (λ x d l. plus_digits d l))
    go false e = tel_from_lem [] s (λ x d l. digits_alone d l)

no_plus : (d w : List ℕ) → all is_digit d ≡ true → 1 ≤ length d → starts 43 (d ++ w) ≡ false
unfolding starts is_digit
no_plus [] w e l = absurd (omega arith)
no_plus (b ∷ d) w e l = ne_eqb b 43 (λ q. let z : true ≡ false = sym (all_first is_digit b d e) ∙ ap is_digit q in never (cc))

pub tel_of : {n : List ℕ} → TelNumber n → (w : List ℕ) → Ends is_digit w
    → tel (n ++ w) ≡ record { size = 4 + length n + tail w; tel = true; user = 0; tail = 4 + length n }
unfolding tel starts
tel_of (digits_alone {d} e l) w f =
    let z : 0 + length d ≡ length d = omega arith in
    let k : 4 + 0 + length d ≡ 4 + length d = omega arith in
    rw (no_plus d w (all_of e) l.least, run_of e f, within_long l, z, drop-append_seam d w)
tel_of (plus_digits {d} e l) w f =
    let z : 1 + length d ≡ suc (length d) = omega arith in
    let k : 5 + length d ≡ 4 + suc (length d) = omega arith in
    rw (run_of e f, within_long l, z, drop-append_seam d w, k)
