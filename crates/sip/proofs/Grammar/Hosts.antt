-- Host, port and tail are read as the grammar derives them, and no `@` after them is taken for that of a user.
use mathlib.Core.Path.{◌≡◌, refl, ◌∙◌, sym, ap}
use mathlib.Core.Bool.{Bool, true, false, not, cond, ◌&&◌}
use mathlib.Core.List.{List, [], ◌∷◌, ◌++◌}
use Prim.Native.Nat.{ℕ, suc, ◌+◌, ◌≤◌, zero}
use native.Mathlib.Omega.{arith}
use lib.Dec.{eqb}
use lib.ListN.{length, drop}
use lib.Seq.{drop-append_seam}
use borrow.Author.Tests.{ne_eqb, eqb-true, eqb-false}
use Rattle.octets.specs.Classes.{within, is_digit, is_hex, is_user, is_parameter, is_host}
use Rattle.octets.specs.Scans.{run, all, starts, escape, run_escaped, decimal, number}
use Rattle.octets.specs.declared.NumberAt.{NumberAt}
use Rattle.sip.specs.Values.{host, port, host_port, tail}
use Rattle.sip.specs.Grammar.{Long, Host, Port, no_port, port_of, Tail, no_tail, tail_of}
use Rattle.sip.proofs.Tests.{never, and_left, and_right, all_first, all_others}
use Rattle.sip.proofs.Grammar.Bytes.{Ends, NumberView, RunView, long_of, not_number, number_here, number_of, number_view, ran}
use Rattle.sip.proofs.Grammar.Bytes.{run_of, run_view, some_no, stop, within_long}
use Rattle.sip.proofs.Grammar.Escapes.{EscapedEnds, EscapedView, escaped_of, escaped_view, went}

-- ---- host

data HostView : List ℕ → ℕ → Type 0 where
  host_here : {h : List ℕ} → Host h → (r : List ℕ) → HostView (h ++ r) (length h)
  no_host : {s : List ℕ} → HostView s 0

host_view : (s : List ℕ) → HostView s (host s)
unfolding host
host_view s = go s (run is_host s) (run_view is_host s)
  where
    go : (s : List ℕ) (n : ℕ) → RunView is_host s n → HostView s (cond (within 1 253 n) n 0)
    go _ _ (ran {x} {r} e f) = at (within 1 253 (length x)) refl
      where
        at : (t : Bool) → within 1 253 (length x) ≡ t → HostView (x ++ r) (cond t (length x) 0)
        at true q =
            let l : Long 1 253 x = long_of 1 253 x q in
            host_here (record { bytes = e; long = l }) r
        at false q = no_host

host_of : {h : List ℕ} → Host h → (r : List ℕ) → Ends is_host r → host (h ++ r) ≡ length h
unfolding host
host_of {h} d r f = rw (run_of d.bytes f, within_long d.long)

-- ---- port

data PortView : List ℕ → ℕ → Type 0 where
  port_here : {q d : List ℕ} → Port q d → 1 ≤ length q → (r : List ℕ) → PortView (q ++ r) (length q)
  not_port : {s : List ℕ} → PortView s 0

port_view : (s : List ℕ) → PortView s (port s)
unfolding port starts
port_view [] = not_port
port_view (b ∷ s) = go (eqb b 58) refl s (number 5 65535 s) (number_view 5 65535 s)
  where
    go : (t : Bool) → eqb b 58 ≡ t → (s : List ℕ) (n : NumberAt) → NumberView 5 65535 s n
        → PortView (b ∷ s) (cond (t && (not (eqb n.size 0) && not (eqb n.value 0))) (n.size + 1) 0)
    go false e s n v = not_port
    go true e _ _ (number_here {d} h l m r) = at (eqb (decimal 0 d) 0) refl
      where
        at : (t : Bool) → eqb (decimal 0 d) 0 ≡ t → PortView (b ∷ (d ++ r)) (cond (true && (not (eqb (length d) 0) && not t)) (length d + 1) 0)
        at true q = rw (some_no (length d) l.least) not_port
        at false q =
            let k : length d + 1 ≡ suc (length d) = omega arith in
            let p : Port (58 ∷ d) d = port_of h l (omega (arith, eqb-false (decimal 0 d) 0 q)) m in
            rw (some_no (length d) l.least, eqb-true b 58 e, k) (port_here p (omega arith) r)
    go true e _ _ not_number = not_port

port_exact : {q d : List ℕ} → Port q d → 1 ≤ length q → (r : List ℕ) → Ends is_digit r → port (q ++ r) ≡ length q
unfolding port starts
port_exact no_port l r f = absurd (omega arith)
port_exact (port_of {d} h n a m) l r f =
    let k : length d + 1 ≡ suc (length d) = omega arith in
    rw (number_of 5 65535 h n m r f, some_no (length d) n.least, some_no (decimal 0 d) a) k

-- ---- host and port

pub data HostPortView : List ℕ → ℕ → Type 0 where
  host_port_here : {h q d : List ℕ} → Host h → Port q d → (r : List ℕ) → HostPortView (h ++ (q ++ r)) (length h + length q)
  no_host_port : {s : List ℕ} → HostPortView s 0

pub host_port_view : (s : List ℕ) → HostPortView s (host_port s)
unfolding host_port
host_port_view s = go s (host s) (host_view s)
  where
    then : {h : List ℕ} → Host h → (t : Bool) (r : List ℕ) (p : ℕ) → PortView r p → HostPortView (h ++ r) (cond t (cond (eqb p 0) 0 (length h + p)) (length h))
    then d true _ _ (port_here {q} p l r) = rw (some_no (length q) l) (host_port_here d p r)
    then d true r _ not_port = no_host_port
    then {h} d false r p v = let k : length h + 0 ≡ length h = omega arith in rw k at (host_port_here d no_port r)

    go : (s : List ℕ) (h : ℕ) → HostView s h
        → HostPortView s (cond (eqb h 0) 0 (cond (starts 58 (drop h s)) (cond (eqb (port (drop h s)) 0) 0 (h + port (drop h s))) h))
    go _ _ (host_here {h} d r) = rw (some_no (length h) d.long.least, drop-append_seam h r) (then d (starts 58 r) r (port r) (port_view r))
    go s _ no_host = no_host_port

-- no byte of what follows continues a host, its digits or a port
pub record Past (w : List ℕ) : Type 0 where
  pub no_host : Ends is_host w
  pub no_digit : Ends is_digit w
  pub no_colon : starts 58 w ≡ false

pub host_port_of : {h q d : List ℕ} → Host h → Port q d → (w : List ℕ) → Past w → host_port (h ++ (q ++ w)) ≡ length h + length q
unfolding host_port is_host starts
host_port_of {h} e no_port w f =
    rw (host_of e w f.no_host, drop-append_seam h w, some_no (length h) e.long.least, f.no_colon) (omega arith)
host_port_of {h} {q} e (port_of {d} a n l m) w f =
    let p : port (58 ∷ (d ++ w)) ≡ suc (length d) = port_exact (port_of a n l m) (omega arith) w f.no_digit in
    rw (host_of e (58 ∷ (d ++ w)) (stop refl), drop-append_seam h (58 ∷ (d ++ w)), some_no (length h) e.long.least, p, some_no (suc (length d)) (omega arith))

-- ---- tail

pub data TailView : List ℕ → ℕ → Type 0 where
  tail_here : {t : List ℕ} → Tail t → (r : List ℕ) → TailView (t ++ r) (length t)

pub tail_view : (s : List ℕ) → TailView s (tail s)
unfolding tail starts
tail_view [] = tail_here no_tail []
tail_view (b ∷ s) = go (eqb b 59) refl s (run_escaped is_parameter 0 s) (escaped_view is_parameter s)
  where
    go : (t : Bool) → eqb b 59 ≡ t → (s : List ℕ) (n : ℕ) → EscapedView is_parameter s n → TailView (b ∷ s) (cond t (n + 1) 0)
    go true e _ _ (went {x} {r} d f) = let k : length x + 1 ≡ suc (length x) = omega arith in rw (k, eqb-true b 59 e) (tail_here (tail_of d) r)
    go false e s n v = tail_here no_tail (b ∷ s)

pub tail_exact : {t : List ℕ} → Tail t → (r : List ℕ) → starts 59 r ≡ false → EscapedEnds is_parameter r → tail (t ++ r) ≡ length t
unfolding tail starts is_parameter
tail_exact no_tail r e f = rw e
tail_exact (tail_of {s} d) r e f = rw (escaped_of is_parameter refl d f) (omega arith)

-- ---- no `@` is taken for that of a user

-- no run of user bytes and escapes ends at an `@`: there is none before a byte that ends every such run
pub data NoAt : List ℕ → Type 0 where
  at_end : NoAt []
  not_at : {b : ℕ} {s : List ℕ} → (b ≡ 64 → ⊥) → NoAt s → NoAt (b ∷ s)
  at_stop : {b : ℕ} (s : List ℕ) → is_user b ≡ false → is_hex b ≡ false → (b ≡ 37 → ⊥) → (b ≡ 64 → ⊥) → NoAt (b ∷ s)

-- the first k bytes are hex digits
abbrev Hexes : ℕ → List ℕ → Type 0
Hexes zero s = Unit {0}
Hexes (suc k) [] = Unit {0}
Hexes (suc k) (b ∷ s) = (is_hex b ≡ true) × Hexes k s

escape_parts : (b : ℕ) (s : List ℕ) → escape (b ∷ s) ≡ true → (b ≡ 37) × Hexes 2 s
unfolding escape
escape_parts b [] e = never (cc)
escape_parts b (h ∷ []) e = never (cc)
escape_parts b (h ∷ l ∷ s) e =
    let f : (is_hex h && is_hex l) ≡ true = and_right (eqb b 37) _ e in
    (eqb-true b 37 (and_left _ _ e), (and_left _ (is_hex l) f, (and_right (is_hex h) _ f, tt)))

pub escape_not : (b : ℕ) (s : List ℕ) → eqb b 37 ≡ false → escape (b ∷ s) ≡ false
unfolding escape
escape_not b [] e = refl
escape_not b (h ∷ []) e = refl
escape_not b (h ∷ l ∷ s) e = rw e

lands_byte : (b : ℕ) (s : List ℕ) → (b ≡ 64 → ⊥) → (is_user b ≡ true → starts 64 (drop (run_escaped is_user 0 s) s) ≡ false)
    → (b ≡ 37 → Hexes 2 s → starts 64 (drop (run_escaped is_user 2 s) s) ≡ false)
    → starts 64 (drop (run_escaped is_user 0 (b ∷ s)) (b ∷ s)) ≡ false
unfolding run_escaped starts
lands_byte b s n f g = go (is_user b) (escape (b ∷ s)) refl refl
  where
    go : (t u : Bool) → is_user b ≡ t → escape (b ∷ s) ≡ u
        → starts 64 (drop (cond t (suc (run_escaped is_user 0 s)) (cond u (suc (run_escaped is_user 2 s)) zero)) (b ∷ s)) ≡ false
    go true u p q = f p
    go false true p q = let (x, y) = escape_parts b s q in g x y
    go false false p q = ne_eqb b 64 n

hex_not : {A : Type 0} (b : ℕ) → is_hex b ≡ false → is_hex b ≡ true → A
hex_not b e f = let z : false ≡ true = sym e ∙ f in never (cc)

user_not : {A : Type 0} (b : ℕ) → is_user b ≡ false → is_user b ≡ true → A
user_not b e f = let z : false ≡ true = sym e ∙ f in never (cc)

pub lands : (k : ℕ) (s : List ℕ) → Hexes k s → NoAt s → starts 64 (drop (run_escaped is_user k s) s) ≡ false
unfolding run_escaped starts
lands zero [] h at_end = refl
lands (suc k) [] h at_end = refl
lands (suc k) (b ∷ s) h (not_at e n) = lands k s h.1 n
lands (suc k) (b ∷ s) h (at_stop _ u x p e) = hex_not b x h.0
lands zero (b ∷ s) h (not_at e n) = lands_byte b s e (λ q. lands 0 s tt n) (λ q y. lands 2 s y n)
lands zero (b ∷ s) h (at_stop _ u x p e) = lands_byte b s e (λ q. user_not b u q) (λ q y. absurd (p q))

pub no_at_before : (p : ℕ → Bool) → p 64 ≡ false → (x w : List ℕ) → all p x ≡ true → NoAt w → NoAt (x ++ w)
no_at_before p e [] w a n = n
no_at_before p e (b ∷ x) w a n =
    not_at (λ q. let z : true ≡ false = sym (all_first p b x a) ∙ ap p q ∙ e in never (cc)) (no_at_before p e x w (all_others p b x a) n)
