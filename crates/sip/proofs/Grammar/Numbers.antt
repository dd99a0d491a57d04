-- Max-Forwards, Content-Length, CSeq, Call-ID and global numbers: each is accepted exactly if the grammar derives it.
use mathlib.Core.Path.{◌≡◌, refl, ◌∙◌, sym}
use mathlib.Core.Bool.{true, false, not, ◌&&◌}
use mathlib.Core.List.{List, [], ◌∷◌, ◌++◌, append-nil}
use Prim.Native.Nat.{ℕ, suc, ◌+◌, ◌≤◌, zero, ◌-◌, ◌*◌}
use native.Mathlib.Omega.{arith}
use lib.Dec.{eqb}
use lib.ListN.{length, drop, length-append}
use lib.Seq.{drop-append_seam, drop-append-add}
use borrow.Author.Tests.{eq-eqb, ne_eqb, eqb-true, eqb-false, not-true}
use Rattle.octets.specs.Classes.{within, is_blank, is_digit}
use Rattle.octets.specs.Scans.{run, all, starts, decimal, number, same}
use Rattle.octets.specs.declared.NumberAt.{NumberAt}
use Rattle.octets.proofs.Runs.{run_whole, whole_all}
use Rattle.sip.specs.Values.{is_number, is_max_forwards, is_content_length, is_cseq, is_call_id, is_global}
use Rattle.sip.specs.Grammar.{Each, Long, MaxForwards, ContentLength, CSeq, cseq_of, CallId, GlobalNumber, global_number}
use Rattle.sip.proofs.Tests.{never, and_left, and_right, range_low, range_high, in_range, all_first, all_others}
use Rattle.sip.proofs.Texts.{same_eq, same_refl}
use Rattle.sip.proofs.Grammar.Bytes.{Ends, NumberView, RunView, all_of, each_all, end, long_of, not_number, number_here, number_of}
use Rattle.sip.proofs.Grammar.Bytes.{number_view, ran, run_of, run_view, some_no, stop, within_long}
use Rattle.sip.proofs.Grammar.Follows.{blank_digit}

-- ---- numbers

record Numeral (most bound : ℕ) (v : List ℕ) : Type 0 where
  digits : Each is_digit v
  long : Long 1 most v
  small : decimal 0 v ≤ bound

number_sound : (most bound : ℕ) (v : List ℕ) → is_number most bound v ≡ true → Numeral most bound v
unfolding is_number
number_sound most bound v e =
    go v (number most bound v) (number_view most bound v) (eqb-false _ 0 (not-true _ (and_left _ _ e)))
    (eqb-true _ (length v) (and_right (not (eqb (number most bound v).size 0)) _ e))
  where
    go : (v : List ℕ) (n : NumberAt) → NumberView most bound v n → (n.size ≡ 0 → ⊥) → n.size ≡ length v → Numeral most bound v
    go _ _ (number_here {d} e l m []) x y = rw append-nil (record { digits = e; long = l; small = m })
    go _ _ (number_here {d} e l m (b ∷ r)) x y = absurd (omega (arith, length-append d (b ∷ r)))
    go v _ not_number x y = absurd (x refl)

number_complete : (most bound : ℕ) {v : List ℕ} → Numeral most bound v → is_number most bound v ≡ true
unfolding is_number
number_complete most bound {v} h =
    let n : number most bound v ≡ record { size = length v; value = decimal 0 v }
    = rw append-nil at (number_of most bound h.digits h.long h.small [] end) in
    rw (n, some_no (length v) h.long.least) (eq-eqb (length v) (length v) refl)

pub max_forwards_sound : (v : List ℕ) → is_max_forwards v ≡ true → MaxForwards v
unfolding is_max_forwards
max_forwards_sound v e = let h = number_sound 3 255 v e in record { digits = h.digits; long = h.long; bound = h.small }

pub max_forwards_complete : {v : List ℕ} → MaxForwards v → is_max_forwards v ≡ true
unfolding is_max_forwards
max_forwards_complete h = number_complete 3 255 (record { digits = h.digits; long = h.long; small = h.bound })

-- k more digits of 9
abbrev nines : ℕ → ℕ → ℕ
nines m zero = m
nines m (suc k) = nines (m * 10 + 9) k

nines_grow : (k m : ℕ) → m ≤ nines m k
nines_grow zero m = omega arith
nines_grow (suc k) m = omega (arith, nines_grow k (m * 10 + 9))

decimal_le : (k m n : ℕ) (s : List ℕ) → length s ≤ k → n ≤ m → all is_digit s ≡ true → decimal n s ≤ nines m k
unfolding decimal is_digit
decimal_le k m n [] l h e = omega (arith, nines_grow k m)
decimal_le zero m n (b ∷ s) l h e = absurd (omega arith)
decimal_le (suc k) m n (b ∷ s) l h e =
    let d : b ≤ 57 = range_high 48 57 b (all_first is_digit b s e) in
    decimal_le k (m * 10 + 9) (n * 10 + (b - 48)) s (omega arith) (omega arith) (all_others is_digit b s e)

pub content_length_sound : (v : List ℕ) → is_content_length v ≡ true → ContentLength v
unfolding is_content_length
content_length_sound v e = let h = number_sound 5 99999 v e in record { digits = h.digits; long = h.long }

pub content_length_complete : {v : List ℕ} → ContentLength v → is_content_length v ≡ true
unfolding is_content_length
content_length_complete {v} h =
    number_complete 5 99999 (record { digits = h.digits; long = h.long; small = decimal_le 5 0 0 v h.long.most (omega arith) (all_of h.digits) })

-- ---- CSeq

pub cseq_sound : (method v : List ℕ) → is_cseq method v ≡ true → CSeq method v
unfolding is_cseq
cseq_sound method v e = go v (number 10 2147483647 v) (number_view 10 2147483647 v) e
  where
    blanks : {d : List ℕ} → Each is_digit d → Long 1 10 d → decimal 0 d ≤ 2147483647 → (r : List ℕ) (b : ℕ) → RunView is_blank r b
        → (not (eqb b 0) && same method (drop (length d + b) (d ++ r))) ≡ true → CSeq method (d ++ r)
    blanks {d} e l m _ _ (ran {x} {r} f g) q =
        let seam : drop (length d + length x) (d ++ (x ++ r)) ≡ r = drop-append-add d (x ++ r) (length x) ∙ drop-append_seam x r in
        let some : (length x ≡ 0 → ⊥) = eqb-false (length x) 0 (not-true _ (and_left _ (same method (drop (length d + length x) (d ++ (x ++ r)))) q)) in
        let w : same method r ≡ true = rw seam at (and_right (not (eqb (length x) 0)) (same method (drop (length d + length x) (d ++ (x ++ r)))) q) in
        let k : r ≡ method = sym (same_eq method r w) in
        rw k (cseq_of e l (omega arith) f (omega (arith, some)))

    go : (v : List ℕ) (n : NumberAt) → NumberView 10 2147483647 v n
        → (not (eqb n.size 0) && (not (eqb (run is_blank (drop n.size v)) 0) && same method (drop (n.size + run is_blank (drop n.size v)) v))) ≡ true
        → CSeq method v
    go _ _ (number_here {d} e l m r) q = blanks e l m r (run is_blank r) (run_view is_blank r) (rw (drop-append_seam d r) at (and_right (not (eqb (length d) 0)) _ q))
    go v _ not_number q = never (cc)

blank_no_digit : (b m : List ℕ) → Each is_blank b → 1 ≤ length b → Ends is_digit (b ++ m)
blank_no_digit [] m e l = absurd (omega arith)
blank_no_digit (c ∷ b) m e l = stop (blank_digit c (all_first is_blank c b (all_of e)))

-- the method is that of a start line: no blank stands at its front
pub cseq_complete : {method v : List ℕ} → Ends is_blank method → CSeq method v → is_cseq method v ≡ true
unfolding is_cseq
cseq_complete {method} g (cseq_of {d} {b} e l m f k) =
    let n : number 10 2147483647 (d ++ (b ++ method)) ≡ record { size = length d; value = decimal 0 d }
    = number_of 10 2147483647 e l (omega arith) (b ++ method) (blank_no_digit b method f k) in
    let seam : drop (length d + length b) (d ++ (b ++ method)) ≡ method = drop-append-add d (b ++ method) (length b) ∙ drop-append_seam b method in
    rw (n, drop-append_seam d (b ++ method), run_of f g, seam, some_no (length d) l.least, some_no (length b) k) (same_refl method)

-- ---- Call-ID

pub call_id_sound : (v : List ℕ) → is_call_id v ≡ true → CallId v
unfolding is_call_id
call_id_sound v e =
    let w : within 1 128 (length v) ≡ true = and_left _ _ e in
    let l : Long 1 128 v = long_of 1 128 v w in
    record { long = l; bytes = each_all (and_right (within 1 128 (length v)) _ e) }

pub call_id_complete : {v : List ℕ} → CallId v → is_call_id v ≡ true
unfolding is_call_id
call_id_complete {v} h = rw (within_long h.long) (all_of h.bytes)

-- ---- the numbers of P-Asserted-Identity

pub global_sound : (s : List ℕ) → is_global s ≡ true → GlobalNumber s
unfolding is_global starts run is_digit
global_sound [] e = never (cc)
global_sound (b ∷ []) e = let z : false ≡ true = and_right (eqb b 43) false e in never (cc)
global_sound (b ∷ c ∷ s) e =
    let n : ℕ = run is_digit (c ∷ s) in
    let f : (not (eqb c 48) && (within 7 15 n && eqb (n + 1) (suc (suc (length s))))) ≡ true = and_right (eqb b 43) _ e in
    let g : (within 7 15 n && eqb (n + 1) (suc (suc (length s)))) ≡ true = and_right (not (eqb c 48)) _ f in
    let k : n + 1 ≡ suc (suc (length s)) = eqb-true _ _ (and_right (within 7 15 n) _ g) in
    let w : within 7 15 n ≡ true = and_left _ _ g in
    let a : all is_digit (c ∷ s) ≡ true = whole_all is_digit (c ∷ s) (omega arith) in
    let x : (c ≡ 48 → ⊥) = eqb-false c 48 (not-true _ (and_left _ (within 7 15 n && eqb (n + 1) (suc (suc (length s)))) f)) in
    let h : within 48 57 c ≡ true = all_first is_digit c s a in
    let l : Long 6 14 s = record { least = omega (arith, range_low 7 15 n w); most = omega (arith, range_high 7 15 n w) } in
    rw (eqb-true b 43 (and_left _ _ e))
    (global_number {d = c} (omega (arith, range_low 48 57 c h, x)) (range_high 48 57 c h) (each_all (all_others is_digit c s a)) l)

pub global_complete : {s : List ℕ} → GlobalNumber s → is_global s ≡ true
unfolding is_global starts is_digit all
global_complete (global_number {d} {ds} lo hi e l) =
    let h : is_digit d ≡ true = in_range 48 57 d (omega arith) hi in
    let a : all is_digit (d ∷ ds) ≡ true = rw (h, all_of e) in
    let w : within 7 15 (suc (length ds)) ≡ true = in_range 7 15 (suc (length ds)) (omega (arith, l.least)) (omega (arith, l.most)) in
    rw (run_whole is_digit (d ∷ ds) a, ne_eqb d 48 (λ q. omega arith), w) (eq-eqb (suc (length ds) + 1) (suc (suc (length ds))) (omega arith))
