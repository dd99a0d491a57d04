-- A listed name with its colon at a place is the name of the field there: its bytes are tokens, and the colon is none.
use mathlib.Core.Path.{◌≡◌, refl, sym, ap, ◌∙◌}
use mathlib.Core.Bool.{Bool, true, false, not, ◌&&◌, and-eq-true_iff}
use mathlib.Core.List.{List, [], ◌∷◌, ◌++◌, append_assoc}
use Rattle.std.specs.Prelude.{Option as Answer, Some, unwrap_or, IfSome}
use Prim.Native.Nat.{ℕ, zero, suc, ◌+◌, ◌-◌, ◌≤◌}
use native.Mathlib.Omega.{arith}
use lib.Dec.{leb, eqb}
use lib.ListN.{length, take, drop, get_or, take-append-drop, length-append}
use lib.Seq.{drop-drop, take-take, take-append_seam, drop-append_seam}
use borrow.Author.Tests.{eqb-true, eqb-false, leb-true, lt-ltb, not-false}
use Rattle.octets.specs.Classes.{text, within, is_token, is_blank}
use Rattle.octets.specs.Scans.{run, starts, same, same_text}
use Rattle.octets.proofs.Places.{drop2, drop_slice}
use Rattle.octets.proofs.Runs.{run_no, run_exact}
use Rattle.sip.specs.Profile.{rows, lookup, number_of, find, name_of}
use Rattle.sip.proofs.Tests.{range_low, range_high}
use Rattle.sip.proofs.Names.{NameShaped, listed_name}
use Rattle.lines.specs.Places.{named_at}
use Rattle.lines.specs.Sizes.{colon_size}
use Rattle.lines.specs.Passes.{FoundName, FoundIn, spells}
use Rattle.lines.proofs.Spellings.{bounded_number}
use Rattle.lines.specs.declared.named.Named.{Named}
use Rattle.lines.proofs.Quads.{same_is}

-- n bytes at a place are the text t
pub record Stands (s : List ℕ) (at n : ℕ) (t : List ℕ) : Type 0 where
  pub stands : take n (drop at s) ≡ t

colon_first : (t : List ℕ) → colon_size (58 ∷ t) ≡ 1
unfolding colon_size is_blank starts
colon_first t = rw (run_no is_blank 58 t refl)

-- a name stands at a place with its colon
module _ (s : List ℕ) (at : ℕ) (name : List ℕ) (e : Stands s at (length name + 1) (name ++ 58 ∷ [])) where
  abbrev rest : List ℕ
  rest = drop (length name + 1) (drop at s)

  here : drop at s ≡ name ++ 58 ∷ rest
  here = sym (take-append-drop (length name + 1) (drop at s)) ∙ ap (λ (x : List ℕ). x ++ rest) e.stands ∙ append_assoc name (58 ∷ []) rest

  name_is : take (length name) (drop at s) ≡ name
  name_is = ap (take (length name)) here ∙ take-append_seam name (58 ∷ rest)

  colon_is : colon_size (drop (at + length name) s) ≡ 1
  colon_is = ap colon_size (sym (drop-drop (length name) at s) ∙ ap (drop (length name)) here ∙ drop-append_seam name (58 ∷ rest)) ∙ colon_first rest

  name_at : NameShaped name → named_at s at ≡ Some (record { number = number_of name; value = at + length name + 1 })
  unfolding named_at is_token
  name_at h =
      let r : run is_token (drop at s) ≡ length name
      = ap (run is_token) here ∙ run_exact is_token name (58 ∷ rest) h.token (run_no is_token 58 rest refl) in
      rw (r, lt-ltb 0 (length name) h.long, colon_is, name_is)

  name_told : {n : ℕ} → n ≡ number_of name → 1 ≤ n → {v : ℕ} → v ≡ at + (length name + 1) → v ≤ length s → FoundName s at (Some (record { number = n; value = v }))
  name_told {n} hn k {v} hv l =
      let z : at + length name + 1 ≡ v = omega arith in
      let e : named_at s at ≡ Some (record { number = n; value = v }) = name_at (listed_name name (omega arith)) ∙ rw (z, hn) in
      record { found_named = (e, record { number_fits = (bounded_number name hn).1; value_fits = l }) }

-- ---- the long names, by one computed test of the 18

told : ℕ → Bool
unfolding name_of find rows text number_of lookup same_text
told n = leb (length (name_of n)) 19 && eqb (number_of (name_of n)) n

every : ℕ → Bool
every zero = true
every (suc n) = told (suc n) && every n

every_listed : every 18 ≡ true
unfolding every told
every_listed = refl

one_of : (k n : ℕ) → every k ≡ true → 1 ≤ n → n ≤ k → told n ≡ true
unfolding every
one_of zero n e h l = absurd (omega arith)
one_of (suc k) n e h l = let b = (and-eq-true_iff (told (suc k)) (every k)).0 e in go (eqb n (suc k)) refl b.0 (one_of k n b.1 h)
  where
    go : (t : Bool) → eqb n (suc k) ≡ t → told (suc k) ≡ true → (n ≤ k → told n ≡ true) → told n ≡ true
    go true q y f = rw (eqb-true n (suc k) q) y
    go false q y f = let z : n ≡ suc k → ⊥ = eqb-false n (suc k) q in f (omega arith)

-- the long name of number n stands at a place with its colon
named : {s : List ℕ} {at : ℕ} (n : ℕ) → within 1 18 n ≡ true → Stands s at (length (name_of n) + 1) (name_of n ++ 58 ∷ [])
    → {v : ℕ} → v ≡ at + (length (name_of n) + 1) → at + 20 ≤ length s → FoundName s at (Some (record { number = n; value = v }))
unfolding told
named {s} {at} n h e {v} hv l =
    let a = (and-eq-true_iff (leb (length (name_of n)) 19) (eqb (number_of (name_of n)) n)).0 (one_of 18 n every_listed (range_low 1 18 n h) (range_high 1 18 n h)) in
    name_told s at (name_of n) e (sym (eqb-true (number_of (name_of n)) n a.1)) (range_low 1 18 n h) hv (omega (arith, leb-true (length (name_of n)) 19 a.0))

-- a text is the long name of number n with its colon
module _ (n : ℕ) (t : List ℕ) (e : spells n t ≡ true) where
  parts : (within 1 18 n ≡ true) × ((within 4 20 (length t) && same t (name_of n ++ 58 ∷ [])) ≡ true)
  unfolding spells
  parts = (and-eq-true_iff (within 1 18 n) (within 4 20 (length t) && same t (name_of n ++ 58 ∷ []))).0 e

  text_parts : (within 4 20 (length t) ≡ true) × (same t (name_of n ++ 58 ∷ []) ≡ true)
  text_parts = (and-eq-true_iff (within 4 20 (length t)) (same t (name_of n ++ 58 ∷ []))).0 parts.1

  pub spelling_long : 4 ≤ length t
  spelling_long = range_low 4 20 (length t) text_parts.0

  pub spelling_short : length t ≤ 20
  spelling_short = range_high 4 20 (length t) text_parts.0

  spelling_is : t ≡ name_of n ++ 58 ∷ []
  spelling_is = same_is t (name_of n ++ 58 ∷ []) text_parts.1

  pub spelt : {name : List ℕ} → {a : Bool} → a ≡ same (take (length t) (drop 0 name)) t → not a ≡ false
      → {v : ℕ} → v ≡ length t → FoundIn name (Some (record { number = n; value = v }))
  spelt {name} {a} ha q {v} hv = record { found_in = at_place }
    where
      at_place : (s : List ℕ) (at : ℕ) → take 20 (drop at s) ≡ name → at + 20 ≤ length s → FoundName s at (Some (record { number = n; value = at + v }))
      at_place s at e h =
          let long : length t ≡ length (name_of n) + 1 = ap length spelling_is ∙ length-append (name_of n) (58 ∷ []) in
          let w : take (length t) name ≡ t = same_is _ _ (sym ha ∙ not-false a q) in
          let x : take (length t) (drop at s) ≡ t
          = sym (take-take (length t) 20 (drop at s) (range_high 4 20 (length t) text_parts.0)) ∙ ap (take (length t)) e ∙ w in
          named n parts.0 (record { stands = rw long at x ∙ spelling_is }) (omega (arith, hv, long)) h

-- To, with the space after its colon
pub to_spelt : {name : List ℕ} {a : Bool} → a ≡ same (take 4 (drop 0 name)) (text "To: ") → not a ≡ false
    → FoundIn name (Some (record { number = 4; value = 3 }))
unfolding name_of find rows text
to_spelt {name} {a} ha q = record { found_in = at_place }
  where
    at_place : (s : List ℕ) (at : ℕ) → take 20 (drop at s) ≡ name → at + 20 ≤ length s → FoundName s at (Some (record { number = 4; value = at + 3 }))
    at_place s at e h =
        let w : take 4 name ≡ text "To: " = same_is _ _ (sym ha ∙ not-false a q) in
        let x : take 3 (drop at s) ≡ take 3 (text "To: ")
        = sym (take-take 3 20 (drop at s) (omega arith)) ∙ ap (take 3) e ∙ sym (take-take 3 4 name (omega arith)) ∙ ap (take 3) w in
        named 4 refl (record { stands = x }) refl h

-- ---- the compact ones

-- a byte before a colon
pub letter_told : (s : List ℕ) (at : ℕ) → 2 ≤ length s - at → get_or s (at + 1) 0 ≡ 58 → {n : ℕ} → n ≡ number_of (get_or s at 0 ∷ []) → 1 ≤ n → {v : ℕ} → v ≡ at + 2
    → FoundName s at (Some (record { number = n; value = v }))
letter_told s at h q hn k hv =
    let e : Stands s at 2 (get_or s at 0 ∷ 58 ∷ []) = record { stands = rw (drop2 s at (omega arith), q) } in
    name_told s at (get_or s at 0 ∷ []) e hn k hv (omega arith)

pub letter_by : (s : List ℕ) (at : ℕ) → 2 ≤ length s - at → get_or s (at + 1) 0 ≡ 58 → (o : Answer ℕ) → unwrap_or o 0 ≡ number_of (get_or s at 0 ∷ [])
    → IfSome o (λ k. (1 ≤ k) × (k ≤ 18)) → {n : ℕ} → o ≡ Some n → {v : ℕ} → v ≡ at + 2 → FoundName s at (Some (record { number = n; value = v }))
letter_by s at h q o e f {n} z hv =
    let a : n ≡ number_of (get_or s at 0 ∷ []) = rw z at e in
    let b : (1 ≤ n) × (n ≤ 18) = rw z at f in
    letter_told s at h q a b.0 hv

-- ---- what twenty bytes tell, at their place

module _ {name : List ℕ} {n : Named} (h : FoundIn name (Some n)) (s : List ℕ) (at : ℕ) (e : name ≡ take 20 (take (length s - at) (drop at s))) (l : at + 20 ≤ length s) where
  pub in_place : FoundName s at (Some (record { number = n.number; value = at + n.value }))
  in_place = h.found_in s at (sym (e ∙ ap (take 20) (drop_slice s at))) l

  pub place_fits : at + n.value ≤ length s
  place_fits = in_place.found_named.1.value_fits
