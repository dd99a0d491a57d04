-- The status line by the tests of its reader: each test is one part of the condition of `status_line`.
use mathlib.Core.Path.{◌≡◌, refl, sym, ◌∙◌}
use mathlib.Core.Bool.{Bool, true, false, not}
use mathlib.Core.List.{List}
use Rattle.std.specs.Prelude.{None, Some}
use Prim.Native.Nat.{ℕ, ◌+◌, ◌-◌, ◌≤◌, ◌<◌}
use native.Mathlib.Omega.{arith}
use lib.ListN.{length, take, drop, get_or, drop_of_length-le, length-take}
use lib.Seq.{length-take-le}
use borrow.Author.Tests.{ne_eqb, not-true, not-false}
use Rattle.octets.specs.Classes.{text, is_digit, is_value}
use Rattle.octets.specs.Scans.{run, starts, same, same_text}
use Rattle.octets.proofs.Places.{drop1}
use Rattle.octets.proofs.Runs.{run_le}
use Rattle.octets.proofs.Texts.{same_text_length}
use Rattle.sip.specs.Lines.{is_version_first, starts_crlf, status_line}
use Rattle.lines.specs.Passes.{status_at}
use Rattle.lines.specs.declared.StartLine.TheVariants.{Status}
use Rattle.lines.proofs.Quads.{same_is}

-- ---- the version

module _ (s : List ℕ) where
  abbrev version : Bool
  version = is_version_first (take 8 s)

  pub too_short : length s < 8 → false ≡ version
  unfolding is_version_first text
  too_short h = go version refl
    where
      go : (t : Bool) → version ≡ t → false ≡ t
      go true e = absurd (omega (arith, same_text_length (text "SIP/2.0 ") (take 8 s) e, length-take 8 s))
      go false e = refl

  pub told_version : {b : Bool} → b ≡ same (take 8 (drop 0 s)) (text "SIP/2.0 ") → b ≡ true → b ≡ version
  unfolding is_version_first same_text text
  told_version e q = let z = same_is (take 8 s) (text "SIP/2.0 ") (sym e ∙ q) in q ∙ rw z

  pub compared_version : {g : Bool} → g ≡ same_text (text "SIP/2.0 ") (take (8 - 0) (drop 0 s)) → g ≡ version
  unfolding is_version_first
  compared_version q = q

-- ---- the whole line

module _ (s : List ℕ) {v : Bool} (hv : v ≡ is_version_first (take 8 s)) where
  pub no_version : not v ≡ true → None ≡ status_at s
  unfolding status_at status_line
  no_version q = rw (← hv, not-true v q)

  module _ (a : not v ≡ false) {d : ℕ} (hd : d ≡ 8 + run is_digit (drop 8 s)) where
    version_is : is_version_first (take 8 s) ≡ true
    version_is = sym hv ∙ not-false v a

    pub no_code : (d ≡ 11 → ⊥) → None ≡ status_at s
    unfolding status_at status_line
    no_code n = rw (version_is, ne_eqb (run is_digit (drop 8 s)) 3 (λ z. n (omega arith)))

    module _ (b : d ≡ 11) where
      code_is : run is_digit (drop 8 s) ≡ 3
      code_is = omega arith

      no_space_at : starts 32 (drop 11 s) ≡ false → None ≡ status_at s
      unfolding status_at status_line
      no_space_at q = rw (version_is, code_is, q)

      pub code_last : length s ≤ 11 → None ≡ status_at s
      unfolding starts
      code_last h = no_space_at (rw (drop_of_length-le s h))

      module _ (h : 11 < length s) where
        pub no_space : (get_or s 11 0 ≡ 32 → ⊥) → None ≡ status_at s
        unfolding starts
        no_space n = no_space_at (rw (drop1 s 11 h, ne_eqb (get_or s 11 0) 32 n))

        module _ (q : get_or s 11 0 ≡ 32) {e : ℕ} (he : e ≡ 12 + run is_value (drop 12 s)) {g : Bool} (hg : g ≡ starts_crlf (drop e s)) where
          space : starts 32 (drop 11 s) ≡ true
          unfolding starts
          space = rw (drop1 s 11 h, q)

          pub no_end : not g ≡ true → None ≡ status_at s
          unfolding status_at status_line
          no_end n = rw (version_is, code_is, space, ← he, ← hg, not-true g n)

          pub a_status : not g ≡ false → {n : ℕ} → n ≡ e - 12 → Some (Status n) ≡ status_at s
          unfolding status_at status_line
          a_status n z =
              let p : ℕ = run is_value (drop 12 s) in
              let j : length (take p (drop 12 s)) ≡ p = length-take-le p (drop 12 s) (run_le is_value (drop 12 s)) in
              let k : e - 12 ≡ p = omega arith in
              rw (version_is, code_is, space, ← he, ← hg, not-false g n, j, z, k)
