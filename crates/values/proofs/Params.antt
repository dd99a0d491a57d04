-- The parameters after those read so far, by the bytes that the last of these still takes: one law, by induction on these bytes.
use mathlib.Core.Path.{◌≡◌, refl, sym, ◌∙◌}
use mathlib.Core.Bool.{true, false}
use mathlib.Core.List.{List, [], ◌∷◌}
use Prim.Native.Nat.{ℕ, zero, suc, ◌+◌, ◌-◌, ◌≤◌}
use native.Mathlib.Omega.{arith}
use lib.ListN.{length, drop}
use lib.Seq.{drop-drop}
use Rattle.sip.specs.declared.ParamAt.{ParamAt}
use Rattle.sip.specs.declared.ParamsAt.{ParamsAt}
use Rattle.sip.specs.Values.{param, with_param, stops, params, no_params}
use Rattle.sip.proofs.Grammar.Params.{params_passed}

module _ (s : List ℕ) (got : ParamsAt) (e : params no_params 0 s ≡ params got 0 (drop got.size s)) {t : List ℕ} (ht : t ≡ drop got.size s) where
  pub stop : stops got (param t) ≡ true → got ≡ params no_params 0 s
  unfolding params
  stop y = sym (e ∙ go (drop got.size s) (rw (← ht) y))
    where
      go : (u : List ℕ) → stops got (param u) ≡ true → params got 0 u ≡ got
      go [] z = refl
      go (b ∷ u) z = rw z

  pass : (g : ParamsAt) (b : ℕ) (u : List ℕ) (n : ℕ) → 1 ≤ n → params g (n - 1) u ≡ params g 0 (drop n (b ∷ u))
  pass g b u zero h = absurd (omega arith)
  pass g b u (suc n) h = let e : suc n - 1 ≡ n = omega arith in rw e (params_passed g n u)

  pub again : {p : ParamAt} → p ≡ param t → stops got p ≡ false → 1 ≤ p.size → p.size ≤ length t → {g : ParamsAt} → g ≡ with_param got p → g.size ≡ got.size + p.size
      → params no_params 0 s ≡ params g 0 (drop g.size s)
  unfolding params
  again {p} hp y m l {g} hg z =
      let d : drop g.size s ≡ drop p.size t = rw (ht, drop-drop p.size got.size s, z) in
      e ∙ rw (← ht, d) (go t hp l)
    where
      go : (u : List ℕ) → p ≡ param u → p.size ≤ length u → params got 0 u ≡ params g 0 (drop p.size u)
      go [] q k = absurd (omega arith)
      go (b ∷ u) q k = rw (← q, y, ← hg) (pass g b u p.size m)
