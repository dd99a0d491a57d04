-- The name at a place by the tests of its reader, and the field at that place by its name and its value.
use mathlib.Core.Path.{◌≡◌, refl, ap, ◌∙◌}
use mathlib.Core.Bool.{Bool, true, false, not}
use mathlib.Core.List.{List, [], ◌∷◌}
use Prim.Native.Nat.{ℕ, ◌+◌, ◌-◌, ◌≤◌, ◌<◌}
use native.Mathlib.Omega.{arith}
use lib.Dec.{eqb, ltb}
use lib.ListN.{length, take, drop}
use borrow.Author.Tests.{lt-ltb, le-ltb, ltb-true, ltb-false}
use Rattle.octets.specs.Classes.{is_token, is_value}
use Rattle.octets.specs.Scans.{run}
use Rattle.octets.proofs.Runs.{run_no, run_nil}
use Rattle.sip.specs.Lines.{starts_crlf}
use Rattle.sip.specs.Profile.{number_of}
use Rattle.lines.specs.Places.{field_at, named_at}
use Rattle.lines.specs.Sizes.{colon_size, value_end}
use Rattle.std.specs.Prelude.{Option as Answer, None, Some, unwrap_or}
use Rattle.lines.specs.declared.named.Named.{Named}
use Rattle.lines.proofs.Values.{crlf_first}
use Rattle.lines.proofs.Fields.{Found, Bad, nameless, colonless, endless, found}

-- ---- by the tests

module _ (s : List ℕ) (at : ℕ) {x : ℕ} (hx : x ≡ at + run is_token (drop at s)) where
  pub no_name : x ≤ at → None ≡ named_at s at
  unfolding named_at
  no_name h = rw (le-ltb 0 (run is_token (drop at s)) (omega arith))

  module _ (h : at < x) {v : ℕ} (hv : v ≡ x + colon_size (drop x s)) where
    name_there : ltb 0 (run is_token (drop at s)) ≡ true
    name_there = lt-ltb 0 (run is_token (drop at s)) (omega arith)

    no_colon : v ≤ x → None ≡ named_at s at
    unfolding named_at
    no_colon l = rw (name_there, ← hx, le-ltb 0 (colon_size (drop x s)) (omega arith))

    pub named_so : x < v → {n : ℕ} → n ≡ number_of (take (x - at) (drop at s)) → Some (record { number = n; value = v }) ≡ named_at s at
    unfolding named_at
    named_so l hn =
        let z : x - at ≡ run is_token (drop at s) = omega arith in
        rw (name_there, ← hx, lt-ltb 0 (colon_size (drop x s)) (omega arith), ← hv, hn, z)

  pub no_colon_after : at < x → x ≡ x + colon_size (drop x s) → None ≡ named_at s at
  no_colon_after h e = no_colon h e (omega arith)

  pub named_by : at < x → {v : ℕ} → v ≡ x + colon_size (drop x s) → x < v → (o : Answer ℕ) → unwrap_or o 0 ≡ number_of (take (x - at) (drop at s)) → {n : ℕ} → n ≡ unwrap_or o 0
      → Some (record { number = n; value = v }) ≡ named_at s at
  named_by h hv l o ho hn = named_so h hv l (hn ∙ ho)

-- ---- what a caller knows of a name that is read

pub record NameRead (s : List ℕ) (at : ℕ) (n : Named) : Type 0 where
  pub name_end : ℕ
  pub name_is : name_end ≡ at + run is_token (drop at s)
  pub name_some : at < name_end
  pub value_is : n.value ≡ name_end + colon_size (drop name_end s)
  pub value_after : name_end < n.value
  pub number_is : n.number ≡ number_of (take (name_end - at) (drop at s))

module _ (s : List ℕ) (at : ℕ) where
  abbrev name_long : ℕ
  name_long = run is_token (drop at s)

  abbrev colon_long : ℕ
  colon_long = colon_size (drop (at + name_long) s)

  pub unnamed_field : None ≡ named_at s at → Bad ≡ field_at s at
  unfolding named_at
  unnamed_field h = go (ltb 0 name_long) (ltb 0 colon_long) refl refl
    where
      go : (t u : Bool) → ltb 0 name_long ≡ t → ltb 0 colon_long ≡ u → Bad ≡ field_at s at
      go false u p q = nameless s at refl (omega (arith, ltb-false 0 name_long p))
      go true false p q = colonless s at refl (omega (arith, ltb-true 0 name_long p)) (omega (arith, ltb-false 0 colon_long q))
      go true true p q = let z = rw (p, q) at h in cc

  pub name_read : {n : Named} → Some n ≡ named_at s at → NameRead s at n
  unfolding named_at
  name_read {n} h = go (ltb 0 name_long) (ltb 0 colon_long) refl refl
    where
      go : (t u : Bool) → ltb 0 name_long ≡ t → ltb 0 colon_long ≡ u → NameRead s at n
      go false u p q = let z = rw p at h in cc
      go true false p q = let z = rw (p, q) at h in cc
      go true true p q =
          let a : at + name_long - at ≡ name_long = omega arith in
          let y = rw (p, q) at h in
          let w : n ≡ record { number = number_of (take name_long (drop at s)); value = at + name_long + colon_long } = cc in
          let z : n.value ≡ at + name_long + colon_long = ap (λ (x : Named). x.value) w in
          record {
            name_end = at + name_long;
            name_is = refl;
            name_some = omega (arith, ltb-true 0 name_long p);
            value_is = z;
            value_after = omega (arith, ltb-true 0 colon_long q);
            number_is = ap (λ (x : Named). x.number) w ∙ rw a;
          }

-- a name does not begin with a line break
no_token : (t : List ℕ) → starts_crlf t ≡ true → run is_token t ≡ 0
unfolding is_token
no_token [] e = run_nil is_token
no_token (b ∷ t) e = run_no is_token b t (rw (crlf_first b t e))

module _ (s : List ℕ) (at : ℕ) {n : Named} (r : NameRead s at n) where
  pub named_line : starts_crlf (drop at s) ≡ false
  named_line = go (starts_crlf (drop at s)) refl
    where
      go : (t : Bool) → starts_crlf (drop at s) ≡ t → t ≡ false
      go true e = absurd (omega (arith, no_token (drop at s) e, r.name_is, r.name_some))
      go false e = refl

  module _ {e : ℕ} (he : e ≡ value_end s n.value) where
    pub endless_field : length s ≤ e → Bad ≡ field_at s at
    endless_field = endless s at r.name_is r.name_some r.value_is r.value_after he

    pub found_field : e < length s → {d : Bool} → d ≡ not (eqb e (n.value + run is_value (drop n.value s)))
        → Found r.name_end n.value e d ≡ field_at s at
    found_field = found s at r.name_is r.name_some r.value_is r.value_after he
