-- Places compared part by part: the first place that agrees in one part more is looked for among those that agree in the parts before.
use mathlib.Core.Path.{◌≡◌, refl, sym, ap, ◌∙◌}
use mathlib.Core.Bool.{Bool, true, false, cond, ◌&&◌}
use mathlib.Core.List.{List, [], ◌∷◌, map}
use Prim.Native.Nat.{ℕ, zero, suc, ◌+◌, ◌*◌, ◌-◌, ◌≤◌, ◌<◌, min}
use native.Mathlib.Omega.{arith}
use lib.Dec.{eqb, ltb}
use lib.ListN.{length, take, drop, get_or, set, replicate, length-drop, length-map}
use lib.Seq.{take_all, take-take, take-suc, take-suc-set, get_or-take, get_or-drop}
use borrow.Author.Tests.{eqb-true, eq-eqb, ne_eqb, ltb-true, ltb-false}
use Rattle.octets.specs.Scans.{same}
use Rattle.sip.specs.Calls.{places, first_where}
use Rattle.sip.proofs.Tests.{never, and_left, and_right}
use Rattle.sip.proofs.Texts.{same_eq, same_refl}
use Rattle.sip.proofs.Calls.Places.{places_length, first_where_lem}
use Rattle.calls.specs.Parts.{start_of, size_of, part_of, agree, first_like, firsts_of}
use Rattle.calls.proofs.Texts.{same_cons}
use Rattle.calls.proofs.Firsts.{place_long, get_d_places, first_same, from_start, from_here, from_next, from_jump}

-- ---- agreement

agree_self : (i : ℕ) (c : List ℕ) → agree i c c ≡ true
unfolding agree
agree_self zero c = refl
agree_self (suc i) c = rw (agree_self i c, same_refl (part_of i c))

module _ (i : ℕ) (c d : List ℕ) (a : agree (suc i) c d ≡ true) where
  pub agree_before : agree i c d ≡ true
  unfolding agree
  agree_before = and_left (agree i c d) (same (part_of i c) (part_of i d)) a

  pub agree_part : part_of i c ≡ part_of i d
  unfolding agree
  agree_part = same_eq (part_of i c) (part_of i d) (and_right (agree i c d) (same (part_of i c) (part_of i d)) a)

-- places that agree, agree with the same ones
agree_left : (i : ℕ) (c d e : List ℕ) → agree i c d ≡ true → agree i c e ≡ agree i d e
unfolding agree
agree_left zero c d e a = refl
agree_left (suc i) c d e a = rw (agree_left i c d e (agree_before i c d a), agree_part i c d a)

agree_right : (i : ℕ) (c d e : List ℕ) → agree i c d ≡ true → agree i e c ≡ agree i e d
unfolding agree
agree_right zero c d e a = refl
agree_right (suc i) c d e a = rw (agree_right i c d e (agree_before i c d a), agree_part i c d a)

-- ---- the first place that agrees

first_bound : (p : List ℕ → Bool) (cs : List (List ℕ)) (k : ℕ) → k < length cs → p (get_or cs k []) ≡ true → first_where p cs ≤ k
unfolding first_where
first_bound p [] k h e = absurd (omega arith)
first_bound p (c ∷ cs) zero h e = rw e (omega arith)
first_bound p (c ∷ cs) (suc k) h e = go (p c) (first_bound p cs k (omega arith) e)
  where
    go : (b : Bool) → first_where p cs ≤ k → cond b 0 (suc (first_where p cs)) ≤ suc k
    go true i = omega arith
    go false i = omega arith

get_d_map : (f : List ℕ → ℕ) (cs : List (List ℕ)) (k : ℕ) → k < length cs → get_or (map f cs) k 0 ≡ f (get_or cs k [])
get_d_map f [] k h = absurd (omega arith)
get_d_map f (c ∷ cs) zero h = refl
get_d_map f (c ∷ cs) (suc k) h = get_d_map f cs k (omega arith)

first_alike : (i : ℕ) (cs : List (List ℕ)) (c d : List ℕ) → agree i c d ≡ true → first_like i cs c ≡ first_like i cs d
unfolding first_like
first_alike i cs c d a = first_same (λ e. agree i e c) (λ e. agree i e d) (λ e. agree_right i c d e a) cs

module _ (i : ℕ) (t : List ℕ) where
  abbrev at : ℕ → List ℕ
  at k = take 194 (drop (k * 194) t)

  firsts_length : length (firsts_of i (places 32 t)) ≡ 32
  unfolding firsts_of
  firsts_length = length-map (places 32 t) (first_like i (places 32 t)) ∙ places_length 32 t

  pub firsts_at : (k : ℕ) → k < 32 → get_or (firsts_of i (places 32 t)) k 0 ≡ first_like i (places 32 t) (at k)
  unfolding firsts_of
  firsts_at k h = get_d_map (first_like i (places 32 t)) (places 32 t) k (rw (places_length 32 t) h) ∙ rw (get_d_places k 32 t h)

  pub first_le : (j k : ℕ) → j < 32 → agree i (at j) (at k) ≡ true → first_like i (places 32 t) (at k) ≤ j
  unfolding first_like
  first_le j k h a = first_bound (λ d. agree i d (at k)) (places 32 t) j (rw (places_length 32 t) h) (rw (get_d_places j 32 t h) a)

  first_own : (k : ℕ) → k < 32 → first_like i (places 32 t) (at k) ≤ k
  first_own k h = first_le k k h (agree_self i (at k))

  pub first_agrees : (k : ℕ) → k < 32 → agree i (at (first_like i (places 32 t) (at k))) (at k) ≡ true
  unfolding first_like
  first_agrees k h =
      let r : ℕ = first_where (λ d. agree i d (at k)) (places 32 t) in
      let l : r < 32 = omega (arith, first_own k h) in
      rw (← get_d_places r 32 t l) (first_where_lem (λ d. agree i d (at k)) (places 32 t) (rw (places_length 32 t) l))

  -- two places agree where they have the same first
  agree_first : (j k : ℕ) → j < 32 → k < 32
      → eqb (first_like i (places 32 t) (at j)) (first_like i (places 32 t) (at k)) ≡ agree i (at j) (at k)
  agree_first j k hj hk = go (agree i (at j) (at k)) refl
    where
      go : (b : Bool) → agree i (at j) (at k) ≡ b → eqb (first_like i (places 32 t) (at j)) (first_like i (places 32 t) (at k)) ≡ b
      go true a = eq-eqb (first_like i (places 32 t) (at j)) (first_like i (places 32 t) (at k)) (first_alike i (places 32 t) (at j) (at k) a)
      go false a = ne_eqb (first_like i (places 32 t) (at j)) (first_like i (places 32 t) (at k)) different
        where
          different : first_like i (places 32 t) (at j) ≡ first_like i (places 32 t) (at k) → ⊥
          different e =
              let r : ℕ = first_like i (places 32 t) (at j) in
              let x : agree i (at r) (at k) ≡ true = rw e (first_agrees k hk) in
              let y : agree i (at r) (at k) ≡ agree i (at j) (at k) = agree_left i (at r) (at j) (at k) (first_agrees j hj) in
              never (cc)

-- ---- the bytes of a part, as many as the other place has

-- a length and the bytes that it counts
counted : (f : ℕ → ℕ) (u v : List ℕ) → 1 ≤ length u → 1 ≤ length v
    → same (take (1 + f (get_or u 0 0)) u) (take (1 + f (get_or v 0 0)) v) ≡ same (take (1 + f (get_or v 0 0)) u) (take (1 + f (get_or v 0 0)) v)
counted f [] v h k = absurd (omega arith)
counted f (x ∷ u) [] h k = absurd (omega arith)
counted f (x ∷ u) (y ∷ v) h k =
    let a : 1 + f x ≡ suc (f x) = omega arith in
    let b : 1 + f y ≡ suc (f y) = omega arith in
    rw (a, b, same_cons x y (take (f x) u) (take (f y) v), same_cons x y (take (f y) u) (take (f y) v)) (go (eqb x y) refl)
  where
    go : (t : Bool) → eqb x y ≡ t → (t && same (take (f x) u) (take (f y) v)) ≡ (t && same (take (f y) u) (take (f y) v))
    go true e = rw (eqb-true x y e)
    go false e = refl

part_first : (c : List ℕ) → get_or (part_of 0 c) 0 0 ≡ get_or c 0 0
unfolding part_of size_of start_of
part_first c = get_or-take (1 + min (get_or c 0 0) 64) c 0 0 (omega arith)

module _ (i : ℕ) (c d : List ℕ) (lc : length c ≡ 194) (ld : length d ≡ 194) (a : agree i c d ≡ true) where
  part_compared : same (part_of i c) (part_of i d) ≡ same (take (size_of i d) (drop (start_of i) c)) (take (size_of i d) (drop (start_of i) d))
  unfolding part_of size_of start_of
  part_compared = go (ltb i 1) (ltb i 2) refl refl
    where
      heads : ltb i 1 ≡ false → ltb i 2 ≡ true → get_or c 0 0 ≡ get_or d 0 0
      heads x y =
          let z : i ≡ 1 = omega (arith, ltb-false i 1 x, ltb-true i 2 y) in
          sym (part_first c) ∙ ap (λ (u : List ℕ). get_or u 0 0) (agree_part 0 c d (rw z at a)) ∙ part_first d

      go : (t u : Bool) → ltb i 1 ≡ t → ltb i 2 ≡ u
          → same
          (take (cond t (1 + min (get_or c 0 0) 64) (cond u (min (get_or c 0 0 - 64) 64) (1 + min (get_or c 129 0) 64))) (drop (cond t 0 (cond u 65 129)) c))
          (take (cond t (1 + min (get_or d 0 0) 64) (cond u (min (get_or d 0 0 - 64) 64) (1 + min (get_or d 129 0) 64))) (drop (cond t 0 (cond u 65 129)) d))
          ≡ same
          (take (cond t (1 + min (get_or d 0 0) 64) (cond u (min (get_or d 0 0 - 64) 64) (1 + min (get_or d 129 0) 64))) (drop (cond t 0 (cond u 65 129)) c))
          (take (cond t (1 + min (get_or d 0 0) 64) (cond u (min (get_or d 0 0 - 64) 64) (1 + min (get_or d 129 0) 64))) (drop (cond t 0 (cond u 65 129)) d))
      go true u x y = counted (λ n. min n 64) c d (omega arith) (omega arith)
      go false true x y = rw (heads x y)
      go false false x y =
          rw (← get_or-drop 129 c 0 0, ← get_or-drop 129 d 0 0)
          (counted (λ n. min n 64) (drop 129 c) (drop 129 d) (rw (length-drop 129 c) (omega arith)) (rw (length-drop 129 d) (omega arith)))

-- ---- one part more

-- no place before j agrees with place k in one part more
unfoldable pub Reached : ℕ → List ℕ → ℕ → ℕ → Type 0
Reached i t k j =
    first_like (suc i) (places 32 t) (take 194 (drop (k * 194) t))
    ≡ j + first_where (λ d. agree (suc i) d (take 194 (drop (k * 194) t))) (places (32 - j) (drop (j * 194) t))

module _ (i : ℕ) (t : List ℕ) (l : length t ≡ 6208) (k : ℕ) (hk : k < 32) where
  abbrev own : List ℕ
  own = take 194 (drop (k * 194) t)

  agrees_less : (c : List ℕ) → agree i c own ≡ false → agree (suc i) c own ≡ false
  unfolding agree
  agrees_less c e = rw e

  module _ {firsts : List ℕ} (ef : firsts ≡ firsts_of i (places 32 t)) {first : ℕ} (e : first ≡ get_or firsts k 0) where
    first_is : first ≡ first_like i (places 32 t) own
    first_is = e ∙ rw ef (firsts_at i t k hk)

    pub reached_within : first ≤ k
    reached_within = omega (arith, first_is, first_own i t k hk)

    pub reached_start : Reached i t k first
    unfolding Reached first_like
    reached_start =
        from_jump (λ d. agree (suc i) d own) t (first_like (suc i) (places 32 t) own) 0 (from_start (λ d. agree (suc i) d own) t refl) (λ d. agree i d own) agrees_less
        (first_is ∙ from_start (λ d. agree i d own) t refl)

    module _ {n : ℕ} (en : n ≡ size_of i own) where
      none_differs : n < 1 → agree (suc i) (take 194 (drop (first * 194) t)) own ≡ true
      unfolding agree same
      none_differs h =
          let z : size_of i own ≡ 0 = omega arith in
          let g : agree i (take 194 (drop (first * 194) t)) own ≡ true = rw first_is (first_agrees i t k hk) in
          let p = part_compared i (take 194 (drop (first * 194) t)) own (place_long t l first (omega (arith, reached_within))) (place_long t l k hk) g in
          rw (g, p, z)

      -- nothing is left of the Call-ID
      pub reached_none : n < 1 → first ≡ first_like (suc i) (places 32 t) own
      unfolding Reached
      reached_none h =
          from_here (λ d. agree (suc i) d own) t (first_like (suc i) (places 32 t) own) first reached_start (omega (arith, reached_within)) (none_differs h)

      module _ (ln : n ≤ 65) {y : List ℕ} (ey : y ≡ take 65 (drop (start_of i) own)) (j : ℕ) (hj : j < k) {x : List ℕ}
          (ex : x ≡ take 65 (drop (start_of i) (take 194 (drop (j * 194) t)))) {b : Bool} (eb : b ≡ same (take n x) (take n y)) (r : Reached i t k j) where
        abbrev that : List ℕ
        that = take 194 (drop (j * 194) t)

        joined : agree i that own ≡ true → b ≡ same (part_of i that) (part_of i own)
        joined a =
            eb
            ∙ rw (ex, ey, take-take n 65 (drop (start_of i) that) ln, take-take n 65 (drop (start_of i) own) ln, en)
            (sym (part_compared i that own (place_long t l j (omega arith)) (place_long t l k hk) a))

        -- the two have the same first in the parts before
        agrees : {other : ℕ} → other ≡ get_or firsts j 0 → eqb other first ≡ agree i that own
        agrees {other} ej =
            let x : other ≡ first_like i (places 32 t) that = ej ∙ rw ef (firsts_at i t j (omega arith)) in
            rw (x, first_is) (agree_first i t j k (omega arith) hk)

        pub reached_here : get_or firsts j 0 ≡ first → b ≡ true → j ≡ first_like (suc i) (places 32 t) own
        unfolding Reached agree
        reached_here o y =
            let a : agree i that own ≡ true = sym (agrees refl) ∙ eq-eqb (get_or firsts j 0) first o in
            from_here (λ d. agree (suc i) d own) t (first_like (suc i) (places 32 t) own) j r (omega arith) (rw (a, ← joined a, y))

        not_joined : agree (suc i) that own ≡ false → {m : ℕ} → m ≡ j + 1 → Reached i t k m
        unfolding Reached
        not_joined y q = from_next (λ d. agree (suc i) d own) t (first_like (suc i) (places 32 t) own) j r (omega arith) y q

        pub reached_later : b ≡ false → {m : ℕ} → m ≡ j + 1 → Reached i t k m
        unfolding agree
        reached_later y q = not_joined (go (agree i that own) refl) q
          where
            go : (c : Bool) → agree i that own ≡ c → (c && same (part_of i that) (part_of i own)) ≡ false
            go true a = sym (joined a) ∙ y
            go false a = refl

      module _ (j : ℕ) (hj : j < k) (r : Reached i t k j) where
        -- the two have another first in the parts before
        pub reached_other : (get_or firsts j 0 ≡ first → ⊥) → {m : ℕ} → m ≡ j + 1 → Reached i t k m
        unfolding Reached agree
        reached_other o {m} q =
            let x : get_or firsts j 0 ≡ first_like i (places 32 t) (take 194 (drop (j * 194) t)) = rw ef (firsts_at i t j (omega arith)) in
            let a : agree i (take 194 (drop (j * 194) t)) own ≡ false =
            sym (agree_first i t j k (omega arith) hk) ∙ rw (← x, ← first_is) (ne_eqb (get_or firsts j 0) first o) in
            from_next (λ d. agree (suc i) d own) t (first_like (suc i) (places 32 t) own) j r (omega arith) (rw a) q

  pub reached_end : (j : ℕ) → Reached i t k j → j ≤ k → k ≤ j → k ≡ first_like (suc i) (places 32 t) own
  unfolding Reached
  reached_end j r h g =
      let z : j ≡ k = omega arith in
      sym z ∙ from_here (λ d. agree (suc i) d own) t (first_like (suc i) (places 32 t) own) j r (omega arith) (rw z (agree_self (suc i) own))

-- ---- for each place

-- at first all places agree
pub all_first : (t : List ℕ) {d : List ℕ} → d ≡ replicate 32 0 → d ≡ firsts_of 0 (places 32 t)
unfolding firsts_of first_like places first_where agree
all_first t e = e

module _ (i : ℕ) (t : List ℕ) where
  pub firsts_none : (d : List ℕ) {k : ℕ} → k ≡ 0 → take k d ≡ take k (firsts_of i (places 32 t))
  firsts_none d e = rw e

  module _ (d : List ℕ) (l : length d ≡ 32) (k : ℕ) (e : take k d ≡ take k (firsts_of i (places 32 t))) where
    pub firsts_next : k < 32 → {v : ℕ} → v ≡ first_like i (places 32 t) (take 194 (drop (k * 194) t)) → {m : ℕ} → m ≡ k + 1
        → take m (set d k v) ≡ take m (firsts_of i (places 32 t))
    firsts_next h {v} f {m} q =
        let z : m ≡ suc k = omega arith in
        let x : v ≡ get_or (firsts_of i (places 32 t)) k 0 = f ∙ sym (firsts_at i t k h) in
        rw (z, take-suc-set d k v (omega arith), e, x)
        (sym (take-suc (firsts_of i (places 32 t)) k 0 (rw (firsts_length i t) h)))

    pub firsts_end : k ≤ 32 → 32 ≤ k → d ≡ firsts_of i (places 32 t)
    firsts_end h g =
        sym (take_all k d (omega arith)) ∙ e ∙ take_all k (firsts_of i (places 32 t)) (omega (arith, firsts_length i t))
