-- Parameters: `params` reads exactly what the grammar derives; the tags of the derivation and the one that is there already are at most one.
use mathlib.Core.Path.{◌≡◌, refl, ◌∙◌, sym, ap}
use mathlib.Core.Bool.{Bool, true, false, not, ◌&&◌, ◌||◌}
use mathlib.Core.List.{List, [], ◌∷◌, ◌++◌, append_assoc}
use Prim.Native.Nat.{ℕ, suc, ◌+◌, ◌≤◌, zero, ◌-◌}
use native.Mathlib.Omega.{arith}
use lib.Dec.{eqb}
use lib.ListN.{length, take, drop, length-append}
use lib.Seq.{take-append_seam, drop-append_seam, drop-append-add}
use Rattle.octets.specs.Classes.{is_blank, is_token, bit}
use Rattle.octets.specs.Scans.{all, starts}
use Rattle.sip.specs.declared.ParamAt.{ParamAt}
use Rattle.sip.specs.declared.ParamsAt.{ParamsAt}
use Rattle.sip.specs.Values.{param, with_param, stops, params}
use Rattle.sip.specs.Grammar.{each_end, Separator, blanks_around, Param, name_alone, name_value, tag_value, Params, no_params}
use Rattle.sip.specs.Grammar.{param_and}
use Rattle.sip.proofs.Tests.{never}
use Rattle.sip.proofs.Grammar.Bytes.{end, some_no, stop}
use Rattle.sip.proofs.Grammar.Separators.{blank_token, sign_none, sign_some, sign_stops}
use Rattle.sip.proofs.Grammar.Param.{After, ParamFound, ParamView, found_other, found_tag, without_param, param_of, param_view}
use Rattle.sip.proofs.Grammar.Param.{some_param}

-- ---- parameters that are read, after those of `got`

-- bytes that are read already are passed
pub params_passed : (got : ParamsAt) (k : ℕ) (s : List ℕ) → params got k s ≡ params got 0 (drop k s)
unfolding params
params_passed got zero s = refl
params_passed got (suc k) [] = refl
params_passed got (suc k) (b ∷ s) = params_passed got k s

drop_one : (n b : ℕ) (s : List ℕ) → 1 ≤ n → drop (n - 1) s ≡ drop n (b ∷ s)
drop_one zero b s h = absurd (omega arith)
drop_one (suc n) b s h = let k : suc n - 1 ≡ n = omega arith in rw k

params_stop : (got : ParamsAt) (s : List ℕ) → stops got (param s) ≡ true → params got 0 s ≡ got
unfolding params
params_stop got [] e = refl
params_stop got (b ∷ s) e = rw e

params_go : (got : ParamsAt) (s : List ℕ) → 1 ≤ length s → 1 ≤ (param s).size → stops got (param s) ≡ false
    → params got 0 s ≡ params (with_param got (param s)) 0 (drop (param s).size s)
unfolding params
params_go got [] h l e = absurd (omega arith)
params_go got (b ∷ s) h l e =
    let q = param (b ∷ s) in
    rw e (params_passed (with_param got q) (q.size - 1) s ∙ ap (params (with_param got q) 0) (drop_one q.size b s l))

-- a tag is there already
abbrev has : ParamsAt → ℕ
has got = bit (not (eqb got.len 0))

has_le : (got : ParamsAt) → has got ≤ 1
has_le got = go (eqb got.len 0)
  where
    go : (t : Bool) → bit (not t) ≤ 1
    go true = omega arith
    go false = omega arith

has_none : (got : ParamsAt) → has got ≡ 0 → eqb got.len 0 ≡ true
has_none got e = go (eqb got.len 0) e
  where
    go : (t : Bool) → bit (not t) ≡ 0 → t ≡ true
    go true e = refl
    go false e = absurd (omega arith)

-- what is found in s: no tag, or one
pub data TagsFound (got r : ParamsAt) (s : List ℕ) : List (List ℕ) → Type 0 where
  found_none : r.tag ≡ got.tag → r.len ≡ got.len → TagsFound got r s []
  found_one : {t : List ℕ} (k : ℕ) → r.tag ≡ got.size + k → r.len ≡ length t → 1 ≤ length t → take (length t) (drop k s) ≡ t → TagsFound got r s (t ∷ [])

pub record ParamsFound (got r : ParamsAt) (s : List ℕ) (ts : List (List ℕ)) : Type 0 where
  pub whole : r.size ≡ got.size + length s
  pub tags : TagsFound got r s ts

after_sign : {c : List ℕ} → Separator 59 c → (r : List ℕ) → After (c ++ r)
unfolding is_token is_blank starts
after_sign (blanks_around {x} {y} e f) r =
    record {
      no_token = sign_stops is_token blank_token refl (blanks_around e f) r;
      no_equals = rw (append_assoc x (59 ∷ y) r) (sign_none 61 e (stop refl) refl);
    }

param_some : {x : List ℕ} {ts : List (List ℕ)} → Param x ts → 1 ≤ length x
param_some (name_alone {c} {n} sc o) = omega (arith, length-append c n, sign_some sc)
param_some (name_value {c} {n} {e} {v} sc o se d) = omega (arith, length-append c (n ++ (e ++ v)), sign_some sc)
param_some (tag_value {c} {n} {e} {v} sc o se d l) = omega (arith, length-append c (n ++ (e ++ v)), sign_some sc)

param_after : {x : List ℕ} {ts : List (List ℕ)} → Param x ts → (r : List ℕ) → After (x ++ r)
param_after (name_alone {c} {n} sc o) r = rw (append_assoc c n r) (after_sign sc (n ++ r))
param_after (name_value {c} {n} {e} {v} sc o se d) r = rw (append_assoc c (n ++ (e ++ v)) r) (after_sign sc ((n ++ (e ++ v)) ++ r))
param_after (tag_value {c} {n} {e} {v} sc o se d l) r = rw (append_assoc c (n ++ (e ++ v)) r) (after_sign sc ((n ++ (e ++ v)) ++ r))

pub params_after : {s : List ℕ} {ts : List (List ℕ)} → Params s ts → After s
unfolding all starts
params_after no_params = record { no_token = end; no_equals = sign_none 61 {x = []} each_end end refl }
params_after (param_and {s = s} d ds) = param_after d s

params_step : (got : ParamsAt) (x s : List ℕ) (q : ParamAt) → param (x ++ s) ≡ q → q.size ≡ length x → 1 ≤ length x → stops got q ≡ false
    → params got 0 (x ++ s) ≡ params (with_param got q) 0 s
params_step got x s q e z l h =
    let n : (param (x ++ s)).size ≡ length x = ap (λ (p : ParamAt). p.size) e ∙ z in
    params_go got (x ++ s) (omega (arith, length-append x s)) (omega arith) (rw e h)
    ∙ ap (λ (p : ParamAt). params (with_param got p) 0 (drop p.size (x ++ s))) e ∙ ap (λ (k : ℕ). params (with_param got q) 0 (drop k (x ++ s))) z ∙ ap (params (with_param got q) 0) (drop-append_seam x s)

move_other : (got r : ParamsAt) (x s : List ℕ) (ts : List (List ℕ)) (n : ℕ) → n ≡ length x
    → ParamsFound (record { size = got.size + n; tag = got.tag; len = got.len }) r s ts → ParamsFound got r (x ++ s) ts
move_other got r x s ts n z f = record { whole = omega (arith, f.whole, length-append x s); tags = go ts f.tags }
  where
    go : (ts : List (List ℕ)) → TagsFound (record { size = got.size + n; tag = got.tag; len = got.len }) r s ts → TagsFound got r (x ++ s) ts
    go _ (found_none a b) = found_none a b
    go _ (found_one {t} k a b c d) = found_one {t = t} (length x + k) (omega arith) b c (rw (drop-append-add x s k) d)

move_tag : (got r : ParamsAt) (y t s : List ℕ) (n v m : ℕ) → n ≡ length (y ++ t) → v ≡ length y → m ≡ length t → 1 ≤ length t
    → ParamsFound (record { size = got.size + n; tag = got.size + v; len = m }) r s [] → ParamsFound got r ((y ++ t) ++ s) (t ∷ [])
move_tag got r y t s n v m z a b l f = record { whole = omega (arith, f.whole, length-append (y ++ t) s); tags = go f.tags }
  where
    go : TagsFound (record { size = got.size + n; tag = got.size + v; len = m }) r s [] → TagsFound got r ((y ++ t) ++ s) (t ∷ [])
    go (found_none p q) =
        found_one {t = t} (length y) (omega arith) (omega arith) l (rw (append_assoc y t s, drop-append_seam y (t ++ s), take-append_seam t s))

step_complete : (x s : List ℕ) (t ts : List (List ℕ)) (got : ParamsAt) (q : ParamAt) → param (x ++ s) ≡ q → ParamFound x t q → 1 ≤ length x
    → length (t ++ ts) + has got ≤ 1
    → ((got : ParamsAt) → length ts + has got ≤ 1 → ParamsFound got (params got 0 s) s ts)
    → ParamsFound got (params got 0 (x ++ s)) (x ++ s) (t ++ ts)
unfolding stops with_param
step_complete x s [] ts got q e (found_other z o) l h ih =
    let st : stops got q ≡ false = rw (z, some_no (length x) l, o) in
    let g : ParamsAt = record { size = got.size + q.size; tag = got.tag; len = got.len } in
    let w : with_param got q ≡ g = rw o in
    rw (params_step got x s q e z l st, w) (move_other got (params g 0 s) x s ts q.size z (ih g h))
step_complete x s (t ∷ []) [] got q e (found_tag y z o w n m) l h ih =
    let no : eqb got.len 0 ≡ true = has_none got (omega arith) in
    let st : stops got q ≡ false = rw (z, some_no (length (y ++ t)) l, o, no) in
    let g : ParamsAt = record { size = got.size + q.size; tag = got.size + q.value; len = q.len } in
    let u : with_param got q ≡ g = rw o in
    rw (params_step got (y ++ t) s q e z l st, u) (move_tag got (params g 0 s) y t s q.size q.value q.len z w n m (ih g (omega (arith, has_le g))))
step_complete x s (t ∷ []) (u ∷ ts) got q e (found_tag y z o w n m) l h ih = absurd (omega arith)
step_complete x s (t ∷ (_ ∷ _)) ts got q e x10 l h ih = elim x10 [ ]

pub params_complete : {s : List ℕ} {ts : List (List ℕ)} → Params s ts → (got : ParamsAt) → length ts + has got ≤ 1 → ParamsFound got (params got 0 s) s ts
unfolding params
params_complete no_params got h = record { whole = omega arith; tags = found_none refl refl }
params_complete (param_and {p = x} {s} {t} {ts} d ds) got h =
    step_complete x s t ts got (param (x ++ s)) refl (param_of d s (params_after ds)) (param_some d) h (λ g l. params_complete ds g l)

-- ---- parameters that are read are some

pub record ParamsThere (got : ParamsAt) (s : List ℕ) : Type 0 where
  pub tags : List (List ℕ)
  pub derived : Params s tags
  pub once : length tags + has got ≤ 1

abbrev Sound : ℕ → Type 0
Sound m = (got : ParamsAt) (s : List ℕ) → length s ≤ m → (params got 0 s).size ≡ got.size + length s → ParamsThere got s

no_bytes_there : (got : ParamsAt) (s : List ℕ) → length s ≡ 0 → ParamsThere got s
no_bytes_there got [] e = record { tags = []; derived = no_params; once = omega (arith, has_le got) }
no_bytes_there got (b ∷ s) e = absurd (omega arith)

stop_not : (got : ParamsAt) (q : ParamAt) → q.size ≡ 0 → stops got q ≡ true
unfolding stops
stop_not got q e = rw e

tag_first : (got : ParamsAt) (q : ParamAt) → q.tag ≡ true → stops got q ≡ false → has got ≡ 0
unfolding stops
tag_first got q o h = go (eqb q.size 0) (eqb got.len 0) (rw o at h)
  where
    go : (a b : Bool) → (a || (true && not b)) ≡ false → bit (not b) ≡ 0
    go true b e = never (cc)
    go false true e = refl
    go false false e = never (cc)

sound_step : (m : ℕ) → Sound m → (got : ParamsAt) (s : List ℕ) (q : ParamAt) → param s ≡ q → ParamView s q → stops got q ≡ false
    → length s ≤ suc m → (params got 0 s).size ≡ got.size + length s → ParamsThere got s
unfolding with_param
sound_step m ih got s q e (without_param z) h l w = let t : true ≡ false = sym (stop_not got q z) ∙ h in never (cc)
sound_step m ih got _ q e (some_param {x} {ts} d f r) h l w = go x ts d f e (rw length-append at l) (rw length-append at w)
  where
    go : (x : List ℕ) (ts : List (List ℕ)) → Param x ts → ParamFound x ts q → param (x ++ r) ≡ q → length x + length r ≤ suc m
        → (params got 0 (x ++ r)).size ≡ got.size + (length x + length r) → ParamsThere got (x ++ r)
    go x _ d (found_other z o) e l w =
        let g : ParamsAt = record { size = got.size + q.size; tag = got.tag; len = got.len } in
        let u : with_param got q ≡ g = rw o in
        let n : params got 0 (x ++ r) ≡ params g 0 r = params_step got x r q e z (param_some d) h ∙ rw u in
        let w' : (params g 0 r).size ≡ got.size + (length x + length r) = rw n at w in
        let i = ih g r (omega (arith, param_some d)) (omega arith) in
        record { tags = i.tags; derived = param_and {ts = i.tags} d i.derived; once = i.once }
    go _ _ d (found_tag {t} y z o v n k) e l w =
        let g : ParamsAt = record { size = got.size + q.size; tag = got.size + q.value; len = q.len } in
        let u : with_param got q ≡ g = rw o in
        let j : params got 0 ((y ++ t) ++ r) ≡ params g 0 r = params_step got (y ++ t) r q e z (param_some d) h ∙ rw u in
        let w' : (params g 0 r).size ≡ got.size + (length (y ++ t) + length r) = rw j at w in
        let i = ih g r (omega (arith, param_some d)) (omega arith) in
        let one : has g ≡ 1 = rw (some_no q.len (omega arith)) in
        record { tags = t ∷ i.tags; derived = param_and {ts = i.tags} d i.derived; once = omega (arith, i.once, tag_first got q o h) }

sound : (m : ℕ) → Sound m
sound zero got s l e = no_bytes_there got s (omega arith)
sound (suc m) got s l e = go (sound m) (stops got (param s)) refl
  where
    go : Sound m → (t : Bool) → stops got (param s) ≡ t → ParamsThere got s
    go ih true h = no_bytes_there got s (omega (arith, ap (λ (r : ParamsAt). r.size) (params_stop got s h)))
    go ih false h = sound_step m ih got s (param s) refl (param_view s) h l e

pub params_sound : (got : ParamsAt) (s : List ℕ) → (params got 0 s).size ≡ got.size + length s → ParamsThere got s
params_sound got s e = sound (length s) got s (omega arith) e
