-- The value of every field is well formed exactly if the grammar derives it, by the field's number.
use mathlib.Core.Path.{◌≡◌, refl, ◌∙◌, sym}
use mathlib.Core.Bool.{Bool, true, false, cond, ◌||◌, or-false}
use mathlib.Core.List.{List, [], append-nil}
use Prim.Native.Nat.{ℕ}
use lib.Dec.{eqb}
use borrow.Author.Tests.{eqb-true}
use Rattle.octets.specs.Classes.{among}
use Rattle.sip.specs.Refusals.{well_formed}
use Rattle.sip.specs.Grammar.{Token, not_empty, read_fields, Formed, some_value, from_value, to_value, call_id_value, cseq_value}
use Rattle.sip.specs.Grammar.{require_value, identity_value, privacy_value, any_value, max_forwards_value, content_length_value}
use Rattle.sip.proofs.Tests.{never}
use Rattle.sip.proofs.Grammar.Separators.{not_empty_some, some_not_empty, token_no_blank}
use Rattle.sip.proofs.Grammar.Tokens.{privacy_complete, privacy_sound, require_complete, require_sound}
use Rattle.sip.proofs.Grammar.Parties.{from_complete, from_sound, to_complete, to_sound}
use Rattle.sip.proofs.Grammar.Identities.{asserted_complete, asserted_sound}
use Rattle.sip.proofs.Grammar.Numbers.{call_id_complete, call_id_sound, content_length_complete, content_length_sound}
use Rattle.sip.proofs.Grammar.Numbers.{cseq_complete, cseq_sound, max_forwards_complete, max_forwards_sound}

choose : {P : Type 0} (t a b : Bool) → cond t a b ≡ true → (t ≡ true → a ≡ true → P) → (t ≡ false → b ≡ true → P) → P
choose true a b e f g = f refl e
choose false a b e f g = g refl e

or_no : (a b : Bool) → (a || b) ≡ false → (a ≡ false) × (b ≡ false)
or_no true b e = never (cc)
or_no false b e = (refl, e)

abbrev is_not_empty : ℕ → Bool
is_not_empty k = eqb k 1 || (eqb k 7 || (eqb k 9 || (eqb k 10 || (eqb k 11 || eqb k 18))))

not_empty_among : (k : ℕ) → is_not_empty k ≡ among not_empty k
not_empty_among k = rw (or-false (eqb k 18))

at_number : {method v : List ℕ} (k n : ℕ) → eqb k n ≡ true → Formed method n v → Formed method k v
at_number k n e f = rw (eqb-true k n e) f

pub formed_sound : (method : List ℕ) (k : ℕ) (v : List ℕ) → well_formed method k v ≡ true → Formed method k v
unfolding well_formed
formed_sound method k v e =
    choose (is_not_empty k) _ _ e (λ a b. some_value (sym (not_empty_among k) ∙ a) (not_empty_some v b)) (λ n₀ e.
    choose (eqb k 2) _ _ e (λ a b. at_number k 2 a (max_forwards_value (max_forwards_sound v b))) (λ n₁ e.
    choose (eqb k 3) _ _ e (λ a b. at_number k 3 a (from_value (from_sound v b).1)) (λ n₂ e.
    choose (eqb k 4) _ _ e (λ a b. at_number k 4 a (to_value (to_sound v b).derived)) (λ n₃ e.
    choose (eqb k 5) _ _ e (λ a b. at_number k 5 a (call_id_value (call_id_sound v b))) (λ n₄ e.
    choose (eqb k 6) _ _ e (λ a b. at_number k 6 a (cseq_value (cseq_sound method v b))) (λ n₅ e.
    choose (eqb k 8) _ _ e (λ a b. at_number k 8 a (content_length_value (content_length_sound v b))) (λ n₆ e.
    choose (eqb k 14) _ _ e (λ a b. at_number k 14 a (require_value (require_sound v b))) (λ n₇ e.
    choose (eqb k 15) _ _ e (λ a b. let (us, d, h) = asserted_sound v b in at_number k 15 a (identity_value d h)) (λ n₈ e.
    choose (eqb k 16) _ _ e (λ a b. at_number k 16 a (privacy_value (privacy_sound v b))) (λ n₉ e. any_value (rest n₀ n₁ n₂ n₃ n₄ n₅ n₆ n₇ n₈ n₉) v))))))))))
  where
    rest : is_not_empty k ≡ false → eqb k 2 ≡ false → eqb k 3 ≡ false → eqb k 4 ≡ false → eqb k 5 ≡ false → eqb k 6 ≡ false → eqb k 8 ≡ false → eqb k 14 ≡ false
        → eqb k 15 ≡ false → eqb k 16 ≡ false → among read_fields k ≡ false
    rest n₀ n₁ n₂ n₃ n₄ n₅ n₆ n₇ n₈ n₉ =
        let (a, a') = or_no (eqb k 1) _ n₀ in
        let (b, b') = or_no (eqb k 7) _ a' in
        let (c, c') = or_no (eqb k 9) _ b' in
        let (d, d') = or_no (eqb k 10) _ c' in
        let (f, f') = or_no (eqb k 11) (eqb k 18) d' in
        rw (a, b, c, d, f, f', n₁, n₂, n₃, n₄, n₅, n₆, n₇, n₈, n₉)

pub formed_complete : {method : List ℕ} → Token method → {k : ℕ} {v : List ℕ} → Formed method k v → well_formed method k v ≡ true
unfolding well_formed
formed_complete m {k} {v} (some_value e l) = rw (not_empty_among k ∙ e, some_not_empty v l)
formed_complete m (max_forwards_value h) = max_forwards_complete h
formed_complete m (from_value h) = (from_complete h).0
formed_complete m (to_value h) = to_complete h
formed_complete m (call_id_value h) = call_id_complete h
formed_complete {method} m (cseq_value h) = cseq_complete (rw append-nil at (token_no_blank method [] m)) h
formed_complete m (content_length_value h) = content_length_complete h
formed_complete m (require_value h) = (require_complete h).0
formed_complete m (identity_value d h) = asserted_complete d h
formed_complete m (privacy_value h) = (privacy_complete h).0
formed_complete m {k} (any_value e v) =
    let (x₁, y₁) = or_no (eqb k 1) _ e in
    let (x₂, y₂) = or_no (eqb k 7) _ y₁ in
    let (x₃, y₃) = or_no (eqb k 9) _ y₂ in
    let (x₄, y₄) = or_no (eqb k 10) _ y₃ in
    let (x₅, y₅) = or_no (eqb k 11) _ y₄ in
    let (x₆, y₆) = or_no (eqb k 18) _ y₅ in
    let (z₁, w₁) = or_no (eqb k 2) _ y₆ in
    let (z₂, w₂) = or_no (eqb k 3) _ w₁ in
    let (z₃, w₃) = or_no (eqb k 4) _ w₂ in
    let (z₄, w₄) = or_no (eqb k 5) _ w₃ in
    let (z₅, w₅) = or_no (eqb k 6) _ w₄ in
    let (z₆, w₆) = or_no (eqb k 8) _ w₅ in
    let (z₇, w₇) = or_no (eqb k 14) _ w₆ in
    let (z₈, w₈) = or_no (eqb k 15) _ w₇ in
    let (z₉, w₉) = or_no (eqb k 16) false w₈ in
    rw (x₁, x₂, x₃, x₄, x₅, x₆, z₁, z₂, z₃, z₄, z₅, z₆, z₇, z₈, z₉)
