-- The method of a response: a CSeq names it exactly where the grammar derives the value with it, and those that have a column are tokens.
use mathlib.Core.Path.{◌≡◌, refl, sym, ap, ◌∙◌}
use mathlib.Core.Bool.{Bool, true, false, not, cond, ◌&&◌}
use mathlib.Core.List.{List, [], ◌∷◌, append-nil}
use mathlib.Core.Option.{none, some}
use Prim.Native.Nat.{ℕ, ◌+◌, ◌≤◌}
use native.Mathlib.Omega.{arith}
use lib.Dec.{eqb}
use lib.ListN.{length, drop}
use Rattle.octets.specs.Classes.{text, is_token, is_blank}
use Rattle.octets.specs.Scans.{run, all, number, same}
use Rattle.sip.specs.declared.Column.{Column}
use Rattle.sip.specs.declared.Column.TheVariants.{InviteSuccess, CancelResponse, OtherResponse}
use Rattle.sip.specs.Profile.{response_column}
use Rattle.sip.specs.Values.{cseq_method}
use Rattle.sip.specs.Grammar.{Token, CSeq}
use Rattle.sip.proofs.Tests.{never}
use Rattle.sip.proofs.Texts.{same_eq, same_refl}
use Rattle.sip.proofs.Methods.{cseq_names}
use Rattle.sip.proofs.Grammar.Bytes.{all_of, each_all}
use Rattle.sip.proofs.Grammar.Separators.{token_no_blank}
use Rattle.sip.proofs.Grammar.Numbers.{cseq_complete, cseq_sound}

pub named_sound : {method : List ℕ} → Token method → (v : List ℕ) → cseq_method v ≡ method → CSeq method v
named_sound {method} t v e = cseq_sound method v (rw (← cseq_names method v t.some (all_of t.bytes), e) (same_refl method))

pub named_complete : {method v : List ℕ} → Token method → CSeq method v → cseq_method v ≡ method
named_complete {method} {v} t d =
    sym (same_eq method (cseq_method v)
    (rw (cseq_names method v t.some (all_of t.bytes)) (cseq_complete (rw append-nil at (token_no_blank method [] t)) d)))

-- what is named is made of token bytes
named_bytes : (v : List ℕ) → all is_token (cseq_method v) ≡ true
unfolding cseq_method all
named_bytes v = go (not (eqb n 0)) (not (eqb b 0)) (all is_token t) refl
  where
    n : ℕ
    n = (number 10 2147483647 v).size

    b : ℕ
    b = run is_blank (drop n v)

    t : List ℕ
    t = drop (n + b) v

    go : (p q a : Bool) → all is_token t ≡ a → all is_token (cond (p && (q && a)) t []) ≡ true
    go false q a e = refl
    go true false a e = refl
    go true true true e = e
    go true true false e = refl

pub none_named : (v : List ℕ) → ((method : List ℕ) → Token method → CSeq method v → ⊥) → cseq_method v ≡ []
none_named v h = go (cseq_method v) refl
  where
    go : (s : List ℕ) → cseq_method v ≡ s → s ≡ []
    go [] e = refl
    go (c ∷ s) e =
        let t : Token (c ∷ s) = record { some = omega arith; bytes = each_all (rw e at (named_bytes v)) } in
        absurd (h (c ∷ s) t (named_sound t v e))

pub named_none : (v : List ℕ) → cseq_method v ≡ [] → (method : List ℕ) → Token method → CSeq method v → ⊥
named_none v e method t d =
    let z : [] ≡ method = sym e ∙ named_complete t d in
    absurd (omega (arith, t.some, ap length z))

-- a text is a token by computing
token : (t : List ℕ) → all is_token t ≡ true → 1 ≤ length t → Token t
token t e l = record { some = l; bytes = each_all e }

pub column_token : (success : Bool) (m : List ℕ) (c : Column) → response_column success m ≡ some c → Token m
unfolding response_column text is_token all
column_token success m c e =
    go (same (text "INVITE") m) (same (text "BYE") m) (same (text "CANCEL") m) (same (text "OPTIONS") m) refl refl refl refl e
  where
    is : (t : List ℕ) → Token t → same t m ≡ true → Token m
    is t d h = rw (same_eq t m h) at d

    go : (i b x o : Bool) → same (text "INVITE") m ≡ i → same (text "BYE") m ≡ b → same (text "CANCEL") m ≡ x → same (text "OPTIONS") m ≡ o
        → cond i (some (cond success InviteSuccess OtherResponse))
        (cond b (some OtherResponse) (cond x (some CancelResponse) (cond o (some OtherResponse) none))) ≡ some c
        → Token m
    go true b x o p q r s e = is (text "INVITE") (token (text "INVITE") refl (omega arith)) p
    go false true x o p q r s e = is (text "BYE") (token (text "BYE") refl (omega arith)) q
    go false false true o p q r s e = is (text "CANCEL") (token (text "CANCEL") refl (omega arith)) r
    go false false false true p q r s e = is (text "OPTIONS") (token (text "OPTIONS") refl (omega arith)) s
    go false false false false p q r s e = never (cc)
