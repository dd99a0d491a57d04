-- URIs: `uri` reads at the front of a text exactly what the grammar derives there; the front of a URI apart from its tail.
use mathlib.Core.Path.{◌≡◌, refl, ◌∙◌, sym, ap}
use mathlib.Core.Bool.{Bool, true, false, cond}
use mathlib.Core.List.{List, [], ◌∷◌, ◌++◌, append_assoc, append-nil}
use Prim.Native.Nat.{ℕ, ◌+◌, ◌-◌, ◌≤◌, ◌<◌}
use native.Mathlib.Omega.{arith}
use lib.ListN.{length, take, drop, length-append, take-append-drop}
use lib.Seq.{take-append_seam, take_at, drop_at}
use Rattle.octets.specs.Classes.{is_token, text}
use Rattle.octets.specs.Scans.{all, lower, same_text}
use Rattle.sip.specs.declared.UriAt.{UriAt}
use Rattle.sip.specs.Values.{no_uri, tail, sip, tel, uri, person_size}
use Rattle.sip.specs.Grammar.{AnyCase, case_end, as_it_is, as_capital, Token, Userinfo, no_user, user_at, Tail, no_tail, UriParts}
use Rattle.sip.specs.Grammar.{sip_parts, tel_parts, Uri, sip_uri, tel_uri, tail_text, is_tel_uri, person_of}
use Rattle.sip.proofs.Texts.{same_parts}
use Rattle.sip.proofs.Grammar.Bytes.{case_length, case_same, same_case, word_token}
use Rattle.sip.proofs.Grammar.Schemes.{Clear, Front, SipView, TelView, no_sip, no_tel, sip_front, sip_here, sip_of, sip_view}
use Rattle.sip.proofs.Grammar.Schemes.{tel_front, tel_here, tel_of, tel_view}

-- ---- a URI

abbrev pub user_of : UriParts → List ℕ
user_of (sip_parts u h d t) = u
user_of (tel_parts n t) = []

-- what is read of a URI with these parts: f bytes, and a tail of t bytes
abbrev pub found : UriParts → ℕ → ℕ → UriAt
found u f t = record { size = f + t; tel = is_tel_uri u; user = length (user_of u); tail = f }

pub data UriView : List ℕ → UriAt → Type 0 where
  uri_here : {f t : List ℕ} {u : UriParts} → Front f u → Tail t → (r : List ℕ) → UriView (f ++ (t ++ r)) (found u (length f) (length t))
  without_uri : {s : List ℕ} → UriView s no_uri

pub four_sip : {k : List ℕ} → AnyCase (text "sip:") k → length k ≡ 4
unfolding text
four_sip e = case_length e

pub four_tel : {k : List ℕ} → AnyCase (text "tel:") k → length k ≡ 4
unfolding text
four_tel e = case_length e

not_both : {k : List ℕ} → AnyCase (text "tel:") k → same_text (text "sip:") k ≡ false
unfolding text same_text
not_both {k = []} e = refl
not_both {k = b ∷ k} e = go (same_text (text "sip:") (b ∷ k)) refl
  where
    go : (t : Bool) → same_text (text "sip:") (b ∷ k) ≡ t → t ≡ false
    go true q =
        let x : 115 ≡ lower b = (same_parts 115 b (105 ∷ 112 ∷ 58 ∷ []) k q).0 in
        let y : 116 ≡ lower b = (same_parts 116 b (101 ∷ 108 ∷ 58 ∷ []) k (case_same e)).0 in
        absurd (omega arith)
    go false q = refl

pub front_complete : {f : List ℕ} {u : UriParts} → Front f u → (w : List ℕ) → Clear w → uri (f ++ w) ≡ found u (length f) (tail w)
unfolding uri
front_complete (sip_front {k} {a} {u} {h} {q} {d} e us hs ps) w c =
    let s : List ℕ = a ++ (h ++ (q ++ w)) in
    let split : (k ++ (a ++ (h ++ q))) ++ w ≡ k ++ s = simp append_assoc in
    let n : length k ≡ 4 = four_sip e in
    let l : 4 + length a + (length h + length q) ≡ length (k ++ (a ++ (h ++ q))) = simp length-append (omega arith) in
    rw (split, take_at k s 4 n, drop_at k s 4 n, case_same e, ← l) (sip_of us hs ps w c)
front_complete (tel_front {k} {n} e ds) w c =
    let z : length k ≡ 4 = four_tel e in
    let l : 4 + length n ≡ length (k ++ n) = simp length-append (omega arith) in
    rw (append_assoc k n w, take_at k (n ++ w) 4 z, drop_at k (n ++ w) 4 z, not_both e, case_same e, ← l) (tel_of ds w c.past.no_digit)

pub uri_view : (s : List ℕ) → UriView s (uri s)
unfolding uri text all
uri_view s = go (same_text (text "sip:") (take 4 s)) refl (same_text (text "tel:") (take 4 s)) refl
  where
    at_sip : (k s : List ℕ) (p : UriAt) → AnyCase (text "sip:") k → SipView s p → UriView (k ++ s) p
    at_sip k _ _ e (sip_here {a} {u} {h} {q} {d} {t} us hs ps ts r) =
        let split : (k ++ (a ++ (h ++ q))) ++ (t ++ r) ≡ k ++ (a ++ (h ++ (q ++ (t ++ r)))) = simp append_assoc in
        let n : length k ≡ 4 = four_sip e in
        let l : length (k ++ (a ++ (h ++ q))) ≡ 4 + length a + (length h + length q) = simp length-append (omega arith) in
        rw (split, l) at (uri_here (sip_front e us hs ps) ts r)
    at_sip k s _ e no_sip = without_uri

    at_tel : (k s : List ℕ) (p : UriAt) → AnyCase (text "tel:") k → TelView s p → UriView (k ++ s) p
    at_tel k _ _ e (tel_here {n} {t} ds ts r) =
        let z : length k ≡ 4 = four_tel e in
        let l : length (k ++ n) ≡ 4 + length n = simp length-append (omega arith) in
        rw (append_assoc k n (t ++ r), l) at (uri_here (tel_front e ds) ts r)
    at_tel k s _ e no_tel = without_uri

    go : (x : Bool) → same_text (text "sip:") (take 4 s) ≡ x → (y : Bool) → same_text (text "tel:") (take 4 s) ≡ y
        → UriView s (cond x (sip (drop 4 s)) (cond y (tel (drop 4 s)) no_uri))
    go true e y f = rw (take-append-drop 4 s) at (at_sip (take 4 s) (drop 4 s) (sip (drop 4 s)) (same_case (text "sip:") (take 4 s) refl e) (sip_view (drop 4 s)))
    go false e true f = rw (take-append-drop 4 s) at (at_tel (take 4 s) (drop 4 s) (tel (drop 4 s)) (same_case (text "tel:") (take 4 s) refl f) (tel_view (drop 4 s)))
    go false e false f = without_uri

-- ---- a URI with its tail

abbrev pub without : UriParts → UriParts
without (sip_parts u h d t) = sip_parts u h d []
without (tel_parts n t) = tel_parts n []

pub record Cut (s : List ℕ) (u : UriParts) : Type 0 where
  pub front : List ℕ
  pub made : s ≡ front ++ tail_text u
  pub is_front : Front front (without u)
  pub is_tail : Tail (tail_text u)

pub cut : {s : List ℕ} {u : UriParts} → Uri s u → Cut s u
cut (sip_uri {k} {a} {u} {h} {q} {d} {t} e us hs ps ts) =
    record { front = k ++ (a ++ (h ++ q)); made = simp append_assoc; is_front = sip_front e us hs ps; is_tail = ts }
cut (tel_uri {k} {n} {t} e ds ts) = record { front = k ++ n; made = sym (append_assoc k n t); is_front = tel_front e ds; is_tail = ts }

abbrev pub with_tail : UriParts → List ℕ → UriParts
with_tail (sip_parts u h d x) t = sip_parts u h d t
with_tail (tel_parts n x) t = tel_parts n t

pub join : {f t : List ℕ} {u : UriParts} → Front f u → Tail t → Uri (f ++ t) (with_tail u t)
join {t = t} (sip_front {k} {a} {u} {h} {q} {d} e us hs ps) ts =
    let split : (k ++ (a ++ (h ++ q))) ++ t ≡ k ++ (a ++ (h ++ (q ++ t))) = simp append_assoc in
    rw split (sip_uri e us hs ps ts)
join {t = t} (tel_front {k} {n} e ds) ts = rw (append_assoc k n t) (tel_uri e ds ts)

pub front_some : {f : List ℕ} {u : UriParts} → Front f u → 1 ≤ length f
front_some (sip_front {k} {a} {u} {h} {q} e us hs ps) = omega (arith, four_sip e, length-append k (a ++ (h ++ q)))
front_some (tel_front {k} {n} e ds) = omega (arith, four_tel e, length-append k n)

-- a URI without a tail
pub front_uri : {f : List ℕ} {u : UriParts} → Front f u → Uri f u
front_uri {f} (sip_front e us hs ps) = rw append-nil at (join (sip_front e us hs ps) no_tail)
front_uri {f} (tel_front e ds) = rw append-nil at (join (tel_front e ds) no_tail)

pub front_bare : {f : List ℕ} {u : UriParts} → Front f u → tail_text u ≡ []
front_bare (sip_front e us hs ps) = refl
front_bare (tel_front e ds) = refl

-- ---- the sip user, or the tel text

pub take_user : {a u : List ℕ} → Userinfo a u → (w : List ℕ) → take (length u) (a ++ w) ≡ u
take_user no_user w = refl
take_user (user_at {u} d l) w = rw (append_assoc u (64 ∷ []) w) (take-append_seam u (64 ∷ w))

-- what is read of a URI with these parts, with or without its tail
pub record UriFound (p : UriAt) (s : List ℕ) (u : UriParts) : Type 0 where
  pub tel_is : p.tel ≡ is_tel_uri u
  pub user_is : p.user ≡ length (user_of u)
  pub size_is : p.size ≡ length s

pub person_size_lem : {s : List ℕ} {u : UriParts} {p : UriAt} → Uri s u → UriFound p s u → person_size p ≡ length (person_of u)
person_size_lem (sip_uri e us hs ps ts) f = rw f.tel_is f.user_is
person_size_lem {p = p} (tel_uri {k} {n} {t} e ds ts) f =
    let l : p.size - 4 ≡ length (n ++ t) = omega (arith, f.size_is, four_tel e, length-append k (n ++ t)) in
    rw f.tel_is l

pub person_at : {s : List ℕ} {u : UriParts} → Uri s u → (r : List ℕ) → take (length (person_of u)) (drop 4 (s ++ r)) ≡ person_of u
person_at (sip_uri {k} {a} {u} {h} {q} {d} {t} e us hs ps ts) r =
    let w : List ℕ = h ++ (q ++ t) in
    rw (append_assoc k (a ++ w) r, drop_at k ((a ++ w) ++ r) 4 (four_sip e), append_assoc a w r) (take_user us (w ++ r))
person_at (tel_uri {k} {n} {t} e ds ts) r =
    rw (append_assoc k (n ++ t) r, drop_at k ((n ++ t) ++ r) 4 (four_tel e)) (take-append_seam (n ++ t) r)

-- ---- a URI begins with its scheme and a colon

record Named (word k : List ℕ) : Type 0 where
  name : List ℕ
  made : k ≡ name ++ (58 ∷ [])
  spelled : AnyCase word name

-- a byte before the small letters has one case
one_case : {c : ℕ} {k : List ℕ} → c < 97 → AnyCase (c ∷ []) k → k ≡ c ∷ []
one_case h (as_it_is case_end) = refl
one_case h (as_capital l m case_end) = absurd (omega arith)

colon_last : (word : List ℕ) {k : List ℕ} → AnyCase (word ++ (58 ∷ [])) k → Named word k
colon_last [] d = record { name = []; made = one_case (omega arith) d; spelled = case_end }
colon_last (c ∷ word) (as_it_is d) =
    let n = colon_last word d in
    record { name = c ∷ n.name; made = ap (λ (x : List ℕ). c ∷ x) n.made; spelled = as_it_is n.spelled }
colon_last (_ ∷ word) (as_capital {b} l h d) =
    let n = colon_last word d in
    record { name = b ∷ n.name; made = ap (λ (x : List ℕ). b ∷ x) n.made; spelled = as_capital l h n.spelled }

pub record Begins (s : List ℕ) : Type 0 where
  pub name : List ℕ
  pub others : List ℕ
  pub made : s ≡ name ++ (58 ∷ others)
  pub is_token_lem : Token name
  pub sip_or_tel : (AnyCase (text "sip") name → ⊥) → (AnyCase (text "tel") name → ⊥) → ⊥

after_name : (k name w r : List ℕ) → k ≡ name ++ (58 ∷ []) → (k ++ w) ++ r ≡ name ++ (58 ∷ (w ++ r))
after_name k name w r e = ap (λ (x : List ℕ). (x ++ w) ++ r) e ∙ simp append_assoc

pub begins : {s : List ℕ} {u : UriParts} → Uri s u → (r : List ℕ) → Begins (s ++ r)
unfolding text is_token all
begins (sip_uri {k} {a} {u} {h} {q} {d} {t} e us hs ps ts) r =
    let n = colon_last (text "sip") e in
    let w : List ℕ = a ++ (h ++ (q ++ t)) in
    record {
      name = n.name;
      others = w ++ r;
      made = after_name k n.name w r n.made;
      is_token_lem = word_token n.spelled refl (omega arith);
      sip_or_tel = λ x y. x n.spelled;
    }
begins (tel_uri {k} {n = m} {t} e ds ts) r =
    let n = colon_last (text "tel") e in
    record {
      name = n.name;
      others = (m ++ t) ++ r;
      made = after_name k n.name (m ++ t) r n.made;
      is_token_lem = word_token n.spelled refl (omega arith);
      sip_or_tel = λ x y. y n.spelled;
    }
