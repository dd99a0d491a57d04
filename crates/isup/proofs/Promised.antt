-- The promises of messages and of bytes: each is a case of `produced` or `decoded`, or what the calling number and the octets give back.
use mathlib.Core.Path.{◌≡◌, refl, sym, ap, ◌∙◌}
use mathlib.Core.Bool.{Bool, true, false, cond}
use mathlib.Core.List.{List, [], ◌∷◌}
use Prim.Native.Nat.{ℕ, ◌-◌, ◌≤◌}
use native.Mathlib.Omega.{arith}
use lib.Dec.{eqb}
use lib.ListN.{length, take, drop, replicate, length-drop, length-append, length-replicate}
use lib.Seq.{take_at}
use Rattle.octets.specs.Classes.{among}
use Rattle.octets.specs.Scans.{all}
use Rattle.sip.specs.Lines.{Start, Header}
use Rattle.sip.specs.Values.{is_global}
use Rattle.sip.specs.Refusals.{Answer, refusal, Lines, unread, read, lines, withheld, Passed, Judgement, refused, accepted, judgement}
use Rattle.sip.specs.Output.{output}
use Rattle.sip.specs.Screen.{verdict, Screened, screened}
use Rattle.sip.proofs.Accepted.{not_both}
use Rattle.sip.proofs.Cases.{replied_reason, written_cases}
use Rattle.sip.proofs.Screening.{side_0}
use Rattle.sip.proofs.Change.{alike}
use Rattle.isup.specs.Answers.{Caller}
use Rattle.isup.specs.Fields.{Fields, octets, fields_of, filler_is_zero}
use Rattle.judgement.specs.Judged.{judged_message}
use Rattle.judgement.specs.declared.Judged.{Judged}
use Rattle.judgement.specs.declared.Refused.{Refused}
use Rattle.std.specs.Prelude.{Result, Ok, Err}
use Rattle.judgement.proofs.Messages.{judges}
use Rattle.isup.specs.Forward.{is_code, is_national, sent, fields_for, encoded, padded, no_parameter, is_initial_invite, calling_of}
use Rattle.isup.specs.Forward.{produced_by, produced}
use Rattle.isup.specs.Backward.{is_cut, is_named, is_digit_code, number_from, no_caller, caller_with, caller_for, decoded}
use Rattle.isup.specs.Promises.{ScreensOwn, Forward, AlwaysNumber, Backward, InviteReturns}
use Rattle.isup.specs.Promises.{ParameterSized, ParameterSize, NumberSized, NumberSize, Demand3}
use Rattle.isup.proofs.Codes.{code_read}
use Rattle.isup.proofs.Numbers.{global_plus, sent_at_least, sent_length}
use Rattle.isup.proofs.Signals.{packed_count}
use Rattle.isup.proofs.Back.{there_and_back}
use Rattle.isup.proofs.Initial.{calling_is, calling_any}

-- ---- forward

pub screens_own : ScreensOwn
unfolding screened verdict produced
screens_own m code home table buffer = record { of_the_screen = λ a e. (rw e, rw e); of_the_box = λ r e. (by_screen r e, by_box r e) }
  where
    by_screen : (r : Passed) → judgement m ≡ accepted r → among (0 ∷ 16 ∷ []) (screened m 0 table buffer).answer.reason ≡ true
    by_screen r e =
        rw (e, side_0 table r)
        (written_cases (λ (s : Screened). among (0 ∷ 16 ∷ []) s.answer.reason ≡ true) buffer table r.line (output false r) table
        (rw (replied_reason r.line (refusal 16 500 (length (output false r)) 0)) refl) refl)

    by_box : (r : Passed) → judgement m ≡ accepted r → among (0 ∷ 41 ∷ 42 ∷ []) (produced m code home).refusal.reason ≡ true
    by_box r e = go (is_initial_invite r) (is_code code) refl refl
      where
        go : (t u : Bool) → is_initial_invite r ≡ t → is_code code ≡ u → among (0 ∷ 41 ∷ 42 ∷ []) (produced m code home).refusal.reason ≡ true
        go true true p q = rw (e, p, q)
        go true false p q = rw (e, p, q)
        go false u p q = rw (e, p)

pub forward : Forward
unfolding produced
forward m code home r e = record { no_invite = λ i. rw (e, i); bad_code = λ i c. rw (e, i, c); parameter = λ i c. rw (e, i, c) }

-- a message that is accepted was read
read_of : (m : List ℕ) (r : Passed) → judgement m ≡ accepted r → (l : Start) × ((h : Header) × (lines m ≡ read l h))
unfolding judgement
read_of m r a = go (lines m) refl
  where
    go : (x : Lines) → lines m ≡ x → (l : Start) × ((h : Header) × (lines m ≡ read l h))
    go (unread n) p = not_both (rw p at a)
    go (read l h) p = (l, (h, p))

pub always_number : AlwaysNumber
always_number m r a i =
    let x = read_of m r a in
    let g = calling_is m x.0 x.1.0 r x.1.1 a i in
    record { is_number = g; calling = calling_any m r a g }

-- no refusal has the reason 0
never_zero : (m : List ℕ) (a : Answer) → judgement m ≡ refused a → a.reason ≡ 0 → ⊥
never_zero m a e z = go (judged_message m) refl
  where
    go : (r : Result Judged Refused) → judged_message m ≡ r → ⊥
    go (Ok j) p = not_both (sym e ∙ (judges m {r = Ok j} (sym p) refl).is_accepted)
    go (Err r) p =
        let k = judges m {r = Err r} (sym p) refl in
        let q = sym e ∙ k.is_refused in
        k.has_reason (cc)

-- ---- a parameter that is given

record Made (m code : List ℕ) : Type 0 where
  pub message : Passed
  pub is_accepted : judgement m ≡ accepted message
  pub is_initial : is_initial_invite message ≡ true
  pub known_code : is_code code ≡ true

made : (m code : List ℕ) (home : Bool) → (produced m code home).refusal.reason ≡ 0 → Made m code
unfolding produced
made m code home e = go (judgement m) refl
  where
    by : (r : Passed) → judgement m ≡ accepted r → (t u : Bool) → is_initial_invite r ≡ t → is_code code ≡ u → Made m code
    by r p true true q c = record { message = r; is_accepted = p; is_initial = q; known_code = c }
    by r p true false q c = let z : ◌≡◌ {A = ℕ} 41 0 = rw (p, q, c) at e in absurd (omega arith)
    by r p false u q c = let z : ◌≡◌ {A = ℕ} 42 0 = rw (p, q) at e in absurd (omega arith)

    go : (j : Judgement) → judgement m ≡ j → Made m code
    go (refused a) p = absurd (never_zero m a p (rw p at e))
    go (accepted r) p = by r p (is_initial_invite r) (is_code code) refl refl

-- the first octets of an array that begins with them
taken_out : (size : ℕ) (s : List ℕ) → take (length s) (padded size s) ≡ s
unfolding padded
taken_out size s = take_at s (replicate (size - length s) 0) (length s) refl

pub invite_returns : InviteReturns
invite_returns m code home e =
    let k = made m code home e in
    let r = k.message in
    let w = encoded code home (withheld r.fields) (calling_of r) in
    let p = (forward m code home r k.is_accepted).parameter k.is_initial k.known_code in
    let o : take (produced m code home).len (produced m code home).bytes ≡ w = rw p (taken_out 10 w) in
    let g = (always_number m r k.is_accepted k.is_initial).is_number in
    record {
      message = r;
      is_accepted = k.is_accepted;
      is_initial = k.is_initial;
      known_code = k.known_code;
      octets_are = o;
      comes_back = ap (decoded code) o ∙ there_and_back code home (withheld r.fields) (calling_of r) k.known_code g;
    }

-- ---- sizes

encoded_size : (code : List ℕ) (home restricted : Bool) (number : List ℕ) → is_code code ≡ true → is_global number ≡ true
    → (4 ≤ length (encoded code home restricted number)) × (length (encoded code home restricted number) ≤ 10)
unfolding encoded octets fields_for
encoded_size code home restricted number c g =
    let n : Bool = is_national code home (drop 1 number) in
    let t : List ℕ = sent code n (drop 1 number) in
    let p = global_plus number g in
    let l = sent_length code n (drop 1 number) p.few in
    let k = sent_at_least code n (drop 1 number) in
    (omega (arith, packed_count t, k, p.enough, (code_read code c).three_digits), omega (arith, packed_count t))

padded_length : (size : ℕ) (s : List ℕ) → length s ≤ size → length (padded size s) ≡ size
unfolding padded
padded_length size s h = omega (arith, length-append s (replicate {A = ℕ} (size - length s) 0), length-replicate {A = ℕ} (size - length s) 0)

none_sized : (reason reply detail missing : ℕ) → (reason ≡ 0 → ⊥) → ParameterSized (no_parameter reason reply detail missing)
none_sized reason reply detail missing n = record { whole = refl; at_most = omega arith; given = λ z. absurd (n z); none_given = λ z. refl }

caller_sized : (id : Bool) (number : List ℕ) → is_global number ≡ true → NumberSized (caller_with id number)
unfolding caller_with
caller_sized id number g =
    let p = global_plus number g in
    let l : length number ≤ 16 = omega (arith, p.few, p.enough, length-drop 1 number) in
    record {
      whole = padded_length 16 number l;
      at_most = l;
      given = λ e. omega (arith, p.enough, length-drop 1 number);
      none_given = λ n. absurd (n refl);
    }

pub parameter_size : ParameterSize
unfolding produced
parameter_size m code home = go (judgement m) refl
  where
    by : (r : Passed) → judgement m ≡ accepted r → (t u : Bool) → is_initial_invite r ≡ t → is_code code ≡ u → ParameterSized (produced m code home)
    by r a true true i c =
        let z = encoded_size code home (withheld r.fields) (calling_of r) c (always_number m r a i).is_number in
        let w = encoded code home (withheld r.fields) (calling_of r) in
        rw (a, i, c) (record { whole = padded_length 10 w z.1; at_most = z.1; given = λ e. z.0; none_given = λ n. absurd (n refl) })
    by r a true false i c = rw (a, i, c) (none_sized 41 0 0 0 (λ z. omega arith))
    by r a false u i c = rw (a, i) (none_sized 42 0 0 0 (λ z. omega arith))

    go : (j : Judgement) → judgement m ≡ j → ParameterSized (produced m code home)
    go (refused a) p = rw p (none_sized a.reason a.reply a.detail a.missing (never_zero m a p))
    go (accepted r) p = by r p (is_initial_invite r) (is_code code) refl refl

no_number : (refusal : ℕ) → (refusal ≡ 0 → ⊥) → NumberSized (no_caller refusal)
no_number refusal n = record { whole = refl; at_most = omega arith; given = λ z. absurd (n z); none_given = λ z. refl }

pub number_size : NumberSize
unfolding decoded caller_for
number_size code s = go (is_code code) (is_cut s) (is_named f) (filler_is_zero s) (all is_digit_code f.address_signals) (is_global number) refl
  where
    f : Fields
    f = fields_of s

    number : List ℕ
    number = number_from code (fields_of s)

    there : Caller
    there = caller_with (eqb (fields_of s).presentation 1) (number_from code (fields_of s))

    go : (c k n z d g : Bool) → is_global number ≡ g
        → NumberSized
        (cond c (cond k (no_caller 43) (cond n (cond z (cond d (cond g there (no_caller 47)) (no_caller 46)) (no_caller 45)) (no_caller 44))) (no_caller 41))
    go false k n z d g e = no_number 41 (λ y. omega arith)
    go true true n z d g e = no_number 43 (λ y. omega arith)
    go true false false z d g e = no_number 44 (λ y. omega arith)
    go true false true false d g e = no_number 45 (λ y. omega arith)
    go true false true true false g e = no_number 46 (λ y. omega arith)
    go true false true true true false e = no_number 47 (λ y. omega arith)
    go true false true true true true e = caller_sized (eqb (fields_of s).presentation 1) number e

-- ---- backward

pub backward : Backward
unfolding decoded caller_for
backward code s =
    record {
      gives_41 = λ c. rw c;
      gives_43 = λ c k. rw (c, k);
      gives_44 = λ c k n. rw (c, k, n);
      gives_45 = λ c k n f. rw (c, k, n, f);
      gives_46 = λ c k n f d. rw (c, k, n, f, d);
      gives_47 = λ c k n f d g. rw (c, k, n, f, d, g);
    }

-- ---- demand 3

pub demand_3 : Demand3
unfolding produced
demand_3 m m' code home c = ap (λ (j : Judgement). produced_by code home j) (alike m m' c)
