-- What the table of calls says of an accepted message is what the pages say: its pair stands in the message as it is, since nothing in a
-- Call-ID or in a tag is folded, and its method is told by its first four bytes.
use mathlib.Core.Path.{◌≡◌, refl, sym, ap, ◌∙◌}
use mathlib.Core.Bool.{Bool, true, false, not, cond, ◌&&◌, ◌||◌}
use mathlib.Core.List.{List, [], ◌∷◌, ◌++◌, append_assoc}
use mathlib.Core.Option.{Option, none, some}
use Prim.Native.Nat.{ℕ, suc, ◌+◌, ◌≤◌, ◌<◌}
use native.Mathlib.Omega.{arith}
use lib.Dec.{eqb, ltb}
use lib.ListN.{length, take, drop, take-append-drop}
use borrow.Author.Tests.{eqb-true, eq-eqb, ne_eqb, le-ltb, lt-ltb, le-leb}
use Rattle.octets.specs.Classes.{text, within, is_token, is_blank, is_break, is_gap, is_visible}
use Rattle.octets.specs.Scans.{run, all, any, same}
use Rattle.octets.proofs.Runs.{run_all}
use Rattle.sip.specs.declared.Column.{Column}
use Rattle.sip.specs.declared.Column.TheVariants.{Invite, Reinvite, Ack, Bye, Cancel, Options, InviteSuccess, CancelResponse, OtherResponse}
use Rattle.sip.specs.declared.Span.{Span}
use Rattle.sip.specs.Lines.{Start, request, response, joined, folded, unfolded_at}
use Rattle.sip.specs.Profile.{rows, find, mark, ignored}
use Rattle.sip.specs.Values.{is_call_id, tag_of}
use Rattle.sip.specs.Readings.{part}
use Rattle.sip.specs.Refusals.{Entry, value_of, withheld, refusal, message_column, lines, read}
use Rattle.sip.specs.Output.{output}
use Rattle.sip.specs.Calls.{Pair, is_pair, is_held, is_full, new_place, placed, entered, removed}
use Rattle.sip.specs.Screen.{call_of, is_request, is_method, closes, masks, overfills, calls_after, refuses, sends, decided, verdict}
use Rattle.sip.proofs.Canonical.{folded_byte, folded_run, by_runs, any_first}
use Rattle.sip.proofs.Unfolded.{unfolded_part}
use Rattle.sip.proofs.Tags.{tag_plain}
use Rattle.sip.proofs.Tests.{never, all_first, all_others, range_low, and_right}
use Rattle.sip.proofs.Spans.{read_parts}
use Rattle.sip.proofs.Texts.{same_eq}
use Rattle.sip.proofs.Grammar.Bytes.{all_of}
use Rattle.sip.proofs.Grammar.Promises.{method_token}
use Rattle.sip.proofs.Complete.{accepted_there, accepted_pair}
use Rattle.sip.proofs.Screening.{withheld_invite, hides_withheld}
use Rattle.sip.proofs.Calls.Pairs.{made}
use Rattle.sip.proofs.Calls.Places.{id_long, tag_short}
use Rattle.sip.proofs.Calls.Tables.{full_place, new_within, removed_none}
use Rattle.calls.specs.Places.{fits}
use Rattle.lines.specs.declared.Slot.{Slot}
use Rattle.judgement.specs.declared.Judged.{Judged}
use Rattle.judgement.specs.Entries.{value_at, first_slot}
use Rattle.judgement.specs.Judges.{Told, nothing, also, Passes}
use Rattle.judgement.proofs.Slots.{slot_value}
use Rattle.std.proofs.Common.{Result, Ok, Err}
use Rattle.judgement.specs.declared.Refusal.{Refusal}
use Rattle.gateway.specs.declared.Side.{Side}
use Rattle.gateway.specs.declared.Side.TheVariants.{Trusted, Untrusted}
use Rattle.gateway.specs.declared.remembered.CallState.{CallState}
use Rattle.gateway.specs.declared.remembered.CallState.TheVariants.{Shown, Hidden, Ending, New}
use Rattle.gateway.specs.CallStates.{call_id_in, tag_in, pair_in, side_number, known_state, new_state, state_in, asked, state_for, masked_by}
use Rattle.gateway.specs.CallStates.{too_many, table_by}

-- ---- a text without gaps stands in its value as it is

module _ (r : List ℕ) where
  none_joined : (g : List ℕ) → all is_gap g ≡ true → any is_gap (joined g ++ r) ≡ false → g ≡ []
  unfolding joined any all is_gap is_blank
  none_joined [] a n = refl
  none_joined (b ∷ g) a n = go (any is_break (b ∷ g)) refl
    where
      go : (t : Bool) → any is_break (b ∷ g) ≡ t → b ∷ g ≡ []
      go true e = let z : true ≡ false = rw e at n in never (cc)
      go false e =
          let z : (b ∷ g) ≡ joined (b ∷ g) = rw e in
          let k : any is_gap (b ∷ (g ++ r)) ≡ false = rw e at n in
          let x = (any_first is_gap b (g ++ r) k).0 in
          never (cc (all_first is_gap b g a))

folded_gapless : (s : List ℕ) → any is_gap (folded 0 s) ≡ false → folded 0 s ≡ s
unfolding folded joined any
folded_gapless =
    by_runs (λ s. any is_gap (folded 0 s) ≡ false → folded 0 s ≡ s) (λ n. refl)
    (λ b s e h n.
    let k : any is_gap (b ∷ folded 0 s) ≡ false = rw (folded_byte b s e) at n in
    folded_byte b s e ∙ ap (λ (l : List ℕ). b ∷ l) (h (any_first is_gap b (folded 0 s) k).1))
    (λ s h n. gap s h n)
  where
    gap : (s : List ℕ) → (any is_gap (folded 0 (drop (run is_gap s) s)) ≡ false → folded 0 (drop (run is_gap s) s) ≡ drop (run is_gap s) s)
        → any is_gap (folded 0 s) ≡ false → folded 0 s ≡ s
    gap s h n =
        let g = take (run is_gap s) s in
        let r = drop (run is_gap s) s in
        let k : any is_gap (joined g ++ folded 0 r) ≡ false = rw (folded_run s) at n in
        let z : g ≡ [] = none_joined (folded 0 r) g (run_all is_gap s) k in
        let w : s ≡ r = sym (take-append-drop (run is_gap s) s) ∙ ap (λ (l : List ℕ). l ++ r) z in
        let f : folded 0 s ≡ folded 0 r = folded_run s ∙ ap (λ (l : List ℕ). joined l ++ folded 0 r) z in
        f ∙ h (rw f at n) ∙ sym w

visible_no_gap : (b : ℕ) → is_visible b ≡ true → is_gap b ≡ false
unfolding is_visible is_gap is_blank is_break
visible_no_gap b e =
    let l = range_low 33 126 b e in
    rw (ne_eqb b 32 (λ z. omega arith), ne_eqb b 9 (λ z. omega arith), ne_eqb b 13 (λ z. omega arith), ne_eqb b 10 (λ z. omega arith)) refl

visible_gapless : (s : List ℕ) → all is_visible s ≡ true → any is_gap s ≡ false
unfolding any
visible_gapless [] e = refl
visible_gapless (b ∷ s) e = rw (visible_no_gap b (all_first is_visible b s e)) (visible_gapless s (all_others is_visible b s e))

-- ---- the method of a request, by what stands before the first space

token_not : (b : ℕ) → is_token b ≡ true → b ≡ 32 → ⊥
unfolding is_token
token_not b e q = let z : is_token 32 ≡ true = rw q at e in never (cc)

method_told : (w s t : List ℕ) → all is_token w ≡ true → all is_token s ≡ true → same (w ++ 32 ∷ []) (take (suc (length w)) (s ++ 32 ∷ t)) ≡ same w s
unfolding same
method_told [] [] t e f = refl
method_told [] (b ∷ s) t e f = rw (ne_eqb 32 b (λ z. token_not b (all_first is_token b s f) (sym z))) refl
method_told (a ∷ w) [] t e f = rw (ne_eqb a 32 (token_not a (all_first is_token a w e))) refl
method_told (a ∷ w) (b ∷ s) t e f =
    rw (method_told w s t (all_others is_token a w e) (all_others is_token b s f)) refl

-- ---- the fields from which the pair is made are kept in every column

kept_3_5 : (c : Option Column) → (ignored c 3 ≡ false) × (ignored c 5 ≡ false)
unfolding ignored mark find rows
kept_3_5 none = (refl, refl)
kept_3_5 (some Invite) = (refl, refl)
kept_3_5 (some Reinvite) = (refl, refl)
kept_3_5 (some Ack) = (refl, refl)
kept_3_5 (some Bye) = (refl, refl)
kept_3_5 (some Cancel) = (refl, refl)
kept_3_5 (some Options) = (refl, refl)
kept_3_5 (some InviteSuccess) = (refl, refl)
kept_3_5 (some CancelResponse) = (refl, refl)
kept_3_5 (some OtherResponse) = (refl, refl)

told_tag : {hops : ℕ} {tag : Span} {es : List Entry} → Told hops tag es → (v : List ℕ) → value_of 3 es ≡ some v → tag_of v ≡ part tag v
unfolding value_of
told_tag nothing v e = never (cc)
told_tag {tag = tag} (also {e = d} {es = es} x y) v e = go (eqb d.number 3) refl e (told_tag y v)
  where
    go : (b : Bool) → eqb d.number 3 ≡ b → cond b (some d.value) (value_of 3 es) ≡ some v → (value_of 3 es ≡ some v → tag_of v ≡ part tag v)
        → tag_of v ≡ part tag v
    go true f e r = let z : d.value ≡ v = cc in rw z at (x.tag_is (eqb-true d.number 3 f))
    go false f e r = r e

-- a part without gaps of a canonical value stands in the value as it came
pub stands : (tag : Span) (v : List ℕ) (b : Bool) → any is_gap (part tag (cond b (folded 0 v) v)) ≡ false → {k : ℕ}
    → k ≡ cond b (unfolded_at tag.start 0 v) tag.start → take tag.len (drop k v) ≡ part tag (cond b (folded 0 v) v)
stands tag v true g e = rw e (unfolded_part v tag.start tag.len g)
stands tag v false g e = rw e

-- ---- the pair

module _ (m slots : List ℕ) {j : Judged} (p : Passes m slots j) where
  abbrev five : Slot
  five = first_slot 5 slots j.count 0

  abbrev three : Slot
  three = first_slot 3 slots j.count 0

  value_5 : value_of 5 p.message.fields ≡ some (value_at m five)
  value_5 =
      rw p.fields_held
      (slot_value 5 slots j.kept m (p.kept_is 5 ∙ rw (kept_3_5 (message_column p.message.line p.header.fields)).1) j.count 0
      (rw p.fields_held at (accepted_there m p.message p.is_accepted).id_occurs))

  value_3 : value_of 3 p.message.fields ≡ some (value_at m three)
  value_3 =
      rw p.fields_held
      (slot_value 3 slots j.kept m (p.kept_is 3 ∙ rw (kept_3_5 (message_column p.message.line p.header.fields)).0) j.count 0
      (rw p.fields_held at (accepted_there m p.message p.is_accepted).from_occurs))

  id_here : value_at m five ≡ call_id_in m slots j.count
  unfolding value_at call_id_in is_call_id
  id_here = go five.folded refl
    where
      v : List ℕ
      v = take five.len (drop five.start m)

      formed : is_call_id (value_at m five) ≡ true
      formed =
          let c = accepted_there m p.message p.is_accepted in
          let z : c.call_id ≡ value_at m five = cc (c.id_there, value_5) in
          rw z at c.id_formed

      go : (b : Bool) → five.folded ≡ b → value_at m five ≡ call_id_in m slots j.count
      go true e =
          let w : List ℕ = folded 0 v in
          let f : (within 1 128 (length w) && all is_visible w) ≡ true = rw e at formed in
          rw e (folded_gapless v (visible_gapless w (and_right (within 1 128 (length w)) (all is_visible w) f)))
      go false e = rw e

  tag_here : tag_of (value_at m three) ≡ tag_in m slots j.count j.tag
  unfolding value_at tag_in
  tag_here =
      let v = take three.len (drop three.start m) in
      let t : tag_of (value_at m three) ≡ part j.tag (value_at m three) = told_tag p.told (value_at m three) value_3 in
      let g : any is_gap (part j.tag (value_at m three)) ≡ false = rw t at (tag_plain (value_at m three)) in
      t ∙ sym (stands j.tag v three.folded g refl)

  pub call_here : call_of p.message.fields ≡ pair_in m slots j.count j.tag
  unfolding call_of
  call_here = rw (value_5, value_3) (made id_here tag_here)

  pub call_fits : fits (pair_in m slots j.count j.tag) ≡ true
  unfolding fits
  call_fits =
      let f : is_pair (pair_in m slots j.count j.tag) ≡ true = rw call_here at (accepted_pair m p.message p.is_accepted) in
      rw (le-leb _ 128 (id_long (pair_in m slots j.count j.tag) f), le-leb _ 64 (tag_short (pair_in m slots j.count j.tag) f)) refl

  -- ---- what kind of message it is

  not_before : (is_request p.message.line ≡ not (eqb j.before 0))
  not_before = go p.message.line refl
    where
      go : (l : Start) → p.message.line ≡ l → is_request p.message.line ≡ not (eqb j.before 0)
      go (request l) e = rw (p.before_is, e) (sym (ap not (ne_eqb (length l.method + 1 + length l.uri + 1) 0 (λ z. omega arith))))
      go (response l) e = rw (p.before_is, e) refl

  bye_here : is_request p.message.line ≡ true → same (text "BYE ") (take 4 m) ≡ is_method (text "BYE") p.message.line
  unfolding text all is_token
  bye_here = go p.message.line refl
    where
      go : (l : Start) → p.message.line ≡ l → is_request p.message.line ≡ true
          → same (text "BYE ") (take 4 m) ≡ is_method (text "BYE") p.message.line
      go (request l) e q =
          let n : ℕ = length l.method + 1 + length l.uri in
          let d : lines m ≡ read (request l) p.header = rw e at p.is_read in
          let z : m ≡ l.method ++ 32 ∷ (l.uri ++ drop n m)
          = sym (take-append-drop n m) ∙ ap (λ (x : List ℕ). x ++ drop n m) (read_parts m (request l) p.header d).line_parts.line_part
          ∙ append_assoc l.method (32 ∷ l.uri) (drop n m) in
          ap (λ (x : List ℕ). same (text "BYE ") (take 4 x)) z
          ∙ method_told (text "BYE") l.method (l.uri ++ drop n m) refl (all_of (method_token m l p.header d).bytes) ∙ rw e
      go (response l) e q = let z : false ≡ true = rw e at q in never (cc)

  -- ---- the verdict

  not_bye : is_method (text "INVITE") p.message.line ≡ true → is_method (text "BYE") p.message.line ≡ false
  unfolding text same
  not_bye = go p.message.line refl
    where
      go : (l : Start) → p.message.line ≡ l → is_method (text "INVITE") p.message.line ≡ true → is_method (text "BYE") p.message.line ≡ false
      go (request l) e q =
          let z : text "INVITE" ≡ l.method = same_eq (text "INVITE") l.method (rw e at q) in
          rw (e, ← z) refl
      go (response l) e q = let z : false ≡ true = rw e at q in never (cc)

  a_request : (method : List ℕ) → is_method method p.message.line ≡ true → is_request p.message.line ≡ true
  a_request method = go p.message.line refl
    where
      go : (l : Start) → p.message.line ≡ l → is_method method p.message.line ≡ true → is_request p.message.line ≡ true
      go (request l) e q = rw e
      go (response l) e q = let z : false ≡ true = rw e at q in never (cc)

  module _ (side : ℕ) (low : side ≤ 1) (t : List ℕ) where
    abbrev pair : Pair
    pair = pair_in m slots j.count j.tag

    abbrev state : Result CallState Refusal
    state = state_for m side slots j t

    abbrev pub Is : Result CallState Refusal → Type 0
    Is (Ok s) = verdict m side t ≡ sends p.message.line (output (masked_by s) p.message) (table_by s pair t)
    Is (Err r) = verdict m side t ≡ refuses (refusal r.reason r.reply r.detail r.missing)

    -- what the pages ask of the message and of the table
    module _ (one req w bye h full : Bool) (e1 : eqb side 1 ≡ one) (e2 : is_request p.message.line ≡ req)
        (e3 : withheld p.message.fields ≡ w) (e4 : is_method (text "BYE") p.message.line ≡ bye) (e5 : is_held pair t ≡ h)
        (e6 : is_full t ≡ full) where
      decided_as : verdict m side t
          ≡ cond ((one && w) && (not h && full)) (refuses (refusal 18 503 0 0))
          (sends p.message.line (output (one && (w || (req && h))) p.message)
          (cond (one && w) (cond h t (placed (new_place t) pair t)) (cond (one && bye) (removed pair t) t)))
      unfolding verdict decided overfills masks calls_after closes entered
      decided_as =
          rw (le-leb side 1 low, p.is_accepted, hides_withheld m p.message p.is_accepted side, call_here, e1, e2, e3, e4, e5, e6)

    -- what the code makes of it
    state_0 : eqb side 1 ≡ false → state ≡ Ok Shown
    unfolding state_for asked
    state_0 e = rw e

    state_response : is_request p.message.line ≡ false → state ≡ Ok Shown
    unfolding state_for asked
    state_response e =
        let z : not (eqb j.before 0) ≡ false = sym not_before ∙ e in
        rw z (both (eqb side 1))
      where
        both : (b : Bool) → cond (b && false) (state_in m slots j.count j.tag j.withheld t) (Ok Shown) ≡ Ok Shown
        both true = refl
        both false = refl

    module _ (e1 : eqb side 1 ≡ true) (e2 : is_request p.message.line ≡ true) where
      state_1 : state ≡ state_in m slots j.count j.tag j.withheld t
      unfolding state_for asked
      state_1 = let z : not (eqb j.before 0) ≡ true = sym not_before ∙ e2 in rw (e1, z)

      state_held : is_held pair t ≡ true → state ≡ Ok (cond (is_method (text "BYE") p.message.line) Ending Hidden)
      unfolding state_in known_state
      state_held h = state_1 ∙ rw (h, bye_here e2)

      module _ (h : is_held pair t ≡ false) where
        state_shown : withheld p.message.fields ≡ false → state ≡ Ok Shown
        unfolding state_in
        state_shown w = let z : j.withheld ≡ false = sym p.withheld_is ∙ w in state_1 ∙ rw (h, z)

        module _ (w : withheld p.message.fields ≡ true) where
          state_new : state ≡ new_state (new_place t)
          unfolding state_in
          state_new = let z : j.withheld ≡ true = sym p.withheld_is ∙ w in state_1 ∙ rw (h, z)

          state_full : is_full t ≡ true → state ≡ Err too_many
          unfolding new_state
          state_full f =
              let z : new_place t ≡ 32 = eqb-true (new_place t) 32 (sym (full_place t) ∙ f) in
              state_new ∙ rw (le-ltb (new_place t) 32 (omega arith)) refl

          state_room : is_full t ≡ false → state ≡ Ok (New (new_place t))
          unfolding new_state
          state_room f = state_new ∙ rw (lt-ltb (new_place t) 32 (new_within t f)) refl

    pub verdict_is : Is state
    verdict_is =
        go (eqb side 1) (is_request p.message.line) (withheld p.message.fields) (is_method (text "BYE") p.message.line) (is_held pair t)
        (is_full t) refl refl refl refl refl refl
      where
        invite : withheld p.message.fields ≡ true → is_method (text "INVITE") p.message.line ≡ true
        invite w = withheld_invite m p.message p.is_accepted w

        go : (one req w bye h full : Bool) → eqb side 1 ≡ one → is_request p.message.line ≡ req → withheld p.message.fields ≡ w
            → is_method (text "BYE") p.message.line ≡ bye → is_held pair t ≡ h → is_full t ≡ full → Is state
        go false req w bye h full e1 e2 e3 e4 e5 e6 = rw (state_0 e1) (decided_as false req w bye h full e1 e2 e3 e4 e5 e6)
        go true false true bye h full e1 e2 e3 e4 e5 e6 = let z = a_request (text "INVITE") (invite e3) in never (cc)
        go true false false true h full e1 e2 e3 e4 e5 e6 = let z = a_request (text "BYE") e4 in never (cc)
        go true false false false h full e1 e2 e3 e4 e5 e6 =
            rw (state_response e2) (decided_as true false false false h full e1 e2 e3 e4 e5 e6)
        go true true true true h full e1 e2 e3 e4 e5 e6 = let z = not_bye (invite e3) in never (cc)
        go true true true false true full e1 e2 e3 e4 e5 e6 =
            let k : state ≡ Ok Hidden = rw e4 at (state_held e1 e2 e5) in
            rw k (decided_as true true true false true full e1 e2 e3 e4 e5 e6)
        go true true false true true full e1 e2 e3 e4 e5 e6 =
            let k : state ≡ Ok Ending = rw e4 at (state_held e1 e2 e5) in
            rw k (decided_as true true false true true full e1 e2 e3 e4 e5 e6)
        go true true false false true full e1 e2 e3 e4 e5 e6 =
            let k : state ≡ Ok Hidden = rw e4 at (state_held e1 e2 e5) in
            rw k (decided_as true true false false true full e1 e2 e3 e4 e5 e6)
        go true true true false false true e1 e2 e3 e4 e5 e6 =
            rw (state_full e1 e2 e5 e3 e6) (decided_as true true true false false true e1 e2 e3 e4 e5 e6)
        go true true true false false false e1 e2 e3 e4 e5 e6 =
            rw (state_room e1 e2 e5 e3 e6) (decided_as true true true false false false e1 e2 e3 e4 e5 e6)
        go true true false true false full e1 e2 e3 e4 e5 e6 =
            rw (state_shown e1 e2 e5 e3) (rw (removed_none pair t e5) at (decided_as true true false true false full e1 e2 e3 e4 e5 e6))
        go true true false false false full e1 e2 e3 e4 e5 e6 =
            rw (state_shown e1 e2 e5 e3) (decided_as true true false false false full e1 e2 e3 e4 e5 e6)

-- ---- what the functions answer, case by case

module _ (m : List ℕ) {b : Bool} {v : List ℕ} (ev : v ≡ take 4 m) (e : b ≡ same (text "BYE ") v) where
  pub is_bye : b ≡ true → Ending ≡ known_state m
  unfolding known_state
  is_bye y = let z : same (text "BYE ") (take 4 m) ≡ true = rw (← ev) (sym e ∙ y) in rw z

  pub is_other_lem : b ≡ false → Hidden ≡ known_state m
  unfolding known_state
  is_other_lem y = let z : same (text "BYE ") (take 4 m) ≡ false = rw (← ev) (sym e ∙ y) in rw z

module _ (m slots : List ℕ) (count : ℕ) where
  pub id_is : {s : Slot} → s ≡ first_slot 5 slots count 0 → {v : List ℕ} → v ≡ take s.len (drop s.start m) → v ≡ call_id_in m slots count
  unfolding call_id_in
  id_is e f = f ∙ rw e

  pub tag_is : {s : Slot} → s ≡ first_slot 3 slots count 0 → {v : List ℕ} → v ≡ take s.len (drop s.start m) → (tag : Span) → {w : List ℕ}
      → w ≡ take tag.len (drop (cond s.folded (unfolded_at tag.start 0 v) tag.start) v) → w ≡ tag_in m slots count tag
  unfolding tag_in
  tag_is e f tag h = h ∙ rw (f, e)

module _ (m slots : List ℕ) (count : ℕ) (span : Span) (withheld : Bool) (t : List ℕ) {b : Bool}
    (e : b ≡ is_held (pair_in m slots count span) t) where
  pub is_known : b ≡ true → {s : CallState} → s ≡ known_state m → Ok s ≡ state_in m slots count span withheld t
  unfolding state_in
  is_known y f = let z : is_held (pair_in m slots count span) t ≡ true = sym e ∙ y in rw (z, f)

  module _ (n : b ≡ false) where
    not_held : is_held (pair_in m slots count span) t ≡ false
    not_held = sym e ∙ n

    pub is_shown : withheld ≡ false → Ok Shown ≡ state_in m slots count span withheld t
    unfolding state_in
    is_shown w = rw (not_held, w)

    module _ (w : withheld ≡ true) where
      pub is_new : {k : ℕ} → k ≡ new_place t → k < 32 → Ok (New k) ≡ state_in m slots count span withheld t
      unfolding state_in new_state
      is_new q l = rw (not_held, w, ← q, lt-ltb _ 32 l)

      pub is_full_lem : 32 ≡ new_place t → Err too_many ≡ state_in m slots count span withheld t
      unfolding state_in new_state
      is_full_lem q = rw (not_held, w, ← q)

module _ (m slots : List ℕ) (j : Judged) (t : List ℕ) where
  pub on_side_0 : {side : Side} → side ≡ Trusted → Ok Shown ≡ state_for m (side_number side) slots j t
  unfolding state_for asked
  on_side_0 e = rw e

  module _ {side : Side} (one : side ≡ Untrusted) where
    pub of_response : j.before ≤ 0 → Ok Shown ≡ state_for m (side_number side) slots j t
    unfolding state_for asked
    of_response l = rw (one, eq-eqb j.before 0 (omega arith))

    pub of_request : 0 < j.before → {s : Result CallState Refusal} → s ≡ state_in m slots j.count j.tag j.withheld t
        → s ≡ state_for m (side_number side) slots j t
    unfolding state_for asked
    of_request l f = rw (one, ne_eqb j.before 0 (λ z. omega arith)) f

-- the one refusal
pub too_many_alone : (m slots : List ℕ) (side : ℕ) (j : Judged) (t : List ℕ) {r : Refusal} → Err r ≡ state_for m side slots j t → r.reason ≤ 18
unfolding state_for state_in new_state
too_many_alone m slots side j t {r} e =
    go (asked side j.before) (is_held (pair_in m slots j.count j.tag) t) j.withheld (ltb (new_place t) 32) e
  where
    go : (a h w l : Bool) → Err r ≡ cond a (cond h (Ok (known_state m)) (cond w (cond l (Ok (New (new_place t))) (Err too_many)) (Ok Shown))) (Ok Shown)
        → r.reason ≤ 18
    go true true w l e = never (cc)
    go true false true true e = never (cc)
    go true false true false e = let z : r ≡ too_many = cc in rw z (omega arith)
    go true false false l e = never (cc)
    go false h w l e = never (cc)
