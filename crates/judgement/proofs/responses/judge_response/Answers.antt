-- A status outside 100 to 699 comes before the method.
use mathlib.Core.Path.{◌≡◌, refl}
use mathlib.Core.Bool.{Bool, true, false, cond}
use mathlib.Core.List.{List, []}
use mathlib.Core.Option.{none}
use Prim.Native.Nat.{ℕ}
use native.Mathlib.Omega.{arith}
use lib.ListN.{take, drop}
use Rattle.std.specs.Prelude.{Some, None, Result, Err}
use Rattle.octets.specs.Classes.{text, within}
use Rattle.octets.specs.Scans.{number, run, same}
use Rattle.sip.specs.Profile.{response_column}
use Rattle.sip.specs.Values.{cseq_method}
use Rattle.lines.specs.declared.Slot.{Slot}
use Rattle.lines.specs.Index.{read_head, Head, no_slot}
use Rattle.judgement.specs.declared.Refused.{Refused}
use Rattle.judgement.specs.declared.Judged.{Judged}
use Rattle.judgement.specs.Entries.{unfolded_by, value_at, first_slot}
use Rattle.judgement.specs.Judged.{bare_refused, known_status, status_at, method_at, response_to, response_lines}
use Rattle.sip.proofs.Tests.{never}
use Rattle.judgement.proofs.Slots.{slot_fits}
use Rattle.judgement.proofs.responses.judge_response.Goals as goal

module _ (m slots : List ℕ) (h : Head) where
  module _ (e : None ≡ known_status (status_at m)) where
    inside : (b : Bool) → None ≡ (cond b (Some (status_at m)) None) → b ≡ false
    inside true q = never (cc)
    inside false q = refl

    refuses : {n : ℕ} {x : Refused} → x ≡ bare_refused n 0 → n ≡ 17 → Err x ≡ response_lines m slots h
    unfolding response_lines
    refuses hx hn = rw (hx, hn, inside (within 100 699 (status_at m)) e)

  module _ {n : ℕ} (e : Some n ≡ known_status (status_at m)) where
    known : (b : Bool) → Some n ≡ (cond b (Some (status_at m)) None) → (b ≡ true) × (status_at m ≡ n)
    known true q = (refl, cc)
    known false q = never (cc)

    between : {s : Slot} → s ≡ first_slot 6 slots h.count 0 → {v : List ℕ} → v ≡ take s.len (drop s.start m)
        → {a : Result Judged Refused} → a ≡ response_to m slots h n (cseq_method (unfolded_by s.folded v)) → a ≡ response_lines m slots h
    unfolding response_lines method_at value_at
    between hs hv ha = let k = known (within 100 699 (status_at m)) e in rw (k.0, k.1, ← hs, ← hv, ha)

    -- a CSeq that is not there names no method
    unnamed : (b : Bool) → response_column b [] ≡ none
    unfolding response_column same text
    unnamed b = refl

    no_method : method_at m no_slot ≡ []
    unfolding method_at value_at cseq_method number run
    no_method = refl

    nameless : no_slot ≡ first_slot 6 slots h.count 0 → {x : Refused} → x ≡ bare_refused 6 0 → Err x ≡ response_lines m slots h
    unfolding response_lines response_to
    nameless hs hx = let k = known (within 100 699 (status_at m)) e in rw (k.0, ← hs, no_method, hx, unnamed)

pub returns-in_default : goal.returns-in_default
returns-in_default c = refuses c.args.read.now.message.now c.args.read.now.slots.now (read_head c.args.read.now.head) c.in_default.ensures c.bare.ensures (omega arith)

pub returns-in_default-first_slot : goal.returns-in_default-first_slot
returns-in_default-first_slot c =
    let n = c.in_default-first_slot.ensures in
    nameless c.args.read.now.message.now c.args.read.now.slots.now (read_head c.args.read.now.head) c.in-Some.ensures n.0
    c.bare-in_default-first_slot.ensures

pub value_of-requires : goal.value_of-requires
value_of-requires c =
    let s = c.in-Some-first_slot.ensures in
    slot_fits 6 c.args.read.now.slots.now c.args.read.now.message.now c.args.read.now.slots_within c.args.read.now.head.count s.0

pub returns : goal.returns
returns c =
    let s = c.in-Some-first_slot.ensures in
    between c.args.read.now.message.now c.args.read.now.slots.now (read_head c.args.read.now.head) c.in-Some.ensures s.0 c.value_of.ensures.0
    c.judge_status.ensures
