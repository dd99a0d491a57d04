-- What holds of each way in which a screening ends holds of every screening: it goes by its side, its judgement, reason 18 and the room.
use mathlib.Core.Path.{◌≡◌, refl}
use mathlib.Core.Bool.{Bool, true, false, cond}
use mathlib.Core.List.{List}
use Prim.Native.Nat.{ℕ}
use lib.Dec.{leb}
use lib.ListN.{length}
use Rattle.sip.specs.Lines.{Start}
use Rattle.sip.specs.Refusals.{Answer, refusal, silent, replied, Passed, Judgement, refused, accepted, judgement}
use Rattle.sip.specs.Output.{output}
use Rattle.sip.specs.Screen.{masks, overfills, calls_after, sends, decided, verdict, Screened, refusing, sending, written, screened}

-- where nothing is replied the reason is told all the same
pub replied_reason : (l : Start) (a : Answer) → (replied l a).reason ≡ a.reason
unfolding replied
replied_reason l a = go (silent l)
  where
    go : (t : Bool) → (cond t (refusal a.reason 0 a.detail a.missing) a).reason ≡ a.reason
    go true = refl
    go false = refl

-- reason 16, or all goes out
pub written_cases :
    (P : Screened → Type 0) (buffer table : List ℕ) (l : Start) (o after : List ℕ)
    → P (refusing (replied l (refusal 16 500 (length o) 0)) buffer table) → P (sending o buffer after) → P (written buffer table (sends l o after))
written_cases P buffer table l o after x y = go (leb (length o) (length buffer))
  where
    go : (t : Bool) → P (cond t (sending o buffer after) (refusing (replied l (refusal 16 500 (length o) 0)) buffer table))
    go true = y
    go false = x

module _ (m : List ℕ) (side : ℕ) (table buffer : List ℕ) where
  pub record EachCase (P : Screened → Type 0) : Type 0 where
    pub other_side : P (refusing (refusal 1 0 0 0) buffer table)
    pub is_refused : (a : Answer) → judgement m ≡ refused a → P (refusing a buffer table)
    pub is_full_lem : (r : Passed) → judgement m ≡ accepted r → overfills side table r ≡ true → P (refusing (refusal 18 503 0 0) buffer table)
    pub no_room : (r : Passed) (n : ℕ) → judgement m ≡ accepted r → P (refusing (replied r.line (refusal 16 500 n 0)) buffer table)
    pub is_sent :
        (r : Passed) → judgement m ≡ accepted r → overfills side table r ≡ false
        → P (sending (output (masks side table r) r) buffer (calls_after side table r))

  pub screened_cases : (P : Screened → Type 0) → EachCase P → P (screened m side table buffer)
  unfolding screened verdict decided
  screened_cases P c = go (leb side 1) (judgement m) refl refl
    where
      next : (r : Passed) → judgement m ≡ accepted r → (t : Bool) → overfills side table r ≡ t → P (written buffer table (decided side table r))
      next r q true f = rw f (c.is_full_lem r q f)
      next r q false f =
          let o : List ℕ = output (masks side table r) r in
          rw f (written_cases P buffer table r.line o (calls_after side table r) (c.no_room r (length o) q) (c.is_sent r q f))

      go : (t : Bool) (j : Judgement) → leb side 1 ≡ t → judgement m ≡ j → P (screened m side table buffer)
      go false j p q = rw p c.other_side
      go true (refused a) p q = rw (p, q) (c.is_refused a q)
      go true (accepted r) p q = rw (p, q) (next r q (overfills side table r) refl)
