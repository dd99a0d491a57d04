-- The version is written over the start line as it came: what stands before it and after it stays.
use mathlib.Core.Path.{◌≡◌, sym, ◌∙◌}
use mathlib.Core.List.{List, ◌++◌, append_assoc}
use Prim.Native.Nat.{ℕ, ◌+◌, ◌-◌, ◌≤◌}
use native.Mathlib.Omega.{arith}
use lib.ListN.{length, take, drop}
use lib.Seq.{length-take-le, take-take, take-add, take-append-le, drop_at}
use Rattle.octets.specs.Classes.{text}
use Rattle.emit.specs.Put.{Wrote}
use Rattle.emit.proofs.Laws.{next_room, put_room, put_front, wrote_length}
use Rattle.gateway.specs.Sent.{sent_start}
use Rattle.gateway.proofs.Starts.{start_length}
use Rattle.gateway.proofs.Passing.{version_in, line_in, start_long}
use Rattle.gateway.proofs.message.Outgoing.put_start.Goals as goal

module _ (m : List ℕ) (before line : ℕ) (h : before + 7 ≤ line) (l : line ≤ length m) (d : List ℕ) (room : line ≤ length d)
    {a : List ℕ} (e : a ≡ take line m) where
  long : length a ≡ line
  long = rw e (length-take-le line m l)

  line_fits : 0 + length a ≤ length d
  line_fits = omega (arith, long)

  module _ {d₁ : List ℕ} {n : ℕ} (p : Wrote d 0 a n d₁) where
    version_fits : before + 7 ≤ length d₁
    version_fits = omega (arith, wrote_length p)

    copied : d₁ ≡ a ++ drop line d
    copied = p.holds ∙ put_front d a (omega (arith, long)) ∙ rw long

    -- what stays before the version, and after it
    kept_before : take before d₁ ≡ take before m
    kept_before = rw (copied, take-append-le before a (drop line d) (omega (arith, long)), e) (take-take before line m (omega arith))

    kept_after : drop (before + 7) d₁ ≡ take (line - before - 7) (drop (before + 7) m) ++ drop line d
    kept_after =
        let front : List ℕ = take (before + 7) m in
        let back : List ℕ = take (line - before - 7) (drop (before + 7) m) in
        let k : before + 7 + (line - before - 7) ≡ line = omega arith in
        let both : a ≡ front ++ back = e ∙ rw (← take-add (before + 7) (line - before - 7) m, k) in
        rw (copied, both, append_assoc front back (drop line d))
        (drop_at front (back ++ drop line d) (before + 7) (length-take-le (before + 7) m (omega arith)))

    started : {d₂ : List ℕ} {r : ℕ} → Wrote d₁ before (text "SIP/2.0") r d₂ → {k : ℕ} → k ≡ n → Wrote d 0 (sent_start m before line) k d₂
    unfolding sent_start text
    started q same =
        let s : length (sent_start m before line) ≡ line = start_length m before line h l in
        record {
          next = same ∙ p.next ∙ next_room d 0 a line_fits ∙ rw long (sym (next_room d 0 (sent_start m before line) (omega arith) ∙ rw s));
          holds =
              q.holds ∙ put_room d₁ before (text "SIP/2.0") version_fits
              ∙ rw (kept_before, kept_after, put_front d (sent_start m before line) (omega arith), s, append_assoc, append_assoc);
        }

pub value-end-requires : goal.value-end-requires
value-end-requires c =
    let a = c.args.self.now.of.now in
    line_fits a.message.now a.judged.before a.judged.line (version_in a) (line_in a) c.args.out.now (rw (start_long a) at c.requires) c.first.ensures.0

pub put-requires : goal.put-requires
put-requires c =
    let a = c.args.self.now.of.now in
    version_fits a.message.now a.judged.before a.judged.line (version_in a) (line_in a) c.args.out.now (rw (start_long a) at c.requires) c.first.ensures.0
    c.value-end.ensures

pub returns : goal.returns
unfolding text
returns c =
    let a = c.args.self.now.of.now in
    started a.message.now a.judged.before a.judged.line (version_in a) (line_in a) c.args.out.now (rw (start_long a) at c.requires) c.first.ensures.0
    c.value-end.ensures c.put.ensures (omega arith)
