-- A finding of a CSeq is good exactly where it is one; a value with no line break in it is canonical as it stands.
use mathlib.Core.Path.{◌≡◌}
use mathlib.Core.Bool.{Bool, true}
use mathlib.Core.List.{List}
use Prim.Native.Nat.{ℕ}
use Rattle.sip.specs.Lines.{folded}
use Rattle.sip.specs.Values.{is_cseq}
use Rattle.judgement.specs.declared.Finding.{Finding}
use Rattle.judgement.specs.Entries.{unfolded_by}
use Rattle.judgement.specs.Tallies.{finding}
use Rattle.judgement.proofs.tallies.is_cseq.Goals as goal

joined : (method v : List ℕ) {fold : Bool} → fold ≡ true → {f : Finding} → f ≡ finding method 6 (folded 0 v) → f.good ≡ is_cseq method (unfolded_by fold v)
unfolding finding
joined method v z e = rw (e, z)

pub returns-then-fold : goal.returns-then-fold
returns-then-fold c = search joined
