-- Each column's set with an empty body is the other without bit 9, by computing both.
use mathlib.Core.Path.{◌≡◌, refl}
use mathlib.Core.Bool.{Bool, true, false}
use Prim.Native.Nat.{ℕ}
use lib.Bits.{bit_and}
use Rattle.sip.specs.declared.Column.{Column}
use Rattle.sip.specs.declared.Column.TheVariants.{Invite, Reinvite, Ack, Bye, Cancel, Options, InviteSuccess, CancelResponse, OtherResponse}
use Rattle.sip.specs.Profile.{find, mandatory, mark, numbers, rows}
use Rattle.judgement.specs.Sets.{mandatory_set, set_of}
use Rattle.judgement.proofs.sets.mandatory_set.Goals as goal

emptied : (c : Column) → bit_and (mandatory_set c false) 4294966783 ≡ mandatory_set c true
unfolding mandatory_set set_of numbers rows find mark mandatory
emptied Invite = refl
emptied Reinvite = refl
emptied Ack = refl
emptied Bye = refl
emptied Cancel = refl
emptied Options = refl
emptied InviteSuccess = refl
emptied CancelResponse = refl
emptied OtherResponse = refl

whole : (c : Column) {n : ℕ} → n ≡ mandatory_set c false → {b : Bool} → b ≡ true → bit_and n 4294966783 ≡ mandatory_set c b
whole c e z = rw (e, z) (emptied c)

pub returns-then-empty : goal.returns-then-empty
returns-then-empty c = search whole
