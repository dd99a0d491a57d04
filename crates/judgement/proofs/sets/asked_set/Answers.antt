-- Each arm's number is its columns' set, which computes.
use mathlib.Core.Path.{◌≡◌}
use Rattle.std.proofs.Common.{inl, inr}
use Rattle.sip.specs.declared.Column.{Column}
use Rattle.sip.specs.declared.Column.TheVariants.{Invite, Reinvite, Ack, Bye, Cancel, Options, InviteSuccess, CancelResponse, OtherResponse}
use mathlib.Core.Bool.{false}
use Rattle.sip.specs.Profile.{find, mandatory, mark, numbers, rows}
use Rattle.judgement.specs.Sets.{mandatory_set, set_of}
use Rattle.judgement.proofs.sets.asked_set.Goals as goal

at : (k : Column) {c : Column} → c ≡ k → mandatory_set k false ≡ mandatory_set c false
at k e = rw e

pub returns-in-Invite : goal.returns-in-Invite
unfolding mandatory_set set_of numbers rows find mark mandatory
returns-in-Invite c = search (at Invite)

pub returns-in-Reinvite : goal.returns-in-Reinvite
unfolding mandatory_set set_of numbers rows find mark mandatory
returns-in-Reinvite c = search (at Reinvite)

pub returns-in-Ack : goal.returns-in-Ack
unfolding mandatory_set set_of numbers rows find mark mandatory
returns-in-Ack c = elim c.in-Ack.is [ inl e ↦ at Ack e | inr d ↦ elim d [ inl e ↦ at Bye e | inr e ↦ at Options e ] ]

pub returns-in-Cancel : goal.returns-in-Cancel
unfolding mandatory_set set_of numbers rows find mark mandatory
returns-in-Cancel c = search (at Cancel)

pub returns-in-InviteSuccess : goal.returns-in-InviteSuccess
unfolding mandatory_set set_of numbers rows find mark mandatory
returns-in-InviteSuccess c = search (at InviteSuccess)

pub returns-in-CancelResponse : goal.returns-in-CancelResponse
unfolding mandatory_set set_of numbers rows find mark mandatory
returns-in-CancelResponse c = search (at CancelResponse)

pub returns-in-OtherResponse : goal.returns-in-OtherResponse
unfolding mandatory_set set_of numbers rows find mark mandatory
returns-in-OtherResponse c = search (at OtherResponse)
