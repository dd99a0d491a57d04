-- Each arm's number is its columns' set, which computes.
use mathlib.Core.Path.{◌≡◌}
use Rattle.std.proofs.Common.{inl, inr}
use Rattle.sip.specs.declared.Column.{Column}
use Rattle.sip.specs.declared.Column.TheVariants.{Invite, Reinvite, Ack, Bye, Cancel, Options, InviteSuccess, CancelResponse, OtherResponse}
use Rattle.sip.specs.Profile.{find, ignored, mark, numbers, rows}
use Rattle.judgement.specs.Sets.{kept_set, set_of}
use Rattle.judgement.proofs.sets.kept_set.Goals as goal

at : (k : Column) {c : Column} → c ≡ k → kept_set k ≡ kept_set c
at k e = rw e

pub returns-in-Invite : goal.returns-in-Invite
unfolding kept_set set_of numbers rows find mark ignored
returns-in-Invite c = elim c.in-Invite.is [ inl e ↦ at Invite e | inr e ↦ at Reinvite e ]

pub returns-in-Ack : goal.returns-in-Ack
unfolding kept_set set_of numbers rows find mark ignored
returns-in-Ack c = search (at Ack)

pub returns-in-Bye : goal.returns-in-Bye
unfolding kept_set set_of numbers rows find mark ignored
returns-in-Bye c = search (at Bye)

pub returns-in-Cancel : goal.returns-in-Cancel
unfolding kept_set set_of numbers rows find mark ignored
returns-in-Cancel c = search (at Cancel)

pub returns-in-Options : goal.returns-in-Options
unfolding kept_set set_of numbers rows find mark ignored
returns-in-Options c = search (at Options)

pub returns-in-InviteSuccess : goal.returns-in-InviteSuccess
unfolding kept_set set_of numbers rows find mark ignored
returns-in-InviteSuccess c = elim c.in-InviteSuccess.is [ inl e ↦ at InviteSuccess e | inr e ↦ at OtherResponse e ]

pub returns-in-CancelResponse : goal.returns-in-CancelResponse
unfolding kept_set set_of numbers rows find mark ignored
returns-in-CancelResponse c = search (at CancelResponse)
