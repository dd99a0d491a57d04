-- The worked cases, computed.
use mathlib.Core.Path.{refl}
use Rattle.sip.proofs.Starred.{computed}
use Rattle.isup.specs.Fields.{packed, octets, signals, fields_of, filler_is_zero}
use Rattle.isup.specs.Forward.{is_code, starts_with, is_national, sent, fields_for, encoded, padded, is_initial_invite, calling_of, produced}
use Rattle.isup.specs.Backward.{is_cut, is_named, number_from, caller_with, caller_for, decoded, status_for}
use Rattle.isup.specs.Cases.{hex_in, hex, written, taken, refused, given, cases, AllHold, no_row, row}

pub cases_hold : AllHold cases
unfolding computed packed octets signals fields_of filler_is_zero is_code starts_with is_national sent fields_for encoded padded is_initial_invite calling_of
    produced is_cut is_named number_from caller_with caller_for decoded status_for hex_in hex written taken refused given cases
cases_hold =
    row refl (row refl (row refl (row refl (row refl (row refl (row refl (row refl (row refl (row refl (row refl (row refl (
    row refl (row refl (row refl (row refl (row refl (row refl (row refl (row refl (row refl (row refl (row refl (row refl (
    row refl (row refl (row refl (row refl (row refl (row refl (row refl (row refl (row refl (row refl (row refl (row refl (
    row refl (row refl (row refl (row refl (row refl (row refl (row refl (row refl (row refl (row refl (row refl (row refl (
    row refl (row refl (row refl (row refl (row refl (row refl (row refl (row refl (row refl (row refl (row refl (row refl (
    row refl (row refl (row refl (row refl (row refl (row refl (row refl (row refl (row refl (row refl (row refl (row refl (
    row refl (row refl (row refl (row refl (row refl (row refl (row refl (row refl (row refl (row refl (row refl (row refl (
    row refl (row refl (row refl (row refl (row refl (row refl (row refl (row refl (row refl (row refl (row refl (row refl (
    row refl (row refl (row refl (row refl (no_row))))))))))))))))))))))))))))))))))))))))))))))))))))))))))))))))))))))))))))))))))))))))))))))))))))
