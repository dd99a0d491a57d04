-- Every row of the five tables holds: both sides of each compute to the same, and the test for two callers computes to true.
use mathlib.Core.Path.{refl}
use Prim.Native.Nat.{ℕ}
use Rattle.octets.specs.Classes.{text, is_digit, is_hex, is_token, is_user, is_parameter, is_host, is_blank, is_break, is_gap, is_value, is_visible}
use Rattle.octets.specs.Scans.{run, all, starts, escape, run_escaped, closes, quoted, decimal, number, lower, same, same_text, any}
use Rattle.sip.specs.Lines.{is_version, request_line, is_version_first, status_line, start, starts_crlf, starts_blank, value_size, shape, header}
use Rattle.sip.specs.Lines.{joined, folded, trim_end, trim, canonical}
use Rattle.sip.specs.Output.{digits, start_line, anonymous, sent_value, line, field_lines, output}
use Rattle.sip.specs.Profile.{rows, lookup, number_of, find, name_of, once, mark, column_of, response_column, ignored, mandatory, numbers}
use Rattle.sip.specs.Refusals.{replied, lines, kept, value_of, occurs, to_tagged, withheld, content_length, body_of, other_scheme, reason7, is_uri}
use Rattle.sip.specs.Refusals.{reason8, first_repeat, reason9, well_formed, brought, first_malformed, reason10, exceeds, reason11, missing_of}
use Rattle.sip.specs.Refusals.{reason12, no_hops, reason13, all_tags, first_lacking, reason14, reason15, reasons, response_reasons, judged_request}
use Rattle.sip.specs.Refusals.{first_cseq_method, response_column_of, judged_response, judgement}
use Rattle.sip.specs.Calls.{is_tag_value, is_pair, same_pair, is_in, distinct, places, table_of, stored, pair_at, place_with, free_place, pairs_in, held}
use Rattle.sip.specs.Calls.{is_held, is_full, none_held, first_where, starts_with0, first_spare, new_place, placed, entered, holds, cleared, removed}
use Rattle.sip.specs.Screen.{call_of, hides, closes as closes_call, masks, overfills, calls_after, decided, verdict, screened}
use Rattle.sip.specs.Starred.{lines_of, call_with, call, printed, blank_buffer, starred}
use Rattle.sip.specs.Responses.{response_with, written, responses}
use Rattle.sip.specs.Privacy.{request_with, outgoing, call_with_privacy, masked, unmasked, privacies}
use Rattle.sip.specs.Hidden.{OtherCall, PairsHold, other_call, shown, short_call, short_sent}
use Rattle.sip.specs.Hidden.{bye_from, bye_sent, many_fields, spaces, stretched, pairs}
use Rattle.sip.specs.IdentityCases.{identity_cases}
use Rattle.sip.specs.Promises.{only}
use Rattle.sip.specs.Readings.{value_span, value_spans, spans, count, place, reading_at, reading, asserted, sip_or, caller_in, calling_number}
use Rattle.sip.specs.Values.{is_empty, is_number, is_max_forwards, is_content_length, is_cseq, cseq_method, is_call_id, host, port, host_port, tail}
use Rattle.sip.specs.Values.{sip_from, sip}
use Rattle.sip.specs.Values.{tel, uri, display, bracketed, address, sign, param_value, param_rest, param, with_param, stops, params, party}
use Rattle.sip.specs.Values.{is_to, is_tagged, is_from, tag_of, is_global, person, identity, identities, schemes, allowed, is_asserted}
use Rattle.sip.specs.Values.{tokens, is_privacy, is_restricting, restricts, is_require, required_tags, first_place, is_lacking, is_short, is_called}
use Rattle.causes.specs.Causes.{status, cause, status_entries, class_ends, next_above, row_of, status_of, cause_entries, cause_of, listed, given, among}
use Rattle.sip.specs.Starred.{AllHold, no_row, row}
use Rattle.sip.proofs.Pairs.{differ, are_allowed, two_fields, any_withholds, two_headers, two_starts, are_two_callers, callers_found, AllCompute}
use Rattle.sip.proofs.Pairs.{no_more, next, all_hold}

-- what the rows compute with: whoever unfolds this unfolds all of it
unfoldable pub computed : ℕ
unfolding status cause status_entries class_ends next_above row_of status_of cause_entries cause_of listed given among text is_digit is_hex
    is_token is_user is_parameter is_host is_blank is_break is_gap is_value is_visible run all starts escape run_escaped closes quoted decimal
    number lower same same_text is_version request_line is_version_first status_line start starts_crlf starts_blank value_size shape header any
    joined folded trim_end trim canonical digits start_line anonymous sent_value line field_lines output rows lookup number_of find name_of
    once mark column_of response_column ignored mandatory numbers replied lines kept value_of occurs to_tagged withheld content_length body_of
    other_scheme reason7 is_uri reason8 first_repeat reason9 well_formed brought first_malformed reason10 exceeds reason11 missing_of reason12
    no_hops reason13 all_tags first_lacking reason14 reason15 reasons response_reasons judged_request first_cseq_method response_column_of
    judged_response judgement is_tag_value is_pair same_pair is_in distinct places table_of stored pair_at place_with free_place pairs_in held
    is_held is_full none_held first_where starts_with0 first_spare new_place placed entered holds cleared removed call_of hides closes_call masks
    overfills calls_after decided verdict screened lines_of call_with call printed blank_buffer starred response_with written responses
    request_with outgoing call_with_privacy masked unmasked privacies other_call shown short_call short_sent bye_from bye_sent many_fields spaces
    stretched pairs two_fields any_withholds two_headers two_starts are_two_callers value_span value_spans spans count place reading_at reading
    asserted sip_or caller_in calling_number are_allowed only identity_cases is_empty is_number is_max_forwards is_content_length is_cseq cseq_method
    is_call_id host port host_port tail sip_from sip tel uri display bracketed address sign param_value param_rest param with_param stops
    params party is_to is_tagged is_from tag_of is_global person identity identities schemes allowed is_asserted tokens is_privacy
    is_restricting restricts is_require required_tags first_place is_lacking is_short is_called
computed = 0

tables_hold : AllHold starred × AllHold responses × AllHold privacies × AllHold identity_cases
unfolding computed
tables_hold = (
  row refl (row refl (row refl (row refl (row refl (row refl (row refl (row refl (row refl (row refl (row refl (row refl (row refl
      no_row)))))))))))),
  row refl (row refl (row refl (row refl (row refl (row refl (row refl (row refl (row refl (row refl (row refl (row refl (row refl
      (row refl (row refl (row refl (row refl (row refl (row refl (row refl (row refl (row refl (row refl (row refl (row refl
      (row refl (row refl (row refl (row refl (row refl (row refl (row refl (row refl no_row)))))))))))))))))))))))))))))))),
  row refl (row refl (row refl (row refl (row refl (row refl (row refl (row refl (row refl (row refl (row refl (row refl (row refl
      (row refl (row refl (row refl (row refl (row refl (row refl (row refl (row refl (row refl (row refl (row refl (row refl
      (row refl (row refl (row refl (row refl (row refl (row refl (row refl (row refl (row refl (row refl (row refl (row refl
      (row refl (row refl (row refl no_row))))))))))))))))))))))))))))))))))))))),
  row refl (row refl (row refl (row refl (row refl (row refl (row refl (row refl (row refl (row refl (row refl (row refl (row refl (
      row refl (row refl (row refl (row refl (row refl (row refl (row refl (row refl (row refl (row refl (row refl (row refl (row refl (
      row refl (row refl (row refl (row refl (row refl (row refl (row refl (row refl (row refl (row refl (row refl (row refl (row refl (
      row refl (row refl (row refl (row refl (row refl (row refl (row refl (row refl (row refl (row refl (row refl (row refl (row refl (
      row refl (row refl (row refl (row refl (row refl (row refl no_row))))))))))))))))))))))))))))))))))))))))))))))))))))))))),
)

pub starred_hold : AllHold starred
starred_hold = tables_hold.0

pub responses_hold : AllHold responses
responses_hold = tables_hold.1

pub privacies_hold : AllHold privacies
privacies_hold = tables_hold.2

pub identities_hold : AllHold identity_cases
identities_hold = tables_hold.3

pairs_compute : AllCompute pairs
unfolding computed
pairs_compute =
    next refl (next refl (next refl (next refl (next refl (next refl (next refl (next refl (next refl (next refl (next refl (next refl (
    next refl (next refl (next refl (next refl (next refl (next refl (next refl (next refl (next refl (next refl (next refl (next refl (
    next refl (next refl (next refl (next refl (next refl (next refl (next refl (next refl (next refl (next refl (next refl (next refl (
    next refl (next refl (next refl (next refl (next refl (next refl (next refl (next refl (next refl (next refl no_more)))))))))))))))))))))))))))))))))))))))))))))

pub other_call_lem : OtherCall
unfolding computed
other_call_lem = record { two_callers = callers_found call other_call refl; bytes_differ = differ call other_call refl }

pub pairs_hold : PairsHold pairs
pairs_hold = all_hold pairs_compute
