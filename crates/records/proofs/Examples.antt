-- Every worked text prints what it is said to print: both sides compute to the same.
use mathlib.Core.Path.{refl}
use Rattle.sip.specs.Readings.{named, has_field}
use Rattle.sip.proofs.Starred.{computed}
use Rattle.records.specs.Records.{mark, record_bytes, marked, refusal_at, whole_records, limited, recording}
use Rattle.records.specs.History.{group_of, reason_of, calls_left, outcome_of, history_from, history}
use Rattle.records.specs.Report.{how_many, rate, table, line_of, report, pair, pairs, line_text, end_text, printed, replayed}
use Rattle.records.specs.Examples.{on_side, all_lines, times, examples, hidden_invites, call_examples, AllPrint, no_example, example, shares}
use Rattle.records.specs.Examples.{AllRates, no_share, share}

pub examples_print : AllPrint examples
unfolding computed named has_field mark record_bytes marked refusal_at whole_records limited recording group_of reason_of calls_left outcome_of history_from
    history how_many rate table line_of report pair pairs line_text end_text printed replayed on_side all_lines times examples
examples_print =
    example refl (example refl (example refl (example refl (example refl (example refl (example refl (example refl (example refl (example refl (example refl (example refl (example refl (example refl (example refl (example refl (example refl (example refl (example refl (example refl (example refl (example refl (example refl (example refl (example refl (example refl (example refl (example refl (example refl (example refl (example refl (example refl (example refl (example refl (example refl (example refl (example refl (example refl (example refl (example refl (example refl no_example))))))))))))))))))))))))))))))))))))))))

pub calls_print : AllPrint call_examples
unfolding computed named has_field mark record_bytes marked refusal_at whole_records limited recording group_of reason_of calls_left outcome_of history_from
    history how_many rate table line_of report pair pairs line_text end_text printed replayed on_side all_lines hidden_invites call_examples
calls_print = example refl (example refl no_example)

pub rates_hold : AllRates shares
unfolding rate shares
rates_hold = share refl (share refl (share refl (share refl (share refl (share refl no_share)))))
