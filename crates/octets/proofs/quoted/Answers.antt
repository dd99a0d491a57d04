-- `octets::quoted` meets its contract.
use Rattle.std.proofs.Common.{rules}
use Rattle.octets.proofs.Quotes.{no_quote, begins, ended, closed, slash, one}
use Rattle.octets.proofs.quoted.Goals.{then-b-eq-BACKSLASH, else-b-eq-BACKSLASH}
use Rattle.octets.proofs.quoted.Goals as goal

pub returns-then-not-starts_with : goal.returns-then-not-starts_with
returns-then-not-starts_with c = search (no_quote, rules)

pub loop-i-init : goal.loop-i-init
loop-i-init c = search (begins, rules)

pub returns-then-b-eq34 : goal.returns-then-b-eq34
returns-then-b-eq34 c = search (closed, rules)

pub loop-i-preserved : goal.loop-i-preserved
loop-i-preserved c =
    elim c.if-b-eq-BACKSLASH.branch [ then-b-eq-BACKSLASH w ↦ search (slash, rules) | else-b-eq-BACKSLASH w ↦ search (one, rules) ]

pub returns : goal.returns
returns c = search (ended, rules)
