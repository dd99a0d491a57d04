-- The letter is the key of an arm, whose number computes, or of none.
use mathlib.Core.Path.{refl}
use native.Mathlib.Omega.{arith}
use Rattle.octets.specs.Classes.{text}
use Rattle.octets.specs.Scans.{lower, same_text}
use Rattle.sip.specs.Profile.{rows, lookup, number_of}
use Rattle.lines.proofs.Spellings.{letter, no_letter}
use Rattle.lines.proofs.names.compact.Goals as goal

pub returns-in-118 : goal.returns-in-118
unfolding text lower same_text rows lookup number_of
returns-in-118 c = (letter c.args.b c.to_ascii_lowercase.ensures.value 118 _ refl c.in-118.is, (omega arith, omega arith))

pub returns-in-102 : goal.returns-in-102
unfolding text lower same_text rows lookup number_of
returns-in-102 c = (letter c.args.b c.to_ascii_lowercase.ensures.value 102 _ refl c.in-102.is, (omega arith, omega arith))

pub returns-in-116 : goal.returns-in-116
unfolding text lower same_text rows lookup number_of
returns-in-116 c = (letter c.args.b c.to_ascii_lowercase.ensures.value 116 _ refl c.in-116.is, (omega arith, omega arith))

pub returns-in-105 : goal.returns-in-105
unfolding text lower same_text rows lookup number_of
returns-in-105 c = (letter c.args.b c.to_ascii_lowercase.ensures.value 105 _ refl c.in-105.is, (omega arith, omega arith))

pub returns-in-109 : goal.returns-in-109
unfolding text lower same_text rows lookup number_of
returns-in-109 c = (letter c.args.b c.to_ascii_lowercase.ensures.value 109 _ refl c.in-109.is, (omega arith, omega arith))

pub returns-in-108 : goal.returns-in-108
unfolding text lower same_text rows lookup number_of
returns-in-108 c = (letter c.args.b c.to_ascii_lowercase.ensures.value 108 _ refl c.in-108.is, (omega arith, omega arith))

pub returns-in-99 : goal.returns-in-99
unfolding text lower same_text rows lookup number_of
returns-in-99 c = (letter c.args.b c.to_ascii_lowercase.ensures.value 99 _ refl c.in-99.is, (omega arith, omega arith))

pub returns-in-107 : goal.returns-in-107
unfolding text lower same_text rows lookup number_of
returns-in-107 c = (letter c.args.b c.to_ascii_lowercase.ensures.value 107 _ refl c.in-107.is, (omega arith, omega arith))

pub returns-in_default : goal.returns-in_default
returns-in_default c = (no_letter c.args.b c.to_ascii_lowercase.ensures.value c.in_default.in_default-own.rest, tt)
