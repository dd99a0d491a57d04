-- A name is one of the spellings of its length, or of none.
use mathlib.Core.Path.{refl}
use mathlib.Core.List.{[], ◌∷◌}
use Rattle.octets.specs.Classes.{text}
use Rattle.sip.specs.Profile.{rows}
use Rattle.lines.proofs.Spellings.{spellings, of_length, pairs, numbered, by_table, no_length, covered, one_letter}
use Rattle.lines.proofs.number_of.Goals as goal

pub returns-in-1 : goal.returns-in-1
returns-in-1 c = (one_letter _ c.in-1.is c.compact.ensures.0, c.compact.ensures.1)

pub returns-in-2 : goal.returns-in-2
unfolding text rows spellings of_length pairs numbered
returns-in-2 c = by_table 2 _ _ refl refl c.in-2.is c.among.ensures

pub returns-in-3 : goal.returns-in-3
unfolding text rows spellings of_length pairs numbered
returns-in-3 c = by_table 3 _ _ refl refl c.in-3.is c.among-in-3.ensures

pub returns-in-4 : goal.returns-in-4
unfolding text rows spellings of_length pairs numbered
returns-in-4 c = by_table 4 _ _ refl refl c.in-4.is c.among-in-4.ensures

pub returns-in-5 : goal.returns-in-5
unfolding text rows spellings of_length pairs numbered
returns-in-5 c = by_table 5 _ _ refl refl c.in-5.is c.among-in-5.ensures

pub returns-in-6 : goal.returns-in-6
unfolding text rows spellings of_length pairs numbered
returns-in-6 c = by_table 6 _ _ refl refl c.in-6.is c.among-in-6.ensures

pub returns-in-7 : goal.returns-in-7
unfolding text rows spellings of_length pairs numbered
returns-in-7 c = by_table 7 _ _ refl refl c.in-7.is c.among-in-7.ensures

pub returns-in-9 : goal.returns-in-9
unfolding text rows spellings of_length pairs numbered
returns-in-9 c = by_table 9 _ _ refl refl c.in-9.is c.among-in-9.ensures

pub returns-in-12 : goal.returns-in-12
unfolding text rows spellings of_length pairs numbered
returns-in-12 c = by_table 12 _ _ refl refl c.in-12.is c.among-in-12.ensures

pub returns-in-14 : goal.returns-in-14
unfolding text rows spellings of_length pairs numbered
returns-in-14 c = by_table 14 _ _ refl refl c.in-14.is c.among-in-14.ensures

pub returns-in-19 : goal.returns-in-19
unfolding text rows spellings of_length pairs numbered
returns-in-19 c = by_table 19 _ _ refl refl c.in-19.is c.among-in-19.ensures

pub returns-in_default : goal.returns-in_default
unfolding text rows spellings covered
returns-in_default c = (search (no_length (19 ∷ 14 ∷ 12 ∷ 9 ∷ 7 ∷ 6 ∷ 5 ∷ 4 ∷ 3 ∷ 2 ∷ 1 ∷ [])), tt)
