-- The numbers that the code's kinds stand for.
use Rattle.std.specs.Prelude.{Bool, cond, ℕ, Result, Ok, Err}
use Rattle.octets.specs.Classes.{within}
use Rattle.records.specs.History.{relay_group, other_group, unread_group}
use Rattle.records.specs.declared.group.Group.{Group}
use Rattle.records.specs.declared.group.Group.TheVariants.{Relay, Other, Unread}
use Rattle.records.specs.declared.record.End.{End}
use Rattle.records.specs.declared.record.End.TheVariants.{BadMark, CutShort, TooMany}

abbrev pub group_number : Group → ℕ
group_number Relay = relay_group
group_number Other = other_group
group_number Unread = unread_group

-- the group of a message, by its reason and whether it has the field of relay callers
abbrev pub group_by : ℕ → Bool → ℕ
group_by reason relays = cond (within 1 5 reason) unread_group (cond relays relay_group other_group)

abbrev pub end_number : End → ℕ
end_number BadMark = 31
end_number CutShort = 32
end_number TooMany = 33

-- why no whole record stands there, 0 where one does
abbrev pub refusal_in : {R : Type 0} → Result R End → ℕ
refusal_in (Ok r) = 0
refusal_in (Err e) = end_number e
