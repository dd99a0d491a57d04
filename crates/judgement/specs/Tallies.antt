-- What a pass over the kept fields carries, and how one field changes it.
use Rattle.std.specs.Prelude.{Bool, true, not, cond, ◌&&◌, ◌||◌, List, [], ◌∷◌, ℕ, ◌+◌, ◌^◌, eqb}
use Rattle.std.specs.Prelude.{Option, Some, None}
use Rattle.std.specs.Int.Bits.{bit_and, bit_or}
use Rattle.sip.specs.declared.CallerAt.{CallerAt}
use Rattle.sip.specs.Profile.{once}
use Rattle.sip.specs.Values.{is_empty, is_call_id, is_cseq, party}
use Rattle.sip.specs.Readings.{no_span}
use Rattle.sip.specs.Refusals.{Entry}
use Rattle.octets.specs.declared.NumberAt.{NumberAt}
use Rattle.values.specs.declared.AssertedAt.{AssertedAt}
use Rattle.values.specs.Answers.{whole_number, asserted_at, privacy_at, require_at}
use Rattle.judgement.specs.declared.Finding.{Finding}
use Rattle.judgement.specs.declared.Tally.{Tally}
use Rattle.judgement.specs.Sets.{has}

-- found in a value that asserts no identity
abbrev pub found : Bool → ℕ → ℕ → Finding
found good start len = record { good = good; schemes = 0; start = start; len = len }

-- found in a Max-Forwards or a Content-Length
abbrev pub found_whole : NumberAt → Finding
found_whole n = found (not (eqb n.size 0)) 0 n.value

-- found in a P-Asserted-Identity
abbrev pub found_asserted : AssertedAt → Finding
found_asserted a = record { good = not (eqb a.schemes 0); schemes = a.schemes; start = a.start; len = a.len }

-- Via, Contact, Content-Type, Route, Reason and Record-Route: any value that is not empty
abbrev pub only_filled : ℕ → Bool
only_filled n = eqb n 1 || (eqb n 7 || (eqb n 9 || (eqb n 10 || (eqb n 11 || eqb n 18))))

-- what is found in the value v of a field of number n
unfoldable pub finding : List ℕ → ℕ → List ℕ → Finding
finding method n v =
    let hops = whole_number 3 255 v in
    let cut = whole_number 5 99999 v in
    let p = party v in
    let privacy = privacy_at v in
    let tags = require_at v in
    let asserted = asserted_at v in
    cond (only_filled n) (found (not (is_empty v)) 0 0)
    (cond (eqb n 2) (found (not (eqb hops.size 0)) 0 hops.value)
    (cond (eqb n 3) (found (p.good && not (eqb p.len 0)) p.tag p.len)
    (cond (eqb n 4) (found p.good 0 p.len)
    (cond (eqb n 5) (found (is_call_id v) 0 0)
    (cond (eqb n 6) (found (is_cseq method v) 0 0)
    (cond (eqb n 8) (found (not (eqb cut.size 0)) 0 cut.value)
    (cond (eqb n 14) (found tags.good tags.first tags.count)
    (cond (eqb n 15) (found_asserted asserted)
    (cond (eqb n 16) (found privacy.good privacy.first 0)
    (found true 0 0))))))))))

-- a, or b where a is 0
abbrev pub or_else : ℕ → ℕ → ℕ
or_else a b = cond (eqb a 0) b a

-- the first field of number k is the one that comes now
abbrev pub is_first : Tally → ℕ → ℕ → Bool
is_first t k n = eqb n k && not (has t.seen k)

-- CR 6: a P-Asserted-Identity that is well formed, and brings no identity of a scheme that came before
abbrev pub fitting : ℕ → Finding → Bool
fitting schemes f = f.good && eqb (bit_and schemes f.schemes) 0

-- where the caller's number stands after a P-Asserted-Identity in which f was found: in the first, until a sip identity comes in the second
abbrev pub caller_after : ℕ → Option CallerAt → Finding → Option CallerAt
caller_after schemes caller f =
    cond (eqb schemes 0 || eqb f.schemes 1) (Some (record { field = cond (eqb schemes 0) 1 2; start = f.start; len = f.len })) caller

-- the tally with a field of number n in which f was found
unfoldable pub noted : Tally → ℕ → Finding → Tally
noted t n f =
    record {
      seen = bit_or t.seen (2 ^ n);
      schemes = cond (eqb n 15) (bit_or t.schemes f.schemes) t.schemes;
      again = or_else t.again (cond (once n && has t.seen n) n 0);
      malformed = or_else t.malformed (cond (cond (eqb n 15) (fitting t.schemes f) f.good) 0 n);
      hops = cond (is_first t 2 n) f.len t.hops;
      tagged = cond (is_first t 4 n) f.len t.tagged;
      withheld = cond (is_first t 16 n) f.start t.withheld;
      length = cond (is_first t 8 n) f.len t.length;
      tags = cond (eqb n 14) (t.tags + f.len) t.tags;
      lacking = cond (eqb n 14) (or_else t.lacking (cond (eqb f.start 0) 0 (t.tags + f.start))) t.lacking;
      tag = cond (is_first t 3 n) (record { start = f.start; len = f.len }) t.tag;
      caller = cond (eqb n 15) (caller_after t.schemes t.caller f) t.caller;
    }

-- the same in steps: what is noted of every field, what each Require and each P-Asserted-Identity says, and what the first of the others says

-- the tally with these for the set seen, the first that came again and the first malformed one
abbrev pub recounted : Tally → ℕ → ℕ → ℕ → Tally
recounted t seen again malformed =
    record {
      seen = seen;
      schemes = t.schemes;
      again = again;
      malformed = malformed;
      hops = t.hops;
      tagged = t.tagged;
      withheld = t.withheld;
      length = t.length;
      tags = t.tags;
      lacking = t.lacking;
      tag = t.tag;
      caller = t.caller;
    }

unfoldable pub counted : Tally → ℕ → Bool → Tally
counted t n good =
    recounted t (bit_or t.seen (2 ^ n)) (or_else t.again (cond (once n && has t.seen n) n 0)) (or_else t.malformed (cond good 0 n))

-- with these for the number of required tags and the place of the first that we lack
abbrev pub retagged : Tally → ℕ → ℕ → Tally
retagged t tags lacking =
    record {
      seen = t.seen;
      schemes = t.schemes;
      again = t.again;
      malformed = t.malformed;
      hops = t.hops;
      tagged = t.tagged;
      withheld = t.withheld;
      length = t.length;
      tags = tags;
      lacking = lacking;
      tag = t.tag;
      caller = t.caller;
    }

unfoldable pub required : Tally → Finding → Tally
required t f = retagged t (t.tags + f.len) (or_else t.lacking (cond (eqb f.start 0) 0 (t.tags + f.start)))

-- with these for the schemes seen and for where the caller's number stands
abbrev pub reasserted : Tally → ℕ → Option CallerAt → Tally
reasserted t schemes caller =
    record {
      seen = t.seen;
      schemes = schemes;
      again = t.again;
      malformed = t.malformed;
      hops = t.hops;
      tagged = t.tagged;
      withheld = t.withheld;
      length = t.length;
      tags = t.tags;
      lacking = t.lacking;
      tag = t.tag;
      caller = caller;
    }

unfoldable pub identified : Tally → Finding → Tally
identified t f = reasserted t (bit_or t.schemes f.schemes) (caller_after t.schemes t.caller f)

unfoldable pub said : Tally → ℕ → Finding → Tally
said t n f =
    record {
      seen = t.seen;
      schemes = t.schemes;
      again = t.again;
      malformed = t.malformed;
      hops = cond (eqb n 2) f.len t.hops;
      tagged = cond (eqb n 4) f.len t.tagged;
      withheld = cond (eqb n 16) f.start t.withheld;
      length = cond (eqb n 8) f.len t.length;
      tags = t.tags;
      lacking = t.lacking;
      tag = cond (eqb n 3) (record { start = f.start; len = f.len }) t.tag;
      caller = t.caller;
    }

abbrev pub no_tally : Tally
no_tally =
    record {
      seen = 0;
      schemes = 0;
      again = 0;
      malformed = 0;
      hops = 0;
      tagged = 0;
      withheld = 0;
      length = 0;
      tags = 0;
      lacking = 0;
      tag = no_span;
      caller = None;
    }

-- the tally with these fields after it
unfoldable pub tallied : List ℕ → Tally → List Entry → Tally
tallied method t [] = t
tallied method t (e ∷ es) = tallied method (noted t e.number (finding method e.number e.value)) es
