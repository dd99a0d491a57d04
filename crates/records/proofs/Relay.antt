-- A relay caller's message without its `X-Relay-Mode` fields: the name is not listed, so that adding them again is a change of demand 3.
use mathlib.Core.Path.{◌≡◌, refl, sym, ap, ◌∙◌}
use mathlib.Core.Bool.{Bool, true, false, false≢true}
use mathlib.Core.List.{List, [], ◌∷◌, ◌++◌}
use mathlib.Core.Option.{Option, none, some}
use Prim.Native.Nat.{ℕ, ◌≤◌}
use native.Mathlib.Omega.{arith}
use lib.ListN.{length, length-append}
use Rattle.octets.specs.Classes.{text, within}
use Rattle.octets.specs.Scans.{same_text}
use Rattle.sip.specs.declared.Column.{Column}
use Rattle.sip.specs.Lines.{start_bytes, Field, bytes}
use Rattle.sip.specs.Profile.{Row, rows, is_compact, lookup, number_of, find, mark, ignored}
use Rattle.sip.specs.Refusals.{message_column}
use Rattle.sip.specs.Readings.{named, has_field}
use Rattle.sip.specs.Change.{AllShaped, none_left, one_more, header_bytes, Varied, no_fields, unchanged, added, Changed}
use Rattle.sip.proofs.Change.{nothing_else, everything}
use Rattle.sip.proofs.Texts.{same_parts}
use Rattle.records.specs.History.{relay_group, other_group, group_of, reason_of}
use Rattle.records.specs.Promises.{without, RelayNotCause}
use Rattle.records.proofs.Reasons.{groups_read, same_reason}

-- ---- the name is not listed, in any letter case

same_turned : (z x y : List ℕ) → same_text x y ≡ true → same_text z y ≡ same_text z x
unfolding same_text
same_turned z [] [] e = refl
same_turned z [] (b ∷ y) e = absurd (false≢true e)
same_turned z (a ∷ x) [] e = absurd (false≢true e)
same_turned [] (a ∷ x) (b ∷ y) e = refl
same_turned (c ∷ z) (a ∷ x) (b ∷ y) e =
    let (p, q) = same_parts a b x y e in
    rw (p, same_turned z x y q)

compact_turned : (c : Option (List ℕ)) (x y : List ℕ) → same_text x y ≡ true → is_compact c y ≡ is_compact c x
compact_turned none x y e = refl
compact_turned (some c) x y e = same_turned c x y e

lookup_turned : (rs : List Row) (x y : List ℕ) → same_text x y ≡ true → lookup rs y ≡ lookup rs x
unfolding lookup
lookup_turned [] x y e = refl
lookup_turned (r ∷ rs) x y e = rw (same_turned r.name x y e, compact_turned r.compact x y e, lookup_turned rs x y e)

abbrev relay : List ℕ
relay = text "X-Relay-Mode"

relay_unlisted : number_of relay ≡ 0
unfolding number_of lookup rows same_text text
relay_unlisted = refl

named_unlisted : (n : List ℕ) → same_text relay n ≡ true → number_of n ≡ 0
unfolding number_of
named_unlisted n e = lookup_turned rows relay n e ∙ relay_unlisted

-- "Names not listed are ignored too."
unlisted_ignored : (c : Option Column) → ignored c 0 ≡ true
unfolding ignored mark find rows
unlisted_ignored none = refl
unlisted_ignored (some c) = refl

relay_ignored : (c : Option Column) (n : List ℕ) → same_text relay n ≡ true → ignored c (number_of n) ≡ true
relay_ignored c n e = rw (named_unlisted n e) (unlisted_ignored c)

-- ---- the fields without those of that name

record Fewer (c : Option Column) (rest : List ℕ) (fs : List Field) : Type 0 where
  shaped : AllShaped (without relay fs)
  varied : Varied (ignored c) (without relay fs) fs
  no_more : length (without relay fs) ≤ length fs
  shorter : length (header_bytes (without relay fs) rest) ≤ length (header_bytes fs rest)
  unnamed : named relay (without relay fs) ≡ false

fewer : (c : Option Column) (rest : List ℕ) (fs : List Field) → AllShaped fs → Fewer c rest fs
unfolding without named
fewer c rest [] none_left = record { shaped = none_left; varied = no_fields; no_more = omega arith; shorter = omega arith; unnamed = refl }
fewer c rest (f ∷ fs) (one_more w h) = go (same_text relay f.name) refl (fewer c rest fs h)
  where
    go : (t : Bool) → same_text relay f.name ≡ t → Fewer c rest fs → Fewer c rest (f ∷ fs)
    go true q l =
        let e : without relay (f ∷ fs) ≡ without relay fs = rw q in
        record {
          shaped = rw e l.shaped;
          varied = rw e (added w (relay_ignored c f.name q) l.varied);
          no_more = rw e (omega (arith, l.no_more));
          shorter = rw e (omega (arith, l.shorter, length-append (bytes f) (header_bytes fs rest)));
          unnamed = rw e l.unnamed;
        }
    go false q l =
        let e : without relay (f ∷ fs) ≡ f ∷ without relay fs = rw q in
        record {
          shaped = rw e (one_more w l.shaped);
          varied = rw e (unchanged l.varied);
          no_more = rw e (omega (arith, l.no_more));
          shorter =
              rw e
              (omega (
                arith,
                l.shorter,
                length-append (bytes f) (header_bytes fs rest),
                length-append (bytes f) (header_bytes (without relay fs) rest),
              ));
          unnamed = rw (e, q) l.unnamed;
        }

-- ---- the message without them

record Removed (m : List ℕ) : Type 0 where
  plain : List ℕ
  change : Changed plain m
  other_fields : change.fields ≡ without relay change.fields'
  has_none : has_field plain relay ≡ false

removed : (m : List ℕ) → Changed m m → Removed m
unfolding has_field
removed m c =
    let fs : List Field = without relay c.fields in
    let l = fewer (message_column c.line fs) c.rest c.fields c.all_shaped in
    let s : List ℕ = start_bytes c.line c.version in
    let p : List ℕ = s ++ header_bytes fs c.rest in
    let d : Changed p m =
    record {
      line = c.line;
      version = c.version;
      fields = fs;
      fields' = c.fields;
      rest = c.rest;
      start_shaped = c.start_shaped;
      all_shaped = l.shaped;
      varied = l.varied;
      original = refl;
      changed = c.original;
      within_bytes =
          omega (
            arith,
            length-append s (header_bytes fs c.rest),
            length-append s (header_bytes c.fields c.rest),
            ap length c.original,
            l.shorter,
            c.within_bytes,
          );
      within_bytes' = c.within_bytes;
      within_fields = omega (arith, l.no_more, c.within_fields);
      within_fields' = c.within_fields;
    }
    in
    record { plain = p; change = d; other_fields = refl; has_none = rw (nothing_else p m d).original_reads l.unnamed }

-- ---- the promise

relay_read : (m : List ℕ) (r : ℕ) → group_of m r ≡ relay_group → within 1 5 r ≡ false
unfolding group_of
relay_read m r e = go (within 1 5 r) refl
  where
    go : (t : Bool) → within 1 5 r ≡ t → within 1 5 r ≡ false
    go true q = absurd (omega (arith, rw q at e))
    go false q = q

other_group_lem : (m : List ℕ) (r : ℕ) → within 1 5 r ≡ false → has_field m relay ≡ false → group_of m r ≡ other_group
unfolding group_of
other_group_lem m r e n = rw (e, n)

pub relay_not_cause : RelayNotCause
relay_not_cause m side table e =
    let read : within 1 5 (reason_of m side table) ≡ false = relay_read m (reason_of m side table) e in
    let h = groups_read m side table read in
    let p = removed m (everything m h.line h.header h.reads).change in
    let (a, b) = same_reason p.plain m side table p.change in
    let k : reason_of p.plain side table ≡ reason_of m side table = sym a in
    record {
      plain = p.plain;
      change = p.change;
      other_fields = p.other_fields;
      has_none = p.has_none;
      reason_kept = k;
      calls_kept = sym b;
      among_others = rw k (other_group_lem p.plain (reason_of m side table) read p.has_none);
    }
