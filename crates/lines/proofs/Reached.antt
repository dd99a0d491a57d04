-- A pass over the fields: what is stored so far and what the fields from a place on come to are the message. One step is one field.
use mathlib.Core.Path.{◌≡◌, refl, sym, ap, ◌∙◌}
use mathlib.Core.Bool.{Bool, true, false, cond}
use mathlib.Core.List.{List, [], ◌∷◌, ◌++◌, append-nil}
use mathlib.Core.Option.{Option, none, some}
use Prim.Native.Nat.{ℕ, suc, ◌+◌, ◌-◌, ◌^◌, ◌≤◌, ◌<◌}
use native.Mathlib.Omega.{arith}
use lib.Dec.{leb, ltb, eqb}
use lib.ListN.{length, take, drop, length-append, length-drop}
use lib.Seq.{append_snoc, drop-drop}
use borrow.Author.Tests.{ltb-true, ltb-false, leb-true, leb-false, le-leb, lt-leb}
use Rattle.octets.specs.Classes.{is_break}
use Rattle.octets.specs.Scans.{any}
use Rattle.sip.specs.Lines.{Start, start, start_size, starts_crlf, Shape, size, Field, bytes, field_of, Header, with_field, header}
use Rattle.sip.specs.Profile.{number_of}
use Rattle.sip.specs.Refusals.{unread, read}
use Rattle.sip.specs.Readings.{value_span}
use Rattle.sip.proofs.Fields.{FieldHere, field_here, length_bytes}
use Rattle.lines.specs.Places.{start_at, field_at, named_at}
use Rattle.lines.specs.declared.StartLine.{StartLine}
use Rattle.lines.specs.Index.{slot_of, slots_of, padded, Indexed, unread_index, read_index, index_of, index}
use Rattle.lines.specs.Passes.{start_lengths, line_size, slot_for, listed_slot, ValueStands, stored, more, kept, closed_end, settled}
use Rattle.std.specs.Prelude.{Option as Answer, None, Some, Result, Ok, Err}
use Rattle.lines.specs.declared.named.Named.{Named}
use Rattle.lines.specs.declared.Slot.{Slot}
use Rattle.lines.specs.declared.field.ValueAt.{ValueAt}
use Rattle.lines.specs.declared.Unread.{Unread}
use Rattle.lines.specs.declared.Unread.TheVariants.{BadFields, TooManyFields}
use Rattle.lines.specs.declared.header.Ended.{Ended}
use Rattle.lines.proofs.Values.{crlf_room}
use Rattle.lines.proofs.Starts.{start_long}
use Rattle.lines.proofs.Fields.{Found, Bad, FieldRead, field_bad, field_read, field_fits}
use Rattle.lines.proofs.NamedFields.{NameRead, name_read, unnamed_field, named_line, endless_field, found_field}
use Rattle.lines.proofs.Headers.{lines_begun, header_done, header_bad, header_found}
use Rattle.lines.proofs.Packs.{store_next}

-- the message whose fields from place at on are these, with number fields before them, of which done are listed
abbrev index_from : List ℕ → List Slot → ℕ → ℕ → Option Header → Indexed
index_from m done number at none = unread_index 4
index_from m done number at (some h) =
    let ss = done ++ slots_of at h.fields in
    cond (leb (number + length h.fields) 96)
    (record { head = record { reason = 0; method = (start_lengths m).method; uri = (start_lengths m).uri; line = (start_lengths m).line; rest = length m - length h.rest; count = length ss }; slots = padded ss })
    (unread_index 5)

pub record Reached (m : List ℕ) (number at count : ℕ) (ns : List ℕ) : Type 0 where
  pub done : List Slot
  pub held : ns ≡ padded done
  pub counted : count ≡ length done
  pub listed : count ≤ number
  pub same : index m ≡ index_from m done number at (header 0 (drop at m))

-- ---- one field more

module _ (m : List ℕ) (done : List Slot) (number at : ℕ) (f : Field) where
  abbrev after : ℕ
  after = at + length (bytes f)

  one_more : (k : ℕ) → number + suc k ≡ number + 1 + k
  one_more k = omega arith

  step_unlisted : eqb (number_of f.name) 0 ≡ true → (o : Option Header)
      → index_from m done number at (with_field f o) ≡ index_from m done (number + 1) after o
  unfolding slots_of
  step_unlisted e none = refl
  step_unlisted e (some h) = rw (e, one_more (length h.fields))

  step_kept : eqb (number_of f.name) 0 ≡ false → (o : Option Header)
      → index_from m done number at (with_field f o) ≡ index_from m (done ++ slot_of at f ∷ []) (number + 1) after o
  unfolding slots_of
  step_kept e none = refl
  step_kept e (some h) = rw (e, one_more (length h.fields), append_snoc done (slot_of at f) (slots_of after h.fields))

  -- more than 96 are refused, whatever is stored of them
  step_full : 96 ≤ number → (o : Option Header)
      → index_from m done number at (with_field f o) ≡ index_from m done (number + 1) after o
  step_full l none = refl
  step_full l (some h) =
      rw (lt-leb (number + suc (length h.fields)) 96 (omega arith), lt-leb (number + 1 + length h.fields) 96 (omega arith))

stored_next : (ns : List ℕ) (count : ℕ) (s : Slot) (done : List Slot) (r : Slot) → ns ≡ padded done → count ≡ length done → s ≡ r → count < 96
    → stored ns count s ≡ padded (done ++ r ∷ [])
stored_next ns count s done r a b c l = rw (a, c, b) (store_next done r (omega arith))

-- ---- the loop

module _ (m : List ℕ) (l : length m ≤ 8192) (k : Start) (r : start m ≡ some k) where
  from_header : (o : Option Header) → header 0 (drop (start_size k) m) ≡ o → index m ≡ index_from m [] 0 (start_size k) o
  unfolding index start_lengths
  from_header none x = rw (lines_begun m l k r, x)
  from_header (some h) x =
      let z : 0 + length h.fields ≡ length h.fields = omega arith in
      rw (lines_begun m l k r, r, x, z) (few (leb (length h.fields) 96))
    where
      few : (t : Bool) → index_of m (cond t (read k h) (unread 5)) ≡ cond t (read_index m k h) (unread_index 5)
      few true = refl
      few false = refl

pub begin : (m : List ℕ) (at : ℕ) {k : StartLine} → Some k ≡ start_at m → length m ≤ 8192 → at ≡ line_size k → {ns : List ℕ} → ns ≡ padded [] → Reached m 0 at 0 ns
begin m at {k} e l f q =
    let (j, r, p) = (start_long m k e).3 in
    record { done = []; held = q; counted = refl; listed = omega arith; same = rw (f ∙ p) (from_header m l j r (header 0 (drop (start_size j) m)) refl) }

module _ (m : List ℕ) (number at count : ℕ) (ns : List ℕ) (h : Reached m number at count ns) where
  module _ {b : Bool} (hb : b ≡ starts_crlf (drop at m)) where
    module _ (q : b ≡ true) where
      at_empty : index m ≡ index_from m h.done number at (some (record { fields = []; rest = drop 2 (drop at m) }))
      at_empty = h.same ∙ ap (index_from m h.done number at) (header_done (drop at m) (sym hb ∙ q))

      many : 96 < number → settled m (Err TooManyFields) ns ≡ index m
      many l = sym (at_empty ∙ rw (lt-leb (number + 0) 96 (omega arith)))

      ends : number ≤ 96 → {k : ℕ} → k ≡ at + 2 → settled m (Ok (record { rest = k; count = count })) ns ≡ index m
      unfolding slots_of
      ends l {k} z =
          let room : 2 ≤ length (drop at m) = crlf_room (drop at m) (sym hb ∙ q) in
          let w : length m - length (drop 2 (drop at m)) ≡ k = omega (arith, length-drop 2 (drop at m), length-drop at m) in
          sym (at_empty ∙ rw (le-leb (number + 0) 96 (omega arith), w, append-nil h.done, ← h.held, ← h.counted))

      closes : {k : ℕ} → k ≡ at + 2 → {x : Result Ended Unread} → x ≡ closed_end number k count → settled m x ns ≡ index m
      unfolding closed_end
      closes {k} z {x} y = go (leb number 96) refl
        where
          go : (t : Bool) → leb number 96 ≡ t → settled m x ns ≡ index m
          go true e = rw (y, e) (ends (leb-true number 96 e) z)
          go false e = rw (y, e) (many (leb-false number 96 e))

    bad : b ≡ false → Bad ≡ field_at m at → settled m (Err BadFields) ns ≡ index m
    bad n q = sym (h.same ∙ rw (header_bad (drop at m) (sym hb ∙ n) (field_bad m at refl (sym q))))

  -- no name stands there
  pub unnamed_ends : {r : Answer Named} → r ≡ named_at m at → r ≡ None → {x : Result Ended Unread} → x ≡ cond (starts_crlf (drop at m)) (closed_end number (at + 2) count) (Err BadFields)
      → settled m x ns ≡ index m
  unnamed_ends hr q {x} z = go (starts_crlf (drop at m)) refl
    where
      go : (t : Bool) → starts_crlf (drop at m) ≡ t → settled m x ns ≡ index m
      go true e = closes refl e refl (z ∙ rw e)
      go false e = rw (z, e) (bad refl e (unnamed_field m at (sym q ∙ hr)))

  module _ {r : Answer Named} (hr : r ≡ named_at m at) {n : Named} (hn : r ≡ Some n) where
    name : NameRead m at n
    name = name_read m at (sym hn ∙ hr)

    pub endless_ends : {o : Answer ValueAt} → ValueStands m n.value o → o ≡ None → settled m (Err BadFields) ns ≡ index m
    endless_ends ho q = bad refl (named_line m at name) (endless_field m at name refl (rw q at ho.value_stands))

    module _ {o : Answer ValueAt} (ho : ValueStands m n.value o) {y : ValueAt} (hy : o ≡ Some y) where
      w : ValueStands m n.value (Some y)
      w = rw hy at ho

      abbrev x : ℕ
      x = name.name_end

      abbrev v : ℕ
      v = n.value

      abbrev e : ℕ
      e = y.end

      is_found : Found x v e y.folded ≡ field_at m at
      is_found = found_field m at name w.value_stands.0 w.value_stands.1 w.value_stands.2

      found : FieldRead m at x v e y.folded
      found = field_read m at is_found refl

      fits : (at < x) × (x < v) × (v ≤ e) × (e + 2 ≤ length m)
      fits = field_fits m at is_found refl

      pub end_after : v ≤ e
      end_after = omega (arith, fits)

      pub end_within : e ≤ length m
      end_within = omega (arith, fits)

      pub next_small : length m ≤ 8192 → {k : ℕ} → k ≡ e + 2 → k < 2 ^ 64
      next_small l z = omega (arith, fits)

      pub next_within : {k : ℕ} → k ≡ e + 2 → k ≤ length m
      next_within z = omega (arith, fits)

      pub next_less : {k : ℕ} → k ≡ e + 2 → length m - k < length m - at
      next_less z = omega (arith, fits)

      pub next_few : number ≤ at → {j k : ℕ} → j ≡ number + 1 → k ≡ e + 2 → j ≤ k
      next_few l y z = omega (arith, fits)

      value_long : e - v ≡ found.parts.value
      value_long = omega (arith, found)

      pub value_folded : y.folded ≡ any is_break (take (e - v) (drop v m))
      value_folded = found.folded_is ∙ rw value_long

      abbrev the : Field
      the = field_of found.parts (drop at m)

      here : FieldHere (drop at m) found.parts
      here = field_here (drop at m) found.parts found.reads

      bytes_long : {k : ℕ} → k ≡ e + 2 → at + length (bytes the) ≡ k
      bytes_long z = omega (arith, found, length_bytes the, ap size here.sizes)

      value_at : at + length the.name + length the.gap + 1 ≡ v
      value_at = omega (arith, found, ap (λ (y : Shape). y.name) here.sizes, ap (λ (y : Shape). y.gap) here.sizes)

      slot_is : listed_slot n.number v (take (e - v) (drop v m)) ≡ cond (eqb (number_of the.name) 0) None (Some (slot_of at the))
      unfolding listed_slot slot_for slot_of value_span
      slot_is =
          let a : x - at ≡ found.parts.name = omega (arith, found) in
          let b : at + (found.parts.name + found.parts.gap + 1) ≡ v = omega (arith, found) in
          ap (λ (k : ℕ). listed_slot k v (take (e - v) (drop v m))) name.number_is
          ∙ rw (value_at, a, value_long, drop-drop (found.parts.name + found.parts.gap + 1) at m, b)

      module _ {s : Answer Slot} (hs : s ≡ listed_slot n.number v (take (e - v) (drop v m)))
          {c : ℕ} (hc : c ≡ more count s) {ns' : List ℕ} (hm : ns' ≡ kept ns count s)
          {j : ℕ} (hj : j ≡ number + 1) {k : ℕ} (hk : k ≡ e + 2) where
        from : index m ≡ index_from m h.done number at (with_field the (header 0 (drop k m)))
        from = h.same ∙ ap (index_from m h.done number at) (header_found m at found hk)

        -- what is stored stays
        stays : more count s ≡ count → kept ns count s ≡ ns
            → index_from m h.done number at (with_field the (header 0 (drop k m)))
            ≡ index_from m h.done (number + 1) (at + length (bytes the)) (header 0 (drop k m))
            → Reached m j k c ns'
        stays y z w =
            let cs : c ≡ count = hc ∙ y in
            record {
              done = h.done;
              held = hm ∙ z ∙ h.held;
              counted = cs ∙ h.counted;
              listed = omega (arith, h.listed);
              same = from ∙ w ∙ rw (bytes_long hk, hj);
            }

        grows : more count s ≡ count + 1 → kept ns count s ≡ stored ns count (slot_of at the) → eqb (number_of the.name) 0 ≡ false → count < 96 → Reached m j k c ns'
        grows y w z l =
            let cs : c ≡ count + 1 = hc ∙ y in
            record {
              done = h.done ++ slot_of at the ∷ [];
              held = hm ∙ w ∙ stored_next ns count (slot_of at the) h.done (slot_of at the) h.held h.counted refl l;
              counted = omega (arith, length-append h.done (slot_of at the ∷ []), h.counted);
              listed = omega (arith, h.listed);
              same = from ∙ step_kept m h.done number at the z (header 0 (drop k m)) ∙ rw (bytes_long hk, hj);
            }

        pub next : Reached m j k c ns'
        next = go (eqb (number_of the.name) 0) (ltb count 96) refl refl
          where
            go : (t u : Bool) → eqb (number_of the.name) 0 ≡ t → ltb count 96 ≡ u → Reached m j k c ns'
            go true u y z =
                let w : s ≡ None = hs ∙ slot_is ∙ rw y in
                stays (rw w) (rw w) (step_unlisted m h.done number at the y (header 0 (drop k m)))
            go false true y z =
                let w : s ≡ Some (slot_of at the) = hs ∙ slot_is ∙ rw y in
                grows (rw (w, z)) (rw (w, z)) y (ltb-true count 96 z)
            go false false y z =
                let w : s ≡ Some (slot_of at the) = hs ∙ slot_is ∙ rw y in
                stays (rw (w, z)) (rw (w, z)) (step_full m h.done number at the (omega (arith, ltb-false count 96 z, h.listed)) (header 0 (drop k m)))
