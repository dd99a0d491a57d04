-- Every number stands in a message: the grammar says what is read of its tel URI in a P-Asserted-Identity, the other fields are computed.
use mathlib.Core.Path.{◌≡◌, refl, ap, ◌∙◌}
use mathlib.Core.Bool.{Bool, true, false, cond}
use mathlib.Core.List.{List, [], ◌∷◌, ◌++◌, append-nil, map}
use mathlib.Core.Option.{Option, none, some}
use Prim.Native.Nat.{ℕ, ◌≤◌}
use Prim.Native.String.{String}
use native.Mathlib.Omega.{arith}
use lib.Dec.{ltb}
use lib.ListN.{length, drop, length-append, length-drop}
use borrow.Author.Tests.{ltb-true, ne_eqb}
use Rattle.octets.specs.Classes.{text, is_token, is_digit, is_blank, is_break, is_gap, is_value, is_visible}
use Rattle.octets.specs.Scans.{run, all, any}
use Rattle.octets.proofs.Runs.{run_yes, run_no, run_nil}
use Rattle.sip.specs.declared.Column.{Column}
use Rattle.sip.specs.declared.Column.TheVariants.{Invite}
use Rattle.sip.specs.declared.IdentityAt.{IdentityAt}
use Rattle.sip.specs.Lines.{RequestLine, request, start_bytes, Field, bytes, crlf, starts_crlf, starts_blank, one_longer, value_size}
use Rattle.sip.specs.Lines.{trim_end, trim, canonical}
use Rattle.sip.specs.Profile.{number_of, column_of, ignored}
use Rattle.sip.specs.Values.{identities, schemes, numbers_in, number_in, allowed, is_asserted, is_global}
use Rattle.sip.specs.Refusals.{read, lines, Entry, kept, to_tagged, withheld, reason7, reason8, reason9, well_formed, brought, first_malformed, reason10}
use Rattle.sip.specs.Refusals.{reason11, reason12, reason13, reason14, reason15, first_of, reasons, Passed, passed, accepted, judged_request, judgement}
use Rattle.sip.specs.Readings.{asserted, sip_or, caller_in}
use Rattle.sip.specs.Change.{RequestShaped, WellShaped, AllShaped, none_left, one_more, header_bytes, Varied, no_fields, unchanged, Changed}
use Rattle.sip.specs.Grammar.{AnyCase, case_end, as_it_is, TelNumber, plus_digits, no_tail, tel_parts, tel_uri, addr_spec, identity_of}
use Rattle.sip.specs.Grammar.{Identities, one_identity}
use Rattle.sip.specs.GrammarPromises.{FoundIn}
use Rattle.sip.proofs.Tests.{never, range_low, range_high, in_range, all_first, all_others}
use Rattle.sip.proofs.Change.{nothing_else}
use Rattle.sip.proofs.Canonical.{canonical_plain}
use Rattle.sip.proofs.Grammar.Bytes.{each_all}
use Rattle.sip.proofs.Grammar.Numbers.{global_sound}
use Rattle.sip.proofs.Grammar.Promises.{identities_found}
use Rattle.sip.proofs.Starred.{computed}
use Rattle.isup.specs.Forward.{is_initial_invite, calling_of, parameter_of}
use Rattle.lines.proofs.FirstLines.{visible_value}
use Rattle.lines.proofs.Values.{value_byte}
use Rattle.isup.specs.Promises.{EveryNumber, EveryTaken}
use Rattle.isup.proofs.Numbers.{global_plus}
use Rattle.isup.proofs.Only.{only_produced}
use Rattle.isup.proofs.Promised.{forward}

-- ---- a text of visible bytes, as a value after a space

visible_plain : (b : ℕ) → is_visible b ≡ true → (is_blank b ≡ false) × (is_break b ≡ false)
unfolding is_visible is_blank is_break
visible_plain b e =
    let l : 33 ≤ b = range_low 33 126 b e in
    (rw (ne_eqb b 32 (λ q. omega arith), ne_eqb b 9 (λ q. omega arith)), rw (ne_eqb b 13 (λ q. omega arith), ne_eqb b 10 (λ q. omega arith)))

visible_no_gap : (b : ℕ) → is_visible b ≡ true → is_gap b ≡ false
unfolding is_gap
visible_no_gap b e = rw ((visible_plain b e).0, (visible_plain b e).1)

value_ends : (v : List ℕ) → all is_visible v ≡ true → value_size 0 (v ++ crlf) ≡ some (length v)
unfolding value_size starts_crlf starts_blank
value_ends [] e = refl
value_ends (b ∷ v) e =
    value_byte b (v ++ crlf) (visible_value b (all_first is_visible b v e)) ∙ ap one_longer (value_ends v (all_others is_visible b v e))

spaced_ends : (v : List ℕ) → all is_visible v ≡ true → value_size 0 (32 ∷ (v ++ crlf)) ≡ some (length (32 ∷ v))
unfolding is_value
spaced_ends v e = value_byte 32 (v ++ crlf) refl ∙ ap one_longer (value_ends v e)

no_break : (v : List ℕ) → all is_visible v ≡ true → any is_break v ≡ false
unfolding any
no_break [] e = refl
no_break (b ∷ v) e = rw (visible_plain b (all_first is_visible b v e)).1 (no_break v (all_others is_visible b v e))

no_run : (v : List ℕ) → all is_visible v ≡ true → run is_gap v ≡ 0
no_run [] e = run_nil is_gap
no_run (b ∷ v) e = run_no is_gap b v (visible_no_gap b (all_first is_visible b v e))

nothing_trimmed : (v : List ℕ) → all is_visible v ≡ true → trim_end is_gap v ≡ v
unfolding trim_end
nothing_trimmed [] e = refl
nothing_trimmed (b ∷ []) e = rw (visible_no_gap b (all_first is_visible b [] e))
nothing_trimmed (b ∷ c ∷ v) e = rw (nothing_trimmed (c ∷ v) (all_others is_visible b (c ∷ v) e))

spaced_trim : (v : List ℕ) → all is_visible v ≡ true → trim is_gap (32 ∷ v) ≡ v
unfolding trim is_gap is_blank
spaced_trim v e = rw (run_yes is_gap 32 v refl, no_run v e) (nothing_trimmed v e)

spaced_canonical : (v : List ℕ) → all is_visible v ≡ true → canonical (32 ∷ v) ≡ v
spaced_canonical v e =
    let t = spaced_trim v e in
    canonical_plain (32 ∷ v) (rw t (no_break v e)) ∙ t

-- ---- the tel URI of a number

unfoldable tel_of : List ℕ → List ℕ
tel_of number = text "tel:" ++ number

digits_visible : (ds : List ℕ) → all is_digit ds ≡ true → all is_visible ds ≡ true
unfolding all is_digit is_visible
digits_visible [] e = refl
digits_visible (b ∷ ds) e =
    let h = all_first is_digit b ds e in
    let i = in_range 33 126 b (omega (arith, range_low 48 57 b h)) (omega (arith, range_high 48 57 b h)) in
    rw i (digits_visible ds (all_others is_digit b ds e))

case_self : (s : List ℕ) → AnyCase s s
case_self [] = case_end
case_self (b ∷ s) = as_it_is (case_self s)

module _ (number : List ℕ) (g : is_global number ≡ true) where
  tel_visible : all is_visible (tel_of number) ≡ true
  unfolding tel_of text all is_visible
  tel_visible = rw (← (global_plus number g).plus) (digits_visible (drop 1 number) (global_plus number g).digits)

  tel_number : TelNumber number
  tel_number =
      let p = global_plus number g in
      rw (← p.plus) (plus_digits (each_all p.digits) (record { least = omega (arith, p.enough); most = p.few }))

  tel_derived : Identities (tel_of number) (tel_parts number [] ∷ [])
  unfolding tel_of
  tel_derived =
      let n : number ++ [] ≡ number = append-nil number in
      let d : Identities (text "tel:" ++ (number ++ [])) (tel_parts number [] ∷ []) =
      one_identity (identity_of (addr_spec (tel_uri (case_self (text "tel:")) tel_number no_tail) refl) (rw n (global_sound number g))) in
      rw n at d

  tel_found : FoundIn (tel_of number) (tel_parts number [] ∷ [])
  tel_found = identities_found (tel_of number) (tel_parts number [] ∷ []) tel_derived

-- a value that has one identity, a tel URI with that number
record OneTel (v number : List ℕ) : Type 0 where
  place : IdentityAt
  only : identities v ≡ place ∷ []
  is_tel : place.tel ≡ true
  has_number : number_in v place ≡ number

one_tel : (v number : List ℕ) → FoundIn v (tel_parts number [] ∷ []) → OneTel v number
unfolding schemes numbers_in
one_tel v number f = go (identities v) refl
  where
    go : (is : List IdentityAt) → identities v ≡ is → OneTel v number
    go [] q = let z : ◌≡◌ {A = List Bool} [] (true ∷ []) = rw q at f.schemes_are in never (cc)
    go (i ∷ []) q =
        let s : ◌≡◌ {A = List Bool} (i.tel ∷ []) (true ∷ []) = rw q at f.schemes_are in
        let n : ◌≡◌ {A = List (List ℕ)} (number_in v i ∷ []) ((number ++ []) ∷ []) = rw q at f.numbers_are in
        let k : number_in v i ≡ number ++ [] = cc in
        record { place = i; only = q; is_tel = cc; has_number = k ∙ append-nil number }
    go (i ∷ j ∷ is) q =
        let s : i.tel ∷ j.tel ∷ map (λ (k : IdentityAt). k.tel) is ≡ true ∷ [] = rw q at f.schemes_are in
        never (cc)

-- ---- the message

abbrev invite : RequestLine
invite = record { method = text "INVITE"; uri = text "sip:112@gw.example" }

abbrev version : List ℕ
version = text " SIP/2.0\r\n"

abbrev field : String → List ℕ → Field
field name v = record { name = text name; gap = []; value = v }

unfoldable identity_field : List ℕ → Field
identity_field number = field "P-Asserted-Identity" (32 ∷ tel_of number)

-- the fields after it
unfoldable others : Bool → List Field
others restricted =
    field "Via" (text " SIP/2.0/UDP relay.example")
    ∷ field "Max-Forwards" (text " 70")
    ∷ field "From" (text " <sip:relay.example>;tag=a1")
    ∷ field "To" (text " <sip:112@gw.example>")
    ∷ field "Call-ID" (text " 1")
    ∷ field "CSeq" (text " 1 INVITE")
    ∷ field "Contact" (text " <sip:relay.example>")
    ∷ field "Allow" (text " INVITE")
    ∷ cond restricted (field "Privacy" (text " id") ∷ []) []

-- the INVITE that carries the number
unfoldable carrier : List ℕ → Bool → List ℕ
carrier number restricted = start_bytes (request invite) version ++ header_bytes (identity_field number ∷ others restricted) []

-- ---- it reads

line_shaped : RequestShaped invite version
unfolding computed
line_shaped =
    record {
      method_long = omega arith;
      method_short = omega arith;
      method_token = refl;
      uri_long = omega arith;
      uri_short = omega arith;
      uri_visible = refl;
      version_written = refl;
    }

shaped : {f : Field} → ltb 0 (length f.name) ≡ true → all is_token f.name ≡ true → all is_blank f.gap ≡ true
    → value_size 0 (f.value ++ crlf) ≡ some (length f.value) → WellShaped f
shaped {f} l t b e = record { name_long = ltb-true 0 (length f.name) l; name_token = t; gap_blank = b; value_ends = e }

others_shaped : (restricted : Bool) → AllShaped (others restricted)
unfolding computed others
others_shaped restricted =
    one_more (shaped refl refl refl refl) (one_more (shaped refl refl refl refl) (one_more (shaped refl refl refl refl) (
    one_more (shaped refl refl refl refl) (one_more (shaped refl refl refl refl) (one_more (shaped refl refl refl refl) (
    one_more (shaped refl refl refl refl) (one_more (shaped refl refl refl refl) (privacy restricted))))))))
  where
    privacy : (restricted : Bool) → AllShaped (cond restricted (field "Privacy" (text " id") ∷ []) [])
    privacy true = one_more (shaped refl refl refl refl) none_left
    privacy false = none_left

name_token : (ltb 0 (length (text "P-Asserted-Identity")) ≡ true) × (all is_token (text "P-Asserted-Identity") ≡ true)
unfolding computed
name_token = (refl, refl)

-- how many bytes the parts have
front_length : (length (start_bytes (request invite) version) ≤ 100) × (length (text "P-Asserted-Identity") ≤ 100)
unfolding computed
front_length = (omega arith, omega arith)

others_length : (restricted : Bool) → length (header_bytes (others restricted) []) ≤ 300
unfolding computed others
others_length true = omega arith
others_length false = omega arith

others_count : (restricted : Bool) → length (others restricted) ≤ 9
unfolding others
others_count true = omega arith
others_count false = omega arith

module _ (number : List ℕ) (restricted : Bool) (g : is_global number ≡ true) where
  all_shaped : AllShaped (identity_field number ∷ others restricted)
  unfolding identity_field all
  all_shaped =
      one_more (shaped name_token.0 name_token.1 refl (spaced_ends (tel_of number) (tel_visible number g))) (others_shaped restricted)

  tel_length : length (tel_of number) ≤ 20
  unfolding tel_of text
  tel_length = let p = global_plus number g in omega (arith, p.few, length-drop 1 number)

  carrier_length : length (carrier number restricted) ≤ 8192
  unfolding carrier identity_field
  carrier_length =
      let f = identity_field number in
      let h = header_bytes (others restricted) [] in
      omega (
        arith,
        length-append (start_bytes (request invite) version) (bytes f ++ h),
        length-append (bytes f) h,
        length-append (text "P-Asserted-Identity") (58 ∷ ((32 ∷ tel_of number) ++ crlf)),
        length-append (tel_of number) crlf,
        front_length.0,
        front_length.1,
        others_length restricted,
        tel_length,
      )

  carrier_reads : lines (carrier number restricted) ≡ read (request invite) (record { fields = identity_field number ∷ others restricted; rest = [] })
  unfolding carrier
  carrier_reads =
      let m = carrier number restricted in
      let fs = identity_field number ∷ others restricted in
      let c : Changed m m =
      record {
        line = request invite;
        version = version;
        fields = fs;
        fields' = fs;
        rest = [];
        start_shaped = line_shaped;
        all_shaped = all_shaped;
        varied = same_fields fs;
        original = refl;
        changed = refl;
        within_bytes = carrier_length;
        within_bytes' = carrier_length;
        within_fields = omega (arith, others_count restricted);
        within_fields' = omega (arith, others_count restricted);
      } in
      (nothing_else m m c).original_reads
    where
      same_fields : {p : ℕ → Bool} (fs : List Field) → Varied p fs fs
      same_fields [] = no_fields
      same_fields (f ∷ fs) = unchanged (same_fields fs)

-- ---- what is kept of it

-- with any value of P-Asserted-Identity
unfoldable entries : List ℕ → Bool → List Entry
entries v restricted = record { number = 15; value = v } ∷ kept (some Invite) (others restricted)

identity_kept : (number_of (text "P-Asserted-Identity") ≡ 15) × (ignored (some Invite) 15 ≡ false)
unfolding computed
identity_kept = (refl, refl)

invite_column : column_of (text "INVITE") false ≡ some Invite
unfolding computed
invite_column = refl

kept_are : (number : List ℕ) (restricted : Bool) → is_global number ≡ true
    → kept (column_of (text "INVITE") false) (identity_field number ∷ others restricted) ≡ entries (tel_of number) restricted
unfolding kept identity_field entries
kept_are number restricted g =
    rw (invite_column, identity_kept.0, identity_kept.1, spaced_canonical (tel_of number) (tel_visible number g))
    (ap (λ (c : Option Column). record { number = 15; value = tel_of number } ∷ kept c (others restricted)) invite_column)

-- ---- it is accepted: of the values, only reason 10 looks at the identity's

is_column : (v : List ℕ) (restricted : Bool) → column_of (text "INVITE") (to_tagged (entries v restricted)) ≡ some Invite
unfolding computed entries others
is_column v true = refl
is_column v false = refl

is_withheld : (v : List ℕ) (restricted : Bool) → withheld (entries v restricted) ≡ restricted
unfolding computed entries others
is_withheld v true = refl
is_withheld v false = refl

no_7_8_15 : (reason7 invite ≡ none) × (reason8 invite ≡ none) × (reason15 Invite invite ≡ none)
unfolding computed
no_7_8_15 = (refl, refl, refl)

no_9 : (v : List ℕ) (restricted : Bool) → reason9 (entries v restricted) ≡ none
unfolding computed entries others
no_9 v true = refl
no_9 v false = refl

no_11_12 : (v : List ℕ) (restricted : Bool) → (reason11 (entries v restricted) [] ≡ none) × (reason12 Invite (entries v restricted) [] ≡ none)
unfolding computed entries others
no_11_12 v true = (refl, refl)
no_11_12 v false = (refl, refl)

no_13_14 : (v : List ℕ) (restricted : Bool) → (reason13 (entries v restricted) ≡ none) × (reason14 (entries v restricted) ≡ none)
unfolding computed entries others
no_13_14 v true = (refl, refl)
no_13_14 v false = (refl, refl)

others_formed : (restricted : Bool) → first_malformed (text "INVITE") (true ∷ []) (kept (some Invite) (others restricted)) ≡ 0
unfolding computed others
others_formed true = refl
others_formed false = refl

no_10 : (v : List ℕ) (restricted : Bool) → schemes v ≡ true ∷ [] → reason10 (text "INVITE") (entries v restricted) ≡ none
unfolding reason10 first_malformed well_formed brought is_asserted allowed entries
no_10 v restricted e = rw (e, others_formed restricted)

others_silent : (restricted : Bool) → asserted 1 (kept (some Invite) (others restricted)) ≡ []
unfolding computed others
others_silent true = refl
others_silent false = refl

is_calling : (v number : List ℕ) (restricted : Bool) → OneTel v number
    → calling_of (passed (request invite) (entries v restricted) []) ≡ number
unfolding calling_of caller_in asserted sip_or entries
is_calling v number restricted o = rw (o.only, others_silent restricted, o.is_tel) o.has_number

abbrev made : List ℕ → Bool → Passed
made number restricted = passed (request invite) (entries (tel_of number) restricted) []

none_applies : (v : List ℕ) (restricted : Bool) → schemes v ≡ true ∷ [] → first_of (reasons Invite invite (entries v restricted) []) ≡ none
unfolding reasons
none_applies v restricted e =
    rw (
      no_7_8_15.0,
      no_7_8_15.1,
      no_9 v restricted,
      no_10 v restricted e,
      (no_11_12 v restricted).0,
      (no_11_12 v restricted).1,
      (no_13_14 v restricted).0,
      (no_13_14 v restricted).1,
      no_7_8_15.2,
    )

is_judged : (v : List ℕ) (restricted : Bool) → schemes v ≡ true ∷ []
    → judged_request invite (entries v restricted) [] ≡ accepted (passed (request invite) (entries v restricted) [])
unfolding judged_request
is_judged v restricted e = rw (judged_request, is_column v restricted, none_applies v restricted e)

is_accepted : (number : List ℕ) (restricted : Bool) → is_global number ≡ true
    → judgement (carrier number restricted) ≡ accepted (made number restricted)
unfolding judgement
is_accepted number restricted g =
    rw (carrier_reads number restricted g, kept_are number restricted g) (is_judged (tel_of number) restricted (tel_found number g).schemes_are)

is_initial : (number : List ℕ) (restricted : Bool) → is_initial_invite (made number restricted) ≡ true
unfolding is_initial_invite
is_initial number restricted = rw (is_column (tel_of number) restricted)

pub every_number : EveryNumber
every_number number restricted g = (
  carrier number restricted,
  record {
    message = made number restricted;
    is_accepted = is_accepted number restricted g;
    is_initial = is_initial number restricted;
    number_is = is_calling (tel_of number) number restricted (one_tel (tel_of number) number (tel_found number g));
    withheld_is = is_withheld (tel_of number) restricted;
  },
)

pub every_taken : EveryTaken
every_taken code s b e =
    let p = only_produced code s b e in
    let (m, c) = every_number p.number p.restricted p.is_number in
    let f = (forward m code p.home c.message c.is_accepted).parameter c.is_initial p.known_code in
    record {
      message = m;
      home = p.home;
      gives = f ∙ ap parameter_of (rw (c.withheld_is, c.number_is) p.made);
    }
