-- Document 01, "The profile", and the columns of CR 1 for responses.
use Rattle.std.specs.Prelude.{Bool, true, false, not, cond, ◌||◌, List, [], ◌∷◌, map, ℕ, eqb}
use Rattle.std.proofs.Math.Option.{Option, none, some}
use Prim.Native.String.{String}
use Rattle.octets.specs.Classes.{text}
use Rattle.octets.specs.Scans.{same, same_text}
use Rattle.sip.specs.declared.Column.{Column}
use Rattle.sip.specs.declared.Column.TheVariants.{Invite, Reinvite, Ack, Bye, Cancel, Options, InviteSuccess, CancelResponse, OtherResponse}

-- "M mandatory, S supported, B mandatory if the body after cutting is not empty, - ignored": I stands for -
pub data Mark : Type 0 where
  M S B I : Mark

pub record Row : Type 0 where
  pub number : ℕ
  pub name : List ℕ
  pub compact : Option (List ℕ)
  pub invite : Mark
  pub re : Mark
  pub ack : Mark
  pub bye : Mark
  pub cancel : Mark
  pub options : Mark
  pub invite_success : Mark
  pub cancel_response : Mark
  pub other_response : Mark
  pub repeats : Bool

abbrev yes : Bool
yes = true

abbrev no : Bool
no = false

abbrev short : String → Option (List ℕ)
short c = some (text c)

abbrev row : ℕ → String → Option (List ℕ) → Mark → Mark → Mark → Mark → Mark → Mark → Mark → Mark → Mark → Bool → Row
row n name c i r a b k o success cancelled other again =
    record {
      number = n;
      name = text name;
      compact = c;
      invite = i;
      re = r;
      ack = a;
      bye = b;
      cancel = k;
      options = o;
      invite_success = success;
      cancel_response = cancelled;
      other_response = other;
      repeats = again;
    }

-- the table: No, Field, compact form, INVITE, re, ACK, BYE, CANCEL, OPTIONS; of responses those to an INVITE "from 200 to 299", those to a
-- CANCEL, all others; Repeats. Of responses CR 1 says: "Call-ID, CSeq, From, To and Via are mandatory, Content-Length supported; for
-- CANCEL that is all .. For the other methods add Content-Type (B), Contact, Allow, Supported, Require, Record-Route, Reason and Accept
-- as supported; for INVITE, Contact is mandatory from 200 to 299. All other fields, Max-Forwards too, are ignored". P-Asserted-Identity has
-- "yes" under Repeats since CR 6: "Allow one or two, in one field .. or in two fields"; "reason 9 never names 15"
unfoldable pub rows : List Row
rows =
    row 1 "Via" (short "v") M M M M M M M M M yes
    ∷ row 2 "Max-Forwards" none M M M M M M I I I no
    ∷ row 3 "From" (short "f") M M M M M M M M M no
    ∷ row 4 "To" (short "t") M M M M M M M M M no
    ∷ row 5 "Call-ID" (short "i") M M M M M M M M M no
    ∷ row 6 "CSeq" none M M M M M M M M M no
    ∷ row 7 "Contact" (short "m") M M S I I S M I S no
    ∷ row 8 "Content-Length" (short "l") S S S S S S S S S no
    ∷ row 9 "Content-Type" (short "c") B B B B I B B I B no
    ∷ row 10 "Route" none S S S S S S I I I yes
    ∷ row 11 "Reason" none I I I S S I S I S yes
    ∷ row 12 "Allow" none M S I S I S S I S yes
    ∷ row 13 "Supported" (short "k") S S I S I S S I S yes
    ∷ row 14 "Require" none S S I S I S S I S yes
    ∷ row 15 "P-Asserted-Identity" none M S I I I I I I I yes
    ∷ row 16 "Privacy" none S S I I I I I I I no
    ∷ row 17 "Accept" none S S I I I S S I S yes
    ∷ row 18 "Record-Route" none S S I I I I S I S yes
    ∷ []

-- ---- "Names match in any letter case, whole, in long or compact form."

abbrev pub is_compact : Option (List ℕ) → List ℕ → Bool
is_compact none n = false
is_compact (some c) n = same_text c n

abbrev pub names : Row → List ℕ → Bool
names r n = same_text r.name n || is_compact r.compact n

-- the number of the first row of that name; 0 where the name is not listed
unfoldable pub lookup : List Row → List ℕ → ℕ
lookup [] n = 0
lookup (r ∷ rs) n = let other = lookup rs n in cond (names r n) r.number other

unfoldable pub number_of : List ℕ → ℕ
number_of n = lookup rows n

-- ---- a row by its number; no row has the number 0

unfoldable pub find : List Row → ℕ → Option Row
find [] n = none
find (r ∷ rs) n = let other = find rs n in cond (eqb r.number n) (some r) other

-- "long name as listed"
unfoldable pub name_of : ℕ → List ℕ
name_of n = elim (find rows n) [ none ↦ [] | some r ↦ r.name ]

-- "a field without "yes"" in the column Repeats
unfoldable pub once : ℕ → Bool
once n = elim (find rows n) [ none ↦ false | some r ↦ not r.repeats ]

abbrev pub mark_in : Column → Row → Mark
mark_in Invite r = r.invite
mark_in Reinvite r = r.re
mark_in Ack r = r.ack
mark_in Bye r = r.bye
mark_in Cancel r = r.cancel
mark_in Options r = r.options
mark_in InviteSuccess r = r.invite_success
mark_in CancelResponse r = r.cancel_response
mark_in OtherResponse r = r.other_response

-- the mark of a number in a column; "Names not listed are ignored too."
unfoldable pub mark : Column → ℕ → Mark
mark c n = elim (find rows n) [ none ↦ I | some r ↦ mark_in c r ]

-- ---- the columns

-- "Methods match exactly." "An INVITE uses "re" exactly if its To has a tag." None where the method has no column
unfoldable pub column_of : List ℕ → Bool → Option Column
column_of m tagged =
    cond (same (text "INVITE") m) (some (cond tagged Reinvite Invite))
    (cond (same (text "ACK") m) (some Ack)
    (cond (same (text "BYE") m) (some Bye)
    (cond (same (text "CANCEL") m) (some Cancel)
    (cond (same (text "OPTIONS") m) (some Options) none))))

-- CR 1: the column of a response to that method; `success`: its status is from 200 to 299. "an unknown method (here ACK too)" has none
unfoldable pub response_column : Bool → List ℕ → Option Column
response_column success m =
    cond (same (text "INVITE") m) (some (cond success InviteSuccess OtherResponse))
    (cond (same (text "BYE") m) (some OtherResponse)
    (cond (same (text "CANCEL") m) (some CancelResponse)
    (cond (same (text "OPTIONS") m) (some OtherResponse) none)))

-- "A field is ignored for a method where its row has `-` in that column, or where its name is not listed"
abbrev pub is_ignored : Mark → Bool
is_ignored M = false
is_ignored S = false
is_ignored B = false
is_ignored I = true

-- "For a method with no column only names not listed are ignored."
unfoldable pub ignored : Option Column → ℕ → Bool
ignored none n = eqb n 0
ignored (some c) n = is_ignored (mark c n)

-- mandatory, where the body after cutting is empty or not
abbrev pub is_mandatory : Bool → Mark → Bool
is_mandatory empty M = true
is_mandatory empty S = false
is_mandatory empty B = not empty
is_mandatory empty I = false

unfoldable pub mandatory : Column → Bool → ℕ → Bool
mandatory c empty n = is_mandatory empty (mark c n)

-- the listed numbers
unfoldable pub numbers : List ℕ
numbers = map (λ (r : Row). r.number) rows
