-- The promises over the grammar, each from its two halves.
use Rattle.sip.specs.Lines.{request}
use Rattle.sip.specs.Values.{tag_of}
use Rattle.sip.specs.Refusals.{first_cseq_method, response_column_of}
use Rattle.sip.specs.Change.{StartShaped}
use Rattle.sip.specs.Grammar.{person_of}
use Rattle.sip.specs.GrammarPromises.{TagsRead, RestrictsRead, LackingRead, UriRead, OneUri, PersonRead, CalledRead, ToRead, FromRead}
use Rattle.sip.specs.GrammarPromises.{OneParty, AssertedRead, IdentitiesFound, AllowedRead, PrivacyRead, RequireRead, FieldRead}
use Rattle.sip.specs.GrammarPromises.{MethodToken, SchemeRead, TaggedRead, NoOther, ResponseMethodToken, CSeqMethodRead, NoCSeqMethodRead}
use Rattle.sip.specs.GrammarPromises.{NothingLifts, OthersChangeNothing}
use Rattle.sip.proofs.Change.{everything}
use Rattle.sip.proofs.Grammar.Bytes.{each_all}
use Rattle.sip.proofs.Grammar.Tokens.{lacking_complete, lacking_sound, nothing_lifted, others_unchanged, privacy_complete, privacy_sound}
use Rattle.sip.proofs.Grammar.Tokens.{require_complete, require_sound, restricts_complete, restricts_sound}
use Rattle.sip.proofs.Grammar.Follows.{uri_complete, uri_sound}
use Rattle.sip.proofs.Grammar.Parties.{from_complete, from_sound, tagged_complete, tagged_sound, tags_found, to_complete, to_sound}
use Rattle.sip.proofs.Grammar.Identities.{allowed_complete, allowed_sound, asserted_complete, asserted_sound, identities_in}
use Rattle.sip.proofs.Grammar.Unique.{party_unique, person_found, uri_unique}
use Rattle.sip.proofs.Grammar.RequestUris.{called_complete, called_sound, no_other, scheme_complete, scheme_sound}
use Rattle.sip.proofs.Grammar.Methods.{column_token, named_complete, named_none, named_sound, none_named}
use Rattle.sip.proofs.Grammar.Fields.{formed_complete, formed_sound}

pub scheme_read : SchemeRead
scheme_read s = ((λ e. scheme_sound s e), (λ d. scheme_complete d))

pub uri_read : UriRead
uri_read s = ((λ e. uri_sound s e), (λ (u, d). uri_complete d))

pub no_other_uri : NoOther
no_other_uri s u d o = no_other d o

pub one_uri : OneUri
one_uri s u w d e = uri_unique d e

pub person_read : PersonRead
person_read s u d = person_found d

pub called_read : CalledRead
called_read s u d = rw (person_found d) ((λ e. called_sound (person_of u) e), (λ h. called_complete h))

pub to_read : ToRead
to_read v = ((λ e. let p = to_sound v e in (p.uri, p.tags, p.derived)), (λ (u, ts, d). to_complete d))

pub tagged_read : TaggedRead
tagged_read v = ((λ e. let (u, d) = tagged_sound v e in (tag_of v, u, d)), (λ (t, u, d). tagged_complete d))

pub tags_read : TagsRead
tags_read v u ts d = tags_found d

pub from_read : FromRead
from_read v t = ((λ (e, f). let (u, d) = from_sound v e in (u, rw f at d)), (λ (u, d). from_complete d))

pub one_party : OneParty
one_party v u w ts us d e = party_unique d e

pub asserted_read : AssertedRead
asserted_read v = ((λ e. asserted_sound v e), (λ (us, d, a). asserted_complete d a))

pub identities_found : IdentitiesFound
identities_found v us d = identities_in d

pub allowed_read : AllowedRead
allowed_read us = ((λ e. allowed_sound us e), (λ a. allowed_complete a))

pub privacy_read : PrivacyRead
privacy_read v ts = ((λ (e, f). rw f at (privacy_sound v e)), (λ d. privacy_complete d))

pub restricts_read : RestrictsRead
restricts_read v = ((λ e. restricts_sound v e), (λ (ts, d, h). restricts_complete d h))

pub nothing_lifts : NothingLifts
nothing_lifts v w ts us d e m h = nothing_lifted d e m h

pub others_change_nothing : OthersChangeNothing
others_change_nothing v w t before after d e n = others_unchanged v w t before after d e n

pub lacking_read : LackingRead
lacking_read t = ((λ e. lacking_sound t e), (λ n. lacking_complete t n))

pub require_read : RequireRead
require_read v ts = ((λ (e, f). rw f at (require_sound v e)), (λ d. require_complete d))

pub field_read : FieldRead
field_read method m k v = ((λ e. formed_sound method k v e), (λ d. formed_complete m d))

pub method_token : MethodToken
method_token m l h e =
    let r = everything m (request l) h e in
    let s : StartShaped (request l) r.change.version = rw r.same_line at r.change.start_shaped in
    record { some = s.method_long; bytes = each_all s.method_token }

pub response_method_token : ResponseMethodToken
unfolding response_column_of
response_method_token l es c e = column_token _ (first_cseq_method es) c e

pub no_cseq_method_read : NoCSeqMethodRead
no_cseq_method_read v = ((λ e. named_none v e), (λ h. none_named v h))

pub cseq_method_read : CSeqMethodRead
cseq_method_read method v t = ((λ e. named_sound t v e), (λ d. named_complete t d))
