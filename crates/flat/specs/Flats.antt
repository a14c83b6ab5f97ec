-- A session's record as numbers: what C holds of it (include/mailindex.h). Which number means what is between the library and itself; that the numbers of a record
-- stand for that record again is what a caller needs: `phase_stands`, proofs/Flats.antt. Assumes nothing.
use Rattle.std.specs.Prelude.{Bool, false, cond, not, List, ◌∷◌, ℕ, eqb, get_or, replicate}
use Rattle.events.specs.Events.{encoding_number, result_number}
use Rattle.events.specs.declared.Encoding.{Encoding}
use Rattle.events.specs.declared.Encoding.TheVariants.{Unsaid, Bit7, Bit8, Binary, QuotedPrintable, Base64, Unrecognised}
use Rattle.events.specs.declared.Log.{Log}
use Rattle.events.specs.declared.Outcome.{Outcome}
use Rattle.events.specs.declared.Outcome.TheVariants as result
use Rattle.phases.specs.declared.Heard.{Heard}
use Rattle.phases.specs.declared.Phase.{Phase}
use Rattle.phases.specs.declared.Phase.TheVariants as is
use Rattle.rules.specs.declared.Mail.{Mail}
use Rattle.rules.specs.declared.Mail.TheVariants.{Smtp, Pop3, Imap}
use Rattle.rules.specs.declared.Settings.{Settings}
use Rattle.flat.specs.declared.Flat.{Flat}

-- ---- there

-- a phase by its number, with its mail, encoding, level, where its body began, what is left of it, two marks, and a result
abbrev pub flat : ℕ → Mail → Encoding → ℕ → ℕ → ℕ → Bool → Bool → Outcome → Flat
flat n m e i from left here supplied r =
    record { tag = n; mail = m; encoding = e; level = i; from = from; left = left; here = here; supplied = supplied; result = r }

abbrev pub plain : ℕ → ℕ → Flat
plain n left = flat n Smtp Unsaid 0 0 left false false result.Done

abbrev pub flat_of : Phase → Flat
flat_of is.Hello = plain 1 0
flat_of is.Second = plain 2 0
flat_of is.User = plain 3 0
flat_of is.Password = plain 4 0
flat_of is.Sender = plain 5 0
flat_of is.Seeking = plain 6 0
flat_of is.Recipient = plain 7 0
flat_of is.Reply = plain 8 0
flat_of is.Status = plain 9 0
flat_of is.Command = plain 10 0
flat_of (is.Offered size) = plain 11 size
flat_of is.Closing = plain 12 0
flat_of (is.Head m x i) = flat 13 m x.encoding i 0 0 x.seen x.supplied result.Done
flat_of (is.Text m e) = flat 14 m e 0 0 0 false false result.Done
flat_of (is.Literal e from left) = flat 15 Smtp e 0 from left false false result.Done
flat_of (is.Preamble m i from here) = flat 16 m Unsaid i from 0 here false result.Done
flat_of (is.Opened m i) = flat 17 m Unsaid i 0 0 false false result.Done
flat_of (is.Content m e i from here) = flat 18 m e i from 0 here false result.Done
flat_of (is.Between m i) = flat 19 m Unsaid i 0 0 false false result.Done
flat_of (is.Skipping m i) = flat 20 m Unsaid i 0 0 false false result.Done
flat_of (is.Resting m i n) = flat 21 m Unsaid i 0 n false false result.Done
flat_of (is.Over r p) = flat 22 Smtp Unsaid 0 p 0 false false r

abbrev pub bit : Bool → ℕ
bit b = cond b 1 0

-- 24 numbers, of which the last are free
abbrev pub row_by : Settings → Flat → ℕ → ℕ → ℕ → ℕ → Log → List ℕ
row_by set f kind size start at log =
    f.tag ∷ at ∷ log.count ∷ kind ∷ size ∷ start ∷ encoding_number f.encoding ∷ f.level ∷ f.from ∷ f.left ∷ bit f.here ∷ bit f.supplied
    ∷ result_number f.result ∷ bit set.strict ∷ replicate 10 0

abbrev pub row_in : Mail → Settings → Flat → ℕ → Log → List ℕ
row_in Smtp set f at log = row_by set f 0 0 0 at log
row_in Pop3 set f at log = row_by set f 1 0 0 at log
row_in (Imap size start) set f at log = row_by set f 2 size start at log

abbrev pub row : Settings → Flat → ℕ → Log → List ℕ
row set f at log = row_in f.mail set f at log

abbrev pub numbers_of : Settings → Phase → ℕ → Log → List ℕ
numbers_of set ph at log = row set (flat_of ph) at log

-- ---- and back: any numbers are some record's
abbrev pub is_set : ℕ → Bool
is_set n = not (eqb n 0)

unfoldable pub mail_of : ℕ → ℕ → ℕ → Mail
mail_of kind size start = cond (eqb kind 1) Pop3 (cond (eqb kind 2) (Imap size start) Smtp)

unfoldable pub encoding_of : ℕ → Encoding
encoding_of n =
    cond (eqb n 1) Bit7
    (cond (eqb n 2) Bit8
    (cond (eqb n 3) Binary
    (cond (eqb n 4) QuotedPrintable
    (cond (eqb n 5) Base64
    (cond (eqb n 6) Unrecognised
    Unsaid)))))

unfoldable pub outcome_of : ℕ → Outcome
outcome_of n =
    cond (eqb n 0) result.Done
    (cond (eqb n 1) result.Incomplete
    (cond (eqb n 2) result.TooLong
    (cond (eqb n 3) result.NoHello
    (cond (eqb n 4) result.StartTls
    (cond (eqb n 5) result.NoRecipient
    (cond (eqb n 6) result.BadDelimiter
    (cond (eqb n 7) result.SmallLiteral
    (cond (eqb n 8) result.OpenLiteral
    (cond (eqb n 9) result.TooDeep
    (cond (eqb n 10) result.TableFull
    (cond (eqb n 11) result.BareLf
    (cond (eqb n 12) result.LongBoundary
    result.NoSession))))))))))))

abbrev pub fields_of : List ℕ → Flat
fields_of ns =
    flat (get_or ns 0 0) (mail_of (get_or ns 3 0) (get_or ns 4 0) (get_or ns 5 0)) (encoding_of (get_or ns 6 0)) (get_or ns 7 0) (get_or ns 8 0) (get_or ns 9 0)
    (is_set (get_or ns 10 0)) (is_set (get_or ns 11 0)) (outcome_of (get_or ns 12 0))

abbrev pub heard_of : Encoding → Bool → Bool → Heard
heard_of e seen supplied = record { encoding = e; seen = seen; supplied = supplied }

-- what no phase has as its number is a session that is over because it was none
unfoldable pub phase_by : Flat → Phase
phase_by f =
    cond (eqb f.tag 1) is.Hello
    (cond (eqb f.tag 2) is.Second
    (cond (eqb f.tag 3) is.User
    (cond (eqb f.tag 4) is.Password
    (cond (eqb f.tag 5) is.Sender
    (cond (eqb f.tag 6) is.Seeking
    (cond (eqb f.tag 7) is.Recipient
    (cond (eqb f.tag 8) is.Reply
    (cond (eqb f.tag 9) is.Status
    (cond (eqb f.tag 10) is.Command
    (cond (eqb f.tag 11) (is.Offered f.left)
    (cond (eqb f.tag 12) is.Closing
    (cond (eqb f.tag 13) (is.Head f.mail (heard_of f.encoding f.here f.supplied) f.level)
    (cond (eqb f.tag 14) (is.Text f.mail f.encoding)
    (cond (eqb f.tag 15) (is.Literal f.encoding f.from f.left)
    (cond (eqb f.tag 16) (is.Preamble f.mail f.level f.from f.here)
    (cond (eqb f.tag 17) (is.Opened f.mail f.level)
    (cond (eqb f.tag 18) (is.Content f.mail f.encoding f.level f.from f.here)
    (cond (eqb f.tag 19) (is.Between f.mail f.level)
    (cond (eqb f.tag 20) (is.Skipping f.mail f.level)
    (cond (eqb f.tag 21) (is.Resting f.mail f.level f.left)
    (cond (eqb f.tag 22) (is.Over f.result f.from)
    (is.Over result.NoSession 0))))))))))))))))))))))

abbrev pub phase_of : List ℕ → Phase
phase_of ns = phase_by (fields_of ns)

-- behind the phase: how many bytes are taken, what the writer knows, and what was chosen at the start
abbrev pub taken_of : List ℕ → ℕ
taken_of ns = get_or ns 1 0

abbrev pub log_of : List ℕ → Log
log_of ns = record { count = get_or ns 2 0 }

abbrev pub settings_of : List ℕ → Settings
settings_of ns = record { strict = is_set (get_or ns 13 0) }
